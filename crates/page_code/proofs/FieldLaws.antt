-- A field that is read was encoded, and what is encoded is read.
use Rattle.std.proofs.Common.{◌≡◌, ℕ, ◌^◌, ◌<◌, ◌≤◌, Bool, true, ltb, eqb, List, [], ◌++◌, length, Ok, refl, ap, subst}
use Rattle.std.proofs.Common.{◌∙◌, append_assoc, arith, inl, inr}
use Rattle.std.specs.Prelude.{◌&&◌, ◌||◌, ◌⊎◌}
use Rattle.std.proofs.lemmas.Bool.{ltb-true, lt-ltb, eqb-true, eq-eqb}
use Rattle.std.proofs.lemmas.List.{nil_from_length}
use Rattle.page_types.specs.Numbers.{u16_bytes, u32_bytes, zeros}
use Rattle.page_types.specs.Keys.{IsKey, KeyLess}
use Rattle.page_types.specs.Encoding.{key_field}
use Rattle.page_types.specs.Fields.{◌>>=◌, number_at, bytes_at, tested}
use Rattle.page_types.proofs.Framing.{length-zeros}
use Rattle.page_types.proofs.PageTelling.{key_short}
use Rattle.page_types.proofs.FieldReading.{IsBytes, bind_ok, tested_ok, Takes, Takes-then, bytes_take, bytes_again}
use Rattle.page_types.proofs.FieldReading.{u16_takes, u32_takes, u16_again, u32_again}
use Rattle.page_code.specs.Fields.{Read, below_at, are_zeros, zeros_at, is_key, is_above, sized_at, key_at, bound_at}
use Rattle.page_code.proofs.Passing.{and_parts, and_both, key_passed, key_passes, above_passed, above_passes}
use Rattle.page_code.proofs.Passing.{zeros_passed, zeros_pass, either, either_left, either_right}

-- a test that passes
pub tested_again : {A : Type 0} (passes : Bool) (bytes : List ℕ) (x : A) → passes ≡ true → tested passes bytes x ≡ Ok x
tested_again passes bytes x e = rw e refl

pub below_takes : (limit : ℕ) (bytes : List ℕ) (x : ℕ × List ℕ) → IsBytes bytes → below_at limit bytes ≡ Ok x
    → Takes bytes (u32_bytes x.0) x.1 × (x.0 < limit)
unfolding below_at
below_takes limit bytes x fits e =
    let a = bind_ok (number_at 4 bytes) (λ n. tested (ltb n.0 limit) bytes n) x e in
    let g = tested_ok (ltb a.0.0 limit) bytes a.0 x a.2 in
    let t = u32_takes bytes a.0.0 a.0.1 fits a.1 in
    subst (λ (y : ℕ × List ℕ). Takes bytes (u32_bytes y.0) y.1 × (y.0 < limit)) g.1 (t.0, ltb-true _ _ g.0)

pub below_again : (limit n : ℕ) (rest : List ℕ) → n < limit → limit ≤ 2 ^ 32
    → below_at limit (u32_bytes n ++ rest) ≡ Ok (n, rest)
unfolding below_at
below_again limit n rest lt le =
    ap (λ (r : Read ℕ). r >>= λ y. tested (ltb y.0 limit) (u32_bytes n ++ rest) y) (u32_again n rest (omega arith))
    ∙ tested_again (ltb n limit) (u32_bytes n ++ rest) (n, rest) (lt-ltb n limit lt)

pub zeros_take : (size : ℕ) (bytes rest : List ℕ) → IsBytes bytes → zeros_at size bytes ≡ Ok rest
    → Takes bytes (zeros size) rest
unfolding zeros_at
zeros_take size bytes rest fits e =
    let a = bind_ok (bytes_at size bytes) (λ gap. tested (are_zeros gap.0) bytes gap.1) rest e in
    let g = tested_ok (are_zeros a.0.0) bytes a.0.1 rest a.2 in
    let t = bytes_take size bytes a.0.0 a.0.1 fits a.1 in
    let same : a.0.0 ≡ zeros size = zeros_passed a.0.0 g.0 ∙ ap zeros t.1 in
    subst (λ (r : List ℕ). Takes bytes (zeros size) r) g.1 (subst (λ (z : List ℕ). Takes bytes z a.0.1) same t.0)

pub zeros_again : (size : ℕ) (rest : List ℕ) → zeros_at size (zeros size ++ rest) ≡ Ok rest
unfolding zeros_at
zeros_again size rest =
    ap (λ (r : Read (List ℕ)). r >>= λ gap. tested (are_zeros gap.0) (zeros size ++ rest) gap.1)
    (bytes_again size (zeros size) rest (length-zeros size))
    ∙ tested_again (are_zeros (zeros size)) (zeros size ++ rest) rest (zeros_pass size)

pub sized_takes : (bytes : List ℕ) (x : List ℕ × List ℕ) → IsBytes bytes → sized_at bytes ≡ Ok x
    → Takes bytes (key_field x.0) x.1 × (length x.0 < 2 ^ 16)
unfolding sized_at key_field
sized_takes bytes x fits e =
    let a = bind_ok (number_at 2 bytes) (λ size. bytes_at size.0 size.1) x e in
    let t = u16_takes bytes a.0.0 a.0.1 fits a.1 in
    let b = bytes_take a.0.0 a.0.1 x.0 x.1 t.0.rest_fits a.2 in
    let size : Takes bytes (u16_bytes (length x.0)) a.0.1 = rw (b.1) t.0 in
    (Takes-then bytes (u16_bytes (length x.0)) a.0.1 x.0 x.1 size b.0, rw (b.1) t.1)

pub sized_again : (x rest : List ℕ) → length x < 2 ^ 16 → sized_at (key_field x ++ rest) ≡ Ok (x, rest)
unfolding sized_at key_field
sized_again x rest lt =
    ap sized_at (append_assoc (u16_bytes (length x)) x rest) ∙ ap (λ (r : Read ℕ). r >>= λ size. bytes_at size.0 size.1)
    (u16_again (length x) (x ++ rest) lt) ∙ bytes_again (length x) x rest refl

pub key_takes : (last bytes : List ℕ) (x : List ℕ × List ℕ) → IsBytes bytes → key_at last bytes ≡ Ok x
    → Takes bytes (key_field x.0) x.1 × (IsKey x.0 × KeyLess last x.0)
unfolding key_at
key_takes last bytes x fits e =
    let a = bind_ok (sized_at bytes) (λ key. tested (is_key key.0 && is_above last key.0) bytes key) x e in
    let g = tested_ok (is_key a.0.0 && is_above last a.0.0) bytes a.0 x a.2 in
    let both = and_parts (is_key a.0.0) (is_above last a.0.0) g.0 in
    let t = sized_takes bytes a.0 fits a.1 in
    subst (λ (y : List ℕ × List ℕ). Takes bytes (key_field y.0) y.1 × (IsKey y.0 × KeyLess last y.0)) g.1
    (t.0, (key_passed a.0.0 both.0, above_passed last a.0.0 both.1))

pub key_again : (last key rest : List ℕ) → IsKey key → KeyLess last key
    → key_at last (key_field key ++ rest) ≡ Ok (key, rest)
unfolding key_at
key_again last key rest is less =
    ap (λ (r : Read (List ℕ)). r >>= λ y. tested (is_key y.0 && is_above last y.0) (key_field key ++ rest) y)
    (sized_again key rest (key_short key is))
    ∙ tested_again (is_key key && is_above last key) (key_field key ++ rest) (key, rest)
    (and_both _ _ (key_passes key is) (above_passes last key less))

-- a key above the last, or none where it may lack
abbrev pub IsNextBound : Bool → List ℕ → List ℕ → Type 0
IsNextBound may_lack last bound = (IsKey bound × KeyLess last bound) ⊎ ((may_lack ≡ true) × (bound ≡ []))

bound_passed : (may_lack : Bool) (last bound : List ℕ) → ((is_key bound && is_above last bound)
    || (may_lack && eqb (length bound) 0)) ≡ true → IsNextBound may_lack last bound
bound_passed may_lack last bound e =
    elim (either (is_key bound && is_above last bound) (may_lack && eqb (length bound) 0) e) [
      | inl l ↦ let both = and_parts (is_key bound) (is_above last bound) l in
          inl (key_passed bound both.0, above_passed last bound both.1)
      | inr r ↦ let both = and_parts may_lack (eqb (length bound) 0) r in
          inr (both.0, nil_from_length bound (eqb-true _ _ both.1))
    ]

bound_passes : (may_lack : Bool) (last bound : List ℕ) → IsNextBound may_lack last bound
    → ((is_key bound && is_above last bound) || (may_lack && eqb (length bound) 0)) ≡ true
bound_passes may_lack last bound (inl p) = either_left (is_key bound && is_above last bound)
    (may_lack && eqb (length bound) 0) (and_both _ _ (key_passes bound p.0) (above_passes last bound p.1))
bound_passes may_lack last bound (inr p) = either_right (is_key bound && is_above last bound)
    (may_lack && eqb (length bound) 0) (and_both _ _ p.0 (eq-eqb _ _ (ap length p.1)))

bound_short : (may_lack : Bool) (last bound : List ℕ) → IsNextBound may_lack last bound → length bound < 2 ^ 16
bound_short may_lack last bound (inl p) = key_short bound p.0
bound_short may_lack last bound (inr p) = omega (arith, ap length p.1)

pub bound_takes : (may_lack : Bool) (last bytes : List ℕ) (x : List ℕ × List ℕ) → IsBytes bytes
    → bound_at may_lack last bytes ≡ Ok x → Takes bytes (key_field x.0) x.1 × IsNextBound may_lack last x.0
unfolding bound_at
bound_takes may_lack last bytes x fits e =
    let a = bind_ok (sized_at bytes)
    (λ b. tested ((is_key b.0 && is_above last b.0) || (may_lack && eqb (length b.0) 0)) bytes b) x e in
    let g = tested_ok ((is_key a.0.0 && is_above last a.0.0) || (may_lack && eqb (length a.0.0) 0)) bytes a.0 x a.2 in
    let t = sized_takes bytes a.0 fits a.1 in
    subst (λ (y : List ℕ × List ℕ). Takes bytes (key_field y.0) y.1 × IsNextBound may_lack last y.0) g.1
    (t.0, bound_passed may_lack last a.0.0 g.0)

pub bound_again : (may_lack : Bool) (last bound rest : List ℕ) → IsNextBound may_lack last bound
    → bound_at may_lack last (key_field bound ++ rest) ≡ Ok (bound, rest)
unfolding bound_at
bound_again may_lack last bound rest is =
    ap (λ (r : Read (List ℕ)). r >>= λ b. tested ((is_key b.0 && is_above last b.0) || (may_lack && eqb (length b.0) 0))
    (key_field bound ++ rest) b) (sized_again bound rest (bound_short may_lack last bound is))
    ∙ tested_again ((is_key bound && is_above last bound) || (may_lack && eqb (length bound) 0))
    (key_field bound ++ rest) (bound, rest) (bound_passes may_lack last bound is)
