-- The tests of reading, and what they test.
use Rattle.std.proofs.Common.{◌≡◌, ℕ, zero, suc, ◌≤◌, Bool, true, false, ◌&&◌, eqb, List, [], ◌∷◌, length, Result, Ok}
use Rattle.std.proofs.Common.{Err, refl, sym, ap, ◌∙◌, arith, inl, inr}
use Rattle.std.specs.Prelude.{nat_le, MatchResult, ◌||◌, ◌⊎◌}
use Rattle.std.specs.Result.{is_ok}
use Rattle.std.specs.Str.{IsUtf8, is_utf8}
use Rattle.std.specs.Ordering.{nat_cmp, is_lt}
use Rattle.std.specs.Cmp.Lexicographic.{slice_cmp}
use Rattle.std.specs.declared.cmp.Ordering.{Ordering}
use Rattle.std.specs.declared.cmp.Ordering.TheVariants.{Less, Equal, Greater}
use Rattle.std.proofs.lemmas.Cmp.{nat_list_cmp_total}
use Rattle.std.specs.List.{list_all}
use Rattle.std.proofs.lemmas.Bool.{leb-true, le-leb, eqb-true, eq-eqb}
use Rattle.std.proofs.lemmas.List.{nil_from_length}
use Rattle.std.proofs.lemmas.Str.{IsUtf8-from_is_utf8, is_utf8-from_IsUtf8}
use Rattle.page_types.specs.Numbers.{zeros}
use Rattle.page_types.specs.Keys.{IsKeyText, IsKey, KeyLess}
use Rattle.page_code.specs.Fields.{are_zeros, is_key_text, is_key, is_above}

pub and_parts : (a b : Bool) → (a && b) ≡ true → (a ≡ true) × (b ≡ true)
and_parts true b e = (refl, e)
and_parts false b e = absurd cc

pub and_both : (a b : Bool) → a ≡ true → b ≡ true → (a && b) ≡ true
and_both a b p q = rw (p, q) refl

-- what a test for no bytes says
pub some_from : {A : Type 0} (xs : List A) (b : Bool) → b ≡ false → b ≡ eqb (length xs) 0 → 1 ≤ length xs
some_from [] b p q = absurd (cc (p, q))
some_from (x ∷ xs) b p q = omega arith

pub none_from : {A : Type 0} (xs : List A) (b : Bool) → b ≡ true → b ≡ eqb (length xs) 0 → xs ≡ []
none_from xs b p q = nil_from_length xs (eqb-true _ _ (sym q ∙ p))

-- ---- keys

pub text_passed : (text : List ℕ) → is_key_text text ≡ true → IsKeyText text
text_passed text e =
    let a = and_parts (nat_le 1 (length text)) (nat_le (length text) 2046 && is_utf8 text) e in
    let b = and_parts (nat_le (length text) 2046) (is_utf8 text) a.1 in
    record { some = leb-true _ _ a.0; most = leb-true _ _ b.0; utf8 = IsUtf8-from_is_utf8 text b.1 }

pub text_passes : (text : List ℕ) → IsKeyText text → is_key_text text ≡ true
text_passes text h =
    rw (le-leb 1 (length text) h.some, le-leb (length text) 2046 h.most) (is_utf8-from_IsUtf8 text h.utf8)

pub key_passed : (key : List ℕ) → is_key key ≡ true → IsKey key
key_passed [] e = absurd cc
key_passed (zero ∷ text) e = text_passed text e
key_passed (suc zero ∷ rest) e = nil_from_length rest (eqb-true _ _ e)
key_passed (suc (suc b) ∷ rest) e = absurd cc

pub key_passes : (key : List ℕ) → IsKey key → is_key key ≡ true
key_passes [] h = absurd h
key_passes (zero ∷ text) h = text_passes text h
key_passes (suc zero ∷ rest) h = eq-eqb _ _ (ap length h)
key_passes (suc (suc b) ∷ rest) h = absurd h

no_text : (text : List ℕ) (b : Bool) → (IsUtf8 text → ⊥) → is_utf8 text ≡ b → b ≡ false
no_text text true h e = absurd (h (IsUtf8-from_is_utf8 text e))
no_text text false h e = refl

-- what reading a text as UTF-8 says
pub text_tested : {T E : Type 0} (P : T → Type 0) (Q : E → Type 0) (text : List ℕ) (r : Result T E) (passes : Bool)
    → MatchResult r (λ s. P s × IsUtf8 text) (λ e. (IsUtf8 text → ⊥) × Q e) → passes ≡ is_ok r → passes ≡ is_utf8 text
text_tested P Q text (Ok s) passes h is = is ∙ sym (is_utf8-from_IsUtf8 text h.1)
text_tested P Q text (Err e) passes h is = is ∙ sym (no_text text (is_utf8 text) h.0 refl)

-- what the test for UTF-8 says of a text of a lexeme's length
pub lexeme_tested : (text : List ℕ) (passes : Bool) → 1 ≤ length text → length text ≤ 2046 → passes ≡ is_utf8 text
    → passes ≡ is_key_text text
lexeme_tested text passes some most is = rw (le-leb 1 (length text) some, le-leb (length text) 2046 most) is

less_by : (o : Ordering) → is_lt o ≡ true → o ≡ Less
less_by Less e = refl
less_by Equal e = absurd cc
less_by Greater e = absurd cc

pub above_passed : (last key : List ℕ) → is_above last key ≡ true → KeyLess last key
above_passed last key e = less_by (slice_cmp nat_cmp last key) e

pub above_passes : (last key : List ℕ) → KeyLess last key → is_above last key ≡ true
above_passes last key e = ap is_lt e

-- each key is above no bytes
pub above_none : (key : List ℕ) → IsKey key → KeyLess [] key
above_none [] h = absurd h
above_none (b ∷ bs) h = refl

pub above_trans : (a b c : List ℕ) → KeyLess a b → KeyLess b c → KeyLess a c
above_trans a b c p q = nat_list_cmp_total.trans a b c p q

-- ---- zeros

pub zeros_passed : (bytes : List ℕ) → are_zeros bytes ≡ true → bytes ≡ zeros (length bytes)
unfolding zeros
zeros_passed [] e = refl
zeros_passed (b ∷ bs) e =
    let a = and_parts (eqb b 0) (list_all (λ x. eqb x 0) bs) e in
    let here : b ≡ 0 = eqb-true _ _ a.0 in
    let rest = zeros_passed bs a.1 in
    cc

pub zeros_pass : (n : ℕ) → are_zeros (zeros n) ≡ true
unfolding zeros
zeros_pass zero = refl
zeros_pass (suc n) = zeros_pass n

-- ---- either test

pub either : (a b : Bool) → (a || b) ≡ true → (a ≡ true) ⊎ (b ≡ true)
either true b e = inl refl
either false b e = inr e

pub either_left : (a b : Bool) → a ≡ true → (a || b) ≡ true
either_left a b e = rw e refl

pub either_right : (a b : Bool) → b ≡ true → (a || b) ≡ true
either_right true b e = refl
either_right false b e = e
