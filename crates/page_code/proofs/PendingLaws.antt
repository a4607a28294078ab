-- Keys and rows that are read were encoded, and what is encoded is read.
use Rattle.std.proofs.Common.{◌≡◌, ◌≢◌, ℕ, ◌^◌, ◌<◌, ltb, List, [], ◌∷◌, ◌++◌, length, Ok, refl, ap, subst, ◌∙◌}
use Rattle.std.proofs.Common.{append_assoc, arith}
use Rattle.std.specs.List.{flat_map, AllByRecursion}
use Rattle.std.proofs.lemmas.Bool.{ltb-true, lt-ltb}
use Rattle.page_types.specs.Numbers.{u16_bytes, u32_bytes}
use Rattle.page_types.specs.Keys.{IsKey, KeyLess, Rising}
use Rattle.page_types.specs.Encoding.{key_field, row_bytes}
use Rattle.page_types.specs.Pages.{IsRow}
use Rattle.page_types.specs.Fields.{◌>>=◌, number_at, tested}
use Rattle.page_types.specs.declared.page.Row.{Row}
use Rattle.page_types.proofs.FieldReading.{IsBytes, bind_ok, tested_ok, Takes, Takes-then, u16_takes, u16_again}
use Rattle.page_code.specs.Fields.{Read, below_at, key_at}
use Rattle.page_code.specs.Bodies.{keys_at, some_at, row_at}
use Rattle.page_code.proofs.Passing.{above_none, above_trans}
use Rattle.page_code.proofs.FieldLaws.{tested_again, below_takes, below_again, key_takes, key_again}
use Rattle.page_code.proofs.Lists.{ok_is, IsReader, all_take, all_again, chain_above, above_chain}

abbrev pub IsNextKey : List ℕ → ℕ → List ℕ → Type 0
IsNextKey last k key = IsKey key × KeyLess last key

pub key_reader : IsReader (λ last _ rest. key_at last rest) key_field IsNextKey
key_reader = record {
  takes = λ last k bytes x fits e. key_takes last bytes x fits e;
  again = λ last k x rest is. key_again last x rest is.0 is.1;
}

-- each of them is above no bytes
pub all_above_none : (keys : List (List ℕ)) → AllByRecursion IsKey keys → AllByRecursion (KeyLess []) keys
all_above_none [] h = tt
all_above_none (k ∷ ks) h = (above_none k h.0, all_above_none ks h.1)

-- keys that are read
record TakesKeys (count : ℕ) (bytes : List ℕ) (keys : List (List ℕ)) (rest : List ℕ) : Type 0 where
  takes : Takes bytes (flat_map key_field keys) rest
  many : length keys ≡ count
  are_keys : AllByRecursion IsKey keys
  rising : Rising KeyLess keys

keys_take : (count : ℕ) (bytes : List ℕ) (x : List (List ℕ) × List ℕ) → IsBytes bytes → keys_at count bytes ≡ Ok x
    → TakesKeys count bytes x.0 x.1
keys_take count bytes x fits e =
    let t = all_take (λ last _ rest. key_at last rest) key_field IsNextKey
    (λ key. key) key_reader [] count bytes x fits e in
    let c = chain_above IsKey KeyLess (λ key. key) (λ a b c p q. above_trans a b c p q) [] x.0 t.fit in
    record { takes = t.takes; many = t.count; are_keys = c.0; rising = c.2 }

keys_again : (keys : List (List ℕ)) (rest : List ℕ) → AllByRecursion IsKey keys → Rising KeyLess keys
    → keys_at (length keys) (flat_map key_field keys ++ rest) ≡ Ok (keys, rest)
keys_again keys rest are rising =
    all_again (λ last _ rest. key_at last rest) key_field IsNextKey (λ key. key) key_reader [] keys rest
    (above_chain IsKey KeyLess (λ key. key) [] keys are (all_above_none keys are) rising)

some_takes : (bytes : List ℕ) (x : ℕ × List ℕ) → IsBytes bytes → some_at bytes ≡ Ok x
    → Takes bytes (u16_bytes x.0) x.1 × (0 < x.0) × (x.0 < 2 ^ 16)
unfolding some_at
some_takes bytes x fits e =
    let a = bind_ok (number_at 2 bytes) (λ n. tested (ltb 0 n.0) bytes n) x e in
    let g = tested_ok (ltb 0 a.0.0) bytes a.0 x a.2 in
    let t = u16_takes bytes a.0.0 a.0.1 fits a.1 in
    subst (λ (y : ℕ × List ℕ). Takes bytes (u16_bytes y.0) y.1 × (0 < y.0) × (y.0 < 2 ^ 16)) g.1
    (t.0, ltb-true _ _ g.0, t.1)

some_again : (n : ℕ) (rest : List ℕ) → 0 < n → n < 2 ^ 16 → some_at (u16_bytes n ++ rest) ≡ Ok (n, rest)
unfolding some_at
some_again n rest lt few =
    ap (λ (r : Read ℕ). r >>= λ n'. tested (ltb 0 n'.0) (u16_bytes n ++ rest) n') (u16_again n rest few)
    ∙ tested_again (ltb 0 n) (u16_bytes n ++ rest) (n, rest) (lt-ltb 0 n lt)

not_none : {A : Type 0} (xs : List A) → 0 < length xs → xs ≢ []
not_none [] lt = absurd (omega arith)
not_none (x ∷ xs) lt = λ e. absurd (cc e)

some_of : {A : Type 0} (xs : List A) → xs ≢ [] → 0 < length xs
some_of [] h = absurd (h refl)
some_of (x ∷ xs) h = omega arith

row_encoded : (b0 b1 b2 b3 : List ℕ) (item count : ℕ) (keys : List (List ℕ)) → Takes b0 (u32_bytes item) b1
    → item < 2147483648 → Takes b1 (u16_bytes count) b2 → 0 < count → count < 2 ^ 16 → TakesKeys count b2 keys b3
    → Takes b0 (row_bytes (record { item = item; keys = keys })) b3 × IsRow (record { item = item; keys = keys })
unfolding row_bytes
row_encoded b0 b1 b2 b3 item count keys t0 f0 t1 some few t2 =
    let counted : Takes b1 (u16_bytes (length keys)) b2 = rw (t2.many) t1 in
    let e1 = Takes-then b1 (u16_bytes (length keys)) b2 (flat_map key_field keys) b3 counted t2.takes in
    let e0 = Takes-then b0 (u32_bytes item) b1 (u16_bytes (length keys) ++ flat_map key_field keys) b3 t0 e1 in (
      e0,
      record {
        item = f0;
        some = not_none keys (omega (arith, t2.many));
        count = omega (arith, t2.many);
        keys = t2.are_keys;
        rising = t2.rising;
      },
    )

row_takes : (bytes : List ℕ) (x : Row × List ℕ) → IsBytes bytes → row_at bytes ≡ Ok x
    → Takes bytes (row_bytes x.0) x.1 × IsRow x.0
unfolding row_at
row_takes bytes x fits e =
    let i = bind_ok (below_at 2147483648 bytes)
    (λ i. some_at i.1 >>= λ n. keys_at n.0 n.1 >>= λ k. Ok (record { item = i.0; keys = k.0 }, k.1)) x e in
    let n =
    bind_ok (some_at i.0.1) (λ n. keys_at n.0 n.1 >>= λ k. Ok (record { item = i.0.0; keys = k.0 }, k.1)) x i.2 in
    let k = bind_ok (keys_at n.0.0 n.0.1) (λ k. Ok (record { item = i.0.0; keys = k.0 }, k.1)) x n.2 in
    let t0 = below_takes 2147483648 bytes i.0 fits i.1 in
    let t1 = some_takes i.0.1 n.0 t0.0.rest_fits n.1 in
    let t2 = keys_take n.0.0 n.0.1 k.0 t1.0.rest_fits k.1 in
    let made : Row × List ℕ = (record { item = i.0.0; keys = k.0.0 }, k.0.1) in
    subst (λ (y : Row × List ℕ). Takes bytes (row_bytes y.0) y.1 × IsRow y.0) (ok_is made x k.2)
    (row_encoded bytes i.0.1 n.0.1 k.0.1 i.0.0 n.0.0 k.0.0 t0.0 t0.1 t1.0 t1.1 t1.2 t2)

three : (a b c t : List ℕ) → (a ++ (b ++ c)) ++ t ≡ a ++ (b ++ (c ++ t))
three a b c t = simp append_assoc

row_again : (r : Row) (rest : List ℕ) → IsRow r → row_at (row_bytes r ++ rest) ≡ Ok (r, rest)
unfolding row_at row_bytes
row_again r rest is =
    ap row_at (three (u32_bytes r.item) (u16_bytes (length r.keys)) (flat_map key_field r.keys) rest)
    ∙ rw (
      below_again 2147483648 r.item (u16_bytes (length r.keys) ++ (flat_map key_field r.keys ++ rest)) is.item
          (omega arith),
      some_again (length r.keys) (flat_map key_field r.keys ++ rest) (some_of r.keys is.some) is.count,
    ) (ap (λ (t : Read (List (List ℕ))). t >>= λ k. Ok (record { item = r.item; keys = k.0 }, k.1))
    (keys_again r.keys rest is.keys is.rising))

pub row_reader : IsReader (λ (_ : ℕ) _ rest. row_at rest) row_bytes (λ _ _ r. IsRow r)
row_reader = record {
  takes = λ last k bytes x fits e. row_takes bytes x fits e;
  again = λ last k x rest is. row_again x rest is;
}
