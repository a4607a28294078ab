-- A list of positions that has no room for others.
use Rattle.std.proofs.Common.{◌≡◌, ℕ, ◌-◌, ◌<◌, ◌≤◌, ◌⊎◌, inl, inr, List, [], ◌∷◌, ◌++◌, length, get_or, refl, sym, ap}
use Rattle.std.proofs.Common.{◌∙◌, arith}
use Rattle.std.specs.Prelude.{AllPairs, Contains}
use Rattle.std.specs.List.{dedup}
use Rattle.std.specs.List.Sorted.{IsPermutation}
use Rattle.std.proofs.lemmas.Bool.{cases_lt}
use Rattle.std.proofs.lemmas.List.{take-append-le, take_all, get_or_default}
use Rattle.std.proofs.lemmas.List.Elements.{All-cons, All-append, All-contains, Contains-append_left}
use Rattle.std.proofs.lemmas.List.Elements.{Contains-append_right, Contains-append_cases}
use Rattle.std.proofs.lemmas.List.Kept.{AllPairs-cons}
use Rattle.std.proofs.lemmas.List.Sorted.{IsPermutation-refl, IsPermutation-cons, IsPermutation-trans}
use Rattle.std.proofs.lemmas.List.Sorted.{IsPermutation-append_left, IsPermutation-to_front, All-permutation}
use Rattle.ts_base.specs.Vectors.{Position, Vector, IsEntry, IsNormal}
use Rattle.ts_base.specs.Encoding.{weight_number}
use Rattle.ts_vector.specs.Inner.Columns.{entry}
use Rattle.ts_vector.specs.Inner.Gathered.{IsHeld, IsFull, Puts}
use Rattle.ts_vector.specs.Inner.Steps.{Falls, IsTop, ListsTops, SettlesTo}
use Rattle.ts_vector.proofs.Merging.{all_of}
use Rattle.ts_vector.proofs.Rising.{contains_head, contains_later, any_of, of_any, pairs_head, pairs_tail}
use Rattle.ts_vector.proofs.SameBytes.{same_or_other}
use Rattle.ts_vector.proofs.Settling.{rising_one}
use Rattle.ts_vector.proofs.Tops.{same_number, tops, tops_permuted}

-- ── each list can be sorted ──
falls_either : (p q : Position) → Falls p q ⊎ Falls q p
falls_either p q = elim (cases_lt p.at q.at) [
  | inl lt ↦ inl (inl lt)
  | inr le ↦ elim (cases_lt q.at p.at) [
    | inl lt ↦ inr (inl lt)
    | inr ge ↦ elim (cases_lt (weight_number p.weight) (weight_number q.weight)) [
      | inl lt ↦ inr (inr (omega arith, omega arith))
      | inr most ↦ inl (inr (omega arith, most))
    ]
  ]
]

falls_through : (p q r : Position) → Falls p q → Falls q r → Falls p r
falls_through p q r (inl a) (inl b) = inl (omega arith)
falls_through p q r (inl a) (inr b) = inl (omega (arith, b.0))
falls_through p q r (inr a) (inl b) = inl (omega (arith, a.0))
falls_through p q r (inr a) (inr b) = inr (a.0 ∙ b.0, omega (arith, a.1, b.1))

abbrev Sorted : List Position → Type 0
Sorted ps = (ys : List Position) × IsPermutation ps ys × AllPairs Falls ys

sort_in : (p : Position) (xs : List Position) → AllPairs Falls xs → Sorted (p ∷ xs)
sort_in p [] up = (p ∷ [], IsPermutation-refl (p ∷ []), λ i j d lt le. absurd (omega arith))
sort_in p (x ∷ xs) up = elim (falls_either p x) [
  | inl first ↦ (
    p ∷ x ∷ xs,
    IsPermutation-refl (p ∷ x ∷ xs),
    AllPairs-cons Falls p (x ∷ xs) (All-cons (Falls p) x xs first (all_of (Falls p) xs
        (λ y c. falls_through p x y first (All-contains (Falls x) xs y (pairs_head Falls x xs up) c)))) up,
  )
  | inr later ↦
      let rest = sort_in p xs (pairs_tail Falls x xs up) in (
        x ∷ rest.0,
        IsPermutation-trans (p ∷ x ∷ xs) (x ∷ p ∷ xs) (x ∷ rest.0) (swapped p x xs)
            (IsPermutation-cons x (p ∷ xs) rest.0 rest.1),
        AllPairs-cons Falls x rest.0 (All-permutation (Falls x) (p ∷ xs) rest.0 rest.1
            (All-cons (Falls x) p xs later (pairs_head Falls x xs up))) rest.2,
      )
]
  where
    swapped : (a b : Position) (l : List Position) → IsPermutation (a ∷ b ∷ l) (b ∷ a ∷ l)
    swapped a b l = IsPermutation-append_left l (a ∷ b ∷ []) (b ∷ a ∷ []) (IsPermutation-to_front (a ∷ []) b)

sorted_of : (ps : List Position) → Sorted ps
sorted_of [] = ([], IsPermutation-refl [], λ i j d lt le. absurd (omega arith))
sorted_of (p ∷ ps) =
    let s = sorted_of ps in
    let t = sort_in p s.0 s.2 in
    (t.0, IsPermutation-trans (p ∷ ps) (p ∷ s.0) t.0 (IsPermutation-cons p ps s.0 s.1) t.1, t.2)

-- ── nothing is added to a full list ──
abbrev Rises : Position → Position → Type 0
Rises p q = p.at < q.at

one_number : (ps : List Position) (p q : Position) → AllPairs Rises ps → Contains ps p → Contains ps q → p.at ≡ q.at
    → p ≡ q
one_number ps p q up (i, lt, e) (j, le, f) same =
    let at : (k : ℕ) (x : Position) → k < length ps → get_or ps k x ≡ get_or ps k p =
    λ k x h. get_or_default ps k x p h in
    elim (cases_lt i j) [
      | inl less ↦
          let r : (get_or ps i p).at < (get_or ps j p).at = up i j p less le in
          let a = ap (λ (x : Position). x.at) e in
          let b = ap (λ (x : Position). x.at) (sym (at j q le) ∙ f) in
          absurd (omega arith)
      | inr most ↦ elim (cases_lt j i) [
        | inl less ↦
            let r : (get_or ps j p).at < (get_or ps i p).at = up j i p less lt in
            let a = ap (λ (x : Position). x.at) e in
            let b = ap (λ (x : Position). x.at) (sym (at j q le) ∙ f) in
            absurd (omega arith)
        | inr least ↦ let k : i ≡ j = omega arith in sym e ∙ ap (λ n. get_or ps n p) k ∙ sym (at j q le) ∙ f
      ]
    ]

pairs_both : (R : Position → Position → Type 0) (xs ys : List Position) → AllPairs R xs → AllPairs R ys
    → ((x y : Position) → Contains xs x → Contains ys y → R x y) → AllPairs R (xs ++ ys)
pairs_both R [] ys up on across = on
pairs_both R (x ∷ xs) ys up on across =
    AllPairs-cons R x (xs ++ ys)
    (All-append (R x) xs ys (pairs_head R x xs up) (all_of (R x) ys (λ y c. across x y (contains_head x xs) c)))
    (pairs_both R xs ys (pairs_tail R x xs up) on (λ a b c k. across a b (contains_later x a xs c) k))

module _ (before ps all : List Position) (up : AllPairs Rises before)
    (lower : (q p : Position) → Contains before q → Contains ps p → q.at < p.at) (h : ListsTops ps all) where
  top_before : (q : Position) → Contains before q → IsTop (before ++ ps) q
  top_before q c = record {
    there = Contains-append_left before ps q c;
    highest = λ w k.
        let r : Position = record { at = q.at; weight = w } in
        elim (Contains-append_cases before ps r k) [
          | inl a ↦ let e = ap (λ (x : Position). weight_number x.weight) (one_number before r q up a c refl) in
              omega (arith, e)
          | inr b ↦ let lt : q.at < q.at = lower q r c b in absurd (omega arith)
        ];
  }

  top_behind : (p : Position) → Contains all p → IsTop (before ++ ps) p
  top_behind p c =
      let t = All-contains (IsTop ps) all p h.only c in
      record {
        there = Contains-append_right before ps p t.there;
        highest = λ w k.
            let r : Position = record { at = p.at; weight = w } in
            elim (Contains-append_cases before ps r k) [
              | inl a ↦ let lt : p.at < p.at = lower r p a t.there in absurd (omega arith)
              | inr b ↦ t.highest w b
            ];
      }

  both_tops : ListsTops (before ++ ps) (before ++ all)
  both_tops = record {
    rising =
        pairs_both Rises before all up h.rising (λ q p c k. lower q p c (All-contains (IsTop ps) all p h.only k).there);
    only = All-append (IsTop (before ++ ps)) before all (all_of (IsTop (before ++ ps)) before top_before)
        (all_of (IsTop (before ++ ps)) all top_behind);
    each = λ p t. elim (Contains-append_cases before ps p t.there) [
      | inl a ↦ Contains-append_left before all p a
      | inr b ↦ Contains-append_right before all p (h.each p (record {
        there = b;
        highest = λ w k. t.highest w (Contains-append_right before ps (record { at = p.at; weight = w }) k);
      }))
    ];
    numbers = λ p c. elim (Contains-append_cases before ps p c) [
      | inl a ↦ any_of (λ q. q.at ≡ p.at) (before ++ all) p (Contains-append_left before all p a) refl
      | inr b ↦ let x = of_any (λ q. q.at ≡ p.at) all (h.numbers p b) in
          any_of (λ q. q.at ≡ p.at) (before ++ all) x.0 (Contains-append_right before all x.0 x.1) x.2
    ];
  }

full_lower : (before ps : List Position) → AllPairs Rises before → IsFull before ps → (q p : Position)
    → Contains before q → Contains ps p → q.at < p.at
full_lower before ps up full q p (i, lt, e) c =
    let last = All-contains (λ p. (get_or before (length before - 1) q).at < p.at) ps p (full.behind q) c in
    let a = ap (λ (x : Position). x.at) e in
    elim (cases_lt i (length before - 1)) [
      | inl less ↦ let r : (get_or before i q).at < (get_or before (length before - 1) q).at =
          up i (length before - 1) q less (omega arith) in omega arith
      | inr most ↦
          let k : i ≡ length before - 1 = omega arith in
          let b = ap (λ n. (get_or before n q).at) k in
          omega arith
    ]

full_settles : (before ps : List Position) → AllPairs Rises before → length before ≤ 256 → IsFull before ps
    → SettlesTo (before ++ ps) before
full_settles before ps up few full =
    let s = sorted_of ps in
    let all = dedup same_number s.0 in
    let h = tops_permuted ps s.0 all s.1 (tops s.0 s.2) in
    let long = full.long in (
      before ++ all,
      both_tops before ps all up (full_lower before ps up full) h,
      sym (take-append-le 256 before all (omega arith) ∙ take_all 256 before few),
    )

-- so the entries stay as they are
pub kept : (v : Vector) (l : List ℕ) (before ps : List Position) (n : ℕ) → IsNormal v → IsHeld v l before n
    → IsFull before ps → Puts v (entry l ps) v
kept v l before ps n normal (inl (there, size)) full =
    let e = All-contains IsEntry v (entry l before) normal.entries there in
    record {
      put = entry l before;
      before = before;
      at = inl there;
      lexeme = refl;
      positions = full_settles before ps e.rising e.few full;
      rising = normal.rising;
      there = there;
      from = λ x c. elim (same_or_other x.lexeme l) [
        | inl s ↦ inl (rising_one v x (entry l before) normal.rising c there s)
        | inr o ↦ inr (o, c)
      ];
      to = λ x c. inr c;
      size = omega arith;
    }
kept v l before ps n normal (inr (free, none, size)) full =
    let k = ap length none in let m = full.long in absurd (omega arith)
