-- The positions of a lexeme stay where later ones are joined to them: the 256 least are kept.
use Rattle.std.proofs.Common.{◌≡◌, ℕ, ◌<◌, ◌≤◌, inl, inr, List, [], ◌∷◌, ◌++◌, length, take, get_or, refl, sym, ap}
use Rattle.std.proofs.Common.{subst, ◌∙◌, arith, length-append}
use Rattle.std.specs.Prelude.{All, AllPairs, Any, Contains}
use Rattle.std.proofs.lemmas.Bool.{cases_lt}
use Rattle.std.proofs.lemmas.List.{length-take, get_or-take, get_or_default, take_all}
use Rattle.std.proofs.lemmas.List.Elements.{All-contains, Contains-append_left, Contains-append_cases}
use Rattle.std.proofs.lemmas.List.Elements.{Contains-push_cases, Contains-get_or}
use Rattle.std.proofs.lemmas.List.Quantifiers.{all_pairs_push}
use Rattle.ts_base.specs.Encoding.{weight_number}
use Rattle.ts_base.specs.Vectors.{Position}
use Rattle.ts_vector.specs.Inner.Steps.{IsTop, ListsTops, SettlesTo}
use Rattle.ts_vector.proofs.Rising.{any_of, of_any, length_rising}
use Rattle.ts_vector.proofs.Merging.{all_of}
use Rattle.ts_vector.proofs.Settling.{pairs_take}

abbrev Below : Position → Position → Type 0
Below p q = p.at < q.at

below_one_way : (p q : Position) → Below p q → ¬ Below q p
below_one_way p q h k = omega arith

-- an element of the first ones
contains_take : (n : ℕ) (xs : List Position) (x : Position) → Contains (take n xs) x
    → (i : ℕ) × (i < n) × (i < length xs) × (get_or xs i x ≡ x)
contains_take n xs x (i, lt, read) = let m = length-take n xs in
    let low : i < n = omega arith in (i, low, omega arith, sym (get_or-take n xs i x low) ∙ read)

module _ (g : ℕ) (before later all : List Position) (tops : ListsTops (before ++ later) all)
    (rising : AllPairs Below before) (few : length before ≤ 256)
    (behind : All (λ q. All (λ p. q.at ≤ p.at) later) before) (p : Position) (there : Contains before p)
    (at : p.at ≡ g) where
  -- the least 256 can't all be before p
  not_full : (q : Position) (j : ℕ) → j < length all → get_or all j q ≡ q → q.at ≡ g → 256 ≤ j → ⊥
  not_full q j lt read is far =
      let xs = take 256 all in
      let n = length-take 256 all in
      let lower : (x : Position) → Contains xs x → x.at < p.at = λ x c.
      let i = contains_take 256 all x c in
      let r : Below (get_or all i.0 x) (get_or all j x) = tops.rising i.0 j x (omega (arith, i.1)) lt in
      let a : get_or all i.0 x ≡ x = i.3 in
      let b : get_or all j x ≡ q = get_or_default all j x q lt ∙ read in
      let s : x.at < q.at = subst (λ z. x.at < z.at) b (subst (λ z. z.at < (get_or all j x).at) a r) in
      omega arith
      in
      let inside : (x : Position) → Contains (xs ++ p ∷ []) x → Contains before x =
      λ x c. elim (Contains-push_cases xs p x c) [
        | inl t ↦
            let i = contains_take 256 all x t in
            let top = All-contains (IsTop (before ++ later)) all x tops.only (i.0, i.2, i.3) in
            elim (Contains-append_cases before later x top.there) [
              | inl b ↦ b
              | inr l ↦ absurd (let le : p.at ≤ x.at = All-contains (λ p'. p.at ≤ p'.at) later x (All-contains
                  (λ q. All (λ p. q.at ≤ p.at) later) before p behind there) l in let lt = lower x t in omega arith)
            ]
        | inr s ↦ subst (Contains before) s there
      ] in
      let up : AllPairs Below (xs ++ p ∷ []) = all_pairs_push Below xs p (pairs_take Below 256 all tops.rising)
      (λ k d lt. lower (get_or xs k d) (Contains-get_or xs k d lt)) in
      let m = length_rising Below below_one_way (xs ++ p ∷ []) before up rising inside in
      omega (arith, length-append xs (p ∷ []))

  pub stays : Any (λ q. q.at ≡ g) (take 256 all)
  stays =
      let f = of_any (λ q. q.at ≡ p.at) all (tops.numbers p (Contains-append_left before later p there)) in
      let q = f.0 in
      let j = f.1.0 in
      let is : q.at ≡ g = f.2 ∙ at in
      elim (cases_lt j 256) [
        | inl near ↦
            let n = length-take 256 all in
            let lt : j < length (take 256 all) = omega (arith, f.1.1) in
            any_of (λ q. q.at ≡ g) (take 256 all) q (j, lt, get_or-take 256 all j q near ∙ f.1.2) is
        | inr far ↦ absurd (not_full q j f.1.1 f.1.2 is (omega arith))
      ]

-- ── settled positions stay as they are ──
module _ (ps : List Position) (rising : AllPairs Below ps) where
  apart : (p q : Position) (i j : ℕ) → get_or ps i p ≡ p → get_or ps j q ≡ q → j < length ps → i < j → p.at < q.at
  apart p q i j a b le lt =
      let s : get_or ps j p ≡ q = get_or_default ps j p q le ∙ b in
      subst (λ z. p.at < z.at) s (subst (λ z. z.at < (get_or ps j p).at) a (rising i j p lt le))

  -- of rising positions one has the number
  one_at : (p q : Position) → Contains ps p → Contains ps q → p.at ≡ q.at → p ≡ q
  one_at p q (i, lt, a) (j, le, b) e = elim (cases_lt i j) [
    | inl l ↦ absurd (let r = apart p q i j a b le l in omega arith)
    | inr f ↦ elim (cases_lt j i) [
      | inl l ↦ absurd (let r = apart q p j i b a lt l in omega arith)
      | inr g ↦ let s : i ≡ j = omega arith in sym a ∙ get_or_default ps i p q lt ∙ ap (λ k. get_or ps k q) s ∙ b
    ]
  ]

  tops_itself : ListsTops ps ps
  tops_itself = record {
    rising = rising;
    only = all_of (IsTop ps) ps (λ p c. record {
      there = c;
      highest = λ w k. let s : p ≡ record { at = p.at; weight = w } = one_at p (record { at = p.at; weight = w }) c k
          refl in let n : weight_number p.weight ≡ weight_number w = ap (λ q. weight_number q.weight) s in omega arith;
    });
    each = λ p t. t.there;
    numbers = λ p c. any_of (λ q. q.at ≡ p.at) ps p c refl;
  }

  pub settled_itself : length ps ≤ 256 → SettlesTo ps ps
  settled_itself few = (ps, tops_itself, sym (take_all 256 ps few))
