-- Steps of the loops over changes.
use Rattle.std.proofs.Common.{◌≡◌, ◌<◌, ◌≤◌, ◌+◌, ℕ, List, length, take, get_or, All, refl, sym, ap, subst, ◌∙◌, inl}
use Rattle.std.proofs.Common.{inr, arith}
use Rattle.std.proofs.lemmas.List.{get_or-take, get_or_default, length-take-le, length-take, take_all}
use Rattle.std.proofs.lemmas.Option.{slice_get_read}
use Rattle.std.specs.Prelude.{Some}
use Rattle.std.specs.List.{slice_get}
use Rattle.page_types.specs.Numbers.{page_limit}
use Rattle.page_types.specs.declared.record.Change.{Change}
use Rattle.core_state.proofs.RunningOnes.{same_or_other}

length-take_at_most : (n : ℕ) (cs : List Change) → length (take n cs) ≤ n
length-take_at_most n cs = omega (arith, length-take n cs)

abbrev pub EndsAbove : ℕ → Change → Type 0
EndsAbove e c = c.page < page_limit → c.page < e

pub end_more : (cs : List Change) (i e n m : ℕ) (c : Change) → All (EndsAbove e) (take i cs) → i < length cs
    → c ≡ get_or cs i c → (c.page < page_limit → c.page < n)
    → e ≤ m → n ≤ m → All (EndsAbove m) (take (i + 1) cs)
end_more cs i e n m c all lt is above em nm k d l p =
    let short : length (take (i + 1) cs) ≤ i + 1 = length-take_at_most (i + 1) cs in
    let same : get_or (take (i + 1) cs) k d ≡ get_or cs k d = get_or-take (i + 1) cs k d (omega (arith, l, short)) in
    let small : (get_or cs k d).page < page_limit = subst (λ (x : Change). x.page < page_limit) same p in
    let there : (get_or cs k d).page < m = elim (same_or_other k i) [
      | inl f ↦
          let here : get_or cs k d ≡ c = ap (λ j. get_or cs j d) f ∙ get_or_default cs i d c lt ∙ sym is in
          let low : (get_or cs k d).page < n = subst (λ (x : Change). x.page < n) (sym here)
          (above (subst (λ (x : Change). x.page < page_limit) here small)) in
          omega (arith, low, nm)
      | inr g ↦
          let before : k < i = omega (arith, l, short, g) in
          let seen : get_or (take i cs) k d ≡ get_or cs k d = get_or-take i cs k d before in
          let low : (get_or (take i cs) k d).page < e = all k d
          (omega (arith, before, length-take-le i cs (omega (arith, lt))))
          (subst (λ (x : Change). x.page < page_limit) (sym seen) small) in
          omega (arith, low, em, ap (λ (x : Change). x.page) seen)
    ] in
    subst (λ (x : Change). x.page < m) (sym same) there

-- all of them
pub end_all : (cs : List Change) (i e : ℕ) → length cs ≤ i → All (EndsAbove e) (take i cs) → All (EndsAbove e) cs
end_all cs i e le all = subst (All (EndsAbove e)) (take_all i cs le) all

-- an element at its place
pub element_at : {A : Type 0} (xs : List A) (k : ℕ) (x : A) → k < length xs → x ≡ get_or xs k x
    → slice_get xs k ≡ Some x
element_at xs k x lt e = slice_get_read xs (length xs) k x refl lt e
