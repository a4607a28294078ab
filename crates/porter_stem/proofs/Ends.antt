-- Words and suffixes whose last letters differ.
use Rattle.std.proofs.Common.{◌≡◌, ◌≢◌, ℕ, ◌+◌, ◌-◌, ◌<◌, ◌≤◌, List, length, get_or, drop, refl, sym, ap, ◌∙◌, arith}
use Rattle.std.proofs.Common.{Bool, true, false, Some}
use Rattle.std.specs.Prelude.{slice_get}
use Rattle.std.proofs.lemmas.List.{get_or-drop}
use Rattle.std.proofs.lemmas.Option.{get_or_from_slice_get, slice_get_within}
use Rattle.std.proofs.lemmas.Slice.Eq.{bytes_eq-Decides}
use Rattle.porter_stem.specs.Tables.{ends_in}
use Rattle.porter_stem.proofs.StepCases.{right_true}
use Rattle.porter_stem.proofs.Lengths.{suffix_fits}

module _ (suffix word : List ℕ) (a b : ℕ) (last : slice_get word (length word - 1) ≡ Some a)
    (ends : slice_get suffix (length suffix - 1) ≡ Some b) where
  alike : ends_in suffix word ≡ true → a ≡ b
  alike e =
      let fits : length suffix ≤ length word = suffix_fits suffix word e in
      let n = length word - length suffix in
      let same : suffix ≡ drop n word = (bytes_eq-Decides suffix (drop n word)).0 (right_true _ _ e) in
      let some : length suffix - 1 < length suffix = slice_get_within suffix (length suffix - 1) b ends in
      let at : n + (length suffix - 1) ≡ length word - 1 = omega arith in
      let theirs : get_or suffix (length suffix - 1) 0 ≡ b = get_or_from_slice_get suffix
      (length suffix - 1) b 0 ends in
      let ours : get_or word (length word - 1) 0 ≡ a = get_or_from_slice_get word (length word - 1) a 0 last in
      sym ours ∙ ap (λ k. get_or word k 0) (sym at) ∙ sym (get_or-drop n word (length suffix - 1) 0)
      ∙ ap (λ l. get_or l (length suffix - 1) 0) (sym same) ∙ theirs

  pub apart : a ≢ b → ends_in suffix word ≡ false
  apart d = by (ends_in suffix word) alike
    where
      by : (r : Bool) → (r ≡ true → a ≡ b) → r ≡ false
      by true f = absurd (d (f refl))
      by false f = refl
