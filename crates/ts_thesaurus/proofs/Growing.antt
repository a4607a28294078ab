-- A tree that gets one step more.
use Rattle.std.proofs.Common.{◌≡◌, ◌≢◌, ℕ, ◌<◌, ◌+◌, ◌⊎◌, inl, inr, ⊎_elim, List, [], sym, ◌∙◌, arith, Some, None}
use Rattle.ts_thesaurus.specs.Rules.{SampleWord}
use Rattle.ts_thesaurus.specs.Inner.Tree.{Letter, stop_letter, word_letter, end_letter, Steps, Named, tree_root}
use Rattle.ts_thesaurus.specs.Inner.Tree.{by_stop, by_word, by_end, IsTree, AddsStep}

module _ (old new : Steps) (size p : ℕ) (l : Letter) (adds : AddsStep old new size p l) where
  -- a step of the new tree is one of the old, or the new one
  pub step_cases : (q s : ℕ) (k : Letter) → new q k ≡ Some s → (old q k ≡ Some s) ⊎ ((q ≡ p) × (k ≡ l) × (s ≡ size))
  step_cases q s k e = by (adds.others q k)
    where
      by : (new q k ≡ old q k) ⊎ ((q ≡ p) × (k ≡ l)) → (old q k ≡ Some s) ⊎ ((q ≡ p) × (k ≡ l) × (s ≡ size))
      by (inl same) = inl (sym same ∙ e)
      by (inr (a, b)) =
          let x : Some s ≡ Some size = sym e ∙ (λ i. new (a i) (b i)) ∙ adds.added in
          let y : s ≡ size = cc in
          inr (a, b, y)

  pub step_stays : (q s : ℕ) (k : Letter) → old q k ≡ Some s → new q k ≡ Some s
  step_stays q s k e = by (adds.others q k)
    where
      by : (new q k ≡ old q k) ⊎ ((q ≡ p) × (k ≡ l)) → new q k ≡ Some s
      by (inl same) = same ∙ e
      by (inr (a, b)) = let x : Some s ≡ None = sym e ∙ (λ i. old (a i) (b i)) ∙ adds.free in let z : ⊥ = cc in absurd z

  -- names stay
  pub name_stays : (s : ℕ) (xs : List SampleWord) (ls : List (List ℕ)) → Named old s xs ls → Named new s xs ls
  name_stays _ _ _ tree_root = tree_root
  name_stays _ _ _ (by_stop q s xs n e) = by_stop q s xs (name_stays q xs [] n) (step_stays q s stop_letter e)
  name_stays _ _ _ (by_word q s xs ls w n e) =
      by_word q s xs ls w (name_stays q xs ls n) (step_stays q s (word_letter w) e)
  name_stays _ _ _ (by_end q s xs ls ms n e g) =
      by_end q s xs ls ms (name_stays q xs ls n) (step_stays q s end_letter e) g

  module _ (tree : IsTree old size) (known : p < size) where
    -- a number below the new one
    not_new : (s : ℕ) → s < size → s ≢ size
    not_new s h e = omega arith

    old_step : (q s : ℕ) (k : Letter) → s < size → new q k ≡ Some s → old q k ≡ Some s
    old_step q s k h e = ⊎_elim (λ o. o) (λ n. absurd (not_new s h n.2)) (step_cases q s k e)

    old_from : (q s : ℕ) (k : Letter) → s < size → new q k ≡ Some s → q < size
    old_from q s k h e = let r = tree.rises q s k (old_step q s k h e) in omega arith

    -- a name of an old state is an old name
    pub name_was : (s : ℕ) (xs : List SampleWord) (ls : List (List ℕ)) → s < size → Named new s xs ls
        → Named old s xs ls
    name_was _ _ _ h tree_root = tree_root
    name_was _ _ _ h (by_stop q s xs n e) =
        by_stop q s xs (name_was q xs [] (old_from q s stop_letter h e) n) (old_step q s stop_letter h e)
    name_was _ _ _ h (by_word q s xs ls w n e) =
        by_word q s xs ls w (name_was q xs ls (old_from q s (word_letter w) h e) n) (old_step q s (word_letter w) h e)
    name_was _ _ _ h (by_end q s xs ls ms n e g) =
        by_end q s xs ls ms (name_was q xs ls (old_from q s end_letter h e) n) (old_step q s end_letter h e) g

    pub tree_grows : IsTree new (size + 1)
    tree_grows = record {
      from = λ q r s k m e f. by_from q r s k m (step_cases q s k e) (step_cases r s m f);
      letter = λ q r s k m e f. by_letter q r s k m (step_cases q s k e) (step_cases r s m f);
      rises = λ q s k e. ⊎_elim (λ o. tree.rises q s k o)
          (λ n. let a = n.0 in let b = n.2 in let z : q < s = omega arith in z) (step_cases q s k e);
      within = λ q s k e. ⊎_elim (λ o. let a = tree.within q s k o in let z : s < size + 1 = omega arith in z)
          (λ n. let b = n.2 in let z : s < size + 1 = omega arith in z) (step_cases q s k e);
    }
      where
        by_from : (q r s : ℕ) (k m : Letter) → (old q k ≡ Some s) ⊎ ((q ≡ p) × (k ≡ l) × (s ≡ size))
            → (old r m ≡ Some s) ⊎ ((r ≡ p) × (m ≡ l) × (s ≡ size)) → q ≡ r
        by_from q r s k m (inl e) (inl f) = tree.from q r s k m e f
        by_from q r s k m (inl e) (inr n) = absurd (not_new s (tree.within q s k e) n.2)
        by_from q r s k m (inr n) (inl f) = absurd (not_new s (tree.within r s m f) n.2)
        by_from q r s k m (inr n) (inr o) = n.0 ∙ sym o.0

        by_letter : (q r s : ℕ) (k m : Letter) → (old q k ≡ Some s) ⊎ ((q ≡ p) × (k ≡ l) × (s ≡ size))
            → (old r m ≡ Some s) ⊎ ((r ≡ p) × (m ≡ l) × (s ≡ size)) → k ≡ m
        by_letter q r s k m (inl e) (inl f) = tree.letter q r s k m e f
        by_letter q r s k m (inl e) (inr n) = absurd (not_new s (tree.within q s k e) n.2)
        by_letter q r s k m (inr n) (inl f) = absurd (not_new s (tree.within r s m f) n.2)
        by_letter q r s k m (inr n) (inr o) = n.1 ∙ sym o.1
