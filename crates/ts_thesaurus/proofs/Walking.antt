-- How answers lead through a tree.
use Rattle.std.proofs.Common.{◌≡◌, ℕ, List, [], ◌∷◌, ◌++◌, reverse, refl, sym, ◌∙◌, ap, subst, append_assoc, Option}
use Rattle.std.proofs.Common.{Some, None}
use Rattle.std.proofs.lemmas.List.{reverse-append, reverse-reverse, append-nil}
use Rattle.ts_base.specs.Dictionary.{WordAnswer, unknown_word, stop_word, word_lexemes}
use Rattle.ts_thesaurus.specs.Rules.{SampleWord, any_stop, with_lexemes, lexemes_of, Fits}
use Rattle.ts_thesaurus.specs.Inner.Tree.{stop_letter, word_letter, end_letter, Steps, Named, by_stop, by_word, by_end}
use Rattle.ts_thesaurus.specs.Inner.Walks.{then_from, behind_words, behind}
use Rattle.ts_thesaurus.proofs.Naming.{behind_stop, behind_word, behind_end, one_state}

module _ (steps : Steps) where
  pub reverse_cons : (w : List ℕ) (ws ls : List (List ℕ)) → reverse ws ++ (w ∷ ls) ≡ reverse (w ∷ ws) ++ ls
  reverse_cons w ws ls = sym (ap (λ z. z ++ ls) (reverse-append (w ∷ []) ws) ∙ append_assoc (reverse ws) (w ∷ []) ls)

  -- ── lexemes ──
  words_lead : (ws : List (List ℕ)) (s t : ℕ) (xs : List SampleWord) (ls : List (List ℕ)) → Named steps s xs ls
      → behind_words steps s ws ≡ Some t → Named steps t xs (reverse ws ++ ls)
  words_lead [] s t xs ls n e = let x : s ≡ t = cc in subst (λ z. Named steps z xs ls) x n
  words_lead (w ∷ ws) s t xs ls n e = by (steps s (word_letter w)) (λ u m g. words_lead ws u t xs (w ∷ ls) m g) refl e
    where
      by : (o : Option ℕ) → ((u : ℕ) → Named steps u xs (w ∷ ls) → behind_words steps u ws ≡ Some t
          → Named steps t xs (reverse ws ++ (w ∷ ls))) → steps s (word_letter w) ≡ o
          → then_from o (λ u. behind_words steps u ws) ≡ Some t → Named steps t xs (reverse (w ∷ ws) ++ ls)
      by None ih f g = let z : ⊥ = cc in absurd z
      by (Some u) ih f g = subst (λ z. Named steps t xs z) (reverse_cons w ws ls) (ih u (by_word s u xs ls w n f) g)

  before_more : (more ls : List (List ℕ)) (t : ℕ) (xs : List SampleWord) → Named steps t xs (more ++ ls)
      → (u : ℕ) × Named steps u xs ls
  before_more [] ls t xs n = (t, n)
  before_more (w ∷ more) ls t xs n = let b = behind_word steps t xs w (more ++ ls) n in before_more more ls b.0 xs b.1

  words_led : (ws : List (List ℕ)) (s t : ℕ) (xs : List SampleWord) (ls : List (List ℕ)) → Named steps s xs ls
      → Named steps t xs (reverse ws ++ ls) → behind_words steps s ws ≡ Some t
  words_led [] s t xs ls n m = ap Some (one_state steps xs ls s t n m)
  words_led (w ∷ ws) s t xs ls n m =
      let far = subst (λ z. Named steps t xs z) (sym (reverse_cons w ws ls)) m in
      let b = before_more (reverse ws) (w ∷ ls) t xs far in
      let c = behind_word steps b.0 xs w ls b.1 in
      let step : steps s (word_letter w) ≡ Some b.0 =
      ap (λ z. steps z (word_letter w)) (one_state steps xs ls s c.0 n c.1) ∙ c.2 in
      ap (λ o. then_from o (λ u. behind_words steps u ws)) step ∙ words_led ws b.0 t xs (w ∷ ls) b.1 far

  -- ── answers ──
  -- an answer leads to the state of a sample that fits it
  pub leads : (a : WordAnswer) (s t : ℕ) (xs : List SampleWord) → Named steps s xs [] → behind steps s a ≡ Some t
      → (x : SampleWord) × Fits x a × Named steps t (x ∷ xs) []
  leads unknown_word s t xs n e = let z : ⊥ = cc in absurd z
  leads stop_word s t xs n e = (any_stop, tt, by_stop s t xs n e)
  leads (word_lexemes found) s t xs n e = by (behind_words steps s (lexemes_of found)) refl e
    where
      by : (o : Option ℕ) → behind_words steps s (lexemes_of found) ≡ o → then_from o (λ u. steps u end_letter) ≡ Some t
          → (x : SampleWord) × Fits x (word_lexemes found) × Named steps t (x ∷ xs) []
      by None f g = let z : ⊥ = cc in absurd z
      by (Some u) f g =
          let inner : Named steps u xs (reverse (lexemes_of found)) = subst (λ z. Named steps u xs z)
          (append-nil (reverse (lexemes_of found))) (words_lead (lexemes_of found) s u xs [] n f) in (
            with_lexemes (lexemes_of found),
            refl,
            by_end u t xs (reverse (lexemes_of found)) (lexemes_of found) inner g
                (sym (reverse-reverse (lexemes_of found))),
          )

  -- and where there is such a state, the answer leads to it
  pub led : (a : WordAnswer) (x : SampleWord) (s t : ℕ) (xs : List SampleWord) → Fits x a → Named steps s xs []
      → Named steps t (x ∷ xs) [] → behind steps s a ≡ Some t
  led unknown_word any_stop s t xs f n m = absurd f
  led unknown_word (with_lexemes ms) s t xs f n m = absurd f
  led stop_word any_stop s t xs f n m =
      let b = behind_stop steps t xs m in
      ap (λ z. steps z stop_letter) (one_state steps xs [] s b.0 n b.1) ∙ b.2
  led stop_word (with_lexemes ms) s t xs f n m = absurd f
  led (word_lexemes found) any_stop s t xs f n m = absurd f
  led (word_lexemes found) (with_lexemes ms) s t xs f n m =
      let b = behind_end steps t xs ms m in
      let inner : Named steps b.0 xs (reverse (lexemes_of found) ++ []) =
      subst (λ z. Named steps b.0 xs z) (ap reverse f ∙ sym (append-nil (reverse (lexemes_of found)))) b.1 in
      ap (λ o. then_from o (λ u. steps u end_letter)) (words_led (lexemes_of found) s b.0 xs [] n inner) ∙ b.2
