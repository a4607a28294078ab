-- The names of the states of a tree.
use Rattle.std.proofs.Common.{◌≡◌, ◌≢◌, ℕ, ◌<◌, List, [], ◌∷◌, ◌++◌, reverse, refl, sym, ◌∙◌, ap, subst, arith, Option}
use Rattle.std.proofs.Common.{Some}
use Rattle.std.proofs.lemmas.List.{reverse-reverse}
use Rattle.ts_thesaurus.specs.Rules.{SampleWord, any_stop, with_lexemes}
use Rattle.ts_thesaurus.specs.Inner.Tree.{Letter, stop_letter, word_letter, end_letter, Steps, Named, tree_root}
use Rattle.ts_thesaurus.specs.Inner.Tree.{by_stop, by_word, by_end, IsTree}

one_some : (o : Option ℕ) (s t : ℕ) → o ≡ Some s → o ≡ Some t → s ≡ t
one_some o s t e f = let x : Some s ≡ Some t = sym e ∙ f in cc

module _ (steps : Steps) (size : ℕ) (tree : IsTree steps size) where
  no_root : (p : ℕ) (l : Letter) → steps p l ≢ Some 0
  no_root p l e = let r = tree.rises p 0 l e in omega arith

  -- a state has one name
  pub one_name : (s t : ℕ) (xs ys : List SampleWord) (ls ms : List (List ℕ)) → s ≡ t → Named steps s xs ls
      → Named steps t ys ms → (xs ≡ ys) × (ls ≡ ms)
  one_name _ _ _ _ _ _ same tree_root tree_root = (refl, refl)
  one_name _ _ _ _ _ _ same tree_root (by_stop q t ys m f) = absurd (no_root q stop_letter (f ∙ ap Some (sym same)))
  one_name _ _ _ _ _ _ same tree_root (by_word q t ys ms w m f) =
      absurd (no_root q (word_letter w) (f ∙ ap Some (sym same)))
  one_name _ _ _ _ _ _ same tree_root (by_end q t ys ms ns m f h) =
      absurd (no_root q end_letter (f ∙ ap Some (sym same)))
  one_name _ _ _ _ _ _ same (by_stop p s xs n e) tree_root = absurd (no_root p stop_letter (e ∙ ap Some same))
  one_name _ _ _ _ _ _ same (by_word p s xs ls w n e) tree_root = absurd (no_root p (word_letter w) (e ∙ ap Some same))
  one_name _ _ _ _ _ _ same (by_end p s xs ls ns n e h) tree_root = absurd (no_root p end_letter (e ∙ ap Some same))
  one_name _ _ _ _ _ _ same (by_stop p s xs n e) (by_stop q t ys m f) =
      let r = one_name p q xs ys [] [] (tree.from p q s stop_letter stop_letter e (f ∙ ap Some (sym same))) n m in
      (ap (λ z. any_stop ∷ z) r.0, refl)
  one_name _ _ _ _ _ _ same (by_stop p s xs n e) (by_word q t ys ms w m f) =
      let x : stop_letter ≡ word_letter w = tree.letter p q s stop_letter (word_letter w) e (f ∙ ap Some (sym same)) in
      let z : ⊥ = cc in absurd z
  one_name _ _ _ _ _ _ same (by_stop p s xs n e) (by_end q t ys ms ns m f h) =
      let x : stop_letter ≡ end_letter = tree.letter p q s stop_letter end_letter e (f ∙ ap Some (sym same)) in
      let z : ⊥ = cc in absurd z
  one_name _ _ _ _ _ _ same (by_word p s xs ls v n e) (by_stop q t ys m f) =
      let x : word_letter v ≡ stop_letter = tree.letter p q s (word_letter v) stop_letter e (f ∙ ap Some (sym same)) in
      let z : ⊥ = cc in absurd z
  one_name _ _ _ _ _ _ same (by_word p s xs ls v n e) (by_word q t ys ms w m f) =
      let r =
      one_name p q xs ys ls ms (tree.from p q s (word_letter v) (word_letter w) e (f ∙ ap Some (sym same))) n m in
      let x : word_letter v ≡ word_letter w =
      tree.letter p q s (word_letter v) (word_letter w) e (f ∙ ap Some (sym same)) in
      let word : v ≡ w = cc in
      (r.0, λ i. word i ∷ r.1 i)
  one_name _ _ _ _ _ _ same (by_word p s xs ls v n e) (by_end q t ys ms ns m f h) =
      let x : word_letter v ≡ end_letter = tree.letter p q s (word_letter v) end_letter e (f ∙ ap Some (sym same)) in
      let z : ⊥ = cc in absurd z
  one_name _ _ _ _ _ _ same (by_end p s xs ls ns n e g) (by_stop q t ys m f) =
      let x : end_letter ≡ stop_letter = tree.letter p q s end_letter stop_letter e (f ∙ ap Some (sym same)) in
      let z : ⊥ = cc in absurd z
  one_name _ _ _ _ _ _ same (by_end p s xs ls ns n e g) (by_word q t ys ms w m f) =
      let x : end_letter ≡ word_letter w = tree.letter p q s end_letter (word_letter w) e (f ∙ ap Some (sym same)) in
      let z : ⊥ = cc in absurd z
  one_name _ _ _ _ _ _ same (by_end p s xs ls ns n e g) (by_end q t ys ms os m f h) =
      let r = one_name p q xs ys ls ms (tree.from p q s end_letter end_letter e (f ∙ ap Some (sym same))) n m in
      let lexemes : ns ≡ os = g ∙ ap reverse r.1 ∙ sym h in
      (λ i. with_lexemes (lexemes i) ∷ r.0 i, refl)

  -- the number of a named state
  pub named_within : (s : ℕ) (xs : List SampleWord) (ls : List (List ℕ)) → 0 < size → Named steps s xs ls → s < size
  named_within _ _ _ some tree_root = some
  named_within _ _ _ some (by_stop p s xs n e) = tree.within p s stop_letter e
  named_within _ _ _ some (by_word p s xs ls w n e) = tree.within p s (word_letter w) e
  named_within _ _ _ some (by_end p s xs ls ms n e g) = tree.within p s end_letter e

module _ (steps : Steps) where
  -- what leads to a state
  pub behind_stop : (s : ℕ) (xs : List SampleWord) → Named steps s (any_stop ∷ xs) []
      → (p : ℕ) × Named steps p xs [] × (steps p stop_letter ≡ Some s)
  behind_stop _ _ (by_stop p s xs n e) = (p, n, e)

  pub behind_word : (s : ℕ) (xs : List SampleWord) (w : List ℕ) (ls : List (List ℕ)) → Named steps s xs (w ∷ ls)
      → (p : ℕ) × Named steps p xs ls × (steps p (word_letter w) ≡ Some s)
  behind_word _ _ _ _ (by_word p s xs ls w n e) = (p, n, e)

  pub behind_end : (s : ℕ) (xs : List SampleWord) (ms : List (List ℕ)) → Named steps s (with_lexemes ms ∷ xs) []
      → (p : ℕ) × Named steps p xs (reverse ms) × (steps p end_letter ≡ Some s)
  behind_end _ _ _ (by_end p s xs ls ms n e g) =
      (p, subst (λ z. Named steps p xs z) (sym (reverse-reverse ls) ∙ ap reverse (sym g)) n, e)

  -- a name is of one state
  pub one_state : (xs : List SampleWord) (ls : List (List ℕ)) (s t : ℕ) → Named steps s xs ls → Named steps t xs ls
      → s ≡ t
  one_state _ _ _ _ tree_root tree_root = refl
  one_state _ _ _ _ (by_stop p s xs n e) (by_stop q t _ m f) =
      one_some (steps p stop_letter) s t e (ap (λ z. steps z stop_letter) (one_state xs [] p q n m) ∙ f)
  one_state _ _ _ _ (by_word p s xs ls w n e) (by_word q t _ _ _ m f) =
      one_some (steps p (word_letter w)) s t e (ap (λ z. steps z (word_letter w)) (one_state xs ls p q n m) ∙ f)
  one_state _ _ _ _ (by_end p s xs ls ns n e g) (by_end q t _ ms _ m f h) =
      let lexemes : ms ≡ ls = sym (reverse-reverse ms) ∙ ap reverse (sym h ∙ g) ∙ reverse-reverse ls in
      one_some (steps p end_letter) s t e
      (ap (λ z. steps z end_letter) (one_state xs ls p q n (subst (λ z. Named steps q xs z) lexemes m)) ∙ f)

  -- the samples before the last
  pub before_words : (xs : List SampleWord) (ls : List (List ℕ)) (s : ℕ) → Named steps s xs ls
      → (t : ℕ) × Named steps t xs []
  before_words xs [] s n = (s, n)
  before_words xs (w ∷ ls) s n = let b = behind_word s xs w ls n in before_words xs ls b.0 b.1

  pub before_sample : (x : SampleWord) (xs : List SampleWord) (s : ℕ) → Named steps s (x ∷ xs) []
      → (t : ℕ) × Named steps t xs []
  before_sample any_stop xs s n = let b = behind_stop s xs n in (b.0, b.1)
  before_sample (with_lexemes ms) xs s n = let b = behind_end s xs ms n in before_words xs (reverse ms) b.0 b.1

  pub before_all : (more xs : List SampleWord) (s : ℕ) → Named steps s (more ++ xs) [] → (t : ℕ) × Named steps t xs []
  before_all [] xs s n = (s, n)
  before_all (x ∷ more) xs s n = let b = before_sample x (more ++ xs) s n in before_all more xs b.0 b.1
