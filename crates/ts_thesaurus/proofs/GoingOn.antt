-- Whether a rule goes on with answers, by the tree.
use Rattle.std.proofs.Common.{◌≡◌, ℕ, List, [], ◌∷◌, ◌++◌, reverse, refl, sym, ◌∙◌, ap, subst, append_assoc, Option}
use Rattle.std.proofs.Common.{Some, None}
use Rattle.std.specs.List.{slice_get}
use Rattle.std.proofs.lemmas.List.{reverse-append, reverse-reverse, append-nil}
use Rattle.ts_base.specs.Dictionary.{WordAnswer}
use Rattle.ts_thesaurus.specs.Rules.{SampleWord, Rule, FitsAll, Continues}
use Rattle.ts_thesaurus.specs.Inner.Tree.{Steps, Named, tree_root, BeginsSome, IsTreeOf}
use Rattle.ts_thesaurus.specs.Inner.Walks.{then_from, behind, behind_all}
use Rattle.ts_thesaurus.proofs.Naming.{before_all}
use Rattle.ts_thesaurus.proofs.Walking.{leads, led}
use Rattle.ts_thesaurus.proofs.Finding.{FitEach, each_more, reverse_more}

-- samples that fit all answers go on with those after them
each_all : (zs more : List SampleWord) (left : List WordAnswer) → FitEach zs left → FitsAll (zs ++ more) left
each_all [] [] [] f = tt
each_all [] (x ∷ more) [] f = tt
each_all [] more (a ∷ left) f = absurd f
each_all (z ∷ zs) more [] f = absurd f
each_all (z ∷ zs) more (a ∷ left) f = (f.0, each_all zs more left f.1)

none_left : (samples : List SampleWord) → FitsAll samples []
none_left [] = tt
none_left (x ∷ samples) = tt

module _ (rules : List Rule) (steps : Steps) (size : ℕ) (last : ℕ → Option ℕ) (t : IsTreeOf rules steps size last) where
  all_lead : (left done : List WordAnswer) (zs : List SampleWord) (s u : ℕ) → FitEach zs done
      → Named steps s (reverse zs) [] → behind_all steps s left ≡ Some u
      → (ys : List SampleWord) × FitEach ys (done ++ left) × Named steps u (reverse ys) []
  all_lead [] done zs s u f n e = let x : s ≡ u = cc in
      (zs, subst (FitEach zs) (sym (append-nil done)) f, subst (λ z. Named steps z (reverse zs) []) x n)
  all_lead (a ∷ left) done zs s u f n e =
      by (behind steps s a) (λ v xs g m h. all_lead left (done ++ a ∷ []) xs v u g m h) refl e
    where
      Led : List WordAnswer → Type 0
      Led all = (ys : List SampleWord) × FitEach ys all × Named steps u (reverse ys) []

      by : (o : Option ℕ) → ((v : ℕ) (xs : List SampleWord) → FitEach xs (done ++ a ∷ [])
          → Named steps v (reverse xs) [] → behind_all steps v left ≡ Some u → Led ((done ++ a ∷ []) ++ left))
          → behind steps s a ≡ o → then_from o (λ v. behind_all steps v left) ≡ Some u → Led (done ++ a ∷ left)
      by None ih g h = let z : ⊥ = cc in absurd z
      by (Some v) ih g h =
          let x = leads steps a s v (reverse zs) n g in
          subst Led (append_assoc done (a ∷ []) left)
          (ih v (zs ++ x.0 ∷ []) (each_more zs done x.0 a f x.1)
          (subst (λ z. Named steps v z []) (sym (reverse_more zs x.0)) x.2) h)

  all_led : (left : List WordAnswer) (zs more : List SampleWord) (s k : ℕ) (rule : Rule) → Named steps s (reverse zs) []
      → slice_get rules k ≡ Some rule → rule.samples ≡ zs ++ more → FitsAll more left
      → (u : ℕ) × (behind_all steps s left ≡ Some u)
  all_led [] zs more s k rule n at e f = (s, refl)
  all_led (a ∷ left) zs [] s k rule n at e f = absurd f
  all_led (a ∷ left) zs (x ∷ more) s k rule n at e f =
      let whole = t.each k rule at in
      let parts : rule.samples ≡ (zs ++ x ∷ []) ++ more = e ∙ sym (append_assoc zs (x ∷ []) more) in
      let same : reverse rule.samples ≡ reverse more ++ (x ∷ reverse zs) =
      ap reverse parts ∙ reverse-append (zs ++ x ∷ []) more ∙ ap (λ z. reverse more ++ z) (reverse_more zs x) in
      let b = before_all steps (reverse more) (x ∷ reverse zs) whole.0
      (subst (λ z. Named steps whole.0 z []) same whole.1) in
      let step = led steps a x s b.0 (reverse zs) f.0 n b.1 in
      let r = all_led left (zs ++ x ∷ []) more b.0 k rule
      (subst (λ z. Named steps b.0 z []) (sym (reverse_more zs x)) b.1) at parts f.1 in
      (r.0, ap (λ o. then_from o (λ v. behind_all steps v left)) step ∙ r.1)

  -- where a rule goes on with the answers, they lead to a state
  pub led_where : (left : List WordAnswer) → Continues rules left → (u : ℕ) × (behind_all steps 0 left ≡ Some u)
  led_where left c = all_led left [] c.rule.samples 0 c.place c.rule tree_root c.there refl c.fits

  begun : (ys : List SampleWord) (a : WordAnswer) (left : List WordAnswer) (u : ℕ) → FitEach ys (a ∷ left)
      → Named steps u (reverse ys) [] → BeginsSome rules (reverse ys)
  begun ys a left u f n = by (reverse ys) refl n
    where
      by : (xs : List SampleWord) → reverse ys ≡ xs → Named steps u xs [] → BeginsSome rules xs
      by [] e m = let none : ys ≡ [] = sym (reverse-reverse ys) ∙ ap reverse e in
          absurd (subst (λ z. FitEach z (a ∷ left)) none f)
      by (x ∷ xs) e m = t.only u x xs m

  -- and where they lead to one, a rule goes on with them, if there is a rule
  pub continues_where : (left : List WordAnswer) (k u : ℕ) (rule : Rule) → slice_get rules k ≡ Some rule
      → behind_all steps 0 left ≡ Some u → Continues rules left
  continues_where [] k u rule at e = record { place = k; rule = rule; there = at; fits = none_left rule.samples }
  continues_where (a ∷ left) k u rule at e =
      let r = all_lead (a ∷ left) [] [] 0 u tt tree_root e in
      let b = begun r.0 a left u r.1 r.2 in
      let samples : b.1.samples ≡ r.0 ++ reverse b.2 =
      sym (reverse-reverse b.1.samples) ∙ ap reverse b.4 ∙ reverse-append b.2 (reverse r.0)
      ∙ ap (λ z. z ++ reverse b.2) (reverse-reverse r.0) in
      record {
        place = b.0;
        rule = b.1;
        there = b.3;
        fits = subst (λ z. FitsAll z (a ∷ left)) (sym samples) (each_all r.0 (reverse b.2) (a ∷ left) r.1);
      }
