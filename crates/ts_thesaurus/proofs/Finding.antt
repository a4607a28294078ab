-- What is found in the tree of a list of rules.
use Rattle.std.proofs.Common.{◌≡◌, ℕ, ◌<◌, ◌≤◌, ◌⊎◌, inl, inr, ⊎_elim, List, [], ◌∷◌, ◌++◌, length, reverse, refl, sym}
use Rattle.std.proofs.Common.{◌∙◌, ap, subst, arith, append_assoc, Option, Some, None, suc}
use Rattle.std.specs.List.{slice_get}
use Rattle.std.proofs.lemmas.List.{reverse-append, reverse-reverse, length-append, append-nil}
use Rattle.ts_base.specs.Dictionary.{WordAnswer}
use Rattle.ts_thesaurus.specs.Rules.{SampleWord, Rule, Fits, FitsFirst}
use Rattle.ts_thesaurus.specs.Inner.Tree.{Steps, Named, IsLastWith, IsTreeOf}
use Rattle.ts_thesaurus.specs.Inner.Walks.{behind, newer, or_from, best_on, IsBestUpTo}
use Rattle.ts_thesaurus.proofs.Naming.{before_all}
use Rattle.ts_thesaurus.proofs.Walking.{leads, led}
use Rattle.ts_thesaurus.proofs.Readings.{one_fits, one_sample}

-- each sample fits an answer, and none is left on either side
abbrev pub FitEach : List SampleWord → List WordAnswer → Type 0
FitEach [] [] = Unit {0}
FitEach [] (a ∷ left) = ⊥
FitEach (z ∷ zs) [] = ⊥
FitEach (z ∷ zs) (a ∷ left) = Fits z a × FitEach zs left

each_first : (zs : List SampleWord) (done left : List WordAnswer) → FitEach zs done → FitsFirst zs (done ++ left)
each_first [] done left f = tt
each_first (z ∷ zs) [] left f = absurd f
each_first (z ∷ zs) (a ∷ done) left f = (f.0, each_first zs done left f.1)

pub each_more : (zs : List SampleWord) (done : List WordAnswer) (x : SampleWord) (a : WordAnswer) → FitEach zs done
    → Fits x a → FitEach (zs ++ x ∷ []) (done ++ a ∷ [])
each_more [] [] x a f g = (g, tt)
each_more [] (b ∷ done) x a f g = absurd f
each_more (z ∷ zs) [] x a f g = absurd f
each_more (z ∷ zs) (b ∷ done) x a f g = (f.0, each_more zs done x a f.1 g)

-- samples that fit go on after those of the answers that are done
first_split : (zs : List SampleWord) (done left : List WordAnswer) (samples : List SampleWord) → FitEach zs done
    → FitsFirst samples (done ++ left) → length zs ≤ length samples
    → (more : List SampleWord) × (samples ≡ zs ++ more) × FitsFirst more left
first_split [] [] left samples f g h = (samples, refl, g)
first_split [] (a ∷ done) left samples f g h = absurd f
first_split (z ∷ zs) [] left samples f g h = absurd f
first_split (z ∷ zs) (a ∷ done) left [] f g h = absurd (omega arith)
first_split (z ∷ zs) (a ∷ done) left (x ∷ samples) f g h =
    let head : x ≡ z = one_sample a x z g.0 f.0 in
    let rest = first_split zs done left samples f.1 g.1 (omega arith) in
    (rest.0, (λ i. head i ∷ rest.1 i), rest.2)

each_length : (zs : List SampleWord) (done : List WordAnswer) → FitEach zs done → length zs ≡ length done
each_length [] [] f = refl
each_length [] (a ∷ done) f = absurd f
each_length (z ∷ zs) [] f = absurd f
each_length (z ∷ zs) (a ∷ done) f = ap (λ n. suc n) (each_length zs done f.1)

first_length : (samples : List SampleWord) (left : List WordAnswer) → FitsFirst samples left
    → length samples ≤ length left
first_length [] left f = omega arith
first_length (x ∷ samples) [] f = absurd f
first_length (x ∷ samples) (a ∷ left) f = let r = first_length samples left f.1 in omega arith

pub reverse_more : (zs : List SampleWord) (x : SampleWord) → reverse (zs ++ x ∷ []) ≡ x ∷ reverse zs
reverse_more zs x = reverse-append zs (x ∷ [])

reverse_is : (zs ys : List SampleWord) → reverse ys ≡ reverse zs → ys ≡ zs
reverse_is zs ys e = sym (reverse-reverse ys) ∙ ap reverse e ∙ reverse-reverse zs

module _ (rules : List Rule) (steps : Steps) (size : ℕ) (last : ℕ → Option ℕ) (t : IsTreeOf rules steps size last) where
  -- a rule that fits one answer more has a state there
  rule_leads : (done left : List WordAnswer) (a : WordAnswer) (zs : List SampleWord) (s k : ℕ) (rule : Rule)
      → FitEach zs done → Named steps s (reverse zs) []
      → slice_get rules k ≡ Some rule → FitsFirst rule.samples (done ++ a ∷ left) → length zs < length rule.samples
      → (u : ℕ) × (behind steps s a ≡ Some u)
  rule_leads done left a zs s k rule f n at fits long =
      by (first_split zs done (a ∷ left) rule.samples f fits (omega arith))
    where
      by : (more : List SampleWord) × (rule.samples ≡ zs ++ more) × FitsFirst more (a ∷ left)
          → (u : ℕ) × (behind steps s a ≡ Some u)
      by ([], e, g) = let l : length rule.samples ≡ length zs = ap length (e ∙ append-nil zs) in absurd (omega arith)
      by (x ∷ more, e, g) =
          let whole = t.each k rule at in
          let same : reverse rule.samples ≡ reverse more ++ (x ∷ reverse zs) =
          ap reverse (e ∙ sym (append_assoc zs (x ∷ []) more)) ∙ reverse-append (zs ++ x ∷ []) more
          ∙ ap (λ z. reverse more ++ z) (reverse_more zs x) in
          let b = before_all steps (reverse more) (x ∷ reverse zs) whole.0
          (subst (λ z. Named steps whole.0 z []) same whole.1) in
          (b.0, led steps a x s b.0 (reverse zs) g.0 n b.1)

  -- the best of the longer rules is that which ends at the state, if one does
  best_more : (answers : List WordAnswer) (zs : List SampleWord) (x : SampleWord) (best o : Option ℕ)
      → FitsFirst (zs ++ x ∷ []) answers → IsLastWith rules (x ∷ reverse zs) o
      → IsBestUpTo rules answers (length zs) best → IsBestUpTo rules answers (length (zs ++ x ∷ [])) (newer o best)
  best_more answers zs x best (Some k) fits (rule, at, same, most) before =
      let is : rule.samples ≡ zs ++ x ∷ [] =
      reverse_is (zs ++ x ∷ []) rule.samples (same ∙ sym (reverse_more zs x)) in (
        rule,
        at,
        subst (λ z. FitsFirst z answers) (sym is) fits,
        λ j other e le g. by j other e (subst (λ z. length other.samples ≤ length z) (sym is) le) g
            (length_cases other.samples rule.samples (subst (λ z. length other.samples ≤ length z) (sym is) le)) is,
      )
    where
      length_cases : (a b : List SampleWord) → length a ≤ length b → (length a < length b) ⊎ (length a ≡ length b)
      length_cases a b h = grind arith

      by : (j : ℕ) (other : Rule) → slice_get rules j ≡ Some other → length other.samples ≤ length rule.samples
          → FitsFirst other.samples answers
          → (length other.samples < length rule.samples) ⊎ (length other.samples ≡ length rule.samples)
          → rule.samples ≡ zs ++ x ∷ []
          → (length other.samples < length rule.samples) ⊎ ((length other.samples ≡ length rule.samples) × (j ≤ k))
      by j other e le g (inl h) is = inl h
      by j other e le g (inr h) is =
          let same = one_fits answers other.samples (zs ++ x ∷ []) g fits (h ∙ ap length is) in
          inr (h, most j other e (ap reverse same ∙ reverse_more zs x))
  best_more answers zs x None None fits none before =
      λ k rule e le g. ⊎_elim (λ h. before k rule e h g)
      (λ h. none k rule e (ap reverse (one_fits answers rule.samples (zs ++ x ∷ []) g fits h) ∙ reverse_more zs x))
      (shorter rule.samples le)
    where
      shorter : (a : List SampleWord) → length a ≤ length (zs ++ x ∷ [])
          → (length a ≤ length zs) ⊎ (length a ≡ length (zs ++ x ∷ []))
      shorter a h = let l = length-append zs (x ∷ []) in grind arith
  best_more answers zs x (Some place) None fits none (rule, at, suits, most) = (
    rule,
    at,
    suits,
    λ k other e le g. ⊎_elim (λ h. most k other e h g) (λ h. absurd
        (none k other e (ap reverse (one_fits answers other.samples (zs ++ x ∷ []) g fits h) ∙ reverse_more zs x)))
        (shorter other.samples le),
  )
    where
      shorter : (a : List SampleWord) → length a ≤ length (zs ++ x ∷ [])
          → (length a ≤ length zs) ⊎ (length a ≡ length (zs ++ x ∷ []))
      shorter a h = let l = length-append zs (x ∷ []) in grind arith

  -- no rule that fits is longer
  best_whole : (answers : List WordAnswer) (n m : ℕ) (best : Option ℕ) → ((k : ℕ) (rule : Rule)
      → slice_get rules k ≡ Some rule → FitsFirst rule.samples answers → length rule.samples ≤ n)
      → IsBestUpTo rules answers n best → IsBestUpTo rules answers m best
  best_whole answers n m None all b = λ k rule e le g. b k rule e (all k rule e g) g
  best_whole answers n m (Some place) all (rule, at, suits, most) =
      (rule, at, suits, λ k other e le g. most k other e (all k other e g) g)

  pub best_found : (left done : List WordAnswer) (zs : List SampleWord) (s m : ℕ) (best : Option ℕ) → FitEach zs done
      → Named steps s (reverse zs) []
      → IsBestUpTo rules (done ++ left) (length zs) best
      → IsBestUpTo rules (done ++ left) m (best_on steps last s best left)
  best_found [] done zs s m best f n b =
      best_whole (done ++ []) (length zs) m best
      (λ k rule e g. let l = first_length rule.samples (done ++ []) g in let d = ap length (append-nil done) in
      let c = each_length zs done f in let z : length rule.samples ≤ length zs = omega arith in z) b
  best_found (a ∷ left) done zs s m best f n b =
      by (behind steps s a) (λ u xs found g k h. best_found left (done ++ a ∷ []) xs u m found g k h) refl
    where
      cases : (l : ℕ) → (l ≤ length zs) ⊎ (length zs < l)
      cases l = grind arith

      short : behind steps s a ≡ None → (k : ℕ) (rule : Rule) → slice_get rules k ≡ Some rule
          → FitsFirst rule.samples (done ++ a ∷ left) → length rule.samples ≤ length zs
      short e k rule at g = ⊎_elim (λ h. h) (λ h. let u = rule_leads done left a zs s k rule f n at g h in
          let x : None ≡ Some u.0 = sym e ∙ u.1 in let z : ⊥ = cc in absurd z) (cases (length rule.samples))

      by : (o : Option ℕ) → ((u : ℕ) (xs : List SampleWord) (found : Option ℕ) → FitEach xs (done ++ a ∷ [])
          → Named steps u (reverse xs) []
          → IsBestUpTo rules ((done ++ a ∷ []) ++ left) (length xs) found
          → IsBestUpTo rules ((done ++ a ∷ []) ++ left) m (best_on steps last u found left))
          → behind steps s a ≡ o → IsBestUpTo rules (done ++ a ∷ left) m (or_from o best
          (λ v. best_on steps last v (newer (last v) best) left))
      by None ih e = best_whole (done ++ a ∷ left) (length zs) m best (λ k rule at g. short e k rule at g) b
      by (Some u) ih e =
          let x = leads steps a s u (reverse zs) n e in
          let each = each_more zs done x.0 a f x.1 in
          let same : (done ++ a ∷ []) ++ left ≡ done ++ a ∷ left = append_assoc done (a ∷ []) left in
          let named : Named steps u (reverse (zs ++ x.0 ∷ [])) [] =
          subst (λ z. Named steps u z []) (sym (reverse_more zs x.0)) x.2 in
          let fits : FitsFirst (zs ++ x.0 ∷ []) (done ++ a ∷ left) =
          subst (λ z. FitsFirst (zs ++ x.0 ∷ []) z) same (each_first (zs ++ x.0 ∷ []) (done ++ a ∷ []) left each) in
          let more = best_more (done ++ a ∷ left) zs x.0 best (last u) fits (t.ends u (x.0 ∷ reverse zs) x.2) b in
          subst (λ z. IsBestUpTo rules z m (best_on steps last u (newer (last u) best) left)) same
          (ih u (zs ++ x.0 ∷ []) (newer (last u) best) each named
          (subst (λ z. IsBestUpTo rules z (length (zs ++ x.0 ∷ [])) (newer (last u) best)) (sym same) more))
