-- The tree of one rule more.
use Rattle.std.proofs.Common.{◌≡◌, ◌≢◌, ℕ, ◌<◌, ◌≤◌, ◌+◌, ◌⊎◌, inl, inr, ⊎_elim, List, [], ◌∷◌, ◌++◌, length, reverse}
use Rattle.std.proofs.Common.{refl, sym, ◌∙◌, ap, subst, arith, Option, Some, None, zero, suc}
use Rattle.std.specs.List.{slice_get}
use Rattle.std.proofs.lemmas.Option.{slice_get_within}
use Rattle.ts_thesaurus.specs.Rules.{SampleWord, Rule}
use Rattle.ts_thesaurus.specs.Inner.Tree.{Letter, Steps, Named, tree_root, IsTree, AddsStep, IsLastWith, IsTreeOf}
use Rattle.ts_thesaurus.proofs.Naming.{one_name, one_state, named_within}
use Rattle.ts_thesaurus.proofs.Growing.{name_stays, name_was, tree_grows}

-- From `old`, whose states have numbers below `from`, the tree has grown by states that are named by samples in P, if
-- by any.
pub record Grows (P : List SampleWord → Type 0) (old : Steps) (from : ℕ) (new : Steps) (size : ℕ) : Type 0 where
  pub tree : IsTree new size
  pub room : from ≤ size
  pub stays : (s : ℕ) (xs : List SampleWord) (ls : List (List ℕ)) → Named old s xs ls → Named new s xs ls
  pub fresh : (s : ℕ) (x : SampleWord) (xs : List SampleWord) → Named new s (x ∷ xs) []
      → Named old s (x ∷ xs) [] ⊎ ((from ≤ s) × P (x ∷ xs))

module _ (P : List SampleWord → Type 0) (old : Steps) (from : ℕ) where
  pub grows_start : IsTree old from → Grows P old from old from
  grows_start tree = record { tree = tree; room = omega arith; stays = λ s xs ls n. n; fresh = λ s x xs n. inl n }

  pub grows_step : (mid new : Steps) (size p : ℕ) (l : Letter) → 0 < from → Grows P old from mid size
      → AddsStep mid new size p l → p < size
      → ((x : SampleWord) (xs : List SampleWord) → Named new size (x ∷ xs) [] → P (x ∷ xs))
      → Grows P old from new (size + 1)
  grows_step mid new size p l some g adds known allowed = record {
    tree = grown;
    room = (let r = g.room in omega arith);
    stays = λ s xs ls n. name_stays mid new size p l adds s xs ls (g.stays s xs ls n);
    fresh = λ s x xs n. by s x xs n (below s x xs n);
  }
    where
      grown : IsTree new (size + 1)
      grown = tree_grows mid new size p l adds g.tree known

      below : (s : ℕ) (x : SampleWord) (xs : List SampleWord) → Named new s (x ∷ xs) [] → (s < size) ⊎ (s ≡ size)
      below s x xs n =
          let r = g.room in
          let w = named_within new (size + 1) grown s (x ∷ xs) [] (let z : 0 < size + 1 = omega arith in z) n in
          grind arith

      by : (s : ℕ) (x : SampleWord) (xs : List SampleWord) → Named new s (x ∷ xs) [] → (s < size) ⊎ (s ≡ size)
          → Named old s (x ∷ xs) [] ⊎ ((from ≤ s) × P (x ∷ xs))
      by s x xs n (inl h) = g.fresh s x xs (name_was mid new size p l adds g.tree known s (x ∷ xs) [] h n)
      by s x xs n (inr e) = inr (
        (let r = g.room in let z : from ≤ s = omega arith in z),
        allowed x xs (subst (λ z. Named new z (x ∷ xs) []) e n),
      )

-- ── rules ──
module _ (rules : List Rule) (r : Rule) where
  -- a rule of the longer list is one of the shorter, or the new one
  pub rule_cases : (k : ℕ) (rule : Rule) → slice_get (rules ++ r ∷ []) k ≡ Some rule
      → (slice_get rules k ≡ Some rule) ⊎ ((k ≡ length rules) × (rule ≡ r))
  rule_cases k rule e = go rules k e
    where
      go : (rs : List Rule) (k : ℕ) → slice_get (rs ++ r ∷ []) k ≡ Some rule
          → (slice_get rs k ≡ Some rule) ⊎ ((k ≡ length rs) × (rule ≡ r))
      go [] zero e = let x : r ≡ rule = cc in inr (refl, sym x)
      go [] (suc k) e = let z : ⊥ = cc in absurd z
      go (q ∷ rs) zero e = inl e
      go (q ∷ rs) (suc k) e = ⊎_elim (λ a. inl a) (λ b. inr (ap suc b.0, b.1)) (go rs k e)

  pub rule_stays : (k : ℕ) (rule : Rule) → slice_get rules k ≡ Some rule → slice_get (rules ++ r ∷ []) k ≡ Some rule
  rule_stays k rule e = go rules k e
    where
      go : (rs : List Rule) (k : ℕ) → slice_get rs k ≡ Some rule → slice_get (rs ++ r ∷ []) k ≡ Some rule
      go [] k e = let z : ⊥ = cc in absurd z
      go (q ∷ rs) zero e = e
      go (q ∷ rs) (suc k) e = go rs k e

  pub rule_new : slice_get (rules ++ r ∷ []) (length rules) ≡ Some r
  rule_new = go rules
    where
      go : (rs : List Rule) → slice_get (rs ++ r ∷ []) (length rs) ≡ Some r
      go [] = refl
      go (q ∷ rs) = go rs

  -- the last rule with other samples than the new one's stays the last
  pub last_stays : (xs : List SampleWord) (o : Option ℕ) → reverse r.samples ≢ xs → IsLastWith rules xs o
      → IsLastWith (rules ++ r ∷ []) xs o
  last_stays xs None ne h = λ k rule e s. ⊎_elim (λ a. h k rule a s)
      (λ b. ne (ap (λ q. reverse q.samples) (sym b.1) ∙ s)) (rule_cases k rule e)
  last_stays xs (Some k) ne (rule, at, same, most) = (
    rule,
    rule_stays k rule at,
    same,
    λ j other e s. ⊎_elim (λ a. most j other a s) (λ b. absurd (ne (ap (λ q. reverse q.samples) (sym b.1) ∙ s)))
        (rule_cases j other e),
  )

  pub last_new : (xs : List SampleWord) → reverse r.samples ≡ xs → IsLastWith (rules ++ r ∷ []) xs (Some (length rules))
  last_new xs same = (
    r,
    rule_new,
    same,
    λ j other e s. ⊎_elim (λ a. let w = slice_get_within rules j other a in let z : j ≤ length rules = omega arith in
        z) (λ b. let w = b.0 in let z : j ≤ length rules = omega arith in z) (rule_cases j other e),
  )

-- the samples with which the rule begins, the last of them first
abbrev pub BeginsRule : Rule → List SampleWord → Type 0
BeginsRule r xs = (more : List SampleWord) × (reverse r.samples ≡ more ++ xs)

-- the tree with the samples of one rule more, which ends at the state e
pub rule_joins : (rules : List Rule) (r : Rule) (old new : Steps) (from size e : ℕ) (last now : ℕ → Option ℕ) → 0 < from
    → IsTreeOf rules old from last
    → Grows (BeginsRule r) old from new size → Named new e (reverse r.samples) [] → now e ≡ Some (length rules)
    → ((s : ℕ) → s ≢ e → now s ≡ last s)
    → ((s : ℕ) → from ≤ s → last s ≡ None) → IsTreeOf (rules ++ r ∷ []) new size now
rule_joins rules r old new from size e last now some t g named here others none = record {
  tree = g.tree;
  each = λ k rule at. ⊎_elim (λ a. let o = t.each k rule a in (o.0, g.stays o.0 (reverse rule.samples) [] o.1))
      (λ b. (e, subst (λ q. Named new e (reverse q.samples) []) (sym b.1) named)) (rule_cases rules r k rule at);
  only = λ s x xs n. ⊎_elim
      (λ o. let b = t.only s x xs o in (b.0, b.1, b.2, rule_stays rules r b.0 b.1 b.3, b.4))
      (λ p. (length rules, r, p.1.0, rule_new rules r, p.1.1))
      (g.fresh s x xs n);
  ends = λ s xs n. ⊎_elim (λ same. ended s xs n same) (λ other. unended s xs n other) (same_or s);
}
  where
    same_or : (s : ℕ) → (s ≡ e) ⊎ (s ≢ e)
    same_or s = grind arith

    ended : (s : ℕ) (xs : List SampleWord) → Named new s xs [] → s ≡ e → IsLastWith (rules ++ r ∷ []) xs (now s)
    ended s xs n same =
        let name = one_name new size g.tree e s (reverse r.samples) xs [] [] (sym same) named n in
        subst (IsLastWith (rules ++ r ∷ []) xs) (sym here ∙ ap now (sym same)) (last_new rules r xs name.0)

    unended : (s : ℕ) (xs : List SampleWord) → Named new s xs [] → s ≢ e → IsLastWith (rules ++ r ∷ []) xs (now s)
    unended s xs n other =
        let ne : reverse r.samples ≢ xs =
        λ same. other (one_state new xs [] s e n (subst (λ z. Named new e z []) same named)) in
        subst (IsLastWith (rules ++ r ∷ []) xs) (sym (others s other))
        (last_stays rules r xs (last s) ne (before s xs n))
      where
        before : (s : ℕ) (xs : List SampleWord) → Named new s xs [] → IsLastWith rules xs (last s)
        before s [] n =
            subst (λ z. IsLastWith rules [] (last z)) (one_state new [] [] 0 s tree_root n) (t.ends 0 [] tree_root)
        before s (x ∷ xs) n = ⊎_elim (λ o. t.ends s (x ∷ xs) o)
            (λ p. subst (IsLastWith rules (x ∷ xs)) (sym (none s p.0)) (nobody p.0)) (g.fresh s x xs n)
          where
            nobody : from ≤ s → IsLastWith rules (x ∷ xs) None
            nobody h k rule at same =
                let o = t.each k rule at in
                let mine : Named old o.0 (x ∷ xs) [] = subst (λ z. Named old o.0 z []) same o.1 in
                let w = named_within old from t.tree o.0 (x ∷ xs) [] some mine in
                let is : o.0 ≡ s = one_state new (x ∷ xs) [] o.0 s (g.stays o.0 (x ∷ xs) [] mine) n in
                let z : ⊥ = omega arith in
                z
