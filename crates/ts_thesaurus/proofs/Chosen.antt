-- What the tree of all rules says.
use Rattle.std.proofs.Common.{◌≡◌, ◌≢◌, ℕ, ◌≤◌, inr, List, [], ◌∷◌, ◌++◌, length, reverse, refl, sym, ◌∙◌, ap, subst}
use Rattle.std.proofs.Common.{arith, Option, Some, None, Bool, true, true≢false}
use Rattle.std.specs.List.{slice_get}
use Rattle.std.specs.Option.{is_some}
use Rattle.ts_base.specs.Dictionary.{WordAnswer}
use Rattle.ts_thesaurus.specs.declared.tree.State.{State}
use Rattle.ts_thesaurus.specs.Rules.{SampleWord, Rule, FitsFirst, Continues}
use Rattle.ts_thesaurus.specs.Inner.Tree.{tree_root, IsLastWith}
use Rattle.ts_thesaurus.specs.Inner.Walks.{then_from, behind, behind_all, best_on, IsBestUpTo}
use Rattle.ts_thesaurus.specs.Inner.States.{steps_of, last_of, HasTree}
use Rattle.ts_thesaurus.specs.declared.tree.Tree.{Tree}
use Rattle.ts_thesaurus.specs.Inner.Index.{IsOnWay, behind_in}
use denote.Ref.{Bor}
use Rattle.ts_thesaurus.proofs.Finding.{best_found}
use Rattle.ts_thesaurus.proofs.GoingOn.{led_where, continues_where}
use Rattle.std.proofs.lemmas.List.{reverse-reverse}

empty : (samples : List SampleWord) → length samples ≤ 0 → samples ≡ []
empty [] h = refl
empty (x ∷ samples) h = absurd (omega arith)

-- the last rule without samples is the best of those without
root_best : (rules : List Rule) (answers : List WordAnswer) (o : Option ℕ) → IsLastWith rules [] o
    → IsBestUpTo rules answers 0 o
root_best rules answers None none = λ k rule e le fits. none k rule e (ap reverse (empty rule.samples le))
root_best rules answers (Some place) (rule, at, same, most) =
    let none : rule.samples ≡ [] = sym (reverse-reverse rule.samples) ∙ ap reverse same in (
      rule,
      at,
      subst (λ z. FitsFirst z answers) (sym none) tt,
      λ k other e le fits.
          let other_none = empty other.samples le in
          inr (ap length (other_none ∙ sym none), most k other e (ap reverse other_none)),
    )

module _ (rules : List Rule) (states : List State) (t : HasTree rules states) (answers : List WordAnswer) where
  -- the best rule by the tree
  pub tree_best : (n : ℕ)
      → IsBestUpTo rules answers n (best_on (steps_of states) (last_of states) 0 (last_of states 0) answers)
  tree_best n = best_found rules (steps_of states) (length states) (last_of states) t answers [] [] 0 n
      (last_of states 0) tt tree_root (root_best rules answers (last_of states 0) (t.ends 0 [] tree_root))

  -- a rule goes on where there are rules, and the answers lead to a state
  pub tree_goes : (u : ℕ) → rules ≢ [] → behind_all (steps_of states) 0 answers ≡ Some u → Continues rules answers
  tree_goes u some e = by rules refl
    where
      by : (all : List Rule) → rules ≡ all → Continues rules answers
      by [] none = absurd (some none)
      by (rule ∷ more) is = continues_where rules (steps_of states) (length states) (last_of states) t answers 0 u rule
          (ap (λ z. slice_get z 0) is) e

  pub tree_went : Continues rules answers → (rules ≢ []) × ((u : ℕ) × (behind_all (steps_of states) 0 answers ≡ Some u))
  tree_went c = (some, led_where rules (steps_of states) (length states) (last_of states) t answers c)
    where
      some : rules ≢ []
      some none = let x : None ≡ Some c.rule = sym (ap (λ z. slice_get z c.place) none) ∙ c.there in let z : ⊥ = cc in z

  -- so a rule goes on exactly where the answers lead to a state
  pub tree_truth : (o : Option ℕ) (b : Bool) → behind_all (steps_of states) 0 answers ≡ o → b ≡ is_some o → rules ≢ []
      → (b ≡ true → Continues rules answers) × (Continues rules answers → b ≡ true)
  tree_truth None b e f some = ((λ t. absurd (true≢false (sym t ∙ f))), none)
    where
      none : Continues rules answers → b ≡ true
      none c = let went = tree_went c in let x : None ≡ Some went.1.0 = sym e ∙ went.1.1 in let z : ⊥ = cc in absurd z
  tree_truth (Some u) b e f some = ((λ t. tree_goes u some e), (λ c. f))

-- one answer more leads on from the state after the others
pub behind_more : (states : List State) (s : ℕ) (answers : List WordAnswer) (a : WordAnswer)
    → then_from (behind_all (steps_of states) s answers) (λ t. behind (steps_of states) t a)
    ≡ behind_all (steps_of states) s (answers ++ a ∷ [])
behind_more states s [] a = one (behind (steps_of states) s a)
  where
    one : (o : Option ℕ) → o ≡ then_from o (λ t. Some t)
    one None = refl
    one (Some t) = refl
behind_more states s (b ∷ answers) a = by (behind (steps_of states) s b) (λ t. behind_more states t answers a)
  where
    by : (o : Option ℕ)
        → ((t : ℕ) → then_from (behind_all (steps_of states) t answers) (λ u. behind (steps_of states) u a)
        ≡ behind_all (steps_of states) t (answers ++ a ∷ []))
        → then_from (then_from o (λ t. behind_all (steps_of states) t answers)) (λ t. behind (steps_of states) t a)
        ≡ then_from o (λ t. behind_all (steps_of states) t (answers ++ a ∷ []))
    by None ih = refl
    by (Some t) ih = ih t

-- a walk goes on by one answer
pub way_more : (rules : List Rule) (tree : Option (Bor Tree)) (answers now : List WordAnswer) (a : WordAnswer)
    (state next : Option ℕ) → IsOnWay rules tree answers state → next ≡ behind_in tree state a
    → now ≡ answers ++ a ∷ [] → IsOnWay rules tree now next
way_more rules None answers now a state next way e f = tt
way_more rules (Some tree) answers now a state next way e f = (
  way.0,
  e ∙ ap (λ o. then_from o (λ t. behind (steps_of tree.now.states.items) t a)) way.1
      ∙ behind_more tree.now.states.items 0 answers a
      ∙ ap (λ z. behind_all (steps_of tree.now.states.items) 0 z) (sym f),
)
