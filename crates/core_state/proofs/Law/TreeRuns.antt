-- The trees' parts of what holds in every legal log, and under each pin that it keeps, from the step over one record.
use Rattle.std.proofs.Common.{◌≡◌, ◌⊎◌, ◌<◌, ◌≤◌, ◌+◌, ℕ, suc, List, [], ◌∷◌, ◌++◌, length, sym, ap, subst, subst₂, ◌∙◌}
use Rattle.std.proofs.Common.{inl, inr, arith}
use Rattle.std.proofs.lemmas.List.{length-append}
use Rattle.page_types.specs.declared.record.Record.{Record}
use Rattle.page_types.specs.declared.record.Kind.TheVariants as kind
use Rattle.core_state.specs.Log.{Log, Pages, Shows, commits, changed}
use Rattle.core_state.specs.Index.{Below}
use Rattle.core_state.specs.TreeRules.{IsDeletePost}
use Rattle.core_state.specs.Legal.{RuleHolds, RecordsAreValid, Pin, KeepsEach}
use Rattle.core_state.specs.Bullets.{WasDeleted, LeavesAreNamed, TreesAreBounded, LeavesLead, DeletedLeavesLead}
use Rattle.core_state.specs.Bullets.{OnePlace}
use Rattle.core_state.specs.Inner.Ghosts.{Ghost}
use Rattle.core_state.proofs.Showing.{shown_one}
use Rattle.core_state.proofs.RulesByKind.{RuleOf, rule_of}
use Rattle.core_state.proofs.Law.Invariant.{Inv}
use Rattle.core_state.proofs.Law.Steps.{After, StepHolds}
use Rattle.core_state.proofs.Law.Runs.{step_over}
use Rattle.core_state.proofs.Law.Lists.{Listed, HasLists, list_run, plain_lists, entry_on, post_on}
use Rattle.core_state.proofs.Law.Bounded.{trees_bounded, leaves_named}
use Rattle.core_state.proofs.Law.OnePlaces.{one_place}
use Rattle.core_state.proofs.Law.LeavesLead.{listed_leads}
use Rattle.core_state.proofs.Law.DeletedLead.{LeftSince, left_leads, since_on, now_left}

-- a log is cut at its first record, or further on
split_log : (r by : Record) (R later earlier : Log) → r ∷ R ≡ later ++ by ∷ earlier → ((r ≡ by) × (R ≡ earlier))
    ⊎ ((rest : Log) × (R ≡ rest ++ by ∷ earlier))
split_log r by R [] earlier e = inl (cc, cc)
split_log r by R (x ∷ later) earlier e = inr (later, behind r x R (later ++ by ∷ earlier) e)
  where
    behind : (a b : Record) (as' bs : Log) → a ∷ as' ≡ b ∷ bs → as' ≡ bs
    behind a b as' bs e = cc

-- a record of a log has a number within its length
in_length : (R later earlier : Log) (by : Record) → R ≡ later ++ by ∷ earlier → suc (length earlier) ≤ length R
in_length R later earlier by e =
    let s : length R ≡ length later + suc (length earlier) = ap length e ∙ length-append later (by ∷ earlier) in
    omega (arith, s)

head_of : (x y : ℕ) (xs ys : List ℕ) → x ∷ xs ≡ y ∷ ys → x ≡ y
head_of x y xs ys e = cc

-- what is known of each leaf that was deleted since the pin
abbrev pub DeletedKnown : Pin → Log → Ghost → Type 0
DeletedKnown pin R g = (p root number : ℕ) (then : Pages) → WasDeleted R p root then number → pin.length < number
    → LeftSince then g p root

abbrev pub HasPast : Pin → Log → Pages → Type 0
HasPast pin R P = (g : Ghost) × Inv pin.commits pin.length R P g × Listed P g × DeletedKnown pin R g

module _ (step : StepHolds) (pin : Pin) where
  begins : (R : Log) → KeepsEach pin R → pin.length ≡ length R → (P : Pages) → Shows R P → HasPast pin R P
  begins R k e P shown =
      let i = subst (λ m. HasLists pin.commits m R P) (sym e) (list_run step pin R k P shown) in (
        i.0,
        i.1,
        i.2,
        λ p root number then w late.
            absurd (too_late number (length w.earlier) (length R) late w.number_is
            (in_length R w.later w.earlier w.by w.log) e),
      )
    where
      too_late : (number m l : ℕ) → pin.length < number → number ≡ suc m → suc m ≤ l → pin.length ≡ l → ⊥
      too_late number m l a b c d = omega (arith, a, b, c, d)

  -- one record more past the pin's length
  module _ (R : Log) (P Q : Pages) (r : Record) (g : Ghost) (inv : Inv pin.commits pin.length R P g) (shown : Shows R P)
      (a : After pin.commits pin.length R P Q r g)
      (floor since : ℕ) (bound : (since ≤ pin.length) ⊎ (pin.length ≡ length R))
      (row : RuleHolds R P Q r floor since) where
    now : (p root : ℕ) (then : Pages) (by : Record) (earlier : Log) → r ≡ by → R ≡ earlier → by.kind ≡ kind.DeletePost
        → (rest : List ℕ) → changed by ≡ p ∷ rest
        → Shows earlier then → Below then root p → LeftSince then a.ghost p root
    now p root then by earlier same log kind_is rest first there below =
        let V : IsDeletePost R P Q r = subst (RuleOf R P Q r floor since) (ap (λ (x : Record). x.kind) same ∙ kind_is)
        (rule_of R P Q r floor since row) in
        let page : p ≡ V.here.page = head_of p V.here.page rest _ (sym first ∙ ap changed (sym same) ∙ V.here.pages) in
        let pages : then ≡ P = shown_one R then P (subst (λ (S : Log). Shows S then) (sym log) there) shown in
        subst₂ (λ (T : Pages) (x : ℕ). LeftSince T a.ghost x root) (sym pages) (sym page)
        (now_left pin.commits pin.length R P Q r g inv shown a V since bound root
        (subst₂ (λ (T : Pages) (x : ℕ). Below T root x) pages page below))

    known_on : DeletedKnown pin R g → DeletedKnown pin (r ∷ R) a.ghost
    known_on known p root number then w late = elim (split_log r w.by R w.later w.earlier w.log) [
      | inl e ↦ now p root then w.by w.earlier e.0 e.1 w.kind_is w.first.0 w.first.1 w.shown w.below
      | inr e ↦ since_on pin.commits pin.length R P Q r g inv shown a then p root
          (known p root number then
          (record {
            later = e.0;
            by = w.by;
            earlier = w.earlier;
            log = e.1;
            number_is = w.number_is;
            kind_is =
                w.kind_is;
            first = w.first;
            shown = w.shown;
            below = w.below;
          }) late)
    ]

    listed_then : Listed P g → Listed Q a.ghost
    listed_then l =
        let e = entry_on pin.commits pin.length R P Q r g inv shown a l.entry_list l.entries in
        let p = post_on pin.commits pin.length R P Q r g inv shown a l.post_list l.posts in
        record { entry_list = e.0; entries = e.1; post_list = p.0; posts = p.1 }

  at_length : (l m : ℕ) → l ≤ suc m → (l ≡ suc m) ⊎ (l ≤ m)
  at_length l m h = grind (arith, h)

  pub past_lists : (R : Log) → KeepsEach pin R → pin.length ≤ length R → (P : Pages) → Shows R P → HasPast pin R P
  past_lists [] k l P shown = begins [] k (omega (arith, l)) P shown
  past_lists (r ∷ R) k l Q shown = elim (at_length pin.length (length R) l) [
    | inl e ↦ begins (r ∷ R) k e Q shown
    | inr low ↦
        let v = k.2 low in
        let i = past_lists R k.0 low v.2.before v.2.shown in
        let a = step_over step pin.commits pin.length R r v.0 pin.length v.2 v.1
        (inl (omega arith)) low v.2.before Q i.0 v.2.shown shown i.1 in
        let row = subst (λ (T : Pages). RuleHolds R v.2.before T r v.0 pin.length)
        (shown_one (r ∷ R) v.2.after Q v.2.shown_after shown) v.2.rule in (
          a.ghost,
          a.inv,
          listed_then R v.2.before Q r i.0 i.1 v.2.shown a v.0 pin.length (inl (omega arith)) row i.2,
          known_on R v.2.before Q r i.0 i.1 v.2.shown a v.0 pin.length (inl (omega arith)) row i.3,
        )
  ]

  pub deleted_lead : (R : Log) → KeepsEach pin R → pin.length ≤ length R → (P : Pages) → Shows R P
      → DeletedLeavesLead R P pin
  deleted_lead R k l P shown p root number then w late q i high is below b m stood =
      let h = past_lists R k l P shown in
      left_leads pin.commits pin.length R P h.0 h.1 h.2 then p root (h.3 p root number then w late) q i high is below b
      m stood

-- what trees keep in every legal log
pub record TreesHold (P : Pages) : Type 0 where
  pub named : LeavesAreNamed P
  pub bounded : TreesAreBounded P
  pub lead : LeavesLead P
  pub one_place : OnePlace P

pub trees_hold : StepHolds → (R : Log) → RecordsAreValid R → (P : Pages) → Shows R P → TreesHold P
trees_hold step R v P shown =
    let h = plain_lists step R v P shown in
    record {
      named = leaves_named (commits R) (length R) R P h.0 h.1 shown;
      bounded = trees_bounded (commits R) (length R) R P h.0 h.1 shown;
      lead = listed_leads (commits R) (length R) R P h.0 h.1 shown h.2;
      one_place = one_place (commits R) (length R) R P h.0 h.1 shown;
    }
