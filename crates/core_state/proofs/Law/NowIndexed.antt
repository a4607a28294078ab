-- After a row is added, or rows are linked, the document is indexed.
use Rattle.std.proofs.Common.{◌≡◌, ℕ, suc, ◌∷◌, length, refl, subst, inl, inr, arith}
use Rattle.page_types.specs.declared.record.Record.{Record}
use Rattle.page_types.specs.declared.record.Kind.TheVariants as kind
use Rattle.core_state.specs.Log.{Log, Pages, commits}
use Rattle.core_state.specs.Documents.{Doc}
use Rattle.core_state.specs.Index.{IsIndexed}
use Rattle.core_state.specs.PendingRules.{IsAddRow, IsLinkPending}
use Rattle.core_state.specs.Legal.{Valid, RecordsAreValid}
use Rattle.core_state.specs.PendingSteps.{LinkedIsIndexed}
use Rattle.core_state.proofs.Showing.{shown_one}
use Rattle.core_state.proofs.RulesByKind.{kind_rule}
use Rattle.core_state.proofs.LinkedHeads.{same_added, same_link}
use Rattle.core_state.proofs.Law.SamePages.{not_first}
use Rattle.core_state.proofs.Law.Steps.{StepHolds, Before, Left}
use Rattle.core_state.proofs.Law.OneStep.{left}
use Rattle.core_state.proofs.Law.Runs.{Holds, plain_run}
use Rattle.core_state.proofs.Law.AddRow as row
use Rattle.core_state.proofs.Law.LinkPending as link

module _ (step : StepHolds) (R : Log) (r : Record) (valid : RecordsAreValid R)
    (u : Valid R r (commits R) (suc (length R))) where
  abbrev n : ℕ
  n = commits R

  abbrev L : ℕ
  L = length R

  pub held_before : Holds n L R u.before
  held_before = plain_run step R valid u.before u.shown

  before : Before n L R u.before u.after r n (suc L) held_before.0
  before = record {
    inv = held_before.1;
    shown = u.shown;
    shown_after = u.shown_after;
    number = u.number;
    started = u.started;
    floor_is = omega arith;
    since_is = inr refl;
    within = omega arith;
  }

  pub leaves : Left n (suc L) R u.before u.after r
  leaves = left n L R u.before u.after r n (suc L) held_before.0 before u.rule

  added : (d : Doc) → r.kind ≡ kind.AddRow d.item d.serial → IsIndexed u.after d
  added d e =
      let x : IsAddRow R u.before u.after r = kind_rule R u.before u.after r n (suc L) _ e u.rule in
      let some = not_first R r (kind.AddRow d.item d.serial) u.started e (λ f. cc) in
      subst (IsIndexed u.after) (same_added x.here.doc d r.kind x.here.kind_is e)
      (row.indexed_now n L R u.before u.after r (suc L) held_before.0 held_before.1 leaves some x)

  linked : (d : Doc) → r.kind ≡ kind.LinkPending d.item d.serial → IsIndexed u.after d
  linked d e =
      let x : IsLinkPending R u.before u.after r = kind_rule R u.before u.after r n (suc L) _ e u.rule in
      let some = not_first R r (kind.LinkPending d.item d.serial) u.started e (λ f. cc) in
      subst (IsIndexed u.after) (same_link x.here.doc d r.kind x.here.kind_is e)
      (link.indexed_now n L R u.before u.after r (suc L) held_before.0 held_before.1 leaves some x)

pub linked_indexed : StepHolds → LinkedIsIndexed
linked_indexed step R r Q d legal shown by =
    let u = legal.valid.1 in
    subst (λ (P : Pages). IsIndexed P d) (shown_one (r ∷ R) u.after Q u.shown_after shown) (elim by [
      | inl e ↦ added step R r legal.valid.0 u d e
      | inr e ↦ linked step R r legal.valid.0 u d e
    ])
