-- Which records of a document's own leave it without a linked row, and that it is indexed once its rows
-- are linked.
use Rattle.std.proofs.Common.{◌≡◌, ◌≢◌, ◌⊎◌, ◌<◌, ℕ, suc, [], ◌∷◌, length, refl, sym, ap, subst, ◌∙◌, inl, inr, arith}
use Rattle.ts_base.specs.Vectors.{Vector}
use Rattle.page_types.specs.Records.{kind_number}
use Rattle.page_types.specs.declared.record.Record.{Record}
use Rattle.page_types.specs.declared.record.Kind.TheVariants as kind
use Rattle.core_state.specs.Log.{Log, Pages, In, Shows, commits, fate}
use Rattle.core_state.specs.Documents.{Doc, HasVector}
use Rattle.core_state.specs.HeapRules.{IsPlaceHead}
use Rattle.core_state.specs.Index.{HasRow, IsIndexed}
use Rattle.core_state.specs.Legal.{IsLegal, Valid}
use Rattle.core_state.specs.Steady.{IsIndexWork}
use Rattle.core_state.specs.declared.answers.Fate.TheVariants.{Unused, Running}
use Rattle.core_state.proofs.LawsHold.{steady, linked_indexed, others_keep_rows}
use Rattle.core_state.proofs.RulesByKind.{kind_rule}
use Rattle.core_state.proofs.Showing.{shown_one}

-- a log in which a transaction runs isn't empty
pub some_log : (R : Log) (x : ℕ) → fate R x ≡ Running → R ≢ []
some_log R x runs none = let e : Unused ≡ Running = sym (ap (λ (S : Log). fate S x) none) ∙ runs in cc

module _ (R : Log) (r : Record) (P Q : Pages) (some : R ≢ []) (legal : IsLegal (r ∷ R)) (shown : Shows R P)
    (shown_now : Shows (r ∷ R) Q) where
  -- where it had none, and the record links none
  pub no_row_after : (i : ℕ) → kind_number r.kind < 10 → (HasRow P i → ⊥) → HasRow Q i → ⊥
  no_row_after i below off k = off (record {
    row = k.row;
    linked = (others_keep_rows R r P Q some legal shown shown_now (inl below) k.row).1 k.linked;
    item = k.item;
  })

  -- where its head is placed
  pub no_row_placed : (item serial : ℕ) → r.kind ≡ kind.PlaceHead item serial → HasRow Q item → ⊥
  no_row_placed item serial is =
      let v : Valid R r (commits R) (suc (length R)) = legal.valid.1 in
      let rule : IsPlaceHead R v.before v.after r (suc (length R)) =
      kind_rule R v.before v.after r (commits R) (suc (length R)) (kind.PlaceHead item serial) is v.rule in
      let one : kind.PlaceHead (rule.here).doc.item (rule.here).doc.serial ≡ kind.PlaceHead item serial =
      sym (rule.here).kind_is ∙ is in
      let same : (rule.here).doc.item ≡ item = cc in
      let none : HasRow P item → ⊥ =
      subst (λ (i : ℕ). HasRow P i → ⊥) same
      (subst (λ (X : Pages). HasRow X (rule.here).doc.item → ⊥) (shown_one R v.before P v.shown shown)
      (rule.rest).no_row) in
      let number : kind_number r.kind ≡ 6 = ap kind_number is in
      no_row_after item (omega (arith, number)) none

  -- the record adds a row of the document, or links its rows
  abbrev pub LinksRows : Doc → Type 0
  LinksRows d = (r.kind ≡ kind.AddRow d.item d.serial) ⊎ (r.kind ≡ kind.LinkPending d.item d.serial)

  no_work : (d : Doc) → LinksRows d → IsIndexWork r.kind → ⊥
  no_work d (inl e) work = let number : kind_number r.kind ≡ 10 = ap kind_number e in omega (arith, number, work.0)
  no_work d (inr e) work = let number : kind_number r.kind ≡ 11 = ap kind_number e in omega (arith, number, work.0)

  no_others : (d : Doc) → LinksRows d → (q : Record) → In q (r ∷ []) → IsIndexWork q.kind → ⊥
  no_others d l q (inl same) work = no_work d l (subst (λ (x : Record). IsIndexWork x.kind) same work)
  no_others d l q (inr none) work = none

  -- then it is whole as it was, and indexed
  pub linked_now : (d : Doc) (v : Vector) → IsLegal R → LinksRows d → HasVector P d v
      → HasVector Q d v × IsIndexed Q d
  linked_now d v before l has = (
    ((steady R (r ∷ []) (r ∷ R) P Q refl some before legal shown shown_now).index_stays (no_others d l)).whole d v has,
    linked_indexed R r Q d legal shown_now l,
  )
