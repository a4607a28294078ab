-- A document that was placed, and has no slot, never has one again.
use Rattle.std.proofs.Common.{◌≡◌, ◌⊎◌, ◌<◌, ℕ, suc, List, [], ◌∷◌, ◌++◌, length, sym, ap, ap₂}
use Rattle.std.proofs.Common.{subst, ◌∙◌, inl, inr, arith}
use Rattle.std.specs.Prelude.{Option, Some, None}
use Rattle.page_types.specs.declared.page.Head.{Head}
use Rattle.page_types.specs.declared.record.Record.{Record}
use Rattle.page_types.specs.declared.record.Kind.TheVariants as kind
use Rattle.core_state.specs.Log.{Log, Pages, In, Shows, commits, next_serial}
use Rattle.core_state.specs.Documents.{Doc, Has, head_of, doc_at, placed}
use Rattle.core_state.specs.HeapRules.{IsPlaceHead}
use Rattle.core_state.specs.Legal.{RecordsAreValid}
use Rattle.core_state.proofs.FateSteps.{placed_on}
use Rattle.core_state.proofs.HeadSteps.{HeadStep}
use Rattle.core_state.proofs.PageLists.{same_or_not}
use Rattle.core_state.proofs.PlacedOnce.{below_next}
use Rattle.core_state.proofs.RulesByKind.{kind_rule}
use Rattle.core_state.proofs.Showing.{shown_one}
use Rattle.core_state.proofs.SteadyEnds.{heads_step}

some_one : (h k : Head) → Some h ≡ Some k → h ≡ k
some_one h k e = cc

-- two documents that have the slot of one item are one
pub one_doc : (P : Pages) (d e : Doc) (h k : Head) → Has P d h → Has P e k → d.item ≡ e.item → d ≡ e
one_doc P d e h k a b same =
    let head : h ≡ k = some_one h k (sym a.at ∙ ap (head_of P) same ∙ b.at) in
    ap₂ doc_at same (sym a.serial ∙ ap (λ (x : Head). x.serial) head ∙ b.serial)

-- a record that places a document draws the next serial
drawn_serial : (R : Log) (r : Record) (item serial : ℕ) → RecordsAreValid (r ∷ R)
    → r.kind ≡ kind.PlaceHead item serial → serial ≡ next_serial R
drawn_serial R r item serial v e =
    let rule : IsPlaceHead R v.1.before v.1.after r (suc (length R)) =
    kind_rule R v.1.before v.1.after r (commits R) (suc (length R)) (kind.PlaceHead item serial) e v.1.rule in
    let one : kind.PlaceHead rule.here.doc.item rule.here.doc.serial ≡ kind.PlaceHead item serial =
    sym rule.here.kind_is ∙ e in
    let number : rule.here.doc.serial ≡ serial = cc in
    sym number ∙ rule.here.next

-- what was placed was placed also with a record more
pub placed_then : (later R : Log) (x : ℕ) (d : Doc) → In d (placed R x) → In d (placed (later ++ R) x)
placed_then [] R x d i = i
placed_then (r ∷ later) R x d i = placed_on r (later ++ R) x d (placed_then later R x d i)

none_some : (h : Head) (s : Option Head) → s ≡ None → s ≡ Some h → ⊥
none_some h s e f = cc

same_item : (P Q : Pages) (i : ℕ) (h : Head) → head_of Q i ≡ head_of P i → head_of Q i ≡ Some h → head_of P i ≡ Some h
same_item P Q i h e is = sym e ∙ is

-- over one record
module _ (R : Log) (r : Record) (P Q : Pages) (floor x : ℕ) (d : Doc) (v : RecordsAreValid (r ∷ R))
    (placed_it : In d (placed R x)) (none : (h : Head) → Has P d h → ⊥) (h : Head) (has : Has Q d h) where
  there_still : head_of Q d.item ≡ head_of P d.item → ⊥
  there_still e = none h (record { at = same_item P Q d.item h e has.at; serial = has.serial })

  none_then : HeadStep R P Q r floor → ⊥
  none_then (HeadStep.same all) = there_still (all d.item)
  none_then (HeadStep.placed e g k was is new others) = elim (same_or_not e.item d.item) [
    | inl same ↦
        let one : d ≡ e = one_doc Q d e h g has is same in
        omega (
          arith,
          below_next R x d v.0 placed_it,
          ap (λ (c : Doc). c.serial) one,
          drawn_serial R r e.item e.serial v k,
        )
    | inr off ↦ there_still (others d.item off)
  ]
  none_then (HeadStep.turned e g g' was is turned others) = elim (same_or_not e.item d.item) [
    | inl same ↦
        let one : d ≡ e = one_doc Q d e h g' has is same in
        none g (subst (λ (c : Doc). Has P c g) (sym one) was)
    | inr off ↦ there_still (others d.item off)
  ]
  none_then (HeadStep.freed k each) = elim (each d.item) [
    | inl same ↦ there_still same
    | inr gone ↦ none_some h (head_of Q d.item) gone.is has.at
  ]

pub never_again : (later R : Log) (P Q : Pages) (x : ℕ) (d : Doc) → RecordsAreValid (later ++ R) → Shows R P
    → Shows (later ++ R) Q → In d (placed R x) → ((h : Head) → Has P d h → ⊥) → (h : Head) → Has Q d h → ⊥
never_again [] R P Q x d v shown shown_then i none h has =
    none h (subst (λ (X : Pages). Has X d h) (shown_one R Q P shown_then shown) has)
never_again (r ∷ later) R P Q x d v shown shown_then i none h has =
    let S : Log = later ++ R in
    none_then S r v.1.before v.1.after (commits S) x d v (placed_then later R x d i)
    (λ g before. never_again later R P v.1.before x d v.0 shown v.1.shown i none g before) h
    (subst (λ (X : Pages). Has X d h) (sym (shown_one (r ∷ S) v.1.after Q v.1.shown_after shown_then)) has)
    (heads_step S r (commits S) (suc (length S)) v.1)
