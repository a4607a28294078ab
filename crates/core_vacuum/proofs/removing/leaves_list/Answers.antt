use Rattle.std.proofs.Common.{sym, subst, subst₂, ◌∙◌}
use Rattle.std.proofs.lemmas.Bool.{false≢true}
use Rattle.std.proofs.lemmas.Slice.Eq.{bytes_eq-Decides}
use Rattle.page_types.specs.Items.{IsItemList}
use Rattle.core_vacuum.specs.Inner.Removing.{AreAmong}
use Rattle.core_vacuum.proofs.GoneItems.{leaf_items}
use Rattle.core_vacuum.proofs.LeftPages.{no_list, no_list_then, list_left, fewer}
use Rattle.core_vacuum.proofs.removing.leaves_list.Goals as goal
use Rattle.core_vacuum.proofs.removing.leaves_list.Goals.{then-new-old-via-then-new-old}
use Rattle.core_vacuum.proofs.removing.leaves_list.Goals.{then-new-old-via-else-new-old+then-new-rec}
use Rattle.core_vacuum.proofs.removing.leaves_list.Goals.{then-new-old-via-else-new-old+else-new-rec+then-new_high-high}

pub returns-in_default : goal.returns-in_default
returns-in_default c = (
  λ e. absurd (false≢true e),
  λ w. absurd (no_list c.args.rec.now c.args.old.now c.args.new.now c.in_default.not-PostLeaf w),
)

pub returns-in_default-body : goal.returns-in_default-body
returns-in_default-body c = (
  λ e. absurd (false≢true e),
  λ w. absurd (no_list_then c.args.rec.now c.args.old.now c.args.new.now c.in_default-body.not-PostLeaf w),
)

pub returns-then-new-old : goal.returns-then-new-old
returns-then-new-old c = (
  λ e. absurd (false≢true e),
  λ w.
      let x = fewer c.args.rec.now c.args.old.now c.args.new.now c.in-PostLeaf.high c.in-PostLeaf.items
      c.in-PostLeaf-body.new_high c.in-PostLeaf-body.left c.in-PostLeaf.is c.in-PostLeaf-body.is w in
      elim c.then-new-old.branch [
        | then-new-old-via-then-new-old v ↦ absurd (v.if-new-old.true x.right)
        | then-new-old-via-else-new-old+then-new-rec v ↦ absurd (v.if-new-rec.true x.stamp)
        | then-new-old-via-else-new-old+else-new-rec+then-new_high-high v ↦ absurd (v.if-new_high-high.true x.high_is)
      ],
)

pub returns-then-eq : goal.returns-then-eq
returns-then-eq c =
    let same = bytes_eq-Decides c.as_slice-left.result.now c.as_slice-items.result.now in (
      λ e. absurd (false≢true e),
      λ w.
          let x = fewer c.args.rec.now c.args.old.now c.args.new.now c.in-PostLeaf.high c.in-PostLeaf.items
          c.in-PostLeaf-body.new_high c.in-PostLeaf-body.left c.in-PostLeaf.is c.in-PostLeaf-body.is w in
          absurd (x.some (sym c.as_slice-left.ensures ∙ same.0 (sym c.eq.ensures ∙ c.if-eq.true)
          ∙ c.as_slice-items.ensures)),
    )

pub are_among-requires : goal.are_among-requires
are_among-requires c = record {
  new = subst IsItemList (sym c.as_slice-left.ensures)
      (leaf_items c.args.new.now c.in-PostLeaf-body.new_high c.in-PostLeaf-body.left c.requires.new
      c.in-PostLeaf-body.is);
  old = subst IsItemList (sym c.as_slice-items.ensures)
      (leaf_items c.args.old.now c.in-PostLeaf.high c.in-PostLeaf.items c.requires.old c.in-PostLeaf.is);
}

pub returns : goal.returns
returns c =
    let same = bytes_eq-Decides c.as_slice-left.result.now c.as_slice-items.result.now in (
      λ e. list_left c.args.rec.now c.args.old.now c.args.new.now c.in-PostLeaf.high c.in-PostLeaf.items
          c.in-PostLeaf-body.new_high c.in-PostLeaf-body.left c.in-PostLeaf.is c.in-PostLeaf-body.is (record {
            right = c.if-new-old.false;
            stamp = c.if-new-rec.false;
            high_is = c.if-new_high-high.false;
            some = λ t. false≢true (sym c.if-eq.false ∙ c.eq.ensures
                ∙ same.1 (c.as_slice-left.ensures ∙ t ∙ sym c.as_slice-items.ensures));
            among = subst₂ AreAmong c.as_slice-left.ensures c.as_slice-items.ensures (c.are_among.ensures.0 e);
          }),
      λ w. c.are_among.ensures.1 (subst₂ AreAmong (sym c.as_slice-left.ensures) (sym c.as_slice-items.ensures)
          (fewer c.args.rec.now c.args.old.now c.args.new.now c.in-PostLeaf.high c.in-PostLeaf.items
          c.in-PostLeaf-body.new_high c.in-PostLeaf-body.left c.in-PostLeaf.is c.in-PostLeaf-body.is w).among),
    )
