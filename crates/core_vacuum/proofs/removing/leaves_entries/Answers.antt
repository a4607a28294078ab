use Rattle.std.proofs.Common.{sym, ap, ◌∙◌}
use Rattle.std.proofs.lemmas.Bool.{false≢true}
use Rattle.std.proofs.lemmas.Slice.Eq.{bytes_eq-Decides}
use Rattle.std.specs.Prelude.{not}
use Rattle.core_vacuum.proofs.GoneItems.{leaf_entries, bytes_same}
use Rattle.core_vacuum.proofs.LeftPages.{no_entries, no_entries_then, entries_left, went}
use Rattle.core_vacuum.proofs.removing.leaves_entries.Goals as goal
use Rattle.core_vacuum.proofs.removing.leaves_entries.Goals.{then-new-old-via-then-new-old}
use Rattle.core_vacuum.proofs.removing.leaves_entries.Goals.{then-new-old-via-else-new-old+then-new-rec}
use Rattle.core_vacuum.proofs.removing.leaves_entries.Goals.{then-new-old-via-else-new-old+else-new-rec+then-ne}

pub returns-in_default : goal.returns-in_default
returns-in_default c = (
  λ e. absurd (false≢true e),
  λ w. absurd (no_entries c.args.rec.now c.args.old.now c.args.new.now c.in_default.not-EntryLeaf w),
)

pub returns-in_default-body : goal.returns-in_default-body
returns-in_default-body c = (
  λ e. absurd (false≢true e),
  λ w. absurd (no_entries_then c.args.rec.now c.args.old.now c.args.new.now c.in_default-body.not-EntryLeaf w),
)

pub returns-then-new-old : goal.returns-then-new-old
returns-then-new-old c = (
  λ e. absurd (false≢true e),
  λ w.
      let x = went c.args.rec.now c.args.old.now c.args.new.now c.in-EntryLeaf.high c.in-EntryLeaf.entries
      c.in-EntryLeaf-body.new_high c.in-EntryLeaf-body.new_entries c.in-EntryLeaf.is c.in-EntryLeaf-body.is w in
      elim c.then-new-old.branch [
        | then-new-old-via-then-new-old v ↦ absurd (v.if-new-old.true x.right)
        | then-new-old-via-else-new-old+then-new-rec v ↦ absurd (v.if-new-rec.true x.stamp)
        | then-new-old-via-else-new-old+else-new-rec+then-ne v ↦
            let same = (bytes_eq-Decides v.as_slice.result.now v.as_slice-else-new-rec.result.now).1
            (v.as_slice.ensures ∙ x.high_is ∙ sym v.as_slice-else-new-rec.ensures) in
            absurd (false≢true (sym (v.ne.ensures ∙ ap not same) ∙ v.if-ne.true))
      ],
)

pub entries_go-requires : goal.entries_go-requires
entries_go-requires c = record {
  old = leaf_entries c.args.old.now c.in-EntryLeaf.high c.in-EntryLeaf.entries c.requires.old c.in-EntryLeaf.is;
  new = leaf_entries c.args.new.now c.in-EntryLeaf-body.new_high c.in-EntryLeaf-body.new_entries c.requires.new
      c.in-EntryLeaf-body.is;
}

pub returns : goal.returns
returns c = (
  λ e. entries_left c.args.rec.now c.args.old.now c.args.new.now c.in-EntryLeaf.high c.in-EntryLeaf.entries
      c.in-EntryLeaf-body.new_high c.in-EntryLeaf-body.new_entries c.in-EntryLeaf.is c.in-EntryLeaf-body.is (record {
        right = c.if-new-old.false;
        stamp = c.if-new-rec.false;
        high_is = sym c.as_slice.ensures ∙ bytes_same c.as_slice.result.now c.as_slice-else-new-rec.result.now
            c.ne.result c.ne.ensures c.if-ne.false ∙ c.as_slice-else-new-rec.ensures;
        go = c.entries_go.ensures.0 e;
      }),
  λ w. c.entries_go.ensures.1
      (went c.args.rec.now c.args.old.now c.args.new.now c.in-EntryLeaf.high c.in-EntryLeaf.entries
      c.in-EntryLeaf-body.new_high c.in-EntryLeaf-body.new_entries c.in-EntryLeaf.is c.in-EntryLeaf-body.is w).go,
)
