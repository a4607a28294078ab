use Rattle.std.proofs.Common.{refl, ap, sym, subst, ◌∙◌, ◌∷◌, ◌-◌}
use Rattle.latch_table.specs.Passes.{state}
use Rattle.latch_table.specs.declared.slots.Slot.TheVariants.{Away}
use Rattle.latch_table.specs.Held.{carried}
use Rattle.latch_table.specs.Giving.{CanGive}
use Rattle.latch_table.proofs.Passing.{journal_front, gave_journal_pass}
use Rattle.latch_table.proofs.table.LatchTable.give_back_journal.Goals as goal

pub put_journal-requires-clause-can : goal.put_journal-requires-clause-can
put_journal-requires-clause-can g c =
    subst (λ n. CanGive g.J.Journaled (n - 2) (state c.args.pass.now) c.args.journal
    (g.C.Changes.change (state c.args.pass.now) c.args.journal))
    (sym c.slot_count-word.ensures) c.requires.can

pub put_journal-requires-clause-front : goal.put_journal-requires-clause-front
put_journal-requires-clause-front g c =
    let b = c.requires.can in (
      carried (state c.args.pass.now).frames,
      journal_front _ c.args.pass.now b.0 c.requires.pass b.1
          ∙ ap (λ n. (n - 2, Away) ∷ carried (state c.args.pass.now).frames) (sym c.slot_count-word.ensures),
    )

pub returns-clause-pass : goal.returns-clause-pass
returns-clause-pass g c =
    let b = c.requires.can in
    gave_journal_pass g.J.Journaled _ c.args.pass.now _ b.0 c.args.journal _ c.requires.pass b.1
    c.put_journal.ensures.same.0
    (c.put_journal.ensures.given b.0 b.1) c.put_journal.ensures.rest refl
