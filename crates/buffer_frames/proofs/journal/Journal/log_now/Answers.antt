use Rattle.std.proofs.Common.{◌≤◌, sym, ap, subst, ◌∙◌}
use Rattle.page_types.specs.declared.record.Record.{Record}
use Rattle.buffer_frames.specs.Journals.{JournalValue, after_owed}
use Rattle.buffer_frames.specs.Opens.{IsLoggedKind}
use Rattle.buffer_frames.proofs.Beginning.{drawn_is_logged}
use Rattle.page_types.specs.Records.{IsRecord}
use Rattle.core_state.specs.Log.{xid_bound}
use Rattle.buffer_frames.proofs.DrawnRecords.{owed_number}
use Rattle.buffer_frames.proofs.Logged.{can_draw}
use Rattle.buffer_frames.proofs.journal.Journal.log_now.Goals as goal

pub put-requires-clause-next : goal.put-requires-clause-next
put-requires-clause-next g c =
    ap (λ (r : Record). r.number) c.in_ok-rec.ensures.drawn ∙ owed_number c.args.self.now.owes c.args.self.now.state

pub put-requires-clause-kind : goal.put-requires-clause-kind
put-requires-clause-kind g c =
    subst (λ (r : Record). IsLoggedKind r.kind) (sym c.in_ok-rec.ensures.drawn)
    (drawn_is_logged (after_owed c.args.self.now.owes c.args.self.now.state) c.args.step.now.kind c.requires.kind)

pub returns-clause-can_draw : goal.returns-clause-can_draw
returns-clause-can_draw g c =
    let limit : c.args.self.now.state.xid_limit ≤ xid_bound =
    subst (λ (k : JournalValue g.row.D.Denot). k.state.xid_limit ≤ xid_bound) c.self.view_is c.self.invariant.3 in
    can_draw c.args.self.now c.args.step.now
    (subst IsRecord c.in_ok-rec.ensures.drawn c.in_ok-rec.ensures.encoded) c.requires.xids limit
