use Rattle.std.proofs.Common.{◌≤◌, ◌+◌, List, length, sym, ap, subst}
use Rattle.std.specs.Prelude.{All}
use Rattle.page_types.specs.Pages.{IsPage}
use Rattle.page_types.specs.Records.{IsRecord}
use Rattle.page_types.specs.declared.record.Record.{Record}
use Rattle.core_state.specs.Allowed.{Sheet}
use Rattle.buffer_frames.specs.Journals.{JournalValue, after_owed, logged_bytes}
use Rattle.buffer_frames.proofs.DrawnRecords.{drew, sheets_made, record_made, sheets_are_pages, drawn_is_record}
use Rattle.buffer_frames.proofs.DrawnRecords.{both_short}
use Rattle.buffer_frames.proofs.journal.Journal.draw.Goals as goal

pub images-requires : goal.images-requires
images-requires g c =
    let j = c.args.self.now in
    let d = drew j.owes j.state c.self.inside.state.value c.args.step.now c.next_number.result c.drawn_xid.result
    c.xid.result c.drawn_kind.result c.kind.result c.kind-2.result c.new.result
    (ap (λ (k : JournalValue g.row.D.Denot). k.state) c.self.view_is) c.next_number.ensures.next c.requires.number
    c.kind.ensures c.kind-2.ensures c.xid.ensures c.drawn_xid.ensures.value c.drawn_xid.ensures.fits
    c.drawn_kind.ensures.value c.drawn_kind.ensures.encoded c.new.ensures c.requires.encoded.kind in
    let made = sheets_made j.owes j.state c.args.step.now c.make_pages.new.self c.next_number.result c.drawn_xid.result
    c.drawn_kind.result c.new.result c.sheets.result.now d c.sheets.ensures c.make_pages.ensures in
    subst (λ (xs : List Sheet). All (λ (x : Sheet). IsPage x.content) xs) (sym made) (sheets_are_pages
    c.pages_are_shown.ensures.made (after_owed j.owes j.state) c.args.step.now c.requires.encoded d.fits)

pub returns-clause-drawn : goal.returns-clause-drawn
returns-clause-drawn g c =
    let j = c.args.self.now in
    let d = drew j.owes j.state c.self.inside.state.value c.args.step.now c.next_number.result c.drawn_xid.result
    c.xid.result c.drawn_kind.result c.kind.result c.kind-2.result c.new.result
    (ap (λ (k : JournalValue g.row.D.Denot). k.state) c.self.view_is) c.next_number.ensures.next c.requires.number
    c.kind.ensures c.kind-2.ensures c.xid.ensures c.drawn_xid.ensures.value c.drawn_xid.ensures.fits
    c.drawn_kind.ensures.value c.drawn_kind.ensures.encoded c.new.ensures c.requires.encoded.kind in
    let made = sheets_made j.owes j.state c.args.step.now c.make_pages.new.self c.next_number.result c.drawn_xid.result
    c.drawn_kind.result c.new.result c.sheets.result.now d c.sheets.ensures c.make_pages.ensures in
    record_made j.owes j.state c.args.step.now c.next_number.result c.drawn_xid.result c.drawn_kind.result c.new.result
    c.in_ok-rec.field-0 c.sheets.result.now d made c.in_ok-rec.ensures

pub returns-clause-encoded : goal.returns-clause-encoded
returns-clause-encoded g c =
    let j = c.args.self.now in
    let d = drew j.owes j.state c.self.inside.state.value c.args.step.now c.next_number.result c.drawn_xid.result
    c.xid.result c.drawn_kind.result c.kind.result c.kind-2.result c.new.result
    (ap (λ (k : JournalValue g.row.D.Denot). k.state) c.self.view_is) c.next_number.ensures.next c.requires.number
    c.kind.ensures c.kind-2.ensures c.xid.ensures c.drawn_xid.ensures.value c.drawn_xid.ensures.fits
    c.drawn_kind.ensures.value c.drawn_kind.ensures.encoded c.new.ensures c.requires.encoded.kind in
    let made = sheets_made j.owes j.state c.args.step.now c.make_pages.new.self c.next_number.result c.drawn_xid.result
    c.drawn_kind.result c.new.result c.sheets.result.now d c.sheets.ensures c.make_pages.ensures in
    subst IsRecord (sym (record_made j.owes j.state c.args.step.now c.next_number.result c.drawn_xid.result
    c.drawn_kind.result c.new.result c.in_ok-rec.field-0 c.sheets.result.now d made c.in_ok-rec.ensures))
    (drawn_is_record c.pages_are_shown.ensures.made
    (after_owed j.owes j.state) c.args.step.now c.requires.encoded d.fits)

pub returns-clause-short : goal.returns-clause-short
returns-clause-short g c =
    let j = c.args.self.now in
    let d = drew j.owes j.state c.self.inside.state.value c.args.step.now c.next_number.result c.drawn_xid.result
    c.xid.result c.drawn_kind.result c.kind.result c.kind-2.result c.new.result
    (ap (λ (k : JournalValue g.row.D.Denot). k.state) c.self.view_is) c.next_number.ensures.next c.requires.number
    c.kind.ensures c.kind-2.ensures c.xid.ensures c.drawn_xid.ensures.value c.drawn_xid.ensures.fits
    c.drawn_kind.ensures.value c.drawn_kind.ensures.encoded c.new.ensures c.requires.encoded.kind in
    let made = sheets_made j.owes j.state c.args.step.now c.make_pages.new.self c.next_number.result c.drawn_xid.result
    c.drawn_kind.result c.new.result c.sheets.result.now d c.sheets.ensures c.make_pages.ensures in
    subst (λ (r : Record). length (logged_bytes j r) ≤ 4194304)
    (sym (record_made j.owes j.state c.args.step.now c.next_number.result c.drawn_xid.result c.drawn_kind.result
    c.new.result c.in_ok-rec.field-0 c.sheets.result.now d made c.in_ok-rec.ensures))
    (both_short c.pages_are_shown.ensures.made j.owes (1 + j.state.records)
    (after_owed j.owes j.state) c.args.step.now c.requires.encoded d.fits)
