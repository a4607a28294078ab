use Rattle.std.proofs.Common.{◌≡◌, ◌++◌, ℕ, suc, List, length, drop, sym, ap, ◌∙◌, arith, length-append}
use Rattle.std.proofs.lemmas.List.{drop_at}
use Rattle.page_types.specs.Records.{record_bytes}
use Rattle.page_types.specs.declared.record.Record.{Record}
use Rattle.core_state.specs.States.{StateValue}
use Rattle.buffer_frames.proofs.BatchRecords.{some_bytes, one_record}
use Rattle.buffer_frames.proofs.Steps.{state_number}
use Rattle.buffer_frames.proofs.ReadingOn.{read_more}
use Rattle.buffer_frames.proofs.records.read_record.Goals as goal
use Rattle.buffer_frames.proofs.records.read_record.Goals.{then-rec-eq0-via-then-rec-eq0}
use Rattle.buffer_frames.proofs.records.read_record.Goals.{then-rec-eq0-via-else-rec-eq0+then-rec-length}

pub returns-then-rec-eq0-clause-refused : goal.returns-then-rec-eq0-clause-refused
returns-then-rec-eq0-clause-refused g c = λ file pages xid_limit R read told at r behind is encoded number can.
    let found = c.in_ok-rec.ensures.found in
    let same = one_record r c.in_ok-rec.rec behind found.encoded.0 is found.is_record (sym encoded ∙ found.encoded.1) in
    let number_is : c.in_ok-rec.rec.number ≡ suc (length R) = ap (λ (x : Record). x.number) (sym same.0) ∙ number in
    let count : c.args.state.now.value.records ≡ length R =
    ap (λ (s : StateValue). s.records) read.state_is ∙ state_number pages xid_limit R read.numbered in
    elim c.then-rec-eq0.branch [
      | then-rec-eq0-via-then-rec-eq0 w ↦ omega (arith, w.if-rec-eq0, number_is)
      | then-rec-eq0-via-else-rec-eq0+then-rec-length w ↦ omega
          (arith, w.if-rec-eq0, w.if-rec-length, number_is, count, w.length.ensures)
    ]

pub returns-clause-length : goal.returns-clause-length
returns-clause-length g c =
    let found = c.in_ok-rec.ensures.found in (
      omega (arith, some_bytes c.in_ok-rec.rec, found.size),
      omega
          (arith, found.size, ap length found.encoded.1, length-append (record_bytes c.in_ok-rec.rec) found.encoded.0),
    )

pub returns-clause-read : goal.returns-clause-read
returns-clause-read g c = λ file pages xid_limit R read.
    let found = c.in_ok-rec.ensures.found in
    let count : c.args.state.now.value.records ≡ length R =
    ap (λ (s : StateValue). s.records) read.state_is ∙ state_number pages xid_limit R read.numbered in
    let number : c.in_ok-rec.rec.number ≡ suc (length R) =
    omega (arith, c.if-rec-eq0.false, c.if-rec-length.false, c.length.ensures, count) in
    record {
      first = c.in_ok-rec.rec;
      encoded =
          found.encoded.1 ∙ ap (λ (l : List ℕ). record_bytes c.in_ok-rec.rec ++ l)
          (sym (drop_at (record_bytes c.in_ok-rec.rec) found.encoded.0 c.in_ok-rec.size found.size)
          ∙ ap (drop c.in_ok-rec.size) (sym found.encoded.1));
      is_read =
          read_more g.D.Disk c.args.disk.now c.change_pages.new.disk file pages xid_limit c.args.state.now.value
          c.step.new.self.value c.args.map.now c.change_pages.new.map R c.in_ok-rec.rec read
          c.change_pages.ensures.keeps found.is_record number c.in_ok-step.ensures.stepped
          c.in_ok-change_pages.ensures.made;
    }
