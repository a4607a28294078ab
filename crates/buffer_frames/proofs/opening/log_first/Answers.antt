use Rattle.std.proofs.Common.{◌≡◌, ◌≤◌, ◌∙◌, ◌++◌, ℕ, List, length, sym, ap, subst}
use Rattle.page_types.specs.Records.{IsRecord, record_bytes}
use Rattle.page_types.specs.declared.record.Record.{Record}
use Rattle.buffer_frames.specs.First.{first_record}
use Rattle.buffer_frames.proofs.FirstRecord.{first_encoded, first_short}
use Rattle.buffer_frames.proofs.opening.log_first.Goals as goal

pub encode_record-requires : goal.encode_record-requires
encode_record-requires c = subst IsRecord (sym c.in_ok-rec.ensures) first_encoded

pub append-requires-clause-short : goal.append-requires-clause-short
append-requires-clause-short c =
    let bytes : c.deref.result.now ≡ record_bytes first_record = c.deref.ensures.value
    ∙ c.in_ok-encode_record.ensures.ok ∙ ap (λ (l : List ℕ). l ++ record_bytes c.in_ok-rec.rec)
    c.new-bytes.ensures.items ∙ ap (λ (r : Record). record_bytes r) c.in_ok-rec.ensures in
    subst (λ (l : List ℕ). length l ≤ 4194304) (sym bytes) first_short
