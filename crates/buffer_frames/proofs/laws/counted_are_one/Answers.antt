use Rattle.std.proofs.Common.{◌≡◌, List, ℕ, subst}
use Rattle.buffer_frames.specs.Counted.{AreRecords}
use Rattle.buffer_frames.proofs.BatchRecords.{one_log}
use Rattle.buffer_frames.proofs.laws.counted_are_one.Goals as goal

pub returns : goal.returns
returns c = λ bytes R S a b.
    let same : a.batches ≡ b.batches = c.one_list.ensures.opens bytes a.batches b.batches a.opens b.opens in
    one_log b.batches R S (subst (λ (l : List (List ℕ)). AreRecords l R) same a.records) b.records
