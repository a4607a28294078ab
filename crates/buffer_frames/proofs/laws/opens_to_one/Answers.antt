use Rattle.std.proofs.Common.{◌≡◌, subst}
use Rattle.core_state.specs.Log.{Log}
use Rattle.core_state.specs.History.{IsHistory}
use Rattle.buffer_frames.proofs.laws.opens_to_one.Goals as goal

pub returns : goal.returns
returns c = λ files H K a b.
    let same : a.records ≡ b.records = c.counted_are_one.ensures files.log a.records b.records a.counted b.counted in
    c.history_is_one.ensures.one b.records H K (subst (λ (R : Log). IsHistory R H) same a.log_of.history)
    b.log_of.history
