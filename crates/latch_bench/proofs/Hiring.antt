-- Passes that are split off for workers, and joined again.
use Rattle.std.proofs.Common.{◌≡◌, refl, sym, ap, subst}
use Rattle.atomic_table.specs.Seated.{TableId}
use Rattle.latch_table.specs.declared.pass.Pass.{Pass}
use Rattle.latch_table.specs.declared.states.PassState.{PassState}
use Rattle.latch_table.specs.PassStates.{split_off, with_less_room, joined}
use Rattle.latch_table.specs.Passes.{state, IsIdle, IsPassOf}
use Rattle.latch_bench.specs.declared.slots.Leaf.{Leaf}
use Rattle.latch_bench.specs.declared.slots.Tally.{Tally}
use Rattle.latch_bench.specs.Hands.{IsFree}

abbrev Idle : PassState Tally → Type 0
Idle v = IsIdle v

-- a pass that was split holds nothing still
pub split_free : (z : TableId) (old new : Pass Leaf Tally) → IsFree z old → IsPassOf z new
    → state new ≡ with_less_room (state old) → IsFree z new
split_free z old new f of_table less =
    let i = f.idle in record {
      of_table = of_table;
      idle = subst Idle (sym less)
          (record { frames = i.frames; journal_is = i.journal_is; work = i.work; pin = i.pin });
    }

-- the second pass holds nothing
pub second_free : (z : TableId) (old second : Pass Leaf Tally) → IsPassOf z second
    → state second ≡ split_off (state old) → IsFree z second
second_free z old second of_table same = record {
  of_table = of_table;
  idle = subst Idle (sym same) (record { frames = refl; journal_is = refl; work = refl; pin = refl });
}

pub second_room : (old second : Pass Leaf Tally) → state second ≡ split_off (state old) → (state second).room ≡ 1
second_room old second same = ap (λ (v : PassState Tally). v.room) same

-- a pass that took in another holds nothing still
pub joined_free : (z : TableId) (old new other : Pass Leaf Tally) → IsFree z old → IsPassOf z new
    → state new ≡ joined (state old) (state other) → IsFree z new
joined_free z old new other f of_table both =
    let i = f.idle in record {
      of_table = of_table;
      idle = subst Idle (sym both)
          (record { frames = i.frames; journal_is = i.journal_is; work = i.work; pin = i.pin });
    }
