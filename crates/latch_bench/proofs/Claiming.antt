-- The frame that was claimed last is noted, with its value.
use Rattle.std.proofs.Common.{◌≡◌, ℕ, List, [], refl, sym, subst, inl}
use Rattle.core_state.specs.Log.{In}
use Rattle.latch_table.specs.declared.states.Note.{Note}
use Rattle.latch_table.specs.declared.states.PassState.{PassState}
use Rattle.latch_table.specs.Told.{HasClaimed}
use Rattle.latch_bench.specs.declared.slots.Leaf.{Leaf}
use Rattle.latch_bench.specs.declared.slots.Tally.{Tally}
use Rattle.latch_bench.specs.Slots.{leaf, tally}

abbrev Noted : List Note → ℕ → Leaf → Type 0
Noted fs frame f = (note : Note) × In note fs × (note.frame ≡ frame) × (f.page ≡ note.page) × ([] ≡ note.bytes)

pub noted_first : (frame page : ℕ) (f : Leaf) (old new : PassState Tally) → HasClaimed leaf tally frame page f old new
    → Noted new.frames frame f
noted_first frame page f old new h =
    let note : Note = record { frame = frame; page = f.page; bytes = []; content = h.content } in
    (note, subst (λ (v : PassState Tally). In note v.frames) (sym h.state) (inl refl), refl, refl, refl)
