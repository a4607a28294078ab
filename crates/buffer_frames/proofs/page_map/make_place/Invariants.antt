use Rattle.std.proofs.Common.{◌≡◌, ◌++◌, replicate}
use Rattle.std.specs.Prelude.{None}
use Rattle.std.specs.Vec.{vec_capacity}
use Rattle.buffer_frames.proofs.page_map.make_place.Given as goal

abbrev pub invariant-loop-added : goal.invariant-loop-added
invariant-loop-added l = (l.pages.items ≡ l.initial.pages.items ++ replicate l.added None)
    × (vec_capacity l.pages ≡ vec_capacity l.initial.pages)
