use Rattle.std.proofs.Common.{◌≡◌, ◌++◌, replicate}
use Rattle.std.specs.Vec.{vec_capacity}
use Rattle.buffer_frames.specs.declared.home.Home.TheVariants.{Free}
use Rattle.buffer_frames.proofs.home.make_home.Given as goal

abbrev pub invariant-loop-added : goal.invariant-loop-added
invariant-loop-added l = (l.homes.items ≡ l.initial.homes.items ++ replicate l.added Free)
    × (vec_capacity l.homes ≡ vec_capacity l.initial.homes)
