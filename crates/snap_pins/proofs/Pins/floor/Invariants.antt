use Rattle.snap_pins.proofs.Least.{IsLeastOf}
use Rattle.snap_pins.proofs.Pins.floor.Given as goal

-- the least numbers so far
abbrev pub invariant-loop-place : goal.invariant-loop-place
invariant-loop-place l =
    IsLeastOf l.place-items (λ p. p.commits) l.commits l.place-index l.floor.0
    × IsLeastOf l.place-items (λ p. p.length) l.length l.place-index l.floor.1
