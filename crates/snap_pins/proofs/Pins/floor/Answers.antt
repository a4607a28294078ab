use Rattle.std.proofs.Common.{◌≡◌, ◌+◌, ℕ, Some, None, slice_get, sym, ◌∙◌, ap, subst}
use Rattle.std.proofs.lemmas.Option.{slice_get-get_or}
use Rattle.snap_pins.specs.declared.Pin.{Pin}
use Rattle.snap_pins.proofs.Least.{IsLeastOf, free_more, pin_more, all_places}
use Rattle.snap_pins.proofs.Pins.floor.Goals.{in-Some, in_default}
use Rattle.snap_pins.proofs.Pins.floor.Goals as goal

pub loop-place-preserved : goal.loop-place-preserved
loop-place-preserved c =
    let n = c.loop-place.place-index in
    let places = c.self.inside.places in
    let read = slice_get-get_or places n None (rw c.self.invariant c.loop-place-test.true) in
    elim c.match-place.branch [
      | in-Some w ↦
          let at = read ∙ ap Some w.in-Some.is in
          let commits = pin_more places (λ p. p.commits) c.args.commits n c.loop-place.floor.0 w.in-Some.pin
          c.loop-place.invariant.0 at in
          let length = pin_more places (λ p. p.length) c.args.length n c.loop-place.floor.1 w.in-Some.pin
          c.loop-place.invariant.1 at in
          (rw (w.floor-is, w.min.ensures) commits, rw (w.floor-is, w.min-in-Some.ensures) length)
      | in_default w ↦
          let at = read ∙ ap Some w.in_default.is in
          let commits =
          free_more places (λ p. p.commits) c.args.commits n c.loop-place.floor.0 c.loop-place.invariant.0 at in
          let length =
          free_more places (λ p. p.length) c.args.length n c.loop-place.floor.1 c.loop-place.invariant.1 at in
          (rw w.floor-is commits, rw w.floor-is length)
    ]
