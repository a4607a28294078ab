-- A sweep after calls that log nothing.
use Rattle.std.proofs.Common.{◌≤◌, ℕ, List, []}
use Rattle.disk_trait.specs.declared.device.Disk.{Ghosts as Disk}
use Rattle.core_state.specs.Log.{Log, Pages, In}
use Rattle.core_state.specs.VacuumRules.{MayLeave}
use Rattle.core_state.specs.Allowed.{Sheet}
use Rattle.core_vacuum.proofs.Out.{leave_kept}
use Rattle.buffer_frames.specs.Frames.{FramesValue}
use Rattle.buffer_frames.specs.Passes.{IsPassOf, IsHolding, Seen}
use Rattle.buffer_frames.specs.declared.pass.Pass.{Pass}
use Rattle.gin_place.specs.Placing.{HasRight}
use Rattle.gin_place.specs.Going.{WorksOn}
use Rattle.gin_vacuum.specs.Vacuum.{AreDead}
use Rattle.gin_vacuum.specs.Sweeping.{IsAt, IsSweeping}
use Rattle.gin_vacuum.specs.declared.sweeping.Sweeping.{Sweeping}
use Rattle.gin_vacuum.specs.declared.sweeping.Stage.{Stage}
use Rattle.gin_vacuum.proofs.FoundDead.{dead_more}
use Rattle.gin_vacuum.proofs.Kept.{at_then}
use Rattle.gin_vacuum.proofs.StaysOn.{seen_on}

pub leave_more : (S : Log) (P : Pages) (n m i : ℕ) → n ≤ m → MayLeave S P n i → MayLeave S P m i
leave_more S P n m i le x = record {
  doc = x.doc;
  head = x.head;
  item = x.item;
  has = x.has;
  dead = dead_more S n m x.doc le x.dead;
  no_row = x.no_row;
}

module _ {D : Type 0} (device : Disk D) (f g : FramesValue D) (p q : Pass) (right : HasRight p) (was : IsPassOf f p)
    (w : WorksOn device f p g q []) (dead : List ℕ) (held : List Sheet) (hold : IsHolding device f p held) where
  pub dead_on : AreDead device f p dead → AreDead device g q dead
  dead_on had =
      seen_on device f g p q held hold was right w.added w.rises w.is_pass
      (λ S P. (i : ℕ) → In i dead → MayLeave S P p.floor i) (λ S P. (i : ℕ) → In i dead → MayLeave S P q.floor i)
      (λ S S' P Q s leave i in_dead.
      leave_more S' Q p.floor q.floor i w.rises.floor
      (leave_kept S S' P Q s.index s.ends p.floor i (leave i in_dead))) had

  pub at_on : (m : Sweeping) (t : Stage) → Seen device f p (λ S P. IsAt P dead m t)
      → Seen device g q (λ S P. IsAt P dead m t)
  at_on m t had =
      seen_on device f g p q held hold was right w.added w.rises w.is_pass
      (λ S P. IsAt P dead m t) (λ S P. IsAt P dead m t)
      (λ S S' P Q s at. at_then S S' P Q s dead m t at) had

  pub sweeping_on : (m : Sweeping) → IsSweeping device f p dead m → IsSweeping device g q dead m
  sweeping_on m had = record { leave = dead_on had.leave; at = at_on m m.stage had.at; high = had.high }
