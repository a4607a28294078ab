-- A search for dead documents stands as it did, after calls that log nothing.
use Rattle.std.proofs.Common.{◌≤◌, ℕ, List, [], length, sym, subst, arith}
use Rattle.disk_trait.specs.declared.device.Disk.{Ghosts as Disk}
use Rattle.core_state.specs.Log.{Log, In}
use Rattle.core_state.specs.Allowed.{Sheet}
use Rattle.core_state.specs.Steady.{SteadyHold}
use Rattle.buffer_frames.specs.Frames.{FramesValue}
use Rattle.buffer_frames.specs.Passes.{IsPassOf, IsHolding}
use Rattle.buffer_frames.specs.declared.pass.Pass.{Pass}
use Rattle.gin_place.specs.Going.{WorksOn}
use Rattle.gin_place.specs.Placing.{HasRight}
use Rattle.gin_vacuum.specs.Vacuum.{HasDeadHead}
use Rattle.gin_vacuum.specs.Finding.{IsNext, HaveStill, HaveAll, IsFindingAt}
use Rattle.std.specs.Prelude.{Option}
use Rattle.gin_vacuum.proofs.SeenOn.{seen_on}
use Rattle.gin_vacuum.proofs.FoundDead.{next_behind, dead_on, all_on, still_on}

pub finding_still : {D : Type 0} (device : Disk D) (steady : SteadyHold) (f g : FramesValue D) (p q : Pass)
    (held : List Sheet) → IsHolding device f p held → IsPassOf f p → HasRight p → WorksOn device f p g q []
    → (from floor : ℕ) (next : Option ℕ) (items : List ℕ) → IsFindingAt device f p from floor next items
    → IsFindingAt device g q from floor next items
finding_still device steady f g p q held hold was right works from floor next items x = record {
  some = x.some;
  began = omega (arith, x.began, works.rises.seen);
  under = omega (arith, x.under, works.rises.floor);
  are_items = x.are_items;
  positive = x.positive;
  before = x.before;
  heap = seen_on device f g p q held hold was right works (λ S P. IsNext S next) (λ S P. IsNext S next)
      (λ C later S P Q is some size legal legal' shown shown' quiet n.
      subst (λ (T : Log). IsNext T next) (sym is) (next_behind later C next n))
      x.heap;
  dead = seen_on device f g p q held hold was right works
      (λ S P. (i : ℕ) → In i items → HasDeadHead S P p.floor i)
      (λ S P. (i : ℕ) → In i items → HasDeadHead S P q.floor i)
      (λ C later S P Q is some size legal legal' shown shown' quiet had i on.
      dead_on C later S P Q (steady C later S P Q is some legal legal' shown shown') quiet p.floor q.floor i
      works.rises.floor (had i on))
      x.dead;
  still = seen_on device f g p q held hold was right works (λ S P. HaveStill from floor S P)
      (λ S P. HaveStill from floor S P)
      (λ C later S P Q is some size legal legal' shown shown' quiet had.
      still_on from floor C later S is (let e : from ≤ length C = omega (arith, size, x.began) in e) steady P Q some
      legal legal' shown shown' quiet x.some had)
      x.still;
  all = seen_on device f g p q held hold was right works (λ S P. HaveAll from floor next items S)
      (λ S P. HaveAll from floor next items S)
      (λ C later S P Q is some size legal legal' shown shown' quiet had.
      all_on from floor C later S is (let e : from ≤ length C = omega (arith, size, x.began) in e) next items had)
      x.all;
}
