-- A step of a sweep after calls that log nothing.
use Rattle.std.proofs.Common.{ℕ, List, [], Result, Ok, Err}
use Rattle.disk_trait.specs.declared.device.Disk.{Ghosts as Disk}
use Rattle.buffer_frames.specs.Frames.{FramesValue}
use Rattle.buffer_frames.specs.declared.pass.Pass.{Pass}
use Rattle.gin_place.specs.Going.{WorksOn}
use Rattle.gin_place.specs.Faults.{MetNoFault}
use Rattle.gin_place.specs.declared.error.PlaceError.{PlaceError}
use Rattle.gin_place.proofs.Causing.{finds_after, lawful_before}
use Rattle.gin_place.proofs.Faults.{fine_then, told_then}
use Rattle.gin_vacuum.specs.Stepping.{HasSwept, IsCause, IsBad}
use Rattle.gin_vacuum.specs.declared.sweeping.Sweeping.{Sweeping}
use Rattle.gin_vacuum.proofs.InTurn.{reads_then}

pub swept_after : {D : Type 0} (device : Disk D) → (f g h : FramesValue D) (p q r : Pass)
    → WorksOn device f p g q [] → MetNoFault device f g → (dead : List ℕ) (old new : Sweeping) {T : Type 0}
    (result : Result T PlaceError) → HasSwept device g q h r dead old new result
    → HasSwept device f p h r dead old new result
swept_after device f g h p q r reads fine dead old new (Ok x) s = record {
  sweeping = s.sweeping;
  none_held = s.none_held;
  works = (s.works.0, s.works.1, s.works.2, reads_then device f g h p q r s.works.0 reads s.works.3);
  refused = tt;
  unmoved = tt;
  cause = tt;
  lawful = tt;
  fine = fine_then device f g h fine s.fine;
  fault = tt;
}
swept_after device f g h p q r reads fine dead old new (Err e) s = record {
  sweeping = s.sweeping;
  none_held = s.none_held;
  works = (s.works.0, s.works.1, s.works.2, reads_then device f g h p q r s.works.0 reads s.works.3);
  refused = reads_then device f g h p q r [] reads s.refused;
  unmoved = s.unmoved;
  cause = finds_after device f g p q (IsCause device (IsBad device old) h e) reads fine s.cause;
  lawful = lawful_before device f g p q reads fine e s.lawful;
  fine = tt;
  fault = told_then device f g h e fine s.fault;
}
