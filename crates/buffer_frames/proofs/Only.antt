-- Runs of calls that only read.
use Rattle.std.proofs.Common.{refl, ◌∙◌}
use Rattle.disk_trait.specs.Runs.{images_now}
use Rattle.disk_trait.specs.declared.device.Disk.{Ghosts as Disk}
use Rattle.disk_trait.proofs.Runs.{started, then}
use Rattle.wal.specs.Reading.{IsOnlyRead}
use Rattle.wal.proofs.Keeping.{no_more}

module _ {D : Type 0} (device : Disk D) where
  pub none_read : (d : D) → IsOnlyRead device d d
  none_read d =
      record { same = λ told. refl; any_moment = λ told. started device d (images_now device d) (λ c left. left) }

  -- one run after another
  pub read_then : (old mid new : D) → IsOnlyRead device old mid → IsOnlyRead device mid new → IsOnlyRead device old new
  read_then old mid new first second = record {
    same = λ told. second.same told ∙ first.same told;
    any_moment =
        λ told. then device old mid new (images_now device old) (images_now device mid) (first.any_moment told)
        (second.any_moment told) (no_more device old mid told first);
  }
