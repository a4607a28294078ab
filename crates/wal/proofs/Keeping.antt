-- A device that is only read. For crates above.
use Rattle.std.proofs.Common.{◌∙◌, ℕ, List, ap, arith}
use Rattle.disk_trait.specs.Files.{Files}
use Rattle.disk_trait.specs.Runs.{images_now}
use Rattle.disk_trait.specs.declared.device.Disk.{Ghosts as Disk}
use Rattle.wal.specs.Settled.{LogIs}
use Rattle.wal.specs.Reading.{IsOnlyRead}

module _ {D : Type 0} (device : Disk D) (old new : D) where
  -- a crash leaves no more than before
  pub no_more : device.tells → IsOnlyRead device old new → (c : Files) → images_now device new c
      → images_now device old c
  no_more told read c left =
      let run = read.any_moment told in run.each (device.clock new) c run.later (omega arith) left

  -- the log is as it was
  pub still_is : device.tells → IsOnlyRead device old new → (log : List ℕ) → LogIs device log old → LogIs device log new
  still_is told read log is = record {
    now = ap (λ (f : Files). f.log) (read.same told) ∙ is.now;
    durable = λ c left. is.durable c (no_more told read c left);
  }
