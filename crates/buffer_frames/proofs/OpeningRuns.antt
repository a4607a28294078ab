-- The device calls of an opening, one after another.
use Rattle.std.proofs.Common.{◌≡◌, ◌⊎◌, inl, inr, ℕ, [], refl, sym, ap, subst, ◌∙◌, arith}
use Rattle.disk_trait.specs.Files.{Files}
use Rattle.disk_trait.specs.Device.{Durable}
use Rattle.disk_trait.specs.Runs.{images_now, LeavesOnly}
use Rattle.disk_trait.specs.declared.device.File.TheVariants.{Pages}
use Rattle.disk_trait.specs.declared.device.Disk.{Ghosts as Disk}
use Rattle.disk_trait.proofs.Runs.{then, weaker_run}
use Rattle.wal.specs.Batches.{IsUnborn, Opens}
use Rattle.wal.specs.Creating.{created, IsLogBefore, IsImageBefore, IsMade}
use Rattle.wal.specs.Reading.{IsOnlyRead}
use Rattle.wal.specs.Settled.{LogIs}
use Rattle.wal.proofs.Keeping.{still_is}
use Rattle.buffer_frames.specs.Inner.Making.{HasRun, RunsFrom}
use Rattle.buffer_frames.proofs.Only.{read_then}

-- a new log has no batch
pub created_opens : Opens created []
created_opens = inr (record { commit_byte = 0; rest = []; split = refl; unset = λ e. omega (arith, e); fit = tt })

module _ {D : Type 0} (device : Disk D) where
  -- the syncs, and a creation if need be
  pub made_run : (first mid new : D) → device.tells → IsOnlyRead device first mid
      → Durable Pages (device.seen first).pages (images_now device mid)
      → LeavesOnly device mid new (IsImageBefore device mid) → HasRun device first (device.clock mid) new
  made_run first mid new told read durable making = record {
    mid = mid;
    at = refl;
    synced = read.any_moment told;
    rest = weaker_run device mid new (IsImageBefore device mid) _ making (λ c f. (
      f.pages ∙ durable f.before f.was,
      subst (λ (files : Files). IsLogBefore files.log c.log) (read.same told) f.log,
    ));
  }

  -- and what is only read then
  pub run_reads : (first : D) (c0 : ℕ) (mid new : D) → device.tells → HasRun device first c0 mid
      → IsOnlyRead device mid new → HasRun device first c0 new
  run_reads first c0 mid new told run read = record {
    mid = run.mid;
    at = run.at;
    synced = run.synced;
    rest = then device run.mid mid new _ (images_now device mid) run.rest (read.any_moment told) (λ c here.
        run.rest.each (device.clock mid) c run.rest.later (omega arith) here);
  }

  pub runs_on : (first mid new : D) → device.tells → RunsFrom device first mid → IsOnlyRead device mid new
      → RunsFrom device first new
  runs_on first mid new told (inl only) read = inl (read_then device first mid new only read)
  runs_on first mid new told (inr (c0, run)) read = inr (c0, run_reads first c0 mid new told run read)

  pub made_from : (first mid m new : D) → device.tells → IsOnlyRead device first mid → IsMade device mid m
      → IsOnlyRead device m new → IsMade device first new
  made_from first mid m new told before made after =
      let is : device.seen new ≡ device.seen m = after.same told in
      let was : device.seen mid ≡ device.seen first = before.same told in
      record {
        pages = ap (λ (f : Files). f.pages) is ∙ made.pages ∙ ap (λ (f : Files). f.pages) was;
        log_is = subst (λ (f : Files). (f.log ≡ (device.seen first).log)
            ⊎ (IsUnborn (device.seen first).log × (f.log ≡ created))) (sym is)
            (subst (λ (f : Files). ((device.seen m).log ≡ f.log) ⊎ (IsUnborn f.log × ((device.seen m).log ≡ created)))
            was made.log_is);
        born = λ unborn. made.born (subst (λ (f : Files). IsUnborn f.log) is unborn);
        durable = subst (λ (f : Files). LogIs device f.log new) (sym is)
            (still_is device m new told after (device.seen m).log made.durable);
      }
