-- How a log begins, and what an opening leaves of it.
use Rattle.std.proofs.Common.{◌≡◌, ◌⊎◌, ◌≤◌, ℕ, List, [], length, take, get_or, inl, inr, refl, sym, ap, subst, ◌∙◌}
use Rattle.std.proofs.Common.{arith}
use Rattle.std.proofs.lemmas.List.{get_or-take}
use Rattle.disk_trait.specs.Files.{Files}
use Rattle.disk_trait.specs.Runs.{images_now, LeavesOnly}
use Rattle.disk_trait.specs.declared.device.Disk.{Ghosts as Disk}
use Rattle.disk_trait.proofs.Runs.{then, weaker_run}
use Rattle.wal.specs.Batches.{header, IsUnborn, Opens}
use Rattle.wal.specs.Creating.{From, created, IsLogBefore, IsImageBefore, IsMade}
use Rattle.wal.specs.Reading.{IsOnlyRead, IsForeign}
use Rattle.wal.specs.Settled.{LogIs}
use Rattle.wal.proofs.Keeping.{no_more, still_is}

-- a log with the header is born
pub header_born : (log : List ℕ) → 18 ≤ length log → take 17 log ≡ header → IsUnborn log → ⊥
header_born log long is unborn =
    let first : get_or log 0 0 ≡ 1 =
    sym (get_or-take 17 log 0 0 (omega arith)) ∙ ap (λ (l : List ℕ). get_or l 0 0) is in
    elim unborn [
      | inl short ↦ omega (arith, short)
      | inr unset ↦ unset.1 first
    ]

pub foreign_born : (log : List ℕ) → IsForeign log → IsUnborn log → ⊥
foreign_born log (inl long) (inl short) = omega (arith, long.0, short)
foreign_born log (inl long) (inr unset) = omega (arith, long.0, unset.0)
foreign_born log (inr other) (inl short) = omega (arith, other.1, short)
foreign_born log (inr other) (inr unset) = unset.1 other.0

pub header_known : (log : List ℕ) → take 17 log ≡ header → IsForeign log → ⊥
header_known log is foreign =
    let first : get_or log 0 0 ≡ 1 =
    sym (get_or-take 17 log 0 0 (omega arith)) ∙ ap (λ (l : List ℕ). get_or l 0 0) is in
    elim foreign [
      | inl long ↦ long.1 first
      | inr other ↦ other.2 is
    ]

created_born : IsUnborn created → ⊥
created_born (inl short) = omega (arith, short)
created_born (inr unset) = unset.1 refl

module _ {D : Type 0} (device : Disk D) where
  -- what is only read is as it was
  pub read_before : (old new : D) → device.tells → IsOnlyRead device old new → LogIs device (device.seen old).log old
      → LeavesOnly device old new (IsImageBefore device old)
  read_before old new told read is =
      weaker_run device old new (images_now device old) (IsImageBefore device old) (read.any_moment told)
      (λ c here. record { before = c; was = here; pages = refl; log = inl (is.durable c here) })

  -- a log that is there
  pub made_born : (old new : D) → device.tells → IsOnlyRead device old new → LogIs device (device.seen old).log old
      → (IsUnborn (device.seen old).log → ⊥) → IsMade device old new
  made_born old new told read is born = record {
    pages = ap (λ (f : Files). f.pages) (read.same told);
    log_is = inl (ap (λ (f : Files). f.log) (read.same told));
    born = λ unborn. born (subst (λ (f : Files). IsUnborn f.log) (read.same told) unborn);
    durable = subst (λ (f : Files). LogIs device f.log new) (sym (read.same told))
        (still_is device old new told read (device.seen old).log is);
  }

  -- a log that was created
  pub made_new : (old new : D) → IsUnborn (device.seen old).log → LogIs device created new
      → (device.seen new).pages ≡ (device.seen old).pages → IsMade device old new
  made_new old new unborn is pages = record {
    pages = pages;
    log_is = inr (unborn, is.now);
    born = λ again. created_born (subst IsUnborn is.now again);
    durable = subst (λ (l : List ℕ). LogIs device l new) (sym is.now) is;
  }

  pub new_before : (old new : D) → IsUnborn (device.seen old).log → LeavesOnly device old new (From
      (images_now device old) (λ (log : List ℕ). Opens log [])) → LeavesOnly device old new (IsImageBefore device old)
  new_before old new unborn making =
      weaker_run device old new (From (images_now device old) (λ (log : List ℕ). Opens log []))
      (IsImageBefore device old) making
      (λ c f. record { before = f.before; was = f.was; pages = f.pages; log = inr (unborn, f.log) })

  -- after a reading of the log
  pub read_then_before : (old mid new : D) → device.tells → IsOnlyRead device old mid
      → LogIs device (device.seen old).log old → LeavesOnly device mid new (IsImageBefore device mid)
      → LeavesOnly device old new (IsImageBefore device old)
  read_then_before old mid new told read is making =
      then device old mid new (IsImageBefore device old) (IsImageBefore device mid)
      (read_before old mid told read is) making
      (λ c f. record {
        before = f.before;
        was = no_more device old mid told read f.before f.was;
        pages = f.pages;
        log = subst (λ (files : Files). IsLogBefore files.log c.log) (read.same told) f.log;
      })

  pub read_then_made : (old mid new : D) → device.tells → IsOnlyRead device old mid → IsMade device mid new
      → IsMade device old new
  read_then_made old mid new told read made =
      let was : device.seen mid ≡ device.seen old = read.same told in
      record {
        pages = made.pages ∙ ap (λ (f : Files). f.pages) was;
        log_is = subst (λ (f : Files). ((device.seen new).log ≡ f.log)
            ⊎ (IsUnborn f.log × ((device.seen new).log ≡ created))) was made.log_is;
        born = made.born;
        durable = made.durable;
      }
