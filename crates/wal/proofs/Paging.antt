-- The page file under the calls of the log. For crates above.
use Rattle.std.proofs.Common.{◌≡◌, ◌∙◌, sym, refl, ℕ, List, ap, subst, arith}
use Rattle.disk_trait.specs.Files.{Files}
use Rattle.disk_trait.specs.Device.{Durable}
use Rattle.disk_trait.specs.Runs.{images_now, IsSettled, LeavesOnly, TornFrom}
use Rattle.disk_trait.specs.declared.device.Disk.{Ghosts as Disk}
use Rattle.disk_trait.specs.declared.device.File.TheVariants.{Log, Pages}
use Rattle.disk_trait.proofs.Runs.{started, then, weaker_run}
use Rattle.wal.specs.Creating.{From}
use Rattle.wal.specs.Settled.{LogIs}
use Rattle.wal.specs.Reading.{IsOnlyRead}
use Rattle.wal.specs.Pages.{HasPagesOf, KeepsPages}

same_files : (c d : Files) → c.log ≡ d.log → c.pages ≡ d.pages → c ≡ d
same_files c d log pages =
    let first : c ≡ record { log = d.log; pages = c.pages } =
    ap (λ (l : List ℕ). let f : Files = record { log = l; pages = c.pages } in f) log in
    let second : record { log = d.log; pages = c.pages } ≡ d =
    ap (λ (p : List ℕ). let f : Files = record { log = d.log; pages = p } in f) pages in
    first ∙ second

module _ {D : Type 0} (device : Disk D) where
  pub kept_still : (d : D) → KeepsPages device d d
  kept_still d = started device d (HasPagesOf (images_now device d)) (λ c left. (c, left, refl))

  pub kept_same : (old new : D) → new ≡ old → KeepsPages device old new
  kept_same old new same = subst (λ (d : D). KeepsPages device old d) (sym same) (kept_still old)

  -- a write of the log, torn or not
  pub kept_torn : (old new : D) (at n : ℕ) → LeavesOnly device old new (TornFrom Log at n (images_now device old))
      → KeepsPages device old new
  kept_torn old new at n run = weaker_run device old new (TornFrom Log at n (images_now device old))
      (HasPagesOf (images_now device old)) run (λ c torn. (torn.0, torn.1, torn.2.same))

  pub kept_from : (old new : D) (P : List ℕ → Type 0) → LeavesOnly device old new (From (images_now device old) P)
      → KeepsPages device old new
  kept_from old new P run = weaker_run device old new (From (images_now device old) P)
      (HasPagesOf (images_now device old)) run (λ c from. (from.before, from.was, from.pages))

  pub kept_read : (old new : D) → device.tells → IsOnlyRead device old new → KeepsPages device old new
  kept_read old new told read = weaker_run device old new (images_now device old) (HasPagesOf (images_now device old))
      (read.any_moment told) (λ c left. (c, left, refl))

  -- one call after another
  pub kept_then : (old mid new : D) → KeepsPages device old mid → KeepsPages device mid new → KeepsPages device old new
  kept_then old mid new first second =
      then device old mid new (HasPagesOf (images_now device old)) (HasPagesOf (images_now device mid)) first second
      (λ c from. let earlier = first.each (device.clock mid) from.0 first.later (omega arith) from.1 in
      (earlier.0, earlier.1, from.2 ∙ earlier.2))

  -- pages that are on the disk stay so
  pub pages_stay : (old new : D) (pages : List ℕ) → KeepsPages device old new
      → Durable Pages pages (images_now device old) → Durable Pages pages (images_now device new)
  pages_stay old new pages kept durable = λ c left. let from =
      kept.each (device.clock new) c kept.later (omega arith) left in from.2 ∙ durable from.0 from.1

  -- both files are settled after a call that leaves the log on the disk
  pub files_settled : (old new : D) (log : List ℕ) → KeepsPages device old new → (device.seen new).pages
      ≡ (device.seen old).pages → LogIs device log new → IsSettled device old → IsSettled device new
  files_settled old new log kept same is settled = λ c left.
      let from = kept.each (device.clock new) c kept.later (omega arith) left in
      same_files c (device.seen new) (is.durable c left ∙ sym is.now)
      (from.2 ∙ ap (λ (f : Files). f.pages) (settled from.0 from.1) ∙ sym same)

  pub still_settled : (old new : D) → device.tells → IsOnlyRead device old new → IsSettled device old
      → IsSettled device new
  still_settled old new told read settled = λ c left.
      let run = read.any_moment told in
      settled c (run.each (device.clock new) c run.later (omega arith) left) ∙ sym (read.same told)
