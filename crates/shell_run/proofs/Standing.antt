-- A device that nothing has touched.
use Rattle.std.proofs.Common.{refl}
use Rattle.disk_trait.specs.Runs.{LeavesOnly, images_now}
use Rattle.disk_trait.specs.declared.device.Disk.{Ghosts as Disk}
use Rattle.disk_trait.proofs.Runs.{started}
use Rattle.engine.specs.Finding.{History}
use Rattle.engine.specs.Opening.{OpensTo, StartedFrom, OpensAsBefore, HasSamePages, HasPagesOf, IsOnlyRead}

module _ {D : Type 0} (device : Disk D) where
  pub same_pages : (d : D) → HasSamePages device d d
  same_pages d =
      let run : LeavesOnly device d d (HasPagesOf (images_now device d)) =
      started device d (HasPagesOf (images_now device d)) (λ c left. (c, left, refl)) in
      record { now = refl; images = λ m c ge le left. run.each m c ge le left }

  -- it opens to what it did
  pub as_before_same : (d : D) → StartedFrom device d → OpensAsBefore device d d
  as_before_same d s =
      let run : LeavesOnly device d d (images_now device d) = started device d (images_now device d) (λ c left. left) in
      record {
        images = λ m c ge le left.
            let here : images_now device d c = run.each m c ge le left in
            let k : (H : History) × OpensTo c H = s.images c here in
            (k.0, k.1, (c, here, k.1));
      }

  -- it is only read
  pub only_same : (d : D) → IsOnlyRead device d d
  only_same d = record { same = λ t. refl; any_moment = λ t. started device d (images_now device d) (λ c left. left) }
