-- A scan that has begun, and read nothing yet.
use Rattle.std.specs.Prelude.{◌≡◌, ℕ, List, [], length, map, replicate, Vec}
use Rattle.std.specs.declared.alloc.Global.{Global}
use Rattle.core_state.specs.PageChoice.{IsLeast, AreBelow}
use Rattle.gin_opclass.specs.declared.QueryKeys.{QueryKeys}
use Rattle.buffer_frames.specs.Frames.{FramesValue}
use Rattle.gin_hits.specs.Rows.{asked_by, lists_of}
use Rattle.gin_hits.specs.Ordered.{AreOrdered, asked_at}
use Rattle.gin_hits.specs.declared.hits.Hits.{Hits}
use Rattle.gin_scan.specs.Reading.{IsNoHit, IsUnread}
use Rattle.gin_scan.specs.declared.scan_core.ScanCore.{ScanCore}
use Rattle.gin_scan.specs.declared.stage.Stage.TheVariants as stage

-- made of these parts
pub record IsNewScan (keys : QueryKeys) (order : Vec ℕ Global) (extent : ℕ) (pending main : Hits) (s : ScanCore)
    : Type 0 where
  pub keys_are : s.keys ≡ keys
  pub order_is : s.order ≡ order
  pub extent_is : s.extent ≡ extent
  pub stage_is : s.stage ≡ stage.Meta
  pub pending_is : s.pending ≡ pending
  pub main_is : s.main ≡ main
  pub unread : IsNoHit pending → IsNoHit main → IsUnread s

-- for these keys, of pages that go as far as those of the frames
pub record IsBegun {D : Type 0} (f : FramesValue D) (keys : QueryKeys) (s : ScanCore) : Type 0 where
  pub keys_are : s.keys ≡ keys
  pub ordered : AreOrdered (map asked_by keys.keys.items) (map (asked_at keys.keys.items) s.order.items)
  pub extent_is : IsLeast (AreBelow f.journal.state) s.extent
  pub stage_is : s.stage ≡ stage.Meta
  pub pending : lists_of s.pending ≡ replicate {A = List ℕ} (length keys.keys.items) []
  pub main : lists_of s.main ≡ replicate {A = List ℕ} (length keys.keys.items) []
  pub unread : IsUnread s
