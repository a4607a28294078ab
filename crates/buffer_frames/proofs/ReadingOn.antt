-- What has been read of a log, one record more.
use Rattle.std.proofs.Common.{◌≡◌, ◌||◌, ℕ, suc, List, ◌∷◌, length, sym, ap, subst, ◌∙◌}
use Rattle.disk_trait.specs.Files.{Files}
use Rattle.disk_trait.specs.declared.device.Disk.{Ghosts as Disk}
use Rattle.wal.specs.Reading.{IsOnlyRead}
use Rattle.page_types.specs.Edits.{CanEdit}
use Rattle.page_types.specs.Records.{IsRecord}
use Rattle.page_types.specs.declared.record.Change.{Change}
use Rattle.page_types.specs.declared.record.Record.{Record}
use Rattle.core_state.specs.Log.{Log, In, after_changes}
use Rattle.core_state.specs.States.{StateValue, step_of}
use Rattle.buffer_frames.specs.Applied.{applied, CanApply}
use Rattle.buffer_frames.specs.Inner.Reads.{stands, bytes_over, HasPages, MakesChanges, IsRead}
use Rattle.buffer_frames.specs.declared.page_map.PageMap.{PageMap}

has_more : (file : List ℕ) (map map' : PageMap) (r : Record) (R : Log) → HasPages file map R
    → MakesChanges file map map' r.number r.changes → HasPages file map' (r ∷ R)
unfolding applied
has_more file map map' r R has made = record {
  bytes = λ p. made.bytes p ∙ ap (after_changes r.number r.changes p) (has.bytes p);
  there = λ p. made.there p ∙ ap (λ b. stands p r.changes || b) (has.there p);
}

applies_more : (file : List ℕ) (map map' : PageMap) (r : Record) (R : Log) → HasPages file map R
    → MakesChanges file map map' r.number r.changes → (c : Change) → In c r.changes
    → CanEdit c.edit (applied file R c.page)
applies_more file map map' r R has made c i = subst (CanEdit c.edit) (has.bytes c.page) (made.can c i)

pub read_more : {D : Type 0} (device : Disk D) (old new : D) (file : List ℕ) (pages xid_limit : ℕ) (s s' : StateValue)
    (map map' : PageMap) (R : Log) (r : Record) → IsRead device old file pages xid_limit s map R
    → IsOnlyRead device old new → IsRecord r → r.number ≡ suc (length R) → s' ≡ step_of r s
    → (device.tells → MakesChanges (device.seen old).pages map map' r.number r.changes)
    → IsRead device new file pages xid_limit s' map' (r ∷ R)
read_more device old new file pages xid_limit s s' map map' R r read only is number step made = record {
  file_is = λ told. ap (λ (f : Files). f.pages) (only.same told) ∙ read.file_is told;
  numbered = (read.numbered, number);
  each = (is, read.each);
  state_is = step ∙ ap (step_of r) read.state_is;
  applies = λ told. (read.applies told, applies_more file map map' r R (read.has told) (here told));
  has = λ told. has_more file map map' r R (read.has told) (here told);
}
  where
    here : device.tells → MakesChanges file map map' r.number r.changes
    here told = subst (λ (f : List ℕ). MakesChanges f map map' r.number r.changes) (read.file_is told) (made told)

-- a record whose changes can be made after a log can be made to the map of that log
pub can_change : {D : Type 0} (device : Disk D) (old : D) (file : List ℕ) (pages xid_limit : ℕ) (s : StateValue)
    (map : PageMap) (R : Log) (r : Record) → IsRead device old file pages xid_limit s map R → device.tells
    → CanApply file (r ∷ R) → (c : Change) → In c r.changes → CanEdit c.edit
    (bytes_over (device.seen old).pages map c.page)
can_change device old file pages xid_limit s map R r read told can c i =
    subst (λ (f : List ℕ). CanEdit c.edit (bytes_over f map c.page)) (sym (read.file_is told))
    (subst (CanEdit c.edit) (sym ((read.has told).bytes c.page)) (can.1 c i))
