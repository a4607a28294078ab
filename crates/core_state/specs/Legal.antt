-- Legal logs, and the pins that they keep.
use Rattle.std.specs.Prelude.{◌≡◌, ◌≢◌, ◌⊎◌, ℕ, suc, ◌≤◌, List, [], ◌∷◌, length, ⊤}
use Rattle.page_types.specs.Edits.{CanEdit}
use Rattle.page_types.specs.Records.{IsRecord}
use Rattle.page_types.specs.declared.record.Change.{Change}
use Rattle.page_types.specs.declared.record.Edit.TheVariants.{Image}
use Rattle.page_types.specs.declared.record.Record.{Record}
use Rattle.page_types.specs.declared.record.Kind.TheVariants as kind
use Rattle.core_state.specs.Log.{Log, Pages, In, Shows, changed, commits, cut, replay}
use Rattle.core_state.specs.TransactionRules.{IsCreate, IsBegin, IsCommit, IsAbort, IsCheckpoint}
use Rattle.core_state.specs.HeapRules.{IsPlaceHead, IsPutOverflow, IsMarkDeleted}
use Rattle.core_state.specs.PendingRules.{IsPutPending, IsAddRow, IsLinkPending, IsShift}
use Rattle.core_state.specs.TreeRules.{IsAddItems, IsMakeTree, IsAddPostings, IsGrowRoot, IsSplit, IsDeletePost}
use Rattle.core_state.specs.VacuumRules.{IsRemoveItems, IsDropPage, IsFreeSlots}

-- The rule of the record's kind holds: P are the pages before it, Q those after it; `floor` is the
-- number of commits by which a document is dead, and `since` the number of the last record whose
-- deleted pages may be taken again.
pub data RuleHolds (R : Log) (P Q : Pages) (r : Record) (floor since : ℕ) : Type 0 where
  create : IsCreate R P Q r → RuleHolds R P Q r floor since
  begin : IsBegin R P Q r → RuleHolds R P Q r floor since
  commit : IsCommit R P Q r → RuleHolds R P Q r floor since
  abort : IsAbort R P Q r → RuleHolds R P Q r floor since
  checkpoint : IsCheckpoint R P Q r → RuleHolds R P Q r floor since
  place_head : IsPlaceHead R P Q r since → RuleHolds R P Q r floor since
  put_overflow : IsPutOverflow R P Q r since → RuleHolds R P Q r floor since
  mark_deleted : IsMarkDeleted R P Q r → RuleHolds R P Q r floor since
  put_pending : IsPutPending R P Q r since → RuleHolds R P Q r floor since
  add_row : IsAddRow R P Q r → RuleHolds R P Q r floor since
  link_pending : IsLinkPending R P Q r → RuleHolds R P Q r floor since
  shift : IsShift R P Q r → RuleHolds R P Q r floor since
  add_items : IsAddItems R P Q r → RuleHolds R P Q r floor since
  make_tree : IsMakeTree R P Q r since → RuleHolds R P Q r floor since
  add_postings : IsAddPostings R P Q r → RuleHolds R P Q r floor since
  grow_root : IsGrowRoot R P Q r since → RuleHolds R P Q r floor since
  split : IsSplit R P Q r since → RuleHolds R P Q r floor since
  remove_items : IsRemoveItems R P Q r floor → RuleHolds R P Q r floor since
  delete_post : IsDeletePost R P Q r → RuleHolds R P Q r floor since
  drop_page : IsDropPage R P Q r floor → RuleHolds R P Q r floor since
  free_slots : IsFreeSlots R P Q r floor → RuleHolds R P Q r floor since

-- the record may follow the log: it is a record with the next number, each of its changes can be
-- made, it makes the store or the log isn't empty, and its rule holds
pub record Valid (R : Log) (r : Record) (floor since : ℕ) : Type 0 where
  pub before : Pages
  pub after : Pages
  pub shown : Shows R before
  pub shown_after : Shows (r ∷ R) after
  pub is_record : IsRecord r
  pub can_edit : (c : Change) → In c r.changes → CanEdit c.edit (replay R c.page)
  pub number : r.number ≡ suc (length R)
  pub started : (r.kind ≡ kind.Create) ⊎ (R ≢ [])
  pub rule : RuleHolds R before after r floor since

-- some record of number n or more changes the page
abbrev pub ChangesFrom : ℕ → Log → ℕ → Type 0
ChangesFrom n R p = (r : Record) × In r R × (n ≤ r.number) × In p (changed r)

-- the change is an image
abbrev pub IsImageOf : Change → Type 0
IsImageOf c = (bytes : List ℕ) × (c.edit ≡ Image bytes)

-- the first change of each page from number n on is an image
abbrev pub ImagesFrom : ℕ → Log → Type 0
ImagesFrom n [] = ⊤
ImagesFrom n (r ∷ R) =
    ImagesFrom n R
    × ((c : Change) → In c r.changes → n ≤ r.number → ChangesFrom n R c.page ⊎ IsImageOf c)

-- each record is valid after those before it, with their commits as floor and its own number as
-- since
abbrev pub RecordsAreValid : Log → Type 0
RecordsAreValid [] = ⊤
RecordsAreValid (r ∷ R) = RecordsAreValid R × Valid R r (commits R) (suc (length R))

-- A log is legal where its records are valid, and the first change of each page is an image, from
-- number 1 on and from the redo number of each checkpoint on.
pub record IsLegal (R : Log) : Type 0 where
  pub valid : RecordsAreValid R
  pub images : ImagesFrom 1 R
  pub redo_images : (r : Record) (redo : ℕ) → In r R → r.kind ≡ kind.Checkpoint redo
      → ImagesFrom redo R

-- a pin: a snapshot, which is a number of first commits, and the log's length when it was taken
pub record Pin : Type 0 where
  pub commits : ℕ
  pub length : ℕ

-- the record is valid with a floor that the pin allows
abbrev pub ValidUnder : Pin → Log → Record → ℕ → Type 0
ValidUnder pin R r since = (floor : ℕ) × (floor ≤ pin.commits) × Valid R r floor since

-- each record is valid under the pin, and each past its length also with that length as since
abbrev pub KeepsEach : Pin → Log → Type 0
KeepsEach pin [] = ⊤
KeepsEach pin (r ∷ R) =
    KeepsEach pin R × ValidUnder pin R r (suc (length R))
    × (pin.length ≤ length R → ValidUnder pin R r pin.length)

-- the log keeps the pin, within whose length its commits are
pub record Keeps (R : Log) (pin : Pin) : Type 0 where
  pub within : pin.length ≤ length R
  pub counted : pin.commits ≤ commits (cut pin.length R)
  pub each : KeepsEach pin R
