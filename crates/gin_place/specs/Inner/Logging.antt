-- What a pass shows of a step on pages that it holds, and what is so once it is logged.
use Rattle.std.specs.Prelude.{◌≡◌, ◌≢◌, ◌<◌, ◌≤◌, ℕ, List, [], ◌∷◌, length, Some}
use Rattle.std.specs.List.{slice_get}
use Rattle.disk_trait.specs.declared.device.Disk.{Ghosts as Disk}
use Rattle.ts_base.specs.Keys.{Key}
use Rattle.page_types.specs.Encoding.{body_bytes}
use Rattle.page_types.specs.Items.{AreItems}
use Rattle.page_types.specs.Pages.{IsPage}
use Rattle.page_types.specs.Views.{entries_in}
use Rattle.page_types.specs.Records.{kind_number}
use Rattle.page_types.specs.declared.page.Page.{Page}
use Rattle.page_types.specs.declared.page.Body.TheVariants as body
use Rattle.page_types.specs.declared.record.Kind.TheVariants as kind
use Rattle.core_state.specs.Log.{Log}
use Rattle.core_state.specs.Allowed.{Sheet, Step, MayLog, Owes}
use Rattle.core_state.specs.Steps.{sheet}
use Rattle.core_state.specs.TreeRules.{EntryParent, PostParent, half_body}
use Rattle.posting_code.specs.declared.dividing.Keep.{Keep}
use Rattle.entry_tree.specs.Adding.{IsEntryLeaf, list_entry}
use Rattle.entry_tree.specs.Growing.{moved_down}
use Rattle.entry_tree.specs.Reading as entry_rooms
use Rattle.entry_tree.specs.Rooting.{rooted}
use Rattle.entry_tree.specs.Splitting.{AreParts}
use Rattle.posting_tree.specs.Adding.{first_leaf}
use Rattle.posting_tree.specs.Reading as post_rooms
use Rattle.buffer_frames.specs.Drawing.{HasEncoding}
use Rattle.buffer_frames.specs.Opens.{IsLoggedKind}
use Rattle.buffer_frames.specs.Frames.{FramesValue, Stands, Behind}
use Rattle.buffer_frames.specs.Passes.{IsPassOf, IsHolding, Seen, IsLogged, view_of}
use Rattle.buffer_frames.specs.declared.pass.Pass.{Pass}
use Rattle.gin_place.specs.Going.{IsPlacingKind, WorksOn}
use Rattle.gin_place.specs.Placing.{HasRight, IsFirst, IsOnWay, ArePending}
use Rattle.gin_place.specs.Inner.ReadingItems.{IsReadingIn}
use Rattle.gin_place.specs.Trees.{IsTreeBody, root_with}
use Rattle.gin_place.specs.declared.reading.Reading.TheVariants as reading
use Rattle.gin_place.specs.declared.sought.Sought.{Sought}
use Rattle.gin_place.specs.declared.sought.Sought.TheVariants as sought

module _ {D : Type 0} (device : Disk D) (f : FramesValue D) (pass : Pass) (held : List Sheet) (step : Step) where
  -- the step may be logged by a pass with the right that holds these pages
  pub record MayLogStep : Type 0 where
    pub is_pass : IsPassOf f pass
    pub right : HasRight pass
    pub holding : IsHolding device f pass held
    pub encoded : HasEncoding step
    pub kind : IsLoggedKind step.kind
    pub placing : IsPlacingKind (kind_number step.kind)
    pub pages : length step.after ≤ 3
    pub may : Behind device f (λ R. MayLog (view_of f pass R held) step)
    pub owes : (R : Log) → Stands device f R → Owes (view_of f pass R held) step

  -- and it is, after a log that was allowed to the pass
  pub record LogsStep (f' : FramesValue D) (pass' : Pass) : Type 0 where
    pub works : WorksOn device f pass f' pass' (kind_number step.kind ∷ [])
    pub seen : Seen device f' pass' (λ S P. IsLogged (view_of f' pass S held) step S P)

-- Items come under a key, in the tree where something is sought: each has a linked row with the key, the way leads to
-- the page that is held, and so many of them, the first, come to it.
pub record AddsInTree {D : Type 0} (device : Disk D) (f : FramesValue D) (pass : Pass) (key : Key) (items : List ℕ)
    (s : Sought) (held : Sheet) (new : Page) (count : ℕ) : Type 0 where
  pub way : IsOnWay device f pass key s held.page
  pub rows : ArePending device f pass key items
  pub are_items : AreItems items
  pub first : IsFirst items s
  pub reads : IsReadingIn s held.content key items (reading.Added new count)

-- the root of a tree grows over a new page
pub record IsGrowStep (t : Sought) (root new : Sheet) (s : Step) : Type 0 where
  pub kind_is : s.kind ≡ kind.GrowRoot
  pub xid : s.xid ≡ 0
  pub after_is : s.after ≡ sheet root.page (root_with t root.content new.page)
      ∷ sheet new.page (moved_down root.content) ∷ []
  pub pages : IsPage (root_with t root.content new.page) × IsPage (moved_down root.content)

-- the parent with the new page after the page that is split, whose first part is this
abbrev pub Adopts : Sought → ℕ → ℕ → Page → Page → Page → Type 0
Adopts sought.Key page new left parent adopted =
    EntryParent page new (entry_rooms.upper_in left.body) parent.body adopted.body
Adopts (sought.Item root item) page new left parent adopted =
    PostParent page new (post_rooms.upper_in left.body) parent.body adopted.body

-- a page that is large, in two parts, and its parent with the new page
pub record AreSplitIn (t : Sought) (old new above : Sheet) (left right adopted : Page) : Type 0 where
  pub keep : Keep
  pub was : IsPage old.content
  pub on_tree : IsTreeBody t old.content.body
  pub large : half_body < length (body_bytes old.content.body)
  pub parts : AreParts old.content new.page keep left right
  pub adopts : Adopts t old.page new.page left above.content adopted
  pub same : adopted ≡ record above.content { body = adopted.body }
  pub pages : IsPage left × IsPage right × IsPage adopted
  pub used : (left.body ≢ body.Free) × (right.body ≢ body.Free) × (adopted.body ≢ body.Free)

-- a page is split, and its parent takes the new page, with what the first part ends with
pub record IsSplitStep (t : Sought) (old new above : Sheet) (s : Step) : Type 0 where
  pub left : Page
  pub right : Page
  pub adopted : Page
  pub kind_is : s.kind ≡ kind.Split
  pub xid : s.xid ≡ 0
  pub after_is : s.after ≡ sheet old.page left ∷ sheet new.page right ∷ sheet above.page adopted ∷ []
  pub split : AreSplitIn t old new above left right adopted

-- the list of the entry with this number becomes the one leaf of a posting tree on a new page
pub record IsTreeStep (place : ℕ) (old new : Sheet) (s : Step) : Type 0 where
  pub key : List ℕ
  pub list : List ℕ
  pub there : slice_get (entries_in old.content.body) place ≡ Some (list_entry key list)
  pub leaf : IsEntryLeaf old.content.body
  pub kind_is : s.kind ≡ kind.MakeTree
  pub xid : s.xid ≡ 0
  pub after_is : s.after
      ≡ sheet old.page (record old.content { body = rooted old.content.body place new.page })
      ∷ sheet new.page (first_leaf list) ∷ []
  pub pages : IsPage (record old.content { body = rooted old.content.body place new.page }) × IsPage (first_leaf list)
