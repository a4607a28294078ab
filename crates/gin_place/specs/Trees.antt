-- What is sought on a way, and the tree where it is: the key in the entry tree, or an item in the posting tree that the
-- key's entry names. Here stand, once, the words of both trees.
use Rattle.std.specs.Prelude.{ℕ, Option, Some, None}
use Rattle.ts_base.specs.Keys.{Key}
use Rattle.page_types.specs.declared.page.Page.{Page}
use Rattle.page_types.specs.declared.page.Body.{Body}
use Rattle.core_state.specs.Log.{Pages}
use Rattle.core_state.specs.Index.{IsNamed}
use Rattle.core_state.specs.TreeRules.{Toward, TowardItem}
use Rattle.core_maintenance.specs.Leading.{IsHigh, IsHighPost}
use Rattle.entry_tree.specs.Finding as entries
use Rattle.entry_tree.specs.Reading as entry_rooms
use Rattle.entry_tree.specs.Growing as entry_roots
use Rattle.entry_tree.specs.declared.finding.Found.TheVariants as entry_found
use Rattle.posting_tree.specs.Finding as posts
use Rattle.posting_tree.specs.Reading as post_rooms
use Rattle.posting_tree.specs.Growing as post_roots
use Rattle.posting_tree.specs.declared.finding.Found.TheVariants as post_found
use Rattle.gin_place.specs.declared.sought.Sought.{Sought}
use Rattle.gin_place.specs.declared.sought.Sought.TheVariants as sought

-- the root of the tree
abbrev pub root_of : Sought → ℕ
root_of sought.Key = 1
root_of (sought.Item root item) = root

abbrev pub tree_of : Sought → Option ℕ
tree_of sought.Key = None
tree_of (sought.Item root item) = Some root

-- a page's content is one of the tree
abbrev pub IsTreeBody : Sought → Body → Type 0
IsTreeBody sought.Key content = entries.IsEntryBody content
IsTreeBody (sought.Item root item) content = post_rooms.IsPostBody content

-- one child more fits on the page
abbrev pub HasRoomIn : Sought → Page → Type 0
HasRoomIn sought.Key c = entry_rooms.HasRoomForChild c
HasRoomIn (sought.Item root item) c = post_rooms.HasRoomForChild c

-- on the page the way goes on to this child
abbrev pub GoesDown : Key → Sought → Page → ℕ → Type 0
GoesDown k sought.Key c child = entries.IsFound c k (entry_found.Down child)
GoesDown k (sought.Item root item) c child = posts.IsFound c item (post_found.Down child)

-- what is sought is above all that may be on the page or below it
abbrev pub IsPast : Key → Sought → Page → ℕ → Type 0
IsPast k sought.Key c q = entries.IsFound c k (entry_found.Right q)
IsPast k (sought.Item root item) c q = posts.IsFound c item (post_found.Right q)

-- the root with this one child
abbrev pub root_with : Sought → Page → ℕ → Page
root_with sought.Key c child = entry_roots.root_over c child
root_with (sought.Item root item) c child = post_roots.root_over c child

-- the way leads from the root of its tree to this page; an entry of the key names the root of a posting tree
abbrev pub Leads : Pages → Key → Sought → ℕ → Type 0
Leads P k sought.Key page = Toward P k 1 page
Leads P k (sought.Item root item) page = IsNamed P k root × TowardItem P item root page

-- from this page the way down has so many steps
abbrev pub IsHighIn : Pages → Sought → ℕ → ℕ → Type 0
IsHighIn P sought.Key h page = IsHigh P h page
IsHighIn P (sought.Item root item) h page = IsHighPost P h page
