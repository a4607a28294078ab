-- The kinds of pages that a record changes.
use Rattle.std.specs.Prelude.{◌≡◌, ◌≢◌, ◌⊎◌, ℕ, List, ⊤}
use Rattle.page_types.specs.Views.{free_page}
use Rattle.page_types.specs.declared.page.Head.{Head}
use Rattle.page_types.specs.declared.page.Body.{Body}
use Rattle.page_types.specs.declared.page.Body.TheVariants as body
use Rattle.page_types.specs.declared.record.Record.{Record}
use Rattle.page_types.specs.declared.record.Kind.{Kind}
use Rattle.page_types.specs.declared.record.Kind.TheVariants as kind
use Rattle.core_state.specs.Log.{Pages, In}
use Rattle.core_state.specs.Documents.{Doc, Has, page_of}
use Rattle.core_state.specs.Index.{Line}
use Rattle.core_state.specs.Known.{use_in}
use Rattle.core_state.specs.Changes.{IsNew}

-- a heap page
abbrev pub IsHeap : Body → Type 0
IsHeap (body.Heap slots) = ⊤
IsHeap _ = ⊥

-- a page of a long vector
abbrev pub IsOverflow : Body → Type 0
IsOverflow (body.Overflow bytes) = ⊤
IsOverflow _ = ⊥

-- a page of pending rows
abbrev pub IsPending : Body → Type 0
IsPending (body.Pending rows) = ⊤
IsPending _ = ⊥

-- the metapage
abbrev pub IsMeta : Body → Type 0
IsMeta (body.Meta first last pages) = ⊤
IsMeta _ = ⊥

-- a page of a tree
abbrev pub IsTree : Body → Type 0
IsTree (body.EntryLeaf high entries) = ⊤
IsTree (body.EntryInner children) = ⊤
IsTree (body.PostLeaf high items) = ⊤
IsTree (body.PostInner children) = ⊤
IsTree _ = ⊥

-- a deleted page
abbrev pub IsDeleted : Body → Type 0
IsDeleted (body.Deleted gone) = ⊤
IsDeleted _ = ⊥

-- neither free nor a heap page
abbrev pub IsPlain : Body → Type 0
IsPlain body.Free = ⊥
IsPlain (body.Heap slots) = ⊥
IsPlain _ = ⊤

-- a record of this kind changes heads on this page
abbrev pub IsHeadPage : Kind → ℕ → Type 0
IsHeadPage (kind.PlaceHead i s) p = p ≡ page_of i
IsHeadPage (kind.PutOverflow i s) p = p ≡ page_of i
IsHeadPage (kind.MarkDeleted i s) p = p ≡ page_of i
IsHeadPage (kind.PutPending i s) p = p ≡ page_of i
IsHeadPage (kind.LinkPending i s) p = p ≡ page_of i
IsHeadPage (kind.DropPage i s) p = p ≡ page_of i
IsHeadPage kind.FreeSlots p = ⊤
IsHeadPage _ p = ⊥

-- a record of this kind puts rows on a private chain
abbrev pub PutsRows : Kind → Type 0
PutsRows (kind.PutPending i s) = ⊤
PutsRows _ = ⊥

-- a record of this kind changes the pending list
abbrev pub ChangesLine : Kind → Type 0
ChangesLine (kind.AddRow i s) = ⊤
ChangesLine (kind.LinkPending i s) = ⊤
ChangesLine kind.Shift = ⊤
ChangesLine _ = ⊥

-- a record of this kind changes trees
abbrev pub ChangesTrees : Kind → Type 0
ChangesTrees kind.AddItems = ⊤
ChangesTrees kind.MakeTree = ⊤
ChangesTrees kind.AddPostings = ⊤
ChangesTrees kind.GrowRoot = ⊤
ChangesTrees kind.Split = ⊤
ChangesTrees kind.RemoveItems = ⊤
ChangesTrees kind.DeletePost = ⊤
ChangesTrees _ = ⊥

-- the first page of one of a head's chains is dropped
pub record IsFirstOf (P : Pages) (k : Kind) (p : ℕ) : Type 0 where
  pub doc : Doc
  pub head : Head
  pub has : Has P doc head
  pub kind_is : k ≡ kind.DropPage doc.item doc.serial
  pub not_none : p ≢ 0
  pub first : (IsOverflow (P p).body × (head.overflow ≡ p))
      ⊎ (IsPending (P p).body × (head.private ≡ p))

-- What the page was, and how it is changed: it is a first page of the store; heads change on it; it
-- is new, on a chain or in a tree; it is of a tree, the metapage, or on the pending list; or it is
-- the first page of a chain, which is dropped.
pub data IsChanged (P Q : Pages) (r : Record) (since p : ℕ) : Type 0 where
  made : r.kind ≡ kind.Create → P p ≡ free_page → IsPlain (Q p).body → IsChanged P Q r since p
  heads : IsHeap (P p).body ⊎ IsNew (use_in P) since p → IsHeap (Q p).body → IsHeadPage r.kind p
      → IsChanged P Q r since p
  chained : IsNew (use_in P) since p
      → IsOverflow (Q p).body ⊎ (IsPending (Q p).body × PutsRows r.kind) → IsChanged P Q r since p
  grown : IsNew (use_in P) since p → ChangesTrees r.kind → IsTree (Q p).body
      → IsChanged P Q r since p
  worked : IsTree (P p).body → ChangesTrees r.kind → IsTree (Q p).body ⊎ IsDeleted (Q p).body
      → IsChanged P Q r since p
  meta : IsMeta (P p).body → ChangesLine r.kind → IsMeta (Q p).body → IsChanged P Q r since p
  listed : IsPending (P p).body → ((line : List ℕ) → Line P line → In p line)
      → ChangesLine r.kind → IsPending (Q p).body ⊎ (IsDeleted (Q p).body × (r.kind ≡ kind.Shift))
      → IsChanged P Q r since p
  dropped : IsFirstOf P r.kind p → IsDeleted (Q p).body → IsChanged P Q r since p

-- a page that a record changes has the record's number
pub record Touched (P Q : Pages) (r : Record) (since p : ℕ) : Type 0 where
  pub stamp : (Q p).stamp ≡ r.number
  pub change : IsChanged P Q r since p
