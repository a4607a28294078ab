-- What holds in every legal log.
use Rattle.std.specs.Prelude.{◌≡◌, ◌≢◌, ◌⊎◌, ℕ, suc, ◌<◌, List, ◌∷◌, ◌++◌, length, Option, None}
use Rattle.ts_base.specs.Vectors.{Vector}
use Rattle.ts_base.specs.Keys.{Key, keys_of}
use Rattle.page_types.specs.Items.{items_of}
use Rattle.page_types.specs.declared.page.Head.{Head}
use Rattle.page_types.specs.declared.page.Entry.{Entry}
use Rattle.page_types.specs.declared.page.Body.TheVariants as body
use Rattle.page_types.specs.declared.page.Gone.{Gone}
use Rattle.page_types.specs.declared.record.Record.{Record}
use Rattle.page_types.specs.declared.record.Kind.TheVariants as kind
use Rattle.core_state.specs.Log.{Log, Pages, In, Shows, changed, commits}
use Rattle.core_state.specs.Documents.{Doc, IsChain, Has, IsWhole, IsDead, head_of}
use Rattle.core_state.specs.Index.{Line, Pending, HasRow, Main, NoPair, IsIndexed, Below}
use Rattle.core_state.specs.Changes.{UpTo, ItemUpTo}
use Rattle.core_state.specs.TreeRules.{Toward, TowardItem, IsRoot}
use Rattle.core_state.specs.Legal.{IsLegal, Pin, Keeps}

-- some document has the item and is whole, and the key is one of its vector's
pub record Owned (P : Pages) (k : Key) (i : ℕ) : Type 0 where
  pub doc : Doc
  pub head : Head
  pub vector : Vector
  pub item : doc.item ≡ i
  pub has : Has P doc head
  pub whole : IsWhole P head vector
  pub key : In k (keys_of vector)

-- each pair of the pending list and of the main part is owned, and a free slot has none
pub record PairsAreOwned (P : Pages) : Type 0 where
  pub pending : (k : Key) (i : ℕ) → Pending P k i → Owned P k i
  pub main : (k : Key) (i : ℕ) → Main P k i → Owned P k i
  pub free_clean : (i : ℕ) → head_of P i ≡ None → NoPair P i

-- at some moment of the log the document was indexed
pub record WasIndexed (R : Log) (d : Doc) : Type 0 where
  pub later : Log
  pub then : Log
  pub goes_on : R ≡ later ++ then
  pub pages : Pages
  pub shown : Shows then pages
  pub indexed : IsIndexed pages d

-- the document must be indexed: it isn't dead, or it has its slot and a linked row
abbrev pub MustBeIndexed : Log → Pages → ℕ → Doc → Type 0
MustBeIndexed R P floor d = (IsDead R floor d → ⊥) ⊎ ((h : Head) × Has P d h × HasRow P d.item)

-- a document that was indexed is so as long as it isn't dead, and while it has a linked row
abbrev pub StaysIndexed : Log → Pages → ℕ → Type 0
StaysIndexed R P floor = (d : Doc) → WasIndexed R d → MustBeIndexed R P floor d → IsIndexed P d

-- page q is p, or comes after it along right links
pub data Rightward (P : Pages) (p : ℕ) : ℕ → Type 0 where
  here : Rightward P p p
  next : {q : ℕ} → Rightward P p q → (P q).right ≢ 0 → Rightward P p (P q).right

-- each key and each item on a leaf is within the bounds on the way down to it, and within the
-- leaf's
pub record TreesAreBounded (P : Pages) : Type 0 where
  pub entries : (page : ℕ) (high : Key) (es : List Entry) (e : Entry)
      → (P page).body ≡ body.EntryLeaf high es → In e es
      → Toward P e.key 1 page × UpTo e.key high
  pub postings : (root page high : ℕ) (items : List ℕ) (i : ℕ) → IsRoot P root → Below P root page
      → (P page).body ≡ body.PostLeaf high items
      → In i (items_of items) → TowardItem P i root page × ItemUpTo i high

-- each posting leaf is below a root that an entry names
abbrev pub LeavesAreNamed : Pages → Type 0
LeavesAreNamed P =
    (p high : ℕ) (items : List ℕ) → (P p).body ≡ body.PostLeaf high items
    → (root : ℕ) × IsRoot P root × (root ≢ 1) × Below P root p

-- each leaf of a tree leads along right links to what is after it
pub record LeavesLead (P : Pages) : Type 0 where
  pub entries : (p q : ℕ) (high high' : Key) (es fs : List Entry) (e : Entry)
      → (P p).body ≡ body.EntryLeaf high es → (P q).body ≡ body.EntryLeaf high' fs
      → In e fs → (UpTo e.key high → ⊥) → Rightward P p q
  pub postings : (root p q high high' : ℕ) (items items' : List ℕ) (i : ℕ) → IsRoot P root
      → Below P root p → Below P root q
      → (P p).body ≡ body.PostLeaf high items → (P q).body ≡ body.PostLeaf high' items'
      → In i (items_of items') → (ItemUpTo i high → ⊥) → Rightward P p q

-- the record of this number deleted page p, a leaf below the root in the pages before it
pub record WasDeleted (R : Log) (p root : ℕ) (then : Pages) (number : ℕ) : Type 0 where
  pub later : Log
  pub by : Record
  pub earlier : Log
  pub log : R ≡ later ++ by ∷ earlier
  pub number_is : number ≡ suc (length earlier)
  pub kind_is : by.kind ≡ kind.DeletePost
  pub first : (rest : List ℕ) × (changed by ≡ p ∷ rest)
  pub shown : Shows earlier then
  pub below : Below then root p

-- the item was at the leaf's place or after it, in the pages before the leaf was deleted
abbrev pub StoodFrom : Pages → ℕ → ℕ → ℕ → Type 0
StoodFrom then root p i =
    TowardItem then i root p
    ⊎ ((high : ℕ) × (items : List ℕ) × ((then p).body ≡ body.PostLeaf high items)
    × (ItemUpTo i high → ⊥))

-- a leaf that was deleted since the pin leads along right links to what is after it
abbrev pub DeletedLeavesLead : Log → Pages → Pin → Type 0
DeletedLeavesLead R P pin =
    (p root number : ℕ) (then : Pages) → WasDeleted R p root then number → pin.length < number
    → (q i high : ℕ) (items : List ℕ) → Below P root q → (P q).body ≡ body.PostLeaf high items
    → In i (items_of items) → StoodFrom then root p i → Rightward P p q

-- a page that was deleted since the pin is as it was when it was deleted
abbrev pub DeletedStays : Log → Pages → Pin → Type 0
DeletedStays R P pin =
    (p : ℕ) (g : Gone) (then later : Log) (P' : Pages) → R ≡ later ++ then → Shows then P'
    → (P' p).body ≡ body.Deleted g
    → pin.length < (P' p).stamp → P p ≡ P' p

-- where a page belongs
pub data PagePlace : Type 0 where
  meta : PagePlace
  heap : PagePlace
  entry_tree : PagePlace
  posting_tree : ℕ → PagePlace
  overflow_of : ℕ → PagePlace
  private_of : ℕ → PagePlace
  line : PagePlace

-- the page is on a chain of the document with the item, where `from` names the chain
abbrev pub StandsOnChain : (Head → ℕ) → Pages → ℕ → ℕ → Type 0
StandsOnChain from P p item =
    (d : Doc) × (h : Head) × (qs : List ℕ) × (d.item ≡ item) × Has P d h × IsChain P (from h) qs
    × In p qs

-- page p is in this place
abbrev pub StandsIn : Pages → ℕ → PagePlace → Type 0
StandsIn P p meta = p ≡ 0
StandsIn P p heap = (slots : List (Option Head)) × ((P p).body ≡ body.Heap slots)
StandsIn P p entry_tree = Below P 1 p
StandsIn P p (posting_tree root) = IsRoot P root × (root ≢ 1) × Below P root p
StandsIn P p (overflow_of item) = StandsOnChain (λ h. h.overflow) P p item
StandsIn P p (private_of item) = StandsOnChain (λ h. h.private) P p item
StandsIn P p line = (qs : List ℕ) × Line P qs × In p qs

-- a page has one place at most
abbrev pub OnePlace : Pages → Type 0
OnePlace P = (p : ℕ) (a b : PagePlace) → StandsIn P p a → StandsIn P p b → a ≡ b

-- What holds of the pages of a legal log, and of them under each pin that the log keeps.
pub record Bullets (R : Log) (P : Pages) : Type 0 where
  pub owned : PairsAreOwned P
  pub indexed : StaysIndexed R P (commits R)
  pub indexed_under : (pin : Pin) → Keeps R pin → StaysIndexed R P pin.commits
  pub named : LeavesAreNamed P
  pub bounded : TreesAreBounded P
  pub lead : LeavesLead P
  pub deleted_lead : (pin : Pin) → Keeps R pin → DeletedLeavesLead R P pin
  pub one_place : OnePlace P
  pub deleted_stays : (pin : Pin) → Keeps R pin → DeletedStays R P pin

-- it holds in every legal log
abbrev pub BulletsHold : Type 0
BulletsHold = (R : Log) (P : Pages) → IsLegal R → Shows R P → Bullets R P
