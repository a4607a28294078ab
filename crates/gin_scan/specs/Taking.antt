-- The documents of a snapshot whose heads were read: those that were found, and those that wait for
-- their long vectors.
use Rattle.std.specs.Prelude.{◌≡◌, ◌≢◌, ℕ, ◌<◌, ◌≤◌, Bool, List, ◌++◌, length, map, take}
use Rattle.std.specs.List.{AllPairs}
use Rattle.ts_base.specs.Vectors.{Vector}
use Rattle.page_types.specs.Numbers.{most_short}
use Rattle.page_types.specs.declared.page.Head.{Head}
use Rattle.page_types.specs.declared.page.Name.{Name}
use Rattle.core_state.specs.Log.{Log, Pages, In, Shows, cut}
use Rattle.core_state.specs.Documents.{Doc, Has, IsWhole, item_at, name_of}
use Rattle.core_state.specs.History.{Document, History, docs}
use Rattle.core_state.specs.Legal.{Pin}
use Rattle.gin_scan.specs.declared.stage.LongVector.{LongVector}

-- the item of a document
abbrev pub item_of : Document → ℕ
item_of d = item_at d.name.page d.name.slot

-- the document is there after n first commits, and its item is one of these
pub record IsAmong (H : History) (n : ℕ) (items : List ℕ) (d : Document) : Type 0 where
  pub there : In d (docs (take n H))
  pub item : In (item_of d) items

-- At a length of the log from the pin's on the document had a head with its vector on overflow pages
-- from this first one on, of so many bytes.
pub record IsLongOf (R : Log) (pin : Pin) (d : Document) (l : LongVector) : Type 0 where
  pub name : l.name ≡ d.name
  pub at : ℕ
  pub since : pin.length ≤ at
  pub within : at ≤ length R
  pub pages : Pages
  pub shown : Shows (cut at R) pages
  pub doc : Doc
  pub named : d.name ≡ name_of doc
  pub head : Head
  pub has : Has pages doc head
  pub whole : IsWhole pages head d.vector
  pub long : most_short < head.bytes
  pub first : head.overflow ≡ l.first
  pub size : head.bytes ≡ l.size

-- the names of long vectors
abbrev pub names_of : List LongVector → List Name
names_of ls = map (λ (l : LongVector). l.name) ls

-- Of the snapshot's documents with these items each that satisfies the query was found, or waits; what
-- was found is of such a document that satisfies it, and what waits is the vector of one. None is found
-- or waits twice.
pub record AreTaken (Satisfies : Vector → Type 0) (R : Log) (pin : Pin) (H : History) (items : List ℕ)
    (names : List Name) (waiting : List LongVector) : Type 0 where
  pub found : (name : Name) → In name names
      → (d : Document) × IsAmong H pin.commits items d × (d.name ≡ name) × Satisfies d.vector
  pub waits : (l : LongVector) → In l waiting
      → (d : Document) × IsAmong H pin.commits items d × IsLongOf R pin d l
  pub all : (d : Document) → IsAmong H pin.commits items d → Satisfies d.vector
      → In d.name (names ++ names_of waiting)
  pub once : AllPairs (λ (a b : Name). a.serial ≢ b.serial) (names ++ names_of waiting)

-- the items of the first so many kept ones
abbrev pub first_items : ℕ → List (ℕ × Bool) → List ℕ
first_items n kept = map (λ (k : ℕ × Bool). k.0) (take n kept)
