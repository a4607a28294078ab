-- What a statement does to documents, and the records of its work.
use Rattle.std.specs.Prelude.{◌≡◌, ℕ, ◌+◌, ◌-◌, ◌/◌, List, [], ◌∷◌, ◌++◌, length, nat_le, if◌then◌else◌, Option, Some}
use Rattle.std.specs.Prelude.{None, ◌⊎◌}
use Rattle.std.specs.List.{AllByRecursion}
use Rattle.page_types.specs.Numbers.{most_short, most_body}
use Rattle.page_types.specs.Pages.{IsPage}
use Rattle.page_types.specs.declared.page.Page.{Page}
use Rattle.page_types.specs.declared.record.Kind.TheVariants as kind
use Rattle.page_types.specs.declared.record.Record.{Record}
use Rattle.core_state.specs.Allowed.{Sheet}
use Rattle.core_state.specs.Documents.{Doc, name_of}
use Rattle.buffer_frames.specs.Drawing.{images_of, made_sheets}
use Rattle.ts_base.specs.Vectors.{Vector}
use Rattle.ts_base.specs.Encoding.{vector_bytes}
use Rattle.ts_base.specs.Keys.{Key, keys_of}
use Rattle.pending_list.specs.Packing.{ArePacked}
use Rattle.engine.specs.Finding.{Name, Document, Commit, document}

-- the document of a name is deleted, and one of a vector inserted
pub record Work : Type 0 where
  pub deletes : Option Name
  pub inserts : Option Vector

-- one is inserted, in place of another, if there is one to delete
abbrev pub storing : Option Name → Vector → Work
storing deletes v = record { deletes = deletes; inserts = Some v }

abbrev pub inserting : Vector → Work
inserting v = storing None v

abbrev pub updating : Name → Vector → Work
updating name v = storing (Some name) v

abbrev pub deleting : Name → Work
deleting name = record { deletes = Some name; inserts = None }

-- ── its commit ──

-- the names that it deletes
abbrev pub deleted_by : Option Name → List Name
deleted_by None = []
deleted_by (Some name) = name ∷ []

-- the documents that it inserts, where the one gets this name
abbrev pub inserted_by : Option Vector → Name → List Document
inserted_by None name = []
inserted_by (Some v) name = document name v ∷ []

-- the keys of the document that it inserts
abbrev pub keys_by : Option Vector → List Key
keys_by None = []
keys_by (Some v) = keys_of v

-- its commit, where the document that it inserts gets this name
abbrev pub commit_of : Work → Name → Commit
commit_of w name = record { deleted = deleted_by w.deletes; inserted = inserted_by w.inserts name }

-- ── its records, the oldest first ──

-- how many overflow pages a vector of so many bytes is on
abbrev pub parts_for : ℕ → ℕ
parts_for bytes = if nat_le bytes most_short then 0 else (bytes + most_body - 1) / most_body

-- the record changes so many pages, each of which has an encoding, and has an image of each as it leaves it
abbrev pub HasImages : ℕ → Record → Type 0
HasImages n r =
    (xs : List Sheet) × (length xs ≡ n) × AllByRecursion (λ (x : Sheet). IsPage x.content) xs
    × (r.changes ≡ images_of (made_sheets r xs))

-- it begins transaction x; it commits it; it aborts it
pub record IsBeginOf (x : ℕ) (r : Record) : Type 0 where
  pub xid : r.xid ≡ x
  pub kind_is : r.kind ≡ kind.Begin
  pub images : HasImages 0 r

pub record IsCommitOf (x : ℕ) (r : Record) : Type 0 where
  pub xid : r.xid ≡ x
  pub number : ℕ
  pub kind_is : r.kind ≡ kind.Commit number
  pub images : HasImages 0 r

pub record IsAbortOf (x : ℕ) (r : Record) : Type 0 where
  pub xid : r.xid ≡ x
  pub kind_is : r.kind ≡ kind.Abort
  pub images : HasImages 0 r

-- it marks the document of this name deleted
pub record IsMarkOf (x : ℕ) (name : Name) (r : Record) : Type 0 where
  pub doc : Doc
  pub named : name_of doc ≡ name
  pub xid : r.xid ≡ x
  pub kind_is : r.kind ≡ kind.MarkDeleted doc.item doc.serial
  pub images : HasImages 1 r

-- it places the document
pub record IsPlaceOf (x : ℕ) (d : Doc) (r : Record) : Type 0 where
  pub xid : r.xid ≡ x
  pub kind_is : r.kind ≡ kind.PlaceHead d.item d.serial
  pub images : HasImages 1 r

-- it puts a part of the document's vector
pub record IsPartOf (x : ℕ) (d : Doc) (r : Record) : Type 0 where
  pub xid : r.xid ≡ x
  pub kind_is : r.kind ≡ kind.PutOverflow d.item d.serial
  pub images : HasImages 2 r

-- it puts a page of rows of the document's keys
pub record IsRowPageOf (x : ℕ) (d : Doc) (r : Record) : Type 0 where
  pub xid : r.xid ≡ x
  pub kind_is : r.kind ≡ kind.PutPending d.item d.serial
  pub images : HasImages 2 r

-- it adds a row of all its keys to the last page of the pending list
pub record IsRowOf (x : ℕ) (d : Doc) (r : Record) : Type 0 where
  pub xid : r.xid ≡ x
  pub kind_is : r.kind ≡ kind.AddRow d.item d.serial
  pub images : HasImages 1 r

-- it links the pages of rows that were put, as the pending list or after its last page
pub record IsLinkOf (x : ℕ) (d : Doc) (r : Record) : Type 0 where
  pub xid : r.xid ≡ x
  pub kind_is : r.kind ≡ kind.LinkPending d.item d.serial
  pub images : HasImages 2 r ⊎ HasImages 3 r

-- a mark of the document of this name, if there is one to delete
abbrev pub AreMarks : Option Name → ℕ → List Record → Type 0
AreMarks None x rs = rs ≡ []
AreMarks (Some name) x [] = ⊥
AreMarks (Some name) x (r ∷ rs) = IsMarkOf x name r × (rs ≡ [])

-- parts of the document's vector, so many
abbrev pub AreParts : Doc → ℕ → ℕ → List Record → Type 0
AreParts d x n [] = n ≡ 0
AreParts d x n (r ∷ rs) = IsPartOf x d r × ((m : ℕ) × (n ≡ m + 1) × AreParts d x m rs)

-- a document with a vector of these bytes is placed, and then the parts of the vector are put, if it
-- has any
abbrev pub ArePut : List ℕ → ℕ → Doc → List Record → Type 0
ArePut bytes x d [] = ⊥
ArePut bytes x d (r ∷ rs) = IsPlaceOf x d r × AreParts d x (parts_for (length bytes)) rs

-- The document's keys come to the pending list: as one row on its last page; or packed on pages, of
-- which each is put, and then they are linked.
pub data AreIndexing (x : ℕ) (d : Doc) (keys : List Key) (rs : List Record) : Type 0 where
  row : (r : Record) → IsRowOf x d r → rs ≡ r ∷ [] → AreIndexing x d keys rs
  pages : (packed : List Page) (puts : List Record) (link : Record) → ArePacked d.item keys packed
      → AllByRecursion (IsRowPageOf x d) puts → length puts ≡ length packed → IsLinkOf x d link
      → rs ≡ puts ++ link ∷ [] → AreIndexing x d keys rs

-- a document with a vector of these bytes and with these keys is put, and its keys come to the pending list
pub record AreStored (bytes : List ℕ) (keys : List Key) (x : ℕ) (rs : List Record) : Type 0 where
  pub doc : Doc
  pub puts : List Record
  pub rows : List Record
  pub order : rs ≡ puts ++ rows
  pub are_put : ArePut bytes x doc puts
  pub are_rows : AreIndexing x doc keys rows

-- so it is of the vector, if there is one to insert
abbrev pub ArePlaces : Option Vector → ℕ → List Record → Type 0
ArePlaces None x rs = rs ≡ []
ArePlaces (Some v) x rs = AreStored (vector_bytes v) (keys_of v) x rs

-- The records of the work of transaction x, but for its Begin and its end: the document of the name is
-- marked, then the other is placed, then its parts are put, and then its keys come to the pending list.
pub record IsWork (w : Work) (x : ℕ) (rs : List Record) : Type 0 where
  pub marks : List Record
  pub places : List Record
  pub order : rs ≡ marks ++ places
  pub are_marks : AreMarks w.deletes x marks
  pub are_places : ArePlaces w.inserts x places

-- so far as it was done
abbrev pub IsWorkSoFar : Work → ℕ → List Record → Type 0
IsWorkSoFar w x rs = (rest : List Record) × IsWork w x (rs ++ rest)

-- transaction x has begun, and has done the work so far
abbrev pub IsBegunWork : Work → ℕ → List Record → Type 0
IsBegunWork w x [] = ⊥
IsBegunWork w x (b ∷ done) = IsBeginOf x b × IsWorkSoFar w x done

-- the records of a statement that commits
abbrev pub AreCommitted : Work → List Record → Type 0
AreCommitted w rs =
    (x : ℕ) × (b : Record) × (e : Record) × (done : List Record) × IsBeginOf x b × IsWork w x done × IsCommitOf x e
    × (rs ≡ b ∷ (done ++ e ∷ []))

-- Those of one that is aborted: none; or its Begin, the work so far as it was done, and its Abort.
pub data AreAborted (w : Work) (rs : List Record) : Type 0 where
  none : rs ≡ [] → AreAborted w rs
  aborted : (x : ℕ) (begun : List Record) (e : Record) → IsBegunWork w x begun → IsAbortOf x e
      → rs ≡ begun ++ e ∷ [] → AreAborted w rs

-- Those of a refused one: it is aborted, unless the Abort was refused too.
pub data AreRefused (w : Work) (rs : List Record) : Type 0 where
  ended : AreAborted w rs → AreRefused w rs
  left : (x : ℕ) → IsBegunWork w x rs → AreRefused w rs

-- After these records of a statement the next of its work is this one: its Begin, one that changes
-- documents, or its Commit.
pub data IsNext (w : Work) (x : ℕ) : List Record → Record → Type 0 where
  begins : (b : Record) → IsBeginOf x b → IsNext w x [] b
  works : (begun : List Record) (r : Record) → IsBegunWork w x (begun ++ r ∷ []) → IsNext w x begun r
  commits : (b : Record) (done : List Record) (e : Record) → IsBeginOf x b → IsWork w x done → IsCommitOf x e
      → IsNext w x (b ∷ done) e
