-- Documents with their vectors, commits, and the history of a log. The oldest commit is first.
use Rattle.std.specs.Prelude.{◌≡◌, ◌≢◌, ◌⊎◌, ℕ, Bool, not, if◌then◌else◌, nat_lt, ◌==◌, List, [], ◌∷◌, ◌++◌, map}
use Rattle.std.specs.Prelude.{take, Some, ⊤}
use Rattle.std.specs.List.{flat_map, filter, All, AllPairs, Contains, list_any, slice_get}
use Rattle.ts_base.specs.Vectors.{Vector}
use Rattle.page_types.specs.declared.page.Head.{Head}
use Rattle.page_types.specs.declared.page.Name.{Name}
use Rattle.page_types.specs.declared.record.Kind.{Kind}
use Rattle.page_types.specs.declared.record.Kind.TheVariants as kind
use Rattle.core_state.specs.Log.{Log, Pages, Shows}
use Rattle.core_state.specs.Documents.{Doc, Has, IsWhole, name_of, placed, marked}

-- a document: its name and its vector
pub record Document : Type 0 where
  pub name : Name
  pub vector : Vector

-- a commit: the names that it deletes, and the documents that it inserts
pub record Commit : Type 0 where
  pub deleted : List Name
  pub inserted : List Document

-- a history is a list of commits, the oldest first
abbrev pub History : Type 0
History = List Commit

-- all documents that a history inserts
abbrev pub inserts : History → List Document
inserts commits = flat_map (λ (c : Commit). c.inserted) commits

-- their names
abbrev pub inserted_names : History → List Name
inserted_names commits = map (λ (d : Document). d.name) (inserts commits)

-- all names that it deletes
abbrev pub deletes : History → List Name
deletes commits = flat_map (λ (c : Commit). c.deleted) commits

-- one of the names has this serial
abbrev pub has_serial : ℕ → List Name → Bool
has_serial s names = list_any (λ (x : Name). x.serial == s) names

-- the documents with one more, at its place by serials
abbrev pub with_document : Document → List Document → List Document
with_document d [] = d ∷ []
with_document d (e ∷ es) =
    if nat_lt d.name.serial e.name.serial then d ∷ e ∷ es else e ∷ with_document d es

-- the documents in the order of their serials
abbrev pub by_serial : List Document → List Document
by_serial [] = []
by_serial (d ∷ ds) = with_document d (by_serial ds)

-- none of the names has the document's serial
abbrev pub stays : Document → List Name → Bool
stays d names = not (has_serial d.name.serial names)

-- the documents that are there after a history: inserted and not deleted, by serial
abbrev pub docs : History → List Document
docs commits =
    by_serial (filter (λ (d : Document). stays d (deletes commits)) (inserts commits))

-- the first is a beginning of the second
abbrev pub Begins : History → History → Type 0
Begins xs ys = (rest : History) × (xs ++ rest ≡ ys)

-- the serials of all documents that a history inserts
abbrev pub serials : History → List ℕ
serials commits = map (λ (d : Document). d.name.serial) (inserts commits)

-- the names lie apart: in two slots
abbrev pub AreApart : Name → Name → Type 0
AreApart a b = (a.page ≢ b.page) ⊎ (a.slot ≢ b.slot)

-- No two inserts have one serial, each deleted name was inserted by an earlier commit, and no name
-- is deleted twice; of the documents that are there after any number of commits no two have one
-- page and slot.
pub record IsLawful (commits : History) : Type 0 where
  pub apart : AllPairs (λ (a b : ℕ). a ≢ b) (serials commits)
  pub deleted_once : AllPairs (λ (a b : Name). a.serial ≢ b.serial) (deletes commits)
  pub deleted_later : (k : ℕ) (c : Commit) → slice_get commits k ≡ Some c
      → All (λ (x : Name). Contains (inserted_names (take k commits)) x) c.deleted
  pub apart_places : (n : ℕ)
      → AllPairs (λ (a b : Document). AreApart a.name b.name) (docs (take n commits))

-- what a document has beside its name, as its head and its chain say: its vector
abbrev pub HasContent : Pages → Head → Document → Type 0
HasContent P h D = IsWhole P h D.vector

-- the document is in these pages: it has its slot and its content
pub record IsStored (P : Pages) (D : Document) : Type 0 where
  pub doc : Doc
  pub head : Head
  pub name : D.name ≡ name_of doc
  pub has : Has P doc head
  pub content : HasContent P head D

-- these are the documents that a transaction placed, each with the content that is in these
-- pages
abbrev pub AreInserts : Pages → List Doc → List Document → Type 0
AreInserts P [] [] = ⊤
AreInserts P [] (i ∷ is) = ⊥
AreInserts P (d ∷ ds) [] = ⊥
AreInserts P (d ∷ ds) (i ∷ is) =
    (i.name ≡ name_of d) × ((h : Head) × Has P d h × HasContent P h i) × AreInserts P ds is

-- c is the commit of transaction x after the log R
pub record IsCommitOf (R : Log) (x : ℕ) (c : Commit) : Type 0 where
  pub pages : Pages
  pub shown : Shows R pages
  pub deleted : c.deleted ≡ map name_of (marked R x)
  pub inserted : AreInserts pages (placed R x) c.inserted

-- H is the history after a record of this kind and xid, where `Before` is that of the log before
-- it, which is R
abbrev pub IsHistoryWith : Kind → ℕ → Log → (History → Type 0) → History → Type 0
IsHistoryWith (kind.Commit n) x R Before H =
    (H' : History) × (c : Commit) × Before H' × IsCommitOf R x c × (H ≡ H' ++ c ∷ [])
IsHistoryWith _ x R Before H = Before H

-- H is the history of the log: a commit for each of its records of kind Commit, with the names that
-- its transaction marked and the documents that it placed
abbrev pub IsHistory : Log → History → Type 0
IsHistory [] H = H ≡ []
IsHistory (r ∷ R) H = IsHistoryWith r.kind r.xid R (IsHistory R) H
