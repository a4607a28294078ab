-- Which pages a search reads: those of its walk, and what it reads of the documents that are kept.
use Rattle.std.specs.Prelude.{◌≡◌, ◌≢◌, ℕ, ◌+◌, ◌<◌, ◌≤◌, ⊤, List, [], ◌∷◌, length}
use Rattle.std.specs.List.{AllPairs, flat_map}
use Rattle.core_state.specs.Log.{Log, In}
use Rattle.core_state.specs.Documents.{page_of}
use Rattle.core_state.specs.History.{Document, History}
use Rattle.core_state.specs.Legal.{Pin}
use Rattle.core_state.specs.Readings.{Read, AreReads}
use Rattle.core_moments.specs.Walk.{Walk, reads_of}
use Rattle.gin_scan.specs.Reading.{LeadOn}
use Rattle.gin_scan.specs.Taking.{IsAmong, IsLongOf}
use Rattle.gin_scan.specs.declared.stage.LongVector.{LongVector}

-- different heap pages, each of one of these items
pub record AreHeapPages (items pages : List ℕ) : Type 0 where
  pub rising : AllPairs (λ (p p' : ℕ). p < p') pages
  pub each : (p : ℕ) → In p pages → (i : ℕ) × In i items × (page_of i ≡ p)

-- long vectors of different documents of the snapshot, which have some of these items
pub record AreLong (R : Log) (pin : Pin) (H : History) (items : List ℕ) (long : List LongVector) : Type 0 where
  pub each : (l : LongVector) → In l long → (d : Document) × IsAmong H pin.commits items d × IsLongOf R pin d l
  pub once : AllPairs (λ (l m : LongVector). l.name.serial ≢ m.name.serial) long

-- of each of these vectors pages were read, along right links from its first one on
abbrev pub AreChains : Log → ℕ → List LongVector → List (List Read) → Type 0
AreChains R from [] [] = ⊤
AreChains R from [] (x ∷ xs) = ⊥
AreChains R from (l ∷ ls) [] = ⊥
AreChains R from (l ∷ ls) (x ∷ xs) = ((next : ℕ) × LeadOn l.first x next) × AreReads R from x × AreChains R from ls xs

-- So many pages are at most these: those that a walk read, of the list and of the tree, different heap pages of these
-- items, and the pages that were read of these vectors, at lengths of the log from this one on.
pub record ArePages (R : Log) (from : ℕ) (w : Walk) (items : List ℕ) (long : List LongVector) (n : ℕ) : Type 0 where
  pub heap : List ℕ
  pub heap_pages : AreHeapPages items heap
  pub parts : List (List Read)
  pub chains : AreChains R from long parts
  pub most : n ≤ length (reads_of w) + length heap + length (flat_map (λ (xs : List Read). xs) parts)
