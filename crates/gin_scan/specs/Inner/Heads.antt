-- What is taken of the heads on a heap page.
use Rattle.std.specs.Prelude.{◌≡◌, ◌↔◌, ℕ, suc, ◌<◌, ◌≤◌, Bool, true, false, IsTrue, List, [], ◌∷◌, ◌++◌, Some}
use Rattle.std.specs.List.{slice_get}
use Rattle.ts_base.specs.Vectors.{Vector}
use Rattle.ts_base.specs.Encoding.{IsEncoding}
use Rattle.page_types.specs.Numbers.{most_short}
use Rattle.page_types.specs.declared.page.Page.{Page}
use Rattle.page_types.specs.declared.page.Head.{Head}
use Rattle.page_types.specs.declared.page.Name.{Name}
use Rattle.core_state.specs.Documents.{page_of, slot_of}
use Rattle.doc_heap.specs.HeapPages.{head_on}
use Rattle.gin_scan.specs.declared.scan_core.ScanCore.{ScanCore}
use Rattle.gin_scan.specs.declared.stage.LongVector.{LongVector}

-- the name of the document with an item and a head
abbrev pub name_at : ℕ → Head → Name
name_at item h = record { page = page_of item; slot = slot_of item; serial = h.serial }

-- where the vector is of a head with a long one
abbrev pub long_at : ℕ → Head → LongVector
long_at item h = record { name = name_at item h; first = h.overflow; size = h.bytes }

-- The vector that these bytes encode has the property, or it hasn't. Of bytes that encode none it is never said that
-- they have it.
pub record TellsOf (P : Vector → Type 0) (bytes : List ℕ) (b : Bool) : Type 0 where
  pub has : (v : Vector) → IsEncoding bytes v → IsTrue b ↔ P v
  pub encodes : IsTrue b → (v : Vector) × IsEncoding bytes v

-- the scan with one name more, or one long vector more that waits
abbrev pub with_name : ScanCore → ScanCore → Name → Type 0
with_name old new name = (new.names.items ≡ old.names.items ++ name ∷ []) × (new.long ≡ old.long)

abbrev pub with_long : ScanCore → ScanCore → LongVector → Type 0
with_long old new l = (new.names ≡ old.names) × (new.long.items ≡ old.long.items ++ l ∷ [])

-- nothing else changes
abbrev pub KeepsRest : ScanCore → ScanCore → Type 0
KeepsRest old new = new ≡ record old { names = new.names; long = new.long }

-- A document that satisfies the query for sure is found; another with a long vector waits; of one with
-- a short vector the vector decides.
pub data Takes (P : Vector → Type 0) (item : ℕ) (h : Head) (old new : ScanCore) : Bool → Type 0 where
  sure : with_name old new (name_at item h) → Takes P item h old new true
  long : most_short < h.bytes → with_long old new (long_at item h) → Takes P item h old new false
  found : h.bytes ≤ most_short → TellsOf P h.vector true → with_name old new (name_at item h)
      → Takes P item h old new false
  none : h.bytes ≤ most_short → TellsOf P h.vector false → new ≡ old → Takes P item h old new false

pub record TakesDocument (P : Vector → Type 0) (item : ℕ) (sure : Bool) (h : Head) (old new : ScanCore)
    : Type 0 where
  pub takes : Takes P item h old new sure
  pub rest : KeepsRest old new

-- of a kept item, whose head is seen or not
abbrev pub TakesIfSeen : (Vector → Type 0) → Page → ℕ × Bool → Bool → ScanCore → ScanCore → Type 0
TakesIfSeen P page k false old new = new ≡ old
TakesIfSeen P page k true old new =
    (h : Head) → head_on page (slot_of k.0) ≡ Some h → TakesDocument P k.0 k.1 h old new

-- of the kept items from this number on, an answer for each
abbrev pub TakesDocuments : (Vector → Type 0) → Page → ℕ → List Bool → ScanCore → ScanCore → Type 0
TakesDocuments P page from [] old new = new ≡ old
TakesDocuments P page from (seen ∷ more) old new =
    (k : ℕ × Bool) × (slice_get old.kept.items from ≡ Some k)
    × ((mid : ScanCore) × TakesIfSeen P page k seen old mid × TakesDocuments P page (suc from) more mid new)
