-- What a scan finds.
use Rattle.std.specs.Prelude.{◌≡◌, ◌⊎◌, ℕ, ◌≤◌, Bool, List, [], ◌∷◌, length, map, take}
use Rattle.ts_base.specs.Vectors.{Vector}
use Rattle.page_types.specs.declared.page.Name.{Name}
use Rattle.core_state.specs.Log.{Log}
use Rattle.core_state.specs.History.{Document, History, IsHistory, docs}
use Rattle.core_state.specs.Legal.{Pin}
use Rattle.gin_opclass.specs.Class.{Meaning}
use Rattle.core_moments.specs.Walk.{Walk}
use Rattle.core_moments.specs.Law.{IsWalkFrom}
use Rattle.gin_hits.specs.Sides.{AreKept}
use Rattle.gin_scan.specs.Held.{AreLong, ArePages}
use Rattle.gin_scan.specs.declared.found.Found.{Found}
use Rattle.gin_scan.specs.declared.stage.LongVector.{LongVector}

-- the names of the documents whose vectors have this property, in their order
abbrev pub IsFound : (Vector → Type 0) → List Document → List Name → Type 0
IsFound P [] names = names ≡ []
IsFound P (d ∷ ds) names =
    (P d.vector × ((rest : List Name) × (names ≡ d.name ∷ rest) × IsFound P ds rest))
    ⊎ (¬ P d.vector × IsFound P ds names)

module _ {Q : Type 0} (M : Meaning Q) (q : Q) where
  -- The names are those of the documents of the pin's snapshot that satisfy the query, by serial. There is a walk for
  -- the query from the pin, through the list and the tree, of which so many items are kept as there were candidates; no
  -- other head was read. The pages that were read are those of this walk, one for each heap page of a kept
  -- item, and parts of long vectors of such items' documents.
  pub record HasFound (R : Log) (pin : Pin) (found : Found) : Type 0 where
    pub names : (H : History) → IsHistory R H
        → IsFound (M.satisfies q) (docs (take pin.commits H)) found.names.items
    pub walk : Walk
    pub is_walk : IsWalkFrom M q R pin walk
    pub kept : List (ℕ × Bool)
    pub are_kept : AreKept M q walk kept
    pub candidates : found.candidates ≡ length kept
    pub heads_read : found.heads_read ≤ found.candidates
    pub long : List LongVector
    pub are_long : (H : History) → IsHistory R H → AreLong R pin H (map (λ (k : ℕ × Bool). k.0) kept) long
    pub pages_read : ArePages R pin.length walk (map (λ (k : ℕ × Bool). k.0) kept) long found.pages_read
