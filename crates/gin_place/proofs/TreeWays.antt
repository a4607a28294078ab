-- Ways down both trees, where what was found of the index is so still.
use Rattle.std.proofs.Common.{◌≡◌, ℕ}
use Rattle.ts_base.specs.Keys.{Key}
use Rattle.core_state.specs.Log.{Pages}
use Rattle.core_state.specs.TreeRules.{IsRoot}
use Rattle.core_maintenance.specs.Staying.{FoundStays}
use Rattle.gin_place.specs.Trees.{root_of, Leads, IsHighIn}
use Rattle.gin_place.specs.declared.sought.Sought.{Sought}
use Rattle.gin_place.specs.declared.sought.Sought.TheVariants as sought

-- the root of a way is one
pub way_root : (P : Pages) (k : Key) (s : Sought) (page : ℕ) → Leads P k s page → IsRoot P (root_of s)
way_root P k sought.Key page way = IsRoot.of_entries
way_root P k (sought.Item root item) page way = IsRoot.of_postings k way.0

module _ (P Q : Pages) (stays : FoundStays P Q) (k : Key) where
  pub leads_then : (s : Sought) (page : ℕ) → Leads P k s page → Leads Q k s page
  leads_then sought.Key page way = stays.toward k page way
  leads_then (sought.Item root item) page way = (
    stays.named k root way.0,
    stays.toward_item root item page (IsRoot.of_postings k way.0) way.1,
  )

  pub high_then : (s : Sought) (page h : ℕ) → Leads P k s page → IsHighIn P s h page → IsHighIn Q s h page
  high_then sought.Key page h way high = stays.high k page h way high
  high_then (sought.Item root item) page h way high =
      stays.high_post root item page h (IsRoot.of_postings k way.0) way.1 high

  pub same_then : (s : Sought) (page : ℕ) → Leads P k s page → Q page ≡ P page
  same_then sought.Key page way = stays.same k page way
  same_then (sought.Item root item) page way =
      stays.same_post root item page (IsRoot.of_postings k way.0) way.1
