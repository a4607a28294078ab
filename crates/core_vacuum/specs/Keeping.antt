-- What a record that takes dead documents out of the index, or off their pages, leaves as it is.
use Rattle.std.specs.Prelude.{◌≡◌, ◌≢◌, ◌⊎◌, ◌↔◌, ℕ, ◌≤◌, [], ◌∷◌, None}
use Rattle.ts_base.specs.Keys.{Key}
use Rattle.page_types.specs.Records.{kind_number}
use Rattle.page_types.specs.declared.page.Head.{Head}
use Rattle.page_types.specs.declared.page.Body.TheVariants as body
use Rattle.page_types.specs.declared.page.Gone.TheVariants as gone
use Rattle.page_types.specs.declared.record.Record.{Record}
use Rattle.page_types.specs.declared.record.Kind.{Kind}
use Rattle.core_state.specs.Log.{Log, Pages, Shows, commits}
use Rattle.core_state.specs.Documents.{Doc, Has, IsDead, head_of}
use Rattle.core_state.specs.Index.{Main, IsNamed}
use Rattle.core_state.specs.TreeRules.{Toward, TowardItem}
use Rattle.core_state.specs.VacuumRules.{MayLeave}
use Rattle.core_state.specs.Legal.{IsLegal}
use Rattle.core_state.specs.RecordKeeps.{SameRows}

-- the kinds 18 to 21
abbrev pub IsVacuum : Kind → Type 0
IsVacuum k = (18 ≤ kind_number k) × (kind_number k ≤ 21)

-- the page is a leaf of a posting tree that was deleted without items
abbrev pub IsGoneLeaf : Pages → ℕ → Type 0
IsGoneLeaf P p = (high : ℕ) × ((P p).body ≡ body.Deleted (gone.PostLeaf high []))

-- The linked rows are the same, and no pair of the main part comes; one goes only where the item's
-- document is dead and has no linked row. Entries name the same trees, the ways of keys are the same,
-- and an item's lead where they did, but to a leaf that is deleted. A document that isn't dead keeps its
-- head; a dead one may leave the index still, where its slot doesn't become free.
pub record VacuumKeeps (R : Log) (r : Record) (P Q : Pages) : Type 0 where
  pub rows : SameRows P Q
  pub pairs : (k : Key) (i : ℕ) → Main P k i → Main Q k i ⊎ MayLeave R P (commits R) i
  pub no_pair : (k : Key) (i : ℕ) → Main Q k i → Main P k i
  pub names : (k : Key) (root : ℕ) → IsNamed P k root ↔ IsNamed Q k root
  pub ways : (k : Key) (p q : ℕ) → Toward P k p q ↔ Toward Q k p q
  pub item_ways : (i p q : ℕ) → TowardItem P i p q → TowardItem Q i p q ⊎ IsGoneLeaf Q q
  pub heads : (d : Doc) (h : Head) → Has P d h → (IsDead R (commits R) d → ⊥) → Has Q d h
  pub leave : (floor i : ℕ) → MayLeave R P floor i
      → MayLeave (r ∷ R) Q floor i ⊎ (head_of Q i ≡ None)

-- so it is after a record of the kinds 18 to 21
abbrev pub VacuumHolds : Type 0
VacuumHolds =
    (R : Log) (r : Record) (P Q : Pages) → R ≢ [] → IsLegal (r ∷ R) → Shows R P → Shows (r ∷ R) Q
    → IsVacuum r.kind → VacuumKeeps R r P Q
