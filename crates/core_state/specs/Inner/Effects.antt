-- What a record does to documents, rows and pairs.
use Rattle.std.specs.Prelude.{◌≡◌, ◌⊎◌, ℕ}
use Rattle.ts_base.specs.Vectors.{Vector}
use Rattle.ts_base.specs.Keys.{Key}
use Rattle.page_types.specs.declared.page.Head.{Head}
use Rattle.core_state.specs.Log.{Log, Pages, In, fate}
use Rattle.core_state.specs.Documents.{Doc, Has, IsWhole, IsDead, placed}
use Rattle.core_state.specs.Index.{Pending, HasRow, Main, NoPair, AllMain}
use Rattle.core_state.specs.VacuumRules.{MayLeave}
use Rattle.core_state.specs.Bullets.{WasIndexed, StaysIndexed}
use Rattle.core_state.specs.declared.answers.Fate.TheVariants.{Running}

-- the document of the item was placed by a transaction that runs
pub record NewRow (R : Log) (P : Pages) (i : ℕ) : Type 0 where
  pub doc : Doc
  pub head : Head
  pub item : doc.item ≡ i
  pub has : Has P doc head
  pub runs : fate R head.inserted_by ≡ Running

-- the document of the item is whole, and in the main part
pub record Moved (P : Pages) (i : ℕ) : Type 0 where
  pub doc : Doc
  pub head : Head
  pub vector : Vector
  pub item : doc.item ≡ i
  pub has : Has P doc head
  pub whole : IsWhole P head vector
  pub main : AllMain P doc.item vector

-- A whole document stays so, or is dead and without a pair; a linked row stays or its document is
-- in the main part; a pair of the main part stays or may leave; a new row is of a running
-- transaction.
pub record Effects (R : Log) (P Q : Pages) (floor : ℕ) : Type 0 where
  pub whole : (d : Doc) (h : Head) (v : Vector) → Has P d h → IsWhole P h v
      → ((h' : Head) × Has Q d h' × IsWhole Q h' v) ⊎ (IsDead R floor d × NoPair P d.item)
  pub pending : (k : Key) (i : ℕ) → Pending P k i → Pending Q k i ⊎ Moved P i
  pub main : (k : Key) (i : ℕ) → Main P k i → Main Q k i ⊎ MayLeave R P floor i
  pub rows : (i : ℕ) → HasRow Q i → HasRow P i ⊎ NewRow R P i

-- what was indexed stays so, and was placed
pub record AreIndexed (n : ℕ) (R : Log) (P : Pages) : Type 0 where
  pub stays : StaysIndexed R P n
  pub placed : (d : Doc) → WasIndexed R d → (x : ℕ) × In d (placed R x)
