-- The documents that were placed against a log.
use Rattle.std.specs.Prelude.{◌≡◌, ◌≢◌, ℕ, suc, List, length, get_or, Some}
use Rattle.std.specs.List.{slice_get}
use Rattle.core_state.specs.Log.{Log, In, fate, next_serial}
use Rattle.core_state.specs.Documents.{Doc, placed, marked, doc_at}
use Rattle.core_state.specs.declared.answers.Fate.TheVariants.{Committed}
use Rattle.core_state.specs.declared.lives.Placed.{Placed}

-- The documents that were placed, by their serials from 1 on; the commits that deleted them, 0 where
-- none did; and how many more have room.
pub record LivesValue : Type 0 where
  pub placed : List Placed
  pub ends : List ℕ
  pub left : ℕ

-- the document is in the list, as transaction x placed it
pub record IsPlacedAt (ps : List Placed) (d : Doc) (x : ℕ) : Type 0 where
  pub place : ℕ
  pub serial : d.serial ≡ suc place
  pub at : slice_get ps place ≡ Some (record { item = d.item; xid = x })

-- e is the commit that deleted the document; 0 where none did
pub record IsEnd (R : Log) (d : Doc) (e : ℕ) : Type 0 where
  pub none : e ≡ 0 → (y n : ℕ) → fate R y ≡ Committed n → In d (marked R y) → ⊥
  pub some : e ≢ 0 → (y : ℕ) × In d (marked R y) × (fate R y ≡ Committed e)

-- the lists say of the log
pub record LivesKept (R : Log) (ps : List Placed) (es : List ℕ) : Type 0 where
  pub size : suc (length ps) ≡ next_serial R
  pub ends : length es ≡ length ps
  pub there : (x : ℕ) (d : Doc) → In d (placed R x) → IsPlacedAt ps d x
  pub placed_by : (k : ℕ) (p : Placed) → slice_get ps k ≡ Some p
      → In (doc_at p.item (suc k)) (placed R p.xid)
  pub ended : (k : ℕ) (p : Placed) → slice_get ps k ≡ Some p
      → IsEnd R (doc_at p.item (suc k)) (get_or es k 0)
