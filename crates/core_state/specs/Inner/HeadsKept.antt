-- The heads against the log, where n is the floor by which documents are dead: slots may be freed
-- and used again.
use Rattle.std.specs.Prelude.{◌≡◌, ◌≢◌, ◌⊎◌, ℕ, ◌<◌, Some}
use Rattle.page_types.specs.declared.page.Head.{Head}
use Rattle.core_state.specs.Log.{Log, Pages, In, fate, next_serial}
use Rattle.core_state.specs.Documents.{Doc, Has, IsDead, placed, marked, head_of, doc_at}
use Rattle.core_state.specs.Inner.XidsDrawn.{XidsDrawn}
use Rattle.core_state.specs.declared.answers.Fate.TheVariants.{Aborted, Committed}

-- No document is placed twice, and no serial drawn twice. A head's document was placed by its
-- inserting xid, and its deleting xid is 0 or marked the document; who else marked it has aborted.
-- What was marked had committed. What was placed has its slot, or is dead.
pub record HeadsKept (n : ℕ) (R : Log) (P : Pages) : Type 0 where
  pub xids : XidsDrawn R
  pub serials : (x : ℕ) (d : Doc) → In d (placed R x) → d.serial < next_serial R
  pub once : (x y : ℕ) (d e : Doc) → In d (placed R x) → In e (placed R y) → d.serial ≡ e.serial
      → (x ≡ y) × (d ≡ e)
  pub inserted : (i : ℕ) (h : Head) → head_of P i ≡ Some h
      → In (doc_at i h.serial) (placed R h.inserted_by)
  pub deleted : (i : ℕ) (h : Head) → head_of P i ≡ Some h
      → (h.deleted_by ≡ 0) ⊎ In (doc_at i h.serial) (marked R h.deleted_by)
  pub marks : (i : ℕ) (h : Head) (x : ℕ) → head_of P i ≡ Some h
      → In (doc_at i h.serial) (marked R x) → (fate R x ≡ Aborted) ⊎ (h.deleted_by ≡ x)
  pub mark_xid : (x : ℕ) (d : Doc) → In d (marked R x) → x ≢ 0
  pub marked_committed : (x : ℕ) (d : Doc) → In d (marked R x)
      → (y : ℕ) × (m : ℕ) × In d (placed R y) × (fate R y ≡ Committed m)
  pub there : (x : ℕ) (d : Doc) → In d (placed R x) → ((h : Head) × Has P d h) ⊎ IsDead R n d
