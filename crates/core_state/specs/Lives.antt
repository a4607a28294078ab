-- Documents as they were placed, and the commits that inserted and deleted them.
use Rattle.std.specs.Prelude.{◌≡◌, ℕ, ◌-◌, ◌&&◌, ◌==◌, nat_lt, if◌then◌else◌, List, [], ◌∷◌, get_or, set, Option}
use Rattle.std.specs.Prelude.{Some, None}
use Rattle.std.specs.List.{slice_get}
use Rattle.page_types.specs.declared.page.Name.{Name}
use Rattle.core_state.specs.Log.{Log, In, fate}
use Rattle.core_state.specs.Documents.{Doc, page_of, slot_of, name_of, placed, marked}
use Rattle.core_state.specs.declared.answers.Fate.{Fate}
use Rattle.core_state.specs.declared.answers.Fate.TheVariants.{Committed}
use Rattle.core_state.specs.declared.lives.Placed.{Placed}
use Rattle.core_state.specs.declared.lives.Life.{Life}

-- a transaction that placed the document of this name has committed as this commit
pub record IsInsertedBy (R : Log) (n : Name) (commit : ℕ) : Type 0 where
  pub xid : ℕ
  pub doc : Doc
  pub named : name_of doc ≡ n
  pub placed_it : In doc (placed R xid)
  pub committed : fate R xid ≡ Committed commit

-- a transaction that marked the document of this name has committed as this commit
pub record IsDeletedBy (R : Log) (n : Name) (commit : ℕ) : Type 0 where
  pub xid : ℕ
  pub doc : Doc
  pub named : name_of doc ≡ n
  pub marked_it : In doc (marked R xid)
  pub committed : fate R xid ≡ Committed commit

-- this commit deleted it; none where no commit did
abbrev pub IsDeletedIfAny : Log → Name → Option ℕ → Type 0
IsDeletedIfAny R n None = (commit : ℕ) → IsDeletedBy R n commit → ⊥
IsDeletedIfAny R n (Some commit) = IsDeletedBy R n commit

-- the commits that inserted and deleted it; none where no commit inserted it
abbrev pub IsLife : Log → Name → Option Life → Type 0
IsLife R n None = (commit : ℕ) → IsInsertedBy R n commit → ⊥
IsLife R n (Some life) = IsInsertedBy R n life.inserted × IsDeletedIfAny R n life.deleted

-- a head was placed on the page
pub record IsHeapPage (R : Log) (page : ℕ) : Type 0 where
  pub xid : ℕ
  pub doc : Doc
  pub placed_it : In doc (placed R xid)
  pub on : page_of doc.item ≡ page

-- the xid that placed the document of this name, if it is this one
abbrev pub placer_in : Name → Option Placed → Option ℕ
placer_in n None = None
placer_in n (Some p) = if (n.page == page_of p.item) && (n.slot == slot_of p.item) then Some p.xid else None

-- the xid that placed the document of this name, where these were placed, with the serials 1, 2 and
-- so on
abbrev pub placer : List Placed → Name → Option ℕ
placer ps n = if nat_lt 0 n.serial then placer_in n (slice_get ps (n.serial - 1)) else None

-- of two commits the first stays; 0 is none
abbrev pub first_end : ℕ → ℕ → ℕ
first_end commit e = if e == 0 then commit else e

-- the commits that deleted the documents of the serials 1, 2 and so on, where this one deletes the
-- document of this name, which some xid placed
abbrev pub with_end : ℕ → Name → Option ℕ → List ℕ → List ℕ
with_end commit n None es = es
with_end commit n (Some x) es = set es (n.serial - 1) (first_end commit (get_or es (n.serial - 1) 0))

-- the same of all these names
abbrev pub with_ends : ℕ → List Placed → List Name → List ℕ → List ℕ
with_ends commit ps [] es = es
with_ends commit ps (n ∷ ns) es = with_ends commit ps ns (with_end commit n (placer ps n) es)

-- a commit; 0 is none
abbrev pub some_commit : ℕ → Option ℕ
some_commit e = if e == 0 then None else Some e

-- the life of a document that a transaction with this fate placed
abbrev pub life_by : Fate → ℕ → Option Life
life_by (Committed commit) e = Some (record { inserted = commit; deleted = some_commit e })
life_by _ e = None

-- the life of the document with this name, which some xid placed
abbrev pub life_in : (ℕ → Fate) → List ℕ → Name → Option ℕ → Option Life
life_in fates es n None = None
life_in fates es n (Some x) = life_by (fates x) (get_or es (n.serial - 1) 0)
