-- When a record of the kinds 1 to 5 may come next: the store is made, transactions begin and end,
-- checkpoints.
use Rattle.std.specs.Prelude.{◌≡◌, ◌⊎◌, ℕ, suc, ◌<◌, ◌≤◌, List, [], ◌∷◌}
use Rattle.page_types.specs.declared.page.Page.{Page}
use Rattle.page_types.specs.declared.page.Body.TheVariants as body
use Rattle.page_types.specs.declared.record.Record.{Record}
use Rattle.page_types.specs.declared.record.Kind.TheVariants as kind
use Rattle.core_state.specs.Log.{Log, Pages, In, changed, xid_bound}
use Rattle.core_state.specs.Documents.{Doc, placed}
use Rattle.core_state.specs.Index.{IsIndexed}
use Rattle.core_state.specs.Known.{Known}
use Rattle.core_state.specs.Changes.{Here, made_with}
use Rattle.core_state.specs.declared.answers.Fate.TheVariants.{Running}

-- the log is empty, and an empty metapage and an empty leaf of the entry tree are made
pub record IsCreateHere (k : Known) (r : Record) (before after : List Page) : Type 0 where
  pub kind_is : r.kind ≡ kind.Create
  pub pages : changed r ≡ 0 ∷ 1 ∷ []
  pub empty : k.records ≡ 0
  pub after_is : after ≡ made_with r 0 (body.Meta 0 0 0) ∷ made_with r 0 (body.EntryLeaf [] []) ∷ []

-- 1 Create: nothing is asked beside that
pub record IsCreate (R : Log) (P Q : Pages) (r : Record) : Type 0 where
  pub here : Here IsCreateHere R P Q r

-- the xid is the next one and below its bound
pub record IsBeginHere (k : Known) (r : Record) (before after : List Page) : Type 0 where
  pub kind_is : r.kind ≡ kind.Begin
  pub pages : changed r ≡ []
  pub next : r.xid ≡ k.next_xid
  pub bound : r.xid < xid_bound

-- 2 Begin: nothing is asked beside that
pub record IsBegin (R : Log) (P Q : Pages) (r : Record) : Type 0 where
  pub here : Here IsBeginHere R P Q r

-- the transaction runs, and the commit number is the next
pub record IsCommitHere (k : Known) (r : Record) (before after : List Page) : Type 0 where
  pub kind_is : r.kind ≡ kind.Commit (suc k.commits)
  pub pages : changed r ≡ []
  pub runs : k.fates r.xid ≡ Running

-- 3 Commit: each document that the transaction placed is whole and indexed
pub record IsCommit (R : Log) (P Q : Pages) (r : Record) : Type 0 where
  pub here : Here IsCommitHere R P Q r
  pub rest : (d : Doc) → In d (placed R r.xid) → IsIndexed P d

-- the transaction runs, or the xid is 0, which ends every running one
pub record IsAbortHere (k : Known) (r : Record) (before after : List Page) : Type 0 where
  pub kind_is : r.kind ≡ kind.Abort
  pub pages : changed r ≡ []
  pub runs : (k.fates r.xid ≡ Running) ⊎ (r.xid ≡ 0)

-- 4 Abort: nothing is asked beside that
pub record IsAbort (R : Log) (P Q : Pages) (r : Record) : Type 0 where
  pub here : Here IsAbortHere R P Q r

-- the redo number is at least the last one, which is 1 without a checkpoint, and at most the
-- record's own number
pub record IsCheckpointHere (k : Known) (r : Record) (before after : List Page) : Type 0 where
  pub redo : ℕ
  pub kind_is : r.kind ≡ kind.Checkpoint redo
  pub pages : changed r ≡ []
  pub after_last : k.redo ≤ redo
  pub before_own : redo ≤ r.number

-- 5 Checkpoint: nothing is asked beside that
pub record IsCheckpoint (R : Log) (P Q : Pages) (r : Record) : Type 0 where
  pub here : Here IsCheckpointHere R P Q r
