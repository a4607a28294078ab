-- Logs without a checkpoint beside page files: the first ones, and what more records make of them.
use Rattle.std.specs.Prelude.{◌≡◌, ℕ, List, [], ◌∷◌, ◌++◌}
use Rattle.disk_trait.specs.Files.{Files}
use Rattle.core_state.specs.Log.{Log, In, redo_of, replay}
use Rattle.core_state.specs.History.{History, Begins, IsHistory}
use Rattle.core_state.specs.Legal.{IsLegal}
use Rattle.core_state.specs.Stores.{PagesStand}
use Rattle.page_types.specs.declared.record.Record.{Record}
use Rattle.buffer_frames.specs.Applied.{applied}
use Rattle.buffer_frames.specs.First.{first_record}
use Rattle.buffer_frames.specs.NoStore.{IsStoreOf}
use Rattle.buffer_frames.specs.Opens.{IsEarlyKind, IsLogOf, OpensTo}

-- an empty log, and one that makes the store
abbrev pub EmptyIsLog : Type 0
EmptyIsLog = IsLogOf [] []

abbrev pub FirstIsLog : Type 0
FirstIsLog = IsLogOf (first_record ∷ []) []

-- each kind of the log's records is one of a store whose documents are not indexed
abbrev pub AreEarly : Log → Type 0
AreEarly R = (r : Record) → In r R → IsEarlyKind r.kind

abbrev pub EarlyRedo : Type 0
EarlyRedo = (R : Log) → AreEarly R → redo_of R ≡ 1

-- a page file that is beside a log is beside more of it
abbrev pub StandsBesideMore : Type 0
StandsBesideMore =
    (more R : Log) (H : History) (file : List ℕ) → IsLogOf (more ++ R) H → PagesStand R file
    → PagesStand (more ++ R) file

-- with its page file a log leaves the pages that it shows
abbrev pub AppliesAsReplayed : Type 0
AppliesAsReplayed =
    (R : Log) (H : History) (file : List ℕ) → IsLogOf R H → PagesStand R file
    → (p : ℕ) → applied file R p ≡ replay R p

-- files that open are a store
abbrev pub OpensIsStore : Type 0
OpensIsStore = (files : Files) (H : History) (o : OpensTo files H) → IsStoreOf files o.records

-- empty files open to no commit
abbrev pub EmptyOpens : Type 0
EmptyOpens = OpensTo (record { log = []; pages = [] }) []

-- a beginning of a legal log is legal
abbrev pub LegalBefore : Type 0
LegalBefore = (more R : Log) → IsLegal (more ++ R) → IsLegal R

-- the history of a log's beginning is a beginning of its history
abbrev pub HistoryBegins : Type 0
HistoryBegins =
    (more R : Log) (H : History) → IsHistory (more ++ R) H
    → (H' : History) × IsHistory R H' × Begins H' H
