-- What a statement is answered, and what it does to the store and its pass.
use Rattle.std.specs.Prelude.{◌≡◌, ◌⊎◌, ℕ, Result, Vec, IfErr}
use Rattle.std.specs.declared.alloc.Global.{Global}
use Rattle.disk_trait.specs.declared.device.Disk.{Ghosts as Disk}
use Rattle.ts_base.specs.Vectors.{Vector}
use Rattle.ts_query.specs.Queries.{Query}
use Rattle.ts_match.specs.Meaning.{Holds}
use Rattle.ts_config.specs.Known.{Known}
use Rattle.engine.specs.Answers.{Pass}
use Rattle.engine.specs.Finding.{Name}
use Rattle.engine.specs.Db.{DbValue}
use Rattle.engine.specs.Work.{Work, inserting, updating, deleting}
use Rattle.engine.specs.Answers.{HasDeleted, HasFound, HasListed, OnlyReads, TakesSnapshot}
use Rattle.engine.specs.Coming.{ComesToBadPage}
use Rattle.engine.specs.Cleaning.{HasMoved, HasCleaned, StoresThenTidies}
use Rattle.engine.specs.Vacuuming.{HasWorked, HasVacuumed}
use Rattle.engine.specs.Answers.{IsLawfulRefusal, MeetsNoBadPage}
use Rattle.engine.specs.Going.{FaultIsTold}
use Rattle.engine.specs.Standing.{GoesOn}
use Rattle.engine.specs.declared.error.DbError.{DbError}
use Rattle.shell_script.specs.Grammar.{Statement, insert, update, delete, search, clean_up, show, ask, parse}
use Rattle.shell_script.specs.Grammar.{vacuum, list_commits, define, invalid}
use Rattle.shell_script.specs.Replies.{Reply, refused, no_statement}
use Rattle.shell_run.specs.Defining.{IsDefined}
use Rattle.shell_run.specs.Values.{IsValueOf, ExprFails, IsQueryOf, QueryFails, IsRefusedBy, IsShown, IsQueried}
use Rattle.shell_run.specs.Values.{IsParsed}
use Rattle.shell_run.specs.Inner.Refusing.{stored_reply, removed_reply, cleaned_reply, found_reply, IsListReply}

module _ {D : Type 0} (device : Disk D) (old new : DbValue D) (pass pass' : Pass) where
  -- the store was not touched
  abbrev pub Rests : Type 0
  Rests = (new ≡ old) × (pass' ≡ pass)

  -- and the reply is of this kind
  abbrev pub HasOnlyAnswered : (Reply → Type 0) → Reply → Type 0
  HasOnlyAnswered P r = Rests × P r

  -- a call of the store was answered, on a lawful store not by a refusal without this, and the pass took
  -- its snapshot
  abbrev pub HasCalled : {T : Type 0} → (Result T DbError → Type 0) → (DbError → Type 0)
      → (Result T DbError → Reply → Type 0) → Reply → Type 0
  HasCalled {T} Has IsLawful IsReply r =
      (answer : Result T DbError) × Has answer × FaultIsTold device old new answer × IfErr answer IsLawful
      × GoesOn device old new × TakesSnapshot old new pass pass' × IsReply answer r

  -- what work is answered that stores a document, after which a cleanup may come by itself, and what other work is
  abbrev pub HasStoredWork : Work → Reply → Type 0
  HasStoredWork w r =
      (answer : Result Name DbError) × StoresThenTidies device old new pass' w answer
      × IfErr answer (IsLawfulRefusal device old w) × GoesOn device old new × TakesSnapshot old new pass pass'
      × (r ≡ stored_reply answer)

  abbrev pub HasRemoved : Work → Reply → Type 0
  HasRemoved w r =
      HasCalled (HasDeleted device old new pass' w) (IsLawfulRefusal device old w)
      (λ (a : Result (Unit {0}) DbError). λ r. r ≡ removed_reply a) r

  -- what a cleanup is answered
  abbrev pub HasTidied : Reply → Type 0
  HasTidied r =
      HasMoved device old new
      × HasCalled (HasCleaned device old new) (MeetsNoBadPage device old)
      (λ (a : Result (Unit {0}) DbError). λ r. r ≡ cleaned_reply a) r

  -- what a vacuum is answered
  abbrev pub HasTakenOut : Reply → Type 0
  HasTakenOut r =
      HasWorked device old new
      × HasCalled (HasVacuumed device old new) (MeetsNoBadPage device old)
      (λ (a : Result (Unit {0}) DbError). λ r. r ≡ cleaned_reply a) r

  -- what a call is answered that only reads
  abbrev pub HasSearched : Query → Reply → Type 0
  HasSearched q r =
      OnlyReads device old new
      × HasCalled (λ (a : Result (Vec Name Global) DbError). HasFound device old new (Holds q) a
      × IfErr a (ComesToBadPage device old q)) (MeetsNoBadPage device old)
      (λ (a : Result (Vec Name Global) DbError). λ r. r ≡ found_reply a) r

  abbrev pub HasListedCommits : Reply → Type 0
  HasListedCommits r =
      OnlyReads device old new × HasCalled (HasListed device old new) (MeetsNoBadPage device old) IsListReply r

  -- what the statement of this line is answered, before which this is defined
  abbrev pub HasAnswered : Known → ℕ → Statement → Reply → Type 0
  HasAnswered known line (insert e) r =
      HasOnlyAnswered (IsRefusedBy (ExprFails known e)) r
      ⊎ ((v : Vector) × IsValueOf known e v × HasStoredWork (inserting v) r)
  HasAnswered known line (update d e) r =
      HasOnlyAnswered (IsRefusedBy (ExprFails known e)) r
      ⊎ ((v : Vector) × IsValueOf known e v × HasStoredWork (updating d.name v) r)
  HasAnswered known line (delete d) r = HasRemoved (deleting d.name) r
  HasAnswered known line (search s) r =
      HasOnlyAnswered (IsRefusedBy (QueryFails known s)) r
      ⊎ ((q : Query) × IsQueryOf known s q × HasSearched q r)
  HasAnswered known line clean_up r = HasTidied r
  HasAnswered known line vacuum r = HasTakenOut r
  HasAnswered known line list_commits r = HasListedCommits r
  HasAnswered known line (show e) r = HasOnlyAnswered (IsShown known e) r
  HasAnswered known line (ask s) r = HasOnlyAnswered (IsQueried known s) r
  HasAnswered known line (parse text) r = HasOnlyAnswered (IsParsed text) r
  HasAnswered known line (define head ls) r = HasOnlyAnswered (IsDefined known line head ls) r
  HasAnswered known line invalid (refused (no_statement at)) = Rests × (at ≡ line)
  HasAnswered known line invalid r = ⊥
