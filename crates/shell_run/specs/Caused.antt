-- What each statement is answered by the store as it was, and how it leaves it, on every device.
use Rattle.std.specs.Prelude.{◌≡◌, ◌⊎◌, ℕ, ◌+◌, ◌≤◌, List, [], ◌∷◌}
use Rattle.disk_trait.specs.declared.device.Disk.{Ghosts as Disk}
use Rattle.ts_base.specs.Vectors.{Vector}
use Rattle.ts_query.specs.Queries.{Query}
use Rattle.ts_config.specs.Known.{Known}
use Rattle.engine.specs.Db.{DbValue, disk_of, IsUp, IsFlushed}
use Rattle.engine.specs.Finding.{Name}
use Rattle.engine.specs.Work.{Work, inserting, updating, deleting}
use Rattle.engine.specs.Answers.{Pass, HasCommitted, HasRefused, OnlyReads, CannotRead}
use Rattle.engine.specs.Coming.{ComesToBadPage}
use Rattle.engine.specs.Cleaning.{HasMoved, AreMoved, CannotClean, Tidies}
use Rattle.engine.specs.Vacuuming.{HasWorked, AreOut, CannotVacuum}
use Rattle.engine.specs.declared.error.DbError.{DbError}
use Rattle.shell_script.specs.Grammar.{Statement, insert, update, delete, search, clean_up, show, ask, parse}
use Rattle.shell_script.specs.Grammar.{vacuum, list_commits, define, invalid}
use Rattle.shell_script.specs.Replies.{Reply, stored, removed, maintained, lists, shows_commits, refused}
use Rattle.shell_script.specs.Replies.{no_statement}
use Rattle.shell_run.specs.Defining.{IsDefined}
use Rattle.shell_run.specs.Values.{IsValueOf, ExprFails, IsQueryOf, QueryFails, IsRefusedBy, IsShown, IsQueried}
use Rattle.shell_run.specs.Values.{IsParsed}
use Rattle.shell_run.specs.Refusing.{refusal_for}
use Rattle.shell_run.specs.Run.{Exchange, MayCall, IsOkOfChange}

-- The store was so when a reply Ok was settled, and is so at the end: after a document was stored a cleanup may
-- have come by itself.
abbrev pub IsTidied : {D : Type 0} → Disk D → Reply → DbValue D → DbValue D → Type 0
IsTidied device (stored name) mid after = Tidies device mid after
IsTidied device reply mid after = after ≡ mid

-- The store as a statement found it and as it left it. The exchange's clock and counts are those that its
-- device then has.
pub record IsLeftBy {D : Type 0} (device : Disk D) (exchange : Exchange) (before after : DbValue D)
    : Type 0 where
  pub later : device.clock (disk_of before) ≤ device.clock (disk_of after)
  pub clock : exchange.note.clock ≡ device.clock (disk_of after)
  pub count : exchange.note.count ≡ device.fault_count (disk_of after)
  pub faults : device.fault_count (disk_of before) + exchange.note.faults ≡ device.fault_count (disk_of after)
  pub writes : device.write_fault_count (disk_of before) + exchange.note.writes
      ≡ device.write_fault_count (disk_of after)
  -- where it changed documents and answered Ok, the store was then up and nothing of it waited for a flush
  pub flushed : IsOkOfChange exchange.reply
      → (mid : DbValue D) × IsUp mid × IsFlushed mid × IsTidied device exchange.reply mid after
  -- a statement that can't call the device leaves all as it was
  pub uncalled : (MayCall exchange.statement exchange.reply → ⊥) → after ≡ before

-- the reply is the store's answer Ok, or a refusal that such an error is printed as
abbrev pub IsReplyFor : (Reply → Type 0) → (DbError → Type 0) → Reply → Type 0
IsReplyFor IsOk Cause (refused why) = (e : DbError) × (why ≡ refusal_for e) × Cause e
IsReplyFor IsOk Cause reply = IsOk reply

module _ {D : Type 0} (device : Disk D) (old new : DbValue D) where
  -- replies Ok to work: its commit is done, and where it stored a document, a cleanup may have come by itself
  abbrev pub IsStored : Work → Reply → Type 0
  IsStored w (stored name) =
      (pass : Pass) × (mid : DbValue D) × HasCommitted device old mid pass w name × Tidies device mid new
  IsStored w reply = ⊥

  abbrev pub IsRemoved : Work → Reply → Type 0
  IsRemoved w removed = (pass : Pass) × (name : Name) × HasCommitted device old new pass w name
  IsRemoved w reply = ⊥

  -- a reply Ok to a cleanup: what was pending is moved
  abbrev pub IsMaintained : Reply → Type 0
  IsMaintained maintained = IsUp old × AreMoved device old new
  IsMaintained reply = ⊥

  -- and to a vacuum: what was pending is moved, and what was dead is gone
  abbrev pub IsVacuumed : Reply → Type 0
  IsVacuumed maintained = IsUp old × AreOut device old new
  IsVacuumed reply = ⊥

  -- a search is refused as what only reads, and it came to the bad page that it names on its way
  abbrev pub CannotSearch : Query → DbError → Type 0
  CannotSearch q e = CannotRead device old new e × ComesToBadPage device old q e

  -- replies Ok to what only reads
  abbrev pub IsListOfNames : Reply → Type 0
  IsListOfNames (lists names) = IsUp old
  IsListOfNames reply = ⊥

  abbrev pub IsListOfCommits : Reply → Type 0
  IsListOfCommits (shows_commits ls) = IsUp old
  IsListOfCommits reply = ⊥

module _ {D : Type 0} (device : Disk D) where
  -- The store was as `old`, and is as `new` after the statement. What is answered Ok was done, and each
  -- refusal has its cause, told of the store as it was or at the step that met it. A statement that doesn't
  -- come to the store leaves it.
  abbrev pub IsCaused : DbValue D → DbValue D → Known → ℕ → Statement → Reply → Type 0
  IsCaused old new known line (insert e) r =
      (IsRefusedBy (ExprFails known e) r × (new ≡ old))
      ⊎ ((v : Vector) × IsValueOf known e v
      × IsReplyFor (IsStored device old new (inserting v)) (HasRefused device old new (inserting v)) r)
  IsCaused old new known line (update d e) r =
      (IsRefusedBy (ExprFails known e) r × (new ≡ old))
      ⊎ ((v : Vector) × IsValueOf known e v
      × IsReplyFor (IsStored device old new (updating d.name v)) (HasRefused device old new (updating d.name v)) r)
  IsCaused old new known line (delete d) r =
      IsReplyFor (IsRemoved device old new (deleting d.name)) (HasRefused device old new (deleting d.name)) r
  IsCaused old new known line (search s) r =
      (IsRefusedBy (QueryFails known s) r × (new ≡ old))
      ⊎ ((q : Query) × IsQueryOf known s q × OnlyReads device old new
      × IsReplyFor (IsListOfNames device old new) (CannotSearch device old new q) r)
  IsCaused old new known line clean_up r =
      HasMoved device old new × IsReplyFor (IsMaintained device old new) (CannotClean device old new) r
  IsCaused old new known line vacuum r =
      HasWorked device old new × IsReplyFor (IsVacuumed device old new) (CannotVacuum device old new) r
  IsCaused old new known line list_commits r =
      OnlyReads device old new × IsReplyFor (IsListOfCommits device old new) (CannotRead device old new) r
  IsCaused old new known line (show e) r = IsShown known e r × (new ≡ old)
  IsCaused old new known line (ask s) r = IsQueried known s r × (new ≡ old)
  IsCaused old new known line (parse text) r = IsParsed text r × (new ≡ old)
  IsCaused old new known line (define head ls) r = IsDefined known line head ls r × (new ≡ old)
  IsCaused old new known line invalid (refused (no_statement at)) = (at ≡ line) × (new ≡ old)
  IsCaused old new known line invalid r = ⊥

  -- The statements of these exchanges, one after another, took the store from the one state to the other.
  abbrev pub AreCaused : List Exchange → DbValue D → DbValue D → Type 0
  AreCaused [] old new = new ≡ old
  AreCaused (x ∷ xs) old new =
      (next : DbValue D) × IsCaused old next x.known x.line x.statement x.reply
      × IsLeftBy device x old next × AreCaused xs next new
