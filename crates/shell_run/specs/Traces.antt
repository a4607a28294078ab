-- Runs that no call leaves: what each field of a run rules out.
use Rattle.std.specs.Prelude.{◌≡◌, ◌≢◌, ℕ, ◌<◌, ◌≤◌, List, [], ◌∷◌, ◌++◌, length, Option, Some, String}
use Rattle.std.specs.declared.alloc.Global.{Global}
use Rattle.disk_trait.specs.Files.{Files}
use Rattle.disk_trait.specs.declared.device.Disk.{Ghosts as Disk}
use Rattle.disk_trait.specs.declared.stream.Source.{Ghosts as Source}
use Rattle.disk_trait.specs.declared.stream.Sink.{Ghosts as Sink}
use Rattle.ts_config.specs.Known.{Known}
use Rattle.shell_script.specs.Lines.{Line}
use Rattle.shell_script.specs.OpeningLines.{Kind, dictionary_opening}
use Rattle.shell_script.specs.Steps.{Step}
use Rattle.shell_script.specs.Grammar.{Expr, insert, update, list_commits, define}
use Rattle.shell_script.specs.Docs.{Doc}
use Rattle.engine.specs.Opened.{Settings}
use Rattle.engine.specs.Db.{IsFlushed}
use Rattle.engine.specs.Finding.{Name, History}
use Rattle.shell_run.specs.Run.{Exchange, Counts, Before, Run, AreNoted, MayCall, HasSeen, stored, removed, done}
use Rattle.shell_run.specs.Run.{refused, down, CommitLine, shows_commits, device}
use Rattle.shell_run.specs.Script.{AreExchanges, printed_exchange}
use Rattle.shell_run.specs.declared.sending.TheConstants.{PIECE_BYTES}
use Rattle.shell_run.specs.Outcomes.{Answered}
use Rattle.shell_run.specs.Crash.{Reaches}
use Rattle.shell_run.specs.RanOn.{RanOn}
use Rattle.engine.specs.Opening.{IsNoStore, IsUnmade}
use Rattle.shell_run.specs.RunMeets.{HasCauses, HasNotRun, Headline}
use Rattle.shell_run.specs.declared.top.Outcome.{Outcome}

-- an insertion in which a write failed, and one after it that is stored
abbrev pub NoneIsStoredAfterFailure : Type 0
NoneIsStoredAfterFailure = (counts : Counts) (a b : Exchange) (e f : Expr) (n : Name)
    → a.statement ≡ insert e → a.reply ≡ refused device → b.statement ≡ insert f
    → b.reply ≡ stored n → Before a b → AreNoted counts (a ∷ b ∷ []) → ⊥

-- an insertion in which a write failed, and one after it that finds the store down and still has a
-- commit
abbrev pub NoneIsCommittedAfterFailure : Type 0
NoneIsCommittedAfterFailure =
    (counts : Counts) (first commits : History) (a b : Exchange) (e : Expr) (n p : ℕ)
    → a.statement ≡ insert e → a.reply ≡ refused device → b.reply ≡ refused (down n)
    → b.note.commit ≡ Some p → Before a b → AreNoted counts (a ∷ b ∷ [])
    → Run counts first commits (a ∷ b ∷ []) → ⊥

-- a clock that falls from a statement to one after it
abbrev pub NoClockFalls : {D : Type 0} → Disk D → Type 0
NoClockFalls {D} disk =
    (settings : Settings) (first new : D) (a b : Exchange) → Before a b
    → b.note.clock < a.note.clock → RanOn disk settings first new (a ∷ b ∷ []) → ⊥

-- an insertion that is stored, and calls of the device after its clock, though the statement after it
-- makes none
abbrev pub NoFlushIsLate : {D : Type 0} → Disk D → Type 0
NoFlushIsLate {D} disk =
    (settings : Settings) (first new : D) (a b : Exchange) (n : Name) → a.reply ≡ stored n
    → (MayCall b.statement b.reply → ⊥) → a.note.clock < disk.clock new
    → RanOn disk settings first new (a ∷ b ∷ []) → ⊥

-- a deletion that is done, and a store in which something waits for a flush at the end, though the
-- statement after it makes no call
abbrev pub NoFlushIsOwed : {D : Type 0} → Disk D → Type 0
NoFlushIsOwed {D} disk =
    (settings : Settings) (first new : D) (a b : Exchange) → a.reply ≡ removed
    → (MayCall b.statement b.reply → ⊥)
    → (r : RanOn disk settings first new (a ∷ b ∷ [])) → (IsFlushed r.last → ⊥) → ⊥

-- a stop at a moment before an answer that leaves the commit of a statement after it
abbrev pub NoCommitIsEarly : Type 0
NoCommitIsEarly =
    (files : Files) (m p : ℕ) (first commits : History) (a b : Exchange) → Before a b
    → m < a.note.clock → b.note.commit ≡ Some p
    → (r : Reaches files m first commits (a ∷ b ∷ [])) → p < length r.kept → ⊥

-- a stop at the clock of an insertion that is stored, or later, that leaves no commit of it
abbrev pub NoCommitIsLate : Type 0
NoCommitIsLate =
    (files : Files) (m p : ℕ) (n : Name) (first commits : History) (a : Exchange) → a.reply ≡ stored n
    → a.note.commit ≡ Some p → a.note.clock ≤ m
    → (r : Reaches files m first commits (a ∷ [])) → length r.kept ≤ p → ⊥

-- an insertion that is stored, and a list of commits after it that ends before its commit
abbrev pub NoCommitIsLeftOut : Type 0
NoCommitIsLeftOut = (counts : Counts) (first commits : History) (a b : Exchange) (n : Name) (p : ℕ)
    (ls : List CommitLine) → a.reply ≡ stored n → a.note.commit ≡ Some p
    → b.statement ≡ list_commits → b.reply ≡ shows_commits ls → length ls ≤ p → Before a b
    → Run counts first commits (a ∷ b ∷ []) → ⊥

-- an update that is stored in place of a document that it did not see
abbrev pub NoneIsReplacedUnseen : Type 0
NoneIsReplacedUnseen = (counts : Counts) (first commits : History) (a : Exchange) (d : Doc) (e : Expr) (n : Name)
    → a.statement ≡ update d e → a.reply ≡ stored n → (HasSeen commits a.note d.name → ⊥)
    → Run counts first commits (a ∷ []) → ⊥

-- a failed write or sync that no statement notes
abbrev pub EachFailureIsNoted : Type 0
EachFailureIsNoted = (counts : Counts) (a b : Exchange)
    → a.note.writes ≡ 0 → b.note.writes ≡ 0 → counts.writes < counts.writes_after
    → AreNoted counts (a ∷ b ∷ []) → ⊥

-- one failure that is said with two counts
abbrev pub OneCountIsTold : Type 0
OneCountIsTold = (counts : Counts) (a b : Exchange) (m n : ℕ)
    → a.reply ≡ refused (down m) → b.reply ≡ refused (down n) → m ≢ n
    → AreNoted counts (a ∷ b ∷ []) → ⊥

-- replies that are printed with status 4
abbrev pub NothingIsPrintedWith4 : Type 0
NothingIsPrintedWith4 = (text : List ℕ) (before after : Option (List ℕ)) (exchanges : List Exchange)
    → Answered text 4 before after exchanges → ⊥

-- two dictionaries of one name, one after the other, that are done
abbrev pub NoNameIsTakenTwice : Type 0
NoNameIsTakenTwice = (counts : Counts) (first commits : History) (known last : Known) (s t : Step)
    (a b : Exchange) (name : List ℕ) (j k : Kind) (ls ms : List Line)
    → a.statement ≡ define (dictionary_opening name j) ls → a.reply ≡ done
    → b.statement ≡ define (dictionary_opening name k) ms → b.reply ≡ done
    → AreExchanges known (s ∷ t ∷ []) (a ∷ b ∷ []) last → Run counts first commits (a ∷ b ∷ []) → ⊥

-- a exchange after one of which nothing was taken, though its text is a whole piece
abbrev pub NoneRunsAfterTheSinkFailed : Type 0
NoneRunsAfterTheSinkFailed =
    (text before : List ℕ) (status : ℕ) (a b : Exchange) → PIECE_BYTES ≤ length (printed_exchange a)
    → Answered text status (Some before) (Some before) (a ∷ b ∷ []) → ⊥

-- replies that are printed though the source has bytes left
abbrev pub NoHalfScriptIsRun : {S K D : Type 0} → Source S → Sink K → Disk D → Type 0
NoHalfScriptIsRun {S} {K} {D} source sink disk =
    (words : List (String Global)) (script : S) (out : K) (d : D) (r : Outcome S K D) (b c : ℕ)
    (bytes before text : List ℕ)
    → source.left r.script ≡ Some (b ∷ bytes) → sink.taken out ≡ Some before
    → sink.taken r.out ≡ Some (before ++ c ∷ text) → Headline source sink disk words script out d r → ⊥

module _ {K D : Type 0} (sink : Sink K) (disk : Disk D) where
  -- a log that is written over, and status 4
  abbrev pub NoLogIsWiped : Type 0
  NoLogIsWiped = (out out' : K) (d d' : D) → disk.tells → (disk.seen d').log ≢ (disk.seen d).log
      → HasCauses sink disk 4 out out' d d' → ⊥

  -- files that are no store, and that are written to, whatever the status
  abbrev pub NoStrayFileIsWritten : Type 0
  NoStrayFileIsWritten = (status : ℕ) (out out' : K) (d d' : D) → disk.tells
      → IsNoStore (disk.seen d) → disk.seen d' ≢ disk.seen d
      → HasCauses sink disk status out out' d d' → ⊥

  -- files of a store that is made, and that are written to though nothing was run
  abbrev pub NoStoreIsWrittenUnrun : Type 0
  NoStoreIsWrittenUnrun = (status : ℕ) (out out' : K) (d d' : D) → disk.tells
      → (IsUnmade (disk.seen d) → ⊥) → disk.seen d' ≢ disk.seen d
      → HasNotRun sink disk status out out' d d' → ⊥

  -- a page file that is written to
  abbrev pub NoPageIsWritten : Type 0
  NoPageIsWritten = (status : ℕ) (out out' : K) (d d' : D) → disk.tells
      → (disk.seen d').pages ≢ (disk.seen d).pages → HasCauses sink disk status out out' d d' → ⊥
