-- A step on documents is logged, or refused.
use Rattle.std.proofs.Common.{◌≡◌, ℕ, false, refl, subst}
use Rattle.std.specs.Prelude.{◌↔◌, Option, Some, None, Result, Err}
use Rattle.disk_trait.specs.declared.device.Disk.{Ghosts as Disk}
use Rattle.wal.specs.Waiting.{limit_of, down_of, length_with}
use Rattle.page_types.specs.declared.record.Record.{Record}
use Rattle.page_types.specs.declared.record.Kind.{Kind}
use Rattle.page_types.specs.declared.record.Kind.TheVariants as kind
use Rattle.buffer_frames.specs.Opens.{IsEarlyKind}
use Rattle.buffer_frames.specs.Journals.{logged_bytes, is_work, IsSpent}
use Rattle.buffer_frames.specs.LogCauses.{LogFullWhere}
use Rattle.buffer_frames.specs.Passes.{xid_after}
use Rattle.buffer_frames.specs.declared.log_error.LogError.{LogError}
use Rattle.buffer_frames.specs.declared.log_error.LogError.TheVariants as logs
use Rattle.engine.specs.Answers.{MeetsNoBadPage}
use Rattle.engine.specs.Db.{DbValue}
use Rattle.engine.specs.Inner.Refusals.{log_refusal}
use Rattle.engine.specs.Inner.Changing.{ChangesDocument, CannotLog}
use Rattle.engine.specs.declared.error.DbError.{DbError}
use Rattle.engine.specs.declared.error.DbError.TheVariants.{BadPage}

pub early_of : (k : Kind) → ChangesDocument k → IsEarlyKind k
early_of (kind.PlaceHead item serial) doc = tt
early_of (kind.PutOverflow item serial) doc = tt
early_of (kind.MarkDeleted item serial) doc = tt
early_of (kind.PutPending item serial) doc = tt
early_of (kind.AddRow item serial) doc = tt
early_of (kind.LinkPending item serial) doc = tt
early_of _ doc = absurd doc

-- it is no maintenance
pub rests_of : (k : Kind) → ChangesDocument k → is_work k ≡ false
rests_of (kind.PlaceHead item serial) doc = refl
rests_of (kind.PutOverflow item serial) doc = refl
rests_of (kind.MarkDeleted item serial) doc = refl
rests_of (kind.PutPending item serial) doc = refl
rests_of (kind.AddRow item serial) doc = refl
rests_of (kind.LinkPending item serial) doc = refl
rests_of _ doc = absurd doc

pub no_begin : (k : Kind) → ChangesDocument k → k ≡ kind.Begin → ⊥
no_begin k doc is = subst ChangesDocument is doc

-- a pass keeps its xid
pub xid_stays : (k : Kind) (value : ℕ) (xid : Option ℕ) → ChangesDocument k → xid_after k value xid ≡ xid
xid_stays (kind.PlaceHead item serial) value xid doc = refl
xid_stays (kind.PutOverflow item serial) value xid doc = refl
xid_stays (kind.MarkDeleted item serial) value xid doc = refl
xid_stays (kind.PutPending item serial) value xid doc = refl
xid_stays (kind.AddRow item serial) value xid doc = refl
xid_stays (kind.LinkPending item serial) value xid doc = refl
xid_stays _ value xid doc = absurd doc

-- why a record isn't logged
pub log_cause : {D T : Type 0} (s : DbValue D) (r : Record) (k : Kind) (answer : Result T LogError) (e : LogError)
    → answer ≡ Err e → ChangesDocument k
    → LogFullWhere (limit_of s.frames.journal.wal)
    (length_with s.frames.journal.wal (logged_bytes s.frames.journal r)) answer
    → (answer ≡ Err logs.XidsSpent) ↔ ((down_of s.frames.journal.wal ≡ None) × IsSpent s.frames.journal.state k)
    → ((f : ℕ) → (answer ≡ Err (logs.Down f)) ↔ (down_of s.frames.journal.wal ≡ Some f))
    → CannotLog s r (log_refusal e)
log_cause s r k answer logs.LogFull is doc full spent down =
    subst (LogFullWhere (limit_of s.frames.journal.wal)
    (length_with s.frames.journal.wal (logged_bytes s.frames.journal r))) is full
log_cause s r k answer logs.XidsSpent is doc full spent down = absurd (no_begin k doc ((spent.0 is).1).0)
log_cause s r k answer (logs.Down f) is doc full spent down = (down f).0 is
log_cause s r k answer logs.DiskFault is doc full spent down = tt
log_cause s r k answer logs.OutOfMemory is doc full spent down = tt

-- no refused record meets a bad page
pub log_lawful : {D : Type 0} (device : Disk D) (old s : DbValue D) (r : Record) (e : DbError) → CannotLog s r e
    → MeetsNoBadPage device old e
log_lawful device old s r (BadPage p) why = absurd why
log_lawful device old s r _ why = tt
