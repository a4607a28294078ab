-- Commits only grow, so those that are flushed are among those of the state.
use Rattle.std.proofs.Common.{◌≡◌, ◌⊎◌, inl, inr, ◌≤◌, ◌&&◌, nat_lt, ℕ, suc, Bool, true, false, cond, ◌==◌, List, []}
use Rattle.std.proofs.Common.{◌∷◌, ◌++◌, length, refl, sym, ap, subst, ◌∙◌, arith, length-append}
use Rattle.std.specs.Prelude.{Option, Some, None, Result, Ok, Err, OnOk, OnErr, ◌↔◌, if◌then◌else◌}
use Rattle.disk_trait.specs.declared.device.Disk.{Ghosts as Disk}
use Rattle.wal.specs.Waiting.{waiting, end_of, end_with, down_of}
use Rattle.page_types.specs.declared.record.Kind.{Kind}
use Rattle.page_types.specs.declared.record.Kind.TheVariants as kind
use Rattle.page_types.specs.declared.record.Record.{Record}
use Rattle.core_state.specs.Log.{Log, changed, commits, xid_bound}
use Rattle.core_state.specs.Legal.{IsLegal, Keeps}
use Rattle.core_state.specs.Logged.{pin_now}
use Rattle.core_state.specs.Documents.{Doc}
use Rattle.core_state.proofs.StateTold.{state_told}
use Rattle.core_state.proofs.Steps.Pins.{flush_keeps_now, whole_cut}
use Rattle.core_state.specs.States.{StateValue, StateTells, state_of, step_of, stepped, committed, aborted}
use Rattle.core_state.specs.States.{ended_all, placed_head, marked_head, transaction, last_serial, noted}
use Rattle.core_state.specs.declared.transactions.Transaction.{Transaction}
use Rattle.buffer_frames.specs.Journals.{JournalValue, IsJournalOf}
use Rattle.buffer_frames.proofs.LastingStates.{told_alike}
use Rattle.buffer_frames.specs.LogCauses.{GoesDown}
use Rattle.buffer_frames.specs.declared.log_error.LogError.{LogError}
use Rattle.buffer_frames.specs.declared.log_error.LogError.TheVariants.{DiskFault, LogFull, Down, XidsSpent}
use Rattle.buffer_frames.specs.declared.log_error.LogError.TheVariants.{OutOfMemory}

either : (b : Bool) (s x y : StateValue) → length s.deleted ≤ length x.deleted → length s.deleted ≤ length y.deleted
    → length s.deleted ≤ length (if b then x else y).deleted
either true s x y e f = e
either false s x y e f = f

committed_more : (n x : ℕ) (o : Option Transaction) (s : StateValue)
    → length s.deleted ≤ length (committed n x o s).deleted
committed_more n x None s = omega arith
committed_more n x (Some t) s =
    either (n == suc (length s.deleted)) s _ s (omega (arith, length-append s.deleted (t.deleted ∷ []))) (omega arith)

aborted_more : (x : ℕ) (o : Option Transaction) (s : StateValue) → length s.deleted ≤ length (aborted x o s).deleted
aborted_more x None s = omega arith
aborted_more x (Some t) s = omega arith

abort_more : (b : Bool) (x : ℕ) (s : StateValue)
    → length s.deleted ≤ length (cond b (ended_all s) (aborted x (transaction x s.running) s)).deleted
abort_more true x s = omega arith
abort_more false x s = aborted_more x (transaction x s.running) s

placed_more : (o : Option Transaction) (d : Doc) (s : StateValue)
    → length s.deleted ≤ length (placed_head o d s).deleted
placed_more None d s = omega arith
placed_more (Some t) d s =
    either ((d.serial == s.next_serial) && nat_lt d.serial (suc last_serial)) s _ s (omega arith) (omega arith)

marked_more : (o : Option Transaction) (d : Doc) (s : StateValue)
    → length s.deleted ≤ length (marked_head o d s).deleted
marked_more None d s = omega arith
marked_more (Some t) d s = omega arith

stepped_more : (k : Kind) (x : ℕ) (ps : List ℕ) (s : StateValue) → length s.deleted ≤ length (stepped k x ps s).deleted
stepped_more kind.Begin x ps s =
    either ((x == suc (length s.fates)) && nat_lt x xid_bound) s _ s (omega arith) (omega arith)
stepped_more (kind.Commit m) x ps s = committed_more m x (transaction x s.running) s
stepped_more kind.Abort x ps s = abort_more (x == 0) x s
stepped_more (kind.PlaceHead item serial) x ps s =
    placed_more (transaction x s.running) (record { item = item; serial = serial }) s
stepped_more (kind.MarkDeleted item serial) x ps s =
    marked_more (transaction x s.running) (record { item = item; serial = serial }) s
stepped_more _ x ps s = omega arith

pub step_more : (r : Record) (s : StateValue) → length s.deleted ≤ length (step_of r s).deleted
step_more r s = stepped_more r.kind r.xid (changed r) (noted r s)

state_more : (p x : ℕ) (waits R : Log) → length (state_of p x R).deleted ≤ length (state_of p x (waits ++ R)).deleted
state_more p x [] R = omega arith
state_more p x (r ∷ waits) R = omega (arith, state_more p x waits R, step_more r (state_of p x (waits ++ R)))

-- commits that are flushed are commits
pub flushed_within : {D : Type 0} (device : Disk D) (j : JournalValue D) (R : Log) → IsJournalOf device j R
    → down_of j.wal ≡ None → j.flushed ≤ length j.state.deleted
flushed_within device j R s up =
    let p : ℕ = j.state.pages in
    let x : ℕ = j.state.xid_limit in
    let all : length j.state.deleted ≡ length (state_of p x (s.waits ++ s.counted)).deleted =
    ap (λ (v : StateValue). length v.deleted) s.state ∙ ap (λ (l : Log). length (state_of p x l).deleted) s.all in
    omega (arith, s.flushed up, all, state_more p x s.waits s.counted)

-- the commits that are flushed since
pub flushed_since : {D : Type 0} (device : Disk D) (R : Log) (j j' : JournalValue D) → IsJournalOf device j R
    → IsLegal R → Keeps R (pin_now j.flushed R) → (j'.flushed ≡ j.flushed) ⊎ (j'.flushed ≡ length j.state.deleted)
    → (j.flushed ≤ j'.flushed) × Keeps R (pin_now j'.flushed R)
flushed_since device R j j' s legal now (inl e) =
    (omega (arith, e), subst (λ (n : ℕ). Keeps R (pin_now n R)) (sym e) now)
flushed_since device R j j' s legal now (inr e) =
    let told : StateTells R j.state = told_alike R j.state (state_of j.state.pages j.state.xid_limit R) s.state
    (state_told j.state.pages j.state.xid_limit R legal) in
    let all : j'.flushed ≡ commits R = e ∙ told.commits in
    let le : j.flushed ≤ commits R = subst (λ (S : Log). j.flushed ≤ commits S) (whole_cut R) now.counted in
    (omega (arith, all, le), flush_keeps_now R j.flushed j'.flushed (omega (arith, all, le)) (omega (arith, all)) now)

-- on every device
pub flushed_more : {D : Type 0} (device : Disk D) (R : Log) (j j' : JournalValue D) → IsJournalOf device j R
    → down_of j.wal ≡ None → (j'.flushed ≡ j.flushed) ⊎ (j'.flushed ≡ length j.state.deleted) → j.flushed ≤ j'.flushed
flushed_more device R j j' s up (inl e) = omega (arith, e)
flushed_more device R j j' s up (inr e) = omega (arith, e, flushed_within device j R s up)

-- a flush
pub flush_grows : {D : Type 0} (device : Disk D) (R : Log) (j j' : JournalValue D) (r : Result (Unit {0}) LogError)
    → IsJournalOf device j R → OnOk r ((waiting j'.wal ≡ []) × (end_of j'.wal ≡ end_with (end_of j.wal) (waiting j.wal))
    × (j'.flushed ≡ length j.state.deleted)) → OnErr r (j'.flushed ≡ j.flushed)
    → ((f : ℕ) → (r ≡ Err (Down f)) ↔ (down_of j.wal ≡ Some f))
    → (j.flushed ≤ j'.flushed) × ((j'.flushed ≡ j.flushed) ⊎ (j'.flushed ≡ length j.state.deleted))
flush_grows device R j j' (Err e) s done same down = (omega (arith, same), inl same)
flush_grows device R j j' (Ok x) s done same down =
    (flushed_more device R j j' s (up_now (down_of j.wal) refl) (inr done.2), inr done.2)
  where
    up_now : (o : Option ℕ) → down_of j.wal ≡ o → down_of j.wal ≡ None
    up_now None e = e
    up_now (Some f) e = absurd
        (let is : (let y : Result (Unit {0}) LogError = Ok x in y ≡ Err (Down f)) = (down f).1 e in let z : ⊥ = cc in z)

-- a journal that is up was up
pub was_up : {T : Type 0} (r : Result T LogError) (n : ℕ) (o o' : Option ℕ) → GoesDown r n o o' → o' ≡ None → o ≡ None
was_up (Ok x) n o o' goes up = sym goes ∙ up
was_up (Err DiskFault) n o o' goes up = absurd (let is : Some n ≡ None = sym goes ∙ up in let z : ⊥ = cc in z)
was_up (Err LogFull) n o o' goes up = sym goes ∙ up
was_up (Err (Down f)) n o o' goes up = sym goes ∙ up
was_up (Err XidsSpent) n o o' goes up = sym goes ∙ up
was_up (Err OutOfMemory) n o o' goes up = sym goes ∙ up

-- a step that is logged, or refused
pub log_grows : {D : Type 0} (device : Disk D) (R : Log) (j j' : JournalValue D) → IsJournalOf device j R
    → ((f : ℕ) → down_of j.wal ≡ Some f → j' ≡ j) → (j'.flushed ≡ j.flushed) ⊎ (j'.flushed ≡ length j.state.deleted)
    → j.flushed ≤ j'.flushed
log_grows {D} device R j j' s stays flushed = go (down_of j.wal) refl
  where
    go : (o : Option ℕ) → down_of j.wal ≡ o → j.flushed ≤ j'.flushed
    go None e = flushed_more device R j j' s e flushed
    go (Some f) e = omega (arith, ap (λ (k : JournalValue D). k.flushed) (stays f e))

-- a log that answers Ok is up
pub up_logged : {T : Type 0} (o : Option ℕ) (r : Result T LogError) (x : T)
    → ((f : ℕ) → (r ≡ Err (Down f)) ↔ (o ≡ Some f)) → r ≡ Ok x → o ≡ None
up_logged None r x down ok = refl
up_logged (Some f) r x down ok = let is : r ≡ Err (Down f) = (down f).1 refl in absurd (let z : ⊥ = cc in z)
