-- The state that follows records which are numbered on.
use Rattle.std.proofs.Common.{◌≡◌, ℕ, suc, Bool, true, false, List, [], ◌∷◌, length, refl, ap, ◌∙◌}
use Rattle.std.specs.Prelude.{Option, Some, None, if◌then◌else◌, ◌&&◌, ◌==◌, nat_lt}
use Rattle.page_types.specs.declared.record.Kind.{Kind}
use Rattle.page_types.specs.declared.record.Kind.TheVariants as kind
use Rattle.page_types.specs.declared.record.Record.{Record}
use Rattle.core_state.specs.Log.{Log, changed, xid_bound}
use Rattle.core_state.specs.Documents.{Doc}
use Rattle.core_state.specs.States.{StateValue, uses_after, sizes_after, stepped, step_of, state_of, committed, aborted}
use Rattle.core_state.specs.States.{ended_all, placed_head, marked_head, transaction, last_serial}
use Rattle.core_state.specs.declared.transactions.Transaction.{Transaction}
use Rattle.core_state.proofs.Framing.{framed_step}
use Rattle.buffer_frames.specs.Counted.{AreNumbered}

pub step_number : (r : Record) (s : StateValue) → (step_of r s).records ≡ r.number
step_number r s =
    ap (λ (t : StateValue). t.records)
    (framed_step r.kind r.xid (changed r) r.number (uses_after r.number r.changes s.uses)
    (record s { sizes = sizes_after r.changes s.sizes }))

pub state_number : (pages xid_limit : ℕ) (R : Log) → AreNumbered R → (state_of pages xid_limit R).records ≡ length R
state_number pages xid_limit [] a = refl
state_number pages xid_limit (r ∷ R) a = step_number r (state_of pages xid_limit R) ∙ a.1

-- how many pages a store may have, and where its xids end, stay
abbrev SameLimits : StateValue → StateValue → Type 0
SameLimits s t = (t.pages ≡ s.pages) × (t.xid_limit ≡ s.xid_limit)

either_same : (b : Bool) (s t u : StateValue) → SameLimits s t → SameLimits s u → SameLimits s (if b then t else u)
either_same true s t u l m = l
either_same false s t u l m = m

committed_same : (n x : ℕ) (o : Option Transaction) (s : StateValue) → SameLimits s (committed n x o s)
committed_same n x None s = (refl, refl)
committed_same n x (Some t) s = either_same (n == suc (length s.deleted)) s _ s (refl, refl) (refl, refl)

aborted_same : (x : ℕ) (o : Option Transaction) (s : StateValue) → SameLimits s (aborted x o s)
aborted_same x None s = (refl, refl)
aborted_same x (Some t) s = (refl, refl)

placed_same : (o : Option Transaction) (d : Doc) (s : StateValue) → SameLimits s (placed_head o d s)
placed_same None d s = (refl, refl)
placed_same (Some t) d s =
    either_same ((d.serial == s.next_serial) && nat_lt d.serial (suc last_serial)) s _ s (refl, refl) (refl, refl)

marked_same : (o : Option Transaction) (d : Doc) (s : StateValue) → SameLimits s (marked_head o d s)
marked_same None d s = (refl, refl)
marked_same (Some t) d s = (refl, refl)

stepped_same : (k : Kind) (x : ℕ) (ps : List ℕ) (s : StateValue) → SameLimits s (stepped k x ps s)
stepped_same kind.Begin x ps s =
    either_same ((x == suc (length s.fates)) && nat_lt x xid_bound) s _ s (refl, refl) (refl, refl)
stepped_same (kind.Commit n) x ps s = committed_same n x (transaction x s.running) s
stepped_same kind.Abort x ps s =
    either_same (x == 0) s (ended_all s) (aborted x (transaction x s.running) s) (refl, refl)
    (aborted_same x (transaction x s.running) s)
stepped_same (kind.PlaceHead item serial) x ps s =
    placed_same (transaction x s.running) (record { item = item; serial = serial }) s
stepped_same (kind.MarkDeleted item serial) x ps s =
    marked_same (transaction x s.running) (record { item = item; serial = serial }) s
stepped_same _ x ps s = (refl, refl)

pub state_limits : (pages xid_limit : ℕ) (R : Log) → ((state_of pages xid_limit R).pages ≡ pages)
    × ((state_of pages xid_limit R).xid_limit ≡ xid_limit)
state_limits pages xid_limit [] = (refl, refl)
state_limits pages xid_limit (r ∷ R) =
    let now =
    stepped_same r.kind r.xid (changed r)
    (record (state_of pages xid_limit R) {
      records = r.number;
      uses = uses_after r.number r.changes (state_of pages xid_limit R).uses;
      sizes = sizes_after r.changes (state_of pages xid_limit R).sizes;
    }) in
    let so_far = state_limits pages xid_limit R in
    (now.0 ∙ so_far.0, now.1 ∙ so_far.1)
