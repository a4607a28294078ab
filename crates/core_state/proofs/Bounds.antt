-- A step keeps the bounds of a store, and has the record's number.
use Rattle.std.proofs.Common.{◌≡◌, ◌&&◌, nat_lt, ℕ, suc, Bool, true, false, cond, ◌==◌, List, [], ◌∷◌, length, refl, ap}
use Rattle.std.proofs.Common.{◌∙◌}
use Rattle.std.specs.Prelude.{Option, Some, None, if◌then◌else◌}
use Rattle.page_types.specs.declared.record.Kind.{Kind}
use Rattle.page_types.specs.declared.record.Kind.TheVariants as kind
use Rattle.page_types.specs.declared.record.Record.{Record}
use Rattle.core_state.specs.Log.{Log, changed, xid_bound}
use Rattle.core_state.specs.Documents.{Doc}
use Rattle.core_state.specs.States.{StateValue, state_of, step_of, stepped, begun, committed, aborted, ended_all}
use Rattle.core_state.specs.States.{placed_head, marked_head, transaction, last_serial, noted}
use Rattle.core_state.specs.declared.transactions.Transaction.{Transaction}

-- the bounds, and the number
abbrev pub marks : StateValue → ℕ × ℕ × ℕ
marks s = (s.pages, s.xid_limit, s.records)

either : (b : Bool) (s x y : StateValue) → marks x ≡ marks s → marks y ≡ marks s → marks (if b then x else y) ≡ marks s
either true s x y e f = e
either false s x y e f = f

begun_marks : (x : ℕ) (s : StateValue) → marks (begun x s) ≡ marks s
begun_marks x s = either ((x == suc (length s.fates)) && nat_lt x xid_bound) s _ s refl refl

committed_marks : (n x : ℕ) (o : Option Transaction) (s : StateValue) → marks (committed n x o s) ≡ marks s
committed_marks n x None s = refl
committed_marks n x (Some t) s = either (n == suc (length s.deleted)) s _ s refl refl

aborted_marks : (x : ℕ) (o : Option Transaction) (s : StateValue) → marks (aborted x o s) ≡ marks s
aborted_marks x None s = refl
aborted_marks x (Some t) s = refl

abort_marks : (b : Bool) (x : ℕ) (s : StateValue)
    → marks (cond b (ended_all s) (aborted x (transaction x s.running) s)) ≡ marks s
abort_marks true x s = refl
abort_marks false x s = aborted_marks x (transaction x s.running) s

placed_marks : (o : Option Transaction) (d : Doc) (s : StateValue) → marks (placed_head o d s) ≡ marks s
placed_marks None d s = refl
placed_marks (Some t) d s = either ((d.serial == s.next_serial) && nat_lt d.serial (suc last_serial)) s _ s refl refl

marked_marks : (o : Option Transaction) (d : Doc) (s : StateValue) → marks (marked_head o d s) ≡ marks s
marked_marks None d s = refl
marked_marks (Some t) d s = refl

stepped_marks : (k : Kind) (x : ℕ) (ps : List ℕ) (s : StateValue) → marks (stepped k x ps s) ≡ marks s
stepped_marks kind.Begin x ps s = begun_marks x s
stepped_marks (kind.Commit m) x ps s = committed_marks m x (transaction x s.running) s
stepped_marks kind.Abort x ps s = abort_marks (x == 0) x s
stepped_marks (kind.PlaceHead item serial) x ps s =
    placed_marks (transaction x s.running) (record { item = item; serial = serial }) s
stepped_marks (kind.MarkDeleted item serial) x ps s =
    marked_marks (transaction x s.running) (record { item = item; serial = serial }) s
stepped_marks _ x ps s = refl

pub step_marks : (r : Record) (s : StateValue) → marks (step_of r s) ≡ (s.pages, s.xid_limit, r.number)
step_marks r s = stepped_marks r.kind r.xid (changed r) (noted r s)

pub state_bounds : (pages xid_limit : ℕ) (R : Log)
    → ((state_of pages xid_limit R).pages ≡ pages) × ((state_of pages xid_limit R).xid_limit ≡ xid_limit)
state_bounds pages xid_limit [] = (refl, refl)
state_bounds pages xid_limit (r ∷ R) =
    let ih = state_bounds pages xid_limit R in
    let m = step_marks r (state_of pages xid_limit R) in
    (ap (λ (t : ℕ × ℕ × ℕ). t.0) m ∙ ih.0, ap (λ (t : ℕ × ℕ × ℕ). t.1) m ∙ ih.1)
