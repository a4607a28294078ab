-- A step leaves the number of the last record, the uses of pages and the lengths of their bodies alone, and goes by
-- none of them.
use Rattle.std.proofs.Common.{◌≡◌, ℕ, suc, Bool, true, false, cond, ◌==◌, List, length, refl, sym, ap, ◌∙◌}
use Rattle.std.specs.Prelude.{Option, Some, None, if◌then◌else◌, ◌&&◌, nat_lt}
use Rattle.page_types.specs.declared.record.Kind.{Kind}
use Rattle.page_types.specs.declared.record.Kind.TheVariants as kind
use Rattle.page_types.specs.declared.record.Record.{Record}
use Rattle.core_state.specs.Log.{xid_bound, changed}
use Rattle.core_state.specs.Documents.{Doc}
use Rattle.core_state.specs.States.{StateValue, begun, committed, aborted, ended_all, placed_head, marked_head, stepped}
use Rattle.core_state.specs.States.{transaction, last_serial, uses_after, sizes_after, step_of}
use Rattle.core_state.specs.declared.transactions.Transaction.{Transaction}
use Rattle.core_state.specs.declared.answers.PageUse.{PageUse}

-- a state with another number, other uses and other lengths
abbrev paged : ℕ → List PageUse → List ℕ → StateValue → StateValue
paged n us ns s = record s { records = n; uses = us; sizes = ns }

if_both : {A B : Type 0} (b : Bool) (f : A → B) (x y : A) → (if b then f x else f y) ≡ f (if b then x else y)
if_both true f x y = refl
if_both false f x y = refl

cond_both : {A B : Type 0} (b : Bool) (f : A → B) (x y : A) → cond b (f x) (f y) ≡ f (cond b x y)
cond_both true f x y = refl
cond_both false f x y = refl

paged_begun : (x n : ℕ) (us : List PageUse) (ns : List ℕ) (s : StateValue)
    → begun x (paged n us ns s) ≡ paged n us ns (begun x s)
paged_begun x n us ns s = if_both ((x == suc (length s.fates)) && nat_lt x xid_bound) (paged n us ns) _ s

paged_committed : (m x n : ℕ) (us : List PageUse) (ns : List ℕ) (o : Option Transaction) (s : StateValue)
    → committed m x o (paged n us ns s) ≡ paged n us ns (committed m x o s)
paged_committed m x n us ns None s = refl
paged_committed m x n us ns (Some t) s = if_both (m == suc (length s.deleted)) (paged n us ns) _ s

paged_aborted : (x n : ℕ) (us : List PageUse) (ns : List ℕ) (o : Option Transaction) (s : StateValue)
    → aborted x o (paged n us ns s) ≡ paged n us ns (aborted x o s)
paged_aborted x n us ns None s = refl
paged_aborted x n us ns (Some t) s = refl

paged_abort : (x n : ℕ) (us : List PageUse) (ns : List ℕ) (s : StateValue)
    → cond (x == 0) (ended_all (paged n us ns s)) (aborted x (transaction x s.running) (paged n us ns s))
    ≡ paged n us ns
    (cond (x == 0) (ended_all s) (aborted x (transaction x s.running) s))
paged_abort x n us ns s =
    ap (cond (x == 0) (ended_all (paged n us ns s))) (paged_aborted x n us ns (transaction x s.running) s)
    ∙ cond_both (x == 0) (paged n us ns) (ended_all s) (aborted x (transaction x s.running) s)

paged_placed : (d : Doc) (n : ℕ) (us : List PageUse) (ns : List ℕ) (o : Option Transaction) (s : StateValue)
    → placed_head o d (paged n us ns s) ≡ paged n us ns (placed_head o d s)
paged_placed d n us ns None s = refl
paged_placed d n us ns (Some t) s = if_both ((d.serial == s.next_serial) && nat_lt d.serial (suc last_serial))
    (paged n us ns) _ s

paged_marked : (d : Doc) (n : ℕ) (us : List PageUse) (ns : List ℕ) (o : Option Transaction) (s : StateValue)
    → marked_head o d (paged n us ns s) ≡ paged n us ns (marked_head o d s)
paged_marked d n us ns None s = refl
paged_marked d n us ns (Some t) s = refl

paged_step : (k : Kind) (x : ℕ) (ps : List ℕ) (n : ℕ) (us : List PageUse) (ns : List ℕ) (s : StateValue)
    → stepped k x ps (paged n us ns s) ≡ paged n us ns (stepped k x ps s)
paged_step kind.Begin x ps n us ns s = paged_begun x n us ns s
paged_step (kind.Commit m) x ps n us ns s = paged_committed m x n us ns (transaction x s.running) s
paged_step kind.Abort x ps n us ns s = paged_abort x n us ns s
paged_step (kind.PlaceHead item serial) x ps n us ns s = paged_placed (record { item = item; serial = serial }) n us ns
    (transaction x s.running) s
paged_step (kind.MarkDeleted item serial) x ps n us ns s =
    paged_marked (record { item = item; serial = serial }) n us ns
    (transaction x s.running) s
paged_step _ x ps n us ns s = refl

-- a step by a kind leaves them
stepped_sizes : (k : Kind) (x : ℕ) (ps : List ℕ) (s : StateValue) → (stepped k x ps s).sizes ≡ s.sizes
stepped_sizes k x ps s = ap (λ (t : StateValue). t.sizes) (paged_step k x ps s.records s.uses s.sizes s)

-- those after a record are those that its changes make
pub step_uses : (r : Record) (s : StateValue) → (step_of r s).uses ≡ uses_after r.number r.changes s.uses
step_uses r s = ap (λ (t : StateValue). t.uses)
    (paged_step r.kind r.xid (changed r) r.number (uses_after r.number r.changes s.uses)
    (sizes_after r.changes s.sizes) s)

pub step_sizes : (r : Record) (s : StateValue) → (step_of r s).sizes ≡ sizes_after r.changes s.sizes
step_sizes r s = ap (λ (t : StateValue). t.sizes)
    (paged_step r.kind r.xid (changed r) r.number (uses_after r.number r.changes s.uses)
    (sizes_after r.changes s.sizes) s)

-- a state with another number and other uses
abbrev pub framed : ℕ → List PageUse → StateValue → StateValue
framed n us s = record s { records = n; uses = us }

pub framed_step : (k : Kind) (x : ℕ) (ps : List ℕ) (n : ℕ) (us : List PageUse) (s : StateValue)
    → stepped k x ps (framed n us s) ≡ framed n us (stepped k x ps s)
framed_step k x ps n us s =
    paged_step k x ps n us s.sizes s
    ∙ ap (λ (ns : List ℕ). paged n us ns (stepped k x ps s)) (sym (stepped_sizes k x ps s))
