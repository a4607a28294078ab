-- What belongs to a run alone goes into no step.
use Rattle.std.proofs.Common.{◌≡◌, ℕ, suc, Bool, true, false, cond, ◌==◌, List, length, refl, sym, ap, subst}
use Rattle.std.proofs.Common.{◌∙◌}
use Rattle.std.specs.Prelude.{Option, Some, None, if◌then◌else◌, ◌&&◌, nat_lt}
use Rattle.page_types.specs.declared.record.Kind.{Kind}
use Rattle.page_types.specs.declared.record.Kind.TheVariants as kind
use Rattle.page_types.specs.declared.record.Record.{Record}
use Rattle.core_state.specs.Log.{Log, changed, xid_bound}
use Rattle.core_state.specs.Documents.{Doc}
use Rattle.core_state.specs.States.{StateValue, StateTells, step_of, stepped, noted, committed}
use Rattle.core_state.specs.States.{aborted, ended_all, placed_head, marked_head, transaction, last_serial}
use Rattle.core_state.specs.declared.transactions.Transaction.{Transaction}
use Rattle.buffer_frames.specs.Journals.{lasting}

either : (b : Bool) (x y x' y' : StateValue) → lasting x ≡ lasting x' → lasting y ≡ lasting y'
    → lasting (if b then x else y) ≡ lasting (if b then x' else y')
either true x y x' y' e f = e
either false x y x' y' e f = f

lasting_committed : (m x : ℕ) (o : Option Transaction) (s : StateValue)
    → lasting (committed m x o (lasting s)) ≡ lasting (committed m x o s)
lasting_committed m x None s = refl
lasting_committed m x (Some t) s = either (m == suc (length s.deleted)) _ (lasting s) _ s refl refl

lasting_aborted : (x : ℕ) (o : Option Transaction) (s : StateValue)
    → lasting (aborted x o (lasting s)) ≡ lasting (aborted x o s)
lasting_aborted x None s = refl
lasting_aborted x (Some t) s = refl

lasting_abort : (b : Bool) (x : ℕ) (s : StateValue)
    → lasting (cond b (ended_all (lasting s)) (aborted x (transaction x s.running) (lasting s)))
    ≡ lasting (cond b (ended_all s) (aborted x (transaction x s.running) s))
lasting_abort true x s = refl
lasting_abort false x s = lasting_aborted x (transaction x s.running) s

lasting_placed : (d : Doc) (o : Option Transaction) (s : StateValue)
    → lasting (placed_head o d (lasting s)) ≡ lasting (placed_head o d s)
lasting_placed d None s = refl
lasting_placed d (Some t) s =
    either ((d.serial == s.next_serial) && nat_lt d.serial (suc last_serial)) _ (lasting s) _ s refl refl

lasting_marked : (d : Doc) (o : Option Transaction) (s : StateValue)
    → lasting (marked_head o d (lasting s)) ≡ lasting (marked_head o d s)
lasting_marked d None s = refl
lasting_marked d (Some t) s = refl

lasting_stepped : (k : Kind) (x : ℕ) (ps : List ℕ) (s : StateValue)
    → lasting (stepped k x ps (lasting s)) ≡ lasting (stepped k x ps s)
lasting_stepped kind.Begin x ps s =
    either ((x == suc (length s.fates)) && nat_lt x xid_bound) _ (lasting s) _ s refl refl
lasting_stepped (kind.Commit m) x ps s = lasting_committed m x (transaction x s.running) s
lasting_stepped kind.Abort x ps s = lasting_abort (x == 0) x s
lasting_stepped (kind.PlaceHead item serial) x ps s =
    lasting_placed (record { item = item; serial = serial }) (transaction x s.running) s
lasting_stepped (kind.MarkDeleted item serial) x ps s =
    lasting_marked (record { item = item; serial = serial }) (transaction x s.running) s
lasting_stepped _ x ps s = refl

-- states that are alike but for a run are so after a step
pub alike_step : (r : Record) (s t : StateValue) → lasting s ≡ lasting t → lasting (step_of r s) ≡ lasting (step_of r t)
alike_step r s t same =
    sym (lasting_stepped r.kind r.xid (changed r) (noted r s))
    ∙ ap (λ (u : StateValue). lasting (stepped r.kind r.xid (changed r) (noted r u))) same
    ∙ lasting_stepped r.kind r.xid (changed r) (noted r t)

-- so a state says of a log what one that is alike says
told_lasting : (R : Log) (s : StateValue) → StateTells R s → StateTells R (lasting s)
told_lasting R s t = record {
  records = t.records;
  fates = t.fates;
  next_xid = t.next_xid;
  next_serial = t.next_serial;
  redo = t.redo;
  commits = t.commits;
  deleted = t.deleted;
  inserted = t.inserted;
  heaps = t.heaps;
  lives = t.lives;
  running = t.running;
  not_running = t.not_running;
  placed_rise = t.placed_rise;
  uses = t.uses;
  sizes = t.sizes;
}

told_back : (R : Log) (s : StateValue) → StateTells R (lasting s) → StateTells R s
told_back R s t = record {
  records = t.records;
  fates = t.fates;
  next_xid = t.next_xid;
  next_serial = t.next_serial;
  redo = t.redo;
  commits = t.commits;
  deleted = t.deleted;
  inserted = t.inserted;
  heaps = t.heaps;
  lives = t.lives;
  running = t.running;
  not_running = t.not_running;
  placed_rise = t.placed_rise;
  uses = t.uses;
  sizes = t.sizes;
}

pub told_alike : (R : Log) (s t : StateValue) → lasting s ≡ lasting t → StateTells R t → StateTells R s
told_alike R s t same told = told_back R s (subst (StateTells R) (sym same) (told_lasting R t told))
