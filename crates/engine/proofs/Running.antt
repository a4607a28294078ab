-- A transaction runs on over the calls of its statement.
use Rattle.std.proofs.Common.{◌≡◌, List, [], ◌∷◌, sym, subst, ◌∙◌}
use Rattle.std.specs.Prelude.{Option, IfSome, Result, Err}
use Rattle.disk_trait.specs.declared.device.Disk.{Ghosts as Disk}
use Rattle.core_state.specs.Allowed.{Sheet}
use Rattle.buffer_frames.specs.Passes.{IsPassOf, IsHolding, SeesOn, HasAdded, PassRises}
use Rattle.buffer_frames.specs.declared.pass.Pass.{Pass}
use Rattle.buffer_frames.specs.declared.pass.Pinned.{Pinned}
use Rattle.engine.specs.Db.{DbValue}
use Rattle.engine.specs.Going.{FaultIsTold}
use Rattle.engine.specs.Inner.Parts.{IsRunning, Runs, KeepsWork, CarriesOwn}
use Rattle.engine.specs.declared.error.DbError.{DbError}
use Rattle.engine.specs.declared.error.DbError.TheVariants.{NoDocument, Conflict, StoreFull, LogFull, XidsSpent, Down}
use Rattle.engine.specs.declared.error.DbError.TheVariants.{DiskFault, BadPage, OutOfMemory}
use Rattle.engine.specs.declared.transaction.Transaction.{Transaction}
use Rattle.engine.proofs.Carrying.{carries, carries_on, keeps_on}

module _ {D : Type 0} (device : Disk D) (a b : DbValue D) (p q : Pass) (t : Transaction) where
  pub running_on : IsRunning device a p t → IsPassOf b.frames q → q.held ≡ 0 → KeepsWork p q → Runs device b q t.xid
      → IsRunning device b q t
  running_on r of none keeps runs = record {
    is_pass = of;
    taken = λ e. r.taken (sym keeps.pin ∙ e);
    snapshot =
        subst (λ (o : Option Pinned). IfSome o (λ (s : Pinned). s.commits ≡ t.snapshot)) (sym keeps.pin) r.snapshot;
    held = none;
    xid = keeps.xid ∙ r.xid;
    some = r.some;
    runs = runs;
  }

  -- where nothing was logged
  pub running_still : IsRunning device a p t → IsPassOf b.frames q → q.held ≡ 0 → KeepsWork p q
      → CarriesOwn device a p b q → IsRunning device b q t
  running_still r of none keeps carried = running_on r of none keeps (carried.runs t.xid r.xid r.runs)

-- once the page that was held is given back
module _ {D : Type 0} (device : Disk D) (a m i e : DbValue D) (p q r : Pass) (t : Transaction) (held : Sheet)
    (same : i ≡ m) (was : IsRunning device a p t) (carried : CarriesOwn device a p m q) (keeps : KeepsWork p q)
    (hold : IsHolding device m.frames q (held ∷ [])) (of : IsPassOf e.frames r)
    (back : (others : List Sheet) → IsHolding device i.frames q (held ∷ others) → IsHolding device e.frames r others)
    (sees : SeesOn device e.frames q r) (added : HasAdded device i.frames e.frames []) (rises : PassRises q r)
    (kept : (r.pin ≡ q.pin) × (r.room ≡ q.room) × (r.xid ≡ q.xid)) where
  pub running_back : IsRunning device e r t
  running_back =
      let rel : CarriesOwn device m q e r = subst (λ (s : DbValue D). CarriesOwn device s q e r) same
      (carries device i e q r added sees rises of) in
      let none = back [] (subst (λ (s : DbValue D). IsHolding device s.frames q (held ∷ [])) (sym same) hold) in
      running_still device a e p r t was of (sym none.all)
      (keeps_on p q r keeps (record { pin = kept.0; room = kept.1; xid = kept.2; shown = rises.shown }))
      (carries_on device a m e p q r keeps.xid carried rel)

-- the same refusal of another call is told so too
again : {D : Type 0} (device : Disk D) (T U : Type 0) (a b : DbValue D) (e : DbError)
    → (let x : Result T DbError = Err e in FaultIsTold device a b x)
    → (let y : Result U DbError = Err e in FaultIsTold device a b y)
again device T U a b DiskFault told = told
again device T U a b NoDocument told = told
again device T U a b (Conflict y) told = told
again device T U a b StoreFull told = told
again device T U a b LogFull told = told
again device T U a b XidsSpent told = told
again device T U a b (Down f) told = told
again device T U a b (BadPage n) told = told
again device T U a b OutOfMemory told = told

pub told_again : {D T U : Type 0} (device : Disk D) (a b : DbValue D) (e : DbError) (r : Result T DbError)
    (q : Result U DbError) → r ≡ Err e → q ≡ Err e → FaultIsTold device a b r → FaultIsTold device a b q
told_again {D} {T} {U} device a b e r q was is told =
    subst (λ (s : Result U DbError). FaultIsTold device a b s) (sym is)
    (again device T U a b e (subst (λ (s : Result T DbError). FaultIsTold device a b s) was told))
