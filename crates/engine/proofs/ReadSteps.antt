-- Calls that only read, one after another.
use Rattle.std.proofs.Common.{◌≡◌, ℕ, [], sym, ap, subst, ◌∙◌}
use Rattle.std.specs.Prelude.{Some, None, Option, IfSome, IfErr, Result, Ok, Err}
use Rattle.disk_trait.specs.declared.device.Disk.{Ghosts as Disk}
use Rattle.buffer_frames.specs.Beginnings.{BeginsOn}
use Rattle.buffer_frames.specs.Frames.{RunsOn, KeepsState, KeepsOthers}
use Rattle.buffer_frames.specs.Homes.{LiesAs}
use Rattle.buffer_frames.specs.LogCauses.{IsCalm}
use Rattle.buffer_frames.specs.Passes.{IsPassOf, HasAdded, KeepsPass, PassRises}
use Rattle.buffer_frames.specs.declared.home.Home.{Home}
use Rattle.buffer_frames.specs.declared.pass.Pass.{Pass}
use Rattle.buffer_frames.specs.declared.pass.Pinned.{Pinned}
use Rattle.engine.specs.Going.{Goes, MetNoFault, FaultIsTold}
use Rattle.engine.specs.Db.{DbValue, fault_of, IsUp}
use Rattle.engine.specs.Inner.Finds.{IsReading, ReadsOn}
use Rattle.engine.specs.declared.error.DbError.{DbError}
use Rattle.engine.specs.declared.error.DbError.TheVariants as store
use Rattle.engine.proofs.Paths.{one_nothing, goes_still, calm_step}
use Rattle.engine.proofs.Carrying.{keeps_still, keeps_on}

pub if_err : {T E : Type 0} {P Q : E → Type 0} (r : Result T E) → ((e : E) → P e → Q e) → IfErr r P → IfErr r Q
if_err (Ok x) f p = tt
if_err (Err e) f p = f e p

module _ {D : Type 0} (device : Disk D) where
  -- ── calls one after another ──

  pub reads_still : (s : DbValue D) (p : Pass) → IsPassOf s.frames p → p.held ≡ 0 → ReadsOn device s p s p
  reads_still s p of none = record {
    is_pass = of;
    held = none;
    lying = λ q c lies. lies;
    goes = Goes.stays;
    keeps = keeps_still p;
  }

  pub reads_in_turn : (a b c : DbValue D) (p q r : Pass) → ReadsOn device a p b q → ReadsOn device b q c r
      → ReadsOn device a p c r
  reads_in_turn a b c p q r x y = record {
    is_pass = y.is_pass;
    held = y.held;
    lying = λ n d lies. y.lying n d (x.lying n d lies);
    goes = goes_still device x.goes y.goes;
    keeps = keeps_on p q r x.keeps y.keeps;
  }

  -- the state of the log is asked
  pub looked_on : (a b : DbValue D) (same_pending : b.pending ≡ a.pending) (p q : Pass) → p.held ≡ 0
      → IsPassOf b.frames q
      → HasAdded device a.frames b.frames [] → KeepsPass p q → PassRises p q → q.xid ≡ p.xid
      → RunsOn device a.frames b.frames → KeepsState a.frames b.frames → KeepsOthers a.frames b.frames []
      → IsCalm device a.frames.journal b.frames.journal → BeginsOn device a.frames.journal b.frames.journal
      → b.frames.pins ≡ a.frames.pins → ReadsOn device a p b q
  looked_on a b same_pending p q none of added keeps rises xid runs state others calm begins pins = record {
    is_pass = of;
    held = keeps.held ∙ none;
    lying = λ n d lies. subst (λ (h : Home). LiesAs h d) (sym (others n (λ i. i))) lies;
    goes = one_nothing device (calm_step device a b same_pending added state runs begins calm pins);
    keeps = record { pin = keeps.pin; room = keeps.room; xid = xid; shown = rises.shown };
  }

  -- a refusal is told as it was
  refused_as : (T U : Type 0) (a b : DbValue D) (e : DbError)
      → (let was : Result T DbError = Err e in FaultIsTold device a b was)
      → (let is : Result U DbError = Err e in FaultIsTold device a b is)
  refused_as T U a b store.DiskFault told = told
  refused_as T U a b store.NoDocument told = told
  refused_as T U a b (store.Conflict x) told = told
  refused_as T U a b store.StoreFull told = told
  refused_as T U a b store.LogFull told = told
  refused_as T U a b store.XidsSpent told = told
  refused_as T U a b (store.Down f) told = told
  refused_as T U a b (store.BadPage p) told = told
  refused_as T U a b store.OutOfMemory told = told

  pub refused_told : {T U : Type 0} (a b : DbValue D) (r : Result T DbError) (s : Result U DbError) (w e : DbError)
      → r ≡ Err w → s ≡ Err e → e ≡ w → FaultIsTold device a b r → FaultIsTold device a b s
  refused_told {T} {U} a b r s w e rw sw ew told =
      subst (FaultIsTold device a b) (sym (sw ∙ ap (λ (x : DbError). Err x) ew))
      (refused_as T U a b w (subst (FaultIsTold device a b) rw told))

  -- a store that is up isn't down
  pub not_down : (s t : DbValue D) (f : ℕ) → s ≡ t → IsUp t → fault_of s ≡ Some f → ⊥
  not_down s t f same up down =
      let z : None ≡ Some f = sym (ap fault_of same ∙ up) ∙ down in
      (let n : ⊥ = cc in n)

  pub still_up : (a b : DbValue D) → MetNoFault device a b → IsUp a → IsUp b
  still_up a b met up = met.down ∙ up

  pub reading_on : (s t : DbValue D) (p q : Pass) (n : ℕ) → IsReading s p n → ReadsOn device s p t q → IsReading t q n
  reading_on s t p q n r on = record {
    is_pass = on.is_pass;
    taken = λ none. r.taken (sym on.keeps.pin ∙ none);
    snapshot = subst (λ (o : Option Pinned). IfSome o (λ (x : Pinned). x.commits ≡ n)) (sym on.keeps.pin) r.snapshot;
    held = on.held;
  }
