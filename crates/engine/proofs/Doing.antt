-- What the work of a statement does, from what its parts do.
use Rattle.std.proofs.Common.{◌≡◌, inl, inr, ℕ, List, [], ◌∷◌, ◌++◌, refl, sym, ap, subst, ◌∙◌, append_assoc, arith}
use Rattle.std.specs.Prelude.{Option, Some, None, Result, Ok, Err, OnOk, OnErr, IfOk, IfErr}
use Rattle.std.proofs.lemmas.List.{append-nil}
use Rattle.disk_trait.specs.declared.device.Disk.{Ghosts as Disk}
use Rattle.ts_base.specs.Vectors.{Vector}
use Rattle.ts_base.specs.Encoding.{IsEncoding}
use Rattle.ts_base.specs.Keys.{Key, keys_of}
use Rattle.page_types.specs.declared.record.Record.{Record}
use Rattle.core_state.specs.History.{Commit}
use Rattle.core_state.specs.Log.{In}
use Rattle.core_state.proofs.PageLists.{in_either}
use Rattle.buffer_frames.specs.declared.pass.Pass.{Pass}
use Rattle.engine.specs.Finding.{Name, document}
use Rattle.engine.specs.Work.{storing, commit_of, IsMarkOf, AreStored, IsWork}
use Rattle.engine.specs.Going.{Goes, stays, MetNoFault}
use Rattle.engine.specs.Causes.{MayBeDeleted, IsDue, AreDue}
use Rattle.engine.specs.Db.{DbValue}
use Rattle.engine.specs.Inner.Parts.{KeepsWork, HasChanged, Later, CannotMark, no_changes, only_deleted}
use Rattle.engine.specs.Inner.Parts.{with_inserted}
use Rattle.engine.specs.Inner.Indexing.{CannotStore}
use Rattle.engine.specs.Inner.Doing.{HasDone, HasStopped, IsNotDone, removing, removal}
use Rattle.engine.specs.declared.transaction.Transaction.{Transaction}
use Rattle.engine.specs.declared.error.DbError.{DbError}
use Rattle.engine.proofs.Due.{mark_due, due_more}
use Rattle.engine.proofs.Paths.{goes_on}

-- what a pass keeps
pub work_stays : (p : Pass) → KeepsWork p p
work_stays p = record { pin = refl; room = refl; xid = refl; shown = omega arith }

pub work_in_turn : (p q r : Pass) → KeepsWork p q → KeepsWork q r → KeepsWork p r
work_in_turn p q r a b = record {
  pin = b.pin ∙ a.pin;
  room = b.room ∙ a.room;
  xid = b.xid ∙ a.xid;
  shown = omega (arith, a.shown, b.shown);
}

none_some : (n : Name) → None ≡ Some n → ⊥
none_some n e = cc

some_one : (n m : Name) → Some n ≡ Some m → n ≡ m
some_one n m e = cc

module _ {D : Type 0} (device : Disk D) (old new : DbValue D) (pass : Pass) (t : Transaction) (o : Option Name) where
  -- ── a document is marked, if there is one ──

  pub none_done : o ≡ None → HasChanged device old pass t.xid no_changes
      → HasDone device old old pass t (removing o) (removal o)
  none_done is changed = subst (λ (z : Option Name). HasDone device old old pass t (removing z) (removal z)) (sym is)
      (record {
        records = [];
        are_work = record { marks = []; places = []; order = refl; are_marks = refl; are_places = refl };
        due = λ r i. absurd i;
        goes = stays;
        there = λ n e. absurd (none_some n e);
        changed = changed;
      })

  mark_done : (n : Name) → o ≡ Some n → HasChanged device new pass t.xid (only_deleted n)
      → (r : Record) × IsMarkOf t.xid n r × Goes device old new (r ∷ [])
      → Later device old (λ (s : DbValue D). MayBeDeleted s t.snapshot t.xid n)
      → HasDone device old new pass t (removing o) (removal o)
  mark_done n is changed goes may =
      subst (λ (z : Option Name). HasDone device old new pass t (removing z) (removal z)) (sym is) (record {
        records = goes.0 ∷ [];
        are_work = record {
          marks = goes.0 ∷ [];
          places = [];
          order = refl;
          are_marks = (goes.1, refl);
          are_places = refl;
        };
        due = mark_due device old [] (goes.0 ∷ []) t.xid (Some n) (goes.0 ∷ []) (goes.1, refl);
        goes = goes.2;
        there = λ m e. (
          may.0,
          may.1,
          subst (λ (z : Name). MayBeDeleted may.0 t.snapshot t.xid z) (some_one n m e) may.2,
        );
        changed = changed;
      })

  pub marked : (n : Name) (r : Result (Unit {0}) DbError) → o ≡ Some n
      → OnOk r (HasChanged device new pass t.xid (only_deleted n))
      → OnOk r ((q : Record) × IsMarkOf t.xid n q × Goes device old new (q ∷ []))
      → OnOk r (Later device old (λ (s : DbValue D). MayBeDeleted s t.snapshot t.xid n))
      → OnOk r (HasDone device old new pass t (removing o) (removal o))
  marked n (Ok u) is changed goes may = mark_done n is changed goes may
  marked n (Err e) is changed goes may = tt

  pub unmarked : (n : Name) (r : Result (Unit {0}) DbError) → o ≡ Some n
      → IfErr r (λ e. CannotMark device old t.snapshot t.xid n e)
      → IfErr r (λ e. IsNotDone device old t (removing o) e)
  unmarked n (Ok u) is why = tt
  unmarked n (Err e) is why = IsNotDone.mark n is why

  -- ── another is put ──

  pub not_removed : (v : Vector) (e : DbError) → IsNotDone device old t (removing o) e
      → IsNotDone device old t (storing o v) e
  not_removed v e IsNotDone.bytes = IsNotDone.bytes
  not_removed v e (IsNotDone.mark n is why) = IsNotDone.mark n is why
  not_removed v e (IsNotDone.put u mid marks ins are goes none may why) =
      absurd (let z : None ≡ Some u = ins in let no : ⊥ = cc in no)

  module _ (mid : DbValue D) (pass' : Pass) (bytes : List ℕ) (keys : List Key) (v : Vector)
      (encodes : IsEncoding bytes v) (of : keys ≡ keys_of v)
      (done : HasDone device old mid pass' t (removing o) (removal o)) where
    marks_alone : done.records ≡ done.are_work.marks
    marks_alone =
        done.are_work.order ∙ ap (λ (l : List Record). done.are_work.marks ++ l) done.are_work.are_places
        ∙ append-nil done.are_work.marks

    works : (rs : List Record) → AreStored bytes (keys_of v) t.xid rs → IsWork (storing o v) t.xid (done.records ++ rs)
    works rs put = record {
      marks = done.are_work.marks;
      places = rs;
      order = ap (λ (l : List Record). l ++ rs) marks_alone;
      are_marks = done.are_work.are_marks;
      are_places = subst (λ (b : List ℕ). AreStored b (keys_of v) t.xid rs) encodes.bytes_of put;
    }

    pub placed : (r : Result Name DbError)
        → ((u : Vector) (c : Commit) → IsEncoding bytes u → keys ≡ keys_of u → c.inserted ≡ []
        → HasChanged device mid pass' t.xid c
        → IfOk r (λ n. HasChanged device new pass t.xid (with_inserted (document n u) c)))
        → OnOk r ((rs : List Record) × AreStored bytes keys t.xid rs × AreDue device mid keys rs
        × Goes device mid new rs)
        → IfOk r (λ n. HasDone device old new pass t (storing o v) (commit_of (storing o v) n))
    placed (Ok n) changed goes = record {
      records = done.records ++ goes.0;
      are_work = works goes.0 (subst (λ (ks : List Key). AreStored bytes ks t.xid goes.0) of goes.1);
      due = λ q i. elim (in_either q done.records goes.0 i) [
        | inl j ↦
            mark_due device old (keys_of v) (done.records ++ goes.0) t.xid o done.are_work.marks done.are_work.are_marks
            q (subst (In q) marks_alone j)
        | inr j ↦
            due_more device old mid (keys_of v) done.records goes.0 done.goes q.kind
            (subst (λ (ks : List Key). IsDue device mid ks goes.0 q.kind) of (goes.2 q j))
      ];
      goes = goes_on device done.goes goes.3;
      there = done.there;
      changed = changed v (removal o) encodes of refl done.changed;
    }
    placed (Err e) changed goes = tt

    pub stopped : (r : Result Name DbError)
        → OnErr r ((front rest : List Record) × AreStored bytes keys t.xid (front ++ rest) × Goes device mid new front)
        → OnErr r (HasStopped device old new t.xid (storing o v))
    stopped (Ok n) some = tt
    stopped (Err e) some = inr (
      done.records ++ some.0,
      (
        some.1,
        subst (IsWork (storing o v) t.xid) (sym (append_assoc done.records some.0 some.1))
            (works (some.0 ++ some.1)
            (subst (λ (ks : List Key). AreStored bytes ks t.xid (some.0 ++ some.1)) of some.2)),
      ),
      goes_on device done.goes some.3,
    )

    pub unplaced : (r : Result Name DbError) → MetNoFault device old mid
        → IfErr r (λ e. CannotStore device mid t.xid bytes keys e)
        → IfErr r (λ e. IsNotDone device old t (storing o v) e)
    unplaced (Ok n) none why = tt
    unplaced (Err e) none why = IsNotDone.put v mid done.are_work.marks refl done.are_work.are_marks
        (subst (Goes device old mid) marks_alone done.goes) none done.there
        (subst (λ (b : List ℕ). CannotStore device mid t.xid b (keys_of v) e) encodes.bytes_of
        (subst (λ (ks : List Key). CannotStore device mid t.xid bytes ks e) of why))
