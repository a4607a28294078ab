-- The step by which dead items leave a leaf.
use Rattle.std.proofs.Common.{◌≡◌, ◌≢◌, ◌<◌, ◌-◌, ℕ, List, [], ◌∷◌, length, refl, sym, ap, subst, inl}
use Rattle.std.proofs.Common.{inr, arith}
use Rattle.std.proofs.Common.{length-drop, Some}
use Rattle.std.specs.Prelude.{Option, None, Result, IfOk}
use Rattle.std.specs.declared.alloc.AllocError.{AllocError}
use Rattle.disk_trait.specs.declared.device.Disk.{Ghosts as Disk}
use Rattle.page_types.specs.Numbers.{page_limit}
use Rattle.page_types.specs.Pages.{IsPage}
use Rattle.page_types.specs.declared.page.Page.{Page}
use Rattle.page_types.specs.declared.page.Body.{Body}
use Rattle.page_types.specs.declared.page.Body.TheVariants as body
use Rattle.page_types.specs.declared.record.Kind.TheVariants as kind
use Rattle.core_state.specs.Log.{Log}
use Rattle.core_state.specs.Allowed.{Sheet, Step, Owes}
use Rattle.core_state.specs.Steps.{MayBy, sheet}
use Rattle.core_vacuum.specs.VacuumSteps.{CanRemoveItems}
use Rattle.posting_tree.specs.Removing.{IsLeafLeft}
use Rattle.posting_tree.specs.RemovalLogging.{Removes, LeftLeafIsLogged}
use Rattle.gin_vacuum.proofs.Removed.{in_list}
use Rattle.buffer_frames.specs.Frames.{FramesValue, Stands}
use Rattle.buffer_frames.specs.Passes.{view_of}
use Rattle.buffer_frames.specs.declared.pass.Pass.{Pass}
use Rattle.buffer_frames.proofs.AtHand.{log_length}
use Rattle.gin_place.specs.Holding.{ReadsOn}
use Rattle.gin_place.proofs.Owing.{right_of}
use Rattle.gin_vacuum.specs.Inner.Logging.{MayLogStep, LogsStep, LogsMade}
use Rattle.gin_vacuum.specs.Inner.Sweeping.{IsRemoval, HasCleaned}
use Rattle.gin_vacuum.proofs.Made.{in_ok}

-- a leaf that is left is no free page
left_used : (gone : List ℕ) (old new : Body) → IsLeafLeft gone old new → new ≢ body.Free
left_used gone _ _ (IsLeafLeft.entries high old new all) e = let z : ⊥ = cc in z
left_used gone _ _ (IsLeafLeft.postings high old new all) e = let z : ⊥ = cc in z

-- where a leaf has no dead item nothing is logged
pub none_cleaned : {D : Type 0} (device : Disk D) (f g : FramesValue D) (p q : Pass) (held : Sheet)
    (cleaned : Option Page) → ((x : Page) → cleaned ≡ Some x → ⊥) → ReadsOn device f p g q
    → HasCleaned device f p g q held cleaned
none_cleaned device f g p q held None not reads = reads
none_cleaned device f g p q held (Some x) not reads = absurd (not x refl)

abbrev pub removal_step : ℕ → Page → Step
removal_step page new = record { kind = kind.RemoveItems; xid = 0; after = sheet page new ∷ [] }

-- the step that was made so is logged
pub removal_logged : {D : Type 0} (device : Disk D) (f : FramesValue D) (p : Pass) (held : Sheet) (new : Page)
    (made : Result Step AllocError) → IfOk made (λ s. s ≡ removal_step held.page new) → (h : FramesValue D) (q : Pass)
    → LogsMade device f p (held ∷ []) made h q → LogsStep device f p (held ∷ []) (removal_step held.page new) h q
removal_logged device f p held new made is h q logs =
    subst (λ (s : Step). LogsStep device f p (held ∷ []) s h q)
    (in_ok made logs.step (λ s. s ≡ removal_step held.page new) logs.made_is is) logs.logged

module _ {D : Type 0} (device : Disk D) (f : FramesValue D) (p : Pass) (dead : List ℕ) (held : Sheet) (new : Page)
    (x : IsRemoval device f p dead held (Some new)) (low : held.page < page_limit) where
  removes : LeftLeafIsLogged → Removes dead held.content.body new.body
  removes law = law dead held.content.body new.body x.is_cleaned.left.0 x.is_cleaned.some

  owes : (R : Log) → Stands device f R → Owes (view_of f p R (held ∷ [])) (removal_step held.page new)
  owes R stands =
      let long : f.journal.state.records ≡ length R = log_length device f.journal R stands.journal in
      record {
        started = inl (λ none.
            omega (arith, x.is_pass.some, x.is_pass.seen, long, length-drop (length R - p.seen) R, ap length none));
        pages = λ q i. i;
        once = (tt, tt);
        fits = λ z i. elim i [
          | inl e ↦ subst (λ (y : Sheet). IsPage y.content) (sym e) x.is_cleaned.left.2
          | inr none ↦ absurd none
        ];
        xid = inl refl;
        work = λ is. (x.right.at, x.right.has);
        not_all = λ is. absurd (let z : ⊥ = cc in z);
      }

  pub removal_may_log : MayBy CanRemoveItems → LeftLeafIsLogged
      → MayLogStep device f p (held ∷ []) (removal_step held.page new)
  removal_may_log law logged =
      let r = removes logged in
      record {
        is_pass = x.is_pass;
        right = x.right;
        holding = x.holding;
        encoded = record {
          kind = tt;
          few = omega arith;
          each = (
            record {
              page = low;
              content = x.is_cleaned.left.2;
              used = left_used dead held.content.body new.body x.is_cleaned.left.0;
            },
            tt,
          );
          once = (tt, tt);
        };
        kind = tt;
        vacuum = (omega arith, omega arith);
        pages = omega arith;
        may = λ t up R stands legal. law (view_of f p R (held ∷ [])) (removal_step held.page new)
            (λ P legal_seen shown. record {
              page = held.page;
              removed = r.removed;
              old = held.content;
              new = new;
              kind_is = refl;
              after_is = refl;
              may = right_of device f p (held ∷ []) R x.is_pass x.right stands;
              held = inl refl;
              lists = r.lists;
              went = r.went;
              some = r.some;
              leave = λ i on. x.leave t up R stands legal P shown i (in_list i dead (r.among i on));
              right = ap (λ (c : Page). c.right) x.is_cleaned.left.1;
            });
        owes = owes;
      }
