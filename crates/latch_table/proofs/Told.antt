-- The lines give that the log is allowed to each pass.
use Rattle.std.proofs.Common.{◌≡◌, ℕ, Bool, true, false, List, [], ◌∷◌, refl, sym, ◌∙◌, subst, arith}
use Rattle.std.specs.Prelude.{Option, Some, None, IfSome, nat_lt}
use Rattle.std.proofs.lemmas.Bool.Decides.{nat_tests}
use Rattle.page_types.specs.Numbers.{page_limit}
use Rattle.page_types.specs.declared.page.Page.{Page}
use Rattle.core_state.specs.Log.{Log, In}
use Rattle.core_state.specs.Legal.{Pin, Keeps}
use Rattle.core_state.specs.Allowed.{Sheet, View, IsAllowed, AreHeld, AreOthers}
use Rattle.latch_table.specs.declared.slots.Journaled.{Ghosts as Journaled}
use Rattle.latch_table.specs.declared.states.Note.{Note}
use Rattle.latch_table.specs.declared.states.PinNote.{PinNote}
use Rattle.latch_table.specs.declared.states.PassState.{PassState}
use Rattle.latch_table.specs.PassStates.{view_of, sheets, sheet_if, pin_if, pin_of, IsLawful}
use Rattle.latch_table.specs.Shapes.{Shape}
use Rattle.latch_table.specs.Lines.{HasFrames, IsStore, Knows}

-- records of others are so to each view with these xids and this right
pub same_others : (v w : View) (rs : Log) → w.xids ≡ v.xids → w.begun ≡ v.begun → w.work ≡ v.work
    → AreOthers v rs → AreOthers w rs
same_others v w [] xids begun work f = tt
same_others v w (r ∷ rs) xids begun work f = (
  record {
    not_own = λ i. f.0.not_own (subst (λ (xs : List ℕ). In r.xid xs) xids i);
    not_all = λ n. f.0.not_all (λ e. n (begun ∙ e));
    not_work = λ at e. f.0.not_work at (sym work ∙ e);
  },
  same_others v w rs xids begun work f.1,
)

module _ {J : Type 0} (journal : Journaled J) (start : J) where
  held_if : (h : Shape J) (b : Bool) (p : ℕ) (c : Page) (ss : List Sheet) → (b ≡ true → h.pages p ≡ c)
      → AreHeld h.pages ss → AreHeld h.pages (sheet_if b p c ss)
  held_if h true p c ss t u = (t refl, u)
  held_if h false p c ss t u = u

  pub are_held : (h : Shape J) (j : ℕ) (fs : List Note) → journal.lawful start → HasFrames journal start h j fs
      → AreHeld h.pages (sheets fs)
  are_held h j [] l t = tt
  are_held h j (f ∷ fs) l t = held_if h (nat_lt f.page page_limit) f.page f.content (sheets fs)
      (λ e. (t.2.shown l (grind (arith, nat_tests))).0) (are_held h j fs l t.4)

  keeps_if : (R : Log) (o : Option PinNote) → ((p : PinNote) → o ≡ Some p → Keeps R (pin_of p))
      → IfSome (pin_if o) (Keeps R)
  keeps_if R None k = tt
  keeps_if R (Some p) k = k p refl

  -- the log is allowed to a view that knows what its lines say
  pub allowed : (h : Shape J) (j : ℕ) (v : PassState J) → IsStore journal start h
      → (journal.lawful start → (k : ℕ) (p : Pin) → journal.pins h.journal k ≡ Some p → Keeps h.log p)
      → Knows journal start h j v → journal.lawful start → IsAllowed (view_of v) h.log
  allowed h j v store kept w l = record {
    later = w.seen.later;
    goes_on = w.seen.goes_on;
    others = w.seen.others l;
    legal = store.legal l;
    keeps = keeps_if h.log v.pin (λ p e. kept l p.place (pin_of p) (w.pin p e).1);
    pages = h.pages;
    shown = store.shown l;
    held = are_held h j v.frames l w.frames;
    read = (w.read l).1;
  }

  -- what a pass is said to be lawful was so at the opening
  pub lawful_here : (h : Shape J) (j : ℕ) (v : PassState J) → Knows journal start h j v → IsLawful journal v
      → journal.lawful start
  lawful_here h j v w l = subst journal.lawful (w.start_is l.0 l.1) l.2
