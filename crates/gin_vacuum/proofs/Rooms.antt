-- The pages that a head is tried on stay heap pages where slots become free.
use Rattle.std.proofs.Common.{◌≡◌, ◌⊎◌, ◌≤◌, ℕ, Bool, true, false, List, [], ◌∷◌, refl, sym, ap, subst, ◌∙◌, inl}
use Rattle.std.proofs.Common.{inr, arith}
use Rattle.std.specs.Prelude.{Option, Some, None, nat_lt, if◌then◌else◌}
use Rattle.disk_trait.specs.declared.device.Disk.{Ghosts as Disk}
use Rattle.page_types.specs.Numbers.{page_limit}
use Rattle.page_types.specs.Records.{kind_number}
use Rattle.page_types.specs.declared.page.Page.{Page}
use Rattle.page_types.specs.declared.record.Record.{Record}
use Rattle.page_types.specs.declared.record.Kind.{Kind}
use Rattle.page_types.specs.declared.record.Kind.TheVariants as kind
use Rattle.core_state.specs.Log.{Log, In, changed}
use Rattle.core_state.specs.Lives.{IsHeapPage}
use Rattle.core_state.specs.Legal.{IsLegal}
use Rattle.core_state.specs.States.{StateValue, StateTells, state_of, step_of, stepped, noted, with_page, with_pages}
use Rattle.core_state.specs.States.{with_first, heap_pages}
use Rattle.core_state.specs.VacuumRules.{IsFreeSlots}
use Rattle.core_state.proofs.NeverAgain.{placed_then}
use Rattle.core_state.proofs.Newest.{legal_less}
use Rattle.core_state.proofs.PageLists.{one_page}
use Rattle.core_state.proofs.RulesByKind.{kind_rule}
use Rattle.core_state.proofs.StateTold.{state_told}
use Rattle.core_vacuum.specs.HeapPages.{HasSlots, HeapPagesHold}
use Rattle.buffer_frames.specs.Frames.{FramesValue}
use Rattle.buffer_frames.specs.Beginnings.{BeginsBy}
use Rattle.buffer_frames.specs.Journals.{JournalValue, IsJournalOf, after_owed}
use Rattle.buffer_frames.proofs.LastingStates.{told_alike}
use Rattle.gin_place.specs.Running.{BeginsThen, KeepsHeaps}
use Rattle.gin_vacuum.specs.Going.{AreRooms, KeepsRooms}

-- ── lists ──

one_more : (p q : ℕ) (qs : List ℕ) → In p (with_page q qs) → (p ≡ q) ⊎ In p qs
one_more p q [] (inl e) = inl e
one_more p q [] (inr i) = absurd i
one_more p q (x ∷ qs) i = by (nat_lt q x) (nat_lt x q) (one_more p q qs) i
  where
    by : (a b : Bool) → (In p (with_page q qs) → (p ≡ q) ⊎ In p qs)
        → In p (if a then q ∷ x ∷ qs else (if b then x ∷ with_page q qs else x ∷ qs))
        → (p ≡ q) ⊎ In p (x ∷ qs)
    by true b rest (inl e) = inl e
    by true b rest (inr j) = inr j
    by false true rest (inl e) = inr (inl e)
    by false true rest (inr j) = elim (rest j) [ inl e ↦ inl e | inr k ↦ inr (inr k) ]
    by false false rest j = inr j

some_more : (p : ℕ) (ps qs : List ℕ) → In p (with_pages ps qs) → In p ps ⊎ In p qs
some_more p [] qs i = inr i
some_more p (x ∷ ps) qs i = elim (some_more p ps _ i) [ inl j ↦ inl (inr j) | inr j ↦ by (nat_lt x page_limit) j ]
  where
    by : (b : Bool) → In p (if b then with_page x qs else qs) → In p (x ∷ ps) ⊎ In p qs
    by true j = elim (one_more p x qs j) [ inl e ↦ inl (inl e) | inr k ↦ inr k ]
    by false j = inr j

first_more : (p : ℕ) (o : Option ℕ) (ps qs : List ℕ) → In p (with_first o (with_pages ps qs))
    → In p ps ⊎ In p (with_first o qs)
first_more p None ps qs i = some_more p ps qs i
first_more p (Some q) ps qs (inl e) = inr (inl e)
first_more p (Some q) ps qs (inr i) = elim (some_more p ps qs i) [ inl j ↦ inl j | inr j ↦ inr (inr j) ]

-- ── states ──

-- a record of these kinds
rooms_stepped : (k : Kind) (x : ℕ) (ps : List ℕ) (s : StateValue) → 18 ≤ kind_number k → (p : ℕ)
    → In p (heap_pages (stepped k x ps s)) → In p (heap_pages s) ⊎ ((k ≡ kind.FreeSlots) × In p ps)
rooms_stepped kind.Begin x ps s from p i = absurd (omega (arith, from))
rooms_stepped (kind.Commit n) x ps s from p i = absurd (omega (arith, from))
rooms_stepped kind.Abort x ps s from p i = absurd (omega (arith, from))
rooms_stepped (kind.Checkpoint redo) x ps s from p i = absurd (omega (arith, from))
rooms_stepped (kind.PlaceHead item serial) x ps s from p i = absurd (omega (arith, from))
rooms_stepped (kind.MarkDeleted item serial) x ps s from p i = absurd (omega (arith, from))
rooms_stepped kind.FreeSlots x ps s from p i = elim (first_more p s.current ps s.freed i) [
  | inl j ↦ inr (refl, j)
  | inr j ↦ inl j
]
rooms_stepped _ x ps s from p i = inl i

rooms_owed : (owes : Bool) (s : StateValue) → heap_pages (after_owed owes s) ≡ heap_pages s
rooms_owed true s = refl
rooms_owed false s = refl

-- the page on which slots become free was a heap page
freed_is_heap : HeapPagesHold → (R : Log) (r : Record) (p : ℕ) → IsLegal (r ∷ R) → r.kind ≡ kind.FreeSlots
    → In p (changed r) → IsHeapPage (r ∷ R) p
freed_is_heap heaps R r p legal is on =
    let u = legal.valid.1 in
    let x : IsFreeSlots R u.before u.after r _ = kind_rule R u.before u.after r _ _ kind.FreeSlots is u.rule in
    let one : p ≡ x.here.page = elim (subst (In p) x.here.pages on) [ inl e ↦ e | inr none ↦ absurd none ] in
    let at = one_page u.before (changed r) x.here.page x.here.old x.here.pages x.here.before_is in
    let slots : HasSlots (u.before p).body = (
      x.here.slots,
      ap (λ (q : ℕ). (u.before q).body) one ∙ ap (λ (c : Page). c.body) at ∙ x.here.was,
    ) in
    let h = ((heaps R u.before (legal_less r R legal) u.shown).placed p).1 slots in
    record { xid = h.xid; doc = h.doc; placed_it = placed_then (r ∷ []) R h.xid h.doc h.placed_it; on = h.on }

-- what a journal's state tells of a legal log
told_of : {D : Type 0} (device : Disk D) (j : JournalValue D) (R : Log) → IsJournalOf device j R → IsLegal R
    → StateTells R j.state
told_of device j R s legal =
    told_alike R j.state (state_of j.state.pages j.state.xid_limit R) s.state
    (state_told j.state.pages j.state.xid_limit R legal)

module _ {D : Type 0} (device : Disk D) where
  -- calls that leave these pages
  pub rooms_same : (f g : FramesValue D) → KeepsHeaps f.journal.state g.journal.state → KeepsRooms device f g
  rooms_same f g k t found R H b all p i =
      let s : StateValue = f.journal.state in
      let same : heap_pages g.journal.state ≡ heap_pages s =
      ap (λ (o : Option ℕ). with_first o (g.journal.state).freed) k.current ∙ ap (with_first s.current) k.freed in
      subst (In p) (sym k.heaps) (all p (subst (In p) same i))

  -- calls in turn
  pub rooms_then : (f g h : FramesValue D) (ks : List ℕ) → BeginsThen device f g ks → KeepsRooms device f g
      → KeepsRooms device g h → KeepsRooms device f h
  rooms_then f g h ks begins x y t found R H b all =
      let m = begins t found R H b in y t found m.0 m.1 m.4 (x t found R H b all)

  -- a record is logged
  pub rooms_logged : HeapPagesHold → (f g : FramesValue D) (r : Record) (found : _) (R H : _)
      → 18 ≤ kind_number r.kind
      → g.journal.state ≡ step_of r (after_owed f.journal.owes f.journal.state)
      → (g.journal.state).heaps ≡ (f.journal.state).heaps → BeginsBy device g.journal found (r ∷ R) H
      → AreRooms f.journal.state → AreRooms g.journal.state
  rooms_logged heaps f g r found R H from state same b all p i =
      let was : StateValue = after_owed f.journal.owes f.journal.state in
      elim (rooms_stepped r.kind r.xid (changed r) (noted r was) from p
      (subst (λ (s : StateValue). In p (heap_pages s)) state i)) [
        | inl old ↦ subst (In p) (sym same)
            (all p (subst (In p) (rooms_owed f.journal.owes f.journal.state) old))
        | inr new ↦
            let legal : IsLegal (r ∷ R) = (b.log_of).legal in
            ((told_of device g.journal (r ∷ R) b.stands legal).heaps p).1
            (freed_is_heap heaps R r p legal new.0 new.1)
      ]
