-- The log with what was added: it is legal, shows the pages, keeps the pins, and was added by another
-- to each other pass.
use Rattle.std.proofs.Common.{◌≡◌, ◌≢◌, ◌⊎◌, cond, ℕ, suc, ◌<◌, Bool, true, false, List, [], ◌∷◌, ◌++◌, refl, sym, ap}
use Rattle.std.proofs.Common.{subst, ◌∙◌, inr, ⊎_elim, arith, eq-eqb, ne_eqb}
use Rattle.std.specs.Prelude.{Option, Some, None, IfSome, nat_lt}
use mathlib.Core.Logic.{dite}
use mathlib.Core.Option.{some}
use lib.ListN.{get_elem?}
use native.Mathlib.Decide.{ℕ_discrete}
use Rattle.page_types.specs.Numbers.{page_limit}
use Rattle.page_types.specs.Encoding.{page_bytes}
use Rattle.page_types.specs.Pages.{IsPage}
use Rattle.page_types.specs.declared.page.Page.{Page}
use Rattle.page_types.specs.declared.record.Record.{Record}
use Rattle.page_types.specs.declared.record.Kind.{Kind}
use Rattle.page_types.specs.declared.record.Kind.TheVariants as kind
use Rattle.core_state.specs.Log.{Log, Pages, In, Shows, replay, next_xid}
use Rattle.core_state.specs.Legal.{IsLegal, Pin, Keeps}
use Rattle.core_state.specs.Steady.{IsMaintenance}
use Rattle.core_state.specs.Readings.{Read, AreReads}
use Rattle.core_state.specs.Allowed.{Sheet, View, IsOthers, Step, AreMade, MayLog, Owes, sheet_pages, made_by}
use Rattle.core_state.specs.Allowed.{drawn_kind, drawn_xid}
use Rattle.core_state.specs.Logged.{IsRecordOf, pin_now, FloorAllows, IsBeside, StaysLegal, abort_all}
use Rattle.core_state.proofs.Newest.{cut_less}
use Rattle.core_state.proofs.Showing.{replay_kept}
use Rattle.core_state.proofs.Steps.Logged.{logged_steps, abort_of_all}
use Rattle.latch_table.specs.declared.slots.Journaled.{Ghosts as Journaled}
use Rattle.latch_table.specs.declared.states.Note.{Note}
use Rattle.latch_table.specs.declared.states.PinNote.{PinNote}
use Rattle.latch_table.specs.declared.states.PassState.{PassState}
use Rattle.latch_table.specs.PassStates.{view_of, sheets, sheet_if, pin_if, pin_of}
use Rattle.latch_table.specs.Shapes.{Shape}
use Rattle.latch_table.specs.Lines.{HasFrames, IsStore, ArePlaced, ArePinned, AddUp, Knows}
use Rattle.latch_table.specs.Giving.{Entry, MayAppend, added, touched, content_after, content_of}
use Rattle.latch_table.proofs.Stay.{spent_others}
use Rattle.latch_table.proofs.Told.{allowed}

-- what was read stays read
reads_on : (r : Record) (R : Log) (from : ℕ) (xs : List Read) → AreReads R from xs → AreReads (r ∷ R) from xs
reads_on r R from [] t = tt
reads_on r R from (x ∷ xs) t = (
  t.0,
  omega (arith, t.1),
  (t.2.0, subst (λ (l : Log). Shows l t.2.0) (sym (cut_less x.length r R t.1)) t.2.1, t.2.2),
  reads_on r R x.length xs t.3,
)

pub reads_added : (o : Option Entry) (R : Log) (from : ℕ) (xs : List Read) → AreReads R from xs
    → AreReads (added o ++ R) from xs
reads_added None R from xs t = t
reads_added (Some e) R from xs t = reads_on e.logged R from xs t

-- the pages that a record leaves are those of its sheets
left_is : (r : Record) (Q : Pages) (p : ℕ) (old : Page) (ss : List Sheet) → AreMade Q r ss
    → ((In p (sheet_pages ss) → ⊥) → Q p ≡ old) → content_after r ss p old ≡ Q p
left_is r Q p old [] made off = sym (off (λ i. i))
left_is r Q p old (s ∷ ss) made off = dite (ℕ_discrete s.page p)
    (λ (e : s.page ≡ p). subst (λ b. cond b (made_by r s.content) (content_after r ss p old) ≡ Q p)
    (sym (eq-eqb s.page p e))
    (sym made.0 ∙ ap Q e))
    (λ ne. subst (λ b. cond b (made_by r s.content) (content_after r ss p old) ≡ Q p) (sym (ne_eqb s.page p ne))
    (left_is r Q p old ss made.1 (λ none. off (λ i. ⊎_elim (λ (e : p ≡ s.page). ne (sym e)) none i))))

no_work : IsMaintenance kind.Abort → ⊥
no_work w = omega (arith, w)

-- a record that begins a transaction is of a step that does
begin_drawn : (R : Log) (k : Kind) → drawn_kind R k ≡ kind.Begin → k ≡ kind.Begin
begin_drawn R (kind.Commit n) e = cc e
begin_drawn R (kind.PlaceHead item serial) e = cc e
begin_drawn R _ e = e

in_sheet_if : (b : Bool) (p q : ℕ) (c : Page) (ss : List Sheet) → In p (sheet_pages (sheet_if b q c ss))
    → (p ≡ q) ⊎ In p (sheet_pages ss)
in_sheet_if true p q c ss i = i
in_sheet_if false p q c ss i = inr i

pin_allows : (v : View) (o : Option PinNote) → ((q : PinNote) → o ≡ Some q → FloorAllows v (pin_of q))
    → IfSome (pin_if o) (FloorAllows v)
pin_allows v None f = tt
pin_allows v (Some q) f = f q refl

module _ {J : Type 0} (journal : Journaled J) (start : J) where
  -- a page that a seat holds is in a frame of its own
  pub holds_frame : (h : Shape J) (j p : ℕ) (fs : List Note) → In p (sheet_pages (sheets fs))
      → HasFrames journal start h j fs
      → (i : ℕ) × (i < h.frames) × (h.holder i ≡ suc j) × (journal.place h.journal i ≡ p)
  holds_frame h j p [] i t = absurd i
  holds_frame h j p (f ∷ fs) i t = ⊎_elim (λ (e : p ≡ f.page). (f.frame, t.0, t.1, t.2.placed ∙ sym e))
      (λ later. holds_frame h j p fs later t.4)
      (in_sheet_if (nat_lt f.page page_limit) p f.page f.content (sheets fs) i)

  pub record Follows (h : Shape J) (views : List (PassState J)) (id : ℕ) (v : PassState J)
      (o : Option Entry) : Type 0 where
    pub legal : IsLegal (added o ++ h.log)
    pub shown : Shows (added o ++ h.log) (λ p. content_of o p (h.pages p))
    pub elsewhere : (p : ℕ) → (In p (sheet_pages (touched o)) → ⊥) → content_of o p (h.pages p) ≡ h.pages p
    pub keeps : (k : ℕ) (p : Pin) → journal.pins h.journal k ≡ Some p → Keeps (added o ++ h.log) p
    pub now : Keeps (added o ++ h.log) (pin_now (journal.flushed h.journal) (added o ++ h.log))
    pub others : (j : ℕ) (w : PassState J) → j ≢ id → get_elem? views j ≡ some w → (e : Entry) → o ≡ Some e
        → IsOthers (view_of w) e.logged
    pub held : (p : ℕ) → In p (sheet_pages (touched o)) → In p (sheet_pages (sheets v.frames))
    pub begun : (e : Entry) → o ≡ Some e → e.logged.kind ≡ kind.Begin → e.logged.xid ≡ next_xid h.log

  module _ (h : Shape J) (views : List (PassState J)) (store : IsStore journal start h) (placed : ArePlaced journal h)
      (pinned : ArePinned journal start h views) (sums : AddUp journal start h views)
      (knows : (j : ℕ) (v : PassState J) → get_elem? views j ≡ some v → Knows journal start h j v)
      (id : ℕ) (v : PassState J) (at : get_elem? views id ≡ some v) (l : journal.lawful start) where
    mine : Knows journal start h id v
    mine = knows id v at

    none_follows : Follows h views id v None
    none_follows = record {
      legal = store.legal l;
      shown = store.shown l;
      elsewhere = λ p off. refl;
      keeps = pinned.kept l;
      now = pinned.now l;
      others = λ j w other there e is. cc is;
      held = λ p i. absurd i;
      begun = λ e is. cc is;
    }

    pin_of_other : (j : ℕ) (w : PassState J) → Knows journal start h j w → (q : PinNote) → w.pin ≡ Some q
        → FloorAllows (view_of v) (pin_of q)
    pin_of_other j w kw q e =
        let b = mine.floor.pins q.place (pin_of q) (kw.pin q e).1 in record { floor = b.0; since = b.1 }

    -- another pass is beside this one
    beside : (j : ℕ) (w : PassState J) → j ≢ id → Knows journal start h j w → IsBeside h.log (view_of v) (view_of w)
    beside j w other kw = record {
      xids = λ x i.
          let y = kw.xids l x i in
          (y.0, y.1, λ own. other (let z : suc j ≡ suc id = sym y.2 ∙ (mine.xids l x own).2 in omega arith));
      held = λ p a b.
          let x = holds_frame h id p v.frames a mine.frames in
          let y = holds_frame h j p w.frames b kw.frames in
          let one : x.0 ≡ y.0 = placed x.0 y.0 x.1 y.1 (x.3 ∙ sym y.3) in
          other (let z : suc j ≡ suc id = sym y.2 ∙ ap h.holder (sym one) ∙ x.2 in omega arith);
      work = λ a b e f. other (let z : suc j ≡ suc id = sym (kw.work b f).0 ∙ (mine.work a e).0 in omega arith);
      pin = pin_allows (view_of v) w.pin (pin_of_other j w kw);
    }

    -- what a step that was logged leaves
    stays : (e : Entry) → MayLog (view_of v) e.step → Owes (view_of v) e.step → IsRecordOf h.log e.step e.logged
        → StaysLegal (view_of v) e.step h.log h.pages e.logged (journal.flushed h.journal)
    stays e may owes made =
        let a = allowed journal start h id v store pinned.kept mine l in
        logged_steps (view_of v) e.step h.log e.logged (journal.flushed h.journal)
        (record {
          later = a.later;
          goes_on = a.goes_on;
          others = a.others;
          legal = a.legal;
          keeps = a.keeps;
          pages = h.pages;
          shown = store.shown l;
          held = Rattle.latch_table.proofs.Told.are_held journal start h id v.frames l mine.frames;
          read = a.read;
        })
        may owes made (pinned.now l) (record { floor = mine.floor.flushed; since = mine.floor.within })

    step_follows : (e : Entry) → MayLog (view_of v) e.step → Owes (view_of v) e.step → IsRecordOf h.log e.step e.logged
        → Follows h views id v (Some e)
    step_follows e may owes made =
        let t = stays e may owes made in
        let is : (p : ℕ) → content_after e.logged e.step.after p (h.pages p) ≡ t.pages p
        = λ p. left_is e.logged t.pages p (h.pages p) e.step.after t.leaves.here (t.leaves.elsewhere p) in
        record {
          legal = t.legal;
          shown = λ p. subst (λ (c : Page). IsPage c × (page_bytes c ≡ replay (e.logged ∷ h.log) p)) (sym (is p))
              (t.shown p);
          elsewhere = λ p off. is p ∙ t.leaves.elsewhere p off;
          keeps = λ k p has.
              let b = mine.floor.pins k p has in
              t.keeps p (record { floor = b.0; since = b.1 }) (pinned.kept l k p has);
          now = t.now;
          others = λ j w other there e' same.
              let kw = knows j w there in
              let q : e ≡ e' = cc same in
              subst (λ (x : Entry). IsOthers (view_of w) x.logged) q
              (t.others (view_of w) (allowed journal start h j w store pinned.kept kw l) (beside j w other kw)).0;
          held = owes.pages;
          begun = λ e' same b.
              let q : e ≡ e' = cc same in
              let drawn =
              begin_drawn h.log e.step.kind (sym made.drawn.kind ∙ ap (λ (x : Entry). x.logged.kind) q ∙ b) in
              ap (λ (x : Entry). x.logged.xid) (sym q) ∙ made.drawn.xid
              ∙ ap (λ (k : Kind). drawn_xid h.log k e.step.xid) drawn;
        }

    -- no other pass has begun a transaction
    none_begun : (journal.owes h.journal ≡ true) ⊎ (v.room ≡ 16) → (j : ℕ) (w : PassState J) → j ≢ id
        → get_elem? views j ≡ some w → w.begun ≡ []
    none_begun why j w other there = ⊎_elim (λ owed. (knows j w there).owed owed)
        (λ full. (spent_others journal start h views sums knows id v at full j w other there).begun) why

    all_follows : (e : Entry) → e.step ≡ abort_all → h.log ≢ [] → IsRecordOf h.log e.step e.logged
        → (journal.owes h.journal ≡ true) ⊎ (v.room ≡ 16) → Follows h views id v (Some e)
    all_follows e all some_log made why =
        let made' = subst (λ (s : Step). IsRecordOf h.log s e.logged) all made in
        let t = abort_of_all h.log e.logged (journal.flushed h.journal) some_log (store.legal l) made' (pinned.now l) in
        let bare : e.step.after ≡ [] = ap (λ (s : Step). s.after) all in
        let is : (p : ℕ) → content_after e.logged e.step.after p (h.pages p) ≡ h.pages p
        = λ p. ap (λ (ss : List Sheet). content_after e.logged ss p (h.pages p)) bare in
        record {
          legal = t.0;
          shown = λ p.
              let was = store.shown l p in
              let same = replay_kept h.log e.logged p (λ i. subst (In p) made'.drawn.pages i) in
              subst (λ (c : Page). IsPage c × (page_bytes c ≡ replay (e.logged ∷ h.log) p)) (sym (is p))
              (was.0, was.1 ∙ sym same);
          elsewhere = λ p off. is p;
          keeps = λ k p has. t.1 p (pinned.kept l k p has);
          now = t.2;
          others = λ j w other there e' same.
              let q : e ≡ e' = cc same in
              subst (λ (x : Entry). IsOthers (view_of w) x.logged) q record {
                not_own = λ i. let x = ((knows j w there).xids l e.logged.xid i).0 in
                    let z : e.logged.xid ≡ 0 = made'.drawn.xid in omega arith;
                not_all = λ begun. absurd (begun (none_begun why j w other there));
                not_work = λ n has lt work. no_work (subst IsMaintenance made'.drawn.kind work);
              };
          held = λ p i. absurd (subst (λ (ss : List Sheet). In p (sheet_pages ss)) bare i);
          begun = λ e' same b.
              let q : e ≡ e' = cc same in
              let z : kind.Abort ≡ kind.Begin = sym made'.drawn.kind ∙ ap (λ (x : Entry). x.logged.kind) q ∙ b in cc z;
        }

    entry_follows : (e : Entry) → MayAppend journal v h.log h.journal e → Follows h views id v (Some e)
    entry_follows e (MayAppend.of_step may owes made) = step_follows e may owes made
    entry_follows e (MayAppend.of_all all some_log made why) = all_follows e all some_log made why

    pub follows : (o : Option Entry) → ((e : Entry) → o ≡ Some e → MayAppend journal v h.log h.journal e)
        → Follows h views id v o
    follows None may = none_follows
    follows (Some e) may = entry_follows e (may e refl)
