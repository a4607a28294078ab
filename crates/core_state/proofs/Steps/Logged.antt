-- A logged step keeps the log legal, each pin, and what is allowed to other sessions.
use Rattle.std.proofs.Common.{◌≡◌, ◌≢◌, ◌⊎◌, ◌≤◌, ℕ, suc, List, [], ◌∷◌, ◌++◌, length, refl, sym, ap, subst, subst₂}
use Rattle.std.proofs.Common.{◌∙◌, inl, inr, arith}
use Rattle.std.specs.Prelude.{Option, Some, None, IfSome}
use Rattle.page_types.specs.Keys.{Rising}
use Rattle.page_types.specs.Pages.{IsPage}
use Rattle.page_types.specs.declared.record.Record.{Record}
use Rattle.page_types.specs.declared.record.Kind.{Kind}
use Rattle.page_types.specs.declared.record.Kind.TheVariants as kind
use Rattle.core_state.specs.Log.{Log, Pages, In, Shows, commits, next_xid}
use Rattle.core_state.specs.Legal.{RuleHolds, Valid, IsLegal, Pin, Keeps}
use Rattle.core_state.specs.Steady.{IsMaintenance}
use Rattle.core_state.specs.Readings.{Read, AreReads}
use Rattle.core_state.specs.Allowed.{Sheet, View, IsOthers, IsAllowed, AreHeld, Step, IsDrawn, MayLog, Owes}
use Rattle.core_state.specs.Allowed.{sheet_pages, drawn_kind, drawn_xid}
use Rattle.core_state.specs.Logged.{IsRecordOf, pin_now, FloorAllows, IsBeside, LoggedStepsHold, abort_all}
use Rattle.core_state.specs.Logged.{AbortOfAllHolds}
use Rattle.core_state.proofs.Showing.{shown_one}
use Rattle.core_state.proofs.Monotone.{rule_more}
use Rattle.core_state.proofs.Newest.{cut_less}
use Rattle.core_state.proofs.SteadyEnds.{commits_more}
use Rattle.core_state.proofs.Steps.Pins.{whole_cut, kept_longer}
use Rattle.core_state.proofs.Steps.Making as making
use Rattle.core_state.proofs.Steps.Making.{left_in, page_in}

if_both : (A B C : Pin → Type 0) (o : Option Pin) → ((p : Pin) → A p → B p → C p) → IfSome o A → IfSome o B
    → IfSome o C
if_both A B C None f a b = tt
if_both A B C (Some p) f a b = f p a b

held_on : (P Q : Pages) (ss : List Sheet) → ((x : Sheet) → In x ss → Q x.page ≡ P x.page) → AreHeld P ss
    → AreHeld Q ss
held_on P Q [] same h = tt
held_on P Q (x ∷ xs) same h = (same x (inl refl) ∙ h.0, held_on P Q xs (λ y i. same y (inr i)) h.1)

-- what was read stays read
reads_on : (r : Record) (R : Log) (from : ℕ) (xs : List Read) → AreReads R from xs → AreReads (r ∷ R) from xs
reads_on r R from [] t = tt
reads_on r R from (x ∷ xs) t = (
  t.0,
  omega (arith, t.1),
  (t.2.0, subst (λ (l : Log). Shows l t.2.0) (sym (cut_less x.length r R t.1)) t.2.1, t.2.2),
  reads_on r R x.length xs t.3,
)

-- the step's kind and xid, from those of its record
xid_drawn : (R : Log) (k : Kind) (x : ℕ) → ((k ≡ kind.Begin) × (drawn_xid R k x ≡ next_xid R)) ⊎ (drawn_xid R k x ≡ x)
xid_drawn R kind.Begin x = inl (refl, refl)
xid_drawn R _ x = inr refl

abort_drawn : (R : Log) (k : Kind) → drawn_kind R k ≡ kind.Abort → k ≡ kind.Abort
abort_drawn R (kind.Commit n) e = cc
abort_drawn R (kind.PlaceHead item serial) e = cc
abort_drawn R _ e = e

work_drawn : (R : Log) (k : Kind) → IsMaintenance (drawn_kind R k) → IsMaintenance k
work_drawn R (kind.Commit n) w = w
work_drawn R (kind.PlaceHead item serial) w = w
work_drawn R _ w = w

module _ (v : View) (s : Step) (R : Log) (r : Record) (a : IsAllowed v R) (may : MayLog v s)
    (made : IsRecordOf R s r) (started : (r.kind ≡ kind.Create) ⊎ (R ≢ []))
    (once : Rising (λ (p q : ℕ). p ≢ q) (sheet_pages s.after))
    (fits : (x : Sheet) → In x s.after → IsPage x.content) where
  abbrev after : Pages
  after = making.after v s R r a may made once fits

  shown_after : Shows (r ∷ R) after
  shown_after = making.shown_after v s R r a may made once fits

  valid_from : (floor since : ℕ) → v.floor ≤ floor → v.since ≤ since → Valid R r floor since
  valid_from floor since low short = record {
    before = a.pages;
    after = after;
    shown = a.shown;
    shown_after = shown_after;
    is_record = made.is_record;
    can_edit = made.can_edit;
    number = made.drawn.number;
    started = started;
    rule = rule_more R a.pages after r v.floor v.since floor since low short (making.rule v s R r a may made once fits);
  }

  keeps : (pin : Pin) → FloorAllows v pin → Keeps R pin → Keeps (r ∷ R) pin
  keeps pin u k =
      let low = u.floor in
      let short = u.since in
      let within = k.within in
      record {
        within = omega arith;
        counted = subst (λ (l : Log). pin.commits ≤ commits l) (sym (cut_less pin.length r R within)) k.counted;
        each = (
          k.each,
          (v.floor, low, valid_from v.floor (suc (length R)) (omega arith) (omega arith)),
          λ late. (v.floor, low, valid_from v.floor pin.length (omega arith) short),
        );
      }

  module _ (flushed : ℕ) (now : Keeps R (pin_now flushed R)) (u : FloorAllows v (pin_now flushed R)) where
    counted : flushed ≤ commits R
    counted = subst (λ (l : Log). flushed ≤ commits l) (whole_cut R) now.counted

    legal : IsLegal (r ∷ R)
    legal =
        let low = u.floor in
        let short = u.since in
        let most = counted in
        record {
          valid = (a.legal.valid, valid_from (commits R) (suc (length R)) (omega arith) (omega arith));
          images = made.images;
          redo_images = made.redo_images;
        }

    now_after : Keeps (r ∷ R) (pin_now flushed (r ∷ R))
    now_after =
        let low = u.floor in
        let short = u.since in
        record {
          within = omega arith;
          counted = subst (λ (l : Log). flushed ≤ commits l) (sym (whole_cut (r ∷ R)))
              (omega (arith, counted, commits_more r.kind (commits R)));
          each = (
            kept_longer flushed (length R) (suc (length R)) R (omega arith) now.each,
            (v.floor, low, valid_from v.floor (suc (length R)) (omega arith) (omega arith)),
            λ late. absurd (omega arith),
          );
        }

    -- the log with the record is allowed to a session to which it is a record of another
    allowed : (w : View) → IsAllowed w R → IsOthers w r → IfSome w.pin (FloorAllows v)
        → ((p : ℕ) → In p (sheet_pages s.after) → In p (sheet_pages w.held) → ⊥) → IsAllowed w (r ∷ R)
    allowed w b other pin off = record {
      later = r ∷ b.later;
      goes_on = ap (λ (l : Log). r ∷ l) b.goes_on;
      others = (other, b.others);
      legal = legal;
      keeps = if_both (FloorAllows v) (Keeps R) (Keeps (r ∷ R)) w.pin keeps pin b.keeps;
      pages = after;
      shown = shown_after;
      held = held_on a.pages after w.held
          (λ x i. (making.leaves v s R r a may made once fits).elsewhere x.page
          (λ j. off x.page j (page_in w.held x i)))
          (subst (λ (P : Pages). AreHeld P w.held) (shown_one R b.pages a.pages b.shown a.shown) b.held);
      read = reads_on r R w.from w.readings b.read;
    }

    -- and to the session itself, once it has seen the record
    own : (w : View) → w.seen ≡ r ∷ R → w.pin ≡ v.pin → w.from ≡ v.from → w.readings ≡ v.readings
        → IfSome v.pin (FloorAllows v) → AreHeld after w.held → IsAllowed w (r ∷ R)
    own w seen pin from readings allows held = record {
      later = [];
      goes_on = sym seen;
      others = tt;
      legal = legal;
      keeps = subst (λ (o : Option Pin). IfSome o (Keeps (r ∷ R))) (sym pin)
          (if_both (FloorAllows v) (Keeps R) (Keeps (r ∷ R)) v.pin keeps allows a.keeps);
      pages = after;
      shown = shown_after;
      held = held;
      read = subst₂ (AreReads (r ∷ R)) (sym from) (sym readings) (reads_on r R v.from v.readings a.read);
    }

-- the record is another's to each session beside
is_others : (v : View) (s : Step) (R : Log) (r : Record) → IsDrawn R s r → Owes v s → (w : View) → IsBeside R v w
    → IsOthers w r
is_others v s R r n owes w beside = record {
  not_own = λ i.
      let x = beside.xids r.xid i in
      elim (xid_drawn R s.kind s.xid) [
        | inl b ↦ omega (arith, x.1, n.xid ∙ b.1)
        | inr same ↦ elim owes.xid [
          | inl none ↦ omega (arith, x.0, n.xid ∙ same ∙ none)
          | inr (inl b) ↦ omega (arith, x.1, n.xid ∙ ap (λ (k : Kind). drawn_xid R k s.xid) b)
          | inr (inr own) ↦ x.2 (subst (λ (y : ℕ). In y v.xids) (sym (n.xid ∙ same)) own)
        ]
      ];
  not_all = λ some e none.
      let abort = abort_drawn R s.kind (sym n.kind ∙ e) in
      owes.not_all abort (sym (n.xid ∙ ap (λ (k : Kind). drawn_xid R k s.xid) abort) ∙ none);
  not_work = λ at e lt w.
      let o = owes.work (work_drawn R s.kind (subst IsMaintenance n.kind w)) in
      absurd (beside.work o.0 at o.1 e);
}

not_empty : (xs ys : Log) → xs ++ ys ≡ [] → ys ≡ []
not_empty [] ys e = e
not_empty (x ∷ xs) ys e = cc

starts : (v : View) (s : Step) (R : Log) (r : Record) → IsAllowed v R → IsDrawn R s r → Owes v s
    → (r.kind ≡ kind.Create) ⊎ (R ≢ [])
starts v s R r a n owes = elim owes.started [
  | inl some ↦ inr (λ e. some (not_empty a.later v.seen (sym a.goes_on ∙ e)))
  | inr create ↦ inl (n.kind ∙ ap (drawn_kind R) create)
]

pub logged_steps : LoggedStepsHold
logged_steps v s R r flushed a may owes made now u =
    let started = starts v s R r a made.drawn owes in
    record {
      pages = making.after v s R r a may made owes.once owes.fits;
      shown = making.shown_after v s R r a may made owes.once owes.fits;
      leaves = making.leaves v s R r a may made owes.once owes.fits;
      legal = legal v s R r a may made started owes.once owes.fits flushed now u;
      keeps = keeps v s R r a may made started owes.once owes.fits;
      now = now_after v s R r a may made started owes.once owes.fits flushed now u;
      own = own v s R r a may made started owes.once owes.fits flushed now u;
      others = λ w b beside.
          let other = is_others v s R r made.drawn owes w beside in (
            other,
            allowed v s R r a may made started owes.once owes.fits flushed now u w b other beside.pin
                (λ p i j. beside.held p (owes.pages p i) j),
          );
    }

-- a session that knows the log alone
abbrev alone : Log → View
alone R = record {
  seen = R;
  pin = None;
  floor = 0;
  since = 0;
  from = 0;
  readings = [];
  held = [];
  xids = [];
  begun = [];
  work = None;
}

alone_allowed : (R : Log) → R ≢ [] → IsLegal R → IsAllowed (alone R) R
alone_allowed [] some ok = absurd (some refl)
alone_allowed (r ∷ R) some ok = record {
  later = [];
  goes_on = refl;
  others = tt;
  legal = ok;
  keeps = tt;
  pages = ok.valid.1.after;
  shown = ok.valid.1.shown_after;
  held = tt;
  read = tt;
}

abort_may : (v : View) → MayLog v abort_all
abort_may v R a r Q n l = RuleHolds.abort (record {
  here = record { kind_is = n.kind; pages = n.pages; runs = inr n.xid };
})

no_work : IsMaintenance kind.Abort → ⊥
no_work w = omega (arith, w)

pub abort_of_all : AbortOfAllHolds
abort_of_all R r flushed some legal_before made now =
    let v : View = alone R in
    let a = alone_allowed R some legal_before in
    let may = abort_may v in
    let u : FloorAllows v (pin_now flushed R) = record { floor = omega arith; since = omega arith } in (
      legal v abort_all R r a may made (inr some) tt (λ x i. absurd i) flushed now u,
      λ pin k. keeps v abort_all R r a may made (inr some) tt (λ x i. absurd i) pin
          (record { floor = omega arith; since = omega arith }) k,
      now_after v abort_all R r a may made (inr some) tt (λ x i. absurd i) flushed now u,
      λ w b none off. allowed v abort_all R r a may made (inr some) tt (λ x i. absurd i) flushed now u w b
          (record {
            not_own = λ i. off (subst (λ (y : ℕ). In y w.xids) made.drawn.xid i);
            not_all = λ begun. absurd (begun none);
            not_work = λ at e lt m. absurd (no_work (subst IsMaintenance made.drawn.kind m));
          }) (allows_all w.pin) (λ p i. absurd i),
    )
  where
    allows_all : (o : Option Pin) → IfSome o (FloorAllows (alone R))
    allows_all None = tt
    allows_all (Some p) = record { floor = omega arith; since = omega arith }
