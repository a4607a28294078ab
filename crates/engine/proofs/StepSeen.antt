-- What a pass's own transaction has done, once it has logged a step on documents.
use Rattle.std.proofs.Common.{◌≡◌, ◌≢◌, ◌≤◌, ◌<◌, ◌+◌, ◌-◌, ℕ, Bool, true, false, List, [], ◌∷◌, ◌++◌, length}
use Rattle.std.proofs.Common.{refl, sym, ap}
use Rattle.std.proofs.Common.{subst, ◌∙◌, inl, inr, arith, append_assoc, length-append, length-drop}
use Rattle.std.specs.Prelude.{Option, Some, reverse}
use Rattle.std.proofs.lemmas.List.{length-map, length-reverse}
use Rattle.disk_trait.specs.declared.device.Disk.{Ghosts as Disk}
use Rattle.page_types.specs.Keys.{Rising}
use Rattle.page_types.specs.Pages.{IsPage}
use Rattle.page_types.specs.Records.{kind_number}
use Rattle.page_types.specs.declared.record.Record.{Record}
use Rattle.page_types.specs.declared.record.Kind.{Kind}
use Rattle.page_types.specs.declared.record.Kind.TheVariants as kind
use Rattle.core_state.specs.Log.{Log, Pages, In, Shows, cut, fate_with, fate, next_serial}
use Rattle.core_state.specs.States as states
use Rattle.core_state.specs.Legal.{IsLegal}
use Rattle.core_state.specs.Allowed.{Sheet, Step, AreHeld, IsDrawn, Leaves, Owes, drawn_kind, sheet_pages}
use Rattle.core_state.specs.Documents.{placed, marked}
use Rattle.core_state.specs.Steady.{RunsOn, IsMaintenance}
use Rattle.core_state.specs.Steps.{RunsOwn}
use Rattle.core_state.specs.declared.answers.Fate.{Fate}
use Rattle.core_state.specs.declared.answers.Fate.TheVariants.{Running}
use Rattle.core_state.proofs.Newest.{cut_less}
use Rattle.core_state.proofs.StateTold.{state_told}
use Rattle.core_state.proofs.Steps.Seen.{legal_behind, own_holds, seen_shown}
use Rattle.buffer_frames.specs.Frames.{Stands}
use Rattle.buffer_frames.specs.Journals.{owed_abort, with_owed}
use Rattle.buffer_frames.specs.Passes.{IsPassOf, GoesOnBy, Seen, kinds_of, view_of, xids_of}
use Rattle.buffer_frames.specs.declared.pass.Pass.{Pass}
use Rattle.buffer_frames.proofs.AtHand.{cut_whole, log_length}
use Rattle.buffer_frames.proofs.DrawnRecords.{draws_alike}
use Rattle.buffer_frames.proofs.LastingStates.{told_alike}
use Rattle.engine.specs.Db.{DbValue, state_of, state_then}
use Rattle.engine.specs.Inner.Parts.{Runs}
use Rattle.engine.specs.Inner.Changing.{ChangesDocument, LogsStep}
use Rattle.engine.proofs.Carrying.{cut_cut}

-- ── a log that goes on ──

later_cut : (n : ℕ) (more R : Log) → n ≤ length R → cut n (more ++ R) ≡ cut n R
later_cut n [] R le = refl
later_cut n (r ∷ more) R le =
    cut_less n r (more ++ R) (omega (arith, length-append more R, le)) ∙ later_cut n more R le

on_by_more : (owes : Bool) (R R' : Log) (k : ℕ) → GoesOnBy owes R R' (k ∷ []) → (more : Log) × (R' ≡ more ++ R)
on_by_more true R R' k g = (
  g.added ++ owed_abort (1 + length R) ∷ [],
  g.log_is ∙ sym (append_assoc g.added (owed_abort (1 + length R) ∷ []) R),
)
on_by_more false R R' k g = (g.added, g.log_is)

-- After what transaction x had done in the log S, with its pages P, a log R that was allowed, with its
-- pages P', those that are held and this next serial, goes on by a record of the step, and Q are the pages
-- then.
pub record GrowsBy (held : List Sheet) (step : Step) (x serial : ℕ) (S : Log) (P : Pages) (R : Log) (P' : Pages)
    (r : Record) (Q : Pages) : Type 0 where
  pub legal : IsLegal R
  pub legal_now : IsLegal (r ∷ R)
  pub here : AreHeld P' held
  pub next : next_serial R ≡ serial
  pub runs_on : RunsOn S R P P' x
  pub placed_same : placed R x ≡ placed S x
  pub marked_same : marked R x ≡ marked S x
  pub shown : Shows S P
  pub shown_then : Shows R P'
  pub shown_now : Shows (r ∷ R) Q
  pub drawn : IsDrawn R step r
  pub leaves : Leaves P' Q r step

-- one record was added
one_added : (added : Log) (k : ℕ) → kinds_of added ≡ k ∷ [] → (r : Record) × (added ≡ r ∷ [])
one_added [] k e = absurd (let z : ⊥ = cc in z)
one_added (r ∷ []) k e = (r, refl)
one_added (r ∷ s ∷ rs) k e =
    let size : length (kinds_of (r ∷ s ∷ rs)) ≡ 1 = ap length e in
    absurd (omega (
      arith,
      size,
      length-map (reverse (r ∷ s ∷ rs)) (λ (q : Record). kind_number q.kind),
      length-reverse (r ∷ s ∷ rs),
    ))

next_owed : (owes : Bool) (R : Log) → next_serial (with_owed owes R) ≡ next_serial R
next_owed true R = refl
next_owed false R = refl

behind_one : (owes : Bool) (R R' log : Log) (newest : Record) (k : ℕ) → GoesOnBy owes R R' (k ∷ [])
    → R' ≡ newest ∷ log → log ≡ with_owed owes R
behind_one owes R R' log newest k g is =
    let one = one_added g.added k g.kinds_are in
    let both : newest ∷ log ≡ one.0 ∷ with_owed owes R =
    sym is ∙ g.log_is ∙ ap (λ (l : Log). l ++ with_owed owes R) one.1 in
    cc

-- a record that changes documents leaves who runs
same_fate : (R : Log) (k : Kind) (xid x : ℕ) (f : Fate) → ChangesDocument k → fate_with (drawn_kind R k) xid x f ≡ f
same_fate R (kind.PlaceHead item serial) xid x f doc = refl
same_fate R (kind.PutOverflow item serial) xid x f doc = refl
same_fate R (kind.MarkDeleted item serial) xid x f doc = refl
same_fate R (kind.PutPending item serial) xid x f doc = refl
same_fate R (kind.AddRow item serial) xid x f doc = refl
same_fate R (kind.LinkPending item serial) xid x f doc = refl
same_fate R _ xid x f doc = absurd doc

pub runs_still : (R : Log) (step : Step) (r : Record) (x : ℕ) → IsDrawn R step r → ChangesDocument step.kind
    → fate R x ≡ Running → fate (r ∷ R) x ≡ Running
runs_still R step r x drawn doc runs =
    ap (λ (k : Kind). fate_with k r.xid x (fate R x)) drawn.kind ∙ same_fate R step.kind r.xid x (fate R x) doc ∙ runs

-- a pass has its own xid
pub own_here : (x : ℕ) (o : Option ℕ) → o ≡ Some x → In x (xids_of o)
own_here x o is = subst (λ (q : Option ℕ). In x (xids_of q)) (sym is) (inl refl)

pub own_begun : (x : ℕ) (o : Option ℕ) → o ≡ Some x → xids_of o ≢ []
own_begun x o is none = subst (In x) none (own_here x o is)

module _ {D : Type 0} (device : Disk D) (old new : DbValue D) (pass pass' : Pass) (held : List Sheet) (step : Step)
    (w : LogsStep device old pass held step new pass') (was : IsPassOf old.frames pass)
    (of : IsPassOf new.frames pass') where
  -- what the pass had seen, by the log that it has seen now
  seen_then : (X : Log → Pages → Type 0) → Seen device old.frames pass X
      → Seen device new.frames pass' (λ (S : Log) (Q : Pages). (P : Pages) → Shows (cut pass.seen S) P
      → X (cut pass.seen S) P)
  seen_then X seen t up R stands legal Q shown P before =
      let back = w.one.added.back t up R stands in
      let more = on_by_more old.frames.journal.owes back.0 R _ back.2 in
      let legal_was : IsLegal back.0 = legal_behind more.0 back.0 (subst IsLegal more.1 legal) in
      let long_was = log_length device old.frames.journal back.0 back.1.journal in
      let long = log_length device new.frames.journal R stands.journal in
      let cuts : cut pass.seen (cut pass'.seen R) ≡ cut pass.seen back.0 =
      cut_cut pass.seen pass'.seen R w.rises (omega (arith, of.seen, long)) ∙ ap (cut pass.seen) more.1
      ∙ later_cut pass.seen more.0 back.0 (omega (arith, was.seen, long_was)) in
      subst (λ (S : Log). X S P) (sym cuts)
      (seen t (w.one.added.was_up up) back.0 back.1 legal_was P (subst (λ (S : Log). Shows S P) cuts before))

  pub after_step : (x : ℕ) (X Y : Log → Pages → Type 0) → pass.xid ≡ Some x
      → ((S : Log) (P : Pages) → X S P → fate S x ≡ Running)
      → ((S R : Log) (P P' Q : Pages) (r : Record) → GrowsBy held step x (state_then old).next_serial S P R P' r Q
      → X S P → Y (r ∷ R) Q)
      → Seen device old.frames pass X → Seen device new.frames pass' Y
  after_step x X Y is runs then seen t up R stands legal Q shown =
      let S : Log = cut pass'.seen R in
      let v = view_of new.frames pass S held in
      let l = w.seen t up R stands legal Q shown in
      let P = seen_shown v l.log l.allowed in
      let had = seen_then X seen t up R stands legal Q shown P.0 P.1 in
      let own : RunsOwn v x = record {
        own = own_here x pass.xid is;
        begun = own_begun x pass.xid is;
        runs = runs (cut pass.seen S) P.0 had;
      } in
      let on = own_holds v l.log l.allowed P.0 x own P.1 in
      let back = w.one.added.back t up R stands in
      let more = on_by_more old.frames.journal.owes back.0 R _ back.2 in
      let tells =
      told_alike back.0 (state_of old) (states.state_of (state_of old).pages (state_of old).xid_limit back.0)
      back.1.journal.state (state_told (state_of old).pages (state_of old).xid_limit back.0
      (legal_behind more.0 back.0 (subst IsLegal more.1 legal))) in
      let whole : cut pass'.seen R ≡ R =
      cut_whole pass'.seen R (w.all ∙ log_length device new.frames.journal R stands.journal) in
      let behind : l.log ≡ with_owed old.frames.journal.owes back.0 =
      behind_one old.frames.journal.owes back.0 R l.log l.newest _ back.2 (sym whole ∙ l.log_is) in
      let grows : GrowsBy held step x (state_then old).next_serial (cut pass.seen S) P.0 l.log l.allowed.pages l.newest
      Q = record {
        legal = l.allowed.legal;
        legal_now = subst IsLegal (sym whole ∙ l.log_is) legal;
        here = l.allowed.held;
        next = ap next_serial behind ∙ next_owed old.frames.journal.owes back.0 ∙ sym tells.next_serial
            ∙ sym (draws_alike old.frames.journal.owes (state_of old)).serial;
        runs_on = on.runs_on;
        placed_same = on.placed_same;
        marked_same = on.marked_same;
        shown = P.1;
        shown_then = l.allowed.shown;
        shown_now = subst (λ (T : Log). Shows T Q) l.log_is shown;
        drawn = l.drawn;
        leaves = l.leaves;
      } in
      subst (λ (T : Log). Y T Q) (sym l.log_is)
      (then (cut pass.seen S) l.log P.0 l.allowed.pages Q l.newest grows had)

  -- the transaction runs on
  pub runs_after : (x : ℕ) → pass.xid ≡ Some x → ChangesDocument step.kind → Runs device old pass x
      → Runs device new pass' x
  runs_after x is doc runs =
      after_step x (λ (S : Log) (P : Pages). fate S x ≡ Running) (λ (S : Log) (P : Pages). fate S x ≡ Running) is
      (λ S P had. had)
      (λ S R P P' Q r grows had. runs_still R step r x grows.drawn doc grows.runs_on.runs) runs

-- ── what is owed of a step ──

some_cut : (n : ℕ) (R : Log) → 0 < n → n ≤ length R → cut n R ≢ []
some_cut n R some le none =
    let long : length (cut n R) ≡ 0 = ap length none in
    omega (arith, length-drop (length R - n) R, long, some, le)

no_work : (k : Kind) → ChangesDocument k → IsMaintenance k → ⊥
no_work (kind.PlaceHead item serial) doc work = omega (arith, work.0)
no_work (kind.PutOverflow item serial) doc work = omega (arith, work.0)
no_work (kind.MarkDeleted item serial) doc work = omega (arith, work.0)
no_work (kind.PutPending item serial) doc work = omega (arith, work.0)
no_work (kind.AddRow item serial) doc work = omega (arith, work.0)
no_work (kind.LinkPending item serial) doc work = omega (arith, work.0)
no_work _ doc work = doc

no_abort : (k : Kind) → ChangesDocument k → k ≢ kind.Abort
no_abort k doc is = subst ChangesDocument is doc

pub owes_of : {D : Type 0} (device : Disk D) (s : DbValue D) (pass : Pass) (held : List Sheet) (step : Step) (x : ℕ)
    → IsPassOf s.frames pass → pass.xid ≡ Some x → step.xid ≡ x → ChangesDocument step.kind
    → ((p : ℕ) → In p (sheet_pages step.after) → In p (sheet_pages held))
    → Rising (λ (p q : ℕ). p ≢ q) (sheet_pages step.after) → ((y : Sheet) → In y step.after → IsPage y.content)
    → (R : Log) → Stands device s.frames R → Owes (view_of s.frames pass R held) step
owes_of device s pass held step x of is xid doc pages once fits R stands =
    let long = log_length device s.frames.journal R stands.journal in
    record {
      started = inl (some_cut pass.seen R of.some (omega (arith, of.seen, long)));
      pages = pages;
      once = once;
      fits = fits;
      xid = inr (inr (subst (λ (y : ℕ). In y (xids_of pass.xid)) (sym xid) (own_here x pass.xid is)));
      work = λ work. absurd (no_work step.kind doc work);
      not_all = λ abort. absurd (no_abort step.kind doc abort);
    }
