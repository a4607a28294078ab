-- What a pass goes by is so still once a step of placing is logged.
use Rattle.std.proofs.Common.{◌≡◌, ◌≤◌, ℕ, List, [], ◌∷◌, ◌++◌, length, refl, sym, ap, subst, ◌∙◌}
use Rattle.std.proofs.Common.{inl, inr, arith, length-append}
use Rattle.std.specs.Prelude.{Option}
use Rattle.disk_trait.specs.declared.device.Disk.{Ghosts as Disk}
use Rattle.page_types.specs.Records.{kind_number}
use Rattle.page_types.specs.declared.record.Kind.{Kind}
use Rattle.page_types.specs.declared.record.Kind.TheVariants as kind
use Rattle.page_types.specs.declared.record.Record.{Record}
use Rattle.core_state.specs.Log.{Log, Pages, In, Shows, cut}
use Rattle.core_state.specs.Index.{Pending, Main, IsNamed}
use Rattle.core_state.specs.Legal.{IsLegal}
use Rattle.core_state.specs.Allowed.{Sheet, Step, drawn_kind}
use Rattle.core_state.proofs.Newest.{cut_less}
use Rattle.core_state.proofs.Steps.Seen.{seen_shown}
use Rattle.core_maintenance.specs.Right as maintenance
use Rattle.core_maintenance.specs.Staying.{FoundStays, RightKeepsFound}
use Rattle.core_maintenance.specs.Keeping.{IsPlacing, PairsStay, PairsHold}
use Rattle.buffer_frames.specs.Opens.{IsEarlyKind}
use Rattle.buffer_frames.specs.Frames.{FramesValue}
use Rattle.buffer_frames.specs.Passes.{IsPassOf, HasAdded, PassRises, Seen, IsLogged, view_of, xid_after}
use Rattle.buffer_frames.specs.declared.pass.Pass.{Pass}
use Rattle.buffer_frames.proofs.AtHand.{cut_length, cut_whole, log_length}
use Rattle.buffer_frames.proofs.Beginning.{owed_begins}
use Rattle.buffer_frames.proofs.HistoryParts.{legal_before}
use Rattle.ts_base.specs.Keys.{Key}
use Rattle.core_maintenance.specs.TreeSteps.{NamesStay}
use Rattle.gin_place.specs.Running.{StoreGoesOn}
use Rattle.gin_place.specs.Going.{IsPlacingKind}
use Rattle.gin_place.specs.Inner.Logging.{MayLogStep, LogsStep}
use Rattle.gin_place.proofs.Carrying.{cut_cut, view_right}

-- a log that is longer begins the same
pub cut_front : (n : ℕ) (xs R : Log) → n ≤ length R → cut n (xs ++ R) ≡ cut n R
cut_front n [] R le = refl
cut_front n (x ∷ xs) R le = cut_less n x (xs ++ R) (omega (arith, le, length-append xs R)) ∙ cut_front n xs R le

pub within : (n : ℕ) → IsPlacingKind n → (13 ≤ n) × (n ≤ 17)
within n is = is

-- a store opens with such a step
pub early_placing : (k : Kind) → IsPlacingKind (kind_number k) → IsEarlyKind k
early_placing (kind.Checkpoint redo) p = absurd (let z : ⊥ = omega (arith, p.0) in z)
early_placing _ p = tt

-- a record of such a step is of its kind
kind_placing : (R : Log) (k : Kind) → IsPlacingKind (kind_number k) → IsPlacing (drawn_kind R k)
kind_placing R (kind.Commit n) p = absurd (let z : ⊥ = omega (arith, (within 3 p).0) in z)
kind_placing R (kind.PlaceHead i s) p = absurd (let z : ⊥ = omega (arith, (within 6 p).0) in z)
kind_placing R k p = within (kind_number k) p

newest_number : (R : Log) (n : Record) (k : Kind) → IsPlacingKind (kind_number k) → n.kind ≡ drawn_kind R k
    → (13 ≤ kind_number n.kind) × (kind_number n.kind ≤ 17)
newest_number R n k p is = subst IsPlacing (sym is) (kind_placing R k p)

newest_kind : {r : Record} {k : Kind} (n : Record) → In n (r ∷ []) → r.kind ≡ k → n.kind ≡ k
newest_kind n (inl e) is = ap (λ (x : Record). x.kind) e ∙ is
newest_kind n (inr i) is = absurd i

module _ {D : Type 0} (device : Disk D) (f g : FramesValue D) (p q : Pass) (kd : ℕ) (was : IsPassOf f p)
    (added : HasAdded device f g (kd ∷ [])) (rises : PassRises p q) (of : IsPassOf g q) where
  -- what the pass had seen before a record was logged, by the log that it has seen now
  pub seen_before : (X : Log → Pages → Type 0) → Seen device f p X
      → Seen device g q (λ (S : Log) (Q : Pages). (P : Pages) → Shows (cut p.seen S) P → X (cut p.seen S) P)
  seen_before X had t up R stands legal Q shown P before =
      let back = added.back t up R stands in
      let older : Log = back.0 in
      let more = owed_begins f.journal.owes older in
      let size : f.journal.state.records ≡ length older = log_length device f.journal older back.1.journal in
      let long : g.journal.state.records ≡ length R = log_length device g.journal R stands.journal in
      let within : p.seen ≤ length older = omega (arith, was.seen, size) in
      let parts : R ≡ back.2.added ++ (more.0 ++ older) =
      back.2.log_is ∙ ap (λ (l : Log). back.2.added ++ l) more.1 in
      let cuts : cut p.seen (cut q.seen R) ≡ cut p.seen older =
      cut_cut p.seen q.seen R rises.seen (omega (arith, of.seen, long))
      ∙ ap (cut p.seen) parts
      ∙ cut_front p.seen back.2.added (more.0 ++ older) (omega (arith, within, length-append more.0 older))
      ∙ cut_front p.seen more.0 older within in
      let legal_then : IsLegal older =
      legal_before more.0 older (legal_before back.2.added (more.0 ++ older) (subst IsLegal parts legal)) in
      subst (λ (S : Log). X S P) (sym cuts)
      (had t (added.was_up up) older back.1 legal_then P (subst (λ (S : Log). Shows S P) cuts before))

module _ {D : Type 0} (device : Disk D) (law : RightKeepsFound) (pairs : PairsHold) (names : NamesStay)
    (f g : FramesValue D) (p q : Pass) (held : List Sheet) (step : Step) (may : MayLogStep device f p held step)
    (added : HasAdded device f g (kind_number step.kind ∷ []))
    (seen : Seen device g q (λ S P. IsLogged (view_of g p S held) step S P))
    (all : q.seen ≡ g.journal.state.records) (rises : PassRises p q) (of : IsPassOf g q) where
  kept_then : (X : Pages → Type 0) → ((P Q : Pages) → FoundStays P Q → X P → X Q)
      → ((P Q : Pages) → PairsStay P Q → ((k : Key) (root : ℕ) → IsNamed P k root → IsNamed Q k root) → X P → X Q)
      → Seen device f p (λ S P. X P) → Seen device g q (λ S P. X P)
  kept_then X stay keep had t up R stands legal Q shown =
      let S : Log = cut q.seen R in
      let l = seen t up R stands legal Q shown in
      let whole : S ≡ R = cut_whole q.seen R (all ∙ log_length device g.journal R stands.journal) in
      let v = view_of g p S held in
      let some : 1 ≤ p.seen = omega (arith, (may.is_pass).some) in
      let far : p.seen ≤ length S =
      omega (arith, rises.seen, of.seen, log_length device g.journal R stands.journal, ap length whole) in
      let P = seen_shown v l.log l.allowed in
      let x : X P.0 = seen_before device f g p q (kind_number step.kind) may.is_pass added rises of (λ T U. X U) had t
      up R stands legal Q shown P.0 P.1 in
      let r : maintenance.HasRight v = view_right g p S held may.right some far in
      let y : X (l.allowed).pages =
      stay P.0 (l.allowed).pages (law v l.log l.allowed P.0 r P.1) x in
      let kept : PairsStay (l.allowed).pages Q =
      pairs l.log (l.newest ∷ []) S (l.allowed).pages Q l.log_is
      (λ none. omega (
        arith,
        some,
        cut_length p.seen S far,
        ap length none,
        ap length (l.allowed).goes_on,
        length-append (l.allowed).later (cut p.seen S),
      ))
      (subst IsLegal (sym whole) legal) (l.allowed).shown shown
      (λ n i. inr (subst IsPlacing (sym (newest_kind n i (l.drawn).kind)) (kind_placing l.log step.kind may.placing)))
      in
      let legal_then : IsLegal (l.newest ∷ l.log) = subst IsLegal (sym whole ∙ l.log_is) legal in
      let same_kind = newest_number l.log l.newest step.kind may.placing (l.drawn).kind in
      keep (l.allowed).pages Q kept (λ k root named.
      names l.log l.newest (l.allowed).pages Q k root legal_then (l.allowed).shown
      (subst (λ (T : Log). Shows T Q) l.log_is shown) same_kind.0 same_kind.1 named) y

  pub logs_by : q.pin ≡ p.pin → q.room ≡ p.room → q.xid ≡ p.xid → q.work ≡ p.work → g.pins ≡ f.pins
      → StoreGoesOn device f g (kind_number step.kind ∷ []) → LogsStep device f p held step g q
  logs_by pin room xid work pins goes = record {
    works = record {
      is_pass = of;
      added = added;
      placing = (may.placing, tt);
      pairs = record {
        pending = λ k i. kept_then (λ P. Pending P k i) (λ P Q s. s.pending k i) (λ P Q s named. s.pending k i);
        placed = λ k i. kept_then (λ P. Main P k i) (λ P Q s. s.main k i) (λ P Q s named. s.main k i);
      };
      trees = λ k root. kept_then (λ P. IsNamed P k root) (λ P Q s. s.named k root) (λ P Q s named. named k root);
      rises = rises;
      pin = pin;
      room = room;
      xid = xid;
      work = work;
      pins = pins;
      goes = goes;
    };
    seen = seen;
  }

-- such a step draws no xid
pub no_begin : (k : Kind) → IsPlacingKind (kind_number k) → k ≡ kind.Begin → ⊥
no_begin k placing is =
    let z : ⊥ = omega (arith, (within 2 (subst (λ (j : Kind). IsPlacingKind (kind_number j)) is placing)).0) in z

pub xid_same : (k : Kind) → IsPlacingKind (kind_number k) → (value : ℕ) (xid : Option ℕ) {then : Option ℕ}
    → then ≡ xid_after k value xid → then ≡ xid
xid_same kind.Begin placing value xid is = absurd (let z : ⊥ = omega (arith, (within 2 placing).0) in z)
xid_same (kind.Commit n) placing value xid is = absurd (let z : ⊥ = omega (arith, (within 3 placing).0) in z)
xid_same kind.Abort placing value xid is = absurd (let z : ⊥ = omega (arith, (within 4 placing).0) in z)
xid_same _ placing value xid is = is
