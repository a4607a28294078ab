-- What a pass with the right of maintenance has seen, once a Shift is logged.
use Rattle.std.proofs.Common.{◌≡◌, ◌≢◌, ◌≤◌, ℕ, List, [], ◌∷◌, ◌++◌, length, refl, sym, ap, subst, ◌∙◌, inl}
use Rattle.std.proofs.Common.{arith}
use Rattle.std.proofs.Common.{length-append}
use Rattle.disk_trait.specs.declared.device.Disk.{Ghosts as Disk}
use Rattle.page_types.specs.declared.record.Kind.TheVariants as kind
use Rattle.page_types.specs.declared.record.Record.{Record}
use Rattle.core_state.specs.Log.{Log, Pages, Shows, cut}
use Rattle.core_state.specs.Index.{Main}
use Rattle.core_state.specs.Legal.{IsLegal}
use Rattle.core_state.specs.Allowed.{Sheet, Step, Leaves, drawn_kind}
use Rattle.core_state.proofs.Steps.Seen.{seen_shown}
use Rattle.core_maintenance.specs.Right as maintenance
use Rattle.core_maintenance.specs.Keeping.{OnlyAdd, PairsStay, LineGrows, ShiftKeeps}
use Rattle.core_maintenance.specs.FreshRows.{RowsAreFresh}
use Rattle.core_maintenance.proofs.FreshRows.{fresh_holds}
use Rattle.core_maintenance.proofs.Lists.{line_holds}
use Rattle.core_maintenance.proofs.Pairs.{pairs_hold}
use Rattle.core_maintenance.proofs.Right.{others_early}
use Rattle.core_maintenance.proofs.Shifts.{shift_holds}
use Rattle.buffer_frames.specs.Frames.{FramesValue}
use Rattle.buffer_frames.specs.Passes.{IsPassOf, HasAdded, PassRises, Seen, IsLogged, view_of}
use Rattle.buffer_frames.specs.declared.pass.Pass.{Pass}
use Rattle.buffer_frames.proofs.AtHand.{cut_length, cut_whole, log_length}
use Rattle.buffer_frames.proofs.Beginning.{owed_begins}
use Rattle.buffer_frames.proofs.HistoryParts.{legal_before}
use Rattle.gin_place.specs.Running.{StoreGoesOn}
use Rattle.gin_place.proofs.Carrying.{view_right}
use Rattle.gin_place.proofs.Logs.{cut_front}
use Rattle.gin_cleanup.specs.Inner.Shifting.{MayShift, LogsShift}
use Rattle.gin_cleanup.proofs.Cleaned.{history_on}

-- A log that a Shift ends: what had been seen, what others logged, and the Shift; with the pages of each.
pub record Ends (seen : ℕ) (step : Step) (S : Log) (Q : Pages) : Type 0 where
  pub had : Log
  pub later : Log
  pub log : Log
  pub newest : Record
  pub log_is : S ≡ newest ∷ log
  pub goes_on : log ≡ later ++ had
  pub size : length had ≡ seen
  pub some : had ≢ []
  pub legal : IsLegal log
  pub adds : OnlyAdd later
  pub pages : Pages
  pub shown : Shows had pages
  pub then : Pages
  pub shown_then : Shows log then
  pub kind_is : newest.kind ≡ kind.Shift
  pub leaves : Leaves then Q newest step

module _ {D : Type 0} (device : Disk D) (f g : FramesValue D) (p q : Pass) (held : List Sheet) (step : Step)
    (may : MayShift device f p held step) (added : HasAdded device f g (12 ∷ []))
    (seen : Seen device g q (λ S P. IsLogged (view_of g p S held) step S P))
    (all : q.seen ≡ g.journal.state.records) where
  -- what had been seen is so of the log that was seen
  pub ends : (X : Log → Pages → Type 0) → Seen device f p X
      → Seen device g q (λ S Q. (e : Ends p.seen step S Q) × IsLegal S × Shows S Q × X e.had e.pages)
  ends X seen_x t up R stands legal Q shown =
      let S : Log = cut q.seen R in
      let l = seen t up R stands legal Q shown in
      let back = added.back t up R stands in
      let before : Log = back.0 in
      let more = owed_begins f.journal.owes before in
      let long : f.journal.state.records ≡ length before = log_length device f.journal before back.1.journal in
      let within : p.seen ≤ length before = omega (arith, (may.is_pass).seen, long) in
      let parts : R ≡ back.2.added ++ (more.0 ++ before) =
      back.2.log_is ∙ ap (λ (l : Log). back.2.added ++ l) more.1 in
      let whole : S ≡ R = cut_whole q.seen R (all ∙ log_length device g.journal R stands.journal) in
      let cuts : cut p.seen S ≡ cut p.seen before =
      ap (cut p.seen) (whole ∙ parts)
      ∙ cut_front p.seen back.2.added (more.0 ++ before) (omega (arith, within, length-append more.0 before))
      ∙ cut_front p.seen more.0 before within in
      let was : IsLegal before =
      legal_before more.0 before (legal_before back.2.added (more.0 ++ before) (subst IsLegal parts legal)) in
      let v = view_of g p S held in
      let some : 1 ≤ p.seen = omega (arith, (may.is_pass).some) in
      let far : p.seen ≤ length S =
      omega (
        arith,
        within,
        ap length (whole ∙ parts),
        length-append back.2.added (more.0 ++ before),
        length-append more.0 before,
      ) in
      let size : length (cut p.seen S) ≡ p.seen = cut_length p.seen S far in
      let P = seen_shown v l.log l.allowed in
      let x : X (cut p.seen S) P.0 =
      subst (λ (T : Log). X T P.0) (sym cuts)
      (seen_x t (added.was_up up) before back.1 was P.0 (subst (λ (T : Log). Shows T P.0) cuts P.1)) in
      let r : maintenance.HasRight v = view_right g p S held may.right some far in (
        record {
          had = cut p.seen S;
          later = (l.allowed).later;
          log = l.log;
          newest = l.newest;
          log_is = l.log_is;
          goes_on = (l.allowed).goes_on;
          size = size;
          some = λ none. omega (arith, some, size, ap length none);
          legal = (l.allowed).legal;
          adds = λ n i. inl (others_early v l.log l.allowed r n i);
          pages = P.0;
          shown = P.1;
          then = (l.allowed).pages;
          shown_then = (l.allowed).shown;
          kind_is = (l.drawn).kind ∙ ap (drawn_kind l.log) may.kind_is;
          leaves = l.leaves;
        },
        subst IsLegal (sym whole) legal,
        shown,
        x,
      )

  pub over : (X Y : Log → Pages → Type 0)
      → ((S : Log) (Q : Pages) (e : Ends p.seen step S Q) → Shows (e.newest ∷ e.log) Q → LineGrows e.pages e.then
      → RowsAreFresh e.pages e.then → PairsStay e.pages e.then → ShiftKeeps e.then Q → X e.had e.pages
      → Y (e.newest ∷ e.log) Q)
      → Seen device f p X → Seen device g q Y
  over X Y stay seen_x t up R stands legal Q shown =
      let z = ends X seen_x t up R stands legal Q shown in
      let e = z.0 in
      let now : IsLegal (e.newest ∷ e.log) = subst IsLegal e.log_is z.1 in
      let shows : Shows (e.newest ∷ e.log) Q = subst (λ (T : Log). Shows T Q) e.log_is z.2 in
      subst (λ (T : Log). Y T Q) (sym e.log_is)
      (stay (cut q.seen R) Q e shows
      (line_holds e.had e.later e.log e.pages e.then e.goes_on e.some e.legal e.shown e.shown_then e.adds)
      (fresh_holds e.had e.later e.log e.pages e.then e.goes_on e.some e.legal e.shown e.shown_then e.adds)
      (pairs_hold e.had e.later e.log e.pages e.then e.goes_on e.some e.legal e.shown e.shown_then e.adds)
      (shift_holds e.log e.newest e.then Q now e.shown_then shows e.kind_is) z.3)

  pub shift_logs : PassRises p q → IsPassOf g q
      → q.pin ≡ p.pin → q.room ≡ p.room
      → q.xid ≡ p.xid → q.work ≡ p.work → g.pins ≡ f.pins → StoreGoesOn device f g (12 ∷ [])
      → LogsShift device f p held step g q
  shift_logs rises of pin room xid work pins runs = record {
    cleans = record {
      is_pass = of;
      added = added;
      cleaning = (inl refl, tt);
      history = history_on f.journal.owes (12 ∷ []) (inl refl, tt);
      placed = λ k i. over (λ S P. Main P k i) (λ S P. Main P k i)
          (λ S Q e shows l n s w had. (w.main k i).0 (s.main k i had));
      rises = rises;
      pin = pin;
      room = room;
      xid = xid;
      work = work;
      pins = pins;
      goes = runs;
    };
    all = all;
    seen = seen;
  }
