-- What a pass had seen is so of the log that it sees once its own record is logged, where others' records and this one
-- keep it.
use Rattle.std.proofs.Common.{◌≡◌, ◌≤◌, List, length, sym, subst, ◌∙◌, arith}
use Rattle.disk_trait.specs.declared.device.Disk.{Ghosts as Disk}
use Rattle.page_types.specs.Records.{kind_number}
use Rattle.core_state.specs.Log.{Log, Pages, Shows, cut}
use Rattle.core_state.specs.Allowed.{Sheet, Step}
use Rattle.core_state.specs.Legal.{IsLegal}
use Rattle.core_state.proofs.Steps.Seen.{seen_shown}
use Rattle.core_maintenance.specs.Right as maintenance
use Rattle.buffer_frames.specs.Frames.{FramesValue}
use Rattle.buffer_frames.specs.Passes.{IsPassOf, Seen, IsLogged, view_of}
use Rattle.buffer_frames.specs.declared.pass.Pass.{Pass}
use Rattle.buffer_frames.proofs.AtHand.{cut_length, cut_whole, log_length}
use Rattle.gin_place.proofs.Carrying.{view_right}
use Rattle.gin_place.proofs.Logs.{seen_before}
use Rattle.gin_place.specs.Placing.{HasRight}
use Rattle.gin_vacuum.specs.Inner.Logging.{LogsStep}

module _ {D : Type 0} (device : Disk D) (f g : FramesValue D) (p q : Pass) (held : List Sheet) (step : Step) where
  -- A log that the record of the step ends, with its pages, and what the pass had seen before.
  pub record EndsWith (S : Log) (Q P : Pages) : Type 0 where
    pub logged : IsLogged (view_of g p S held) step S Q
    pub right : maintenance.HasRight (view_of g p S held)
    pub size : length (cut p.seen S) ≡ p.seen
    pub shown : Shows (cut p.seen S) P
    pub shown_then : Shows S Q
    pub legal : IsLegal S

  pub logged_on : IsPassOf f p → HasRight p → LogsStep device f p held step g q → (X Y : Log → Pages → Type 0)
      → ((S : Log) (Q P : Pages) → EndsWith S Q P → X (cut p.seen S) P → Y S Q) → Seen device f p X
      → Seen device g q Y
  logged_on was had_right logs X Y stay had t up R stands legal Q shown =
      let S : Log = cut q.seen R in
      let l = logs.seen t up R stands legal Q shown in
      let of = (logs.works).is_pass in
      let long = log_length device g.journal R stands.journal in
      let whole : S ≡ R = cut_whole q.seen R (logs.all ∙ long) in
      let size_S : length S ≡ q.seen = cut_length q.seen R (omega (arith, of.seen, long)) in
      let far : p.seen ≤ length S = omega (arith, size_S, ((logs.works).rises).seen) in
      let P = seen_shown (view_of g p S held) l.log l.allowed in
      stay S Q P.0 (record {
        logged = l;
        right = view_right g p S held had_right (omega (arith, was.some)) far;
        size = cut_length p.seen S far;
        shown = P.1;
        shown_then = shown;
        legal = subst IsLegal (sym whole) legal;
      })
      (seen_before device f g p q (kind_number step.kind) was (logs.works).added (logs.works).rises of X had
      t up R stands legal Q shown P.0 P.1)
