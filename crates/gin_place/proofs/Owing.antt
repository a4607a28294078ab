-- What a pass with the right of maintenance owes of a step by which items come into the entry tree.
use Rattle.std.proofs.Common.{◌≡◌, ◌≢◌, ◌-◌, ℕ, List, length, ap, subst, inl, arith, length-drop}
use Rattle.disk_trait.specs.declared.device.Disk.{Ghosts as Disk}
use Rattle.page_types.specs.Keys.{Rising}
use Rattle.page_types.specs.Pages.{IsPage}
use Rattle.page_types.specs.Records.{kind_number}
use Rattle.page_types.specs.declared.record.Kind.{Kind}
use Rattle.page_types.specs.declared.record.Kind.TheVariants as kind
use Rattle.core_state.specs.Log.{Log, In}
use Rattle.core_state.specs.Allowed.{Sheet, Step, Owes, sheet_pages}
use Rattle.core_maintenance.specs.Right as maintenance
use Rattle.buffer_frames.specs.Frames.{FramesValue, Stands}
use Rattle.buffer_frames.specs.Passes.{IsPassOf, view_of}
use Rattle.buffer_frames.specs.declared.pass.Pass.{Pass}
use Rattle.buffer_frames.proofs.AtHand.{log_length}
use Rattle.gin_place.specs.Going.{IsPlacingKind}
use Rattle.gin_place.specs.Placing.{HasRight}
use Rattle.gin_place.proofs.Carrying.{view_right}

no_abort : (k : Kind) → IsPlacingKind (kind_number k) → k ≢ kind.Abort
no_abort k placing is =
    let z = subst (λ (j : Kind). IsPlacingKind (kind_number j)) is placing in omega (arith, z.0)

pub owes_of : {D : Type 0} (device : Disk D) (f : FramesValue D) (pass : Pass) (held : List Sheet) (step : Step)
    → IsPassOf f pass → HasRight pass → step.xid ≡ 0 → IsPlacingKind (kind_number step.kind)
    → ((p : ℕ) → In p (sheet_pages step.after) → In p (sheet_pages held))
    → Rising (λ (p q : ℕ). p ≢ q) (sheet_pages step.after) → ((x : Sheet) → In x step.after → IsPage x.content)
    → (R : Log) → Stands device f R → Owes (view_of f pass R held) step
owes_of device f pass held step of right xid placing pages once fits R s =
    let long : f.journal.state.records ≡ length R = log_length device f.journal R s.journal in
    record {
      started = inl (λ none.
          omega (arith, of.some, of.seen, long, length-drop (length R - pass.seen) R, ap length none));
      pages = pages;
      once = once;
      fits = fits;
      xid = inl xid;
      work = λ is. (right.at, right.has);
      not_all = λ is. absurd (no_abort step.kind placing is);
    }

-- the right, as the view at a log that the frames stand for has it
pub right_of : {D : Type 0} (device : Disk D) (f : FramesValue D) (pass : Pass) (held : List Sheet) (R : Log)
    → IsPassOf f pass → HasRight pass → Stands device f R → maintenance.HasRight (view_of f pass R held)
right_of device f pass held R of right s =
    let long : f.journal.state.records ≡ length R = log_length device f.journal R s.journal in
    view_right f pass R held right (omega (arith, of.some)) (omega (arith, of.seen, long))
