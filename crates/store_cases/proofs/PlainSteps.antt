-- Steps that leave no page.
use Rattle.std.proofs.Common.{◌≡◌, ◌≢◌, ◌⊎◌, ◌≤◌, ◌-◌, ℕ, List, [], length, ap, inl}
use Rattle.std.proofs.Common.{arith, length-drop}
use Rattle.std.specs.Prelude.{Result, Ok, Err, OnOk, OnErr}
use Rattle.disk_trait.specs.declared.device.Disk.{Ghosts as Disk}
use Rattle.page_types.specs.Records.{IsKind}
use Rattle.page_types.specs.declared.record.Kind.{Kind}
use Rattle.page_types.specs.declared.record.Kind.TheVariants as kind
use Rattle.core_state.specs.Log.{Log, In}
use Rattle.core_state.specs.Allowed.{Step, Owes}
use Rattle.core_state.specs.Steady.{IsMaintenance}
use Rattle.buffer_frames.specs.Drawing.{HasEncoding}
use Rattle.buffer_frames.specs.Frames.{FramesValue, Stands}
use Rattle.buffer_frames.specs.Passes.{xids_of, IsPassOf, HasAdded, view_of}
use Rattle.buffer_frames.specs.declared.pass.Pass.{Pass}
use Rattle.buffer_frames.proofs.AtHand.{log_length}

abbrev pub plain : Kind → ℕ → Step
plain k x = record { kind = k; xid = x; after = [] }

pub plain_encoding : (k : Kind) (x : ℕ) → IsKind k → HasEncoding (plain k x)
plain_encoding k x is = record { kind = is; few = omega arith; each = tt; once = tt }

-- a session owes of one its xid alone
pub plain_owes : {D : Type 0} (device : Disk D) (f : FramesValue D) (pass : Pass) (k : Kind) (x : ℕ)
    → (IsMaintenance k → ⊥) → k ≢ kind.Abort → (x ≡ 0) ⊎ ((k ≡ kind.Begin) ⊎ In x (xids_of pass.xid))
    → IsPassOf f pass → (R : Log) → Stands device f R → Owes (view_of f pass R []) (plain k x)
plain_owes device f pass k x calm ends own of R s =
    let long : f.journal.state.records ≡ length R = log_length device f.journal R s.journal in
    record {
      started = inl (λ none.
          omega (arith, of.some, of.seen, long, length-drop (length R - pass.seen) R, ap length none));
      pages = λ p i. i;
      once = tt;
      fits = λ y i. absurd i;
      xid = own;
      work = λ is. absurd (calm is);
      not_all = λ is. absurd (ends is);
    }

-- the log isn't shorter, whatever is answered
pub longer_then : {D T E : Type 0} (device : Disk D) (r : Result T E) (f f' : FramesValue D) (kinds : List ℕ)
    → OnOk r (HasAdded device f f' kinds) → OnErr r (HasAdded device f f' [])
    → f.journal.state.records ≤ f'.journal.state.records
longer_then device (Ok x) f f' kinds ok err = ok.longer
longer_then device (Err e) f f' kinds ok err = err.longer
