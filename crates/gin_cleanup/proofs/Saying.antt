-- What a step answers: whether a page is left.
use Rattle.std.proofs.Common.{◌≡◌, ℕ, Bool, true, false, not, nat_eq, refl}
use Rattle.std.proofs.lemmas.Bool.Decides.{Decides-eqb}
use Rattle.std.specs.Bool.{Decides}
use Rattle.std.specs.Prelude.{◌↔◌}
use Rattle.disk_trait.specs.declared.device.Disk.{Ghosts as Disk}
use Rattle.core_state.specs.Log.{cut}
use Rattle.buffer_frames.specs.Frames.{FramesValue}
use Rattle.buffer_frames.specs.declared.pass.Pass.{Pass}
use Rattle.gin_cleanup.specs.Cleaning.{IsCleaning, SaysWhether}
use Rattle.gin_cleanup.specs.declared.cleanup.Cleanup.{Cleanup}
use Rattle.gin_cleanup.proofs.StillLeft.{left_ends}

pub not_zero : (n : ℕ) → (not (nat_eq n 0) ≡ false) ↔ (n ≡ 0)
not_zero n = by (nat_eq n 0) (Decides-eqb n 0)
  where
    by : (b : Bool) → Decides b (n ≡ 0) → (not b ≡ false) ↔ (n ≡ 0)
    by true d = (λ e. d.0 refl, λ e. refl)
    by false d = (λ e. absurd (cc), λ e. let z : false ≡ true = d.1 e in absurd (cc))

-- a row is still linked exactly where one is
pub says : {D : Type 0} (device : Disk D) (f : FramesValue D) (p : Pass) (from : ℕ) (c : Cleanup) (more : Bool)
    → IsCleaning device f p from c → (more ≡ false) ↔ (c.left ≡ 0) → SaysWhether device f p from more
says device f p from c more x by t up R stands legal P shown =
    let e = left_ends from (cut p.seen R) P c.left (x.left t up R stands legal P shown) in
    (λ none. e.0 (by.0 none), λ none. by.1 (e.1 none))
