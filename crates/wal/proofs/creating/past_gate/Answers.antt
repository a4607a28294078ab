use Rattle.std.proofs.Common.{◌≡◌, ◌-◌, length, take, drop, refl, sym, subst}
use Rattle.wal.specs.Inner.CommitBytes.{name_and_commit_byte}
use Rattle.wal.proofs.creating.past_gate.Goals as goal

pub returns : goal.returns
returns c =
    subst (λ s. take (length s - 1) (drop 1 s) ≡ name_and_commit_byte) (sym c.as_slice-created.ensures) refl
