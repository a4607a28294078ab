-- Choices whose test is known.
use Rattle.std.proofs.Common.{◌≡◌, Bool, true, subst}
use Rattle.std.specs.Prelude.{if◌then◌else◌}

-- what is chosen where the test holds
pub when_true : {A : Type 0} (b : Bool) (x y z : A) → b ≡ true → x ≡ (if b then y else z) → x ≡ y
when_true b x y z t e = subst (λ (c : Bool). x ≡ (if c then y else z)) t e
