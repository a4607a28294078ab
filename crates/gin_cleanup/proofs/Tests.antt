-- What a test answers.
use Rattle.std.proofs.Common.{◌≡◌, ◌<◌, ℕ, Bool, true, false, Result, Ok, Err, arith}
use Rattle.std.specs.Prelude.{OnOk}

-- no test answers both
pub not_both : (b : Bool) → b ≡ true → b ≡ false → ⊥
not_both true e f = absurd (cc)
not_both false e f = absurd (cc)

-- what holds of each answer holds of one that is no refusal
pub on_answer : {T E : Type 0} (P : Type 0) (r : Result T E) → P → OnOk r P
on_answer P (Ok x) p = p
on_answer P (Err e) p = tt

-- a number that is 0 is not above it
pub not_above : (n : ℕ) → 0 < n → n ≡ 0 → ⊥
not_above n above none = omega (arith, above, none)
