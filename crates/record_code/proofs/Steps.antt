-- Steps that may fail, one after the other.
use Rattle.std.proofs.Common.{◌≡◌, ℕ, Bool, true, false, cond, Result, Ok, Err, refl}

-- a test that did not fail
pub guard_ok : {A : Type 0} (b : Bool) (d : ℕ) (x y : A) → cond b (Err d) (Ok x) ≡ Ok y → (b ≡ false) × (x ≡ y)
guard_ok true d x y e = absurd cc
guard_ok false d x y e = (refl, cc)

pub guard_held : {A : Type 0} (b : Bool) (d : ℕ) (r : Result A ℕ) (y : A) → cond b r (Err d) ≡ Ok y
    → (b ≡ true) × (r ≡ Ok y)
guard_held true d r y e = (refl, e)
guard_held false d r y e = absurd cc

abbrev pub done : {A : Type 0} → A → Result A ℕ
done x = Ok x

pub ok_is : {A : Type 0} (x y : A) → done x ≡ done y → x ≡ y
ok_is x y e = cc
