-- Where a split divides what has members, by what it keeps in the first part.
use Rattle.std.specs.Prelude.{ℕ, ◌≤◌}
use Rattle.posting_code.specs.declared.dividing.Keep.{Keep}
use Rattle.posting_code.specs.declared.dividing.Keep.TheVariants.{Half, Most}

-- What is divided: which two parts divide it, which first parts have at least half of its bytes, what fits on a page,
-- and how many members a part has.
pub record Cutting (A : Type 0) : Type 1 where
  pub Divides : A → A → Type 0
  pub Keeps : A → Type 0
  pub Fits : A → Type 0
  pub count : A → ℕ

-- the shortest first part with at least half of the bytes
pub record IsHalf {A : Type 0} (c : Cutting A) (front back : A) : Type 0 where
  pub divides : c.Divides front back
  pub keeps : c.Keeps front
  pub least : (f b : A) → c.Divides f b → c.Keeps f → c.count front ≤ c.count f

-- the longest first part that fits
pub record IsMost {A : Type 0} (c : Cutting A) (front back : A) : Type 0 where
  pub divides : c.Divides front back
  pub fits : c.Fits front
  pub most : (f b : A) → c.Divides f b → c.Fits f → c.count f ≤ c.count front

-- at half where both parts then fit, else after the longest first part that fits
pub data IsEven {A : Type 0} (c : Cutting A) (front back : A) : Type 0 where
  half : IsHalf c front back → c.Fits front → c.Fits back → IsEven c front back
  longest : ((f b : A) → IsHalf c f b → c.Fits f → c.Fits b → ⊥) → IsMost c front back → IsEven c front back

-- where a split divides: as even as that, or after the longest first part that fits, where it has at least half
pub data IsCut {A : Type 0} (c : Cutting A) (front back : A) : Keep → Type 0 where
  half : IsEven c front back → IsCut c front back Half
  most : IsMost c front back → c.Keeps front → IsCut c front back Most
  no_most : ((f b : A) → IsMost c f b → c.Keeps f → ⊥) → IsEven c front back → IsCut c front back Most
