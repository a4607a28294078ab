-- What the code keeps of a word's vowels and consonants.
use Rattle.std.specs.Prelude.{◌≡◌, ℕ, ◌+◌, List, [], ◌∷◌, Bool, false, not, if◌then◌else◌, ◌||◌, ◌&&◌, reverse}
use Rattle.std.specs.List.{list_any}
use Rattle.porter_stem.specs.Letters.{kinds, turns}
use Rattle.porter_stem.specs.declared.shape.Shape.{Shape}

-- the kinds of the last three letters, from the last on; false where there is no such letter
abbrev pub first_of : List Bool → Bool
first_of [] = false
first_of (a ∷ ks) = a

abbrev pub second_of : List Bool → Bool
second_of [] = false
second_of (a ∷ ks) = first_of ks

abbrev pub third_of : List Bool → Bool
third_of [] = false
third_of (a ∷ ks) = second_of ks

pub record HasShape (ks : List Bool) (shape : Shape) : Type 0 where
  pub measure_is : shape.measure ≡ turns ks
  pub vowel_is : shape.has_vowel ≡ list_any not ks
  pub last_is : shape.last ≡ first_of (reverse ks)
  pub second_is : shape.second ≡ second_of (reverse ks)
  pub third_is : shape.third ≡ third_of (reverse ks)

abbrev pub IsShape : List ℕ → Shape → Type 0
IsShape word shape = HasShape (kinds word) shape

-- whether a letter makes a turn from a vowel to a consonant, after a last letter and where there is a vowel
abbrev pub turn_counts : Bool → Bool → Bool → Bool
turn_counts kind last vowel = (kind && not last) && vowel

-- the shape with one letter more
pub record Follows (old : Shape) (kind : Bool) (new : Shape) : Type 0 where
  pub measure_is : new.measure ≡ old.measure + (if turn_counts kind old.last old.has_vowel then 1 else 0)
  pub vowel_is : new.has_vowel ≡ (old.has_vowel || not kind)
  pub last_is : new.last ≡ kind
  pub second_is : new.second ≡ old.last
  pub third_is : new.third ≡ old.second
