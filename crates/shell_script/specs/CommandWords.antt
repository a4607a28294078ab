-- The words of a call.
use Rattle.std.specs.Prelude.{◌≡◌, ◌⊎◌, ℕ, ◌≤◌, List, [], ◌∷◌, ◌++◌, String, string_bytes, codes}
use Rattle.std.specs.declared.alloc.Global.{Global}
use Rattle.std.specs.Str.Parse.{IsNumeral, digits_value}
use Rattle.shell_script.specs.declared.command_words.Options.{Options}
use Rattle.shell_script.specs.declared.command_words.TheConstants.{FEWEST_PAGES, MOST_PAGES, USUAL_PAGES}
use Rattle.shell_script.specs.declared.command_words.TheConstants.{FEWEST_PENDING, MOST_PENDING, USUAL_PENDING}

-- decimal digits, which may begin with zeros, of a number within these bounds
pub record IsCount (fewest most : ℕ) (digits : List ℕ) (n : ℕ) : Type 0 where
  pub numeral : IsNumeral 10 digits
  pub value : digits_value 10 digits ≡ n
  pub range : (fewest ≤ n) × (n ≤ most)

-- one word sets the option of this name: the name, `=` and the digits
abbrev pub SetsCount : (name : List ℕ) (fewest most : ℕ) → List ℕ → ℕ → Type 0
SetsCount name fewest most word n =
    (digits : List ℕ) × (word ≡ name ++ (61 ∷ digits)) × IsCount fewest most digits n

-- An option of this name is set by two words, or by one; where there is no word, it has its usual number.
abbrev pub SetsOption : (name : List ℕ) (fewest most usual : ℕ) → List (String Global) → ℕ → Type 0
SetsOption name fewest most usual [] n = n ≡ usual
SetsOption name fewest most usual (one ∷ []) n = SetsCount name fewest most (string_bytes one) n
SetsOption name fewest most usual (one ∷ two ∷ []) n =
    (string_bytes one ≡ name) × IsCount fewest most (string_bytes two) n
SetsOption name fewest most usual words n = ⊥

-- how many pages the store may have, and how many the pending list before it is cleaned up by itself
abbrev pub SetsPages : List (String Global) → ℕ → Type 0
SetsPages words n = SetsOption (codes "--pages") FEWEST_PAGES MOST_PAGES USUAL_PAGES words n

abbrev pub SetsPending : List (String Global) → ℕ → Type 0
SetsPending words n = SetsOption (codes "--pending") FEWEST_PENDING MOST_PENDING USUAL_PENDING words n

-- The words set these options: each may be set once, in either order.
abbrev pub SetsOptions : List (String Global) → Options → Type 0
SetsOptions words options =
    (a : List (String Global)) × (b : List (String Global)) × ((words ≡ a ++ b) ⊎ (words ≡ b ++ a))
    × SetsPages a options.pages × SetsPending b options.pending

-- The words have a form, and set these options: `run`, and then what sets them.
abbrev pub IsForm : List (String Global) → Options → Type 0
IsForm [] options = ⊥
IsForm (first ∷ words) options = (string_bytes first ≡ codes "run") × SetsOptions words options
