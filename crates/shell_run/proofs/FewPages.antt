-- The numbers that the words of a call set.
use Rattle.std.proofs.Common.{◌≤◌, ℕ, List, [], ◌∷◌, codes, arith}
use Rattle.std.specs.Prelude.{String}
use Rattle.std.specs.declared.alloc.Global.{Global}
use Rattle.shell_script.specs.CommandWords.{SetsOption, IsForm}
use Rattle.shell_script.specs.declared.command_words.Options.{Options}
use Rattle.shell_script.specs.declared.command_words.TheConstants.{FEWEST_PAGES, MOST_PAGES, USUAL_PAGES}

set_few : (name : List ℕ) (fewest most usual : ℕ) (words : List (String Global)) (n : ℕ) → usual ≤ most
    → SetsOption name fewest most usual words n → n ≤ most
set_few name fewest most usual [] n low h = omega (arith, low, h)
set_few name fewest most usual (one ∷ []) n low h = h.2.range.1
set_few name fewest most usual (one ∷ two ∷ []) n low h = h.1.range.1
set_few name fewest most usual (one ∷ two ∷ three ∷ words) n low h = absurd h

-- words that have a form set no more than a store may have
pub form_few : (words : List (String Global)) (options : Options) → IsForm words options → options.pages ≤ MOST_PAGES
form_few [] options h = absurd h
form_few (first ∷ words) options h =
    set_few (codes "--pages") FEWEST_PAGES MOST_PAGES USUAL_PAGES h.1.0 options.pages (omega arith) h.1.3
