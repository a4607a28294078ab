-- The steps of a script, computed.
use Rattle.std.specs.Prelude.{◌≡◌, ◌↔◌, ℕ, zero, suc, List, [], ◌∷◌, length, codes}
use Rattle.std.specs.Prelude.{Bool, true, false, if◌then◌else◌, ◌==◌, ◌||◌, bytes_eq}
use Rattle.std.specs.List.{list_any}
use Rattle.shell_script.specs.Lines.{Line, script_lines}
use Rattle.shell_script.specs.Steps.{Step, single, definition, stray, AreSteps}
use Rattle.shell_script.specs.declared.script.Role.{Role}
use Rattle.shell_script.specs.declared.script.Role.TheVariants.{Alone, Opening, Inner, Closing}

abbrev pub is_skipped : List ℕ → Bool
is_skipped [] = true
is_skipped (b ∷ bytes) = b == 35

abbrev pub is_blank : ℕ → Bool
is_blank b = (b == 32) || (b == 9)

-- the bytes before the first blank
abbrev pub word_of : List ℕ → List ℕ
word_of [] = []
word_of (b ∷ bytes) = if is_blank b then [] else b ∷ word_of bytes

-- the first word, empty where there is none
abbrev pub first_word : List ℕ → List ℕ
first_word [] = []
first_word (b ∷ bytes) = if is_blank b then first_word bytes else b ∷ word_of bytes

abbrev pub is_end : List ℕ → Bool
is_end bytes = bytes_eq bytes (codes "end")

abbrev pub opens_definition : List ℕ → Bool
opens_definition bytes =
    bytes_eq (first_word bytes) (codes "dictionary") || bytes_eq (first_word bytes) (codes "configuration")

abbrev pub opens_block : List ℕ → Bool
opens_block bytes = bytes_eq (first_word bytes) (codes "parallel")

-- what a line outside a block is, by whether it opens a block or a definition
abbrev pub role_outside : Bool → Bool → Role
role_outside block defines = if block then Inner else (if defines then Opening else Alone)

-- what a line is that is not skipped, given whether it is in a block
abbrev pub role : Bool → List ℕ → Role
role true bytes = if is_end bytes then Closing else Inner
role false bytes = role_outside (opens_block bytes) (opens_definition bytes)

-- the lines before the first `end`
abbrev pub body_of : List Line → List Line
body_of [] = []
body_of (l ∷ ls) = if is_end l.bytes then [] else l ∷ body_of ls

abbrev pub has_end : List Line → Bool
has_end ls = list_any (λ (l : Line). is_end l.bytes) ls

-- the step of a definition, and the steps after its body, if that has an end
abbrev pub defined_steps : Bool → Line → List Line → List Step → List Step
defined_steps true l body behind = definition l body ∷ behind
defined_steps false l body behind = stray l ∷ []

-- the steps from a line on, by its role and the steps after it: outside a block, within one, and
-- after a body
abbrev pub steps_at : Role → Line → List Line → List Step → List Step → List Step → List Step
steps_at Alone l ls outside inside behind = single l ∷ outside
steps_at Opening l ls outside inside behind = defined_steps (has_end ls) l (body_of ls) behind
steps_at Inner l ls outside inside behind = stray l ∷ inside
steps_at Closing l ls outside inside behind = stray l ∷ outside

-- the steps of lines, of which the first k are passed over
abbrev pub steps_from : ℕ → Bool → List Line → List Step
steps_from k within [] = []
steps_from (suc k) within (l ∷ ls) = steps_from k within ls
steps_from zero within (l ∷ ls) =
    if is_skipped l.bytes then steps_from 0 within ls
    else steps_at (role within l.bytes) l ls (steps_from 0 false ls) (steps_from 0 true ls)
    (steps_from (suc (length (body_of ls))) false ls)

abbrev pub steps_of : List ℕ → List Step
steps_of text = steps_from 0 false (script_lines text)

-- a script has exactly one list of steps, which is the one computed
abbrev pub OneReading : Type 0
OneReading = (text : List ℕ) (ss : List Step) → AreSteps false (script_lines text) ss ↔ (ss ≡ steps_of text)
