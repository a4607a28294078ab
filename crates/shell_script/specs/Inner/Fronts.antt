-- The tokens at the front of a text.
use Rattle.std.specs.Prelude.{◌≡◌, ◌≢◌, ℕ, ◌+◌, ◌≤◌, List, ◌++◌, length}
use Rattle.ts_base.specs.Words.{EndsWord}
use Rattle.shell_script.specs.Tokens.{ScriptToken, spelling, IsToken, IsSpelled}

-- the token t is at the front of the text, and rest after it
abbrev pub IsFirst : List ℕ → ScriptToken → List ℕ → Type 0
IsFirst text t rest = IsToken t × (text ≡ spelling t ++ rest) × EndsWord rest

abbrev pub IsQuote : ℕ → Type 0
IsQuote b = b ≡ 39

abbrev pub IsNoQuote : ℕ → Type 0
IsNoQuote b = b ≢ 39

-- The text begins with these tokens, and whatever tokens the rest has are after them.
-- Each token takes a byte at least.
pub record Fronts (text : List ℕ) (front : List ScriptToken) (rest : List ℕ) : Type 0 where
  pub goes_on : (ts : List ScriptToken) → IsSpelled rest ts → IsSpelled text (front ++ ts)
  pub came_so : (us : List ScriptToken) → IsSpelled text us
      → (ts : List ScriptToken) × (us ≡ front ++ ts) × IsSpelled rest ts
  pub takes : length front + length rest ≤ length text
