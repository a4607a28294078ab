-- A line as words and quoted texts between blanks.
use Rattle.std.specs.Prelude.{◌≡◌, ℕ, ◌==◌, if◌then◌else◌, List, [], ◌∷◌, ◌++◌}
use Rattle.std.specs.List.{All}
use Rattle.ts_base.specs.Bytes.{IsBlank}
use Rattle.ts_base.specs.Words.{IsWord, EndsWord}
use Rattle.shell_script.specs.Lines.{HasNo}

pub data ScriptToken : Type 0 where
  word : List ℕ → ScriptToken
  quote : List ℕ → ScriptToken

-- each quote twice
abbrev pub doubled : List ℕ → List ℕ
doubled [] = []
doubled (b ∷ bs) = if b == 39 then 39 ∷ 39 ∷ doubled bs else b ∷ doubled bs

abbrev pub spelling : ScriptToken → List ℕ
spelling (word w) = w
spelling (quote t) = 39 ∷ (doubled t ++ 39 ∷ [])

-- a word has no quote in it
abbrev pub IsToken : ScriptToken → Type 0
IsToken (word w) = IsWord w × HasNo 39 w
IsToken (quote t) = Unit {0}

-- the line has these tokens, between blanks: after each is what may be after a word
abbrev pub IsSpelled : List ℕ → List ScriptToken → Type 0
IsSpelled line [] = All IsBlank line
IsSpelled line (t ∷ ts) = (gap : List ℕ) × (rest : List ℕ) × All IsBlank gap × IsToken t
    × (line ≡ gap ++ (spelling t ++ rest)) × EndsWord rest × IsSpelled rest ts
