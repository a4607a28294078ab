-- What is made of lines, one after another.
use Rattle.std.specs.Prelude.{◌≡◌, ◌⊎◌, List, [], ◌∷◌}
use Rattle.shell_script.specs.Lines.{Line}
use Rattle.shell_script.specs.Replies.{Refusal}

module _ {V : Type 0} (takes : Line → V → V → Type 0) where
  -- the lines in turn make the one of the other
  abbrev pub TakesAll : List Line → V → V → Type 0
  TakesAll [] old new = new ≡ old
  TakesAll (l ∷ ls) old new = (next : V) × takes l old next × TakesAll ls next new

  -- the first line that is refused is refused so
  abbrev pub RefusesOne : (Line → V → Refusal → Type 0) → List Line → V → Refusal → Type 0
  RefusesOne refuses [] old why = ⊥
  RefusesOne refuses (l ∷ ls) old why =
      refuses l old why ⊎ ((next : V) × takes l old next × RefusesOne refuses ls next why)
