-- Text on its way to a sink.
use Rattle.std.specs.Prelude.{◌≡◌, ℕ, ◌<◌, List, ◌++◌, length, Bool, true}
use Rattle.std.specs.Prelude.{Option}
use Rattle.std.specs.Io.KnownBytes.{Appends}

-- Of a text that is to be written the sink took a beginning, and what is not written waits, where
-- this went well.
pub record Sends (before after : Option (List ℕ)) (text waiting : List ℕ)
    (well : Bool) : Type 0 where
  pub sent : List ℕ
  pub unsent : List ℕ
  pub all : sent ++ unsent ≡ text
  pub took : Appends before after sent
  pub waits : well ≡ true → unsent ≡ waiting

-- likewise, and fewer bytes than this were not taken
abbrev pub SendsBut : ℕ → Option (List ℕ) → Option (List ℕ) → List ℕ → List ℕ → Bool → Type 0
SendsBut n before after text waiting well =
    (s : Sends before after text waiting well) × (length s.unsent < n)
