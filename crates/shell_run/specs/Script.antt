-- The exchanges of a script, and the text that is printed of them.
use Rattle.std.specs.Prelude.{◌≡◌, ℕ, List, [], ◌∷◌}
use Rattle.std.specs.List.{flat_map}
use Rattle.ts_config.specs.Known.{Known}
use Rattle.shell_script.specs.Steps.{Step}
use Rattle.shell_script.specs.Says.{Says, line_of}
use Rattle.shell_script.specs.Texts.{said}
use Rattle.shell_run.specs.Defining.{Becomes}
use Rattle.shell_run.specs.Run.{Exchange}

-- the exchange of a step, before which this is defined
pub record IsExchangeOf (known : Known) (s : Step) (exchange : Exchange) : Type 0 where
  pub step : exchange.place.step ≡ (line_of s).number
  pub numbered : exchange.line ≡ (line_of s).number
  pub turn : exchange.place.turn ≡ 0
  pub before : exchange.known ≡ known
  pub says : Says s exchange.place.session exchange.statement

-- a exchange for each step, and what is defined after them
abbrev pub AreExchanges : Known → List Step → List Exchange → Known → Type 0
AreExchanges known [] exchanges last = (exchanges ≡ []) × (last ≡ known)
AreExchanges known (s ∷ ss) exchanges last =
    (exchange : Exchange) × (rest : List Exchange) × (next : Known) × (exchanges ≡ exchange ∷ rest)
    × IsExchangeOf known s exchange
    × Becomes known exchange.statement exchange.reply next × AreExchanges next ss rest last

abbrev pub printed_exchange : Exchange → List ℕ
printed_exchange exchange = said exchange.place.session exchange.reply

abbrev pub printed_exchanges : List Exchange → List ℕ
printed_exchanges exchanges = flat_map printed_exchange exchanges
