-- What the top call ensures.
use Rattle.std.specs.Prelude.{◌≡◌, ◌≢◌, ◌⊎◌, ℕ, ◌+◌, ◌<◌, List, [], ◌∷◌, ◌++◌, length, Bool, true, false}
use Rattle.std.specs.Prelude.{Option}
use Rattle.std.specs.List.{list_any}
use Rattle.std.specs.Io.KnownBytes.{Appends}
use Rattle.ts_config.specs.Known.{Known, first_known}
use Rattle.shell_script.specs.Lines.{script_lines}
use Rattle.shell_script.specs.Steps.{Step, AreSteps}
use Rattle.shell_script.specs.Replies.{Reply, refused}
use Rattle.shell_run.specs.Run.{Exchange}
use Rattle.shell_run.specs.Script.{AreExchanges, printed_exchange, printed_exchanges}
use Rattle.shell_run.specs.declared.sending.TheConstants.{PIECE_BYTES}

abbrev pub is_refusal : Reply → Bool
is_refusal (refused why) = true
is_refusal reply = false

abbrev pub some_refused : List Exchange → Bool
some_refused exchanges = list_any (λ (r : Exchange). is_refusal r.reply) exchanges

-- the text of the last exchange
abbrev pub last_text : List Exchange → List ℕ
last_text [] = []
last_text (exchange ∷ []) = printed_exchange exchange
last_text (exchange ∷ next ∷ exchanges) = last_text (next ∷ exchanges)

-- The exchanges are those of a script's first steps, and the sink took a beginning of their text. What
-- it did not take is at most the last exchange's text and what waited before it, which is no whole piece.
pub record HasPrinted (text : List ℕ) (before after : Option (List ℕ))
    (exchanges : List Exchange) : Type 0 where
  pub done : List Step
  pub left : List Step
  pub script : AreSteps false (script_lines text) (done ++ left)
  -- what is defined after them
  pub known : Known
  pub each : AreExchanges first_known done exchanges known
  pub sent : List ℕ
  pub unsent : List ℕ
  pub printed : sent ++ unsent ≡ printed_exchanges exchanges
  pub took : Appends before after sent
  pub few : length unsent < PIECE_BYTES + length (last_text exchanges)

-- nothing was run, and nothing was written
pub record NotRun (status : ℕ) (before after : Option (List ℕ)) : Type 0 where
  pub sink : Appends before after []
  pub statuses : (status ≢ 0) × (status ≢ 1) × (status ≢ 7)

-- The exchanges are those of the script, and the sink took their text. With status 5 or 7 they are those
-- of its first steps, and the sink took a beginning of their text.
pub record Answered (text : List ℕ) (status : ℕ) (before after : Option (List ℕ))
    (exchanges : List Exchange) : Type 0 where
  pub so_far : HasPrinted text before after exchanges
  pub statuses : (status ≡ 0) ⊎ (status ≡ 1) ⊎ (status ≡ 3) ⊎ (status ≡ 5) ⊎ (status ≡ 7)
  pub whole : (status ≡ 5) ⊎ (status ≡ 7) ⊎ ((so_far.left ≡ []) × (so_far.unsent ≡ []))
  pub one : status ≡ 1 → some_refused exchanges ≡ true
  pub zero : status ≡ 0 → some_refused exchanges ≡ false
