-- The words of a call.
use Rattle.std.specs.Prelude.{◌≡◌, ◌⊎◌, ℕ}
use Rattle.engine.specs.Opened.{Settings}
use Rattle.engine.specs.declared.opening.TheConstants.{WIDEST}
pub use Rattle.shell_script.specs.declared.command_words.Options.{Options}
pub use Rattle.shell_script.specs.CommandWords.{IsForm}

-- the settings of a store with these options: else the widest
abbrev pub settings_for : Options → Settings
settings_for options = record WIDEST { pages = options.pages; pending = options.pending }

-- a status that says of the whole run
abbrev pub IsEnding : ℕ → Type 0
IsEnding status = (status ≡ 0) ⊎ (status ≡ 1) ⊎ (status ≡ 3)
