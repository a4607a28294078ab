-- What decoding answers.
use Rattle.std.specs.Prelude.{◌≡◌, ℕ, ◌-◌, Result, Ok, Err, ⊤}
use Rattle.page_types.specs.declared.page.Page.{Page}
use Rattle.page_code.specs.declared.error.PageError.{PageError}
use Rattle.page_code.specs.declared.error.PageError.TheVariants.{BadPage, OutOfMemory}

-- a fault by its place in bytes of this length
abbrev pub placed : ℕ → Result Page ℕ → Result Page ℕ
placed size (Ok p) = Ok p
placed size (Err left) = Err (size - left)

-- the page, or the place of the fault, unless memory runs out
abbrev pub Answers : Result Page PageError → Result Page ℕ → Type 0
Answers (Ok p) read = read ≡ Ok p
Answers (Err (BadPage at)) read = read ≡ Err at
Answers (Err OutOfMemory) read = ⊤
