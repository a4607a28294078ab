-- Decimal numbers, digit by digit.
use Rattle.std.specs.Prelude.{ℕ, ◌+◌, ◌*◌, ◌-◌, min}

-- one digit more of a number; past the cap it stays there
abbrev pub with_digit : ℕ → ℕ → ℕ → ℕ
with_digit cap n c = min (n * 10 + (c - 48)) cap
