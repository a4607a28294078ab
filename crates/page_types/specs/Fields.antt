-- Fields read from left to right. Reading answers a value and the bytes after it, or the first fault: how many bytes
-- were left before the field that is refused, 0 where the bytes end within it.
use Rattle.std.specs.Prelude.{◌≡◌, ℕ, List, length, take, drop, Result, Ok, Err, nat_lt, Bool, if◌then◌else◌}
use Rattle.byteorder.specs.Endian.{little_number}
use Rattle.page_types.specs.declared.fields.ReadError.{ReadError}
use Rattle.page_types.specs.declared.fields.ReadError.TheVariants as errors

infixl 10 ◌>>=◌
abbrev pub ◌>>=◌ : {A B : Type 0} → Result A ℕ → (A → Result B ℕ) → Result B ℕ
(Ok x) >>= f = f x
(Err left) >>= f = Err left

-- What a function returned, seen by view, is what reading gives, unless memory ran out.
abbrev pub Fails : {Y : Type 0} → ReadError → Result Y ℕ → Type 0
Fails errors.OutOfMemory read = Unit {0}
Fails (errors.Fault left) read = read ≡ Err left

abbrev pub Gives : {X Y : Type 0} → (X → Y) → Result X ReadError → Result Y ℕ → Type 0
Gives view (Ok x) read = read ≡ Ok (view x)
Gives view (Err e) read = Fails e read

-- a number of so many bytes
unfoldable pub number_at : ℕ → List ℕ → Result (ℕ × List ℕ) ℕ
number_at size bytes = if nat_lt (length bytes) size then Err 0 else Ok (little_number size bytes, drop size bytes)

-- so many bytes
unfoldable pub bytes_at : ℕ → List ℕ → Result (List ℕ × List ℕ) ℕ
bytes_at size bytes = if nat_lt (length bytes) size then Err 0 else Ok (take size bytes, drop size bytes)

-- a value that passes a test; else its field is refused, which began the bytes
abbrev pub tested : {A : Type 0} → Bool → List ℕ → A → Result A ℕ
tested passes bytes x = if passes then Ok x else Err (length bytes)
