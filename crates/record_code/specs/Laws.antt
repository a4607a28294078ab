-- Reading gives what is encoded, and all of it.
use Rattle.std.specs.Prelude.{◌≡◌, ◌<◌, ℕ, List, ◌++◌, length, get_or, Ok}
use Rattle.page_types.specs.Records.{record_bytes, IsRecord}
use Rattle.page_types.specs.declared.record.Record.{Record}
use Rattle.record_code.specs.Reading.{record_at}

abbrev pub AreBytes : List ℕ → Type 0
AreBytes bytes = (i : ℕ) → get_or bytes i 0 < 256

-- the bytes begin with the encoding of this record, of this length
pub record Begins (bytes : List ℕ) (r : Record) (n : ℕ) : Type 0 where
  pub is_record : IsRecord r
  pub size : length (record_bytes r) ≡ n
  pub encoded : (behind : List ℕ) × (bytes ≡ record_bytes r ++ behind)

-- what is read is encoded so
abbrev pub ReadingIsEncoded : Type 0
ReadingIsEncoded =
    (bytes : List ℕ) (r : Record) (n : ℕ) → AreBytes bytes → record_at bytes ≡ Ok (r, n) → Begins bytes r n

-- what is encoded so is read, whatever follows
abbrev pub EncodingIsRead : Type 0
EncodingIsRead =
    (r : Record) (behind : List ℕ) → IsRecord r → record_at (record_bytes r ++ behind) ≡ Ok (r, length (record_bytes r))
