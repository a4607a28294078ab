-- The bytes of a log: a header, batches after set commit bytes, and an unset commit byte.
use Rattle.std.specs.Prelude.{◌≡◌, ◌≢◌, ◌⊎◌, ℕ, ◌<◌, ◌≤◌, List, [], ◌∷◌, ◌++◌, length, get_or, codes}
use Rattle.byteorder.specs.Endian.{little_bytes}
use Rattle.wal.specs.declared.sizes.TheConstants.{HEADER_BYTES, CREATED_BYTES, LENGTH_BYTES, BATCH_LIMIT}

-- the name of the format
abbrev pub format_name : List ℕ
format_name = codes "GINSH STORE 0001"

-- the commit byte of the store, set, and the name of the format
abbrev pub header : List ℕ
header = 1 ∷ format_name

-- a batch after its commit byte
abbrev pub sealed : List ℕ → List ℕ
sealed batch = little_bytes LENGTH_BYTES (length batch) ++ batch

abbrev pub blocks : List (List ℕ) → List ℕ
blocks [] = []
blocks (batch ∷ batches) = 1 ∷ sealed batch ++ blocks batches

-- all before the an unset commit byte
abbrev pub front : List (List ℕ) → List ℕ
front batches = header ++ blocks batches

abbrev pub AreBatches : List (List ℕ) → Type 0
AreBatches [] = Unit {0}
AreBatches (batch ∷ batches) = (0 < length batch) × (length batch < BATCH_LIMIT) × AreBatches batches

-- the log's batches, up to the first commit byte that is unset
pub record HasBatches (bytes : List ℕ) (batches : List (List ℕ)) : Type 0 where
  pub commit_byte : ℕ
  pub rest : List ℕ
  pub split : bytes ≡ front batches ++ commit_byte ∷ rest
  pub unset : commit_byte ≢ 1
  pub fit : AreBatches batches

-- a log whose creation was cut short
abbrev pub IsUnborn : List ℕ → Type 0
IsUnborn bytes = (length bytes ≤ HEADER_BYTES) ⊎ ((length bytes ≡ CREATED_BYTES) × (get_or bytes 0 0 ≢ 1))

-- what a log opens to
abbrev pub Opens : List ℕ → List (List ℕ) → Type 0
Opens bytes batches = (IsUnborn bytes × (batches ≡ [])) ⊎ HasBatches bytes batches

-- the bytes of a log determine its batches
abbrev pub HasOneList : Type 0
HasOneList =
    (bytes : List ℕ) (xs ys : List (List ℕ)) → HasBatches bytes xs → HasBatches bytes ys → xs ≡ ys

abbrev pub OpensToOneList : Type 0
OpensToOneList =
    (bytes : List ℕ) (xs ys : List (List ℕ)) → Opens bytes xs → Opens bytes ys → xs ≡ ys
