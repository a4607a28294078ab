-- The last entries of an encoding, found by how many bytes they have.
use Rattle.std.proofs.Common.{◌≡◌, ℕ, zero, suc, ◌-◌, ◌≤◌, List, [], ◌∷◌, ◌++◌, length, take, drop, sym, ◌∙◌, ap, arith}
use Rattle.std.proofs.Common.{length-append}
use Rattle.std.specs.Prelude.{sum_by}
use Rattle.std.specs.List.{flat_map}
use Rattle.std.proofs.lemmas.Grind.{flat_map-append}
use Rattle.std.proofs.lemmas.List.{take-append-drop, length-drop, drop_at}
use Rattle.std.proofs.lemmas.List.Sums.{sum_by-take-drop}
use Rattle.ts_base.specs.Vectors.{Vector, IsNormal}
use Rattle.ts_base.specs.Encoding.{entry_bytes, entry_size}
use Rattle.ts_base.proofs.Encoding.{length-entries}
use Rattle.ts_vector.specs.Inner.Told.{entries_told, AreEntries}
use Rattle.ts_vector.proofs.Merging.{entry_size as content_of}
use Rattle.ts_vector.proofs.Told.{told, told_are, tail_normal}

drop_normal : (k : ℕ) (v : Vector) → IsNormal v → IsNormal (drop k v)
drop_normal zero v n = n
drop_normal (suc k) [] n = n
drop_normal (suc k) (e ∷ v) n = drop_normal k v (tail_normal e v n)

pub bytes_count : (n : ℕ) (bytes : List ℕ) → AreEntries n bytes (entries_told n bytes)
    → length bytes ≡ sum_by entry_size (entries_told n bytes)
bytes_count n bytes are = ap length are.bytes_of ∙ length-entries (entries_told n bytes)

module _ (n : ℕ) (bytes : List ℕ) (v : Vector) (are : AreEntries n bytes v) (k left : ℕ)
    (has : left ≡ sum_by entry_size (drop k v)) where
  pub left_within : left ≤ length bytes
  left_within = omega (arith, ap length are.bytes_of, length-entries v, sum_by-take-drop entry_size v k)

  parts : bytes ≡ flat_map entry_bytes (take k v) ++ flat_map entry_bytes (drop k v)
  parts = are.bytes_of ∙ ap (flat_map entry_bytes) (sym (take-append-drop k v))
      ∙ flat_map-append entry_bytes (take k v) (drop k v)

  before : length (flat_map entry_bytes (take k v)) ≡ length bytes - left
  before = omega (
    arith,
    ap length parts,
    length-append (flat_map entry_bytes (take k v)) (flat_map entry_bytes (drop k v)),
    length-entries (drop k v),
  )

  last_bytes : drop (length bytes - left) bytes ≡ flat_map entry_bytes (drop k v)
  last_bytes = ap (drop (length bytes - left)) parts
      ∙ drop_at (flat_map entry_bytes (take k v)) (flat_map entry_bytes (drop k v)) (length bytes - left) before

  last_are : k ≤ length v → AreEntries (n - k) (drop (length bytes - left) bytes) (drop k v)
  last_are le = record {
    normal = drop_normal k v are.normal;
    small = let s = are.small in omega (arith, sum_by-take-drop content_of v k);
    counted = let c = are.counted in omega (arith, length-drop k v);
    bytes_of = last_bytes;
  }

  pub last_told : k ≤ length v → entries_told (n - k) (drop (length bytes - left) bytes) ≡ drop k v
  last_told le = told (n - k) (drop (length bytes - left) bytes) (drop k v) (last_are le)

  pub last_told_are : k ≤ length v
      → AreEntries (n - k) (drop (length bytes - left) bytes) (entries_told (n - k) (drop (length bytes - left) bytes))
  last_told_are le = told_are (n - k) (drop (length bytes - left) bytes) (drop k v) (last_are le)
