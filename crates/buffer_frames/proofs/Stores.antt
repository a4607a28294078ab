-- When files are a store, and when they are none.
use Rattle.std.proofs.Common.{◌≡◌, ◌≢◌, ℕ, ◌+◌, ◌<◌, List, [], ◌∷◌, ◌++◌, length, take, drop, get_or, refl, sym, ap}
use Rattle.std.proofs.Common.{subst, ◌∙◌, append_assoc, append-nil, length-append, inl, inr, arith}
use Rattle.std.proofs.lemmas.List.{take_at, drop_at, get_or_past}
use Rattle.wal.specs.Endian.{little_bytes}
use Rattle.wal.specs.Batches.{header, blocks, front, AreBatches, IsUnborn}
use Rattle.wal.specs.Reading.{IsNeverForeign, IsNeverBroken}
use Rattle.page_types.proofs.Telling.{number_told}
use Rattle.buffer_frames.specs.Counted.{AreRecords}
use Rattle.buffer_frames.specs.Applied.{CanApply}
use Rattle.buffer_frames.specs.NoStore.{IsNoStore}
use Rattle.buffer_frames.specs.Inner.Known.{StoresAreKnown}
use Rattle.buffer_frames.proofs.BatchRecords.{records_front, applies_tail}

-- a log with a byte after some batches was created
created_log : (log rest : List ℕ) (read : List (List ℕ)) → log ≡ front read ++ rest → 0 < length rest → IsUnborn log → ⊥
created_log log rest read split some unborn =
    let long : length log ≡ 17 + length (blocks read) + length rest =
    ap length split ∙ omega (arith, length-append (front read) rest, length-append header (blocks read)) in
    let first : get_or log 0 0 ≡ 1 = ap (λ (l : List ℕ). get_or l 0 0) split in
    elim unborn [
      | inl short ↦ omega (arith, long, some, short)
      | inr cut ↦ cut.1 first
    ]

-- the first batches of a log are those that were read
front_split : (read xs : List (List ℕ)) (rest r : List ℕ) (g : ℕ) → AreBatches read → AreBatches xs → g ≢ 1
    → blocks read ++ rest ≡ blocks xs ++ g ∷ r → (ys : List (List ℕ)) × (xs ≡ read ++ ys)
front_split [] xs rest r g fr fx unset same = (xs, refl)
front_split (b ∷ read) [] rest r g fr fx unset same = absurd (unset (sym (ap (λ (l : List ℕ). get_or l 0 0) same)))
front_split (b ∷ read) (x ∷ xs) rest r g fr fx unset same =
    let body : b ++ (blocks read ++ rest) ≡ x ++ (blocks xs ++ g ∷ r) =
    sym (append_assoc b (blocks read) rest) ∙ ap (drop 5) same ∙ append_assoc x (blocks xs) (g ∷ r) in
    let four : little_bytes 4 (length b) ≡ little_bytes 4 (length x) = ap (λ (l : List ℕ). take 4 (drop 1 l)) same in
    let long : length b ≡ length x = number_told 4 (length b) (length x) fr.1 fx.1 four in
    let first : b ≡ x =
    sym (take_at b (blocks read ++ rest) (length b) refl) ∙ ap (take (length b)) body
    ∙ take_at x (blocks xs ++ g ∷ r) (length b) (sym long) in
    let later =
    front_split read xs rest r g fr.2 fx.2 unset
    (sym (drop_at b (blocks read ++ rest) (length b) refl) ∙ ap (drop (length b)) body
    ∙ drop_at x (blocks xs ++ g ∷ r) (length b) (sym long)) in
    (later.0, ap (λ (l : List ℕ). l ∷ xs) (sym first) ∙ ap (λ (l : List (List ℕ)). b ∷ l) later.1)

some_rest : (log rest : List ℕ) (read : List (List ℕ)) → log ≡ front read ++ rest
    → get_or log (length (front read)) 0 ≡ 1 → 0 < length rest
some_rest log [] read split set_byte =
    absurd (omega (
      arith,
      set_byte,
      ap (λ (l : List ℕ). get_or l (length (front read)) 0)
          (split ∙ append-nil (front read)),
      get_or_past (front read) (length (front read)) 0 (omega arith),
    ))
some_rest log (x ∷ rest) read split set_byte = omega arith

some_length : (rest : List ℕ) → rest ≢ [] → 0 < length rest
some_length [] off = absurd (off refl)
some_length (x ∷ rest) off = omega arith

pub stores_known : IsNeverForeign → IsNeverBroken → StoresAreKnown
stores_known never_foreign never_broken files R store (IsNoStore.foreign f) =
    never_foreign files.log store.counted.batches store.counted.opens f
stores_known never_foreign never_broken files R store (IsNoStore.broken read rest fit split b) =
    elim store.counted.opens [
      | inl unborn ↦ created_log files.log rest read split (some_rest files.log rest read split b.0) unborn.0
      | inr has ↦ never_broken files.log rest read store.counted.batches fit split has b
    ]
stores_known never_foreign never_broken files R store (IsNoStore.no_records read rest fit split some none) =
    elim store.counted.opens [
      | inl unborn ↦ created_log files.log rest read split (some_length rest some) unborn.0
      | inr has ↦
          let same : blocks read ++ rest ≡ blocks store.counted.batches ++ has.commit_byte ∷ has.rest =
          ap (drop 17) (sym (append_assoc header (blocks read) rest) ∙ sym split ∙ has.split
          ∙ append_assoc header (blocks store.counted.batches) (has.commit_byte ∷ has.rest)) in
          let ys = front_split read store.counted.batches rest has.rest has.commit_byte fit has.fit has.unset same in
          let s =
          records_front read ys.0 R
          (subst (λ (l : List (List ℕ)). AreRecords l R) ys.1 store.counted.records) in
          none s.0 s.2 (applies_tail files.pages s.1 s.0 (subst (CanApply files.pages) s.3 store.applies))
    ]
