-- A log that opens is not refused.
use Rattle.std.proofs.Common.{◌≡◌, ◌≢◌, ◌⊎◌, ℕ, ◌+◌, ◌<◌, ◌≤◌, List, [], ◌∷◌, ◌++◌, length, take, drop, get_or, refl}
use Rattle.std.proofs.Common.{sym, ap, ◌∙◌, append_assoc, length-append, arith, inl, inr, ⊎_elim}
use Rattle.std.proofs.lemmas.List.{drop_at, drop-drop, get_or_at}
use Rattle.byteorder.specs.Endian.{little_bytes}
use Rattle.wal.specs.Batches.{header, blocks, front, AreBatches, HasBatches, Opens}
use Rattle.wal.specs.Reading.{IsForeign, IsLengthAt, IsBroken}
use Rattle.wal.proofs.Lists.{same_length}

-- after the batches that were read are the others
rest_of : (read xs : List (List ℕ)) (rest r : List ℕ) (g : ℕ) → AreBatches read → AreBatches xs → g ≢ 1
    → blocks read ++ rest ≡ blocks xs ++ g ∷ r → (ys : List (List ℕ)) × AreBatches ys × (rest ≡ blocks ys ++ g ∷ r)
rest_of [] xs rest r g fr fx unset same = (xs, fx, same)
rest_of (b ∷ read) [] rest r g fr fx unset same = absurd (unset (sym (ap (λ (l : List ℕ). get_or l 0 0) same)))
rest_of (b ∷ read) (x ∷ xs) rest r g fr fx unset same =
    let body : b ++ (blocks read ++ rest) ≡ x ++ (blocks xs ++ g ∷ r) =
    sym (append_assoc b (blocks read) rest) ∙ ap (drop 5) same ∙ append_assoc x (blocks xs) (g ∷ r) in
    let four : little_bytes 4 (length b) ≡ little_bytes 4 (length x) = ap (λ (l : List ℕ). take 4 (drop 1 l)) same in
    let long : length b ≡ length x = same_length (length b) (length x) fr.1 fx.1 four in
    rest_of read xs rest r g fr.2 fx.2 unset (sym (drop_at b (blocks read ++ rest) (length b) refl)
    ∙ ap (drop (length b)) body ∙ drop_at x (blocks xs ++ g ∷ r) (length b) (sym long))

-- the next one is whole
next_whole : (log : List ℕ) (at : ℕ) (ys : List (List ℕ)) (start r : List ℕ) (g : ℕ) → AreBatches ys → g ≢ 1
    → length start ≡ at → log ≡ start ++ (blocks ys ++ g ∷ r) → IsBroken log at → ⊥
next_whole log at [] start r g fit unset ends is broken =
    unset (sym (ap (λ (l : List ℕ). get_or l at 0) is ∙ get_or_at start g r 0 at ends) ∙ broken.0)
next_whole log at (y ∷ ys) start r g fit unset ends is broken =
    ⊎_elim (λ (short : length log < at + 5 + 1). omega (arith, long))
    (λ (w : (n : ℕ) × IsLengthAt log at n × ((n ≡ 0) ⊎ (length log ≤ at + 5 + n))).
    let four : little_bytes 4 (length y) ≡ little_bytes 4 w.0 =
    sym (ap (take 4) (ap (drop (at + 1)) is ∙ sym (drop-drop 1 at (start ++ (blocks (y ∷ ys) ++ g ∷ r)))
    ∙ ap (drop 1) (drop_at start (blocks (y ∷ ys) ++ g ∷ r) at ends))) ∙ w.1.1 in
    let same : length y ≡ w.0 = same_length (length y) w.0 fit.1 w.1.0 four in
    ⊎_elim (λ (none : w.0 ≡ 0). omega (arith, same, fit.0))
    (λ (past : length log ≤ at + 5 + w.0). omega (arith, same, long)) w.2) broken.1
  where
    long : length log ≡ at + 5 + length y + length (blocks ys) + 1 + length r
    long = omega (
      arith,
      ap length is,
      ends,
      length-append start (blocks (y ∷ ys) ++ g ∷ r),
      ap length (append_assoc y (blocks ys) (g ∷ r)),
      length-append y (blocks ys ++ g ∷ r),
      length-append (blocks ys) (g ∷ r),
    )

pub whole : (log rest : List ℕ) (read xs : List (List ℕ)) → AreBatches read → log ≡ front read ++ rest
    → HasBatches log xs → IsBroken log (length (front read)) → ⊥
whole log rest read xs fit split counts broken =
    let same : blocks read ++ rest ≡ blocks xs ++ counts.commit_byte ∷ counts.rest =
    ap (drop 17) (sym (append_assoc header (blocks read) rest) ∙ sym split ∙ counts.split
    ∙ append_assoc header (blocks xs) (counts.commit_byte ∷ counts.rest)) in
    let others = rest_of read xs rest counts.rest counts.commit_byte fit counts.fit counts.unset same in
    next_whole log (length (front read)) others.0 (front read) counts.rest counts.commit_byte others.1 counts.unset refl
    (split ∙ ap (λ (l : List ℕ). front read ++ l) others.2) broken

pub no_foreign : (log : List ℕ) (xs : List (List ℕ)) → Opens log xs → IsForeign log → ⊥
no_foreign log xs opens foreign = elim opens [
  | inl unborn ↦ elim unborn.0 [
    | inl short ↦ elim foreign [
      | inl closed ↦ omega (arith, closed.0)
      | inr other ↦ omega (arith, other.1)
    ]
    | inr cut ↦ elim foreign [
      | inl closed ↦ omega (arith, closed.0, cut.0)
      | inr other ↦ cut.1 other.0
    ]
  ]
  | inr counts ↦ elim foreign [
    | inl closed ↦ closed.1 (ap (λ (l : List ℕ). get_or l 0 0) counts.split)
    | inr other ↦ other.2 (ap (take 17) counts.split)
  ]
]
