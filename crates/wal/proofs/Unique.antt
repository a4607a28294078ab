-- A log stands for one list of batches.
use Rattle.std.proofs.Common.{◌≡◌, ◌≢◌, ℕ, List, [], ◌∷◌, ◌++◌, length, take, drop, get_or, refl, sym, ap, ◌∙◌, ◌+◌}
use Rattle.std.proofs.Common.{◌≤◌, append_assoc, length-append, arith, inl, inr, ⊎_elim}
use Rattle.std.proofs.lemmas.List.{take_at, drop_at}
use Rattle.byteorder.specs.Endian.{little_bytes}
use Rattle.wal.specs.Batches.{header, blocks, front, AreBatches, HasBatches, IsUnborn, Opens}
use Rattle.wal.proofs.Lists.{same_length}

blocks_unique : (xs ys : List (List ℕ)) (g g' : ℕ) (r r' : List ℕ) → AreBatches xs → AreBatches ys → g ≢ 1 → g' ≢ 1
    → blocks xs ++ g ∷ r ≡ blocks ys ++ g' ∷ r' → xs ≡ ys
blocks_unique [] [] g g' r r' fx fy unset unset' same = refl
blocks_unique [] (y ∷ ys) g g' r r' fx fy unset unset' same = absurd (unset (ap (λ (l : List ℕ). get_or l 0 0) same))
blocks_unique (x ∷ xs) [] g g' r r' fx fy unset unset' same =
    absurd (unset' (sym (ap (λ (l : List ℕ). get_or l 0 0) same)))
blocks_unique (x ∷ xs) (y ∷ ys) g g' r r' fx fy unset unset' same =
    let body : x ++ (blocks xs ++ g ∷ r) ≡ y ++ (blocks ys ++ g' ∷ r') =
    sym (behind x xs g r) ∙ ap (drop 5) same ∙ behind y ys g' r' in
    let four : little_bytes 4 (length x) ≡ little_bytes 4 (length y) = ap (λ (l : List ℕ). take 4 (drop 1 l)) same in
    let long : length x ≡ length y = same_length (length x) (length y) fx.1 fy.1 four in
    let first : x ≡ y = sym (take_at x (blocks xs ++ g ∷ r) (length x) refl) ∙ ap (take (length x)) body
    ∙ take_at y (blocks ys ++ g' ∷ r') (length x) (sym long) in
    let tail : blocks xs ++ g ∷ r ≡ blocks ys ++ g' ∷ r' = sym (drop_at x (blocks xs ++ g ∷ r) (length x) refl)
    ∙ ap (drop (length x)) body ∙ drop_at y (blocks ys ++ g' ∷ r') (length x) (sym long) in
    ap (λ (l : List ℕ). l ∷ xs) first
    ∙ ap (λ (l : List (List ℕ)). y ∷ l) (blocks_unique xs ys g g' r r' fx.2 fy.2 unset unset' tail)
  where
    behind : (b : List ℕ) (bs : List (List ℕ)) (k : ℕ) (l : List ℕ)
        → drop 5 (blocks (b ∷ bs) ++ k ∷ l) ≡ b ++ (blocks bs ++ k ∷ l)
    behind b bs k l = append_assoc b (blocks bs) (k ∷ l)

pub unique : (bytes : List ℕ) (xs ys : List (List ℕ)) → HasBatches bytes xs → HasBatches bytes ys → xs ≡ ys
unique bytes xs ys a b = blocks_unique xs ys a.commit_byte b.commit_byte a.rest b.rest a.fit b.fit a.unset b.unset
    (ap (drop 17) (sym (append_assoc header (blocks xs) (a.commit_byte ∷ a.rest)) ∙ sym a.split ∙ b.split
    ∙ append_assoc header (blocks ys) (b.commit_byte ∷ b.rest)))

-- a log whose creation was cut short has no batch
unborn_counts : (bytes : List ℕ) (xs : List (List ℕ)) → IsUnborn bytes → HasBatches bytes xs → ⊥
unborn_counts bytes xs unborn counts =
    let long : length bytes ≡ 17 + length (blocks xs) + 1 + length counts.rest = ap length counts.split ∙ omega
    (arith, length-append (front xs) (counts.commit_byte ∷ counts.rest), length-append header (blocks xs)) in
    let first : get_or bytes 0 0 ≡ 1 = ap (λ (l : List ℕ). get_or l 0 0) counts.split in
    ⊎_elim (λ (short : length bytes ≤ 17). omega arith)
    (λ (cut : (length bytes ≡ 18) × (get_or bytes 0 0 ≢ 1)). cut.1 first) unborn

pub opens_unique : (bytes : List ℕ) (xs ys : List (List ℕ)) → Opens bytes xs → Opens bytes ys → xs ≡ ys
opens_unique bytes xs ys a b = elim a [
  | inl none ↦ elim b [
    | inl no_more ↦ none.1 ∙ sym no_more.1
    | inr counts ↦ absurd (unborn_counts bytes ys none.0 counts)
  ]
  | inr counts ↦ elim b [
    | inl none ↦ absurd (unborn_counts bytes xs none.0 counts)
    | inr both ↦ unique bytes xs ys counts both
  ]
]
