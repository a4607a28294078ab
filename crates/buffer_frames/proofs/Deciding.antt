-- A log is gone through until an unset commit byte or a broken batch.
use Rattle.std.proofs.Common.{◌≡◌, ◌≢◌, ◌⊎◌, ℕ, zero, suc, ◌+◌, ◌<◌, ◌≤◌, ◌^◌, Bool, cond, List, [], ◌∷◌, ◌++◌, length}
use Rattle.std.proofs.Common.{take, drop, get_or, Result, Ok, Err, refl, sym, ap, subst, ◌∙◌, append_assoc, append-nil}
use Rattle.std.proofs.Common.{length-append, inl, inr, arith}
use Rattle.std.proofs.lemmas.Bool.{le-ltb}
use Rattle.std.proofs.lemmas.List.{drop_at, drop-drop, get_or_at, take-append-drop, length-drop, length-take-le}
use Rattle.wal.specs.Endian.{little_bytes, little_number}
use Rattle.disk_trait.specs.Files.{Files}
use Rattle.wal.specs.Batches.{header, blocks, front, AreBatches, HasBatches, IsUnborn}
use Rattle.wal.specs.Reading.{IsBroken}
use Rattle.page_types.specs.Fields.{number_at}
use Rattle.page_types.proofs.FieldReading.{IsBytes-take, IsBytes-drop, wide4, number_takes}
use Rattle.record_code.specs.Laws.{AreBytes}
use Rattle.core_state.specs.Log.{Log}
use Rattle.core_state.proofs.RunningOnes.{same_or_other, below_or_past}
use Rattle.buffer_frames.specs.NoStore.{IsStoreOf, IsNoStore}

-- where a log ends
data Ends (log : List ℕ) : Type 0 where
  unset : (batches : List (List ℕ)) → HasBatches log batches → Ends log
  broken : (read : List (List ℕ)) (rest : List ℕ) → AreBatches read → log ≡ front read ++ rest
      → IsBroken log (length (front read)) → Ends log

-- the batch after a set commit byte
record NextBatch (r : List ℕ) : Type 0 where
  batch : List ℕ
  rest : List ℕ
  some : 0 < length batch
  small : length batch < 256 ^ 4
  encoded : r ≡ little_bytes 4 (length batch) ++ (batch ++ rest)
  commit_byte : 0 < length rest

abbrev when_room : {A : Type 0} → Bool → A → Result A ℕ
when_room short x = cond short (Err 0) (Ok x)

-- a number of four bytes
four_bytes : (r : List ℕ) → AreBytes r → 4 ≤ length r → (n : ℕ) × (n < 256 ^ 4) × (take 4 r ≡ little_bytes 4 n)
unfolding number_at
four_bytes r bytes room =
    let four : List ℕ = take 4 r in
    let size : length four ≡ 4 = length-take-le 4 r room in
    let read : number_at 4 four ≡ Ok (little_number 4 four, drop 4 four) =
    ap (λ b. when_room b (little_number 4 four, drop 4 four)) (le-ltb (length four) 4 (omega (arith, size))) in
    let t = number_takes 4 wide4 four (little_number 4 four) (drop 4 four) (IsBytes-take 4 r bytes) read in
    (little_number 4 four, t.1, sym (wide4.back four size (IsBytes-take 4 r bytes)))

-- after a set commit byte is a batch, or a broken one
next_at : (log : List ℕ) (read : List (List ℕ)) (g : ℕ) (r : List ℕ) → AreBytes r → log ≡ front read ++ g ∷ r → g ≡ 1
    → IsBroken log (length (front read)) ⊎ NextBatch r
next_at log read g r bytes split is = elim (below_or_past (length log) (length (front read) + 5 + 1)) [
  | inl short ↦ inl (set_byte, inl short)
  | inr room ↦ with_length (four_bytes r bytes (omega (arith, room, long)))
]
  where
    set_byte : get_or log (length (front read)) 0 ≡ 1
    set_byte =
        ap (λ (l : List ℕ). get_or l (length (front read)) 0) split
        ∙ get_or_at (front read) g r 0 (length (front read)) refl ∙ is

    long : length log ≡ length (front read) + 1 + length r
    long = ap length split ∙ omega (arith, length-append (front read) (g ∷ r))

    behind : drop (length (front read) + 1) log ≡ r
    behind =
        sym (drop-drop 1 (length (front read)) log) ∙ ap (drop 1)
        (ap (drop (length (front read))) split ∙ drop_at (front read) (g ∷ r) (length (front read)) refl)

    with_length : (n : ℕ) × (n < 256 ^ 4) × (take 4 r ≡ little_bytes 4 n) → IsBroken log (length (front read))
        ⊎ NextBatch r
    with_length w = elim (same_or_other w.0 0) [
      | inl none ↦ inl (set_byte, inr (w.0, (w.1, ap (take 4) behind ∙ w.2), inl none))
      | inr some ↦ elim (below_or_past (length (front read) + 5 + w.0) (length log)) [
        | inr past ↦ inl (set_byte, inr (w.0, (w.1, ap (take 4) behind ∙ w.2), inr past))
        | inl within ↦
            let size : length (take w.0 (drop 4 r)) ≡ w.0 =
            length-take-le w.0 (drop 4 r) (omega (arith, within, long, length-drop 4 r)) in
            inr (record {
              batch = take w.0 (drop 4 r);
              rest = drop w.0 (drop 4 r);
              some = omega (arith, size, some);
              small = subst (λ k. k < 256 ^ 4) (sym size) w.1;
              encoded =
                  sym (take-append-drop 4 r) ∙ ap (λ (l : List ℕ). l ++ drop 4 r)
                  (w.2 ∙ ap (little_bytes 4) (sym size)) ∙ ap
                  (λ (l : List ℕ). little_bytes 4 (length (take w.0 (drop 4 r))) ++ l)
                  (sym (take-append-drop w.0 (drop 4 r)));
              commit_byte = omega (arith, within, long, length-drop 4 r, length-drop w.0 (drop 4 r));
            })
      ]
    ]

-- one batch more
blocks_push : (read : List (List ℕ)) (b t : List ℕ) → blocks
    read ++ (1 ∷ (little_bytes 4 (length b) ++ (b ++ t))) ≡ blocks (read ++ b ∷ []) ++ t
blocks_push [] b t =
    ap (λ (l : List ℕ). 1 ∷ l)
    (sym (append_assoc (little_bytes 4 (length b)) b t) ∙ ap (λ (l : List ℕ). l ++ t)
    (sym (append-nil (little_bytes 4 (length b) ++ b))))
blocks_push (x ∷ read) b t =
    append_assoc (1 ∷ (little_bytes 4 (length x) ++ x)) (blocks read) (1 ∷ (little_bytes 4 (length b) ++ (b ++ t)))
    ∙ ap (λ (l : List ℕ). (1 ∷ (little_bytes 4 (length x) ++ x)) ++ l) (blocks_push read b t)
    ∙ sym (append_assoc (1 ∷ (little_bytes 4 (length x) ++ x)) (blocks (read ++ b ∷ [])) t)

front_push : (read : List (List ℕ)) (b t : List ℕ) → front
    read ++ (1 ∷ (little_bytes 4 (length b) ++ (b ++ t))) ≡ front (read ++ b ∷ []) ++ t
front_push read b t =
    append_assoc header (blocks read) (1 ∷ (little_bytes 4 (length b) ++ (b ++ t)))
    ∙ ap (λ (l : List ℕ). header ++ l) (blocks_push read b t)
    ∙ sym (append_assoc header (blocks (read ++ b ∷ [])) t)

fit_push : (read : List (List ℕ)) (b : List ℕ) → AreBatches read → 0 < length b → length b < 256 ^ 4
    → AreBatches (read ++ b ∷ [])
fit_push [] b fit some small = (some, small, tt)
fit_push (x ∷ read) b fit some small = (fit.0, fit.1, fit_push read b fit.2 some small)

ends_at : (fuel : ℕ) (log : List ℕ) (read : List (List ℕ)) (rest : List ℕ) → AreBytes rest → AreBatches read
    → log ≡ front read ++ rest → 0 < length rest → length rest ≤ fuel → Ends log
ends_at zero log read rest bytes fit split some room = absurd (omega arith)
ends_at (suc fuel) log read [] bytes fit split some room = absurd (omega arith)
ends_at (suc fuel) log read (g ∷ r) bytes fit split some room = elim (same_or_other g 1) [
  | inr off ↦ unset read (record { commit_byte = g; rest = r; split = split; unset = off; fit = fit })
  | inl is ↦ elim (next_at log read g r (λ i. bytes (suc i)) split is) [
    | inl b ↦ broken read (g ∷ r) fit split b
    | inr next ↦
        let later : log ≡ front (read ++ next.batch ∷ []) ++ next.rest =
        split ∙ ap (λ (k : ℕ). front read ++ k ∷ r) is ∙ ap (λ (l : List ℕ). front read ++ 1 ∷ l) next.encoded
        ∙ front_push read next.batch next.rest in
        ends_at fuel log (read ++ next.batch ∷ []) next.rest (rest_bytes r next bytes)
        (fit_push read next.batch fit next.some next.small) later next.commit_byte
        (omega (
          arith,
          room,
          ap length next.encoded,
          length-append (little_bytes 4 (length next.batch))
              (next.batch ++ next.rest),
          length-append next.batch next.rest,
        ))
  ]
]
  where
    rest_bytes : (r : List ℕ) (next : NextBatch r) → AreBytes (g ∷ r) → AreBytes next.rest
    rest_bytes r next bytes =
        let k : ℕ = length (little_bytes 4 (length next.batch)) in
        let behind : drop (length next.batch) (drop k r) ≡ next.rest =
        ap (drop (length next.batch))
        (ap (drop k) next.encoded ∙ drop_at (little_bytes 4 (length next.batch)) (next.batch ++ next.rest) k refl)
        ∙ drop_at next.batch next.rest (length next.batch) refl in
        subst AreBytes behind (IsBytes-drop (length next.batch) (drop k r) (IsBytes-drop k r (λ i. bytes (suc i))))

-- equal lists of numbers
same_bytes : (xs ys : List ℕ) → (xs ≡ ys) ⊎ (xs ≢ ys)
same_bytes [] [] = inl refl
same_bytes [] (y ∷ ys) = inr (λ e. omega (arith, ap length e))
same_bytes (x ∷ xs) [] = inr (λ e. omega (arith, ap length e))
same_bytes (x ∷ xs) (y ∷ ys) = elim (same_or_other x y) [
  | inr off ↦ inr (λ e. off (ap (λ (l : List ℕ). get_or l 0 0) e))
  | inl same ↦ elim (same_bytes xs ys) [
    | inr off ↦ inr (λ e. off (ap (drop 1) e))
    | inl others ↦ inl (ap (λ (k : ℕ). k ∷ xs) same ∙ ap (λ (l : List ℕ). y ∷ l) others)
  ]
]

-- files of which no records count have a cause
module _ (files : Files) (none : (R : Log) → IsStoreOf files R → ⊥) where
  created : IsUnborn files.log → ⊥
  created unborn =
      none [] (record {
        counted = record {
          batches = [];
          opens = inl (unborn, refl);
          records = record { lists = []; each = tt; log_is = refl; numbered = tt };
        };
        applies = tt;
      })

  with_end : Ends files.log → IsNoStore files
  with_end (Ends.unset batches has) =
      IsNoStore.no_records batches (has.commit_byte ∷ has.rest) has.fit has.split (λ e. omega (arith, ap length e))
      (λ R records can. none R
      (record { counted = record { batches = batches; opens = inr has; records = records }; applies = can }))
  with_end (Ends.broken read rest fit split b) = IsNoStore.broken read rest fit split b

  with_header : AreBytes files.log → 18 ≤ length files.log → take 17 files.log ≡ header → IsNoStore files
  with_header bytes long is =
      with_end (ends_at (length files.log) files.log [] (drop 17 files.log) (IsBytes-drop 17 files.log bytes) tt
      (sym (take-append-drop 17 files.log) ∙ ap (λ (l : List ℕ). l ++ drop 17 files.log) is)
      (omega (arith, long, length-drop 17 files.log)) (omega (arith, length-drop 17 files.log)))

  pub no_store_there : AreBytes files.log → IsNoStore files
  no_store_there bytes = elim (below_or_past (length files.log) 18) [
    | inl short ↦ absurd (created (inl (omega (arith, short))))
    | inr long ↦ elim (same_or_other (get_or files.log 0 0) 1) [
      | inl set_byte ↦ elim (same_bytes (take 17 files.log) header) [
        | inl is ↦ with_header bytes long is
        | inr off ↦ IsNoStore.foreign (inr (set_byte, long, off))
      ]
      | inr closed ↦ elim (below_or_past 18 (length files.log)) [
        | inl longer ↦ IsNoStore.foreign (inl (longer, closed))
        | inr no_longer ↦ absurd (created (inr (omega (arith, long, no_longer), closed)))
      ]
    ]
  ]
