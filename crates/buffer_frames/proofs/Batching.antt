-- One batch more of whole records.
use Rattle.std.proofs.Common.{◌≡◌, ℕ, ◌+◌, List, [], ◌∷◌, ◌++◌, length, arith, refl, sym, ◌∙◌, ap, subst, length-append}
use Rattle.std.specs.Prelude.{reverse, flat_map}
use Rattle.std.proofs.lemmas.List.{reverse-append, reverse-reverse, append-nil}
use Rattle.std.proofs.lemmas.Grind.{flat_map-append}
use Rattle.page_types.specs.Numbers.{u32_bytes}
use Rattle.page_types.specs.Records.{record_bytes, record_rest}
use Rattle.page_types.specs.declared.record.Record.{Record}
use Rattle.page_types.proofs.Framing.{length-u32_bytes}
use Rattle.core_state.specs.Log.{Log}
use Rattle.core_state.specs.Stores.{AreRecordsOf}
use Rattle.wal.specs.Waiting.{with_waiting}
use Rattle.buffer_frames.specs.Counted.{AreRecordLists, AreNumbered, AreRecords}

-- a batch more
lists_more : (batches : List (List ℕ)) (lists : List (List Record)) (w : List ℕ) (rs : List Record)
    → AreRecordLists batches lists → AreRecordsOf w rs → AreRecordLists (batches ++ w ∷ []) (lists ++ rs ∷ [])
lists_more [] [] w rs all batch = (batch, tt)
lists_more [] (x ∷ lists) w rs all batch = elim all [ ]
lists_more (b ∷ batches) [] w rs all batch = elim all [ ]
lists_more (b ∷ batches) (x ∷ lists) w rs all batch = (all.0, lists_more batches lists w rs all.1 batch)

-- a batch more, with the records that come next
pub records_more : (batches : List (List ℕ)) (R waits : Log) (w : List ℕ) → AreRecords batches R
    → AreRecordsOf w (reverse waits) → AreNumbered (waits ++ R) → AreRecords (batches ++ w ∷ []) (waits ++ R)
records_more batches R waits w have batch numbered = record {
  lists = have.lists ++ reverse waits ∷ [];
  each = lists_more batches have.lists w (reverse waits) have.each batch;
  log_is =
      let id : List Record → List Record = λ (rs : List Record). rs in
      let split : flat_map id (have.lists ++ reverse waits ∷ []) ≡ flat_map id have.lists ++ reverse waits =
      flat_map-append id have.lists (reverse waits ∷ [])
      ∙ ap (λ (l : List Record). flat_map id have.lists ++ l) (append-nil (reverse waits)) in
      sym (ap (λ (l : List Record). reverse l) split ∙ reverse-append (flat_map id have.lists) (reverse waits)
      ∙ ap (λ (l : List Record). l ++ reverse (flat_map id have.lists)) (reverse-reverse waits)
      ∙ ap (λ (l : List Record). waits ++ l) (sym have.log_is));
  numbered = numbered;
}

-- a record has some bytes
some_bytes : (r : Record) → length (record_bytes r) ≡ 4 + length (record_rest r)
unfolding record_bytes
some_bytes r = length-append (u32_bytes (length (record_rest r))) (record_rest r)
    ∙ ap (λ (n : ℕ). n + length (record_rest r)) (length-u32_bytes (length (record_rest r)))

-- no bytes are a batch of no records alone
pub no_batch : (rs : List Record) → AreRecordsOf [] rs → rs ≡ []
no_batch [] batch = refl
no_batch (r ∷ rs) batch = absurd
    (omega (arith, ap length batch.encoded, length-append (record_bytes r) (flat_map record_bytes rs), some_bytes r))

-- what waits is a batch more, if there is something
pub records_with : (batches : List (List ℕ)) (R waits : Log) (w : List ℕ) → AreRecords batches R
    → AreRecordsOf w (reverse waits) → AreNumbered (waits ++ R) → AreRecords (with_waiting batches w) (waits ++ R)
records_with batches R waits [] have batch numbered =
    let none : waits ≡ [] =
    sym (reverse-reverse waits) ∙ ap (λ (l : List Record). reverse l) (no_batch (reverse waits) batch) in
    subst (λ (l : Log). AreRecords batches (l ++ R)) (sym none) have
records_with batches R waits (x ∷ w) have batch numbered = records_more batches R waits (x ∷ w) have batch numbered
