-- A log that is read batch by batch.
use Rattle.std.proofs.Common.{◌≡◌, ◌≢◌, ℕ, ◌+◌, ◌<◌, false, List, [], ◌∷◌, ◌++◌, length, get_or, take, drop, refl, sym}
use Rattle.std.proofs.Common.{ap, ◌∙◌, arith, length-append, take-append-drop}
use Rattle.std.proofs.lemmas.List.{drop_at, get_or_at}
use Rattle.std.proofs.Math.Seq.{drop-cons}
use Rattle.byteorder.specs.Endian.{little_bytes}
use Rattle.wal.specs.Batches.{header, sealed, front, HasBatches}
use Rattle.disk_trait.specs.declared.device.Disk.{Ghosts as Disk}
use Rattle.wal.specs.Settled.{LogIs, Settled}
use Rattle.wal.specs.Reading.{IsOnlyRead, IsReading, IsLengthAt}
use Rattle.wal.specs.Inner.CommitBytes.{IsBatchAt}
use Rattle.wal.specs.declared.log.Wal.{Wal}
use Rattle.wal.proofs.Keeping.{still_is}
use Rattle.wal.proofs.Lists.{whole_batch}
use Rattle.wal.proofs.Crash.{fit_push, front_push, length-front_push}

-- at the first batch
pub begun : (wal : Wal) (log : List ℕ) → wal.ended ≡ false → wal.size ≡ length log → wal.end ≡ 17 → take 17 log ≡ header
    → IsReading wal log []
begun wal log on size place is = record {
  on = on;
  size = size;
  rest = drop 17 log;
  split = sym (take-append-drop 17 log) ∙ ap (λ (l : List ℕ). l ++ drop 17 log) is;
  place = place;
  fit = tt;
}

-- at an unset commit byte
commit_byte_there : (front rest log : List ℕ) (end : ℕ) → log ≡ front ++ rest → length front ≡ end → end < length log
    → (g : ℕ) × (r : List ℕ) × (rest ≡ g ∷ r)
commit_byte_there front [] log end is ends inside = absurd (omega (arith, ap length is, length-append front []))
commit_byte_there front (g ∷ r) log end is ends inside = (g, r, refl)

pub ended : (wal : Wal) (log : List ℕ) (batches : List (List ℕ)) → IsReading wal log batches → wal.end < wal.size
    → get_or log wal.end 0 ≢ 1 → HasBatches log batches
ended wal log batches reading inside unset =
    let there = commit_byte_there (front batches) reading.rest log wal.end reading.split (sym reading.place)
    (omega (arith, reading.size)) in
    let split : log ≡ front batches ++ there.0 ∷ there.1 =
    reading.split ∙ ap (λ (l : List ℕ). front batches ++ l) there.2 in
    let commit_byte : get_or log wal.end 0 ≡ there.0 = ap (λ (l : List ℕ). get_or l wal.end 0) split
    ∙ get_or_at (front batches) there.0 there.1 0 wal.end (sym reading.place) in
    record {
      commit_byte = there.0;
      rest = there.1;
      split = split;
      unset = λ e. unset (commit_byte ∙ e);
      fit = reading.fit;
    }

-- where a crash leaves what is read
pub settled : {D : Type 0} (device : Disk D) (old new : D) → device.tells → IsOnlyRead device old new
    → (log : List ℕ) (batches : List (List ℕ)) (end : ℕ) → HasBatches log batches → end ≡ length (front batches)
    → LogIs device log old → Settled device batches end new
settled device old new told read log batches end counts place was =
    let is = still_is device old new told read log was in
    record {
      commit_byte = counts.commit_byte;
      rest = counts.rest;
      log = record { now = is.now ∙ counts.split; durable = λ c left. is.durable c left ∙ counts.split };
      unset = counts.unset;
      fit = counts.fit;
      ends = sym place;
    }

-- after one batch more
pub passed : (wal wal' : Wal) (log : List ℕ) (batches : List (List ℕ)) (n : ℕ) (batch : List ℕ)
    → IsReading wal log batches → wal'.ended ≡ false → wal'.size ≡ wal.size → wal'.end ≡ wal.end + (5 + n)
    → get_or log wal.end 0 ≡ 1 → IsLengthAt log wal.end n → 0 < n → wal.end + 5 + n < wal.size
    → batch ≡ take n (drop (wal.end + 5) log) → length batch ≡ n → IsReading wal' log (batches ++ batch ∷ [])
passed wal wal' log batches n batch reading on size end commit_byte has some inside is long = record {
  on = on;
  size = size ∙ reading.size;
  rest = drop (5 + length batch) reading.rest;
  split =
      reading.split ∙ ap (λ (l : List ℕ). front batches ++ l) (sym (take-append-drop (5 + length batch) reading.rest)
      ∙ ap (λ (l : List ℕ). l ++ drop (5 + length batch) reading.rest) here)
      ∙ front_push batches batch (drop (5 + length batch) reading.rest);
  place = omega (arith, length-front_push batches batch, reading.place, end, long);
  fit = fit_push batches batch reading.fit (omega (arith, long)) (omega (arith, long, has.0));
}
  where
    first : take 1 (drop wal.end log) ≡ 1 ∷ []
    first = ap (take 1) (drop-cons log wal.end 0 (omega (arith, reading.size))) ∙ ap (λ (k : ℕ). k ∷ []) commit_byte

    there : IsBatchAt log wal.end batch
    there =
        whole_batch log wal.end n (1 ∷ []) (little_bytes 4 n) batch refl (sym first) refl (sym has.1) is long some has.0

    here : take (5 + length batch) reading.rest ≡ 1 ∷ sealed batch
    here = ap (take (5 + length batch))
        (sym (ap (drop wal.end) reading.split ∙ drop_at (front batches) reading.rest wal.end (sym reading.place)))
        ∙ there.bytes
