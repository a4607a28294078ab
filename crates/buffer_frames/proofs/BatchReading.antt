-- A batch of records that is read, one after another.
use Rattle.std.proofs.Common.{◌≡◌, ◌<◌, ℕ, suc, List, [], ◌∷◌, ◌++◌, length, drop, reverse, refl, sym, ap, subst, ◌∙◌}
use Rattle.std.proofs.Common.{append_assoc, append-nil, arith}
use Rattle.std.specs.List.{flat_map, AllByRecursion}
use Rattle.std.proofs.lemmas.List.{reverse-append}
use Rattle.std.proofs.lemmas.List.Concat.{flat_map-append}
use Rattle.disk_trait.specs.declared.device.Disk.{Ghosts as Disk}
use Rattle.page_types.specs.Records.{record_bytes, IsRecord}
use Rattle.page_types.specs.declared.record.Record.{Record}
use Rattle.core_state.specs.Log.{Log}
use Rattle.core_state.specs.States.{StateValue}
use Rattle.core_state.specs.Stores.{AreRecordsOf}
use Rattle.buffer_frames.specs.Applied.{CanApply}
use Rattle.buffer_frames.specs.Counted.{AreNumbered}
use Rattle.buffer_frames.specs.Inner.Reads.{IsRead, ReadsOne, ReadsBatch}
use Rattle.buffer_frames.specs.declared.page_map.PageMap.{PageMap}
use Rattle.buffer_frames.proofs.BatchRecords.{batch_split, numbered_tail, applies_tail}

-- the records that were read of these bytes, and what is left of them
pub record ReadsSoFar {D : Type 0} (device : Disk D) (disk : D) (file : List ℕ) (pages xid_limit : ℕ)
    (state : StateValue) (map : PageMap) (R : Log) (bytes rest : List ℕ) : Type 0 where
  pub done : List Record
  pub each : AllByRecursion IsRecord done
  pub split : bytes ≡ flat_map record_bytes done ++ rest
  pub is_read : IsRead device disk file pages xid_limit state map (reverse done ++ R)

module _ {D : Type 0} (device : Disk D) (file : List ℕ) (pages xid_limit : ℕ) where
  pub none_so_far : (disk : D) (s : StateValue) (map : PageMap) (R : Log) (bytes : List ℕ)
      → IsRead device disk file pages xid_limit s map R → ReadsSoFar device disk file pages xid_limit s map R bytes
      bytes
  none_so_far disk s map R bytes read = record { done = []; each = tt; split = refl; is_read = read }

  each_push : (xs : List Record) (x : Record) → AllByRecursion IsRecord xs → IsRecord x
      → AllByRecursion IsRecord (xs ++ x ∷ [])
  each_push [] x all is = (is, tt)
  each_push (y ∷ xs) x all is = (all.0, each_push xs x all.1 is)

  -- one record more
  pub more_so_far : (disk disk' : D) (s s' : StateValue) (map map' : PageMap) (R : Log) (bytes rest : List ℕ) (n : ℕ)
      → (so_far : ReadsSoFar device disk file pages xid_limit s map R bytes rest)
      → ReadsOne device disk' file pages xid_limit s' map' (reverse so_far.done ++ R) rest n
      → ReadsSoFar device disk' file pages xid_limit s' map' R bytes (drop n rest)
  more_so_far disk disk' s s' map map' R bytes rest n so_far one = record {
    done = so_far.done ++ one.first ∷ [];
    each = each_push so_far.done one.first so_far.each one.is_read.each.0;
    split = so_far.split ∙ ap (λ (l : List ℕ). flat_map record_bytes so_far.done ++ l) one.encoded
        ∙ sym (append_assoc (flat_map record_bytes so_far.done) (record_bytes one.first) (drop n rest))
        ∙ ap (λ (l : List ℕ). l ++ drop n rest)
        (ap (λ (l : List ℕ). flat_map record_bytes so_far.done ++ l) (sym (append-nil (record_bytes one.first)))
        ∙ sym (flat_map-append record_bytes so_far.done (one.first ∷ [])));
    is_read =
        subst (λ (l : Log). IsRead device disk' file pages xid_limit s' map' (l ++ R))
        (sym (reverse-append so_far.done (one.first ∷ []))) one.is_read;
  }

  -- all were read
  pub all_so_far : (disk : D) (s : StateValue) (map : PageMap) (R : Log) (bytes rest : List ℕ) → rest ≡ []
      → ReadsSoFar device disk file pages xid_limit s map R bytes rest
      → ReadsBatch device disk file pages xid_limit s map R bytes
  all_so_far disk s map R bytes rest none so_far = record {
    records = so_far.done;
    encoded =
        record {
          each = so_far.each;
          encoded = so_far.split ∙ ap
              (λ (l : List ℕ). flat_map record_bytes so_far.done ++ l) none
              ∙ append-nil (flat_map record_bytes so_far.done);
        };
    is_read = so_far.is_read;
  }

-- the next record of a batch
pub record GoesOn (file : List ℕ) (R : Log) (rest : List ℕ) : Type 0 where
  pub next : Record
  pub behind : List ℕ
  pub is : IsRecord next
  pub encoded : rest ≡ record_bytes next ++ behind
  pub number : next.number ≡ suc (length R)
  pub can : CanApply file (next ∷ R)

pub batch_goes_on : (file : List ℕ) (R : Log) (bytes rest : List ℕ) (done batch : List Record)
    → AllByRecursion IsRecord done → bytes ≡ flat_map record_bytes done ++ rest → 0 < length rest
    → AreRecordsOf bytes batch
    → AreNumbered (reverse batch ++ R)
    → CanApply file (reverse batch ++ R) → GoesOn file (reverse done ++ R) rest
batch_goes_on file R bytes rest done batch each split some is numbered can =
    let s = batch_split done batch rest each is.each (sym split ∙ is.encoded) in
    next s.0 s.1 s.2 s.3
  where
    next : (more : List Record) → batch ≡ done ++ more → AllByRecursion IsRecord more
        → rest ≡ flat_map record_bytes more → GoesOn file (reverse done ++ R) rest
    next [] e all none = absurd (omega (arith, ap length none))
    next (r ∷ more) e all encoded =
        let same : reverse batch ++ R ≡ reverse more ++ (r ∷ (reverse done ++ R)) =
        ap (λ (l : List Record). reverse l ++ R) e ∙ ap (λ (l : List Record). l ++ R)
        (reverse-append done (r ∷ more) ∙ ap (λ (l : List Record). l ++ reverse done)
        (reverse-append (r ∷ []) more))
        ∙ append_assoc (reverse more ++ r ∷ []) (reverse done) R
        ∙ append_assoc (reverse more) (r ∷ []) (reverse done ++ R) in
        let front : AreNumbered (r ∷ (reverse done ++ R)) =
        numbered_tail (reverse more) (r ∷ (reverse done ++ R)) (subst AreNumbered same numbered) in
        record {
          next = r;
          behind = flat_map record_bytes more;
          is = all.0;
          encoded = encoded;
          number = front.1;
          can = applies_tail file (reverse more) (r ∷ (reverse done ++ R)) (subst (CanApply file) same can);
        }
