-- Records of a batch, one encoding after another.
use Rattle.std.proofs.Common.{◌≡◌, ℕ, ◌<◌, List, [], ◌∷◌, ◌++◌, length, drop, reverse, refl, sym, ap, subst, ◌∙◌}
use Rattle.std.proofs.Common.{append_assoc, append-nil, length-append, arith}
use Rattle.std.specs.List.{flat_map, AllByRecursion}
use Rattle.std.proofs.lemmas.List.{drop_at, reverse-append}
use Rattle.std.proofs.lemmas.List.Concat.{flat_map-append}
use Rattle.page_types.specs.Numbers.{u32_bytes}
use Rattle.page_types.proofs.Framing.{length-u32_bytes}
use Rattle.page_types.specs.Records.{record_rest, record_bytes, IsRecord}
use Rattle.page_types.specs.declared.record.Record.{Record}
use Rattle.record_code.specs.Reading.{record_at}
use Rattle.record_code.proofs.RecordReading.{encoding_is_read}
use Rattle.record_code.proofs.Steps.{ok_is}
use Rattle.core_state.specs.Log.{Log}
use Rattle.core_state.specs.Stores.{AreRecordsOf}
use Rattle.buffer_frames.specs.Counted.{AreRecordLists, AreNumbered, AreRecords}
use Rattle.buffer_frames.specs.Applied.{CanApply}

-- an encoding has a byte
pub some_bytes : (r : Record) → 0 < length (record_bytes r)
unfolding record_bytes
some_bytes r =
    omega (
      arith,
      length-append (u32_bytes (length (record_rest r))) (record_rest r),
      length-u32_bytes
          (length (record_rest r)),
    )

-- bytes begin with one record
pub one_record : (r s : Record) (t u : List ℕ) → IsRecord r → IsRecord s → record_bytes r ++ t ≡ record_bytes s ++ u
    → (r ≡ s) × (t ≡ u)
one_record r s t u is_r is_s same =
    let both = sym (encoding_is_read r t is_r) ∙ ap record_at same ∙ encoding_is_read s u is_s in
    let e : r ≡ s =
    ap (λ (x : Record × ℕ). x.0) (ok_is (r, length (record_bytes r)) (s, length (record_bytes s)) both) in (
      e,
      sym (drop_at (record_bytes r) t (length (record_bytes r)) refl) ∙ ap (drop (length (record_bytes r))) same
          ∙ drop_at (record_bytes s) u (length (record_bytes r)) (ap (λ (x : Record). length (record_bytes x)) (sym e)),
    )

-- the records that were read are the first of each batch
pub batch_split : (done batch : List Record) (rest : List ℕ) → AllByRecursion IsRecord done
    → AllByRecursion IsRecord batch
    → flat_map record_bytes done ++ rest ≡ flat_map record_bytes batch
    → (more : List Record) × (batch ≡ done ++ more) × AllByRecursion IsRecord more × (rest ≡ flat_map record_bytes more)
batch_split [] batch rest d w same = (batch, refl, w, same)
batch_split (x ∷ done) [] rest d w same =
    absurd (omega (
      arith,
      ap length same,
      length-append (record_bytes x ++ flat_map record_bytes done) rest,
      length-append (record_bytes x) (flat_map record_bytes done),
      some_bytes x,
    ))
batch_split (x ∷ done) (y ∷ batch) rest d w same =
    let one =
    one_record x y (flat_map record_bytes done ++ rest) (flat_map record_bytes batch) d.0 w.0
    (sym (append_assoc (record_bytes x) (flat_map record_bytes done) rest) ∙ same) in
    let later = batch_split done batch rest d.1 w.1 one.1 in
    (later.0, ap (λ (r : Record). r ∷ batch) (sym one.0) ∙ ap (λ (l : List Record). x ∷ l) later.1, later.2, later.3)

-- a batch is one list of records
pub one_batch : (b : List ℕ) (xs ys : List Record) → AreRecordsOf b xs → AreRecordsOf b ys → xs ≡ ys
one_batch b xs ys a c =
    let s = batch_split xs ys [] a.each c.each (append-nil (flat_map record_bytes xs) ∙ sym a.encoded ∙ c.encoded) in
    sym (s.1 ∙ ap (λ (l : List Record). xs ++ l) (none s.0 (sym s.3)) ∙ append-nil xs)
  where
    none : (more : List Record) → flat_map record_bytes more ≡ [] → more ≡ []
    none [] e = refl
    none (x ∷ more) e =
        absurd (omega (arith, ap length e, length-append (record_bytes x) (flat_map record_bytes more), some_bytes x))

pub one_lists : (batches : List (List ℕ)) (xs ys : List (List Record)) → AreRecordLists batches xs
    → AreRecordLists batches ys
    → xs ≡ ys
one_lists [] [] [] a c = refl
one_lists [] [] (y ∷ ys) a c = absurd c
one_lists [] (x ∷ xs) ys a c = absurd a
one_lists (b ∷ batches) [] ys a c = absurd a
one_lists (b ∷ batches) (x ∷ xs) [] a c = absurd c
one_lists (b ∷ batches) (x ∷ xs) (y ∷ ys) a c =
    ap (λ (r : List Record). r ∷ xs) (one_batch b x y a.0 c.0) ∙ ap (λ (l : List (List Record)). y ∷ l)
    (one_lists batches xs ys a.1 c.1)

-- the batches are the records of one log
pub one_log : (batches : List (List ℕ)) (R S : Log) → AreRecords batches R → AreRecords batches S → R ≡ S
one_log batches R S a c =
    a.log_is ∙ ap (λ (l : List (List Record)). reverse (flat_map (λ (rs : List Record). rs) l))
    (one_lists batches a.lists c.lists a.each c.each) ∙ sym c.log_is

-- one batch more
lists_push : (batches : List (List ℕ)) (lists : List (List Record)) (b : List ℕ) (batch : List Record)
    → AreRecordLists batches lists → AreRecordsOf b batch → AreRecordLists (batches ++ b ∷ []) (lists ++ batch ∷ [])
lists_push [] [] b batch a is = (is, tt)
lists_push [] (x ∷ lists) b batch a is = absurd a
lists_push (c ∷ batches) [] b batch a is = absurd a
lists_push (c ∷ batches) (x ∷ lists) b batch a is = (a.0, lists_push batches lists b batch a.1 is)

log_push : (lists : List (List Record)) (batch : List Record) → reverse
    (flat_map (λ (rs : List Record). rs) (lists ++ batch ∷ [])) ≡ reverse batch ++ reverse
    (flat_map (λ (rs : List Record). rs) lists)
log_push lists batch =
    ap reverse (flat_map-append (λ (rs : List Record). rs) lists (batch ∷ [])
    ∙ ap (λ (l : List Record). flat_map (λ (rs : List Record). rs) lists ++ l) (append-nil batch))
    ∙ reverse-append (flat_map (λ (rs : List Record). rs) lists) batch

pub records_push : (batches : List (List ℕ)) (R : Log) (b : List ℕ) (batch : List Record) → AreRecords batches R
    → AreRecordsOf b batch → AreNumbered (reverse batch ++ R) → AreRecords (batches ++ b ∷ []) (reverse batch ++ R)
records_push batches R b batch a is numbered = record {
  lists = a.lists ++ batch ∷ [];
  each = lists_push batches a.lists b batch a.each is;
  log_is = ap (λ (l : Log). reverse batch ++ l) a.log_is ∙ sym (log_push a.lists batch);
  numbered = numbered;
}

lists_split : (batches more : List (List ℕ)) (lists : List (List Record)) → AreRecordLists (batches ++ more) lists
    → (xs ys : List (List Record)) × (lists ≡ xs ++ ys) × AreRecordLists batches xs × AreRecordLists more ys
lists_split [] more lists a = ([], lists, refl, tt, a)
lists_split (b ∷ batches) more [] a = absurd a
lists_split (b ∷ batches) more (x ∷ lists) a =
    let later = lists_split batches more lists a.1 in
    (x ∷ later.0, later.1, ap (λ (l : List (List Record)). x ∷ l) later.2, (a.0, later.3), later.4)

pub numbered_tail : (xs R : Log) → AreNumbered (xs ++ R) → AreNumbered R
numbered_tail [] R a = a
numbered_tail (x ∷ xs) R a = numbered_tail xs R a.0

pub applies_tail : (file : List ℕ) (xs R : Log) → CanApply file (xs ++ R) → CanApply file R
applies_tail file [] R a = a
applies_tail file (x ∷ xs) R a = applies_tail file xs R a.0

-- without the last batches
pub records_front : (batches more : List (List ℕ)) (R : Log) → AreRecords (batches ++ more) R → (S late : Log)
    × AreRecords batches S × (R ≡ late ++ S)
records_front batches more R a =
    let s = lists_split batches more a.lists a.each in
    let S : Log = reverse (flat_map (λ (rs : List Record). rs) s.0) in
    let late : Log = reverse (flat_map (λ (rs : List Record). rs) s.1) in
    let e : R ≡ late ++ S =
    a.log_is ∙ ap (λ (l : List (List Record)). reverse (flat_map (λ (rs : List Record). rs) l)) s.2
    ∙ ap reverse (flat_map-append (λ (rs : List Record). rs) s.0 s.1)
    ∙ reverse-append (flat_map (λ (rs : List Record). rs) s.0) (flat_map (λ (rs : List Record). rs) s.1) in (
      S,
      late,
      record {
        lists = s.0;
        each = s.3;
        log_is = refl;
        numbered = numbered_tail late S
            (subst AreNumbered e a.numbered);
      },
      e,
    )

-- without the last batch, whose records are known
pub records_last : (batches : List (List ℕ)) (b : List ℕ) (R S : Log) → AreRecords (batches ++ b ∷ []) S
    → AreRecords batches R → (batch : List Record) × AreRecordsOf b batch × (S ≡ reverse batch ++ R)
records_last batches b R S a known =
    let s = lists_split batches (b ∷ []) a.lists a.each in
    last s.0 s.1 s.2 s.3 s.4
  where
    last : (xs ys : List (List Record)) → a.lists ≡ xs ++ ys → AreRecordLists batches xs → AreRecordLists (b ∷ []) ys
        → (batch : List Record) × AreRecordsOf b batch × (S ≡ reverse batch ++ R)
    last xs [] e front behind = absurd behind
    last xs (y ∷ []) e front behind = (
      y,
      behind.0,
      a.log_is ∙ ap (λ (l : List (List Record)). reverse (flat_map (λ (rs : List Record). rs) l)) e ∙ log_push xs y
          ∙ ap (λ (l : List (List Record)). reverse y ++ reverse (flat_map (λ (rs : List Record). rs) l))
          (one_lists batches xs known.lists front known.each) ∙ ap (λ (l : Log). reverse y ++ l) (sym known.log_is),
    )
    last xs (y ∷ (z ∷ ys)) e front behind = absurd behind.1
