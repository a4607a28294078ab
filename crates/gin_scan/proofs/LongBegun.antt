-- The next long vector begins, or the scan ends.
use Rattle.std.proofs.Common.{◌≡◌, ◌≢◌, ℕ, suc, ◌+◌, ◌-◌, ◌*◌, ◌^◌, ◌<◌, ◌≤◌, List, [], length, take, Some, refl, sym}
use Rattle.std.proofs.Common.{ap, subst}
use Rattle.std.proofs.Common.{◌∙◌, arith}
use Rattle.std.proofs.lemmas.List.{take_all, drop_all}
use Rattle.std.proofs.lemmas.Nat.{mul-le}
use Rattle.std.proofs.lemmas.Option.{slice_get_within}
use Rattle.page_types.specs.declared.page.Body.TheVariants as body
use Rattle.core_state.specs.Log.{Log, Pages, Shows, cut}
use Rattle.core_state.specs.Legal.{Pin}
use Rattle.gin_opclass.specs.Class.{Meaning}
use Rattle.gin_scan.specs.Reading.{ReadsParts}
use Rattle.gin_scan.specs.Taking.{AreTaken, first_items}
use Rattle.gin_scan.specs.Held.{ArePages}
use Rattle.gin_scan.specs.Scanning.{IsScan, HasJudged, HasTaken, HadTaken, IsScanOf, steps_left}
use Rattle.gin_scan.specs.Inner.Parts.{BeginsLong}
use Rattle.gin_scan.specs.declared.scan_core.ScanCore.{ScanCore}
use Rattle.gin_scan.specs.declared.stage.LongVector.{LongVector}
use Rattle.gin_scan.specs.declared.stage.Stage.TheVariants as stage
use Rattle.gin_scan.proofs.HeldPages.{fewer_pages}
use Rattle.gin_scan.proofs.NamesPut.{order_taken}
use Rattle.gin_scan.proofs.StepsTaken.{judged_as}

one_some : {A : Type 0} (a b : A) → Some a ≡ Some b → a ≡ b
one_some a b e = cc

module _ {Q : Type 0} (M : Meaning Q) (q : Q) (R : Log) (pin : Pin) where
  -- What is known before it: what was judged and taken, but for the vectors that wait from this number on.
  pub record IsBefore (s : ScanCore) (at : ℕ) : Type 0 where
    pub from : ℕ
    pub since : pin.length ≤ from
    pub within : from ≤ length R
    pub below : (P : Pages) (p : ℕ) → Shows (cut from R) P → (P p).body ≢ body.Free → p < s.extent
    pub judged : HasJudged M q R pin from s
    pub taken : HasTaken M q R pin s (length s.kept.items) at
    pub heads_read : s.heads_read ≤ length s.kept.items
    pub pages : ArePages R from judged.walk (first_items (length s.kept.items) s.kept.items) (take at s.long.items)
        s.pages_read
    pub had : HadTaken M q R pin (first_items (length s.kept.items) s.kept.items) s.long.items

  reads_none : (from : ℕ) (s : ScanCore) (l : LongVector) (page left : ℕ) → l.first ≡ page → s.bytes.items ≡ []
      → left ≡ s.extent → ReadsParts R from s l page left
  reads_none from s l page left first none all = record {
    pages = [];
    leads = first;
    reads = tt;
    bytes = none;
    left_is = omega (arith, all);
  }

  pub begun_long : (s s' : ScanCore) (at : ℕ) → IsBefore s at → BeginsLong s at s' → IsScanOf M q R pin s'
  begun_long s s' at b (BeginsLong.next l there small none same) =
      let z : ScanCore = record s { bytes = s'.bytes; stage = stage.Parts at l.first s.extent } in
      subst (λ (x : ScanCore). IsScanOf M q R pin x) (sym same) (record {
        from = b.from;
        since = b.since;
        within = b.within;
        below = b.below;
        read = (
          judged_as M q R pin b.from s z refl b.judged,
          b.taken,
          (λ m e. reads_none b.from z m l.first s.extent
              (ap (λ (v : LongVector). v.first) (one_some m l (sym e ∙ there))) none refl),
          b.heads_read,
          fewer_pages R b.from b.judged.walk (first_items (length s.kept.items) s.kept.items) (take at s.long.items)
              s.pages_read (s.pages_read - (s.extent - s.extent)) (omega arith) b.pages,
          b.had,
        );
      })
  begun_long s s' at b (BeginsLong.end past order up same) =
      let z : ScanCore = record s { names = s'.names; stage = stage.Done } in
      subst (λ (x : ScanCore). IsScanOf M q R pin x) (sym same) (record {
        from = b.from;
        since = b.since;
        within = b.within;
        below = b.below;
        read = (
          judged_as M q R pin b.from s z refl b.judged,
          (λ H h. subst (λ (ls : List LongVector). AreTaken (M.satisfies q) R pin H
              (first_items (length s.kept.items) s.kept.items) s'.names.items ls)
              (sym (drop_all (length s.long.items) s.long.items (omega arith)))
              (order_taken (M.satisfies q) R pin H (first_items (length s.kept.items) s.kept.items) s.names.items
              s'.names.items order (subst (λ (ls : List LongVector). AreTaken (M.satisfies q) R pin H
              (first_items (length s.kept.items) s.kept.items) s.names.items ls)
              (drop_all at s.long.items past) (b.taken H h)))),
          b.heads_read,
          up,
          subst (λ (ls : List LongVector). ArePages R b.from b.judged.walk
              (first_items (length s.kept.items) s.kept.items) ls s.pages_read) (take_all at s.long.items past) b.pages,
          b.had,
        );
      })

-- it is a scan
pub long_scan : (s s' : ScanCore) (at : ℕ) → IsScan s → BeginsLong s at s' → IsScan s'
long_scan s s' at is (BeginsLong.next l there small none same) =
    subst IsScan (sym same) (record {
      ordered = is.ordered;
      pending = is.pending;
      main = is.main;
      within = slice_get_within s.long.items at l there;
    })
long_scan s s' at is (BeginsLong.end past order up same) =
    subst IsScan (sym same) (record { ordered = is.ordered; pending = is.pending; main = is.main; within = tt })

-- for the same keys and snapshot
pub long_keys : (s s' : ScanCore) (at : ℕ) → BeginsLong s at s' → s'.keys ≡ s.keys
long_keys s s' at (BeginsLong.next l there small none same) = ap (λ (z : ScanCore). z.keys) same
long_keys s s' at (BeginsLong.end past order up same) = ap (λ (z : ScanCore). z.keys) same

pub long_snapshot : (s s' : ScanCore) (at : ℕ) → BeginsLong s at s' → s'.snapshot ≡ s.snapshot
long_snapshot s s' at (BeginsLong.next l there small none same) = ap (λ (z : ScanCore). z.snapshot) same
long_snapshot s s' at (BeginsLong.end past order up same) = ap (λ (z : ScanCore). z.snapshot) same

pub long_took : (s s' : ScanCore) (at : ℕ) → BeginsLong s at s' → s'.took_pin ≡ s.took_pin
long_took s s' at (BeginsLong.next l there small none same) = ap (λ (z : ScanCore). z.took_pin) same
long_took s s' at (BeginsLong.end past order up same) = ap (λ (z : ScanCore). z.took_pin) same

-- ── the bound on steps ──

-- a vector's pages are fewer than 2 ^ 33
later : (n a b left extent big great : ℕ) → a < b → b ≤ n → extent < big
    → 1 * great + ((n - b) * big + extent) < 1 * great + ((n - a) * big + left)
later n a b left extent big great less within small =
    let more : suc (n - b) * big ≤ (n - a) * big = mul-le (suc (n - b)) big (n - a) big (omega (arith, less, within))
    (omega arith) in
    omega (arith, more, small)

-- and those of all vectors than 2 ^ 200
small_all : (n extent : ℕ) → n < 2 ^ 64 → extent < 2 ^ 32 → n * 2 ^ 33 + extent < 2 ^ 200
small_all n extent few small =
    let most : n * 2 ^ 33 ≤ 2 ^ 64 * 2 ^ 33 = mul-le n (2 ^ 33) (2 ^ 64) (2 ^ 33) (omega (arith, few)) (omega arith) in
    omega (arith, most, small)

end_left : (s s' : ScanCore) (at : ℕ) → s' ≡ record s { names = s'.names; stage = stage.Done } → steps_left s' ≡ 0
end_left s s' at same = ap steps_left same

next_left : (s s' : ScanCore) (at page : ℕ) → s' ≡ record s { bytes = s'.bytes; stage = stage.Parts at page s.extent }
    → steps_left s' ≡ 1 * 2 ^ 200 + ((length s.long.items - at) * 2 ^ 33 + s.extent)
next_left s s' at page same = ap steps_left same

-- the next vector has a lower bound
pub lower_next : (s s' : ScanCore) (at next left page : ℕ) → at < next → BeginsLong s next s'
    → steps_left s' < 1 * 2 ^ 200 + ((length s.long.items - at) * 2 ^ 33 + left)
lower_next s s' at next left page less (BeginsLong.next l there small none same) =
    subst (λ (n : ℕ). n < 1 * 2 ^ 200 + ((length s.long.items - at) * 2 ^ 33 + left))
    (sym (next_left s s' next l.first same))
    (later (length s.long.items) at next left s.extent (2 ^ 33) (2 ^ 200) less
    (let z = slice_get_within s.long.items next l there in omega (arith, z)) (omega (arith, small)))
lower_next s s' at next left page less (BeginsLong.end past order up same) =
    subst (λ (n : ℕ). n < 1 * 2 ^ 200 + ((length s.long.items - at) * 2 ^ 33 + left))
    (sym (end_left s s' next same)) (omega arith)

-- so has the first
pub lower_first : (s s' : ScanCore) (kept : ℕ) → BeginsLong s 0 s' → steps_left s' < 2 * 2 ^ 200 + kept
lower_first s s' kept (BeginsLong.next l there small none same) =
    subst (λ (n : ℕ). n < 2 * 2 ^ 200 + kept) (sym (next_left s s' 0 l.first same))
    (omega (arith, small_all (length s.long.items) s.extent (omega (arith, s.long.ok, s.long.small)) small))
lower_first s s' kept (BeginsLong.end past order up same) =
    subst (λ (n : ℕ). n < 2 * 2 ^ 200 + kept) (sym (end_left s s' 0 same)) (omega arith)
