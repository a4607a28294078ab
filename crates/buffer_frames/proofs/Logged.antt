-- A record that waits after those that did.
use Rattle.std.proofs.Common.{◌≡◌, ◌⊎◌, inl, inr, suc, ◌<◌, ◌≤◌, ◌+◌, ◌-◌, ◌^◌, ℕ, Bool, true, false, cond, List, []}
use Rattle.std.proofs.Common.{◌∷◌, ◌++◌, length, refl, sym, ap, subst, ◌∙◌, arith, append_assoc, lit<}
use Rattle.std.specs.Prelude.{Option, Some, None, IfSome, Result, Ok, Err, OnOk, OnErr, IfOk, reverse, flat_map}
use Rattle.std.specs.List.{AllByRecursion}
use Rattle.std.proofs.lemmas.List.{reverse-append, append-nil}
use Rattle.std.proofs.lemmas.Grind.{flat_map-append}
use Rattle.disk_trait.specs.declared.device.Disk.{Ghosts as Disk}
use Rattle.disk_trait.specs.Runs.{LeavesOnly}
use Rattle.wal.specs.Settled.{Settled}
use Rattle.wal.specs.Waiting.{waiting, end_of, limit_of, end_then, waiting_then, length_with}
use Rattle.wal.specs.declared.sizes.TheConstants.{FRAME_BYTES}
use Rattle.page_types.specs.Records.{record_bytes, IsRecord}
use Rattle.page_types.specs.declared.record.Record.{Record}
use Rattle.core_state.specs.Log.{Log, In, xid_bound}
use Rattle.core_state.specs.Allowed.{Step}
use Rattle.core_state.specs.States.{StateValue, state_of, step_of}
use Rattle.core_state.specs.Steady.{IsMaintenance}
use Rattle.core_state.specs.Stores.{AreRecordsOf}
use Rattle.core_state.proofs.Bounds.{step_marks, state_bounds}
use Rattle.buffer_frames.specs.Counted.{AreNumbered}
use Rattle.buffer_frames.specs.Journals.{JournalValue, lasting, IsJournalOf, CountsEither, IsSpent, CanDraw, after_owed}
use Rattle.buffer_frames.specs.Journals.{next_record, logged, with_owed, owed_abort, logged_bytes, next_number}
use Rattle.buffer_frames.specs.Journals.{commits_in, RestsFrom, is_work, work_after}
use Rattle.buffer_frames.specs.Logging.{IsSameJournal, HasLogged}
use Rattle.page_types.specs.declared.record.Kind.{Kind}
use Rattle.page_types.specs.declared.record.Kind.TheVariants as kind
use Rattle.core_state.proofs.RunningOnes.{below_or_past}
use Rattle.buffer_frames.specs.Drawing.{kind_by, xid_by, drawn_by, record_of}
use Rattle.buffer_frames.specs.LogCauses.{LogFullWhere}
use Rattle.buffer_frames.specs.declared.step.Drawn.{Drawn}
use Rattle.buffer_frames.proofs.DrawnRecords.{owed_number, draws_alike}
use Rattle.buffer_frames.proofs.LastingStates.{alike_step}
use Rattle.buffer_frames.specs.declared.log_error.LogError.{LogError}

-- the number of the state's last record is the log's length
pub last_number : (s : StateValue) (R : Log) → lasting s ≡ lasting (state_of s.pages s.xid_limit R) → AreNumbered R
    → s.records ≡ length R
last_number s [] is numbered = ap (λ (x : StateValue). x.records) is
last_number s (r ∷ R) is numbered = ap (λ (x : StateValue). x.records) is
    ∙ ap (λ (t : ℕ × ℕ × ℕ). t.2) (step_marks r (state_of s.pages s.xid_limit R)) ∙ numbered.1

-- some records after others
both_records : (a b : List ℕ) (rs ss : List Record) → AreRecordsOf a rs → AreRecordsOf b ss
    → AreRecordsOf (a ++ b) (rs ++ ss)
both_records a b rs ss one two = record {
  each = both rs ss one.each two.each;
  encoded = ap (λ (l : List ℕ). l ++ b) one.encoded ∙ ap (λ (l : List ℕ). flat_map record_bytes rs ++ l) two.encoded
      ∙ sym (flat_map-append record_bytes rs ss);
}
  where
    both : (rs ss : List Record) → AllByRecursion IsRecord rs → AllByRecursion IsRecord ss
        → AllByRecursion IsRecord (rs ++ ss)
    both [] ss one two = two
    both (r ∷ rs) ss one two = (one.0, both rs ss one.1 two)

-- the owed Abort, where one is owed
abbrev pub owed : Bool → ℕ → List Record
owed owes n = cond owes (owed_abort n ∷ []) []

owed_is_record : (n : ℕ) → n < 2 ^ 64 → IsRecord (owed_abort n)
owed_is_record n small = record { number = small; xid = lit< tt; kind = tt; count = lit< tt; changes = tt; once = tt }

owed_records : (owes : Bool) (n : ℕ) → n < 2 ^ 64
    → AreRecordsOf (cond owes (record_bytes (owed_abort n)) []) (owed owes n)
owed_records false n small = record { each = tt; encoded = refl }
owed_records true n small =
    record { each = (owed_is_record n small, tt); encoded = sym (append-nil (record_bytes (owed_abort n))) }

with_owed_is : (owes : Bool) (R : Log) → with_owed owes R ≡ owed owes (1 + length R) ++ R
with_owed_is true R = refl
with_owed_is false R = refl

owed_numbered : (owes : Bool) (R : Log) → AreNumbered R → AreNumbered (owed owes (1 + length R) ++ R)
owed_numbered false R numbered = numbered
owed_numbered true R numbered = (numbered, omega arith)

owed_length : (owes : Bool) (n : ℕ) (R : Log) → 1 + (length R + cond owes 1 0) ≡ 1 + length (owed owes n ++ R)
owed_length false n R = omega arith
owed_length true n R = omega arith

owed_state : (owes : Bool) (p x n : ℕ) (R : Log)
    → state_of p x (owed owes n ++ R) ≡ cond owes (step_of (owed_abort n) (state_of p x R)) (state_of p x R)
owed_state true p x n R = refl
owed_state false p x n R = refl

owed_reverse : (owes : Bool) (n : ℕ) → reverse (owed owes n) ≡ owed owes n
owed_reverse true n = refl
owed_reverse false n = refl

-- what the owed Abort makes of states that are alike
owed_alike : (owes : Bool) (n : ℕ) (s t : StateValue) → lasting s ≡ lasting t
    → lasting (cond owes (step_of (owed_abort n) s) s) ≡ lasting (cond owes (step_of (owed_abort n) t) t)
owed_alike true n s t same = alike_step (owed_abort n) s t same
owed_alike false n s t same = same

-- turned round, the record comes last
pub turned_round : (r : Record) (more waits : Log) → reverse more ≡ more
    → reverse ((r ∷ more) ++ waits) ≡ reverse waits ++ (more ++ r ∷ [])
turned_round r more waits same =
    reverse-append (r ∷ more) waits
    ∙ ap (λ (l : Log). reverse waits ++ l) (reverse-append (r ∷ []) more ∙ ap (λ (l : Log). l ++ r ∷ []) same)

-- a flush leaves the record that is drawn
pub mid_record : {D : Type 0} (j mid : JournalValue D) (step : Step) → mid.owes ≡ j.owes → mid.state ≡ j.state
    → next_record mid step ≡ next_record j step
mid_record j mid step owes state =
    ap (λ (b : Bool). record_of (after_owed b mid.state) step) owes
    ∙ ap (λ (v : StateValue). record_of (after_owed j.owes v) step) state

-- the number that the state then has leaves room for more
pub records_left : {D : Type 0} (j j' : JournalValue D) (r : Record) → HasLogged j j' r → r.number ≡ next_number j
    → j.state.records + 1 ≤ 2 ^ 63 - 8 → (j'.state.records + 2 ≤ 2 ^ 63) × (0 < j'.state.records)
records_left j j' r has at most =
    let is : j'.state.records ≡ r.number = ap (λ (v : StateValue). v.records) has.state
    ∙ ap (λ (t : ℕ × ℕ × ℕ). t.2) (step_marks r (after_owed j.owes j.state)) in
    (go j.owes (is ∙ at), omega (arith, is, at))
  where
    go : (b : Bool) → j'.state.records ≡ 1 + (j.state.records + cond b 1 0) → j'.state.records + 2 ≤ 2 ^ 63
    go true e = omega (arith, e, most)
    go false e = omega (arith, e, most)

-- and its bounds stay
pub limit_kept : {D : Type 0} (j j' : JournalValue D) (r : Record) → HasLogged j j' r → j.state.xid_limit ≤ xid_bound
    → j'.state.xid_limit ≤ xid_bound
limit_kept j j' r has le =
    let is : j'.state.xid_limit ≡ (after_owed j.owes j.state).xid_limit = ap (λ (v : StateValue). v.xid_limit) has.state
    ∙ ap (λ (t : ℕ × ℕ × ℕ). t.1) (step_marks r (after_owed j.owes j.state)) in
    omega (arith, le, is, (draws_alike j.owes j.state).xid_limit)

-- so it leaves what is drawn, what the record makes, and its bytes
pub mid_drawn : {D : Type 0} (j mid : JournalValue D) (k : Kind) (r : Result Drawn LogError)
    → mid.owes ≡ j.owes → mid.state ≡ j.state → IfOk r (λ d. d ≡ drawn_by (after_owed mid.owes mid.state) k)
    → IfOk r (λ d. d ≡ drawn_by (after_owed j.owes j.state) k)
mid_drawn j mid k r owes state drawn =
    subst (λ (v : StateValue). IfOk r (λ d. d ≡ drawn_by (after_owed j.owes v) k)) state
    (subst (λ (b : Bool). IfOk r (λ d. d ≡ drawn_by (after_owed b mid.state) k)) owes drawn)

pub mid_state : {D T : Type 0} (j mid j' : JournalValue D) (step : Step) (r : Result T LogError)
    → mid.owes ≡ j.owes → mid.state ≡ j.state → OnOk r (HasLogged mid j' (next_record mid step))
    → OnOk r (j'.state ≡ step_of (next_record j step) (after_owed j.owes j.state))
mid_state j mid j' step (Err e) owes state has = tt
mid_state j mid j' step (Ok x) owes state has =
    has.state
    ∙ ap (λ (r : Record). step_of r (after_owed mid.owes mid.state)) (mid_record j mid step owes state)
    ∙ ap (λ (b : Bool). step_of (next_record j step) (after_owed b mid.state)) owes
    ∙ ap (λ (v : StateValue). step_of (next_record j step) (after_owed j.owes v)) state

pub mid_bytes : {D : Type 0} (j mid : JournalValue D) (step : Step) → mid.owes ≡ j.owes → mid.state ≡ j.state
    → logged_bytes mid (next_record mid step) ≡ logged_bytes j (next_record j step)
mid_bytes j mid step owes state =
    ap (λ (r : Record). logged_bytes mid r) (mid_record j mid step owes state)
    ∙ ap (λ (b : Bool). cond b (record_bytes (owed_abort (1 + mid.state.records))) []
    ++ record_bytes (next_record j step)) owes
    ∙ ap (λ (v : StateValue). cond j.owes (record_bytes (owed_abort (1 + v.records))) []
    ++ record_bytes (next_record j step)) state

pub mid_can : {D T : Type 0} (j mid : JournalValue D) (step : Step) (r : Result T LogError) → mid.owes ≡ j.owes
    → mid.state ≡ j.state → OnOk r (CanDraw mid step) → OnOk r (CanDraw j step)
mid_can j mid step (Err e) owes state can = tt
mid_can j mid step (Ok x) owes state can =
    let same = mid_record j mid step owes state in
    record {
      encoded = subst IsRecord same can.encoded;
      below = λ e. subst (λ (r : Record). r.xid < xid_bound) same (can.below e);
    }

pub mid_full : {D T : Type 0} (j mid : JournalValue D) (step : Step) (r : Result T LogError)
    → limit_of mid.wal ≡ limit_of j.wal → end_of mid.wal ≡ end_then (end_of j.wal) (waiting j.wal)
    → waiting mid.wal ≡ waiting_then (waiting j.wal) → mid.owes ≡ j.owes → mid.state ≡ j.state
    → LogFullWhere (limit_of mid.wal) (end_of mid.wal + FRAME_BYTES + length
    (waiting mid.wal) + length (logged_bytes mid (next_record mid step)) + 1) r
    → LogFullWhere (limit_of j.wal) (length_with j.wal (logged_bytes j (next_record j step))) r
mid_full j mid step r limit end waits owes state full =
    subst (λ (l : ℕ). LogFullWhere l (length_with j.wal (logged_bytes j (next_record j step))) r) limit
    (subst (λ (n : ℕ). LogFullWhere (limit_of mid.wal) n r)
    (ap (λ (b : List ℕ). end_of mid.wal + FRAME_BYTES + length (waiting mid.wal) + length b + 1)
    (mid_bytes j mid step owes state)
    ∙ ap (λ (w : List ℕ). end_of mid.wal + FRAME_BYTES + length w + length (logged_bytes j (next_record j step)) + 1)
    waits
    ∙ ap (λ (e : ℕ). e + FRAME_BYTES + length (waiting_then (waiting j.wal)) + length
    (logged_bytes j (next_record j step)) + 1) end) full)

-- a record that is drawn can be
pub can_draw : {D : Type 0} (j : JournalValue D) (step : Step) → IsRecord (next_record j step)
    → (IsSpent j.state step.kind → ⊥) → j.state.xid_limit ≤ xid_bound → CanDraw j step
can_draw j step is spent limit = record {
  encoded = is;
  below = λ e. elim (below_or_past (suc (length j.state.fates)) j.state.xid_limit) [
    | inl lt ↦
        let xid : (next_record j step).xid ≡ suc (length (after_owed j.owes j.state).fates) =
        ap (λ (k : Kind). xid_by (after_owed j.owes j.state) k step.xid) e in
        omega (arith, xid, (draws_alike j.owes j.state).fates, lt, limit)
    | inr past ↦ absurd (spent (e, past))
  ];
}

-- no record of a log has a number above its length
pub number_within : (R : Log) → AreNumbered R → (s : Record) → In s R → s.number ≤ length R
number_within [] numbered s i = absurd i
number_within (r ∷ R) numbered s (inl e) = omega (arith, ap (λ (x : Record). x.number) e, numbered.1)
number_within (r ∷ R) numbered s (inr i) = omega (arith, number_within R numbered.0 s i)

-- maintenance is known by its kind
work_told : (k : Kind) → IsMaintenance k → is_work k ≡ true
work_told kind.Begin work = absurd (let z : ⊥ = omega (arith, work.0) in z)
work_told (kind.Commit n) work = absurd (let z : ⊥ = omega (arith, work.0) in z)
work_told kind.Abort work = absurd (let z : ⊥ = omega (arith, work.0) in z)
work_told (kind.PlaceHead item serial) work = absurd (let z : ⊥ = omega (arith, work.0) in z)
work_told (kind.PutOverflow item serial) work = absurd (let z : ⊥ = omega (arith, work.0) in z)
work_told (kind.MarkDeleted item serial) work = absurd (let z : ⊥ = omega (arith, work.0) in z)
work_told (kind.PutPending item serial) work = absurd (let z : ⊥ = omega (arith, work.0) in z)
work_told (kind.AddRow item serial) work = absurd (let z : ⊥ = omega (arith, work.0) in z)
work_told (kind.LinkPending item serial) work = absurd (let z : ⊥ = omega (arith, work.0) in z)
work_told _ work = refl

-- the owed Abort is none
owed_rests : (owes : Bool) (R : Log) (n : ℕ) → RestsFrom n R → RestsFrom n (with_owed owes R)
owed_rests false R n rests s i lt work = rests s i lt work
owed_rests true R n rests s (inr i) lt work = rests s i lt work
owed_rests true R n rests s (inl e) lt work =
    let abort : IsMaintenance kind.Abort = subst IsMaintenance (ap (λ (x : Record). x.kind) e) work in
    omega (arith, abort.0)

-- a record more that is maintenance is the last one
rests_more : (owes : Bool) (r : Record) (R : Log) (n : ℕ) → AreNumbered R → length R ≤ r.number → RestsFrom n R
    → (b : Bool) → is_work r.kind ≡ b → RestsFrom (cond b r.number n) (logged owes r R)
rests_more owes r R n numbered past rests true is s (inl e) lt work =
    omega (arith, lt, ap (λ (x : Record). x.number) e)
rests_more owes r R n numbered past rests true is s (inr i) lt work =
    owed_rests owes R r.number (λ x j late. absurd (omega (arith, late, past, number_within R numbered x j))) s i lt
    work
rests_more owes r R n numbered past rests false is s (inl e) lt work =
    let f : true ≡ false = sym (work_told r.kind (subst IsMaintenance (ap (λ (x : Record). x.kind) e) work)) ∙ is in
    let z : ⊥ = cc in z
rests_more owes r R n numbered past rests false is s (inr i) lt work = owed_rests owes R n rests s i lt work

-- what is noted is as if no flush had come before
pub mid_work : {D T : Type 0} (j mid j' : JournalValue D) (step : Step) (r : Result T LogError)
    → mid.owes ≡ j.owes → mid.state ≡ j.state → mid.work ≡ j.work → OnOk r (HasLogged mid j' (next_record mid step))
    → OnOk r (j'.work ≡ work_after step.kind (next_number j) j.work)
mid_work j mid j' step (Err e) owes state work has = tt
mid_work {D} j mid j' step (Ok x) owes state work has =
    has.work
    ∙ ap (λ (o : Option ℕ). work_after (next_record mid step).kind (next_record mid step).number o) work
    ∙ ap (λ (r : Record). work_after r.kind r.number j.work) (mid_record j mid step owes state)
    ∙ ap (λ (n : ℕ). work_after (next_record j step).kind n j.work) (owed_number j.owes j.state)
    ∙ same_kind (after_owed j.owes j.state) step.kind (next_number j) j.work
  where
    same_kind : (s : StateValue) (k : Kind) (n : ℕ) (o : Option ℕ)
        → work_after (kind_by s k) n o ≡ work_after k n o
    same_kind s (kind.Commit c) n None = refl
    same_kind s (kind.Commit c) n (Some m) = refl
    same_kind s (kind.PlaceHead item serial) n None = refl
    same_kind s (kind.PlaceHead item serial) n (Some m) = refl
    same_kind s _ n o = refl

module _ {D : Type 0} (device : Disk D) where
  pub logged_stands : (j j' : JournalValue D) (r : Record) (R : Log) → IsJournalOf device j R → HasLogged j j' r
      → IsRecord r
      → r.number ≡ next_number j → 1 + j.state.records < 2 ^ 64 → IsJournalOf device j' (logged j.owes r R)
  logged_stands j j' r R s has is at small = record {
    counted = s.counted;
    waits = (r ∷ more) ++ s.waits;
    all = log_is ∙ ap (λ (l : Log). r ∷ (more ++ l)) s.all
        ∙ ap (λ (l : Log). r ∷ l) (sym (append_assoc more s.waits s.counted));
    numbered = subst AreNumbered (sym log_is) (
      numbered,
      at ∙ ap (λ (n : ℕ). 1 + (n + cond j.owes 1 0)) last ∙ owed_length j.owes (1 + j.state.records) R ∙ omega arith,
    );
    state = states;
    flushed = λ up. has.flushed ∙ s.flushed (sym has.down ∙ up)
        ∙ ap (λ (t : ℕ × ℕ). length (state_of t.0 t.1 s.counted).deleted) (sym bounds);
    waiting_is = λ up. subst (λ (b : List ℕ). AreRecordsOf b (reverse ((r ∷ more) ++ s.waits))) (sym has.waits)
        (subst (AreRecordsOf (waiting j.wal ++ logged_bytes j r))
        (sym (turned_round r more s.waits (owed_reverse j.owes (1 + j.state.records)))) (both_records
        (waiting j.wal) (logged_bytes j r) (reverse s.waits) (more ++ r ∷ []) (s.waiting_is (sym has.down ∙ up))
        (both_records (cond j.owes (record_bytes (owed_abort (1 + j.state.records))) []) (record_bytes r) more (r ∷ [])
        (owed_records j.owes (1 + j.state.records) small) (record {
          each = (is, tt);
          encoded = sym (append-nil (record_bytes r));
        }))));
    settled = λ t up.
        let was = s.settled t (sym has.down ∙ up) in (
          was.0,
          subst (λ (d : D). Settled device was.0 (end_of j'.wal) d) (sym has.disk)
              (subst (λ (e : ℕ). Settled device was.0 e j.disk) (sym has.end) was.1),
          was.2,
        );
    work = rests_then j.work has.work s.work;
  }
    where
      last : j.state.records ≡ length R
      last = last_number j.state R s.state s.numbered

      more : List Record
      more = owed j.owes (1 + j.state.records)

      log_is : logged j.owes r R ≡ r ∷ (more ++ R)
      log_is = ap (λ (l : Log). r ∷ l) (with_owed_is j.owes R ∙ ap (λ (n : ℕ). owed j.owes (1 + n) ++ R) (sym last))

      numbered : AreNumbered (more ++ R)
      numbered =
          subst (λ (n : ℕ). AreNumbered (owed j.owes (1 + n) ++ R)) (sym last) (owed_numbered j.owes R s.numbered)

      now : (p x : ℕ) → state_of p x (logged j.owes r R)
          ≡ step_of r (cond j.owes (step_of (owed_abort (1 + j.state.records)) (state_of p x R)) (state_of p x R))
      now p x = ap (state_of p x) log_is ∙ ap (step_of r) (owed_state j.owes p x (1 + j.state.records) R)

      here : lasting j'.state ≡ lasting (state_of j.state.pages j.state.xid_limit (logged j.owes r R))
      here =
          ap lasting has.state
          ∙ alike_step r (after_owed j.owes j.state) (cond j.owes (step_of (owed_abort (1 + j.state.records))
          (state_of j.state.pages j.state.xid_limit R)) (state_of j.state.pages j.state.xid_limit R))
          (owed_alike j.owes (1 + j.state.records) j.state (state_of j.state.pages j.state.xid_limit R) s.state)
          ∙ ap lasting (sym (now j.state.pages j.state.xid_limit))

      -- the owed Abort is no maintenance, and a record that is one is noted
      rests_here : (n : ℕ) → RestsFrom n R → RestsFrom (cond (is_work r.kind) r.number n) (logged j.owes r R)
      rests_here n rests = rests_more j.owes r R n s.numbered (omega (arith, at, last)) rests (is_work r.kind) refl

      rests_then : (w : Option ℕ) {w' : Option ℕ} → w' ≡ work_after r.kind r.number w
          → IfSome w (λ n. RestsFrom n R) → IfSome w' (λ n. RestsFrom n (logged j.owes r R))
      rests_then None is rests = subst (λ (o : Option ℕ). IfSome o (λ n. RestsFrom n (logged j.owes r R))) (sym is) tt
      rests_then (Some n) is rests =
          subst (λ (o : Option ℕ). IfSome o (λ n. RestsFrom n (logged j.owes r R))) (sym is) (rests_here n rests)

      bounds : let t : ℕ × ℕ = (j'.state.pages, j'.state.xid_limit) in t ≡ (j.state.pages, j.state.xid_limit)
      bounds =
          let b = state_bounds j.state.pages j.state.xid_limit (logged j.owes r R) in
          let p : j'.state.pages ≡ j.state.pages = ap (λ (v : StateValue). v.pages) here ∙ b.0 in
          let x : j'.state.xid_limit ≡ j.state.xid_limit = ap (λ (v : StateValue). v.xid_limit) here ∙ b.1 in
          cc

      states : lasting j'.state ≡ lasting (state_of j'.state.pages j'.state.xid_limit (logged j.owes r R))
      states =
          subst (λ (t : ℕ × ℕ). lasting j'.state ≡ lasting (state_of t.0 t.1 (logged j.owes r R))) (sym bounds) here

  pub same_stands : (j j' : JournalValue D) (R : Log) → IsJournalOf device j R → IsSameJournal j j'
      → IsJournalOf device j' R
  same_stands j j' R s same = record {
    counted = s.counted;
    waits = s.waits;
    all = s.all;
    numbered = s.numbered;
    state = subst (λ (v : StateValue). lasting v ≡ lasting (state_of v.pages v.xid_limit R)) (sym same.state) s.state;
    flushed = λ up. same.flushed ∙ s.flushed (sym same.down ∙ up)
        ∙ ap (λ (v : StateValue). commits_in v s.counted) (sym same.state);
    waiting_is = λ up. subst (λ (b : List ℕ). AreRecordsOf b (reverse s.waits)) (sym same.waits)
        (s.waiting_is (sym same.down ∙ up));
    settled = λ t up.
        let was = s.settled t (sym same.down ∙ up) in (
          was.0,
          subst (λ (d : D). Settled device was.0 (end_of j'.wal) d) (sym same.disk)
              (subst (λ (e : ℕ). Settled device was.0 e j.disk) (sym same.end) was.1),
          was.2,
        );
    work = subst (λ (w : Option ℕ). IfSome w (λ n. RestsFrom n R)) (sym same.work) s.work;
  }

  -- what a call does, after a flush where much waits
  pub log_stands : {T : Type 0} (j mid j' : JournalValue D) (step : Step) (r : Result T LogError)
      → OnOk r (HasLogged mid j' (next_record mid step)) → OnOk r (CanDraw mid step) → mid.owes ≡ j.owes
      → mid.state ≡ j.state → 1 + j.state.records < 2 ^ 64
      → ((R : Log) → IsJournalOf device j R → IsJournalOf device mid R) → (R : Log) → IsJournalOf device j R
      → OnOk r (IsJournalOf device j' (logged j.owes (next_record j step) R))
  log_stands j mid j' step (Err e) has can owes state small stands R s = tt
  log_stands j mid j' step (Ok x) has can owes state small stands R s =
      subst (λ (r : Record). IsJournalOf device j' (logged j.owes r R)) (mid_record j mid step owes state)
      (subst (λ (b : Bool). IsJournalOf device j' (logged b (next_record mid step) R)) owes
      (logged_stands mid j' (next_record mid step) R (stands R s) has can.encoded (owed_number mid.owes mid.state)
      (subst (λ (v : StateValue). 1 + v.records < 2 ^ 64) (sym state) small)))

  pub log_refused : {T : Type 0} (j mid j' : JournalValue D) (r : Result T LogError) → OnErr r (IsSameJournal mid j')
      → ((R : Log) → IsJournalOf device j R → IsJournalOf device mid R) → (R : Log) → IsJournalOf device j R
      → OnErr r (IsJournalOf device j' R)
  log_refused j mid j' (Ok x) same stands R s = tt
  log_refused j mid j' (Err e) same stands R s = same_stands mid j' R (stands R s) same

  log_disk : {T : Type 0} (mid j' : JournalValue D) (rec : Record) (r : Result T LogError)
      → OnOk r (HasLogged mid j' rec) → OnErr r (IsSameJournal mid j') → j'.disk ≡ mid.disk
  log_disk mid j' rec (Ok x) has same = has.disk
  log_disk mid j' rec (Err e) has same = same.disk

  pub log_moments : {T : Type 0} (j mid j' : JournalValue D) (rec : Record) (r : Result T LogError)
      → OnOk r (HasLogged mid j' rec) → OnErr r (IsSameJournal mid j') → (R : Log) (s : IsJournalOf device j R)
      → (mid.disk ≡ j.disk) ⊎ LeavesOnly device j.disk mid.disk (CountsEither device j.disk s.counted R)
      → (j'.disk ≡ j.disk) ⊎ LeavesOnly device j.disk j'.disk (CountsEither device j.disk s.counted R)
  log_moments j mid j' rec r has same R s left =
      subst (λ (d : D). (d ≡ j.disk) ⊎ LeavesOnly device j.disk d (CountsEither device j.disk s.counted R))
      (sym (log_disk mid j' rec r has same)) left
