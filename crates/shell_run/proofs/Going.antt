-- A run grows by one statement, with the store, the log and the device.
use Rattle.std.proofs.Common.{◌≡◌, ◌⊎◌, inl, inr, ℕ, suc, ◌+◌, ◌^◌, ◌<◌, ◌≤◌, ◌-◌, List, [], ◌∷◌, ◌++◌, length}
use Rattle.std.proofs.Common.{length-append, append_assoc, arith, refl, sym, ◌∙◌, ap, subst, get_or}
use Rattle.std.specs.Prelude.{Option, Some, None, IfSome, take}
use Rattle.std.specs.List.{All, Any}
use Rattle.std.proofs.lemmas.List.{get_or_append_left, take_all}
use Rattle.std.proofs.lemmas.Bool.{cases_lt}
use Rattle.std.proofs.lemmas.List.Elements.{All-push}
use Rattle.std.proofs.lemmas.List.Quantifiers.{Any-push}
use Rattle.disk_trait.specs.Device.{Rose}
use Rattle.disk_trait.specs.declared.device.Disk.{Ghosts as Disk}
use Rattle.ts_config.specs.Known.{Known}
use Rattle.engine.specs.Opening.{OpensToOne, KeepsPages, HasPagesOf}
use Rattle.disk_trait.specs.Runs.{images_now}
use Rattle.disk_trait.proofs.Runs.{started}
use Rattle.engine.specs.Finding.{Commit, History}
use Rattle.engine.specs.Opened.{IsFixedSince, IsLawfulSince}
use Rattle.engine.specs.Standing.{StandsFor, GoesOn, IsKept, HistoriesAreLawful}
use Rattle.engine.specs.Db.{DbValue, disk_of, fault_of, opened_of, flushed_of, IsUp}
use Rattle.shell_script.specs.Grammar.{Statement}
use Rattle.shell_run.specs.Run.{Exchange, Note, Place, Counts, Reply, refused, down, device as device_fault, Run}
use Rattle.shell_run.specs.Run.{AreNoted}
use Rattle.shell_run.specs.Run.{FindsDown, MayBeTidied, AreTimed}
use Rattle.shell_run.specs.Caused.{IsLeftBy, AreCaused}
use Rattle.shell_run.specs.Crash.{StartedFrom}
use Rattle.shell_run.specs.RanOn.{counts_over, IsSeenIn, AreSeenIn}
use Rattle.shell_run.proofs.Runs.{noted_step, run_step}
use Rattle.shell_run.proofs.Safety.{Safe, IsSince, StaysKnown, safe_push, fixed_on}
use Rattle.shell_run.proofs.Timing.{timed_by, timed_push, caused_push, seen_push, seen_more}
use Rattle.shell_run.proofs.Moving.{Moves, Rested, IsFaultOf, HasNote, Tells, saw_taken}

abbrev pub exchange_of : Place → Known → ℕ → Statement → Reply → Note → Exchange
exchange_of place known line statement reply note =
    record { place = place; line = line; known = known; statement = statement; reply = reply; note = note }

abbrev TellsCount : ℕ → Exchange → Type 0
TellsCount n r = r.reply ≡ refused (down n)

-- the failing statement after which the device's count was this
abbrev pub FailedAt : ℕ → Exchange → Type 0
FailedAt n r = (0 < r.note.writes) × (r.note.count ≡ n)

abbrev IsToldBy : Option ℕ → Exchange → Type 0
IsToldBy fall r = (n : ℕ) → TellsCount n r → fall ≡ Some n

-- What the device's counts say of the exchanges, while the log is up and when it is down.
pub record Counted (fall : Option ℕ) (exchanges : List Exchange) (faults0 writes0 faults writes : ℕ) : Type 0 where
  pub low : (faults0 ≤ faults) × (writes0 ≤ writes)
  pub room : faults0 < 2 ^ 64 - 1
  pub up : fall ≡ None → (writes < 2 ^ 64 - 1) × All (λ (r : Exchange). r.note.writes ≡ 0) exchanges
  pub fallen : (f : ℕ) → fall ≡ Some f → (faults0 < f) × (f ≤ faults) × (writes0 < writes) × Any (FailedAt f) exchanges
  pub told : All (IsToldBy fall) exchanges

any_left : {X : Type 0} (P : X → Type 0) (xs : List X) (y : X) → Any P xs → Any P (xs ++ y ∷ [])
any_left P xs y h =
    (h.0, h.1, omega (arith, h.2, length-append xs (y ∷ [])), get_or_append_left xs (y ∷ []) h.1 h.0 h.2 ∙ h.3, h.4)

-- while the log is up, no statement was answered that it is down
told_up : (fall fall' : Option ℕ) (exchanges : List Exchange) (exchange : Exchange)
    → fall ≡ None → All (IsToldBy fall) exchanges → ((n : ℕ) → TellsCount n exchange → ⊥)
    → All (IsToldBy fall') (exchanges ++ exchange ∷ [])
told_up fall fall' exchanges exchange up h not_down = All-push (IsToldBy fall') exchanges exchange (λ k d l n e. absurd
    (let x : None ≡ Some n = sym up ∙ h k d l n e in let y : ⊥ = cc in y)) (λ n e. absurd (not_down n e))

-- all that were answered so say one count
told_one : (fall : Option ℕ) (exchanges : List Exchange) (n : ℕ) → All (IsToldBy fall) exchanges → fall ≡ Some n
    → All (λ (r : Exchange). (m : ℕ) → TellsCount m r → m ≡ n) exchanges
told_one fall exchanges n h is k d l m e = let x : Some m ≡ Some n = sym (h k d l m e) ∙ is in cc

-- exchanges in which no write or sync failed statement nothing of the next
finds_up : (fall : Option ℕ) (exchanges : List Exchange) (faults0 writes0 faults writes : ℕ)
    (known : Known) (statement : Statement) (reply : Reply)
    → Counted fall exchanges faults0 writes0 faults writes → FindsDown known statement reply ⊎ (fall ≡ None)
    → All (λ (r : Exchange). 0 < r.note.writes → FindsDown known statement reply) exchanges
finds_up fall exchanges faults0 writes0 faults writes known statement reply h (inl is) k d l some = is
finds_up fall exchanges faults0 writes0 faults writes known statement reply h (inr u) k d l some =
    absurd (let e : (get_or exchanges k d).note.writes ≡ 0 = (h.up u).1 k d l in let x : ⊥ = omega arith in x)

-- the place of the commit that a statement adds to so many, if it adds one
abbrev pub commit_at : ℕ → History → Option ℕ
commit_at n [] = None
commit_at n (c ∷ cs) = Some n

rises : (n m : ℕ) → n < 2 ^ 64 - 1 → Rose n m → n < m
rises n m l r = omega (arith, l, r)

module _ {D : Type 0} (device : Disk D) where
  -- the notes of a statement that saw so many commits, and added these
  abbrev pub note_of : DbValue D → DbValue D → ℕ → History → Note
  note_of old new n more = record {
    snapshot = n;
    commit = commit_at n more;
    faults = device.fault_count (disk_of new) - device.fault_count (disk_of old);
    writes = device.write_fault_count (disk_of new) - device.write_fault_count (disk_of old);
    count = device.fault_count (disk_of new);
    clock = device.clock (disk_of new);
  }

  -- how a run of a lawful device is between two statements
  pub record Lawful (first : D) (c0 : ℕ) (opened s : DbValue D) (history commits : History) (exchanges : List Exchange)
      (chain : AreCaused device exchanges opened s) : Type 0 where
    pub run : Run (counts_over device first (disk_of opened) (disk_of s)) history commits exchanges
    pub since : IsSince device first c0 opened s history commits
    pub seen : AreSeenIn device history commits exchanges opened s chain
    pub flushed : IsUp s → length commits ≤ flushed_of s
    pub kept : IsUp s → IsKept device s (length commits)
    pub safe : Safe device c0 (disk_of s) exchanges

  -- How a run is between two statements. The commits that it has added are told on every device.
  pub record State (first : D) (c0 : ℕ) (opened s : DbValue D) (added : History)
      (exchanges : List Exchange) : Type 0 where
    pub noted : AreNoted (counts_over device first (disk_of opened) (disk_of s)) exchanges
    pub counted : Counted (fault_of s) exchanges (device.fault_count first) (device.write_fault_count first)
        (device.fault_count (disk_of s)) (device.write_fault_count (disk_of s))
    pub fixed : device.tells → IsFixedSince device first c0 (disk_of s)
    pub timed : AreTimed (device.clock (disk_of opened)) (device.clock (disk_of s)) exchanges
    pub chain : AreCaused device exchanges opened s
    pub lawful : device.tells → StartedFrom device first → (history : History)
        → IsLawfulSince device first c0 opened history
        → Lawful first c0 opened s history (history ++ added) exchanges chain

  -- what a statement leaves, whether it came to the store or not
  record Continues (old new : DbValue D) : Type 0 where
    opened : opened_of new ≡ opened_of old
    time : device.clock (disk_of old) ≤ device.clock (disk_of new)
    faults : device.fault_count (disk_of old) ≤ device.fault_count (disk_of new)
    writes : device.write_fault_count (disk_of old) ≤ device.write_fault_count (disk_of new)
    pages : device.tells → KeepsPages device (disk_of old) (disk_of new)

  continues : (old new : DbValue D) (more : History) → ((new ≡ old) × (more ≡ [])) ⊎ GoesOn device old new
      → Continues old new
  continues old new more (inl same) = subst (Continues old) (sym same.0) (record {
    opened = refl;
    time = omega arith;
    faults = omega arith;
    writes = omega arith;
    pages =
        λ t. started device (disk_of old) (HasPagesOf (images_now device (disk_of old))) (λ c left. (c, left, refl));
  })
  continues old new more (inr on) = record {
    opened = on.opened;
    time = on.time;
    faults = on.faults;
    writes = on.writes;
    pages = on.pages;
  }

  module _ (first : D) (c0 : ℕ) (opened old new : DbValue D) (added : History) (exchanges : List Exchange)
      (place : Place) (known : Known) (line : ℕ) (statement : Statement) (reply : Reply)
      (s : State first c0 opened old added exchanges) (m : Moves device old new known line statement reply)
      (last : All (λ (r : Exchange). r.place.step < place.step) exchanges) where
    on : Continues old new
    on = continues old new m.more m.on

    abbrev note : Note
    note = note_of old new (flushed_of opened + length added) m.more

    abbrev exchange : Exchange
    exchange = exchange_of place known line statement reply note

    abbrev counts_then : Counts
    counts_then = counts_over device first (disk_of opened) (disk_of new)

    -- a write failed where the device is answered, and else only in a cleanup that came by itself
    failed_as : reply ≡ refused device_fault → 0 < note.writes
    failed_as is = elim m.fault [
      | inl f ↦
          let low : device.write_fault_count (disk_of old) < device.write_fault_count (disk_of new) =
          rises (device.write_fault_count (disk_of old)) (device.write_fault_count (disk_of new))
          (s.counted.up f.1.up).0 f.1.writes in omega (arith, low)
      | inr f ↦ absurd (f.0 is)
    ]

    failed_only : 0 < note.writes → (reply ≡ refused device_fault) ⊎ MayBeTidied reply
    failed_only l = elim m.fault [
      | inl f ↦ f.0
      | inr f ↦ absurd (let x : ⊥ = omega (arith, l, f.1.writes) in x)
    ]

    -- such an answer doesn't say that the store is down
    not_down : (n : ℕ) (r : Reply) → (r ≡ refused device_fault) ⊎ MayBeTidied r → r ≡ refused (down n) → ⊥
    not_down n r (inl is) d = let y : refused device_fault ≡ refused (down n) = sym is ∙ d in cc
    not_down n r (inr may) d = subst MayBeTidied d may

    counted_then : Counted (fault_of new) (exchanges ++ exchange ∷ []) (device.fault_count first)
        (device.write_fault_count first) (device.fault_count (disk_of new)) (device.write_fault_count (disk_of new))
    counted_then = by m.fault
      where
        by : IsFaultOf device old new reply → Counted (fault_of new) (exchanges ++ exchange ∷ [])
            (device.fault_count first) (device.write_fault_count first) (device.fault_count (disk_of new))
            (device.write_fault_count (disk_of new))
        by (inl f) =
            let up : (device.write_fault_count (disk_of old) < 2 ^ 64 - 1)
            × All (λ (r : Exchange). r.note.writes ≡ 0) exchanges = s.counted.up f.1.up in
            let failed : device.write_fault_count (disk_of old) < device.write_fault_count (disk_of new) =
            rises (device.write_fault_count (disk_of old)) (device.write_fault_count (disk_of new)) up.0 f.1.writes in
            let some : 0 < note.writes = omega (arith, failed) in
            let above : device.fault_count first < device.fault_count (disk_of new) =
            omega (arith, s.counted.low.0, s.counted.room, f.1.rose) in
            record {
              low = (omega (arith, s.counted.low.0, on.faults), omega (arith, s.counted.low.1, on.writes));
              room = s.counted.room;
              up = λ u. absurd
                  (let x : None ≡ Some (device.fault_count (disk_of new)) = sym u ∙ f.1.down in let y : ⊥ = cc in y);
              fallen = λ n d.
                  let same : n ≡ device.fault_count (disk_of new) =
                  let x : Some n ≡ Some (device.fault_count (disk_of new)) = sym d ∙ f.1.down in cc in (
                    omega (arith, same, above),
                    omega (arith, same),
                    omega (arith, s.counted.low.1, failed),
                    Any-push (FailedAt n) exchanges exchange (some, sym same),
                  );
              told = told_up (fault_of old) (fault_of new) exchanges exchange f.1.up s.counted.told
                  (λ n x. not_down n reply f.0 x);
            }
        by (inr f) =
            let none : note.writes ≡ 0 = omega (arith, f.1.writes) in
            let same : Counted (fault_of old) (exchanges ++ exchange ∷ []) (device.fault_count first)
            (device.write_fault_count first) (device.fault_count (disk_of new))
            (device.write_fault_count (disk_of new)) = record {
              low = (omega (arith, s.counted.low.0, on.faults), omega (arith, s.counted.low.1, on.writes));
              room = s.counted.room;
              up = λ u. let k = s.counted.up u in (
                omega (arith, k.0, f.1.writes),
                All-push (λ (r : Exchange). r.note.writes ≡ 0) exchanges exchange k.1 none,
              );
              fallen = λ n d. let k = s.counted.fallen n d in (
                k.0,
                omega (arith, k.1, on.faults),
                omega (arith, k.2, on.writes),
                any_left (FailedAt n) exchanges exchange k.3,
              );
              told = All-push (IsToldBy (fault_of old)) exchanges exchange s.counted.told m.fell;
            } in
            subst (λ d. Counted d (exchanges ++ exchange ∷ []) (device.fault_count first)
            (device.write_fault_count first) (device.fault_count (disk_of new))
            (device.write_fault_count (disk_of new))) (sym f.1.down) same

    noted_then : AreNoted counts_then (exchanges ++ exchange ∷ [])
    noted_then = noted_step (counts_over device first (disk_of opened) (disk_of old)) counts_then exchanges exchange
        (record {
          noted = s.noted;
          grows = record {
            faults = refl;
            faults_opened = refl;
            writes = refl;
            faults_after = on.faults;
            writes_after = on.writes;
          };
          last = last;
          finds_down = finds_up (fault_of old) exchanges (device.fault_count first) (device.write_fault_count first)
              (device.fault_count (disk_of old)) (device.write_fault_count (disk_of old)) known statement reply
              s.counted m.finds;
          fell = λ n is. (s.counted.fallen n (m.fell n is)).3;
          one_count = λ n is. told_one (fault_of old) exchanges n s.counted.told (m.fell n is);
          failed = failed_as;
          failed_only = failed_only;
          called = λ l. elim m.called [
            | inl c ↦ c
            | inr same ↦
                let e : device.fault_count (disk_of new) ≡ device.fault_count (disk_of old) =
                ap (λ z. device.fault_count (disk_of z)) same in
                absurd (let x : ⊥ = omega (arith, l, e) in x)
          ];
          count = refl;
          faults = omega (arith, on.faults);
          writes = omega (arith, on.writes);
        })

    timed_then : AreTimed (device.clock (disk_of opened)) (device.clock (disk_of new)) (exchanges ++ exchange ∷ [])
    timed_then = timed_push (device.clock (disk_of opened)) (device.clock (disk_of old)) (device.clock (disk_of new))
        exchanges exchange s.timed on.time refl last

    left : IsLeftBy device exchange old new
    left = record {
      later = on.time;
      clock = refl;
      count = refl;
      faults = omega (arith, on.faults);
      writes = omega (arith, on.writes);
      flushed = m.flushed;
      uncalled = λ none. elim m.called [ inl c ↦ absurd (none c) | inr same ↦ same ];
    }

    -- ── of a lawful device ──
    module _ (one : OpensToOne) (lawful : HistoriesAreLawful device) (t : device.tells) (history : History)
        (since : IsLawfulSince device first c0 opened history)
        (h : Lawful first c0 opened old history (history ++ added) exchanges s.chain) where
      abbrev commits : History
      commits = history ++ added

      count_is : flushed_of opened + length added ≡ length commits
      count_is = omega (arith, since.flushed, length-append history added)

      has_note : HasNote m.more commits note
      has_note = by m.one
        where
          by : (m.more ≡ []) ⊎ ((c : Commit) × (m.more ≡ c ∷ []) × IsUp old) → HasNote m.more commits note
          by (inl n) = inl (n, ap (commit_at (flushed_of opened + length added)) n)
          by (inr c) = inr (
            c.0,
            c.1,
            ap (commit_at (flushed_of opened + length added)) c.1 ∙ ap (λ n. Some n) count_is,
          )

      stands_then : StandsFor device history new (commits ++ m.more)
      stands_then = m.grown t history commits h.since.stands

      reaches_then : IsUp new → length (commits ++ m.more) ≤ flushed_of new
      reaches_then still = m.reaches t history commits h.since.stands still h.flushed

      -- what a store that is up has flushed stays
      kept_at : (z : DbValue D) → IsUp z → ((z ≡ old) × (m.more ≡ [])) ⊎ GoesOn device old z
          → StandsFor device history z (commits ++ m.more) → length (commits ++ m.more) ≤ flushed_of z
          → IsKept device z (length (commits ++ m.more))
      kept_at z still (inl same) stands reaches =
          let long : length commits ≡ length (commits ++ m.more) =
          omega (arith, length-append commits m.more, ap length same.1) in
          subst (λ n. IsKept device z n) long (subst (λ y. IsKept device y (length commits)) (sym same.0)
          (h.kept (subst IsUp same.0 still)))
      kept_at z still (inr on) stands reaches = λ n f le by left.
          let k = on.kept t history (commits ++ m.more) stands still n f le by left in
          (k.0, k.1, omega (arith, k.2, reaches))

      kept_then : IsUp new → IsKept device new (length (commits ++ m.more))
      kept_then still = kept_at new still m.on stands_then (reaches_then still)

      -- an answer Ok says that all commits are flushed, and they stay in what comes by itself after it
      kept_ok : Rested device old new m.more → IsKept device new (length (commits ++ m.more))
      kept_ok r = by r.then
        where
          stands : StandsFor device history r.mid (commits ++ m.more)
          stands = r.grown t history commits h.since.stands

          kept : IsKept device r.mid (length (commits ++ m.more))
          kept = kept_at r.mid r.up r.on stands (r.reaches t history commits h.since.stands h.flushed)

          by : (new ≡ r.mid) ⊎ GoesOn device r.mid new → IsKept device new (length (commits ++ m.more))
          by (inl same) = subst (λ z. IsKept device z (length (commits ++ m.more))) (sym same) kept
          by (inr on) = λ n f le by left.
              on.since t history (commits ++ m.more) stands (device.clock (disk_of r.mid))
              (length (commits ++ m.more)) (omega arith) kept n f (omega (arith, le, on.time)) by left

      own_below : (n : ℕ) (more : History) → IfSome (commit_at n more) (λ p. p < n + length more)
      own_below n [] = tt
      own_below n (c ∷ cs) = let z : n < n + suc (length cs) = omega arith in z

      own_since : (n : ℕ) (more : History) → IfSome (commit_at n more) (λ p. n ≤ p)
      own_since n [] = tt
      own_since n (c ∷ cs) = let z : n ≤ n = omega arith in z

      known_then : StaysKnown device (disk_of new) exchange
      known_then ok = (
        length (commits ++ m.more),
        omega (arith, count_is, length-append commits m.more),
        below_by (commit_at (flushed_of opened + length added) m.more)
            (own_below (flushed_of opened + length added) m.more),
        kept_ok (m.rested ok),
      )
        where
          below_by : (o : Option ℕ) → IfSome o (λ p. p < flushed_of opened + length added + length m.more)
              → IfSome o (λ p. p < length (commits ++ m.more))
          below_by None k = tt
          below_by (Some p) k = omega (arith, k, count_is, length-append commits m.more)

      since_by : (o : Option ℕ) → IfSome o (λ p. flushed_of opened + length added ≤ p)
          → IfSome o (λ p. length commits ≤ p)
      since_by None k = tt
      since_by (Some p) k = omega (arith, k, count_is)

      tells_then : Tells device old new counts_then note
      tells_then = record {
        met = λ f. elim (cases_lt (device.fault_count (disk_of old)) (device.fault_count (disk_of new))) [
          | inl lt ↦ inl (omega arith)
          | inr ge ↦ inr (omega (arith, f.rose))
        ];
        since = λ n is. let k = s.counted.fallen n is in
            (k.0, omega (arith, k.1, on.faults), omega (arith, k.2, on.writes));
      }

      run_then : Run counts_then history (commits ++ m.more) (exchanges ++ exchange ∷ [])
      run_then = run_step (counts_over device first (disk_of opened) (disk_of old)) counts_then history commits m.more
          exchanges exchange (record {
            run = h.run;
            grows = record {
              faults = refl;
              faults_opened = refl;
              writes = refl;
              faults_after = on.faults;
              writes_after = on.writes;
            };
            snapshot = count_is;
            answered =
                m.answered t history commits h.since.stands h.flushed counts_then note count_is has_note tells_then;
            own = has_note;
            lawful = lawful history (commits ++ m.more) new stands_then;
            last = last;
            no_commit =
                λ k d l some. by (get_or exchanges k d).note.writes m.one (λ up. (s.counted.up up).1 k d l) some;
          })
        where
          by : (w : ℕ) → (m.more ≡ []) ⊎ ((c : Commit) × (m.more ≡ c ∷ []) × IsUp old) → (IsUp old → w ≡ 0) → 0 < w
              → note.commit ≡ None
          by w (inl n) none some = ap (commit_at (flushed_of opened + length added)) n
          by w (inr c) none some = absurd (let x : ⊥ = omega (arith, none c.2, some) in x)

      seen_then : IsSeenIn device history (commits ++ m.more) exchange old new
      seen_then = record {
        saw = subst (StandsFor device history old) (sym (saw_taken commits m.more note count_is)) h.since.stands;
        stored = λ ok. by m.one;
      }
        where
          by : (m.more ≡ []) ⊎ ((c : Commit) × (m.more ≡ c ∷ []) × IsUp old)
              → IfSome note.commit (λ p. StandsFor device history new (take (p + 1) (commits ++ m.more)))
          by (inl n) = subst (λ o. IfSome o (λ p. StandsFor device history new (take (p + 1) (commits ++ m.more))))
              (sym (ap (commit_at (flushed_of opened + length added)) n)) tt
          by (inr c) =
              let at : note.commit ≡ Some (length commits) =
              ap (commit_at (flushed_of opened + length added)) c.1 ∙ ap (λ n. Some n) count_is in
              let long : length (commits ++ m.more) ≤ length commits + 1 =
              omega (arith, length-append commits m.more, ap length c.1) in
              subst (λ o. IfSome o (λ p. StandsFor device history new (take (p + 1) (commits ++ m.more)))) (sym at)
              (subst (StandsFor device history new) (sym (take_all (length commits + 1) (commits ++ m.more) long))
              stands_then)

      lawful_then : Lawful first c0 opened new history (commits ++ m.more) (exchanges ++ exchange ∷ [])
          (caused_push device exchanges exchange opened old new s.chain m.caused left)
      lawful_then = record {
        run = run_then;
        since = record {
          lawful = since;
          opened_is = on.opened ∙ h.since.opened_is;
          stands = stands_then;
        };
        seen = seen_push device history (commits ++ m.more) exchanges exchange opened old new s.chain m.caused left
            (seen_more device history commits m.more (length history) exchanges opened old s.chain h.run.within h.seen)
            seen_then;
        flushed = reaches_then;
        kept = kept_then;
        safe = safe_push device one first c0 opened old new history commits exchanges exchange t h.since h.safe m.more
            m.on last
            (timed_by (device.clock (disk_of opened)) (device.clock (disk_of old)) exchanges s.timed)
            (since_by note.commit (own_since (flushed_of opened + length added) m.more)) known_then;
      }

    -- the run with one statement more
    pub goes : OpensToOne → HistoriesAreLawful device
        → State first c0 opened new (added ++ m.more) (exchanges ++ exchange ∷ [])
    goes one lawful = record {
      noted = noted_then;
      counted = counted_then;
      fixed = λ t. fixed_on device first (disk_of old) (disk_of new) c0 (s.fixed t) (on.pages t);
      timed = timed_then;
      chain = caused_push device exchanges exchange opened old new s.chain m.caused left;
      lawful = λ t f history since.
          subst (λ z. Lawful first c0 opened new history z (exchanges ++ exchange ∷ [])
          (caused_push device exchanges exchange opened old new s.chain m.caused left))
          (append_assoc history added m.more)
          (lawful_then one lawful t history since (s.lawful t f history since));
    }
