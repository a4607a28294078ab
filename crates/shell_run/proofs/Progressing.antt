-- How far a script has come.
use Rattle.std.proofs.Common.{◌≡◌, ◌⊎◌, inl, inr, ℕ, ◌+◌, ◌<◌, Bool, true, false, ◌||◌, List, [], ◌∷◌, ◌++◌, length}
use Rattle.std.proofs.Common.{append_assoc, length-append, ◌≤◌, arith, refl, sym, ◌∙◌, ap, subst}
use Rattle.std.specs.Prelude.{Option, Some, None, Ok, Err}
use Rattle.std.specs.List.{All, list_any}
use Rattle.std.specs.Str.Lines.{lines}
use Rattle.std.proofs.lemmas.List.{append-nil, flat_map_more}
use Rattle.std.proofs.lemmas.Bool.{cases_lt}
use Rattle.std.proofs.lemmas.List.Elements.{All-nil, All-push, All-weaker}
use Rattle.disk_trait.specs.Files.{Files}
use Rattle.disk_trait.specs.declared.device.Disk.{Ghosts as Disk}
use Rattle.ts_config.specs.Known.{Known, first_known}
use Rattle.shell_script.specs.Steps.{Step}
use Rattle.shell_script.specs.StepsOf.{steps_of}
use Rattle.shell_script.specs.Texts.{said}
use Rattle.shell_script.proofs.StepsLaw.{one_reading}
use Rattle.shell_script.proofs.Rising.{Rise, number_of, steps_rise}
use Rattle.engine.specs.Opening.{OpensToOne}
use Rattle.engine.specs.Standing.{HistoriesAreLawful}
use Rattle.engine.specs.Answers.{Pass}
use Rattle.engine.specs.Db.{DbValue, disk_of, fault_of, flushed_of, IsUp}
use Rattle.engine.specs.Finding.{History}
use Rattle.engine.specs.Opened.{Settings, IsFixedSince, IsLawfulSince, OpenedAt}
use Rattle.shell_run.specs.declared.error.Stop.{Stop}
use Rattle.shell_run.specs.Defining.{Becomes}
use Rattle.shell_run.specs.Run.{Exchange, Place}
use Rattle.shell_run.specs.Crash.{HasSamePages, Reaches, CrashSafe, Means}
use Rattle.shell_run.specs.RanOn.{counts_over, RanOn, IsLawfulRun}
use Rattle.shell_run.specs.Script.{IsExchangeOf, AreExchanges, printed_exchange, printed_exchanges}
use Rattle.shell_run.specs.Inner.Sending.{Sends, SendsBut}
use Rattle.shell_run.specs.declared.sending.TheConstants.{PIECE_BYTES}
use Rattle.shell_run.specs.Outcomes.{HasPrinted, is_refusal, some_refused, last_text}
use Rattle.shell_run.specs.Inner.Serving.{Served, Passed, HasRunSteps}
use Rattle.shell_run.specs.declared.serving.RunState.{RunState}
use Rattle.shell_run.proofs.Streams.{appends_none, puts_few, puts_none}
use Rattle.shell_run.proofs.Safety.{reached}
use Rattle.shell_run.proofs.Moving.{Moves}
use Rattle.shell_run.proofs.Calling.{moves}
use Rattle.shell_run.proofs.Going.{State, Lawful, goes, exchange_of, note_of}

-- a step more at the end
exchanges_more : (known next last : Known) (ss : List Step) (exchanges : List Exchange) (s : Step) (exchange : Exchange)
    → AreExchanges known ss exchanges next → IsExchangeOf next s exchange
    → Becomes next exchange.statement exchange.reply last
    → AreExchanges known (ss ++ s ∷ []) (exchanges ++ exchange ∷ []) last
exchanges_more known next last [] exchanges s exchange h k b = (
  exchange,
  [],
  last,
  ap (λ z. z ++ exchange ∷ []) h.0,
  subst (λ z. IsExchangeOf z s exchange) h.1 k,
  subst (λ z. Becomes z exchange.statement exchange.reply last) h.1 b,
  (refl, refl),
)
exchanges_more known next last (t ∷ ss) exchanges s exchange h k b = (
  h.0,
  h.1 ++ exchange ∷ [],
  h.2,
  ap (λ z. z ++ exchange ∷ []) h.3,
  h.4,
  h.5,
  exchanges_more h.2 next last ss h.1 s exchange h.6 k b,
)

any_push : {X : Type 0} (p : X → Bool) (xs : List X) (x : X) → list_any p (xs ++ x ∷ []) ≡ (list_any p xs || p x)
any_push p [] x = or_false (p x)
  where
    or_false : (b : Bool) → (b || false) ≡ b
    or_false true = refl
    or_false false = refl
any_push p (y ∷ xs) x = ap (λ b. p y || b) (any_push p xs x) ∙ or_assoc (p y) (list_any p xs) (p x)
  where
    or_assoc : (a b c : Bool) → (a || (b || c)) ≡ ((a || b) || c)
    or_assoc true b c = refl
    or_assoc false b c = refl

last_is : (exchanges : List Exchange) (exchange : Exchange)
    → last_text (exchanges ++ exchange ∷ []) ≡ printed_exchange exchange
last_is [] exchange = refl
last_is (r ∷ []) exchange = refl
last_is (r ∷ s ∷ exchanges) exchange = last_is (s ∷ exchanges) exchange

pub went_badly : (n : ℕ) → false ≡ true → n < PIECE_BYTES
went_badly n e = absurd (let x : ⊥ = cc in x)

fits_last : (exchanges : List Exchange) (exchange : Exchange) (n : ℕ) → n < PIECE_BYTES
    → n + length (printed_exchange exchange) < PIECE_BYTES + length (last_text (exchanges ++ exchange ∷ []))
fits_last exchanges exchange n less = let last : length (last_text (exchanges ++ exchange ∷ []))
    ≡ length (printed_exchange exchange) = ap length (last_is exchanges exchange) in omega (arith, less, last)

pub some_piece : 0 < PIECE_BYTES
some_piece = let z : 0 < 8192 = omega arith in z

-- the exchanges of the steps so far, of which some text may be unsent
has_printed : (a c : Option (List ℕ)) (text : List ℕ) (exchanges : List Exchange) (done left : List Step)
    (known : Known) (waiting : List ℕ) (well : Bool) → steps_of text ≡ done ++ left
    → AreExchanges first_known done exchanges known → SendsBut (PIECE_BYTES + length
    (last_text exchanges)) a c (printed_exchanges exchanges) waiting well → HasPrinted text a c exchanges
has_printed a c text exchanges done left known waiting well e h k = record {
  done = done;
  left = left;
  script = (one_reading text (done ++ left)).1 (sym e);
  known = known;
  each = h;
  sent = k.0.sent;
  unsent = k.0.unsent;
  printed = k.0.all;
  took = k.0.took;
  few = k.1;
}

-- what holds of all devices, files and logs
pub record Laws {D : Type 0} (device : Disk D) : Type 0 where
  pub image : (d : D) → device.tells → device.image d (device.clock d) (device.seen d)
  pub one : OpensToOne
  pub lawful : HistoriesAreLawful device

module _ {D : Type 0} (device : Disk D) where
  -- the steps so far were answered, and these are left
  pub record Progress (before now : Option (List ℕ)) (opened : DbValue D) (pass : Pass) (run_state : RunState D)
      (text : List ℕ) (left : List Step) (well : Bool) : Type 0 where
    pub added : History
    pub exchanges : List Exchange
    pub up : IsUp opened
    pub high : ℕ
    pub last : All (λ (r : Exchange). r.place.step < high) exchanges
    pub rise : Rise high left
    pub done : List Step
    pub script : steps_of text ≡ done ++ left
    pub each : AreExchanges first_known done exchanges run_state.configs
    pub printed : SendsBut (PIECE_BYTES + length (last_text exchanges)) before now
        (printed_exchanges exchanges) run_state.waiting.items well
    pub room : well ≡ true → length run_state.waiting.items < PIECE_BYTES
    pub flag : run_state.refused ≡ some_refused exchanges
    pub state : (settings : Settings) (first : D) (c0 : ℕ) → OpenedAt device settings first c0 opened pass
        → State device first c0 opened run_state.store added exchanges

  start_lawful : (settings : Settings) (first : D) (c0 : ℕ) (opened : DbValue D) (pass : Pass)
      → OpenedAt device settings first c0 opened pass → (history : History)
      → IsLawfulSince device first c0 opened history → HistoriesAreLawful device
      → Lawful device first c0 opened opened history (history ++ []) [] refl
  start_lawful settings first c0 opened pass o history h lawful =
      subst (λ z. Lawful device first c0 opened opened history z [] refl) (sym (append-nil history)) (record {
        run = record {
          lawful = lawful history history opened h.stands;
          begins = ([], append-nil history);
          answers = All-nil _;
          within = All-nil _;
          own = λ k l m. absurd (omega arith);
          order = All-nil _;
        };
        since = record { lawful = h; opened_is = o.opened; stands = h.stands };
        seen = tt;
        flushed = λ up. omega (arith, h.flushed);
        kept = λ up. h.kept;
        safe = record { known = All-nil _; fresh = All-nil _ };
      })

  pub progress_start : Laws device → (a : Option (List ℕ)) (pass : Pass) (run_state : RunState D) (text : List ℕ)
      → IsUp run_state.store → run_state.configs ≡ first_known → run_state.waiting.items ≡ []
      → run_state.refused ≡ false → Progress a a run_state.store pass run_state text (steps_of text) true
  progress_start laws a pass run_state text up k w f = record {
    added = [];
    exchanges = [];
    up = up;
    high = 1;
    last = All-nil _;
    rise = steps_rise 0 false 1 (lines text);
    done = [];
    script = refl;
    each = (refl, k);
    printed = (record { sent = []; unsent = []; all = refl; took = appends_none a; waits = λ e. sym w }, some_piece);
    room = λ e. subst (λ z. length z < PIECE_BYTES) (sym w) some_piece;
    flag = f;
    state = λ settings first c0 o. record {
      noted = record {
        order = All-nil _;
        owed = All-nil _;
        one_count = All-nil _;
        failed = All-nil _;
        failed_only = All-nil _;
        called = All-nil _;
        counted = All-nil _;
        opening = o.no_fall;
        faults = omega arith;
        writes = omega (arith, o.no_write_failed);
      };
      counted = record {
        low = (o.no_fall, omega (arith, o.no_write_failed));
        room = o.below_last.0;
        up = λ u. (o.below_last.1, All-nil _);
        fallen = λ f d. absurd (let x : None ≡ Some f = sym up ∙ d in let y : ⊥ = cc in y);
        told = All-nil _;
      };
      fixed = o.fixed;
      timed = record { later = omega arith; within = All-nil _; order = All-nil _ };
      chain = refl;
      lawful = λ t s history h.
          start_lawful settings first c0 run_state.store pass o history h laws.lawful;
    };
  }

  -- a run keeps the page file
  kept_pages : Laws device → (first disk : D) (c0 : ℕ) → device.tells → IsFixedSince device first c0 disk
      → HasSamePages device first disk
  kept_pages laws first disk c0 t f = record {
    now = f.pages (device.clock disk) (device.seen disk) f.began.1 (omega arith) (laws.image disk t);
    images = λ m c ge le left. elim (cases_lt m c0) [
      | inl lt ↦ (c, f.early m c ge lt left, refl)
      | inr above ↦ (device.seen first, laws.image first t, f.pages m c above le left)
    ];
  }

  -- what a run over a lawful device means, at its end
  module _ (laws : Laws device) (t : device.tells) (settings : Settings) (first : D) (c0 : ℕ) (opened s : DbValue D)
      (pass : Pass) (added : History) (exchanges : List Exchange) (o : OpenedAt device settings first c0 opened pass)
      (st : State device first c0 opened s added exchanges) (history : History)
      (h : IsLawfulSince device first c0 opened history)
      (l : Lawful device first c0 opened s history (history ++ added) exchanges st.chain) where
    abbrev commits : History
    commits = history ++ added

    fixed : IsFixedSince device first c0 (disk_of s)
    fixed = st.fixed t

    reaches : (m : ℕ) (c : Files) → c0 ≤ m → m ≤ device.clock (disk_of s) → device.image (disk_of s) m c
        → Reaches c m history commits exchanges
    reaches = reached device laws.one first c0 opened s history commits exchanges l.since l.safe

    crash : CrashSafe device first (disk_of s) history commits exchanges
    crash = record {
      c0 = c0;
      began = fixed.began;
      clocks = λ k d n ok. let w = st.timed.within k d n in
          (omega (arith, w.0, (o.fixed t).began.1), w.1);
      early = fixed.early;
      late = reaches;
      pages = fixed.pages;
    }

    means : Means device (counts_over device first (disk_of opened) (disk_of s)) first
        (disk_of s) history commits exchanges
    means =
        let r : Reaches (device.seen (disk_of s)) (device.clock (disk_of s)) history commits exchanges =
        reaches (device.clock (disk_of s)) (device.seen (disk_of s)) fixed.began.1 (omega arith)
        (laws.image (disk_of s) t) in
        record {
          is_first = h.entry;
          last = r.kept;
          more = r.begins.0;
          all = r.begins.1;
          is_last = r.opens;
          in_doubt = λ some. doubt r some (fault_of s) refl;
          crash = crash;
        }
      where
        doubt : (r : Reaches (device.seen (disk_of s)) (device.clock (disk_of s)) history commits exchanges)
            → 0 < length r.begins.0 → (d : Option ℕ) → fault_of s ≡ d
            → device.fault_count first < device.fault_count (disk_of s)
        doubt r some (Some n) is = omega (arith, (st.counted.fallen n is).0, (st.counted.fallen n is).1)
        doubt r some None is =
            let k = l.kept is (device.clock (disk_of s)) (device.seen (disk_of s)) (omega arith) (omega arith)
            (laws.image (disk_of s) t) in
            let same : length k.0 ≡ length r.kept =
            ap length (laws.one (device.seen (disk_of s)) k.0 r.kept k.1 r.opens) in
            absurd (let x : ⊥ = omega (
              arith,
              some,
              k.2,
              same,
              ap length r.begins.1,
              length-append r.kept r.begins.0,
            ) in x)

    lawful_run : IsLawfulRun device history commits (counts_over device first (disk_of opened) (disk_of s)) first
        (disk_of s) exchanges opened s st.chain
    lawful_run = record {
      run = l.run;
      stood_for = h.stands;
      seen = l.seen;
      stands_for = l.since.stands;
      means = means;
    }

  ran_by : Laws device → (settings : Settings) (first : D) (c0 : ℕ) (opened s : DbValue D) (pass : Pass)
      (added : History) (exchanges : List Exchange) → OpenedAt device settings first c0 opened pass → IsUp opened
      → State device first c0 opened s added exchanges
      → RanOn device settings first (disk_of s) exchanges × (device.tells → HasSamePages device first (disk_of s))
  ran_by laws settings first c0 opened s pass added exchanges o up st = (
    record {
      opened = opened;
      last = s;
      closed = refl;
      up = up;
      limits = o.limits;
      began = o.time;
      caused = st.chain;
      timed = st.timed;
      noted = st.noted;
      lawful = λ t f. let h = o.lawful t f in (
        h.0,
        h.0 ++ added,
        lawful_run laws t settings first c0 opened s pass added exchanges o st h.0 h.1 (st.lawful t f h.0 h.1),
      );
    },
    λ t. kept_pages laws first (disk_of s) c0 t (st.fixed t),
  )

  -- one step more was answered
  pub progress_step : Laws device → (a b c : Option (List ℕ)) (opened : DbValue D) (pass : Pass) (old new : RunState D)
      (text : List ℕ) (s : Step) (left : List Step) (well : Bool) → Progress a b opened pass old text (s ∷ left) true
      → Served device s old new b c well → Progress a c opened pass new text left well
  progress_step laws a b c opened pass old new text s left well p t =
      let number : ℕ = number_of s in
      let place : Place = record { step = number; session = t.session; turn = 0 } in
      let lower : All (λ (r : Exchange). r.place.step < number) p.exchanges = All-weaker (λ (r : Exchange). r.place.step
      < p.high) (λ (r : Exchange). r.place.step < number) (λ r l. omega (arith, l, p.rise.0)) p.exchanges p.last in
      let m : Moves device old.store new.store old.configs number t.turned.statement t.reply =
      moves device old.store new.store old.pass new.pass old.configs number t.turned.statement t.reply
      t.turned.answered in
      let exchange : Exchange = exchange_of place old.configs number t.turned.statement t.reply
      (note_of device old.store new.store (flushed_of opened + length p.added) m.more) in
      record {
        added = p.added ++ m.more;
        exchanges = p.exchanges ++ exchange ∷ [];
        up = p.up;
        high = number + 1;
        last = All-push (λ (r : Exchange). r.place.step < number + 1) p.exchanges exchange
            (All-weaker (λ (r : Exchange). r.place.step < number) (λ (r : Exchange). r.place.step < number + 1)
            (λ r l. omega (arith, l)) p.exchanges lower) (omega arith);
        rise = p.rise.1;
        done = p.done ++ s ∷ [];
        script = p.script ∙ sym (append_assoc p.done (s ∷ []) left);
        each = exchanges_more first_known old.configs new.configs p.done p.exchanges s exchange p.each (record {
          step = refl;
          numbered = refl;
          turn = refl;
          before = refl;
          says = t.turned.says;
        }) t.turned.becomes;
        printed = subst (λ z. SendsBut (PIECE_BYTES + length (last_text (p.exchanges ++ exchange ∷ []))) a c z
            new.waiting.items well) (flat_map_more printed_exchange [] p.exchanges exchange)
            (puts_few (PIECE_BYTES + length (last_text (p.exchanges ++ exchange ∷ []))) a b c
            (printed_exchanges p.exchanges) old.waiting.items (said t.session t.reply) new.waiting.items well
            p.printed.0 t.text (fits_last p.exchanges exchange (length old.waiting.items) (p.room refl)));
        room = t.few;
        flag = t.flag ∙ ap (λ b. b || is_refusal t.reply) p.flag
            ∙ sym (any_push (λ (r : Exchange). is_refusal r.reply) p.exchanges exchange);
        state = λ settings first c0 o. goes device first c0 opened old.store new.store p.added p.exchanges place
            old.configs number t.turned.statement t.reply (p.state settings first c0 o) m lower
            laws.one laws.lawful;
      }

  -- the clause of `serve_steps`, where the run stopped
  pub stopped_out : Laws device → (a c : Option (List ℕ)) (opened : DbValue D) (pass : Pass) (run_state : RunState D)
      (text : List ℕ) (left : List Step) (stop : Stop) → Progress a c opened pass run_state text left false
      → HasRunSteps {E = Stop} device text a c opened pass (disk_of run_state.store) (Err stop)
  stopped_out laws a c opened pass run_state text left stop p = record {
    exchanges = p.exchanges;
    ran = record {
      so_far = has_printed a c text p.exchanges p.done left run_state.configs run_state.waiting.items false p.script
          p.each p.printed;
      whole = λ e. cc;
    };
    flag = tt;
    over = λ settings first c0 o. ran_by laws settings first c0 opened run_state.store pass p.added p.exchanges o p.up
        (p.state settings first c0 o);
  }

  -- more was written of what waits
  pub progress_sent : (a b c : Option (List ℕ)) (opened : DbValue D) (pass : Pass) (old new : RunState D)
      (text : List ℕ) (left : List Step) (well : Bool) → Progress a b opened pass old text left true
      → new.store ≡ old.store → new.configs ≡ old.configs → new.refused ≡ old.refused
      → Sends b c old.waiting.items new.waiting.items well → (well ≡ true → length new.waiting.items < PIECE_BYTES)
      → Progress a c opened pass new text left well
  progress_sent a b c opened pass old new text left well p s k f t room = record {
    added = p.added;
    exchanges = p.exchanges;
    up = p.up;
    high = p.high;
    last = p.last;
    rise = p.rise;
    done = p.done;
    script = p.script;
    each = subst (AreExchanges first_known p.done p.exchanges) (sym k) p.each;
    printed = puts_none (PIECE_BYTES + length (last_text p.exchanges)) a b c (printed_exchanges p.exchanges)
        old.waiting.items new.waiting.items well p.printed.0 t (omega (arith, p.room refl));
    room = room;
    flag = f ∙ p.flag;
    state = λ settings first c0 o. subst (λ x. State device first c0 opened x p.added p.exchanges) (sym s)
        (p.state settings first c0 o);
  }

  pub progress_left : (a b : Option (List ℕ)) (opened : DbValue D) (pass : Pass) (run_state : RunState D)
      (text : List ℕ) (left other : List Step) (well : Bool) → Progress a b opened pass run_state text left well
      → left ≡ other → Progress a b opened pass run_state text other well
  progress_left a b opened pass run_state text left other well p e =
      subst (λ z. Progress a b opened pass run_state text z well) e p

  -- the run stopped in a step
  pub step_stop : Laws device → (a b c : Option (List ℕ)) (opened : DbValue D) (pass : Pass) (old new : RunState D)
      (text : List ℕ) (s : Step) (left : List Step) (stop : Stop)
      → Progress a b opened pass old text (s ∷ left) true
      → Served device s old new b c false ⊎ Passed old new b c false
      → HasRunSteps {E = Stop} device text a c opened pass (disk_of new.store) (Err stop)
  step_stop laws a b c opened pass old new text s left stop p (inl t) =
      stopped_out laws a c opened pass new text left stop
      (progress_step laws a b c opened pass old new text s left false p t)
  step_stop laws a b c opened pass old new text s left stop p (inr t) =
      stopped_out laws a c opened pass new text (s ∷ left) stop (progress_sent a b c opened pass old new text
      (s ∷ left) false p t.same.0 t.same.2 t.same.3 t.text (went_badly (length new.waiting.items)))

  pub step_goes : Laws device → (a b c : Option (List ℕ)) (opened : DbValue D) (pass : Pass) (old new : RunState D)
      (text : List ℕ) (s : Step) (left : List Step) → Progress a b opened pass old text (s ∷ left) true
      → Served device s old new b c true ⊎ Passed old new b c true → Progress a c opened pass new text left true
  step_goes laws a b c opened pass old new text s left p (inl t) =
      progress_step laws a b c opened pass old new text s left true p t
  step_goes laws a b c opened pass old new text s left p (inr t) =
      absurd (let e : true ≡ false = t.short in let x : ⊥ = cc in x)

  -- the clause of `serve_steps`, where all steps were answered and all text was written
  pub ended_out : Laws device → (a c : Option (List ℕ)) (opened : DbValue D) (pass : Pass) (run_state : RunState D)
      (text : List ℕ) → Progress a c opened pass run_state text [] true → run_state.waiting.items ≡ []
      → HasRunSteps {E = Stop} device text a c opened pass (disk_of run_state.store) (Ok run_state.refused)
  unfolding has_printed
  ended_out laws a c opened pass run_state text p empty = record {
    exchanges = p.exchanges;
    ran = record {
      so_far = has_printed a c text p.exchanges p.done [] run_state.configs run_state.waiting.items true p.script
          p.each p.printed;
      whole = λ t. (refl, p.printed.0.waits refl ∙ empty);
    };
    flag = p.flag;
    over = λ settings first c0 o. ran_by laws settings first c0 opened run_state.store pass p.added p.exchanges o p.up
        (p.state settings first c0 o);
  }
