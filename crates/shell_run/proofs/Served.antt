-- What a run over an opened store answers for its text.
use Rattle.std.proofs.Common.{◌≡◌, ◌⊎◌, inl, inr, ℕ, ◌<◌, ◌≤◌, Bool, true, false, List, arith, refl, ◌∙◌, ap, subst}
use Rattle.std.specs.Prelude.{◌↔◌, ltb, Result, Ok, Err, IfOk, IfErr, IsErrOf, is_ok}
use Rattle.std.proofs.lemmas.Bool.{ltb-true, ltb-false}
use Rattle.disk_trait.specs.Device.{Rose, last_count}
use Rattle.disk_trait.specs.declared.device.Disk.{Ghosts as Disk}
use Rattle.disk_trait.specs.declared.stream.Sink.{Ghosts as Sink}
use Rattle.engine.specs.Opening.{IsNoStore}
use Rattle.engine.specs.Answers.{Pass}
use Rattle.shell_run.specs.Outcomes.{some_refused}
use Rattle.shell_run.specs.Crash.{HasSamePages}
use Rattle.shell_run.specs.RanOn.{RanOn}
use Rattle.shell_run.specs.RunMeets.{HasCauses, HasNotRun}
use Rattle.engine.specs.Opened.{Settings, OpenedAt}
use Rattle.shell_run.specs.Inner.Serving.{Ran, HasRunSteps, ServeMeets}
use Rattle.shell_run.specs.Inner.Statuses.{ending_number, stop_number}
use Rattle.engine.specs.Db.{DbValue}
use Rattle.shell_run.specs.declared.error.Stop.{Stop}
use Rattle.shell_run.specs.declared.error.Stop.TheVariants.{SinkFault, OutOfMemory}
use Rattle.shell_run.proofs.Streams.{appends_none}
use Rattle.shell_run.proofs.Standing.{as_before_same, same_pages, only_same}
use Rattle.shell_run.proofs.Ending.{answered_stop, answered_end, Stopped, stopped, ended}

-- the status of a run that ended says whether the device's count rose
three_rose : (before after status : ℕ) (refused : Bool) → before < last_count
    → status ≡ ending_number (ltb before after) refused → (status ≡ 3) ↔ Rose before after
three_rose before after status refused room is = by (ltb before after) refl is
  where
    not_three : (refused : Bool) → status ≡ ending_number false refused → status ≡ 3 → ⊥
    not_three true e f = omega arith
    not_three false e f = omega arith

    by : (failed : Bool) → ltb before after ≡ failed → status ≡ ending_number failed refused
        → (status ≡ 3) ↔ Rose before after
    by true e s = let k : before < after = ltb-true before after e in
        (λ three. omega (arith, k), λ rose. s)
    by false e s = let k : after ≤ before = ltb-false before after e in (
      λ three. absurd (not_three refused s three),
      λ rose. absurd (let x : ⊥ = omega (arith, k, room, rose) in x),
    )

-- where nothing was done
module _ {K D : Type 0} (sink : Sink K) (device : Disk D) (out : K) (disk : D) where
  pub idle_causes : (status : ℕ) → (status ≡ 2) ⊎ (status ≡ 6) ⊎ (status ≡ 8) ⊎ (status ≡ 5)
      → HasCauses sink device status out out disk disk
  idle_causes status n = record {
    status_4 = λ t e. absurd (let x : ⊥ = omega (arith, n, e) in x);
    no_store =
        λ t l. (λ e. omega (arith, n, e), λ e. omega (arith, n, e), λ e. omega (arith, n, e));
    keeps_4 = λ e. absurd (let x : ⊥ = omega (arith, n, e) in x);
    keeps_no_store = λ t none. only_same device disk;
    status_7 = λ e. absurd (let x : ⊥ = omega (arith, n, e) in x);
    status_3 = λ e. absurd (let x : ⊥ = omega (arith, n, e) in x);
    pages = λ t. same_pages device disk;
  }

  pub idle : (status : ℕ) → (status ≡ 2) ⊎ (status ≡ 6) ⊎ (status ≡ 8) ⊎ (status ≡ 5)
      → HasNotRun sink device status out out disk disk
  idle status n = record {
    nothing =
        record {
          sink = appends_none (sink.taken out);
          statuses =
              (λ e. omega (arith, n, e), λ e. omega (arith, n, e), λ e. omega (arith, n, e));
        };
    as_before = λ t s. as_before_same device disk s;
    only_read = λ t made. only_same device disk;
    memory = λ e. refl;
  }

  -- where memory ran out before the store was opened
  pub serve_short : (settings : Settings) (text : List ℕ) (status : ℕ) → status ≡ 5
      → ServeMeets sink device settings text status out out disk disk
  serve_short settings text status five =
      let n : (status ≡ 2) ⊎ (status ≡ 6) ⊎ (status ≡ 8) ⊎ (status ≡ 5) = inr (inr (inr five)) in
      record {
        range = (omega (arith, five), λ e. omega (arith, five, e), λ e. omega (arith, five, e));
        causes = idle_causes status n;
        headline = inl (idle status n);
      }

module _ {K D : Type 0} (sink : Sink K) (device : Disk D) (settings : Settings) (text : List ℕ) (out out' : K)
    (disk disk' : D) where
  -- the store that was opened, and what its steps left
  pub record Serves (c0 : ℕ) (s : DbValue D) (pass : Pass) (result : Result Bool Stop) : Type 0 where
    pub opened : OpenedAt device settings disk c0 s pass
    pub a_store : device.tells → IsNoStore (device.seen disk) → ⊥
    pub ran : HasRunSteps device text (sink.taken out) (sink.taken out') s pass disk' result

  pub serve_stopped : (c0 : ℕ) (s : DbValue D) (pass : Pass)
      (result : Result Bool Stop) (stop : Stop) (status : ℕ) → Serves c0 s pass result
      → result ≡ Err stop → IfErr result (λ e. (e ≡ SinkFault) ⊎ (e ≡ OutOfMemory))
      → (IsErrOf result SinkFault → Rose (sink.fault_count out) (sink.fault_count out'))
      → status ≡ stop_number stop → ServeMeets sink device settings text status out out' disk disk'
  serve_stopped c0 s pass result stop status h is error fault number =
      let e : (stop ≡ SinkFault) ⊎ (stop ≡ OutOfMemory) =
      subst (λ (z : Result Bool Stop). IfErr z (λ e. (e ≡ SinkFault) ⊎ (e ≡ OutOfMemory))) is
      error in
      let st : Stopped stop status = stopped stop status e number in
      let n : (status ≡ 5) ⊎ (status ≡ 7) = st.number in
      let r : HasRunSteps device text (sink.taken out) (sink.taken out') s pass disk' result = h.ran in
      let part : Ran text (sink.taken out) (sink.taken out') r.exchanges false =
      subst (λ (z : Result Bool Stop). Ran text (sink.taken out) (sink.taken out') r.exchanges
      (is_ok z)) is r.ran in
      let over : RanOn device settings disk disk' r.exchanges × (device.tells
      → HasSamePages device disk disk') = r.over settings disk c0 h.opened in
      record {
        range = (omega (arith, n), λ x. omega (arith, n, x), λ x. omega (arith, n, x));
        causes = record {
          status_4 = λ t x. absurd (let y : ⊥ = omega (arith, n, x) in y);
          no_store = λ t x. absurd (h.a_store t x);
          keeps_4 = λ x. absurd (let y : ⊥ = omega (arith, n, x) in y);
          keeps_no_store = λ t x. absurd (h.a_store t x);
          status_7 =
              λ x. fault
              (is ∙ ap (λ (z : Stop). let w : Result Bool Stop = Err z in w) (st.at_7 x));
          status_3 = λ x. absurd (let y : ⊥ = omega (arith, n, x) in y);
          pages = over.1;
        };
        headline =
            inr (record {
              a_store = h.a_store;
              exchanges = r.exchanges;
              answered =
                  answered_stop text (sink.taken out) (sink.taken out') r.exchanges status part n;
              ran =
                  over.0;
            });
      }

  pub serve_ended : (c0 : ℕ) (s : DbValue D) (pass : Pass)
      (result : Result Bool Stop) (refused : Bool) (status : ℕ) → Serves c0 s pass result
      → result ≡ Ok refused
      → (before after : ℕ) → before ≡ device.fault_count disk → after ≡ device.fault_count disk'
      → status ≡ ending_number (ltb before after) refused
      → ServeMeets sink device settings text status out out' disk disk'
  serve_ended c0 s pass result refused status h is before after first last told =
      let number : status ≡ ending_number
      (ltb (device.fault_count disk) (device.fault_count disk')) refused =
      subst (λ n. status ≡ ending_number (ltb (device.fault_count disk) n) refused) last
      (subst (λ n. status ≡ ending_number (ltb n after) refused) first told) in
      let failed : Bool = ltb (device.fault_count disk) (device.fault_count disk') in
      let n : (status ≡ 0) ⊎ (status ≡ 1) ⊎ (status ≡ 3) = ended failed refused status number in
      let r : HasRunSteps device text (sink.taken out) (sink.taken out') s pass disk' result = h.ran in
      let whole : Ran text (sink.taken out) (sink.taken out') r.exchanges true =
      subst (λ (z : Result Bool Stop). Ran text (sink.taken out) (sink.taken out') r.exchanges
      (is_ok z)) is r.ran in
      let flag : refused ≡ some_refused r.exchanges =
      subst (λ (z : Result Bool Stop). IfOk z (λ refused. refused ≡ some_refused r.exchanges)) is
      r.flag in
      let over : RanOn device settings disk disk' r.exchanges × (device.tells
      → HasSamePages device disk disk') = r.over settings disk c0 h.opened in
      record {
        range = (omega (arith, n), λ x. omega (arith, n, x), λ x. omega (arith, n, x));
        causes = record {
          status_4 = λ t x. absurd (let y : ⊥ = omega (arith, n, x) in y);
          no_store = λ t x. absurd (h.a_store t x);
          keeps_4 = λ x. absurd (let y : ⊥ = omega (arith, n, x) in y);
          keeps_no_store = λ t x. absurd (h.a_store t x);
          status_7 = λ x. absurd (let y : ⊥ = omega (arith, n, x) in y);
          status_3 =
              λ x. three_rose (device.fault_count disk)
              (device.fault_count disk') status refused h.opened.below_last.0 number;
          pages = over.1;
        };
        headline =
            inr (record {
              a_store = h.a_store;
              exchanges = r.exchanges;
              answered =
                  answered_end text (sink.taken out)
                  (sink.taken out') r.exchanges status failed refused whole flag number;
              ran = over.0;
            });
      }
