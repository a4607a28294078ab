-- From the exchanges of a run to its status.
use Rattle.std.proofs.Common.{◌≡◌, ◌≢◌, ◌⊎◌, inl, inr, ℕ, Bool, true, false, List, arith, refl, sym, ◌∙◌, ap}
use Rattle.std.specs.Prelude.{Option, Result, Err, IsErrOf}
use Rattle.shell_run.specs.Run.{Exchange}
use Rattle.shell_run.specs.Outcomes.{Answered, some_refused}
use Rattle.shell_run.specs.Inner.Serving.{Ran}
use Rattle.engine.specs.Opening as opening
use Rattle.engine.specs.Opening.{OpenFault}
use Rattle.shell_run.specs.Inner.Statuses.{ending_number, stop_number, stop_at}
use Rattle.shell_run.specs.declared.error.Stop.{Stop}
use Rattle.shell_run.specs.declared.error.Stop.TheVariants.{SourceFault, TooLong, NotAStore, DiskFault, SinkFault}
use Rattle.shell_run.specs.declared.error.Stop.TheVariants.{OutOfMemory}

pub answered_stop : (text : List ℕ) (a c : Option (List ℕ)) (exchanges : List Exchange) (status : ℕ)
    → Ran text a c exchanges false → (status ≡ 5) ⊎ (status ≡ 7) → Answered text status a c exchanges
answered_stop text a c exchanges status r s = record {
  so_far = r.so_far;
  statuses = elim s [ inl five ↦ inr (inr (inr (inl five))) | inr seven ↦ inr (inr (inr (inr seven))) ];
  whole = elim s [ inl five ↦ inl five | inr seven ↦ inr (inl seven) ];
  one = λ e. absurd (not_one s e);
  zero = λ e. absurd (not_zero s e);
}
  where
    not_one : (status ≡ 5) ⊎ (status ≡ 7) → status ≡ 1 → ⊥
    not_one (inl h) e = omega arith
    not_one (inr h) e = omega arith

    not_zero : (status ≡ 5) ⊎ (status ≡ 7) → status ≡ 0 → ⊥
    not_zero (inl h) e = omega arith
    not_zero (inr h) e = omega arith

one_refused : (failed refused : Bool) → ending_number failed refused ≡ 1 → refused ≡ true
one_refused true refused e = absurd (omega arith)
one_refused false true e = refl
one_refused false false e = absurd (omega arith)

zero_refused : (failed refused : Bool) → ending_number failed refused ≡ 0 → refused ≡ false
zero_refused true refused e = absurd (omega arith)
zero_refused false true e = absurd (omega arith)
zero_refused false false e = refl

pub answered_end : (text : List ℕ) (a c : Option (List ℕ)) (exchanges : List Exchange) (status : ℕ)
    (failed refused : Bool) → Ran text a c exchanges true → refused ≡ some_refused exchanges
    → status ≡ ending_number failed refused → Answered text status a c exchanges
answered_end text a c exchanges status failed refused r f s = record {
  so_far = r.so_far;
  statuses = ending failed refused s;
  whole = inr (inr (r.whole refl));
  one = λ e. sym f ∙ one_refused failed refused (sym s ∙ e);
  zero = λ e. sym f ∙ zero_refused failed refused (sym s ∙ e);
}
  where
    ending : (failed refused : Bool) → status ≡ ending_number failed refused
        → (status ≡ 0) ⊎ (status ≡ 1) ⊎ (status ≡ 3) ⊎ (status ≡ 5) ⊎ (status ≡ 7)
    ending true refused e = inr (inr (inl e))
    ending false true e = inr (inl e)
    ending false false e = inl e

-- the status of a script that was not read to its end
pub record Unread (stop : Stop) (status : ℕ) : Type 0 where
  pub number : (status ≡ 6) ⊎ (status ≡ 8) ⊎ (status ≡ 5)
  pub at_6 : status ≡ 6 → stop ≡ SourceFault
  pub at_8 : status ≡ 8 → stop ≡ TooLong

pub unread : (stop : Stop) (status : ℕ) → status ≡ stop_number stop
    → (stop ≡ SourceFault) ⊎ (stop ≡ TooLong) ⊎ (stop ≡ OutOfMemory) → Unread stop status
unread stop status is (inl s) = record {
  number = inl (is ∙ ap stop_number s);
  at_6 = λ e. s;
  at_8 = λ e. absurd (let k : status ≡ 6 = is ∙ ap stop_number s in let x : ⊥ = omega arith in x);
}
unread stop status is (inr (inl s)) = record {
  number = inr (inl (is ∙ ap stop_number s));
  at_6 = λ e. absurd (let k : status ≡ 8 = is ∙ ap stop_number s in let x : ⊥ = omega arith in x);
  at_8 = λ e. s;
}
unread stop status is (inr (inr s)) = let k : status ≡ 5 = is ∙ ap stop_number s in record {
  number = inr (inr k);
  at_6 = λ e. absurd (let x : ⊥ = omega arith in x);
  at_8 = λ e. absurd (let x : ⊥ = omega arith in x);
}

-- the status of a store that was not opened
pub record Unopened (stop : Stop) (status : ℕ) : Type 0 where
  pub number : (status ≡ 4) ⊎ (status ≡ 3) ⊎ (status ≡ 5)
  pub at_4 : status ≡ 4 → stop ≡ NotAStore
  pub at_3 : status ≡ 3 → stop ≡ DiskFault
  pub at_5 : status ≡ 5 → stop ≡ OutOfMemory

pub unopened : (stop : Stop) (status : ℕ) → status ≡ stop_number stop
    → (stop ≡ NotAStore) ⊎ (stop ≡ DiskFault) ⊎ (stop ≡ OutOfMemory) → Unopened stop status
unopened stop status is (inl s) = let k : status ≡ 4 = is ∙ ap stop_number s in record {
  number = inl k;
  at_4 = λ e. s;
  at_3 = λ e. absurd (let x : ⊥ = omega arith in x);
  at_5 = λ e. absurd (let x : ⊥ = omega arith in x);
}
unopened stop status is (inr (inl s)) = let k : status ≡ 3 = is ∙ ap stop_number s in record {
  number = inr (inl k);
  at_4 = λ e. absurd (let x : ⊥ = omega arith in x);
  at_3 = λ e. s;
  at_5 = λ e. absurd (let x : ⊥ = omega arith in x);
}
unopened stop status is (inr (inr s)) = let k : status ≡ 5 = is ∙ ap stop_number s in record {
  number = inr (inr k);
  at_4 = λ e. absurd (let x : ⊥ = omega arith in x);
  at_3 = λ e. absurd (let x : ⊥ = omega arith in x);
  at_5 = λ e. s;
}

-- why a run stops where the store is not opened
pub stop_is : (why : OpenFault) (stop : Stop) → stop ≡ stop_at why
    → (stop ≡ NotAStore) ⊎ (stop ≡ DiskFault) ⊎ (stop ≡ OutOfMemory)
stop_is opening.NotAStore stop e = inl e
stop_is opening.DiskFault stop e = inr (inl e)
stop_is opening.OutOfMemory stop e = inr (inr e)

pub at_store : (why : OpenFault) → stop_at why ≡ NotAStore → why ≡ opening.NotAStore
at_store opening.NotAStore e = refl
at_store opening.DiskFault e = absurd (let x : ⊥ = cc in x)
at_store opening.OutOfMemory e = absurd (let x : ⊥ = cc in x)

pub at_fault : (why : OpenFault) → stop_at why ≡ DiskFault → why ≡ opening.DiskFault
at_fault opening.NotAStore e = absurd (let x : ⊥ = cc in x)
at_fault opening.DiskFault e = refl
at_fault opening.OutOfMemory e = absurd (let x : ⊥ = cc in x)

pub at_memory : (why : OpenFault) → stop_at why ≡ OutOfMemory → why ≡ opening.OutOfMemory
at_memory opening.NotAStore e = absurd (let x : ⊥ = cc in x)
at_memory opening.DiskFault e = absurd (let x : ⊥ = cc in x)
at_memory opening.OutOfMemory e = refl

pub is_err : {T : Type 0} (a b : Stop) → a ≡ b → IsErrOf {T = T} (Err a) b
is_err {T} a b e = ap (λ z. let r : Result T Stop = Err z in r) e

pub not_run : (status : ℕ) → (status ≡ 6) ⊎ (status ≡ 8) ⊎ (status ≡ 5) → (status ≢ 0) × (status ≢ 1) × (status ≢ 7)
not_run status (inl h) = (λ e. omega arith, λ e. omega arith, λ e. omega arith)
not_run status (inr (inl h)) = (λ e. omega arith, λ e. omega arith, λ e. omega arith)
not_run status (inr (inr h)) = (λ e. omega arith, λ e. omega arith, λ e. omega arith)

-- the status of a run that stopped within its lines
pub record Stopped (stop : Stop) (status : ℕ) : Type 0 where
  pub number : (status ≡ 5) ⊎ (status ≡ 7)
  pub at_7 : status ≡ 7 → stop ≡ SinkFault

pub stopped : (stop : Stop) (status : ℕ) → (stop ≡ SinkFault) ⊎ (stop ≡ OutOfMemory) → status ≡ stop_number stop
    → Stopped stop status
stopped stop status (inl s) is = record { number = inr (is ∙ ap stop_number s); at_7 = λ e. s }
stopped stop status (inr s) is = let k : status ≡ 5 = is ∙ ap stop_number s in
    record { number = inl k; at_7 = λ e. absurd (let x : ⊥ = omega arith in x) }

-- the status of a run that ended
pub ended : (failed refused : Bool) (status : ℕ) → status ≡ ending_number failed refused
    → (status ≡ 0) ⊎ (status ≡ 1) ⊎ (status ≡ 3)
ended true refused status e = inr (inr e)
ended false true status e = inr (inl e)
ended false false status e = inl e
