-- What a state says of its log, at the states that follow the first run, and not where one thing of them is broken.
use Rattle.std.proofs.Common.{◌≡◌, ◌<◌, ℕ, List, [], ◌∷◌, length, refl, ap, ◌∙◌, arith}
use Rattle.std.specs.Prelude.{Option, Some, None}
use Rattle.page_types.specs.Numbers.{u16_bytes, u32_bytes, u64_bytes, zeros}
use Rattle.page_types.specs.Encoding.{page_bytes, front_bytes, framed, head_bytes, body_bytes}
use Rattle.page_types.specs.Edits.{used_in}
use Rattle.page_types.specs.declared.page.Name.{Name}
use Rattle.page_types.specs.declared.page.Body.TheVariants as body
use Rattle.page_types.specs.declared.record.Edit.TheVariants.{Delta}
use Rattle.page_types.specs.declared.record.Record.{Record}
use Rattle.page_types.specs.declared.record.Kind.TheVariants as kind
use Rattle.core_state.specs.Log.{Log}
use Rattle.core_state.specs.States.{StateValue, StateTells, RiseBySerial}
use Rattle.core_state.specs.States.{state_of, size_of, edited_size, transaction, done_by}
use Rattle.core_state.specs.declared.transactions.Transaction.{Transaction}
use Rattle.core_state.specs.declared.answers.Fate.TheVariants.{Running, Committed}
use Rattle.core_state.proofs.Worked as first
use Rattle.core_state.proofs.WorkedRun as run

-- the states after the placed head and after the commit
abbrev placed : StateValue
placed = state_of 10 100 first.log_placed

abbrev ended : StateValue
ended = state_of 10 100 run.first_run

-- the body with the head has 51 bytes; one with no length breaks what is said
body_size : length (body_bytes (body.Heap (Some (first.head 1) ∷ []))) ≡ 51
unfolding head_bytes u16_bytes u32_bytes u64_bytes zeros
body_size = refl

told_size : size_of placed 2 ≡ 51
unfolding page_bytes front_bytes framed u16_bytes u32_bytes u64_bytes zeros head_bytes used_in
told_size = refl

lost_size : StateTells first.log_placed (record placed { sizes = [] }) → ⊥
lost_size t =
    let size : 0 ≡ 51 = t.sizes (first.placed_by 1) first.shown_placed 2 ∙ body_size in
    omega (arith, size)

-- two bytes come in place of three
delta_size : edited_size (Delta (2 ∷ 0 ∷ 0 ∷ 0 ∷ 0 ∷ 0 ∷ 0 ∷ 0 ∷ []) 4 3 (7 ∷ 8 ∷ [])) 51 ≡ 50
delta_size = refl

-- the transaction runs with the name that it placed; without it the state breaks what is said
abbrev runner : List Name → Transaction
runner names = record { xid = 1; deleted = []; inserted = names }

abbrev name_count : Option Transaction → ℕ
name_count None = 0
name_count (Some t) = length t.inserted

told_runner : transaction 1 placed.running ≡ Some (done_by first.log_placed 1)
told_runner = refl

lost_name : StateTells first.log_placed (record placed { running = runner [] ∷ [] }) → ⊥
lost_name t =
    let count : 0 ≡ 1 = ap name_count (t.running 1 refl) in
    omega (arith, count)

-- after its commit it runs no more; where it stays the state breaks what is said
none_runs : transaction 1 ended.running ≡ None
none_runs = refl

kept_runner : StateTells run.first_run (record ended { running = placed.running }) → ⊥
kept_runner t =
    let count : 1 ≡ 0 = ap name_count (t.not_running 1 not_on) in
    omega (arith, count)
  where
    not_on : Committed 1 ≡ Running → ⊥
    not_on e = cc

-- the names that it placed rise by their serials; of a log where they fall no state says
abbrev placing : ℕ → Record
placing serial = record { number = 3; xid = 1; kind = kind.PlaceHead 4096 serial; changes = [] }

abbrev two_placed : ℕ → ℕ → Log
two_placed a b = placing b ∷ placing a ∷ first.log_begun

they_rise : RiseBySerial (done_by (two_placed 1 2) 1).inserted
they_rise = ((omega arith, tt), (tt, tt))

they_fall : (s : StateValue) → StateTells (two_placed 2 1) s → ⊥
they_fall s t =
    let rise : 2 < 1 = (t.placed_rise 1).0.0 in
    omega (arith, rise)
