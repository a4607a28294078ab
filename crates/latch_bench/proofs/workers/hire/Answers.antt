use Rattle.std.proofs.Common.{arith, All, ap, sym, subst, ◌∙◌, ◌∷◌, [], List, length, length-append}
use Rattle.std.proofs.lemmas.List.Elements.{All-push}
use Rattle.latch_table.specs.declared.states.PassState.{PassState}
use Rattle.latch_bench.specs.declared.slots.Tally.{Tally}
use Rattle.latch_bench.specs.declared.workers.Worker.{Worker}
use Rattle.latch_bench.specs.Hands.{IsReady}
use Rattle.latch_bench.proofs.Hiring.{split_free, second_free, second_room}
use Rattle.latch_bench.proofs.workers.hire.Goals as goal

pub loop-init : goal.loop-init
loop-init c =
    let none = ap length c.new-workers.ensures.items in
    let room = c.requires.room in
    (c.requires.free, (λ k d lt. absurd (omega arith)), omega arith, omega arith)

pub split-second-requires-clause-pass : goal.split-second-requires-clause-pass
split-second-requires-clause-pass c = c.loop.invariant.0.of_table

pub split-second-requires-clause-room : goal.split-second-requires-clause-room
split-second-requires-clause-room c =
    let sum = c.loop.invariant.2 in
    let count = c.loop.invariant.3 in
    let lt = c.loop-test.true in omega arith

pub loop-preserved : goal.loop-preserved
loop-preserved c =
    let z = c.args.desk.now.table.shared.table_id in
    let now = c.loop.invariant in
    let told = c.split-second.ensures in
    let worker : Worker = record { hand = c.split-second.result; task = c.args.task; count = 0 } in
    let ready : IsReady z worker = record {
      free = second_free z c.loop.hand c.split-second.result told.second told.same;
      room = second_room c.loop.hand c.split-second.result told.same;
    } in
    let items = c.in_ok-push.ensures.items in
    let long = ap length items ∙ length-append c.loop.workers.items (worker ∷ []) in
    let less = ap (λ (v : PassState Tally). v.room) told.less in
    let sum = now.2 in
    let count = now.3 in
    let lt = c.loop-test.true in (
      split_free z c.loop.hand _ now.0 told.pass told.less,
      subst (λ (l : List Worker). All (IsReady z) l) (sym items)
          (All-push (IsReady z) c.loop.workers.items worker now.1 ready),
      omega arith,
      omega arith,
    )

pub returns-clause-free : goal.returns-clause-free
returns-clause-free c = c.loop.invariant.0

pub returns-clause-ready : goal.returns-clause-ready
returns-clause-ready c = c.loop.invariant.1

pub returns-clause-room : goal.returns-clause-room
returns-clause-room c = c.loop.invariant.2
