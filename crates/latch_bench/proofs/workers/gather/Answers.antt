use Rattle.std.proofs.Common.{arith, ap, ◌∙◌, ◌∷◌, [], length, length-append}
use Rattle.std.proofs.lemmas.List.Elements.{All-pop}
use Rattle.std.specs.Prelude.{Some}
use Rattle.latch_table.specs.declared.states.PassState.{PassState}
use Rattle.latch_bench.specs.declared.slots.Tally.{Tally}
use Rattle.latch_bench.specs.Hands.{IsReady}
use Rattle.latch_bench.proofs.Hiring.{joined_free}
use Rattle.latch_bench.proofs.workers.gather.Goals as goal

pub loop-worker-init : goal.loop-worker-init
loop-worker-init c = (c.requires.free, c.requires.ready, c.requires.room)

pub join-requires-clause-pass : goal.join-requires-clause-pass
join-requires-clause-pass c = c.loop-worker.invariant.0.of_table

pub join-requires-clause-other : goal.join-requires-clause-other
join-requires-clause-other c =
    let z = c.args.desk.now.table.shared.table_id in
    let popped = All-pop (IsReady z) _ _ (Some c.in-Some.worker) c.in-Some.ensures.items c.loop-worker.invariant.1 in
    let last : IsReady z c.in-Some.worker = popped.1 in last.free.of_table

pub join-requires-clause-idle : goal.join-requires-clause-idle
join-requires-clause-idle c =
    let z = c.args.desk.now.table.shared.table_id in
    let popped = All-pop (IsReady z) _ _ (Some c.in-Some.worker) c.in-Some.ensures.items c.loop-worker.invariant.1 in
    let last : IsReady z c.in-Some.worker = popped.1 in last.free.idle

pub loop-worker-preserved : goal.loop-worker-preserved
loop-worker-preserved c =
    let z = c.args.desk.now.table.shared.table_id in
    let now = c.loop-worker.invariant in
    let items = c.in-Some.ensures.items in
    let popped = All-pop (IsReady z) _ _ (Some c.in-Some.worker) items now.1 in
    let last : IsReady z c.in-Some.worker = popped.1 in
    let one = last.room in
    let long = ap length items ∙ length-append c.pop.new.self.items (c.in-Some.worker ∷ []) in
    let more = ap (λ (v : PassState Tally). v.room) c.join.ensures.both in
    let sum = now.2 in
    let still = joined_free z c.loop-worker.hand c.join.new.pass c.in-Some.worker.hand now.0 c.join.ensures.pass
    c.join.ensures.both in
    (still, popped.0, omega arith)

pub returns-clause-free : goal.returns-clause-free
returns-clause-free c = c.loop-worker.invariant.0
