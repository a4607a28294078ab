use Rattle.std.proofs.Common.{◌≡◌, length, get_or, arith}
use Rattle.ts_base.specs.Inner.Machine.{Unfinished, Whole}
use Rattle.ts_base.proofs.Places.{fault_stuck, fault_unfinished, found_finished, leads_moved}
use Rattle.std.proofs.Common.{List}
use Rattle.ts_vector.specs.Text.{Written, IsVectorText}
use Rattle.ts_vector.specs.Inner.Shape.{VectorRest, ShapeStuck, ShapeMoves, shape, Shape}
use Rattle.ts_vector.proofs.Reading.{completes}
use Rattle.ts_vector.proofs.reader.read.Goals as goal

pub returns-then-not-branch-clause-fault : goal.returns-then-not-branch-clause-fault
returns-then-not-branch-clause-fault c =
    let k = completes c.loop-i.i (shape c.loop-i.reader) in
    let s : ShapeStuck (shape c.loop-i.reader) (get_or c.args.text.now c.loop-i.i 0) =
    rw c.if-not-branch.true at c.in_ok-step.ensures in
    fault_stuck (List Written) IsVectorText Shape VectorRest c.args.text.now c.loop-i.i
    (shape c.loop-i.reader) c.loop-i-test.true c.loop-i.invariant k.0 k.1 k.2 s

pub loop-i-preserved : goal.loop-i-preserved
loop-i-preserved c =
    let m : ShapeMoves c.loop-i.i (shape c.loop-i.reader) (get_or c.args.text.now c.loop-i.i 0)
    (shape c.step.new.self) = rw c.if-not-branch.false at c.in_ok-step.ensures in
    leads_moved (List Written) IsVectorText Shape VectorRest c.args.text.now c.loop-i.i (shape c.loop-i.reader)
    (shape c.step.new.self) c.loop-i-test.true c.loop-i.invariant m

pub returns-in-Some-clause-found : goal.returns-in-Some-clause-found
returns-in-Some-clause-found c =
    let w : Whole Shape (List Written) VectorRest (shape c.loop-i.reader) c.in-Some.items =
    rw c.in-Some.is at c.in_ok-items.ensures in
    let e : c.loop-i.i ≡ length c.args.text.now = omega arith in
    found_finished (List Written) IsVectorText Shape VectorRest c.args.text.now c.loop-i.i
    (shape c.loop-i.reader) c.in-Some.items e c.loop-i.invariant w

pub returns-in-None-clause-fault : goal.returns-in-None-clause-fault
returns-in-None-clause-fault c =
    let w : Unfinished Shape (List Written) VectorRest (shape c.loop-i.reader) =
    rw c.in-None.is at c.in_ok-items.ensures in
    let e : c.loop-i.i ≡ length c.args.text.now = omega arith in
    fault_unfinished (List Written) IsVectorText Shape VectorRest c.args.text.now c.loop-i.i
    (shape c.loop-i.reader) e c.loop-i.invariant (λ n. completes n (shape c.loop-i.reader)) w
