use Rattle.std.proofs.Common.{ℕ, sym, subst}
use Rattle.std.specs.Str.Iter.{char_indices_rest, char_indices_offset}
use Rattle.std.specs.Char.{encode_utf8}
use Rattle.ts_base.specs.Fault.{FaultAt, Stands}
use Rattle.ts_query.specs.Inner.Reader.{Reading, ReadsPair, QueryRest, Moved, EndsAs, Stand}
use Rattle.ts_base.specs.Inner.Machine.{Stuck, Unfinished}
use Rattle.ts_base.proofs.Characters.{encode_some}
use Rattle.ts_query.proofs.Loop.{read_more, read_fault, read_whole, read_unfinished}
use Rattle.ts_query.proofs.reader.read.Goals as goal

pub returns-then-not-branch-clause-fault : goal.returns-then-not-branch-clause-fault
returns-then-not-branch-clause-fault c =
    let h = c.loop-at.invariant in
    let e = c.in-Some.ensures.steps in
    let f = encode_some (λ _. ℕ) c.in-Some.c (λ _. 0) (λ _ _. 0) in
    let g = c.in_ok-step.ensures c.loop-at.invariant.stand c.loop-at.invariant.holds in
    let s : Stuck Stand Reading QueryRest c.loop-at.invariant.stand (encode_utf8 c.in-Some.c) =
    rw c.if-not-branch.true at g in
    subst (λ n. FaultAt (Stands Reading ReadsPair) c.args.text.now n) (sym e.0)
    (read_fault c.args.text.now (char_indices_rest c.loop-at.at-iterator)
    (char_indices_rest c.next.new.self) (encode_utf8 c.in-Some.c) f.0 f.1
    (char_indices_offset c.loop-at.at-iterator) c.loop-at.reader c.loop-at.invariant e.1 f.2 s)

pub loop-at-preserved : goal.loop-at-preserved
loop-at-preserved c =
    let e = c.in-Some.ensures.steps in
    let g = c.in_ok-step.ensures c.loop-at.invariant.stand c.loop-at.invariant.holds in
    let m : Moved c.in-Some.at c.loop-at.invariant.stand (encode_utf8 c.in-Some.c) c.step.new.self =
    rw c.if-not-branch.false at g in
    read_more c.args.text.now (char_indices_rest c.loop-at.at-iterator) (char_indices_rest c.next.new.self)
    (encode_utf8 c.in-Some.c) (char_indices_offset c.loop-at.at-iterator)
    (char_indices_offset c.next.new.self) c.loop-at.reader c.step.new.self
    c.loop-at.invariant e.1 e.2
    (subst (λ n. Moved n c.loop-at.invariant.stand (encode_utf8 c.in-Some.c) c.step.new.self) e.0 m)

pub returns-in-Some-2-clause-found : goal.returns-in-Some-2-clause-found
returns-in-Some-2-clause-found c =
    let e = c.in-None.ensures.steps in
    let g = c.in_ok-outcome.ensures c.loop-at.invariant.stand c.loop-at.invariant.holds in
    let w : EndsAs c.loop-at.invariant.stand c.in-Some-2.outcome = rw c.in-Some-2.is at g in
    read_whole c.args.text.now (char_indices_rest c.loop-at.at-iterator)
    (char_indices_offset c.loop-at.at-iterator) c.loop-at.reader c.in-Some-2.outcome c.loop-at.invariant e.0 w

pub returns-in-None-2-clause-fault : goal.returns-in-None-2-clause-fault
returns-in-None-2-clause-fault c =
    let e = c.in-None.ensures.steps in
    let g = c.in_ok-outcome.ensures c.loop-at.invariant.stand c.loop-at.invariant.holds in
    let w : Unfinished Stand Reading QueryRest c.loop-at.invariant.stand = rw c.in-None-2.is at g in
    read_unfinished c.args.text.now (char_indices_rest c.loop-at.at-iterator)
    (char_indices_offset c.loop-at.at-iterator) c.loop-at.reader c.loop-at.invariant e.0 w
