use Rattle.std.proofs.Common.{◌≡◌, ◌<◌, ◌≤◌, ◌∙◌, ap, arith, length, take, get_or}
use Rattle.std.proofs.Math.Nat.{sub-zero}
use Rattle.std.proofs.lemmas.Bool.{eqb-true}
use Rattle.shell_script.proofs.Cuts.{behind_at, cut_where, none_before, none_in}
use Rattle.shell_script.proofs.docs.cut_at.Goals as goal

pub range_from-requires : goal.range_from-requires
range_from-requires c some =
    let found = rw c.as_bytes.ensures.value at c.in-Some.ensures in
    behind_at c.args.byte c.args.text.now c.in-Some.at c.requires c.utf8.text found.0.high
    (eqb-true (get_or c.args.text.now c.in-Some.at 0) c.args.byte found.1)

pub returns-in-Some-clause-some : goal.returns-in-Some-clause-some
returns-in-Some-clause-some c =
    let found = rw c.as_bytes.ensures.value at c.in-Some.ensures in
    let lt : c.in-Some.at < length c.args.text.now = found.0.high in
    let le : c.in-Some.at ≤ length c.args.text.now = omega arith in
    let e = cut_where c.args.byte c.args.text.now c.in-Some.at lt
    (eqb-true (get_or c.args.text.now c.in-Some.at 0) c.args.byte found.1) in
    let front : c.range.result.now ≡ take c.in-Some.at c.args.text.now =
    c.range.ensures.value ∙ ap (λ n. take n c.args.text.now) (sub-zero c.in-Some.at) in
    rw (front, c.range_from.ensures.value) (e, none_before c.args.byte c.args.text.now c.in-Some.at le found.0.before)

pub returns-in-None-clause-none : goal.returns-in-None-clause-none
returns-in-None-clause-none c =
    let missed = rw c.as_bytes.ensures.value at c.in-None.ensures in
    none_in c.args.byte c.args.text.now missed
