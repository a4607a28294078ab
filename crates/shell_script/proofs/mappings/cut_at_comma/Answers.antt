use Rattle.std.proofs.Common.{◌<◌, ◌≤◌, ◌∙◌, ap, arith, length, take, get_or}
use Rattle.std.proofs.Math.Nat.{sub-zero}
use Rattle.std.proofs.lemmas.Bool.{eqb-true}
use Rattle.shell_script.proofs.Cuts.{behind_at, cut_where, none_before, none_in}
use Rattle.shell_script.proofs.TypeLists.{part_found, part_missed}
use Rattle.shell_script.proofs.mappings.cut_at_comma.Goals as goal

pub range_from-requires : goal.range_from-requires
range_from-requires c some =
    let found = rw c.as_bytes.ensures.value at c.in-Some.ensures in
    behind_at 44 c.args.text.now c.in-Some.at (omega arith) c.utf8.text found.0.high
    (eqb-true (get_or c.args.text.now c.in-Some.at 0) 44 found.1)

pub returns-in-Some-clause-front : goal.returns-in-Some-clause-front
returns-in-Some-clause-front c =
    let found = rw c.as_bytes.ensures.value at c.in-Some.ensures in
    let lt : c.in-Some.at < length c.args.text.now = found.0.high in
    let le : c.in-Some.at ≤ length c.args.text.now = omega arith in
    let e =
    cut_where 44 c.args.text.now c.in-Some.at lt (eqb-true (get_or c.args.text.now c.in-Some.at 0) 44 found.1) in
    c.range.ensures.value ∙ ap (λ n. take n c.args.text.now) (sub-zero c.in-Some.at)
    ∙ (part_found c.args.text.now _ _ e (none_before 44 c.args.text.now c.in-Some.at le found.0.before)).0

pub returns-in-Some-clause-behind : goal.returns-in-Some-clause-behind
returns-in-Some-clause-behind c =
    let found = rw c.as_bytes.ensures.value at c.in-Some.ensures in
    let lt : c.in-Some.at < length c.args.text.now = found.0.high in
    let le : c.in-Some.at ≤ length c.args.text.now = omega arith in
    let e =
    cut_where 44 c.args.text.now c.in-Some.at lt (eqb-true (get_or c.args.text.now c.in-Some.at 0) 44 found.1) in
    c.range_from.ensures.value
    ∙ (part_found c.args.text.now _ _ e (none_before 44 c.args.text.now c.in-Some.at le found.0.before)).1

pub returns-in-None-clause-front : goal.returns-in-None-clause-front
returns-in-None-clause-front c =
    let missed = rw c.as_bytes.ensures.value at c.in-None.ensures in
    (part_missed c.args.text.now (none_in 44 c.args.text.now missed)).0

pub returns-in-None-clause-behind : goal.returns-in-None-clause-behind
returns-in-None-clause-behind c =
    let missed = rw c.as_bytes.ensures.value at c.in-None.ensures in
    (part_missed c.args.text.now (none_in 44 c.args.text.now missed)).1
