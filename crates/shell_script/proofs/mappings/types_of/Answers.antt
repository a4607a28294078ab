use Rattle.std.proofs.Common.{◌<◌, length, rules, sym, subst}
use Rattle.shell_script.proofs.Exprs.{missed}
use Rattle.shell_script.proofs.TypeLists.{types_are, read_more, read_last, read_fault}
use Rattle.shell_script.proofs.mappings.types_of.Goals as goal

pub returns-in_err-from_name-clause-none : goal.returns-in_err-from_name-clause-none
returns-in_err-from_name-clause-none c =
    missed c.from_residual.result _ (read_fault c.args.text.now c.loop-rest.rest.now c.cut_at_comma.result.0.now
    c.loop-rest.invariant.1 c.cut_at_comma.ensures.front c.in_err-from_name.ensures)

pub invariant_of-result : goal.invariant_of-result
invariant_of-result c =
    let last = read_last c.args.text.now c.loop-rest.rest.now c.cut_at_comma.result.0.now c.in_ok-from_name.field-0
    c.loop-rest.invariant.1 c.cut_at_comma.ensures.front c.in_ok-from_name.ensures c.if-name-rest.true in
    (types_are c.args.text.now last.0 last.2).1

pub returns-then-name-rest-clause-some : goal.returns-then-name-rest-clause-some
returns-then-name-rest-clause-some c =
    let last = read_last c.args.text.now c.loop-rest.rest.now c.cut_at_comma.result.0.now c.in_ok-from_name.field-0
    c.loop-rest.invariant.1 c.cut_at_comma.ensures.front c.in_ok-from_name.ensures c.if-name-rest.true in
    let are = types_are c.args.text.now last.0 last.2 in
    (subst (λ ks. 0 < length ks) (sym are.0) last.1, are.1)

pub loop-rest-preserved : goal.loop-rest-preserved
loop-rest-preserved c = (
  search rules,
  read_more c.args.text.now c.loop-rest.rest.now c.cut_at_comma.result.0.now c.cut_at_comma.result.1.now
      c.in_ok-from_name.field-0 c.loop-rest.invariant.1 c.cut_at_comma.ensures.front c.cut_at_comma.ensures.behind
      c.in_ok-from_name.ensures c.if-name-rest.false,
)
