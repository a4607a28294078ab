use Rattle.std.proofs.Common.{None}
use Rattle.std.specs.Vec.Iter.{into_iter_items}
use Rattle.std.proofs.lemmas.Result.{err_from_is_err_and}
use Rattle.ts_make.specs.Inner.Writing.{joined_from}
use Rattle.ts_make.proofs.Writing.{refused_run}
use Rattle.ts_make.proofs.joining.write_groups.Goals as goal

pub returns-in_err-last-clause-refused : goal.returns-in_err-last-clause-refused
returns-in_err-last-clause-refused c =
    let p = err_from_is_err_and c.from_residual.result c.from_residual.ensures.1 in
    rw (p.1, p.2)
    (refused_run c.args.way c.args.marks.weights c.args.marks.prefix c.loop-lexeme.last
    c.in-Some.lexeme (into_iter_items c.next.new.self)
    (into_iter_items c.loop-lexeme.lexeme-iterator)
    c.loop-lexeme.builder (joined_from c.args.way c.args.marks.weights c.args.marks.prefix None
    c.args.placed.items c.args.builder.now) c.in_err-last.field-0.0
    c.in-Some.ensures.steps.0 c.loop-lexeme.invariant.run c.in_err-last.ensures.refused)
