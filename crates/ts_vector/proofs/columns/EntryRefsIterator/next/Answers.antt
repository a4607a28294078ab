use Rattle.std.proofs.Common.{length}
use Rattle.ts_vector.proofs.ColumnFacts.{first_within}
use Rattle.ts_vector.proofs.columns.EntryRefsIterator.next.Goals as goal

pub part-requires-clause-end : goal.part-requires-clause-end
part-requires-clause-end c =
    let f = c.self.inside in
    (first_within f.start c.in_ok-end.end.now f.ends.now c.in_ok-end.ends.now (length f.lexemes.now)
    (length f.positions.now) c.in_ok-end.ensures.cases.0 c.self.invariant).0

pub part-requires-2-clause-end : goal.part-requires-2-clause-end
part-requires-2-clause-end c =
    let f = c.self.inside in
    (first_within f.start c.in_ok-end.end.now f.ends.now c.in_ok-end.ends.now (length f.lexemes.now)
    (length f.positions.now) c.in_ok-end.ensures.cases.0 c.self.invariant).1
