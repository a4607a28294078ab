use Rattle.std.proofs.Common.{◌≡◌, ◌++◌, List, length, map, take}
use Rattle.page_types.specs.declared.page.Row.{Row}
use Rattle.gin_hits.specs.Rows.{asked_by, AreNoted}
use Rattle.gin_hits.proofs.hits.Hits.add_rows.Given as goal

abbrev pub invariant-loop-k : goal.invariant-loop-k
invariant-loop-k g l = record {
  lists : length l.self.by_key.items ≡ length l.asked;
  noted : (before : List Row) → AreNoted (map asked_by l.asked) before l.initial.self
      → AreNoted (map asked_by l.asked) (before ++ take l.k l.rows) l.self;
}
