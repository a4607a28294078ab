use Rattle.std.proofs.Common.{◌≡◌, ◌++◌, List, length, map, slice_range}
use Rattle.page_types.specs.declared.page.Entry.{Entry}
use Rattle.gin_hits.specs.Rows.{asked_by}
use Rattle.gin_hits.specs.Entries.{AreNotedUnder}
use Rattle.gin_hits.specs.Trees.{trees_of}
use Rattle.gin_hits.specs.Trees.{trees_under}
use Rattle.gin_hits.proofs.hits.Hits.add_entries.Given as goal

abbrev pub invariant-loop-k : goal.invariant-loop-k
invariant-loop-k g l = record {
  lists : length l.self.by_key.items ≡ length l.asked;
  noted : (before : List Entry) → AreNotedUnder (map asked_by l.asked) before l.initial.self
      → AreNotedUnder (map asked_by l.asked) (before ++ slice_range l.entries l.from l.k) l.self;
  named : trees_of l.trees.items ≡ trees_of l.initial.trees.items ++ trees_under (slice_range l.entries l.from l.k);
}
