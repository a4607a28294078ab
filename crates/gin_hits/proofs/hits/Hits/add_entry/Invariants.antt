use Rattle.std.proofs.Common.{◌≡◌, ◌≤◌, length, map, take}
use Rattle.entry_tree.specs.Adding.{list_entry}
use Rattle.gin_hits.specs.Rows.{asked_by, lists_of}
use Rattle.gin_hits.proofs.AddedLists.{added}
use Rattle.gin_hits.proofs.AddedEntries.{adds_for}
use Rattle.gin_hits.proofs.hits.Hits.add_entry.Given as goal

abbrev pub invariant-loop-k : goal.invariant-loop-k
invariant-loop-k l = record {
  lists : length l.self.by_key.items ≡ length l.asked;
  any : l.self.any ≡ l.initial.self.any;
  within : l.from ≤ length l.self.any.items;
  by_key : lists_of l.self
      ≡ added (adds_for (list_entry l.key l.list)) (take l.k (map asked_by l.asked)) (lists_of l.initial.self);
}
