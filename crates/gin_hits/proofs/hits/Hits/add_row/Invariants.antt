use Rattle.std.proofs.Common.{◌≡◌, length, map, take}
use Rattle.page_types.specs.Parts.{row_shown}
use Rattle.gin_hits.specs.Rows.{asked_by, lists_of}
use Rattle.gin_hits.proofs.AddedRows.{added}
use Rattle.gin_hits.proofs.hits.Hits.add_row.Given as goal

abbrev pub invariant-loop-k : goal.invariant-loop-k
invariant-loop-k g l = record {
  lists : length l.self.by_key.items ≡ length l.asked;
  any : l.self.any ≡ l.initial.self.any;
  by_key : lists_of l.self ≡ added (take l.k (map asked_by l.asked)) (row_shown l.row) (lists_of l.initial.self);
}
