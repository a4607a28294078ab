use Rattle.std.proofs.Common.{ℕ, List, map, Vec, Global, arith}
use Rattle.std.proofs.lemmas.List.{length-map}
use Rattle.pending_list.proofs.RowLists.{read_map}
use Rattle.pending_list.proofs.PackedRows.{piece_more}
use Rattle.pending_list.proofs.packing.push_row.Goals as goal

-- the keys' bytes
abbrev bytes_of : Vec ℕ Global → List ℕ
bytes_of key = key.items

pub loop-key-preserved : goal.loop-key-preserved
loop-key-preserved c =
    let keys = c.args.keys.now in
    piece_more (map bytes_of keys) c.loop-key.pieces c.push.new.self c.loop-key.key-index c.key-item.result.items
    c.as_slice.result.now (omega (arith, length-map keys bytes_of)) c.loop-key.invariant
    (read_map bytes_of keys c.loop-key.key-index c.key-item.result (omega arith) c.key-item.is)
    c.as_slice.ensures.value c.in_ok-push.ensures.ok
