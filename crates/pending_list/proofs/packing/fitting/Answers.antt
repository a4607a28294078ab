use Rattle.std.proofs.Common.{◌≡◌, ◌+◌, ◌<◌, ℕ, List, length, get_or, map, take, Vec, Global, arith}
use Rattle.std.proofs.lemmas.List.{length-map}
use Rattle.pending_list.specs.Packing.{row_length}
use Rattle.pending_list.proofs.RowLists.{read_map}
use Rattle.pending_list.proofs.PackedRows.{size_more}
use Rattle.pending_list.proofs.packing.fitting.Goals as goal

-- the keys' bytes
abbrev bytes_of : Vec ℕ Global → List ℕ
bytes_of key = key.items

-- the size with the key that was read
read_more : (keys : List (Vec ℕ Global)) (used size k n : ℕ) (key : Vec ℕ Global) → k < length keys
    → key ≡ get_or keys k key → length key.items ≡ n → size ≡ used + row_length (take k (map bytes_of keys))
    → size + (2 + n) ≡ used + row_length (take (k + 1) (map bytes_of keys))
read_more keys used size k n key lt is len e =
    size_more (map bytes_of keys) used size k n key.items (omega (arith, lt, length-map keys bytes_of))
    (read_map bytes_of keys k key lt is) len e

pub returns-then-size-gt-MOST_BODY_BYTES-clause-most :
    goal.returns-then-size-gt-MOST_BODY_BYTES-clause-most
returns-then-size-gt-MOST_BODY_BYTES-clause-most c =
    let key = c.index-keys-k.result in
    let next = read_more c.args.keys.now c.args.used c.loop-k.size c.loop-k.k c.len.result key (omega arith)
    c.index-keys-k.is (omega (arith, key.ok.0, c.len.ensures)) c.loop-k.invariant.0 in
    λ lt. omega (arith, next)

pub loop-k-preserved : goal.loop-k-preserved
loop-k-preserved c =
    let key = c.index-keys-k.result in
    let next = read_more c.args.keys.now c.args.used c.loop-k.size c.loop-k.k c.len.result key (omega arith)
    c.index-keys-k.is (omega (arith, key.ok.0, c.len.ensures)) c.loop-k.invariant.0 in
    (next, λ some. omega arith, omega arith)
