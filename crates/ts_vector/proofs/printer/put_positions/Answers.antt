use Rattle.std.proofs.Common.{◌≡◌, [], ◌∷◌, ◌++◌, rules}
use Rattle.ts_vector.proofs.Printing.{positions_end}
use Rattle.ts_vector.proofs.printer.put_positions.Goals as goal
use Rattle.std.specs.String.{string_bytes}

pub returns : goal.returns
returns c =
    let colon : string_bytes c.push.new.self ≡ string_bytes c.args.out.now ++ 58 ∷ [] = search rules in
    positions_end (string_bytes c.args.out.now) (string_bytes c.push.new.self) (string_bytes c.put_position.new.out)
    (string_bytes c.loop-position.out) c.in-Some.first.now c.in-Some.others.now
    c.args.positions.now c.loop-position.position-index c.in-Some.ensures.cases.0 colon c.in_ok-put_position.ensures
    c.loop-position.invariant c.loop-position-test.false
