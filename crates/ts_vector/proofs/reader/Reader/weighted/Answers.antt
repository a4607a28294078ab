use Rattle.std.proofs.Common.{rules, refl}
use Rattle.ts_base.specs.Bytes.{IsWhite}
use Rattle.ts_vector.proofs.Reading.{weighted_comma, weighted_over}
use Rattle.ts_vector.proofs.reader.Reader.weighted.Goals as goal

pub returns-then-byte-eq44 : goal.returns-then-byte-eq44
returns-then-byte-eq44 c = weighted_comma _ _ _ _ _ _ _ _ _ c.requires c.if-byte-eq44.true refl

pub returns-then-is_white : goal.returns-then-is_white
returns-then-is_white c =
    let w : IsWhite c.args.byte = search rules in
    weighted_over _ _ _ _ _ _ _ _ _ _ _ _ _ _ c.requires w c.in_ok-close_at.ensures.state c.in_ok-close_at.ensures.items
