use Rattle.std.proofs.Common.{◌≢◌, arith}
use Rattle.ts_vector.proofs.Reading.{quote_within, escape_within, byte_within}
use Rattle.ts_vector.proofs.reader.Reader.in_quoted.Goals as goal

pub returns-in-39 : goal.returns-in-39
returns-in-39 c = quote_within _ _ _ _ _ _ _ _ c.requires c.in-39.is

pub returns-in-92 : goal.returns-in-92
returns-in-92 c = escape_within _ _ _ _ _ _ _ _ c.requires c.in-92.is

pub returns-in_ok-put-in_default : goal.returns-in_ok-put-in_default
returns-in_ok-put-in_default c =
    let m : c.args.byte ≢ 39 = omega arith in
    let n : c.args.byte ≢ 92 = omega arith in
    byte_within _ _ _ _ _ _ _ _ _ _ _ _ _ _ c.in_ok-put-in_default.ensures.items c.in_ok-put-in_default.ensures.start
    c.requires m n
    c.in_ok-put-in_default.ensures.state c.in_ok-put-in_default.ensures.word
