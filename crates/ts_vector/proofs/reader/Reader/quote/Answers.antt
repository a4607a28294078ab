use Rattle.std.proofs.Common.{◌≢◌, arith, ap, [], length}
use Rattle.ts_vector.proofs.Reading.{quoted_colon, quoted_over}
use Rattle.ts_vector.proofs.reader.Reader.quote.Goals as goal

pub returns-then-byte-eq58 : goal.returns-then-byte-eq58
returns-then-byte-eq58 c =
    let ne : c.args.self.now.word.items ≢ [] = λ e. let k = ap length e in grind (arith, c.args.self.now.word.ok.0) in
    quoted_colon _ _ _ _ _ _ _ _ _ _ _ _ _ _ c.begin_positions.ensures.state c.begin_positions.ensures.items
    c.begin_positions.ensures.start
    (ap (λ v. v.items) c.begin_positions.ensures.word) c.requires ne c.if-byte-eq58.true
    c.begin_positions.ensures.positions c.begin_positions.ensures.value

pub returns : goal.returns
returns c =
    let ne : c.args.self.now.word.items ≢ [] = λ e. let k = ap length e in grind (arith, c.args.self.now.word.ok.0) in
    quoted_over _ _ _ _ _ _ _ _ _ _ _ _ _ _ _ _ c.requires ne c.if-byte-eq39.false c.if-byte-eq58.false
    c.in_ok-close_alone.ensures.state c.in_ok-close_alone.ensures.items c.in_ok-ok.ensures
