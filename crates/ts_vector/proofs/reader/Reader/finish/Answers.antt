use Rattle.std.proofs.Common.{◌≢◌, ◌<◌, arith, ap, length, []}
use Rattle.ts_base.specs.declared.Weight.TheVariants.{D}
use Rattle.ts_vector.proofs.Reading.{between_whole, quote_whole, plain_whole, digits_whole, weighted_whole, pushed}
use Rattle.ts_vector.proofs.reader.Reader.finish.Goals as goal

pub returns-in-Between : goal.returns-in-Between
returns-in-Between c = between_whole _ _ _ _ _ _ c.in-Between.is

pub returns-in_ok-close_alone-in-Quote : goal.returns-in_ok-close_alone-in-Quote
returns-in_ok-close_alone-in-Quote c =
    let ne : c.args.self.word.items ≢ [] = λ e. let k = ap length e in grind (arith, c.args.self.word.ok.0) in
    quote_whole _ _ _ _ _ _ _ c.in-Quote.is ne c.in_ok-close_alone-in-Quote.ensures.items

pub returns-in_ok-close_alone-in-InPlain : goal.returns-in_ok-close_alone-in-InPlain
returns-in_ok-close_alone-in-InPlain c =
    plain_whole _ _ _ _ _ _ _ c.in-InPlain.is c.in_ok-close_alone-in-InPlain.ensures.items

pub returns-in_ok-close_at-in-Digits : goal.returns-in_ok-close_at-in-Digits
returns-in_ok-close_at-in-Digits c =
    let p : 0 < c.args.self.value = omega arith in
    let e = pushed c.args.self.positions.items c.new-position.result c.push.new.self.items c.args.self.value D
    c.in_ok-push-in-Digits.ensures.items c.new-position.ensures.at c.new-position.ensures.weight in
    digits_whole _ _ _ _ _ _ _ c.in-Digits.is p (rw e at c.in_ok-close_at-in-Digits.ensures.items)

pub returns-in_ok-close_at-in-Weighted : goal.returns-in_ok-close_at-in-Weighted
returns-in_ok-close_at-in-Weighted c =
    weighted_whole _ _ _ _ _ _ _ c.in-Weighted.is c.in_ok-close_at-in-Weighted.ensures.items
