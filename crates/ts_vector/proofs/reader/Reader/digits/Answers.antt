use Rattle.std.proofs.Common.{◌≡◌, ◌<◌, rules, arith, refl}
use Rattle.ts_base.specs.Bytes.{IsDigit, IsWhite}
use Rattle.ts_base.specs.Digits.{with_digit}
use Rattle.ts_vector.proofs.Reading.{digit_more, digits_letter, digits_comma, digits_over, digits_stuck, pushed}
use Rattle.ts_base.specs.declared.Weight.TheVariants.{D}
use Rattle.ts_vector.proofs.reader.Reader.digits.Goals as goal
use Rattle.ts_base.specs.declared.TheConstants.{LAST_POSITION}

pub returns-then-byte-le57 : goal.returns-then-byte-le57
returns-then-byte-le57 c =
    let d : IsDigit c.args.byte = omega arith in
    let e : c.min-value.result ≡ with_digit LAST_POSITION c.args.self.now.value c.args.byte = search rules in
    digit_more _ _ _ _ _ _ _ _ _ _ c.requires c.requires d e

pub returns-in-Some : goal.returns-in-Some
returns-in-Some c =
    let p : 0 < c.args.self.now.value = omega arith in
    digits_letter _ _ _ _ _ _ _ _ _ _ _ c.requires p c.in-Some.ensures
    (pushed c.args.self.now.positions.items c.new-position.result c.push.new.self.items c.args.self.now.value
    c.in-Some.weight c.in_ok-push.ensures.items c.new-position.ensures.at c.new-position.ensures.weight)

pub returns-then-byte-eq44 : goal.returns-then-byte-eq44
returns-then-byte-eq44 c =
    let p : 0 < c.args.self.now.value = omega arith in
    digits_comma _ _ _ _ _ _ _ _ _ _ _ c.requires c.requires p c.if-byte-eq44.true
    (pushed c.args.self.now.positions.items c.new-position-then-byte-eq44.result c.push-then-byte-eq44.new.self.items
    c.args.self.now.value D c.in_ok-push-2.ensures.items c.new-position-then-byte-eq44.ensures.at
    c.new-position-then-byte-eq44.ensures.weight) refl

pub returns-then-is_white : goal.returns-then-is_white
returns-then-is_white c =
    let p : 0 < c.args.self.now.value = omega arith in
    let w : IsWhite c.args.byte = search rules in
    let e = pushed c.args.self.now.positions.items c.new-position-then-is_white.result
    c.push-then-is_white.new.self.items c.args.self.now.value D c.in_ok-push-3.ensures.items
    c.new-position-then-is_white.ensures.at c.new-position-then-is_white.ensures.weight in
    digits_over _ _ _ _ _ _ _ _ _ _ _ _ _ _ c.requires p w c.in_ok-close_at.ensures.state
    (rw e at c.in_ok-close_at.ensures.items)

pub returns : goal.returns
returns c =
    let d : ¬ IsDigit c.args.byte = λ h. grind arith in
    let w : ¬ IsWhite c.args.byte = search rules in
    digits_stuck _ _ _ _ _ _ _ c.requires d c.in_default.ensures w c.if-byte-eq44.false
