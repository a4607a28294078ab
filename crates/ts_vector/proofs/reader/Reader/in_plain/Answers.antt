use Rattle.std.proofs.Common.{rules, arith, ap, inl, inr}
use Rattle.ts_base.specs.Plain.{IsPlain}
use Rattle.ts_base.specs.Bytes.{IsWhite}
use Rattle.ts_vector.proofs.Reading.{plain_escapes, plain_colon, plain_over, plain_byte_on}
use Rattle.ts_vector.proofs.reader.Reader.in_plain.Goals as goal
use Rattle.ts_vector.specs.Text.{EndsItem}

pub returns-in-92 : goal.returns-in-92
returns-in-92 c = plain_escapes _ _ _ _ _ _ _ _ c.requires c.in-92.is

pub returns-in-58 : goal.returns-in-58
returns-in-58 c =
    plain_colon _ _ _ _ _ _ _ _ _ _ _ _ _ _ c.begin_positions.ensures.state c.begin_positions.ensures.items
    c.begin_positions.ensures.start
    (ap (λ v. v.items) c.begin_positions.ensures.word) c.requires c.in-58.is c.begin_positions.ensures.positions
    c.begin_positions.ensures.value

pub returns-in_ok-close_alone-in_default : goal.returns-in_ok-close_alone-in_default
returns-in_ok-close_alone-in_default c =
    let w : IsWhite c.args.byte = search rules in
    plain_over _ _ _ _ _ _ _ _ _ _ _ _ _ _ c.requires w c.in_ok-close_alone-in_default.ensures.state
    c.in_ok-close_alone-in_default.ensures.items

pub returns-in_ok-put-in_default : goal.returns-in_ok-put-in_default
returns-in_ok-put-in_default c =
    let dark : ¬ IsWhite c.args.byte = search rules in
    let k : IsPlain EndsItem c.args.byte =
    record { no_end = λ x. elim x [ inl w ↦ absurd (dark w) | inr e ↦ omega arith ]; no_escape = omega arith } in
    plain_byte_on _ _ _ _ _ _ _ _ _ _ _ _ _ _ c.in_ok-put-in_default.ensures.items c.in_ok-put-in_default.ensures.start
    c.requires k
    c.in_ok-put-in_default.ensures.state c.in_ok-put-in_default.ensures.word
