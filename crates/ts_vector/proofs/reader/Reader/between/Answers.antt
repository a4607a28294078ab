use Rattle.std.proofs.Common.{◌≢◌, rules, arith, ◌∙◌, inl, inr}
use Rattle.ts_base.specs.Plain.{IsPlain}
use Rattle.ts_base.specs.Bytes.{IsWhite}
use Rattle.ts_vector.proofs.Reading.{opens_quote, opens_escape, opens_plain, skips_white}
use Rattle.ts_vector.proofs.reader.Reader.between.Goals as goal
use Rattle.ts_vector.specs.Text.{EndsItem}

pub returns-in-39 : goal.returns-in-39
returns-in-39 c =
    opens_quote _ _ _ _ _ _ _ _ _ _ _ _ _ _ c.begin.ensures.items c.begin.ensures.start c.requires c.in-39.is
    c.begin.ensures.state c.begin.ensures.word

pub returns-in-92 : goal.returns-in-92
returns-in-92 c =
    opens_escape _ _ _ _ _ _ _ _ _ _ _ _ _ _ c.begin-in-92.ensures.items c.begin-in-92.ensures.start c.requires
    c.in-92.is
    c.begin-in-92.ensures.state c.begin-in-92.ensures.word

pub returns-else-not-is_white : goal.returns-else-not-is_white
returns-else-not-is_white c = let w : IsWhite c.args.byte = search rules in skips_white _ _ _ _ _ _ _ _ c.requires w

pub returns-in_ok-put-in_default : goal.returns-in_ok-put-in_default
returns-in_ok-put-in_default c =
    let dark : ¬ IsWhite c.args.byte = search rules in
    let k : IsPlain EndsItem c.args.byte =
    record { no_end = λ x. elim x [ inl w ↦ absurd (dark w) | inr e ↦ omega arith ]; no_escape = omega arith } in
    let n : c.args.byte ≢ 39 = omega arith in
    let b = c.begin-then-not-is_white in
    let p = c.in_ok-put-in_default in
    opens_plain _ _ _ _ _ _ _ _ _ _ _ _ _ _ _ (p.ensures.items ∙ b.ensures.items)
    (p.ensures.start ∙ b.ensures.start) c.requires k n
    b.ensures.word p.ensures.state p.ensures.word
