use Rattle.std.proofs.Common.{◌≡◌, [], length, None, Some, ap, sym, lit<, arith}
use Rattle.std.proofs.lemmas.Bool.{eqb-true, eqb-false}
use Rattle.std.proofs.lemmas.List.{nil_from_length}
use Rattle.std.proofs.lemmas.Str.Pattern.{strip_prefix_char}
use Rattle.ts_websearch.proofs.Cutting.{quoted_within, row_within, quotation_negated, row_negated, hyphen_alone}
use Rattle.ts_websearch.proofs.items.behind_hyphen.Goals as goal

pub returns-in-Some-clause-goes_on : goal.returns-in-Some-clause-goes_on
returns-in-Some-clause-goes_on c =
    let e = strip_prefix_char 34 c.args.text.now (Some c.in-Some.behind) c.in-Some.ensures.cases
    (lit< tt) in
    λ is a. quotation_negated c.args.text.now c.in-Some.behind.now c.quoted_text.result.0.now
    c.quoted_text.result.1.now is e c.quoted_text.ensures a

pub returns-in-Some-clause-shorter : goal.returns-in-Some-clause-shorter
returns-in-Some-clause-shorter c =
    let e = strip_prefix_char 34 c.args.text.now (Some c.in-Some.behind) c.in-Some.ensures.cases
    (lit< tt) in
    let f = ap length e in
    let s = quoted_within c.in-Some.behind.now c.quoted_text.result.0.now
    c.quoted_text.result.1.now c.quoted_text.ensures in
    omega arith

pub returns-then-is_empty-clause-goes_on : goal.returns-then-is_empty-clause-goes_on
returns-then-is_empty-clause-goes_on c =
    let n = strip_prefix_char 34 c.args.text.now None c.in_default.ensures.cases (lit< tt) in
    let front = c.row_text.result.0.now in
    let none : front ≡ [] =
    nil_from_length front (eqb-true (length front) 0 (sym c.if-is_empty.ensures)) in
    λ is a. hyphen_alone c.args.text.now front c.row_text.result.1.now is c.row_text.ensures none n a

pub returns-clause-goes_on : goal.returns-clause-goes_on
returns-clause-goes_on c =
    let front = c.row_text.result.0.now in
    let filled = eqb-false (length front) 0 (sym c.if-is_empty.ensures) in
    λ is a. row_negated c.args.text.now front c.row_text.result.1.now is c.row_text.ensures
    (omega arith) a

pub returns-then-is_empty-clause-shorter : goal.returns-then-is_empty-clause-shorter
returns-then-is_empty-clause-shorter c =
    row_within c.args.text.now c.row_text.result.0.now c.row_text.result.1.now c.row_text.ensures

pub returns-clause-shorter : goal.returns-clause-shorter
returns-clause-shorter c =
    row_within c.args.text.now c.row_text.result.0.now c.row_text.result.1.now c.row_text.ensures
