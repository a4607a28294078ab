use Rattle.std.proofs.Common.{◌≡◌, ◌≢◌, false, [], length, None, Some, ap, sym, lit<}
use Rattle.std.proofs.lemmas.Bool.{eqb-true, eqb-false}
use Rattle.std.proofs.lemmas.List.{nil_from_length}
use Rattle.std.proofs.lemmas.Str.Pattern.{strip_prefix_char}
use Rattle.ts_websearch.specs.Inner.Pieces.{piece_item}
use Rattle.ts_websearch.proofs.Cutting.{only_gap, behind_gap_next, quotation_next, hyphen_next, row_next}
use Rattle.ts_websearch.specs.Items.{quoted, row}
use Rattle.ts_websearch.proofs.items.next_piece.Goals as goal

pub returns-then-is_empty-clause-none : goal.returns-then-is_empty-clause-none
returns-then-is_empty-clause-none c =
    let gap = c.without_white-text.ensures.white in
    let inner = c.without_white-text.result.now in
    let none : inner ≡ [] =
    nil_from_length inner (eqb-true (length inner) 0 (sym c.if-is_empty.ensures)) in
    only_gap c.args.text.now gap.0 inner gap.2 gap.1 none

pub returns-in-Some-clause-some : goal.returns-in-Some-clause-some
returns-in-Some-clause-some c =
    let gap = c.without_white-text.ensures.white in
    let inner = c.without_white-text.result.now in
    let t = c.quoted_text.result.0.now in
    let r = c.quoted_text.result.1.now in
    let e = strip_prefix_char 34 inner (Some c.in-Some.behind) c.in-Some.ensures.cases (lit< tt) in
    behind_gap_next c.args.text.now gap.0 inner (quoted false t) r gap.2 gap.1
    (quotation_next inner c.in-Some.behind.now t r e c.quoted_text.ensures)

pub returns-in-Some-strip_prefix-clause-some : goal.returns-in-Some-strip_prefix-clause-some
returns-in-Some-strip_prefix-clause-some c =
    let gap = c.without_white-text.ensures.white in
    let inner = c.without_white-text.result.now in
    let i = piece_item c.behind_hyphen.result.0 in
    let r = c.behind_hyphen.result.1.now in
    let behind = c.in-Some-strip_prefix.behind in
    let e = strip_prefix_char 45 inner (Some behind) c.in-Some-strip_prefix.ensures.cases
    (lit< tt) in
    behind_gap_next c.args.text.now gap.0 inner i r gap.2 gap.1
    (hyphen_next inner behind.now i r e c.behind_hyphen.ensures.goes_on
    c.behind_hyphen.ensures.shorter)

pub returns-clause-some : goal.returns-clause-some
returns-clause-some c =
    let gap = c.without_white-text.ensures.white in
    let inner = c.without_white-text.result.now in
    let front = c.row_text.result.0.now in
    let back = c.row_text.result.1.now in
    let q = strip_prefix_char 34 inner None c.in_default.ensures.cases (lit< tt) in
    let y = strip_prefix_char 45 inner None c.in_default-strip_prefix.ensures.cases (lit< tt) in
    let filled = eqb-false (length inner) 0 (sym c.if-is_empty.ensures) in
    let some : inner ≢ [] = λ e. filled (ap length e) in
    behind_gap_next c.args.text.now gap.0 inner (row false front) back gap.2 gap.1
    (row_next inner front back c.row_text.ensures some c.without_white-text.ensures.all q y)
