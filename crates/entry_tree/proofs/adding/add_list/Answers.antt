use Rattle.std.proofs.Common.{arith}
use Rattle.page_types.specs.Views.{entries_in}
use Rattle.entry_tree.proofs.AddedPages.{added_long, added_full, added_done, spot_place}
use Rattle.entry_tree.proofs.adding.add_list.Goals as goal

pub returns-then-list-gt-MOST_INLINE_BYTES : goal.returns-then-list-gt-MOST_INLINE_BYTES
returns-then-list-gt-MOST_INLINE_BYTES c = λ items united.
    let s = c.args.spot in
    added_long c.args.page.now c.args.key.now items s.old.now c.args.list.now s.place s.there c.requires.spot united
    (omega (arith, c.if-list-gt-MOST_INLINE_BYTES.true))

pub returns-then-size_with-gt-MOST_BODY_BYTES : goal.returns-then-size_with-gt-MOST_BODY_BYTES
returns-then-size_with-gt-MOST_BODY_BYTES c = λ items united.
    let s = c.args.spot in
    added_full c.args.page.now c.args.key.now items s.old.now c.args.list.now s.place s.there c.requires.spot united
    (omega (arith, c.if-list-gt-MOST_INLINE_BYTES.false))
    (omega (arith, c.size_with.ensures, c.if-size_with-gt-MOST_BODY_BYTES.true))

pub leaf_with-requires-clause-place : goal.leaf_with-requires-clause-place
leaf_with-requires-clause-place c =
    let s = c.args.spot in
    spot_place (entries_in c.args.page.now.body) c.args.key.now s.old.now s.place s.there c.requires.spot

pub returns : goal.returns
returns c = λ items united.
    let s = c.args.spot in
    added_done c.args.page.now c.in_ok-leaf_with.field-0 c.args.key.now items s.old.now c.args.list.now s.place s.there
    c.requires.spot united (omega (arith, c.if-list-gt-MOST_INLINE_BYTES.false))
    (omega (arith, c.size_with.ensures, c.if-size_with-gt-MOST_BODY_BYTES.false)) c.in_ok-leaf_with.ensures
