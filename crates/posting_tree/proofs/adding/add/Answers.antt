use Rattle.std.proofs.Common.{◌≡◌, ◌++◌, length, ap, subst, ◌∙◌, arith}
use Rattle.posting_tree.specs.declared.adding.Added.{Added}
use Rattle.posting_tree.specs.Adding.{IsAdded}
use Rattle.posting_tree.proofs.LeafPages.{added_full, added_done, added_page}
use Rattle.posting_tree.proofs.adding.add.Goals as goal

pub returns-then-len-gt-MOST_LIST_BYTES-clause-added : goal.returns-then-len-gt-MOST_LIST_BYTES-clause-added
returns-then-len-gt-MOST_LIST_BYTES-clause-added c =
    let w = c.in_ok-merge.ensures.ok in
    let made : c.merge.new.out.items ≡ w.0 = w.1 ∙ ap (λ l. l ++ w.0) c.new-list.ensures.items in
    added_full c.args.page.now c.in-PostLeaf.high c.in-PostLeaf.old c.as_slice.result.now c.args.items.now w.0
    c.in-PostLeaf.is c.as_slice.ensures w.2
    (omega (arith, c.if-len-gt-MOST_LIST_BYTES.true, c.len.ensures, ap length made))

pub returns : goal.returns
returns c =
    let page = c.args.page.now in
    let items = c.args.items.now in
    let w = c.in_ok-merge.ensures.ok in
    let made : c.merge.new.out.items ≡ w.0 = w.1 ∙ ap (λ l. l ++ w.0) c.new-list.ensures.items in
    let a = added_done page c.in-PostLeaf.high c.in-PostLeaf.old c.as_slice.result.now items w.0 c.from_vec.result
    c.in-PostLeaf.is c.as_slice.ensures w.2 (c.from_vec.ensures ∙ made)
    (omega (arith, c.if-len-gt-MOST_LIST_BYTES.false, c.len.ensures, ap length made)) in
    record {
      added = a;
      is_page = λ p e. added_page page p items c.requires.page
          (subst (λ (answer : Added). IsAdded page items answer) e a);
    }
