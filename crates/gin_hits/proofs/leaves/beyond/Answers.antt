use Rattle.std.proofs.Common.{◌∙◌, ◌||◌, Bool, cond, sym, ap, refl}
use Rattle.core_moments.specs.Walk.{is_empty, begins}
use Rattle.gin_hits.proofs.FoundToward.{beyond_leaf}
use Rattle.gin_hits.proofs.leaves.beyond.Goals as goal

pub returns-then-not-prefix : goal.returns-then-not-prefix
returns-then-not-prefix c =
    let high = c.in-EntryLeaf.high in
    let more = is_empty high || begins c.args.asked.now high in
    sym (beyond_leaf c.args.asked.now high c.in-EntryLeaf.entries c.args.prefix more c.args.page.now c.in-EntryLeaf.is
    refl
    ∙ ap (λ (b : Bool). cond b (cond more c.args.page.now.right 0) 0) c.if-not-prefix.true)

pub returns-then-has_more : goal.returns-then-has_more
returns-then-has_more c =
    let more = c.has_more.ensures ∙ ap (λ k. is_empty k || begins c.args.asked.now k) c.as_slice.ensures in
    sym (beyond_leaf c.args.asked.now c.in-EntryLeaf.high c.in-EntryLeaf.entries c.args.prefix c.has_more.result
    c.args.page.now c.in-EntryLeaf.is more
    ∙ ap (λ (b : Bool). cond b (cond c.has_more.result c.args.page.now.right 0) 0) c.if-not-prefix.false
    ∙ ap (λ (b : Bool). cond b c.args.page.now.right 0) c.if-has_more.true)

pub returns-else-has_more : goal.returns-else-has_more
returns-else-has_more c =
    let more = c.has_more.ensures ∙ ap (λ k. is_empty k || begins c.args.asked.now k) c.as_slice.ensures in
    sym (beyond_leaf c.args.asked.now c.in-EntryLeaf.high c.in-EntryLeaf.entries c.args.prefix c.has_more.result
    c.args.page.now c.in-EntryLeaf.is more
    ∙ ap (λ (b : Bool). cond b (cond c.has_more.result c.args.page.now.right 0) 0) c.if-not-prefix.false
    ∙ ap (λ (b : Bool). cond b c.args.page.now.right 0) c.if-has_more.false)
