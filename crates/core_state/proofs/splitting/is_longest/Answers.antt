use Rattle.std.proofs.Common.{ℕ, List, length, sym, ap, subst, ◌∙◌, arith}
use Rattle.std.proofs.lemmas.Bool.{eqb-true, eq-eqb}
use Rattle.page_types.specs.Items.{items_of}
use Rattle.core_state.specs.Inner.SplitPages.{NoLonger}
use Rattle.core_state.proofs.LongestParts.{leaf_room, leaf_longest, inner_longest, post_longest, list_longest}
use Rattle.core_state.proofs.LongestParts.{half_kind}
use Rattle.core_state.proofs.splitting.is_longest.Goals as goal

pub none_longer-requires : goal.none_longer-requires
none_longer-requires c =
    let k = c.in-EntryLeaf in
    omega (
      arith,
      c.requires.front,
      leaf_room c.args.old.now c.args.left.now.body c.args.right.now.body c.requires.old c.requires.halves k.high
          k.entries k.is,
    )

pub returns-in-EntryLeaf : goal.returns-in-EntryLeaf
returns-in-EntryLeaf c =
    let k = c.in-EntryLeaf in
    let same = leaf_longest c.args.old.now c.args.left.now.body c.args.right.now.body c.requires.old c.requires.halves
    k.high k.entries k.is in (
      λ e. same.0 (subst (λ (n : ℕ). NoLonger n k.entries) c.requires.front (c.none_longer.ensures.0 e)),
      λ l. c.none_longer.ensures.1 (subst (λ (n : ℕ). NoLonger n k.entries) (sym c.requires.front) (same.1 l)),
    )

pub returns-in-EntryInner : goal.returns-in-EntryInner
returns-in-EntryInner c =
    let same = inner_longest c.args.old.now c.args.left.now.body c.args.right.now.body c.requires.old
    c.requires.halves c.in-EntryInner.children c.in-EntryInner.is in (
      λ e. same.0 (sym c.len.ensures ∙ eqb-true c.len.result 1 e),
      λ l. eq-eqb c.len.result 1 (c.len.ensures ∙ same.1 l),
    )

pub returns-in-PostInner : goal.returns-in-PostInner
returns-in-PostInner c =
    let same = post_longest c.args.old.now c.args.left.now.body c.args.right.now.body c.requires.old
    c.requires.halves c.in-PostInner.children c.in-PostInner.is in (
      λ e. same.0 (sym c.len-in-PostInner.ensures ∙ eqb-true c.len-in-PostInner.result 1 e),
      λ l. eq-eqb c.len-in-PostInner.result 1 (c.len-in-PostInner.ensures ∙ same.1 l),
    )

pub returns-in-PostLeaf : goal.returns-in-PostLeaf
returns-in-PostLeaf c =
    let k = c.in-PostLeaf in
    let same = list_longest c.args.old.now c.args.left.now c.args.right.now.body c.requires.old c.requires.left
    c.requires.halves k.high k.items k.is in (
      λ e. same.0 (ap (λ (xs : List ℕ). length (items_of xs)) (sym c.as_slice.ensures) ∙ c.has_one.ensures.0 e),
      λ l. c.has_one.ensures.1 (ap (λ (xs : List ℕ). length (items_of xs)) c.as_slice.ensures ∙ same.1 l),
    )

pub returns-in_default : goal.returns-in_default
returns-in_default c =
    let none = half_kind c.args.old.now.body c.args.left.now.body c.args.right.now.body c.requires.halves
    c.in_default.not-EntryLeaf c.in_default.not-EntryInner c.in_default.not-PostLeaf c.in_default.not-PostInner in (
      λ e. absurd (none),
      λ l. absurd (none),
    )
