use Rattle.std.proofs.Common.{◌≡◌, ◌++◌, map, true, refl, sym, subst, ◌∙◌}
use Rattle.ts_base.specs.Keys.{Key}
use Rattle.page_types.specs.declared.page.Body.TheVariants as body
use Rattle.core_state.specs.TreeRules.{EntryHalves}
use Rattle.core_state.specs.Inner.Members.{Member}
use Rattle.core_state.specs.Inner.SplitPages.{Divides}
use Rattle.core_state.proofs.SharedFronts.{entry_one}
use Rattle.core_state.proofs.TakenEntries.{bytes_same, bytes_differ}
use Rattle.core_state.proofs.Halves.{leaf_told, leaf_back, members_joined, LeafHalves}
use Rattle.core_state.proofs.splitting.leaf_mid.Goals as goal
use Rattle.core_state.proofs.splitting.leaf_mid.Goals.{then-ne-via-then-ne, then-ne-via-else-ne+then-not-divides}

pub returns-then-ne-clause-none : goal.returns-then-ne-clause-none
returns-then-ne-clause-none c =
    let high = c.args.high.now in
    let entries = c.args.entries.now in
    let k = c.in-EntryLeaf in
    let j = c.in-EntryLeaf-body in
    λ m h.
    let b : LeafHalves m high k.mid j.end entries k.front j.back = leaf_back m (body.EntryLeaf high entries)
    c.args.left.now.body c.args.right.now.body h high k.mid j.end entries k.front j.back refl k.is j.is in
    elim c.then-ne.branch [
      | then-ne-via-then-ne w ↦ bytes_differ c.as_slice.result.now high c.ne.result c.ne.ensures w.if-ne.true
          (c.as_slice.ensures ∙ b.end_is)
      | then-ne-via-else-ne+then-not-divides w ↦
          let yes : w.divides.result ≡ true = w.divides.ensures.1 (subst (λ (z : Key). Divides z k.front j.back)
          (sym w.as_slice-else-ne.ensures) b.divides) in
          absurd (cc (yes, w.if-not-divides.true))
    ]

pub returns-clause-some : goal.returns-clause-some
returns-clause-some c =
    let high = c.args.high.now in
    let entries = c.args.entries.now in
    let k = c.in-EntryLeaf in
    let j = c.in-EntryLeaf-body in
    let left = c.args.left.now.body in
    let right = c.args.right.now.body in
    let same : j.end ≡ high =
    sym c.as_slice.ensures ∙ bytes_same c.as_slice.result.now high c.ne.result c.ne.ensures c.if-ne.false in
    let lists : map Member.entry entries ≡ map Member.entry k.front ++ map Member.entry j.back =
    c.is_joined.ensures.0 c.if-not-is_joined.false in
    let d : Divides k.mid k.front j.back = subst (λ (z : Key). Divides z k.front j.back) c.as_slice-else-ne.ensures
    (c.divides.ensures.0 c.if-not-divides.false) in
    subst (λ (z : Key). EntryHalves z (body.EntryLeaf high entries) left right) (sym c.as_slice-2.ensures)
    (leaf_told high k.mid j.end entries k.front j.back left right k.is j.is same
    (members_joined Member.entry entry_one entries k.front j.back lists) d)
