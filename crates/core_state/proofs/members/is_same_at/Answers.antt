use Rattle.std.proofs.Common.{sym, subst, subst₂}
use Rattle.core_state.specs.Inner.Members.{Member, IsSameAt, members_of}
use Rattle.core_state.specs.declared.members.Members.{Members}
use Rattle.core_state.proofs.SharedFronts.{same_at, at_same, entry_one, child_one, post_one, entries_apart}
use Rattle.core_state.proofs.SharedFronts.{children_apart, posts_apart}
use Rattle.core_state.proofs.members.is_same_at.Goals as goal

pub returns-in-Entries-Entries : goal.returns-in-Entries-Entries
returns-in-Entries-Entries c =
    let i = c.args.i in
    let j = c.args.j in
    let k = c.in-Entries-Entries in
    let there = λ (a b : Members). IsSameAt (members_of a) i (members_of b) j in (
      λ e. subst₂ there (sym k.is-0) (sym k.is-1)
          (same_at Member.entry entry_one k.a.now k.b.now i j (c.is_entry_at.ensures.0 e)),
      λ s. c.is_entry_at.ensures.1
          (at_same Member.entry entry_one k.a.now k.b.now i j (subst₂ there k.is-0 k.is-1 s)),
    )

pub returns-in-Children-Children : goal.returns-in-Children-Children
returns-in-Children-Children c =
    let i = c.args.i in
    let j = c.args.j in
    let k = c.in-Children-Children in
    let there = λ (a b : Members). IsSameAt (members_of a) i (members_of b) j in (
      λ e. subst₂ there (sym k.is-0) (sym k.is-1)
          (same_at Member.child child_one k.a.now k.b.now i j (c.is_child_at.ensures.0 e)),
      λ s. c.is_child_at.ensures.1
          (at_same Member.child child_one k.a.now k.b.now i j (subst₂ there k.is-0 k.is-1 s)),
    )

pub returns-in-Posts-Posts : goal.returns-in-Posts-Posts
returns-in-Posts-Posts c =
    let i = c.args.i in
    let j = c.args.j in
    let k = c.in-Posts-Posts in
    let there = λ (a b : Members). IsSameAt (members_of a) i (members_of b) j in (
      λ e. subst₂ there (sym k.is-0) (sym k.is-1)
          (same_at Member.post post_one k.a.now k.b.now i j (c.is_post_at.ensures.0 e)),
      λ s. c.is_post_at.ensures.1
          (at_same Member.post post_one k.a.now k.b.now i j (subst₂ there k.is-0 k.is-1 s)),
    )

pub returns-in_default : goal.returns-in_default
returns-in_default c = (
  λ e. absurd (cc),
  λ s. absurd (entries_apart c.in_default.field-0-0.now c.args.b c.args.i c.args.j c.in_default.not-Entries-1
      (subst (λ (a : Members). IsSameAt (members_of a) c.args.i (members_of c.args.b) c.args.j) c.in_default.is-0 s)),
)

pub returns-in_default-2 : goal.returns-in_default-2
returns-in_default-2 c = (
  λ e. absurd (cc),
  λ s. absurd (children_apart c.in_default.field-0-0.now c.args.b c.args.i c.args.j c.in_default.not-Children-1
      (subst (λ (a : Members). IsSameAt (members_of a) c.args.i (members_of c.args.b) c.args.j) c.in_default.is-0 s)),
)

pub returns-in_default-3 : goal.returns-in_default-3
returns-in_default-3 c = (
  λ e. absurd (cc),
  λ s. absurd (posts_apart c.in_default.field-0-0.now c.args.b c.args.i c.args.j c.in_default.not-Posts-1
      (subst (λ (a : Members). IsSameAt (members_of a) c.args.i (members_of c.args.b) c.args.j) c.in_default.is-0 s)),
)
