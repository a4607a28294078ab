use Rattle.std.proofs.Common.{refl, ap, inl, inr}
use Rattle.std.proofs.lemmas.Bool.{false≢true}
use Rattle.page_types.specs.declared.page.PostChild.{PostChild}
use Rattle.core_vacuum.proofs.LostChildren.{IsOther, none_agree, one_more_agrees, other_there, all_agree, size_is}
use Rattle.core_vacuum.proofs.deleting.are_others.Goals as goal
use Rattle.core_vacuum.proofs.deleting.are_others.Goals.{then-j-k, else-j-k, then-now-was-via-then-now-was}
use Rattle.core_vacuum.proofs.deleting.are_others.Goals.{then-now-was-via-else-now-was+then-now-was-2}

pub returns-then-new-children : goal.returns-then-new-children
returns-then-new-children c = (
  λ e. absurd (false≢true e),
  λ w. absurd (c.if-new-children.true (size_is c.args.children.now c.args.k c.args.new.now c.requires w)),
)

pub loop-j-init : goal.loop-j-init
loop-j-init c = none_agree c.args.children.now c.args.k c.args.new.now

pub returns-then-now-was : goal.returns-then-now-was
returns-then-now-was c = (
  λ e. absurd (false≢true e),
  λ w.
      let is_was : IsOther c.args.children.now c.args.k c.loop-j.j c.if-j-k.was = elim c.if-j-k.branch [
        | then-j-k v ↦ inl (v.if-j-k.true, v.was-is)
        | else-j-k v ↦ inr (v.if-j-k.false, v.was-is)
      ] in
      let same = other_there c.args.children.now c.args.k c.args.new.now c.loop-j.j c.requires
      c.if-new-children.false c.loop-j-test.true c.if-j-k.was is_was w in
      elim c.then-now-was.branch [
        | then-now-was-via-then-now-was v ↦ absurd (v.if-now-was.true (ap (λ (x : PostChild). x.page) same))
        | then-now-was-via-else-now-was+then-now-was-2 v ↦ absurd
            (v.if-now-was-2.true (ap (λ (x : PostChild). x.bound) same))
      ],
)

pub loop-j-preserved : goal.loop-j-preserved
loop-j-preserved c =
    let is_was : IsOther c.args.children.now c.args.k c.loop-j.j c.if-j-k.was = elim c.if-j-k.branch [
      | then-j-k v ↦ inl (v.if-j-k.true, v.was-is)
      | else-j-k v ↦ inr (v.if-j-k.false, v.was-is)
    ] in
    one_more_agrees c.args.children.now c.args.k c.args.new.now c.loop-j.j c.requires
    c.if-new-children.false c.loop-j-test.true c.if-j-k.was is_was c.loop-j.invariant c.if-now-was.false
    c.if-now-was-2.false

pub returns : goal.returns
returns c = (
  λ e. all_agree c.args.children.now c.args.k c.args.new.now c.loop-j.j c.requires c.if-new-children.false
      c.loop-j-test.false
      c.loop-j.invariant,
  λ w. refl,
)
