use Rattle.std.proofs.Common.{◌≡◌, ◌+◌, true, arith}
use Rattle.page_types.specs.Parts.{child_shown}
use Rattle.page_types.specs.declared.page.EntryChild.{EntryChild}
use Rattle.core_state.specs.Inner.Members.{Member, Shared}
use Rattle.core_state.proofs.SharedFronts.{shared_of, drop_of, of_drop, map_length, child_one, there_below}
use Rattle.core_state.proofs.Halves.{adopts_told, adopts_back, adopts_at, child, inner_rising}
use Rattle.core_state.proofs.splitting.adopts_child.Goals as goal
use Rattle.core_state.proofs.splitting.adopts_child.Goals.{then-child-page-via-then-child-page}
use Rattle.core_state.proofs.splitting.adopts_child.Goals.{then-child-page-via-else-child-page+then-not-is_child}

pub returns-then-k-len : goal.returns-then-k-len
returns-then-k-len c =
    let was = c.in-EntryInner.was in
    let now = c.in-EntryInner-body.now in
    let k = c.shared-k.result in
    let s : Shared was now k = shared_of Member.child child_one was now k c.shared-k.ensures in
    let are = inner_rising c.args.then.now now c.requires c.in-EntryInner-body.is in (
      λ e. absurd (cc),
      λ p.
          let a = adopts_back c.args.page c.args.new c.args.mid.now c.args.old.now.body c.args.then.now.body was now k
          c.args.then.now.right c.in-EntryInner.is c.in-EntryInner-body.is are s p in
          absurd (omega (
            arith,
            there_below was k (child c.args.page a.0) a.1.old,
            c.len.ensures,
            c.if-k-len.true,
          )),
    )

pub returns-then-child-page : goal.returns-then-child-page
returns-then-child-page c =
    let was = c.in-EntryInner.was in
    let now = c.in-EntryInner-body.now in
    let k = c.shared-k.result in
    let x : EntryChild = child_shown c.in-Some.child in
    let s : Shared was now k = shared_of Member.child child_one was now k c.shared-k.ensures in
    let are = inner_rising c.args.then.now now c.requires c.in-EntryInner-body.is in (
      λ e. absurd (cc),
      λ p.
          let a = adopts_back c.args.page c.args.new c.args.mid.now c.args.old.now.body c.args.then.now.body was now k
          c.args.then.now.right c.in-EntryInner.is c.in-EntryInner-body.is are s p in
          let b = adopts_at c.args.page c.args.new c.args.mid.now was now k x a c.in-Some.ensures.some in
          elim c.then-child-page.branch [
            | then-child-page-via-then-child-page w ↦ absurd (w.if-child-page.true b.0)
            | then-child-page-via-else-child-page+then-not-is_child w ↦
                let yes : w.is_child.result ≡ true = w.is_child.ensures.1 b.1.first in
                absurd (cc (yes, w.if-not-is_child.true))
          ],
    )

pub returns-then-not-is_child-2 : goal.returns-then-not-is_child-2
returns-then-not-is_child-2 c =
    let was = c.in-EntryInner.was in
    let now = c.in-EntryInner-body.now in
    let k = c.shared-k.result in
    let x : EntryChild = child_shown c.in-Some.child in
    let s : Shared was now k = shared_of Member.child child_one was now k c.shared-k.ensures in
    let are = inner_rising c.args.then.now now c.requires c.in-EntryInner-body.is in (
      λ e. absurd (cc),
      λ p.
          let a = adopts_back c.args.page c.args.new c.args.mid.now c.args.old.now.body c.args.then.now.body was now k
          c.args.then.now.right c.in-EntryInner.is c.in-EntryInner-body.is are s p in
          let b = adopts_at c.args.page c.args.new c.args.mid.now was now k x a c.in-Some.ensures.some in
          let yes : c.is_child-2.result ≡ true = c.is_child-2.ensures.1 b.1.second in
          absurd (cc (yes, c.if-not-is_child-2.true)),
    )

pub go_on-requires-clause-b : goal.go_on-requires-clause-b
go_on-requires-clause-b c =
    let now = c.in-EntryInner-body.now in
    let k = c.shared-k.result in
    let y : EntryChild = child c.args.new c.in-Some.child.bound.now in
    omega (
      arith,
      there_below now (k + 1) y (c.is_child-2.ensures.0 c.if-not-is_child-2.false),
      map_length Member.child child_one now,
    )

pub returns : goal.returns
returns c =
    let was = c.in-EntryInner.was in
    let now = c.in-EntryInner-body.now in
    let k = c.shared-k.result in
    let x : EntryChild = child_shown c.in-Some.child in
    let s : Shared was now k = shared_of Member.child child_one was now k c.shared-k.ensures in
    let are = inner_rising c.args.then.now now c.requires c.in-EntryInner-body.is in (
      λ e. adopts_told c.args.page c.args.new c.args.mid.now c.args.old.now.body c.args.then.now.body was now k x
          c.in-EntryInner.is c.in-EntryInner-body.is s c.if-child-page.false (record {
            old = c.in-Some.ensures.some;
            first = c.is_child.ensures.0 c.if-not-is_child.false;
            second = c.is_child-2.ensures.0 c.if-not-is_child-2.false;
            same = drop_of Member.child child_one was now (k + 1) (k + 2) (c.go_on.ensures.0 e);
          }),
      λ p.
          let a = adopts_back c.args.page c.args.new c.args.mid.now c.args.old.now.body c.args.then.now.body was now k
          c.args.then.now.right c.in-EntryInner.is c.in-EntryInner-body.is are s p in
          let b = adopts_at c.args.page c.args.new c.args.mid.now was now k x a c.in-Some.ensures.some in
          c.go_on.ensures.1 (of_drop Member.child child_one was now (k + 1) (k + 2) b.1.same),
    )
