use Rattle.std.proofs.Common.{◌≡◌, ◌+◌, true, arith}
use Rattle.page_types.specs.declared.page.PostChild.{PostChild}
use Rattle.core_state.specs.Inner.Members.{Member, Shared}
use Rattle.core_state.proofs.SharedFronts.{shared_of, drop_of, of_drop, map_length, post_one, there_below}
use Rattle.core_state.proofs.Halves.{post_adopts_told, post_adopts_back, post_adopts_at, post}
use Rattle.core_state.proofs.Halves.{post_rising}
use Rattle.core_state.proofs.splitting.adopts_post.Goals as goal
use Rattle.core_state.proofs.splitting.adopts_post.Goals.{then-child-page-via-then-child-page}
use Rattle.core_state.proofs.splitting.adopts_post.Goals.{then-child-page-via-else-child-page+then-not-is_post}

pub returns-then-k-len : goal.returns-then-k-len
returns-then-k-len c =
    let was = c.in-PostInner.was in
    let now = c.in-PostInner-body.now in
    let k = c.shared-k.result in
    let s : Shared was now k = shared_of Member.post post_one was now k c.shared-k.ensures in
    let are = post_rising c.args.then.now now c.requires c.in-PostInner-body.is in (
      λ e. absurd (cc),
      λ p.
          let a = post_adopts_back c.args.page c.args.new c.args.mid c.args.old.now.body c.args.then.now.body was now k
          c.args.then.now.right c.in-PostInner.is c.in-PostInner-body.is are s p in
          absurd (omega (
            arith,
            there_below was k (post c.args.page a.0) a.1.old,
            c.len.ensures,
            c.if-k-len.true,
          )),
    )

pub returns-then-child-page : goal.returns-then-child-page
returns-then-child-page c =
    let was = c.in-PostInner.was in
    let now = c.in-PostInner-body.now in
    let k = c.shared-k.result in
    let x : PostChild = c.in-Some.child.now in
    let s : Shared was now k = shared_of Member.post post_one was now k c.shared-k.ensures in
    let are = post_rising c.args.then.now now c.requires c.in-PostInner-body.is in (
      λ e. absurd (cc),
      λ p.
          let a = post_adopts_back c.args.page c.args.new c.args.mid c.args.old.now.body c.args.then.now.body was now k
          c.args.then.now.right c.in-PostInner.is c.in-PostInner-body.is are s p in
          let b = post_adopts_at c.args.page c.args.new c.args.mid was now k x a c.in-Some.ensures.some in
          elim c.then-child-page.branch [
            | then-child-page-via-then-child-page w ↦ absurd (w.if-child-page.true b.0)
            | then-child-page-via-else-child-page+then-not-is_post w ↦
                let yes : w.is_post.result ≡ true = w.is_post.ensures.1 b.1.first in
                absurd (cc (yes, w.if-not-is_post.true))
          ],
    )

pub returns-then-not-is_post-2 : goal.returns-then-not-is_post-2
returns-then-not-is_post-2 c =
    let was = c.in-PostInner.was in
    let now = c.in-PostInner-body.now in
    let k = c.shared-k.result in
    let x : PostChild = c.in-Some.child.now in
    let s : Shared was now k = shared_of Member.post post_one was now k c.shared-k.ensures in
    let are = post_rising c.args.then.now now c.requires c.in-PostInner-body.is in (
      λ e. absurd (cc),
      λ p.
          let a = post_adopts_back c.args.page c.args.new c.args.mid c.args.old.now.body c.args.then.now.body was now k
          c.args.then.now.right c.in-PostInner.is c.in-PostInner-body.is are s p in
          let b = post_adopts_at c.args.page c.args.new c.args.mid was now k x a c.in-Some.ensures.some in
          let yes : c.is_post-2.result ≡ true = c.is_post-2.ensures.1 b.1.second in
          absurd (cc (yes, c.if-not-is_post-2.true)),
    )

pub go_on-requires-clause-b : goal.go_on-requires-clause-b
go_on-requires-clause-b c =
    let now = c.in-PostInner-body.now in
    let k = c.shared-k.result in
    let y : PostChild = post c.args.new c.in-Some.child.now.bound in
    omega (
      arith,
      there_below now (k + 1) y (c.is_post-2.ensures.0 c.if-not-is_post-2.false),
      map_length Member.post post_one now,
    )

pub returns : goal.returns
returns c =
    let was = c.in-PostInner.was in
    let now = c.in-PostInner-body.now in
    let k = c.shared-k.result in
    let x : PostChild = c.in-Some.child.now in
    let s : Shared was now k = shared_of Member.post post_one was now k c.shared-k.ensures in
    let are = post_rising c.args.then.now now c.requires c.in-PostInner-body.is in (
      λ e. post_adopts_told c.args.page c.args.new c.args.mid c.args.old.now.body c.args.then.now.body was now k x
          c.in-PostInner.is c.in-PostInner-body.is s c.if-child-page.false (record {
            old = c.in-Some.ensures.some;
            first = c.is_post.ensures.0 c.if-not-is_post.false;
            second = c.is_post-2.ensures.0 c.if-not-is_post-2.false;
            same = drop_of Member.post post_one was now (k + 1) (k + 2) (c.go_on.ensures.0 e);
          }),
      λ p.
          let a = post_adopts_back c.args.page c.args.new c.args.mid c.args.old.now.body c.args.then.now.body was now k
          c.args.then.now.right c.in-PostInner.is c.in-PostInner-body.is are s p in
          let b = post_adopts_at c.args.page c.args.new c.args.mid was now k x a c.in-Some.ensures.some in
          c.go_on.ensures.1 (of_drop Member.post post_one was now (k + 1) (k + 2) b.1.same),
    )
