use Rattle.std.proofs.Common.{◌≡◌, ℕ, ◌-◌, suc, List, length, get_or, refl, sym, ap, subst, ◌∙◌, arith, ◌++◌, ◌∷◌, []}
use Rattle.std.proofs.lemmas.Bool.{false≢true}
use Rattle.page_types.specs.declared.record.Change.{Change}
use Rattle.core_state.specs.States.{known_by}
use Rattle.core_vacuum.specs.Inner.Deleting.{LeavesParent, LinksPast}
use Rattle.core_vacuum.proofs.LostChildren.{two_told, three_told, two_here, three_here, leaf_back, upper_back}
use Rattle.core_vacuum.proofs.LostChildren.{links_back}
use Rattle.core_vacuum.proofs.LostChildren.{sizes, not_less, not_more, page_of_first, two_changed, three_changed}
use Rattle.core_vacuum.proofs.deleting.valid_delete_post.Goals as goal
use Rattle.core_vacuum.proofs.deleting.valid_delete_post.Goals.{then-before-count-via-then-before-count}

pub returns-then-not-leaves_parent : goal.returns-then-not-leaves_parent
returns-then-not-leaves_parent c =
    let r = c.args.rec.now in
    let x = c.index-changes-0.result in
    let n : ℕ = length c.as_slice-changes.result.now - 1 in
    let is : x ≡ get_or r.changes 0 x =
    subst (λ (cs : List Change). x ≡ get_or cs 0 x) c.as_slice-changes.ensures c.index-changes-0.is in
    let first : x.page ≡ (get_or c.as_slice-changes.result.now 0 x).page = ap (λ (y : Change). y.page)
    c.index-changes-0.is in
    let size : suc n ≡ length c.args.before.now = omega (arith, c.if-count-lt2.false, c.if-before-count.false) in (
      λ e. absurd (false≢true e),
      λ w. sym c.if-not-leaves_parent.true ∙ c.leaves_parent.ensures.1
          (upper_back (known_by c.args.state.now.value) r c.args.before.now c.args.after.now w
          (get_or c.as_slice-changes.result.now 0 x).page c.index-before-last.result c.index-after-last.result
          (page_of_first r.changes x w.page (w.lefts ++ w.parent ∷ []) is w.pages ∙ first) n size
          c.index-before-last.is c.index-after-last.is),
    )

pub returns-then-count-eq2 : goal.returns-then-count-eq2
returns-then-count-eq2 c =
    let r = c.args.rec.now in
    let before = c.args.before.now in
    let after = c.args.after.now in
    let x = c.index-changes-0.result in
    let old = c.index-before-0.result in
    let new = c.index-after-0.result in
    let parent = c.index-before-last.result in
    let then = c.index-after-last.result in
    let is : x ≡ get_or r.changes 0 x =
    subst (λ (cs : List Change). x ≡ get_or cs 0 x) c.as_slice-changes.ensures c.index-changes-0.is in
    let first : x.page ≡ (get_or c.as_slice-changes.result.now 0 x).page = ap (λ (y : Change). y.page)
    c.index-changes-0.is in
    let one : length c.as_slice-changes.result.now - 1 ≡ 1 = omega (arith, c.if-count-eq2.true) in
    let n : length r.changes ≡ 2 = omega (arith, c.if-count-eq2.true, ap length c.as_slice-changes.ensures) in
    let nb : length before ≡ 2 = omega (arith, c.if-count-eq2.true, c.if-before-count.false) in
    let na : length after ≡ 2 = omega (arith, c.if-count-eq2.true, c.if-after-count.false) in
    let parent_is = subst (λ (i : ℕ). parent ≡ get_or before i parent) one c.index-before-last.is in
    let then_is = subst (λ (i : ℕ). then ≡ get_or after i then) one c.index-after-last.is in
    let p = two_changed r.changes x n is in (
      λ e. two_here (known_by c.args.state.now.value) r before after x.page old new parent then (record {
        kind_is = c.in-DeletePost.is;
        other = p.0;
        pages = p.1;
        before_is = two_told before old parent nb c.index-before-0.is parent_is;
        after_is = two_told after new then na c.index-after-0.is then_is;
        leaf = c.leaves_deleted.ensures.0 c.if-not-leaves_deleted.false;
        upper = subst (λ (q : ℕ). LeavesParent r q parent then) (sym first)
            (c.leaves_parent.ensures.0 c.if-not-leaves_parent.false);
      }),
      λ w. refl,
    )

pub returns : goal.returns
returns c =
    let k = known_by c.args.state.now.value in
    let r = c.args.rec.now in
    let before = c.args.before.now in
    let after = c.args.after.now in
    let x = c.index-changes-0.result in
    let old = c.index-before-0.result in
    let new = c.index-after-0.result in
    let left = c.index-before-1.result in
    let passed = c.index-after-1.result in
    let parent = c.index-before-last.result in
    let then = c.index-after-last.result in
    let is : x ≡ get_or r.changes 0 x =
    subst (λ (cs : List Change). x ≡ get_or cs 0 x) c.as_slice-changes.ensures c.index-changes-0.is in
    let first : x.page ≡ (get_or c.as_slice-changes.result.now 0 x).page = ap (λ (y : Change). y.page)
    c.index-changes-0.is in
    let three : length c.as_slice-changes.result.now ≡ 3 =
    omega (arith, c.if-count-lt2.false, c.if-count-gt3.false, c.if-count-eq2.false) in
    let two : length c.as_slice-changes.result.now - 1 ≡ 2 = omega (arith, three) in
    let n : length r.changes ≡ 3 = omega (arith, three, ap length c.as_slice-changes.ensures) in
    let nb : length before ≡ 3 = omega (arith, three, c.if-before-count.false) in
    let na : length after ≡ 3 = omega (arith, three, c.if-after-count.false) in
    let parent_is = subst (λ (i : ℕ). parent ≡ get_or before i parent) two c.index-before-last.is in
    let then_is = subst (λ (i : ℕ). then ≡ get_or after i then) two c.index-after-last.is in
    let p = three_changed r.changes x n is in (
      λ e. three_here k r before after x.page old new left passed parent then (record {
        kind_is = c.in-DeletePost.is;
        before_page = p.0;
        other = p.1;
        pages = p.2;
        before_is = three_told before old left parent nb c.index-before-0.is c.index-before-1.is parent_is;
        after_is = three_told after new passed then na c.index-after-0.is c.index-after-1.is then_is;
        leaf = c.leaves_deleted.ensures.0 c.if-not-leaves_deleted.false;
        links = subst (λ (q : ℕ). LinksPast r q old.right left passed) (sym first) (c.links_past.ensures.0 e);
        upper = subst (λ (q : ℕ). LeavesParent r q parent then) (sym first)
            (c.leaves_parent.ensures.0 c.if-not-leaves_parent.false);
      }),
      λ w. c.links_past.ensures.1 (links_back k r before after w (get_or c.as_slice-changes.result.now 0 x).page old
          left passed (page_of_first r.changes x w.page (w.lefts ++ w.parent ∷ []) is w.pages ∙ first) nb
          c.index-before-0.is c.index-before-1.is c.index-after-1.is),
    )

pub returns-in_default : goal.returns-in_default
returns-in_default c = (λ e. absurd (false≢true e), λ w. absurd (c.in_default.not-DeletePost w.kind_is))

pub returns-then-before-count : goal.returns-then-before-count
returns-then-before-count c = (
  λ e. absurd (false≢true e),
  λ w.
      let r = c.args.rec.now in
      let x = sizes (known_by c.args.state.now.value) r c.args.before.now c.args.after.now w in
      let n = ap length c.as_slice-changes.ensures in
      elim c.then-before-count.branch [
        | then-before-count-via-then-before-count v ↦ absurd (v.if-before-count.true (x.before_is ∙ sym n))
        | goal.then-before-count-via-else-before-count+then-after-count v ↦ absurd
            (v.if-after-count.true (x.after_is ∙ sym n))
        | goal.then-before-count-via-else-before-count+else-after-count+then-count-lt2 v ↦ absurd
            (not_less n x.least v.if-count-lt2.true)
        | goal.then-before-count-via-else-before-count+else-after-count+else-count-lt2+then-count-gt3 v ↦ absurd
            (not_more n x.most v.if-count-gt3.true)
      ],
)

pub returns-then-not-leaves_deleted : goal.returns-then-not-leaves_deleted
returns-then-not-leaves_deleted c = (
  λ e. absurd (false≢true e),
  λ w. sym c.if-not-leaves_deleted.true ∙ c.leaves_deleted.ensures.1
      (leaf_back (known_by c.args.state.now.value) c.args.rec.now c.args.before.now c.args.after.now w
      c.index-before-0.result c.index-after-0.result c.index-before-0.is c.index-after-0.is),
)
