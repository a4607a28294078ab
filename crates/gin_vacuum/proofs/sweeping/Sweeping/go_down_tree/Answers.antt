use Rattle.std.proofs.Common.{◌≡◌, [], refl, sym, subst, Some, arith}
use Rattle.page_types.specs.Pages.{IsPage}
use Rattle.page_types.specs.declared.page.Page.{Page}
use Rattle.core_state.specs.States.{StateTells}
use Rattle.core_maintenance.proofs.WaysLead.{ways_hold}
use Rattle.core_vacuum.proofs.FirstLeaves.{leaves_hold}
use Rattle.posting_tree.specs.Adding.{IsPostLeaf}
use Rattle.posting_tree.specs.Reading.{IsPostBody, first_child_in}
use Rattle.gin_place.proofs.Faults.{calm_fine, fine_then}
use Rattle.gin_vacuum.specs.Inner.Reading.{IsBelowInTree}
use Rattle.gin_vacuum.specs.Sweeping.{IsAt}
use Rattle.gin_vacuum.specs.declared.sweeping.Stage.TheVariants as stage
use Rattle.gin_vacuum.proofs.DownSteps.{at_tree_leaf, at_tree_child}
use Rattle.gin_vacuum.proofs.GoneDown.{gone_on, right_then}
use Rattle.gin_vacuum.proofs.NotHeld.{misplaced, no_post}
use Rattle.gin_vacuum.proofs.PostsGone.{below_lower}
use Rattle.gin_vacuum.proofs.sweeping.Sweeping.go_down_tree.Goals as goal

pub release-requires : goal.release-requires
release-requires g c =
    let w = c.requires.held.1 in
    record {
      pass = w.reads.works.is_pass;
      right = right_then g.D.Disk w.frames c.args.frames.now w.pass c.args.pass.now w.right w.is_pass w.none w.reads
          c.requires.held.0 c.args.self.now w.sweeping;
      holding = ([], w.holding);
    }

pub returns-in-Leaf : goal.returns-in-Leaf
returns-in-Leaf g c = record {
  swept = λ dead w.
      let h = c.args.held in
      gone_on g.D.Disk w.frames c.args.frames.now w.pass
      c.args.pass.now w.right w.is_pass w.none w.reads dead c.args.self.now
      w.sweeping c.release.new.frames c.release.new.pass h w.holding c.release.ensures.reads
      (sym (c.release.ensures.holding [] w.holding).all) _ tt
      (fine_then g.D.Disk w.frames c.args.frames.now c.release.new.frames w.fine
      (calm_fine g.D.Disk c.args.frames.now c.release.new.frames c.release.ensures.calm))
      (λ S P. (P h.page ≡ h.content) × StateTells S c.args.frames.now.journal.state)
      (λ S P some legal shown at x.
      at_tree_leaf S P some legal shown leaves_hold ways_hold c.args.frames.now.journal.state
      x.1 w.more.0 c.args.left w.more.1 dead c.args.self.now c.args.page h.content
      (subst (λ n. P n ≡ h.content) w.number x.0) c.args.root w.more.2
      (subst (IsAt P dead c.args.self.now) c.requires.stage at)
      (subst (λ (d : Page). IsPostLeaf d.body) c.page.ensures.value
      (subst (IsBelowInTree c.page.result.now.body) c.in-Leaf.is c.tree_way_on-next.ensures)))
      (λ t up R stands legal P shown.
      (w.seen t up R stands legal P shown, w.told t up R stands legal P shown)) tt;
  lower = let l = below_lower c.args.self.now c.args.root c.args.page c.args.left c.requires.stage
      c.requires.held.1.lower in
      omega (arith, l);
}

pub returns-in-Child : goal.returns-in-Child
returns-in-Child g c = record {
  swept = λ dead w.
      let h = c.args.held in
      gone_on g.D.Disk w.frames c.args.frames.now w.pass
      c.args.pass.now w.right w.is_pass w.none w.reads dead c.args.self.now
      w.sweeping c.release.new.frames c.release.new.pass h w.holding c.release.ensures.reads
      (sym (c.release.ensures.holding [] w.holding).all) _ tt
      (fine_then g.D.Disk w.frames c.args.frames.now c.release.new.frames w.fine
      (calm_fine g.D.Disk c.args.frames.now c.release.new.frames c.release.ensures.calm))
      (λ S P. (P h.page ≡ h.content) × StateTells S c.args.frames.now.journal.state)
      (λ S P some legal shown at x.
      at_tree_child S P some legal shown leaves_hold ways_hold c.args.frames.now.journal.state
      x.1 w.more.0 c.args.left w.more.1 dead c.args.self.now c.args.page h.content
      (subst (λ n. P n ≡ h.content) w.number x.0) c.args.root w.more.2
      (subst (IsAt P dead c.args.self.now) c.requires.stage at) c.in-Child.page
      (subst (λ (d : Page). first_child_in d.body ≡ Some c.in-Child.page) c.page.ensures.value
      (subst (IsBelowInTree c.page.result.now.body) c.in-Child.is c.tree_way_on-next.ensures)))
      (λ t up R stands legal P shown.
      (w.seen t up R stands legal P shown, w.told t up R stands legal P shown)) tt;
  lower = let l = below_lower c.args.self.now c.args.root c.args.page c.args.left c.requires.stage
      c.requires.held.1.lower in
      omega (arith, l);
}

pub returns-in-Bad : goal.returns-in-Bad
returns-in-Bad g c = record {
  swept = λ dead w.
      let b = c.release.ensures in
      let bad = subst (IsBelowInTree c.page.result.now.body) c.in-Bad.is c.tree_way_on-next.ensures in
      misplaced g.D.Disk ways_hold c.args.frames.now c.args.pass.now dead c.args.self.now c.args.page
      c.args.self.now.left_below c.args.held c.args.left w (stage.TreeDown c.args.root c.args.page)
      c.requires.stage refl
      c.release.new.frames c.release.new.pass b.reads (sym (b.holding [] w.holding).all) b.calm
      (subst IsPage c.page.ensures.value c.page.ensures.is_page)
      (subst (λ (d : Page). IsPostBody d.body → ⊥) c.page.ensures.value
      (no_post c.page.result.now c.page.ensures.is_page bad.0 bad.1));
  lower = tt;
}
