use Rattle.std.proofs.Common.{◌∙◌, refl, sym, ap, subst}
use Rattle.gin_vacuum.specs.Stepping.{IsNext}
use Rattle.gin_vacuum.specs.declared.sweeping.Stage.{Stage}
use Rattle.gin_vacuum.specs.declared.sweeping.Stage.TheVariants as stage
use Rattle.gin_vacuum.proofs.AtWork.{holds_at, sweeps_at}
use Rattle.gin_vacuum.proofs.sweeping.Sweeping.work.Goals as goal

-- ── the way down the entry tree ──

pub go_down-requires : goal.go_down-requires
go_down-requires g c = record {
  stage = c.in-Down.is;
  held = (
    c.args.dead.now,
    holds_at g.D.Disk c.args.frames.now c.args.pass.now c.args.dead.now c.args.self.now c.args.held
        c.args.left (stage.Down c.in-Down.page) c.in-Down.is c.requires.next c.in-Down.page refl
        c.requires.held,
  );
}

pub returns-in-Down : goal.returns-in-Down
returns-in-Down g c = record {
  swept = sweeps_at g.D.Disk c.args.frames.now c.args.pass.now c.args.dead.now c.args.self.now c.args.held
      c.args.left (stage.Down c.in-Down.page) c.in-Down.is c.requires.next c.in-Down.page refl
      c.go_down.new.frames c.go_down.new.pass c.go_down.new.self c.go_down.result
      (c.go_down.ensures.swept c.args.dead.now);
  lower = c.go_down.ensures.lower;
}

-- ── a leaf of it ──

pub clean_leaf-requires : goal.clean_leaf-requires
clean_leaf-requires g c =
    let at = subst (λ (t : Stage). IsNext t c.args.held.page) c.in-Leaf.is c.requires.next in
    record {
      stage = c.in-Leaf.is ∙ ap (stage.Leaf) (sym at);
      held = holds_at g.D.Disk c.args.frames.now c.args.pass.now c.args.dead.now c.args.self.now c.args.held
          c.args.left (stage.Leaf c.in-Leaf.page) c.in-Leaf.is
          c.requires.next c.args.held.page at c.requires.held;
    }

pub returns-in-Leaf : goal.returns-in-Leaf
returns-in-Leaf g c = record {
  swept = let at = subst (λ (t : Stage). IsNext t c.args.held.page) c.in-Leaf.is c.requires.next in
      sweeps_at g.D.Disk c.args.frames.now c.args.pass.now c.args.dead.now c.args.self.now c.args.held
      c.args.left (stage.Leaf c.in-Leaf.page) c.in-Leaf.is c.requires.next
      c.args.held.page at c.clean_leaf.new.frames c.clean_leaf.new.pass c.clean_leaf.new.self c.clean_leaf.result
      c.clean_leaf.ensures.swept;
  lower = c.clean_leaf.ensures.lower;
}

-- ── the way down a posting tree ──

pub go_down_tree-requires : goal.go_down_tree-requires
go_down_tree-requires g c = record {
  stage = c.in-TreeDown.is;
  held = (
    c.args.dead.now,
    holds_at g.D.Disk c.args.frames.now c.args.pass.now c.args.dead.now c.args.self.now c.args.held
        c.args.left (stage.TreeDown c.in-TreeDown.root c.in-TreeDown.page) c.in-TreeDown.is c.requires.next
        c.in-TreeDown.page refl
        c.requires.held,
  );
}

pub returns-in-TreeDown : goal.returns-in-TreeDown
returns-in-TreeDown g c = record {
  swept = sweeps_at g.D.Disk c.args.frames.now c.args.pass.now c.args.dead.now c.args.self.now c.args.held
      c.args.left (stage.TreeDown c.in-TreeDown.root c.in-TreeDown.page) c.in-TreeDown.is c.requires.next
      c.in-TreeDown.page refl
      c.go_down_tree.new.frames c.go_down_tree.new.pass c.go_down_tree.new.self
      c.go_down_tree.result (c.go_down_tree.ensures.swept c.args.dead.now);
  lower = c.go_down_tree.ensures.lower;
}

-- ── a leaf of it, and the way to its parent ──

pub clean_posts-requires : goal.clean_posts-requires
clean_posts-requires g c =
    let at = subst (λ (t : Stage). IsNext t c.args.held.page) c.in-Posts.is c.requires.next in
    record {
      stage = c.in-Posts.is ∙ ap (stage.Posts c.in-Posts.root c.in-Posts.before) (sym at);
      held = holds_at g.D.Disk c.args.frames.now c.args.pass.now c.args.dead.now c.args.self.now c.args.held
          c.args.left (stage.Posts c.in-Posts.root c.in-Posts.before c.in-Posts.page) c.in-Posts.is
          c.requires.next c.args.held.page at c.requires.held;
    }

pub returns-in-Posts : goal.returns-in-Posts
returns-in-Posts g c = record {
  swept = let at = subst (λ (t : Stage). IsNext t c.args.held.page) c.in-Posts.is c.requires.next in
      sweeps_at g.D.Disk c.args.frames.now c.args.pass.now c.args.dead.now c.args.self.now c.args.held
      c.args.left (stage.Posts c.in-Posts.root c.in-Posts.before c.in-Posts.page) c.in-Posts.is c.requires.next
      c.args.held.page at c.clean_posts.new.frames c.clean_posts.new.pass c.clean_posts.new.self c.clean_posts.result
      c.clean_posts.ensures.swept;
  lower = c.clean_posts.ensures.lower;
}

pub seek_parent-requires : goal.seek_parent-requires
seek_parent-requires g c =
    record {
      held = (
        c.args.dead.now,
        c.in-Parent.left,
        c.in-Parent.is,
        holds_at g.D.Disk c.args.frames.now c.args.pass.now c.args.dead.now c.args.self.now c.args.held
            c.args.left (stage.Parent c.in-Parent.empty c.in-Parent.page c.in-Parent.left) c.in-Parent.is
            c.requires.next c.in-Parent.page refl c.requires.held,
      );
    }

pub returns-in-Parent : goal.returns-in-Parent
returns-in-Parent g c = record {
  swept = sweeps_at g.D.Disk c.args.frames.now c.args.pass.now c.args.dead.now c.args.self.now c.args.held
      c.args.left (stage.Parent c.in-Parent.empty c.in-Parent.page c.in-Parent.left) c.in-Parent.is
      c.requires.next c.in-Parent.page refl c.seek_parent.new.frames c.seek_parent.new.pass c.seek_parent.new.self
      c.seek_parent.result (c.seek_parent.ensures.swept c.args.dead.now c.in-Parent.left c.in-Parent.is);
  lower = c.seek_parent.ensures.lower;
}
