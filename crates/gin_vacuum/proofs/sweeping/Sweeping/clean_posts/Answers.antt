use Rattle.std.proofs.Common.{◌≡◌, ℕ, [], refl, sym, ap, subst, ◌∙◌, Err, ◌<◌}
use Rattle.std.proofs.lemmas.Result.{err_from_is_err_and}
use Rattle.core_maintenance.proofs.WaysLead.{ways_hold}
use Rattle.core_vacuum.proofs.Kept.{vacuum_holds}
use Rattle.core_vacuum.proofs.FirstLeaves.{leaves_hold}
use Rattle.core_vacuum.proofs.OneEntry.{entries_hold}
use Rattle.posting_tree.specs.Adding.{IsPostLeaf}
use Rattle.gin_place.proofs.Faults.{fine_then, told_then}
use Rattle.gin_place.proofs.Exits.{no_ok}
use Rattle.gin_vacuum.specs.Stepping.{HasSwept, steps_left}
use Rattle.gin_vacuum.specs.declared.sweeping.Stage.TheVariants as stage
use Rattle.gin_vacuum.proofs.GoneDown.{right_then}
use Rattle.gin_vacuum.proofs.NotHeld.{unread}
use Rattle.gin_vacuum.proofs.PostsGone.{post_there, gone_next, gone_high, gone_lower}
use Rattle.gin_vacuum.proofs.SweptOn.{removal_held, refused_log, swept_cleaned}
use Rattle.gin_vacuum.proofs.sweeping.Sweeping.clean_posts.Goals as goal

pub release-requires : goal.release-requires
release-requires g c =
    let w = c.requires.held in
    record {
      pass = w.reads.works.is_pass;
      right = right_then g.D.Disk w.frames c.args.frames.now w.pass c.args.pass.now w.right w.is_pass w.none w.reads
          c.args.dead.now c.args.self.now w.sweeping;
      holding = ([], w.holding);
    }

pub returns-in-Err : goal.returns-in-Err
returns-in-Err g c = record {
  swept = λ w.
      let b = c.release.ensures in
      unread g.D.Disk ways_hold c.args.frames.now c.args.pass.now c.args.dead.now c.args.self.now
      c.args.held.page c.args.self.now.left_below c.args.held c.args.left w
      (stage.Posts c.args.root c.args.before c.args.held.page) c.requires.stage refl c.release.new.frames
      c.release.new.pass b.reads (sym (b.holding [] w.holding).all) b.calm IsPostLeaf (λ x. x) c.in-Err.error
      c.in-Err.ensures.unread;
  lower = tt;
}

pub log_cleaned-requires : goal.log_cleaned-requires
log_cleaned-requires g c =
    let w = c.requires.held in
    record {
      removal = (
        c.args.dead.now,
        removal_held g.D.Disk w.frames c.args.frames.now w.pass c.args.pass.now w.right w.is_pass w.none w.reads
            c.args.dead.now c.args.self.now w.sweeping c.args.frames.now c.args.pass.now c.args.held
            c.in-Ok.read.cleaned w.holding w.seen c.in-Ok.ensures.read.cleaned,
      );
    }

pub returns-in_err-log_cleaned : goal.returns-in_err-log_cleaned
returns-in_err-log_cleaned g c =
    let out = c.from_residual.result in
    let why = err_from_is_err_and out c.from_residual.ensures.1 in
    record {
      swept = λ w.
          let l = c.in_err-log_cleaned.ensures in
          let err = c.in_err-log_cleaned.field-0.0 in
          subst (HasSwept g.D.Disk w.frames w.pass c.log_cleaned.new.frames c.log_cleaned.new.pass c.args.dead.now
          c.args.self.now c.args.self.now) (sym (why.1 ∙ ap Err why.2))
          (refused_log g.D.Disk w.frames c.args.frames.now w.pass c.args.pass.now w.right w.is_pass w.none w.reads
          c.args.dead.now c.args.self.now w.sweeping c.log_cleaned.new.frames c.log_cleaned.new.pass err w.fine
          l.refused
          l.none_held l.cause (told_then g.D.Disk w.frames c.args.frames.now c.log_cleaned.new.frames err w.fine
          l.fault));
      lower =
          no_ok out why.0 (steps_left c.args.self.now < steps_left c.args.self.now) why.1;
    }

pub returns : goal.returns
returns g c = record {
  swept = λ w.
      let m = c.args.self.now in
      let dead = c.args.dead.now in
      let h = c.args.held in
      let read = c.in-Ok.read in
      let x = c.in-Ok.ensures.read in
      let l = c.in_ok-log_cleaned.ensures in
      let page = c.number-page.result in
      let same = sym c.number-page.ensures.value in
      let is = subst (λ (n : ℕ). m.stage ≡ stage.Posts c.args.root c.args.before n) same c.requires.stage in
      let removal = removal_held g.D.Disk w.frames c.args.frames.now w.pass c.args.pass.now w.right w.is_pass w.none
      w.reads dead m w.sweeping c.args.frames.now c.args.pass.now h read.cleaned w.holding w.seen x.cleaned in
      swept_cleaned g.D.Disk w.frames c.args.frames.now w.pass c.args.pass.now w.right w.is_pass w.none w.reads dead m
      w.sweeping c.log_cleaned.new.frames c.log_cleaned.new.pass vacuum_holds h tt read.cleaned c.go_on.new.self
      removal (l.cleaned dead removal) l.none_held
      (fine_then g.D.Disk w.frames c.args.frames.now c.log_cleaned.new.frames w.fine l.fine)
      (λ S P some legal shown at. post_there P dead m c.args.root c.args.before page h.page is same at)
      (λ S P some legal shown at then.
      gone_next dead m c.args.root c.args.before page w.more.0 c.args.left is h same read x S P some legal shown
      leaves_hold entries_hold w.more.2 at then c.go_on.new.self c.go_on.ensures)
      (gone_high dead m c.args.root c.args.before page w.more.0 c.args.left is h same read x x.is_page
      c.go_on.new.self c.go_on.ensures);
  lower = gone_lower c.args.self.now c.go_on.new.self c.args.root c.args.before c.args.held.page c.args.left _ _
      c.requires.stage c.requires.held.lower c.go_on.ensures;
}
