use Rattle.std.proofs.Common.{◌∙◌, [], sym, ap, subst, Err, ◌<◌}
use Rattle.std.proofs.lemmas.Result.{err_from_is_err_and}
use Rattle.core_vacuum.proofs.Kept.{vacuum_holds}
use Rattle.core_vacuum.proofs.FirstLeaves.{leaves_hold}
use Rattle.core_vacuum.proofs.OneEntry.{entries_hold}
use Rattle.buffer_frames.specs.Passes.{Seen}
use Rattle.gin_place.proofs.Faults.{calm_fine}
use Rattle.gin_place.proofs.Exits.{no_ok}
use Rattle.gin_vacuum.specs.Stepping.{HasSwept, steps_left}
use Rattle.gin_vacuum.specs.Sweeping.{IsAt, HasHigh}
use Rattle.gin_vacuum.specs.declared.sweeping.Stage.{Stage}
use Rattle.gin_vacuum.proofs.LeftParent.{is_without, past_lower, not_deleted, no_memory, stays_last, is_deleted}
use Rattle.gin_vacuum.proofs.sweeping.Sweeping.leave_or_delete.Goals as goal

pub delete_leaf-requires : goal.delete_leaf-requires
delete_leaf-requires g c = record {
  pass = c.requires.pass;
  right = c.requires.right;
  holding = c.requires.holding;
  found = let t = c.requires.stage in
      let sw = c.requires.sweeping in (
        sw.0,
        c.args.self.now,
        t.0,
        t.1,
        subst (λ (s : Stage). Seen g.D.Disk c.args.frames.now c.args.pass.now
            (λ S P. IsAt P sw.0 c.args.self.now s)) t.2 sw.1.at,
      );
  high = (subst HasHigh c.requires.stage.2 c.requires.sweeping.1.high).0;
  without = let o = c.in-Ok-Some in
      is_without c.args.empty.page c.page.result.now c.args.parent.content o.without o.field-0 o.field-0-is
      o.ensures.unlinked o.ensures.same o.ensures.is_page c.page.ensures.is_page c.page.ensures.value;
}

pub release-requires : goal.release-requires
release-requires g c = record {
  pass = c.requires.pass;
  right = c.requires.right;
  holding = ([], c.requires.holding);
}

pub release-requires-in-Err : goal.release-requires-in-Err
release-requires-in-Err g c = record {
  pass = c.requires.pass;
  right = c.requires.right;
  holding = ([], c.requires.holding);
}

pub returns-in_ok-delete_leaf-in-Ok-Some : goal.returns-in_ok-delete_leaf-in-Ok-Some
returns-in_ok-delete_leaf-in-Ok-Some g c = record {
  swept = λ dead sw.
      let t = c.requires.stage in
      let e = c.in_ok-delete_leaf-in-Ok-Some.ensures in
      let o = c.in-Ok-Some in
      is_deleted g.D.Disk c.args.frames.now c.args.pass.now c.requires.pass
      c.requires.right c.args.parent c.requires.holding dead c.args.self.now sw c.args.empty t.0 t.1 t.2
      c.delete_leaf.new.frames
      c.delete_leaf.new.pass c.delete_leaf.ensures.none_held vacuum_holds c.in-Ok-Some.without
      (is_without c.args.empty.page c.page.result.now c.args.parent.content o.without o.field-0 o.field-0-is
      o.ensures.unlinked o.ensures.same o.ensures.is_page c.page.ensures.is_page c.page.ensures.value) e.logged
      (subst HasHigh t.2 sw.high).0 _ c.go_past.new.self e.fine
      c.go_past.ensures;
  lower = let t = c.requires.stage in
      let e = c.args.empty in
      past_lower e.root e.before e.link t.0 e t.1 c.args.self.now c.go_past.new.self t.2 t.3 c.go_past.ensures;
}

pub returns-in_err-delete_leaf-in-Ok-Some : goal.returns-in_err-delete_leaf-in-Ok-Some
returns-in_err-delete_leaf-in-Ok-Some g c =
    let out = c.from_residual.result in
    let why = err_from_is_err_and out c.from_residual.ensures.1 in
    record {
      swept = λ dead sw.
          let t = c.requires.stage in
          let e = c.in_err-delete_leaf-in-Ok-Some.ensures in
          subst (HasSwept g.D.Disk c.args.frames.now c.args.pass.now c.delete_leaf.new.frames
          c.delete_leaf.new.pass dead
          c.args.self.now c.args.self.now) (sym (why.1 ∙ ap Err why.2))
          (not_deleted g.D.Disk c.args.frames.now c.args.pass.now c.requires.pass
          c.requires.right c.args.parent c.requires.holding dead c.args.self.now sw c.args.empty t.0 t.1 t.2
          c.delete_leaf.new.frames c.delete_leaf.new.pass c.delete_leaf.ensures.none_held
          c.in_err-delete_leaf-in-Ok-Some.field-0.0
          e.refused e.cause e.fault);
      lower =
          no_ok out why.0 (steps_left c.args.self.now < steps_left c.args.self.now) why.1;
    }

pub returns-in-Ok-None : goal.returns-in-Ok-None
returns-in-Ok-None g c = record {
  swept = λ dead sw.
      let t = c.requires.stage in
      stays_last g.D.Disk c.args.frames.now c.args.pass.now c.requires.pass
      c.requires.right c.args.parent c.requires.holding dead c.args.self.now sw c.args.empty t.0 t.1 t.2
      c.release.new.frames
      c.release.new.pass (sym (c.release.ensures.holding [] c.requires.holding).all) leaves_hold
      entries_hold c.go_past-in-Ok-None.new.self _ c.release.ensures.reads
      (calm_fine g.D.Disk c.args.frames.now c.release.new.frames c.release.ensures.calm) c.go_past-in-Ok-None.ensures;
  lower = let t = c.requires.stage in
      let e = c.args.empty in
      past_lower e.root e.page e.link t.0 e t.1 c.args.self.now c.go_past-in-Ok-None.new.self t.2 t.3
      c.go_past-in-Ok-None.ensures;
}

pub returns-in-Err : goal.returns-in-Err
returns-in-Err g c = record {
  swept = λ dead sw.
      let t = c.requires.stage in
      no_memory g.D.Disk c.args.frames.now c.args.pass.now c.requires.pass
      c.requires.right c.args.parent c.requires.holding dead c.args.self.now sw c.args.empty t.0 t.1 t.2
      c.release-in-Err.new.frames
      c.release-in-Err.new.pass (sym (c.release-in-Err.ensures.holding [] c.requires.holding).all)
      c.release-in-Err.ensures.reads
      (calm_fine g.D.Disk c.args.frames.now c.release-in-Err.new.frames c.release-in-Err.ensures.calm);
  lower = tt;
}
