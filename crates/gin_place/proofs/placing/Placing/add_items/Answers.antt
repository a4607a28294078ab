use Rattle.std.proofs.Common.{◌≡◌, ℕ, Err, drop, sym, ap, subst, ◌∙◌, arith, length-drop}
use Rattle.std.proofs.lemmas.Result.{err_from_is_err_and}
use Rattle.core_state.proofs.LawsHold.{bullets}
use Rattle.core_maintenance.proofs.WaysLead.{ways_hold}
use Rattle.buffer_frames.specs.Passes.{Seen}
use Rattle.gin_place.specs.Stepping.{HasStepped}
use Rattle.gin_place.proofs.ReadingsIn.{added_few}
use Rattle.gin_place.proofs.Arms.{adds_at, not_added, added_on}
use Rattle.gin_place.proofs.placing.Placing.add_items.Goals as goal

pub log_items-requires : goal.log_items-requires
log_items-requires g c =
    let r = c.requires.read in
    record {
      pass = (r.3).is_pass;
      right = (r.3).right;
      holding = (r.3).holding;
      seen = subst (λ (n : ℕ). Seen g.D.Disk c.args.frames.now c.args.pass.now (λ S P. P n ≡ c.args.held.content))
          (sym (r.3).number) (r.3).seen;
      added = (
        r.0,
        drop c.args.self.now.from c.args.items.now,
        c.args.count,
        adds_at g.D.Disk c.args.frames.now c.args.pass.now r.0 c.args.items.now c.args.self.now c.args.sought r.1 r.2
            c.args.held r.3 c.args.new c.args.count r.4,
      );
    }

pub put-requires : goal.put-requires
put-requires g c =
    let r = c.requires.read in
    let from = c.args.self.now.from in
    let few =
    added_few c.args.sought c.args.held.content r.0 (drop from c.args.items.now) c.args.new c.args.count r.4 in
    omega (arith, few.1, length-drop from c.args.items.now, ((r.3).placing.3).0)

pub returns-in_err-log_items : goal.returns-in_err-log_items
returns-in_err-log_items g c = λ key parent page at reads.
    let p = err_from_is_err_and c.from_residual.result c.from_residual.ensures.1 in
    let w = c.in_err-log_items.field-0.0 in
    let e = c.in_err-log_items.ensures in
    subst (HasStepped g.D.Disk c.args.frames.now c.args.pass.now c.log_items.new.frames c.log_items.new.pass
    key c.args.items.now c.args.self.now c.args.self.now) (sym (p.1 ∙ ap Err p.2))
    (not_added g.D.Disk c.args.frames.now c.args.pass.now key c.args.items.now c.args.self.now c.args.sought parent page
    c.args.held at c.log_items.new.frames c.log_items.new.pass w e.refused c.log_items.ensures.none_held e.cause
    e.fault)

pub returns : goal.returns
returns g c = λ key parent page at reads.
    let e = c.in_ok-log_items.ensures in
    added_on g.D.Disk c.args.frames.now c.args.pass.now key c.args.items.now c.args.self.now c.args.sought parent page
    c.args.held at bullets ways_hold c.args.new c.args.count reads c.log_items.new.frames
    c.log_items.new.pass c.log_items.ensures.none_held e.works
    (e.placed key (drop c.args.self.now.from c.args.items.now) c.args.count
    (adds_at g.D.Disk c.args.frames.now c.args.pass.now key c.args.items.now c.args.self.now c.args.sought parent page
    c.args.held at c.args.new c.args.count reads)) e.fine c.put.new.self c.put.result c.put.ensures
