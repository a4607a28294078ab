use Rattle.std.proofs.Common.{Err, drop, sym, ap, subst, ◌∙◌}
use Rattle.std.proofs.lemmas.Result.{err_from_is_err_and}
use Rattle.core_state.proofs.LawsHold.{bullets}
use Rattle.core_maintenance.proofs.WaysLead.{ways_hold}
use Rattle.gin_place.specs.Stepping.{HasStepped}
use Rattle.gin_place.proofs.Arms.{long_at, not_begun, tree_begun}
use Rattle.gin_place.proofs.placing.Placing.begin_tree.Goals as goal

pub make_tree-requires : goal.make_tree-requires
make_tree-requires g c =
    let r = c.requires.read in
    record {
      pass = (r.4).is_pass;
      right = (r.4).right;
      holding = (r.4).holding;
      long = (r.0, long_at c.args.held.content r.0 (drop c.args.self.now.from c.args.items.now) r.1 c.args.place r.5);
    }

pub returns-in_err-root : goal.returns-in_err-root
returns-in_err-root g c = λ key t parent page at reads.
    let p = err_from_is_err_and c.from_residual.result c.from_residual.ensures.1 in
    let w = c.in_err-root.field-0.0 in
    let e = c.in_err-root.ensures in
    subst (HasStepped g.D.Disk c.args.frames.now c.args.pass.now c.make_tree.new.frames c.make_tree.new.pass
    key c.args.items.now c.args.self.now c.args.self.now) (sym (p.1 ∙ ap Err p.2))
    (not_begun g.D.Disk c.args.frames.now c.args.pass.now key c.args.items.now c.args.self.now t parent page
    c.args.held at c.make_tree.new.frames c.make_tree.new.pass w e.refused c.make_tree.ensures.none_held e.cause
    e.fault)

pub returns : goal.returns
returns g c = λ key t parent page at reads.
    let e = c.in_ok-root.ensures in
    tree_begun g.D.Disk c.args.frames.now c.args.pass.now key c.args.items.now c.args.self.now t parent page
    c.args.held at bullets ways_hold c.args.place reads c.make_tree.new.frames
    c.make_tree.new.pass c.make_tree.ensures.none_held e.works c.in_ok-root.root
    (λ told up R stands legal P shown.
    (e.named key 0 (long_at c.args.held.content key (drop c.args.self.now.from c.args.items.now) t c.args.place reads)
    told up R stands legal P shown).0)
    e.took e.fine c.seek.new.self c.seek.result c.seek.ensures
