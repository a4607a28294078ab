use Rattle.std.proofs.Common.{ℕ, [], ◌∷◌, true, false, Err, sym, ap, subst, ◌∙◌, ◌≡◌, rules}
use Rattle.std.proofs.lemmas.Result.{err_from_is_err_and}
use Rattle.std.specs.Prelude.{Option}
use Rattle.core_state.proofs.LawsHold.{bullets}
use Rattle.core_maintenance.proofs.Found.{right_keeps_found}
use Rattle.core_maintenance.proofs.WaysLead.{ways_hold}
use Rattle.page_space.specs.Taking.{HasNoPage}
use Rattle.gin_place.specs.Stepping.{HasStepped}
use Rattle.gin_place.specs.Inner.Stepping.{Seeks}
use Rattle.gin_place.proofs.Arms.{root_at, room_begun, room_wanted, not_roomy}
use Rattle.gin_place.proofs.Carrying.{reads_in_turn, works_in_turn, right_on}
use Rattle.gin_place.proofs.Causing.{meets_after}
use Rattle.gin_place.proofs.Faults.{calm_fine, fine_then, told_then}
use Rattle.gin_place.proofs.placing.Placing.begin_again.Goals as goal

pub release-requires : goal.release-requires
release-requires g c =
    let r = c.requires.read in record { pass = r.is_pass; right = r.right; holding = ([], r.holding) }

pub make_room-requires : goal.make_room-requires
make_room-requires g c =
    let r = c.requires.read in
    let back = c.release.ensures.reads in
    record {
      pass = back.works.is_pass;
      right = right_on g.D.Disk c.args.frames.now c.release.new.frames c.args.pass.now c.release.new.pass [] r.right
          back.works;
      none = sym (c.release.ensures.holding [] r.holding).all;
      root = back.roots c.args.sought
          (root_at g.D.Disk c.args.frames.now c.args.pass.now c.args.key.now c.args.items.now c.args.self.now
          c.args.sought c.args.parent c.args.page c.args.held r);
    }

pub returns-in_err-make_room : goal.returns-in_err-make_room
returns-in_err-make_room g c = λ r.
    let back = c.release.ensures.reads in
    let p = err_from_is_err_and c.from_residual.result c.from_residual.ensures.1 in
    let w = c.in_err-make_room.field-0.0 in
    let e = c.in_err-make_room.ensures in
    let fine = calm_fine g.D.Disk c.args.frames.now c.release.new.frames c.release.ensures.calm in
    let all = reads_in_turn g.D.Disk c.args.frames.now c.release.new.frames c.make_room.new.frames c.args.pass.now
    c.release.new.pass c.make_room.new.pass back e.refused in
    subst (HasStepped g.D.Disk c.args.frames.now c.args.pass.now c.make_room.new.frames c.make_room.new.pass
    c.args.key.now c.args.items.now c.args.self.now c.args.self.now) (sym (p.1 ∙ ap Err p.2))
    (not_roomy g.D.Disk c.args.frames.now c.args.pass.now c.args.key.now c.args.items.now c.args.self.now c.args.sought
    c.args.parent c.args.page c.args.held r right_keeps_found c.full_pages_are_large.ensures.leaf
    c.full_pages_are_large.ensures.inner (search (rules, c.if-self.true)) c.requires.full c.release.new.frames
    c.make_room.new.frames c.release.new.pass c.make_room.new.pass back fine all c.make_room.ensures.none_held w e.cause
    (told_then g.D.Disk c.args.frames.now c.release.new.frames c.make_room.new.frames w fine e.fault))

pub returns-then-self : goal.returns-then-self
returns-then-self g c = λ r.
    let back = c.release.ensures.reads in
    let e = c.in_ok-make_room.ensures in
    let fine = calm_fine g.D.Disk c.args.frames.now c.release.new.frames c.release.ensures.calm in
    let works = works_in_turn g.D.Disk c.args.frames.now c.release.new.frames c.make_room.new.frames c.args.pass.now
    c.release.new.pass c.make_room.new.pass [] (e.works.0 ∷ []) back.works e.works.1 in
    room_begun g.D.Disk c.args.frames.now c.args.pass.now c.args.key.now c.args.items.now c.args.self.now c.args.sought
    c.args.parent c.args.page c.args.held r (search (rules, c.if-self.true)) c.make_room.new.frames
    c.make_room.new.pass e.works.0 c.make_room.ensures.none_held works
    (meets_after g.D.Disk c.args.frames.now c.release.new.frames c.args.pass.now c.release.new.pass []
    (λ f p. HasNoPage f.journal.state p.since → ⊥) back.works e.took)
    (fine_then g.D.Disk c.args.frames.now c.release.new.frames c.make_room.new.frames fine e.fine) c.seek.new.self
    c.seek.result
    (subst (λ (o : Option ℕ). Seeks o c.args.items.now c.args.self.now c.seek.new.self c.seek.result) c.tree.ensures
    c.seek.ensures)

pub returns : goal.returns
returns g c = λ r.
    let back = c.release.ensures.reads in
    let first : c.args.self.now.making_room ≡ false = search (rules, c.if-self.false) in
    room_wanted g.D.Disk c.args.frames.now c.args.pass.now c.args.key.now c.args.items.now c.args.self.now c.args.sought
    c.args.parent c.args.page c.args.held r bullets ways_hold first c.requires.full
    (c.requires.leaf first) c.release.new.frames c.release.new.pass (sym (c.release.ensures.holding [] r.holding).all)
    back.works (calm_fine g.D.Disk c.args.frames.now c.release.new.frames c.release.ensures.calm) c.seek-2.new.self
    c.seek-2.result
    (subst (λ (o : Option ℕ). Seeks o c.args.items.now (record c.args.self.now { making_room = true }) c.seek-2.new.self
    c.seek-2.result) c.tree-2.ensures c.seek-2.ensures)
