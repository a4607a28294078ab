use Rattle.std.proofs.Common.{◌≡◌, [], ◌∷◌, sym, ap, subst, ◌∙◌}
use Rattle.page_types.specs.declared.record.Kind.{Kind}
use Rattle.core_state.specs.Steps.{sheet}
use Rattle.gin_place.specs.Inner.Logging.{MayLogStep}
use Rattle.gin_place.proofs.AddingIn.{AddingLaws, adding_step, adding_may_log, then_placed, then_ways, then_works}
use Rattle.gin_place.proofs.Faults.{calm_fine}
use Rattle.gin_place.proofs.placing.log_items.Goals as goal

pub log_one-requires : goal.log_one-requires
log_one-requires g c =
    let h = c.args.held in
    let t = c.args.sought in
    let laws : AddingLaws = record {
      items_logged = c.pages_may_be_logged.ensures.added;
      posts_logged = c.pages_may_be_logged-2.ensures.added;
      posts_main = c.added_items_are_main.ensures.postings;
    } in
    let made : c.in-Ok.step ≡ adding_step t h.page c.args.new =
    c.in-Ok.ensures.step
    ∙ ap (λ (k : Kind). record { kind = k; xid = 0; after = sheet h.page c.args.new ∷ [] }) c.adds_by.ensures in
    let a = c.requires.added in
    subst (MayLogStep g.D.Disk c.args.frames.now c.args.pass.now (h ∷ [])) (sym made)
    (adding_may_log g.D.Disk laws c.args.frames.now c.args.pass.now h c.args.new c.requires.holding c.in-Ok.ensures.low
    c.requires.pass c.requires.right c.requires.seen a.0 a.1 a.2 t a.3)

pub returns-in-Ok : goal.returns-in-Ok
returns-in-Ok g c =
    let h = c.args.held in
    let t = c.args.sought in
    let f = c.args.frames.now in
    let last = c.log_one.new.frames in
    let pass = c.log_one.new.pass in
    let e = c.log_one.ensures in
    let laws : AddingLaws = record {
      items_logged = c.pages_may_be_logged.ensures.added;
      posts_logged = c.pages_may_be_logged-2.ensures.added;
      posts_main = c.added_items_are_main.ensures.postings;
    } in
    let made : c.in-Ok.step ≡ adding_step t h.page c.args.new =
    c.in-Ok.ensures.step
    ∙ ap (λ (k : Kind). record { kind = k; xid = 0; after = sheet h.page c.args.new ∷ [] }) c.adds_by.ensures in
    record {
      none_held = e.none_held;
      placed = then_placed g.D.Disk f c.args.pass.now h c.args.new t c.in-Ok.step made c.log_one.result last pass
          e.logged laws c.requires.holding c.in-Ok.ensures.low c.requires.pass c.requires.right c.requires.seen;
      ways = then_ways g.D.Disk f c.args.pass.now h c.args.new t c.in-Ok.step made c.log_one.result last pass e.logged;
      works = then_works g.D.Disk f c.args.pass.now h c.args.new t c.in-Ok.step made c.log_one.result last pass
          e.logged;
      refused = e.refused;
      cause = e.cause;
      fine = e.fine;
      fault = e.fault;
    }

pub release-requires : goal.release-requires
release-requires g c =
    record { pass = c.requires.pass; right = c.requires.right; holding = ([], c.requires.holding) }

pub returns-in-Err : goal.returns-in-Err
returns-in-Err g c = record {
  none_held = sym (c.release.ensures.holding [] c.requires.holding).all;
  placed = tt;
  ways = tt;
  works = tt;
  refused = c.release.ensures.reads;
  cause = tt;
  fine = tt;
  fault = calm_fine g.D.Disk c.args.frames.now c.release.new.frames c.release.ensures.calm;
}
