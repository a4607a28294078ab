use Rattle.std.proofs.Common.{◌≡◌, List, [], ◌∷◌, ◌++◌, sym, ap, subst, ◌∙◌, arith}
use Rattle.std.specs.Prelude.{OnOk}
use Rattle.core_state.specs.Allowed.{Sheet}
use Rattle.gin_place.specs.Inner.Logging.{MayLogStep, LogsStep}
use Rattle.gin_place.proofs.Carrying.{reads_in_turn, right_on}
use Rattle.gin_place.proofs.Faults.{calm_then, calm_fine}
use Rattle.gin_place.proofs.logging.log_two.Goals as goal

pub release-requires : goal.release-requires
release-requires g c =
    record { pass = c.requires.is_pass; right = c.requires.right; holding = (c.args.first ∷ [], c.requires.holding) }

pub release-requires-in_default : goal.release-requires-in_default
release-requires-in_default g c =
    let works = c.release.ensures.reads.works in
    record {
      pass = works.is_pass;
      right = right_on g.D.Disk c.args.frames.now c.release.new.frames c.args.pass.now c.release.new.pass []
          c.requires.right works;
      holding = ([], c.release.ensures.holding (c.args.first ∷ []) c.requires.holding);
    }

pub returns-in_default : goal.returns-in_default
returns-in_default g c =
    let f = c.args.frames.now in
    let back = c.release in
    let last = c.release-in_default in
    record {
      none_held = sym (last.ensures.holding [] (back.ensures.holding (c.args.first ∷ []) c.requires.holding)).all;
      logged = tt;
      refused = reads_in_turn g.D.Disk f back.new.frames last.new.frames c.args.pass.now back.new.pass last.new.pass
          back.ensures.reads last.ensures.reads;
      cause = tt;
      fine = tt;
      fault = calm_fine g.D.Disk f last.new.frames
          (calm_then g.D.Disk f back.new.frames last.new.frames back.ensures.calm last.ensures.calm);
    }

pub push_reserved-requires : goal.push_reserved-requires
push_reserved-requires g c = omega (arith, c.in-Ok.ensures.len, c.in-Ok.ensures.capacity)

pub push_reserved-requires-2 : goal.push_reserved-requires-2
push_reserved-requires-2 g c =
    let e = c.push_reserved.ensures in
    omega (arith, c.in-Ok.ensures.len, c.in-Ok.ensures.capacity, e.len, e.capacity)

pub log_pages-requires : goal.log_pages-requires
log_pages-requires g c =
    let items : c.push_reserved-2.new.self.items ≡ c.args.second ∷ c.args.first ∷ [] =
    c.push_reserved-2.ensures.items
    ∙ ap (λ (l : List Sheet). l ++ c.args.first ∷ []) (c.push_reserved.ensures.items
    ∙ ap (λ (l : List Sheet). l ++ c.args.second ∷ []) c.in-Ok.ensures.items) in
    subst (λ (l : List Sheet). MayLogStep g.D.Disk c.args.frames.now c.args.pass.now l c.args.step)
    (sym items) c.requires

pub returns : goal.returns
returns g c =
    let items : c.push_reserved-2.new.self.items ≡ c.args.second ∷ c.args.first ∷ [] =
    c.push_reserved-2.ensures.items
    ∙ ap (λ (l : List Sheet). l ++ c.args.first ∷ []) (c.push_reserved.ensures.items
    ∙ ap (λ (l : List Sheet). l ++ c.args.second ∷ []) c.in-Ok.ensures.items) in
    let e = c.log_pages.ensures in
    record {
      none_held = e.none_held;
      logged = subst (λ (l : List Sheet). OnOk c.log_pages.result (LogsStep g.D.Disk c.args.frames.now c.args.pass.now l
          c.args.step c.log_pages.new.frames c.log_pages.new.pass)) items e.logged;
      refused = e.refused;
      cause = e.cause;
      fine = e.fine;
      fault = e.fault;
    }
