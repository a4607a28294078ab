use Rattle.std.proofs.Common.{◌≡◌, List, [], ◌∷◌, ◌++◌, sym, ap, subst, ◌∙◌, arith}
use Rattle.std.specs.Prelude.{OnOk}
use Rattle.core_state.specs.Allowed.{Sheet}
use Rattle.gin_place.specs.Inner.Logging.{MayLogStep, LogsStep}
use Rattle.gin_place.proofs.Faults.{calm_fine}
use Rattle.gin_place.proofs.logging.log_one.Goals as goal

pub release-requires : goal.release-requires
release-requires g c =
    record { pass = c.requires.is_pass; right = c.requires.right; holding = ([], c.requires.holding) }

pub returns-in_default : goal.returns-in_default
returns-in_default g c = record {
  none_held = sym (c.release.ensures.holding [] c.requires.holding).all;
  logged = tt;
  refused = c.release.ensures.reads;
  cause = tt;
  fine = tt;
  fault = calm_fine g.D.Disk c.args.frames.now c.release.new.frames c.release.ensures.calm;
}

pub push_reserved-requires : goal.push_reserved-requires
push_reserved-requires g c = omega (arith, c.in-Ok.ensures.len, c.in-Ok.ensures.capacity)

pub log_pages-requires : goal.log_pages-requires
log_pages-requires g c =
    let items : c.push_reserved.new.self.items ≡ c.args.page ∷ [] =
    c.push_reserved.ensures.items ∙ ap (λ (l : List Sheet). l ++ c.args.page ∷ []) c.in-Ok.ensures.items in
    subst (λ (l : List Sheet). MayLogStep g.D.Disk c.args.frames.now c.args.pass.now l c.args.step)
    (sym items) c.requires

pub returns : goal.returns
returns g c =
    let items : c.push_reserved.new.self.items ≡ c.args.page ∷ [] =
    c.push_reserved.ensures.items ∙ ap (λ (l : List Sheet). l ++ c.args.page ∷ []) c.in-Ok.ensures.items in
    let e = c.log_pages.ensures in
    record {
      none_held = e.none_held;
      logged = subst (λ (l : List Sheet). OnOk c.log_pages.result (LogsStep g.D.Disk c.args.frames.now c.args.pass.now l
          c.args.step c.log_pages.new.frames c.log_pages.new.pass)) items e.logged;
      refused = e.refused;
      cause = e.cause;
      fine = e.fine;
      fault = e.fault;
    }
