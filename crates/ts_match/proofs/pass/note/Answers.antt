use Rattle.std.proofs.Common.{◌<◌, length, get_or, sym, subst, arith}
use Rattle.ts_match.specs.declared.pass.Bounds.{Bounds}
use Rattle.ts_match.specs.Inner.Pass.{IsBounds}
use Rattle.ts_match.proofs.Passes.{set_bounds}
use Rattle.ts_match.proofs.pass.note.Goals as goal

pub returns : goal.returns
returns c = λ v os all new.
    let w : c.args.mark.number < length c.args.bounds.now.items = omega (arith, c.args.bounds.now.ok.0, c.requires) in
    set_bounds v os c.args.bounds.now.items c.args.mark.number c.with_index.result w all
    (λ o l. c.with_index.ensures v (get_or os c.args.mark.number o)
    (subst (λ (b : Bounds). IsBounds v (get_or os c.args.mark.number o) b) (sym c.index-known.ensures)
    (all c.args.mark.number o c.index-known.result.now l w)) (new o))
