use Rattle.std.proofs.Common.{◌∙◌, Bool, sym, ap}
use Rattle.core_moments.specs.Judging.{fits_asked}
use Rattle.gin_hits.specs.Rows.{asked_for}
use Rattle.gin_hits.proofs.Searching.{begins_tested, same_tested}
use Rattle.gin_hits.proofs.fitting.fits.Goals as goal

pub returns-then-prefix : goal.returns-then-prefix
returns-then-prefix c =
    c.starts_with.ensures.value
    ∙ begins_tested c.args.asked.now c.args.key.now
    ∙ ap (λ (b : Bool). fits_asked (asked_for c.args.asked.now b) c.args.key.now) (sym c.if-prefix.true)

pub returns : goal.returns
returns c =
    c.eq.ensures
    ∙ same_tested c.args.key.now c.args.asked.now
    ∙ ap (λ (b : Bool). fits_asked (asked_for c.args.asked.now b) c.args.key.now) (sym c.if-prefix.false)
