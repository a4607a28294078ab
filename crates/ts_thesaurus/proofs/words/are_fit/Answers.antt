use Rattle.std.proofs.Common.{◌≢◌, [], length, eqb, sym, ap, ◌∙◌, true≢false}
use Rattle.ts_thesaurus.proofs.Cuts.{fit_texts}
use Rattle.ts_thesaurus.proofs.words.are_fit.Goals as goal

pub returns-then-not-is_empty : goal.returns-then-not-is_empty
returns-then-not-is_empty c =
    let some : c.args.words.now ≢ [] =
    λ e. true≢false (sym (ap (λ z. eqb (length z) 0) e) ∙ sym c.is_empty.ensures ∙ c.if-not-is_empty.true) in
    let sized = c.are_sized.ensures in
    let fit = fit_texts c.args.words.now some in
    ((λ t. fit.0 (sized.0 t)), (λ a. sized.1 (fit.1 a)))
