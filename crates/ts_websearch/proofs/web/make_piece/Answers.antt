use Rattle.std.proofs.Common.{◌∙◌, ap, sym, subst}
use Rattle.std.proofs.lemmas.Result.{err_from_is_err_and, on_ok_weaker, IfErr-weaker}
use Rattle.ts_make.proofs.GroupQueries.{without_weights}
use Rattle.ts_websearch.specs.Made.{text_tree}
use Rattle.ts_websearch.specs.Inner.Stacks.{IsMadeOn, MakingFails}
use Rattle.ts_websearch.proofs.Adding.{text_made, text_negated, text_fails, negation_fails}
use Rattle.ts_websearch.proofs.web.make_piece.Goals as goal

pub returns-in_err-operand-clause-refused : goal.returns-in_err-operand-clause-refused
returns-in_err-operand-clause-refused c =
    let p = err_from_is_err_and c.from_residual.result c.from_residual.ensures.1 in
    let none = without_weights c.default.result c.default.ensures in
    let f = rw none at c.in_err-operand.ensures.refused in
    let k = c.args.configs.now in
    let m = c.args.config.now in
    let text = c.asked-negated.result.0.now in
    rw (p.1, p.2)
    (subst (λ t. MakingFails k m t c.args.maker.now c.in_err-operand.field-0.0)
    (sym c.asked-negated.ensures)
    (text_fails k m c.asked-negated.result.1 c.args.maker.now text c.in_err-operand.field-0.0 f))

pub returns-then-negated-clause-value : goal.returns-then-negated-clause-value
returns-then-negated-clause-value c =
    let none = without_weights c.default.result c.default.ensures in
    let v = rw none at c.in_ok-operand.ensures.value in
    let k = c.args.configs.now in
    let m = c.args.config.now in
    let text = c.asked-negated.result.0.now in
    let is = c.asked-negated.ensures ∙ ap (λ b. text_tree b text) c.if-negated.true in
    on_ok_weaker c.not.result
    (λ n. subst (λ t. IsMadeOn k m t c.args.maker.now c.not.new.self) (sym is)
    (text_negated k m c.args.maker.now c.operand.new.self c.not.new.self text v n))
    c.not.ensures.value

pub returns-then-negated-clause-refused : goal.returns-then-negated-clause-refused
returns-then-negated-clause-refused c =
    let none = without_weights c.default.result c.default.ensures in
    let v = rw none at c.in_ok-operand.ensures.value in
    let k = c.args.configs.now in
    let m = c.args.config.now in
    let text = c.asked-negated.result.0.now in
    let is = c.asked-negated.ensures ∙ ap (λ b. text_tree b text) c.if-negated.true in
    let h = c.requires.making in
    IfErr-weaker c.not.result _ _
    (λ e n. subst (λ t. MakingFails k m t c.args.maker.now e) (sym is)
    (negation_fails k m c.args.maker.now c.operand.new.self text e h.0 h.1 v n))
    c.not.ensures.refused

pub returns-clause-value : goal.returns-clause-value
returns-clause-value c =
    let none = without_weights c.default.result c.default.ensures in
    let v = rw none at c.in_ok-operand.ensures.value in
    let k = c.args.configs.now in
    let m = c.args.config.now in
    let text = c.asked-negated.result.0.now in
    let is = c.asked-negated.ensures ∙ ap (λ b. text_tree b text) c.if-negated.false in
    subst (λ t. IsMadeOn k m t c.args.maker.now c.operand.new.self) (sym is)
    (text_made k m c.args.maker.now c.operand.new.self text v)
