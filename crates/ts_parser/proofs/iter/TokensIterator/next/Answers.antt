use Rattle.std.proofs.Common.{◌≡◌, ◌∙◌, ◌+◌, ◌≤◌, ◌∷◌, length, drop, sym, ap, arith}
use Rattle.std.proofs.lemmas.List.{length-drop}
use Rattle.ts_parser.specs.declared.forms.Form.{Form}
use Rattle.ts_parser.specs.TokensOf.{byte_before, form_at, token_of}
use Rattle.ts_parser.specs.WordForms.{part_form}
use Rattle.ts_parser.specs.NumberForms.{groups_len}
use Rattle.ts_parser.proofs.Steps.{left, next_form, next_part, groups_left, start_fits}
use Rattle.ts_parser.proofs.iter.TokensIterator.next.Goals as goal

pub returns-then-self-clause-steps : goal.returns-then-self-clause-steps
returns-then-self-clause-steps c =
    let text = c.self.inside.text.now in
    let part = c.self.inside.part in
    let at = c.self.inside.at in
    let f : Form = c.part_form-part.result in
    let b = ap length c.behind-word.ensures in
    let w = c.part_form-part.ensures.within.1 in
    sym c.self.view_is ∙ next_part text part at f (c.part_form-part.ensures.value ∙ ap part_form c.behind-word.ensures)
    c.part_form-part.ensures.within.0 (omega (arith, b, w))

pub returns-then-self-clause-goes : goal.returns-then-self-clause-goes
returns-then-self-clause-goes c =
    let e = returns-then-self-clause-steps c in
    record {
      on = λ f. (tt, tt, (let k = ap length e in omega (arith, k)));
      keeps = tt;
      rests = λ f. tt;
    }

pub invariant_of-self-2 : goal.invariant_of-self-2
invariant_of-self-2 c =
    let text = c.self.inside.text.now in
    let at = c.self.inside.at in
    let f : Form = c.form_at-form.result in
    let b = ap length c.behind-rest.ensures in
    let d = length-drop at text in
    let w = c.form_at-form.ensures.within.1 in
    let i = c.self.invariant.within in
    record {
      within = omega (arith, b, d, w, i);
      parts = start_fits at (at + f.length) f.kind c.parts_start-self-inside.result c.parts_start-self-inside.ensures
          (omega arith);
      groups = groups_left text at f.length c.groups_here-groups.result
          (c.groups_here-groups.ensures.value ∙ ap groups_len c.behind-rest.ensures);
    }

pub returns-clause-steps : goal.returns-clause-steps
returns-clause-steps c =
    let text = c.self.inside.text.now in
    let part = c.self.inside.part in
    let at = c.self.inside.at in
    let f : Form = c.form_at-form.result in
    let is : f ≡ form_at (byte_before text at) (drop at text) =
    c.form_at-form.ensures.value ∙ ap (λ o. form_at o c.behind-rest.result.now) c.byte_before-before.ensures
    ∙ ap (λ z. form_at (byte_before text at) z) c.behind-rest.ensures in
    let b = ap length c.behind-rest.ensures in
    let d = length-drop at text in
    let w = c.form_at-form.ensures.within in
    let low = w.0 in
    let high = w.1 in
    let i = c.self.invariant.within in
    let fits : at + f.length ≤ length text = omega (arith, b, d, high, i) in
    sym c.self.view_is
    ∙ next_form text part at f c.self.invariant.parts c.if-self.false (omega (arith, low, fits)) is low fits
    ∙ ap (λ n. token_of f at ∷ left text n (at + f.length)) (sym c.parts_start-self-inside.ensures)

pub returns-clause-goes : goal.returns-clause-goes
returns-clause-goes c =
    let e = returns-clause-steps c in
    record {
      on = λ f. (tt, tt, (let k = ap length e in omega (arith, k)));
      keeps = tt;
      rests = λ f. tt;
    }
