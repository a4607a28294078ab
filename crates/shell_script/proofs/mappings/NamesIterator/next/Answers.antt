use Rattle.std.proofs.Common.{◌≡◌, [], sym, ap, ◌∙◌, length, arith}
use Rattle.shell_script.proofs.NameLists.{words_first, words_blank}
use Rattle.shell_script.proofs.mappings.NamesIterator.next.Goals as goal

pub returns-in_default-clause-steps : goal.returns-in_default-clause-steps
returns-in_default-clause-steps c =
    let text = c.self.inside.text.now in
    let e : c.args.self.now ≡ [] = sym c.self.view_is ∙ words_blank text c.in_default.ensures.none in
    (e, e)

pub returns-clause-steps : goal.returns-clause-steps
returns-clause-steps c =
    sym c.self.view_is ∙ words_first c.self.inside.text.now c.in-Some.name.now c.in-Some.rest.now c.in-Some.ensures.some

pub returns-clause-goes : goal.returns-clause-goes
returns-clause-goes c =
    let e = returns-clause-steps c in
    record {
      on = λ f. (tt, tt, (let k = ap length e in omega (arith, k)));
      keeps = tt;
      rests = λ f. tt;
    }
