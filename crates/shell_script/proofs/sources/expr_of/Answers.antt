use Rattle.std.proofs.Common.{◌∙◌, map, ap, refl, rules}
use Rattle.std.proofs.lemmas.Bool.{false≢true}
use Rattle.std.proofs.lemmas.List.{map_push}
use Rattle.shell_script.specs.Grammar.{expr_tokens}
use Rattle.shell_script.specs.StatementView.{part, expr}
use Rattle.std.proofs.lemmas.List.Elements.{All-push}
use Rattle.shell_script.proofs.Exprs.{IsPartNamed, expr_more, expr_fault}
use Rattle.shell_script.proofs.Spelling.{front_whole}
use Rattle.shell_script.proofs.sources.expr_of.Goals as goal

pub returns-in_default-2-clause-none : goal.returns-in_default-2-clause-none
returns-in_default-2-clause-none c =
    let no = rw c.in_default-2.is at c.in_ok-part.ensures.none in
    expr_fault c.args.text.now c.loop-rest.rest.now record {
      first = part c.in-Some.first;
      others = map part c.loop-rest.others.items;
    } c.loop-rest.invariant.2 c.loop-rest.invariant.1
    (λ blank. false≢true (c.loop-rest-test.ensures.1 blank))
    no

pub loop-rest-preserved : goal.loop-rest-preserved
loop-rest-preserved c =
    let found = rw c.in-Some-2.is at c.in_ok-part.ensures.some in
    let e = ap (map part) c.in_ok-push.ensures.items ∙ map_push part c.loop-rest.others.items c.in-Some-2.part in (
      search rules,
      rw e (expr_more c.args.text.now c.loop-rest.rest.now c.in-Some-2.more.now (part c.in-Some.first)
          (part c.in-Some-2.part) (map part c.loop-rest.others.items) c.loop-rest.invariant.1 found.1),
      (
        c.loop-rest.invariant.2.0,
        rw e (All-push IsPartNamed (map part c.loop-rest.others.items)
            (part c.in-Some-2.part) c.loop-rest.invariant.2.1 found.0),
      ),
    )

pub returns-clause-some : goal.returns-clause-some
returns-clause-some c = (
  c.loop-rest.invariant.2,
  front_whole c.args.text.now (expr_tokens (expr record { first = c.in-Some.first; others = c.loop-rest.others }))
      c.loop-rest.rest.now c.loop-rest.invariant.1 (c.loop-rest-test.ensures.0 refl),
)
