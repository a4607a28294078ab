use Rattle.std.proofs.Common.{refl, rules}
use Rattle.std.proofs.lemmas.Bool.{false≢true}
use Rattle.shell_script.proofs.NameLists.{names_start, names_more, names_end, names_fault, no_names}
use Rattle.shell_script.proofs.mappings.names_of.Goals as goal

pub returns-then-is_all_blank-clause-none : goal.returns-then-is_all_blank-clause-none
returns-then-is_all_blank-clause-none c = no_names c.args.text.now (c.if-is_all_blank.ensures.0 refl)

pub loop-rest-init : goal.loop-rest-init
loop-rest-init c = (search rules, names_start c.args.text.now)

pub returns-in_default-clause-none : goal.returns-in_default-clause-none
returns-in_default-clause-none c =
    names_fault c.args.text.now c.loop-rest.rest.now c.loop-rest.invariant.1
    (λ b. false≢true (c.loop-rest-test.ensures.1 b)) c.in_default.ensures.none

pub loop-rest-preserved : goal.loop-rest-preserved
loop-rest-preserved c = (
  search rules,
  names_more c.args.text.now c.loop-rest.rest.now c.in-Some.field-0-0.now c.in-Some.more.now
      c.loop-rest.invariant.1 c.in-Some.ensures.front c.in-Some.ensures.begins c.in-Some.ensures.name,
)

pub returns-clause-some : goal.returns-clause-some
returns-clause-some c = names_end c.args.text.now c.loop-rest.rest.now c.loop-rest.invariant.1
    (c.loop-rest-test.ensures.0 refl) (λ b. false≢true (c.if-is_all_blank.ensures.1 b))
