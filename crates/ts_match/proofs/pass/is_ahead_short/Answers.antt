use Rattle.std.proofs.Common.{ℕ, List, sym, ap, subst, ◌∙◌, arith}
use Rattle.ts_base.specs.Vectors.{Entry}
use Rattle.ts_match.specs.Inner.Pass.{IsShort}
use Rattle.ts_match.proofs.Passes.{reached}
use Rattle.ts_match.proofs.pass.is_ahead_short.Goals as goal

pub returns-in-Some-clause-yes : goal.returns-in-Some-clause-yes
returns-in-Some-clause-yes c = λ v a e.
    let r = reached v c.args.walk.now c.in-Some.lexeme a c.in-Some.is in (
      r.entry,
      r.is,
      r.left,
      subst (λ (x : List ℕ). IsShort c.args.operand.now c.args.side x) (r.is_lexeme c.in-Some.lexeme c.in-Some.is)
          (c.is_short.ensures.yes e),
    )

pub returns-in-Some-clause-no : goal.returns-in-Some-clause-no
returns-in-Some-clause-no c = λ v a e p d h.
    let r = reached v c.args.walk.now c.in-Some.lexeme a c.in-Some.is in
    c.is_short.ensures.no e (subst (λ (x : List ℕ). IsShort c.args.operand.now c.args.side x)
    (ap (λ (y : Entry). y.lexeme) (r.is d) ∙ sym (r.is_lexeme c.in-Some.lexeme c.in-Some.is)) h)

pub returns-in-None-clause-no : goal.returns-in-None-clause-no
returns-in-None-clause-no c = λ v a e p d h. let z = a.at_end c.in-None.is in omega arith
