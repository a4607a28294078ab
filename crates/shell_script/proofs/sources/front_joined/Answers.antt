use Rattle.std.proofs.Common.{◌∷◌, [], ◌++◌, List, codes}
use Rattle.shell_script.specs.Grammar.{Part, IsSource, part_tokens, joined_tokens}
use Rattle.shell_script.specs.Tokens.{ScriptToken, word, IsSpelled}
use Rattle.shell_script.proofs.Exprs.{if_missed}
use Rattle.shell_script.proofs.Spelling.{front_rest}
use Rattle.shell_script.proofs.sources.front_joined.Goals as goal

pub returns-in-Some-clause-none : goal.returns-in-Some-clause-none
returns-in-Some-clause-none c =
    if_missed c.front_part.result
    ((p : Part) (ts : List ScriptToken) → IsSource p.source → IsSpelled c.in-Some.rest.now (part_tokens p ++ ts) → ⊥)
    ((p : Part) (ts : List ScriptToken) → IsSource p.source → IsSpelled c.args.text.now (joined_tokens p ++ ts) → ⊥)
    (λ bad p ts is k. bad p ts is (front_rest c.args.text.now (word (codes "||") ∷ []) c.in-Some.rest.now
    (part_tokens p ++ ts) c.in-Some.ensures.some k))
    c.front_part.ensures.none

pub returns-in-None-clause-none : goal.returns-in-None-clause-none
returns-in-None-clause-none c = λ p ts is k. c.in-None.ensures.none (part_tokens p ++ ts) k
