use Rattle.std.proofs.Common.{◌≡◌, ◌∷◌}
use Rattle.std.specs.Cmp.Lexicographic.{other_text}
use Rattle.shell_script.specs.Tokens.{word}
use Rattle.shell_script.proofs.tokens.behind_word.Goals as goal
use Rattle.shell_script.proofs.tokens.behind_word.Goals.{in_default-via-in-Some+else-eq, in_default-via-in_default}

pub returns-in_default-clause-none : goal.returns-in_default-clause-none
returns-in_default-clause-none c = λ ts k.
    elim c.in_default.branch [
      | in_default-via-in-Some+else-eq w ↦
          let found = w.in-Some.ensures.some.came_so (word c.args.expected.now ∷ ts) k in
          let first : word c.args.expected.now ∷ ts ≡ word w.in-Some.word.now ∷ found.0 = found.1 in
          let same : w.in-Some.word.now ≡ c.args.expected.now = cc in
          other_text w.in-Some.word.now c.args.expected.now w.if-eq.ensures same
      | in_default-via-in_default w ↦ w.in_default.ensures.none c.args.expected.now ts k
    ]
