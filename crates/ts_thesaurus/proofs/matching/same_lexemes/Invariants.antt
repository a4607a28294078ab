use Rattle.std.proofs.Common.{◌≡◌, take}
use Rattle.ts_thesaurus.specs.Rules.{lexemes_of}
use Rattle.ts_thesaurus.proofs.matching.same_lexemes.Given as goal

abbrev pub invariant-loop-i : goal.invariant-loop-i
invariant-loop-i l = lexemes_of (take l.i l.left) ≡ lexemes_of (take l.i l.right)
