use Rattle.std.proofs.Common.{ℕ, Global, Vec, ap, ◌∙◌, arith}
use Rattle.ts_base.specs.Vectors.{Entry}
use Rattle.ts_base.specs.Keys.{lexeme_key}
use Rattle.ts_match.proofs.Lookups.{nothing}
use Rattle.ts_match.proofs.KeyLists.{map_more}
use Rattle.ts_match.proofs.keys.lexeme_keys.Goals as goal

pub loop-k-preserved : goal.loop-k-preserved
loop-k-preserved c =
    map_more (λ (key : Vec ℕ Global). key.items) (λ (e : Entry). lexeme_key e.lexeme) c.loop-k.keys.items
    c.push.new.self.items c.args.vector.now c.loop-k.k c.in_ok-lexeme_key.field-0 nothing
    (omega arith) c.loop-k.invariant
    c.in_ok-push.ensures.items (c.in_ok-lexeme_key.ensures ∙ ap lexeme_key (c.lexeme.ensures nothing))
