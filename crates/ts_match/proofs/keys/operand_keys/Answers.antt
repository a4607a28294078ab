use Rattle.std.proofs.Common.{◌≡◌, ℕ, Bool, Global, Vec, List, sym, ap, subst, ◌∙◌}
use Rattle.std.specs.Prelude.{All}
use Rattle.std.proofs.lemmas.List.Elements.{All-push}
use Rattle.ts_base.specs.Keys.{IsKey, of_lexeme, lexeme_key}
use Rattle.ts_match.specs.Class.{asked_by}
use Rattle.ts_match.proofs.KeyLists.{map_more}
use Rattle.ts_match.proofs.keys.operand_keys.Invariants.{seen, HasKey}
use Rattle.ts_match.proofs.keys.operand_keys.Goals as goal

pub loop-operand-preserved : goal.loop-operand-preserved
loop-operand-preserved c =
    let o = c.operand-item.result in
    let key = c.in_ok-lexeme_key.field-0 in
    let made : key.items ≡ lexeme_key o.lexeme = c.in_ok-lexeme_key.ensures ∙ ap lexeme_key c.as_str.ensures.value in
    let is : IsKey key.items = subst (λ (k : List ℕ). IsKey k) (sym made) (of_lexeme o.lexeme c.as_str.ensures.valid) in
    record {
      keys = map_more seen asked_by c.loop-operand.keys.items c.push.new.self.items c.args.operands.now
          c.loop-operand.operand-index (key, o.prefix) o c.loop-operand-test.true
          c.loop-operand.invariant.keys c.in_ok-push.ensures.items
          (ap (λ (k : List ℕ). record { key = k; prefix = o.prefix }) made ∙ ap asked_by c.operand-item.is);
      valid = subst (λ (l : List (Vec ℕ Global × Bool)). All HasKey l) (sym c.in_ok-push.ensures.items)
          (All-push HasKey c.loop-operand.keys.items (key, o.prefix) c.loop-operand.invariant.valid is);
    }

pub returns-clause-valid : goal.returns-clause-valid
returns-clause-valid c = c.loop-operand.invariant.valid
