use Rattle.std.proofs.Common.{◌≡◌, ℕ, Global, Vec, List, map, sym, ◌∙◌}
use Rattle.std.specs.Prelude.{All, AllPairs}
use Rattle.std.specs.declared.cmp.Ordering.TheVariants.{Less}
use Rattle.std.proofs.lemmas.Result.{IfOk-weaker}
use Rattle.ts_base.specs.Keys.{IsKey, key_order, keys_of}
use Rattle.ts_match.proofs.KeyLists.{keys_without, keys_with, keys_valid, keys_order}
use Rattle.ts_match.proofs.keys.vector_keys.Goals as goal

abbrev pub bytes : Vec (Vec ℕ Global) Global → List (List ℕ)
bytes keys = map (λ (key : Vec ℕ Global). key.items) keys.items

pub returns-then-count-eq0 : goal.returns-then-count-eq0
returns-then-count-eq0 c =
    let v = c.args.vector.now in
    let e = keys_without v (sym c.if-count-eq0.true ∙ c.count.ensures.count) in record {
      keys = IfOk-weaker c.placeholder_alone.result _ (λ k. bytes k ≡ keys_of c.args.vector.now)
          (λ k h. h ∙ e) c.placeholder_alone.ensures;
      valid = IfOk-weaker c.placeholder_alone.result _ (λ k. All IsKey (bytes k))
          (λ k h. keys_valid v (bytes k) c.count.ensures.normal (h ∙ e)) c.placeholder_alone.ensures;
      order = IfOk-weaker c.placeholder_alone.result _ (λ k. AllPairs (λ a b. key_order a b ≡ Less) (bytes k))
          (λ k h. keys_order v (bytes k) c.count.ensures.normal (h ∙ e)) c.placeholder_alone.ensures;
    }

pub returns : goal.returns
returns c =
    let v = c.args.vector.now in
    let e = keys_with v (λ n. c.if-count-eq0.false (c.count.ensures.count ∙ sym n)) in record {
      keys = IfOk-weaker c.lexeme_keys.result _ (λ k. bytes k ≡ keys_of c.args.vector.now)
          (λ k h. h ∙ e) c.lexeme_keys.ensures;
      valid = IfOk-weaker c.lexeme_keys.result _ (λ k. All IsKey (bytes k))
          (λ k h. keys_valid v (bytes k) c.count.ensures.normal (h ∙ e)) c.lexeme_keys.ensures;
      order = IfOk-weaker c.lexeme_keys.result _ (λ k. AllPairs (λ a b. key_order a b ≡ Less) (bytes k))
          (λ k h. keys_order v (bytes k) c.count.ensures.normal (h ∙ e)) c.lexeme_keys.ensures;
    }
