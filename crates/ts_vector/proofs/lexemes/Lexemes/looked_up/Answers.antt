use Rattle.std.proofs.Common.{◌≡◌, ◌∷◌, [], ◌++◌, length, sym, subst, ◌∙◌, arith}
use Rattle.std.specs.BTreeMap.{insert_entry}
use Rattle.ts_vector.specs.Inner.Building.{AreNumbered}
use Rattle.ts_vector.proofs.Inserting.{order}
use Rattle.ts_vector.proofs.Building.{numbered_insert}
use Rattle.ts_vector.proofs.lexemes.Lexemes.looked_up.Goals as goal

pub invariant_of-self-2 : goal.invariant_of-self-2
invariant_of-self-2 c =
    let ls = c.self.inside.texts.items in
    let es = c.self.inside.numbers.entries in
    let k = c.args.lexeme.now in
    let n : c.len-number.result ≡ length ls = omega (arith, c.len-number.ensures, c.self.inside.texts.ok.0) in
    let entries : c.insert.new.self.entries ≡ insert_entry order es k (length ls) =
    c.in_ok-insert.ensures.entries ∙ (λ i. insert_entry order es (c.in_ok-key.ensures.cases i) (n i)) in
    let items : c.push_reserved.new.self.items ≡ ls ++ k ∷ [] =
    c.push_reserved.ensures.items ∙ (λ i. c.in_ok-reserve.ensures.items i ++ c.in_ok-text.ensures.cases i ∷ []) in
    subst (AreNumbered c.push_reserved.new.self.items) (sym entries)
    (subst (λ t. AreNumbered t (insert_entry order es k (length ls))) (sym items)
    (numbered_insert ls k es c.self.invariant))
