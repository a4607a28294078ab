use Rattle.std.proofs.Common.{rules, ◌≡◌, ◌∷◌, [], ◌++◌, ◌∙◌, arith}
use Rattle.std.proofs.lemmas.Grind.{common_steps}
use Rattle.ts_vector.specs.Text.{written}
use Rattle.ts_vector.specs.Inner.Columns.{entry}
use Rattle.ts_vector.specs.Inner.WrittenLexemes.{written_lexemes}
use Rattle.ts_vector.proofs.WrittenFacts.{drafts_push}
use Rattle.ts_vector.proofs.written_lexemes.WrittenLexemes.push.Goals as goal

pub returns : goal.returns
returns c =
    let f = c.self.inside in
    let l = c.args.lexeme.now in
    let ps = c.args.positions.now in
    let n : c.in-Ok.start ≡ c.args.start = search rules in
    let ss : c.push_reserved.new.self.items ≡ f.starts.items ++ c.in-Ok.start ∷ [] = grind (arith, common_steps) in
    let made : written_lexemes c.push_reserved.new.self.items c.push.new.self
    ≡ written_lexemes (f.starts.items ++ c.in-Ok.start ∷ []) (f.entries ++ entry l ps ∷ []) =
    λ i. written_lexemes (ss i) (c.in_ok-push.ensures.ok i) in
    made ∙ drafts_push f.starts.items f.entries c.in-Ok.start (entry l ps) c.self.invariant
    ∙ (λ i. c.self.view_is i ++ written (n i) l ps ∷ [])
