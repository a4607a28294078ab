use Rattle.std.proofs.Common.{◌≡◌, ◌∷◌, [], ◌++◌, sym, ap, subst, ◌∙◌}
use Rattle.ts_vector.specs.declared.builder.Occurrence.{Occurrence}
use Rattle.ts_vector.specs.Inner.Columns.{entry}
use Rattle.ts_vector.specs.Inner.Building.{items_of, AreBuilding, IsEntered}
use Rattle.ts_vector.proofs.Building.{pushed, pushed_items}
use Rattle.ts_vector.proofs.builder.VectorBuilder.push.Goals as goal

pub invariant_of-self-2 : goal.invariant_of-self-2
invariant_of-self-2 c =
    let ls = c.self.inside.lexemes in
    let new = c.number_of.new.self in
    let os = c.self.inside.occurrences.items in
    let o : Occurrence = record { lexeme = c.in_ok-lexeme.lexeme; position = c.args.position } in
    let all : c.push_reserved.new.self.items ≡ os ++ o ∷ [] =
    c.push_reserved.ensures.items ∙ ap (λ t. t ++ o ∷ []) c.in_ok-reserve.ensures.items in
    let in' : IsEntered ls c.args.lexeme.now o.lexeme new = c.in_ok-lexeme.ensures.ok in
    subst (AreBuilding new) (sym all)
    (pushed ls os c.self.invariant c.args.lexeme.now o new in' c.as_str.ensures.valid c.at.ensures.valid)

pub returns-clause-ok : goal.returns-clause-ok
returns-clause-ok c =
    let ls = c.self.inside.lexemes in
    let new = c.number_of.new.self in
    let os = c.self.inside.occurrences.items in
    let o : Occurrence = record { lexeme = c.in_ok-lexeme.lexeme; position = c.args.position } in
    let all : c.push_reserved.new.self.items ≡ os ++ o ∷ [] =
    c.push_reserved.ensures.items ∙ ap (λ t. t ++ o ∷ []) c.in_ok-reserve.ensures.items in
    let in' : IsEntered ls c.args.lexeme.now o.lexeme new = c.in_ok-lexeme.ensures.ok in
    ap (items_of new) all
    ∙ pushed_items ls os c.self.invariant c.args.lexeme.now o new in' c.as_str.ensures.valid c.at.ensures.valid
    ∙ ap (λ t. t ++ entry c.args.lexeme.now (c.args.position ∷ []) ∷ []) c.self.view_is
