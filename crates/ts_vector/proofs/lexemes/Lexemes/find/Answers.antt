use Rattle.std.proofs.Common.{◌≡◌, ◌<◌, [], length, get_or, sym, subst}
use Rattle.ts_vector.proofs.Building.{number_found}
use Rattle.ts_vector.proofs.lexemes.Lexemes.find.Goals as goal

pub returns-in-Some : goal.returns-in-Some
returns-in-Some c =
    let n = c.in-Some.number.now in
    let k = c.args.lexeme.now in
    subst (λ t. (n < length t) × (get_or t n [] ≡ k)) c.self.view_is
    (number_found c.self.inside.texts.items k n c.self.inside.numbers.entries c.self.invariant
    (sym c.in-Some.ensures.value))
