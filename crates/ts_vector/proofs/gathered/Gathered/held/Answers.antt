use Rattle.std.proofs.Common.{◌≡◌, ◌+◌, ◌*◌, [], arith, inl, inr, refl, sym, ap, subst, length}
use Rattle.std.proofs.lemmas.List.Elements.{All-contains}
use Rattle.ts_base.specs.Vectors.{IsEntry}
use Rattle.ts_vector.specs.Inner.Columns.{entry}
use Rattle.ts_vector.specs.Inner.Gathered.{IsHeld}
use Rattle.ts_vector.specs.Pairs.{pairs_of}
use Rattle.ts_vector.proofs.Inserting.{found_there, none_there}
use Rattle.ts_vector.proofs.gathered.Gathered.held.Goals as goal

pub overflow_add-size : goal.overflow_add-size
overflow_add-size c =
    let es = c.self.inside.lexemes.entries in
    let there = found_there c.args.lexeme.now es c.in-Some.positions.now (sym c.in-Some.ensures.value) in
    let few = (All-contains IsEntry (pairs_of es)
    (entry c.args.lexeme.now c.in-Some.positions.now.items) c.self.invariant.0.entries there).few in
    let n = ap length c.as_str.ensures.value in
    omega (arith, few, n, c.as_str.ensures.valid.most, c.len.ensures)

pub returns-in-Some : goal.returns-in-Some
returns-in-Some c =
    let l = c.args.lexeme.now in
    let ps = c.in-Some.positions.now.items in
    let there = found_there l c.self.inside.lexemes.entries c.in-Some.positions.now (sym c.in-Some.ensures.value) in
    let same : c.as_slice.result.now ≡ ps = c.as_slice.ensures.value in
    let n = ap length c.as_str.ensures.value in
    let size : length c.as_str.result.now + 2 * c.len.result ≡ length l + 2 * length ps =
    omega (arith, n, c.len.ensures) in
    subst (λ v. IsHeld v l c.as_slice.result.now (length c.as_str.result.now + 2 * c.len.result)) c.self.view_is
    (subst (λ qs. IsHeld (pairs_of c.self.inside.lexemes.entries) l qs (length c.as_str.result.now + 2 * c.len.result))
    (sym same) (inl (there, size)))

pub returns-in-None : goal.returns-in-None
returns-in-None c =
    let none = none_there c.args.lexeme.now c.self.inside.lexemes.entries (sym c.in-None.ensures.value) in
    subst (λ v. IsHeld v c.args.lexeme.now [] 0) c.self.view_is (inr (none, refl, refl))
