use Rattle.std.proofs.Common.{◌≡◌, ◌+◌, ◌∷◌, [], ◌++◌, length, ap, ◌∙◌, arith}
use Rattle.std.proofs.lemmas.Grind.{common_steps}
use Rattle.ts_vector.specs.declared.columns.Ends.{Ends}
use Rattle.ts_vector.specs.Inner.Columns.{entry}
use Rattle.ts_vector.proofs.ColumnFacts.{columns_push, push_are}
use Rattle.ts_vector.proofs.columns.Columns.push.Goals as goal

pub invariant_of-self-2 : goal.invariant_of-self-2
invariant_of-self-2 c =
    let f = c.self.inside in
    let ends : Ends = record { lexeme = c.in_ok-end.field-0; positions = c.in_ok-end-2.field-0 } in
    let a : c.extend_from_slice.new.self.items ≡ f.lexemes.items ++ c.args.lexeme.now = grind (arith, common_steps) in
    let b : c.extend_from_slice-2.new.self.items ≡ f.positions.items ++ c.args.positions.now =
    grind (arith, common_steps) in
    let d : c.push.new.self.items ≡ f.ends.items ++ ends ∷ [] = grind (arith, common_steps) in
    let l : ends.lexeme ≡ length f.lexemes.items + length c.args.lexeme.now =
    omega (arith, c.in_ok-end.ensures, c.len.ensures, f.lexemes.ok.0) in
    let p : ends.positions ≡ length f.positions.items + length c.args.positions.now =
    omega (arith, c.in_ok-end-2.ensures, c.len-2.ensures, f.positions.ok.0) in
    rw (a, b, d) (push_are f.lexemes.items f.positions.items f.ends.items c.self.invariant c.args.lexeme.now
    c.args.positions.now ends l p)

pub returns-clause-ok : goal.returns-clause-ok
returns-clause-ok c =
    let f = c.self.inside in
    let ends : Ends = record { lexeme = c.in_ok-end.field-0; positions = c.in_ok-end-2.field-0 } in
    let a : c.extend_from_slice.new.self.items ≡ f.lexemes.items ++ c.args.lexeme.now = grind (arith, common_steps) in
    let b : c.extend_from_slice-2.new.self.items ≡ f.positions.items ++ c.args.positions.now =
    grind (arith, common_steps) in
    let d : c.push.new.self.items ≡ f.ends.items ++ ends ∷ [] = grind (arith, common_steps) in
    let l : ends.lexeme ≡ length f.lexemes.items + length c.args.lexeme.now =
    omega (arith, c.in_ok-end.ensures, c.len.ensures, f.lexemes.ok.0) in
    let p : ends.positions ≡ length f.positions.items + length c.args.positions.now =
    omega (arith, c.in_ok-end-2.ensures, c.len-2.ensures, f.positions.ok.0) in
    rw (a, b, d) (columns_push f.lexemes.items f.positions.items f.ends.items c.self.invariant c.args.lexeme.now
    c.args.positions.now ends l p ∙ ap (λ v. v ++ entry c.args.lexeme.now c.args.positions.now ∷ []) c.self.view_is)
