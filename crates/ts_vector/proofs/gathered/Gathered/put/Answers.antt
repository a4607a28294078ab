use Rattle.std.proofs.Common.{◌≡◌, ◌≤◌, ◌⊎◌, ◌++◌, arith, refl, sym, ap, subst, length}
use Rattle.std.specs.Prelude.{All, Any}
use Rattle.std.proofs.lemmas.Grind.{common_steps}
use Rattle.ts_base.specs.Lexemes.{IsLexeme}
use Rattle.ts_base.specs.Vectors.{IsNormal, content_size}
use Rattle.ts_vector.proofs.FullLists.{kept}
use Rattle.ts_vector.specs.Pairs.{pairs_of}
use Rattle.ts_vector.specs.Inner.Columns.{entry}
use Rattle.ts_vector.specs.Inner.Gathered.{IsHeld, Puts, AreBehind}
use Rattle.ts_vector.specs.Inner.Steps.{SettlesTo}
use Rattle.ts_vector.proofs.Inserting.{inserted}
use Rattle.ts_vector.proofs.Gathering.{puts, put_normal, size_put, greatest_put}
use Rattle.ts_vector.proofs.gathered.Gathered.put.Goals as goal

pub overflow_add-size : goal.overflow_add-size
overflow_add-size c =
    let s = ap content_size c.self.view_is in
    let n = ap length c.as_str.ensures.value in
    let l = ap length c.in_ok-lexeme.ensures in
    omega (arith, c.self.invariant.1, c.requires.small, s, n, l)

pub overflow_sub-size : goal.overflow_sub-size
overflow_sub-size c =
    let ps = c.args.positions.now in
    let before = c.held-held.result.0.now in
    let k = c.in_ok-lexeme.lexeme in
    let v = c.settle.new.positions in
    let es = c.self.inside.lexemes.entries in
    let all : c.extend_from_slice-2.new.self.items ≡ before ++ ps = grind (arith, common_steps) in
    let at : IsHeld (pairs_of es) k before c.held-held.result.1 =
    subst (λ w. IsHeld w k before c.held-held.result.1) (sym c.self.view_is) c.held-held.ensures in
    let settles : SettlesTo (before ++ ps) v.items = subst (λ t. SettlesTo t v.items) all c.settle.ensures.tops in
    let fewer : length v.items ≤ length (before ++ ps) =
    subst (λ t. length v.items ≤ length t) all c.settle.ensures.fewer in
    let size =
    size_put es (inserted k v es) k ps before c.held-held.result.1 v refl c.self.invariant.0 at settles fewer in
    let n = ap length c.as_str.ensures.value in
    omega (arith, size, n, c.self.invariant.1, c.len.ensures)

pub invariant_of-self-2 : goal.invariant_of-self-2
invariant_of-self-2 c =
    let ps = c.args.positions.now in
    let before = c.held-held.result.0.now in
    let held = c.held-held.result.1 in
    let k = c.in_ok-lexeme.lexeme in
    let v = c.settle.new.positions in
    let es = c.self.inside.lexemes.entries in
    let new = c.insert.new.self.entries in
    let ke : k ≡ c.args.lexeme.now = c.in_ok-lexeme.ensures in
    let all : c.extend_from_slice-2.new.self.items ≡ before ++ ps = grind (arith, common_steps) in
    let is : new ≡ inserted k v es = c.in_ok-insert.ensures.entries in
    let at : IsHeld (pairs_of es) k before held =
    subst (λ w. IsHeld w k before held) (sym c.self.view_is) c.held-held.ensures in
    let settles : SettlesTo (before ++ ps) v.items = subst (λ t. SettlesTo t v.items) all c.settle.ensures.tops in
    let fewer : length v.items ≤ length (before ++ ps) =
    subst (λ t. length v.items ≤ length t) all c.settle.ensures.fewer in
    let normal = c.self.invariant.0 in
    let behind : AreBehind (pairs_of es) k ps = subst (λ l. AreBehind (pairs_of es) l ps) (sym ke)
    (subst (λ w. AreBehind w c.args.lexeme.now ps) (sym c.self.view_is) c.requires.behind) in
    let g = c.self.inside.greatest in
    let h = c.greatest_from-greatest.result in (
      put_normal es new k ps before held v is normal at settles fewer
          (subst IsLexeme (sym ke) c.requires.lexeme) c.requires.positions,
      (let size = size_put es new k ps before held v is normal at settles fewer in
          let n = ap length c.as_str.ensures.value in omega (arith, size, n, c.self.invariant.1, c.len.ensures)),
      greatest_put es new k ps before held v is normal at settles fewer g h c.self.invariant.2 behind
          c.greatest_from-greatest.ensures.lower
          (subst (All (λ p. p.at ≤ h)) c.as_slice.ensures.value c.greatest_from-greatest.ensures.bound)
          (subst (λ ps. (h ≡ g) ⊎ Any (λ p. p.at ≡ h) ps) c.as_slice.ensures.value
          c.greatest_from-greatest.ensures.met),
      c.greatest_from-greatest.ensures.upper,
    )

pub returns : goal.returns
returns c =
    let ps = c.args.positions.now in
    let before = c.held-held.result.0.now in
    let held = c.held-held.result.1 in
    let k = c.in_ok-lexeme.lexeme in
    let v = c.settle.new.positions in
    let es = c.self.inside.lexemes.entries in
    let new = c.insert.new.self.entries in
    let ke : k ≡ c.args.lexeme.now = c.in_ok-lexeme.ensures in
    let all : c.extend_from_slice-2.new.self.items ≡ before ++ ps = grind (arith, common_steps) in
    let is : new ≡ inserted k v es = c.in_ok-insert.ensures.entries in
    let at : IsHeld (pairs_of es) k before held =
    subst (λ w. IsHeld w k before held) (sym c.self.view_is) c.held-held.ensures in
    let settles : SettlesTo (before ++ ps) v.items = subst (λ t. SettlesTo t v.items) all c.settle.ensures.tops in
    let fewer : length v.items ≤ length (before ++ ps) =
    subst (λ t. length v.items ≤ length t) all c.settle.ensures.fewer in
    subst (λ w. Puts w (entry c.args.lexeme.now ps) (pairs_of new)) c.self.view_is
    (subst (λ l. Puts (pairs_of es) (entry l ps) (pairs_of new)) ke
    (puts es new k ps before held v is c.self.invariant.0 at settles fewer))

pub returns-then-is_full : goal.returns-then-is_full
returns-then-is_full c =
    let v = c.args.self.now in
    let ps = c.args.positions.now in
    let before = c.held-held.result.0.now in
    let held = c.held-held.result.1 in
    let at : IsHeld v c.args.lexeme.now before held =
    subst (λ l. IsHeld v l before held) c.in_ok-lexeme.ensures c.held-held.ensures in
    kept v c.args.lexeme.now before ps held (subst IsNormal c.self.view_is c.self.invariant.0) at
    (c.is_full.ensures (let yes = c.if-is_full.true in cc))
