use Rattle.std.proofs.Common.{◌≡◌, Bool, false, eqb, List, length, get_or, nat_lt, sym, ap, ◌∙◌, arith}
use Rattle.std.specs.List.{list_all}
use Rattle.std.proofs.lemmas.Bool.{lt-ltb, eq-eqb, and_right, and_from}
use Rattle.ts_base.specs.Vectors.{Position, Entry}
use Rattle.ts_match.proofs.Lists.{all_pass, one_fails}
use Rattle.ts_match.proofs.Lookups.{nothing}
use Rattle.ts_match.proofs.ranges.is_stripped.Goals as goal

abbrev bare : Entry → Bool
bare e = eqb (length e.positions) 0

pub returns-then-not-is_empty-clause-stripped : goal.returns-then-not-is_empty-clause-stripped
returns-then-not-is_empty-clause-stripped c =
    let e : bare (get_or c.args.vector.now c.loop-k.k nothing) ≡ false = ap (λ (ps : List Position). eqb (length ps) 0)
    (sym (c.positions.ensures nothing)) ∙ sym c.is_empty.ensures ∙ c.if-not-is_empty.true in
    sym (and_right (nat_lt 0 (length c.args.vector.now)) (list_all bare c.args.vector.now)
    (one_fails bare c.args.vector.now c.loop-k.k nothing (omega arith) e))

pub returns-clause-stripped : goal.returns-clause-stripped
returns-clause-stripped c =
    let n = c.if-count-eq0.false in
    sym (and_from (nat_lt 0 (length c.args.vector.now)) (list_all bare c.args.vector.now)
    (lt-ltb 0 (length c.args.vector.now) (omega arith))
    (all_pass bare c.args.vector.now
    (λ k d l. eq-eqb (length (get_or c.args.vector.now k d).positions) 0 (c.loop-k.invariant k d (omega arith)))))
