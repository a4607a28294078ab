use Rattle.std.proofs.Common.{◌-◌, ◌<◌, [], List, get_or, length, sym, ap, ◌∙◌, arith}
use Rattle.std.specs.List.{list_any}
use Rattle.ts_base.specs.Vectors.{Position, Entry}
use Rattle.ts_match.specs.declared.ranges.TheConstants.{FARTHEST}
use Rattle.ts_match.proofs.Lists.{none_in_part, some_in_part}
use Rattle.ts_match.proofs.Searches.{here, Rising}
use Rattle.ts_match.proofs.Lookups.{stands_before, stands_by, meets_at}
use Rattle.ts_match.proofs.ranges.stands.Goals as goal

nothing : Entry
nothing = record { lexeme = []; positions = [] }

pub returns-then-sum-lt-FARTHEST : goal.returns-then-sum-lt-FARTHEST
returns-then-sum-lt-FARTHEST c = sym (stands_before c.args.vector.now c.args.operand.now c.args.sum (omega arith))

pub has_position-requires : goal.has_position-requires
has_position-requires c =
    let e = c.requires.normal.entries c.loop-k.k nothing
    (let l : c.loop-k.k < length c.args.vector.now = let w = c.requires.found.within in omega arith in l) in
    let r : Rising (get_or c.args.vector.now c.loop-k.k nothing).positions = e.rising in
    rw (← c.positions.ensures nothing) at r

pub returns-then-has_position : goal.returns-then-has_position
returns-then-has_position c = sym (
    stands_by c.args.vector.now c.args.operand.now c.args.found c.args.sum c.requires.found (omega arith)
    ∙ some_in_part (meets_at c.args.operand.now (c.args.sum - FARTHEST)) c.args.vector.now c.args.found.first
    c.args.found.end c.loop-k.k nothing c.requires.found.within (omega arith) (omega arith)
    (ap (λ (ps : List Position). list_any (here (c.args.sum - FARTHEST) c.args.operand.now.weights) ps)
    (sym (c.positions.ensures nothing)) ∙ sym c.has_position.ensures ∙ c.if-has_position.true))

pub returns : goal.returns
returns c = sym (
    stands_by c.args.vector.now c.args.operand.now c.args.found c.args.sum c.requires.found (omega arith)
    ∙ none_in_part (meets_at c.args.operand.now (c.args.sum - FARTHEST)) c.args.vector.now c.args.found.first
    c.args.found.end c.requires.found.within (λ j d l m. c.loop-k.invariant j d l (omega arith)))
