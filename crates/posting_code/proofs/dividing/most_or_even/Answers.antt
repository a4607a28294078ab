use Rattle.std.proofs.Common.{arith}
use Rattle.posting_code.specs.Cutting.{IsCut}
use Rattle.posting_code.proofs.Cutting.{cut_most, less_than_half, nothing_fits, map_some, none_few}
use Rattle.posting_code.proofs.dividing.most_or_even.Goals as goal
use Rattle.posting_code.proofs.dividing.most_or_even.Goals.{in-Some+else-saturating_sub-halves, in_default}

pub returns-then-saturating_sub-halves-clause-some : goal.returns-then-saturating_sub-halves-clause-some
returns-then-saturating_sub-halves-clause-some c =
    let x = c.in-Some.ensures.some in (
      x.0,
      x.1,
      cut_most c.args.list.now x.0 x.1 c.in-Some.halves x.2 x.3
          (omega (arith, c.saturating_sub.ensures, c.if-saturating_sub-halves.true)),
      x.3,
    )

pub returns-clause-some : goal.returns-clause-some
returns-clause-some c = elim c.match-last_within.branch [
  | in-Some+else-saturating_sub-halves w ↦
      let x = w.in-Some.ensures.some in
      map_some _ _ c.even.result (λ h p. (
        p.0,
        p.1,
        IsCut.no_most (less_than_half c.args.list.now x.0 x.1 w.in-Some.halves x.2 x.3
            (omega (arith, w.saturating_sub.ensures, w.if-saturating_sub-halves.false))) p.2,
        p.3,
      )) c.even.ensures.some
  | in_default w ↦ map_some _ _ c.even.result (λ h p. (
    p.0,
    p.1,
    IsCut.no_most (λ f b m k. nothing_fits c.args.list.now c.requires w.in_default.ensures.none f b m.divides) p.2,
    p.3,
  )) c.even.ensures.some
]

pub returns-clause-none : goal.returns-clause-none
returns-clause-none c = none_few c.args.list.now c.even.result c.even.ensures.some c.even.ensures.none
