use Rattle.std.proofs.Common.{sym, ◌∙◌, arith}
use Rattle.std.proofs.lemmas.Bool.{false≢true}
use Rattle.posting_code.proofs.Cutting.{next_bound, even_none, even_longest, nothing_fits, map_some, map_none}
use Rattle.posting_code.proofs.dividing.even.Goals as goal
use Rattle.posting_code.proofs.dividing.even.Goals.{in-Some+else-both_fit, in_default}

pub both_fit-requires : goal.both_fit-requires
both_fit-requires c =
    let x = c.in-Some.ensures.some in
    omega (arith, next_bound c.args.list.now x.0 x.1 c.in-Some.halves c.requires x.2.divides x.3)

pub returns-clause-some : goal.returns-clause-some
returns-clause-some c = elim c.match-first_from.branch [
  | in-Some+else-both_fit w ↦
      let x = w.in-Some.ensures.some in
      map_some _ _ c.last_within.result (λ h p. (
        p.0,
        p.1,
        even_longest c.args.list.now x.0 x.1 p.0 p.1 w.in-Some.halves x.2 x.3
            (λ k. false≢true (sym w.if-both_fit.false ∙ w.both_fit.ensures.1 k)) p.2,
        p.3,
      )) c.last_within.ensures.some
  | in_default w ↦ map_some _ _ c.last_within.result (λ h p.
      (p.0, p.1, even_none c.args.list.now p.0 p.1 w.in_default.ensures.none p.2, p.3)) c.last_within.ensures.some
]

pub returns-clause-none : goal.returns-clause-none
returns-clause-none c =
    map_none _ _ c.last_within.result (nothing_fits c.args.list.now c.requires) c.last_within.ensures.none
