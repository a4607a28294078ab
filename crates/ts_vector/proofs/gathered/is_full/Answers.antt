use Rattle.std.proofs.Common.{◌≡◌, ◌-◌, ◌<◌, length, get_or, ap, subst, ◌∙◌, arith}
use Rattle.std.specs.Prelude.{All}
use Rattle.std.proofs.lemmas.List.{take_all, get_or_read}
use Rattle.std.proofs.lemmas.List.Elements.{All-more}
use Rattle.ts_base.specs.Vectors.{Position}
use Rattle.ts_vector.proofs.gathered.is_full.Goals as goal

pub loop-other-preserved : goal.loop-other-preserved
loop-other-preserved c =
    let x = c.other-item.result in
    let lt : c.at-last.result < x.at = omega (arith, c.at.ensures.value) in
    All-more (λ p. c.at-last.result < p.at) c.args.others.now c.loop-other.other-index x c.loop-other-test.true
    c.loop-other.invariant
    (subst (λ (p : Position). c.at-last.result < p.at) c.other-item.is lt)

pub returns : goal.returns
returns c = λ _.
    let ps = c.args.positions.now in
    let others = c.args.others.now in
    let long = c.if-positions-lt-MOST_POSITIONS.false in
    let all = subst (All (λ p. c.at-last.result < p.at))
    (take_all c.loop-other.other-index others (omega arith)) c.loop-other.invariant in
    record {
      long = long;
      behind = λ d.
          let e : c.at-last.result ≡ (get_or ps (length ps - 1) d).at =
          c.at-last.ensures.value ∙ ap (λ (p : Position). p.at) (get_or_read ps
          (length ps - 1) c.index-positions-positions.result (omega arith) c.index-positions-positions.is d) in
          subst (λ n. All (λ p. n < p.at) others) e all;
    }
