use Rattle.std.proofs.Common.{◌≡◌, true, false, List, ℕ, codes, arith, sym, ◌∙◌, ap}
use Rattle.std.specs.Prelude.{bytes_eq}
use Rattle.shell_script.specs.StepsOf.{is_end}
use Rattle.shell_script.proofs.Openings.{bytes_same}
use Rattle.shell_script.proofs.Bodies.{past_start, past_more, past_cut, front_of}
use Rattle.shell_script.proofs.script.cut_body.Goals as goal

pub loop-line-init : goal.loop-line-init
loop-line-init c = (past_start c.args.text.now, omega arith)

pub returns-then-eq-clause-some : goal.returns-then-eq-clause-some
returns-then-eq-clause-some c =
    let line = c.in-Some.line.now in
    let end : is_end line ≡ true =
    ap (λ (z : List ℕ). bytes_eq line z) (sym c.as_slice.ensures) ∙ sym c.eq.ensures ∙ c.if-eq.true in
    (past_cut c.args.text.now c.loop-line.behind.now line c.in-Some.rest.now _ c.loop-line.count c.loop-line.invariant.0
    (front_of c.args.text.now c.loop-line.behind.now c.loop-line.count c.loop-line.invariant.0)
    c.in-Some.ensures.some (bytes_same line (codes "end") end)).0

pub returns-then-eq-clause-count : goal.returns-then-eq-clause-count
returns-then-eq-clause-count c =
    let line = c.in-Some.line.now in
    let end : is_end line ≡ true =
    ap (λ (z : List ℕ). bytes_eq line z) (sym c.as_slice.ensures) ∙ sym c.eq.ensures ∙ c.if-eq.true in
    (past_cut c.args.text.now c.loop-line.behind.now line c.in-Some.rest.now _ c.loop-line.count c.loop-line.invariant.0
    (front_of c.args.text.now c.loop-line.behind.now c.loop-line.count c.loop-line.invariant.0)
    c.in-Some.ensures.some (bytes_same line (codes "end") end)).1

pub loop-line-preserved : goal.loop-line-preserved
loop-line-preserved c =
    let line = c.in-Some.line.now in
    let inner : is_end line ≡ false =
    ap (λ (z : List ℕ). bytes_eq line z) (sym c.as_slice.ensures) ∙ sym c.eq.ensures ∙ c.if-eq.false in (
      past_more c.args.text.now c.loop-line.behind.now line c.in-Some.rest.now c.loop-line.count c.loop-line.invariant.0
          c.in-Some.ensures.cut c.in-Some.ensures.some inner,
      omega (arith, c.loop-line.invariant.1, c.in-Some.ensures.shorter),
    )
