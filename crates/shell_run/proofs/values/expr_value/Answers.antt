use Rattle.std.proofs.Common.{◌≡◌, inl, inr, ◌+◌, ◌∷◌, List, map, drop, ap, ◌∙◌, sym, subst}
use Rattle.std.proofs.lemmas.List.{drop_more}
use Rattle.shell_script.specs.Grammar.{Part}
use Rattle.shell_run.specs.Values.{IsJoinedOf, OthersFail}
use Rattle.shell_script.specs.ReplyView.{refusal}
use Rattle.shell_script.specs.StatementView.{part}
use Rattle.shell_run.proofs.values.expr_value.Goals as goal

pub returns-in-Err-clause-cause : goal.returns-in-Err-clause-cause
returns-in-Err-clause-cause c =
    let items = c.deref-other-items.result.now in
    let i = c.loop-other.other-index in
    let behind : List Part = map part (drop (i + 1) items) in
    let here : map part (drop i items) ≡ part c.other-item.result ∷ behind = ap (map part) (drop_more items i
    c.other-item.result c.loop-other-test.true ∙ ap (λ x. x ∷ drop (i + 1) items) (sym c.other-item.is)) in
    c.loop-other.invariant.1 (refusal c.in-Err.why)
    (subst (λ ps. OthersFail c.args.configs.now c.loop-other.value ps (refusal c.in-Err.why)) (sym here)
    (inr (c.in_ok-next.next, c.in_ok-next.ensures.value, inl c.in-Err.ensures.cause)))

pub loop-other-preserved : goal.loop-other-preserved
loop-other-preserved c =
    let items = c.deref-other-items.result.now in
    let i = c.loop-other.other-index in
    let behind : List Part = map part (drop (i + 1) items) in
    let here : map part (drop i items) ≡ part c.other-item.result ∷ behind = ap (map part) (drop_more items i
    c.other-item.result c.loop-other-test.true ∙ ap (λ x. x ∷ drop (i + 1) items) (sym c.other-item.is)) in (
      λ x h. c.loop-other.invariant.0 x (subst (λ ps. IsJoinedOf c.args.configs.now c.loop-other.value ps x) (sym here)
          (c.in_ok-next.next, c.in-Ok.joined, c.in_ok-next.ensures.value, c.in-Ok.ensures.value, h)),
      λ why h. c.loop-other.invariant.1 why (subst (λ ps. OthersFail c.args.configs.now c.loop-other.value ps why) (sym
          here) (inr (c.in_ok-next.next, c.in_ok-next.ensures.value, inr (c.in-Ok.joined, c.in-Ok.ensures.value, h)))),
    )
