-- One item after another is judged.
use Rattle.std.proofs.Common.{◌∙◌, ◌++◌, ℕ, Bool, List, [], ◌∷◌, get_or, refl, sym, ap, append-nil}
use Rattle.std.proofs.lemmas.List.{append_assoc}
use Rattle.std.proofs.lemmas.Result.{err_from_is_err_and}
use Rattle.gin_opclass.specs.Class.{meaning}
use Rattle.gin_hits.proofs.KeptItems.{next_kept, next_left, all_kept}
use Rattle.gin_hits.proofs.judged.add_kept.Goals as goal
use Rattle.gin_hits.proofs.judged.add_kept.Goals.{then-verdict+in_ok-push, else-verdict}

pub loop-item-init : goal.loop-item-init
loop-item-init g c = record {
  serves = c.requires.serves;
  count = c.requires.each;
  kept = λ w told read. ([], sym (append-nil c.args.kept.now.items), refl);
}

pub judge_item-verdict-requires : goal.judge_item-verdict-requires
judge_item-verdict-requires g c =
    let was = c.loop-item.invariant in record {
      serves = was.serves;
      each = was.count;
      pending = (c.requires.pending.0 ∙ c.requires.each ∙ sym was.count, c.requires.pending.1);
      main = (c.requires.main.0 ∙ c.requires.each ∙ sym was.count, c.requires.main.1);
      any = c.requires.any;
    }

pub loop-item-preserved : goal.loop-item-preserved
loop-item-preserved g c =
    let was = c.loop-item.invariant in
    let items = c.args.items.now in
    let k = c.loop-item.item-index in
    let v = c.judge_item-verdict.result in
    record {
      serves = c.judge_item-verdict.ensures.serves;
      count = c.judge_item-verdict.ensures.count ∙ was.count;
      kept = λ w told read.
          let before = was.kept w told read in
          let is = c.judge_item-verdict.ensures.verdict w told (read k 0 c.loop-item-test.true) in
          elim c.if-verdict.branch [
            | then-verdict+in_ok-push b ↦ (
              before.0 ++ (get_or items k 0, v.yes) ∷ [],
              ap (λ z. z.items) b.kept-is ∙ b.in_ok-push.ensures.items
                  ∙ ap (λ (ks : List (ℕ × Bool)). ks ++ (get_or items k 0, v.yes) ∷ []) before.1
                  ∙ append_assoc c.args.kept.now.items before.0 ((get_or items k 0, v.yes) ∷ []),
              next_kept _ c.args.query.now w v items k before.0 c.loop-item-test.true is b.if-verdict.true before.2,
            )
            | else-verdict b ↦ (
              before.0,
              ap (λ z. z.items) b.kept-is ∙ before.1,
              next_left _ c.args.query.now w v items k before.0 c.loop-item-test.true is b.if-verdict.false before.2,
            )
          ];
    }

pub returns-in_err-push : goal.returns-in_err-push
returns-in_err-push g c =
    let p = err_from_is_err_and c.from_residual.result c.from_residual.ensures.1 in
    rw p.1 (record { serves = c.judge_item-verdict.ensures.serves; kept = tt })

pub returns : goal.returns
returns g c =
    let was = c.loop-item.invariant in record {
      serves = was.serves;
      kept = λ w told read.
          all_kept (meaning g.W.Meaning.asked g.W.Meaning.all g.W.Meaning.satisfies g.W.Meaning.judged) c.args.query.now
          w c.args.items.now c.loop-item.item-index c.args.kept.now.items c.loop-item.kept.items c.loop-item-test.false
          (was.kept w told read);
    }
