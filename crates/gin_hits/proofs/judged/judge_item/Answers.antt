-- Each item is judged where it was met, that of the first row on both sides.
use Rattle.std.proofs.Common.{◌≡◌, ◌∙◌, ◌≤◌, ℕ, false, sym, subst, inl, inr, AllPairs}
use Rattle.core_state.specs.Log.{In}
use Rattle.core_moments.specs.Judging.{met, is_exception}
use Rattle.gin_hits.specs.Sides.{pending_side, main_side}
use Rattle.gin_hits.proofs.Verdicts.{first_is, other_first, exception_is, is_the_first, verdict_of_first}
use Rattle.gin_hits.proofs.Verdicts.{verdict_of_met, verdict_of_unmet}
use Rattle.gin_hits.proofs.Searching.{false_of}
use Rattle.gin_hits.proofs.judged.judge_item.Goals as goal

pub judge_by-listed-requires : goal.judge_by-listed-requires
judge_by-listed-requires g c = record {
  serves = c.requires.serves;
  each = c.requires.each;
  lists = c.requires.pending.0;
  in_order = c.requires.pending.1;
}

pub judge_by-moved-requires : goal.judge_by-moved-requires
judge_by-moved-requires g c =
    let e = c.judge_by-listed.ensures in record {
      serves = e.serves;
      each = e.count ∙ c.requires.each;
      lists = c.requires.main.0 ∙ sym e.count;
      in_order = c.requires.main.1;
    }

pub has-requires : goal.has-requires
has-requires g c =
    subst (AllPairs (λ (i j : ℕ). i ≤ j)) (sym c.as_slice.ensures.value) c.requires.any

pub judge_alone-requires : goal.judge_alone-requires
judge_alone-requires g c = record {
  serves = c.requires.serves;
  each = c.requires.each;
  lists = c.requires.pending.0;
  in_order = c.requires.pending.1;
}

pub judge_alone-requires-2 : goal.judge_alone-requires-2
judge_alone-requires-2 g c = record {
  serves = c.requires.serves;
  each = c.requires.each;
  lists = c.requires.main.0;
  in_order = c.requires.main.1;
}

pub returns-then-eq : goal.returns-then-eq
returns-then-eq g c =
    let i = c.args.item in
    let one = c.judge_by-listed.ensures in
    let two = c.judge_by-moved.ensures in
    let first = first_is c.args.first_item i c.eq.result c.eq.ensures c.if-eq.true in record {
      serves = two.serves;
      count = two.count ∙ one.count;
      verdict = λ w told read.
          verdict_of_first _ c.args.query.now w i c.judge_by-listed.result c.judge_by-moved.result c.either.result
          (exception_is i w.pending (sym told.first_told ∙ first)) c.either.ensures.kept c.either.ensures.yes
          (one.verdict (pending_side w) told.pending_told) (two.verdict (main_side w) told.main_told);
    }

pub returns-then-has : goal.returns-then-has
returns-then-has g c =
    let i = c.args.item in
    let e = c.judge_alone.ensures in record {
      serves = e.serves;
      count = e.count;
      verdict = λ w told read.
          let other : is_exception w i ≡ false = false_of (is_exception w i)
          (λ x. other_first c.args.first_item i c.eq.result c.eq.ensures c.if-eq.false
          (told.first_told ∙ is_the_first i w.pending x)) in
          let there : In i c.args.pending.now.any.items =
          subst (In i) c.as_slice.ensures.value (c.has.ensures.0 c.if-has.true) in
          verdict_of_met _ c.args.query.now w i c.judge_alone.result other ((told.pending_told.any i).0 there)
          (e.verdict (pending_side w) told.pending_told);
    }

pub returns : goal.returns
returns g c =
    let i = c.args.item in
    let e = c.judge_alone-2.ensures in record {
      serves = e.serves;
      count = e.count;
      verdict = λ w told read.
          let unmet : met w i ≡ false = false_of (met w i)
          (λ x. let there = subst (In i) (sym c.as_slice.ensures.value) ((told.pending_told.any i).1 x) in
          let z = sym (c.has.ensures.1 there) ∙ c.if-has.false in let y : ⊥ = cc in y) in
          verdict_of_unmet _ c.args.query.now w i c.judge_alone-2.result unmet
          (elim read [ inl x ↦ absurd (let z = sym x ∙ unmet in let y : ⊥ = cc in y) | inr x ↦ x ])
          (e.verdict (main_side w) told.main_told);
    }
