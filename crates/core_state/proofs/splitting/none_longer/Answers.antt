use Rattle.std.proofs.Common.{◌+◌, ℕ, refl, sym, subst, arith}
use Rattle.page_types.specs.Parts.{entry_shown}
use Rattle.core_state.proofs.LongestParts.{SizedSoFar, sized_within, sized_next, sized_end, sized_fits}
use Rattle.core_state.proofs.splitting.none_longer.Goals as goal

pub entry_size-size-requires : goal.entry_size-size-requires
entry_size-size-requires c =
    let w = sized_within c.args.front c.loop-k.size c.args.back.now c.loop-k.k (entry_shown c.in-Some.entry)
    c.loop-k.invariant c.in-Some.ensures.some c.requires in
    omega (arith, w.0)

pub overflow_add-size : goal.overflow_add-size
overflow_add-size c =
    let w = sized_within c.args.front c.loop-k.size c.args.back.now c.loop-k.k (entry_shown c.in-Some.entry)
    c.loop-k.invariant c.in-Some.ensures.some c.requires in
    omega (arith, w.0, c.entry_size-size.ensures)

pub overflow_add-size-in-loop-k : goal.overflow_add-size-in-loop-k
overflow_add-size-in-loop-k c =
    let w = sized_within c.args.front c.loop-k.size c.args.back.now c.loop-k.k (entry_shown c.in-Some.entry)
    c.loop-k.invariant c.in-Some.ensures.some c.requires in
    omega (arith, w.0, c.entry_size-size.ensures)

pub overflow_add-size-in-loop-k-2 : goal.overflow_add-size-in-loop-k-2
overflow_add-size-in-loop-k-2 c =
    let w = sized_within c.args.front c.loop-k.size c.args.back.now c.loop-k.k (entry_shown c.in-Some.entry)
    c.loop-k.invariant c.in-Some.ensures.some c.requires in
    omega (arith, w.0, w.1, c.entry_size-size.ensures)

pub returns-then-size-entry-le-MOST_BODY_BYTES : goal.returns-then-size-entry-le-MOST_BODY_BYTES
returns-then-size-entry-le-MOST_BODY_BYTES c = (
  λ e. absurd (cc),
  λ n. absurd (sized_fits c.args.front c.loop-k.size c.args.back.now c.loop-k.k (entry_shown c.in-Some.entry)
      c.loop-k.invariant c.in-Some.ensures.some
      (omega (arith, c.if-size-entry-le-MOST_BODY_BYTES.true, c.entry_size-size.ensures))
      (omega (arith, c.loop-k-test.true, c.saturating_sub-k-end.ensures, c.len.ensures)) n),
)

pub loop-k-preserved : goal.loop-k-preserved
loop-k-preserved c =
    subst (λ (n : ℕ). SizedSoFar c.args.front (c.loop-k.size + n) c.args.back.now (c.loop-k.k + 1))
    (sym c.entry_size-size.ensures)
    (sized_next c.args.front c.loop-k.size c.args.back.now c.loop-k.k (entry_shown c.in-Some.entry)
    c.loop-k.invariant c.in-Some.ensures.some
    (omega (arith, c.if-size-entry-le-MOST_BODY_BYTES.false, c.entry_size-size.ensures)))

pub returns : goal.returns
returns c = (
  λ e. sized_end c.args.front c.loop-k.size c.args.back.now c.loop-k.k c.loop-k.invariant
      (omega (arith, c.loop-k-test.false, c.saturating_sub-k-end.ensures, c.len.ensures)),
  λ n. refl,
)
