use Rattle.std.proofs.Common.{suc, ◌∙◌, arith}
use Rattle.entry_tree.specs.Inner.Parts.{IsCutPlace}
use Rattle.entry_tree.proofs.SplitParts.{before_small, all_listed}
use Rattle.entry_tree.proofs.SplitRule.{below_starts, below_goes_on, half_found}
use Rattle.entry_tree.proofs.splitting.first_half.Goals as goal

pub overflow_add-size : goal.overflow_add-size
overflow_add-size c =
    let small = before_small c.args.page.now.body (suc c.loop-k.k) c.requires.entries in
    omega (arith, c.member_size-size.ensures, c.loop-k.invariant.size_is, small, c.requires.page.fits)

pub overflow_mul-size : goal.overflow_mul-size
overflow_mul-size c =
    let small = before_small c.args.page.now.body (suc c.loop-k.k) c.requires.entries in
    omega (arith, c.member_size-size.ensures, c.loop-k.invariant.size_is, small, c.requires.page.fits)

pub loop-k-init : goal.loop-k-init
loop-k-init c = below_starts c.args.page.now.body c.requires.entries

pub loop-k-preserved : goal.loop-k-preserved
loop-k-preserved c =
    let whole = c.args.page.now.body in
    below_goes_on whole c.loop-k.k c.loop-k.size c.member_size-size.result c.size_before-whole.result
    c.requires.entries c.loop-k.invariant c.member_size-size.ensures
    (c.size_before-whole.ensures
    ∙ all_listed whole c.member_count-count.result c.requires.entries c.member_count-count.ensures)
    c.if-whole-size.false

pub returns-then-whole-size : goal.returns-then-whole-size
returns-then-whole-size c =
    let whole = c.args.page.now.body in
    let place : IsCutPlace whole c.loop-k.k =
    omega (arith, c.loop-k-test.true, c.saturating_sub-k-end.ensures, c.member_count-count.ensures) in
    record {
      some = half_found whole c.loop-k.k c.loop-k.size c.member_size-size.result c.size_before-whole.result
          c.requires.entries c.loop-k.invariant place c.member_size-size.ensures
          (c.size_before-whole.ensures
          ∙ all_listed whole c.member_count-count.result c.requires.entries c.member_count-count.ensures)
          c.if-whole-size.true;
      none = tt;
    }
