use Rattle.std.proofs.Common.{suc, arith}
use Rattle.entry_tree.proofs.SplitParts.{before_small}
use Rattle.entry_tree.proofs.SplitRule.{trying_starts}
use Rattle.entry_tree.proofs.splitting.last_fitting.Goals as goal

pub loop-k-init : goal.loop-k-init
loop-k-init c = trying_starts c.args.page.now c.requires.page c.requires.entries c.requires.members

pub overflow_add-size : goal.overflow_add-size
overflow_add-size c =
    let small = before_small c.args.page.now.body (suc c.loop-k.k) c.requires.entries in
    omega (arith, c.member_size-size.ensures, c.loop-k.invariant.size_is, small, c.requires.page.fits)

pub overflow_add-size-in-loop-k : goal.overflow_add-size-in-loop-k
overflow_add-size-in-loop-k c =
    let small = before_small c.args.page.now.body (suc c.loop-k.k) c.requires.entries in
    omega (
      arith,
      c.member_size-size.ensures,
      c.loop-k.invariant.size_is,
      c.high_size.ensures.small,
      small,
      c.requires.page.fits,
    )
