use Rattle.std.proofs.Common.{◌+◌, arith}
use Rattle.entry_tree.proofs.SplitParts.{before_small}
use Rattle.entry_tree.proofs.splitting.fits.Goals as goal

pub overflow_add-result : goal.overflow_add-result
overflow_add-result c =
    let small = before_small c.args.page.now.body (c.args.k + 1) c.requires.entries in
    omega (arith, c.size_before.ensures, c.high_size.ensures.small, small, c.requires.page.fits)
