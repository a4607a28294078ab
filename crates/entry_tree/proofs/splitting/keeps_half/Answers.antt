use Rattle.std.proofs.Common.{◌+◌, arith}
use Rattle.entry_tree.proofs.SplitParts.{before_small}
use Rattle.entry_tree.proofs.SplitRule.{half_told}
use Rattle.entry_tree.proofs.splitting.keeps_half.Goals as goal

pub overflow_mul-result : goal.overflow_mul-result
overflow_mul-result c =
    let small = before_small c.args.page.now.body (c.args.k + 1) c.requires.entries in
    omega (arith, c.size_before-2.ensures, small, c.requires.page.fits)

pub returns : goal.returns
returns c =
    half_told c.args.page.now.body c.args.k c.member_count.result c.size_before-2.result c.size_before.result
    c.requires.entries c.member_count.ensures c.size_before.ensures c.size_before-2.ensures
