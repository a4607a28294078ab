use Rattle.std.proofs.Common.{suc, length, sym, ap, add-one, arith}
use Rattle.entry_tree.specs.Inner.Parts.{bytes_before}
use Rattle.entry_tree.proofs.SplitParts.{none_before, before_small}
use Rattle.entry_tree.proofs.splitting.size_before.Goals as goal

pub loop-j-init : goal.loop-j-init
loop-j-init c = sym (none_before c.args.page.now.body c.requires.entries)

pub overflow_add-size : goal.overflow_add-size
overflow_add-size c =
    let small = before_small c.args.page.now.body (suc c.loop-j.j) c.requires.entries in
    omega (arith, c.member_size-size.ensures, c.loop-j.invariant, small, c.requires.page.fits)

pub loop-j-preserved : goal.loop-j-preserved
loop-j-preserved c = omega (
  arith,
  c.member_size-size.ensures,
  c.loop-j.invariant,
  ap (λ n. length (bytes_before c.args.page.now.body n)) (add-one c.loop-j.j),
)
