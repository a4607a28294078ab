use Rattle.std.proofs.Common.{◌≡◌, suc, length, sym, arith}
use Rattle.std.proofs.lemmas.Option.{slice_get_within}
use Rattle.page_types.specs.Parts.{child_shown}
use Rattle.entry_tree.proofs.GrownPages.{last_is}
use Rattle.entry_tree.proofs.pages.bound_of_last.Goals as goal

pub returns-in-Some : goal.returns-in-Some
returns-in-Some c =
    let children = c.args.children.now in
    let k = c.saturating_sub.result in
    let child = child_shown c.in-Some.child in
    let size : length children ≡ suc k =
    omega (arith, slice_get_within children k child c.in-Some.ensures.some, c.len.ensures, c.saturating_sub.ensures) in
    sym (last_is children k child size c.in-Some.ensures.some)
