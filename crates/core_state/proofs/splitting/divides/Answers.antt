use Rattle.std.proofs.Common.{◌≡◌, ◌-◌, suc, true, length, arith}
use Rattle.page_types.specs.Keys.{KeyLess}
use Rattle.page_types.specs.declared.page.Entry.{Entry}
use Rattle.page_types.specs.Parts.{entry_shown}
use Rattle.core_state.proofs.Halves.{divides_told, divides_last, divides_first}
use Rattle.core_state.proofs.splitting.divides.Goals as goal

pub returns-then-is_below : goal.returns-then-is_below
returns-then-is_below c = (
  λ e. absurd (cc),
  λ d. absurd (divides_last c.args.mid.now c.args.front.now c.args.back.now _ (entry_shown c.in-Some.last) d
      c.in-Some.ensures.some (c.is_below.ensures.0 c.if-is_below.true)),
)

pub returns : goal.returns
returns c =
    let mid = c.args.mid.now in
    let front = c.args.front.now in
    let back = c.args.back.now in
    let last : Entry = entry_shown c.in-Some.last in
    let first : Entry = entry_shown c.in-Some-get.first in
    let n : suc (c.len-2.result - 1) ≡ length front =
    omega (arith, c.len.ensures, c.len-2.ensures, c.if-len-eq0.false) in
    let not : KeyLess mid last.key → ⊥ = λ l. let yes : c.is_below.result ≡ true = c.is_below.ensures.1 l in cc in (
      λ e. divides_told mid front back (c.len-2.result - 1) last first c.requires.front c.requires.back
          c.in-Some.ensures.some n c.in-Some-get.ensures.some not (c.is_below-2.ensures.0 e),
      λ d. c.is_below-2.ensures.1 (divides_first mid front back first d c.in-Some-get.ensures.some),
    )
