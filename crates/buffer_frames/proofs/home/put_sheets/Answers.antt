use Rattle.std.proofs.Common.{◌∷◌, List, sym, subst}
use Rattle.core_state.specs.Allowed.{Sheet}
use Rattle.buffer_frames.specs.Homes.{HasPut}
use Rattle.buffer_frames.specs.declared.home.Home.{Home}
use Rattle.buffer_frames.proofs.HomesPut.{last_split, last_put}
use Rattle.buffer_frames.proofs.home.put_sheets.Goals as goal

pub loop-sheet-preserved : goal.loop-sheet-preserved
loop-sheet-preserved c =
    let old = c.args.homes.now.items in
    let mid = c.loop-sheet.homes.items in
    let all = c.args.sheets.items in
    let left = c.loop-sheet.sheets.items in
    let rest = c.pop.new.self.items in
    let x : Sheet = c.in-Some.sheet in
    let inv = c.loop-sheet.invariant in
    let last = c.in-Some.ensures.items in (
      x ∷ inv.0,
      last_split all left rest x inv.0 inv.1 last,
      subst (λ (hs : List Home). HasPut old hs (x ∷ inv.0)) (sym c.put_page.ensures)
          (last_put old mid all left rest x inv.0 inv.1 last inv.2 c.requires.there c.requires.once),
    )
