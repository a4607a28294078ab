use Rattle.std.proofs.Common.{◌≡◌, ◌∷◌, List, sym, ap, subst, ◌∙◌, inl, inr}
use Rattle.std.specs.Prelude.{set}
use Rattle.page_types.specs.Pages.{IsPage}
use Rattle.core_state.specs.Allowed.{Sheet}
use Rattle.buffer_frames.specs.Homes.{HasPut}
use Rattle.buffer_frames.specs.declared.home.Home.{Home}
use Rattle.buffer_frames.specs.declared.home.Home.TheVariants.{Content}
use Rattle.buffer_frames.proofs.HomesPut.{last_split, last_put, put_pages}
use Rattle.buffer_frames.proofs.home.put_held.Goals as goal

pub loop-one-preserved : goal.loop-one-preserved
loop-one-preserved c =
    let old = c.args.homes.now.items in
    let mid = c.loop-one.homes.items in
    let all = c.args.held.items in
    let left = c.loop-one.held.items in
    let rest = c.pop.new.self.items in
    let x : Sheet = c.in-Some.one in
    let inv = c.loop-one.invariant in
    let last = c.in-Some.ensures.items in
    let is : c.put_page.new.homes.items ≡ set mid x.page (Content x.content) =
    c.put_page.ensures ∙ ap (λ (y : Sheet). set mid y.page (Content y.content)) c.into_sheet.ensures.value in (
      x ∷ inv.0,
      last_split all left rest x inv.0 inv.1 last,
      subst (λ (hs : List Home). HasPut old hs (x ∷ inv.0)) (sym is)
          (last_put old mid all left rest x inv.0 inv.1 last inv.2 c.requires.there c.requires.once),
      λ y i. elim i [
        | inl e ↦ subst (λ (z : Sheet). IsPage z.content) (sym e) c.into_sheet.ensures.is_page
        | inr j ↦ inv.3 y j
      ],
    )

pub returns-clause-pages : goal.returns-clause-pages
returns-clause-pages c have =
    let inv = c.loop-one.invariant in
    put_pages c.args.homes.now.items c.loop-one.homes.items inv.0 inv.2 inv.3 have
