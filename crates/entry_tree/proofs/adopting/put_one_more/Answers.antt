use Rattle.std.proofs.Common.{◌≡◌, List, ap, ◌∙◌}
use Rattle.std.specs.Prelude.{slice_set}
use Rattle.std.specs.List.{insert}
use Rattle.page_types.specs.Parts.{child_shown}
use Rattle.page_types.specs.declared.page.EntryChild.{EntryChild}
use Rattle.entry_tree.specs.Adopting.{IsOneMore}
use Rattle.entry_tree.proofs.AddedPages.{ok_more}
use Rattle.entry_tree.proofs.AdoptedPages.{set_and_inserted}
use Rattle.entry_tree.proofs.adopting.put_one_more.Goals as goal

pub returns : goal.returns
returns c =
    let children = c.args.children.now in
    let k = c.args.k in
    let child : EntryChild = child_shown c.in-Some.old in
    let here : EntryChild = record { page = child.page; bound = c.args.mid.now } in
    let behind : EntryChild = record { page = c.args.new; bound = child.bound } in
    ok_more (λ done. c.insert.new.self ≡ insert c.set.new.self k here)
    (λ done. IsOneMore children k c.args.new c.args.mid.now c.insert.new.self) c.insert.result
    (λ done e. record {
      child = child;
      was = c.in-Some.ensures.some;
      after = e ∙ ap (λ (l : List EntryChild). insert l k here)
          (c.in_ok-set.ensures.ok ∙ ap (λ (l : List EntryChild). slice_set l k behind) c.requires.copy)
          ∙ set_and_inserted children k here behind c.requires.there;
    })
    c.insert.ensures.ok
