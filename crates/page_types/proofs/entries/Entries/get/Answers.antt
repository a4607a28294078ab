use Rattle.std.proofs.Common.{◌<◌, length, Option, Some, refl, ap, sym, ◌∙◌, arith}
use Rattle.std.specs.List.{slice_get}
use Rattle.std.proofs.lemmas.Option.{slice_get_read}
use Rattle.page_types.specs.declared.page.Entry.{Entry}
use Rattle.page_types.specs.declared.page.Postings.{Postings}
use Rattle.page_types.specs.Inner.Joins.{joined, postings_with, entry_with}
use Rattle.page_types.specs.Parts.{postings_shown}
use Rattle.page_types.proofs.Joining.{length-joined, joined-get}
use Rattle.page_types.proofs.entries.Entries.get.Goals as goal
use Rattle.page_types.proofs.entries.Entries.get.Goals.{in-None, in-Some}

pub returns-then-k-len-clause-none : goal.returns-then-k-len-clause-none
returns-then-k-len-clause-none c =
    let inner =
    length-joined postings_with c.self.inside.roots.items c.self.inside.lists (omega (arith, c.self.invariant.1)) in
    omega (
      arith,
      length-joined entry_with c.self.inside.keys (joined postings_with c.self.inside.roots.items c.self.inside.lists)
          (omega (arith, inner, c.self.invariant.0)),
      inner,
      c.self.invariant.0,
      ap length c.self.view_is,
      c.len.ensures,
    )

pub returns-clause-some : goal.returns-clause-some
returns-clause-some c =
    let lt : c.args.k < length c.self.inside.roots.items = omega (arith, c.len.ensures) in
    let root = slice_get_read c.self.inside.roots.items
    (length c.self.inside.roots.items) c.args.k c.index.result.now refl lt c.index.ensures in
    let inner = joined-get postings_with c.self.inside.roots.items c.self.inside.lists c.args.k c.index.result.now
    c.at-items.result.now root c.at-items.ensures in
    let outer =
    joined-get entry_with c.self.inside.keys (joined postings_with c.self.inside.roots.items c.self.inside.lists)
    c.args.k c.at-key.result.now (postings_with c.index.result.now c.at-items.result.now) c.at-key.ensures inner in
    let P : Postings → Option Entry = λ p. Some (entry_with c.at-key.result.now p) in
    ap (λ s. slice_get s c.args.k) (sym c.self.view_is) ∙ outer ∙ ap P (elim c.match-index.branch [
      | in-None w ↦ ap (λ r. postings_with r c.at-items.result.now) w.in-None.is ∙ ap postings_shown (sym w.postings-is)
      | in-Some w ↦ ap (λ r. postings_with r c.at-items.result.now) w.in-Some.is ∙ ap postings_shown (sym w.postings-is)
    ])
