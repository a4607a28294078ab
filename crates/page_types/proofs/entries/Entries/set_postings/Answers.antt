use Rattle.std.proofs.Common.{◌<◌, length, refl, ap, arith}
use Rattle.page_types.specs.Inner.Joins.{joined, postings_with, entry_with}
use Rattle.page_types.specs.Parts.{postings_shown}
use Rattle.page_types.specs.Views.{list_in}
use Rattle.page_types.proofs.Joining.{length-joined, postings_set, within_list}
use Rattle.page_types.proofs.entries.Entries.set_postings.Goals as goal

pub set-requires : goal.set-requires
set-requires c = omega (
  arith,
  length-joined entry_with c.self.inside.keys (joined postings_with c.self.inside.roots.items c.self.inside.lists)
      (omega (
        arith,
        length-joined postings_with c.self.inside.roots.items c.self.inside.lists (omega (arith, c.self.invariant)),
        c.self.invariant,
      )),
  ap length c.self.view_is,
  c.requires,
  c.self.invariant,
)

pub index_mut-requires : goal.index_mut-requires
index_mut-requires c = omega (
  arith,
  length-joined entry_with c.self.inside.keys (joined postings_with c.self.inside.roots.items c.self.inside.lists)
      (omega (
        arith,
        length-joined postings_with c.self.inside.roots.items c.self.inside.lists (omega (arith, c.self.invariant)),
        c.self.invariant,
      )),
  ap length c.self.view_is,
  c.requires,
  c.self.invariant,
)

pub returns-in_err-set-clause-short : goal.returns-in_err-set-clause-short
returns-in_err-set-clause-short c = λ small.
    let lt : c.args.k < length c.self.inside.roots.items = omega (
      arith,
      length-joined entry_with c.self.inside.keys (joined postings_with c.self.inside.roots.items c.self.inside.lists)
          (omega (
            arith,
            length-joined postings_with c.self.inside.roots.items c.self.inside.lists (omega (arith, c.self.invariant)),
            c.self.invariant,
          )),
      ap length c.self.view_is,
      c.requires,
      c.self.invariant,
    ) in
    let small' = rw (← c.self.view_is) at small in
    let least = within_list c.self.inside.keys c.self.inside.roots.items c.self.inside.lists c.args.k
    (length (list_in (postings_shown c.args.postings))) c.self.invariant.0 c.self.invariant.1 lt small' in
    cc (c.in_err-set.ensures.short (rw c.parts_of-root.ensures.list least))

pub returns-clause-ok : goal.returns-clause-ok
returns-clause-ok c =
    postings_set c.self.inside.keys c.self.inside.roots.items _ c.self.inside.lists c.set.new.self c.args.k
    c.parts_of-root.result.0 c.parts_of-root.result.1.now (postings_shown c.args.postings) c.args.self.now
    c.self.invariant.0 c.self.invariant.1 refl c.in_ok-set.ensures.ok c.parts_of-root.ensures.whole c.self.view_is
