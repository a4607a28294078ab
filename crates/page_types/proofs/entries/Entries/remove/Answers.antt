use Rattle.std.proofs.Common.{◌≡◌, length, refl, ap, arith}
use Rattle.page_types.specs.Inner.Joins.{joined, postings_with, entry_with}
use Rattle.page_types.proofs.Joining.{length-joined, joined_removed}
use Rattle.page_types.proofs.entries.Entries.remove.Goals as goal

pub remove-requires : goal.remove-requires
remove-requires c = omega (
  arith,
  length-joined entry_with c.self.inside.keys (joined postings_with c.self.inside.roots.items c.self.inside.lists)
      (omega (
        arith,
        length-joined postings_with c.self.inside.roots.items c.self.inside.lists (omega (arith, c.self.invariant)),
        c.self.invariant,
      )),
  ap length c.self.view_is,
  c.requires,
  c.self.invariant,
)

pub remove-requires-2 : goal.remove-requires-2
remove-requires-2 c = omega (
  arith,
  length-joined entry_with c.self.inside.keys (joined postings_with c.self.inside.roots.items c.self.inside.lists)
      (omega (
        arith,
        length-joined postings_with c.self.inside.roots.items c.self.inside.lists (omega (arith, c.self.invariant)),
        c.self.invariant,
      )),
  ap length c.self.view_is,
  c.requires,
  c.self.invariant,
)

pub remove-requires-3 : goal.remove-requires-3
remove-requires-3 c = omega (
  arith,
  length-joined entry_with c.self.inside.keys (joined postings_with c.self.inside.roots.items c.self.inside.lists)
      (omega (
        arith,
        length-joined postings_with c.self.inside.roots.items c.self.inside.lists (omega (arith, c.self.invariant)),
        c.self.invariant,
      )),
  ap length c.self.view_is,
  c.requires,
  c.self.invariant,
)

pub returns : goal.returns
returns c =
    let sizes : length c.self.inside.roots.items ≡ length c.self.inside.lists = omega (arith, c.self.invariant.1) in
    let inner = joined_removed postings_with c.self.inside.roots.items c.remove-2.new.self.items c.self.inside.lists
    c.remove-3.new.self c.args.k (joined postings_with c.self.inside.roots.items c.self.inside.lists) sizes
    c.remove-2.ensures.items c.remove-3.ensures refl in
    let same : length c.self.inside.keys
    ≡ length (joined postings_with c.self.inside.roots.items c.self.inside.lists) = omega
    (arith, length-joined postings_with c.self.inside.roots.items c.self.inside.lists sizes, c.self.invariant.0) in
    joined_removed entry_with c.self.inside.keys c.remove.new.self (joined postings_with c.self.inside.roots.items
    c.self.inside.lists) (joined postings_with c.remove-2.new.self.items c.remove-3.new.self) c.args.k
    c.args.self.now same c.remove.ensures inner c.self.view_is
