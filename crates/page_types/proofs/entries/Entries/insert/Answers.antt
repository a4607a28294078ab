use Rattle.std.proofs.Common.{◌≡◌, ◌≤◌, List, Option, ℕ, length, refl, sym, ap, ◌∙◌, arith}
use Rattle.std.specs.List.{insert, remove}
use Rattle.std.proofs.lemmas.List.Edits.{length-insert}
use Rattle.page_types.specs.Inner.Joins.{joined, postings_with, entry_with}
use Rattle.page_types.specs.Parts.{postings_shown, entry_shown}
use Rattle.page_types.proofs.Joining.{length-joined, joined_inserted, insert_removed}
use Rattle.page_types.proofs.entries.Entries.insert.Goals as goal

pub insert-requires : goal.insert-requires
insert-requires c = omega (
  arith,
  length-joined entry_with c.self.inside.keys (joined postings_with c.self.inside.roots.items c.self.inside.lists)
      (omega (
        arith,
        length-joined postings_with c.self.inside.roots.items c.self.inside.lists (omega (arith, c.self.invariant)),
        c.self.invariant,
      )),
  ap length c.self.view_is,
  c.requires,
  c.self.invariant,
)

pub insert-requires-2 : goal.insert-requires-2
insert-requires-2 c = omega (
  arith,
  length-joined entry_with c.self.inside.keys (joined postings_with c.self.inside.roots.items c.self.inside.lists)
      (omega (
        arith,
        length-joined postings_with c.self.inside.roots.items c.self.inside.lists (omega (arith, c.self.invariant)),
        c.self.invariant,
      )),
  ap length c.self.view_is,
  c.requires,
  c.self.invariant,
)

pub insert-requires-in-Ok : goal.insert-requires-in-Ok
insert-requires-in-Ok c = omega (
  arith,
  length-joined entry_with c.self.inside.keys (joined postings_with c.self.inside.roots.items c.self.inside.lists)
      (omega (
        arith,
        length-joined postings_with c.self.inside.roots.items c.self.inside.lists (omega (arith, c.self.invariant)),
        c.self.invariant,
      )),
  ap length c.self.view_is,
  c.requires,
  c.reserve.ensures.len,
  c.self.invariant,
)

pub remove-requires : goal.remove-requires
remove-requires c =
    let within : c.args.k ≤ length c.self.inside.keys = omega (
      arith,
      length-joined entry_with c.self.inside.keys (joined postings_with c.self.inside.roots.items c.self.inside.lists)
          (omega (
            arith,
            length-joined postings_with c.self.inside.roots.items c.self.inside.lists (omega (arith, c.self.invariant)),
            c.self.invariant,
          )),
      ap length c.self.view_is,
      c.requires,
      c.self.invariant,
    ) in
    omega (
      arith,
      ap length c.in_ok-insert.ensures.ok,
      length-insert c.self.inside.keys c.args.k c.args.entry.key.now within,
    )

pub invariant_of-self-in-Err : goal.invariant_of-self-in-Err
invariant_of-self-in-Err c =
    let within : c.args.k ≤ length c.self.inside.keys = omega (
      arith,
      length-joined entry_with c.self.inside.keys (joined postings_with c.self.inside.roots.items c.self.inside.lists)
          (omega (
            arith,
            length-joined postings_with c.self.inside.roots.items c.self.inside.lists (omega (arith, c.self.invariant)),
            c.self.invariant,
          )),
      ap length c.self.view_is,
      c.requires,
      c.self.invariant,
    ) in
    let back = c.remove.ensures ∙ ap (λ (l : List (List ℕ)). remove l c.args.k) c.in_ok-insert.ensures.ok
    ∙ insert_removed c.self.inside.keys c.args.k c.args.entry.key.now within in (
      ap length back ∙ c.self.invariant.0 ∙ sym (ap length c.reserve.ensures.items),
      ap length c.in-Err.ensures.err ∙ c.self.invariant.1 ∙ sym (ap length c.reserve.ensures.items),
    )

pub returns-in-Ok-clause-ok : goal.returns-in-Ok-clause-ok
returns-in-Ok-clause-ok c =
    let put = rw c.unwrap.ensures at c.insert-in-Ok.ensures.items in
    let sizes : length c.self.inside.roots.items ≡ length c.self.inside.lists = omega (arith, c.self.invariant.1) in
    let inner = joined_inserted postings_with c.self.inside.roots.items c.insert-in-Ok.new.self.items
    c.self.inside.lists c.insert-2.new.self c.args.k c.parts_of-root.result.0 c.parts_of-root.result.1.now
    (postings_shown c.args.entry.postings)
    (joined postings_with c.self.inside.roots.items c.self.inside.lists) sizes
    (put ∙ ap (λ (l : List (Option ℕ)). insert l c.args.k c.parts_of-root.result.0) c.reserve.ensures.items)
    c.in-Ok.ensures.ok c.parts_of-root.ensures.whole refl in
    let same : length c.self.inside.keys
    ≡ length (joined postings_with c.self.inside.roots.items c.self.inside.lists) = omega
    (arith, length-joined postings_with c.self.inside.roots.items c.self.inside.lists sizes, c.self.invariant.0) in
    joined_inserted entry_with c.self.inside.keys c.insert.new.self
    (joined postings_with c.self.inside.roots.items c.self.inside.lists)
    (joined postings_with c.insert-in-Ok.new.self.items c.insert-2.new.self) c.args.k c.args.entry.key.now
    (postings_shown c.args.entry.postings)
    (entry_shown c.args.entry) c.args.self.now same c.in_ok-insert.ensures.ok inner refl c.self.view_is

pub returns-in-Err-clause-err : goal.returns-in-Err-clause-err
returns-in-Err-clause-err c =
    let within : c.args.k ≤ length c.self.inside.keys = omega (
      arith,
      length-joined entry_with c.self.inside.keys (joined postings_with c.self.inside.roots.items c.self.inside.lists)
          (omega (
            arith,
            length-joined postings_with c.self.inside.roots.items c.self.inside.lists (omega (arith, c.self.invariant)),
            c.self.invariant,
          )),
      ap length c.self.view_is,
      c.requires,
      c.self.invariant,
    ) in
    let back = c.remove.ensures ∙ ap (λ (l : List (List ℕ)). remove l c.args.k) c.in_ok-insert.ensures.ok
    ∙ insert_removed c.self.inside.keys c.args.k c.args.entry.key.now within in
    ap (λ (l : List (List ℕ)). joined entry_with l (joined postings_with c.reserve.new.self.items c.insert-2.new.self))
    back
    ∙ ap (λ (l : List (Option ℕ)). joined entry_with c.self.inside.keys (joined postings_with l c.insert-2.new.self))
    c.reserve.ensures.items
    ∙ ap (λ (l : List (List ℕ)). joined entry_with c.self.inside.keys
    (joined postings_with c.self.inside.roots.items l)) c.in-Err.ensures.err ∙ c.self.view_is
