use Rattle.std.proofs.Common.{refl, sym, ap, ◌∙◌}
use Rattle.page_types.specs.Parts.{head_shown}
use Rattle.doc_heap.specs.HeapPages.{head_on}
use Rattle.gin_vacuum.proofs.freeing.chain_of.Goals as goal

pub returns-clause-some : goal.returns-clause-some
returns-clause-some c = record {
  head = head_shown c.in_ok-head.head;
  at = ap (head_on c.args.page.now) (sym c.slot_in.ensures) ∙ sym c.in_ok-head.ensures;
  serial = refl;
  first = c.in_ok-chain.ensures.some c.in_ok-head.head.vector.now;
  some = c.in_ok-chain.ensures.not_none;
}
