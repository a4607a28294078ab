use Rattle.std.proofs.Common.{◌≡◌, ℕ, List, drop, sym, subst, ◌∙◌}
use Rattle.std.specs.Prelude.{IfOk, IsTrue, false}
use Rattle.std.proofs.lemmas.List.{take_rest}
use Rattle.page_types.specs.Items.{AreItems}
use Rattle.gin_place.specs.Placing.{IsNext}
use Rattle.gin_place.specs.Inner.Reading.{IsReading, IsRoomy}
use Rattle.gin_place.specs.Inner.ReadingItems.{IsReadingOf, IsReadingIn, IsFullLeafIn}
use Rattle.gin_place.specs.declared.sought.Sought.{Sought}
use Rattle.gin_place.proofs.Lists.{items_on}
use Rattle.gin_place.proofs.placing.Placing.read_next.Goals as goal

pub read_entries-requires : goal.read_entries-requires
read_entries-requires g c = record {
  asked = record {
    page = c.requires.page;
    key = c.requires.key;
    items = subst AreItems (sym (take_rest c.args.items.now c.args.self.now.from))
        (items_on c.args.self.now.from c.args.items.now c.requires.items);
  };
}

pub returns-in-Key : goal.returns-in-Key
returns-in-Key g c =
    let r = c.read_entries.result in
    let e = c.read_entries.ensures in
    let page = c.args.page.now in
    let from = c.args.self.now.from in
    let items = c.args.items.now in
    let making = c.args.self.now.making_room in
    record {
      reading = subst (λ (t : Sought). IfOk r (λ x. IsReadingIn t page c.args.key.now (drop from items) x))
          (sym c.in-Key.is)
          (subst (λ (xs : List ℕ). IfOk r (λ x. IsReading page c.args.key.now xs x)) (take_rest items from) e.reading);
      room = subst (λ (t : Sought). IfOk r (λ x. IsTrue making → IsRoomy t page x)) (sym c.in-Key.is) e.room;
      leaf = subst (λ (t : Sought). IfOk r (λ x. making ≡ false → IsFullLeafIn t page x)) (sym c.in-Key.is) e.leaf;
    }

pub read_postings-requires : goal.read_postings-requires
read_postings-requires g c =
    let next = subst (IsNext c.args.items.now c.args.self.now.from) c.in-Item.is c.requires.next in
    record {
      page = c.requires.page;
      items = subst AreItems (sym (take_rest c.args.items.now c.args.self.now.from))
          (items_on c.args.self.now.from c.args.items.now c.requires.items);
      first = (next.0, take_rest c.args.items.now c.args.self.now.from ∙ next.1);
    }

pub returns-in-Item-clause-reading : goal.returns-in-Item-clause-reading
returns-in-Item-clause-reading g c =
    let r = c.read_postings.result in
    let from = c.args.self.now.from in
    let items = c.args.items.now in
    subst (λ (t : Sought). IfOk r (λ x. IsReadingIn t c.args.page.now c.args.key.now (drop from items) x))
    (sym c.in-Item.is)
    (subst (λ (xs : List ℕ). IfOk r (λ x. IsReadingOf c.args.page.now xs x)) (take_rest items from)
    c.read_postings.ensures.reading)

pub returns-in-Item-clause-leaf : goal.returns-in-Item-clause-leaf
returns-in-Item-clause-leaf g c =
    subst (λ (t : Sought). IfOk c.read_postings.result (λ x.
    c.args.self.now.making_room ≡ false → IsFullLeafIn t c.args.page.now x)) (sym c.in-Item.is)
    c.read_postings.ensures.leaf
