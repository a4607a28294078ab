use Rattle.std.proofs.Common.{◌≡◌, ℕ, sym, subst, rules}
use Rattle.std.specs.Prelude.{false, IsTrue}
use Rattle.posting_tree.specs.Finding.{IsFound}
use Rattle.posting_tree.specs.Reading.{IsPostBody}
use Rattle.gin_place.specs.Inner.Reading.{IsRoomy}
use Rattle.gin_place.specs.Inner.ReadingItems.{IsReadingOf, IsFullPostLeaf}
use Rattle.gin_place.specs.declared.sought.Sought.TheVariants as sought
use Rattle.gin_place.proofs.Exits.{if_ok}
use Rattle.gin_place.proofs.PostPages.{is_post_leaf, leaf_roomy_post, full_post_leaf, right_or_down, no_body}
use Rattle.gin_place.proofs.postings.read_postings.Goals as goal

pub read_leaf-requires-clause-leaf : goal.read_leaf-requires-clause-leaf
read_leaf-requires-clause-leaf c = is_post_leaf c.args.page.now c.in-PostLeaf.high c.in-PostLeaf.items c.in-PostLeaf.is

pub find-requires-clause-postings : goal.find-requires-clause-postings
find-requires-clause-postings c = subst IsPostBody (sym c.in-PostInner.is) (IsPostBody.inner c.in-PostInner.field-0)

pub returns-in-PostLeaf-clause-room : goal.returns-in-PostLeaf-clause-room
returns-in-PostLeaf-clause-room c =
    let leaf = is_post_leaf c.args.page.now c.in-PostLeaf.high c.in-PostLeaf.items c.in-PostLeaf.is in
    if_ok c.read_leaf.result (IsReadingOf c.args.page.now c.args.items.now)
    (λ r. IsTrue c.args.making_room → (root : ℕ) → IsRoomy (sought.Item root c.args.item) c.args.page.now r)
    (λ r read making root. leaf_roomy_post c.args.page.now c.args.items.now root c.args.item leaf r read)
    c.read_leaf.ensures

pub returns-in-PostLeaf-clause-leaf : goal.returns-in-PostLeaf-clause-leaf
returns-in-PostLeaf-clause-leaf c =
    let leaf = is_post_leaf c.args.page.now c.in-PostLeaf.high c.in-PostLeaf.items c.in-PostLeaf.is in
    if_ok c.read_leaf.result (IsReadingOf c.args.page.now c.args.items.now)
    (λ r. c.args.making_room ≡ false → IsFullPostLeaf c.args.page.now r)
    (λ r read first. full_post_leaf c.args.page.now leaf r) c.read_leaf.ensures

pub returns-in-Down-clause-reading : goal.returns-in-Down-clause-reading
returns-in-Down-clause-reading c =
    IsReadingOf.full_inner c.args.item c.in-Down.child c.requires.first.0 c.requires.first.1
    (subst (IsFound c.args.page.now c.args.item) c.in-Down.is c.find.ensures)
    (λ room. let z : ⊥ = search (rules, c.has_room.ensures.1 room) in z)

pub returns-in-Down-2-clause-reading : goal.returns-in-Down-2-clause-reading
returns-in-Down-2-clause-reading c =
    IsReadingOf.down c.args.item c.in-Down.child c.requires.first.0 c.requires.first.1
    (subst (IsFound c.args.page.now c.args.item) c.in-Down.is c.find.ensures)

pub returns-in_default-find : goal.returns-in_default-find
returns-in_default-find c = record {
  reading =
      let q = right_or_down c.args.page.now c.args.item c.find.result c.in-PostInner.field-0 c.in-PostInner.is
      c.in_default-find.not-Down
      c.find.ensures in
      IsReadingOf.past c.args.item q.0 c.requires.first.0 c.requires.first.1 q.1;
  room = λ making root. tt;
  leaf = λ first. tt;
}

pub returns-in_default : goal.returns-in_default
returns-in_default c = record {
  reading = IsReadingOf.other
      (no_body c.args.page.now.body c.in_default.not-PostLeaf c.in_default.not-PostInner);
  room = λ making root. tt;
  leaf = λ first. tt;
}
