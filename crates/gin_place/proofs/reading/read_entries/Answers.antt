use Rattle.std.proofs.Common.{◌≡◌, subst, rules}
use Rattle.std.specs.Prelude.{false, IsTrue}
use Rattle.entry_tree.specs.Finding.{IsFound}
use Rattle.gin_place.specs.Inner.Reading.{IsReading, IsRoomy, IsFullLeaf}
use Rattle.gin_place.specs.declared.sought.Sought.TheVariants as sought
use Rattle.gin_place.proofs.Exits.{if_ok}
use Rattle.gin_place.proofs.ReadPages.{is_here, leaf_here, is_absent, leaf_absent, leaf_roomy, full_leaf}
use Rattle.gin_place.proofs.reading.read_entries.Goals as goal

pub returns-then-not-is_tree_page-clause-reading : goal.returns-then-not-is_tree_page-clause-reading
returns-then-not-is_tree_page-clause-reading g c =
    IsReading.other (λ b. let z : ⊥ = search (rules, c.is_tree_page.ensures.1 b) in z)

pub find-requires-clause-encoded : goal.find-requires-clause-encoded
find-requires-clause-encoded g c = c.requires.asked.page

pub find-requires-clause-entries : goal.find-requires-clause-entries
find-requires-clause-entries g c = c.is_tree_page.ensures.0 (search rules)

pub read_entry-requires-clause-here : goal.read_entry-requires-clause-here
read_entry-requires-clause-here g c = subst (IsFound c.args.page.now c.args.key.now) c.in-Here.is c.find.ensures

pub read_none-requires-clause-absent : goal.read_none-requires-clause-absent
read_none-requires-clause-absent g c =
    (c.in-Absent.place, subst (IsFound c.args.page.now c.args.key.now) c.in-Absent.is c.find.ensures)

pub returns-then-not-has_room-clause-reading : goal.returns-then-not-has_room-clause-reading
returns-then-not-has_room-clause-reading g c =
    IsReading.full_inner c.in-Down.child
    (subst (IsFound c.args.page.now c.args.key.now) c.in-Down.is c.find.ensures)
    (λ room. let z : ⊥ = search (rules, c.has_room.ensures.1 room) in z)

pub returns-else-making_room-clause-reading : goal.returns-else-making_room-clause-reading
returns-else-making_room-clause-reading g c =
    IsReading.down c.in-Down.child (c.is_tree_page.ensures.0 (search rules))
    (subst (IsFound c.args.page.now c.args.key.now) c.in-Down.is c.find.ensures)

pub returns-in-Right-clause-reading : goal.returns-in-Right-clause-reading
returns-in-Right-clause-reading g c =
    IsReading.past c.in-Right.page (subst (IsFound c.args.page.now c.args.key.now) c.in-Right.is c.find.ensures)

pub returns-in-Here-clause-room : goal.returns-in-Here-clause-room
returns-in-Here-clause-room g c =
    let found = subst (IsFound c.args.page.now c.args.key.now) c.in-Here.is c.find.ensures in
    let leaf = leaf_here c.args.page.now c.args.key.now c.requires.asked.page c.in-Here.place
    (is_here c.args.page.now c.args.key.now c.in-Here.place found) in
    if_ok c.read_entry.result (IsReading c.args.page.now c.args.key.now c.args.items.now)
    (λ r. IsTrue c.args.making_room → IsRoomy sought.Key c.args.page.now r)
    (λ r read making. leaf_roomy c.args.page.now c.args.key.now c.args.items.now leaf r read) c.read_entry.ensures

pub returns-in-Here-clause-leaf : goal.returns-in-Here-clause-leaf
returns-in-Here-clause-leaf g c =
    let found = subst (IsFound c.args.page.now c.args.key.now) c.in-Here.is c.find.ensures in
    let leaf = leaf_here c.args.page.now c.args.key.now c.requires.asked.page c.in-Here.place
    (is_here c.args.page.now c.args.key.now c.in-Here.place found) in
    if_ok c.read_entry.result (IsReading c.args.page.now c.args.key.now c.args.items.now)
    (λ r. c.args.making_room ≡ false → IsFullLeaf c.args.page.now r)
    (λ r read first. full_leaf c.args.page.now leaf r) c.read_entry.ensures

pub returns-in-Absent-clause-room : goal.returns-in-Absent-clause-room
returns-in-Absent-clause-room g c =
    let found = subst (IsFound c.args.page.now c.args.key.now) c.in-Absent.is c.find.ensures in
    let leaf = leaf_absent c.args.page.now c.args.key.now c.requires.asked.page
    (is_absent c.args.page.now c.args.key.now c.in-Absent.place found) in
    if_ok c.read_none.result (IsReading c.args.page.now c.args.key.now c.args.items.now)
    (λ r. IsTrue c.args.making_room → IsRoomy sought.Key c.args.page.now r)
    (λ r read making. leaf_roomy c.args.page.now c.args.key.now c.args.items.now leaf r read) c.read_none.ensures

pub returns-in-Absent-clause-leaf : goal.returns-in-Absent-clause-leaf
returns-in-Absent-clause-leaf g c =
    let found = subst (IsFound c.args.page.now c.args.key.now) c.in-Absent.is c.find.ensures in
    let leaf = leaf_absent c.args.page.now c.args.key.now c.requires.asked.page
    (is_absent c.args.page.now c.args.key.now c.in-Absent.place found) in
    if_ok c.read_none.result (IsReading c.args.page.now c.args.key.now c.args.items.now)
    (λ r. c.args.making_room ≡ false → IsFullLeaf c.args.page.now r)
    (λ r read first. full_leaf c.args.page.now leaf r) c.read_none.ensures

pub returns-then-not-has_room-clause-room : goal.returns-then-not-has_room-clause-room
returns-then-not-has_room-clause-room g c = λ making. tt
