-- The items of both sides are added.
use Rattle.std.proofs.Common.{◌∙◌, ◌++◌, ℕ, List, refl, ap, ap₂}
use Rattle.std.proofs.lemmas.Result.{on_ok_weaker}
use Rattle.gin_hits.proofs.JoinedLists.{all_items, some_items, joined_as, extended}
use Rattle.gin_hits.proofs.judged.add_possible.Goals as goal

pub returns-then-all : goal.returns-then-all
returns-then-all c =
    let old = c.args.items.now.items in
    let one = c.in_ok-extend_from_slice.ensures.items
    ∙ ap (λ (xs : List ℕ). old ++ xs) c.as_slice.ensures.value in
    on_ok_weaker c.extend_from_slice-then-all.result (λ e.
    let both = e ∙ ap₂ (λ (xs ys : List ℕ). xs ++ ys) one c.as_slice-then-all.ensures.value in
    λ i. all_items i old c.extend_from_slice-then-all.new.self.items c.args.pending.now c.args.main.now c.args.all
    c.if-all.true both)
    (extended c.extend_from_slice-then-all.result c.extend_from_slice.new.self.items c.as_slice-then-all.result.now
    c.extend_from_slice-then-all.new.self.items c.extend_from_slice-then-all.ensures.items)

pub returns : goal.returns
returns c =
    let p = c.args.pending.now in
    let m = c.args.main.now in
    let old = c.args.items.now.items in
    let mid = c.add_all.new.items.items in
    let new = c.add_all-2.new.items.items in
    on_ok_weaker c.add_all-2.result (λ e i.
    let one = joined_as i mid old old c.as_slice-2.result.now p.by_key.items refl c.as_slice-2.ensures.value
    (c.in_ok-add_all.ensures i) in
    let two = joined_as i new mid mid c.as_slice-3.result.now m.by_key.items refl c.as_slice-3.ensures.value (e i) in
    some_items i old mid new p m c.args.all c.if-all.false one two) c.add_all-2.ensures
