use Rattle.std.proofs.Common.{arith, ap, ◌∙◌, ◌≡◌, ◌+◌, ◌++◌, ◌∷◌, [], List, length, map, length-append, append_assoc}
use Rattle.std.proofs.lemmas.List.{length-map}
use Rattle.latch_table.specs.declared.slots.Slot.{Slot}
use Rattle.latch_table.specs.declared.slots.Slot.TheVariants.{Frame, Journal, Away}
use Rattle.latch_table.proofs.laying.fill.Goals as goal

-- one item more
longer : {A : Type 0} (xs ys : List A) (x : A) → ys ≡ xs ++ x ∷ [] → length ys ≡ length xs + 1
longer xs ys x e = ap length e ∙ length-append xs (x ∷ [])

pub push_last-requires : goal.push_last-requires
push_last-requires g c =
    let items = ap length c.push_frames.ensures.items ∙ length-map c.args.frames.items _ in
    let room = c.in-Ok.ensures.capacity in
    let more = c.push_frames.ensures.capacity in
    let long = c.len.ensures in
    let ok = c.args.frames.ok.0 in omega arith

pub push_last-requires-2 : goal.push_last-requires-2
push_last-requires-2 g c =
    let items = ap length c.push_frames.ensures.items ∙ length-map c.args.frames.items _ in
    let one = longer _ _ _ c.push_last.ensures.items in
    let room = c.in-Ok.ensures.capacity in
    let more = c.push_frames.ensures.capacity in
    let then = c.push_last.ensures.capacity in
    let long = c.len.ensures in
    let ok = c.args.frames.ok.0 in omega arith

pub returns-clause-ok : goal.returns-clause-ok
returns-clause-ok g c =
    let T : Type 0 = Slot g.row.F.Denot g.row.J.Denot in
    c.push_last-2.ensures.items ∙ ap (λ (l : List T). l ++ Away ∷ []) c.push_last.ensures.items
    ∙ ap (λ (l : List T). (l ++ Journal c.args.journal ∷ []) ++ Away ∷ []) c.push_frames.ensures.items
    ∙ append_assoc (map Frame c.args.frames.items) (Journal c.args.journal ∷ []) (Away ∷ [])
