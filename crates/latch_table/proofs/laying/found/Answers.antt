use Rattle.std.proofs.Common.{rules, arith, length-append, ap, sym, subst}
use Rattle.std.proofs.Common.{◌∙◌, ◌≡◌, ◌+◌, ◌++◌, ◌∷◌, [], List, ℕ, map, length}
use Rattle.std.proofs.lemmas.List.{length-map}
use lib.ListN.{replicate}
use Rattle.atomic_table.specs.Table.{opening}
use Rattle.latch_table.specs.declared.slots.Slot.{Slot}
use Rattle.latch_table.specs.declared.slots.Slot.TheVariants.{Frame, Journal, Away}
use Rattle.latch_table.specs.PassStates.{first_state}
use Rattle.latch_table.specs.Laying.{CanLie}
use Rattle.latch_table.specs.Rule.{Kept}
use Rattle.latch_table.proofs.Starts.{starts}
use Rattle.latch_table.proofs.laying.found.Goals as goal

pub new-requires : goal.new-requires
new-requires g c =
    let key = c.of-start.result in
    let about : key.value ≡ c.args.journal = c.of-start.ensures in
    let words : c.as_slice.result.now ≡ replicate (length c.args.frames.items + 2) 0 = search rules in
    let slots : c.in_ok-slots.slots.items ≡ map Frame c.args.frames.items ++ Journal c.args.journal ∷ Away ∷ [] =
    search rules in
    let is : c.in_ok-slots.slots.items ≡ map Frame c.args.frames.items ++ Journal key.value ∷ Away ∷ []
    = slots ∙ ap (λ b. map Frame c.args.frames.items ++ Journal b ∷ Away ∷ []) (sym about) in
    subst (λ (p : List ℕ × List (Slot g.row.F.Denot g.row.J.Denot)). Kept g.F.Framed g.J.Journaled key.value
    (opening p.0 p.1 (first_state key)))
    (λ i. (sym words i, sym is i))
    (starts g.F.Framed g.J.Journaled c.args.frames.items key
    (subst (CanLie g.F.Framed g.J.Journaled c.args.frames.items) (sym about) c.requires.lie))

pub returns-in-Ok-new-clause-table : goal.returns-in-Ok-new-clause-table
returns-in-Ok-new-clause-table g c =
    let made = c.in-Ok-new.ensures.ok in
    let ok = c.args.frames.ok.0 in
    let count = c.len.ensures in
    let words = c.in-Ok.ensures.len in
    let slice = c.as_slice.ensures.len in
    let wide : length c.as_slice.result.now ≡ length c.args.frames.items + 2 = omega arith in
    let deep : length c.in_ok-slots.slots.items ≡ length c.args.frames.items + 2
    = ap length c.in_ok-slots.ensures.ok
    ∙ length-append (map Frame c.args.frames.items) (Journal c.args.journal ∷ Away ∷ [])
    ∙ ap (λ n. n + 2) (length-map c.args.frames.items Frame) in
    (made.2, made.0 ∙ wide ∙ sym deep ∙ sym made.1, made.1 ∙ deep)

pub returns-in-Ok-new-clause-first : goal.returns-in-Ok-new-clause-first
returns-in-Ok-new-clause-first g c =
    let made = c.in-Ok-new.ensures.ok in (c.of-start.result, c.of-start.ensures, made.4)

pub journal_of-requires : goal.journal_of-requires
journal_of-requires g c =
    (c.args.frames.items, c.args.journal, c.in-Err.ensures.err ∙ c.in_ok-slots.ensures.ok)

pub returns-clause-refused : goal.returns-clause-refused
returns-clause-refused g c =
    c.journal_of.ensures c.args.frames.items c.args.journal (c.in-Err.ensures.err ∙ c.in_ok-slots.ensures.ok)
