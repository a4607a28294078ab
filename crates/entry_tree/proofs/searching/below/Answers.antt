use Rattle.std.proofs.Common.{◌≡◌, ◌+◌, ◌-◌, ◌/◌, ℕ, List, [], get_or, sym, subst, ◌∙◌, arith}
use Rattle.std.proofs.lemmas.Bool.{false≢true}
use Rattle.std.proofs.lemmas.Option.{get_or_from_slice_get}
use Rattle.entry_tree.specs.Finding.{IsBelow}
use Rattle.entry_tree.specs.Inner.Searching.{marks_shown}
use Rattle.entry_tree.proofs.SearchSteps.{between_up, between_down}
use Rattle.entry_tree.proofs.searching.below.Goals as goal

pub loop-low-preserved-then-is_below : goal.loop-low-preserved-then-is_below
loop-low-preserved-then-is_below g c =
    let all = marks_shown c.args.marks in
    let m = c.loop-low.low + (c.loop-low.high - c.loop-low.low) / 2 in
    let got : get_or all m [] ≡ c.mark_at.result.now =
    get_or_from_slice_get all m c.mark_at.result.now [] c.mark_at.ensures in
    between_up c.args.key.now all c.loop-low.low c.loop-low.high m c.requires c.loop-low.invariant (omega arith)
    (subst (λ (k : List ℕ). IsBelow k c.args.key.now) (sym got) (c.is_below.ensures.0 c.if-is_below.true))

pub loop-low-preserved : goal.loop-low-preserved
loop-low-preserved g c =
    let all = marks_shown c.args.marks in
    let m = c.loop-low.low + (c.loop-low.high - c.loop-low.low) / 2 in
    let got : get_or all m [] ≡ c.mark_at.result.now =
    get_or_from_slice_get all m c.mark_at.result.now [] c.mark_at.ensures in
    between_down c.args.key.now all c.loop-low.low c.loop-low.high m c.requires c.loop-low.invariant (omega arith)
    (omega arith)
    (λ b. false≢true (sym c.if-is_below.false
    ∙ c.is_below.ensures.1 (subst (λ (k : List ℕ). IsBelow k c.args.key.now) got b)))
