use Rattle.std.proofs.Common.{◌≡◌, ◌+◌, ◌-◌, ◌/◌, ◌∙◌, ℕ, List, [], get_or, sym, subst, arith}
use Rattle.std.proofs.lemmas.Option.{get_or_from_slice_get}
use Rattle.page_types.specs.Keys.{KeyLess}
use Rattle.page_types.specs.Parts.{pieces_shown}
use Rattle.gin_hits.proofs.Searching.{less_of, not_less, between_up, between_down}
use Rattle.gin_hits.proofs.fitting.below.Goals as goal

pub loop-low-preserved-then-is_lt : goal.loop-low-preserved-then-is_lt
loop-low-preserved-then-is_lt g c =
    let all = pieces_shown c.args.keys in
    let m = c.loop-low.low + (c.loop-low.high - c.loop-low.low) / 2 in
    let got : get_or all m [] ≡ c.at.result.now = get_or_from_slice_get all m c.at.result.now [] c.at.ensures in
    between_up c.args.key.now all c.loop-low.low c.loop-low.high m c.requires c.loop-low.invariant (omega arith)
    (subst (λ (k : List ℕ). KeyLess k c.args.key.now) (sym got)
    (sym c.compare.ensures ∙ less_of c.compare.result (sym c.is_lt.ensures ∙ c.if-is_lt.true)))

pub loop-low-preserved : goal.loop-low-preserved
loop-low-preserved g c =
    let all = pieces_shown c.args.keys in
    let m = c.loop-low.low + (c.loop-low.high - c.loop-low.low) / 2 in
    let got : get_or all m [] ≡ c.at.result.now = get_or_from_slice_get all m c.at.result.now [] c.at.ensures in
    between_down c.args.key.now all c.loop-low.low c.loop-low.high m c.requires c.loop-low.invariant (omega arith)
    (omega arith)
    (λ b. not_less c.compare.result (sym c.is_lt.ensures ∙ c.if-is_lt.false)
    (c.compare.ensures ∙ subst (λ (k : List ℕ). KeyLess k c.args.key.now) got b))
