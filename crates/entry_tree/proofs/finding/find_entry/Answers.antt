use Rattle.std.proofs.Common.{refl, sym, ◌∙◌}
use Rattle.std.proofs.lemmas.Bool.{false≢true}
use Rattle.entry_tree.specs.Finding.{IsFoundIn}
use Rattle.entry_tree.proofs.KeyOrders.{rising_keys}
use Rattle.entry_tree.proofs.Reached.{found_here, found_absent}
use Rattle.entry_tree.proofs.finding.find_entry.Goals as goal

pub returns-then-is_below : goal.returns-then-is_below
returns-then-is_below g c =
    IsFoundIn.past_leaf c.args.high.now c.args.entries.now refl (c.is_below.ensures.0 c.if-is_below.true)

pub below-place-requires : goal.below-place-requires
below-place-requires g c = rising_keys c.args.entries.now c.requires

pub returns-then-has_key : goal.returns-then-has_key
returns-then-has_key g c =
    let has = c.has_key.ensures.0 c.if-has_key.true in
    found_here c.args.right c.args.high.now c.args.entries.now c.args.key.now c.below-place.result has.0 has.1 has.2
    (λ b. false≢true (sym c.if-is_below.false ∙ c.is_below.ensures.1 b))

pub returns-else-has_key : goal.returns-else-has_key
returns-else-has_key g c =
    found_absent c.args.right c.args.high.now c.args.entries.now c.args.key.now c.below-place.result c.requires
    c.below-place.ensures (λ has. false≢true (sym c.if-has_key.false ∙ c.has_key.ensures.1 has))
    (λ b. false≢true (sym c.if-is_below.false ∙ c.is_below.ensures.1 b))
