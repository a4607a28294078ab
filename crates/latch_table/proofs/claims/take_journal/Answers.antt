use Rattle.std.proofs.Common.{rules, arith, ap, sym, ◌∙◌, ◌∷◌}
use Rattle.atomic_table.specs.Table.{rest}
use Rattle.latch_table.specs.declared.slots.Slot.TheVariants.{Journal}
use Rattle.latch_table.proofs.ClaimJournal.{claims_journal}
use Rattle.latch_table.proofs.claims.take_journal.Goals as goal

pub compare_exchange-requires : goal.compare_exchange-requires
compare_exchange-requires g c = (
  search rules,
  omega arith,
  claims_journal g.F.Framed g.J.Journaled _ _ _ _ _ (omega arith) (λ e. absurd (omega arith)),
)

pub exchange-slot-requires : goal.exchange-slot-requires
exchange-slot-requires g c =
    let took = c.compare_exchange.ensures.2.0 (search rules) in
    (search rules, (Journal took.0, took.2 ∙ ap (λ l. (c.args.word, Journal took.0) ∷ rest l) (sym took.2)))
