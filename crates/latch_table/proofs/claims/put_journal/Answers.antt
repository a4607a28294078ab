use Rattle.std.proofs.Common.{rules, arith, ap, sym, subst, ◌∙◌, ◌≢◌}
use Rattle.latch_table.specs.declared.states.PassState.{PassState}
use Rattle.latch_table.specs.Giving.{HasGivenJournal, CanGive}
use Rattle.latch_table.proofs.GiveJournal.{gives_journal}
use Rattle.latch_table.proofs.claims.put_journal.Goals as goal

pub store-requires : goal.store-requires
store-requires g c =
    let e = c.exchange-away.ensures.3 in
    let state = ap (λ m. m.0) e in
    let out = ap (λ m. m.1) e in
    let xs = c.requires.front.0 in (
      search rules,
      omega arith,
      gives_journal g.F.Framed g.J.Journaled _ g.C.Changes.change _ _ _ _ c.args.journal _ (omega arith)
          (subst (λ (v : PassState g.row.J.Denot). v.room ≢ 0) (sym state) (λ z. absurd (omega arith)))
          (ap (λ (v : PassState g.row.J.Denot). v.fresh) state ∙ c.requires.seen)
          (c.requires.start.0, ap (λ (v : PassState g.row.J.Denot). v.start) state ∙ c.requires.start.1) out
          (subst (λ (v : PassState g.row.J.Denot). CanGive g.J.Journaled c.args.word v c.args.journal
          (g.C.Changes.change v c.args.journal)) (sym state) c.requires.can),
    )

pub returns-clause-given : goal.returns-clause-given
returns-clause-given g c b is =
    let e = c.exchange-away.ensures.3 in
    let t = c.store.ensures.2 b c.args.journal _ (ap (λ m. m.0.journal) e ∙ is) (ap (λ m. m.1) e) in
    subst (λ (v : PassState g.row.J.Denot). HasGivenJournal g.J.Journaled b c.args.journal
    (g.C.Changes.change v c.args.journal) v c.store.new.seat.me.0)
    (ap (λ m. m.0) e) t.0

pub returns-clause-rest : goal.returns-clause-rest
returns-clause-rest g c =
    let e = c.exchange-away.ensures.3 in
    (c.store.ensures.2 c.requires.can.0 c.args.journal _ (ap (λ m. m.0.journal) e ∙ c.requires.can.1)
    (ap (λ m. m.1) e)).1
