use Rattle.gin_place.proofs.asks.NewPageAskOptionU32.ask.Goals as goal

pub returns-in-Ok : goal.returns-in-Ok
returns-in-Ok c = c.in-Ok.ensures.taken
