use Rattle.engine.proofs.db.Db.insert.Goals as goal

pub returns : goal.returns
returns g c =
    let e = c.store_and_tidy.ensures in
    record {
      session = e.session;
      others = e.others;
      answered = e.answered;
      snapshot = e.snapshot;
      goes_on = e.goes_on;
      lawful = e.lawful;
    }
