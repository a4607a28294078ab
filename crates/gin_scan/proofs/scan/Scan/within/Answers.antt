-- No memory for the keys, or for the work: no call was made yet. Else the scan has begun for any query.
use Rattle.std.proofs.Common.{refl, sym, subst, ◌∙◌}
use Rattle.std.proofs.lemmas.Result.{err_from_is_err_and}
use Rattle.gin_scan.specs.Causes.{CannotBegin}
use Rattle.gin_scan.proofs.ListCalls.{still_begins}
use Rattle.gin_scan.proofs.scan.Scan.within.Goals as goal

pub returns-in_err-keys : goal.returns-in_err-keys
returns-in_err-keys g c =
    let p = err_from_is_err_and c.from_residual.result c.from_residual.ensures.1 in
    rw p.1 (record {
      scanning = tt;
      query = tt;
      walk = tt;
      reached = tt;
      took = tt;
      pin = refl;
      pins = refl;
      counted = tt;
      reads = still_begins g.D.Disk c.args.frames.now c.args.pass.now c.requires.pass c.requires.held;
      cause = subst (CannotBegin c.args.frames.now) (sym p.2) tt;
    })

pub returns-in_err-work : goal.returns-in_err-work
returns-in_err-work g c =
    let p = err_from_is_err_and c.from_residual-in_err-work.result c.from_residual-in_err-work.ensures.1 in
    rw p.1 (record {
      scanning = tt;
      query = tt;
      walk = tt;
      reached = tt;
      took = tt;
      pin = refl;
      pins = refl;
      counted = tt;
      reads = still_begins g.D.Disk c.args.frames.now c.args.pass.now c.requires.pass c.requires.held;
      cause = subst (CannotBegin c.args.frames.now) (sym p.2) tt;
    })

pub returns-in-Err : goal.returns-in-Err
returns-in-Err g c =
    let e = c.in-Err.ensures in
    record {
      scanning = tt;
      query = tt;
      walk = tt;
      reached = tt;
      took = tt;
      pin = c.within.ensures.pin;
      pins = c.within.ensures.pins;
      counted = tt;
      reads = c.within.ensures.reads;
      cause = e.cause;
    }

pub returns-in-Ok : goal.returns-in-Ok
returns-in-Ok g c =
    let q = c.args.query.now in
    let e = c.in-Ok.ensures in record {
      scanning = e.scanning;
      query = record {
        query = refl;
        asks = record {
          asked = e.asks.0 ∙ c.in_ok-keys.ensures.keys;
          all = e.asks.1 ∙ c.in_ok-keys.ensures.all;
        };
        work = c.in_ok-work.ensures;
      };
      walk = e.walk q;
      reached = e.reached q;
      took = e.took;
      pin = c.within.ensures.pin;
      pins = c.within.ensures.pins;
      counted = e.counted;
      reads = c.within.ensures.reads;
      cause = tt;
    }
