-- A step is taken, or refused as its stage's part is.
use Rattle.std.proofs.Common.{refl, sym, subst}
use Rattle.std.proofs.lemmas.Bool.{false≢true}
use Rattle.std.proofs.lemmas.Result.{err_from_is_err_and}
use Rattle.gin_scan.specs.Causes.{CannotStep, IsLawfulRefusal}
use Rattle.gin_scan.proofs.ReadCalls.{still_reads, still_calm, held_calm, ok_cause, exit_cause}
use Rattle.gin_scan.proofs.StepsOf.{no_true}
use Rattle.gin_scan.proofs.scan_core.ScanCore.step.Goals as goal

pub go_on-requires : goal.go_on-requires
go_on-requires g c = record {
  may = record { scanning = c.requires.scanning; asks = c.requires.asks; walk = c.requires.walk };
  more = λ end. no_true c.is_done.result c.if-is_done.false (c.is_done.ensures.1 end);
  serves = c.requires.serves;
}

pub returns-then-is_done : goal.returns-then-is_done
returns-then-is_done g c =
    let f = c.args.frames.now in record {
      scanning = c.requires.scanning;
      asks = c.requires.asks;
      walk = c.requires.walk;
      serves = c.requires.serves;
      took = refl;
      counted = λ before k. k;
      reads = still_reads g.D.Disk f c.args.pass.now c.requires.scanning.is_pass c.requires.scanning.held;
      reached = λ r. r;
      end = (λ e. c.is_done.ensures.0 c.if-is_done.true, λ e. refl);
      stays = λ e. refl;
      lower = λ e. absurd (false≢true e);
      fault = ok_cause g.D.Disk f.journal f.journal _ _ refl (still_calm g.D.Disk f.journal);
      cause = tt;
      lawful = tt;
    }

pub returns-in_err-go_on : goal.returns-in_err-go_on
returns-in_err-go_on g c =
    let p = err_from_is_err_and c.from_residual.result c.from_residual.ensures.1 in
    let f = c.args.frames.now in
    let s = c.args.self.now in
    let i = c.in_err-go_on.ensures.is_step in
    rw p.1 (record {
      scanning = tt;
      asks = tt;
      walk = tt;
      serves = c.go_on.ensures.serves;
      took = i.took;
      counted = tt;
      reads = i.reads;
      reached = tt;
      end = tt;
      stays = tt;
      lower = tt;
      fault = exit_cause g.D.Disk _ _ _ _ c.in_err-go_on.field-0.0 p.0 refl refl p.2 i.fault;
      cause = subst (CannotStep f s s.stage) (sym p.2) i.cause;
      lawful = subst (IsLawfulRefusal g.D.Disk f) (sym p.2) i.lawful;
    })

pub returns : goal.returns
returns g c =
    let i = c.in_ok-go_on.ensures.is_step in
    let k = i.stepped in record {
      scanning = k.scanning;
      asks = k.asks;
      walk = k.walk;
      serves = c.go_on.ensures.serves;
      took = i.took;
      counted = k.counted;
      reads = i.reads;
      reached = k.reached;
      end = (
        λ e. absurd (false≢true (sym e)),
        λ e. absurd (no_true c.is_done.result c.if-is_done.false
            (c.is_done.ensures.1 e)),
      );
      stays = λ e. absurd (false≢true (sym e));
      lower = λ e. k.lower;
      fault = ok_cause g.D.Disk _ _ _ _ refl (held_calm g.D.Disk _ _ _ _ refl i.fault);
      cause = tt;
      lawful = tt;
    }
