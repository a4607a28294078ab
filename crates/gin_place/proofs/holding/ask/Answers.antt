use Rattle.std.proofs.Common.{◌≡◌, ℕ, subst}
use Rattle.std.specs.Prelude.{Some}
use Rattle.std.proofs.lemmas.Result.{err_from_is_err_and}
use Rattle.core_state.specs.States.{StateTells}
use Rattle.core_maintenance.proofs.Found.{right_keeps_found}
use Rattle.snap_pins.specs.Taken.{IsLeast}
use Rattle.snap_pins.specs.declared.Pin.{Pin}
use Rattle.wal.specs.Waiting.{down_of}
use Rattle.buffer_frames.specs.Passes.{Seen}
use Rattle.gin_place.specs.Causes.{HasLatestSince}
use Rattle.gin_place.specs.Inner.Refusals.{frame_refusal}
use Rattle.gin_place.specs.declared.error.PlaceError.TheVariants.{Down}
use Rattle.gin_place.proofs.Running.{calm_goes}
use Rattle.gin_place.proofs.Carrying.{reads_by, no_more}
use Rattle.gin_place.proofs.Causing.{at_exit, look_down}
use Rattle.gin_place.proofs.Exits.{no_ok, none_ok}
use Rattle.gin_place.proofs.holding.ask.Goals as goal

pub look-requires : goal.look-requires
look-requires g c = record { pass = c.requires.pass }

pub returns-in_err-look : goal.returns-in_err-look
returns-in_err-look g c =
    let r = c.from_residual.result in
    let p = err_from_is_err_and r c.from_residual.ensures.1 in
    let w = c.in_err-look.field-0.0 in
    let e = c.look.ensures in
    let f = c.args.frames.now in
    let last = c.look.new.self in
    let pass = c.look.new.pass in
    record {
      reads = reads_by g.D.Disk right_keeps_found f last c.args.pass.now pass c.requires.pass c.requires.right e.added
          e.sees_on e.rises e.pass e.keeps.pin e.keeps.room e.keeps.xid e.keeps.work e.pins
          (calm_goes g.D.Disk e.calm e.state e.added e.runs_on e.begins);
      no_more = no_more g.D.Disk f last c.args.pass.now pass e.holding e.keeps.held;
      answers = none_ok r p.0 (λ t.
          g.A.Ask.answers c.args.question.now last.journal.state pass.floor pass.since t) p.1;
      all = no_ok r p.0 (pass.seen ≡ last.journal.state.records) p.1;
      told = no_ok r p.0 (Seen g.D.Disk last pass (λ S P. StateTells S last.journal.state)) p.1;
      since = no_ok r p.0 (HasLatestSince last pass) p.1;
      calm = e.calm;
      down = at_exit (λ x. (n : ℕ) × (x ≡ Down n) × (down_of f.journal.wal ≡ Some n)) r p.0 (frame_refusal w) p.1 p.2
          (look_down g.D.Disk f c.look.result w c.in_err-look.was e.is_down c.in_err-look.ensures.error);
    }

pub returns : goal.returns
returns g c =
    let e = c.look.ensures in
    let o = c.in_ok-look.ensures in
    let f = c.args.frames.now in
    let last = c.look.new.self in
    let pass = c.look.new.pass in
    record {
      reads = reads_by g.D.Disk right_keeps_found f last c.args.pass.now pass c.requires.pass c.requires.right e.added
          e.sees_on e.rises e.pass e.keeps.pin e.keeps.room e.keeps.xid e.keeps.work e.pins
          (calm_goes g.D.Disk e.calm e.state e.added e.runs_on e.begins);
      no_more = no_more g.D.Disk f last c.args.pass.now pass e.holding e.keeps.held;
      answers = o.answers;
      all = o.all;
      told = o.seen;
      since = subst (λ (n : ℕ). IsLeast last.pins (λ (x : Pin). x.length) n pass.since) o.all o.since;
      calm = e.calm;
      down = tt;
    }
