-- Pages go further, or what comes after the chain is read.
use Rattle.std.proofs.Common.{◌<◌, refl, ap, subst, sym, arith}
use Rattle.std.proofs.lemmas.Result.{err_from_is_err_and}
use Rattle.gin_opclass.specs.Class.{meaning}
use Rattle.gin_scan.specs.Causes.{IsLawfulRefusal}
use Rattle.gin_scan.specs.declared.scan_core.ScanCore.{ScanCore}
use Rattle.gin_scan.proofs.ChainsEnd.{further_cause, chain_further, chain_ended}
use Rattle.gin_scan.proofs.ListCalls.{look_reads, may_still}
use Rattle.gin_scan.proofs.ReadCalls.{still_reads}
use Rattle.gin_scan.proofs.Reached.{stepped_before}
use Rattle.gin_scan.proofs.Refused.{down_calm}
use Rattle.gin_scan.proofs.StepsOf.{goes, fails}
use Rattle.gin_scan.proofs.scan_core.ScanCore.go_further.Goals as goal

pub returns-in_err-extent : goal.returns-in_err-extent
returns-in_err-extent g c =
    let p = err_from_is_err_and c.from_residual.result c.from_residual.ensures.1 in
    let f = c.args.frames.now in
    let s = c.args.self.now in
    let x = c.in_err-extent.field-0.0 in
    let d = c.in_err-extent.ensures.error in
    let l = c.look_on.ensures.looks in record {
      is_step = fails g.D.Disk _ c.args.query.now f c.args.pass.now s c.look_on.new.frames c.look_on.new.pass s
          c.from_residual.result x p.0 p.1 p.2 (down_calm x d.0 d.1) refl
          (look_reads g.D.Disk f c.look_on.new.frames c.args.pass.now c.look_on.new.pass c.requires.may.scanning.held l)
          l.calm (further_cause f s c.args.after x d.0 c.requires.ends d.1 d.2)
          (subst (IsLawfulRefusal g.D.Disk f) (sym d.1) tt);
    }

pub returns-then-extent-self : goal.returns-then-extent-self
returns-then-extent-self g c =
    let l = c.look_on.ensures.looks in
    let f = c.args.frames.now in
    let s = c.args.self.now in
    let may = c.requires.may in
    let new : ScanCore = c.raise_extent.new.self in
    let same = c.raise_extent.ensures.raised in
    let less : s.extent < c.in_ok-extent.extent = omega (arith, c.if-extent-self.true) in
    let reads = look_reads g.D.Disk f c.look_on.new.frames c.args.pass.now c.look_on.new.pass may.scanning.held l in
    record {
      is_step = goes g.D.Disk _ c.args.query.now f c.args.pass.now s c.look_on.new.frames c.look_on.new.pass new _
          (ap (λ (z : ScanCore). z.took_pin) same)
          (chain_further g.D.Disk _ c.args.query.now f c.look_on.new.frames c.args.pass.now c.look_on.new.pass s new may
          reads l.holds l.lying c.args.after c.in_ok-extent.extent c.requires.ends less c.raise_extent.ensures.within
          same)
          reads l.calm;
    }

pub returns : goal.returns
returns g c =
    let l = c.look_on.ensures.looks in
    let f = c.args.frames.now in
    let s = c.args.self.now in
    let then = c.look_on.new.frames in
    let pass = c.look_on.new.pass in
    let M = meaning g.W.Meaning.asked g.W.Meaning.all g.W.Meaning.satisfies g.W.Meaning.judged in
    let may = c.requires.may in
    let new : ScanCore = record s { stage = c.args.after } in
    let reads = look_reads g.D.Disk f then c.args.pass.now pass may.scanning.held l in
    let ended = chain_ended g.D.Disk M c.args.query.now then then pass pass s new
    (may_still g.D.Disk M c.args.query.now f then c.args.pass.now pass s may reads)
    (still_reads g.D.Disk then pass l.is_pass reads.held) refl (λ p x lies. lies) c.args.after c.requires.ends (record {
      none_left = refl;
      extent = c.in_ok-extent.extent;
      is_extent = c.in_ok-extent.ensures.answers;
      no_further = omega (arith, c.if-extent-self.false);
    }) c.requires.small refl in record {
      is_step = goes g.D.Disk M c.args.query.now f c.args.pass.now s then pass new _ refl
          (stepped_before g.D.Disk M c.args.query.now f then s c.args.pass.now pass new l.lying l.holds ended) reads
          l.calm;
    }
