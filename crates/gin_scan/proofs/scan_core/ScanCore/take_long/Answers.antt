-- A long vector's name is taken, or not.
use Rattle.std.proofs.Common.{◌≡◌, ℕ, true, false, List, length, refl, ap, subst, arith}
use Rattle.std.proofs.lemmas.Result.{on_ok_weaker}
use Rattle.gin_scan.specs.Inner.Heads.{TellsOf}
use Rattle.gin_scan.specs.declared.scan_core.ScanCore.{ScanCore}
use Rattle.gin_scan.proofs.HeadsCalls.{got}
use Rattle.gin_scan.proofs.scan_core.ScanCore.take_long.Goals as goal

pub returns-then-len-long : goal.returns-then-len-long
returns-then-len-long g c =
    let s = c.args.self.now in
    let l = c.index-long.result.now in record {
      serves = c.requires.serves;
      took = refl;
      taken = record {
        waits = l;
        is_there = got s.long.items c.args.at l c.requires.within c.index-long.ensures;
        answer = false;
        told = λ same. absurd (omega (arith, same, c.len.ensures, c.if-len-long.true));
        other = λ off. refl;
        added = refl;
      };
    }

pub returns-then-not-check : goal.returns-then-not-check
returns-then-not-check g c =
    let P = g.W.Meaning.satisfies c.args.query.now in
    let s = c.args.self.now in
    let l = c.index-long.result.now in record {
      serves = c.check.ensures.serves;
      took = refl;
      taken = record {
        waits = l;
        is_there = got s.long.items c.args.at l c.requires.within c.index-long.ensures;
        answer = false;
        told = λ same. subst (TellsOf P s.bytes.items) c.if-not-check.true
            (subst (λ (bytes : List ℕ). TellsOf P bytes c.check.result) c.as_slice.ensures.value
            c.check.ensures.tells);
        other = λ off. refl;
        added = refl;
      };
    }

pub returns : goal.returns
returns g c =
    let P = g.W.Meaning.satisfies c.args.query.now in
    let s = c.args.self.now in
    let l = c.index-long.result.now in
    let all : length s.bytes.items ≡ l.size = omega (arith, c.len.ensures, c.if-len-long.false) in record {
      serves = c.check.ensures.serves;
      took = ap (λ (z : ScanCore). z.took_pin) c.add_name.ensures.rest;
      taken = on_ok_weaker c.add_name.result (λ added. record {
        waits = l;
        is_there = got s.long.items c.args.at l c.requires.within c.index-long.ensures;
        answer = true;
        told = λ same. subst (TellsOf P s.bytes.items) c.if-not-check.false
            (subst (λ (bytes : List ℕ). TellsOf P bytes c.check.result) c.as_slice.ensures.value
            c.check.ensures.tells);
        other = λ off. absurd (off all);
        added = (added, c.add_name.ensures.rest);
      }) c.add_name.ensures.added;
    }
