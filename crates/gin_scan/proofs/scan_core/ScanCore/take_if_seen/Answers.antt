-- The head is not seen.
use Rattle.std.proofs.Common.{Bool, refl, sym, subst}
use Rattle.gin_scan.specs.Inner.Heads.{TakesIfSeen}
use Rattle.gin_scan.proofs.scan_core.ScanCore.take_if_seen.Goals as goal

pub returns-then-not-is_seen : goal.returns-then-not-is_seen
returns-then-not-is_seen g c =
    let P = g.W.Meaning.satisfies c.args.query.now in
    let s = c.args.self.now in record {
      serves = c.requires.serves;
      took = refl;
      taken = subst (λ (b : Bool). TakesIfSeen P c.args.page.now (c.args.item, c.args.sure) b s s)
          (sym c.if-not-is_seen.true) refl;
      rest = refl;
    }
