-- A walk begins at page 1.
use Rattle.std.proofs.Common.{◌<◌, ◌^◌, ℕ, ap, arith}
use Rattle.gin_scan.specs.declared.stage.Stage.TheVariants as stage
use Rattle.gin_scan.proofs.scan_core.ScanCore.walk.Goals as goal

pub returns : goal.returns
returns c =
    let z : c.most_pages.result < 2 ^ 32 = c.most_pages.type_inv in record {
      begins = ap (λ (n : ℕ). stage.Down c.args.key 1 n) c.most_pages.ensures;
      within = omega (arith, z, c.most_pages.ensures);
    }
