use Rattle.std.proofs.Common.{Some, ℕ, ◌<◌, ◌^◌, sym, ap, ◌∙◌, arith}
use Rattle.std.proofs.lemmas.Option.{slice_get-get_or}
use Rattle.gin_scan.specs.Inner.Parts.{BeginsLong}
use Rattle.gin_scan.specs.declared.stage.Stage.TheVariants as stage
use Rattle.gin_scan.proofs.scan_core.ScanCore.begin_long.Goals as goal

pub returns-then-at-len : goal.returns-then-at-len
returns-then-at-len c =
    BeginsLong.next c.index.result.now
    (slice_get-get_or c.args.self.now.long.items c.args.at c.index.result.now (omega arith)
    ∙ ap Some (sym c.index.ensures))
    (let z : c.most_pages.result < 2 ^ 32 = c.most_pages.type_inv in omega (arith, z, c.most_pages.ensures))
    c.clear.ensures.items
    (ap (λ (n : ℕ). record (c.args.self.now) {
      bytes = c.clear.new.self;
      stage = stage.Parts c.args.at c.index.result.now.first n;
    }) c.most_pages.ensures)
