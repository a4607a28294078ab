use Rattle.std.proofs.Common.{◌-◌, ap, ◌∙◌}
use Rattle.record_code.specs.Reading.{kinds}
use Rattle.record_code.proofs.KindReading.{kind_at_place, item_copied}
use Rattle.record_code.proofs.records.kind_with.Goals as goal

pub returns : goal.returns
returns c =
    c.copied.ensures ∙ item_copied kinds (c.from.result - 1) c.get.result c.get.ensures.lookup
    ∙ kind_at_place c.args.number (c.from.result - 1) c.if-number-eq0.false (ap (λ n. n - 1) c.from.ensures)
