use Rattle.std.proofs.Common.{ap, sym, ◌∙◌}
use Rattle.page_types.specs.ItemReading.{last_or}
use Rattle.posting_code.proofs.Lists.{last_any}
use Rattle.posting_code.proofs.items.Items.last_item.Goals as goal

pub returns : goal.returns
returns c = λ some. c.self.invariant.ends ∙ last_any c.self.inside.previous 0 _ (λ e. some (sym c.self.view_is ∙ e))
    ∙ ap (last_or 0) c.self.view_is
