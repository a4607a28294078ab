use Rattle.std.proofs.Common.{length, ap, arith}
use Rattle.page_types.specs.Items.{items_of}
use Rattle.core_state.proofs.TakenItems.{all_left, none_left}
use Rattle.core_state.proofs.ListHalves.{one_item}
use Rattle.core_state.proofs.splitting.has_one.Goals as goal

pub returns-in_default : goal.returns-in_default
returns-in_default c =
    let items = c.args.items.now in (
      λ e. absurd (cc),
      λ n. absurd (omega (
        arith,
        n,
        ap length (none_left 0 c.in_default.field-0 items (items_of items)
            (all_left items c.requires) c.in_default.ensures.next),
      )),
    )

pub returns : goal.returns
returns c = one_item c.args.items.now c.in-Ok.rest.now c.in-Ok.field-0-0 c.is_empty.result c.requires
    c.in-Ok.ensures.next c.is_empty.ensures
