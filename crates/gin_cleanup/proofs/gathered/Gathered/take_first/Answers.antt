use Rattle.std.proofs.Common.{sym, ap, subst, ◌∙◌}
use Rattle.gin_cleanup.specs.Gathered.{KeyItems, HaveItems, shown}
use Rattle.gin_cleanup.proofs.FirstKeys.{above_shown}
use Rattle.gin_cleanup.proofs.gathered.Gathered.take_first.Goals as goal

pub returns-clause-some : goal.returns-clause-some
returns-clause-some c =
    let each = subst (λ (es : KeyItems). HaveItems es) (ap shown c.in_ok-key.ensures.removal) c.self.invariant in
    record {
      had = c.in_ok-key.items.items;
      first = sym c.self.view_is ∙ ap shown c.in_ok-key.ensures.removal;
      some = each.0;
      same = c.in_order.ensures.same;
      rising = c.in_order.ensures.rising;
      above = above_shown c.in_ok-key.key.items c.pop_first.new.self.entries c.in_ok-key.ensures.all_above;
    }
