use Rattle.std.proofs.Common.{◌<◌, ◌≤◌, length, take, ap, sym, ◌∙◌, arith}
use Rattle.std.proofs.lemmas.List.{take_all}
use Rattle.page_types.specs.Inner.Cuts.{start_at}
use Rattle.page_types.proofs.Cutting.{length-cut_at, pieces_front}
use Rattle.page_types.proofs.pieces.Pieces.truncate.Goals as goal

pub invariant_of-self : goal.invariant_of-self
invariant_of-self c =
    let lt : c.args.n < length c.self.inside.ends.items = omega (arith, c.len.ensures) in
    let end = c.start_of-end.ensures ∙ ap (λ es. start_at 0 es c.args.n) c.deref.ensures.value in
    (pieces_front c.self.inside.ends.items c.truncate.new.self.items c.self.inside.bytes.items
    c.truncate-then-n-len.new.self.items c.args.n c.start_of-end.result c.self.invariant lt end
    c.truncate.ensures.items c.truncate-then-n-len.ensures.items).ends_at

pub returns-then-n-len : goal.returns-then-n-len
returns-then-n-len c =
    let lt : c.args.n < length c.self.inside.ends.items = omega (arith, c.len.ensures) in
    let end = c.start_of-end.ensures ∙ ap (λ es. start_at 0 es c.args.n) c.deref.ensures.value in
    (pieces_front c.self.inside.ends.items c.truncate.new.self.items c.self.inside.bytes.items
    c.truncate-then-n-len.new.self.items c.args.n c.start_of-end.result c.self.invariant lt end
    c.truncate.ensures.items c.truncate-then-n-len.ensures.items).cuts
    ∙ ap (take c.args.n) c.self.view_is

pub returns-else-n-len : goal.returns-else-n-len
returns-else-n-len c =
    let few : length c.args.self.now ≤ c.args.n = omega (
      arith,
      c.len.ensures,
      length-cut_at 0 c.self.inside.ends.items c.self.inside.bytes.items,
      ap length c.self.view_is,
    ) in
    sym (take_all c.args.n c.args.self.now few)
