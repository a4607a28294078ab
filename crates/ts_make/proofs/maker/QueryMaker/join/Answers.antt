use Rattle.std.proofs.Common.{◌≡◌, ◌&&◌, false}
use Rattle.ts_make.specs.Making.{link_joint}
use Rattle.ts_make.proofs.Operators.{first_gone, second_gone, gone_value}
use Rattle.ts_make.proofs.maker.QueryMaker.join.Goals.{else-x-via-then-x+else-y, else-x-via-else-x}
use Rattle.ts_make.proofs.maker.QueryMaker.join.Goals as goal

pub returns-clause-value : goal.returns-clause-value
returns-clause-value c =
    let x = c.take_part-x.result in
    let y = c.take_part-y.result in
    let gone : (x.there && y.there) ≡ false = elim c.else-x.branch [
      | else-x-via-then-x+else-y w ↦ second_gone x.there y.there w.if-x.true w.if-y.false
      | else-x-via-else-x w ↦ first_gone x.there y.there w.if-x.false
    ] in
    gone_value (link_joint c.args.link) c.args.self.now c.take_part-y.new.parts.items
    c.take_part-x.new.parts.items x y c.take_part-y.ensures c.take_part-x.ensures
    c.add_part-2.result c.add_part-2.new.self c.joined-part.result gone c.joined-part.ensures
    c.add_part-2.ensures.parts c.add_part-2.ensures.trees c.add_part-2.ensures.removed
    c.add_part-2.ensures.few
