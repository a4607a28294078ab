use Rattle.std.proofs.Common.{eqb-true, eq-eqb}
use Rattle.posting_code.proofs.Places.{stands_first, stands_only, none_stands}
use Rattle.posting_code.proofs.walking.stands_here.Goals as goal

pub returns-in-Ok : goal.returns-in-Ok
returns-in-Ok c = (
  λ e. stands_first c.args.item c.args.place.last c.args.place.rest.now c.in-Ok.here c.in-Ok.field-0-1.now
      c.requires.list c.in-Ok.ensures.next (eqb-true c.in-Ok.here c.args.item e),
  λ k. eq-eqb c.in-Ok.here c.args.item (stands_only c.args.item c.args.place.last c.args.place.rest.now c.in-Ok.here
      c.in-Ok.field-0-1.now c.requires.list c.requires.above c.in-Ok.ensures.next k),
)

pub returns-in-Err : goal.returns-in-Err
returns-in-Err c = (
  λ e. absurd cc,
  λ k. absurd (none_stands c.args.item c.args.place.last c.args.place.rest.now c.in-Err.field-0 c.requires.list
      c.in-Err.ensures.next k),
)
