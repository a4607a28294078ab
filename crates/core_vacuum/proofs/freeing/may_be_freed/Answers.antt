use Rattle.core_vacuum.proofs.freeing.may_be_freed.Goals as goal

pub returns : goal.returns
returns c = (
  λ e. record {
    dead = c.is_dead.ensures.0 e;
    no_overflow = c.if-head-ne0.false;
    no_private = c.if-head-ne0-2.false;
  },
  λ w. c.is_dead.ensures.1 w.dead,
)
