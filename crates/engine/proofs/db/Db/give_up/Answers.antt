-- A snapshot is given up after the Abort.
use Rattle.std.proofs.Common.{refl, [], sym, ap, subst, ◌∙◌, arith}
use Rattle.buffer_frames.specs.Passes.{IsPassOf}
use Rattle.engine.specs.Db.{DbValue}
use Rattle.engine.specs.Going.{Goes}
use Rattle.engine.proofs.Ending.{gives_still, tells_still}
use Rattle.engine.proofs.Paths.{one_nothing, unpin_step}
use Rattle.engine.proofs.db.Db.give_up.Goals as goal

pub abort-answer-requires : goal.abort-answer-requires
abort-answer-requires g c = c.requires

pub unpin-requires : goal.unpin-requires
unpin-requires g c = record {
  pass = subst (λ (s : DbValue g.row.D.Denot). IsPassOf s.frames c.abort-answer.new.pass) (sym c.self.view_is)
      c.abort-answer.ensures.pass;
}

pub returns-clause-session : goal.returns-clause-session
returns-clause-session g c =
    let u = c.unpin.ensures in
    let e = c.abort-answer.ensures in
    record { is_pass = u.pass; idle = (u.none, u.keeps.same.0 ∙ e.held, u.keeps.same.2 ∙ e.xid) }

pub returns-clause-gone : goal.returns-clause-gone
returns-clause-gone g c =
    let s : DbValue g.row.D.Denot = record { frames = c.self.inside.frames; pending = c.self.inside.pending } in
    let b : DbValue g.row.D.Denot = record { frames = c.unpin.new.self; pending = c.self.inside.pending } in
    let u = c.unpin.ensures in
    let last : Goes g.D.Disk c.abort-answer.new.self b [] =
    subst (λ (x : DbValue g.row.D.Denot). Goes g.D.Disk x b []) c.self.view_is
    (one_nothing g.D.Disk
    (unpin_step g.D.Disk s b refl c.abort-answer.new.pass.pin u.keeps.added u.keeps.journal u.keeps.begins u.pins)) in
    gives_still g.D.Disk c.abort-answer.ensures.gone last

pub returns-clause-keeps : goal.returns-clause-keeps
returns-clause-keeps g c =
    let u = c.unpin.ensures in
    let e = c.abort-answer.ensures in
    record { room = u.keeps.same.1 ∙ (e.keeps).room; shown = omega (arith, (e.keeps).shown, (u.keeps.rises).shown) }

pub returns-clause-fault : goal.returns-clause-fault
returns-clause-fault g c =
    tells_still g.D.Disk {m = c.abort-answer.new.self} c.args.refusal c.abort-answer.result
    c.abort-answer.ensures.fault
    (c.unpin.ensures.keeps.journal ∙ ap (λ (s : DbValue g.row.D.Denot). s.frames.journal) c.self.view_is)
