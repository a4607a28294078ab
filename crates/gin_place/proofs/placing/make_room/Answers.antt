use Rattle.std.proofs.Common.{ℕ, ◌∙◌, sym, subst}
use Rattle.std.specs.Prelude.{IfErr}
use Rattle.gin_place.specs.Inner.Making.{WhyNoRoom}
use Rattle.gin_place.proofs.placing.make_room.Goals as goal

pub returns-then-page-root-clause-cause : goal.returns-then-page-root-clause-cause
returns-then-page-root-clause-cause g c =
    subst (λ (n : ℕ). IfErr c.grow_root.result (WhyNoRoom g.D.Disk c.args.sought c.args.frames.now c.args.pass.now
    c.args.parent n c.grow_root.new.frames)) (sym (c.if-page-root.true ∙ c.root.ensures))
    (c.grow_root.ensures.cause c.args.parent)

pub returns-clause-cause : goal.returns-clause-cause
returns-clause-cause g c = c.split_page.ensures.cause (λ e. c.if-page-root.false (e ∙ sym c.root.ensures))
