use Rattle.std.proofs.Common.{ap, ap₂, ◌∙◌}
use Rattle.gin_place.specs.declared.placing.Placing.{Placing}
use Rattle.gin_cleanup.specs.Gathered.{KeyItems}
use Rattle.gin_cleanup.specs.Inner.Between.{HasNext}
use Rattle.gin_cleanup.specs.declared.cleanup.Stage.{Stage}
use Rattle.gin_cleanup.specs.declared.cleanup.Stage.TheVariants as stages
use Rattle.gin_cleanup.proofs.cleanup.Cleanup.next_key.Goals as goal
use Rattle.gin_cleanup.proofs.cleanup.Cleanup.next_key.Goals.{in-Some, in-None}

pub returns : goal.returns
returns c = elim c.match-take_first.branch [
  | in-Some w ↦ HasNext.key w.in-Some.key w.in-Some.items w.in-Some.ensures.some c.take_first.ensures.few
      (ap (λ (s : Stage). record c.args.self.now { gathered = c.take_first.new.self; stage = s })
      (w.t-7-is ∙ ap (λ (p : Placing). stages.Placing w.in-Some.key w.in-Some.items p) w.begin.ensures))
  | in-None w ↦ HasNext.none w.in-None.ensures.none.0
      (ap₂ (λ (es : KeyItems) (s : Stage). record c.args.self.now { gathered = es; stage = s })
      w.in-None.ensures.none.1 w.t-7-is)
]
