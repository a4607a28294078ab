use Rattle.shell_script.specs.ReplyView.{refusal}
use Rattle.shell_script.specs.Says.{counted_lines}
use Rattle.shell_run.proofs.Bodies.{maps_refuse}
use Rattle.shell_run.proofs.defining.define_configuration.Goals as goal

pub returns-in-Err-clause-answered : goal.returns-in-Err-clause-answered
returns-in-Err-clause-answered c =
    maps_refuse c.args.configs.now c.args.number c.args.name.now (counted_lines c.args.body) (refusal c.in-Err.why)
    (λ h. let e = c.config.ensures.found.1 h in let z : ⊥ = cc in z) c.in-Err.ensures.refused

pub returns-in-Ok-put_configuration-clause-answered : goal.returns-in-Ok-put_configuration-clause-answered
returns-in-Ok-put_configuration-clause-answered c =
    (c.in-Ok-put_configuration.ensures.added.free, (c.in-Ok.mapping, c.in-Ok.ensures.maps))

pub returns-in-Ok-put_configuration-clause-becomes : goal.returns-in-Ok-put_configuration-clause-becomes
returns-in-Ok-put_configuration-clause-becomes c =
    (c.in-Ok.mapping, c.in-Ok.ensures.maps, c.in-Ok-put_configuration.ensures.added.value)
