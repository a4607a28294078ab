use Rattle.std.proofs.Common.{refl, sym, subst}
use Rattle.ts_config.specs.Mappings.{Mapping}
use Rattle.ts_config.specs.Known.{IsWithin}
use Rattle.ts_config.proofs.Within.{within_empty}
use Rattle.shell_script.specs.Says.{counted_lines}
use Rattle.shell_script.specs.ReplyView.{refusal}
use Rattle.shell_run.specs.Defining.{Maps}
use Rattle.shell_run.specs.Inner.Definitions.{MapsFail}
use Rattle.shell_run.proofs.MappingLines.{maps_all, within_all, maps_fail}
use Rattle.shell_run.proofs.defining.mapping_of.Goals as goal

pub returns-in-Ok-clause-maps : goal.returns-in-Ok-clause-maps
returns-in-Ok-clause-maps c =
    subst (λ (d : Mapping). Maps c.args.configs.now d (counted_lines c.args.body) c.take_lines.new.made.partial)
    c.in_ok-empty.ensures
    (maps_all c.args.configs.now (counted_lines c.args.body) _ _ refl c.in-Ok.ensures.taken)

pub returns-in-Ok-clause-within : goal.returns-in-Ok-clause-within
returns-in-Ok-clause-within c =
    within_all c.args.configs.now (counted_lines c.args.body) _ _ refl
    (subst (IsWithin c.args.configs.now) (sym c.in_ok-empty.ensures) (within_empty c.args.configs.now))
    c.in-Ok.ensures.taken

pub returns-in-Err-clause-refused : goal.returns-in-Err-clause-refused
returns-in-Err-clause-refused c =
    subst (λ (d : Mapping). MapsFail c.args.configs.now d (counted_lines c.args.body) (refusal c.in-Err.why))
    c.in_ok-empty.ensures
    (maps_fail c.args.configs.now (counted_lines c.args.body) _ (refusal c.in-Err.why) refl
    c.in-Err.ensures.refused)
