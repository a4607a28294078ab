use Rattle.ts_parser.proofs.Chains.{run_takes}
use Rattle.ts_parser.proofs.forms.word_form.Goals as goal

pub run_kind-requires : goal.run_kind-requires
run_kind-requires c = rw c.run_len-length.ensures.value (run_takes c.args.u.now c.requires)
