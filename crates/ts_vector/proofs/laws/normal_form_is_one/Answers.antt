use Rattle.ts_vector.proofs.Forms.{normal_form_one}
use Rattle.ts_vector.proofs.laws.normal_form_is_one.Goals as goal

pub returns : goal.returns
returns c = normal_form_one
