use Rattle.std.proofs.Common.{◌∙◌, ap}
use Rattle.ts_words.specs.Simple.{is_stop}
use Rattle.ts_words.proofs.Members.{asked, there, found}
use Rattle.ts_words.proofs.stops.StopList.contains.Goals as goal

pub returns-clause-value : goal.returns-clause-value
returns-clause-value c =
    let kept = asked c.args.word.now c.self.inside.words.keys ∙ ap (λ s. is_stop s c.args.word.now) c.self.view_is in
    cc

pub returns-clause-member : goal.returns-clause-member
returns-clause-member c =
    let kept = asked c.args.word.now c.self.inside.words.keys ∙ ap (λ s. is_stop s c.args.word.now) c.self.view_is in
    (λ h. there c.args.self.now c.args.word.now cc, λ h. let is = found c.args.self.now c.args.word.now h in cc)
