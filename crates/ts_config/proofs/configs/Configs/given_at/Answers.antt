use Rattle.std.specs.Prelude.{IfOk, Result, Ok, Err}
use Rattle.ts_config.proofs.Parts.{no_sub_gives, sub_found_gives}
use Rattle.ts_config.proofs.configs.Configs.given_at.Goals as goal

if_ok : {A E : Type 0} (P Q : A → Type 0) (r : Result A E) → ((a : A) → P a → Q a) → IfOk r P → IfOk r Q
if_ok P Q (Ok a) f h = f a h
if_ok P Q (Err e) f h = tt

pub returns-in_default-dictionary : goal.returns-in_default-dictionary
returns-in_default-dictionary c =
    no_sub_gives c.args.self.now c.args.config.now c.args.text.now _ _ _ _ c.args.place c.args.token c.args.left.now
    c.in-Some.ensures c.in-Some-as_thesaurus.ensures.found c.in_default-dictionary.ensures.value

pub returns : goal.returns
returns c =
    if_ok _ _ c.phrase.result
    (λ a h. sub_found_gives c.args.self.now c.args.config.now c.args.text.now _ _ _ _ c.args.place c.args.token
    c.args.left.now c.in-Some.ensures c.in-Some-as_thesaurus.ensures.found _ _ _ c.in-Some-dictionary.ensures.value
    h)
    c.phrase.ensures
