-- What is kept in memory, as contracts see it.
use Rattle.std.specs.Prelude.{map}
use Rattle.ts_thesaurus.specs.Rules.{SampleWord, any_stop, with_lexemes, Rule, lexemes_of}
use Rattle.ts_thesaurus.specs.declared.rule.Sample.{Sample}
use Rattle.ts_thesaurus.specs.declared.rule.Sample.TheVariants.{AnyStop, Lexemes}
use Rattle.ts_thesaurus.specs.declared.rule.KeptRule.{KeptRule}

abbrev pub sample_value : Sample → SampleWord
sample_value AnyStop = any_stop
sample_value (Lexemes found) = with_lexemes (lexemes_of found.items)

abbrev pub rule_value : KeptRule → Rule
rule_value kept = record { samples = map sample_value kept.samples.items; words = kept.words.items }
