use Rattle.shell_run.proofs.dictionaries.dictionary_of.Goals as goal

pub returns-in-Ok-clause-good : goal.returns-in-Ok-clause-good
returns-in-Ok-clause-good c = rw c.in-Simple.is c.in-Ok.ensures.stops.good

pub returns-in-Err-clause-refused : goal.returns-in-Err-clause-refused
returns-in-Err-clause-refused c = rw c.in-Simple.is c.in-Err.ensures.refused

pub returns-in-Ok-stop_words-clause-good : goal.returns-in-Ok-stop_words-clause-good
returns-in-Ok-stop_words-clause-good c = rw c.in-Porter.is c.in-Ok-stop_words.ensures.stops.good

pub returns-in-Err-stop_words-clause-refused : goal.returns-in-Err-stop_words-clause-refused
returns-in-Err-stop_words-clause-refused c = rw c.in-Porter.is c.in-Err-stop_words.ensures.refused

pub returns-in-Err-synonyms_of-clause-refused : goal.returns-in-Err-synonyms_of-clause-refused
returns-in-Err-synonyms_of-clause-refused c = rw c.in-Synonym.is c.in-Err-synonyms_of.ensures.refused

pub returns-in-Thesaurus-clause-good : goal.returns-in-Thesaurus-clause-good
returns-in-Thesaurus-clause-good c = rw c.in-Thesaurus.is c.thesaurus_of.ensures.good

pub returns-in-Thesaurus-clause-refused : goal.returns-in-Thesaurus-clause-refused
returns-in-Thesaurus-clause-refused c = rw c.in-Thesaurus.is c.thesaurus_of.ensures.refused
