use Rattle.ts_synonym.specs.Synonyms.{IsBadLine, IsSynonymList}
use Rattle.shell_script.specs.Says.{counted_lines}
use Rattle.shell_script.specs.ReplyView.{refusal}
use Rattle.shell_run.specs.Defining.{IsNoLine}
use Rattle.shell_run.proofs.Bodies.{synonyms_are}
use Rattle.shell_run.proofs.Taking.{made_of, refused_of}
use Rattle.shell_run.proofs.dictionaries.synonyms_of.Goals as goal

pub returns-in-Ok-clause-list : goal.returns-in-Ok-clause-list
returns-in-Ok-clause-list c =
    made_of _ _ (IsNoLine IsBadLine) (IsSynonymList c.args.case_sensitive)
    (synonyms_are c.args.case_sensitive) (counted_lines c.args.body) _ _ c.new-synonym.ensures
    c.in-Ok.ensures.taken

pub returns-in-Err-clause-refused : goal.returns-in-Err-clause-refused
returns-in-Err-clause-refused c =
    refused_of _ _ (IsNoLine IsBadLine) (IsSynonymList c.args.case_sensitive)
    (synonyms_are c.args.case_sensitive) (counted_lines c.args.body) _ (refusal c.in-Err.why)
    c.new-synonym.ensures c.in-Err.ensures.refused
