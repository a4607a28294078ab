use Rattle.ts_words.specs.StopLists.{IsBadLine, IsStopList}
use Rattle.shell_script.specs.Says.{counted_lines}
use Rattle.shell_script.specs.ReplyView.{refusal}
use Rattle.shell_run.specs.Defining.{IsNoLine}
use Rattle.shell_run.proofs.Bodies.{no_stops, stops_are}
use Rattle.shell_run.proofs.Taking.{made_of, refused_of}
use Rattle.shell_run.proofs.dictionaries.stop_words.Goals as goal

pub returns-in-Ok-clause-stops : goal.returns-in-Ok-clause-stops
returns-in-Ok-clause-stops c =
    made_of _ _ (IsNoLine IsBadLine) IsStopList stops_are (counted_lines c.args.body) _ _
    (no_stops _ c.new-stops.ensures) c.in-Ok.ensures.taken

pub returns-in-Err-clause-refused : goal.returns-in-Err-clause-refused
returns-in-Err-clause-refused c =
    refused_of _ _ (IsNoLine IsBadLine) IsStopList stops_are (counted_lines c.args.body) _
    (refusal c.in-Err.why) (no_stops _ c.new-stops.ensures) c.in-Err.ensures.refused
