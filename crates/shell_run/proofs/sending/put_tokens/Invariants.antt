use Rattle.std.proofs.Common.{◌≡◌, ◌≤◌, ◌++◌, true}
use Rattle.std.specs.List.{flat_map}
use Rattle.ts_parser.specs.TokensOf.{tokens_of}
use Rattle.shell_script.specs.Texts.{token_line}
use Rattle.shell_run.specs.Inner.Sending.{Sends}
use Rattle.shell_run.proofs.sending.put_tokens.Given as goal

abbrev pub invariant-loop-token : goal.invariant-loop-token
invariant-loop-token g l =
    (l.yielded ++ l.token-iterator ≡ tokens_of l.text)
    × Sends (g.K.Sink.taken l.fn.out) (g.K.Sink.taken l.out)
    (l.fn.waiting.items ++ flat_map token_line l.yielded) l.waiting.items true
    × (g.K.Sink.fault_count l.fn.out ≤ g.K.Sink.fault_count l.out)
