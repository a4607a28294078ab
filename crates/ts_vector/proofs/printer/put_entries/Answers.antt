use Rattle.std.proofs.Common.{sym, subst, ◌∙◌}
use Rattle.std.specs.Prelude.{All}
use Rattle.std.specs.String.{string_bytes}
use Rattle.std.proofs.lemmas.Result.{on_ok_weaker}
use Rattle.std.proofs.lemmas.List.Elements.{All-tail}
use Rattle.ts_base.specs.Vectors.{IsEntry}
use Rattle.ts_vector.proofs.Printing.{entries_end}
use Rattle.ts_vector.proofs.printer.put_entries.Goals as goal

pub put_others-requires : goal.put_others-requires
put_others-requires c =
    All-tail IsEntry c.in-Some.first c.next.new.self
    (subst (All IsEntry) (sym c.entry_refs-refs.ensures ∙ c.in-Some.ensures.steps) c.requires)

pub returns : goal.returns
returns c =
    on_ok_weaker c.put_others.result
    (λ h. entries_end (string_bytes c.args.out.now) (string_bytes c.put_entry.new.out)
    (string_bytes c.put_others.new.out) c.in-Some.first c.next.new.self c.args.entries.now
    (sym c.in-Some.ensures.steps ∙ c.entry_refs-refs.ensures) c.in_ok-put_entry.ensures h) c.put_others.ensures
