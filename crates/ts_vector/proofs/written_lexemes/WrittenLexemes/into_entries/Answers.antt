use Rattle.std.proofs.Common.{ap, ◌∙◌}
use Rattle.ts_vector.specs.Text.{entries}
use Rattle.ts_vector.proofs.WrittenFacts.{drafts_entries}
use Rattle.ts_vector.proofs.written_lexemes.WrittenLexemes.into_entries.Goals as goal

pub returns : goal.returns
returns c =
    let f = c.self.inside in drafts_entries f.starts.items f.entries c.self.invariant ∙ ap entries c.self.view_is
