use Rattle.std.proofs.Common.{length, map, ap, subst, sym, ◌∙◌, arith}
use Rattle.ts_query.specs.Inner.Parsing.{entry_item}
use Rattle.ts_query.specs.Grammar.{IsQueryText}
use Rattle.ts_query.specs.Inner.Reader.{IsOutcome}
use Rattle.ts_query.proofs.Answer.{query_fault}
use Rattle.ts_query.proofs.Entries.{entries_nodes}
use Rattle.ts_query.proofs.Sound.{reads_sound}
use Rattle.ts_query.proofs.query.TsQuery.parse.Goals as goal

pub returns-in-Err-clause-refused : goal.returns-in-Err-clause-refused
returns-in-Err-clause-refused c =
    let f = rw c.in-Err.is at c.in_ok-outcome.ensures.fault in query_fault c.args.text.now c.in-Err.at f

pub returns-then-as_slice-ge-NODE_LIMIT-clause-refused : goal.returns-then-as_slice-ge-NODE_LIMIT-clause-refused
returns-then-as_slice-ge-NODE_LIMIT-clause-refused c =
    let f : IsOutcome c.args.text.now c.in-Ok.outcome = rw c.in-Ok.is at c.in_ok-outcome.ensures.found in
    let e = ap length c.as_slice.ensures.value ∙ entries_nodes c.in-Ok.outcome.entries.items f.query f.entries in
    record {
      tokens = f.tokens;
      query = f.query;
      reads = f.reads;
      near = sym f.far ∙ c.in_default.is;
      short = sym f.long ∙ c.in_default-long.is;
      many = omega arith;
    }

pub from_entries-requires : goal.from_entries-requires
from_entries-requires c =
    let f : IsOutcome c.args.text.now c.in-Ok.outcome = rw c.in-Ok.is at c.in_ok-outcome.ensures.found in
    let e = ap length c.as_slice.ensures.value ∙ entries_nodes c.in-Ok.outcome.entries.items f.query f.entries in (
      f.query,
      ap (λ l. map entry_item l) c.as_slice-2.ensures.value ∙ f.entries,
      reads_sound c.args.text.now f.tokens f.query c.utf8.text f.reads (sym f.far ∙ c.in_default.is)
          (sym f.long ∙ c.in_default-long.is) (omega arith),
    )

pub returns-clause-value : goal.returns-clause-value
returns-clause-value c =
    let f : IsOutcome c.args.text.now c.in-Ok.outcome = rw c.in-Ok.is at c.in_ok-outcome.ensures.found in
    let e = c.in_ok-query.ensures.value f.query (ap (λ l. map entry_item l) c.as_slice-2.ensures.value ∙ f.entries) in
    record {
      value = subst (λ q. IsQueryText c.args.text.now q) (sym e) (f.tokens, f.reads);
      sound = c.in_ok-query.ensures.sound;
    }
