use Rattle.std.proofs.Common.{length, ap, arith}
use Rattle.page_types.specs.Parts.{entry_shown, postings_shown}
use Rattle.page_types.specs.Encoding.{postings_bytes}
use Rattle.page_types.proofs.BodySizes.{length-entry_bytes, length-inline, length-root}
use Rattle.core_state.proofs.splitting.entry_size.Goals as goal

pub overflow_add-result-in-Inline : goal.overflow_add-result-in-Inline
overflow_add-result-in-Inline c = omega (
  arith,
  c.requires,
  length-entry_bytes (entry_shown c.args.entry),
  ap (λ p. length (postings_bytes (postings_shown p))) c.in-Inline.is,
  length-inline c.in-Inline.items.now,
)

pub returns-in-Inline : goal.returns-in-Inline
returns-in-Inline c = omega (
  arith,
  length-entry_bytes (entry_shown c.args.entry),
  ap (λ p. length (postings_bytes (postings_shown p))) c.in-Inline.is,
  length-inline c.in-Inline.items.now,
)

pub returns-in-Root : goal.returns-in-Root
returns-in-Root c = omega (
  arith,
  length-entry_bytes (entry_shown c.args.entry),
  ap (λ p. length (postings_bytes (postings_shown p))) c.in-Root.is,
  length-root c.in-Root.field-0,
)
