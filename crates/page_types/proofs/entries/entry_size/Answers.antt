use Rattle.std.proofs.Common.{length, ap, arith}
use Rattle.page_types.specs.Parts.{entry_shown, postings_shown}
use Rattle.page_types.specs.Encoding.{postings_bytes}
use Rattle.page_types.proofs.BodySizes.{length-entry_bytes, length-inline, length-root}
use Rattle.page_types.proofs.entries.entry_size.Goals as goal
use Rattle.page_types.proofs.entries.entry_size.Goals.{in-Inline, in-Root}

pub overflow_add-result-2 : goal.overflow_add-result-2
overflow_add-result-2 c = elim c.match-entry.branch [
  | in-Inline w ↦ omega (
    arith,
    c.requires,
    length-entry_bytes (entry_shown c.args.entry),
    ap (λ p. length (postings_bytes (postings_shown p))) w.in-Inline.is,
    length-inline w.in-Inline.items.now,
    w.postings-is,
  )
  | in-Root w ↦ omega (
    arith,
    c.requires,
    length-entry_bytes (entry_shown c.args.entry),
    ap (λ p. length (postings_bytes (postings_shown p))) w.in-Root.is,
    length-root w.in-Root.field-0,
    w.postings-is,
  )
]

pub returns : goal.returns
returns c = elim c.match-entry.branch [
  | in-Inline w ↦ omega (
    arith,
    length-entry_bytes (entry_shown c.args.entry),
    ap (λ p. length (postings_bytes (postings_shown p))) w.in-Inline.is,
    length-inline w.in-Inline.items.now,
    w.postings-is,
  )
  | in-Root w ↦ omega (
    arith,
    length-entry_bytes (entry_shown c.args.entry),
    ap (λ p. length (postings_bytes (postings_shown p))) w.in-Root.is,
    length-root w.in-Root.field-0,
    w.postings-is,
  )
]
