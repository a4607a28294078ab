-- A vector is within the limit of vectors.
use Rattle.std.proofs.Common.{ℕ, List, ◌++◌, ◌∙◌, ap}
use Rattle.ts_base.specs.Encoding.{vector_bytes}
use Rattle.engine.proofs.db.encoded.Goals as goal

pub returns : goal.returns
returns c = record {
  normal = c.encode.ensures.normal;
  small = c.count-lexemes.ensures.limit;
  bytes_of = c.in_ok-encode.ensures.ok
      ∙ ap (λ (z : List ℕ). z ++ vector_bytes c.args.vector.now) c.new-bytes.ensures.items;
}
