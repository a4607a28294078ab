use Rattle.std.proofs.Common.{◌∷◌, ◌++◌, [], ℕ, List, refl, ap, ◌∙◌, inl}
use Rattle.buffer_frames.proofs.Exits.{on_refusal}
use Rattle.gin_cleanup.proofs.cleanup.Cleanup.take.Goals as goal

pub returns-in_err-before-clause-kept : goal.returns-in_err-before-clause-kept
returns-in_err-before-clause-kept c =
    on_refusal _ c.from_residual-in_err-before.result (record {
      left = refl;
      gone = refl;
      turns = refl;
      counts = c.reserve.ensures.items;
      pairs = record {
        keeps = λ k i had. (c.in_ok-put_rows.ensures.ok k i).1 (inl had);
        just = λ k i has. (c.in_ok-put_rows.ensures.ok k i).0 has;
      };
      stage_is = refl;
    })

pub returns-clause-taken : goal.returns-clause-taken
returns-clause-taken c = record {
  left = refl;
  gone = refl;
  turns = refl;
  counts =
      c.push_reserved.ensures.items ∙ ap (λ (xs : List ℕ). xs ++ c.len.result ∷ []) c.reserve.ensures.items
      ∙ ap (λ (n : ℕ). c.args.self.now.counts.items ++ n ∷ []) c.len.ensures;
  pairs = c.in_ok-put_rows.ensures.ok;
  before = c.in_ok-before.before;
  stage_is = refl;
  before_is = c.in_ok-before.ensures;
}
