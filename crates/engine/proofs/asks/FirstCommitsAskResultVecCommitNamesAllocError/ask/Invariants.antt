use Rattle.std.proofs.Common.{◌≡◌, map, take}
use Rattle.engine.specs.declared.commit_names.CommitNames.{CommitNames}
use Rattle.engine.proofs.asks.FirstCommitsAskResultVecCommitNamesAllocError.ask.Given as goal

abbrev pub invariant-loop-place : goal.invariant-loop-place
invariant-loop-place l = record {
  deleted : map (λ (c : CommitNames). c.deleted.items) l.commits.items ≡ take l.place l.state.value.deleted;
  inserted : map (λ (c : CommitNames). c.inserted.items) l.commits.items ≡ take l.place l.state.value.inserted;
}
