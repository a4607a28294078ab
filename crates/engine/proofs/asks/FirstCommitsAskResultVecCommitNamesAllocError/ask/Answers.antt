use Rattle.std.proofs.Common.{ap, ◌∙◌, map}
use Rattle.engine.specs.declared.commit_names.CommitNames.{CommitNames}
use Rattle.engine.proofs.Asking.{one_more}
use Rattle.engine.proofs.asks.FirstCommitsAskResultVecCommitNamesAllocError.ask.Goals as goal

pub loop-place-preserved : goal.loop-place-preserved
loop-place-preserved c =
    let inv = c.loop-place.invariant in
    let named = c.in_ok-names_of.field-0 in
    record {
      deleted = ap (map (λ (n : CommitNames). n.deleted.items)) c.in_ok-push.ensures.items
          ∙ one_more (λ (n : CommitNames). n.deleted.items) c.loop-place.commits.items named
          c.args.state.now.value.deleted c.loop-place.place inv.deleted c.in_ok-names_of.ensures.deleted;
      inserted = ap (map (λ (n : CommitNames). n.inserted.items)) c.in_ok-push.ensures.items
          ∙ one_more (λ (n : CommitNames). n.inserted.items) c.loop-place.commits.items named
          c.args.state.now.value.inserted c.loop-place.place inv.inserted c.in_ok-names_of.ensures.inserted;
    }
