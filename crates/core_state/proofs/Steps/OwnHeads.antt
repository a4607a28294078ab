-- The heads that an own transaction placed are in each allowed log as the session has seen them.
use Rattle.std.proofs.Common.{ℕ, ap, subst, ◌∙◌, ◌≡◌}
use Rattle.page_types.specs.declared.page.Head.{Head}
use Rattle.core_state.specs.Log.{Log, Pages, In, Shows, commits}
use Rattle.core_state.specs.Documents.{Doc, Has, placed}
use Rattle.core_state.specs.Steady.{KeepsHead}
use Rattle.core_state.specs.Allowed.{View, IsAllowed}
use Rattle.core_state.specs.Steps.{RunsOwn}
use Rattle.core_state.proofs.Histories.{head_one}
use Rattle.core_state.proofs.SteadyEnds.{heads_kept}
use Rattle.core_state.proofs.StaysIndexed.{placed_by_head}
use Rattle.core_state.proofs.Steps.Seen.{own_runs_on, own_placed, seen_legal}

module _ (v : View) (R : Log) (a : IsAllowed v R) (P : Pages) (shown : Shows v.seen P) (x : ℕ) (own : RunsOwn v x)
    (d : Doc) (h : Head) (by : h.inserted_by ≡ x) where
  -- that of a page which is held
  pub held_head : Has a.pages d h → In d (placed v.seen x) × KeepsHead P a.pages d h
  held_head has =
      let mine : In d (placed v.seen x) = subst (In d) (ap (placed R) by ∙ own_placed v R a x own)
      (placed_by_head (commits R) R a.pages (heads_kept R a.pages a.legal.valid a.shown) d h has) in
      let was = (own_runs_on v R a P shown x own).heads d mine in
      (mine, subst (KeepsHead P a.pages d) (head_one a.pages d was.0 h was.2.head has) was.2)

  -- that of a page which was seen
  pub seen_head : Has P d h → In d (placed v.seen x) × KeepsHead P a.pages d h
  seen_head has =
      let mine : In d (placed v.seen x) = subst (In d) (ap (placed v.seen) by)
      (placed_by_head (commits v.seen) v.seen P (heads_kept v.seen P (seen_legal v R a).valid shown) d h has) in
      let was = (own_runs_on v R a P shown x own).heads d mine in
      (mine, subst (KeepsHead P a.pages d) (head_one P d was.0 h was.1 has) was.2)
