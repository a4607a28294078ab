-- In every legal log the heads follow the log, and what is committed, aborted or dead stays so.
use Rattle.std.proofs.Common.{◌≤◌, ℕ, suc, [], ◌∷◌, ◌++◌, length, refl, subst, arith}
use Rattle.page_types.specs.declared.record.Record.{Record}
use Rattle.page_types.specs.declared.record.Kind.{Kind}
use Rattle.page_types.specs.declared.record.Kind.TheVariants as kind
use Rattle.core_state.specs.Log.{Log, Pages, Shows, commits, commits_with}
use Rattle.core_state.specs.Legal.{Valid, RecordsAreValid, Pin, KeepsEach}
use Rattle.core_state.specs.Steady.{EndsStay}
use Rattle.core_state.specs.Inner.XidsDrawn.{XidsDrawn}
use Rattle.core_state.specs.Inner.HeadsKept.{HeadsKept}
use Rattle.core_state.specs.declared.answers.Fate.TheVariants.{Aborted, Committed}
use Rattle.core_state.proofs.Showing.{shown_one}
use Rattle.core_state.proofs.TouchedPages.{none_free}
use Rattle.core_state.proofs.HeadSteps.{HeadStep, head_step}
use Rattle.core_state.proofs.FateSteps.{HasEnded, FateStep, fate_step, ends_stay, drawn_step, dead_stays}
use Rattle.core_state.proofs.HeadsFollow.{heads_follow, heads_more, heads_none}
use Rattle.core_state.proofs.SteadyPages.{touches, elsewhere}

-- what a valid record does to xids and to heads
pub fates_step : (R : Log) (r : Record) (floor since : ℕ) → XidsDrawn R → Valid R r floor since → FateStep R r
fates_step R r floor since D v = fate_step R v.before v.after r floor since D v.rule

pub heads_step : (R : Log) (r : Record) (floor since : ℕ) (v : Valid R r floor since) → HeadStep R v.before v.after r
    floor
heads_step R r floor since v = head_step R v.before v.after r floor since (touches R r floor since v)
    (elsewhere R r floor since v) v.rule

-- the xids of a legal log
pub xids_drawn : (R : Log) → RecordsAreValid R → XidsDrawn R
xids_drawn [] v = record { first = omega arith; fresh = λ x l. refl; none = refl }
xids_drawn (r ∷ R) v = let D = xids_drawn R v.0 in drawn_step R r D (fates_step R r _ _ D v.1)

-- fact by fact over later records
pub ends_stay_behind : (later R : Log) → RecordsAreValid (later ++ R) → EndsStay R (later ++ R)
ends_stay_behind [] R v = record {
  committed_stays = λ x n e. e;
  aborted_stays = λ x e. e;
  dead_stays = λ d floor dead. dead;
}
ends_stay_behind (r ∷ later) R v =
    let S : Log = later ++ R in
    let E = ends_stay_behind later R v.0 in
    let D = xids_drawn S v.0 in
    let F = fates_step S r _ _ D v.1 in
    record {
      committed_stays = λ x n e. ends_stay S r D F x (Committed n) (E.committed_stays x n e) (HasEnded.committed n);
      aborted_stays = λ x e. ends_stay S r D F x Aborted (E.aborted_stays x e) HasEnded.aborted;
      dead_stays = λ d floor dead. dead_stays S r D F floor d (E.dead_stays d floor dead);
    }

-- one record more
heads_on : (n : ℕ) (R : Log) (r : Record) (floor since : ℕ) (v : Valid R r floor since) (P : Pages)
    → HeadsKept n R v.before → floor ≤ n → Shows (r ∷ R) P → HeadsKept n (r ∷ R) P
heads_on n R r floor since v P D low shown =
    subst (HeadsKept n (r ∷ R)) (shown_one (r ∷ R) v.after P v.shown_after shown) (heads_follow n R v.before v.after r
    floor since D low v.rule (heads_step R r floor since v))

pub commits_more : (k : Kind) (c : ℕ) → c ≤ commits_with k c
commits_more (kind.Commit n) c = omega arith
commits_more _ c = omega arith

-- in every legal log the heads follow the log, by all of its commits
pub heads_kept : (R : Log) (P : Pages) → RecordsAreValid R → Shows R P → HeadsKept (commits R) R P
heads_kept [] P v shown = heads_none 0 P (none_free [] P shown refl)
heads_kept (r ∷ R) P v shown =
    heads_more (commits R) (commits (r ∷ R)) (r ∷ R) P (commits_more r.kind (commits R))
    (heads_on (commits R) R r (commits R) (suc (length R)) v.1 P (heads_kept R v.1.before v.0 v.1.shown) (omega arith)
    shown)

-- and by the commits of each pin that it keeps
pub heads_kept_under : (pin : Pin) (R : Log) (P : Pages) → KeepsEach pin R → Shows R P → HeadsKept pin.commits R P
heads_kept_under pin [] P k shown = heads_none pin.commits P (none_free [] P shown refl)
heads_kept_under pin (r ∷ R) P k shown =
    let u = k.1 in
    let v : Valid R r u.0 (suc (length R)) = u.2 in
    heads_on pin.commits R r u.0 (suc (length R)) v P (heads_kept_under pin R v.before k.0 v.shown) u.1 shown
