-- The steady facts of legal logs, and what their heads and pairs say.
use Rattle.std.proofs.Common.{◌≡◌, ◌≢◌, ◌⊎◌, ◌++◌, ℕ, [], length, sym, ap, subst, ◌∙◌}
use Rattle.std.specs.Prelude.{Some, None}
use Rattle.ts_base.specs.Keys.{Key}
use Rattle.page_types.specs.declared.page.Head.{Head}
use Rattle.core_state.specs.Log.{Log, Pages, In, Shows, commits}
use Rattle.core_state.specs.Documents.{Doc, Has, page_of, slot_of, marked, head_of, doc_at}
use Rattle.core_state.specs.Index.{Pending, HasRow, Main}
use Rattle.core_state.specs.Legal.{IsLegal, RecordsAreValid, Pin, Keeps}
use Rattle.core_state.specs.Bullets.{Owned, PairsAreOwned, StaysIndexed, DeletedStays}
use Rattle.core_state.specs.Steady.{SteadyFacts, SteadyHold}
use Rattle.core_state.specs.Inner.Ghosts.{Ghost}
use Rattle.core_state.proofs.SteadyPages.{free_untouched, deleted_stay}
use Rattle.core_state.proofs.HeadSteps.{one_item}
use Rattle.core_state.proofs.StaysIndexed.{same_doc}
use Rattle.core_state.proofs.SteadyEnds.{ends_stay_behind, heads_kept}
use Rattle.core_state.proofs.Law.MainPlaces.{MainAt}
use Rattle.core_state.proofs.Law.Belows.{main_at}
use Rattle.core_state.proofs.Law.LineEffects.{on_line}
use Rattle.core_state.proofs.Law.Invariant.{Inv}
use Rattle.core_state.proofs.Law.Steps.{StepHolds}
use Rattle.core_state.proofs.Law.Runs.{Holds, plain_run, pin_run}
use Rattle.core_state.proofs.Law.RunningStays.{runs_on_behind}
use Rattle.core_state.proofs.Law.IndexStays.{index_stays_behind}
use Rattle.core_state.proofs.Law.SnapshotsStay.{live_stays, all_live_stay}
use Rattle.core_state.proofs.Law.DeadRows.{dead_rows, readings_stay}
use Rattle.core_state.proofs.Law.PlacesStay.{places_stay, pinned_stay}
use Rattle.core_state.proofs.Law.CommittedWhole.{AreWhole, committed_whole}
use Rattle.core_state.proofs.Law.AllCases.{all_steps}

facts : StepHolds → (R later : Log) (P Q : Pages) → R ≢ [] → RecordsAreValid R → RecordsAreValid (later ++ R)
    → Shows R P
    → Shows (later ++ R) Q → SteadyFacts R later (later ++ R) P Q
facts step R later P Q some v v' shown shown' = record {
  runs_on = λ x runs leaves. runs_on_behind step x later R v v' some P Q shown shown' runs leaves;
  ends_stay = ends_stay_behind later R v';
  index_stays = λ leaves. index_stays_behind step later R v' some P Q shown shown' leaves;
  free = free_untouched R P v shown;
  live_stay = all_live_stay step later R P Q v' shown shown';
  live_stay_under = λ pin k. live_stays step pin later R P Q v' k.each shown shown';
  dead_rows = dead_rows step later R v' P Q shown shown';
  readings_stay = readings_stay later R;
  places = places_stay step later R v' some P Q shown shown';
  places_under = λ pin k low. pinned_stay step pin later R v' k.each low P Q shown shown';
}

pub steady_holds : StepHolds → SteadyHold
steady_holds step R later R' P P' e some legal legal' shown shown' =
    subst (λ (S : Log). SteadyFacts R later S P P') (sym e) (facts step R later P P' some legal.valid
    (subst RecordsAreValid e legal'.valid) shown (subst (λ (S : Log). Shows S P') e shown'))

module _ (n L : ℕ) (R : Log) (P : Pages) (g : Ghost) (v : Inv n L R P g) where
  -- each pair is a key of a whole document
  pending_owned : (k : Key) (i : ℕ) → Pending P k i → Owned P k i
  pending_owned k i p =
      let o = on_line R P g p.row v.lined p.linked in
      let w = v.rows_owned.on_line o.0 p.row ((v.lined.on o.0).0 o.1) o.2 in
      record {
        doc = w.doc;
        head = w.head;
        vector = w.vector;
        item = w.item ∙ p.item;
        has = w.has;
        whole = w.whole;
        key = w.keys k p.key;
      }

  main_owned : (k : Key) (i : ℕ) → Main P k i → Owned P k i
  main_owned k i m = go (main_at L P g (record {
    kinds = v.kinds;
    posts = v.posts;
    rooted = v.posts_rooted;
    named = v.named;
  }) k i m)
    where
      go : MainAt P g k i → Owned P k i
      go (MainAt.listed q e bytes on key is there) = subst (λ (z : Key). Owned P z i) key (v.items_owned.inline q i e
          bytes on is there)
      go (MainAt.posted q s at key there) = subst (λ (z : Key). Owned P z i) key (v.items_owned.posted q s i at there)

  no_head : (d : Doc) (h : Head) (i : ℕ) → Has P d h → d.item ≡ i → head_of P i ≡ None → ⊥
  no_head d h i has e free = let f : Some h ≡ None = sym has.at ∙ ap (head_of P) e ∙ free in cc

  row_not_free : (i : ℕ) → head_of P i ≡ None → HasRow P i → ⊥
  row_not_free i free k =
      let o = on_line R P g k.row v.lined k.linked in
      let w = v.rows_owned.on_line o.0 k.row ((v.lined.on o.0).0 o.1) o.2 in
      no_head w.doc w.head i w.has (w.item ∙ k.item) free

  pub pairs_owned : PairsAreOwned P
  pairs_owned = record {
    pending = pending_owned;
    main = main_owned;
    free_clean = λ i free. record {
      no_row = row_not_free i free;
      no_posting = λ k m. let o = main_owned k i m in
          no_head o.doc o.head i o.has o.item free;
    };
  }

module _ (step : StepHolds) (R : Log) (P : Pages) (legal : IsLegal R) (shown : Shows R P) where
  holds : Holds (commits R) (length R) R P
  holds = plain_run step R legal.valid P shown

  -- of each pair, and of what was indexed, also under a pin; a page that was deleted since a pin is as it was
  pub all_owned : PairsAreOwned P
  all_owned = pairs_owned (commits R) (length R) R P holds.0 holds.1

  pub all_indexed : StaysIndexed R P (commits R)
  all_indexed = holds.1.indexed.stays

  pub indexed_under : (pin : Pin) → Keeps R pin → StaysIndexed R P pin.commits
  indexed_under pin k = (pin_run step pin R k.each P shown).1.indexed.stays

  pub deleted_stays_under : (pin : Pin) → Keeps R pin → DeletedStays R P pin
  deleted_stays_under pin k = deleted_stay R P pin legal.valid k.each shown

-- the four facts hold
pub all_steady : SteadyHold
all_steady = steady_holds all_steps

module _ (R : Log) (P : Pages) (legal : IsLegal R) (shown : Shows R P) where
  -- a head's deleting xid is 0, or has marked the document
  pub deleted_marks : (i : ℕ) (h : Head) → head_of P i ≡ Some h → (h.deleted_by ≡ 0)
      ⊎ In (doc_at i h.serial) (marked R h.deleted_by)
  deleted_marks = (heads_kept R P legal.valid shown).deleted

  -- what is committed and not dead is whole
  pub all_whole : AreWhole (commits R) R P
  all_whole = committed_whole all_steps R legal.valid P shown

  -- no two documents have one page and slot
  pub apart : (d e : Doc) (h k : Head) → Has P d h → Has P e k → page_of d.item ≡ page_of e.item
      → slot_of d.item ≡ slot_of e.item → d ≡ e
  apart d e h k a b page slot = (same_doc P d e h k a b (one_item d.item e.item page slot)).0
