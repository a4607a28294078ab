-- Where the documents of a legal log are.
use Rattle.std.proofs.Common.{◌≡◌, ◌≢◌, ◌+◌, ℕ, refl, sym, ap, ◌∙◌, inl, inr, arith}
use Rattle.std.specs.Prelude.{Some}
use Rattle.ts_base.specs.Vectors.{Vector}
use Rattle.page_types.specs.declared.page.Head.{Head}
use Rattle.core_state.specs.Log.{Log, Pages, In, commits, fate}
use Rattle.core_state.specs.Documents.{Doc, HasVector, IsDead, placed, marked, head_of, doc_at}
use Rattle.core_state.specs.Changes.{IsDeadHead}
use Rattle.core_state.specs.declared.answers.Fate.TheVariants.{Unused, Running, Aborted, Committed}
use Rattle.core_state.specs.Inner.HeadsKept.{HeadsKept}
use Rattle.core_state.specs.Standing.{IsThere, AreThere, DocumentsHold}
use Rattle.core_state.proofs.FateSteps.{dead_more}
use Rattle.core_state.proofs.Seen.{seen}
use Rattle.core_state.proofs.HeadsFollow.{heads_more}
use Rattle.core_state.proofs.SteadyEnds.{heads_kept}
use Rattle.core_state.proofs.StaysIndexed.{same_doc}
use Rattle.core_state.proofs.Law.Steps.{StepHolds}
use Rattle.core_state.proofs.Law.CommittedWhole.{AreWhole, committed_whole, whole_under}
use Rattle.core_state.proofs.Law.RunningStays.{placed_alive}
use Rattle.core_state.proofs.Law.SnapshotsStay.{history_stands, snapshot_stays, all_history_stands}

are_there : (n : ℕ) (R : Log) (P : Pages) → AreWhole n R P → AreThere R P n
are_there n R P W = record {
  whole = whole;
  apart = λ d e t u same.
      let a = (whole d t).1 in
      let b = (whole e u).1 in
      (same_doc P d e a.0 b.0 a.1 b.1 same).0;
}
  where
    whole : (d : Doc) → IsThere R n d → (v : Vector) × HasVector P d v
    whole d t = W t.xid t.number d t.committed t.placed_by t.alive

-- what heads say, by any floor
module _ (n : ℕ) (R : Log) (P : Pages) (D : HeadsKept n R P) where
  others_aborted : (i : ℕ) (h : Head) (x : ℕ) → head_of P i ≡ Some h → In (doc_at i h.serial) (marked R x)
      → x ≢ h.deleted_by → fate R x ≡ Aborted
  others_aborted i h x at m off = elim (D.marks i h x at m) [ inl a ↦ a | inr e ↦ absurd (off (sym e)) ]

  dead_head : (i : ℕ) (h : Head) (floor : ℕ) → head_of P i ≡ Some h → IsDead R floor (doc_at i h.serial)
      → IsDeadHead (fate R) floor h
  dead_head i h floor at (IsDead.insert_aborted x e p) = IsDeadHead.insert_aborted
      (ap (fate R) (D.once h.inserted_by x _ _ (D.inserted i h at) p refl).0 ∙ e)
  dead_head i h floor at (IsDead.delete_counted x m e l p) = elim (D.marks i h x at p) [
    | inl a ↦ absurd (clash (sym a ∙ e))
    | inr by ↦ IsDeadHead.delete_counted m (ap (fate R) by ∙ e) l
  ]
    where
      clash : Aborted ≡ Committed m → ⊥
      clash f = cc

  head_dead : (i : ℕ) (h : Head) (floor : ℕ) → head_of P i ≡ Some h → IsDeadHead (fate R) floor h
      → IsDead R floor (doc_at i h.serial)
  head_dead i h floor at (IsDeadHead.insert_aborted e) = IsDead.insert_aborted h.inserted_by e (D.inserted i h at)
  head_dead i h floor at (IsDeadHead.delete_counted m e l) = elim (D.deleted i h at) [
    | inl none ↦ absurd (clash (sym D.xids.none ∙ ap (fate R) (sym none) ∙ e))
    | inr by ↦ IsDead.delete_counted h.deleted_by m e l by
  ]
    where
      clash : Unused ≡ Committed m → ⊥
      clash f = cc

  runs_not_dead : (x : ℕ) (d : Doc) (floor : ℕ) → fate R x ≡ Running → In d (placed R x) → IsDead R floor d → ⊥
  runs_not_dead x d floor runs p dead =
      placed_alive (n + floor) R P (heads_more n (n + floor) R P (omega arith) D) x d p
      runs (dead_more R floor (n + floor) d (omega arith) dead)

pub documents_hold : StepHolds → DocumentsHold
documents_hold step R P legal shown =
    let n = commits R in
    let heads = heads_kept R P legal.valid shown in
    record {
      there = are_there n R P (committed_whole step R legal.valid P shown);
      there_under = λ pin k. are_there pin.commits R P (whole_under step pin R k.each P shown);
      inserted = heads.inserted;
      deleted = heads.deleted;
      others_aborted = others_aborted n R P heads;
      dead = λ i h floor at. (dead_head n R P heads i h floor at, head_dead n R P heads i h floor at);
      running = runs_not_dead n R P heads;
      history = all_history_stands step R P legal.valid shown;
      history_under = λ pin k. history_stands step pin R P legal.valid k.each shown;
      snapshot_stays = λ pin k. snapshot_stays step pin R P legal.valid k shown;
      seen = λ i h H m at history. seen n R P legal.valid heads i h at H m history;
    }
