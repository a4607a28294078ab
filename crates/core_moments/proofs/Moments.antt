-- The law over walks, in every legal log.
use Rattle.std.proofs.Common.{◌≤◌, ℕ, List, [], ◌∷◌, length, take, refl, sym, ap, subst, ◌∙◌, arith}
use Rattle.core_state.specs.Log.{Log, Pages, In, Shows, cut}
use Rattle.core_state.specs.Documents.{item_at}
use Rattle.core_state.specs.History.{Document, History, IsHistory, docs}
use Rattle.core_state.specs.Legal.{IsLegal, Pin, Keeps}
use Rattle.core_state.specs.Readings.{Read, AreReads}
use Rattle.core_state.proofs.Showing.{shown_one}
use Rattle.core_state.proofs.Moments.Snapshots.{Told, snapshot_told}
use Rattle.gin_opclass.specs.Class.{Meaning, JudgeIsSound}
use Rattle.core_moments.specs.Walk.{Walk, reads_of}
use Rattle.core_moments.specs.Judging.{IsKept, HasYes}
use Rattle.core_moments.specs.Law.{IsWalkFrom, MomentsHold}
use Rattle.core_moments.proofs.Law as law
use Rattle.core_moments.proofs.Walks.{Reads}

-- what was read is what the moments' pages have
pub reads_at : (R : Log) (start : ℕ) (P : ℕ → Pages) → ((t : ℕ) → start ≤ t → t ≤ length R → Shows (cut t R) (P t))
    → start ≤ length R → (xs : List Read) (from : ℕ) → start ≤ from → from ≤ length R
    → AreReads R from xs → Reads P from (length R) xs
reads_at R start P shown within [] from low high r = high
reads_at R start P shown within (x ∷ xs) from low high r =
    let was = r.2 in (
      r.0,
      ap (λ S. S x.page) (shown_one (cut x.length R) (P x.length) was.0
          (shown x.length (omega (arith, low, r.0)) r.1) was.1) ∙ was.2,
      reads_at R start P shown within xs x.length (omega (arith, low, r.0)) r.1 r.3,
    )

module _ {Q : Type 0} (M : Meaning Q) (S : JudgeIsSound M) (R : Log) (pin : Pin) (H : History)
    (q : Q) (w : Walk) (legal : IsLegal R) (keeps : Keeps R pin)
    (history : IsHistory R H) (walk : IsWalkFrom M q R pin w) (D : Document)
    (there : In D (docs (take pin.commits H))) where
  told : Told R w.meta.length D
  told = snapshot_told R pin H legal keeps history D there w.meta.length walk.reads.0 walk.reads.1

  reads : Reads told.pages w.meta.length (length R) (reads_of w)
  reads = reads_at R w.meta.length told.pages told.shown walk.reads.1 (reads_of w) w.meta.length (omega arith)
      walk.reads.1 (omega arith, walk.reads.1, walk.reads.2, walk.reads.3)

  pub keeps_it : M.satisfies q D.vector → IsKept M q w (item_at D.name.page D.name.slot)
  keeps_it sat = subst (IsKept M q w) told.item_is
      (law.is_kept told.pages w.meta.length (length R) told.trees told.item told.pends D.vector told.facts M S q w
      walk.sought walk.are_sought walk.is_walk refl reads sat)

  pub satisfies_it : HasYes M q w (item_at D.name.page D.name.slot) → M.satisfies q D.vector
  satisfies_it given =
      law.is_right told.pages w.meta.length (length R) told.trees told.item told.pends D.vector told.facts M S q w
      walk.sought walk.are_sought walk.is_walk refl reads (subst (HasYes M q w) (sym told.item_is) given)

pub law_holds : {Q : Type 0} (M : Meaning Q) → MomentsHold M
law_holds M S R pin H q w legal keeps history walk = record {
  kept = λ D i sat. keeps_it M S R pin H q w legal keeps history walk D i sat;
  yes = λ D i y. satisfies_it M S R pin H q w legal keeps history walk D i y;
}
