-- A part of a document's vector is put: what is there then.
use Rattle.std.proofs.Common.{◌≡◌, ℕ, List, [], ◌∷◌, ◌++◌, map, refl, sym, subst}
use Rattle.std.specs.Prelude.{Some}
use Rattle.disk_trait.specs.declared.device.Disk.{Ghosts as Disk}
use Rattle.page_types.specs.declared.page.Page.{Page}
use Rattle.page_types.specs.declared.page.Name.{Name}
use Rattle.core_state.specs.Log.{Log, Pages}
use Rattle.core_state.specs.Allowed.{Sheet, Step}
use Rattle.core_state.specs.Documents.{name_of, marked}
use Rattle.core_state.specs.States.{StateValue}
use Rattle.core_state.specs.Steps.{IsNewSheet}
use Rattle.buffer_frames.specs.Drawing.{record_of}
use Rattle.buffer_frames.specs.Passes.{IsPassOf, Seen}
use Rattle.buffer_frames.specs.declared.pass.Pass.{Pass}
use Rattle.engine.specs.Db.{DbValue, state_then}
use Rattle.engine.specs.Work.{IsPartOf}
use Rattle.engine.specs.Inner.Changing.{doc_of, IsPartStep, IsNextPart, LogsStep}
use Rattle.engine.specs.Inner.Parts.{IsPlacedSoFar, HasPlaced}
use Rattle.engine.proofs.Parts.{part_of_step, part_done}
use Rattle.engine.proofs.StepSeen.{GrowsBy, after_step}

-- the record puts a part of the document
pub part_record : (s : StateValue) (x : ℕ) (name : Name) (heap : Page) (part : List ℕ) (page : ℕ) (step : Step)
    → IsPartStep x name heap part page step → IsPartOf x (doc_of name) (record_of s step)
part_record s x name heap part page step made =
    let q = part_of_step x name made.new page made.next part in
    subst (λ (k : Step). IsPartOf x (doc_of name) (record_of s k)) (sym made.step_is) (record {
      xid = refl;
      kind_is = refl;
      images = (q.after, refl, (made.is_page, (made.is_part, tt)), refl);
    })

module _ {D : Type 0} (device : Disk D) (old new : DbValue D) (pass pass' : Pass) (heap fresh : Sheet) (x : ℕ)
    (name : Name) (part : List ℕ) (step : Step) (on : heap.page ≡ name.page)
    (made : IsPartStep x name heap.content part fresh.page step)
    (w : LogsStep device old pass (fresh ∷ heap ∷ []) step new pass') (was : IsPassOf old.frames pass)
    (of : IsPassOf new.frames pass') where
  -- of the document this part is there too, in front of those that were
  pub part_then : (bytes behind : List ℕ) (names : List Name) → pass.xid ≡ Some x → IsNextPart bytes behind part
      → Seen device old.frames pass (λ (S : Log) (P : Pages). IsNewSheet P pass.since fresh.page fresh.content)
      → HasPlaced device old pass x (doc_of name) bytes behind names
      → HasPlaced device new pass' x (doc_of name) bytes (part ++ behind) names
  part_then bytes behind names is next is_new had =
      let d = doc_of name in
      let held = fresh ∷ heap ∷ [] in
      let serial = (state_then old).next_serial in
      after_step device old new pass pass' held step w was of x
      (λ (S : Log) (P : Pages). (IsPlacedSoFar S P x d bytes behind × (map name_of (marked S x) ≡ names))
      × IsNewSheet P pass.since fresh.page fresh.content)
      (λ (S : Log) (P : Pages). IsPlacedSoFar S P x d bytes (part ++ behind) × (map name_of (marked S x) ≡ names)) is
      (λ S P h. h.0.0.runs)
      (λ S R P P' Q r g h. part_done heap fresh x serial pass.since name bytes behind part names made.new made.next
      (made.leads).head (made.leads).there (made.leads).changes (made.leads).next_is next on made.place.1 S R P P' Q r
      (subst (λ (k : Step). GrowsBy held k x serial S P R P' r Q) made.step_is g) h.0.0 h.1 h.0.1)
      (λ t up R stands legal P shown. (had t up R stands legal P shown, is_new t up R stands legal P shown))
