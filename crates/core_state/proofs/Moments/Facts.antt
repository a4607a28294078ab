-- What holds, over the moments past a pin, of a document of its snapshot.
use Rattle.std.proofs.Common.{◌≡◌, ◌<◌, ◌≤◌, ◌+◌, ◌-◌, ℕ, suc, [], ◌∷◌, ◌++◌, length, length-append, append_assoc, drop}
use Rattle.std.proofs.Common.{refl, sym, ap, subst, ◌∙◌, arith}
use Rattle.std.proofs.lemmas.List.{drop-append-le}
use Rattle.core_state.specs.Log.{Log, Pages, In, Shows, fate, fate_with, cut}
use Rattle.core_state.specs.Documents.{Doc, HasVector, IsDead, placed}
use Rattle.core_state.specs.History.{Document}
use Rattle.core_state.specs.Legal.{RecordsAreValid, Pin, KeepsEach}
use Rattle.core_state.specs.VacuumRules.{MayLeave}
use Rattle.core_state.specs.declared.answers.Fate.TheVariants.{Running, Committed}
use Rattle.core_state.specs.Inner.Ghosts.{Ghost}
use Rattle.core_state.specs.Inner.Effects.{NewRow}
use Rattle.core_state.proofs.RunningOnes.{on_same}
use Rattle.core_state.proofs.FateSteps.{placed_on}
use Rattle.core_state.proofs.SteadyEnds.{ends_stay_behind}
use Rattle.core_state.proofs.StaysIndexed.{same_doc, placed_by_head}
use Rattle.core_state.proofs.Law.Steps.{StepHolds}
use Rattle.core_state.proofs.Visible.{Visible}
use Rattle.core_state.proofs.SteadyPages.{valid_behind}
use Rattle.core_state.proofs.Law.SnapshotsStay.{behind_cut, keeps_behind, alive, alive_before, vector_stays}
use Rattle.core_state.proofs.Moments.Timeline.{Timeline, cut_all}

pub placed_behind : (later R : Log) (x : ℕ) (d : Doc) → In d (placed R x) → In d (placed (later ++ R) x)
placed_behind [] R x d i = i
placed_behind (r ∷ later) R x d i = placed_on r (later ++ R) x d (placed_behind later R x d i)

module _ (step : StepHolds) (pin : Pin) (R : Log) (v : RecordsAreValid R) (k : KeepsEach pin R) (start : ℕ)
    (from : pin.length ≤ start) (within : start ≤ length R)
    (P : ℕ → Pages) (g : ℕ → Ghost) (T : Timeline pin start R P g) (D : Document) (V : Visible R pin.commits D)
    (early : length V.inserted.commit.earlier < pin.length) where
  -- the log of a moment goes on after the document's commit
  log_at : (t : ℕ) → start ≤ t → t ≤ length R
      → (later : Log) × (cut t R ≡ later ++ V.inserted.commit.by ∷ V.inserted.commit.earlier)
  log_at t a b =
      let c = V.inserted.commit in
      let n : length R ≡ length c.later + suc (length c.earlier) = ap length c.log_is
      ∙ length-append c.later (c.by ∷ c.earlier) in (
        drop (length R - t) c.later,
        ap (λ z. drop (length R - t) z) c.log_is ∙ drop-append-le (length R - t) c.later (c.by ∷ c.earlier)
            (omega (arith, n, early, from, a)),
      )

  valid_at : (t : ℕ) → RecordsAreValid (cut t R)
  valid_at t = let b = behind_cut R t in valid_behind b.0 (cut t R) (subst RecordsAreValid b.1 v)

  keeps_at : (t : ℕ) → KeepsEach pin (cut t R)
  keeps_at t = let b = behind_cut R t in keeps_behind pin b.0 (cut t R) (subst (KeepsEach pin) b.1 k)

  alive_end : IsDead R pin.commits V.inserted.doc → ⊥
  alive_end = alive R pin.commits D (P (length R)) v
      (subst (λ z. Shows z (P (length R))) (cut_all R (length R) refl) (T.shown (length R) within (omega arith))) V

  pub alive_at : (t : ℕ) → IsDead (cut t R) pin.commits V.inserted.doc → ⊥
  alive_at t dead =
      let b = behind_cut R t in
      alive_before b.0 (cut t R) pin.commits V.inserted.doc (subst RecordsAreValid b.1 v)
      (λ x. alive_end (subst (λ z. IsDead z pin.commits V.inserted.doc) (sym b.1) x)) dead

  pub there : (t : ℕ) → start ≤ t → t ≤ length R → HasVector (P t) V.inserted.doc D.vector
  there t a b =
      let c = V.inserted.commit in
      let l = log_at t a b in
      let form : cut t R ≡ (l.0 ++ c.by ∷ []) ++ c.earlier = l.1 ∙ sym (append_assoc l.0 (c.by ∷ []) c.earlier) in
      vector_stays step pin V.inserted.doc D.vector (l.0 ++ c.by ∷ []) c.earlier c.pages (P t)
      (subst RecordsAreValid form (valid_at t)) (subst (KeepsEach pin) form (keeps_at t))
      (λ dead. alive_at t (subst (λ z. IsDead z pin.commits V.inserted.doc) (sym form) dead)) c.shown
      (subst (λ z. Shows z (P t)) form (T.shown t a b)) c.vector

  committed_at : (t : ℕ) → start ≤ t → t ≤ length R
      → fate (cut t R) V.inserted.commit.by.xid ≡ Committed V.inserted.number
  committed_at t a b =
      let c = V.inserted.commit in
      let l = log_at t a b in
      let here : fate (c.by ∷ c.earlier) c.by.xid ≡ Committed V.inserted.number =
      ap (λ z. fate_with z c.by.xid c.by.xid (fate c.earlier c.by.xid)) c.kind_is
      ∙ on_same c.by.xid c.by.xid (Committed V.inserted.number) (fate c.earlier c.by.xid) refl in
      ap (λ z. fate z c.by.xid) l.1
      ∙ (ends_stay_behind l.0 (c.by ∷ c.earlier) (subst RecordsAreValid l.1 (valid_at t))).committed_stays c.by.xid
      V.inserted.number here

  placed_at : (t : ℕ) → start ≤ t → t ≤ length R → In V.inserted.doc (placed (cut t R) V.inserted.commit.by.xid)
  placed_at t a b =
      let c = V.inserted.commit in
      let l = log_at t a b in
      subst (λ z. In V.inserted.doc (placed z c.by.xid)) (sym l.1)
      (placed_behind l.0 (c.by ∷ c.earlier) c.by.xid V.inserted.doc
      (placed_on c.by c.earlier c.by.xid V.inserted.doc c.placed_by))

  -- the document isn't being written
  pub mine : (t : ℕ) → start ≤ t → t < length R → NewRow (cut t R) (P t) V.inserted.doc.item → ⊥
  mine t a b n =
      let le : t ≤ length R = omega (arith, b) in
      let heads = (T.inv t a le).heads in
      let h = there t a le in
      let one = same_doc (P t) n.doc V.inserted.doc n.head h.0 n.has h.1 n.item in
      let by = placed_by_head pin.commits (cut t R) (P t) heads n.doc n.head n.has in
      let same = (heads.once n.head.inserted_by V.inserted.commit.by.xid n.doc V.inserted.doc by (placed_at t a le)
      (ap (λ (z : Doc). z.serial) one.0)).0 in
      running_not (sym n.runs ∙ ap (fate (cut t R)) same ∙ committed_at t a le)
    where
      running_not : Running ≡ Committed V.inserted.number → ⊥
      running_not e = cc

  pub no_leave : (t : ℕ) → start ≤ t → t ≤ length R → MayLeave (cut t R) (P t) pin.commits V.inserted.doc.item → ⊥
  no_leave t a b m =
      let h = there t a b in
      let one = same_doc (P t) m.doc V.inserted.doc m.head h.0 m.has h.1 m.item in
      alive_at t (subst (IsDead (cut t R) pin.commits) one.0 m.dead)
