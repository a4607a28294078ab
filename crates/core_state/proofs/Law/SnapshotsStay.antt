-- A document of a pin's snapshot from its commit on: it isn't dead, and it has its slot and its vector.
use Rattle.std.proofs.Common.{◌≡◌, ◌≢◌, ◌⊎◌, ◌<◌, ◌≤◌, ◌+◌, ◌-◌, ℕ, zero, suc, List, [], ◌∷◌, ◌++◌, length}
use Rattle.std.proofs.Common.{length-append, take, drop, refl, sym, ap, subst, ◌∙◌, inl, inr, arith}
use Rattle.std.proofs.lemmas.List.{take-append-drop, drop-append-le}
use Rattle.ts_base.specs.Vectors.{Vector}
use Rattle.page_types.specs.declared.record.Kind.{Kind}
use Rattle.page_types.specs.declared.record.Kind.TheVariants as kind
use Rattle.core_state.specs.Log.{Log, Pages, Shows, fate, commits, commits_with, cut}
use Rattle.core_state.specs.Documents.{Doc, HasVector, IsDead}
use Rattle.core_state.specs.History.{Document, IsStored}
use Rattle.core_state.specs.Legal.{RecordsAreValid, Pin, Keeps, KeepsEach}
use Rattle.core_state.specs.Standing.{HistoryStands, SnapshotStays}
use Rattle.core_state.specs.Steady.{LiveStay}
use Rattle.core_state.specs.declared.answers.Fate.TheVariants.{Aborted, Committed}
use Rattle.core_state.proofs.Showing.{shown_one}
use Rattle.core_state.proofs.FateSteps.{dead_more}
use Rattle.core_state.proofs.SteadyPages.{valid_behind}
use Rattle.core_state.proofs.SteadyEnds.{heads_kept, ends_stay_behind}
use Rattle.core_state.proofs.Visible.{CommittedAt, Visible, visible}
use Rattle.core_state.proofs.Law.Steps.{StepHolds}
use Rattle.core_state.proofs.Law.Runs.{pin_run, step_over}

-- the records after the first t of a log
pub behind_cut : (R : Log) (t : ℕ) → (later : Log) × (R ≡ later ++ cut t R)
behind_cut R t = (take (length R - t) R, sym (take-append-drop (length R - t) R))

pub keeps_behind : (pin : Pin) (later R : Log) → KeepsEach pin (later ++ R) → KeepsEach pin R
keeps_behind pin [] R k = k
keeps_behind pin (r ∷ later) R k = keeps_behind pin later R k.0

-- pages of a log of valid records
pub shown_pages : (R : Log) → RecordsAreValid R → R ≢ [] → (P : Pages) × Shows R P
shown_pages [] v off = absurd (off refl)
shown_pages (r ∷ R) v off = (v.1.after, v.1.shown_after)

-- a document that is in a snapshot isn't dead by its floor
pub alive : (R : Log) (n : ℕ) (D : Document) (P : Pages) → RecordsAreValid R → Shows R P → (V : Visible R n D)
    → IsDead R n V.inserted.doc → ⊥
alive R n D P v shown V (IsDead.insert_aborted x e i) =
    let one = (heads_kept R P v shown).once x V.inserted.xid V.inserted.doc V.inserted.doc i V.inserted.placed_by
    refl in
    aborted_not (sym e ∙ ap (fate R) one.0 ∙ V.inserted.committed)
  where
    aborted_not : Aborted ≡ Committed V.inserted.number → ⊥
    aborted_not f = cc
alive R n D P v shown V (IsDead.delete_counted x c e l i) = V.unmarked x c e l i

-- nor was it before
pub alive_before : (later R : Log) (n : ℕ) (d : Doc) → RecordsAreValid (later ++ R) → (IsDead (later ++ R) n d → ⊥)
    → IsDead R n d → ⊥
alive_before later R n d v off dead = off ((ends_stay_behind later R v).dead_stays d n dead)

module _ (step : StepHolds) (pin : Pin) (d : Doc) (v : Vector) where
  -- a vector that is there stays, as long as the document isn't dead
  pub vector_stays : (later R : Log) (P Q : Pages) → RecordsAreValid (later ++ R) → KeepsEach pin (later ++ R)
      → (IsDead (later ++ R) pin.commits d → ⊥)
      → Shows R P → Shows (later ++ R) Q → HasVector P d v → HasVector Q d v
  vector_stays [] R P Q valid k off shown shown' h = subst (λ S. HasVector S d v) (shown_one R P Q shown shown') h
  vector_stays (r ∷ later) R P Q valid k off shown shown' h =
      let S : Log = later ++ R in
      let w = k.1 in
      let off' : IsDead S pin.commits d → ⊥ = λ dead. alive_before (r ∷ []) S pin.commits d valid off dead in
      let before = vector_stays later R P w.2.before valid.0 k.0 off' shown w.2.shown h in
      let i = pin_run step pin S k.0 w.2.before w.2.shown in
      let a = step_over step pin.commits (length S) S r w.0 (suc (length S)) w.2 w.1 (inr refl)
      (omega arith) w.2.before Q i.0 w.2.shown shown' i.1 in
      elim (a.effects.whole d before.0 v before.1 before.2) [
        | inl there ↦ there
        | inr gone ↦ absurd (off' gone.0)
      ]

more_commits : (k : Kind) (c : ℕ) → c ≤ commits_with k c
more_commits (kind.Commit n) c = omega arith
more_commits _ c = omega arith

commits_behind : (later R : Log) → commits R ≤ commits (later ++ R)
commits_behind [] R = omega arith
commits_behind (r ∷ later) R = omega (arith, commits_behind later R, more_commits r.kind (commits (later ++ R)))

-- a shorter part of a log has no more commits
commits_cut : (t : ℕ) (R S : Log) → t ≤ length S → (later : Log) → R ≡ later ++ S → commits (cut t R) ≤ commits S
commits_cut t R S l later e =
    let n : length R ≡ length later + length S = ap length e ∙ length-append later S in
    let c = behind_cut S t in
    let same : cut t R ≡ cut t S = ap (λ z. drop (length R - t) z) e ∙ part later S (length S - t) (length R - t)
    (omega (arith, n, l)) in
    subst (λ z. commits z ≤ commits S) (sym same)
    (subst (λ z. commits (cut t S) ≤ commits z) (sym c.1) (commits_behind c.0 (cut t S)))
  where
    part : (xs ys : Log) (m k : ℕ) → k ≡ length xs + m → drop k (xs ++ ys) ≡ drop m ys
    part [] ys m k f = let g : k ≡ m = omega (arith, f) in ap (λ z. drop z ys) g
    part (x ∷ xs) ys m k f = ap (λ z. drop z (x ∷ (xs ++ ys)))
        (let g : k ≡ suc (length xs + m) = omega (arith, f) in g) ∙ part xs ys m (length xs + m) refl

-- the record that committed a document is within the pin's length
pub commit_within : (pin : Pin) (R : Log) (D : Document) (V : Visible R pin.commits D)
    → pin.commits ≤ commits (cut pin.length R) → length V.inserted.commit.earlier < pin.length
commit_within pin R D V counted = by
    (Rattle.std.proofs.lemmas.Bool.cases_lt (length V.inserted.commit.earlier) pin.length)
  where
    c : CommittedAt R V.inserted.doc D.vector V.inserted.number
    c = V.inserted.commit

    short : pin.length ≤ length V.inserted.commit.earlier → ⊥
    short le =
        let few = commits_cut pin.length R V.inserted.commit.earlier le
        (V.inserted.commit.later ++ V.inserted.commit.by ∷ [])
        (V.inserted.commit.log_is
        ∙ sym (Rattle.std.proofs.Common.append_assoc V.inserted.commit.later
        (V.inserted.commit.by ∷ []) V.inserted.commit.earlier)) in
        omega (arith, few, counted, V.inserted.commit.number_is, V.inserted.counted)

    by : Rattle.std.proofs.Common.◌⊎◌ (length V.inserted.commit.earlier < pin.length)
        (pin.length ≤ length V.inserted.commit.earlier) → length V.inserted.commit.earlier < pin.length
    by (inl l) = l
    by (inr le) = absurd (short le)

-- the log up to the pin's length goes on after that record
pub commit_before : (pin : Pin) (R : Log) (D : Document) (V : Visible R pin.commits D)
    → length V.inserted.commit.earlier < pin.length → pin.length ≤ length R
    → (later : Log) × (cut pin.length R ≡ later ++ V.inserted.commit.by ∷ V.inserted.commit.earlier)
commit_before pin R D V l w =
    let c = V.inserted.commit in
    let n : length R ≡ length c.later + suc (length c.earlier) = ap length c.log_is
    ∙ length-append c.later (c.by ∷ c.earlier) in (
      drop (length R - pin.length) c.later,
      ap (λ z. drop (length R - pin.length) z) c.log_is ∙ drop-append-le (length R - pin.length) c.later
          (c.by ∷ c.earlier) (omega (arith, n, l)),
    )

-- a log of valid records keeps the pin of all its commits
pub keeps_all : (pin : Pin) (R : Log) → RecordsAreValid R → commits R ≤ pin.commits → length R ≤ pin.length
    → KeepsEach pin R
keeps_all pin [] v c l = tt
keeps_all pin (r ∷ R) v c l =
    let more = more_commits r.kind (commits R) in (
      keeps_all pin R v.0 (omega (arith, more, c)) (omega (arith, l)),
      (commits R, omega (arith, more, c), v.1),
      λ low. absurd (omega (arith, l, low)),
    )

abbrev pub all_pin : Log → Pin
all_pin R = record { commits = commits R; length = length R }

module _ (step : StepHolds) (pin : Pin) where
  -- a document that is somewhere, and isn't dead, is further on
  pub live_stays : (later R : Log) (P Q : Pages) → RecordsAreValid (later ++ R) → KeepsEach pin (later ++ R) → Shows R P
      → Shows (later ++ R) Q → LiveStay (later ++ R) P Q pin.commits
  live_stays later R P Q v k shown shown' D s alive =
      let now = vector_stays step pin s.doc D.vector later R P Q v k alive shown shown' (s.head, s.has, s.content) in
      record { doc = s.doc; head = now.0; name = s.name; has = now.1; content = now.2 }

  -- what is there after so many commits is after its own
  stands_behind : (R : Log) (n : ℕ) (D : Document) (P : Pages) (V : Visible R n D) → RecordsAreValid R → KeepsEach pin R
      → pin.commits ≤ n → Shows R P → (S later : Log) → S ≡ later ++ V.inserted.commit.by ∷ V.inserted.commit.earlier
      → (before : Log) → R ≡ before ++ S → (Q : Pages) → Shows S Q → IsStored Q D
  stands_behind R n D P V v k le shown S later e before f Q shown' =
      let c = V.inserted.commit in
      let form : S ≡ (later ++ c.by ∷ []) ++ c.earlier = e
      ∙ sym (Rattle.std.proofs.Common.append_assoc later (c.by ∷ []) c.earlier) in
      let valid = valid_behind before S (subst RecordsAreValid f v) in
      let keeps = keeps_behind pin before S (subst (KeepsEach pin) f k) in
      let off : IsDead S pin.commits V.inserted.doc → ⊥ = λ dead. alive R n D P v shown V
      (dead_more R pin.commits n V.inserted.doc le (subst (λ (T : Log). IsDead T pin.commits V.inserted.doc) (sym f)
      ((ends_stay_behind before S (subst RecordsAreValid f v)).dead_stays V.inserted.doc pin.commits dead))) in
      let now = vector_stays step pin V.inserted.doc D.vector (later ++ c.by ∷ []) c.earlier c.pages Q
      (subst RecordsAreValid form valid) (subst (KeepsEach pin) form keeps)
      (λ dead. off (subst (λ (T : Log). IsDead T pin.commits V.inserted.doc) (sym form) dead)) c.shown
      (subst (λ (T : Log). Shows T Q) form shown') c.vector in
      record { doc = V.inserted.doc; head = now.0; name = V.inserted.named; has = now.1; content = now.2 }

  pub history_stands : (R : Log) (P : Pages) → RecordsAreValid R → KeepsEach pin R → Shows R P
      → HistoryStands R P pin.commits
  history_stands R P v k shown H n D h le i =
      let V = visible R H n D v h i in
      stands_behind R n D P V v k le shown R V.inserted.commit.later V.inserted.commit.log_is [] refl P shown

  pub snapshot_stays : (R : Log) (P : Pages) → RecordsAreValid R → Keeps R pin → Shows R P → SnapshotStays R pin
  snapshot_stays R P v k shown H D at Q h i from within shown' =
      let V = visible R H pin.commits D v h i in
      let early = commit_within pin R D V k.counted in
      let c = V.inserted.commit in
      let n : length R ≡ length c.later + suc (length c.earlier) = ap length c.log_is
      ∙ length-append c.later (c.by ∷ c.earlier) in
      let b = behind_cut R at in
      stands_behind R pin.commits D P V v k.each (omega arith) shown (cut at R) (drop (length R - at) c.later)
      (ap (λ z. drop (length R - at) z) c.log_is
      ∙ drop-append-le (length R - at) c.later (c.by ∷ c.earlier) (omega (arith, n, early, from))) b.0 b.1 Q shown'

-- and by all commits of a log of valid records
pub all_history_stands : StepHolds → (R : Log) (P : Pages) → RecordsAreValid R → Shows R P
    → HistoryStands R P (commits R)
all_history_stands step R P v shown =
    history_stands step (all_pin R) R P v (keeps_all (all_pin R) R v (omega arith) (omega arith)) shown

pub all_live_stay : StepHolds → (later R : Log) (P Q : Pages) → RecordsAreValid (later ++ R) → Shows R P
    → Shows (later ++ R) Q → LiveStay (later ++ R) P Q (commits (later ++ R))
all_live_stay step later R P Q v shown shown' =
    live_stays step (all_pin (later ++ R)) later R P Q v
    (keeps_all (all_pin (later ++ R)) (later ++ R) v (omega arith) (omega arith)) shown shown'
