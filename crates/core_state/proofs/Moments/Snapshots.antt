-- A document of a pin's snapshot at the moments past it, from which the law over walks follows.
use Rattle.std.proofs.Common.{◌≡◌, ◌≢◌, ◌<◌, ◌≤◌, ◌-◌, ℕ, zero, suc, List, [], ◌∷◌, ◌++◌, length, take, drop, refl, sym}
use Rattle.std.proofs.Common.{ap, subst, ◌∙◌, inl, inr, arith}
use Rattle.core_state.specs.Log.{Log, Pages, In, Shows, cut}
use Rattle.core_state.specs.Documents.{Doc, item_at, name_of}
use Rattle.core_state.specs.History.{Document, History, IsHistory, docs}
use Rattle.core_state.specs.Bullets.{WasIndexed}
use Rattle.core_state.specs.Legal.{RecordsAreValid, IsLegal, Pin, Keeps}
use Rattle.core_state.specs.Inner.Ghosts.{Ghost}
use Rattle.core_state.proofs.HeadSteps.{item_is}
use Rattle.core_state.proofs.Visible.{Visible, visible}
use Rattle.core_state.proofs.Law.Steps.{StepHolds}
use Rattle.core_state.proofs.Law.Runs.{past_run}
use Rattle.core_state.proofs.Law.AllCases.{all_steps}
use Rattle.core_state.proofs.Law.CommitsIndexed.{commits_indexed}
use Rattle.core_state.proofs.Law.SnapshotsStay.{shown_pages, commit_within, commit_before}
use Rattle.core_state.proofs.Moments.Timeline.{Timeline, Moments, moments_of, from_later}
use Rattle.core_state.proofs.Moments.Told.{Trees, Pends, Facts}
use Rattle.core_state.proofs.Moments.Phases.{trees, pends}
use Rattle.core_state.proofs.Moments.Facts.{mine}
use Rattle.core_state.proofs.Moments.Snapshot.{facts}

-- what holds from the moment `start` on of a document of a snapshot
pub record Told (R : Log) (start : ℕ) (D : Document) : Type 1 where
  pub pages : ℕ → Pages
  pub shown : (t : ℕ) → start ≤ t → t ≤ length R → Shows (cut t R) (pages t)
  pub trees : Trees pages start (length R)
  pub item : ℕ
  pub item_is : item ≡ item_at D.name.page D.name.slot
  pub pends : Pends pages start (length R) item
  pub facts : Facts pages start (length R) trees item pends D.vector

-- at the pin's length a document of its snapshot was indexed
pub was_indexed : (pin : Pin) (R : Log) (D : Document) (V : Visible R pin.commits D) → RecordsAreValid R
    → length V.inserted.commit.earlier < pin.length → pin.length ≤ length R
    → WasIndexed (cut pin.length R) V.inserted.doc
was_indexed pin R D V valid l w =
    let c = V.inserted.commit in
    let b = commit_before pin R D V l w in
    record {
      later = b.0 ++ c.by ∷ [];
      then = c.earlier;
      goes_on = b.1 ∙ sym (Rattle.std.proofs.Common.append_assoc b.0 (c.by ∷ []) c.earlier);
      pages = c.pages;
      shown = c.shown;
      indexed = commits_indexed R valid c.later c.earlier c.by V.inserted.number c.pages c.log_is c.kind_is c.shown
          V.inserted.doc c.placed_by;
    }

-- what was indexed at a moment was so for all later ones
later_indexed : (R : Log) (early late : ℕ) (d : Doc) → early ≤ late → late ≤ length R → WasIndexed (cut early R) d
    → WasIndexed (cut late R) d
later_indexed R early late d l b w =
    let c : (later : Log) × (cut late R ≡ later ++ cut early R) = between in
    record {
      later = c.0 ++ w.later;
      then = w.then;
      goes_on = c.1 ∙ ap (λ z. c.0 ++ z) w.goes_on
          ∙ sym (Rattle.std.proofs.Common.append_assoc c.0 w.later w.then);
      pages = w.pages;
      shown = w.shown;
      indexed =
          w.indexed;
    }
  where
    parts : (n m : ℕ) (S : Log) → n ≤ m → (later : Log) × (drop n S ≡ later ++ drop m S)
    parts zero zero S le = ([], refl)
    parts zero (suc m) [] le = ([], refl)
    parts zero (suc m) (r ∷ S) le = let k = parts zero m S (omega arith) in (r ∷ k.0, ap (λ z. r ∷ z) k.1)
    parts (suc n) zero S le = absurd (omega (arith, le))
    parts (suc n) (suc m) [] le = ([], refl)
    parts (suc n) (suc m) (r ∷ S) le = parts n m S (omega (arith, le))

    between : (later : Log) × (cut late R ≡ later ++ cut early R)
    between = parts (length R - late) (length R - early) R (omega (arith, l, b))

module _ (step : StepHolds) (R : Log) (pin : Pin) (H : History) (legal : IsLegal R) (keeps : Keeps R pin)
    (history : IsHistory R H) (D : Document) (there : In D (docs (take pin.commits H)))
    (start : ℕ) (from : pin.length ≤ start) (within : start ≤ length R) where
  V : Visible R pin.commits D
  V = visible R H pin.commits D legal.valid history there

  early : length V.inserted.commit.earlier < pin.length
  early = commit_within pin R D V keeps.counted

  some : 1 ≤ start
  some = omega (arith, early, from)

  moments : (P : Pages) × (g : Ghost) × Moments pin R P g
  moments =
      let P = shown_pages R legal.valid (λ e. let z : length R ≡ 0 = ap length e in omega (arith, z, some, within)) in
      let t = past_run step pin R keeps.each keeps.within P.0 P.1 in
      (P.0, t.0, moments_of pin R P.0 t.0 t.2)

  T : Timeline pin start R moments.2.pages moments.2.ghosts
  T = from_later pin pin.length start R moments.2.pages moments.2.ghosts from moments.2.timeline

  was : WasIndexed (cut start R) V.inserted.doc
  was = later_indexed R pin.length start V.inserted.doc from within
      (was_indexed pin R D V legal.valid early keeps.within)

  same_item : V.inserted.doc.item ≡ item_at D.name.page D.name.slot
  same_item = sym (item_is V.inserted.doc.item (name_of V.inserted.doc).page refl)
      ∙ ap (λ n. item_at n.page n.slot) (sym V.inserted.named)

  pub told_by : Told R start D
  told_by = record {
    pages = moments.2.pages;
    shown = T.shown;
    trees = trees pin R moments.2.pages moments.2.ghosts start T some within;
    item = V.inserted.doc.item;
    item_is = same_item;
    pends = pends pin R moments.2.pages moments.2.ghosts start T some within legal.valid keeps.each
        V.inserted.doc.item (λ t a b. mine step pin R legal.valid keeps.each start from within
        moments.2.pages moments.2.ghosts T D V early t a b);
    facts = facts step pin R legal.valid keeps.each start from within some moments.2.pages moments.2.ghosts T D V
        early was;
  }

-- it holds of each document of a kept pin's snapshot
pub snapshot_told : (R : Log) (pin : Pin) (H : History) → IsLegal R → Keeps R pin → IsHistory R H
    → (D : Document) → In D (docs (take pin.commits H)) → (start : ℕ) → pin.length ≤ start → start ≤ length R
    → Told R start D
snapshot_told R pin H legal keeps history D there start from within =
    told_by all_steps R pin H legal keeps history D there start from within
