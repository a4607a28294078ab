-- Notes of frames and readings, where one comes or goes.
use Rattle.std.proofs.Common.{◌≡◌, ◌≢◌, ℕ, suc, ◌-◌, ◌<◌, ◌≤◌, ◌==◌, cond, Bool, true, false, List, [], ◌∷◌, ◌++◌}
use Rattle.std.proofs.Common.{length, drop, refl, sym, ap, subst, ◌∙◌, inl, inr, ⊎_elim, arith, eq-eqb, ne_eqb}
use mathlib.Core.Logic.{dite}
use native.Mathlib.Decide.{ℕ_discrete}
use Rattle.core_state.specs.Log.{Log, In, Pages, Shows, cut}
use Rattle.core_state.specs.Readings.{Read, WasShown, AreReads}
use Rattle.latch_table.specs.declared.slots.Journaled.{Ghosts as Journaled}
use Rattle.latch_table.specs.declared.states.Note.{Note}
use Rattle.latch_table.specs.declared.states.Reading.{Reading}
use Rattle.latch_table.specs.PassStates.{reads, without}
use Rattle.latch_table.specs.Shapes.{Shape}
use Rattle.latch_table.specs.Lines.{Absent, IsNote, HasFrames}

pub cut_whole : (R : Log) → cut (length R) R ≡ R
cut_whole R = ap (λ n. drop n R) (let e : length R - length R ≡ 0 = omega arith in e)

abbrev read_of : Reading → Read
read_of x = record { length = x.length; page = x.page; content = x.content }

-- one reading more, at the log's length
reads_more : (R : Log) (from : ℕ) (xs : List Reading) (y : Reading) → from ≤ length R → y.length ≡ length R
    → WasShown R (read_of y) → AreReads R from (reads xs) → AreReads R from (reads (xs ++ y ∷ []))
reads_more R from [] y le is shown r = (omega arith, omega arith, shown, tt)
reads_more R from (x ∷ xs) y le is shown r = (r.0, r.1, r.2, reads_more R x.length xs y r.1 is shown r.3)

-- the same where it is a reading
pub reads_if : (b : Bool) (R : Log) (from : ℕ) (xs : List Reading) (y : Reading) → from ≤ length R → y.length ≡ length R
    → WasShown R (read_of y) → AreReads R from (reads xs) → AreReads R from (reads (cond b (xs ++ y ∷ []) xs))
reads_if true R from xs y le is shown r = reads_more R from xs y le is shown r
reads_if false R from xs y le is shown r = r

-- what the log shows now was shown at its length
pub shown_now : (R : Log) (P : Pages) (p : ℕ) → Shows R P
    → WasShown R (record { length = length R; page = p; content = P p })
shown_now R P p shows = (P, subst (λ (l : Log). Shows l P) (sym (cut_whole R)) shows, refl)

absent_if : (b : Bool) (k : ℕ) (f : Note) (fs gs : List Note) → k ≢ f.frame → Absent k fs → Absent k gs
    → Absent k (cond b fs (f ∷ gs))
absent_if true k f fs gs ne t u = t
absent_if false k f fs gs ne t u = (ne, u)

absent_without : (k i : ℕ) (fs : List Note) → Absent k fs → Absent k (without i fs)
absent_without k i [] t = tt
absent_without k i (f ∷ fs) t = absent_if (f.frame == i) k f fs (without i fs) t.0 t.1 (absent_without k i fs t.1)

-- a note of another frame stays
pub in_without : (i : ℕ) (g : Note) (fs : List Note) → g.frame ≢ i → In g fs → In g (without i fs)
in_without i g [] ne there = absurd there
in_without i g (f ∷ fs) ne there = dite (ℕ_discrete f.frame i)
    (λ (e : f.frame ≡ i). subst (λ b. In g (cond b fs (f ∷ without i fs))) (sym (eq-eqb f.frame i e))
    (⊎_elim (λ (same : g ≡ f). absurd (ne (ap (λ (x : Note). x.frame) same ∙ e))) (λ rest. rest) there))
    (λ n. subst (λ b. In g (cond b fs (f ∷ without i fs))) (sym (ne_eqb f.frame i n))
    (⊎_elim (λ same. inl same) (λ rest. inr (in_without i g fs ne rest)) there))

module _ {J : Type 0} (journal : Journaled J) (start : J) where
  -- a note of the seat's says of its frame
  pub note_in : (h : Shape J) (j : ℕ) (g : Note) (fs : List Note) → HasFrames journal start h j fs → In g fs
      → (g.frame < h.frames) × (h.holder g.frame ≡ suc j) × IsNote journal start h g
  note_in h j g [] t there = absurd there
  note_in h j g (f ∷ fs) t there = ⊎_elim
      (λ (same : g ≡ f). subst (λ (x : Note). (x.frame < h.frames) × (h.holder x.frame ≡ suc j)
      × IsNote journal start h x) (sym same) (t.0, t.1, t.2))
      (λ rest. note_in h j g fs t.4 rest) there

  -- a frame of another holder is not among the notes
  pub absent_free : (h : Shape J) (j i : ℕ) (fs : List Note) → h.holder i ≢ suc j → HasFrames journal start h j fs
      → Absent i fs
  absent_free h j i [] other t = tt
  absent_free h j i (f ∷ fs) other t = ((λ e. other (ap h.holder e ∙ t.1)), absent_free h j i fs other t.4)

  -- the notes of a seat that keeps its words
  pub notes_holder : (h : Shape J) (holder' owner' : ℕ → ℕ) (j : ℕ) (fs : List Note)
      → ((k : ℕ) → h.holder k ≡ suc j → holder' k ≡ suc j) → HasFrames journal start h j fs
      → HasFrames journal start (record h { holder = holder'; owner = owner' }) j fs
  notes_holder h holder' owner' j [] stays t = tt
  notes_holder h holder' owner' j (f ∷ fs) stays t = (
    t.0,
    stays f.frame t.1,
    record { placed = t.2.placed; shown = t.2.shown },
    t.3,
    notes_holder h holder' owner' j fs stays t.4,
  )

  -- notes that lack frame i, where only its word changes
  notes_else : (h : Shape J) (holder' : ℕ → ℕ) (j i : ℕ) (fs : List Note) → ((k : ℕ) → k ≢ i → holder' k ≡ h.holder k)
      → Absent i fs → HasFrames journal start h j fs → HasFrames journal start (record h { holder = holder' }) j fs
  notes_else h holder' j i [] stays none t = tt
  notes_else h holder' j i (f ∷ fs) stays none t = (
    t.0,
    stays f.frame (λ e. none.0 (sym e)) ∙ t.1,
    record { placed = t.2.placed; shown = t.2.shown },
    t.3,
    notes_else h holder' j i fs stays none.1 t.4,
  )

  -- the notes once frame i is given back
  pub notes_without : (h : Shape J) (holder' : ℕ → ℕ) (j i : ℕ) (fs : List Note)
      → ((k : ℕ) → k ≢ i → holder' k ≡ h.holder k)
      → HasFrames journal start h j fs → HasFrames journal start (record h { holder = holder' }) j (without i fs)
  notes_without h holder' j i [] stays t = tt
  notes_without h holder' j i (f ∷ fs) stays t = dite (ℕ_discrete f.frame i)
      (λ (e : f.frame ≡ i). subst (λ b. HasFrames journal start (record h {
        holder = holder';
      }) j (cond b fs (f ∷ without i fs))) (sym (eq-eqb f.frame i e))
      (notes_else h holder' j i fs stays (subst (λ k. Absent k fs) e t.3) t.4))
      (λ n. subst (λ b. HasFrames journal start (record h {
        holder = holder';
      }) j (cond b fs (f ∷ without i fs))) (sym (ne_eqb f.frame i n)) (
        t.0,
        stays f.frame n ∙ t.1,
        record { placed = t.2.placed; shown = t.2.shown },
        absent_without f.frame i fs t.3,
        notes_without h holder' j i fs stays t.4,
      ))
