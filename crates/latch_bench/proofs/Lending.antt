-- Values of frames in a row, where one is claimed or given back.
use Rattle.std.proofs.Common.{◌≡◌, ◌≢◌, ℕ, zero, suc, ◌+◌, ◌<◌, cond, List, [], ◌∷◌, length, get_or, set, refl}
use Rattle.std.proofs.Common.{sym, ap, subst, ◌∙◌, inl, inr, ⊎_elim, arith, eq-eqb, ne_eqb, length-set}
use Rattle.std.specs.Prelude.{Option, Some, None}
use mathlib.Core.Logic.{dite}
use mathlib.Core.Option.{some, some-ne-none}
use native.Mathlib.Decide.{ℕ_discrete}
use lib.ListN.{get_elem?}
use Rattle.atomic_table.proofs.Lists.{at_set}
use Rattle.core_state.specs.Log.{In}
use Rattle.latch_table.specs.declared.states.Note.{Note}
use Rattle.latch_table.specs.PassStates.{without}
use Rattle.latch_table.specs.Lines.{Absent}
use Rattle.latch_table.specs.declared.states.PassState.{PassState}
use Rattle.latch_table.specs.Told.{HasClaimed}
use Rattle.latch_bench.specs.declared.slots.Leaf.{Leaf}
use Rattle.latch_bench.specs.declared.slots.Tally.{Tally}
use Rattle.latch_bench.specs.Slots.{leaf, tally}
use Rattle.latch_bench.specs.Lent.{IsLent, taken, AreLent}

-- a frame after all that are noted is not noted
pub absent_after : (k : ℕ) (fs : List Note) → ((f : Note) → In f fs → f.frame < k) → Absent k fs
absent_after k [] low = tt
absent_after k (f ∷ fs) low = ((λ e. let l = low f (inl refl) in omega arith), absent_after k fs (λ g i. low g (inr i)))

-- another note is there still once a frame is given back
in_without : (k : ℕ) (f : Note) (fs : List Note) → In f fs → f.frame ≢ k → In f (without k fs)
in_without k f [] i ne = absurd i
in_without k f (g ∷ fs) i ne = dite (ℕ_discrete g.frame k)
    (λ (e : g.frame ≡ k). subst (λ b. In f (cond b fs (g ∷ without k fs))) (sym (eq-eqb g.frame k e))
    (⊎_elim (λ (same : f ≡ g). absurd (ne (ap (λ (n : Note). n.frame) same ∙ e))) (λ j. j) i))
    (λ off. subst (λ b. In f (cond b fs (g ∷ without k fs))) (sym (ne_eqb g.frame k off))
    (⊎_elim (λ (same : f ≡ g). inl same) (λ j. inr (in_without k f fs j ne)) i))

fewer : (k : ℕ) (f : Note) (fs : List Note) → In f fs → f.frame ≡ k → suc (length (without k fs)) ≡ length fs
fewer k f [] i at = absurd i
fewer k f (g ∷ fs) i at = dite (ℕ_discrete g.frame k)
    (λ (e : g.frame ≡ k). subst (λ b. suc (length (cond b fs (g ∷ without k fs))) ≡ suc (length fs))
    (sym (eq-eqb g.frame k e)) refl)
    (λ off. subst (λ b. suc (length (cond b fs (g ∷ without k fs))) ≡ suc (length fs)) (sym (ne_eqb g.frame k off))
    (⊎_elim (λ (same : f ≡ g). absurd (off (sym (ap (λ (n : Note). n.frame) same) ∙ at)))
    (λ j. ap suc (fewer k f fs j at)) i))

taken_more : (xs : List (Option Leaf)) (k : ℕ) (x : Leaf) → get_elem? xs k ≡ some None
    → taken (set xs k (Some x)) ≡ suc (taken xs)
taken_more [] k x e = absurd (some-ne-none None (sym e))
taken_more (y ∷ xs) zero x e =
    let q : y ≡ None = cc e in subst (λ (z : Option Leaf). suc (taken xs) ≡ suc (taken (z ∷ xs))) (sym q) refl
taken_more (None ∷ xs) (suc k) x e = taken_more xs k x e
taken_more (Some y ∷ xs) (suc k) x e = ap suc (taken_more xs k x e)

taken_less : (xs : List (Option Leaf)) (k : ℕ) (x : Leaf) → get_elem? xs k ≡ some (Some x)
    → suc (taken (set xs k None)) ≡ taken xs
taken_less [] k x e = absurd (some-ne-none (Some x) (sym e))
taken_less (y ∷ xs) zero x e =
    let q : y ≡ Some x = cc e in subst (λ (z : Option Leaf). suc (taken xs) ≡ taken (z ∷ xs)) (sym q) refl
taken_less (None ∷ xs) (suc k) x e = taken_less xs k x e
taken_less (Some y ∷ xs) (suc k) x e = ap suc (taken_less xs k x e)

taken_none : (xs : List (Option Leaf)) → ((k : ℕ) → k < length xs → get_elem? xs k ≡ some None) → taken xs ≡ 0
taken_none [] all = refl
taken_none (y ∷ xs) all =
    let q : y ≡ None = cc (all zero (omega arith)) in
    subst (λ (z : Option Leaf). taken (z ∷ xs) ≡ 0) (sym q) (taken_none xs (λ k lt. all (suc k) (omega arith)))

-- one more frame is claimed, at a place without a value
pub lent_more : (notes : List Note) (base k : ℕ) (row : List (Option Leaf)) (note : Note) (x : Leaf)
    → AreLent notes base row
    → get_elem? row k ≡ some None → note.frame ≡ base + k → x.page ≡ note.page → note.bytes ≡ []
    → AreLent (note ∷ notes) base (set row k (Some x))
lent_more notes base k row note x a empty frame page bytes = record {
  four = length-set row k (Some x) ∙ a.four;
  each = λ j y is. ⊎_elim
      (λ (t : (j ≡ k) × (Some x ≡ Some y)).
      let q : x ≡ y = cc (t.1) in
      (note, inl refl, frame ∙ ap (λ n. base + n) (sym t.0), ap (λ (z : Leaf). z.page) (sym q) ∙ page, bytes))
      (λ (t : (j ≢ k) × (get_elem? row j ≡ some (Some y))).
      let l = a.each j y t.1 in (l.0, inr l.1, l.2, l.3, l.4))
      (at_set row k j (Some x) (Some y) is);
  many = ap suc a.many ∙ sym (taken_more row k x empty);
}

-- one is given back
pub lent_less : (notes : List Note) (base k : ℕ) (row : List (Option Leaf)) (x : Leaf) → AreLent notes base row
    → get_elem? row k ≡ some (Some x) → AreLent (without (base + k) notes) base (set row k None)
lent_less notes base k row x a there =
    let mine = a.each k x there in
    let less = fewer (base + k) mine.0 notes mine.1 mine.2 in
    let count = taken_less row k x there in
    let many = a.many in
    record {
      four = length-set row k None ∙ a.four;
      each = λ j y is. ⊎_elim
          (λ (t : (j ≡ k) × (None ≡ Some y)). absurd (let z = t.1 in cc z))
          (λ (t : (j ≢ k) × (get_elem? row j ≡ some (Some y))).
          let l = a.each j y t.1 in
          let ne = t.0 in
          (l.0, in_without (base + k) l.0 notes l.1 (λ e. ne (let at = l.2 in omega arith)), l.2, l.3, l.4))
          (at_set row k j None (Some y) is);
      many = omega arith;
    }

nothing : (notes : List Note) → length notes ≡ 0 → notes ≡ []
nothing [] e = refl
nothing (f ∷ fs) e = absurd (omega arith)

-- where no place has a value, nothing is noted
pub none_lent : (notes : List Note) (base : ℕ) (row : List (Option Leaf)) → AreLent notes base row
    → ((k : ℕ) → k < 4 → get_elem? row k ≡ some None) → notes ≡ []
none_lent notes base row a all = nothing notes (a.many ∙ taken_none row (λ k lt. let n = a.four in all k (omega arith)))

-- four places without a value
abbrev none_held : List (Option Leaf)
none_held = None ∷ None ∷ None ∷ None ∷ []

pub none_four : (k : ℕ) → k < 4 → get_elem? none_held k ≡ some None
none_four zero lt = refl
none_four (suc zero) lt = refl
none_four (suc (suc zero)) lt = refl
none_four (suc (suc (suc zero))) lt = refl
none_four (suc (suc (suc (suc k)))) lt = absurd (omega arith)

pub lent_none : (base : ℕ) → AreLent [] base none_held
lent_none base = record { four = refl; each = none; many = refl }
  where
    none : (k : ℕ) (x : Leaf) → get_elem? none_held k ≡ some (Some x) → IsLent [] (base + k) x
    none zero x e = let q : None ≡ Some x = cc e in cc q
    none (suc zero) x e = let q : None ≡ Some x = cc e in cc q
    none (suc (suc zero)) x e = let q : None ≡ Some x = cc e in cc q
    none (suc (suc (suc zero))) x e = let q : None ≡ Some x = cc e in cc q
    none (suc (suc (suc (suc k)))) x e = absurd (some-ne-none (Some x) (sym e))

-- what is read at a place is there
pub at_place : {A : Type 0} (l : List A) (i : ℕ) (d a : A) → i < length l → get_or l i d ≡ a → get_elem? l i ≡ some a
at_place [] i d a lt e = absurd (omega arith)
at_place (x ∷ l) zero d a lt e = ap some e
at_place (x ∷ l) (suc i) d a lt e = at_place l i d a (omega arith) e

-- a frame is claimed for a place, after those before it
pub row_more : (base k page : ℕ) (row : List (Option Leaf)) (f : Leaf) (old new : PassState Tally)
    → HasClaimed leaf tally (base + k) page f old new → AreLent old.frames base row → get_elem? row k ≡ some None
    → ((g : Note) → In g old.frames → g.frame < base + k)
    → AreLent new.frames base (set row k (Some f)) × (length new.frames ≡ suc (length old.frames))
    × ((g : Note) → In g new.frames → g.frame < base + (k + 1))
row_more base k page row f old new h lent empty low =
    let note : Note = record { frame = base + k; page = f.page; bytes = []; content = h.content } in
    let is : new.frames ≡ note ∷ old.frames = ap (λ (v : PassState Tally). v.frames) h.state in (
      subst (λ (fs : List Note). AreLent fs base (set row k (Some f))) (sym is)
          (lent_more old.frames base k row note f lent empty refl refl refl),
      ap length is,
      λ g i. ⊎_elim
          (λ (e : g ≡ note). let at : g.frame ≡ base + k = ap (λ (n : Note). n.frame) e in omega arith)
          (λ later. let l = low g later in omega arith) (subst (In g) is i),
    )
