-- The slots that are out with a pass, turned until one is in front, and back.
use Rattle.std.proofs.Common.{◌≡◌, ◌≢◌, ℕ, zero, suc, ◌+◌, ◌-◌, ◌<◌, cond, List, [], ◌∷◌, ◌++◌, length, refl, sym, ap}
use Rattle.std.proofs.Common.{subst, ◌∙◌, inl, inr, ⊎_elim, arith, eq-eqb, ne_eqb, length-append}
use Rattle.std.proofs.lemmas.List.{append_assoc, append-nil}
use mathlib.Core.Logic.{dite}
use native.Mathlib.Decide.{ℕ_discrete}
use Rattle.atomic_table.specs.Table.{rest, turned}
use Rattle.core_state.specs.Log.{In}
use Rattle.latch_table.specs.declared.slots.Slot.{Slot}
use Rattle.latch_table.specs.declared.slots.Slot.TheVariants.{Away}
use Rattle.latch_table.specs.declared.states.Note.{Note}
use Rattle.latch_table.specs.PassStates.{without}
use Rattle.latch_table.specs.Held.{position, removed, frames_of, turned_by, carried}

module _ {S : Type 0} where
  turned_first : (n : ℕ) (xs : List (ℕ × S)) → turned_by (suc n) xs ≡ turned_by n (turned xs)
  turned_first zero xs = refl
  turned_first (suc n) xs = ap turned (turned_first n xs)

  -- a beginning goes after the rest
  turned_front : (as_ bs : List (ℕ × S)) → turned_by (length as_) (as_ ++ bs) ≡ bs ++ as_
  turned_front [] bs = sym (append-nil bs)
  turned_front (a ∷ as_) bs =
      turned_first (length as_) (a ∷ (as_ ++ bs)) ∙ ap (turned_by (length as_)) (append_assoc as_ bs (a ∷ []))
      ∙ turned_front as_ (bs ++ a ∷ []) ∙ append_assoc bs (a ∷ []) as_

-- notes with one of frame i among them: those in front of the first such, it, and the rest
record Cut (i : ℕ) (fs : List Note) : Type 0 where
  pub front : List Note
  pub here : Note
  pub back : List Note
  pub is : here.frame ≡ i
  pub all : fs ≡ front ++ here ∷ back
  pub less : without i fs ≡ front ++ back
  pub behind : position i (frames_of fs) ≡ length front

further : (i : ℕ) (f : Note) (fs : List Note) → f.frame ≢ i → Cut i fs → Cut i (f ∷ fs)
further i f fs ne c = record {
  front = f ∷ c.front;
  here = c.here;
  back = c.back;
  is = c.is;
  all = ap (λ (l : List Note). f ∷ l) c.all;
  less = subst (λ b. cond b fs (f ∷ without i fs) ≡ f ∷ (c.front ++ c.back)) (sym (ne_eqb f.frame i ne))
      (ap (λ (l : List Note). f ∷ l) c.less);
  behind = subst (λ b. cond b 0 (suc (position i (frames_of fs))) ≡ suc (length c.front)) (sym (ne_eqb f.frame i ne))
      (ap suc c.behind);
}

here_it_is : (i : ℕ) (f : Note) (fs : List Note) → f.frame ≡ i → Cut i (f ∷ fs)
here_it_is i f fs e = record {
  front = [];
  here = f;
  back = fs;
  is = e;
  all = refl;
  less = subst (λ b. cond b fs (f ∷ without i fs) ≡ fs) (sym (eq-eqb f.frame i e)) refl;
  behind = subst (λ b. cond b 0 (suc (position i (frames_of fs))) ≡ 0) (sym (eq-eqb f.frame i e)) refl;
}

cut_at : (i : ℕ) (note : Note) (fs : List Note) → In note fs → note.frame ≡ i → Cut i fs
cut_at i note [] there is = absurd there
cut_at i note (f ∷ fs) there is = dite (ℕ_discrete f.frame i) (λ e. here_it_is i f fs e)
    (λ ne. further i f fs ne (⊎_elim (λ (e : note ≡ f). absurd (ne (ap (λ (x : Note). x.frame) (sym e) ∙ is)))
    (λ later. cut_at i note fs later is) there))

-- as many frames as notes
pub frames_length : (fs : List Note) → length (frames_of fs) ≡ length fs
frames_length [] = refl
frames_length (f ∷ fs) = ap suc (frames_length fs)

-- a frame that is noted is in front of the end
pub position_within : (i : ℕ) (note : Note) (fs : List Note) → In note fs → note.frame ≡ i
    → position i (frames_of fs) < length (frames_of fs)
position_within i note fs there is =
    let c = cut_at i note fs there is in
    let all : length (frames_of fs) ≡ length c.front + suc (length c.back)
    = frames_length fs ∙ ap length c.all ∙ length-append c.front (c.here ∷ c.back) in
    let b = c.behind in omega arith

pub in_frames : (note : Note) (fs : List Note) → In note fs → In note.frame (frames_of fs)
in_frames note [] there = there
in_frames note (f ∷ fs) there =
    ⊎_elim (λ (e : note ≡ f). inl (ap (λ (x : Note). x.frame) e)) (λ later. inr (in_frames note fs later)) there

pub in_removed : (i k : ℕ) (xs : List ℕ) → In k (removed i xs) → In k xs
in_removed i k [] t = t
in_removed i k (x ∷ xs) t = dite (ℕ_discrete x i)
    (λ (e : x ≡ i). inr (subst (λ b. In k (cond b xs (x ∷ removed i xs))) (eq-eqb x i e) t))
    (λ ne. ⊎_elim (λ (same : k ≡ x). inl same) (λ later. inr (in_removed i k xs later))
    (subst (λ b. In k (cond b xs (x ∷ removed i xs))) (ne_eqb x i ne) t))

carried_length : (F J : Type 0) (fs : List Note) → length (carried {F = F} {J = J} fs) ≡ length fs
carried_length F J [] = refl
carried_length F J (f ∷ fs) = ap suc (carried_length F J fs)

module _ {F J : Type 0} where
  carried_both : (fs gs : List Note) → carried {F = F} {J = J} (fs ++ gs) ≡ carried fs ++ carried gs
  carried_both [] gs = refl
  carried_both (f ∷ fs) gs = ap (λ (l : List (ℕ × Slot F J)). (f.frame, Away) ∷ l) (carried_both fs gs)

  -- once as many are turned as are in front of it, the frame's slot is in front
  pub in_front : (i : ℕ) (note : Note) (fs : List Note) → In note fs → note.frame ≡ i
      → (xs : List (ℕ × Slot F J)) × (turned_by (position i (frames_of fs)) (carried fs) ≡ (i, Away) ∷ xs)
  in_front i note fs there is =
      let c = cut_at i note fs there is in
      let e : turned_by (length c.front) (carried {F = F} {J = J} fs)
      ≡ (c.here.frame, Away) ∷ (carried c.back ++ carried c.front)
      = ap (λ (l : List Note). turned_by (length c.front) (carried {F = F} {J = J} l)) c.all
      ∙ ap (turned_by (length c.front)) (carried_both c.front (c.here ∷ c.back))
      ∙ ap (λ n. turned_by n (carried {F = F} {J = J} c.front ++ carried (c.here ∷ c.back)))
      (sym (carried_length F J c.front))
      ∙ turned_front (carried c.front) (carried (c.here ∷ c.back)) in (
        carried c.back ++ carried c.front,
        ap (λ n. turned_by n (carried {F = F} {J = J} fs)) c.behind ∙ e
            ∙ ap (λ k. (k, Away) ∷ (carried c.back ++ carried c.front)) c.is,
      )

  -- and once it is given back and the others are turned on, they are in their order
  pub back_again : (i : ℕ) (note : Note) (fs : List Note) → In note fs → note.frame ≡ i
      → turned_by (length (frames_of fs) - 1 - position i (frames_of fs))
      (rest (turned_by (position i (frames_of fs)) (carried {F = F} {J = J} fs)))
      ≡ carried (without i fs)
  back_again i note fs there is =
      let c = cut_at i note fs there is in
      let e : turned_by (position i (frames_of fs)) (carried {F = F} {J = J} fs)
      ≡ (c.here.frame, Away) ∷ (carried c.back ++ carried c.front)
      = ap (λ n. turned_by n (carried {F = F} {J = J} fs)) c.behind
      ∙ ap (λ (l : List Note). turned_by (length c.front) (carried {F = F} {J = J} l)) c.all
      ∙ ap (turned_by (length c.front)) (carried_both c.front (c.here ∷ c.back))
      ∙ ap (λ n. turned_by n (carried {F = F} {J = J} c.front ++ carried (c.here ∷ c.back)))
      (sym (carried_length F J c.front))
      ∙ turned_front (carried c.front) (carried (c.here ∷ c.back)) in
      let all : length (frames_of fs) ≡ length c.front + suc (length c.back)
      = frames_length fs ∙ ap length c.all ∙ length-append c.front (c.here ∷ c.back) in
      let left : length (frames_of fs) - 1 - position i (frames_of fs) ≡ length (carried {F = F} {J = J} c.back)
      = (let b = c.behind in
      let l : length (carried {F = F} {J = J} c.back) ≡ length c.back = carried_length F J c.back in omega arith) in
      ap (λ n. turned_by n (rest (turned_by (position i (frames_of fs)) (carried {F = F} {J = J} fs)))) left
      ∙ ap (λ (l : List (ℕ × Slot F J)). turned_by (length (carried {F = F} {J = J} c.back)) (rest l)) e
      ∙ turned_front (carried c.back) (carried c.front)
      ∙ sym (carried_both c.front c.back) ∙ ap carried (sym c.less)

-- the numbers without one are those of the notes without it
pub removed_is : (i : ℕ) (fs : List Note) → removed i (frames_of fs) ≡ frames_of (without i fs)
removed_is i [] = refl
removed_is i (f ∷ fs) = dite (ℕ_discrete f.frame i)
    (λ (e : f.frame ≡ i). subst (λ b. cond b (frames_of fs) (f.frame ∷ removed i (frames_of fs))
    ≡ frames_of (cond b fs (f ∷ without i fs))) (sym (eq-eqb f.frame i e)) refl)
    (λ ne. subst (λ b. cond b (frames_of fs) (f.frame ∷ removed i (frames_of fs)) ≡ frames_of (cond b fs
    (f ∷ without i fs))) (sym (ne_eqb f.frame i ne)) (ap (λ (l : List ℕ). f.frame ∷ l) (removed_is i fs)))
