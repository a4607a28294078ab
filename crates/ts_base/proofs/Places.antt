-- The place of a fault, from the residual that a reader's loop keeps.
use Rattle.std.proofs.Common.{◌≡◌, ℕ, suc, ◌+◌, ◌<◌, List, [], ◌∷◌, ◌++◌, length, take, get_or, refl, sym, ap, subst}
use Rattle.std.proofs.Common.{◌∙◌, append_assoc, length-append, arith}
use Rattle.std.proofs.lemmas.List.{take_more, append-nil}
use Rattle.std.proofs.Math.Seq.{append_snoc, take-length}
use Rattle.ts_base.specs.Fault.{FaultAt, Stands}
use Rattle.ts_base.specs.Inner.Leads.{Leads}
use Rattle.ts_base.specs.Inner.Machine.{RestAt, Moves, Stuck, Unfinished, Whole}

-- one byte more, then the rest
front_more : (text : List ℕ) (i : ℕ) (u : List ℕ) → i < length text
    → take (i + 1) text ++ u ≡ take i text ++ get_or text i 0 ∷ u
front_more text i u lt = ap (λ f. f ++ u) (take_more text i 0 lt) ∙ append_snoc (take i text) (get_or text i 0) u

module _ (V : Type 0) (G : List ℕ → V → Type 0) where
  -- at the start the residual is the grammar itself
  pub leads_start : (text : List ℕ) (R : List ℕ → V → Type 0) → ((u : List ℕ) (v : V) → R u v → G u v)
      → ((u : List ℕ) (v : V) → G u v → R u v) → Leads V G (take 0 text) R
  leads_start text R to from = record { goes_on = to; came_so = from }

  -- a byte is read
  pub leads_step : (text : List ℕ) (i : ℕ) (R S : List ℕ → V → Type 0) → i < length text → Leads V G (take i text) R
      → ((u : List ℕ) (v : V) → R (get_or text i 0 ∷ u) v → S u v)
      → ((u : List ℕ) (v : V) → S u v → R (get_or text i 0 ∷ u) v)
      → Leads V G (take (i + 1) text) S
  leads_step text i R S lt leads to from = record {
    goes_on =
        λ u v s. subst (λ t. G t v) (sym (front_more text i u lt)) (leads.goes_on (get_or text i 0 ∷ u) v (from u v s));
    came_so = λ u v g. to u v (leads.came_so (get_or text i 0 ∷ u) v (subst (λ t. G t v) (front_more text i u lt) g));
  }

  -- the next byte can't be here
  pub fault_here : (text : List ℕ) (i : ℕ) (R : List ℕ → V → Type 0) → i < length text → Leads V G (take i text) R
      → (more : List ℕ) (v : V) → R more v → ((u : List ℕ) (w : V) → ¬ R (get_or text i 0 ∷ u) w)
      → FaultAt (Stands V G) text i
  fault_here text i R lt leads more v completes stuck = record {
    within = omega arith;
    before = (more, (v, leads.goes_on more v completes));
    after = λ _ viable. stuck viable.0 viable.1.0
        (leads.came_so (get_or text i 0 ∷ viable.0) viable.1.0
        (subst (λ t. G t viable.1.0) (front_more text i viable.0 lt) viable.1.1));
    ending = λ e _. absurd (omega arith);
  }

  whole_front : (text : List ℕ) (v : V) → G text v → G (take (length text) text ++ []) v
  whole_front text v g = subst (λ t. G t v) (sym (append-nil (take (length text) text) ∙ take-length text)) g

  -- the text ends where it can't
  pub fault_ending : (text : List ℕ) (R : List ℕ → V → Type 0) → Leads V G (take (length text) text) R
      → (more : List ℕ) (v : V) → R more v → ((w : V) → ¬ R [] w)
      → FaultAt (Stands V G) text (length text)
  fault_ending text R leads more v completes stuck = record {
    within = omega arith;
    before = (more, (v, leads.goes_on more v completes));
    after = λ lt _. absurd (omega arith);
    ending = λ _ g. stuck g.0 (leads.came_so [] g.0 (whole_front text g.0 g.1));
  }

  -- the text ends where it can
  pub found_whole : (text : List ℕ) (R : List ℕ → V → Type 0) → Leads V G (take (length text) text) R → (v : V) → R [] v
      → G text v
  found_whole text R leads v r =
      subst (λ t. G t v) (append-nil (take (length text) text) ∙ take-length text) (leads.goes_on [] v r)

  pub found_only : (text : List ℕ) (R : List ℕ → V → Type 0) → Leads V G (take (length text) text) R → (v : V)
      → G text v → R [] v
  found_only text R leads v g = leads.came_so [] v (whole_front text v g)

  -- ── as a reader steps ──
  module _ (S : Type 0) (R : S → ℕ → List ℕ → V → Type 0) where
    count : (i : ℕ) (u : List ℕ) → (i + 1) + length u ≡ i + suc (length u)
    count i u = omega arith

    pub moves_to : (i : ℕ) (s t : S) (c : ℕ) → Moves S V R i s (c ∷ []) t → (u : List ℕ) (v : V)
        → RestAt V (R s) i (c ∷ u) v → RestAt V (R t) (i + 1) u v
    moves_to i s t c m u v r = subst (λ n. R t n u v) (sym (count i u)) (m.came_so (i + suc (length u)) u v refl r)

    pub moves_from : (i : ℕ) (s t : S) (c : ℕ) → Moves S V R i s (c ∷ []) t → (u : List ℕ) (v : V)
        → RestAt V (R t) (i + 1) u v → RestAt V (R s) i (c ∷ u) v
    moves_from i s t c m u v r = m.goes_on (i + suc (length u)) u v refl (subst (λ n. R t n u v) (count i u) r)

    -- a byte is read
    pub leads_moved : (text : List ℕ) (i : ℕ) (s t : S) → i < length text → Leads V G (take i text) (RestAt V (R s) i)
        → Moves S V R i s (get_or text i 0 ∷ []) t → Leads V G (take (i + 1) text) (RestAt V (R t) (i + 1))
    leads_moved text i s t lt leads m =
        leads_step text i (RestAt V (R s) i) (RestAt V (R t) (i + 1)) lt leads (moves_to i s t (get_or text i 0) m)
        (moves_from i s t (get_or text i 0) m)

    -- the next byte can't be here
    pub fault_stuck : (text : List ℕ) (i : ℕ) (s : S) → i < length text → Leads V G (take i text) (RestAt V (R s) i)
        → (more : List ℕ) (v : V) → RestAt V (R s) i more v → Stuck S V R s (get_or text i 0 ∷ [])
        → FaultAt (Stands V G) text i
    fault_stuck text i s lt leads more v completes stuck =
        fault_here text i (RestAt V (R s) i) lt leads more v completes
        (λ u w r. stuck.never (get_or text i 0) [] refl (i + suc (length u)) u w r)

    -- the text ends where it can't
    pub fault_unfinished : (text : List ℕ) (i : ℕ) (s : S) → i ≡ length text
        → Leads V G (take i text) (RestAt V (R s) i)
        → ((n : ℕ) → (more : List ℕ) × (v : V) × RestAt V (R s) n more v) → Unfinished S V R s
        → FaultAt (Stands V G) text (length text)
    fault_unfinished text i s e leads completes never =
        let k = completes (length text) in
        fault_ending text (RestAt V (R s) (length text))
        (subst (λ n. Leads V G (take n text) (RestAt V (R s) n)) e leads) k.0 k.1 k.2
        (λ w r. never.never (length text + 0) w r)

    -- the text ends where it can
    pub found_finished : (text : List ℕ) (i : ℕ) (s : S) (v : V) → i ≡ length text
        → Leads V G (take i text) (RestAt V (R s) i) → Whole S V R s v → G text v
    found_finished text i s v e leads w =
        found_whole text (RestAt V (R s) (length text))
        (subst (λ n. Leads V G (take n text) (RestAt V (R s) n)) e leads) v (w.found (length text + 0))

    -- several bytes are read
    pub leads_read : (front bytes : List ℕ) (at next : ℕ) (s t : S) → next ≡ at + length bytes
        → Leads V G front (RestAt V (R s) at)
        → Moves S V R at s bytes t → Leads V G (front ++ bytes) (RestAt V (R t) next)
    leads_read front bytes at next s t e leads m = record {
      goes_on = λ u v x.
          let n : next + length u ≡ at + length (bytes ++ u) = let f = length-append bytes u in omega arith in
          let y = m.goes_on (next + length u) u v n x in
          subst (λ z. G z v) (sym (append_assoc front bytes u))
          (leads.goes_on (bytes ++ u) v (subst (λ k. R s k (bytes ++ u) v) n y));
      came_so = λ u v g.
          let n : next + length u ≡ at + length (bytes ++ u) = let f = length-append bytes u in omega arith in
          let y = leads.came_so (bytes ++ u) v (subst (λ z. G z v) (append_assoc front bytes u) g) in
          m.came_so (next + length u) u v n (subst (λ k. R s k (bytes ++ u) v) (sym n) y);
    }

-- a byte that can't be in a state
pub stuck_at : (S V : Type 0) (R : S → ℕ → List ℕ → V → Type 0) (s : S) (c : ℕ)
    → ((size : ℕ) (u : List ℕ) (v : V) → ¬ R s size (c ∷ u) v) → Stuck S V R s (c ∷ [])
stuck_at S V R s c f = record {
  never = λ d more e size u v h. let same : c ≡ d = cc in f size u v (subst (λ x. R s size (x ∷ u) v) (sym same) h);
}
