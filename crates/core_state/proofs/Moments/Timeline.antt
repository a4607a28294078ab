-- The pages and the ghosts at each moment past the length of a pin.
use Rattle.std.proofs.Common.{◌≡◌, ◌⊎◌, ◌<◌, ◌≤◌, ◌+◌, ◌-◌, ℕ, suc, true, false, cond, nat_le, ◌∷◌, length, drop, refl}
use Rattle.std.proofs.Common.{sym, ap, subst, ◌∙◌, inl, inr, arith}
use Rattle.page_types.specs.declared.record.Record.{Record}
use Rattle.core_state.specs.Log.{Log, Pages, Shows, cut}
use Rattle.core_state.specs.Legal.{Pin}
use Rattle.core_state.specs.Inner.Ghosts.{Ghost}
use Rattle.core_state.proofs.Newest.{cut_less}
use Rattle.core_state.proofs.Law.Invariant.{Inv}
use Rattle.core_state.proofs.Law.Steps.{Case, After}
use Rattle.core_state.proofs.Law.Runs.{Trace}

pub cut_all : (R : Log) (t : ℕ) → t ≡ length R → cut t R ≡ R
cut_all R t e = let z : length R - t ≡ 0 = omega (arith, e) in ap (λ k. drop k R) z

early_or_late : (t n : ℕ) → (t ≤ n) ⊎ (n < t)
early_or_late t n = grind arith

below_or_at : (t n : ℕ) → t < suc n → (t < n) ⊎ (t ≡ n)
below_or_at t n l = grind (arith, l)

-- from a moment on the pages are shown, the invariant holds, and each record made a step
pub record Timeline (pin : Pin) (start : ℕ) (R : Log) (P : ℕ → Pages) (g : ℕ → Ghost) : Type 0 where
  pub shown : (t : ℕ) → start ≤ t → t ≤ length R → Shows (cut t R) (P t)
  pub inv : (t : ℕ) → start ≤ t → t ≤ length R → Inv pin.commits pin.length (cut t R) (P t) (g t)
  pub case : (t : ℕ) → start ≤ t → t < length R
      → (r : Record) × (cut (t + 1) R ≡ r ∷ cut t R) × Case pin.commits pin.length (cut t R) (P t) (P (t + 1)) r
      (g t) (g (t + 1))

-- what holds from one moment on holds from a later one on
pub from_later : (pin : Pin) (early late : ℕ) (R : Log) (P : ℕ → Pages) (g : ℕ → Ghost) → early ≤ late
    → Timeline pin early R P g → Timeline pin late R P g
from_later pin early late R P g l T = record {
  shown = λ t a b. T.shown t (omega (arith, l, a)) b;
  inv = λ t a b. T.inv t (omega (arith, l, a)) b;
  case = λ t a b. T.case t (omega (arith, l, a)) b;
}

-- what the moments up to n have, and x after them
abbrev until : {A : Type 0} → ℕ → (ℕ → A) → A → ℕ → A
until n f x t = cond (nat_le t n) (f t) x

is_early : (t n : ℕ) → t ≤ n → nat_le t n ≡ true
is_early t n l = grind (arith, l)

is_late : (t n : ℕ) → n < t → nat_le t n ≡ false
is_late t n l = grind (arith, l)

early : {A : Type 0} (n : ℕ) (f : ℕ → A) (x : A) (t : ℕ) → t ≤ n → until n f x t ≡ f t
early n f x t l = ap (λ b. cond b (f t) x) (is_early t n l)

late : {A : Type 0} (n : ℕ) (f : ℕ → A) (x : A) (t : ℕ) → n < t → until n f x t ≡ x
late n f x t l = ap (λ b. cond b (f t) x) (is_late t n l)

-- the moments of a log, with the pages and the ghosts that end them
pub record Moments (pin : Pin) (R : Log) (P : Pages) (g : Ghost) : Type 0 where
  pub pages : ℕ → Pages
  pub ghosts : ℕ → Ghost
  pub timeline : Timeline pin pin.length R pages ghosts
  pub within : pin.length ≤ length R
  pub last_pages : pages (length R) ≡ P
  pub last_ghosts : ghosts (length R) ≡ g

pub one_moment : (pin : Pin) (R : Log) (P : Pages) (g : Ghost) → length R ≡ pin.length → Shows R P
    → Inv pin.commits pin.length R P g → Moments pin R P g
one_moment pin R P g e shown inv = record {
  pages = λ t. P;
  ghosts = λ t. g;
  timeline = record {
    shown = λ t a b. subst (λ S. Shows S P) (sym (here t a b)) shown;
    inv = λ t a b. subst (λ S. Inv pin.commits pin.length S P g) (sym (here t a b)) inv;
    case = λ t a b. absurd (omega (arith, a, b, e));
  };
  within = omega (arith, e);
  last_pages = refl;
  last_ghosts = refl;
}
  where
    here : (t : ℕ) → pin.length ≤ t → t ≤ length R → cut t R ≡ R
    here t a b = cut_all R t (omega (arith, a, b, e))

-- its pages and its ghosts are these
pub one_pages : (pin : Pin) (R : Log) (P : Pages) (g : Ghost) (e : length R ≡ pin.length) (shown : Shows R P)
    (inv : Inv pin.commits pin.length R P g) (t : ℕ)
    → (one_moment pin R P g e shown inv).pages t ≡ P
unfolding one_moment
one_pages pin R P g e shown inv t = refl

pub one_ghosts : (pin : Pin) (R : Log) (P : Pages) (g : Ghost) (e : length R ≡ pin.length) (shown : Shows R P)
    (inv : Inv pin.commits pin.length R P g) (t : ℕ)
    → (one_moment pin R P g e shown inv).ghosts t ≡ g
unfolding one_moment
one_ghosts pin R P g e shown inv t = refl

module _ (pin : Pin) (R : Log) (P Q : Pages) (r : Record) (g : Ghost) (m : Moments pin R P g)
    (shown : Shows (r ∷ R) Q) (a : After pin.commits pin.length R P Q r g) where
  pub Ps : ℕ → Pages
  Ps = until (length R) m.pages Q

  pub gs : ℕ → Ghost
  gs = until (length R) m.ghosts a.ghost

  pub old_pages : (t : ℕ) → t ≤ length R → Ps t ≡ m.pages t
  unfolding Ps
  old_pages t l = early (length R) m.pages Q t l

  pub old_ghosts : (t : ℕ) → t ≤ length R → gs t ≡ m.ghosts t
  unfolding gs
  old_ghosts t l = early (length R) m.ghosts a.ghost t l

  new_pages : (t : ℕ) → length R < t → Ps t ≡ Q
  unfolding Ps
  new_pages t l = late (length R) m.pages Q t l

  new_ghosts : (t : ℕ) → length R < t → gs t ≡ a.ghost
  unfolding gs
  new_ghosts t l = late (length R) m.ghosts a.ghost t l

  shown_at : (t : ℕ) → pin.length ≤ t → t ≤ suc (length R) → Shows (cut t (r ∷ R)) (Ps t)
  shown_at t low high = elim (early_or_late t (length R)) [
    | inl l ↦ subst (λ S. Shows S (Ps t)) (sym (cut_less t r R l))
        (subst (Shows (cut t R)) (sym (old_pages t l)) (m.timeline.shown t low l))
    | inr l ↦ subst (λ S. Shows S (Ps t)) (sym (cut_all (r ∷ R) t (omega (arith, l, high))))
        (subst (Shows (r ∷ R)) (sym (new_pages t l)) shown)
  ]

  inv_at : (t : ℕ) → pin.length ≤ t → t ≤ suc (length R) → Inv pin.commits pin.length (cut t (r ∷ R)) (Ps t) (gs t)
  inv_at t low high = elim (early_or_late t (length R)) [
    | inl l ↦ subst (λ S. Inv pin.commits pin.length S (Ps t) (gs t)) (sym (cut_less t r R l))
        (subst (λ S. Inv pin.commits pin.length (cut t R) S (gs t)) (sym (old_pages t l))
        (subst (Inv pin.commits pin.length (cut t R) (m.pages t)) (sym (old_ghosts t l)) (m.timeline.inv t low l)))
    | inr l ↦ subst (λ S. Inv pin.commits pin.length S (Ps t) (gs t))
        (sym (cut_all (r ∷ R) t (omega (arith, l, high))))
        (subst (λ S. Inv pin.commits pin.length (r ∷ R) S (gs t)) (sym (new_pages t l))
        (subst (Inv pin.commits pin.length (r ∷ R) Q) (sym (new_ghosts t l)) a.inv))
  ]

  abbrev Made : ℕ → Type 0
  Made t = (s : Record) × (cut (t + 1) (r ∷ R) ≡ s ∷ cut t (r ∷ R)) × Case pin.commits pin.length (cut t (r ∷ R))
      (Ps t) (Ps (t + 1)) s (gs t) (gs (t + 1))

  case_between : (t : ℕ) (S : Log) (A B : Pages) (b c : Ghost) (s : Record) → cut t (r ∷ R) ≡ S → Ps t ≡ A
      → Ps (t + 1) ≡ B → gs t ≡ b → gs (t + 1) ≡ c
      → Case pin.commits pin.length S A B s b c → Case pin.commits pin.length (cut t (r ∷ R)) (Ps t) (Ps (t + 1)) s
      (gs t) (gs (t + 1))
  case_between t S A B b c s e f h i j k =
      subst (λ z. Case pin.commits pin.length z (Ps t) (Ps (t + 1)) s (gs t) (gs (t + 1))) (sym e)
      (subst (λ z. Case pin.commits pin.length S z (Ps (t + 1)) s (gs t) (gs (t + 1))) (sym f)
      (subst (λ z. Case pin.commits pin.length S A z s (gs t) (gs (t + 1))) (sym h)
      (subst (λ z. Case pin.commits pin.length S A B s z (gs (t + 1))) (sym i)
      (subst (λ z. Case pin.commits pin.length S A B s b z) (sym j) k))))

  case_at : (t : ℕ) → pin.length ≤ t → t < suc (length R) → Made t
  case_at t low high = elim (below_or_at t (length R) high) [
    | inl l ↦
        let c = m.timeline.case t low l in (
          c.0,
          cut_less (t + 1) r R (omega (arith, l)) ∙ c.1 ∙ ap (λ S. c.0 ∷ S) (sym (cut_less t r R (omega (arith, l)))),
          case_between t (cut t R) (m.pages t) (m.pages (t + 1)) (m.ghosts t) (m.ghosts (t + 1)) c.0
              (cut_less t r R (omega (arith, l))) (old_pages t (omega (arith, l)))
              (old_pages (t + 1) (omega (arith, l))) (old_ghosts t (omega (arith, l)))
              (old_ghosts (t + 1) (omega (arith, l))) c.2,
        )
    | inr e ↦
        let here : cut t (r ∷ R) ≡ R = cut_less t r R (omega (arith, e)) ∙ cut_all R t e in (
          r,
          cut_all (r ∷ R) (t + 1) (omega (arith, e)) ∙ ap (λ S. r ∷ S) (sym here),
          case_between t R P Q g a.ghost r here (old_pages t (omega (arith, e)) ∙ ap m.pages e ∙ m.last_pages)
              (new_pages (t + 1) (omega (arith, e)))
              (old_ghosts t (omega (arith, e)) ∙ ap m.ghosts e ∙ m.last_ghosts)
              (new_ghosts (t + 1) (omega (arith, e))) a.case,
        )
  ]

  pub one_more : Moments pin (r ∷ R) Q a.ghost
  one_more = record {
    pages = Ps;
    ghosts = gs;
    timeline = record { shown = shown_at; inv = inv_at; case = case_at };
    within = omega (arith, m.within);
    last_pages = new_pages (suc (length R)) (omega arith);
    last_ghosts = new_ghosts (suc (length R)) (omega arith);
  }

  pub more_pages : (t : ℕ) → t ≤ length R → one_more.pages t ≡ m.pages t
  unfolding one_more
  more_pages t l = old_pages t l

  pub more_ghosts : (t : ℕ) → t ≤ length R → one_more.ghosts t ≡ m.ghosts t
  unfolding one_more
  more_ghosts t l = old_ghosts t l

pub moments_of : (pin : Pin) (R : Log) (P : Pages) (g : Ghost) → Trace pin R P g → Moments pin R P g
moments_of pin _ _ _ (Trace.here R P g e shown inv) = one_moment pin R P g e shown inv
moments_of pin _ _ _ (Trace.next R P Q r g before shown a) = one_more pin R P Q r g
    (moments_of pin R P g before) shown a
