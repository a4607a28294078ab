-- Frames in a list: one more at its end, and a table laid over them.
use Rattle.std.proofs.Common.{◌≡◌, ℕ, zero, suc, List, [], ◌∷◌, ◌++◌, length, refl, sym, ap, inl, inr, ◌⊎◌, ⊎_elim}
use mathlib.Core.Option.{some, some-injective, some-ne-none}
use lib.ListN.{get_elem?}
use Rattle.latch_table.specs.Laying.{CanLie}
use Rattle.latch_table.proofs.Empty.{empty_stores_lie}
use Rattle.latch_bench.specs.declared.slots.Leaf.{Leaf}
use Rattle.latch_bench.specs.Slots.{leaf, tally}

pub at_end : {A : Type 0} (xs : List A) (x y : A) (i : ℕ) → get_elem? (xs ++ x ∷ []) i ≡ some y
    → (get_elem? xs i ≡ some y) ⊎ ((i ≡ length xs) × (x ≡ y))
at_end [] x y zero e = inr (refl, some-injective x y e)
at_end [] x y (suc i) e = absurd (some-ne-none y (sym e))
at_end (z ∷ xs) x y zero e = inl e
at_end (z ∷ xs) x y (suc i) e = ⊎_elim (λ t. inl t) (λ t. inr (ap suc t.0, t.1)) (at_end xs x y i e)

-- a table may be laid over frames that have the pages of their numbers, and a journal without a record
pub can_lie : (frames : List Leaf) → ((i : ℕ) (f : Leaf) → get_elem? frames i ≡ some f → f.page ≡ i)
    → CanLie leaf tally frames (record { count = 0 })
can_lie frames pages = empty_stores_lie leaf tally frames (record { count = 0 }) (record {
  stands = tt;
  length_is = refl;
  counted = refl;
  flushed = refl;
  reached = (0, λ l. tt);
  no_pins = λ k. refl;
  page = pages;
  bytes = λ i f at l. absurd l;
  placed = λ i k a b e. e;
})
