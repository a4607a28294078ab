-- The first key of those that were gathered, and its items in rising order.
use Rattle.std.proofs.Common.{◌≡◌, ◌<◌, ◌+◌, ℕ, zero, suc, List, [], ◌∷◌, length, get_or, refl}
use Rattle.std.proofs.Common.{sym, subst, inl, inr, arith}
use Rattle.std.specs.Prelude.{Vec}
use Rattle.std.specs.List.{All, AllByRecursion}
use Rattle.std.specs.List.Sorted.{IsStrictlyIncreasing}
use Rattle.std.specs.Map.{keys_of}
use Rattle.std.specs.declared.alloc.Global.{Global}
use Rattle.ts_base.specs.Keys.{Key}
use Rattle.page_types.specs.Items.{AreItems, AreItemsFrom}
use Rattle.page_types.specs.Keys.{KeyLess}
use Rattle.page_types.specs.Numbers.{item_limit}
use Rattle.core_state.specs.Log.{In}
use Rattle.gin_cleanup.specs.Gathered.{shown}

pub at_in : {A : Type 0} (xs : List A) (y : A) (j : ℕ) → j < length xs → get_or xs j y ≡ y → In y xs
at_in [] y j l e = absurd (omega (arith, l))
at_in (x ∷ xs) y zero l e = inl (sym e)
at_in (x ∷ xs) y (suc j) l e = inr (at_in xs y j (omega (arith, l)) e)

-- keys of a map that are above another are so where they are shown
pub above_shown : (key : Key) (es : List (Vec ℕ Global × Vec ℕ Global))
    → All (λ (b : Vec ℕ Global). KeyLess key b.items) (keys_of es)
    → AllByRecursion (λ (e : Key × List ℕ). KeyLess key e.0) (shown es)
above_shown key [] all = tt
above_shown key (e ∷ es) all =
    (all zero e.0 (omega arith), above_shown key es (λ k d l. all (suc k) d (omega (arith, l))))

-- items in rising order are as a list of items has them
from_last : (last : ℕ) (items : List ℕ) → IsStrictlyIncreasing (last ∷ items)
    → ((i : ℕ) → In i items → i < item_limit) → AreItemsFrom last items
from_last last [] up all = tt
from_last last (i ∷ items) up all = (
  up zero (omega arith),
  all i (inl refl),
  from_last i items (λ k l. let same : suc k + 1 ≡ suc (k + 1) = omega arith in
      subst (λ (n : ℕ). get_or (i ∷ items) k 0 < get_or (last ∷ i ∷ items) n 0) same (up (suc k) (omega (arith, l))))
      (λ j m. all j (inr m)),
)

pub items_rise : (items : List ℕ) → IsStrictlyIncreasing items
    → ((i : ℕ) → In i items → (0 < i) × (i < item_limit)) → AreItems items
items_rise [] up all = tt
items_rise (i ∷ items) up all =
    let first = all i (inl refl) in (first.0, first.1, from_last i items up (λ j m. (all j (inr m)).1))
