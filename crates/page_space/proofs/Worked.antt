-- Worked rows: of four pages, in use, deleted by records 5 and 3, and unused.
use Rattle.std.proofs.Common.{◌≡◌, ℕ, zero, suc, ◌≤◌, List, [], ◌∷◌, refl, arith}
use Rattle.core_state.specs.States.{StateValue, empty_state, use_of}
use Rattle.core_state.specs.PageChoice.{IsUnused, IsReusable}
use Rattle.core_state.specs.declared.answers.PageUse.{PageUse}
use Rattle.core_state.specs.declared.answers.PageUse.TheVariants.{Used, Deleted}
use Rattle.page_space.specs.Taking.{IsTaken, HasNoPage}

abbrev used : List PageUse
used = Used ∷ Deleted 5 ∷ Deleted 3 ∷ []

-- of a store that may have so many pages
abbrev state_with : ℕ → StateValue
state_with pages = record (empty_state pages 16) { uses = used }

-- since 5 the page deleted by record 5 is taken
since_five : (pages : ℕ) → IsTaken (state_with pages) 5 1
since_five pages = IsTaken.deleted (record {
  holds = record { stamp = 5; deleted = refl; old = omega arith };
  least = λ q r. least q r;
})
  where
    least : (q : ℕ) → IsReusable (use_of (state_with pages)) 5 q → 1 ≤ q
    least zero r = absurd cc
    least (suc q) r = omega arith

-- since 4 the one deleted by record 3
since_four : (pages : ℕ) → IsTaken (state_with pages) 4 2
since_four pages = IsTaken.deleted (record {
  holds = record { stamp = 3; deleted = refl; old = omega arith };
  least = λ q r. least q r;
})
  where
    least : (q : ℕ) → IsReusable (use_of (state_with pages)) 4 q → 2 ≤ q
    least zero r = absurd cc
    least (suc zero) r = let stamp : 5 ≡ r.stamp = cc in omega (arith, stamp, r.old)
    least (suc (suc q)) r = omega arith

none_since_two : (pages q : ℕ) → IsReusable (use_of (state_with pages)) 2 q → ⊥
none_since_two pages zero r = absurd cc
none_since_two pages (suc zero) r = let stamp : 5 ≡ r.stamp = cc in omega (arith, stamp, r.old)
none_since_two pages (suc (suc zero)) r = let stamp : 3 ≡ r.stamp = cc in omega (arith, stamp, r.old)
none_since_two pages (suc (suc (suc q))) r = absurd cc

unused_from : (pages q : ℕ) → IsUnused (state_with pages) q → 3 ≤ q
unused_from pages zero r = absurd cc
unused_from pages (suc zero) r = absurd cc
unused_from pages (suc (suc zero)) r = absurd cc
unused_from pages (suc (suc (suc q))) r = omega arith

-- since 2 the unused page of a store that may have four
since_two : IsTaken (state_with 4) 2 3
since_two = IsTaken.unused (none_since_two 4) (record {
  holds = record { below = omega arith; unused = refl };
  least = unused_from 4;
})

-- none where it may have three
full_of_three : HasNoPage (state_with 3) 2
full_of_three = record {
  no_deleted = none_since_two 3;
  no_unused = λ q r. omega (arith, unused_from 3 q r, r.below);
}
