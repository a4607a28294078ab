use Rattle.std.proofs.Common.{◌<◌, ◌≤◌, ℕ, List, length, get_or, arith, inl, inr}
use Rattle.std.specs.Prelude.{Ok, Err}
use Rattle.std.proofs.lemmas.List.Sorted.{searched}
use Rattle.core_state.specs.Log.{In}
use Rattle.core_state.proofs.RisingPages.{order, rising_at}
use Rattle.core_state.proofs.RisingSearch.{there}
use Rattle.core_state.proofs.freed.place_of.Goals as goal

pub returns-in-Ok-clause-within : goal.returns-in-Ok-clause-within
returns-in-Ok-clause-within c =
    (searched c.args.pages.now c.args.page (Ok c.in-Ok.place) c.in-Ok.ensures.position
    (rising_at c.args.pages.now c.requires.rising)).0

pub returns-in-Ok-clause-page : goal.returns-in-Ok-clause-page
returns-in-Ok-clause-page c =
    (searched c.args.pages.now c.args.page (Ok c.in-Ok.place) c.in-Ok.ensures.position
    (rising_at c.args.pages.now c.requires.rising)).1

-- it is there
not_missed : (qs : List ℕ) (page i : ℕ) → In page qs → ((k : ℕ) → k < i → get_or qs k 0 < page)
    → ((k : ℕ) → i ≤ k → k < length qs → page < get_or qs k 0) → ⊥
not_missed qs page i on low high =
    let t = there page qs on in
    elim (order t.place i) [
      | inl before ↦ absurd (omega (arith, low t.place before, t.is))
      | inr past ↦ absurd (omega (arith, high t.place past t.within, t.is))
    ]

pub returns-in-Err-clause-within : goal.returns-in-Err-clause-within
returns-in-Err-clause-within c =
    let found = searched c.args.pages.now c.args.page (Err c.in-Err.field-0) c.in-Err.ensures.position
    (rising_at c.args.pages.now c.requires.rising) in
    absurd (not_missed c.args.pages.now c.args.page c.in-Err.field-0 c.requires.there found.1 found.2)

pub returns-in-Err-clause-page : goal.returns-in-Err-clause-page
returns-in-Err-clause-page c =
    let found = searched c.args.pages.now c.args.page (Err c.in-Err.field-0) c.in-Err.ensures.position
    (rising_at c.args.pages.now c.requires.rising) in
    absurd (not_missed c.args.pages.now c.args.page c.in-Err.field-0 c.requires.there found.1 found.2)
