use Rattle.std.proofs.Common.{◌≡◌, ◌<◌, ◌≤◌, ℕ, length, get_or}
use Rattle.std.specs.Prelude.{None}
use Rattle.std.specs.Vec.{vec_capacity}
use Rattle.buffer_frames.specs.Homes.{home_at, home_of}
use Rattle.buffer_frames.proofs.page_map.PageMap.into_homes.Given as goal

abbrev pub invariant-loop-place : goal.invariant-loop-place
invariant-loop-place l =
    (length l.homes.items ≡ l.place) × (length l.initial.pages.items ≤ vec_capacity l.homes)
    × (length l.pages.items ≡ length l.initial.pages.items)
    × ((q : ℕ) → q < l.place → home_at l.homes.items q ≡ home_of (get_or l.initial.pages.items q None))
    × ((q : ℕ) → l.place ≤ q → get_or l.pages.items q None ≡ get_or l.initial.pages.items q None)
