-- Who may move rows to the trees of the index.
use Rattle.std.specs.Prelude.{◌≡◌, ◌≢◌, ℕ, ◌≤◌, [], length, Some}
use Rattle.core_state.specs.Allowed.{View}

-- The session has had the right of maintenance since a length of the log that it has seen, which
-- isn't empty.
pub record HasRight (v : View) : Type 0 where
  pub at : ℕ
  pub has : v.work ≡ Some at
  pub within : at ≤ length v.seen
  pub started : v.seen ≢ []
