-- What a map of pages holds.
use Rattle.std.specs.Prelude.{◌≡◌, ℕ, List, Option, Some, None, get_or}
use Rattle.core_state.specs.Log.{Log}
use Rattle.core_state.specs.Legal.{ChangesFrom}
use Rattle.buffer_frames.specs.Applied.{applied}
use Rattle.buffer_frames.specs.declared.page_map.PageMap.{PageMap}

-- the bytes of a page, if the map has it
abbrev pub lookup : PageMap → ℕ → Option (List ℕ)
lookup map p = get_or map.pages.items p None

-- The map has each page that some record changes, with its bytes after all changes over the page
-- file, and no other.
pub record HasApplied (file : List ℕ) (R : Log) (map : PageMap) : Type 0 where
  pub changed : (p : ℕ) → ChangesFrom 0 R p → lookup map p ≡ Some (applied file R p)
  pub others : (p : ℕ) → (ChangesFrom 0 R p → ⊥) → lookup map p ≡ None
