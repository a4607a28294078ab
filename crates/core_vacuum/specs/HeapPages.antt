-- Which pages are heap pages.
use Rattle.std.specs.Prelude.{◌≡◌, ◌↔◌, ℕ, List, Option}
use Rattle.page_types.specs.declared.page.Head.{Head}
use Rattle.page_types.specs.declared.page.Body.{Body}
use Rattle.page_types.specs.declared.page.Body.TheVariants as body
use Rattle.core_state.specs.Log.{Log, Pages, Shows}
use Rattle.core_state.specs.Documents.{Doc, Has, page_of}
use Rattle.core_state.specs.Lives.{IsHeapPage}
use Rattle.core_state.specs.Legal.{IsLegal}

-- the page has slots
abbrev pub HasSlots : Body → Type 0
HasSlots b = (slots : List (Option Head)) × (b ≡ body.Heap slots)

-- Just the pages on which a head was placed have slots; a document that has its slot is on one.
pub record HeapPagesStand (R : Log) (P : Pages) : Type 0 where
  pub placed : (p : ℕ) → IsHeapPage R p ↔ HasSlots (P p).body
  pub has : (d : Doc) (h : Head) → Has P d h → IsHeapPage R (page_of d.item)

-- so it is in every legal log
abbrev pub HeapPagesHold : Type 0
HeapPagesHold = (R : Log) (P : Pages) → IsLegal R → Shows R P → HeapPagesStand R P
