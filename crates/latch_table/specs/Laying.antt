-- What frames and journal are to be where a table is laid over them.
use Rattle.std.specs.Prelude.{◌≡◌, ℕ, ◌<◌, List, [], length, None}
use Rattle.page_types.specs.Numbers.{page_limit, page_size, zeros}
use mathlib.Core.Option.{some}
use lib.ListN.{get_elem?}
use Rattle.core_state.specs.Log.{Log, Pages}
use Rattle.core_state.specs.Legal.{Keeps}
use Rattle.core_state.specs.Logged.{pin_now}
use Rattle.latch_table.specs.declared.slots.Framed.{Ghosts as Framed}
use Rattle.latch_table.specs.declared.slots.Journaled.{Ghosts as Journaled}
use Rattle.latch_table.specs.Shapes.{Shape}
use Rattle.latch_table.specs.Lines.{IsFrame, IsStore, ArePlaced}

-- nobody holds a word
abbrev pub laid_shape : {J : Type 0} → ℕ → Log → Pages → J → Shape J
laid_shape frames log pages b = record {
  frames = frames;
  log = log;
  pages = pages;
  journal = b;
  holder = λ word. 0;
  owner = λ xid. 0;
  pinner = λ place. 0;
}

-- The lines on the log, on resident pages and on pins hold of these frames and this journal, and no
-- pin is taken.
pub record CanLie {F J : Type 0} (frame : Framed F) (journal : Journaled J) (frames : List F)
    (b : J) : Type 0 where
  pub log : Log
  pub pages : Pages
  pub store : IsStore journal b (laid_shape (length frames) log pages b)
  pub placed : ArePlaced journal (laid_shape (length frames) log pages b)
  pub lie : (i : ℕ) (f : F) → get_elem? frames i ≡ some f
      → IsFrame frame journal b (laid_shape (length frames) log pages b) i f
  pub no_pins : (k : ℕ) → journal.pins b k ≡ None
  pub now : journal.lawful b → Keeps log (pin_now (journal.flushed b) log)

-- a journal whose log is empty, over frames whose pages are zeros
pub record IsEmptyStore {F J : Type 0} (frame : Framed F) (journal : Journaled J) (frames : List F)
    (b : J) : Type 0 where
  pub stands : journal.stands b []
  pub length_is : journal.length_of b ≡ 0
  pub counted : journal.counted b ≡ 0
  pub flushed : journal.flushed b ≡ 0
  pub reached : (c : ℕ) × (journal.lawful b → journal.reaches b c 0)
  pub no_pins : (k : ℕ) → journal.pins b k ≡ None
  pub page : (i : ℕ) (f : F) → get_elem? frames i ≡ some f → frame.page f ≡ journal.place b i
  pub bytes : (i : ℕ) (f : F) → get_elem? frames i ≡ some f → journal.lawful b
      → frame.page f < page_limit → frame.bytes f ≡ zeros page_size
  pub placed : (i k : ℕ) → i < length frames → k < length frames
      → journal.place b i ≡ journal.place b k → i ≡ k

-- a table may be laid over an empty store
abbrev pub EmptyStoresLie : {F J : Type 0} → Framed F → Journaled J → Type 0
EmptyStoresLie {F} {J} frame journal =
    (frames : List F) (b : J) → IsEmptyStore frame journal frames b → CanLie frame journal frames b
