-- What the frames and the journal of the bench say of themselves.
use Rattle.std.specs.Prelude.{⊤, false, [], None}
use Rattle.latch_table.specs.declared.slots.Framed.{Ghosts as Framed}
use Rattle.latch_table.specs.declared.slots.Journaled.{Ghosts as Journaled}
use Rattle.latch_bench.specs.declared.slots.Leaf.{Leaf}
use Rattle.latch_bench.specs.declared.slots.Tally.{Tally}

-- a frame says its page, and nothing of its bytes
abbrev pub leaf : Framed Leaf
leaf = record { page = λ f. f.page; bytes = λ f. [] }

-- The journal is never a lawful store's. It says the length of its log, and that each frame has the
-- page of its own number.
abbrev pub tally : Journaled Tally
tally = record {
  lawful = λ b. ⊥;
  stands = λ b log. ⊤;
  flushed = λ b. 0;
  counted = λ b. 0;
  length_of = λ b. b.count;
  place = λ b i. i;
  pins = λ b k. None;
  owes = λ b. false;
  faults = λ b. 0;
  write_faults = λ b. 0;
  reaches = λ b clock n. ⊤;
  has_redo = λ b log n written synced. ⊤;
  has_walked = λ b log n bound passed. ⊤;
}
