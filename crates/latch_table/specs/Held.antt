-- The frames that a pass holds, as numbers and as slots that are out with it.
use Rattle.std.specs.Prelude.{ℕ, zero, suc, ◌==◌, cond, List, [], ◌∷◌, Option, Some, None}
use Rattle.atomic_table.specs.Table.{turned}
use Rattle.latch_table.specs.declared.held.Held.{Held}
use Rattle.latch_table.specs.declared.held.Held.TheVariants as held
use Rattle.latch_table.specs.declared.slots.Slot.{Slot}
use Rattle.latch_table.specs.declared.slots.Slot.TheVariants.{Away}
use Rattle.latch_table.specs.declared.states.Note.{Note}

abbrev pub numbers : Held → List ℕ
numbers held.None = []
numbers (held.One a) = a ∷ []
numbers (held.Two a b) = a ∷ b ∷ []
numbers (held.Three a b c) = a ∷ b ∷ c ∷ []
numbers (held.Four a b c d) = a ∷ b ∷ c ∷ d ∷ []

-- how many are in front of k
abbrev pub position : ℕ → List ℕ → ℕ
position k [] = 0
position k (x ∷ xs) = cond (x == k) 0 (suc (position k xs))

-- the list without the first k
abbrev pub removed : ℕ → List ℕ → List ℕ
removed k [] = []
removed k (x ∷ xs) = cond (x == k) xs (x ∷ removed k xs)

-- the frames of these notes
abbrev pub frames_of : List Note → List ℕ
frames_of [] = []
frames_of (f ∷ fs) = f.frame ∷ frames_of fs

-- the first goes after the others, so many times
abbrev pub turned_by : {S : Type 0} → ℕ → List (ℕ × S) → List (ℕ × S)
turned_by zero xs = xs
turned_by (suc n) xs = turned (turned_by n xs)

-- the slots that are out, for these notes
abbrev pub carried : {F J : Type 0} → List Note → List (ℕ × Slot F J)
carried [] = []
carried (f ∷ fs) = (f.frame, Away) ∷ carried fs

-- and the journal's on top, where the pass has it
abbrev pub journal_if : {F J : Type 0} → ℕ → Option J → List (ℕ × Slot F J) → List (ℕ × Slot F J)
journal_if word None xs = xs
journal_if word (Some b) xs = (word, Away) ∷ xs
