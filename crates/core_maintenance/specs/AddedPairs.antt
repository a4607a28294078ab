-- Items that a session has added are in the main part.
use Rattle.std.specs.Prelude.{ℕ}
use Rattle.page_types.specs.declared.record.Record.{Record}
use Rattle.core_state.specs.Log.{Log, Pages, In, Shows}
use Rattle.core_state.specs.Index.{Main}
use Rattle.core_state.specs.Allowed.{View, IsAllowed, Step, IsDrawn, Leaves}
use Rattle.core_maintenance.specs.MovingSteps.{CanAddItems, CanAddPostings}

-- where the step is logged after an allowed log, each of its items is in the main part under its key
abbrev pub AddedItemsAreMain : Type 0
AddedItemsAreMain =
    (v : View) (P : Pages) (s : Step) (c : CanAddItems v P s) (R : Log) (a : IsAllowed v R)
    (r : Record) (Q : Pages) → IsDrawn R s r → Leaves a.pages Q r s → (i : ℕ) → In i c.items
    → Main Q c.key i

-- likewise under the key of the entry that names the tree
abbrev pub AddedPostingsAreMain : Type 0
AddedPostingsAreMain =
    (v : View) (P : Pages) (s : Step) (c : CanAddPostings v P s) (R : Log) (a : IsAllowed v R)
    (r : Record) (Q : Pages) → Shows v.seen P → IsDrawn R s r → Leaves a.pages Q r s → (i : ℕ)
    → In i c.items → Main Q c.rest.key i
