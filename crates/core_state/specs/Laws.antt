-- What follows from the definitions.
use Rattle.std.specs.Prelude.{◌≡◌, ◌≢◌, ◌↔◌, ℕ, ◌≤◌, List, ◌∷◌, length}
use Rattle.ts_base.specs.Keys as texts
use Rattle.page_types.specs.Keys as pages
use Rattle.page_types.specs.Pages.{IsPage}
use Rattle.page_types.specs.Records.{IsRecord}
use Rattle.page_types.specs.declared.page.Page.{Page}
use Rattle.page_types.specs.declared.page.Body.TheVariants as body
use Rattle.page_types.specs.declared.record.Record.{Record}
use Rattle.core_state.specs.Log.{Log, Pages, In, Shows, changed}
use Rattle.core_state.specs.History.{History, IsHistory}
use Rattle.core_state.specs.Legal.{Valid, IsLegal, Pin, Keeps}
use Rattle.core_state.specs.Allowed.{made_by}

-- pages' keys are those of vectors
abbrev pub KeysAreOne : Type 0
KeysAreOne = (k : List ℕ) → pages.IsKey k ↔ texts.IsKey k

-- two page functions that one log shows are one
abbrev pub ShownAreOne : Type 0
ShownAreOne = (R : Log) (P Q : Pages) → Shows R P → Shows R Q → P ≡ Q

-- a page that a record doesn't name is the same after it
abbrev pub OthersStay : Type 0
OthersStay =
    (R : Log) (r : Record) (P Q : Pages) → Shows R P → Shows (r ∷ R) Q → (p : ℕ)
    → (In p (changed r) → ⊥) → Q p ≡ P p

-- a page of a step that has an encoding, and isn't free, has one as a record makes it
abbrev pub MadeIsPage : Type 0
MadeIsPage =
    (r : Record) (c : Page) → IsRecord r → c.body ≢ body.Free → IsPage c → IsPage (made_by r c)

-- a larger floor or since makes no valid record invalid
abbrev pub ValidIsMonotone : Type 0
ValidIsMonotone =
    (R : Log) (r : Record) (floor since floor' since' : ℕ) → floor ≤ floor' → since ≤ since'
    → Valid R r floor since → Valid R r floor' since'

-- a legal log without its newest record is legal
abbrev pub LegalWithoutNewest : Type 0
LegalWithoutNewest = (r : Record) (R : Log) → IsLegal (r ∷ R) → IsLegal R

-- and it keeps its pins that were taken before that record
abbrev pub KeepsWithoutNewest : Type 0
KeepsWithoutNewest =
    (r : Record) (R : Log) (pin : Pin) → pin.length ≤ length R → Keeps (r ∷ R) pin → Keeps R pin

-- a log has one history at most
abbrev pub HistoryIsOne : Type 0
HistoryIsOne = (R : Log) (H H' : History) → IsHistory R H → IsHistory R H' → H ≡ H'

-- a legal log has a history
abbrev pub LegalHasHistory : Type 0
LegalHasHistory = (R : Log) → IsLegal R → (H : History) × IsHistory R H
