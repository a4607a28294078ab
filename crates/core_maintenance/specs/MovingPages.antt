-- A leaf with items added, which has its part of the record's rule, as the calls of the two trees promise
-- it of what they answer, is what a session shows of the step that leaves it.
use Rattle.std.specs.Prelude.{◌≡◌, ℕ, List, [], ◌∷◌}
use Rattle.ts_base.specs.Keys.{Key}
use Rattle.page_types.specs.declared.page.Page.{Page}
use Rattle.page_types.specs.declared.record.Record.{Record}
use Rattle.page_types.specs.declared.record.Kind.TheVariants as kind
use Rattle.core_state.specs.Log.{Pages, In, changed}
use Rattle.core_state.specs.Known.{Known}
use Rattle.core_state.specs.Changes.{made_with}
use Rattle.core_state.specs.TreeRules.{IsAddItemsHere, IsAddItemsRest, IsAddPostingsHere, IsAddPostingsRest}
use Rattle.core_state.specs.Allowed.{View, Step}
use Rattle.core_state.specs.Steps.{sheet}
use Rattle.core_maintenance.specs.Right.{HasRight}
use Rattle.core_maintenance.specs.MovingSteps.{CanAddItems, CanAddPostings}

-- each AddItems that leaves this page so adds these items under this key
abbrev pub AddsItemsTo : ℕ → Key → List ℕ → Page → Page → Type 0
AddsItemsTo page key items old new =
    (k : Known) (r : Record) → r.kind ≡ kind.AddItems → changed r ≡ page ∷ []
    → (x : IsAddItemsHere k r (old ∷ []) (made_with r new.right new.body ∷ []))
    × (x.key ≡ key) × (x.items ≡ items)

abbrev pub ItemsServe : Type 0
ItemsServe =
    (v : View) (P : Pages) (s : Step) (page : ℕ) (key : Key) (items : List ℕ) (old new : Page)
    → s.kind ≡ kind.AddItems → s.after ≡ sheet page new ∷ [] → HasRight v
    → In (sheet page old) v.held → AddsItemsTo page key items old new
    → IsAddItemsRest P key items page → CanAddItems v P s

-- each AddPostings that leaves this page so adds these items
abbrev pub AddsPostingsTo : ℕ → List ℕ → Page → Page → Type 0
AddsPostingsTo page items old new =
    (k : Known) (r : Record) → r.kind ≡ kind.AddPostings → changed r ≡ page ∷ []
    → (x : IsAddPostingsHere k r (old ∷ []) (made_with r new.right new.body ∷ []))
    × (x.items ≡ items)

abbrev pub PostingsServe : Type 0
PostingsServe =
    (v : View) (P : Pages) (s : Step) (page : ℕ) (items : List ℕ) (old new : Page)
    → s.kind ≡ kind.AddPostings → s.after ≡ sheet page new ∷ [] → HasRight v
    → In (sheet page old) v.held → AddsPostingsTo page items old new
    → IsAddPostingsRest P items page → CanAddPostings v P s
