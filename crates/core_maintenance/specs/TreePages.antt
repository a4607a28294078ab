-- Pages that have their part of a record's rule, as the calls of the two trees promise it of what they
-- answer, are what a session shows of a step that leaves them.
use Rattle.std.specs.Prelude.{◌≡◌, ℕ, List, [], ◌∷◌}
use Rattle.page_types.specs.declared.page.Page.{Page}
use Rattle.page_types.specs.declared.record.Record.{Record}
use Rattle.page_types.specs.declared.record.Kind.{Kind}
use Rattle.page_types.specs.declared.record.Kind.TheVariants as kind
use Rattle.core_state.specs.Log.{Pages, In, changed}
use Rattle.core_state.specs.Known.{Known}
use Rattle.core_state.specs.Changes.{made_with, IsNew}
use Rattle.core_state.specs.TreeRules.{IsMakeTreeHere, IsGrowRootHere, IsSplitHere, IsRoot}
use Rattle.core_state.specs.Allowed.{View, Step}
use Rattle.core_state.specs.Steps.{sheet, IsNewSheet}
use Rattle.core_maintenance.specs.TreeSteps.{CanSplit, CanGrowRoot, CanMakeTree}

-- each record of this kind that changes these pages, of which one is new, has this part of its rule
abbrev pub HasPart : (ℕ → Known → Record → List Page → List Page → Type 0) → Kind → ℕ → ℕ → List ℕ
    → List Page → (Record → List Page) → Type 0
HasPart Part kd since new ps before after =
    (k : Known) (r : Record) → r.kind ≡ kd → changed r ≡ ps → IsNew k.uses since new
    → Part since k r before (after r)

-- the page as a record leaves it
abbrev pub left_as : Record → Page → Page
left_as r c = made_with r c.right c.body

abbrev pub SplitPagesServe : Type 0
SplitPagesServe =
    (v : View) (P : Pages) (s : Step) (page new parent : ℕ)
    (old old_new old_parent left right adopted : Page) → s.kind ≡ kind.Split
    → s.after ≡ sheet page left ∷ sheet new right ∷ sheet parent adopted ∷ []
    → In (sheet page old) v.held → In (sheet new old_new) v.held
    → In (sheet parent old_parent) v.held → IsNewSheet P v.since new old_new
    → HasPart IsSplitHere kind.Split v.since new (page ∷ new ∷ parent ∷ [])
    (old ∷ old_new ∷ old_parent ∷ [])
    (λ r. left_as r left ∷ left_as r right ∷ left_as r adopted ∷ [])
    → CanSplit v P s

abbrev pub GrownPagesServe : Type 0
GrownPagesServe =
    (v : View) (P : Pages) (s : Step) (root new : ℕ) (old old_new inner moved : Page)
    → s.kind ≡ kind.GrowRoot → s.after ≡ sheet root inner ∷ sheet new moved ∷ []
    → In (sheet root old) v.held → In (sheet new old_new) v.held → IsNewSheet P v.since new old_new
    → IsRoot P root
    → HasPart IsGrowRootHere kind.GrowRoot v.since new (root ∷ new ∷ []) (old ∷ old_new ∷ [])
    (λ r. left_as r inner ∷ left_as r moved ∷ [])
    → CanGrowRoot v P s

abbrev pub TreePagesServe : Type 0
TreePagesServe =
    (v : View) (P : Pages) (s : Step) (page new : ℕ) (old old_new leaf tree : Page)
    → s.kind ≡ kind.MakeTree → s.after ≡ sheet page leaf ∷ sheet new tree ∷ []
    → In (sheet page old) v.held → In (sheet new old_new) v.held → IsNewSheet P v.since new old_new
    → HasPart IsMakeTreeHere kind.MakeTree v.since new (page ∷ new ∷ []) (old ∷ old_new ∷ [])
    (λ r. left_as r leaf ∷ left_as r tree ∷ [])
    → CanMakeTree v P s
