-- An xid that isn't drawn has done nothing.
use Rattle.std.proofs.Common.{◌≡◌, ◌⊎◌, ◌<◌, ◌≤◌, ℕ, List, [], ◌∷◌, refl, sym, ap, ◌∙◌, inl, inr, arith}
use Rattle.page_types.specs.declared.record.Kind.{Kind}
use Rattle.page_types.specs.declared.record.Kind.TheVariants as kind
use Rattle.core_state.specs.Log.{Log, In, fate, xid_behind, next_xid}
use Rattle.core_state.specs.Documents.{Doc, placed, marked}
use Rattle.core_state.specs.HeapRules.{IsPlaceHead, IsMarkDeleted}
use Rattle.core_state.specs.Legal.{RecordsAreValid}
use Rattle.core_state.specs.Steps.{NotDrawnHolds}
use Rattle.core_state.specs.Inner.XidsDrawn.{XidsDrawn}
use Rattle.core_state.specs.declared.answers.Fate.TheVariants.{Unused, Running}
use Rattle.core_state.proofs.RulesByKind.{kind_rule}
use Rattle.core_state.proofs.FateSteps.{placed_back, marked_back}
use Rattle.core_state.proofs.SteadyEnds.{xids_drawn}

next_more : (k : Kind) (x : ℕ) → x ≤ xid_behind k x
next_more kind.Begin x = omega arith
next_more _ x = omega arith

low_or_not : (a b : ℕ) → (a < b) ⊎ (b ≤ a)
low_or_not a b = grind arith

-- who runs was drawn
runs_drawn : (R : Log) (x : ℕ) → XidsDrawn R → fate R x ≡ Running → x < next_xid R
runs_drawn R x D runs = elim (low_or_not x (next_xid R)) [
  | inl low ↦ low
  | inr high ↦ let f : Running ≡ Unused = sym runs ∙ D.fresh x high in absurd cc
]

placed_drawn : (R : Log) → RecordsAreValid R → (x : ℕ) (d : Doc) → In d (placed R x) → x < next_xid R
placed_drawn [] v x d i = absurd i
placed_drawn (r ∷ R) v x d i =
    let more = next_more r.kind (next_xid R) in
    elim (placed_back r R x d i) [
      | inl old ↦ omega (arith, placed_drawn R v.0 x d old, more)
      | inr new ↦
          let row : IsPlaceHead R v.1.before v.1.after r _ = kind_rule R v.1.before v.1.after r _ _
          (kind.PlaceHead d.item d.serial) new.0 v.1.rule in
          omega (arith, runs_drawn R x (xids_drawn R v.0) (ap (fate R) (sym new.1) ∙ row.here.runs), more)
    ]

marked_drawn : (R : Log) → RecordsAreValid R → (x : ℕ) (d : Doc) → In d (marked R x) → x < next_xid R
marked_drawn [] v x d i = absurd i
marked_drawn (r ∷ R) v x d i =
    let more = next_more r.kind (next_xid R) in
    elim (marked_back r R x d i) [
      | inl old ↦ omega (arith, marked_drawn R v.0 x d old, more)
      | inr new ↦
          let row : IsMarkDeleted R v.1.before v.1.after r = kind_rule R v.1.before v.1.after r _ _
          (kind.MarkDeleted d.item d.serial) new.0 v.1.rule in
          omega (arith, runs_drawn R x (xids_drawn R v.0) (ap (fate R) (sym new.1) ∙ row.here.runs), more)
    ]

none_in : (ds : List Doc) → ((d : Doc) → In d ds → ⊥) → ds ≡ []
none_in [] off = refl
none_in (d ∷ ds) off = absurd (off d (inl refl))

pub not_drawn : NotDrawnHolds
not_drawn R x legal high = (
  (xids_drawn R legal.valid).fresh x high,
  none_in (placed R x) (λ d i. let low = placed_drawn R legal.valid x d i in omega (arith, low, high)),
  none_in (marked R x) (λ d i. let low = marked_drawn R legal.valid x d i in omega (arith, low, high)),
)
