-- The step by which the root of a tree grows.
use Rattle.std.proofs.Common.{◌≡◌, ◌≢◌, ◌<◌, ℕ, [], ◌∷◌, length, refl, sym, ap, ap₂, subst, ◌∙◌, inl, inr, arith}
use Rattle.disk_trait.specs.declared.device.Disk.{Ghosts as Disk}
use Rattle.page_types.specs.Encoding.{body_bytes}
use Rattle.page_types.specs.Numbers.{page_limit}
use Rattle.page_types.specs.Pages.{IsPage}
use Rattle.page_types.specs.Records.{IsKind, kind_number}
use Rattle.page_types.specs.declared.page.Page.{Page}
use Rattle.page_types.specs.declared.page.Body.TheVariants as body
use Rattle.page_types.specs.declared.record.Kind.{Kind}
use Rattle.page_types.specs.declared.record.Kind.TheVariants as kind
use Rattle.page_types.specs.declared.record.Record.{Record}
use Rattle.core_state.specs.Log.{Log, changed}
use Rattle.core_state.specs.Known.{Known}
use Rattle.core_state.specs.Changes.{made_with, IsNew}
use Rattle.core_state.specs.TreeRules.{IsRoot, IsGrowRootHere, half_body}
use Rattle.core_state.specs.Allowed.{Sheet, Step, MayLog}
use Rattle.core_state.specs.Steps.{MayBy, sheet}
use Rattle.core_maintenance.specs.TreeSteps.{CanGrowRoot}
use Rattle.core_maintenance.specs.TreePages.{GrownPagesServe}
use Rattle.entry_tree.specs.Growing.{moved_down}
use Rattle.entry_tree.specs.Logging as entry_laws
use Rattle.posting_tree.specs.Logging as post_laws
use Rattle.buffer_frames.specs.Opens.{IsLoggedKind}
use Rattle.buffer_frames.specs.Frames.{FramesValue, Behind}
use Rattle.buffer_frames.specs.Passes.{IsPassOf, IsHolding, view_of}
use Rattle.buffer_frames.specs.declared.pass.Pass.{Pass}
use Rattle.gin_place.specs.Going.{IsPlacingKind}
use Rattle.gin_place.specs.Trees.{root_of, root_with, IsTreeBody}
use Rattle.gin_place.specs.Placing.{HasRight, IsRootOf}
use Rattle.gin_place.specs.Holding.{IsNewHeld}
use Rattle.gin_place.specs.Inner.Logging.{MayLogStep, IsGrowStep}
use Rattle.gin_place.specs.declared.sought.Sought.{Sought}
use Rattle.gin_place.specs.declared.sought.Sought.TheVariants as sought
use Rattle.gin_place.proofs.Parts.{not_free_in}
use Rattle.gin_place.proofs.TwoPages.{two_may_log}

-- the step of these two pages
pub grow_made : (t : Sought) (root new : Sheet) (inner moved : Page) (s : Step)
    → inner ≡ root_with t root.content new.page → moved ≡ moved_down root.content → IsPage inner × IsPage moved
    → s ≡ record { kind = kind.GrowRoot; xid = 0; after = sheet root.page inner ∷ sheet new.page moved ∷ [] }
    → IsGrowStep t root new s
grow_made t root new inner moved s is is_moved pages made = record {
  kind_is = ap (λ (t : Step). t.kind) made;
  xid = ap (λ (t : Step). t.xid) made;
  after_is = ap (λ (t : Step). t.after) made
      ∙ ap₂ (λ (a b : Page). sheet root.page a ∷ sheet new.page b ∷ []) is is_moved;
  pages = (subst IsPage is pages.0, subst IsPage is_moved pages.1);
}

root_used : (t : Sought) (c : Page) (n : ℕ) → (root_with t c n).body ≢ body.Free
root_used sought.Key c n e = cc
root_used (sought.Item root item) c n e = cc

-- the pages of either tree are what a GrowRoot asks of its pages
grown_in : (t : Sought) → entry_laws.GrownRootIsLogged → post_laws.GrownRootIsLogged → (k : Known) (r : Record)
    (since root new : ℕ) (old was : Page) → IsTreeBody t old.body → half_body < length (body_bytes old.body)
    → r.kind ≡ kind.GrowRoot → changed r ≡ root ∷ new ∷ [] → IsNew k.uses since new
    → IsGrowRootHere since k r (old ∷ was ∷ [])
    (made_with r (root_with t old new).right (root_with t old new).body
    ∷ made_with r (moved_down old).right (moved_down old).body ∷ [])
grown_in sought.Key e p = e
grown_in (sought.Item root item) e p = p

module _ {D : Type 0} (device : Disk D) (f : FramesValue D) (pass : Pass) (t : Sought) (root new : Sheet) (s : Step)
    (made : IsGrowStep t root new s) (hold : IsHolding device f pass (new ∷ root ∷ []))
    (on_tree : IsTreeBody t root.content.body) (large : half_body < length (body_bytes root.content.body))
    (at : root.page ≡ root_of t) (is_root : IsRootOf device f pass t) (root_low : root.page < page_limit)
    (low : new.page < page_limit) where
  grow_allowed : MayBy CanGrowRoot → GrownPagesServe → entry_laws.GrownRootIsLogged → post_laws.GrownRootIsLogged
      → IsNewHeld device f pass new → Behind device f (λ (R : Log). MayLog (view_of f pass R (new ∷ root ∷ [])) s)
  grow_allowed may serve entries posts is_new told up R stands legal =
      may (view_of f pass R (new ∷ root ∷ [])) s (λ P seen_is shown.
      serve (view_of f pass R (new ∷ root ∷ [])) P s root.page new.page root.content new.content
      (root_with t root.content new.page) (moved_down root.content) made.kind_is made.after_is (inr (inl refl))
      (inl refl) (is_new told up R stands legal P shown)
      (subst (IsRoot P) (sym at) (is_root told up R stands legal P shown))
      (λ k r kd ch fresh.
      grown_in t entries posts k r pass.since root.page new.page root.content new.content on_tree large kd ch fresh))

  pub grow_may_log : IsPassOf f pass → HasRight pass → MayBy CanGrowRoot → GrownPagesServe
      → entry_laws.GrownRootIsLogged → post_laws.GrownRootIsLogged → IsNewHeld device f pass new
      → MayLogStep device f pass (new ∷ root ∷ []) s
  grow_may_log of right may serve entries posts is_new =
      two_may_log device f pass root new (root_with t root.content new.page) (moved_down root.content) s hold made.xid
      made.after_is root_low low made.pages
      (root_used t root.content new.page, not_free_in t root.content.body on_tree) of right
      (subst IsKind (sym made.kind_is) tt) (subst IsLoggedKind (sym made.kind_is) tt)
      (subst (λ (k : Kind). IsPlacingKind (kind_number k)) (sym made.kind_is) (omega arith, omega arith))
      (grow_allowed may serve entries posts is_new)
