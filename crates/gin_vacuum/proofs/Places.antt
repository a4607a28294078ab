-- In a legal log the page that a sweep reads next is in its place.
use Rattle.std.proofs.Common.{◌≡◌, ◌≢◌, ℕ, List, [], ◌∷◌, refl, sym, subst}
use Rattle.std.specs.Prelude.{Option, Some, None}
use Rattle.page_types.specs.Pages.{IsPage, IsBody}
use Rattle.page_types.specs.declared.page.Page.{Page}
use Rattle.page_types.specs.declared.page.Body.{Body}
use Rattle.page_types.specs.declared.page.Body.TheVariants as body
use Rattle.core_state.specs.Log.{Log, Pages, Shows}
use Rattle.core_state.specs.Legal.{IsLegal}
use Rattle.core_maintenance.specs.Leading.{IsHigh, IsHighPost, WaysHold}
use Rattle.entry_tree.specs.Adding as entry_leaves
use Rattle.posting_tree.specs.Adding as post_leaves
use Rattle.entry_tree.specs.Finding.{IsEntryBody}
use Rattle.posting_tree.specs.Reading.{IsPostBody}
use Rattle.gin_vacuum.specs.Sweeping.{AreLeftDown, IsAt}
use Rattle.gin_vacuum.specs.Inner.Reading.{IsBelow}
use Rattle.gin_vacuum.specs.Stepping.{IsNext, IsPlaceOf}
use Rattle.gin_vacuum.specs.declared.sweeping.Below.TheVariants as below
use Rattle.gin_vacuum.specs.declared.sweeping.Sweeping.{Sweeping}
use Rattle.gin_vacuum.specs.declared.sweeping.Stage.{Stage}
use Rattle.gin_vacuum.specs.declared.sweeping.Stage.TheVariants as stage
use Rattle.gin_vacuum.proofs.ParentSteps.{parent_there}
use Rattle.gin_vacuum.proofs.TreeRuns.{not_free}
use Rattle.gin_vacuum.proofs.TreesStay.{there_in}

-- a page of a way down is one of its tree
entry_body : (P : Pages) (h p : ℕ) → IsHigh P h p → IsEntryBody (P p).body × ((P p).body ≢ body.Free)
entry_body P _ p (IsHigh.leaf high es is) =
    (subst IsEntryBody (sym is) (IsEntryBody.leaf high es), not_free (P p).body _ is (λ z. cc))
entry_body P _ p (IsHigh.inner cs is each) =
    (subst IsEntryBody (sym is) (IsEntryBody.inner cs), not_free (P p).body _ is (λ z. cc))

post_body : (P : Pages) (h p : ℕ) → IsHighPost P h p → IsPostBody (P p).body × ((P p).body ≢ body.Free)
post_body P _ p (IsHighPost.leaf high items is) =
    (subst IsPostBody (sym is) (IsPostBody.leaf high items), not_free (P p).body _ is (λ z. cc))
post_body P _ p (IsHighPost.inner cs is each) =
    (subst IsPostBody (sym is) (IsPostBody.inner cs), not_free (P p).body _ is (λ z. cc))

high_down : (P : Pages) (IsLeaf : ℕ → Type 0) (High : ℕ → ℕ → Type 0) (root page : ℕ) (o : Option ℕ)
    → ((h : ℕ) × High h root) → AreLeftDown P IsLeaf High root page o → (h : ℕ) × High h page
high_down P IsLeaf High root page None top a = (top.0, subst (High top.0) (sym a) top.1)
high_down P IsLeaf High root page (Some n) top a = (a.high, a.is_high)

-- what is read next lies in its place
pub place_there : WaysHold → (dead : List ℕ) (m : Sweeping) (t : Stage) (page : ℕ) → IsNext t page → (S : Log)
    (P : Pages) → S ≢ [] → IsLegal S → Shows S P → IsAt P dead m t
    → IsPlaceOf t (P page) × ((P page).body ≢ body.Free)
place_there ways dead m (stage.Down p) page next S P some legal shown at =
    let top = (ways S P some legal shown).height in
    let high = high_down P _ (IsHigh P) 1 p m.left (top.0, top.1) at.1 in
    subst (λ (n : ℕ). IsPlaceOf (stage.Down p) (P n) × ((P n).body ≢ body.Free)) (sym next)
    (entry_body P high.0 p high.1)
place_there ways dead m (stage.Leaf p) page next S P some legal shown at =
    let l = at.0 in
    subst (λ (n : ℕ). IsPlaceOf (stage.Leaf p) (P n) × ((P n).body ≢ body.Free)) (sym next) (
      subst entry_leaves.IsEntryLeaf (sym l.2) (entry_leaves.IsEntryLeaf.leaf l.0 l.1),
      not_free (P p).body _ l.2 (λ z. cc),
    )
place_there ways dead m (stage.TreeDown root p) page next S P some legal shown at =
    let n = at.0.at.named root (there_in m.roots.items at.0.before root at.0.root_is) in
    let top = (ways S P some legal shown).post_height n.0 root n.1 in
    let high = high_down P _ (IsHighPost P) root p m.left_below (top.0, top.1) at.2 in
    subst (λ (n : ℕ). IsPlaceOf (stage.TreeDown root p) (P n) × ((P n).body ≢ body.Free)) (sym next)
    (post_body P high.0 p high.1)
place_there ways dead m (stage.Posts root before p) page next S P some legal shown at =
    let l = at.1 in
    subst (λ (n : ℕ). IsPlaceOf (stage.Posts root before p) (P n) × ((P n).body ≢ body.Free)) (sym next) (
      subst post_leaves.IsPostLeaf (sym l.1.2) (post_leaves.IsPostLeaf.leaf l.1.0 l.1.1),
      not_free (P p).body _ l.1.2 (λ z. cc),
    )
place_there ways dead m (stage.Parent empty p left) page next S P some legal shown at =
    subst (λ (n : ℕ). IsPlaceOf (stage.Parent empty p left) (P n) × ((P n).body ≢ body.Free)) (sym next)
    (parent_there P dead m empty p left at)
place_there ways dead m stage.Done page next S P some legal shown at = absurd next

-- ── a page that is none of a tree ──

pub entry_bad : (c : Page) → IsPage c → IsBelow c.body below.Bad → IsEntryBody c.body → ⊥
entry_bad c is bad on = go c.body refl on bad
  where
    go : (b : Body) → c.body ≡ b → IsEntryBody b → IsBelow b below.Bad → ⊥
    go _ e (IsEntryBody.leaf high es) bad = bad.0 (entry_leaves.IsEntryLeaf.leaf high es)
    go _ e (IsEntryBody.inner []) bad = (subst (IsBody c.right c.stamp) e is.body).some refl
    go _ e (IsEntryBody.inner (d ∷ cs)) bad = let z = bad.1 in cc
