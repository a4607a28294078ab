-- A sweep goes on from a leaf of the entry tree.
use Rattle.std.proofs.Common.{◌≡◌, ◌≢◌, ◌<◌, ◌≤◌, ◌^◌, ℕ, suc, List, [], length, refl, sym}
use Rattle.std.proofs.Common.{ap, subst, arith}
use Rattle.std.specs.Prelude.{Some}
use Rattle.std.specs.Option.{unwrap_or}
use Rattle.page_types.specs.Encoding.{count_of}
use Rattle.page_types.specs.Pages.{IsPage}
use Rattle.page_types.specs.Views.{entries_in}
use Rattle.page_types.specs.declared.page.Page.{Page}
use Rattle.page_types.specs.declared.page.Body.{Body}
use Rattle.core_state.specs.Log.{Log, Pages, Shows}
use Rattle.core_state.specs.Allowed.{Sheet}
use Rattle.core_state.specs.Index.{Below}
use Rattle.core_state.specs.Legal.{IsLegal}
use Rattle.core_state.specs.PagesTold as entry
use Rattle.core_state.specs.TreeRules.{IsRoot}
use Rattle.core_state.proofs.LawsHold.{pages}
use Rattle.core_vacuum.specs.Entries.{EntriesHold}
use Rattle.core_vacuum.specs.Leaves.{LeavesHold}
use Rattle.entry_tree.specs.Adding.{IsEntryLeaf}
use Rattle.gin_place.specs.Stepping.{reads_left}
use Rattle.gin_vacuum.specs.Sweeping.{HasHigh, IsAt}
use Rattle.gin_vacuum.specs.Stepping.{steps_left, below_left, above_left}
use Rattle.gin_vacuum.specs.Inner.Reading.{IsReadLeaf, body_after}
use Rattle.gin_vacuum.specs.Inner.Sweeping.{HasNextTree}
use Rattle.gin_vacuum.specs.declared.sweeping.ReadLeaf.{ReadLeaf}
use Rattle.gin_vacuum.specs.declared.sweeping.Sweeping.{Sweeping}
use Rattle.gin_vacuum.specs.declared.sweeping.Stage.{Stage}
use Rattle.gin_vacuum.specs.declared.sweeping.Stage.TheVariants as stage
use Rattle.gin_vacuum.proofs.Cleaned.{IsLeftAs}
use Rattle.gin_vacuum.proofs.EntryPages.{leaf_below}
use Rattle.gin_vacuum.proofs.LeafNext.{leaf_at}
use Rattle.gin_vacuum.proofs.Passing.{next_at}
use Rattle.gin_vacuum.proofs.PostsNext.{within}

-- the leaf is a page of the entry tree
pub leaf_there : (dead : List ℕ) (m : Sweeping) (page held : ℕ) → m.stage ≡ stage.Leaf page → held ≡ page → (S : Log)
    (P : Pages) → S ≢ [] → IsLegal S → Shows S P → IsAt P dead m m.stage
    → (root : ℕ) × IsRoot P root × Below P root held
leaf_there dead m page held is number S P some legal shown at =
    let l = subst (IsAt P dead m) is at in (
      1,
      IsRoot.of_entries,
      leaf_below S P (pages S P legal shown) some held
          (subst (entry.IsEntryLeaf P) (sym number) l.0),
    )

-- what was read of the leaf
abbrev pub at_work : Sweeping → ReadLeaf → ℕ → Sweeping
at_work m r left = record m { roots = r.roots; next = 0; link = r.link; left = Some left }

pub leaf_to : LeavesHold → EntriesHold → (dead : List ℕ) (m : Sweeping) (page : ℕ) → m.stage ≡ stage.Leaf page
    → (held : Sheet) → held.page ≡ page → (r : ReadLeaf) → IsReadLeaf dead held.content r → (extent left : ℕ)
    → suc left ≡ unwrap_or m.left extent → (new : Sweeping) → HasNextTree (at_work m r left) new → (S : Log) (P : Pages)
    → S ≢ [] → IsLegal S → Shows S P → IsAt P dead m m.stage → IsLeftAs held r.cleaned P → IsAt P dead new new.stage
leaf_to law entries dead m page is held number r x extent left left_is new next S P some legal shown at as_left =
    let lead = law S P some legal shown in
    let left_as = subst (λ (n : ℕ). ((P n).body ≡ body_after held.content r.cleaned)
    × ((P n).right ≡ held.content.right)) number as_left in
    next_at S P (pages S P legal shown) some lead (entries S P some legal shown) dead page (at_work m r left) new
    (leaf_at P lead dead m page held.content r.cleaned x.cleaned r.roots.items x.roots left_as.0 left_as.1 r.link extent
    left x.link left_is (subst (IsAt P dead m) is at))
    next

-- no parent is sought then
pub next_high : (old new : Sweeping) → HasNextTree old new → HasHigh new.stage
next_high old _ (HasNextTree.tree root get) = tt
next_high old _ (HasNextTree.leaf all on) = tt
next_high old _ (HasNextTree.done all end) = tt

-- ── fewer steps are left ──

-- on the way down to the first leaf
pub down_lower : (m : Sweeping) (page left : ℕ) (t : Stage) → m.stage ≡ stage.Down page → left < reads_left m.left
    → below_left (record m { stage = t; left = Some left }) t ≡ 0 → above_left t ≡ 0
    → steps_left (record m { stage = t; left = Some left }) < steps_left m
down_lower m page left t is lower none level =
    let below : below_left m m.stage ≡ 0 = ap (below_left m) is in
    let above : above_left m.stage ≡ 0 = ap above_left is in
    omega (arith, lower, none, level, below, above)

pub few_roots : (c : Page) → IsPage c → IsEntryLeaf c.body → (roots : List ℕ)
    → length roots ≤ length (entries_in c.body)
    → length roots < 2 ^ 16
few_roots c is here roots few = go c.body here refl
  where
    go : (b : Body) → IsEntryLeaf b → c.body ≡ b → length roots < 2 ^ 16
    go _ (IsEntryLeaf.leaf high es) e =
        let n : length (entries_in c.body) ≡ length es = ap (λ (b : Body). length (entries_in b)) e in
        let count : count_of c.body ≡ length es = ap count_of e in
        omega (arith, is.count, few, n, count)

pub leaf_lower : (m : Sweeping) (page : ℕ) → m.stage ≡ stage.Leaf page → (r : ReadLeaf) (left : ℕ)
    → left < reads_left m.left → length r.roots.items < 2 ^ 16 → (new : Sweeping) → HasNextTree (at_work m r left) new
    → steps_left new < steps_left m
leaf_lower m page is r left lower few _ (HasNextTree.tree root get) =
    let below : below_left m m.stage ≡ 0 = ap (below_left m) is in
    let above : above_left m.stage ≡ 0 = ap above_left is in
    let n = within r.roots.items 0 root get in
    omega (arith, lower, few, below, above, n)
leaf_lower m page is r left lower few _ (HasNextTree.leaf all on) =
    let below : below_left m m.stage ≡ 0 = ap (below_left m) is in
    let above : above_left m.stage ≡ 0 = ap above_left is in
    omega (arith, lower, few, below, above)
leaf_lower m page is r left lower few _ (HasNextTree.done all end) =
    let below : below_left m m.stage ≡ 0 = ap (below_left m) is in
    let above : above_left m.stage ≡ 0 = ap above_left is in
    omega (arith, lower, few, below, above)
