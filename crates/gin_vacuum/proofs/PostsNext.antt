-- What is read next after a leaf of a posting tree that dead items have left.
use Rattle.std.proofs.Common.{◌≡◌, ◌≢◌, ◌<◌, ◌≤◌, ◌+◌, ◌*◌, ◌-◌, ◌^◌, ℕ, zero, suc, List, [], ◌∷◌, length, refl}
use Rattle.std.proofs.Common.{ap, subst}
use Rattle.std.proofs.Common.{◌∙◌, inr, arith}
use Rattle.std.specs.Prelude.{Option, Some, None}
use Rattle.std.specs.List.{slice_get}
use Rattle.std.specs.Option.{unwrap_or}
use Rattle.ts_base.specs.Keys.{Key}
use Rattle.page_types.specs.Items.{IsItemList, items_of, item_list}
use Rattle.page_types.specs.Pages.{IsPage, IsBody, IsHighItem}
use Rattle.page_types.specs.Views.{posting_items_in}
use Rattle.page_types.specs.declared.page.Page.{Page}
use Rattle.page_types.specs.declared.page.Body.{Body}
use Rattle.page_types.specs.declared.page.Body.TheVariants as body
use Rattle.core_state.specs.Log.{Log, Pages, In, Shows}
use Rattle.core_state.specs.Index.{IsNamed}
use Rattle.core_state.specs.Legal.{IsLegal}
use Rattle.core_state.specs.PagesTold.{PagesTold, IsPostLeaf, OnPostLeaf, UpPostLeaf}
use Rattle.core_state.specs.TreeRules.{TowardItem}
use Rattle.core_state.proofs.LawsHold.{pages}
use Rattle.core_vacuum.specs.Entries.{EntriesHold}
use Rattle.core_vacuum.specs.Leaves.{LeavesCover, LeavesStand, LeavesHold}
use Rattle.posting_tree.specs.Removing.{IsLeafLeft}
use Rattle.gin_place.specs.Stepping.{reads_left, most_reads}
use Rattle.gin_vacuum.specs.Inner.Reading.{IsCleaned, body_after}
use Rattle.gin_vacuum.specs.Inner.Sweeping.{HasNextTree, GoesPast}
use Rattle.gin_vacuum.specs.Stepping.{steps_left}
use Rattle.gin_vacuum.specs.Sweeping.{LeadsOver, AreLeft, IsTreeAt, IsAt}
use Rattle.gin_vacuum.specs.declared.sweeping.Sweeping.{Sweeping}
use Rattle.gin_vacuum.specs.declared.sweeping.Stage.TheVariants as stage
use Rattle.gin_vacuum.proofs.LeafWays.{leaf_way, root_not_leaf}
use Rattle.gin_vacuum.proofs.Passing.{post_clean, past_at}
use Rattle.gin_vacuum.proofs.Removed.{contained}
use Rattle.gin_vacuum.proofs.TreesStay.{there_in}

-- ── what is left on the leaf ──

none_left : (dead : List ℕ) (b c : Body) → IsLeafLeft dead b c → (i : ℕ) → In i dead → In i (posting_items_in c) → ⊥
none_left dead _ _ (IsLeafLeft.entries high old new all) i gone on = on
none_left dead _ _ (IsLeafLeft.postings high old new left) i gone on =
    ((left.has i).0 (contained i (items_of new) on)).1 (contained i dead gone)

-- no dead item is
pub none_dead : (dead : List ℕ) (page : Page) (cleaned : Option Page) → IsCleaned dead page cleaned → (i : ℕ)
    → In i dead → In i (posting_items_in (body_after page cleaned)) → ⊥
none_dead dead page None x i gone on =
    x.none i (inr (contained i (posting_items_in page.body) on)) (contained i dead gone)
none_dead dead page (Some p) x i gone on = none_left dead page.body p.body x.left.0 i gone on

left_leaf : (dead : List ℕ) (high : ℕ) (list : List ℕ) (b c : Body) → IsLeafLeft dead b c
    → b ≡ body.PostLeaf high list → (new : List ℕ) × (c ≡ body.PostLeaf high new)
left_leaf dead high list _ _ (IsLeafLeft.entries h old new all) is = absurd (let z : ⊥ = cc in z)
left_leaf dead high list _ _ (IsLeafLeft.postings h old new left) is =
    (new, let e : h ≡ high = cc in ap (λ (x : ℕ). body.PostLeaf x new) e)

-- it is a leaf with the same high item
pub still_leaf : (dead : List ℕ) (page : Page) (cleaned : Option Page) (high : ℕ) (list : List ℕ)
    → IsCleaned dead page cleaned → page.body ≡ body.PostLeaf high list
    → (new : List ℕ) × (body_after page cleaned ≡ body.PostLeaf high new)
still_leaf dead page None high list x is = (list, is)
still_leaf dead page (Some p) high list x is = left_leaf dead high list page.body p.body x.left.0 is

no_bytes : (list : List ℕ) → IsItemList list → items_of list ≡ [] → list ≡ []
no_bytes list is none = is.encoding ∙ ap item_list none

-- a leaf without items has no bytes
bare : (c : Page) (high : ℕ) (list : List ℕ) → IsPage c → c.body ≡ body.PostLeaf high list
    → posting_items_in c.body ≡ [] → list ≡ []
bare c high list is e none =
    no_bytes list (subst (IsBody c.right c.stamp) e is.body).1
    (subst (λ (b : Body). posting_items_in b ≡ []) e none)

-- from a leaf on, right links lead over one leaf more than from the next
pub lead_next : (P : Pages) (IsLeaf : ℕ → Type 0) (page m : ℕ) → (IsLeaf 0 → ⊥) → IsLeaf page
    → LeadsOver P IsLeaf page m → (n : ℕ) × (m ≡ suc n) × LeadsOver P IsLeaf (P page).right n
lead_next P IsLeaf _ _ zero_not l LeadsOver.end = absurd (zero_not l)
lead_next P IsLeaf page _ zero_not l (LeadsOver.next {n = n} k lead) = (n, refl, lead)

pub left_next : (P : Pages) (IsLeaf : ℕ → Type 0) (page extent left : ℕ) (o : Option ℕ) → (IsLeaf 0 → ⊥)
    → IsLeaf page → suc left ≡ unwrap_or o extent → AreLeft P IsLeaf page o
    → AreLeft P IsLeaf (P page).right (Some left)
left_next P IsLeaf page extent left None zero_not l e a = absurd a
left_next P IsLeaf page extent left (Some n) zero_not l e a =
    let x = lead_next P IsLeaf page a.0 zero_not l a.1 in
    let same : suc left ≡ n = e in
    (x.0, x.2, omega (arith, a.2, x.1, same))

module _ (S : Log) (P : Pages) (some : S ≢ []) (legal : IsLegal S) (shown : Shows S P) (leaves : LeavesHold)
    (entries : EntriesHold) (dead : List ℕ) (m : Sweeping) (root before page extent left : ℕ)
    (e : suc left ≡ unwrap_or m.left_below extent) (at : IsAt P dead m (stage.Posts root before page)) (was : Page)
    (cleaned : Option Page) (x : IsCleaned dead was cleaned) (content : (P page).body ≡ body_after was cleaned)
    (right : (P page).right ≡ was.right) where
  abbrev told : PagesTold S P
  told = pages S P legal shown

  abbrev lead : LeavesStand P
  lead = leaves S P some legal shown

  abbrev t : IsTreeAt P dead m.roots.items m.next m.link m.left root
  t = at.0

  named : (k : Key) × IsNamed P k root
  named = t.at.named root (there_in m.roots.items t.before root t.root_is)

  cover : LeavesCover P (IsPostLeaf P root) (OnPostLeaf P) (UpPostLeaf P)
  cover = lead.postings named.0 root named.1

  abbrev gone : Sweeping
  gone = record m { left_below = Some left }

  none : (i : ℕ) → In i dead → OnPostLeaf P page i → ⊥
  none i in_dead on =
      none_dead dead was cleaned x i in_dead (subst (λ (b : Body). In i (posting_items_in b)) content on)

  link_left : AreLeft P (IsPostLeaf P root) was.right (Some left)
  link_left =
      subst (λ (q : ℕ). AreLeft P (IsPostLeaf P root) q (Some left)) right
      (left_next P (IsPostLeaf P root) page extent left m.left_below cover.not_zero at.1 e at.3)

  -- the leaf after it, or the next tree
  pub past_next : (new : Sweeping) → GoesPast root page was.right gone new → IsAt P dead new new.stage
  past_next new past =
      past_at S P told some lead (entries S P some legal shown) dead root before page was.right gone new t at.1 right
      link_left
      (post_clean S P told some lead
      (entries S P some legal shown) dead m.roots.items m.next m.link m.left root t before
      page at.1 at.2 none) past

  -- the way to the parent of an empty leaf that isn't the last
  module _ (high : ℕ) (list : List ℕ) (leaf : was.body ≡ body.PostLeaf high list) (not_last : high ≢ 0)
      (empty : posting_items_in (body_after was cleaned) ≡ []) where
    abbrev bytes : (new : List ℕ) × (body_after was cleaned ≡ body.PostLeaf high new)
    bytes = still_leaf dead was cleaned high list x leaf

    abbrev then : (P page).body ≡ body.PostLeaf high bytes.0
    then = content ∙ bytes.1

    is_bare : (P page).body ≡ body.PostLeaf high []
    is_bare =
        then ∙ ap (body.PostLeaf high)
        (bare (P page) high bytes.0 (shown page).0 then (ap posting_items_in content ∙ empty))

    ends : IsHighItem (P page).right high
    ends = (subst (IsBody (P page).right (P page).stamp) then (shown page).0.body).0

    link_is : was.right ≢ 0
    link_is z = not_last (ends.none (right ∙ z))

    abbrev at_parent : Sweeping
    at_parent = record gone {
      stage =
          stage.Parent (record { root = root; before = before; page = page; high = high; link = was.right }) root None;
    }

    pub parent_next : IsAt P dead at_parent at_parent.stage
    parent_next = (
      t,
      at.1,
      at.2,
      record { content = is_bare; high = not_last; item = ends.item; link = right; link_is = link_is },
      TowardItem.here,
      link_left,
      refl,
      leaf_way S P legal shown named.0 root page high bytes.0 named.1 at.1 then not_last ends.item,
      root_not_leaf S P legal shown named.0 root page high bytes.0 named.1 at.1 then not_last,
    )

-- ── how many steps are left ──

-- those of the trees to come and of as many pages of this one as may be read
abbrev pub most_after : Sweeping → ℕ → ℕ
most_after m below =
    ((reads_left m.left * 2 ^ 16 + (length m.roots.items - m.next)) * most_reads + below) * most_reads

pub within : (xs : List ℕ) (n x : ℕ) → slice_get xs n ≡ Some x → n < length xs
within [] n x e = absurd (let z : ⊥ = cc in z)
within (y ∷ xs) zero x e = omega arith
within (y ∷ xs) (suc n) x e = let l = within xs n x e in omega (arith, l)

next_most : (old then : Sweeping) → HasNextTree old then → steps_left then ≤ most_after old (reads_left old.left_below)
next_most old _ (HasNextTree.tree root get) = let n = within old.roots.items old.next root get in omega (arith, n)
next_most old _ (HasNextTree.leaf all on) = omega arith
next_most old _ (HasNextTree.done all end) = omega arith

pub past_most : (root before link : ℕ) (m new : Sweeping) → GoesPast root before link m new
    → steps_left new ≤ most_after m (reads_left m.left_below)
past_most root before link m _ (GoesPast.leaf on) = omega arith
past_most root before link m _ (GoesPast.tree new end next) = next_most m new next
