-- A leaf that a way leads to and that lacks some of the items: in a legal log not all of them are under the key.
use Rattle.std.proofs.Common.{◌≡◌, ◌⊎◌, ℕ, List, [], ◌∷◌, ◌++◌, length, refl, sym, ap, subst, ◌∙◌}
use Rattle.std.proofs.Common.{inl, inr, arith}
use Rattle.std.specs.List.{Contains}
use Rattle.disk_trait.specs.declared.device.Disk.{Ghosts as Disk}
use Rattle.ts_base.specs.Keys.{Key}
use Rattle.page_types.specs.Items.{AreItems}
use Rattle.page_types.specs.Pages.{IsPage}
use Rattle.page_types.specs.Views.{posting_items_in}
use Rattle.page_types.specs.declared.page.Page.{Page}
use Rattle.page_types.specs.declared.page.Body.{Body}
use Rattle.page_types.specs.declared.page.Body.TheVariants as body
use Rattle.core_state.specs.Log.{Log, Pages, cut}
use Rattle.core_state.specs.Allowed.{Sheet}
use Rattle.core_state.specs.Bullets.{BulletsHold}
use Rattle.core_state.specs.Changes.{ItemUpTo}
use Rattle.core_state.specs.Index.{IsNamed}
use Rattle.core_state.specs.TreeRules.{TowardItem}
use Rattle.core_state.proofs.Steps.Seen.{seen_shown, seen_legal}
use Rattle.core_maintenance.specs.Leading.{WaysLead, WaysHold}
use Rattle.posting_tree.specs.Adding.{IsPostLeaf}
use Rattle.posting_tree.specs.Reading.{upper_in}
use Rattle.buffer_frames.specs.Frames.{FramesValue, Behind}
use Rattle.buffer_frames.specs.Passes.{IsPassOf, IsHolding, Seen, view_of}
use Rattle.buffer_frames.specs.declared.pass.Pass.{Pass}
use Rattle.buffer_frames.proofs.AtHand.{log_length, cut_length}
use Rattle.gin_place.specs.Placing.{IsFirst, ArePlaced, IsOnWay}
use Rattle.gin_place.specs.Inner.Reading.{IsReading}
use Rattle.gin_place.specs.Inner.ReadingItems.{IsReadingOf, IsReadingIn, IsFullLeafIn}
use Rattle.gin_place.specs.declared.reading.Reading.TheVariants as reading
use Rattle.gin_place.specs.declared.sought.Sought.{Sought}
use Rattle.gin_place.specs.declared.sought.Sought.TheVariants as sought
use Rattle.gin_place.proofs.Lists.{in_list, of_first, from_first}
use Rattle.gin_place.proofs.OneLeaf as keys
use Rattle.gin_place.proofs.OnePost.{post_leaf_is, not_main_post}
use Rattle.gin_place.proofs.PostPages.{is_post_leaf, no_post_down, takes_none_fresh}

-- what is known of a leaf of a posting tree that lacks one of the items: that one is the first, or it is within the
-- leaf's high item
pub record LacksPost (c : Page) (items : List ℕ) : Type 0 where
  pub leaf : IsPostLeaf c.body
  pub item : ℕ
  pub among : Contains items item
  pub off : Contains (posting_items_in c.body) item → ⊥
  pub within : ((rest : List ℕ) × (items ≡ item ∷ rest)) ⊎ ItemUpTo item (upper_in c.body)

abbrev pub LacksIn : Sought → Page → Key → List ℕ → Type 0
LacksIn sought.Key c k items = keys.IsLacking c k items
LacksIn (sought.Item root item) c k items = LacksPost c items

-- ── a page that was read ──

post_added : (c : Page) (items : List ℕ) (p : Page) (n : ℕ) → IsReadingOf c items (reading.Added p n)
    → LacksPost c items
post_added c items p n (IsReadingOf.more q m some among is_added within fresh is_page) = record {
  leaf = is_post_leaf c is_added.high is_added.old is_added.was;
  item = fresh.0;
  among = of_first n items fresh.0 fresh.1;
  off = fresh.2;
  within = inr (within fresh.0 fresh.1);
}

pub added_lacks_in : (t : Sought) (c : Page) (k items : List ℕ) (p : Page) (n : ℕ)
    → IsReadingIn t c k items (reading.Added p n) → LacksIn t c k items
added_lacks_in sought.Key c k items p n read = keys.added_lacks c k items p n read
added_lacks_in (sought.Item root item) c k items p n read = post_added c items p n read

pub long_lacks : (c : Page) (k items : List ℕ) (place : ℕ) → IsReading c k items (reading.Long place)
    → LacksIn sought.Key c k items
long_lacks c k items place read = keys.long_lacks c k items place read

post_full : (c : Page) (items : List ℕ) → IsPage c → IsReadingOf c items reading.Full → IsPostLeaf c.body
    → LacksPost c items
post_full c items page (IsReadingOf.full_inner item child rest first is none) is_leaf =
    absurd (no_post_down c item child is_leaf is)
post_full c items page (IsReadingOf.full_leaf high list [] rest content parts some takes fresh) is_leaf =
    absurd (some refl)
post_full c items page (IsReadingOf.full_leaf high list (x ∷ xs) rest content parts some takes fresh) is_leaf = record {
  leaf = is_leaf;
  item = x;
  among = subst (λ (l : List ℕ). Contains l x) (sym parts) (0, omega arith, refl);
  off = takes_none_fresh c high list content x xs page takes;
  within = inl (xs ++ rest, parts);
}

pub full_lacks_in : (t : Sought) (c : Page) (k items : List ℕ) → IsPage c → IsReadingIn t c k items reading.Full
    → IsFullLeafIn t c reading.Full → LacksIn t c k items
full_lacks_in sought.Key c k items page read leaf = keys.full_lacks c k items read leaf
full_lacks_in (sought.Item root item) c k items page read leaf = post_full c items page read leaf

-- ── in a legal log ──

-- the way of the item that is lacking leads to the leaf too
way_there : (P : Pages) (k : Key) (root item page : ℕ) (c : Page) (items : List ℕ) → WaysLead P → AreItems items
    → (rest : List ℕ) → items ≡ item ∷ rest → P page ≡ c → (l : LacksPost c items)
    → IsNamed P k root × TowardItem P item root page → TowardItem P l.item root page
way_there P k root item page c items lead rise rest first same l way = elim l.within [
  | inl is ↦
      let e : item ≡ l.item = heads item l.item rest is.0 (sym first ∙ is.1) in
      subst (λ (i : ℕ). TowardItem P i root page) e way.1
  | inr up ↦
      let near = from_first item rest (subst AreItems first rise) l.item
      (in_list l.item (item ∷ rest) (subst (λ (l2 : List ℕ). Contains l2 l.item) first l.among)) in
      let is = post_leaf_is c.body l.leaf in
      let content : (P page).body ≡ body.PostLeaf is.0 is.1 = ap (λ (x : Page). x.body) same ∙ is.2 in
      lead.post_near k root item l.item page is.0 is.1 way.0 near.0 near.1 way.1 content
      (subst (λ (b : Body). ItemUpTo l.item (upper_in b)) is.2 up)
]
  where
    heads : (a b : ℕ) (xs ys : List ℕ) → a ∷ xs ≡ b ∷ ys → a ≡ b
    heads a b xs ys e = cc

module _ {D : Type 0} (device : Disk D) (f : FramesValue D) (p : Pass) (held : List Sheet) (law : BulletsHold)
    (ways : WaysHold) (of : IsPassOf f p) (hold : IsHolding device f p held) where
  never_post : (root item : ℕ) (k : Key) (items : List ℕ) (page : ℕ) (c : Page) → AreItems items
      → (rest : List ℕ) → items ≡ item ∷ rest → Seen device f p (λ S P. P page ≡ c)
      → IsOnWay device f p k (sought.Item root item) page → LacksPost c items → ArePlaced device f p k items
      → Behind device f (λ (R : Log). ⊥)
  never_post root item k items page c rise rest first seen way l placed told up R stands legal =
      let a = hold.allowed told up R stands legal in
      let v = view_of f p R held in
      let S = seen_shown v R a in
      let long : f.journal.state.records ≡ length R = log_length device f.journal R stands.journal in
      let size : length (cut p.seen R) ≡ p.seen = cut_length p.seen R (omega (arith, of.seen, long)) in
      let lead = ways (cut p.seen R) S.0 (λ e. omega (arith, of.some, size, ap length e)) (seen_legal v R a) S.1 in
      let all = law (cut p.seen R) S.0 (seen_legal v R a) S.1 in
      let same : S.0 page ≡ c = seen told up R stands legal S.0 S.1 in
      let on = way told up R stands legal S.0 S.1 in
      let there = not_main_post S.0 (λ q. (S.1 q).0) all.bounded k root page l.item on.0
      (way_there S.0 k root item page c items lead rise rest first same l on)
      (subst (λ (x : Page). IsPostLeaf x.body) (sym same) l.leaf)
      (placed l.item (in_list l.item items l.among) told up R stands legal S.0 S.1) in
      l.off (subst (λ (x : Page). Contains (posting_items_in x.body) l.item) same there)

  pub never_lacks : (t : Sought) (k : Key) (items : List ℕ) (page : ℕ) (c : Page) → AreItems items → IsFirst items t
      → Seen device f p (λ S P. P page ≡ c) → IsOnWay device f p k t page → LacksIn t c k items
      → ArePlaced device f p k items → Behind device f (λ (R : Log). ⊥)
  never_lacks sought.Key k items page c rise first seen way lacks placed =
      keys.never_fresh device f p held law hold k items page c seen way lacks placed
  never_lacks (sought.Item root item) k items page c rise first seen way lacks placed =
      never_post root item k items page c rise first.0 first.1 seen way lacks placed
