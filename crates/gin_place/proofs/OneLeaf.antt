-- The way of a key leads to one leaf, where its pairs in the main part are.
use Rattle.std.proofs.Common.{◌≡◌, ℕ, List, [], ◌∷◌, ◌++◌, take, refl, sym, subst, ◌∙◌, inl, inr}
use Rattle.disk_trait.specs.declared.device.Disk.{Ghosts as Disk}
use Rattle.ts_base.specs.Keys.{Key}
use Rattle.page_types.specs.Items.{items_of}
use Rattle.page_types.specs.Keys.{KeyLess, BoundLess, Rising}
use Rattle.page_types.specs.Pages.{IsPage, IsBody}
use Rattle.page_types.specs.Views.{entries_in}
use Rattle.page_types.specs.declared.page.Page.{Page}
use Rattle.page_types.specs.declared.page.Entry.{Entry}
use Rattle.page_types.specs.declared.page.EntryChild.{EntryChild}
use Rattle.page_types.specs.declared.page.Postings.TheVariants.{Inline, Root}
use Rattle.page_types.specs.declared.page.Body.{Body}
use Rattle.page_types.specs.declared.page.Body.TheVariants as body
use Rattle.core_state.specs.Log.{Log, Pages, In, cut}
use Rattle.core_state.specs.Allowed.{Sheet}
use Rattle.core_state.specs.Bullets.{TreesAreBounded, BulletsHold}
use Rattle.core_state.specs.Changes.{UpTo}
use Rattle.core_state.specs.Index.{Under, Main}
use Rattle.core_state.specs.TreeRules.{Toward}
use Rattle.core_state.proofs.Steps.Seen.{seen_shown, seen_legal}
use Rattle.core_state.proofs.Trees.Members.{in_middle}
use Rattle.entry_tree.specs.Adding.{IsEntryLeaf, HasNoTree}
use Rattle.entry_tree.specs.Logging.{IsNewUnder}
use Rattle.buffer_frames.specs.Frames.{FramesValue, Behind}
use Rattle.buffer_frames.specs.Passes.{IsHolding, Seen, view_of}
use Rattle.buffer_frames.specs.declared.pass.Pass.{Pass}
use Rattle.gin_place.specs.Placing.{ArePlaced, IsOnWay}
use Rattle.gin_place.specs.Inner.Reading.{HasFresh, IsReading}
use Rattle.gin_place.specs.declared.reading.Reading.TheVariants as reading
use Rattle.gin_place.specs.declared.sought.Sought.TheVariants as sought
use Rattle.gin_place.proofs.LawfulWays.{not_both}
use Rattle.gin_place.proofs.TreesOn.{same_children}
use Rattle.gin_place.proofs.Lists.{in_list, contained, of_first}
use Rattle.gin_place.proofs.ReadPages.{all_in, entry_of, no_leaf, leaf_is, no_down}

-- of children whose bounds rise, one is the first whose bound is not below the key
one_child : (k : Key) (front back front' back' : List EntryChild) (c c' : EntryChild)
    → Rising (λ (a b : EntryChild). BoundLess a.bound b.bound) (front ++ c ∷ back)
    → front ++ c ∷ back ≡ front' ++ c' ∷ back' → ((b : EntryChild) → In b front → KeyLess b.bound k)
    → UpTo k c.bound → ((b : EntryChild) → In b front' → KeyLess b.bound k) → UpTo k c'.bound → c ≡ c'
one_child k [] back [] back' c c' rise same low up low' up' = cc
one_child k [] back (b ∷ front') back' c c' rise same low up low' up' =
    let first : c ≡ b = cc in
    let rest : back ≡ front' ++ c' ∷ back' = cc in
    let some = all_in (λ (d : EntryChild). BoundLess c.bound d.bound) back c' rise.0
    (subst (In c') (sym rest) (in_middle front' c' back')) in
    absurd (not_both k c.bound up
    (some.0, subst (λ (d : EntryChild). KeyLess d.bound k) (sym first) (low' b (inl refl))))
one_child k (b ∷ front) back [] back' c c' rise same low up low' up' =
    let first : b ≡ c' = cc in
    let some = all_in (λ (d : EntryChild). BoundLess b.bound d.bound) (front ++ c ∷ back) c rise.0
    (in_middle front c back) in
    absurd (not_both k b.bound (subst (λ (d : EntryChild). UpTo k d.bound) (sym first) up')
    (some.0, low b (inl refl)))
one_child k (b ∷ front) back (b' ∷ front') back' c c' rise same low up low' up' =
    let rest : front ++ c ∷ back ≡ front' ++ c' ∷ back' = cc in
    one_child k front back front' back' c c' rise.1 rest (λ d i. low d (inr i)) up (λ d i. low' d (inr i)) up'

rises : (c : Page) (cs : List EntryChild) → IsPage c → c.body ≡ body.EntryInner cs
    → Rising (λ (a b : EntryChild). BoundLess a.bound b.bound) cs
rises c cs is content =
    let b : IsBody c.right c.stamp (body.EntryInner cs) = subst (IsBody c.right c.stamp) content is.body in
    b.rising

-- a page with an entry is a leaf
pub leaf_of : (b : Body) (e : Entry) → In e (entries_in b)
    → (high : Key) × (es : List Entry) × (b ≡ body.EntryLeaf high es) × In e es
leaf_of (body.EntryLeaf high es) e on = (high, es, refl, on)
leaf_of _ e on = absurd on

module _ (P : Pages) (each : (p : ℕ) → IsPage (P p)) (k : Key) where
  pub one_leaf : (p q r : ℕ) (high high' : Key) (es es' : List Entry) → Toward P k p q → Toward P k p r
      → (P q).body ≡ body.EntryLeaf high es → (P r).body ≡ body.EntryLeaf high' es' → q ≡ r
  one_leaf p q r high high' es es' Toward.here Toward.here a b = refl
  one_leaf p q r high high' es es' Toward.here (Toward.down front back c is low up rest) a b =
      absurd (no_leaf (P p).body high es (front ++ c ∷ back) a is)
  one_leaf p q r high high' es es' (Toward.down front back c is low up rest) Toward.here a b =
      absurd (no_leaf (P p).body high' es' (front ++ c ∷ back) b is)
  one_leaf p q r high high' es es' (Toward.down front back c is low up rest)
      (Toward.down front' back' c' is' low' up' rest') a b =
      let lists = same_children (front ++ c ∷ back) (front' ++ c' ∷ back') (sym is ∙ is') in
      let child = one_child k front back front' back' c c' (rises (P p) (front ++ c ∷ back) (each p) is) lists low up
      low' up' in
      one_leaf c.page q r high high' es es' rest
      (subst (λ (d : EntryChild). Toward P k d.page r) (sym child) rest') a b

  -- what is in no list of the key there, nor in a tree of it, is not under the key in the main part
  away : (b : Body) (e : Entry) (i : ℕ) → In e (entries_in b) → e.key ≡ k → HasNoTree b k → IsNewUnder b k i
      → Under P e i → ⊥
  away b e i on key none new (Under.inline bytes is has) =
      new bytes (subst (λ (d : Entry). In d (entries_in b)) (entry_of k (Inline bytes) e key is) on)
      (contained i (items_of bytes) has)
  away b e i on key none new (Under.posted root q is below has) =
      none root (subst (λ (d : Entry). In d (entries_in b)) (entry_of k (Root root) e key is) on)

  pub not_main : TreesAreBounded P → (p i : ℕ) → Toward P k 1 p → IsEntryLeaf (P p).body → HasNoTree (P p).body k
      → IsNewUnder (P p).body k i → Main P k i → ⊥
  not_main bounded p i way is_leaf none new m =
      let here = leaf_is (P p).body is_leaf in
      let there = leaf_of (P m.page).body m.entry m.on in
      let to : Toward P k 1 m.page =
      subst (λ (x : Key). Toward P x 1 m.page) m.key
      (bounded.entries m.page there.0 there.1 m.entry there.2 there.3).0 in
      let same : m.page ≡ p = one_leaf 1 m.page p there.0 here.0 there.1 here.1 to way there.2 here.2 in
      away (P p).body m.entry i (subst (λ (q : ℕ). In m.entry (entries_in (P q).body)) same m.on) m.key none new m.under

-- what is known of a leaf that lacks some of the items
pub record IsLacking (c : Page) (k items : List ℕ) : Type 0 where
  pub leaf : IsEntryLeaf c.body
  pub fresh : HasFresh c.body k items
  pub no_tree : HasNoTree c.body k

fresh_first : (b : Body) (k items : List ℕ) (n : ℕ) → HasFresh b k (take n items) → HasFresh b k items
fresh_first b k items n fresh = (fresh.0, of_first n items fresh.0 fresh.1, fresh.2)

-- one that gets the first of them, one whose list would be too long, and one without room for them
pub added_lacks : (c : Page) (k items : List ℕ) (p : Page) (n : ℕ) → IsReading c k items (reading.Added p n)
    → IsLacking c k items
added_lacks c k items p n (IsReading.more q m is_leaf some among added within fresh is_page none) =
    record { leaf = is_leaf; fresh = fresh_first c.body k items n fresh; no_tree = none }

pub long_lacks : (c : Page) (k items : List ℕ) (place : ℕ) → IsReading c k items (reading.Long place)
    → IsLacking c k items
long_lacks c k items place (IsReading.long at there added fresh none) =
    record { leaf = there.leaf; fresh = fresh; no_tree = none }

pub full_lacks : (c : Page) (k items : List ℕ) → IsReading c k items reading.Full → IsEntryLeaf c.body
    → IsLacking c k items
full_lacks c k items (IsReading.full_leaf n is_leaf is_added fresh none) is =
    record { leaf = is_leaf; fresh = fresh; no_tree = none }
full_lacks c k items (IsReading.full_inner child is_found no_room) is =
    absurd (no_down c k child is is_found)

-- so where all items are under the key none is new on the leaf that the way leads to
pub never_fresh : {D : Type 0} (device : Disk D) (f : FramesValue D) (p : Pass) (held : List Sheet) → BulletsHold
    → IsHolding device f p held → (k : Key) (items : List ℕ) (page : ℕ) (c : Page)
    → Seen device f p (λ S P. P page ≡ c) → IsOnWay device f p k sought.Key page → IsLacking c k items
    → ArePlaced device f p k items → Behind device f (λ (R : Log). ⊥)
never_fresh device f p held law hold k items page c seen way lacks placed told up R stands legal =
    let a = hold.allowed told up R stands legal in
    let S = seen_shown (view_of f p R held) R a in
    let all = law (cut p.seen R) S.0 (seen_legal (view_of f p R held) R a) S.1 in
    let same : S.0 page ≡ c = seen told up R stands legal S.0 S.1 in
    not_main S.0 (λ q. (S.1 q).0) k all.bounded page lacks.fresh.0 (way told up R stands legal S.0 S.1)
    (subst (λ (x : Page). IsEntryLeaf x.body) (sym same) lacks.leaf)
    (subst (λ (x : Page). HasNoTree x.body k) (sym same) lacks.no_tree)
    (subst (λ (x : Page). IsNewUnder x.body k lacks.fresh.0) (sym same) lacks.fresh.2)
    (placed lacks.fresh.0 (in_list lacks.fresh.0 items lacks.fresh.1) told up R stands legal S.0 S.1)
