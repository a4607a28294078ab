-- The ways down the trees of a legal log, by the places and bounds of their pages.
use Rattle.std.proofs.Common.{◌≡◌, ◌≢◌, ◌⊎◌, ◌<◌, ◌≤◌, ℕ, zero, suc, List, [], ◌∷◌, ◌++◌, length, map, refl, sym, ap}
use Rattle.std.proofs.Common.{subst}
use Rattle.std.proofs.Common.{◌∙◌, inl, inr, arith}
use Rattle.ts_base.specs.Keys.{Key}
use Rattle.page_types.specs.Numbers.{no_bound, item_limit}
use Rattle.page_types.specs.Items.{items_of}
use Rattle.page_types.specs.declared.page.Entry.{Entry}
use Rattle.page_types.specs.declared.page.EntryChild.{EntryChild}
use Rattle.page_types.specs.declared.page.PostChild.{PostChild}
use Rattle.page_types.specs.declared.page.Body.{Body}
use Rattle.page_types.specs.declared.page.Body.TheVariants as body
use Rattle.core_state.specs.Log.{Log, Pages, In, commits}
use Rattle.core_state.specs.Index.{IsNamed}
use Rattle.core_state.specs.Changes.{UpTo, ItemUpTo}
use Rattle.core_state.specs.TreeRules.{Toward, TowardItem}
use Rattle.core_state.specs.Trees.Ext.{Ext}
use Rattle.core_state.specs.Trees.Ext.Ext.{at, greatest, least}
use Rattle.core_state.specs.Trees.Nodes.{AtMost, Kids}
use Rattle.core_state.specs.Trees.TreeNodes.{bound, entry_child, entry_nodes, high_bound, child_bound, post_child}
use Rattle.core_state.specs.Trees.TreeNodes.{post_nodes}
use Rattle.core_state.specs.Inner.Ghosts.{Place, Ghost, entry_place, post_place, entry_ghost, post_ghost}
use Rattle.core_state.specs.Inner.Ghosts.Place.{entry, post}
use Rattle.core_state.specs.Inner.Kinds.{Fits}
use Rattle.core_state.proofs.Trees.Members.{in_map, in_middle}
use Rattle.core_state.proofs.Trees.FromNodes.{leaf_shows}
use Rattle.core_state.proofs.Trees.Find.{kids_here, child_here}
use Rattle.core_state.proofs.Trees.Orders.{keys, items, up_to_bound, child_bound_is, high_bound_is}
use Rattle.core_state.proofs.Trees.Order.{at_most_trans}
use Rattle.core_state.proofs.Trees.Kids.{kid_place}
use Rattle.core_state.proofs.Trees.EntryViews as entries
use Rattle.core_state.proofs.Trees.PostViews as posts
use Rattle.core_state.proofs.Trees.LeafOrder.{kids_last}
use Rattle.core_state.proofs.Law.Invariant.{Inv}
use Rattle.core_state.proofs.Law.Places.{place_for}
use Rattle.core_state.proofs.Law.TreeFields.{entry_is, entry_places}
use Rattle.core_state.proofs.Law.Belows.{post_is}
use Rattle.core_state.proofs.Law.EntryBounds.{to_up_to}
use Rattle.core_state.proofs.Law.PostBounds.{to_item_up_to}
use Rattle.core_state.proofs.Law.AllCases.{all_steps}
use Rattle.core_state.proofs.Law.Runs.{plain_run}
use Rattle.core_maintenance.specs.Leading.{IsHigh, IsHighPost, IsWithin, WaysLead, WaysHold}
use Rattle.core_maintenance.proofs.Heights.{few}

same_entry : (i j : ℕ) → entry i ≡ entry j → i ≡ j
same_entry i j e = cc

same_post : (r i j : ℕ) → post r i ≡ post r j → i ≡ j
same_post r i j e = cc

same_at : (i j : ℕ) → at i ≡ at j → i ≡ j
same_at i j e = cc

-- bounds and items
up_item : (i b : ℕ) → i ≤ b → AtMost items greatest (at i) (child_bound b)
up_item i b le = elim (child_bound_is b) [
  | inl e ↦ subst (AtMost items greatest (at i)) (sym e.1) (inl tt)
  | inr e ↦ subst (AtMost items greatest (at i)) (sym e.1) (less_or_same i b le)
]
  where
    either : (i b : ℕ) → i ≤ b → (i < b) ⊎ (i ≡ b)
    either i b le = grind (arith, le)

    less_or_same : (i b : ℕ) → i ≤ b → AtMost items greatest (at i) (at b)
    less_or_same i b le = elim (either i b le) [ inl l ↦ inl l | inr e ↦ inr (ap at e) ]

item_up : (i b : ℕ) → i < item_limit → AtMost items greatest (at i) (child_bound b) → i ≤ b
item_up i b small m = elim (child_bound_is b) [
  | inl e ↦ all_below i b small e.0
  | inr e ↦ at_most i b (subst (AtMost items greatest (at i)) e.1 m)
]
  where
    all_below : (i b : ℕ) → i < item_limit → b ≡ no_bound → i ≤ b
    all_below i b l e = omega (arith, l, e)

    at_most : (i j : ℕ) → AtMost items greatest (at i) (at j) → i ≤ j
    at_most i j (inl l) = omega (arith, l)
    at_most i j (inr e) = let s = same_at i j e in omega (arith, s)

up_high : (i high : ℕ) → ItemUpTo i high → AtMost items greatest (at i) (high_bound high)
up_high i high up = elim (high_bound_is high) [
  | inl e ↦ subst (AtMost items greatest (at i)) (sym e.1) (inl tt)
  | inr e ↦ subst (AtMost items greatest (at i)) (sym e.1) (within e.0 up)
]
  where
    either : (i b : ℕ) → i ≤ b → (i < b) ⊎ (i ≡ b)
    either i b le = grind (arith, le)

    within : (high ≢ 0) → ItemUpTo i high → AtMost items greatest (at i) (at high)
    within some (inl none) = absurd (some none)
    within some (inr le) = elim (either i high le) [ inl l ↦ inl l | inr e ↦ inr (ap at e) ]

not_free : (b c : Body) → b ≡ c → (c ≡ body.Free → ⊥) → b ≢ body.Free
not_free b c e off f = off (sym e ∙ f)

module _ (n L : ℕ) (R : Log) (P : Pages) (g : Ghost) (v : Inv n L R P g) where
  -- a child of an inner page of the entry tree
  entry_kid : (p h : ℕ) (cs : List EntryChild) → g.place p ≡ entry (suc h) → (P p).body ≡ body.EntryInner cs
      → (c : EntryChild) → In c cs → (g.place c.page ≡ entry h) × (g.high_key c.page ≡ bound c.bound)
  entry_kid p h cs e is c i =
      let there = child_here keys greatest (entry_nodes P) (entry_ghost g) v.entries p 1 h (P p).right
      (map entry_child cs) (entry_child c) (ap entry_place e) (entries.inner_node (P p) cs is)
      (in_map entry_child c cs i) in
      (entry_is (g.place c.page) 1 h there.0, there.1)

  -- its last one has its high bound
  entry_last : (p h : ℕ) (cs : List EntryChild) → g.place p ≡ entry (suc h) → (P p).body ≡ body.EntryInner cs
      → (c : EntryChild) × In c cs × (bound c.bound ≡ g.high_key p)
  entry_last p h cs e is = go cs (kids_here keys greatest (entry_nodes P) (entry_ghost g) v.entries p 1 h (P p).right
      (map entry_child cs) (ap entry_place e) (entries.inner_node (P p) cs is))
    where
      go : (ds : List EntryChild)
          → Kids keys greatest (entry_ghost g) 1 h (g.low_key p) (map entry_child ds) (g.high_key p)
          → (c : EntryChild) × In c ds × (bound c.bound ≡ g.high_key p)
      go [] k = absurd (keys.irrefl (g.high_key p) (subst (λ (z : Ext Key). keys.less z (g.high_key p)) k
          (v.entries.span p 1 (suc h) (ap entry_place e))))
      go (d ∷ ds) k =
          let last = kids_last keys greatest (entry_ghost g) entry_child 1 h (g.low_key p) (g.high_key p) d ds k in
          (last.1, subst (In last.1) (sym last.2) (in_middle last.0 last.1 []), last.3)

  -- a key is up to the high bound of each page on its way
  entry_way : (k : Key) (p q : ℕ) → Toward P k p q → AtMost keys greatest (at k) (g.high_key p)
      → AtMost keys greatest (at k) (g.high_key q)
  entry_way k p q Toward.here m = m
  entry_way k p q (Toward.down front back c is low up rest) m =
      let place = place_for L (g.place p) (P p) (body.EntryInner (front ++ c ∷ back)) (v.kinds p) is in
      let kid = entry_kid p place.0 (front ++ c ∷ back) place.1 is c (in_middle front c back) in
      entry_way k c.page q rest (subst (AtMost keys greatest (at k)) (sym kid.1) (up_to_bound k c.bound up))

  entry_high : (h q : ℕ) → g.place q ≡ entry h → IsHigh P h q
  entry_high zero q e =
      let f : Fits L (entry 0) (P q) = subst (λ (x : Place). Fits L x (P q)) e (v.kinds q) in IsHigh.leaf f.0 f.1 f.2
  entry_high (suc h) q e =
      let f : Fits L (entry (suc h)) (P q) = subst (λ (x : Place). Fits L x (P q)) e (v.kinds q) in
      IsHigh.inner f.0 f.1 (λ c i. entry_high h c.page (entry_kid q h f.0 e f.1 c i).0)

  entry_used : (h q : ℕ) → g.place q ≡ entry h → (P q).body ≢ body.Free
  entry_used zero q e =
      let f : Fits L (entry 0) (P q) = subst (λ (x : Place). Fits L x (P q)) e (v.kinds q) in
      not_free (P q).body _ f.2 (λ z. cc)
  entry_used (suc h) q e =
      let f : Fits L (entry (suc h)) (P q) = subst (λ (x : Place). Fits L x (P q)) e (v.kinds q) in
      not_free (P q).body _ f.1 (λ z. cc)

  entry_within : (h q : ℕ) → g.place q ≡ entry h → IsWithin P h
  entry_within h q e n used = few (λ j x. g.place x ≡ entry j) (λ i j x a b. same_entry i j (sym a ∙ b))
      (λ i x at.
      let f : Fits L (entry (suc i)) (P x) = subst (λ (y : Place). Fits L y (P x)) at (v.kinds x) in
      let last = entry_last x i f.0 at f.1 in
      (last.0.page, (entry_kid x i f.0 at f.1 last.0 last.1).0))
      h q n e (λ j x at. used x (entry_used j x at))

  entry_leaf_up : (k : Key) (p : ℕ) (high : Key) (es : List Entry) → AtMost keys greatest (at k) (g.high_key p)
      → (P p).body ≡ body.EntryLeaf high es → UpTo k high
  entry_leaf_up k p high es m is = to_up_to k high (subst (AtMost keys greatest (at k))
      (sym (entries.leaf_high P (entry_ghost g) v.entries (entry_places L P g v.kinds) p high es is)) m)

  entry_child_up : (k : Key) (p : ℕ) (cs : List EntryChild) → AtMost keys greatest (at k) (g.high_key p)
      → (P p).body ≡ body.EntryInner cs → (c : EntryChild) × In c cs × UpTo k c.bound
  entry_child_up k p cs m is =
      let place = place_for L (g.place p) (P p) (body.EntryInner cs) (v.kinds p) is in
      let last = entry_last p place.0 cs place.1 is in
      (last.0, last.1, to_up_to k last.0.bound (subst (AtMost keys greatest (at k)) (sym last.2) m))

  -- the same of posting trees
  post_kid : (p r h : ℕ) (cs : List PostChild) → g.place p ≡ post r (suc h) → (P p).body ≡ body.PostInner cs
      → (c : PostChild) → In c cs → (g.place c.page ≡ post r h) × (g.high_item c.page ≡ child_bound c.bound)
  post_kid p r h cs e is c i =
      let there = child_here items greatest (post_nodes P) (post_ghost g) v.posts p r h (P p).right
      (map post_child cs) (post_child c) (ap post_place e) (posts.inner_node (P p) cs is)
      (in_map post_child c cs i) in
      (post_is (g.place c.page) r h there.0, there.1)

  post_last : (p r h : ℕ) (cs : List PostChild) → g.place p ≡ post r (suc h) → (P p).body ≡ body.PostInner cs
      → (c : PostChild) × In c cs × (child_bound c.bound ≡ g.high_item p)
  post_last p r h cs e is = go cs (kids_here items greatest (post_nodes P) (post_ghost g) v.posts p r h (P p).right
      (map post_child cs) (ap post_place e) (posts.inner_node (P p) cs is))
    where
      go : (ds : List PostChild)
          → Kids items greatest (post_ghost g) r h (g.low_item p) (map post_child ds) (g.high_item p)
          → (c : PostChild) × In c ds × (child_bound c.bound ≡ g.high_item p)
      go [] k = absurd (items.irrefl (g.high_item p) (subst (λ (z : Ext ℕ). items.less z (g.high_item p)) k
          (v.posts.span p r (suc h) (ap post_place e))))
      go (d ∷ ds) k =
          let last = kids_last items greatest (post_ghost g) post_child r h (g.low_item p) (g.high_item p) d ds k in
          (last.1, subst (In last.1) (sym last.2) (in_middle last.0 last.1 []), last.3)

  post_way : (i p q : ℕ) → TowardItem P i p q → AtMost items greatest (at i) (g.high_item p)
      → AtMost items greatest (at i) (g.high_item q)
  post_way i p q TowardItem.here m = m
  post_way i p q (TowardItem.down front back c is low up rest) m =
      let place = place_for L (g.place p) (P p) (body.PostInner (front ++ c ∷ back)) (v.kinds p) is in
      let kid = post_kid p place.0 place.1 (front ++ c ∷ back) place.2 is c (in_middle front c back) in
      post_way i c.page q rest (subst (AtMost items greatest (at i)) (sym kid.1) (up_item i c.bound up))

  -- no page below another has a higher bound
  post_lower : (i p q r h : ℕ) → g.place p ≡ post r h → TowardItem P i p q
      → AtMost items greatest (g.high_item q) (g.high_item p)
  post_lower i p q r h e TowardItem.here = inr refl
  post_lower i p q r h e (TowardItem.down front back c is low up rest) =
      let place = place_for L (g.place p) (P p) (body.PostInner (front ++ c ∷ back)) (v.kinds p) is in
      let kid = post_kid p place.0 place.1 (front ++ c ∷ back) place.2 is c (in_middle front c back) in
      let kids = kids_here items greatest (post_nodes P) (post_ghost g) v.posts p place.0 place.1 (P p).right
      (map post_child (front ++ c ∷ back)) (ap post_place place.2) (posts.inner_node (P p) (front ++ c ∷ back) is) in
      let within = (kid_place items greatest (post_ghost g) place.0 place.1 (g.low_item p) (g.high_item p)
      (map post_child (front ++ c ∷ back)) (λ x at_x. v.posts.span x place.0 place.1 at_x) kids (post_child c)
      (in_map post_child c (front ++ c ∷ back) (in_middle front c back))).2 in
      at_most_trans items greatest (g.high_item q) (g.high_item c.page) (g.high_item p)
      (post_lower i c.page q place.0 place.1 kid.0 rest) within

  -- a greater item up to the bound of the page has the same way
  post_same : (i j p q r h : ℕ) → g.place p ≡ post r h → i ≤ j → j < item_limit
      → AtMost items greatest (at j) (g.high_item q) → TowardItem P i p q → TowardItem P j p q
  post_same i j p q r h e le small m TowardItem.here = TowardItem.here
  post_same i j p q r h e le small m (TowardItem.down front back c is low up rest) =
      let place = place_for L (g.place p) (P p) (body.PostInner (front ++ c ∷ back)) (v.kinds p) is in
      let kid = post_kid p place.0 place.1 (front ++ c ∷ back) place.2 is c (in_middle front c back) in
      let lower = post_lower i c.page q place.0 place.1 kid.0 rest in
      let below : j ≤ c.bound =
      item_up j c.bound small (subst (AtMost items greatest (at j)) kid.1
      (at_most_trans items greatest (at j) (g.high_item q) (g.high_item c.page) m lower)) in
      TowardItem.down front back c is (λ b on. let l = low b on in omega (arith, l, le)) below
      (post_same i j c.page q place.0 place.1 kid.0 le small m rest)

  post_leaf_to : (j p high : ℕ) (is : List ℕ) → ItemUpTo j high → (P p).body ≡ body.PostLeaf high is
      → AtMost items greatest (at j) (g.high_item p)
  post_leaf_to j p high is up b =
      let place = place_for L (g.place p) (P p) (body.PostLeaf high is) (v.kinds p) b in
      let shows = leaf_shows items least greatest (post_nodes P) (post_nodes P) (post_ghost g) v.posts p place.0
      (P p).right (high_bound high) (map at (items_of is)) (ap post_place place.1) (posts.leaf_node (P p) high is b) in
      subst (AtMost items greatest (at j)) shows.0 (up_high j high up)

  post_high : (h q r : ℕ) → g.place q ≡ post r h → IsHighPost P h q
  post_high zero q r e =
      let f : Fits L (post r 0) (P q) = subst (λ (x : Place). Fits L x (P q)) e (v.kinds q) in
      IsHighPost.leaf f.0 f.1 f.2
  post_high (suc h) q r e =
      let f : Fits L (post r (suc h)) (P q) = subst (λ (x : Place). Fits L x (P q)) e (v.kinds q) in
      IsHighPost.inner f.0 f.1 (λ c i. post_high h c.page r (post_kid q r h f.0 e f.1 c i).0)

  post_used : (h q r : ℕ) → g.place q ≡ post r h → (P q).body ≢ body.Free
  post_used zero q r e =
      let f : Fits L (post r 0) (P q) = subst (λ (x : Place). Fits L x (P q)) e (v.kinds q) in
      not_free (P q).body _ f.2 (λ z. cc)
  post_used (suc h) q r e =
      let f : Fits L (post r (suc h)) (P q) = subst (λ (x : Place). Fits L x (P q)) e (v.kinds q) in
      not_free (P q).body _ f.1 (λ z. cc)

  post_within : (h q r : ℕ) → g.place q ≡ post r h → IsWithin P h
  post_within h q r e n used = few (λ j x. g.place x ≡ post r j) (λ i j x a b. same_post r i j (sym a ∙ b))
      (λ i x at.
      let f : Fits L (post r (suc i)) (P x) = subst (λ (y : Place). Fits L y (P x)) at (v.kinds x) in
      let last = post_last x r i f.0 at f.1 in
      (last.0.page, (post_kid x r i f.0 at f.1 last.0 last.1).0))
      h q n e (λ j x at. used x (post_used j x r at))

  post_leaf_up : (i p high : ℕ) (is : List ℕ) → AtMost items greatest (at i) (g.high_item p)
      → (P p).body ≡ body.PostLeaf high is → ItemUpTo i high
  post_leaf_up i p high is m b =
      let place = place_for L (g.place p) (P p) (body.PostLeaf high is) (v.kinds p) b in
      let shows = leaf_shows items least greatest (post_nodes P) (post_nodes P) (post_ghost g) v.posts p place.0
      (P p).right (high_bound high) (map at (items_of is)) (ap post_place place.1) (posts.leaf_node (P p) high is b) in
      to_item_up_to i high (subst (AtMost items greatest (at i)) (sym shows.0) m)

  post_child_up : (i p : ℕ) (cs : List PostChild) → i < item_limit → AtMost items greatest (at i) (g.high_item p)
      → (P p).body ≡ body.PostInner cs → (c : PostChild) × In c cs × (i ≤ c.bound)
  post_child_up i p cs small m is =
      let place = place_for L (g.place p) (P p) (body.PostInner cs) (v.kinds p) is in
      let last = post_last p place.0 place.1 cs place.2 is in
      (last.0, last.1, item_up i last.0.bound small (subst (AtMost items greatest (at i)) (sym last.2) m))

  -- the roots
  module _ (some : R ≢ []) where
    first : (h : ℕ) × (g.place 1 ≡ entry h)
    first = v.starts.page_1 some

    key_up : (k : Key) → AtMost keys greatest (at k) (g.high_key 1)
    key_up k = subst (AtMost keys greatest (at k)) (sym (v.entries_rooted.high 1 first.0 (ap entry_place first.1)))
        (inl tt)

    root : (k : Key) (r : ℕ) → IsNamed P k r → (h : ℕ) × (g.place r ≡ post r h)
    root k r named = v.named.is_root named.page r named.entry named.on named.names

    item_to : (k : Key) (r i : ℕ) → IsNamed P k r → AtMost items greatest (at i) (g.high_item r)
    item_to k r i named =
        let top = root k r named in
        subst (AtMost items greatest (at i)) (sym (v.posts_rooted.high r top.0 (ap post_place top.1))) (inl tt)

    pub lead : WaysLead P
    lead = record {
      height = (first.0, entry_high first.0 1 first.1, entry_within first.0 1 first.1);
      leaf = λ k p high es way is. entry_leaf_up k p high es (entry_way k 1 p way (key_up k)) is;
      child = λ k p cs way is. entry_child_up k p cs (entry_way k 1 p way (key_up k)) is;
      post_height = λ k r named.
          let top = root k r named in
          (top.0, post_high top.0 r r top.1, post_within top.0 r r top.1);
      post_leaf = λ k r i p high is named way b. post_leaf_up i p high is
          (post_way i r p way (item_to k r i named)) b;
      post_child = λ k r i p cs named small way is. post_child_up i p cs small
          (post_way i r p way (item_to k r i named)) is;
      post_near = λ k r i j p high is named le small way b up.
          let top = root k r named in
          post_same i j r p r top.0 top.1 le small (post_leaf_to j p high is up b) way;
    }

pub ways_hold : WaysHold
ways_hold R P some legal shown =
    let held = plain_run all_steps R legal.valid P shown in
    lead (commits R) (length R) R P held.0 held.1 some
