-- Leaves lead along right links to what is after them, by the invariant and a measure that falls along the links.
use Rattle.std.proofs.Common.{◌≡◌, ◌≢◌, ℕ, List, map, refl, sym, ap, subst, ◌∙◌, inl, inr}
use Rattle.ts_base.specs.Keys.{Key}
use Rattle.page_types.specs.Items.{items_of}
use Rattle.page_types.specs.declared.page.Entry.{Entry}
use Rattle.page_types.specs.declared.page.Body.{Body}
use Rattle.page_types.specs.declared.page.Body.TheVariants as body
use Rattle.core_state.specs.Log.{Log, Pages, In, Shows}
use Rattle.core_state.specs.Changes.{UpTo, ItemUpTo}
use Rattle.core_state.specs.Bullets.{Rightward, LeavesLead}
use Rattle.core_state.specs.Trees.Ext.{Ext}
use Rattle.core_state.specs.Trees.Ext.Ext.{least, at, greatest}
use Rattle.core_state.specs.Trees.Nodes.{AtMost}
use Rattle.core_state.specs.Trees.Nodes.TreePlace.{tree}
use Rattle.core_state.specs.Trees.TreeNodes.{bound, high_bound, entry_body, entry_nodes, post_body, post_nodes}
use Rattle.core_state.specs.Inner.Ghosts.{Ghost, post_place, entry_ghost, post_ghost}
use Rattle.core_state.proofs.Trees.Members.{in_map}
use Rattle.core_state.proofs.Trees.Find.{right_in}
use Rattle.core_state.proofs.Trees.FromNodes.{leaf_shows}
use Rattle.core_state.proofs.Trees.Orders.{keys, items, key_order, nat_order, ext_top}
use Rattle.core_state.proofs.Trees.EntryViews.{leaf_high, leaf_keys}
use Rattle.core_state.proofs.Trees.PostViews.{leaf_node}
use Rattle.core_state.proofs.Trees.Rightwards.{Along, Falls, BeginsBelow, leads}
use Rattle.core_state.proofs.Trees.Behinds.{behind, forward_falls}
use Rattle.core_state.proofs.Law.Lists.{Listed}
use Rattle.core_state.proofs.Law.Invariant.{Inv}
use Rattle.core_state.proofs.Law.TreeFields.{entry_places}
use Rattle.core_state.proofs.Law.EntryBounds.{to_up_to}
use Rattle.core_state.proofs.Law.PostBounds.{to_item_up_to}
use Rattle.core_state.proofs.Law.Bounded.{tree_of}

-- a node's right link, where it has one, is its page's
entry_right : (right : ℕ) (b : Body) → right_in (entry_body right b) ≢ 0 → right_in (entry_body right b) ≡ right
entry_right right (body.EntryLeaf high es) n = refl
entry_right right (body.EntryInner cs) n = refl
entry_right right _ n = absurd (n refl)

post_right : (right : ℕ) (b : Body) → right_in (post_body right b) ≢ 0 → right_in (post_body right b) ≡ right
post_right right (body.PostLeaf high is) n = refl
post_right right (body.PostInner cs) n = refl
post_right right (body.Deleted c) n = refl
post_right right _ n = absurd (n refl)

next_page : (P : Pages) (p x y : ℕ) → y ≡ (P x).right → y ≢ 0 → Rightward P p x → Rightward P p y
next_page P p x y e n a = subst (λ (z : ℕ). Rightward P p z) (sym e) (Rightward.next a (λ z. n (e ∙ z)))

entry_along : (P : Pages) (p q : ℕ) → Along (entry_nodes P) p q → Rightward P p q
entry_along P p q Along.here = Rightward.here
entry_along P p q (Along.next {q = x} a n) =
    next_page P p x _ (entry_right (P x).right (P x).body n) n (entry_along P p x a)

post_along : (P : Pages) (p q : ℕ) → Along (post_nodes P) p q → Rightward P p q
post_along P p q Along.here = Rightward.here
post_along P p q (Along.next {q = x} a n) =
    next_page P p x _ (post_right (P x).right (P x).body n) n (post_along P p x a)

-- what may not be under a bound is above it
above_bound : (k high : Key) → (UpTo k high → ⊥) → keys.less (bound high) (at k)
above_bound k high n = elim (keys.total (at k) (bound high)) [
  | inl l ↦ absurd (n (to_up_to k high (inl l)))
  | inr (inl e) ↦ absurd (n (to_up_to k high (inr e)))
  | inr (inr l) ↦ l
]

pub above_high : (i high : ℕ) → (ItemUpTo i high → ⊥) → items.less (high_bound high) (at i)
above_high i high n = elim (items.total (at i) (high_bound high)) [
  | inl l ↦ absurd (n (to_item_up_to i high (inl l)))
  | inr (inl e) ↦ absurd (n (to_item_up_to i high (inr e)))
  | inr (inr l) ↦ l
]

module _ (n L : ℕ) (R : Log) (P : Pages) (g : Ghost) (v : Inv n L R P g) where
  entry_leads : (m : ℕ → ℕ) → Falls (entry_nodes P) (entry_ghost g) m
      → (p q : ℕ) (high high' : Key) (es fs : List Entry) (e : Entry)
      → (P p).body ≡ body.EntryLeaf high es → (P q).body ≡ body.EntryLeaf high' fs → In e fs → (UpTo e.key high → ⊥)
      → Rightward P p q
  entry_leads m falls p q high high' es fs e bp bq i off =
      let at_p = (entry_places L P g v.kinds).leaf_at p high es bp in
      let at_q = (entry_places L P g v.kinds).leaf_at q high' fs bq in
      let high_p = leaf_high P (entry_ghost g) v.entries (entry_places L P g v.kinds) p high es bp in
      let on_q = leaf_keys P (entry_ghost g) v.entries (entry_places L P g v.kinds) q high' fs bq e i in
      entry_along P p q (leads keys greatest (ext_top key_order) (entry_nodes P) (entry_ghost g) v.entries m falls q 1
      (at e.key) at_q on_q.0 on_q.1 p (record {
        leaf = inl at_p;
        low = keys.trans (g.low_key p) (g.high_key p) (at e.key) (v.entries.span p 1 0 at_p)
            (subst (λ (z : Ext Key). keys.less z (at e.key)) high_p (above_bound e.key high off));
      }))

  -- the leaf of a posting tree on which an item is
  pub item_leaf : (root q high : ℕ) (is : List ℕ) (i : ℕ) → (post_ghost g).place q ≡ tree root 0
      → (P q).body ≡ body.PostLeaf high is → In i (items_of is)
      → items.less (g.low_item q) (at i) × AtMost items greatest (at i) (g.high_item q)
  item_leaf root q high is i at_q b m =
      (leaf_shows items least greatest (post_nodes P) (post_nodes P) (post_ghost g) v.posts q root (P q).right
      (high_bound high) (map at (items_of is)) at_q (leaf_node (P q) high is b)).1 (at i)
      (in_map at i (items_of is) m)

  -- a leaf, live or deleted, that begins below an item leads to it
  pub begins_leads : (m : ℕ → ℕ) → Falls (post_nodes P) (post_ghost g) m → (root p q high : ℕ) (is : List ℕ) (i : ℕ)
      → (post_ghost g).place q ≡ tree root 0 → (P q).body ≡ body.PostLeaf high is
      → In i (items_of is) → BeginsBelow items (post_ghost g) root (at i) p → Rightward P p q
  begins_leads m falls root p q high is i at_q b j below =
      let on_q = item_leaf root q high is i at_q b j in
      post_along P p q (leads items greatest (ext_top nat_order) (post_nodes P) (post_ghost g) v.posts m falls q root
      (at i) at_q on_q.0 on_q.1 p below)

  post_leads : (m : ℕ → ℕ) → Falls (post_nodes P) (post_ghost g) m → (root p q high high' : ℕ) (is js : List ℕ) (i : ℕ)
      → (post_ghost g).place p ≡ tree root 0 → (post_ghost g).place q ≡ tree root 0
      → (P p).body ≡ body.PostLeaf high is → (P q).body ≡ body.PostLeaf high' js → In i (items_of js)
      → (ItemUpTo i high → ⊥) → Rightward P p q
  post_leads m falls root p q high high' is js i at_p at_q bp bq j off =
      let high_p = (leaf_shows items least greatest (post_nodes P) (post_nodes P) (post_ghost g) v.posts p root
      (P p).right (high_bound high) (map at (items_of is)) at_p (leaf_node (P p) high is bp)).0 in
      begins_leads m falls root p q high' js i at_q bq j (record {
        leaf = inl at_p;
        low = items.trans (g.low_item p) (g.high_item p) (at i) (v.posts.span p root 0 at_p)
            (subst (λ (z : Ext ℕ). items.less z (at i)) high_p (above_high i high off));
      })

  pub leaves_lead : Shows R P → (m : ℕ → ℕ) → Falls (entry_nodes P) (entry_ghost g) m → (m' : ℕ → ℕ)
      → Falls (post_nodes P) (post_ghost g) m' → LeavesLead P
  leaves_lead shown m falls m' falls' = record {
    entries = entry_leads m falls;
    postings = λ root p q high high' is js i r below_p below_q bp bq j off.
        post_leads m' falls' root p q high high' is js i
        (ap post_place (tree_of n L R P g v shown root p high is r below_p bp))
        (ap post_place (tree_of n L R P g v shown root q high' js r below_q bq)) bp bq j off;
  }

  -- the lists of the trees' pages are such measures
  pub listed_leads : Shows R P → Listed P g → LeavesLead P
  listed_leads shown l = leaves_lead shown (behind l.entry_list)
      (forward_falls (entry_nodes P) (entry_ghost g) l.entry_list l.entries) (behind l.post_list)
      (forward_falls (post_nodes P) (post_ghost g) l.post_list l.posts)
