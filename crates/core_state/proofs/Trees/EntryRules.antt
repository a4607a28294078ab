-- The rules of added and removed items, of a new posting tree and of a grown root, as steps of the entry tree.
use Rattle.std.proofs.Common.{◌≡◌, ◌≢◌, ◌⊎◌, ◌≤◌, ℕ, List, [], ◌∷◌, ◌++◌, map, refl, sym, ap, ap₂, subst, ◌∙◌, inl, inr}
use Rattle.std.proofs.lemmas.List.{map-append}
use Rattle.ts_base.specs.Keys.{Key}
use Rattle.page_types.specs.declared.page.Page.{Page}
use Rattle.page_types.specs.declared.page.Entry.{Entry}
use Rattle.page_types.specs.declared.page.Postings.{Postings}
use Rattle.page_types.specs.declared.page.Postings.TheVariants.{Inline}
use Rattle.page_types.specs.declared.page.Body.{Body}
use Rattle.page_types.specs.declared.page.Body.TheVariants as body
use Rattle.page_types.specs.declared.record.Record.{Record}
use Rattle.core_state.specs.Log.{Log, Pages, In, changed}
use Rattle.core_state.specs.TreeRules.{IsEntryBetween, IsAddItems, IsMakeTree, IsGrowRoot, OneChild}
use Rattle.core_state.specs.VacuumRules.{EntryLoses, EntriesLose, ListsLose, IsRemoveItems}
use Rattle.core_state.specs.Changes.{made_with}
use Rattle.core_state.specs.Trees.Ext.{Ext}
use Rattle.core_state.specs.Trees.Ext.Ext.{least, at, greatest}
use Rattle.core_state.specs.Trees.Nodes.{TreeGhost, AtMost, Sane}
use Rattle.core_state.specs.Trees.Nodes.Node.{leaf, inner}
use Rattle.core_state.specs.Trees.Nodes.TreePlace.{none, tree, left}
use Rattle.core_state.specs.Trees.TreeNodes.{bound, entry_key, entry_body, entry_node, entry_nodes}
use Rattle.core_state.specs.Inner.TreePlaces.{EntryPlaces, IsNoEntryPage, HasMeta}
use Rattle.core_state.proofs.PageLists.{in_either, in_front, in_back, one_page, two_pages}
use Rattle.core_state.proofs.Trees.Members.{in_map, of_map, off_one, off_two}
use Rattle.core_state.proofs.Trees.Find.{right_in}
use Rattle.core_state.proofs.Trees.Grow.{grow_ghost}
use Rattle.core_state.proofs.Trees.Roots.{IsRootAt}
use Rattle.core_state.proofs.Trees.FromNodes.{unlinked, grow_nodes}
use Rattle.core_state.proofs.Trees.Steps.{Grows}
use Rattle.core_state.proofs.Trees.Growing.{quiet_here}
use Rattle.core_state.proofs.Trees.EntryViews.{EntryGrows, new_not_zero, leaf_node, new_apart, leaf_high, leaf_keys}
use Rattle.core_state.proofs.Trees.EntryViews.{toward_low}
use Rattle.core_state.proofs.Trees.Orders.{keys, key_order, ext_top, up_to_bound}

-- an entry beside the new one was there
was_there : (entries front back : List Entry) (key : Key) (old : List ℕ) (e : Entry)
    → IsEntryBetween entries front back key old → In e front ⊎ In e back → In e entries
was_there entries front back key old e (inl f) m =
    subst (λ (es : List Entry). In e es) (sym f)
    (elim m [ inl a ↦ in_front e front _ a | inr b ↦ in_back e front _ (inr b) ])
was_there entries front back key old e (inr f) m =
    subst (λ (es : List Entry). In e es) (sym f.0)
    (elim m [ inl a ↦ in_front e front back a | inr b ↦ in_back e front back b ])

-- no key leaves the leaf
key_stays : (entries front back : List Entry) (key : Key) (old : List ℕ) (n : Postings) (k : Ext Key)
    → IsEntryBetween entries front back key old → In k (map entry_key entries)
    → In k (map entry_key (front ++ record { key = key; postings = n } ∷ back))
key_stays entries front back key old n k (inl f) m =
    subst (λ (l : List (Ext Key)). In k l) (ap (map entry_key) f ∙ map-append entry_key front _
    ∙ sym (map-append entry_key front (record { key = key; postings = n } ∷ back))) m
key_stays entries front back key old n k (inr f) m =
    let e = of_map entry_key k entries m in
    subst (λ (z : Ext Key). In z (map entry_key (front ++ record { key = key; postings = n } ∷ back))) (sym e.2)
    (in_map entry_key e.0 _ (elim (in_either e.0 front back (subst (λ (es : List Entry). In e.0 es) f.0 e.1))
    [ inl a ↦ in_front e.0 front _ a | inr b ↦ in_back e.0 front _ (inr b) ]))

keys_stay : (removed : List ℕ) (es fs : List Entry) → EntriesLose removed es fs → map entry_key fs ≡ map entry_key es
keys_stay removed [] [] l = refl
keys_stay removed [] (f ∷ fs) l = absurd l
keys_stay removed (e ∷ es) [] l = absurd l
keys_stay removed (e ∷ es) (f ∷ fs) l =
    ap₂ (λ (k : Ext Key) (ks : List (Ext Key)). k ∷ ks) (sym (one e f l.0)) (keys_stay removed es fs l.1)
  where
    one : (e f : Entry) → EntryLoses removed e f → entry_key e ≡ entry_key f
    one e f (EntryLoses.same s) = ap entry_key s
    one e f (EntryLoses.less a b s x y z) = ap at s

-- a leaf whose lists lose items shows the same keys
pub node_stays : (removed : List ℕ) (right : ℕ) (a b : Body) → ListsLose removed a b
    → entry_body right b ≡ entry_body right a
node_stays removed right a b (ListsLose.entries high old new l) =
    ap (leaf right (bound high)) (keys_stay removed old new l)
node_stays removed right a b (ListsLose.postings high old new l) = refl

-- a grown root has one child, without bound; what was on it moves without its right link
grown_nodes : (new : ℕ) (a b : Body) → OneChild new a b → (IsNoEntryPage a → ⊥) → (x : ℕ)
    → (right_in (entry_body x a) ≡ x)
    × (entry_body x b ≡ inner x (record { page = new; bound = greatest } ∷ []))
    × (entry_body 0 a ≡ unlinked (entry_body x a))
grown_nodes new a b (OneChild.of_leaf h es) n x = (refl, refl, refl)
grown_nodes new a b (OneChild.of_inner cs) n x = (refl, refl, refl)
grown_nodes new a b (OneChild.of_post_leaf h is) n x = absurd (n tt)
grown_nodes new a b (OneChild.of_post_inner cs) n x = absurd (n tt)

module _ (R : Log) (P Q : Pages) (r : Record) (g : TreeGhost (Ext Key)) (S : Sane keys greatest (entry_nodes P) g)
    (K : EntryPlaces P g)
    (elsewhere : (q : ℕ) → (In q (changed r) → ⊥) → Q q ≡ P q) where
  -- 13: a key comes, or none
  module _ (top : ℕ) (T : IsRootAt g 1 top) (V : IsAddItems R P Q r) where
    abbrev entries_now : List Entry
    entries_now = V.here.front ++ record { key = V.here.key; postings = Inline V.here.new_list } ∷ V.here.back

    page_was : P V.here.page ≡ V.here.old
    page_was = one_page P (changed r) V.here.page V.here.old V.here.pages V.here.before_is

    page_is : Q V.here.page ≡ made_with r V.here.old.right (body.EntryLeaf V.here.high entries_now)
    page_is = one_page Q (changed r) V.here.page _ V.here.pages V.here.after_is

    body_was : (P V.here.page).body ≡ body.EntryLeaf V.here.high V.here.entries
    body_was = ap (λ (p : Page). p.body) page_was ∙ V.here.was

    at_page : g.place V.here.page ≡ tree 1 0
    at_page = K.leaf_at V.here.page V.here.high V.here.entries body_was

    high_page : bound V.here.high ≡ g.high V.here.page
    high_page = leaf_high P g S K V.here.page V.here.high V.here.entries body_was

    key_low : keys.less (g.low V.here.page) (at V.here.key)
    key_low = (toward_low P g S K V.here.key 1 V.here.page top V.rest.place T.at_root
        (subst (λ (z : Ext Key). keys.less z (at V.here.key)) (sym T.low) tt)).1

    within : (k : Ext Key) → In k (map entry_key entries_now) → keys.less (g.low V.here.page) k
        × AtMost keys greatest k (g.high V.here.page)
    within k m =
        let e = of_map entry_key k _ m in
        subst (λ (z : Ext Key). keys.less (g.low V.here.page) z × AtMost keys greatest z (g.high V.here.page)) (sym e.2)
        (elim (in_either e.0 V.here.front _ e.1) [
          | inl a ↦ leaf_keys P g S K V.here.page V.here.high V.here.entries body_was e.0
              (was_there _ _ _ _ _ e.0 V.here.entry (inl a))
          | inr (inl f) ↦ subst (λ (z : Entry). keys.less (g.low V.here.page) (at z.key)
              × AtMost keys greatest (at z.key) (g.high V.here.page)) (sym f) (
                key_low,
                subst (λ (z : Ext Key). AtMost keys greatest (at V.here.key) z) high_page
                    (up_to_bound V.here.key V.here.high V.here.within),
              )
          | inr (inr b) ↦ leaf_keys P g S K V.here.page V.here.high V.here.entries body_was e.0
              (was_there _ _ _ _ _ e.0 V.here.entry (inr b))
        ])

    pub add_items : EntryGrows P Q g g
    add_items = (
      Grows.new_keys V.here.page 1 (record {
        at = at_page;
        right = V.here.old.right;
        keys = map entry_key V.here.entries;
        then = map entry_key entries_now;
        before = ap entry_node page_was ∙ leaf_node V.here.old V.here.high V.here.entries V.here.was
            ∙ ap (λ (z : Ext Key). leaf V.here.old.right z (map entry_key V.here.entries)) high_page;
        after = ap entry_node page_is
            ∙ ap (λ (z : Ext Key). leaf V.here.old.right z (map entry_key entries_now)) high_page;
        within = within;
        else = λ x n. ap entry_node (elsewhere x (off_one x V.here.page n (changed r) V.here.pages));
      }) refl,
      λ k m. key_stays V.here.entries V.here.front V.here.back V.here.key V.here.old_list
          (Inline V.here.new_list) k V.here.entry m,
    )

  -- 14: no key changes
  pub make_tree : (since : ℕ) → IsMakeTree R P Q r since → EntryGrows P Q g g
  make_tree since V = quiet_here keys least greatest (entry_nodes P) (entry_nodes Q) g (changed r)
      (λ q n. ap entry_node (elsewhere q n)) (λ q m n. here q n (subst (In q) V.here.pages m))
    where
      was_two : (P V.here.page ≡ V.here.old) × (P V.here.new ≡ V.here.was)
      was_two = two_pages P (changed r) V.here.page V.here.new V.here.old V.here.was V.here.pages V.here.before_is

      same : entry_node (Q V.here.page) ≡ entry_node (P V.here.page)
      same = ap entry_node (two_pages Q (changed r) V.here.page V.here.new _ _ V.here.pages V.here.after_is).0
          ∙ ap (leaf V.here.old.right (bound V.here.high)) (map-append entry_key V.here.front _
          ∙ sym (map-append entry_key V.here.front
          (record { key = V.here.key; postings = Inline V.here.items } ∷ V.here.back)))
          ∙ sym (ap entry_node was_two.0 ∙ leaf_node V.here.old V.here.high _ V.here.inline)

      here : (q : ℕ) → g.place q ≢ none → In q (V.here.page ∷ V.here.new ∷ []) → entry_node (Q q) ≡ entry_node (P q)
      here q n (inl e) = subst (λ (z : ℕ). entry_node (Q z) ≡ entry_node (P z)) (sym e) same
      here q n (inr (inl e)) = absurd (n (ap g.place e ∙ new_apart P g S K since V.here.new V.here.is_new))
      here q n (inr (inr e)) = absurd e

  -- 18: no key changes
  pub remove_items : (floor : ℕ) → IsRemoveItems R P Q r floor → EntryGrows P Q g g
  remove_items floor V = quiet_here keys least greatest (entry_nodes P) (entry_nodes Q) g (changed r)
      (λ q n. ap entry_node (elsewhere q n)) (λ q m n. here q (subst (In q) V.here.pages m))
    where
      same : entry_node (Q V.here.page) ≡ entry_node (P V.here.page)
      same = ap entry_node (one_page Q (changed r) V.here.page _ V.here.pages V.here.after_is)
          ∙ node_stays V.here.removed V.here.old.right V.here.old.body V.here.content V.here.lists
          ∙ sym (ap entry_node (one_page P (changed r) V.here.page V.here.old V.here.pages V.here.before_is))

      here : (q : ℕ) → In q (V.here.page ∷ []) → entry_node (Q q) ≡ entry_node (P q)
      here q (inl e) = subst (λ (z : ℕ). entry_node (Q z) ≡ entry_node (P z)) (sym e) same
      here q (inr e) = absurd e

  -- 16, of a root of another tree
  pub grow_other : (since : ℕ) (V : IsGrowRoot R P Q r since) → IsNoEntryPage (P V.here.root).body → EntryGrows P Q g g
  grow_other since V other = quiet_here keys least greatest (entry_nodes P) (entry_nodes Q) g (changed r)
      (λ q n. ap entry_node (elsewhere q n)) (λ q m n. absurd (here q n (subst (In q) V.here.pages m)))
    where
      here : (q : ℕ) → g.place q ≢ none → In q (V.here.root ∷ V.here.new ∷ []) → ⊥
      here q n (inl e) = n (ap g.place e ∙ K.none_at V.here.root other)
      here q n (inr (inl e)) = n (ap g.place e ∙ new_apart P g S K since V.here.new V.here.is_new)
      here q n (inr (inr e)) = e

  -- 16, of this tree's root
  pub grow_root : (top : ℕ) → IsRootAt g 1 top → (since : ℕ) (V : IsGrowRoot R P Q r since) → HasMeta P
      → V.here.root ≡ 1
      → (IsNoEntryPage (P V.here.root).body → ⊥) → EntryGrows P Q g (grow_ghost g least greatest 1 V.here.new top)
  grow_root top T since V meta root entry =
      subst (λ (z : ℕ). EntryGrows P Q g (grow_ghost g least greatest z V.here.new top)) root
      (grow_nodes keys least greatest (λ x l. l) (ext_top key_order) tt (entry_nodes P)
      (entry_nodes Q) g S V.here.root top
      (on_root (λ z. g.place z ≡ tree z top) T.at_root) (on_root (λ z. g.low z ≡ least) T.low)
      (on_root (λ z. g.high z ≡ greatest) T.high)
      (on_root (λ z. (x h : ℕ) → g.place x ≡ tree z h → h ≤ top) T.highest)
      (on_root (λ z. (x : ℕ) → g.place x ≡ left z → 1 ≤ top) T.left_low)
      V.here.new (new_apart P g S K since V.here.new V.here.is_new) (new_not_zero P meta since V.here.new V.here.is_new)
      (ap entry_node now.0 ∙ nodes.1
      ∙ ap (λ (z : ℕ). inner z (record { page = V.here.new; bound = greatest } ∷ [])) (sym nodes.0
      ∙ sym (ap right_in node_was)))
      (ap entry_node now.1 ∙ nodes.2 ∙ sym (ap unlinked node_was))
      (λ x m n. ap entry_node (elsewhere x (off_two x V.here.root V.here.new m n (changed r) V.here.pages))))
    where
      on_root : (F : ℕ → Type 0) → F 1 → F V.here.root
      on_root F f = subst F (sym root) f

      was : (P V.here.root ≡ V.here.old) × (P V.here.new ≡ V.here.was)
      was = two_pages P (changed r) V.here.root V.here.new V.here.old V.here.was V.here.pages V.here.before_is

      now : (Q V.here.root ≡ made_with r V.here.old.right V.here.inner) × (Q V.here.new ≡ made_with r 0 V.here.old.body)
      now = two_pages Q (changed r) V.here.root V.here.new _ _ V.here.pages V.here.after_is

      node_was : entry_node (P V.here.root) ≡ entry_body V.here.old.right V.here.old.body
      node_was = ap entry_node was.0

      nodes : (right_in (entry_body V.here.old.right V.here.old.body) ≡ V.here.old.right)
          × (entry_body V.here.old.right V.here.inner ≡ inner V.here.old.right
          (record { page = V.here.new; bound = greatest } ∷ []))
          × (entry_body 0 V.here.old.body ≡ unlinked (entry_body V.here.old.right V.here.old.body))
      nodes = grown_nodes V.here.new V.here.old.body V.here.inner V.here.one_child
          (λ n. entry (subst IsNoEntryPage (sym (ap (λ (p : Page). p.body) was.0)) n)) V.here.old.right
