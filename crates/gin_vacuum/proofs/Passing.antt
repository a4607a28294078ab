-- A leaf without dead items is passed: what is up to its high key is clean then.
use Rattle.std.proofs.Common.{◌≡◌, ◌≢◌, ◌≤◌, ℕ, zero, suc, List, [], ◌∷◌, length, take, refl, sym, subst, ◌∙◌}
use Rattle.std.proofs.Common.{inl, inr}
use Rattle.std.proofs.Common.{◌⊎◌, Some, arith}
use Rattle.std.specs.Prelude.{Option}
use Rattle.std.proofs.lemmas.List.{take_all}
use Rattle.std.specs.List.{slice_get}
use Rattle.ts_base.specs.Keys.{Key}
use Rattle.page_types.specs.declared.page.Postings.{Postings}
use Rattle.page_types.specs.declared.page.Postings.TheVariants.{Inline, Root}
use Rattle.core_state.specs.Log.{Log, Pages, In}
use Rattle.core_state.specs.Bullets.{PagePlace}
use Rattle.core_state.specs.Index.{IsNamed, Below}
use Rattle.core_state.specs.TreeRules.{IsRoot, TowardItem}
use Rattle.core_state.specs.PagesTold.{PagesTold, IsEntryLeaf, OnEntryLeaf, UpEntryLeaf, IsPostLeaf}
use Rattle.core_state.specs.PagesTold.{OnPostLeaf, UpPostLeaf}
use Rattle.core_vacuum.specs.Leaves.{LeavesCover, LeavesStand}
use Rattle.core_vacuum.specs.Entries.{EntriesStand}
use Rattle.gin_vacuum.proofs.TreesStay.{there_in}
use Rattle.gin_vacuum.specs.Sweeping.{IsDirty, IsDirtyItem, IsCleanTree, Passed, IsLeafAt, IsTreeAt, IsAfter}
use Rattle.gin_vacuum.specs.Sweeping.{AreLeft, IsAt}
use Rattle.gin_vacuum.specs.Inner.Sweeping.{HasNextTree, GoesPast}
use Rattle.gin_vacuum.specs.declared.sweeping.Sweeping.{Sweeping}

module _ {K : Type 0} (P : Pages) (IsLeaf : ℕ → Type 0) (On Up : ℕ → K → Type 0) (c : LeavesCover P IsLeaf On Up)
    (Dirty : K → Type 0) (there : (k : K) → Dirty k → (x : ℕ) × IsLeaf x × On x k) (p : ℕ) (l : IsLeaf p) where
  pub passing : Passed P IsLeaf Up Dirty p → ((k : K) → On p k → Dirty k → ⊥) → (k : K) → Up p k → Dirty k → ⊥
  passing (Passed.first none) clean k up d =
      let x = there k d in
      clean k (subst (λ (q : ℕ). On q k) (c.first p x.0 k l none x.1 x.2 up) x.2) d
  passing (Passed.after q lq e before) clean k up d =
      let x = there k d in
      let some : (P q).right ≢ 0 = λ z. c.not_zero (subst IsLeaf (sym e ∙ z) l) in
      elim (c.next q x.0 k lq some x.1 x.2 (subst (λ (n : ℕ). Up n k) (sym e) up)) [
        | inl u ↦ before k u d
        | inr s ↦ clean k (subst (λ (n : ℕ). On n k) (s ∙ e) x.2) d
      ]

in_taken : (n x : ℕ) (xs : List ℕ) → length xs ≤ n → In x xs → In x (take n xs)
in_taken n x xs le i = subst (In x) (sym (take_all n xs le)) i

in_next : (xs : List ℕ) (n x r : ℕ) → slice_get xs n ≡ Some r → In x (take (suc n) xs) → In x (take n xs) ⊎ (x ≡ r)
in_next [] n x r e i = absurd (let z : ⊥ = cc in z)
in_next (y ∷ xs) zero x r e (inl s) = inr (let z : y ≡ r = cc in s ∙ z)
in_next (y ∷ xs) zero x r e (inr i) = absurd i
in_next (y ∷ xs) (suc n) x r e (inl s) = inl (inl s)
in_next (y ∷ xs) (suc n) x r e (inr i) = elim (in_next xs n x r e i) [ inl j ↦ inl (inr j) | inr s ↦ inr s ]

module _ (S : Log) (P : Pages) (told : PagesTold S P) (some : S ≢ []) (lead : LeavesStand P) (stand : EntriesStand P)
    (dead : List ℕ) where
  not_one : (root page : ℕ) → IsPostLeaf P root page → root ≢ 1
  not_one root page l z =
      elim (told.kinds.kinds some page PagePlace.entry_tree (subst (λ (r : ℕ). Below P r page) z l.0)) [
        | inl x ↦ let e = sym l.1.2 ∙ x.2 in let n : ⊥ = cc in n
        | inr x ↦ let e = sym l.1.2 ∙ x.1 in let n : ⊥ = cc in n
      ]

  -- a dirty key is on a leaf
  key_there : (k : Key) → IsDirty P dead k → (x : ℕ) × IsEntryLeaf P x × OnEntryLeaf P x k
  key_there k d =
      let m = d.2 in (m.page, stand.leaf m.page m.entry m.on, (m.entry, m.on, m.key))

  module _ (roots : List ℕ) (next link : ℕ) (left : Option ℕ) (leaf : ℕ)
      (a : IsLeafAt P dead roots next link left leaf) where
    -- all trees of the leaf are clean, and so is the leaf
    leaf_clean : length roots ≤ next → (k : Key) → OnEntryLeaf P leaf k → IsDirty P dead k → ⊥
    leaf_clean all k on d = go on.0.postings refl
      where
        go : (b : Postings) → on.0.postings ≡ b → ⊥
        go (Inline list) is =
            a.lists on.0 list d.0 on.1 is d.1 (stand.listed k d.0 leaf on.0 list d.2 on.1 on.2 is)
        go (Root root) is =
            let named : IsNamed P k root =
            record { page = leaf; entry = on.0; on = on.1; key = on.2; names = is } in
            let q = stand.posted k d.0 root d.2 named in
            a.trees root (in_taken next root roots all (a.all on.0 root on.1 is)) d.0 (d.1, (q.0, q.1, q.2))

    up_clean : length roots ≤ next → (k : Key) → UpEntryLeaf P leaf k → IsDirty P dead k → ⊥
    up_clean all =
        passing P (IsEntryLeaf P) (OnEntryLeaf P) (UpEntryLeaf P) lead.entries (IsDirty P dead) key_there leaf a.is_leaf
        a.passed (leaf_clean all)

  -- the next tree, the next leaf, or the end
  pub next_at : (leaf : ℕ) (old new : Sweeping) → IsLeafAt P dead old.roots.items old.next old.link old.left leaf
      → HasNextTree old new → IsAt P dead new new.stage
  next_at leaf old _ a (HasNextTree.tree root get) =
      (record { leaf = leaf; before = old.next; next_is = refl; at = a; root_is = get }, TowardItem.here, refl)
  next_at leaf old _ a (HasNextTree.leaf all on) =
      let order = told.bounds.entry_leaves some in (
        subst (IsEntryLeaf P) a.link_is (order.links leaf a.is_leaf (λ z. on (sym a.link_is ∙ z))),
        Passed.after leaf a.is_leaf a.link_is (up_clean old.roots.items old.next old.link old.left leaf a all),
        a.left,
      )
  next_at leaf old _ a (HasNextTree.done all end) = λ i in_dead k main.
      up_clean old.roots.items old.next old.link old.left leaf a all k (a.last end k) (i, in_dead, main)

  -- ── a leaf of a posting tree ──

  module _ (roots : List ℕ) (next link : ℕ) (left : Option ℕ) (root : ℕ)
      (t : IsTreeAt P dead roots next link left root) where
    named : (k : Key) × IsNamed P k root
    named = t.at.named root (there_in roots t.before root t.root_is)

    cover : LeavesCover P (IsPostLeaf P root) (OnPostLeaf P) (UpPostLeaf P)
    cover = lead.postings named.0 root named.1

    as_passed : (before page : ℕ) → IsAfter P dead root before page
        → Passed P (IsPostLeaf P root) (UpPostLeaf P) (IsDirtyItem P dead root) page
    as_passed _ page (IsAfter.first none) = Passed.first none
    as_passed before page (IsAfter.after some l e clean) = Passed.after before l e clean

    -- with all of it clean the leaf is passed
    pub post_clean : (before page : ℕ) → IsPostLeaf P root page → IsAfter P dead root before page
        → ((i : ℕ) → In i dead → OnPostLeaf P page i → ⊥) → (i : ℕ) → UpPostLeaf P page i
        → IsDirtyItem P dead root i → ⊥
    post_clean before page l next none =
        passing P (IsPostLeaf P root) (OnPostLeaf P) (UpPostLeaf P) cover (IsDirtyItem P dead root)
        (λ i d. (d.1.0, d.1.1, d.1.2)) page l (as_passed before page next) (λ i on d. none i d.0 on)

    pub after_it : (page to : ℕ) → IsPostLeaf P root page → (P page).right ≡ to
        → ((i : ℕ) → UpPostLeaf P page i → IsDirtyItem P dead root i → ⊥) → IsAfter P dead root page to
    after_it page to l e clean = IsAfter.after (λ z. cover.not_zero (subst (IsPostLeaf P root) z l)) l e clean

    -- after the last leaf the tree is clean
    pub tree_clean : (page : ℕ) → IsPostLeaf P root page → (P page).right ≡ 0
        → ((i : ℕ) → UpPostLeaf P page i → IsDirtyItem P dead root i → ⊥) → IsCleanTree P dead root
    tree_clean page l end clean i d = clean i (cover.last page i l end) d

    -- and so are as many trees of the leaf as there were, and this one
    pub one_more : IsCleanTree P dead root → IsLeafAt P dead roots next link left t.leaf
    one_more clean = record {
      is_leaf = t.at.is_leaf;
      passed = t.at.passed;
      link_is = t.at.link_is;
      lists = t.at.lists;
      named = t.at.named;
      all = t.at.all;
      trees = λ r i. elim (in_next roots t.before r root t.root_is
          (subst (λ (n : ℕ). In r (take n roots)) (let e : next ≡ suc t.before = omega (arith, t.next_is) in e) i)) [
            | inl j ↦ t.at.trees r j
            | inr e ↦ subst (IsCleanTree P dead) (sym e) clean
          ];
      last = t.at.last;
      left = t.at.left;
    }

  -- the leaf to which a clean one leads, or the next tree
  pub past_at : (root before page link : ℕ) (old new : Sweeping)
      → IsTreeAt P dead old.roots.items old.next old.link old.left root → IsPostLeaf P root page
      → (P page).right ≡ link → AreLeft P (IsPostLeaf P root) link old.left_below
      → ((i : ℕ) → UpPostLeaf P page i → IsDirtyItem P dead root i → ⊥) → GoesPast root page link old new
      → IsAt P dead new new.stage
  past_at root before page link old _ t l e more clean (GoesPast.leaf on) =
      let n = named old.roots.items old.next old.link old.left root t in
      let order = told.bounds.post_leaves root (IsRoot.of_postings n.0 n.1) (not_one root page l) in (
        t,
        subst (IsPostLeaf P root) e (order.links page l (λ z. on (sym e ∙ z))),
        after_it old.roots.items old.next old.link old.left root t page link l e clean,
        more,
      )
  past_at root before page link old _ t l e more clean (GoesPast.tree new end next) =
      let clean_tree = tree_clean old.roots.items old.next old.link old.left root t page l (e ∙ end) clean in
      next_at t.leaf old new (one_more old.roots.items old.next old.link old.left root t clean_tree) next
