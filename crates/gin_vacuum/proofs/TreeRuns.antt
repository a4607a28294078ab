-- The walks through the trees of a legal log have fewer pages than there are.
use Rattle.std.proofs.Common.{◌≡◌, ◌≢◌, ◌<◌, ℕ, zero, suc, List, [], ◌∷◌, refl, sym, ap}
use Rattle.std.proofs.Common.{subst, ◌∙◌}
use Rattle.std.proofs.Common.{inl, arith}
use Rattle.ts_base.specs.Keys.{Key}
use Rattle.page_types.specs.Numbers.{item_limit}
use Rattle.page_types.specs.declared.page.EntryChild.{EntryChild}
use Rattle.page_types.specs.declared.page.PostChild.{PostChild}
use Rattle.page_types.specs.declared.page.Body.{Body}
use Rattle.page_types.specs.declared.page.Body.TheVariants as body
use Rattle.core_state.specs.Log.{Log, Pages, In, Shows}
use Rattle.core_state.specs.Known.{use_by}
use Rattle.core_state.specs.Index.{IsNamed}
use Rattle.core_state.specs.TreeRules.{IsRoot, Toward, TowardItem}
use Rattle.core_state.specs.PageChoice.{IsLeast, AreBelow}
use Rattle.core_state.specs.States.{StateValue, StateTells}
use Rattle.core_state.specs.declared.answers.PageUse.TheVariants as usage
use Rattle.core_state.specs.PagesTold.{PagesTold, IsEntryLeaf, OnEntryLeaf, UpEntryLeaf, IsPostLeaf, OnPostLeaf}
use Rattle.core_state.specs.PagesTold.{UpPostLeaf}
use Rattle.core_maintenance.specs.Leading.{IsHigh, IsHighPost, WaysLead}
use Rattle.gin_vacuum.specs.Sweeping.{AreLeftBelow}
use Rattle.gin_vacuum.proofs.Downs.{toward_child, item_child}
use Rattle.gin_vacuum.proofs.LeafRuns.{left_below}

-- ── used pages ──

free_by : (stamp : ℕ) (b : Body) → use_by stamp b ≡ usage.Unused → b ≡ body.Free
free_by stamp body.Free is = refl
free_by stamp (body.Deleted g) is = absurd cc
free_by stamp _ is = absurd cc

-- all used pages are below such a number
pub used_below : (S : Log) (P : Pages) (s : StateValue) (n : ℕ) → Shows S P → StateTells S s → IsLeast (AreBelow s) n
    → (p : ℕ) → (P p).body ≢ body.Free → p < n
used_below S P s n shown tells least p used =
    (least.holds).changed p (λ none. used (free_by (P p).stamp (P p).body (sym (tells.uses P shown p) ∙ none)))

-- ── heights ──

pub high_entry : (P : Pages) (h p : ℕ) → IsHigh P (suc h) p
    → (cs : List EntryChild) × ((P p).body ≡ body.EntryInner cs) × ((c : EntryChild) → In c cs → IsHigh P h c.page)
high_entry P h p (IsHigh.inner cs is each) = (cs, is, each)

pub low_entry : (P : Pages) (p : ℕ) → IsHigh P 0 p → (b : Body) → (P p).body ≡ b → (cs : List EntryChild)
    → b ≡ body.EntryInner cs → ⊥
low_entry P p (IsHigh.leaf high es is) b e cs f = let z = sym is ∙ e ∙ f in cc

pub high_post : (P : Pages) (h p : ℕ) → IsHighPost P (suc h) p
    → (cs : List PostChild) × ((P p).body ≡ body.PostInner cs) × ((c : PostChild) → In c cs → IsHighPost P h c.page)
high_post P h p (IsHighPost.inner cs is each) = (cs, is, each)

pub low_post : (P : Pages) (p : ℕ) → IsHighPost P 0 p → (b : Body) → (P p).body ≡ b → (cs : List PostChild)
    → b ≡ body.PostInner cs → ⊥
low_post P p (IsHighPost.leaf high items is) b e cs f = let z = sym is ∙ e ∙ f in cc

pub not_free : (b c : Body) → b ≡ c → c ≢ body.Free → b ≢ body.Free
not_free b c e off f = off (sym e ∙ f)

module _ (S : Log) (P : Pages) (told : PagesTold S P) (some : S ≢ []) (lead : WaysLead P) (n : ℕ)
    (used : (p : ℕ) → (P p).body ≢ body.Free → p < n) where
  meta : (first last : ℕ) × (count : ℕ) × ((P 0).body ≡ body.Meta first last count)
  meta = let m = told.list.meta some in (m.0, m.1, _, m.2)

  zero_used : 0 < n
  zero_used = used 0 (not_free (P 0).body _ meta.3 (λ z. cc))

  -- ── the entry tree ──

  abbrev EntryAt : ℕ → ℕ → Type 0
  EntryAt h q = IsHigh P h q × Toward P [] 1 q

  entry_first : (h q : ℕ) → EntryAt (suc h) q → (c : ℕ) × EntryAt h c
  entry_first h q at =
      let x = high_entry P h q at.0 in
      let c = lead.child [] q x.0 at.1 x.1 in
      go x.0 x.1 x.2 (c.0, c.1)
    where
      go : (cs : List EntryChild) → (P q).body ≡ body.EntryInner cs
          → ((c : EntryChild) → In c cs → IsHigh P h c.page) → (c : EntryChild) × In c cs → (c : ℕ) × EntryAt h c
      go [] is each i = absurd i.1
      go (d ∷ ds) is each i = (d.page, (each d (inl refl), toward_child P 1 q d ds at.1 is))

  entry_one : (i j q : ℕ) → EntryAt i q → EntryAt j q → i ≡ j
  entry_one zero zero q a b = refl
  entry_one zero (suc j) q a b =
      let x = high_entry P j q b.0 in absurd (low_entry P q a.0 (P q).body refl x.0 x.1)
  entry_one (suc i) zero q a b =
      let x = high_entry P i q a.0 in absurd (low_entry P q b.0 (P q).body refl x.0 x.1)
  entry_one (suc i) (suc j) q a b =
      let x = high_entry P i q a.0 in
      let y = high_entry P j q b.0 in
      let c = lead.child [] q x.0 a.1 x.1 in
      ap suc (go x.0 y.0 x.1 y.1 x.2 y.2 (c.0, c.1) (λ p a b. entry_one i j p a b))
    where
      go : (cs ds : List EntryChild) → (P q).body ≡ body.EntryInner cs → (P q).body ≡ body.EntryInner ds
          → ((c : EntryChild) → In c cs → IsHigh P i c.page) → ((c : EntryChild) → In c ds → IsHigh P j c.page)
          → (c : EntryChild) × In c cs → ((p : ℕ) → EntryAt i p → EntryAt j p → i ≡ j) → i ≡ j
      go [] ds is js each_i each_j c lower = absurd c.1
      go (c ∷ cs) ds is js each_i each_j k lower =
          let e : c ∷ cs ≡ ds = let z = sym is ∙ js in cc in
          let on : In c ds = subst (In c) e (inl refl) in
          lower c.page (each_i c (inl refl), toward_child P 1 q c cs a.1 is)
          (each_j c on, toward_child P 1 q c cs a.1 is)

  entry_zero : IsEntryLeaf P 0 → ⊥
  entry_zero l = let z = sym meta.3 ∙ l.2 in cc

  pub entries_left : AreLeftBelow P (IsEntryLeaf P) (IsHigh P) 1 n
  entries_left =
      left_below EntryAt entry_one entry_first P (IsEntryLeaf P) (OnEntryLeaf P) (UpEntryLeaf P)
      (told.bounds.entry_leaves some) entry_zero n zero_used
      (λ x l. used x (not_free (P x).body _ l.2 (λ z. cc)))
      (λ x j at. let y = high_entry P j x at.0 in used x (not_free (P x).body _ y.1 (λ z. cc)))
      (λ x j l at. let y = high_entry P j x at.0 in let z = sym l.2 ∙ y.1 in cc)
      (λ j at. let y = high_entry P j 0 at.0 in let z = sym meta.3 ∙ y.1 in cc)
      (IsHigh P) lead.height.0 1 (lead.height.1, Toward.here) lead.height.1

  -- ── a posting tree ──

  module _ (k : Key) (root : ℕ) (named : IsNamed P k root) where
    abbrev PostAt : ℕ → ℕ → Type 0
    PostAt h q = IsHighPost P h q × TowardItem P 0 root q

    small : 0 < item_limit
    small = omega arith

    post_first : (h q : ℕ) → PostAt (suc h) q → (c : ℕ) × PostAt h c
    post_first h q at =
        let x = high_post P h q at.0 in
        let c = lead.post_child k root 0 q x.0 named small at.1 x.1 in
        go x.0 x.1 x.2 (c.0, c.1)
      where
        go : (cs : List PostChild) → (P q).body ≡ body.PostInner cs
            → ((c : PostChild) → In c cs → IsHighPost P h c.page) → (c : PostChild) × In c cs
            → (c : ℕ) × PostAt h c
        go [] is each i = absurd i.1
        go (d ∷ ds) is each i = (d.page, (each d (inl refl), item_child P root q d ds at.1 is))

    post_one : (i j q : ℕ) → PostAt i q → PostAt j q → i ≡ j
    post_one zero zero q a b = refl
    post_one zero (suc j) q a b =
        let x = high_post P j q b.0 in absurd (low_post P q a.0 (P q).body refl x.0 x.1)
    post_one (suc i) zero q a b =
        let x = high_post P i q a.0 in absurd (low_post P q b.0 (P q).body refl x.0 x.1)
    post_one (suc i) (suc j) q a b =
        let x = high_post P i q a.0 in
        let y = high_post P j q b.0 in
        let c = lead.post_child k root 0 q x.0 named small a.1 x.1 in
        ap suc (go x.0 y.0 x.1 y.1 x.2 y.2 (c.0, c.1) (λ p a b. post_one i j p a b))
      where
        go : (cs ds : List PostChild) → (P q).body ≡ body.PostInner cs → (P q).body ≡ body.PostInner ds
            → ((c : PostChild) → In c cs → IsHighPost P i c.page)
            → ((c : PostChild) → In c ds → IsHighPost P j c.page)
            → (c : PostChild) × In c cs → ((p : ℕ) → PostAt i p → PostAt j p → i ≡ j) → i ≡ j
        go [] ds is js each_i each_j c lower = absurd c.1
        go (c ∷ cs) ds is js each_i each_j k lower =
            let e : c ∷ cs ≡ ds = let z = sym is ∙ js in cc in
            let on : In c ds = subst (In c) e (inl refl) in
            lower c.page (each_i c (inl refl), item_child P root q c cs a.1 is)
            (each_j c on, item_child P root q c cs a.1 is)

    post_zero : IsPostLeaf P root 0 → ⊥
    post_zero l = let z = sym meta.3 ∙ l.1.2 in cc

    top : (h : ℕ) × IsHighPost P h root
    top = let h = lead.post_height k root named in (h.0, h.1)

    -- no root that an entry names is that of the entry tree
    pub not_entries : root ≢ 1
    not_entries e = clash lead.height.0 top.0 lead.height.1 (subst (IsHighPost P top.0) e top.1)
      where
        clash : (i j : ℕ) → IsHigh P i 1 → IsHighPost P j 1 → ⊥
        clash _ _ (IsHigh.leaf a b is) (IsHighPost.leaf c d js) = let z = sym is ∙ js in cc
        clash _ _ (IsHigh.leaf a b is) (IsHighPost.inner cs js each) = let z = sym is ∙ js in cc
        clash _ _ (IsHigh.inner cs is each) (IsHighPost.leaf c d js) = let z = sym is ∙ js in cc
        clash _ _ (IsHigh.inner cs is each) (IsHighPost.inner ds js each_j) = let z = sym is ∙ js in cc

    pub posts_left : AreLeftBelow P (IsPostLeaf P root) (IsHighPost P) root n
    posts_left =
        left_below PostAt post_one post_first P (IsPostLeaf P root) (OnPostLeaf P) (UpPostLeaf P)
        (told.bounds.post_leaves root (IsRoot.of_postings k named) not_entries) post_zero n zero_used
        (λ x l. used x (not_free (P x).body _ l.1.2 (λ z. cc)))
        (λ x j at. let y = high_post P j x at.0 in used x (not_free (P x).body _ y.1 (λ z. cc)))
        (λ x j l at. let y = high_post P j x at.0 in let z = sym l.1.2 ∙ y.1 in cc)
        (λ j at. let y = high_post P j 0 at.0 in let z = sym meta.3 ∙ y.1 in cc)
        (IsHighPost P) top.0 root (top.1, TowardItem.here) top.1

    -- the way to a parent from the root has fewer pages still
    pub high_left : (h : ℕ) × IsHighPost P h root × (h < n)
    high_left = let h = lead.post_height k root named in (h.0, h.1, h.2 n used)
