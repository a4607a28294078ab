-- In every legal log a walk from a pin reads no page twice.
use Rattle.std.proofs.Common.{◌≡◌, ◌≢◌, ◌⊎◌, ◌<◌, ◌≤◌, ◌+◌, ◌-◌, ℕ, zero, suc, Bool, true, false, List, [], ◌∷◌, ◌++◌}
use Rattle.std.proofs.Common.{map, length, refl, sym, ap, subst, ◌∙◌, inl, inr, arith}
use Rattle.page_types.specs.Views.{entries_of, first_of}
use Rattle.page_types.specs.declared.page.Entry.{Entry}
use Rattle.page_types.specs.declared.page.Postings.{Postings}
use Rattle.page_types.specs.declared.page.Postings.TheVariants.{Inline, Root}
use Rattle.core_state.specs.Log.{Log, Pages, In}
use Rattle.core_state.specs.Legal.{IsLegal, Pin, Keeps}
use Rattle.core_state.specs.Readings.{Read, AreReads}
use Rattle.core_state.proofs.Trees.Walk as w
use Rattle.core_state.proofs.Moments.Links.{Links, BeginsAt, links}
use Rattle.core_moments.specs.Walk.{Walk, KeyWalk, IsKeyWalk, LeafRead, Sought, IsWalk, Follows, LeadTo, AreLeaves}
use Rattle.core_moments.specs.Walk.{AreTrees, Branch, toward, along, beyond, rightward, first_key, fits, reads_of}
use Rattle.core_moments.specs.Walk.{leaf_reads, tree_reads, key_reads}
use Rattle.core_moments.specs.Law.{ReadOnce, path_of, ReadsOnce, WalksEnd}
use Rattle.core_moments.proofs.Moments.{reads_at}
use Rattle.core_moments.proofs.Once.{once_of, rise, path_reads, path_linked, tree_linked}
use Rattle.core_moments.proofs.OpenLists.{lead_on, first_reads, list_once}
use Rattle.core_moments.proofs.Parts.{is_walk, reads_front, reads_back, reads_end, key_part}
use Rattle.core_moments.proofs.Views.{tr}
use Rattle.core_moments.proofs.Walks.{Reads}

same_head : {E : Type 0} (a b : E) (cs ds : List E) → a ∷ cs ≡ b ∷ ds → a ≡ b
same_head a b cs ds h = cc

-- a posting tree that was read has its root in an entry of the leaf
tree_root : (s : Sought) (es : List Entry) (ts : List (List Read)) (t : List Read) → AreTrees s es ts → In t ts
    → (x : Entry) × (r : ℕ) × In x es × (x.postings ≡ Root r) × Follows along r t
tree_root s [] ts t a i = absurd (subst (In t) a i)
tree_root s (x ∷ es) ts t a i = by (fits s x.key) x.postings refl a (λ us b j. tree_root s es us t b j)
  where
    later : ((y : Entry) × (r : ℕ) × In y es × (y.postings ≡ Root r) × Follows along r t)
        → (y : Entry) × (r : ℕ) × In y (x ∷ es) × (y.postings ≡ Root r) × Follows along r t
    later k = (k.0, k.1, inr k.2, k.3, k.4)

    by : (b : Bool) (p : Postings) → x.postings ≡ p → Branch b p (AreTrees s es) ts
        → ((us : List (List Read)) → AreTrees s es us → In t us → (y : Entry) × (r : ℕ) × In y es
        × (y.postings ≡ Root r) × Follows along r t)
        → (y : Entry) × (r : ℕ) × In y (x ∷ es) × (y.postings ≡ Root r) × Follows along r t
    by true (Root r) e br more = elim (subst (In t) br.2 i) [
      | inl f ↦ (x, r, inl refl, e, subst (Follows along r) (sym f) br.3)
      | inr j ↦ later (more br.1 br.4 j)
    ]
    by true (Inline bytes) e br more = later (more ts br i)
    by false p e br more = later (more ts br i)

leaf_trees : (s : Sought) (p : ℕ) (ls : List LeafRead) (l : LeafRead) → AreLeaves s p ls → In l ls
    → AreTrees s (entries_of l.leaf.content) l.trees
leaf_trees s p [] l a i = absurd i
leaf_trees s p (m ∷ ls) l a (inl e) = subst (λ (z : LeafRead). AreTrees s (entries_of z.leaf.content) z.trees)
    (sym e) a.2
leaf_trees s p (m ∷ ls) l a (inr i) = leaf_trees s (beyond s m.leaf.content) ls l a.3 i

module _ (P : ℕ → Pages) (end : ℕ) where
  -- the reads of a leaf, and of a tree after it
  tree_part : (t : ℕ) (ts : List (List Read)) (rest : List Read) (u : List Read)
      → Reads P t end (tree_reads ts ++ rest) → In u ts → (s : ℕ) × (t ≤ s) × Reads P t end u
  tree_part t [] rest u r i = absurd i
  tree_part t (v ∷ ts) rest u r (inl e) =
      let f = reads_front P t end v (tree_reads ts ++ rest)
      (subst (Reads P t end) (Rattle.std.proofs.Common.append_assoc v (tree_reads ts) rest) r) in
      (t, omega arith, subst (Reads P t end) (sym e) f)
  tree_part t (v ∷ ts) rest u r (inr i) = tree_part t ts rest u
      (reads_back P t end v (tree_reads ts ++ rest)
      (subst (Reads P t end) (Rattle.std.proofs.Common.append_assoc v (tree_reads ts) rest) r)) i

  leaf_part : (t : ℕ) (ls : List LeafRead) (l : LeafRead) → Reads P t end (leaf_reads ls) → In l ls
      → (t ≤ l.leaf.length) × (P l.leaf.length l.leaf.page ≡ l.leaf.content)
      × ((u : List Read) → In u l.trees → Reads P l.leaf.length end u)
  leaf_part t [] l r i = absurd i
  leaf_part t (m ∷ ls) l r (inl e) =
      subst (λ (z : LeafRead). (t ≤ z.leaf.length) × (P z.leaf.length z.leaf.page ≡ z.leaf.content)
      × ((u : List Read) → In u z.trees → Reads P z.leaf.length end u)) (sym e)
      (r.0, r.1, λ u j. (tree_part m.leaf.length m.trees (leaf_reads ls) u r.2 j).2)
  leaf_part t (m ∷ ls) l r (inr i) =
      let k = leaf_part m.leaf.length ls l (reads_back P m.leaf.length end (tree_reads m.trees) (leaf_reads ls) r.2)
      i in
      (omega (arith, r.0, k.0), k.1, k.2)

-- a path begins at page 1
path_first : (s : Sought) (k : Rattle.ts_base.specs.Keys.Key) (p q : ℕ) (xs : List Read) (ls : List LeafRead)
    → LeadTo (toward k) p xs q → AreLeaves s q ls → (x : Read) (ys : List Read)
    → xs ++ map (λ (l : LeafRead). l.leaf) ls ≡ x ∷ ys → x.page ≡ p
path_first s k p q [] [] d a x ys e = cc
path_first s k p q [] (l ∷ ls) d a x ys e = ap (λ (r : Read). r.page)
    (sym (same_head l.leaf x (map (λ (m : LeafRead). m.leaf) ls) ys e)) ∙ a.1 ∙ sym d
path_first s k p q (z ∷ xs) ls d a x ys e = ap (λ (r : Read). r.page)
    (sym (same_head z x (xs ++ map (λ (m : LeafRead). m.leaf) ls) ys e)) ∙ d.0

module _ (R : Log) (pin : Pin) (sought : List Sought) (walk : Walk) (legal : IsLegal R)
    (keeps : Keeps R pin) (W : IsWalk sought walk) (reads : AreReads R pin.length (reads_of walk)) where
  L : Links R pin
  L = links R pin legal keeps

  abbrev P : ℕ → Pages
  P = L.pages

  from : pin.length ≤ walk.meta.length
  from = reads.0

  within : walk.meta.length ≤ length R
  within = reads.1

  all_reads : Reads P walk.meta.length (length R) (reads_of walk)
  all_reads = reads_at R walk.meta.length P (λ t a b. L.shown t (omega (arith, from, a)) b) within
      (reads_of walk) walk.meta.length (omega arith) within (omega arith, reads.1, reads.2, reads.3)

  keys_reads : Reads P walk.meta.length (length R) (key_reads walk.keys)
  keys_reads = reads_back P walk.meta.length (length R) walk.pending (key_reads walk.keys) all_reads.2

  path_once : (k : KeyWalk) → In k walk.keys → ReadOnce (path_of k)
  path_once k i =
      let K = is_walk sought walk.keys k W.keys_ok i in
      let r = path_reads P (length R) walk.meta.length k.down k.leaves
      (key_part P walk.meta.length (length R) walk.keys k keys_reads i) in
      let linked = path_linked P (length R) walk.meta.length k.sought
      (first_key k.sought) 1 k.leaf k.down k.leaves r K.down_ok K.leaves_ok in
      once_of (path_of k) (L.entries walk.meta.length (map tr (path_of k)) from
      (rise P (length R) walk.meta.length (path_of k) r) linked (λ x ys e. begins k K x ys e))
    where
      begins : (k : KeyWalk) → IsKeyWalk k → BeginsAt 1 (map tr (path_of k))
      begins k K x ys e = by (path_of k) refl e
        where
          by : (zs : List Read) → path_of k ≡ zs → map tr zs ≡ x ∷ ys → x.page ≡ 1
          by [] f h = absurd (let z : ⊥ = cc in z)
          by (z ∷ zs) f h = ap (λ (c : w.Read). c.page) (sym (same_head (tr z) x (map tr zs) ys h))
              ∙ path_first k.sought (first_key k.sought) 1 k.leaf k.down k.leaves K.down_ok K.leaves_ok z zs f

  tree_once : (k : KeyWalk) (l : LeafRead) (t : List Read) → In k walk.keys → In l k.leaves → In t l.trees
      → ReadOnce t
  tree_once k l t i j m =
      let K = is_walk sought walk.keys k W.keys_ok i in
      let part = leaf_part P (length R) walk.meta.length k.leaves l
      (reads_back P walk.meta.length (length R) k.down (leaf_reads k.leaves)
      (key_part P walk.meta.length (length R) walk.keys k keys_reads i)) j in
      let r = part.2 t m in
      let root = tree_root k.sought (entries_of l.leaf.content) l.trees t
      (leaf_trees k.sought k.leaf k.leaves l K.leaves_ok j) m in
      once_of t (L.posts l.leaf.length l.leaf.page root.0 root.1 (map tr t) (omega (arith, from, part.0))
      (reads_end P l.leaf.length (length R) t r) (subst (λ z. In root.0 (entries_of z)) (sym part.1) root.2) root.3
      (rise P (length R) l.leaf.length t r) (tree_linked P (length R) l.leaf.length root.1 t r root.4)
      (λ y ys e. begins root.1 t root.4 y ys e))
    where
      begins : (r : ℕ) (xs : List Read) → Follows along r xs → BeginsAt r (map tr xs)
      begins r [] f y ys e = absurd (let z : ⊥ = cc in z)
      begins r (z ∷ zs) f y ys e =
          ap (λ (c : w.Read). c.page) (sym (same_head (tr z) y (map tr zs) ys e)) ∙ f.1

  -- the pending list
  pending_once : ReadOnce walk.pending
  pending_once = list_once R pin walk.meta walk.pending 0 legal keeps W.meta_page
      (lead_on rightward (first_of walk.meta.content) walk.pending W.pending_ok)
      (first_reads R pin.length (walk.meta ∷ walk.pending) (key_reads walk.keys) reads)

  pub reads_once : ReadsOnce walk
  reads_once = record { pending = pending_once; paths = path_once; trees = tree_once }

pub ends : WalksEnd
ends R pin sought walk legal keeps W reads = reads_once R pin sought walk legal keeps W reads
