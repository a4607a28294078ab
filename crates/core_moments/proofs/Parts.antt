-- Parts of a walk: the keys that fit, its single walks, and their reads.
use Rattle.std.proofs.Common.{◌≡◌, ◌≢◌, ◌⊎◌, ◌≤◌, ℕ, zero, suc, Bool, true, false, cond, not, ◌&&◌, ◌||◌, nat_eq, List}
use Rattle.std.proofs.Common.{[], ◌∷◌, ◌++◌, map, refl, sym, ap, subst, subst₂, ap₂, ◌∙◌, inl, inr, arith}
use Rattle.std.specs.List.{list_any}
use Rattle.core_state.specs.Trees.Nodes.{AtMost}
use Rattle.core_state.proofs.Trees.Order.{at_most_less}
use Rattle.page_types.specs.declared.page.Entry.{Entry}
use Rattle.page_types.specs.declared.page.Postings.{Postings}
use Rattle.page_types.specs.declared.page.Postings.TheVariants.{Inline, Root}
use Rattle.page_types.specs.Items.{items_of}
use Rattle.core_state.specs.Log.{Pages, In}
use Rattle.ts_base.specs.Keys.{Key}
use Rattle.page_types.specs.Views.{posting_items_in}
use Rattle.gin_opclass.specs.Class.{Asked, FitsAsked}
use Rattle.core_state.specs.Readings.{Read}
use Rattle.core_moments.specs.Walk.{Sought, first_key, fits, LeafRead, leaf_reads, tree_reads, key_reads, KeyWalk}
use Rattle.core_moments.specs.Walk.{IsKeyWalk, AreKeyWalks, begins}
use Rattle.core_moments.specs.Judging.{under, under_entry, fits_asked}
use Rattle.core_state.specs.Trees.Ext.{Ext, ext_less}
use Rattle.core_state.specs.Trees.Ext.Ext.{least, at, greatest}
use Rattle.page_types.specs.Keys.{KeyLess}
use Rattle.core_state.proofs.Trees.Orders.{ext_order, key_order}
use Rattle.core_moments.proofs.Words.{and_true, begins_at_most, begins_both, begins_itself, begins_append}
use Rattle.core_moments.proofs.Words.{append_of_begins, begins_between}
use Rattle.core_moments.proofs.Judging.{or_right}
use Rattle.core_moments.proofs.Views.{goes}
use Rattle.core_state.proofs.PageLists.{in_front, in_back}
use Rattle.core_moments.proofs.Walks.{Reads}

-- keys that fit
fits_body : (key : Key) (prefix : Bool) (k : Key) → fits (cond prefix (Sought.prefix key) (Sought.one key)) k ≡ true
    → FitsAsked (record { key = key; prefix = prefix }) k
fits_body key true k e = append_of_begins key k e
fits_body key false k e = let both = and_true (begins key k) (begins k key) e in begins_both k key both.1 both.0

fits_back : (key : Key) (prefix : Bool) (k : Key) → FitsAsked (record { key = key; prefix = prefix }) k
    → fits (cond prefix (Sought.prefix key) (Sought.one key)) k ≡ true
fits_back key true k h = subst (λ (z : Key). begins key z ≡ true) (sym h.1) (begins_append key h.0)
fits_back key false k h = subst (λ (z : Key). (begins key z && begins z key) ≡ true) (sym h)
    (ap₂ (λ (a b : Bool). a && b) (begins_itself key) (begins_itself key))

pub of_fits : (a : Asked) (k : Key) → fits_asked a k ≡ true → FitsAsked a k
of_fits a k e = fits_body a.key a.prefix k e

pub to_fits : (a : Asked) (k : Key) → FitsAsked a k → fits_asked a k ≡ true
to_fits a k h = fits_back a.key a.prefix k h

-- where a walk begins, and that it goes on far enough
pub from_first : (s : Sought) (x : Key) → fits s x ≡ true → AtMost (ext_order key_order) greatest (at (first_key s))
    (at x)
from_first (Sought.one k) x e = let both = and_true (begins k x)
    (begins x k) e in inr (ap at (begins_both k x both.0 both.1))
from_first (Sought.prefix k) x e = elim (begins_at_most k x e) [ inl l ↦ inl l | inr f ↦ inr (ap at f) ]
from_first Sought.whole x e = elim (begins_at_most [] x refl) [ inl l ↦ inl l | inr f ↦ inr (ap at f) ]

pub goes_far : (s : Sought) (x : Key) → fits s x ≡ true → (h : Ext Key)
    → AtMost (ext_order key_order) greatest (at (first_key s)) h → ext_less KeyLess h (at x) → goes s h ≡ true
goes_far (Sought.one k) x e h a l =
    let both = and_true (begins k x) (begins x k) e in
    let same : k ≡ x = begins_both k x both.0 both.1 in
    absurd ((ext_order key_order).irrefl (at x)
    (at_most_less (ext_order key_order) greatest (at x) h (at x)
    (subst (λ (z : Key). AtMost (ext_order key_order) greatest (at z) h) same a) l))
goes_far (Sought.prefix k) x e least a l = absurd (never a)
  where
    never : AtMost (ext_order key_order) greatest (at k) least → ⊥
    never (inl z) = z
    never (inr z) = cc
goes_far (Sought.prefix k) x e (at h) a l = begins_between k h x e (below a) l
  where
    equal : (a b : Key) → at a ≡ at b → a ≡ b
    equal a b z = cc

    below : AtMost (ext_order key_order) greatest (at k) (at h)
        → Rattle.std.specs.Cmp.Lexicographic.slice_cmp Rattle.std.proofs.Common.nat_cmp k h ≢
        Rattle.std.proofs.Common.Greater
    below (inl z) f = clash (sym z ∙ f)
      where
        clash : Rattle.std.proofs.Common.Less ≡ Rattle.std.proofs.Common.Greater → ⊥
        clash g = cc
    below (inr z) f = same_not k h (equal k h z) f
      where
        own : Rattle.std.proofs.Common.Equal ≡ Rattle.std.proofs.Common.Greater → ⊥
        own g = cc

        same_not : (a b : Key) → a ≡ b
            → Rattle.std.specs.Cmp.Lexicographic.slice_cmp Rattle.std.proofs.Common.nat_cmp a b ≢
            Rattle.std.proofs.Common.Greater
        same_not a b s g = own (sym
            (Rattle.std.proofs.lemmas.Cmp.tied_itself Rattle.std.proofs.lemmas.Cmp.nat_list_cmp_total a)
            ∙ subst (λ (z : Key). Rattle.std.specs.Cmp.Lexicographic.slice_cmp Rattle.std.proofs.Common.nat_cmp a
            z ≡ Rattle.std.proofs.Common.Greater) (sym s) g)
goes_far (Sought.prefix k) x e greatest a l = absurd l
goes_far Sought.whole x e h a l = refl

-- the walks for the keys that are sought
pub walk_for : (ss : List Sought) (ws : List KeyWalk) (s : Sought) → AreKeyWalks ss ws → In s ss
    → (x : KeyWalk) × In x ws × (x.sought ≡ s) × IsKeyWalk x
walk_for [] [] s ok m = absurd m
walk_for [] (x ∷ ws) s ok m = absurd ok
walk_for (t ∷ ss) [] s ok m = absurd ok
walk_for (t ∷ ss) (x ∷ ws) s ok (inl e) = (x, inl refl, ok.0 ∙ sym e, ok.1)
walk_for (t ∷ ss) (x ∷ ws) s ok (inr m) = let r = walk_for ss ws s ok.2 m in (r.0, inr r.1, r.2, r.3)

pub is_walk : (ss : List Sought) (ws : List KeyWalk) (x : KeyWalk) → AreKeyWalks ss ws → In x ws → IsKeyWalk x
is_walk [] [] x ok m = absurd m
is_walk [] (y ∷ ws) x ok m = absurd ok
is_walk (t ∷ ss) [] x ok m = absurd ok
is_walk (t ∷ ss) (y ∷ ws) x ok (inl e) = subst IsKeyWalk (sym e) ok.1
is_walk (t ∷ ss) (y ∷ ws) x ok (inr m) = is_walk ss ws x ok.2 m

pub reads_end : (P : ℕ → Pages) (t end : ℕ) (xs : List Read) → Reads P t end xs → t ≤ end
reads_end P t end [] r = r
reads_end P t end (x ∷ xs) r = omega (arith, r.0, reads_end P x.length end xs r.2)

pub reads_less : (P : ℕ → Pages) (s t end : ℕ) (xs : List Read) → s ≤ t → Reads P t end xs → Reads P s end xs
reads_less P s t end [] l r = omega (arith, l, r)
reads_less P s t end (x ∷ xs) l r = (omega (arith, l, r.0), r.1, r.2)

pub reads_front : (P : ℕ → Pages) (t end : ℕ) (xs ys : List Read) → Reads P t end (xs ++ ys) → Reads P t end xs
reads_front P t end [] ys r = reads_end P t end ys r
reads_front P t end (x ∷ xs) ys r = (r.0, r.1, reads_front P x.length end xs ys r.2)

pub reads_back : (P : ℕ → Pages) (t end : ℕ) (xs ys : List Read) → Reads P t end (xs ++ ys) → Reads P t end ys
reads_back P t end [] ys r = r
reads_back P t end (x ∷ xs) ys r = reads_less P t x.length end ys r.0 (reads_back P x.length end xs ys r.2)

append_assoc_reads : (xs ys zs : List Read) → (xs ++ ys) ++ zs ≡ xs ++ (ys ++ zs)
append_assoc_reads xs ys zs = Rattle.std.proofs.Common.append_assoc xs ys zs

pub key_part : (P : ℕ → Pages) (t end : ℕ) (ws : List KeyWalk) (x : KeyWalk) → Reads P t end (key_reads ws) → In x ws
    → Reads P t end (x.down ++ leaf_reads x.leaves)
key_part P t end [] x r m = absurd m
key_part P t end (y ∷ ws) x r (inl e) = subst (λ (z : KeyWalk). Reads P t end (z.down ++ leaf_reads z.leaves)) (sym e)
    (reads_front P t end (y.down ++ leaf_reads y.leaves) (key_reads ws)
    (subst (Reads P t end) (sym (append_assoc_reads y.down (leaf_reads y.leaves) (key_reads ws))) r))
key_part P t end (y ∷ ws) x r (inr m) = key_part P t end ws x
    (reads_back P t end (leaf_reads y.leaves) (key_reads ws)
    (reads_back P t end y.down (leaf_reads y.leaves ++ key_reads ws) r)) m

pub leaf_shown : (P : ℕ → Pages) (ls : List LeafRead) (l : LeafRead)
    → ((x : Read) → In x (leaf_reads ls) → P x.length x.page ≡ x.content) → In l ls
    → P l.leaf.length l.leaf.page ≡ l.leaf.content
leaf_shown P [] l s m = absurd m
leaf_shown P (d ∷ ls) l s (inl e) = subst (λ (z : LeafRead). P z.leaf.length z.leaf.page ≡ z.leaf.content) (sym e)
    (s d.leaf (inl refl))
leaf_shown P (d ∷ ls) l s (inr m) = leaf_shown P ls l
    (λ x n. s x (inr (in_back x (tree_reads d.trees) (leaf_reads ls) n))) m

tree_shown_in : (ts : List (List Read)) (t : List Read) (x : Read) → In t ts → In x t → In x (tree_reads ts)
tree_shown_in [] t x m n = absurd m
tree_shown_in (u ∷ ts) t x (inl e) n = in_front x u (tree_reads ts) (subst (In x) e n)
tree_shown_in (u ∷ ts) t x (inr m) n = in_back x u (tree_reads ts) (tree_shown_in ts t x m n)

pub leaf_tree_in : (ls : List LeafRead) (l : LeafRead) (t : List Read) (x : Read) → In l ls → In t l.trees → In x t
    → In x (leaf_reads ls)
leaf_tree_in [] l t x m n k = absurd m
leaf_tree_in (d ∷ ls) l t x
    (inl e) n k = inr (in_front x (tree_reads d.trees) (leaf_reads ls)
    (tree_shown_in d.trees t x (subst (λ (z : LeafRead). In t z.trees) e n) k))
leaf_tree_in (d ∷ ls) l t x
    (inr m) n k = inr (in_back x (tree_reads d.trees) (leaf_reads ls) (leaf_tree_in ls l t x m n k))

-- more keys pass a test that holds of all
more_entry : (test : Key → Bool) (i : ℕ) (k : Key) (b : Bool) (q : Postings) (ts : List (List Read))
    (rest rest' : List (List Read) → Bool) → ((us : List (List Read)) → rest us ≡ true → rest' us ≡ true)
    → under_entry test i k b q ts rest ≡ true → under_entry (λ z. true) i k b q ts rest' ≡ true
more_entry test i k true (Inline bytes) ts rest rest' h e = widen (test k) (list_any (nat_eq i) (items_of bytes))
    (rest ts) (rest' ts) (h ts) e
  where
    widen : (a b c d : Bool) → (c ≡ true → d ≡ true) → ((a && b) || c) ≡ true → (b || d) ≡ true
    widen true b c d f e = go b e
      where
        go : (b : Bool) → (b || c) ≡ true → (b || d) ≡ true
        go true e = refl
        go false e = f e
    widen false b c d f e = or_right b d (f e)
more_entry test i k true (Root r) [] rest rest' h e = cc
more_entry test i k true (Root r) (t ∷ ts) rest rest' h e = widen (test k)
    (list_any (λ x. list_any (nat_eq i) (posting_items_in x.content.body)) t) (rest ts) (rest' ts) (h ts) e
  where
    widen : (a b c d : Bool) → (c ≡ true → d ≡ true) → ((a && b) || c) ≡ true → (b || d) ≡ true
    widen true b c d f e = go b e
      where
        go : (b : Bool) → (b || c) ≡ true → (b || d) ≡ true
        go true e = refl
        go false e = f e
    widen false b c d f e = or_right b d (f e)
more_entry test i k false q ts rest rest' h e = h ts e

pub more_under : (s : Sought) (test : Key → Bool) (i : ℕ) (es : List Entry) (ts : List (List Read))
    → under s test i es ts ≡ true → under s (λ z. true) i es ts ≡ true
more_under s test i [] ts e = cc
more_under s test i (d ∷ es) ts e = more_entry test i d.key (fits s d.key) d.postings ts (under s test i es)
    (under s (λ z. true) i es) (λ us f. more_under s test i es us f) e
