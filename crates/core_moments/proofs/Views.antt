-- The steps of a walk on pages are those on nodes.
use Rattle.std.proofs.Common.{◌≡◌, ℕ, Bool, true, false, cond, List, [], ◌∷◌, map, refl, sym, ap, ap₂}
use Rattle.core_state.proofs.Trees.Walk as w
use Rattle.core_state.proofs.Trees.EntryWalk as e
use Rattle.ts_base.specs.Keys.{Key}
use Rattle.page_types.specs.declared.page.Page.{Page}
use Rattle.page_types.specs.declared.page.EntryChild.{EntryChild}
use Rattle.page_types.specs.declared.page.Body.{Body}
use Rattle.page_types.specs.declared.page.Body.TheVariants.{Free, Meta, Heap, Overflow, Pending, EntryLeaf, EntryInner}
use Rattle.page_types.specs.declared.page.Body.TheVariants.{PostLeaf, PostInner, Deleted}
use Rattle.core_state.specs.Readings.{Read}
use Rattle.core_state.specs.Trees.Ext.{Ext}
use Rattle.core_state.specs.Trees.Ext.Ext.{least, at, greatest}
use Rattle.core_state.specs.Trees.TreeNodes.{entry_child, entry_body, entry_node, post_body, post_node}
use Rattle.core_moments.specs.Walk.{toward, along, beyond, child_for, Sought, begins, LeafRead}
use Rattle.core_moments.proofs.Words.{upto, upto_bound}

abbrev pub tr : Read → w.Read
tr x = record { time = x.length; page = x.page }

abbrev pub tr_leaf : LeafRead → e.LeafRead
tr_leaf l = record { leaf = tr l.leaf; trees = map (map tr) l.trees }

-- one step of a walk
child_same : (right : ℕ) (k : Key) (cs : List EntryChild) → child_for right k cs ≡ e.child_of upto right (at k)
    (map entry_child cs)
child_same right k [] = refl
child_same right k (c ∷ cs) = ap₂ (λ (b : Bool) (q : ℕ). cond b c.page q) (sym (upto_bound k c.bound))
    (child_same right k cs)

toward_body : (k : Key) (right stamp : ℕ) (b : Body)
    → toward k (record { right = right; stamp = stamp; body = b }) ≡ e.toward upto (at k) (entry_body right b)
toward_body k right stamp (EntryInner cs) = child_same right k cs
toward_body k right stamp (EntryLeaf high es) = ap (λ (b : Bool). cond b 0 right) (sym (upto_bound k high))
toward_body k right stamp Free = refl
toward_body k right stamp (Meta a b c) = refl
toward_body k right stamp (Heap s) = refl
toward_body k right stamp (Overflow s) = refl
toward_body k right stamp (Pending s) = refl
toward_body k right stamp (PostLeaf h s) = refl
toward_body k right stamp (PostInner s) = refl
toward_body k right stamp (Deleted s) = refl

pub toward_same : (k : Key) (p : Page) → toward k p ≡ e.toward upto (at k) (entry_node p)
toward_same k p = toward_body k p.right p.stamp p.body

along_body : (right stamp : ℕ) (b : Body) → along (record { right = right; stamp = stamp; body = b }) ≡ w.along
    (post_body right b)
along_body right stamp (PostInner []) = refl
along_body right stamp (PostInner (c ∷ cs)) = refl
along_body right stamp (PostLeaf high s) = refl
along_body right stamp (Deleted s) = refl
along_body right stamp (EntryInner cs) = refl
along_body right stamp (EntryLeaf high es) = refl
along_body right stamp Free = refl
along_body right stamp (Meta a b c) = refl
along_body right stamp (Heap s) = refl
along_body right stamp (Overflow s) = refl
along_body right stamp (Pending s) = refl

pub along_same : (p : Page) → along p ≡ w.along (post_node p)
along_same p = along_body p.right p.stamp p.body

-- whether a walk goes on after a leaf with this high key
abbrev pub goes : Sought → Ext Key → Bool
goes (Sought.one k) h = false
goes Sought.whole h = true
goes (Sought.prefix k) least = false
goes (Sought.prefix k) (at h) = begins k h
goes (Sought.prefix k) greatest = true

beyond_body : (s : Sought) (right stamp : ℕ) (b : Body)
    → beyond s (record { right = right; stamp = stamp; body = b }) ≡ e.beyond (goes s) (entry_body right b)
beyond_body (Sought.one k) right stamp (EntryLeaf high es) = refl
beyond_body Sought.whole right stamp (EntryLeaf high es) = refl
beyond_body (Sought.prefix k) right stamp (EntryLeaf [] es) = refl
beyond_body (Sought.prefix k) right stamp (EntryLeaf (c ∷ cs) es) = refl
beyond_body (Sought.one k) right stamp (EntryInner cs) = refl
beyond_body (Sought.one k) right stamp Free = refl
beyond_body (Sought.one k) right stamp (Meta a b c) = refl
beyond_body (Sought.one k) right stamp (Heap s) = refl
beyond_body (Sought.one k) right stamp (Overflow s) = refl
beyond_body (Sought.one k) right stamp (Pending s) = refl
beyond_body (Sought.one k) right stamp (PostLeaf h s) = refl
beyond_body (Sought.one k) right stamp (PostInner s) = refl
beyond_body (Sought.one k) right stamp (Deleted s) = refl
beyond_body (Sought.prefix k) right stamp (EntryInner cs) = refl
beyond_body (Sought.prefix k) right stamp Free = refl
beyond_body (Sought.prefix k) right stamp (Meta a b c) = refl
beyond_body (Sought.prefix k) right stamp (Heap s) = refl
beyond_body (Sought.prefix k) right stamp (Overflow s) = refl
beyond_body (Sought.prefix k) right stamp (Pending s) = refl
beyond_body (Sought.prefix k) right stamp (PostLeaf h s) = refl
beyond_body (Sought.prefix k) right stamp (PostInner s) = refl
beyond_body (Sought.prefix k) right stamp (Deleted s) = refl
beyond_body Sought.whole right stamp (EntryInner cs) = refl
beyond_body Sought.whole right stamp Free = refl
beyond_body Sought.whole right stamp (Meta a b c) = refl
beyond_body Sought.whole right stamp (Heap s) = refl
beyond_body Sought.whole right stamp (Overflow s) = refl
beyond_body Sought.whole right stamp (Pending s) = refl
beyond_body Sought.whole right stamp (PostLeaf h s) = refl
beyond_body Sought.whole right stamp (PostInner s) = refl
beyond_body Sought.whole right stamp (Deleted s) = refl

pub beyond_same : (s : Sought) (p : Page) → beyond s p ≡ e.beyond (goes s) (entry_node p)
beyond_same s p = beyond_body s p.right p.stamp p.body
