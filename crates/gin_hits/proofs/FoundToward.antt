-- What is found of a key on a page of the tree is the page that is next on the way of the key.
use Rattle.std.proofs.Common.{◌≡◌, ◌≢◌, ℕ, Bool, true, false, cond, ◌||◌, List, [], ◌∷◌, ◌++◌, refl, sym, ap}
use Rattle.std.proofs.Common.{subst, ◌∙◌}
use Rattle.std.proofs.Common.{inl, inr}
use Rattle.std.specs.List.{AllByRecursion}
use Rattle.page_types.specs.Keys.{KeyLess, BoundLess, Rising}
use Rattle.page_types.specs.Pages.{IsPage, IsBody, AreEntryChildren}
use Rattle.page_types.specs.declared.page.Page.{Page}
use Rattle.page_types.specs.declared.page.Entry.{Entry}
use Rattle.page_types.specs.declared.page.EntryChild.{EntryChild}
use Rattle.page_types.specs.declared.page.Body.{Body}
use Rattle.page_types.specs.declared.page.Body.TheVariants as body
use Rattle.core_state.specs.Log.{In}
use Rattle.core_state.specs.Changes.{UpTo}
use Rattle.core_state.proofs.Trees.Orders.{key_order}
use Rattle.core_moments.specs.Walk as walk
use Rattle.core_moments.specs.Walk.{toward, up_to, child_for, is_empty}
use Rattle.core_moments.proofs.Words.{up_to_tells}
use Rattle.entry_tree.specs.Finding.{IsEntryBody, IsFound, IsFoundIn, IsBelow}
use Rattle.entry_tree.specs.declared.finding.Found.{Found}
use Rattle.entry_tree.specs.declared.finding.Found.TheVariants as found
use Rattle.gin_hits.proofs.Searching.{false_of}

-- the page that is found; 0 where it is an entry, or its place
abbrev pub next_found : Found → ℕ
next_found (found.Here place) = 0
next_found (found.Absent place) = 0
next_found (found.Down child) = child
next_found (found.Right page) = page

past : (key bound : List ℕ) → IsBelow bound key → up_to key bound ≡ false
past key bound b = false_of (up_to key bound) (λ e. elim ((up_to_tells key bound).0 e) [
  | inl none ↦ b.0 none
  | inr (inl less) ↦ key_order.irrefl key (key_order.trans key bound key less b.1)
  | inr (inr same) ↦ key_order.irrefl key (subst (λ (k : List ℕ). KeyLess k key) (sym same) b.1)
])

-- the first child that may have the key
child_here : (right : ℕ) (key : List ℕ) (front back : List EntryChild) (c : EntryChild)
    → ((b : EntryChild) → In b front → up_to key b.bound ≡ false) → up_to key c.bound ≡ true
    → child_for right key (front ++ c ∷ back) ≡ c.page
child_here right key [] back c off on = ap (λ (b : Bool). cond b c.page (child_for right key back)) on
child_here right key (b ∷ front) back c off on =
    ap (λ (t : Bool). cond t b.page (child_for right key (front ++ c ∷ back))) (off b (inl refl))
    ∙ child_here right key front back c (λ d m. off d (inr m)) on

child_none : (right : ℕ) (key : List ℕ) (cs : List EntryChild)
    → ((b : EntryChild) → In b cs → up_to key b.bound ≡ false) → child_for right key cs ≡ right
child_none right key [] off = refl
child_none right key (c ∷ cs) off =
    ap (λ (t : Bool). cond t c.page (child_for right key cs)) (off c (inl refl))
    ∙ child_none right key cs (λ d m. off d (inr m))

-- a bound before another is there
all_there : (P : EntryChild → Type 0) (front back : List EntryChild) (c : EntryChild)
    → AllByRecursion P (front ++ c ∷ back) → P c
all_there P [] back c h = h.0
all_there P (b ∷ front) back c h = all_there P front back c h.1

bound_before : (front back : List EntryChild) (c b : EntryChild)
    → Rising (λ (x y : EntryChild). BoundLess x.bound y.bound) (front ++ c ∷ back) → In b front → b.bound ≢ []
bound_before [] back c b h m = absurd m
bound_before (d ∷ front) back c b h (inl e) = λ none.
    (all_there (λ (y : EntryChild). BoundLess d.bound y.bound) front back c h.0).0
    (ap (λ (x : EntryChild). x.bound) (sym e) ∙ none)
bound_before (d ∷ front) back c b h (inr m) = bound_before front back c b h.1 m

module _ (key : List ℕ) (p : Page) (is_page : IsPage p) where
  at_body : (b : Body) → p.body ≡ b → toward key p ≡ toward key (record p { body = b })
  at_body b e = ap (λ (c : Body). toward key (record p { body = c })) e

  leaf_is : (high : List ℕ) (es : List Entry) → p.body ≡ body.EntryLeaf high es
      → toward key p ≡ cond (up_to key high) 0 p.right
  leaf_is high es e = at_body (body.EntryLeaf high es) e

  inner_is : (cs : List EntryChild) → p.body ≡ body.EntryInner cs → toward key p ≡ child_for p.right key cs
  inner_is cs e = at_body (body.EntryInner cs) e

  children : (cs : List EntryChild) → p.body ≡ body.EntryInner cs → AreEntryChildren p.right cs
  children cs e = subst (IsBody p.right p.stamp) e is_page.body

  on_leaf : (high : List ℕ) (es : List Entry) → p.body ≡ body.EntryLeaf high es → UpTo key high → toward key p ≡ 0
  on_leaf high es e up =
      leaf_is high es e ∙ ap (λ (b : Bool). cond b 0 p.right) ((up_to_tells key high).1 up)

  pub found_toward : (f : Found) → IsFound p key f → next_found f ≡ toward key p
  found_toward (found.Here place) (IsFoundIn.here place' high front back e b at same up) =
      sym (on_leaf high (front ++ e ∷ back) b up)
  found_toward (found.Absent place) (IsFoundIn.absent place' high front back b at less more up) =
      sym (on_leaf high (front ++ back) b up)
  found_toward (found.Down child) (IsFoundIn.down front back c b less up) =
      sym (inner_is (front ++ c ∷ back) b
      ∙ child_here p.right key front back c
      (λ d m. past key d.bound
      (bound_before front back c d (children (front ++ c ∷ back) b).rising m, less d m))
      ((up_to_tells key c.bound).1 up))
  found_toward (found.Right page) (IsFoundIn.past_leaf high es b below) =
      sym (leaf_is high es b ∙ ap (λ (t : Bool). cond t 0 p.right) (past key high below))
  found_toward (found.Right page) (IsFoundIn.past_inner cs b below) =
      sym (inner_is cs b ∙ child_none p.right key cs (λ d m. past key d.bound (below d m)))

-- another page leads nowhere
pub no_tree : (key : List ℕ) (p : Page) → (IsEntryBody p.body → ⊥) → toward key p ≡ 0
no_tree key p off = by p.body refl
  where
    by : (b : Body) → p.body ≡ b → toward key p ≡ 0
    by (body.EntryLeaf high es) e = absurd (off (subst IsEntryBody (sym e) (IsEntryBody.leaf high es)))
    by (body.EntryInner cs) e = absurd (off (subst IsEntryBody (sym e) (IsEntryBody.inner cs)))
    by body.Free e = ap (λ (c : Body). toward key (record p { body = c })) e
    by (body.Meta a b c) e = ap (λ (d : Body). toward key (record p { body = d })) e
    by (body.Heap s) e = ap (λ (c : Body). toward key (record p { body = c })) e
    by (body.Overflow s) e = ap (λ (c : Body). toward key (record p { body = c })) e
    by (body.Pending s) e = ap (λ (c : Body). toward key (record p { body = c })) e
    by (body.PostLeaf h s) e = ap (λ (c : Body). toward key (record p { body = c })) e
    by (body.PostInner s) e = ap (λ (c : Body). toward key (record p { body = c })) e
    by (body.Deleted s) e = ap (λ (c : Body). toward key (record p { body = c })) e

-- the next leaf, where more keys may be sought
pub beyond_leaf : (key high : List ℕ) (es : List Entry) (prefix more : Bool) (p : Page)
    → p.body ≡ body.EntryLeaf high es → more ≡ (is_empty high || walk.begins key high)
    → walk.beyond (walk.sought_of (record { key = key; prefix = prefix })) p
    ≡ cond prefix (cond more p.right 0) 0
beyond_leaf key high es true more p e f =
    ap (λ (c : Body). walk.beyond (walk.prefix key) (record p { body = c })) e
    ∙ ap (λ (b : Bool). cond b p.right 0) (sym f)
beyond_leaf key high es false more p e f =
    ap (λ (c : Body). walk.beyond (walk.one key) (record p { body = c })) e
