-- Names of trees and ways down them, where pages change as by a record of the kinds 18 to 21.
use Rattle.std.proofs.Common.{◌≡◌, ◌⊎◌, ◌<◌, ◌≤◌, ◌++◌, ℕ, List, [], ◌∷◌, refl, sym, ap, subst, ◌∙◌, inl, inr}
use Rattle.std.proofs.Common.{append_assoc}
use Rattle.ts_base.specs.Keys.{Key}
use Rattle.page_types.specs.Views.{entries_in}
use Rattle.page_types.specs.declared.page.Entry.{Entry}
use Rattle.page_types.specs.declared.page.EntryChild.{EntryChild}
use Rattle.page_types.specs.declared.page.PostChild.{PostChild}
use Rattle.page_types.specs.declared.page.Postings.{Postings}
use Rattle.page_types.specs.declared.page.Postings.TheVariants.{Inline, Root}
use Rattle.page_types.specs.declared.page.Gone.TheVariants as gone
use Rattle.page_types.specs.declared.page.Body.{Body}
use Rattle.page_types.specs.declared.page.Body.TheVariants as body
use Rattle.core_state.specs.Log.{Pages, In}
use Rattle.core_state.specs.Index.{IsNamed}
use Rattle.core_state.specs.TreeRules.{Toward, TowardItem}
use Rattle.core_state.specs.VacuumRules.{EntryLoses, EntriesLose}
use Rattle.core_state.proofs.PageLists.{in_front, in_back, in_either}
use Rattle.core_vacuum.specs.Keeping.{IsGoneLeaf}
use Rattle.core_vacuum.proofs.Turns.{IsTurned}

-- ---- names

not_both : (p : Postings) (root : ℕ) (list : List ℕ) → p ≡ Root root → p ≡ Inline list → ⊥
not_both p root list e f = cc

-- an entry that names a tree is the same before and after
root_stays : (removed : List ℕ) (d e : Entry) (root : ℕ) → EntryLoses removed d e → d.postings ≡ Root root → d ≡ e
root_stays removed d e root (EntryLoses.same s) is = s
root_stays removed d e root (EntryLoses.less a b k x y l) is = absurd (not_both d.postings root a is x)

root_was : (removed : List ℕ) (d e : Entry) (root : ℕ) → EntryLoses removed d e → e.postings ≡ Root root → d ≡ e
root_was removed d e root (EntryLoses.same s) is = s
root_was removed d e root (EntryLoses.less a b k x y l) is = absurd (not_both e.postings root b is y)

entry_on : (removed : List ℕ) (es fs : List Entry) (e : Entry) (root : ℕ) → EntriesLose removed es fs
    → e.postings ≡ Root root → In e es → In e fs
entry_on removed [] fs e root l is i = absurd i
entry_on removed (d ∷ es) [] e root l is i = absurd l
entry_on removed (d ∷ es) (f ∷ fs) e root l is (inl s) =
    inl (s ∙ root_stays removed d f root l.0 (ap (λ (x : Entry). x.postings) (sym s) ∙ is))
entry_on removed (d ∷ es) (f ∷ fs) e root l is (inr i) = inr (entry_on removed es fs e root l.1 is i)

entry_back : (removed : List ℕ) (es fs : List Entry) (e : Entry) (root : ℕ) → EntriesLose removed es fs
    → e.postings ≡ Root root → In e fs → In e es
entry_back removed es [] e root l is i = absurd i
entry_back removed [] (f ∷ fs) e root l is i = absurd l
entry_back removed (d ∷ es) (f ∷ fs) e root l is (inl s) =
    inl (s ∙ sym (root_was removed d f root l.0 (ap (λ (x : Entry). x.postings) (sym s) ∙ is)))
entry_back removed (d ∷ es) (f ∷ fs) e root l is (inr i) = inr (entry_back removed es fs e root l.1 is i)

module _ (P Q : Pages) where
  name_on : (b c : Body) → IsTurned P Q b c → (e : Entry) (root : ℕ) → e.postings ≡ Root root → In e (entries_in b)
      → In e (entries_in c)
  name_on _ _ (IsTurned.same b) e root is i = i
  name_on _ _ (IsTurned.entries removed high es fs l) e root is i = entry_on removed es fs e root l is i
  name_on _ _ (IsTurned.postings high old new) e root is i = absurd i
  name_on _ _ (IsTurned.deleted high) e root is i = absurd i
  name_on _ _ (IsTurned.parent front next back page bound g) e root is i = absurd i
  name_on _ _ (IsTurned.heap slots new) e root is i = absurd i
  name_on _ _ (IsTurned.part bytes) e root is i = absurd i
  name_on _ _ (IsTurned.rows rs) e root is i = absurd i

  name_back : (b c : Body) → IsTurned P Q b c → (e : Entry) (root : ℕ) → e.postings ≡ Root root → In e (entries_in c)
      → In e (entries_in b)
  name_back _ _ (IsTurned.same b) e root is i = i
  name_back _ _ (IsTurned.entries removed high es fs l) e root is i = entry_back removed es fs e root l is i
  name_back _ _ (IsTurned.postings high old new) e root is i = absurd i
  name_back _ _ (IsTurned.deleted high) e root is i = absurd i
  name_back _ _ (IsTurned.parent front next back page bound g) e root is i = absurd i
  name_back _ _ (IsTurned.heap slots new) e root is i = absurd i
  name_back _ _ (IsTurned.part bytes) e root is i = absurd i
  name_back _ _ (IsTurned.rows rs) e root is i = absurd i

  -- an inner page of the entry tree is the same before and after
  inner_on : (b c : Body) → IsTurned P Q b c → (cs : List EntryChild) → b ≡ body.EntryInner cs
      → c ≡ body.EntryInner cs
  inner_on _ _ (IsTurned.same b) cs e = e
  inner_on _ _ (IsTurned.entries removed high es fs l) cs e = absurd cc
  inner_on _ _ (IsTurned.postings high old new) cs e = absurd cc
  inner_on _ _ (IsTurned.deleted high) cs e = absurd cc
  inner_on _ _ (IsTurned.parent front next back page bound g) cs e = absurd cc
  inner_on _ _ (IsTurned.heap slots new) cs e = absurd cc
  inner_on _ _ (IsTurned.part bytes) cs e = absurd cc
  inner_on _ _ (IsTurned.rows rs) cs e = absurd cc

  inner_back : (b c : Body) → IsTurned P Q b c → (cs : List EntryChild) → c ≡ body.EntryInner cs
      → b ≡ body.EntryInner cs
  inner_back _ _ (IsTurned.same b) cs e = e
  inner_back _ _ (IsTurned.entries removed high es fs l) cs e = absurd cc
  inner_back _ _ (IsTurned.postings high old new) cs e = absurd cc
  inner_back _ _ (IsTurned.deleted high) cs e = absurd cc
  inner_back _ _ (IsTurned.parent front next back page bound g) cs e = absurd cc
  inner_back _ _ (IsTurned.heap slots new) cs e = absurd cc
  inner_back _ _ (IsTurned.part bytes) cs e = absurd cc
  inner_back _ _ (IsTurned.rows rs) cs e = absurd cc

-- ---- lists with a place cut out

same_head : (x y : PostChild) (xs ys : List PostChild) → x ∷ xs ≡ y ∷ ys → x ≡ y
same_head x y xs ys e = cc

same_tail : (x y : PostChild) (xs ys : List PostChild) → x ∷ xs ≡ y ∷ ys → xs ≡ ys
same_tail x y xs ys e = cc

-- where two places of one list are to each other
data Places (front : List PostChild) (x : PostChild) (back front' : List PostChild) (y : PostChild)
    (back' : List PostChild) : Type 0 where
  one : y ≡ x → Places front x back front' y back'
  before : (mid : List PostChild) → front ≡ front' ++ y ∷ mid → Places front x back front' y back'
  behind : (mid : List PostChild) → front' ≡ front ++ x ∷ mid → back ≡ mid ++ y ∷ back'
      → Places front x back front' y back'

places : (front : List PostChild) (x : PostChild) (back front' : List PostChild) (y : PostChild)
    (back' : List PostChild) → front ++ x ∷ back ≡ front' ++ y ∷ back' → Places front x back front' y back'
places [] x back [] y back' e = Places.one (sym (same_head x y back back' e))
places [] x back (z ∷ front') y back' e =
    Places.behind front' (ap (λ (c : PostChild). c ∷ front') (sym (same_head x z back (front' ++ y ∷ back') e)))
    (same_tail x z back (front' ++ y ∷ back') e)
places (z ∷ front) x back [] y back' e =
    Places.before front (ap (λ (c : PostChild). c ∷ front) (same_head z y (front ++ x ∷ back) back' e))
places (z ∷ front) x back (w ∷ front') y back' e =
    let first = same_head z w (front ++ x ∷ back) (front' ++ y ∷ back') e in
    elim (places front x back front' y back' (same_tail z w (front ++ x ∷ back) (front' ++ y ∷ back') e)) [
      | Places.one s ↦ Places.one s
      | Places.before mid s ↦ Places.before mid
          (ap (λ (c : PostChild). c ∷ front) first ∙ ap (λ (cs : List PostChild). w ∷ cs) s)
      | Places.behind mid s t ↦ Places.behind mid
          (ap (λ (c : PostChild). c ∷ front') (sym first) ∙ ap (λ (cs : List PostChild). z ∷ cs) s) t
    ]

-- the list without x, with y at its place
without_at : (front : List PostChild) (x : PostChild) (back mid front' : List PostChild) (y : PostChild)
    → front ≡ front' ++ y ∷ mid → front ++ back ≡ front' ++ y ∷ (mid ++ back)
without_at front x back mid front' y s =
    ap (λ (cs : List PostChild). cs ++ back) s ∙ append_assoc front' (y ∷ mid) back

-- ---- ways

-- from a deleted page no way leads on
from_gone : (Q : Pages) (i p q : ℕ) → IsGoneLeaf Q p → TowardItem Q i p q → IsGoneLeaf Q q
from_gone Q i p q g TowardItem.here = g
from_gone Q i p q g (TowardItem.down front back c is low high rest) =
    let f : body.Deleted (gone.PostLeaf g.0 []) ≡ body.PostInner (front ++ c ∷ back) = sym g.1 ∙ is in absurd cc

module _ (P Q : Pages) (turn : (p : ℕ) → IsTurned P Q (P p).body (Q p).body) where
  pub named_on : (k : Key) (root : ℕ) → IsNamed P k root → IsNamed Q k root
  named_on k root n = record {
    page = n.page;
    entry = n.entry;
    on = name_on P Q (P n.page).body (Q n.page).body (turn n.page) n.entry root n.names n.on;
    key = n.key;
    names = n.names;
  }

  pub named_back : (k : Key) (root : ℕ) → IsNamed Q k root → IsNamed P k root
  named_back k root n = record {
    page = n.page;
    entry = n.entry;
    on = name_back P Q (P n.page).body (Q n.page).body (turn n.page) n.entry root n.names n.on;
    key = n.key;
    names = n.names;
  }

  pub way_on : (k : Key) (p q : ℕ) → Toward P k p q → Toward Q k p q
  way_on k p q Toward.here = Toward.here
  way_on k p q (Toward.down front back c is low high rest) =
      Toward.down front back c (inner_on P Q (P p).body (Q p).body (turn p) (front ++ c ∷ back) is) low high
      (way_on k c.page q rest)

  pub way_back : (k : Key) (p q : ℕ) → Toward Q k p q → Toward P k p q
  way_back k p q Toward.here = Toward.here
  way_back k p q (Toward.down front back c is low high rest) =
      Toward.down front back c (inner_back P Q (P p).body (Q p).body (turn p) (front ++ c ∷ back) is) low high
      (way_back k c.page q rest)

  -- one step down a posting tree
  module _ (i p q : ℕ) (front back : List PostChild) (c : PostChild)
      (low : (b : PostChild) → In b front → b.bound < i) (high : i ≤ c.bound) (on : TowardItem Q i c.page q) where
    step_from : (d e : Body) → IsTurned P Q d e → d ≡ body.PostInner (front ++ c ∷ back) → (Q p).body ≡ e
        → TowardItem Q i p q ⊎ IsGoneLeaf Q q
    step_from _ _ (IsTurned.same d) is now = inl (TowardItem.down front back c (now ∙ is) low high on)
    step_from _ _ (IsTurned.parent ahead next after page bound g) is now = go
        (places ahead (record { page = page; bound = bound }) (next ∷ after) front c back cc)
      where
        x : PostChild
        x = record { page = page; bound = bound }

        go : Places ahead x (next ∷ after) front c back → TowardItem Q i p q ⊎ IsGoneLeaf Q q
        go (Places.one s) =
            inr (from_gone Q i c.page q (subst (IsGoneLeaf Q) (sym (ap (λ (y : PostChild). y.page) s)) g) on)
        go (Places.before mid s) = inl (TowardItem.down front (mid ++ next ∷ after) c
            (now ∙ ap body.PostInner (without_at ahead x (next ∷ after) mid front c s)) low high on)
        go (Places.behind mid s t) = inl (TowardItem.down (ahead ++ mid) back c
            (now ∙ ap (λ (cs : List PostChild). body.PostInner (ahead ++ cs)) t
            ∙ ap body.PostInner (sym (append_assoc ahead mid (c ∷ back))))
            (λ b on_front. low b (subst (In b) (sym s) (elim (in_either b ahead mid on_front) [
              | inl j ↦ in_front b ahead (x ∷ mid) j
              | inr j ↦ in_back b ahead (x ∷ mid) (inr j)
            ])))
            high on)
    step_from _ _ (IsTurned.entries removed high' es fs l) is now = absurd cc
    step_from _ _ (IsTurned.postings high' old new) is now = absurd cc
    step_from _ _ (IsTurned.deleted high') is now = absurd cc
    step_from _ _ (IsTurned.heap slots new) is now = absurd cc
    step_from _ _ (IsTurned.part bytes) is now = absurd cc
    step_from _ _ (IsTurned.rows rs) is now = absurd cc

  pub item_way_on : (i p q : ℕ) → TowardItem P i p q → TowardItem Q i p q ⊎ IsGoneLeaf Q q
  item_way_on i p q TowardItem.here = inl TowardItem.here
  item_way_on i p q (TowardItem.down front back c is low high rest) = elim (item_way_on i c.page q rest) [
    | inl on ↦ step_from i p q front back c low high on (P p).body (Q p).body (turn p) is refl
    | inr gone_leaf ↦ inr gone_leaf
  ]
