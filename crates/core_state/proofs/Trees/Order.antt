-- Orders with a greatest element, places, and changes of a ghost at one page.
use Rattle.std.proofs.Common.{◌≡◌, ◌≢◌, ℕ, suc, List, sym, subst, inl, inr, arith}
use Rattle.core_state.specs.Trees.Nodes.{Order, Child, put, AtMost}
use Rattle.core_state.specs.Trees.Nodes.Node.{leaf, inner, gone}
use Rattle.core_state.specs.Trees.Nodes.TreePlace.{none, tree, left}

pub put_here : {A : Type 0} (f : ℕ → A) (p : ℕ) (x : A) → put f p x p ≡ x
put_here f p x = grind arith

pub put_else : {A : Type 0} (f : ℕ → A) (p : ℕ) (x : A) (q : ℕ) → q ≢ p → put f p x q ≡ f q
put_else f p x q h = grind arith

pub tree_not_none : (r h : ℕ) → tree r h ≡ none → ⊥
tree_not_none r h e = cc

pub tree_not_left : (r h s : ℕ) → tree r h ≡ left s → ⊥
tree_not_left r h s e = cc

pub left_not_none : (s : ℕ) → left s ≡ none → ⊥
left_not_none s e = cc

pub same_tree : (a b h i : ℕ) → tree a h ≡ tree b i → (a ≡ b) × (h ≡ i)
same_tree a b h i t = (cc, cc)

pub same_left : (a b : ℕ) → left a ≡ left b → a ≡ b
same_left a b e = cc

-- a leaf of a tree is no inner page, and no page is one above itself
pub zero_suc : (a b h : ℕ) → tree a 0 ≡ tree b (suc h) → ⊥
zero_suc a b h t = let e = (same_tree a b 0 (suc h) t).1 in absurd (omega arith)

pub same_suc : (a b h : ℕ) → tree a h ≡ tree b (suc h) → ⊥
same_suc a b h t = let e = (same_tree a b h (suc h) t).1 in absurd (omega arith)

pub same_leaf : {E : Type 0} (a b : ℕ) (ha hb : E) (ka kb : List E) → leaf a ha ka ≡ leaf b hb kb → (a ≡ b) × (ha ≡ hb)
    × (ka ≡ kb)
same_leaf a b ha hb ka kb e = (cc, cc, cc)

pub same_inner : {E : Type 0} (a b : ℕ) (ca cb : List (Child E)) → inner a ca ≡ inner b cb → (a ≡ b) × (ca ≡ cb)
same_inner a b ca cb e = (cc, cc)

pub inner_not_leaf : {E : Type 0} (a b : ℕ) (cs : List (Child E)) (high : E) (keys : List E)
    → inner a cs ≡ leaf b high keys → ⊥
inner_not_leaf a b cs high keys e = cc

pub gone_not_leaf : {E : Type 0} (a b : ℕ) (high : E) (keys : List E) → gone a ≡ leaf b high keys → ⊥
gone_not_leaf a b high keys e = cc

module _ {E : Type 0} (o : Order E) (top : E) where
  pub less_at_most : (a b c : E) → o.less a b → AtMost o top b c → o.less a c
  less_at_most a b c l (inl m) = o.trans a b c l m
  less_at_most a b c l (inr e) = subst (λ (x : E). o.less a x) e l

  pub at_most_less : (a b c : E) → AtMost o top a b → o.less b c → o.less a c
  at_most_less a b c (inl m) l = o.trans a b c m l
  at_most_less a b c (inr e) l = subst (λ (x : E). o.less x c) (sym e) l

  pub at_most_trans : (a b c : E) → AtMost o top a b → AtMost o top b c → AtMost o top a c
  at_most_trans a b c (inl m) l = inl (less_at_most a b c m l)
  at_most_trans a b c (inr e) l = subst (λ (x : E). AtMost o top x c) (sym e) l
