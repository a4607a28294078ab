-- Every step of a tree keeps it sane; no page leaves its tree but to be left there deleted, its low bound only falls,
-- and each item stays that is not removed.
use Rattle.std.proofs.Common.{◌≡◌, ◌≢◌, ℕ, suc, List, [], refl, sym, ap, subst, subst₂, ap₂, ◌∙◌, inl, inr}
use Rattle.std.specs.Prelude.{⊤}
use Rattle.core_state.specs.Log.{In}
use Rattle.core_state.specs.Trees.Nodes.{Order, Node, TreePlace, TreeGhost, put, AtMost, Sane, IsSplitLeaf}
use Rattle.core_state.specs.Trees.Nodes.{IsDeleteLeaf, split_ghost, delete_ghost}
use Rattle.core_state.specs.Trees.Nodes.Node.{leaf}
use Rattle.core_state.specs.Trees.Nodes.TreePlace.{none, tree, left}
use Rattle.core_state.specs.Inner.Shapes.{IsSplitInner, IsNewTree, IsNewKeys}
use Rattle.core_state.proofs.PageLists.{same_or_not}
use Rattle.core_state.proofs.Trees.Order.{put_here, put_else, tree_not_none, tree_not_left, left_not_none, same_tree}
use Rattle.core_state.proofs.Trees.Order.{zero_suc, same_leaf}
use Rattle.core_state.proofs.Trees.Split.{split_leaf_keeps, split_inner_keeps}
use Rattle.core_state.proofs.Trees.Grow.{IsGrow, grow_ghost, grow_keeps}
use Rattle.core_state.proofs.Trees.Delete.{delete_keeps, low_next_page}
use Rattle.core_state.proofs.Trees.Walk.{keys_of, IsIn}
use Rattle.core_state.proofs.Trees.Lists.{quiet_keeps, new_keys_keep, make_ghost, make_keeps}

module _ {E : Type 0} (o : Order E) (bottom top : E) (N M : ℕ → Node E) (g : TreeGhost E) where
  -- the steps of an entry tree, and those of a posting tree but the deletion
  pub data Grows (g' : TreeGhost E) : Type 0 where
    quiet : ((p : ℕ) → g.place p ≢ none → M p ≡ N p) → g' ≡ g → Grows g'
    new_keys : (p r : ℕ) → IsNewKeys N M g top o p r → g' ≡ g → Grows g'
    make : (n : ℕ) → IsNewTree N M g bottom top o n → g' ≡ make_ghost g bottom top n → Grows g'
    split_leaf : (p n q r : ℕ) (m : E) → IsSplitLeaf o top N M g p n q r m → g' ≡ split_ghost o top g p n r 0 m
        → Grows g'
    split_inner : (p n q r k : ℕ) (V : IsSplitInner N M g p n q r k)
        → g' ≡ split_ghost o top g p n r (suc k) V.last.bound → Grows g'
    grow : (r n H : ℕ) → IsGrow N M g bottom top r n H → g' ≡ grow_ghost g bottom top r n H → Grows g'

  pub data Step (g' : TreeGhost E) : Type 0 where
    grows : Grows g' → Step g'
    delete : (d q r : ℕ) (V : IsDeleteLeaf o top N M g d q r) → g' ≡ delete_ghost o top g d V.next.page r → Step g'

  -- the step does not remove the item
  abbrev pub KeepsIn : (g' : TreeGhost E) → E → Grows g' → Type 0
  KeepsIn g' i (new_keys p r V e) = In i V.keys → In i V.then
  KeepsIn g' i _ = ⊤

  abbrev pub Keeps : (g' : TreeGhost E) → E → Step g' → Type 0
  Keeps g' i (grows s) = KeepsIn g' i s
  Keeps g' i _ = ⊤

-- an item of the tree r
abbrev pub OnTree : {E : Type 0} → (ℕ → Node E) → TreeGhost E → ℕ → E → Type 0
OnTree N g r i = (q : ℕ) × (g.place q ≡ tree r 0) × In i (keys_of (N q))

module _ {E : Type 0} (o : Order E) (bottom top : E) (least : (x : E) → AtMost o top x top) (wide : o.less bottom top)
    (N M : ℕ → Node E) (g : TreeGhost E) (S : Sane o top N g) (nil : g.place 0 ≡ none) where
  sane_split_leaf : (p n q r : ℕ) (m : E) → IsSplitLeaf o top N M g p n q r m
      → Sane o top M (split_ghost o top g p n r 0 m)
  sane_split_leaf p n q r m V = split_leaf_keeps o top N M g S p n q r m V

  sane_split_inner : (p n q r k : ℕ) (V : IsSplitInner N M g p n q r k)
      → Sane o top M (split_ghost o top g p n r (suc k) V.last.bound)
  sane_split_inner p n q r k V = split_inner_keeps o top N M g S p n q r k V

  sane_grow : (r n H : ℕ) → IsGrow N M g bottom top r n H → Sane o top M (grow_ghost g bottom top r n H)
  sane_grow r n H V = grow_keeps o bottom top N M g S r n H V

  sane_delete : (d q r : ℕ) (V : IsDeleteLeaf o top N M g d q r) → Sane o top M (delete_ghost o top g d V.next.page r)
  sane_delete d q r V = delete_keeps o top least N M g S d q r V nil

  grows_keeps : (g' : TreeGhost E) → Grows o bottom top N M g g' → Sane o top M g'
  grows_keeps g' (Grows.quiet same e) =
      subst (λ (G : TreeGhost E). Sane o top M G) (sym e) (quiet_keeps o top N M g S same)
  grows_keeps g' (Grows.new_keys p r V e) =
      subst (λ (G : TreeGhost E). Sane o top M G) (sym e) (new_keys_keep o top N M g S p r V)
  grows_keeps g' (Grows.make n V e) =
      subst (λ (G : TreeGhost E). Sane o top M G) (sym e) (make_keeps o bottom top wide N M g S n V)
  grows_keeps g' (Grows.split_leaf p n q r m V e) =
      subst (λ (G : TreeGhost E). Sane o top M G) (sym e) (sane_split_leaf p n q r m V)
  grows_keeps g' (Grows.split_inner p n q r k V e) =
      subst (λ (G : TreeGhost E). Sane o top M G) (sym e) (sane_split_inner p n q r k V)
  grows_keeps g' (Grows.grow r n H V e) = subst (λ (G : TreeGhost E). Sane o top M G) (sym e) (sane_grow r n H V)

  pub step_keeps : (g' : TreeGhost E) → Step o bottom top N M g g' → Sane o top M g'
  step_keeps g' (Step.grows s) = grows_keeps g' s
  step_keeps g' (Step.delete d q r V e) = subst (λ (G : TreeGhost E). Sane o top M G) (sym e) (sane_delete d q r V)

  not_new : (n p r h : ℕ) → g.place n ≡ none → g.place p ≡ tree r h → p ≢ n
  not_new n p r h new at e = tree_not_none r h (sym at ∙ ap g.place e ∙ new)

  not_new_left : (n p r : ℕ) → g.place n ≡ none → g.place p ≡ left r → p ≢ n
  not_new_left n p r new at e = left_not_none r (sym at ∙ ap g.place e ∙ new)

  -- what a walk knows of a page of a tree that only grows: its tree and its low bound
  abbrev pub Live : TreeGhost E → ℕ → ℕ → Type 0
  Live g' r p = ((h : ℕ) × (g'.place p ≡ tree r h)) × (g'.low p ≡ g.low p)

  live_new : (n p r h : ℕ) (x : TreePlace) (l : E) → g.place n ≡ none → g.place p ≡ tree r h
      → ((put g.place n x) p ≡ tree r h) × ((put g.low n l) p ≡ g.low p)
  live_new n p r h x l new at = let w = not_new n p r h new at in
      (put_else g.place n x p w ∙ at, put_else g.low n l p w)

  live_grow : (s n H p r h : ℕ) (V : IsGrow N M g bottom top s n H) → g.place p ≡ tree r h
      → Live (grow_ghost g bottom top s n H) r p
  live_grow s n H p r h V at = elim (same_or_not s p) [
    | inl w ↦
        let same = same_tree s r H h (sym V.at ∙ ap g.place (sym w) ∙ at) in (
          (
            suc H,
            ap (put (put g.place n (tree s H)) s (tree s (suc H))) w
                ∙ put_here (put g.place n (tree s H)) s (tree s (suc H)) ∙ ap (λ (z : ℕ). tree z (suc H)) same.0,
          ),
          put_else g.low n bottom p (not_new n p r h V.new at),
        )
    | inr w ↦
        let u = not_new n p r h V.new at in (
          (h, put_else (put g.place n (tree s H)) s (tree s (suc H)) p w ∙ put_else g.place n (tree s H) p u ∙ at),
          put_else g.low n bottom p u,
        )
  ]

  pub grows_live : (g' : TreeGhost E) → Grows o bottom top N M g g' → (p r h : ℕ) → g.place p ≡ tree r h → Live g' r p
  grows_live g' (Grows.quiet same e) p r h at = subst (λ (G : TreeGhost E). Live G r p) (sym e) ((h, at), refl)
  grows_live g' (Grows.new_keys s t V e) p r h at = subst (λ (G : TreeGhost E). Live G r p) (sym e) ((h, at), refl)
  grows_live g' (Grows.make n V e) p r h at =
      subst (λ (G : TreeGhost E). Live G r p) (sym e) (let l = live_new n p r h (tree n 0) bottom V.new at in
      ((h, l.0), l.1))
  grows_live g' (Grows.split_leaf s n q t m V e) p r h at =
      subst (λ (G : TreeGhost E). Live G r p) (sym e)
      (let l = live_new n p r h (tree t 0) m V.new at in ((h, l.0), l.1))
  grows_live g' (Grows.split_inner s n q t k V e) p r h at =
      subst (λ (G : TreeGhost E). Live G r p) (sym e)
      (let l = live_new n p r h (tree t (suc k)) V.last.bound V.new at in
      ((h, l.0), l.1))
  grows_live g' (Grows.grow s n H V e) p r h at =
      subst (λ (G : TreeGhost E). Live G r p) (sym e) (live_grow s n H p r h V at)

  -- only a root changes its height, and a root has the least low bound
  pub grows_level : (g' : TreeGhost E) → Grows o bottom top N M g g' → (p r h : ℕ) → g.place p ≡ tree r h
      → o.less bottom (g.low p) → (g'.place p ≡ tree r h) × (g'.low p ≡ g.low p)
  grows_level g' (Grows.quiet same e) p r h at l =
      subst (λ (G : TreeGhost E). (G.place p ≡ tree r h) × (G.low p ≡ g.low p)) (sym e) (at, refl)
  grows_level g' (Grows.new_keys s t V e) p r h at l =
      subst (λ (G : TreeGhost E). (G.place p ≡ tree r h) × (G.low p ≡ g.low p)) (sym e) (at, refl)
  grows_level g' (Grows.make n V e) p r h at l =
      subst (λ (G : TreeGhost E). (G.place p ≡ tree r h) × (G.low p ≡ g.low p)) (sym e)
      (live_new n p r h (tree n 0) bottom V.new at)
  grows_level g' (Grows.split_leaf s n q t m V e) p r h at l =
      subst (λ (G : TreeGhost E). (G.place p ≡ tree r h) × (G.low p ≡ g.low p)) (sym e)
      (live_new n p r h (tree t 0) m V.new at)
  grows_level g' (Grows.split_inner s n q t k V e) p r h at l =
      subst (λ (G : TreeGhost E). (G.place p ≡ tree r h) × (G.low p ≡ g.low p)) (sym e)
      (live_new n p r h (tree t (suc k)) V.last.bound V.new at)
  grows_level g' (Grows.grow s n H V e) p r h at l =
      subst (λ (G : TreeGhost E). (G.place p ≡ tree r h) × (G.low p ≡ g.low p)) (sym e)
      (let w : p ≢ s = λ z. o.irrefl bottom (subst (λ (y : E). o.less bottom y) (ap g.low z ∙ V.low_root) l) in
      let u = not_new n p r h V.new at in (
        put_else (put g.place n (tree s H)) s (tree s (suc H)) p w ∙ put_else g.place n (tree s H) p u
            ∙ at,
        put_else g.low n bottom p u,
      ))

  -- and of one that was deleted
  abbrev pub Gone : TreeGhost E → ℕ → ℕ → Type 0
  Gone g' r p = (g'.place p ≡ left r) × (g'.low p ≡ g.low p)

  gone_new : (n p r : ℕ) (x : TreePlace) (l : E) → g.place n ≡ none → g.place p ≡ left r
      → ((put g.place n x) p ≡ left r)
      × ((put g.low n l) p ≡ g.low p)
  gone_new n p r x l new at = let w = not_new_left n p r new at in
      (put_else g.place n x p w ∙ at, put_else g.low n l p w)

  gone_grow : (s n H p r : ℕ) (V : IsGrow N M g bottom top s n H) → g.place p ≡ left r
      → Gone (grow_ghost g bottom top s n H) r p
  gone_grow s n H p r V at =
      let w : p ≢ s = λ z. tree_not_left s H r (sym V.at ∙ ap g.place (sym z) ∙ at) in
      let u = not_new_left n p r V.new at in (
        put_else (put g.place n (tree s H)) s (tree s (suc H)) p w ∙ put_else g.place n (tree s H) p u
            ∙ at,
        put_else g.low n bottom p u,
      )

  pub grows_gone : (g' : TreeGhost E) → Grows o bottom top N M g g' → (p r : ℕ) → g.place p ≡ left r → Gone g' r p
  grows_gone g' (Grows.quiet same e) p r at = subst (λ (G : TreeGhost E). Gone G r p) (sym e) (at, refl)
  grows_gone g' (Grows.new_keys s t V e) p r at = subst (λ (G : TreeGhost E). Gone G r p) (sym e) (at, refl)
  grows_gone g' (Grows.make n V e) p r at =
      subst (λ (G : TreeGhost E). Gone G r p) (sym e) (gone_new n p r (tree n 0) bottom V.new at)
  grows_gone g' (Grows.split_leaf s n q t m V e) p r at =
      subst (λ (G : TreeGhost E). Gone G r p) (sym e) (gone_new n p r (tree t 0) m V.new at)
  grows_gone g' (Grows.split_inner s n q t k V e) p r at =
      subst (λ (G : TreeGhost E). Gone G r p) (sym e) (gone_new n p r (tree t (suc k)) V.last.bound V.new at)
  grows_gone g' (Grows.grow s n H V e) p r at =
      subst (λ (G : TreeGhost E). Gone G r p) (sym e) (gone_grow s n H p r V at)

  abbrev pub Stays : TreeGhost E → ℕ → ℕ → Type 0
  Stays g' r p = IsIn g' r p × AtMost o top (g'.low p) (g.low p)

  stays_delete : (d q s p r : ℕ) (V : IsDeleteLeaf o top N M g d q s) → IsIn g r p
      → Stays (delete_ghost o top g d V.next.page s) r p
  stays_delete d q s p r V at = (
    elim (same_or_not d p) [
      | inl w ↦ inr (ap (put g.place d (left s)) w ∙ put_here g.place d (left s)
          ∙ root (subst (λ (z : ℕ). IsIn g r z) w at))
      | inr w ↦ elim at [
        | inl a ↦ inl (a.0, put_else g.place d (left s) p w ∙ a.1)
        | inr a ↦ inr (put_else g.place d (left s) p w ∙ a)
      ]
    ],
    elim (same_or_not V.next.page p) [
      | inl w ↦
          let low_next : g.low V.next.page ≡ g.high d = low_next_page o top least N M g S d q s V nil in
          inl (subst₂ (λ (a b : E). o.less a b)
          (sym (ap (put g.low V.next.page (g.low d)) w ∙ put_here g.low V.next.page (g.low d)))
          (sym (ap g.low w ∙ low_next)) (S.span d s 0 V.at))
      | inr w ↦ inr (put_else g.low V.next.page (g.low d) p w)
    ],
  )
    where
      root : IsIn g r d → left s ≡ left r
      root (inl a) = ap left (same_tree s r 0 a.0 (sym V.at ∙ a.1)).0
      root (inr a) = absurd (tree_not_left s 0 r (sym V.at ∙ a))

  pub step_stays : (g' : TreeGhost E) → Step o bottom top N M g g' → (p r : ℕ) → IsIn g r p → Stays g' r p
  step_stays g' (Step.grows s) p r (inl a) = let l = grows_live g' s p r a.0 a.1 in (inl l.0, inr l.1)
  step_stays g' (Step.grows s) p r (inr a) = let l = grows_gone g' s p r a in (inr l.0, inr l.1)
  step_stays g' (Step.delete d q s V e) p r at =
      subst (λ (G : TreeGhost E). Stays G r p) (sym e) (stays_delete d q s p r V at)

  -- page 0 stays in no tree
  pub step_nil : (g' : TreeGhost E) → Step o bottom top N M g g' → g'.place 0 ≡ none
  step_nil g' (Step.grows (Grows.quiet same e)) = ap (λ (G : TreeGhost E). G.place 0) e ∙ nil
  step_nil g' (Step.grows (Grows.new_keys s t V e)) = ap (λ (G : TreeGhost E). G.place 0) e ∙ nil
  step_nil g' (Step.grows (Grows.make n V e)) = ap (λ (G : TreeGhost E). G.place 0) e
      ∙ put_else g.place n (tree n 0) 0 (λ z. V.not_zero (sym z)) ∙ nil
  step_nil g' (Step.grows (Grows.split_leaf s n q t m V e)) = ap (λ (G : TreeGhost E). G.place 0) e
      ∙ put_else g.place n (tree t 0) 0 (λ z. V.not_zero (sym z)) ∙ nil
  step_nil g' (Step.grows (Grows.split_inner s n q t k V e)) = ap (λ (G : TreeGhost E). G.place 0) e
      ∙ put_else g.place n (tree t (suc k)) 0 (λ z. V.not_zero (sym z)) ∙ nil
  step_nil g' (Step.grows (Grows.grow s n H V e)) = ap (λ (G : TreeGhost E). G.place 0) e
      ∙ put_else (put g.place n (tree s H)) s (tree s (suc H)) 0
      (λ z. tree_not_none s H (sym V.at ∙ ap g.place (sym z) ∙ nil))
      ∙ put_else g.place n (tree s H) 0 (λ z. V.not_zero (sym z)) ∙ nil
  step_nil g' (Step.delete d q s V e) = ap (λ (G : TreeGhost E). G.place 0) e
      ∙ put_else g.place d (left s) 0 (λ z. tree_not_none s 0 (sym V.at ∙ ap g.place (sym z) ∙ nil)) ∙ nil

  leaf_keys : (p right : ℕ) (high : E) (keys : List E) (i : E) → N p ≡ leaf right high keys → In i (keys_of (N p))
      → In i keys
  leaf_keys p right high keys i e m = subst (λ (z : Node E). In i (keys_of z)) e m

  now_keys : (p right : ℕ) (high : E) (keys : List E) (i : E) → M p ≡ leaf right high keys → In i keys
      → In i (keys_of (M p))
  now_keys p right high keys i e m = subst (λ (z : Node E). In i (keys_of z)) (sym e) m

  kept_keys : (p : ℕ) (i : E) → M p ≡ N p → In i (keys_of (N p)) → In i (keys_of (M p))
  kept_keys p i e m = subst (λ (z : Node E). In i (keys_of z)) (sym e) m

  one_zero : (q p s r : ℕ) → g.place q ≡ tree r 0 → g.place p ≡ tree s 0 → q ≡ p → s ≡ r
  one_zero q p s r a b e = (same_tree s r 0 0 (sym b ∙ ap g.place (sym e) ∙ a)).0

  items_split : (p n q s r : ℕ) (m i : E) (V : IsSplitLeaf o top N M g p n q s m) → OnTree N g r i
      → OnTree M (split_ghost o top g p n s 0 m) r i
  items_split p n q s r m i V (x, at, on) = elim (same_or_not p x) [
    | inl w ↦
        let root = one_zero x p s r at V.at w in
        let old : In i V.keys = leaf_keys p V.right (g.high p) V.keys i V.before
        (subst (λ (z : ℕ). In i (keys_of (N z))) w on) in
        elim (V.kept i old) [
          | inl f ↦ (
            p,
            put_else g.place n (tree s 0) p (not_new n p s 0 V.new V.at) ∙ V.at ∙ ap (λ (z : ℕ). tree z 0) root,
            now_keys p n m V.front i V.after_page f,
          )
          | inr b ↦ (
            n,
            put_here g.place n (tree s 0) ∙ ap (λ (z : ℕ). tree z 0) root,
            now_keys n V.right (g.high p) V.back i V.after_new b,
          )
        ]
    | inr w ↦
        let u = not_new n x r 0 V.new at in
        let v : x ≢ q = λ z. zero_suc r s 0 (sym at ∙ ap g.place z ∙ V.parent) in
        (x, put_else g.place n (tree s 0) x u ∙ at, kept_keys x i (V.else x w u v) on)
  ]

  items_inner : (p n q s k r : ℕ) (i : E) (V : IsSplitInner N M g p n q s k) → OnTree N g r i
      → OnTree M (split_ghost o top g p n s (suc k) V.last.bound) r i
  items_inner p n q s k r i V (x, at, on) =
      let u = not_new n x r 0 V.new at in
      let w : x ≢ p = λ z. zero_suc r s k (sym at ∙ ap g.place z ∙ V.at) in
      let v : x ≢ q = λ z. zero_suc r s (suc k) (sym at ∙ ap g.place z ∙ V.parent) in
      (x, put_else g.place n (tree s (suc k)) x u ∙ at, kept_keys x i (V.else x w u v) on)

  items_grow : (s n H r : ℕ) (i : E) (V : IsGrow N M g bottom top s n H) → OnTree N g r i
      → OnTree M (grow_ghost g bottom top s n H) r i
  items_grow s n H r i V (x, at, on) = elim (same_or_not s x) [
    | inl w ↦
        let same = same_tree s r H 0 (sym V.at ∙ ap g.place (sym w) ∙ at) in
        let l = S.leaves x r at in
        let node : N s ≡ leaf l.right (g.high x) l.keys = ap N (sym w) ∙ l.node in
        let ns : n ≢ s = λ z. not_new n s s H V.new V.at (sym z) in (
          n,
          put_else (put g.place n (tree s H)) s (tree s (suc H)) n ns ∙ put_here g.place n (tree s H)
              ∙ ap₂ tree same.0 same.1,
          now_keys n 0 (g.high x) l.keys i (V.new_leaf l.right (g.high x) l.keys node)
              (leaf_keys x l.right (g.high x) l.keys i l.node on),
        )
    | inr w ↦
        let u = not_new n x r 0 V.new at in (
          x,
          put_else (put g.place n (tree s H)) s (tree s (suc H)) x w ∙ put_else g.place n (tree s H) x u
              ∙ at,
          kept_keys x i (V.else x w u) on,
        )
  ]

  items_delete : (d q s r : ℕ) (i : E) (V : IsDeleteLeaf o top N M g d q s) → OnTree N g r i
      → OnTree M (delete_ghost o top g d V.next.page s) r i
  items_delete d q s r i V (x, at, on) =
      let w : x ≢ d = λ z. leaf_keys d V.right (g.high d) [] i V.before
      (subst (λ (y : ℕ). In i (keys_of (N y))) z on) in
      let v : x ≢ q = λ z. zero_suc r s 0 (sym at ∙ ap g.place z ∙ V.parent) in
      let l = S.leaves x r at in (
        x,
        put_else g.place d (left s) x w ∙ at,
        elim (same_or_not d l.right) [
          | inl e ↦
              let node : N x ≡ leaf d (g.high x) l.keys = l.node ∙ ap (λ (z : ℕ). leaf z (g.high x) l.keys) e in
              let root : r ≡ s = elim l.right_ok [
                | inl z ↦ absurd (tree_not_none s 0 (sym V.at ∙ ap g.place (sym e ∙ z.0) ∙ nil))
                | inr z ↦ (same_tree r s 0 0 (sym z.1 ∙ ap g.place e ∙ V.at)).0
              ] in
              now_keys x V.right (g.high x) l.keys i
              (V.left_leaf x l.keys (g.high x) (at ∙ ap (λ (z : ℕ). tree z 0) root) node)
              (leaf_keys x d (g.high x) l.keys i node on)
          | inr e ↦ kept_keys x i (V.else x w v (λ hi ks t. e ((same_leaf _ _ _ _ _ _ (sym l.node ∙ t)).0))) on
        ],
      )

  items_grows : (g' : TreeGhost E) (s : Grows o bottom top N M g g') (r : ℕ) (i : E) → KeepsIn o bottom top N M g g' i s
      → OnTree N g r i → OnTree M g' r i
  items_grows g' (Grows.quiet same e) r i k (x, at, on) =
      subst (λ (G : TreeGhost E). OnTree M G r i) (sym e)
      (x, at, kept_keys x i (same x (λ z. tree_not_none r 0 (sym at ∙ z))) on)
  items_grows g' (Grows.new_keys p s V e) r i k (x, at, on) =
      subst (λ (G : TreeGhost E). OnTree M G r i) (sym e) (elim (same_or_not p x) [
        | inl w ↦ (
          p,
          ap g.place (sym w)
              ∙ at,
          now_keys p V.right (g.high p) V.then i V.after
              (k (leaf_keys p V.right (g.high p) V.keys i V.before (subst (λ (z : ℕ). In i (keys_of (N z))) w on))),
        )
        | inr w ↦ (x, at, kept_keys x i (V.else x w) on)
      ])
  items_grows g' (Grows.make n V e) r i k (x, at, on) =
      subst (λ (G : TreeGhost E). OnTree M G r i) (sym e) (let u = not_new n x r 0 V.new at in
      (x, put_else g.place n (tree n 0) x u ∙ at, kept_keys x i (V.else x u) on))
  items_grows g' (Grows.split_leaf p n q s m V e) r i k on =
      subst (λ (G : TreeGhost E). OnTree M G r i) (sym e) (items_split p n q s r m i V on)
  items_grows g' (Grows.split_inner p n q s h V e) r i k on =
      subst (λ (G : TreeGhost E). OnTree M G r i) (sym e) (items_inner p n q s h r i V on)
  items_grows g' (Grows.grow s n H V e) r i k on =
      subst (λ (G : TreeGhost E). OnTree M G r i) (sym e) (items_grow s n H r i V on)

  -- an item leaves its tree only where a step removes it
  pub step_items : (g' : TreeGhost E) (s : Step o bottom top N M g g') (r : ℕ) (i : E) → Keeps o bottom top N M g g' i s
      → OnTree N g r i → OnTree M g' r i
  step_items g' (Step.grows s) r i k on = items_grows g' s r i k on
  step_items g' (Step.delete d q s V e) r i k on =
      subst (λ (G : TreeGhost E). OnTree M G r i) (sym e) (items_delete d q s r i V on)
