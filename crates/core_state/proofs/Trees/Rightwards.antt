-- Along right links each leaf, also one that was deleted, leads to the leaf that covers a key after it.
use Rattle.std.proofs.Common.{◌≡◌, ◌≢◌, ◌⊎◌, ◌<◌, ◌≤◌, ℕ, zero, suc, sym, ap, subst, ◌∙◌, inl, inr, arith}
use Rattle.core_state.specs.Trees.Nodes.{Order, Node, TreeGhost, AtMost, Sane}
use Rattle.core_state.specs.Trees.Nodes.TreePlace.{none, tree, left}
use Rattle.core_state.proofs.Trees.Order.{tree_not_none, left_not_none, at_most_less}
use Rattle.core_state.proofs.Trees.Find.{right_in, right_here, one_cover}

-- page q is p, or comes after it along right links
pub data Along {E : Type 0} (N : ℕ → Node E) (p : ℕ) : ℕ → Type 0 where
  here : Along N p p
  next : {q : ℕ} → Along N p q → right_in (N q) ≢ 0 → Along N p (right_in (N q))

along_from : {E : Type 0} (N : ℕ → Node E) (p q : ℕ) → right_in (N p) ≢ 0 → Along N (right_in (N p)) q → Along N p q
along_from N p q n Along.here = Along.next Along.here n
along_from N p q n (Along.next {q = x} a m) = Along.next (along_from N p x n a) m

-- a number for each page that falls along right links of pages of trees
abbrev pub Falls : {E : Type 0} → (ℕ → Node E) → TreeGhost E → (ℕ → ℕ) → Type 0
Falls N g m = (p : ℕ) → g.place p ≢ none → right_in (N p) ≢ 0 → m (right_in (N p)) < m p

-- a leaf of the tree r, live or deleted, that begins below a key
pub record BeginsBelow {E : Type 0} (o : Order E) (g : TreeGhost E) (r : ℕ) (k : E) (p : ℕ) : Type 0 where
  pub leaf : (g.place p ≡ tree r 0) ⊎ (g.place p ≡ left r)
  pub low : o.less (g.low p) k

module _ {E : Type 0} (o : Order E) (top : E) (least : (x : E) → AtMost o top x top) (N : ℕ → Node E) (g : TreeGhost E)
    (S : Sane o top N g) (m : ℕ → ℕ) (falls : Falls N g m)
    (q r : ℕ) (k : E) (at_q : g.place q ≡ tree r 0) (low_q : o.less (g.low q) k)
    (high_q : AtMost o top k (g.high q)) where
  -- a leaf covers the key, or the next one begins below it too
  step : (p : ℕ) → BeginsBelow o g r k p → (p ≡ q) ⊎ ((right_in (N p) ≢ 0) × BeginsBelow o g r k (right_in (N p)))
  step p b = elim b.leaf [
    | inl e ↦ elim (o.total k (g.high p)) [
      | inl l ↦ inl (one_cover o top N g S p q r 0 k e at_q b.low (inl l) low_q high_q)
      | inr (inl s) ↦ inl (one_cover o top N g S p q r 0 k e at_q b.low (inr s) low_q high_q)
      | inr (inr l) ↦ elim (right_here o top N g S p r 0 e) [
        | inl z ↦ absurd (o.irrefl k (at_most_less o top k top k (least k) (subst (λ (x : E). o.less x k) z.1 l)))
        | inr z ↦ inr (z.0, record { leaf = inl z.1; low = subst (λ (x : E). o.less x k) (sym z.2) l })
      ]
    ]
    | inr e ↦
        let ok = S.lefts p r e in
        let right : ok.right ≡ right_in (N p) = sym (ap right_in ok.node) in
        inr (
          (λ z. ok.there (right ∙ z)),
          subst (λ (x : ℕ). BeginsBelow o g r k x) right
              (record { leaf = ok.leads; low = at_most_less o top _ _ k ok.lower b.low }),
        )
  ]

  in_tree : (p : ℕ) → BeginsBelow o g r k p → g.place p ≢ none
  in_tree p b z = elim b.leaf [ inl e ↦ tree_not_none r 0 (sym e ∙ z) | inr e ↦ left_not_none r (sym e ∙ z) ]

  leads_within : (d p : ℕ) → m p ≤ d → BeginsBelow o g r k p → Along N p q
  leads_within zero p l b = elim (step p b) [
    | inl e ↦ subst (λ (x : ℕ). Along N p x) e Along.here
    | inr n ↦ let f = falls p (in_tree p b) n.0 in absurd (omega (arith, f, l))
  ]
  leads_within (suc d) p l b = elim (step p b) [
    | inl e ↦ subst (λ (x : ℕ). Along N p x) e Along.here
    | inr n ↦ let f = falls p (in_tree p b) n.0 in
        along_from N p q n.0 (leads_within d (right_in (N p)) (omega (arith, f, l)) n.1)
  ]

  pub leads : (p : ℕ) → BeginsBelow o g r k p → Along N p q
  leads p b = leads_within (m p) p (omega arith) b
