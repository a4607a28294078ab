-- What was deleted is forgotten: the list of the trees' pages without it.
use Rattle.std.proofs.Common.{◌≡◌, ◌≢◌, ℕ, zero, suc, List, [], ◌∷◌, refl, sym, ap, subst, ◌∙◌, inl, inr}
use Rattle.std.specs.Prelude.{⊤}
use Rattle.core_state.specs.Log.{In}
use Rattle.core_state.specs.Trees.Nodes.{Order, Child, Node, TreePlace, TreeGhost, Sane, RightOk, Kids}
use Rattle.core_state.specs.Trees.Nodes.TreePlace.{none, tree, left}
use Rattle.core_state.proofs.Trees.Order.{tree_not_none}
use Rattle.core_state.proofs.Trees.Behind.{Comes, Once}
use Rattle.core_state.proofs.Trees.Forward.{Forward, HasChild, LinksTo}

-- the pages of a list that aren't left ones
abbrev pub keep : TreePlace → ℕ → List ℕ → List ℕ
keep (left r) x xs = xs
keep none x xs = x ∷ xs
keep (tree r h) x xs = x ∷ xs

abbrev pub live_of : (ℕ → TreePlace) → List ℕ → List ℕ
live_of place [] = []
live_of place (x ∷ xs) = keep (place x) x (live_of place xs)

abbrev pub IsLeft : TreePlace → Type 0
IsLeft (left r) = ⊤
IsLeft none = ⊥
IsLeft (tree r h) = ⊥

live_only : (place : ℕ → TreePlace) (L : List ℕ) (p : ℕ) → In p (live_of place L) → In p L × (IsLeft (place p) → ⊥)
live_only place [] p i = absurd i
live_only place (x ∷ xs) p i = by (place x) refl (live_only place xs p) i
  where
    on : {z : TreePlace} → place x ≡ z → (IsLeft z → ⊥) → (In p (live_of place xs) → In p xs × (IsLeft (place p) → ⊥))
        → In p (x ∷ live_of place xs) → In p (x ∷ xs) × (IsLeft (place p) → ⊥)
    on e off more (inl f) = (inl f, λ l. off (subst IsLeft (ap place f ∙ e) l))
    on e off more (inr j) = let r = more j in (inr r.0, r.1)

    by : (z : TreePlace) → place x ≡ z → (In p (live_of place xs) → In p xs × (IsLeft (place p) → ⊥))
        → In p (keep z x (live_of place xs)) → In p (x ∷ xs) × (IsLeft (place p) → ⊥)
    by (left r) e more j = let k = more j in (inr k.0, k.1)
    by none e more j = on e (λ l. l) more j
    by (tree r h) e more j = on e (λ l. l) more j

kept : (z : TreePlace) (x p : ℕ) (xs : List ℕ) → In p xs → In p (keep z x xs)
kept (left r) x p xs i = i
kept none x p xs i = inr i
kept (tree r h) x p xs i = inr i

live_in : (place : ℕ → TreePlace) (L : List ℕ) (p : ℕ) → In p L → (IsLeft (place p) → ⊥) → In p (live_of place L)
live_in place [] p i off = absurd i
live_in place (x ∷ xs) p (inl e) off = by (place x) (λ l. off (subst (λ z. IsLeft (place z)) (sym e) l))
  where
    by : (z : TreePlace) → (IsLeft z → ⊥) → In p (keep z x (live_of place xs))
    by (left r) not = absurd (not tt)
    by none not = inl e
    by (tree r h) not = inl e
live_in place (x ∷ xs) p (inr i) off = kept (place x) x p (live_of place xs) (live_in place xs p i off)

live_once : (place : ℕ → TreePlace) (L : List ℕ) → Once L → Once (live_of place L)
live_once place [] o = tt
live_once place (x ∷ xs) o = by (place x) (live_once place xs o.1)
  where
    by : (z : TreePlace) → Once (live_of place xs) → Once (keep z x (live_of place xs))
    by (left r) more = more
    by none more = (λ i. o.0 (live_only place xs x i).0, more)
    by (tree r h) more = (λ i. o.0 (live_only place xs x i).0, more)

live_comes : (place : ℕ → TreePlace) (L : List ℕ) (p q : ℕ) → Comes L p q → (IsLeft (place p) → ⊥)
    → (IsLeft (place q) → ⊥)
    → Comes (live_of place L) p q
live_comes place [] p q c off off' = absurd c
live_comes place (x ∷ xs) p q (inl (e, i)) off off' = by (place x) (λ l. off (subst (λ z. IsLeft (place z)) e l))
  where
    by : (z : TreePlace) → (IsLeft z → ⊥) → Comes (keep z x (live_of place xs)) p q
    by (left r) not = absurd (not tt)
    by none not = inl (e, live_in place xs q i off')
    by (tree r h) not = inl (e, live_in place xs q i off')
live_comes place (x ∷ xs) p q (inr c) off off' = by (place x) (live_comes place xs p q c off off')
  where
    by : (z : TreePlace) → Comes (live_of place xs) p q → Comes (keep z x (live_of place xs)) p q
    by (left r) more = more
    by none more = inr more
    by (tree r h) more = inr more

-- what was deleted is forgotten: the live pages are in the list that is left
abbrev pub without_left : TreePlace → TreePlace
without_left (left r) = none
without_left none = none
without_left (tree r h) = tree r h

module _ {E : Type 0} (o : Order E) (top : E) (N : ℕ → Node E) (g : TreeGhost E) (L : List ℕ) (F : Forward N g L)
    (S : Sane o top N g)
    (place' : ℕ → TreePlace) (same : (p : ℕ) → place' p ≡ without_left (g.place p)) where
  is_tree : (p r h : ℕ) → g.place p ≡ tree r h → IsLeft (g.place p) → ⊥
  is_tree p r h e l = subst IsLeft e l

  kid_live : (r h : ℕ) (lo hi : E) (cs : List (Child E)) → Kids o top g r h lo cs hi → (q : ℕ) → HasChild cs q
      → IsLeft (g.place q) → ⊥
  kid_live r h lo hi [] k q c l = c
  kid_live r h lo hi (c ∷ cs) k q (inl e) l = is_tree c.page r h k.0 (subst (λ z. IsLeft (g.place z)) e l)
  kid_live r h lo hi (c ∷ cs) k q (inr i) l = kid_live r h c.bound hi cs k.3 q i l

  right_live : (r h p right q : ℕ) → RightOk o top g r h p right → q ≡ right → q ≢ 0 → IsLeft (g.place q) → ⊥
  right_live r h p right q (inl none_behind) e off l = off (e ∙ none_behind.0)
  right_live r h p right q (inr there) e off l = is_tree right r h there.1 (subst (λ z. IsLeft (g.place z)) e l)

  link_live : (p q : ℕ) (z : TreePlace) → g.place p ≡ z → z ≢ none → (IsLeft z → ⊥) → LinksTo (N p) q → q ≢ 0
      → IsLeft (g.place q) → ⊥
  link_live p q none e at off l nz k = at refl
  link_live p q (left r) e at off l nz k = off tt
  link_live p q (tree r zero) e at off l nz k = let ok = S.leaves p r e in
      right_live r 0 p ok.right q ok.right_ok (subst (λ z. LinksTo z q) ok.node l) nz k
  link_live p q (tree r (suc h)) e at off l nz k =
      let ok = S.inners p r h e in
      elim (subst (λ z. LinksTo z q) ok.node l) [
        | inl f ↦ right_live r (suc h) p ok.right q ok.right_ok f nz k
        | inr c ↦ kid_live r h (g.low p) (g.high p) ok.kids ok.kids_ok q c k
      ]

  not_left : (p : ℕ) → place' p ≢ none → (IsLeft (g.place p) → ⊥) × (g.place p ≢ none)
  not_left p at = by (g.place p) (λ e. at (same p ∙ e))
    where
      by : (z : TreePlace) → (without_left z ≡ none → ⊥) → (IsLeft z → ⊥) × (z ≢ none)
      by (left r) off = absurd (off refl)
      by none off = absurd (off refl)
      by (tree r h) off = (λ l. l, λ e. tree_not_none r h e)

  pub forget_forward : (low high : ℕ → E)
      → Forward N (record { place = place'; low = low; high = high }) (live_of g.place L)
  forget_forward low high = record {
    once = live_once g.place L F.once;
    on = λ p at. let n = not_left p at in live_in g.place L p (F.on p n.1) n.0;
    only = λ p i e. let k = live_only g.place L p i in stays (g.place p) k.1 (F.only p k.0) (sym (same p) ∙ e);
    leads = λ p q at l off. let n = not_left p at in
        live_comes g.place L p q (F.leads p q n.1 l off) n.0 (link_live p q (g.place p) refl n.1 n.0 l off);
  }
    where
      stays : (z : TreePlace) → (IsLeft z → ⊥) → z ≢ none → without_left z ≡ none → ⊥
      stays (left r) off at e = off tt
      stays none off at e = at refl
      stays (tree r h) off at e = tree_not_none r h e
