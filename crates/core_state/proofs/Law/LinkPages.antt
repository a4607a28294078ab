-- The pages that a link of a private chain changes, and the places after it.
use Rattle.std.proofs.Common.{◌≡◌, ◌≢◌, ◌⊎◌, ◌+◌, ℕ, ◌==◌, cond, List, [], ◌∷◌, ◌++◌, map, refl, sym, ap, subst, ◌∙◌}
use Rattle.std.proofs.Common.{inl, inr, arith}
use Rattle.page_types.specs.declared.page.Page.{Page}
use Rattle.page_types.specs.declared.page.Row.{Row}
use Rattle.page_types.specs.declared.page.Body.TheVariants as body
use Rattle.page_types.specs.declared.record.Record.{Record}
use Rattle.core_state.specs.Log.{Pages, In, changed}
use Rattle.core_state.specs.Documents.{IsChain}
use Rattle.core_state.specs.Index.{Line}
use Rattle.core_state.specs.Changes.{made_with}
use Rattle.core_state.specs.PendingRules.{IsLinkHere}
use Rattle.core_state.specs.Inner.Ghosts.{Place}
use Rattle.core_state.specs.Inner.Ghosts.Place.{unused, meta, heap, line, past, shifted, left, entry, post, overflow_of}
use Rattle.core_state.specs.Inner.Ghosts.Place.{private_of}
use Rattle.core_state.specs.Inner.Kinds.{last_of}
use Rattle.core_state.proofs.PageLists.{same_or_not, two_pages, three_pages}

-- the pages of the item's private chain come to the pending list
abbrev pub joined : ℕ → Place → Place
joined i (private_of j) = cond (j == i) line (private_of j)
joined i x = x

private_joined : (i j : ℕ) → (joined i (private_of j) ≡ private_of j)
    ⊎ ((private_of j ≡ private_of i) × (joined i (private_of j) ≡ line))
private_joined i j = elim (same_or_not i j) [
  | inl e ↦ inr (ap (λ (k : ℕ). private_of k) e, here e)
  | inr n ↦ inl (there n)
]
  where
    here : j ≡ i → cond (j == i) line (private_of j) ≡ line
    here e = grind (arith, e)

    there : j ≢ i → cond (j == i) line (private_of j) ≡ private_of j
    there n = grind (arith, n)

pub joined_back : (i : ℕ) (x : Place) → (joined i x ≡ x) ⊎ ((x ≡ private_of i) × (joined i x ≡ line))
joined_back i unused = inl refl
joined_back i meta = inl refl
joined_back i heap = inl refl
joined_back i line = inl refl
joined_back i past = inl refl
joined_back i shifted = inl refl
joined_back i (left r) = inl refl
joined_back i (entry h) = inl refl
joined_back i (post r h) = inl refl
joined_back i (overflow_of j) = inl refl
joined_back i (private_of j) = private_joined i j

pub joined_here : (i : ℕ) → joined i (private_of i) ≡ line
joined_here i = elim (private_joined i i) [ inr e ↦ e.1 | inl e ↦ at i ]
  where
    at : (j : ℕ) → cond (j == j) line (private_of j) ≡ line
    at j = grind arith

-- what isn't on the chain keeps its place
pub joined_on : (i : ℕ) (x y : Place) → x ≡ y → y ≢ private_of i → joined i x ≡ y
joined_on i x y e n = elim (joined_back i x) [ inl s ↦ s ∙ e | inr p ↦ absurd (n (sym e ∙ p.0)) ]

pub joined_was : (i : ℕ) (x y : Place) → joined i x ≡ y → y ≢ line → x ≡ y
joined_was i x y e n = elim (joined_back i x) [ inl s ↦ sym s ∙ e | inr p ↦ absurd (n (sym e ∙ p.1)) ]

-- the pages after the heap page: the metapage, and the list's last page if there is one
pub data LinkPages (P Q : Pages) (r : Record) (a to end added : ℕ) : Type 0 where
  empty : (count : ℕ) → changed r ≡ a ∷ 0 ∷ [] → (P 0).body ≡ body.Meta 0 0 count
      → (Q 0).body ≡ body.Meta to end (count + added) → LinkPages P Q r a to end added
  behind : (first last count : ℕ) (rows : List Row) (front : List ℕ) → changed r ≡ a ∷ 0 ∷ last ∷ []
      → (P 0).body ≡ body.Meta first last count
      → (Q 0).body ≡ body.Meta first end (count + added) → (P last).body ≡ body.Pending rows
      → Q last ≡ made_with r to (body.Pending rows) → Line P (front ++ last ∷ []) → LinkPages P Q r a to end added

pub link_pages : (P Q : Pages) (r : Record) (a to end added : ℕ) (old turned : Page) (others : List ℕ)
    (before after : List Page) → IsLinkHere r to end added others before after
    → changed r ≡ a ∷ others → map P (changed r) ≡ old ∷ before → map Q (changed r) ≡ turned ∷ after
    → ((last : ℕ) → others ≡ 0 ∷ last ∷ [] → (ln : List ℕ) × Line P (ln ++ last ∷ []))
    → ((P a ≡ old) × (Q a ≡ turned)) × LinkPages P Q r a to end added
link_pages P Q r a to end added old turned others before after (IsLinkHere.empty m count is) e f g last =
    let was = two_pages P (changed r) a 0 old m e f in
    let now = two_pages Q (changed r) a 0 turned _ e g in
    ((was.0, now.0), LinkPages.empty count e (ap (λ (p : Page). p.body) was.1 ∙ is) (ap (λ (p : Page). p.body) now.1))
link_pages P Q r a to end added old turned others before after
    (IsLinkHere.behind m page first end_was count rows is some rows_is) e f g last =
    let was = three_pages P (changed r) a 0 end_was old m page e f in
    let now = three_pages Q (changed r) a 0 end_was turned _ _ e g in
    let ln = last end_was refl in (
      (was.0, now.0),
      LinkPages.behind first end_was count rows ln.0 e (ap (λ (p : Page). p.body) was.1 ∙ is)
          (ap (λ (p : Page). p.body) now.1) (ap (λ (p : Page). p.body) was.2 ∙ rows_is) now.2 ln.1,
    )

-- a chain goes on after its last page
pub chain_join : (P Q : Pages) (p last to : ℕ) (front more : List ℕ) → IsChain P p (front ++ last ∷ [])
    → ((q : ℕ) → In q front → (Q q).right ≡ (P q).right) → (Q last).right ≡ to → IsChain Q to more
    → IsChain Q p (front ++ last ∷ more)
chain_join P Q p last to [] more c same link d = (c.0, c.1, subst (λ (z : ℕ). IsChain Q z more) (sym link) d)
chain_join P Q p last to (a ∷ front) more c same link d = (
  c.0,
  c.1,
  subst (λ (z : ℕ). IsChain Q z (front ++ last ∷ more)) (sym (same a (inl refl)))
      (chain_join P Q (P a).right last to front more c.2 (λ q i. same q (inr i)) link d),
)

-- the last page of a list
pub last_is : (xs : List ℕ) (y : ℕ) → last_of (xs ++ y ∷ []) ≡ y
last_is [] y = refl
last_is (x ∷ []) y = refl
last_is (x ∷ z ∷ xs) y = last_is (z ∷ xs) y
