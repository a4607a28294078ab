-- The rows of the pending list: a document's rows are together, and only the first row's may be there in part.
use Rattle.std.proofs.Common.{◌≡◌, ◌≢◌, ◌⊎◌, ℕ, List, [], ◌∷◌, ◌++◌, refl, sym, ap, subst, ◌∙◌, inl, inr}
use Rattle.std.specs.Prelude.{⊤}
use Rattle.ts_base.specs.Keys.{Key}
use Rattle.page_types.specs.declared.page.Row.{Row}
use Rattle.core_state.specs.Log.{In}
use Rattle.core_state.specs.Inner.Grouping.{OnPage, InLine, StartsPage, IsFirst, Grouped, KeyIn}
use Rattle.core_state.specs.Log.{Pages}
use Rattle.core_state.specs.Documents.{IsChain}
use Rattle.core_state.proofs.PageLists.{in_front, in_back}
use Rattle.core_state.proofs.Chains.{first_once}

-- the last page of a chain comes but once
pub last_once : (P : Pages) (p q : ℕ) (front : List ℕ) → IsChain P p (front ++ q ∷ []) → In q front → ⊥
last_once P p q [] c i = i
last_once P p q (a ∷ fs) c (inl e) =
    let whole : IsChain P a (a ∷ (fs ++ q ∷ [])) = (refl, c.1, c.2) in
    first_once P a (fs ++ q ∷ []) whole (subst (λ (z : ℕ). In z (fs ++ q ∷ [])) e (in_back q fs (q ∷ []) (inl refl)))
last_once P p q (a ∷ fs) c (inr i) = last_once P (P a).right q fs c.2 i

-- each page has a row
abbrev pub Filled : List (List Row) → Type 0
Filled [] = ⊤
Filled (y ∷ ys) = (y ≢ []) × Filled ys

starts_on : (i : ℕ) (y : List Row) → StartsPage i y → OnPage i y
starts_on i [] s = absurd s
starts_on i (w ∷ ws) s = (w, inl refl, s)

-- the first page leaves the line: who is on the others is the first there, or has the keys there that it had
module _ (i : ℕ) (y : List Row) (ys : List (List Row)) (grouped : Grouped (y ∷ ys)) (there : InLine i ys) where
  one : (k : Key) (ks : List Key) → KeyIn k i (y ∷ ys) → OnPage i y ⊎ ((j : Key) → In j ks → KeyIn j i ys)
      → OnPage i y ⊎ ((j : Key) → In j (k ∷ ks) → KeyIn j i ys)
  one k ks (inl on) rest = inl (on.0, on.1, on.2)
  one k ks (inr h) (inl on) = inl on
  one k ks (inr h) (inr rest) =
      inr (λ j m. elim m [ inl e ↦ subst (λ (x : Key). KeyIn x i ys) (sym e) h | inr o ↦ rest j o ])

  on_or_all : (ks : List Key) → ((k : Key) → In k ks → KeyIn k i (y ∷ ys))
      → OnPage i y ⊎ ((k : Key) → In k ks → KeyIn k i ys)
  on_or_all [] all = inr (λ k m. absurd m)
  on_or_all (k ∷ ks) all = one k ks (all k (inl refl)) (on_or_all ks (λ j m. all j (inr m)))

  pub shift_first : IsFirst i (y ∷ ys) → IsFirst i ys
  shift_first first = grouped.1 i (starts_on i y first) there

  pub shift_keys : (ks : List Key) → ((k : Key) → In k ks → KeyIn k i (y ∷ ys))
      → IsFirst i ys ⊎ ((k : Key) → In k ks → KeyIn k i ys)
  shift_keys ks all = elim (on_or_all ks all) [ inl on ↦ inl (grouped.1 i on there) | inr rest ↦ inr rest ]

pub in_either : (i : ℕ) (xs ys : List (List Row)) → InLine i (xs ++ ys) → InLine i xs ⊎ InLine i ys
in_either i [] ys m = inr m
in_either i (x ∷ xs) ys (inl e) = inl (inl e)
in_either i (x ∷ xs) ys (inr m) = elim (in_either i xs ys m) [ inl a ↦ inl (inr a) | inr b ↦ inr b ]

pub first_more : (i : ℕ) (xs ys : List (List Row)) → IsFirst i xs → IsFirst i (xs ++ ys)
first_more i [] ys h = absurd h
first_more i (x ∷ xs) ys h = h

pub key_before : (k : Key) (i : ℕ) (xs ys : List (List Row)) → KeyIn k i xs → KeyIn k i (xs ++ ys)
key_before k i [] ys m = absurd m
key_before k i (x ∷ xs) ys (inl on) = inl on
key_before k i (x ∷ xs) ys (inr m) = inr (key_before k i xs ys m)

pub key_behind : (k : Key) (i : ℕ) (xs ys : List (List Row)) → KeyIn k i ys → KeyIn k i (xs ++ ys)
key_behind k i [] ys m = m
key_behind k i (x ∷ xs) ys m = inr (key_behind k i xs ys m)

-- pages of one new document after the line
pub link_grouped : (xs ys : List (List Row)) (d : ℕ) → Grouped xs → Grouped ys → ((i : ℕ) → InLine i ys → i ≡ d)
    → (InLine d xs → ⊥) → Grouped (xs ++ ys)
link_grouped [] ys d g h own new = h
link_grouped (x ∷ xs) ys d g h own new = (
  link_grouped xs ys d g.0 h own (λ m. new (inr m)),
  λ i on there. elim (in_either i xs ys there) [
    | inl m ↦ first_more i xs ys (g.1 i on m)
    | inr m ↦ absurd (new (inl (subst (λ (z : ℕ). OnPage z x) (own i m) on)))
  ],
)

starts_by : (z : List Row) (zs : List (List Row)) (d : ℕ) → z ≢ [] → ((i : ℕ) → InLine i (z ∷ zs) → i ≡ d) → (i : ℕ)
    → i ≡ d → StartsPage i z
starts_by [] zs d some own i e = absurd (some refl)
starts_by (w ∷ ws) zs d some own i e = own w.item (inl (w, inl refl, refl)) ∙ sym e

first_by : (zs : List (List Row)) (d : ℕ) → Filled zs → ((i : ℕ) → InLine i zs → i ≡ d) → (i : ℕ) → i ≡ d
    → InLine i zs → IsFirst i zs
first_by [] d filled own i e there = absurd there
first_by (z ∷ zs) d filled own i e there = starts_by z zs d filled.0 own i e

pub chain_grouped : (ys : List (List Row)) (d : ℕ) → Filled ys → ((i : ℕ) → InLine i ys → i ≡ d) → Grouped ys
chain_grouped [] d filled own = tt
chain_grouped (y ∷ ys) d filled own = (
  chain_grouped ys d filled.1 (λ i m. own i (inr m)),
  λ i on there. first_by ys d filled.1 (λ j m. own j (inr m)) i (own i (inl on)) there,
)

-- a row of a new document after the last page's rows
on_more : (i : ℕ) (page : List Row) (w : Row) → OnPage i (page ++ w ∷ []) → OnPage i page ⊎ (i ≡ w.item)
on_more i [] w (v, inl e, h) = inr (sym h ∙ ap (λ (x : Row). x.item) e)
on_more i [] w (v, inr e, h) = absurd e
on_more i (x ∷ xs) w (v, inl e, h) = inl (v, inl e, h)
on_more i (x ∷ xs) w (v, inr m, h) = elim (on_more i xs w (v, m, h))
    [ inl o ↦ inl (o.0, inr o.1, o.2) | inr e ↦ inr e ]

module _ (page : List Row) (w : Row) where
  abbrev longer : List (List Row) → List (List Row)
  longer xs = xs ++ (page ++ w ∷ []) ∷ []

  abbrev old : List (List Row) → List (List Row)
  old xs = xs ++ page ∷ []

  pub row_back : (xs : List (List Row)) (i : ℕ) → InLine i (longer xs) → InLine i (old xs) ⊎ (i ≡ w.item)
  row_back [] i (inl on) = elim (on_more i page w on) [ inl o ↦ inl (inl o) | inr e ↦ inr e ]
  row_back [] i (inr m) = absurd m
  row_back (z ∷ zs) i (inl on) = inl (inl on)
  row_back (z ∷ zs) i (inr m) = elim (row_back zs i m) [ inl o ↦ inl (inr o) | inr e ↦ inr e ]

  starts : (p : List Row) (i : ℕ) → StartsPage i p → StartsPage i (p ++ w ∷ [])
  starts [] i s = absurd s
  starts (v ∷ vs) i s = s

  pub row_first : (xs : List (List Row)) (i : ℕ) → IsFirst i (old xs) → IsFirst i (longer xs)
  row_first [] i f = starts page i f
  row_first (z ∷ zs) i f = f

  pub row_key : (k : Key) (i : ℕ) (xs : List (List Row)) → KeyIn k i (old xs) → KeyIn k i (longer xs)
  row_key k i [] (inl on) = inl (on.0, in_front on.0 page (w ∷ []) on.1, on.2, on.3)
  row_key k i [] (inr m) = absurd m
  row_key k i (z ∷ zs) (inl on) = inl on
  row_key k i (z ∷ zs) (inr m) = inr (row_key k i zs m)

  pub key_of_row : (k : Key) (i : ℕ) (xs : List (List Row)) → w.item ≡ i → In k w.keys → KeyIn k i (longer xs)
  key_of_row k i [] e m = inl (w, in_back w page (w ∷ []) (inl refl), e, m)
  key_of_row k i (z ∷ zs) e m = inr (key_of_row k i zs e m)

  pub row_grouped : (xs : List (List Row)) → Grouped (old xs) → (InLine w.item (old xs) → ⊥) → Grouped (longer xs)
  row_grouped [] g new = (tt, λ i on there. absurd there)
  row_grouped (x ∷ xs) g new = (
    row_grouped xs g.0 (λ m. new (inr m)),
    λ i on there. elim (row_back xs i there) [
      | inl m ↦ row_first xs i (g.1 i on m)
      | inr e ↦ absurd (new (inl (subst (λ (z : ℕ). OnPage z x) e on)))
    ],
  )
