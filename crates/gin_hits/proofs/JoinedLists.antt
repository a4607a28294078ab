-- Lists of items that are joined.
use Rattle.std.proofs.Common.{◌≡◌, ◌⊎◌, ◌↔◌, ℕ, ◌+◌, ◌<◌, ◌≤◌, true, false, List, [], ◌∷◌, ◌++◌, length, map, take}
use Rattle.std.proofs.Common.{get_or, Bool}
use Rattle.std.proofs.Common.{refl, sym, ap, subst, ◌∙◌, inl, inr}
use Rattle.std.specs.Prelude.{Vec, Result, Ok, Err, OnOk, is_ok, cond}
use Rattle.std.specs.declared.alloc.Global.{Global}
use Rattle.std.proofs.lemmas.List.{take_all, map_more}
use Rattle.core_state.specs.Log.{In}
use Rattle.core_state.proofs.PageLists.{in_front, in_back, in_either}
use Rattle.gin_hits.specs.Rows.{lists_of}
use Rattle.gin_hits.specs.Sides.{MayBeKept}
use Rattle.gin_hits.specs.declared.hits.Hits.{Hits}
use Rattle.gin_hits.proofs.ItemLists.{items_in}

-- one of these lists has the item
abbrev pub InOne : ℕ → List (List ℕ) → Type 0
InOne i ls = (list : List ℕ) × In list ls × In i list

-- an item of two lists that are joined
pub in_joined : (i : ℕ) (xs ys : List ℕ) → In i (xs ++ ys) ↔ (In i xs ⊎ In i ys)
in_joined i xs ys = (
  (λ m. in_either i xs ys m),
  (λ m. elim m [ inl a ↦ in_front i xs ys a | inr b ↦ in_back i xs ys b ]),
)

-- all of the first lists were added, and one more is
pub one_joined : (i : ℕ) (old now list : List ℕ) (ls : List (List ℕ)) → (In i now ↔ (In i old ⊎ InOne i ls))
    → In i (now ++ list) ↔ (In i old ⊎ InOne i (ls ++ list ∷ []))
one_joined i old now list ls was = (to, from)
  where
    to : In i (now ++ list) → In i old ⊎ InOne i (ls ++ list ∷ [])
    to m = elim (in_either i now list m) [
      | inl a ↦ elim (was.0 a) [
        | inl b ↦ inl b
        | inr b ↦ inr (b.0, in_front b.0 ls (list ∷ []) b.1, b.2)
      ]
      | inr b ↦ inr (list, in_back list ls (list ∷ []) (inl refl), b)
    ]

    from : In i old ⊎ InOne i (ls ++ list ∷ []) → In i (now ++ list)
    from (inl a) = in_front i now list (was.1 (inl a))
    from (inr b) = elim (in_either b.0 ls (list ∷ []) b.1) [
      | inl c ↦ in_front i now list (was.1 (inr (b.0, c, b.2)))
      | inr c ↦ elim c [
        | inl e ↦ in_back i now list (subst (In i) e b.2)
        | inr none ↦ absurd none
      ]
    ]

none_in_none : (i : ℕ) → InOne i [] → ⊥
none_in_none i m = m.1

-- nothing was added yet
pub none_joined : (i : ℕ) (old : List ℕ) → In i old ↔ (In i old ⊎ InOne i [])
none_joined i old = ((λ m. inl m), (λ m. elim m [ inl a ↦ a | inr b ↦ absurd (none_in_none i b) ]))

-- one more of these lists is added
pub one_added : (lists : List (Vec ℕ Global)) (k : ℕ) (v : Vec ℕ Global) (old now new : List ℕ) → k < length lists
    → v ≡ get_or lists k v → new ≡ now ++ v.items
    → ((i : ℕ) → In i now ↔ (In i old ⊎ InOne i (map items_in (take k lists)))) → (i : ℕ)
    → In i new ↔ (In i old ⊎ InOne i (map items_in (take (k + 1) lists)))
one_added lists k v old now new lt is e was i =
    let next : map items_in (take (k + 1) lists) ≡ map items_in (take k lists) ++ v.items ∷ []
    = map_more items_in lists k v lt
    ∙ ap (λ (x : Vec ℕ Global). map items_in (take k lists) ++ x.items ∷ []) (sym is) in
    subst (λ (zs : List ℕ). In i zs ↔ (In i old ⊎ InOne i (map items_in (take (k + 1) lists)))) (sym e)
    (subst (λ (ls : List (List ℕ)). In i (now ++ v.items) ↔ (In i old ⊎ InOne i ls)) (sym next)
    (one_joined i old now v.items (map items_in (take k lists)) (was i)))

-- all of them were added
pub all_added : (lists : List (Vec ℕ Global)) (k : ℕ) (old now : List ℕ) → length lists ≤ k
    → ((i : ℕ) → In i now ↔ (In i old ⊎ InOne i (map items_in (take k lists)))) → (i : ℕ)
    → In i now ↔ (In i old ⊎ InOne i (map items_in lists))
all_added lists k old now le was i =
    subst (λ (vs : List (Vec ℕ Global)). In i now ↔ (In i old ⊎ InOne i (map items_in vs)))
    (take_all k lists le) (was i)

-- the same of lists and items that are the same
pub joined_as : (i : ℕ) (new old old' : List ℕ) (vs vs' : List (Vec ℕ Global)) → old ≡ old' → vs ≡ vs'
    → (In i new ↔ (In i old ⊎ InOne i (map items_in vs))) → In i new ↔ (In i old' ⊎ InOne i (map items_in vs'))
joined_as i new old old' vs vs' e f was =
    subst (λ (us : List (Vec ℕ Global)). In i new ↔ (In i old' ⊎ InOne i (map items_in us))) f
    (subst (λ (is : List ℕ). In i new ↔ (In i is ⊎ InOne i (map items_in vs))) e was)

-- ── the items that may be kept ──

-- what comes after others, in two parts
in_parts : {Old Mid New One Two : Type 0} → (Mid ↔ (Old ⊎ One)) → (New ↔ (Mid ⊎ Two)) → New ↔ (Old ⊎ (One ⊎ Two))
in_parts f g = (
  (λ m. elim (g.0 m) [
    | inl a ↦ elim (f.0 a) [ inl b ↦ inl b | inr b ↦ inr (inl b) ]
    | inr b ↦ inr (inr b)
  ]),
  (λ m. elim m [
    | inl a ↦ g.1 (inl (f.1 (inl a)))
    | inr a ↦ elim a [ inl b ↦ g.1 (inl (f.1 (inr b))) | inr b ↦ g.1 (inr b) ]
  ]),
)

-- a list was added, or there was no memory
pub extended : {T E : Type 0} (r : Result T E) (old list new : List ℕ)
    → new ≡ cond (is_ok r) (old ++ list) old → OnOk r (new ≡ old ++ list)
extended (Ok x) old list new e = e
extended (Err x) old list new e = tt

-- the whole index was read
pub all_items : (i : ℕ) (old new : List ℕ) (pending main : Hits) (all : Bool) → all ≡ true
    → new ≡ (old ++ pending.any.items) ++ main.any.items
    → In i new ↔ (In i old ⊎ MayBeKept all pending main i)
all_items i old new pending main all whole both =
    let p = pending.any.items in
    let m = main.any.items in
    subst (λ (b : Bool). In i new ↔ (In i old ⊎ MayBeKept b pending main i)) (sym whole)
    (subst (λ (is : List ℕ). In i is ↔ (In i old ⊎ MayBeKept true pending main i)) (sym both)
    (in_parts (in_joined i old p) (in_joined i (old ++ p) m)))

-- else those of which a key fits
pub some_items : (i : ℕ) (old one two : List ℕ) (pending main : Hits) (all : Bool) → all ≡ false
    → (In i one ↔ (In i old ⊎ InOne i (lists_of pending))) → (In i two ↔ (In i one ⊎ InOne i (lists_of main)))
    → In i two ↔ (In i old ⊎ MayBeKept all pending main i)
some_items i old one two pending main all part f g =
    subst (λ (b : Bool). In i two ↔ (In i old ⊎ MayBeKept b pending main i)) (sym part) (in_parts f g)

-- and nothing was there before
pub only_these : (i : ℕ) (old new : List ℕ) (P : Type 0) → old ≡ [] → (In i new ↔ (In i old ⊎ P)) → In i new ↔ P
only_these i old new P none are = (
  (λ m. elim (are.0 m) [ inl a ↦ absurd (subst (In i) none a) | inr b ↦ b ]),
  (λ b. are.1 (inr b)),
)
