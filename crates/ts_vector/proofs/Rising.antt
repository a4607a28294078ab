-- Lists whose elements rise by a relation, and what they contain.
use Rattle.std.proofs.Common.{◌≡◌, zero, suc, ◌<◌, ◌≤◌, ◌⊎◌, inl, inr, List, [], ◌∷◌, length, refl, sym, subst, arith}
use Rattle.std.specs.Prelude.{All, AllPairs, Any, Contains}

module _ {X : Type 0} where
  pub contains_head : (x : X) (xs : List X) → Contains (x ∷ xs) x
  contains_head x xs = (0, omega arith, refl)

  pub contains_later : (x y : X) (xs : List X) → Contains xs y → Contains (x ∷ xs) y
  contains_later x y xs (k, lt, read) = (suc k, omega arith, read)

  pub contains_cases : (x y : X) (xs : List X) → Contains (x ∷ xs) y → (x ≡ y) ⊎ Contains xs y
  contains_cases x y xs (zero, lt, read) = inl read
  contains_cases x y xs (suc k, lt, read) = inr (k, omega arith, read)

  pub contains_none : (x : X) → ¬ Contains [] x
  contains_none x c = let lt : c.0 < 0 = c.1 in omega arith

  -- some element has the property
  pub any_of : (P : X → Type 0) (xs : List X) (x : X) → Contains xs x → P x → Any P xs
  any_of P xs x c p = (c.0, x, c.1, c.2, p)

  pub of_any : (P : X → Type 0) (xs : List X) → Any P xs → (x : X) × Contains xs x × P x
  of_any P xs (k, x, lt, read, p) = (x, (k, lt, read), p)

module _ {X : Type 0} (R : X → X → Type 0) where
  pub pairs_head : (x : X) (xs : List X) → AllPairs R (x ∷ xs) → All (R x) xs
  pairs_head x xs h k d lt = h 0 (suc k) d (omega arith) (omega arith)

  pub pairs_tail : (x : X) (xs : List X) → AllPairs R (x ∷ xs) → AllPairs R xs
  pairs_tail x xs h i j d lt le = h (suc i) (suc j) d (omega arith) (omega arith)

  pub head_before : (x y : X) (xs : List X) → AllPairs R (x ∷ xs) → Contains xs y → R x y
  head_before x y xs h (k, lt, read) = subst (λ z. R x z) read (h 0 (suc k) y (omega arith) (omega arith))

  module _ (one_way : (x y : X) → R x y → ¬ R y x) where
    same_tails : (x : X) (xs ys : List X) → AllPairs R (x ∷ xs) → ((z : X) → Contains (x ∷ xs) z → Contains (x ∷ ys) z)
        → (z : X) → Contains xs z → Contains ys z
    same_tails x xs ys h to z c =
        let r : R x z = head_before x z xs h c in
        elim (contains_cases x z ys (to z (contains_later x z xs c))) [
          | inl e ↦ absurd (let s : R z x = subst (λ w. R w x) e (subst (λ w. R x w) (sym e) r) in one_way x z r s)
          | inr t ↦ t
        ]

    same_heads : (x y : X) (xs ys : List X) → AllPairs R (x ∷ xs) → AllPairs R (y ∷ ys) → Contains (y ∷ ys) x
        → Contains (x ∷ xs) y → x ≡ y
    same_heads x y xs ys h k cx cy =
        elim (contains_cases y x ys cx) [
          | inl e ↦ sym e
          | inr s ↦ elim (contains_cases x y xs cy) [
            | inl e ↦ e
            | inr t ↦ absurd (one_way x y (head_before x y xs h t) (head_before y x ys k s))
          ]
        ]

    -- two rising lists with the same elements are one
    pub same_rising : (xs ys : List X) → AllPairs R xs → AllPairs R ys → ((x : X) → Contains xs x → Contains ys x)
        → ((x : X) → Contains ys x → Contains xs x) → xs ≡ ys
    same_rising [] [] h k to from = refl
    same_rising [] (y ∷ ys) h k to from = absurd (contains_none y (from y (contains_head y ys)))
    same_rising (x ∷ xs) [] h k to from = absurd (contains_none x (to x (contains_head x xs)))
    same_rising (x ∷ xs) (y ∷ ys) h k to from =
        let e = same_heads x y xs ys h k (to x (contains_head x xs)) (from y (contains_head y ys)) in
        let k' : AllPairs R (x ∷ ys) = subst (λ w. AllPairs R (w ∷ ys)) (sym e) k in
        let to' : (z : X) → Contains (x ∷ xs) z → Contains (x ∷ ys) z =
        λ z c. subst (λ w. Contains (w ∷ ys) z) (sym e) (to z c) in
        let from' : (z : X) → Contains (x ∷ ys) z → Contains (x ∷ xs) z =
        λ z c. from z (subst (λ w. Contains (w ∷ ys) z) e c) in
        let t = same_rising xs ys (pairs_tail x xs h) (pairs_tail y ys k) (same_tails x xs ys h to')
        (same_tails x ys xs k' from') in
        λ i. e i ∷ t i

    -- a rising list whose elements another one has is no longer than that
    pub length_rising : (xs ys : List X) → AllPairs R xs → AllPairs R ys → ((x : X) → Contains xs x → Contains ys x)
        → length xs ≤ length ys
    length_rising [] ys h k to = omega arith
    length_rising (x ∷ xs) [] h k to = absurd (contains_none x (to x (contains_head x xs)))
    length_rising (x ∷ xs) (y ∷ ys) h k to =
        elim (contains_cases y x ys (to x (contains_head x xs))) [
          | inl e ↦
              let to' : (z : X) → Contains (x ∷ xs) z → Contains (x ∷ ys) z =
              λ z c. subst (λ w. Contains (w ∷ ys) z) e (to z c) in
              let n = length_rising xs ys (pairs_tail x xs h) (pairs_tail y ys k) (same_tails x xs ys h to') in
              omega arith
          | inr t ↦
              let le : R y x = head_before y x ys k t in
              let to' : (z : X) → Contains (x ∷ xs) z → Contains ys z = λ z c. elim (contains_cases y z ys (to z c)) [
                | inl e ↦ elim (contains_cases x z xs c) [
                  | inl f ↦ subst (λ w. Contains ys w) f t
                  | inr r ↦ absurd (one_way y x le (subst (λ w. R x w) (sym e) (head_before x z xs h r)))
                ]
                | inr r ↦ r
              ] in
              let n = length_rising (x ∷ xs) ys h (pairs_tail y ys k) to' in
              omega arith
        ]
