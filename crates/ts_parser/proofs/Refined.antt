-- Tests of lists of bytes that follow from other tests.
use Rattle.std.proofs.Common.{◌≡◌, ℕ, List, [], ◌∷◌, Bool, true, false, ◌||◌, ◌&&◌, ◌⊎◌, inl, inr, not, refl, sym, ap}
use Rattle.std.proofs.Common.{◌∙◌}
use Rattle.std.specs.List.{list_all, list_any, join_with_byte}
use Rattle.std.proofs.lemmas.Bool.{false≢true, and_parts, and_from, or_parts, or_from, or_left, or_right, or_cases}
use Rattle.std.proofs.lemmas.Bool.{and_left, and_right}
use Rattle.std.proofs.lemmas.List.Folds.{list_any-append}

-- what passes p and not q passes r
pub all_refine : {X : Type 0} (p q r : X → Bool) → ((c : X) → p c ≡ true → q c ≡ false → r c ≡ true) → (w : List X)
    → list_all p w ≡ true → list_any q w ≡ false → list_all r w ≡ true
all_refine p q r h [] a b = refl
all_refine p q r h (c ∷ w) a b =
    let k = and_parts (p c) (list_all p w) a in
    let l = or_parts (q c) (list_any q w) b in
    and_from (r c) (list_all r w) (h c k.0 l.0) (all_refine p q r h w k.1 l.1)

-- what passes p fails q
pub all_not : {X : Type 0} (p q : X → Bool) → ((c : X) → p c ≡ true → q c ≡ false) → (w : List X) → list_all p w ≡ true
    → list_any q w ≡ false
all_not p q h [] a = refl
all_not p q h (c ∷ w) a =
    let k = and_parts (p c) (list_all p w) a in
    or_from (q c) (list_any q w) (h c k.0) (all_not p q h w k.1)

-- among those that pass p, one that passes q passes r
pub any_refine : {X : Type 0} (p q r : X → Bool) → ((c : X) → p c ≡ true → q c ≡ true → r c ≡ true) → (w : List X)
    → list_all p w ≡ true → list_any q w ≡ true → list_any r w ≡ true
any_refine p q r h [] a b = b
any_refine p q r h (c ∷ w) a b =
    let k = and_parts (p c) (list_all p w) a in
    any_refine_by (or_cases (q c) (list_any q w) b) k.0 k.1 (any_refine p q r h w k.1)
  where
    any_refine_by : (q c ≡ true) ⊎ (list_any q w ≡ true) → p c ≡ true → list_all p w ≡ true
        → (list_any q w ≡ true → list_any r w ≡ true) → list_any r (c ∷ w) ≡ true
    any_refine_by (inl e) x y k = or_left (r c) (list_any r w) (h c x e)
    any_refine_by (inr e) x y k = or_right (r c) (list_any r w) (k e)

pub all_weaker : {X : Type 0} (p r : X → Bool) → ((c : X) → p c ≡ true → r c ≡ true) → (w : List X)
    → list_all p w ≡ true → list_all r w ≡ true
all_weaker p r h [] a = refl
all_weaker p r h (c ∷ w) a =
    let k = and_parts (p c) (list_all p w) a in and_from (r c) (list_all r w) (h c k.0) (all_weaker p r h w k.1)

pub any_weaker : {X : Type 0} (p r : X → Bool) → ((c : X) → p c ≡ true → r c ≡ true) → (w : List X)
    → list_any p w ≡ true → list_any r w ≡ true
any_weaker p r h [] a = a
any_weaker p r h (c ∷ w) a = any_weaker_by (or_cases (p c) (list_any p w) a) (any_weaker p r h w)
  where
    any_weaker_by : (p c ≡ true) ⊎ (list_any p w ≡ true) → (list_any p w ≡ true → list_any r w ≡ true)
        → list_any r (c ∷ w) ≡ true
    any_weaker_by (inl e) k = or_left (r c) (list_any r w) (h c e)
    any_weaker_by (inr e) k = or_right (r c) (list_any r w) (k e)

not_all_by : (a b : Bool) (x : Bool) → (a && b) ≡ false → (b ≡ false → x ≡ true) → (not a || x) ≡ true
not_all_by true b x h k = k h
not_all_by false b x h k = refl

-- where not all pass, one fails
pub not_all : {X : Type 0} (p : X → Bool) → (w : List X) → list_all p w ≡ false → list_any (λ c. not (p c)) w ≡ true
not_all p [] h = absurd (false≢true (sym h))
not_all p (c ∷ w) h = not_all_by (p c) (list_all p w) (list_any (λ x. not (p x)) w) h (not_all p w)

-- one that fails is among them
pub all_fails : {X : Type 0} (p q : X → Bool) → ((c : X) → q c ≡ true → p c ≡ false) → (w : List X)
    → list_any q w ≡ true → list_all p w ≡ false
all_fails p q h [] a = absurd (false≢true a)
all_fails p q h (c ∷ w) a = all_fails_by (or_cases (q c) (list_any q w) a) (all_fails p q h w)
  where
    all_fails_by : (q c ≡ true) ⊎ (list_any q w ≡ true) → (list_any q w ≡ true → list_all p w ≡ false)
        → list_all p (c ∷ w) ≡ false
    all_fails_by (inl e) k = and_left (p c) (list_all p w) (h c e)
    all_fails_by (inr e) k = and_right (p c) (list_all p w) (k e)

-- ── pieces, joined by a byte that fails ──
pub any_join : (p : ℕ → Bool) (s : ℕ) → p s ≡ false → (us : List (List ℕ))
    → list_any p (join_with_byte s us) ≡ list_any (list_any p) us
any_join p s n [] = refl
any_join p s n (u ∷ []) = any_join_by (list_any p u)
  where
    any_join_by : (b : Bool) → b ≡ (b || false)
    any_join_by true = refl
    any_join_by false = refl
any_join p s n (u ∷ v ∷ us) =
    list_any-append p u (s ∷ join_with_byte s (v ∷ us)) ∙ ap (λ b. list_any p u
    || (b || list_any p (join_with_byte s (v ∷ us)))) n ∙ ap (λ b. list_any p u || b) (any_join p s n (v ∷ us))
