-- The last of a list, and slots with frames.
use Rattle.std.proofs.Common.{◌≡◌, List, [], ◌∷◌, ◌++◌, map, refl, append_assoc}
use Rattle.latch_table.specs.declared.slots.Slot.{Slot}
use Rattle.latch_table.specs.declared.slots.Slot.TheVariants.{Frame}

-- a list has one last item, and one list before it
pub last_is : {A : Type 0} (ys xs : List A) (y x : A) → ys ++ y ∷ [] ≡ xs ++ x ∷ [] → (xs ≡ ys) × (x ≡ y)
last_is [] [] y x e = let same : x ≡ y = cc e in (refl, same)
last_is [] (z ∷ []) y x e = cc e
last_is [] (z ∷ w ∷ xs) y x e = cc e
last_is (z ∷ []) [] y x e = cc e
last_is (z ∷ w ∷ ys) [] y x e = cc e
last_is (w ∷ ys) (z ∷ xs) y x e =
    let tails : ys ++ y ∷ [] ≡ xs ++ x ∷ [] = cc e in
    let heads : z ≡ w = cc e in
    let t = last_is ys xs y x tails in
    ((λ i. heads i ∷ t.0 i), t.1)

-- and so has one that ends in two
pub last_of_two : {A : Type 0} (ys xs : List A) (a b x : A) → ys ++ a ∷ b ∷ [] ≡ xs ++ x ∷ []
    → (xs ≡ ys ++ a ∷ []) × (x ≡ b)
last_of_two ys xs a b x e = last_is (ys ++ a ∷ []) xs b x (rw append_assoc e)

-- the last slot of frames is one, and the others are
pub last_frame : {F J : Type 0} (fs : List F) (xs : List (Slot F J)) (x : Slot F J) → map Frame fs ≡ xs ++ x ∷ []
    → (gs : List F) × (f : F) × (xs ≡ map Frame gs) × (x ≡ Frame f)
last_frame [] [] x e = cc e
last_frame [] (y ∷ xs) x e = cc e
last_frame (f ∷ fs) [] x e = let last : x ≡ Frame f = cc e in ([], f, refl, last)
last_frame (f ∷ fs) (y ∷ xs) x e =
    let tails : map Frame fs ≡ xs ++ x ∷ [] = cc e in
    let heads : y ≡ Frame f = cc e in
    let t = last_frame fs xs x tails in
    (f ∷ t.0, t.1, (λ i. heads i ∷ t.2 i), t.3)
