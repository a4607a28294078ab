-- Lists that are cut from one list at their ends: how many, each of them, and one more.
use Rattle.std.proofs.Common.{◌≡◌, ℕ, zero, suc, ◌+◌, ◌-◌, ◌^◌, ◌<◌, ◌≤◌, List, [], ◌∷◌, ◌++◌, length, take, drop}
use Rattle.std.proofs.Common.{get_or, Some, refl, sym, ap, subst, ◌∙◌, arith}
use Rattle.std.specs.List.{slice_get}
use Rattle.std.proofs.lemmas.List.{drop_at, drop-append-le, take-append-le, take_all, length-drop, length-append}
use Rattle.std.proofs.lemmas.List.{length-take-le, take-take, drop-take, take_more}
use Rattle.std.proofs.lemmas.Option.{slice_get_within, get_or_from_slice_get}
use Rattle.page_types.specs.Inner.Cuts.{cut_at, EndAt, CanMove, start_at}

pub length-cut_at : {A : Type 0} (from : ℕ) (es : List ℕ) (xs : List A) → length (cut_at from es xs) ≡ length es
length-cut_at from [] xs = refl
length-cut_at from (e ∷ es) xs = ap suc (length-cut_at e es xs)

-- the first list begins before the last end
pub begins : (from : ℕ) (es : List ℕ) (last : ℕ) → EndAt from es last → from ≤ last
begins from [] last h = omega arith
begins from (e ∷ es) last h = let later = begins e es last h.1 in omega arith

-- one end more
pub EndAt-more : (from : ℕ) (es : List ℕ) (last next : ℕ) → EndAt from es last → last ≤ next
    → EndAt from (es ++ next ∷ []) next
EndAt-more from [] last next h le = (omega arith, refl)
EndAt-more from (e ∷ es) last next h le = (h.0, EndAt-more e es last next h.1 le)

-- one list more
pub cut_at-more : {A : Type 0} (from : ℕ) (es : List ℕ) (xs p : List A) (next : ℕ) → EndAt from es (length xs)
    → next ≡ length xs + length p → cut_at from (es ++ next ∷ []) (xs ++ p) ≡ cut_at from es xs ++ p ∷ []
cut_at-more from [] xs p next h is =
    let rest : drop from (xs ++ p) ≡ p = drop_at xs p from (sym h) in
    let all : take (next - from) p ≡ p = take_all (next - from) p (omega arith) in
    ap (λ t. t ∷ []) (ap (take (next - from)) rest ∙ all)
cut_at-more {A} from (e ∷ es) xs p next h is =
    let later = begins e es (length xs) h.1 in
    let front : drop from (xs ++ p) ≡ drop from xs ++ p = drop-append-le from xs p (omega arith) in
    let here : take (e - from) (drop from xs ++ p) ≡ take (e - from) (drop from xs) =
    take-append-le (e - from) (drop from xs) p (omega (arith, length-drop from xs)) in
    let P : List A → List (List A) → List (List A) = λ t ts. t ∷ ts in
    ap (λ t. P t (cut_at e (es ++ next ∷ []) (xs ++ p))) (ap (take (e - from)) front ∙ here)
    ∙ ap (P (take (e - from) (drop from xs))) (cut_at-more e es xs p next h.1 is)

-- the list with this number
pub cut_at-get : {A : Type 0} (from : ℕ) (es : List ℕ) (xs : List A) (k : ℕ) → k < length es
    → slice_get (cut_at from es xs) k ≡ Some (take (get_or es k 0 - start_at from es k) (drop (start_at from es k) xs))
cut_at-get from [] xs k lt = absurd (omega arith)
cut_at-get from (e ∷ es) xs zero lt = refl
cut_at-get from (e ∷ es) xs (suc k) lt = cut_at-get e es xs k (omega arith)

-- it lies within its ends
pub within_ends : (from : ℕ) (es : List ℕ) (last k : ℕ) → EndAt from es last → k < length es
    → (start_at from es k ≤ get_or es k 0) × (get_or es k 0 ≤ last)
within_ends from [] last k h lt = absurd (omega arith)
within_ends from (e ∷ es) last zero h lt = (h.0, begins e es last h.1)
within_ends from (e ∷ es) last (suc k) h lt = within_ends e es last k h.1 (omega arith)

-- a list begins where the one before it ends
pub start_at-later : (from : ℕ) (es : List ℕ) (k : ℕ) → k < length es → start_at from es (suc k) ≡ get_or es k 0
start_at-later from [] k lt = absurd (omega arith)
start_at-later from (e ∷ es) zero lt = elim es as (λ es. start_at e es 0 ≡ e) [ [] ↦ refl | x ∷ xs ↦ refl ]
start_at-later from (e ∷ es) (suc k) lt = start_at-later e es k (omega arith)

-- all lists together end at the last end
pub start_at-end : (from : ℕ) (es : List ℕ) (last : ℕ) → EndAt from es last → start_at from es (length es) ≡ last
start_at-end from [] last h = h
start_at-end from (e ∷ es) last h = start_at-end e es last h.1

-- where a list begins, by the end before it
pub start_before : (from : ℕ) (es : List ℕ) (k : ℕ) → 0 < k → k ≤ length es → start_at from es k ≡ get_or es (k - 1) 0
start_before from es zero lt le = absurd (omega arith)
start_before from es (suc k) lt le =
    let e : suc k - 1 ≡ k = omega arith in
    start_at-later from es k (omega arith) ∙ ap (λ n. get_or es n 0) (sym e)

-- what a read of a piece by its ends gives
pub piece_at : {A : Type 0} (ends : List ℕ) (xs : List A) (k from to : ℕ) → EndAt 0 ends (length xs) → k < length ends
    → from ≡ start_at 0 ends k → to ≡ get_or ends k 0
    → (from ≤ to) × (to ≤ length xs) × (slice_get (cut_at 0 ends xs) k ≡ Some (take (to - from) (drop from xs)))
piece_at {A} ends xs k from to h lt f t =
    let bounds = within_ends 0 ends (length xs) k h lt in
    let P : ℕ → ℕ → Type 0 = λ f t. slice_get (cut_at 0 ends xs) k ≡ Some (take (t - f) (drop f xs)) in (
      omega arith,
      omega arith,
      subst (λ f. P f to) (sym f) (subst (P (start_at 0 ends k)) (sym t) (cut_at-get 0 ends xs k lt)),
    )

-- what one piece more leaves
pub record PieceMore {A : Type 0} (ends ends' : List ℕ) (xs xs' p : List A) : Type 0 where
  pub ends_at : EndAt 0 ends' (length xs')
  pub cuts : cut_at 0 ends' xs' ≡ cut_at 0 ends xs ++ p ∷ []

pub piece_more : {A : Type 0} (ends ends' : List ℕ) (xs xs' p : List A) (end : ℕ) → EndAt 0 ends (length xs)
    → xs' ≡ xs ++ p → end ≡ length xs' → ends' ≡ ends ++ end ∷ [] → PieceMore ends ends' xs xs' p
piece_more {A} ends ends' xs xs' p end h grown is more =
    let size : end ≡ length xs + length p = is ∙ ap length grown ∙ length-append xs p in
    let at : EndAt 0 (ends ++ end ∷ []) end = EndAt-more 0 ends (length xs) end h (omega arith) in
    let P : List ℕ → ℕ → Type 0 = λ es n. EndAt 0 es n in
    record {
      ends_at = subst (λ es. P es (length xs')) (sym more) (subst (P (ends ++ end ∷ [])) is at);
      cuts =
          ap (λ es. cut_at 0 es xs') more ∙ ap (cut_at 0 (ends ++ end ∷ [])) grown ∙ cut_at-more 0 ends xs p end h size;
    }

take-drop-take : {A : Type 0} (from n m : ℕ) (xs : List A) → from + n ≤ m
    → take n (drop from (take m xs)) ≡ take n (drop from xs)
take-drop-take from n m xs le =
    let split : from + (m - from) ≡ m = omega arith in
    ap (λ k. take n (drop from (take k xs))) (sym split) ∙ ap (take n) (drop-take from (m - from) xs)
    ∙ take-take n (m - from) (drop from xs) (omega arith)

-- a list begins after the first place
pub start_at-least : (from : ℕ) (es : List ℕ) (last k : ℕ) → EndAt from es last → k ≤ length es
    → from ≤ start_at from es k
start_at-least from es last zero h le = omega arith
start_at-least from [] last (suc k) h le = absurd (omega arith)
start_at-least from (e ∷ es) last (suc k) h le =
    let later = start_at-least e es last k h.1 (omega arith) in omega (arith, h.0)

-- the first n of them
pub cut_at-front : {A : Type 0} (from : ℕ) (es : List ℕ) (xs : List A) (n : ℕ) → EndAt from es (length xs)
    → n ≤ length es → cut_at from (take n es) (take (start_at from es n) xs) ≡ take n (cut_at from es xs)
cut_at-front from es xs zero h le = refl
cut_at-front from [] xs (suc n) h le = absurd (omega arith)
cut_at-front {A} from (e ∷ es) xs (suc n) h le =
    let rest = cut_at-front e es xs n h.1 (omega arith) in
    let last = start_at-least e es (length xs) n h.1 (omega arith) in
    let here : take (e - from) (drop from (take (start_at e es n) xs)) ≡ take (e - from) (drop from xs) =
    take-drop-take from (e - from) (start_at e es n) xs (omega arith) in
    let P : List A → List (List A) → List (List A) = λ t ts. t ∷ ts in
    ap (λ t. P t (cut_at e (take n es) (take (start_at e es n) xs))) here ∙ ap (P (take (e - from) (drop from xs))) rest

pub EndAt-front : (from : ℕ) (es : List ℕ) (last n : ℕ) → EndAt from es last → n ≤ length es
    → EndAt from (take n es) (start_at from es n)
EndAt-front from es last zero h le = refl
EndAt-front from [] last (suc n) h le = absurd (omega arith)
EndAt-front from (e ∷ es) last (suc n) h le = (h.0, EndAt-front e es last n h.1 (omega arith))

-- what a truncation leaves
pub record PiecesFront {A : Type 0} (ends ends' : List ℕ) (xs xs' : List A) (n : ℕ) : Type 0 where
  pub ends_at : EndAt 0 ends' (length xs')
  pub cuts : cut_at 0 ends' xs' ≡ take n (cut_at 0 ends xs)

pub pieces_front : {A : Type 0} (ends ends' : List ℕ) (xs xs' : List A) (n end : ℕ) → EndAt 0 ends (length xs) → n
    < length ends → end ≡ start_at 0 ends n → ends' ≡ take n ends → xs' ≡ take end xs → PiecesFront ends ends' xs xs' n
pieces_front {A} ends ends' xs xs' n end h lt is front cut =
    let bound = within_ends 0 ends (length xs) n h lt in
    let cut' : xs' ≡ take (start_at 0 ends n) xs = cut ∙ ap (λ e. take e xs) is in
    let size : start_at 0 ends n ≡ length xs' =
    sym (ap length cut' ∙ length-take-le (start_at 0 ends n) xs (omega arith)) in
    let P : List ℕ → ℕ → Type 0 = λ es n. EndAt 0 es n in
    record {
      ends_at = subst (λ es. P es (length xs')) (sym front)
          (subst (P (take n ends)) size (EndAt-front 0 ends (length xs) n h (omega arith)));
      cuts = ap (λ es. cut_at 0 es xs') front ∙ ap (cut_at 0 (take n ends)) cut'
          ∙ cut_at-front 0 ends xs n h (omega arith);
    }

-- one element more of a list
pub take_get : {A : Type 0} (xs : List A) (i : ℕ) (x : A) → slice_get xs i ≡ Some x
    → take (i + 1) xs ≡ take i xs ++ x ∷ []
take_get {A} xs i x e =
    take_more xs i x (slice_get_within xs i x e)
    ∙ ap (λ (y : A). take i xs ++ y ∷ []) (get_or_from_slice_get xs i x x e)

-- each of the ends can be moved
pub each_moves : (from to : ℕ) (es : List ℕ) → CanMove from to es → (k : ℕ) → k < length es
    → (from ≤ get_or es k 0) × (to + (get_or es k 0 - from) < 2 ^ 64)
each_moves from to es can k lt =
    let within = within_ends from es can.0 k can.1 lt in
    let least = start_at-least from es can.0 k can.1 (omega arith) in
    (omega arith, omega (arith, can.2))
