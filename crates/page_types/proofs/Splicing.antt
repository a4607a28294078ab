-- Lists that are cut from one list, where others are in place of some of them.
use Rattle.std.proofs.Common.{◌≡◌, ℕ, zero, suc, ◌+◌, ◌-◌, ◌<◌, ◌≤◌, List, [], ◌∷◌, ◌++◌, length, take, drop, map, set}
use Rattle.std.proofs.Common.{refl, add-one, sym, ap, subst, ◌∙◌, arith}
use Rattle.std.proofs.lemmas.List.{set_split, drop_at, take_all, drop-append-le, take-append-le, length-drop}
use Rattle.std.proofs.lemmas.List.{length-append, length-take-le, drop-drop}
use Rattle.std.proofs.lemmas.List.Sums.{sum_by-cons}
use Rattle.std.specs.List.{splice, insert, remove, slice_range, sum_by}
use Rattle.page_types.specs.Inner.Cuts.{cut_at, EndAt, start_at, moved, ends_with, Cuts}
use Rattle.page_types.proofs.Cutting.{length-cut_at, start_at-end, begins, cut_at-front, EndAt-front, start_at-least}

-- the ends of lists after a list that ends as given
pub cut_at-append : {A : Type 0} (from : ℕ) (es fs : List ℕ) (last : ℕ) (xs : List A) → EndAt from es last
    → cut_at from (es ++ fs) xs ≡ cut_at from es xs ++ cut_at last fs xs
cut_at-append from [] fs last xs h = ap (λ n. cut_at n fs xs) h
cut_at-append {A} from (e ∷ es) fs last xs h =
    ap (λ (t : List (List A)). take (e - from) (drop from xs) ∷ t) (cut_at-append e es fs last xs h.1)

-- what lies after the last end is not looked at
pub cut_at-within : {A : Type 0} (from : ℕ) (es : List ℕ) (xs ys : List A) → EndAt from es (length xs)
    → cut_at from es (xs ++ ys) ≡ cut_at from es xs
cut_at-within from [] xs ys h = refl
cut_at-within {A} from (e ∷ es) xs ys h =
    let later = begins e es (length xs) h.1 in
    let front : drop from (xs ++ ys) ≡ drop from xs ++ ys = drop-append-le from xs ys (omega arith) in
    let here : take (e - from) (drop from xs ++ ys) ≡ take (e - from) (drop from xs) =
    take-append-le (e - from) (drop from xs) ys (omega (arith, length-drop from xs)) in
    let P : List A → List (List A) → List (List A) = λ t ts. t ∷ ts in
    ap (λ t. P t (cut_at e es (xs ++ ys))) (ap (take (e - from)) front ∙ here)
    ∙ ap (P (take (e - from) (drop from xs))) (cut_at-within e es xs ys h.1)

-- moved twice is moved once
ends_moved : (from to mid at : ℕ) (gs : List ℕ) (last : ℕ) → from ≤ mid → mid ≤ at → EndAt at gs last
    → map (moved from to) gs ≡ map (moved mid (to + (mid - from))) gs
ends_moved from to mid at [] last le ge h = refl
ends_moved from to mid at (g ∷ gs) last le ge h =
    let here : to + (g - from) ≡ to + (mid - from) + (g - mid) = let up = h.0 in omega arith in
    let P : ℕ → List ℕ → List ℕ = λ x t. x ∷ t in
    ap (λ x. P x (map (moved from to) gs)) here
    ∙ ap (P (to + (mid - from) + (g - mid))) (ends_moved from to mid g gs last le (let up = h.0 in omega arith) h.1)

-- lists that moved with their ends
pub cut_at-moved : {A : Type 0} (from to : ℕ) (es : List ℕ) (last : ℕ) (xs ys : List A) → EndAt from es last
    → drop to ys ≡ drop from xs → cut_at to (map (moved from to) es) ys ≡ cut_at from es xs
cut_at-moved from to [] last xs ys h same = refl
cut_at-moved {A} from to (e ∷ es) last xs ys h same =
    let size : to + (e - from) - to ≡ e - from = omega arith in
    let sum : from + (e - from) ≡ e = let le = h.0 in omega arith in
    let later : drop (to + (e - from)) ys ≡ drop e xs = sym (drop-drop (e - from) to ys) ∙ ap (drop (e - from)) same
    ∙ drop-drop (e - from) from xs ∙ ap (λ n. drop n xs) sum in
    let behind : map (moved from to) es ≡ map (moved e (to + (e - from))) es =
    ends_moved from to e e es last h.0 (omega arith) h.1 in
    let P : List A → List (List A) → List (List A) = λ t ts. t ∷ ts in
    ap (λ t. P t (cut_at (to + (e - from)) (map (moved from to) es) ys))
    (ap (λ n. take n (drop to ys)) size ∙ ap (take (e - from)) same)
    ∙ ap (P (take (e - from) (drop from xs))) (ap (λ (t : List ℕ). cut_at (to + (e - from)) t ys) behind
    ∙ cut_at-moved e (to + (e - from)) es last xs ys h.1 later)

EndAt-moved : (from to : ℕ) (es : List ℕ) (last : ℕ) → EndAt from es last
    → EndAt to (map (moved from to) es) (to + (last - from))
EndAt-moved from to [] last h = omega (arith, h)
EndAt-moved from to (e ∷ es) last h =
    let behind : map (moved from to) es ≡ map (moved e (to + (e - from))) es =
    ends_moved from to e e es last h.0 (omega arith) h.1 in
    let later = EndAt-moved e (to + (e - from)) es last h.1 in
    let low = begins e es last h.1 in
    let sum : to + (e - from) + (last - e) ≡ to + (last - from) = let le = h.0 in omega arith in
    let P : List ℕ → ℕ → Type 0 = λ t n. EndAt (to + (e - from)) t n in (
      omega arith,
      subst (λ t. P t (to + (last - from))) (sym behind) (subst (P (map (moved e (to + (e - from))) es)) sum later),
    )

EndAt-append : (from : ℕ) (es fs : List ℕ) (mid last : ℕ) → EndAt from es mid → EndAt mid fs last
    → EndAt from (es ++ fs) last
EndAt-append from [] fs mid last h k = subst (λ n. EndAt n fs last) (sym h) k
EndAt-append from (e ∷ es) fs mid last h k = (h.0, EndAt-append e es fs mid last h.1 k)

pub EndAt-behind : (from : ℕ) (es : List ℕ) (last m : ℕ) → EndAt from es last → m ≤ length es
    → EndAt (start_at from es m) (drop m es) last
EndAt-behind from es last zero h le = h
EndAt-behind from [] last (suc m) h le = absurd (omega arith)
EndAt-behind from (e ∷ es) last (suc m) h le = EndAt-behind e es last m h.1 (omega arith)

cut_at-behind : {A : Type 0} (from : ℕ) (es : List ℕ) (xs : List A) (m : ℕ) → m ≤ length es
    → drop m (cut_at from es xs) ≡ cut_at (start_at from es m) (drop m es) xs
cut_at-behind from es xs zero le = refl
cut_at-behind from [] xs (suc m) le = absurd (omega arith)
cut_at-behind from (e ∷ es) xs (suc m) le = cut_at-behind e es xs m (omega arith)

-- no list begins after the last end
start_bound : (from : ℕ) (es : List ℕ) (last k : ℕ) → EndAt from es last → k ≤ length es → start_at from es k ≤ last
start_bound from es last zero h le = begins from es last h
start_bound from [] last (suc k) h le = absurd (omega arith)
start_bound from (e ∷ es) last (suc k) h le = start_bound e es last k h.1 (omega arith)

-- the lists begin in their order
start_rises : (from : ℕ) (es : List ℕ) (last k m : ℕ) → EndAt from es last → k ≤ m → m ≤ length es
    → start_at from es k ≤ start_at from es m
start_rises from es last zero m h le small = start_at-least from es last m h small
start_rises from es last (suc k) zero h le small = absurd (omega arith)
start_rises from [] last (suc k) (suc m) h le small = absurd (omega arith)
start_rises from (e ∷ es) last (suc k) (suc m) h le small = start_rises e es last k m h.1 (omega arith) (omega arith)

-- s is where list k begins, and t where list m does
pub record ArePlaces {A : Type 0} (ends : List ℕ) (xs : List A) (k m s t : ℕ) : Type 0 where
  pub in_order : s ≤ t
  pub within : t ≤ length xs
  pub front_ends : EndAt 0 (take k ends) s
  pub front : cut_at 0 (take k ends) (take s xs) ≡ take k (cut_at 0 ends xs)
  pub back_ends : EndAt t (drop m ends) (length xs)
  pub back : drop m (cut_at 0 ends xs) ≡ cut_at t (drop m ends) xs

pub are_places : {A : Type 0} (ends : List ℕ) (xs : List A) (k m s t : ℕ) → EndAt 0 ends (length xs) → k ≤ m
    → m ≤ length ends → s ≡ start_at 0 ends k → t ≡ start_at 0 ends m → ArePlaces ends xs k m s t
are_places {A} ends xs k m s t h le small is it =
    let P : ℕ → ℕ → Type 0 = λ a b. ArePlaces ends xs k m a b in
    let here : ArePlaces ends xs k m (start_at 0 ends k) (start_at 0 ends m) = record {
      in_order = start_rises 0 ends (length xs) k m h le small;
      within = start_bound 0 ends (length xs) m h small;
      front_ends = EndAt-front 0 ends (length xs) k h (omega arith);
      front = cut_at-front 0 ends xs k h (omega arith);
      back_ends = EndAt-behind 0 ends (length xs) m h small;
      back = cut_at-behind 0 ends xs m small;
    } in
    subst (λ a. P a t) (sym is) (subst (P (start_at 0 ends k)) (sym it) here)

pub splice_size : {A : Type 0} (xs p : List A) (s t : ℕ) → s ≤ t → t ≤ length xs
    → length (splice xs s t p) ≡ s + length p + (length xs - t)
splice_size xs p s t le small = omega (
  arith,
  length-append (take s xs) (p ++ drop t xs),
  length-append p (drop t xs),
  length-drop t xs,
  length-take-le s xs (omega arith),
)

-- other lists in place of those from k up to m, whose ends are `more`
edit_made : {A : Type 0} (ends ends' more : List ℕ) (xs xs' p : List A) (now : List (List A)) (k m s t : ℕ)
    → ArePlaces ends xs k m s t → xs' ≡ take s xs ++ (p ++ drop t xs)
    → ends' ≡ take k ends ++ (more ++ map (moved t (s + length p)) (drop m ends))
    → EndAt s more (s + length p) → cut_at s more (take s xs ++ (p ++ drop t xs)) ≡ now
    → Cuts ends' xs' (take k (cut_at 0 ends xs) ++ (now ++ drop m (cut_at 0 ends xs)))
edit_made {A} ends ends' more xs xs' p now k m s t at bytes new mid heads =
    let size : length (take s xs) ≡ s =
    length-take-le s xs (let lo = at.in_order in let hi = at.within in omega arith) in
    let ys : List A = take s xs ++ (p ++ drop t xs) in
    let shifted : List ℕ = map (moved t (s + length p)) (drop m ends) in
    let front_at : EndAt 0 (take k ends) (length (take s xs)) =
    subst (λ n. EndAt 0 (take k ends) n) (sym size) at.front_ends in
    let front : cut_at 0 (take k ends) (take s xs ++ (p ++ drop t xs)) ≡ take k (cut_at 0 ends xs) =
    cut_at-within 0 (take k ends) (take s xs) (p ++ drop t xs) front_at ∙ at.front in
    let later : drop (s + length p) (take s xs ++ (p ++ drop t xs)) ≡ drop t xs =
    sym (drop-drop (length p) s (take s xs ++ (p ++ drop t xs)))
    ∙ ap (drop (length p)) (drop_at (take s xs) (p ++ drop t xs) s size) ∙ drop_at p (drop t xs) (length p) refl in
    let back : cut_at (s + length p) (map (moved t (s + length p)) (drop m ends)) (take s xs ++ (p ++ drop t xs))
    ≡ drop m (cut_at 0 ends xs) =
    cut_at-moved t (s + length p) (drop m ends) (length xs) xs (take s xs ++ (p ++ drop t xs)) at.back_ends later
    ∙ sym at.back in
    let total : s + length p + (length xs - t) ≡ length xs' = sym (ap length bytes ∙ omega
    (arith, length-append (take s xs) (p ++ drop t xs), length-append p (drop t xs), length-drop t xs, size)) in
    let end : EndAt 0 (take k ends ++ (more ++ map (moved t (s + length p)) (drop m ends)))
    (s + length p + (length xs - t)) =
    EndAt-append 0 (take k ends) (more ++ map (moved t (s + length p)) (drop m ends)) s
    (s + length p + (length xs - t)) at.front_ends
    (EndAt-append s more (map (moved t (s + length p)) (drop m ends)) (s + length p)
    (s + length p + (length xs - t)) mid (EndAt-moved t (s + length p) (drop m ends) (length xs) at.back_ends)) in
    let Q : List ℕ → ℕ → Type 0 = λ es n. EndAt 0 es n in
    let P : List (List A) → List (List A) → List (List A) → List (List A) = λ a b c. a ++ (b ++ c) in
    record {
      ends_at = subst (λ es. Q es (length xs')) (sym new)
          (subst (Q (take k ends ++ (more ++ map (moved t (s + length p)) (drop m ends)))) total end);
      cuts = ap (λ es. cut_at 0 es xs') new
          ∙ ap (cut_at 0 (take k ends ++ (more ++ map (moved t (s + length p)) (drop m ends)))) bytes
          ∙ cut_at-append 0 (take k ends) (more ++ map (moved t (s + length p)) (drop m ends)) s
          (take s xs ++ (p ++ drop t xs)) at.front_ends
          ∙ ap (λ (c : List (List A)). cut_at 0 (take k ends) (take s xs ++ (p ++ drop t xs)) ++ c) (cut_at-append s
          more (map (moved t (s + length p)) (drop m ends)) (s + length p) (take s xs ++ (p ++ drop t xs)) mid)
          ∙ ap (λ a. P a (cut_at s more (take s xs ++ (p ++ drop t xs))) (cut_at (s + length p)
          (map (moved t (s + length p)) (drop m ends)) (take s xs ++ (p ++ drop t xs)))) front
          ∙ ap (λ b. P (take k (cut_at 0 ends xs)) b (cut_at (s + length p) (map (moved t (s + length p)) (drop m ends))
          (take s xs ++ (p ++ drop t xs)))) heads
          ∙ ap (P (take k (cut_at 0 ends xs)) now) back;
    }

-- lists that lie in p, in place of those from k up to m
pub lists_spliced : {A : Type 0} (ends ends' new : List ℕ) (xs xs' p : List A) (k m s t : ℕ) → EndAt 0 ends (length xs)
    → k ≤ m → m ≤ length ends → EndAt 0 new (length p) → s ≡ start_at 0 ends k → t ≡ start_at 0 ends m
    → xs' ≡ splice xs s t p → ends' ≡ ends_with ends k m new (length p)
    → Cuts ends' xs' (splice (cut_at 0 ends xs) k m (cut_at 0 new p))
lists_spliced {A} ends ends' new xs xs' p k m s t h le small at is it bytes now =
    let places = are_places ends xs k m s t h le small is it in
    let low = places.in_order in
    let high = places.within in
    let end : EndAt s (map (moved 0 s) new) (s + length p) = subst (λ n. EndAt s (map (moved 0 s) new) (s + n))
    (let z : length p - 0 ≡ length p = omega arith in z) (EndAt-moved 0 s new (length p) at) in
    let there : drop s (take s xs ++ (p ++ drop t xs)) ≡ p ++ drop t xs =
    drop_at (take s xs) (p ++ drop t xs) s (length-take-le s xs (omega arith)) in
    let cuts : cut_at s (map (moved 0 s) new) (take s xs ++ (p ++ drop t xs)) ≡ cut_at 0 new p = cut_at-moved 0 s new
    (length p) (p ++ drop t xs) (take s xs ++ (p ++ drop t xs)) at there ∙ cut_at-within 0 new p (drop t xs) at in
    let P : ℕ → ℕ → List ℕ =
    λ a b. take k ends ++ (map (moved 0 a) new ++ map (moved b (a + length p)) (drop m ends)) in
    let now' : ends' ≡ P s t = now ∙ ap (λ a. P a (start_at 0 ends m)) (sym is) ∙ ap (P s) (sym it) in
    edit_made ends ends' (map (moved 0 s) new) xs xs' p (cut_at 0 new p) k m s t places bytes now' end cuts

-- how long the lists from k up to m are together
front_total : {A : Type 0} (from : ℕ) (es : List ℕ) (xs : List A) (n : ℕ) → EndAt from es (length xs) → n ≤ length es
    → sum_by length (take n (cut_at from es xs)) + from ≡ start_at from es n
front_total from es xs zero h le = omega arith
front_total from [] xs (suc n) h le = absurd (omega arith)
front_total {A} from (e ∷ es) xs (suc n) h le =
    let rest = front_total e es xs n h.1 (omega arith) in
    let last = begins e es (length xs) h.1 in
    let here : length (take (e - from) (drop from xs)) ≡ e - from =
    length-take-le (e - from) (drop from xs) (omega (arith, length-drop from xs)) in
    let parts : sum_by length (take (suc n) (cut_at from (e ∷ es) xs))
    ≡ length (take (e - from) (drop from xs)) + sum_by length (take n (cut_at e es xs)) =
    sum_by-cons length (take (e - from) (drop from xs)) (take n (cut_at e es xs)) in
    let start : start_at from (e ∷ es) (suc n) ≡ start_at e es n = refl in
    omega (arith, rest, here, h.0)

start_sum : (from : ℕ) (es : List ℕ) (k n : ℕ) → k + n ≤ length es
    → start_at (start_at from es k) (drop k es) n ≡ start_at from es (k + n)
start_sum from es zero n le = ap (start_at from es) (let e : n ≡ 0 + n = omega arith in e)
start_sum from [] (suc k) n le = absurd (omega arith)
start_sum from (e ∷ es) (suc k) n le =
    start_sum e es k n (omega arith) ∙ ap (start_at from (e ∷ es)) (let s : suc (k + n) ≡ suc k + n = omega arith in s)

pub lists_total : {A : Type 0} (ends : List ℕ) (xs : List A) (k m : ℕ) → EndAt 0 ends (length xs) → k ≤ m
    → m ≤ length ends → sum_by length (slice_range (cut_at 0 ends xs) k m) + start_at 0 ends k ≡ start_at 0 ends m
lists_total {A} ends xs k m h le small =
    let there : k + (m - k) ≡ m = omega arith in
    ap (λ (l : List (List A)). sum_by length (take (m - k) l) + start_at 0 ends k)
    (cut_at-behind 0 ends xs k (omega arith))
    ∙ front_total (start_at 0 ends k) (drop k ends) xs (m - k) (EndAt-behind 0 ends (length xs) k h (omega arith))
    (omega (arith, length-drop k ends))
    ∙ start_sum 0 ends k (m - k) (omega arith) ∙ ap (start_at 0 ends) there

-- how long all lists are together
pub all_total : {A : Type 0} (ends : List ℕ) (xs : List A) → EndAt 0 ends (length xs)
    → sum_by length (cut_at 0 ends xs) ≡ length xs
all_total {A} ends xs h =
    let all : take (length ends) (cut_at 0 ends xs) ≡ cut_at 0 ends xs =
    take_all (length ends) (cut_at 0 ends xs) (omega (arith, length-cut_at 0 ends xs)) in
    let none : sum_by length (take (length ends) (cut_at 0 ends xs))
    ≡ sum_by length (take (length ends) (cut_at 0 ends xs)) + 0 = omega arith in
    ap (λ (l : List (List A)). sum_by length l) (sym all) ∙ none ∙ front_total 0 ends xs (length ends) h (omega arith)
    ∙ start_at-end 0 ends (length xs) h

-- one list in place of one
pub one_set : {A : Type 0} (xs : List (List A)) (p : List A) (k : ℕ) → k < length xs
    → splice xs k (k + 1) (cut_at 0 (length p ∷ []) p) ≡ set xs k p
one_set {A} xs p k lt =
    let P : List A → List (List A) → List (List A) = λ a b. take k xs ++ (a ∷ b) in
    ap (λ a. P a (drop (k + 1) xs)) (take_all (length p - 0) p (omega arith)) ∙ ap (λ n. P p (drop n xs)) (add-one k)
    ∙ sym (set_split xs k p lt)

-- one list more
pub one_inserted : {A : Type 0} (xs : List (List A)) (p : List A) (k : ℕ)
    → splice xs k (k + 0) (cut_at 0 (length p ∷ []) p) ≡ insert xs k p
one_inserted {A} xs p k =
    let P : List A → List (List A) → List (List A) = λ a b. take k xs ++ (a ∷ b) in
    let none : k + 0 ≡ k = omega arith in
    ap (λ a. P a (drop (k + 0) xs)) (take_all (length p - 0) p (omega arith)) ∙ ap (λ n. P p (drop n xs)) none

-- one list less
pub one_removed : {A : Type 0} (xs : List (List A)) (k : ℕ) → splice xs k (k + 1) [] ≡ remove xs k
one_removed {A} xs k = ap (λ n. take k xs ++ drop n xs) (add-one k)

-- no lists have no elements
pub no_lists : {A : Type 0} (ends : List ℕ) (xs : List A) → EndAt 0 ends (length xs) → cut_at 0 ends xs ≡ []
    → (length ends ≡ 0) × (length xs ≡ 0)
no_lists [] xs h none = (refl, sym h)
no_lists (e ∷ es) xs h none = absurd cc
