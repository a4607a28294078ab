-- Other elements in place of some of a list's, in two steps.
use Rattle.std.proofs.Common.{◌≡◌, ℕ, ◌+◌, ◌-◌, ◌<◌, ◌≤◌, List, ◌++◌, length, take, drop, refl, sym, ap, ◌∙◌}
use Rattle.std.proofs.Common.{append_assoc, arith}
use Rattle.std.specs.List.{remove_range, splice}
use Rattle.std.proofs.lemmas.List.{drop_at, take_at, drop-drop, take-take, take-append-le, length-append}
use Rattle.std.proofs.lemmas.List.{length-take-le, take-append-drop}

-- fewer are written over the first, and the rest goes
shrunk : {A : Type 0} (xs new : List A) (from to end : ℕ) → from ≤ to → to ≤ length xs → length new ≤ to - from
    → end ≡ from + length new → remove_range (splice xs from (from + length new) new) end to ≡ splice xs from to new
shrunk {A} xs new from to end in_order within few is =
    let size : length (take from xs ++ new) ≡ end =
    omega (arith, length-append (take from xs) new, length-take-le from xs (omega arith)) in
    let tail : List A = drop (from + length new) xs in
    let split : splice xs from (from + length new) new ≡ (take from xs ++ new) ++ drop (from + length new) xs =
    sym (append_assoc (take from xs) new (drop (from + length new) xs)) in
    let front : take end ((take from xs ++ new) ++ drop (from + length new) xs) ≡ take from xs ++ new =
    take_at (take from xs ++ new) (drop (from + length new) xs) end size in
    let gap : ℕ = to - end in
    let there : end + (to - end) ≡ to = omega arith in
    let here : from + length new + (to - end) ≡ to = omega arith in
    let back : drop to ((take from xs ++ new) ++ drop (from + length new) xs) ≡ drop to xs =
    ap (λ n. drop n ((take from xs ++ new) ++ drop (from + length new) xs)) (sym there)
    ∙ sym (drop-drop (to - end) end ((take from xs ++ new) ++ drop (from + length new) xs))
    ∙ ap (drop (to - end)) (drop_at (take from xs ++ new) (drop (from + length new) xs) end size)
    ∙ drop-drop (to - end) (from + length new) xs ∙ ap (λ n. drop n xs) here in
    let P : List A → List A → List A = λ a b. a ++ b in
    ap (λ ys. P (take end ys) (drop to ys)) split
    ∙ ap (λ a. P a (drop to ((take from xs ++ new) ++ drop (from + length new) xs))) front
    ∙ ap (P (take from xs ++ new)) back ∙ append_assoc (take from xs) new (drop to xs)

-- the last are put in after, and the first are written over
grown : {A : Type 0} (xs new first last : List A) (from to : ℕ) → from ≤ to → to ≤ length xs
    → to - from < length new → first ≡ take (to - from) new → last ≡ drop (to - from) new
    → splice (splice xs to to last) from (from + length first) first ≡ splice xs from to new
grown {A} xs new first last from to in_order within many is it =
    let size : length first ≡ to - from = ap length is ∙ length-take-le (to - from) new (omega arith) in
    let end : from + length first ≡ to = omega arith in
    let front : take from (take to xs ++ (last ++ drop to xs)) ≡ take from xs = take-append-le from (take to xs)
    (last ++ drop to xs) (omega (arith, length-take-le to xs within)) ∙ take-take from to xs in_order in
    let back : drop (from + length first) (take to xs ++ (last ++ drop to xs)) ≡ last ++ drop to xs =
    ap (λ n. drop n (take to xs ++ (last ++ drop to xs))) end
    ∙ drop_at (take to xs) (last ++ drop to xs) to (length-take-le to xs within) in
    let P : List A → List A → List A = λ a b. a ++ b in
    let whole : first ++ last ≡ new =
    ap (λ a. P a last) is ∙ ap (P (take (to - from) new)) it ∙ take-append-drop (to - from) new in
    ap (λ a. P a (P first (drop (from + length first) (take to xs ++ (last ++ drop to xs))))) front
    ∙ ap (λ b. P (take from xs) (P first b)) back
    ∙ ap (P (take from xs)) (sym (append_assoc first last (drop to xs)) ∙ ap (λ a. P a (drop to xs)) whole)

-- the same, by what each step leaves
pub run_shrunk : {A : Type 0} (xs mid now new : List A) (from to : ℕ) → from ≤ to
    → to ≤ length xs → length new ≤ to - from → mid ≡ splice xs from (from + length new) new
    → now ≡ remove_range mid (from + length new) to → now ≡ splice xs from to new
run_shrunk {A} xs mid now new from to in_order within few first second =
    second ∙ ap (λ (ys : List A). remove_range ys (from + length new) to) first
    ∙ shrunk xs new from to (from + length new) in_order within few refl

pub run_grown : {A : Type 0} (xs mid now new first last : List A) (from to : ℕ) → from ≤ to → to ≤ length xs
    → to - from < length new → first ≡ take (to - from) new → last ≡ drop (to - from) new → mid ≡ splice xs to to last
    → now ≡ splice mid from (from + length first) first → now ≡ splice xs from to new
run_grown {A} xs mid now new first last from to in_order within many is it before after =
    after ∙ ap (λ (ys : List A). splice ys from (from + length first) first) before
    ∙ grown xs new first last from to in_order within many is it
