-- Bytes that are written one after the other, over others.
use Rattle.std.proofs.Common.{◌≡◌, ℕ, zero, suc, ◌+◌, ◌<◌, ◌≤◌, List, [], ◌∷◌, ◌++◌, length, take, drop, Option, Some}
use Rattle.std.proofs.Common.{refl, sym, ap, subst, ◌∙◌, append_assoc, arith}
use Rattle.std.specs.List.{flat_map, slice_get, AllByRecursion}
use Rattle.std.proofs.lemmas.List.{take_at, drop_at, drop-drop, take-append-drop, length-append, length-take-le}
use Rattle.std.proofs.lemmas.List.{append-nil, take_all}
use Rattle.std.proofs.lemmas.List.Concat.{flat_map-cons}
use Rattle.page_types.specs.Views.{slot_at}
use Rattle.page_types.specs.declared.page.Head.{Head}
use Rattle.page_types.specs.Writing.{overwritten}
use Rattle.page_types.proofs.Cutting.{take_get}
use Rattle.page_code.specs.Inner.Putting.{Puts}

regrouped : (f a b d : List ℕ) → (f ++ a) ++ (b ++ d) ≡ f ++ ((a ++ b) ++ d)
regrouped f a b d = simp append_assoc

over_then : (at : ℕ) (a b old : List ℕ) → at ≤ length old
    → overwritten (at + length a) b (overwritten at a old) ≡ overwritten at (a ++ b) old
unfolding overwritten
over_then at a b old le =
    let front : List ℕ = take at old in
    let behind : List ℕ = drop (at + length a) old in
    let size : length (take at old ++ a) ≡ at + length a =
    omega (arith, length-append (take at old) a, length-take-le at old le) in
    let grouped : take at old ++ (a ++ drop (at + length a) old) ≡ (take at old ++ a) ++ drop (at + length a) old =
    sym (append_assoc (take at old) a (drop (at + length a) old)) in
    let kept : take (at + length a) (take at old ++ (a ++ drop (at + length a) old)) ≡ take at old ++ a =
    ap (take (at + length a)) grouped ∙ take_at (take at old ++ a) (drop (at + length a) old) (at + length a) size in
    let left : drop (at + length a + length b) (take at old ++ (a ++ drop (at + length a) old))
    ≡ drop (at + length (a ++ b)) old =
    sym (drop-drop (length b) (at + length a) (take at old ++ (a ++ drop (at + length a) old)))
    ∙ ap (λ (l : List ℕ). drop (length b) (drop (at + length a) l)) grouped
    ∙ ap (drop (length b)) (drop_at (take at old ++ a) (drop (at + length a) old) (at + length a) size)
    ∙ drop-drop (length b) (at + length a) old ∙ ap (λ n. drop n old) (omega (arith, length-append a b)) in
    let P : List ℕ → List ℕ → List ℕ = λ f d. f ++ (b ++ d) in
    ap (λ f. P f (drop (at + length a + length b) (take at old ++ (a ++ drop (at + length a) old)))) kept
    ∙ ap (P (take at old ++ a)) left
    ∙ regrouped (take at old) a b (drop (at + length (a ++ b)) old)

pub puts_then : (at r1 r2 : ℕ) (a b old mid new : List ℕ) → at ≤ length old → Puts at a old r1 mid
    → Puts r1 b mid r2 new → Puts at (a ++ b) old r2 new
puts_then at r1 r2 a b old mid new le p q =
    let P : ℕ → List ℕ → List ℕ = λ n m. overwritten n b m in (
      omega (arith, p.0, q.0, length-append a b),
      q.1 ∙ ap (λ n. P n mid) p.0 ∙ ap (P (at + length a)) p.1 ∙ over_then at a b old le,
    )

pub puts_none : (at : ℕ) (old : List ℕ) → Puts at [] old at old
unfolding overwritten
puts_none at old =
    let same : at + 0 ≡ at = omega arith in
    (omega arith, sym (ap (λ n. take at old ++ drop n old) same ∙ take-append-drop at old))

-- ---- lists

pub all_got : {A : Type 0} (P : A → Type 0) (xs : List A) (k : ℕ) (x : A) → AllByRecursion P xs
    → slice_get xs k ≡ Some x → P x
all_got P [] k x h e = absurd cc
all_got P (y ∷ ys) zero x h e = let same : y ≡ x = cc in subst P same h.0
all_got P (y ∷ ys) (suc k) x h e = all_got P ys k x h.1 e

flat_more : {A : Type 0} (encode : A → List ℕ) (xs : List A) (x : A)
    → flat_map encode (xs ++ x ∷ []) ≡ flat_map encode xs ++ encode x
flat_more encode [] x = flat_map-cons encode x [] ∙ append-nil (encode x)
flat_more {A} encode (y ∷ ys) x =
    flat_map-cons encode y (ys ++ x ∷ []) ∙ ap (λ (l : List ℕ). encode y ++ l) (flat_more encode ys x)
    ∙ sym (append_assoc (encode y) (flat_map encode ys) (encode x))
    ∙ ap (λ (l : List ℕ). l ++ encode x) (sym (flat_map-cons encode y ys))

list_fits : {A : Type 0} (encode : A → List ℕ) (xs : List A) (k : ℕ) (x : A) → slice_get xs k ≡ Some x
    → length (flat_map encode (take k xs)) + length (encode x) ≤ length (flat_map encode xs)
list_fits encode [] k x e = absurd cc
list_fits encode (y ∷ ys) zero x e =
    let same : y ≡ x = cc in
    omega (
      arith,
      ap length (flat_map-cons encode y ys),
      length-append (encode y) (flat_map encode ys),
      ap (λ z. length (encode z)) same,
    )
list_fits encode (y ∷ ys) (suc k) x e =
    omega (
      arith,
      list_fits encode ys k x e,
      ap length (flat_map-cons encode y ys),
      ap length (flat_map-cons encode y (take k ys)),
      length-append (encode y) (flat_map encode ys),
      length-append (encode y) (flat_map encode (take k ys)),
    )

-- the first k values are written
pub record PutsFirst {A : Type 0} (encode : A → List ℕ) (xs : List A) (k at : ℕ) (old : List ℕ) (end : ℕ)
    (new : List ℕ) : Type 0 where
  pub puts : Puts at (flat_map encode (take k xs)) old end new

pub first_none : {A : Type 0} (encode : A → List ℕ) (xs : List A) (at : ℕ) (old : List ℕ)
    → PutsFirst encode xs 0 at old at old
first_none encode xs at old = record { puts = puts_none at old }

pub first_room : {A : Type 0} (encode : A → List ℕ) (xs : List A) (k at : ℕ) (old : List ℕ) (end : ℕ)
    (mid : List ℕ) (x : A) (size : ℕ) → PutsFirst encode xs k at old end mid → slice_get xs k ≡ Some x
    → at + length (flat_map encode xs) ≤ size → end + length (encode x) ≤ size
first_room encode xs k at old end mid x size p e le = omega (arith, p.puts.0, list_fits encode xs k x e)

pub first_more : {A : Type 0} (encode : A → List ℕ) (xs : List A) (k at : ℕ) (old : List ℕ) (end : ℕ) (mid : List ℕ) (x
    : A) (behind : ℕ) (new : List ℕ) → PutsFirst encode xs k at old end mid → slice_get xs k ≡ Some x → at ≤ length old
    → Puts end (encode x) mid behind new → PutsFirst encode xs (k + 1) at old behind new
first_more {A} encode xs k at old end mid x behind new p e le q =
    let more : flat_map encode (take (k + 1) xs) ≡ flat_map encode (take k xs) ++ encode x =
    ap (flat_map encode) (take_get xs k x e) ∙ flat_more encode (take k xs) x in
    record {
      puts = subst (λ (l : List ℕ). Puts at l old behind new) (sym more)
          (puts_then at end behind (flat_map encode (take k xs)) (encode x) old mid new le p.puts q);
    }

pub first_all : {A : Type 0} (encode : A → List ℕ) (xs : List A) (k at : ℕ) (old : List ℕ) (end : ℕ) (new : List ℕ)
    → PutsFirst encode xs k at old end new → length xs ≤ k → Puts at (flat_map encode xs) old end new
first_all {A} encode xs k at old end new p le =
    subst (λ (l : List A). Puts at (flat_map encode l) old end new) (take_all k xs le) p.puts

-- the slot with this number
pub slot_got : (slots : List (Option Head)) (k : ℕ) (s : Option Head) → k < length slots → s ≡ slot_at slots k
    → slice_get slots k ≡ Some s
slot_got [] k s lt is = absurd (omega arith)
slot_got (x ∷ xs) zero s lt is = ap (λ (t : Option Head). Some t) (sym is)
slot_got (x ∷ xs) (suc k) s lt is = slot_got xs k s (omega arith) is

-- an element is there
pub some_there : {A : Type 0} (xs : List A) (k : ℕ) → k < length xs → (x : A) × (slice_get xs k ≡ Some x)
some_there [] k lt = absurd (omega arith)
some_there (x ∷ xs) zero lt = (x, refl)
some_there (x ∷ xs) (suc k) lt = some_there xs k (omega arith)
