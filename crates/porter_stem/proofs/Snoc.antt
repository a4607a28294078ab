-- One letter more.
use Rattle.std.proofs.Common.{◌≡◌, ℕ, ◌+◌, ◌<◌, ◌≤◌, take, length, get_or, List, [], ◌∷◌, ◌++◌, refl, ap, sym, subst}
use Rattle.std.proofs.Common.{◌∙◌, arith, add_assoc, Bool, true, false, not, if◌then◌else◌, ◌&&◌, ◌||◌, reverse}
use Rattle.std.specs.List.{list_any}
use Rattle.std.proofs.lemmas.List.Folds.{list_any-append}
use Rattle.std.proofs.lemmas.List.{reverse-append, take_more}
use Rattle.porter_stem.specs.Letters.{is_consonant, kinds_behind, kinds, turns_behind, turns}
use Rattle.porter_stem.specs.Shapes.{first_of, second_of, third_of, turn_counts, HasShape, Follows}
use Rattle.porter_stem.specs.declared.shape.Shape.{Shape}

-- the last kind, or what is before
abbrev pub last_or : Bool → List Bool → Bool
last_or before [] = before
last_or before (k ∷ ks) = last_or k ks

abbrev pub first_or : Bool → List Bool → Bool
first_or before [] = before
first_or before (k ∷ ks) = k

first_or-snoc : (b k : Bool) (xs : List Bool) → first_or b (xs ++ k ∷ []) ≡ first_or k xs
first_or-snoc b k [] = refl
first_or-snoc b k (x ∷ xs) = refl

pub last_or-reverse : (b : Bool) (ks : List Bool) → last_or b ks ≡ first_or b (reverse ks)
last_or-reverse b [] = refl
last_or-reverse b (k ∷ ks) =
    last_or-reverse k ks ∙ sym (ap (first_or b) (reverse-append (k ∷ []) ks) ∙ first_or-snoc b k (reverse ks))

first_of-first_or : (xs : List Bool) → first_of xs ≡ first_or false xs
first_of-first_or [] = refl
first_of-first_or (x ∷ xs) = refl

pub last_is : (ks : List Bool) → first_of (reverse ks) ≡ last_or false ks
last_is ks = first_of-first_or (reverse ks) ∙ sym (last_or-reverse false ks)

pub kinds_behind-snoc : (b : Bool) (word : List ℕ) (c : ℕ)
    → kinds_behind b (word ++ c ∷ []) ≡ kinds_behind b word ++ is_consonant (last_or b (kinds_behind b word)) c ∷ []
kinds_behind-snoc b [] c = refl
kinds_behind-snoc b (x ∷ word) c =
    ap (λ (t : List Bool). is_consonant b x ∷ t) (kinds_behind-snoc (is_consonant b x) word c)

pub kinds-snoc : (word : List ℕ) (c : ℕ)
    → kinds (word ++ c ∷ []) ≡ kinds word ++ is_consonant (first_of (reverse (kinds word))) c ∷ []
kinds-snoc word c =
    kinds_behind-snoc false word c ∙ ap (λ (b : Bool). kinds word ++ is_consonant b c ∷ []) (sym (last_is (kinds word)))

abbrev pub turn : Bool → Bool → ℕ
turn before kind = if not before && kind then 1 else 0

turns_behind-snoc : (b k : Bool) (ks : List Bool)
    → turns_behind b (ks ++ k ∷ []) ≡ turns_behind b ks + turn (last_or b ks) k
turns_behind-snoc b k [] = omega arith
turns_behind-snoc b k (x ∷ ks) = ap (λ (n : ℕ). turn b x + n) (turns_behind-snoc x k ks)
    ∙ sym (add_assoc (turn b x) (turns_behind x ks) (turn (last_or x ks) k))

-- where the last of some kinds is a vowel there is one
vowel_is_there : (b : Bool) (ks : List Bool) → last_or b ks ≡ false → b ≡ true → list_any not ks ≡ true
vowel_is_there b [] e f = cc
vowel_is_there b (true ∷ ks) e f = vowel_is_there true ks e refl
vowel_is_there b (false ∷ ks) e f = refl

turn_cases : (l k v : Bool) → (l ≡ false → v ≡ true) → turn l k ≡ (if turn_counts k l v then 1 else 0)
turn_cases true true v h = refl
turn_cases true false v h = refl
turn_cases false false v h = refl
turn_cases false true v h = ap (λ (b : Bool). if b then 1 else 0) (sym (h refl))

pub turns-snoc : (ks : List Bool) (k : Bool)
    → turns (ks ++ k ∷ []) ≡ turns ks + (if turn_counts k (first_of (reverse ks)) (list_any not ks) then 1 else 0)
turns-snoc [] true = refl
turns-snoc [] false = refl
turns-snoc (x ∷ xs) k =
    turns_behind-snoc x k xs
    ∙ ap (λ (n : ℕ). turns_behind x xs + n)
    (turn_cases (last_or x xs) k (list_any not (x ∷ xs)) (λ e. vowel_is_there true (x ∷ xs) e refl))
    ∙ ap (λ (b : Bool). turns_behind x xs + (if turn_counts k b (list_any not (x ∷ xs)) then 1 else 0))
    (sym (last_is (x ∷ xs)))

reverse-snoc : (ks : List Bool) (k : Bool) → reverse (ks ++ k ∷ []) ≡ k ∷ reverse ks
reverse-snoc ks k = reverse-append ks (k ∷ [])

or_false : (b : Bool) → (b || false) ≡ b
or_false true = refl
or_false false = refl

any-snoc : (ks : List Bool) (k : Bool) → list_any not (ks ++ k ∷ []) ≡ (list_any not ks || not k)
any-snoc ks k = list_any-append not ks (k ∷ []) ∙ ap (λ (b : Bool). list_any not ks || b) (or_false (not k))

pub shape_follows : (ks : List Bool) (k : Bool) (s t : Shape) → HasShape ks s → Follows s k t
    → HasShape (ks ++ k ∷ []) t
shape_follows ks k s t h f = record {
  measure_is = f.measure_is ∙ (ap (λ (n : ℕ). n + (if turn_counts k s.last s.has_vowel then 1 else 0)) h.measure_is
      ∙ (ap (λ (b : Bool). turns ks + (if turn_counts k b s.has_vowel then 1 else 0)) h.last_is
      ∙ (ap (λ (b : Bool). turns ks + (if turn_counts k (first_of (reverse ks)) b then 1 else 0)) h.vowel_is
      ∙ sym (turns-snoc ks k))));
  vowel_is = f.vowel_is ∙ (ap (λ (b : Bool). b || not k) h.vowel_is ∙ sym (any-snoc ks k));
  last_is = f.last_is ∙ sym (ap first_of (reverse-snoc ks k));
  second_is = f.second_is ∙ (h.last_is ∙ sym (ap second_of (reverse-snoc ks k)));
  third_is = f.third_is ∙ (h.second_is ∙ sym (ap third_of (reverse-snoc ks k)));
}

pub shape_more : (word : List ℕ) (i : ℕ) (s t : Shape) → i < length word → HasShape (kinds (take i word)) s
    → Follows s (is_consonant s.last (get_or word i 0)) t → HasShape (kinds (take (i + 1) word)) t
shape_more word i s t l h f =
    let f2 = subst (λ (b : Bool). Follows s (is_consonant b (get_or word i 0)) t) h.last_is f in
    subst (λ (ks : List Bool). HasShape ks t)
    (sym (ap kinds (take_more word i 0 l) ∙ kinds-snoc (take i word) (get_or word i 0)))
    (shape_follows (kinds (take i word)) _ s t h f2)

at_most_one : (b : Bool) → (if b then 1 else 0) ≤ 1
at_most_one true = omega arith
at_most_one false = omega arith

pub follows_bound : (s t : Shape) (k : Bool) (n : ℕ) → Follows s k t → s.measure ≤ n → t.measure ≤ n + 1
follows_bound s t k n f h =
    let one = at_most_one (turn_counts k s.last s.has_vowel) in
    omega (arith, f.measure_is)
