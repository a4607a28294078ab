-- One item of those with one lexeme.
use Rattle.std.proofs.Common.{◌≡◌, ◌≢◌, ℕ, ◌+◌, ◌*◌, ◌<◌, ◌≤◌, ◌⊎◌, inl, inr, List, [], ◌∷◌, ◌++◌, length, get_or, refl}
use Rattle.std.proofs.Common.{sym, ap, subst, ◌∙◌, arith, length-append}
use Rattle.std.specs.Prelude.{All, AllPairs, Any, Contains}
use Rattle.std.specs.Ordering.{nat_cmp, ordering_reverse}
use Rattle.std.specs.declared.cmp.Ordering.{Ordering}
use Rattle.std.specs.declared.cmp.Ordering.TheVariants.{Less, Equal, Greater}
use Rattle.std.specs.Cmp.Lexicographic.{slice_cmp, nat_list_cmp_total}
use Rattle.std.specs.FinMap.{slice_cmp-IsAntisymmetric, nat_cmp-IsAntisymmetric}
use Rattle.std.proofs.lemmas.List.Elements.{All-append, All-contains, Contains-append_left, Contains-append_right}
use Rattle.std.proofs.lemmas.List.Elements.{Contains-append_cases, Contains-push, Contains-push_cases, Contains-get_or}
use Rattle.std.proofs.lemmas.List.Quantifiers.{all_pairs_push}
use Rattle.std.proofs.lemmas.List.Sums.{sum_by-append, sum_by-cons}
use Rattle.std.proofs.lemmas.List.{get_or_append_left, append-nil}
use Rattle.std.proofs.Math.Seq.{append_snoc, get_or-append_seam}
use Rattle.ts_base.specs.Lexemes.{IsBefore}
use Rattle.ts_base.specs.Vectors.{Position, Entry, IsPosition, content_size}
use Rattle.ts_vector.specs.Normal.{capped}
use Rattle.ts_vector.specs.Inner.Steps.{IsWritten, IsNotAfter, joined, AddsTo, HaveSame, Merges}
use Rattle.ts_vector.proofs.Rising.{contains_head, contains_later, contains_cases, contains_none, any_of, of_any}
use Rattle.ts_vector.proofs.Rising.{pairs_tail, head_before}

abbrev pub Before : Entry → Entry → Type 0
Before a b = IsBefore a.lexeme b.lexeme

abbrev pub entry_size : Entry → ℕ
entry_size e = length e.lexeme + 2 * length e.positions

-- what is not after, and not the same, is before
pub before_or_same : (a b : List ℕ) → ¬ IsBefore b a → a ≢ b → IsBefore a b
before_or_same a b n ne = by (slice_cmp nat_cmp a b) refl
  where
    by : (r : Ordering) → slice_cmp nat_cmp a b ≡ r → IsBefore a b
    by Less e = e
    by Equal e = absurd (ne (slice_cmp-IsAntisymmetric nat_cmp-IsAntisymmetric a b e))
    by Greater e = absurd (n (nat_list_cmp_total.antisymm b a ∙ ap ordering_reverse e))

-- each element is before the last one
in_front : {X : Type 0} (R : X → X → Type 0) (front : List X) (last a : X) → AllPairs R (front ++ last ∷ [])
    → Contains front a → R a last
in_front R front last a h (k, lt, read) =
    let n = length-append front (last ∷ []) in
    let p = h k (length front) a lt (omega arith) in
    subst (λ z. R a z) (get_or-append_seam front last [] a)
    (subst (λ z. R z (get_or (front ++ last ∷ []) (length front) a))
    (get_or_append_left front (last ∷ []) a k lt ∙ read) p)

pairs_front : {X : Type 0} (R : X → X → Type 0) (front : List X) (last : X) → AllPairs R (front ++ last ∷ [])
    → AllPairs R front
pairs_front R front last h i j d lt le =
    let n = length-append front (last ∷ []) in
    let p = h i j d lt (omega arith) in
    subst (λ z. R z (get_or front j d)) (get_or_append_left front (last ∷ []) d i (omega arith))
    (subst (λ z. R (get_or (front ++ last ∷ []) i d) z) (get_or_append_left front (last ∷ []) d j le) p)

pub all_of : {X : Type 0} (P : X → Type 0) (xs : List X) → ((x : X) → Contains xs x → P x) → All P xs
all_of P xs h k d lt = h (get_or xs k d) (Contains-get_or xs k d lt)

-- out is made of the items but for the rest
pub record Merging (items out rest : List Entry) : Type 0 where
  pub rising : AllPairs Before out
  pub up : AllPairs IsNotAfter rest
  pub below : (a b : Entry) → Contains out a → Contains rest b → IsNotAfter a b
  pub valid : All IsWritten (out ++ rest)
  pub same : HaveSame items (out ++ rest)
  pub size : content_size (out ++ rest) ≤ content_size items

-- two items that are side by side, or are joined
module _ (P : Entry → Type 0) (front rest : List Entry) (last e both : Entry) (l : P last → P both) (r : P e → P both)
    (back : P both → P last ⊎ P e) where
  apart : Any P ((front ++ last ∷ []) ++ e ∷ rest) → Any P ((front ++ both ∷ []) ++ rest)
  apart h =
      let x = of_any P ((front ++ last ∷ []) ++ e ∷ rest) h in
      let at : P both → Any P ((front ++ both ∷ []) ++ rest) = λ p. any_of P ((front ++ both ∷ [])
      ++ rest) both (Contains-append_left (front ++ both ∷ []) rest both (Contains-push front both)) p in
      elim (Contains-append_cases (front ++ last ∷ []) (e ∷ rest) x.0 x.1) [
        | inl a ↦ elim (Contains-push_cases front last x.0 a) [
          | inl f ↦ any_of P ((front ++ both ∷ []) ++ rest) x.0
              (Contains-append_left (front ++ both ∷ []) rest x.0 (Contains-append_left front (both ∷ []) x.0 f)) x.2
          | inr s ↦ at (l (subst P (sym s) x.2))
        ]
        | inr b ↦ elim (contains_cases e x.0 rest b) [
          | inl s ↦ at (r (subst P (sym s) x.2))
          | inr t ↦ any_of P ((front ++ both ∷ []) ++ rest) x.0
              (Contains-append_right (front ++ both ∷ []) rest x.0 t) x.2
        ]
      ]

  together : Any P ((front ++ both ∷ []) ++ rest) → Any P ((front ++ last ∷ []) ++ e ∷ rest)
  together h =
      let x = of_any P ((front ++ both ∷ []) ++ rest) h in
      elim (Contains-append_cases (front ++ both ∷ []) rest x.0 x.1) [
        | inl a ↦ elim (Contains-push_cases front both x.0 a) [
          | inl f ↦ any_of P ((front ++ last ∷ []) ++ e ∷ rest) x.0 (Contains-append_left (front ++ last ∷ [])
              (e ∷ rest) x.0 (Contains-append_left front (last ∷ []) x.0 f)) x.2
          | inr s ↦ elim (back (subst P (sym s) x.2)) [
            | inl p ↦ any_of P ((front ++ last ∷ []) ++ e ∷ rest) last
                (Contains-append_left (front ++ last ∷ []) (e ∷ rest) last (Contains-push front last)) p
            | inr p ↦ any_of P ((front ++ last ∷ []) ++ e ∷ rest) e
                (Contains-append_right (front ++ last ∷ []) (e ∷ rest) e (contains_head e rest)) p
          ]
        ]
        | inr t ↦ any_of P ((front ++ last ∷ []) ++ e ∷ rest) x.0
            (Contains-append_right (front ++ last ∷ []) (e ∷ rest) x.0 (contains_later e x.0 rest t)) x.2
      ]

-- an item of a lexeme that is at p
abbrev pub HasPlace : List ℕ → Position → Entry → Type 0
HasPlace l p e = (e.lexeme ≡ l) × Any (λ q. capped q ≡ p) e.positions

pub any_left : {X : Type 0} (P : X → Type 0) (xs ys : List X) → Any P xs → Any P (xs ++ ys)
any_left P xs ys h = let x = of_any P xs h in any_of P (xs ++ ys) x.0 (Contains-append_left xs ys x.0 x.1) x.2

pub any_right : {X : Type 0} (P : X → Type 0) (xs ys : List X) → Any P ys → Any P (xs ++ ys)
any_right P xs ys h = let x = of_any P ys h in any_of P (xs ++ ys) x.0 (Contains-append_right xs ys x.0 x.1) x.2

pub any_cases : {X : Type 0} (P : X → Type 0) (xs ys : List X) → Any P (xs ++ ys) → Any P xs ⊎ Any P ys
any_cases P xs ys h =
    let x = of_any P (xs ++ ys) h in
    elim (Contains-append_cases xs ys x.0 x.1)
    [ inl a ↦ inl (any_of P xs x.0 a x.2) | inr b ↦ inr (any_of P ys x.0 b x.2) ]

module _ (last e : Entry) (eq : last.lexeme ≡ e.lexeme) where
  pub place_left : (l : List ℕ) (p : Position) → HasPlace l p last → HasPlace l p (joined last e)
  place_left l p h = (h.0, any_left (λ q. capped q ≡ p) last.positions e.positions h.1)

  pub place_right : (l : List ℕ) (p : Position) → HasPlace l p e → HasPlace l p (joined last e)
  place_right l p h = (eq ∙ h.0, any_right (λ q. capped q ≡ p) last.positions e.positions h.1)

  pub place_back : (l : List ℕ) (p : Position) → HasPlace l p (joined last e) → HasPlace l p last ⊎ HasPlace l p e
  place_back l p h = elim (any_cases (λ q. capped q ≡ p) last.positions e.positions h.1)
      [ inl a ↦ inl (h.0, a) | inr b ↦ inr (sym eq ∙ h.0, b) ]

  joined_same : (front rest : List Entry)
      → HaveSame ((front ++ last ∷ []) ++ e ∷ rest) ((front ++ joined last e ∷ []) ++ rest)
  joined_same front rest = record {
    names_to = λ l. apart (λ x. x.lexeme ≡ l) front rest last e (joined last e) (λ h. h) (λ h. eq ∙ h) (λ h. inl h);
    names_from =
        λ l. together (λ x. x.lexeme ≡ l) front rest last e (joined last e) (λ h. h) (λ h. eq ∙ h) (λ h. inl h);
    places_to = λ l p. apart (HasPlace l p) front rest last e (joined last e) (place_left l p) (place_right l p)
        (place_back l p);
    places_from = λ l p. together (HasPlace l p) front rest last e (joined last e) (place_left l p) (place_right l p)
        (place_back l p);
  }

pub same_through : (xs ys zs : List Entry) → HaveSame xs ys → HaveSame ys zs → HaveSame xs zs
same_through xs ys zs h k = record {
  names_to = λ l n. k.names_to l (h.names_to l n);
  names_from = λ l n. h.names_from l (k.names_from l n);
  places_to = λ l p n. k.places_to l p (h.places_to l p n);
  places_from = λ l p n. h.places_from l p (k.places_from l p n);
}

pub same_itself : (xs : List Entry) → HaveSame xs xs
same_itself xs = record { names_to = λ l n. n; names_from = λ l n. n; places_to = λ l p n. n; places_from = λ l p n. n }

-- ── the start, a step and the end ──
pub merge_start : (items : List Entry) → All IsWritten items → AllPairs IsNotAfter items → Merging items [] items
merge_start items v up = record {
  rising = λ i j d lt le. absurd (omega arith);
  up = up;
  below = λ a b c _. absurd (let lt : c.0 < 0 = c.1 in omega arith);
  valid = v;
  same = same_itself items;
  size = omega arith;
}

pub merge_end : (items out : List Entry) → Merging items out [] → Merges items out
merge_end items out m = record {
  rising = m.rising;
  valid = subst (All IsWritten) (append-nil out) m.valid;
  same = subst (HaveSame items) (append-nil out) m.same;
  size = subst (λ t. content_size t ≤ content_size items) (append-nil out) m.size;
}

pub size-append : (xs ys : List Entry) → content_size (xs ++ ys) ≡ content_size xs + content_size ys
size-append xs ys = sum_by-append entry_size xs ys

pub size-cons : (x : Entry) (xs : List Entry) → content_size (x ∷ xs) ≡ entry_size x + content_size xs
size-cons x xs = sum_by-cons entry_size x xs

size-joined : (front : List Entry) (last e : Entry) (rest : List Entry)
    → content_size ((front ++ joined last e ∷ []) ++ rest) ≤ content_size ((front ++ last ∷ []) ++ e ∷ rest)
size-joined front last e rest =
    omega (
      arith,
      size-append (front ++ joined last e ∷ []) rest,
      size-append front (joined last e ∷ []),
      size-cons (joined last e) [],
      size-append (front ++ last ∷ []) (e ∷ rest),
      size-append front (last ∷ []),
      size-cons last [],
      size-cons e rest,
      length-append last.positions e.positions,
    )

module _ (items rest : List Entry) (e : Entry) where
  -- e becomes the last item
  behind : (out new : List Entry) → Merging items out (e ∷ rest) → ((a : Entry) → Contains out a → Before a e)
      → new ≡ out ++ e ∷ [] → Merging items new rest
  behind out new m lower is = rw is (record {
    rising = all_pairs_push Before out e m.rising (λ k d lt. lower (get_or out k d) (Contains-get_or out k d lt));
    up = pairs_tail IsNotAfter e rest m.up;
    below = λ a b c k. elim (Contains-push_cases out e a c) [
      | inl t ↦ m.below a b t (contains_later e b rest k)
      | inr s ↦ subst (λ x. IsNotAfter x b) s (head_before IsNotAfter e b rest m.up k)
    ];
    valid = subst (All IsWritten) (sym (append_snoc out e rest)) m.valid;
    same = subst (HaveSame items) (sym (append_snoc out e rest)) m.same;
    size = subst (λ t. content_size t ≤ content_size items) (sym (append_snoc out e rest)) m.size;
  })

  module _ (front : List Entry) (last : Entry) (m : Merging items (front ++ last ∷ []) (e ∷ rest)) where
    not_after : (a : Entry) → Contains (front ++ last ∷ []) a → IsNotAfter a e
    not_after a c = m.below a e c (contains_head e rest)

    lower_than_other : last.lexeme ≢ e.lexeme → (a : Entry) → Contains (front ++ last ∷ []) a → Before a e
    lower_than_other ne a c =
        let le : Before last e = before_or_same last.lexeme e.lexeme (not_after last (Contains-push front last)) ne in
        elim (Contains-push_cases front last a c) [
          | inl f ↦ nat_list_cmp_total.trans a.lexeme last.lexeme e.lexeme (in_front Before front last a m.rising f) le
          | inr s ↦ subst (λ x. Before x e) s le
        ]

    written : (a : Entry) → Contains ((front ++ last ∷ []) ++ e ∷ rest) a → IsWritten a
    written a c = All-contains IsWritten ((front ++ last ∷ []) ++ e ∷ rest) a m.valid c

    both_written : IsWritten (joined last e)
    both_written =
        let l = written last (Contains-append_left (front ++ last ∷ []) (e ∷ rest) last (Contains-push front last)) in
        let r = written e (Contains-append_right (front ++ last ∷ []) (e ∷ rest) e (contains_head e rest)) in
        record {
          lexeme = l.lexeme;
          positions = All-append IsPosition last.positions e.positions l.positions r.positions;
        }

    into_last : (new : List Entry) → last.lexeme ≡ e.lexeme → new ≡ front ++ joined last e ∷ [] → Merging items new rest
    into_last new eq is = rw is (record {
      rising = all_pairs_push Before front (joined last e) (pairs_front Before front last m.rising)
          (λ k d lt. in_front Before front last (get_or front k d) m.rising (Contains-get_or front k d lt));
      up = pairs_tail IsNotAfter e rest m.up;
      below = λ a b c k. elim (Contains-push_cases front (joined last e) a c) [
        | inl f ↦ m.below a b (Contains-append_left front (last ∷ []) a f) (contains_later e b rest k)
        | inr s ↦ subst (λ x. IsNotAfter x b) s (m.below last b (Contains-push front last) (contains_later e b rest k))
      ];
      valid = all_of IsWritten ((front ++ joined last e ∷ []) ++ rest)
          (λ a c. elim (Contains-append_cases (front ++ joined last e ∷ []) rest a c) [
            | inl t ↦ elim (Contains-push_cases front (joined last e) a t) [
              | inl f ↦ written a
                  (Contains-append_left (front ++ last ∷ []) (e ∷ rest) a (Contains-append_left front (last ∷ []) a f))
              | inr s ↦ subst IsWritten s both_written
            ]
            | inr t ↦ written a (Contains-append_right (front ++ last ∷ []) (e ∷ rest) a (contains_later e a rest t))
          ]);
      same = same_through items ((front ++ last ∷ []) ++ e ∷ rest) ((front ++ joined last e ∷ []) ++ rest) m.same
          (joined_same last e eq front rest);
      size = let s = size-joined front last e rest in omega (arith, m.size);
    })

  pub merge_step : (out new : List Entry) → Merging items out (e ∷ rest) → AddsTo out e new → Merging items new rest
  merge_step out new m (inl (none, is)) = behind out new m
      (λ a c. absurd (contains_none a (subst (λ o. Contains o a) none c))) (is ∙ ap (λ t. t ++ e ∷ []) (sym none))
  merge_step out new m (inr (front, last, old, inl (eq, is))) =
      into_last front last (subst (λ o. Merging items o (e ∷ rest)) old m) new eq is
  merge_step out new m (inr (front, last, old, inr (ne, is))) =
      behind out new m (λ a c. lower_than_other front last (subst (λ o. Merging items o (e ∷ rest)) old m) ne a
      (subst (λ o. Contains o a) old c)) is
