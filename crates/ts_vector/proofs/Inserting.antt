-- Entries of a map from lexemes to their positions, before and after an insertion.
use Rattle.std.proofs.Common.{◌≡◌, ◌≢◌, ℕ, ◌+◌, ◌*◌, ◌⊎◌, inl, inr, List, [], ◌∷◌, length, refl, sym, ap, subst, ◌∙◌}
use Rattle.std.proofs.Common.{arith}
use Rattle.std.specs.Prelude.{AllPairs, Contains, Vec, Some, None, cond}
use Rattle.std.specs.declared.alloc.Global.{Global}
use Rattle.std.specs.BTreeMap.{insert_entry, is_at}
use Rattle.std.specs.Map.{lookup}
use Rattle.std.specs.Ordering.{nat_cmp, match_ordering, is_eq, ordering_reverse}
use Rattle.std.specs.declared.cmp.Ordering.{Ordering}
use Rattle.std.specs.declared.cmp.Ordering.TheVariants.{Less, Equal, Greater}
use Rattle.std.specs.Cmp.Lexicographic.{slice_cmp, nat_list_cmp_total}
use Rattle.std.specs.FinMap.{slice_cmp-IsAntisymmetric, nat_cmp-IsAntisymmetric}
use Rattle.std.proofs.lemmas.List.Elements.{All-nil}
use Rattle.std.proofs.lemmas.List.Kept.{AllPairs-cons}
use Rattle.ts_base.specs.Vectors.{Position, Entry, content_size}
use Rattle.ts_vector.specs.Normal.{Names}
use Rattle.ts_vector.specs.Pairs.{pair_of, pairs_of}
use Rattle.ts_vector.specs.Inner.Columns.{entry}
use Rattle.ts_vector.proofs.Rising.{contains_head, contains_later, contains_cases, contains_none, any_of, of_any}
use Rattle.ts_vector.proofs.Rising.{pairs_tail, head_before}
use Rattle.ts_vector.proofs.Forms.{before_one_way}
use Rattle.ts_vector.proofs.Merging.{Before, all_of, size-cons}

abbrev pub Pair : Type 0
Pair = List ℕ × Vec Position Global

abbrev pub order : List ℕ → List ℕ → Ordering
order = slice_cmp nat_cmp

pub same_of : (a b : List ℕ) → order a b ≡ Equal → a ≡ b
same_of a b e = slice_cmp-IsAntisymmetric nat_cmp-IsAntisymmetric a b e

other_less : (a b : List ℕ) → order a b ≡ Less → b ≢ a
other_less a b e s = let t : order a a ≡ Less = subst (λ w. order a w ≡ Less) s e in before_one_way a a t t

other_greater : (a b : List ℕ) → order a b ≡ Greater → b ≢ a
other_greater a b e s =
    let r : order b a ≡ Less = nat_list_cmp_total.antisymm b a ∙ ap ordering_reverse e in other_less b a r (sym s)

order_same : (a : List ℕ) → order a a ≡ Equal
order_same a = by (order a a) refl
  where
    by : (r : Ordering) → order a a ≡ r → order a a ≡ Equal
    by Less q = absurd (before_one_way a a q q)
    by Equal q = q
    by Greater q = absurd (other_greater a a q refl)

-- ── the entries that an insertion leaves ──
abbrev pub inserted : List ℕ → Vec Position Global → List Pair → List Pair
inserted k v es = insert_entry order es k v

module _ (k : List ℕ) (v : Vec Position Global) where
  abbrev put : List Pair → List Pair
  put es = inserted k v es

  pub insert_there : (es : List Pair) → Contains (pairs_of (put es)) (pair_of (k, v))
  insert_there [] = contains_head (pair_of (k, v)) []
  insert_there (e ∷ es) = by (order k e.0) refl (insert_there es)
    where
      by : (r : Ordering) → order k e.0 ≡ r → Contains (pairs_of (put es)) (pair_of (k, v))
          → Contains (pairs_of (match_ordering r ((k, v) ∷ e ∷ es) ((e.0, v) ∷ es) (e ∷ put es))) (pair_of (k, v))
      by Less q ih = contains_head (pair_of (k, v)) (pairs_of (e ∷ es))
      by Equal q ih = subst (λ l. Contains (entry l v.items ∷ pairs_of es) (pair_of (k, v))) (same_of k e.0 q)
          (contains_head (pair_of (k, v)) (pairs_of es))
      by Greater q ih = contains_later (pair_of e) (pair_of (k, v)) (pairs_of (put es)) ih

  pub insert_from : (es : List Pair) (x : Entry) → AllPairs Before (pairs_of es) → Contains (pairs_of (put es)) x
      → (x ≡ pair_of (k, v)) ⊎ ((x.lexeme ≢ k) × Contains (pairs_of es) x)
  insert_from [] x up c =
      elim (contains_cases (pair_of (k, v)) x [] c) [ inl s ↦ inl (sym s) | inr n ↦ absurd (contains_none x n) ]
  insert_from (e ∷ es) x up c =
      by (order k e.0) refl (insert_from es x (pairs_tail Before (pair_of e) (pairs_of es) up)) c
    where
      over : (e : Pair) (es : List Pair) → order k e.0 ≡ Less → AllPairs Before (pairs_of (e ∷ es))
          → Contains (pairs_of (e ∷ es)) x → order k x.lexeme ≡ Less
      over e es q up t = elim (contains_cases (pair_of e) x (pairs_of es) t) [
        | inl s ↦ subst (λ y. order k y.lexeme ≡ Less) s q
        | inr u ↦ nat_list_cmp_total.trans k e.0 x.lexeme q (head_before Before (pair_of e) x (pairs_of es) up u)
      ]

      later : (l : List ℕ) → order l x.lexeme ≡ Less → l ≡ k → x.lexeme ≢ k
      later l lt s = subst (λ w. x.lexeme ≢ w) s (other_less l x.lexeme lt)

      by : (r : Ordering) → order k e.0 ≡ r
          → (Contains (pairs_of (put es)) x → (x ≡ pair_of (k, v)) ⊎ ((x.lexeme ≢ k) × Contains (pairs_of es) x))
          → Contains (pairs_of (match_ordering r ((k, v) ∷ e ∷ es) ((e.0, v) ∷ es) (e ∷ put es))) x
          → (x ≡ pair_of (k, v)) ⊎ ((x.lexeme ≢ k) × Contains (pairs_of (e ∷ es)) x)
      by Less q ih c = elim (contains_cases (pair_of (k, v)) x (pairs_of (e ∷ es)) c) [
        | inl s ↦ inl (sym s)
        | inr t ↦ inr (other_less k x.lexeme (over e es q up t), t)
      ]
      by Equal q ih c = elim (contains_cases (entry e.0 v.items) x (pairs_of es) c) [
        | inl s ↦ inl (sym s ∙ ap (λ l. entry l v.items) (sym (same_of k e.0 q)))
        | inr t ↦ inr (
          later e.0 (head_before Before (pair_of e) x (pairs_of es) up t) (sym (same_of k e.0 q)),
          contains_later (pair_of e) x (pairs_of es) t,
        )
      ]
      by Greater q ih c = elim (contains_cases (pair_of e) x (pairs_of (put es)) c) [
        | inl s ↦ inr (
          subst (λ y. y.lexeme ≢ k) s (other_greater k e.0 q),
          subst (λ y. Contains (pairs_of (e ∷ es)) y) s (contains_head (pair_of e) (pairs_of es)),
        )
        | inr t ↦ elim (ih t) [
          | inl s ↦ inl s
          | inr (ne, d) ↦ inr (ne, contains_later (pair_of e) x (pairs_of es) d)
        ]
      ]

  pub insert_to : (es : List Pair) (x : Entry) → Contains (pairs_of es) x
      → (x.lexeme ≡ k) ⊎ Contains (pairs_of (put es)) x
  insert_to [] x c = absurd (contains_none x c)
  insert_to (e ∷ es) x c = by (order k e.0) refl (insert_to es x)
    where
      by : (r : Ordering) → order k e.0 ≡ r
          → (Contains (pairs_of es) x → (x.lexeme ≡ k) ⊎ Contains (pairs_of (put es)) x)
          → (x.lexeme ≡ k) ⊎ Contains (pairs_of (match_ordering r ((k, v) ∷ e ∷ es) ((e.0, v) ∷ es) (e ∷ put es))) x
      by Less q ih = inr (contains_later (pair_of (k, v)) x (pairs_of (e ∷ es)) c)
      by Equal q ih = elim (contains_cases (pair_of e) x (pairs_of es) c) [
        | inl s ↦ inl (sym (ap (λ y. y.lexeme) s) ∙ sym (same_of k e.0 q))
        | inr t ↦ inr (contains_later (entry e.0 v.items) x (pairs_of es) t)
      ]
      by Greater q ih = elim (contains_cases (pair_of e) x (pairs_of es) c) [
        | inl s ↦ inr
            (subst (λ y. Contains (pairs_of (e ∷ put es)) y) s (contains_head (pair_of e) (pairs_of (put es))))
        | inr t ↦ elim (ih t) [ inl s ↦ inl s | inr d ↦ inr (contains_later (pair_of e) x (pairs_of (put es)) d) ]
      ]

  pub insert_rising : (es : List Pair) → AllPairs Before (pairs_of es) → AllPairs Before (pairs_of (put es))
  insert_rising [] up = AllPairs-cons Before (pair_of (k, v)) [] (All-nil (Before (pair_of (k, v)))) up
  insert_rising (e ∷ es) up = by (order k e.0) refl (insert_rising es (pairs_tail Before (pair_of e) (pairs_of es) up))
    where
      tail : AllPairs Before (pairs_of es)
      tail = pairs_tail Before (pair_of e) (pairs_of es) up

      by : (r : Ordering) → order k e.0 ≡ r → AllPairs Before (pairs_of (put es))
          → AllPairs Before (pairs_of (match_ordering r ((k, v) ∷ e ∷ es) ((e.0, v) ∷ es) (e ∷ put es)))
      by Less q ih = AllPairs-cons Before (pair_of (k, v)) (pairs_of (e ∷ es)) (all_of (Before (pair_of (k, v)))
          (pairs_of (e ∷ es)) (λ x c. elim (contains_cases (pair_of e) x (pairs_of es) c) [
            | inl s ↦ subst (λ y. order k y.lexeme ≡ Less) s q
            | inr u ↦ nat_list_cmp_total.trans k e.0 x.lexeme q (head_before Before (pair_of e) x (pairs_of es) up u)
          ])) up
      by Equal q ih = AllPairs-cons Before (entry e.0 v.items) (pairs_of es) (all_of (Before (entry e.0 v.items))
          (pairs_of es) (λ x c. head_before Before (pair_of e) x (pairs_of es) up c)) tail
      by Greater q ih = AllPairs-cons Before (pair_of e) (pairs_of (put es))
          (all_of (Before (pair_of e)) (pairs_of (put es)) (λ x c. elim (insert_from es x tail c) [
            | inl s ↦ subst (λ y. order e.0 y.lexeme ≡ Less) (sym s)
                (nat_list_cmp_total.antisymm e.0 k ∙ ap ordering_reverse q)
            | inr (ne, d) ↦ head_before Before (pair_of e) x (pairs_of es) up d
          ])) ih

  abbrev size_of : Entry → ℕ
  size_of e = length e.lexeme + 2 * length e.positions

  -- a lexeme that no entry has adds its content
  pub insert_new : (es : List Pair) → AllPairs Before (pairs_of es) → ¬ Names (pairs_of es) k
      → content_size (pairs_of (put es)) ≡ content_size (pairs_of es) + size_of (pair_of (k, v))
  insert_new [] up none = omega (arith, size-cons (pair_of (k, v)) [])
  insert_new (e ∷ es) up none =
      by (order k e.0) refl
      (insert_new es (pairs_tail Before (pair_of e) (pairs_of es) up)
      (λ n. let x = of_any (λ x. x.lexeme ≡ k) (pairs_of es) n in none
      (any_of (λ x. x.lexeme ≡ k) (pairs_of (e ∷ es)) x.0 (contains_later (pair_of e) x.0 (pairs_of es) x.1) x.2)))
    where
      by : (r : Ordering) → order k e.0 ≡ r → content_size (pairs_of (put es)) ≡ content_size (pairs_of es) + size_of
          (pair_of (k, v)) → content_size (pairs_of (match_ordering r ((k, v) ∷ e ∷ es) ((e.0, v) ∷ es) (e ∷ put es)))
          ≡ content_size (pairs_of (e ∷ es)) + size_of (pair_of (k, v))
      by Less q ih = omega (arith, size-cons (pair_of (k, v)) (pairs_of (e ∷ es)))
      by Equal q ih = absurd (none (any_of (λ x. x.lexeme ≡ k) (pairs_of (e ∷ es)) (pair_of e)
          (contains_head (pair_of e) (pairs_of es)) (sym (same_of k e.0 q))))
      by Greater q ih = omega (arith, size-cons (pair_of e) (pairs_of es), size-cons (pair_of e) (pairs_of (put es)))

  -- and one that an entry has takes the place of its content
  pub insert_over : (es : List Pair) (ps : List Position)
      → AllPairs Before (pairs_of es) → Contains (pairs_of es) (entry k ps)
      → content_size (pairs_of (put es)) + size_of (entry k ps) ≡ content_size (pairs_of es) + size_of (pair_of (k, v))
  insert_over [] ps up c = absurd (contains_none (entry k ps) c)
  insert_over (e ∷ es) ps up c =
      by (order k e.0) refl (insert_over es ps (pairs_tail Before (pair_of e) (pairs_of es) up))
    where
      by : (r : Ordering) → order k e.0 ≡ r → (Contains (pairs_of es) (entry k ps) → content_size (pairs_of
          (put es)) + size_of (entry k ps) ≡ content_size (pairs_of es) + size_of (pair_of (k, v)))
          → content_size (pairs_of (match_ordering r ((k, v) ∷ e ∷ es) ((e.0, v) ∷ es) (e ∷ put es))) + size_of (entry k
          ps) ≡ content_size (pairs_of (e ∷ es)) + size_of (pair_of (k, v))
      by Less q ih = absurd (elim (contains_cases (pair_of e) (entry k ps) (pairs_of es) c) [
        | inl s ↦ other_less k e.0 q (ap (λ y. y.lexeme) s)
        | inr t ↦ before_one_way k e.0 q (head_before Before (pair_of e) (entry k ps) (pairs_of es) up t)
      ])
      by Equal q ih = elim (contains_cases (pair_of e) (entry k ps) (pairs_of es) c) [
        | inl s ↦
            let l : length e.0 ≡ length k = ap (λ y. length y.lexeme) s in
            let n : length e.1.items ≡ length ps = ap (λ y. length y.positions) s in
            omega (arith, size-cons (pair_of e) (pairs_of es), size-cons (entry e.0 v.items) (pairs_of es))
        | inr t ↦ absurd
            (other_less e.0 k (head_before Before (pair_of e) (entry k ps) (pairs_of es) up t) (same_of k e.0 q))
      ]
      by Greater q ih = elim (contains_cases (pair_of e) (entry k ps) (pairs_of es) c) [
        | inl s ↦ absurd (other_greater k e.0 q (ap (λ y. y.lexeme) s))
        | inr t ↦
            let n = ih t in
            omega (arith, n, size-cons (pair_of e) (pairs_of es), size-cons (pair_of e) (pairs_of (put es)))
      ]

-- ── what a look-up finds ──
module _ (k : List ℕ) where
  pub found_there : (es : List Pair) (v : Vec Position Global) → lookup (is_at (order k)) es ≡ Some v
      → Contains (pairs_of es) (entry k v.items)
  found_there [] v e = absurd (cc)
  found_there (x ∷ es) v e = by (order k x.0) refl (found_there es v) e
    where
      by : (r : Ordering) → order k x.0 ≡ r → (lookup (is_at (order k)) es ≡ Some v
          → Contains (pairs_of es) (entry k v.items)) → cond (is_eq r) (Some x.1) (lookup (is_at (order k)) es) ≡ Some v
          → Contains (pairs_of (x ∷ es)) (entry k v.items)
      by Less q ih e = contains_later (pair_of x) (entry k v.items) (pairs_of es) (ih e)
      by Equal q ih e =
          let s : x.1 ≡ v = cc in
          subst (λ y. Contains (pairs_of (x ∷ es)) y) (λ i. entry (sym (same_of k x.0 q) i) (ap (λ w. w.items) s i))
          (contains_head (pair_of x) (pairs_of es))
      by Greater q ih e = contains_later (pair_of x) (entry k v.items) (pairs_of es) (ih e)

  pub none_there : (es : List Pair) → lookup (is_at (order k)) es ≡ None → ¬ Names (pairs_of es) k
  none_there [] e n = let x = of_any (λ x. x.lexeme ≡ k) [] n in contains_none x.0 x.1
  none_there (x ∷ es) e n = by (order k x.0) refl (none_there es) e
    where
      past : order k x.0 ≢ Equal → ¬ Names (pairs_of es) k → ⊥
      past ne none =
          let y = of_any (λ y. y.lexeme ≡ k) (pairs_of (x ∷ es)) n in
          elim (contains_cases (pair_of x) y.0 (pairs_of es) y.1) [
            | inl s ↦ ne (subst (λ l. order k l ≡ Equal) (sym y.2 ∙ sym (ap (λ z. z.lexeme) s)) (order_same k))
            | inr t ↦ none (any_of (λ y. y.lexeme ≡ k) (pairs_of es) y.0 t y.2)
          ]

      by : (r : Ordering) → order k x.0 ≡ r → (lookup (is_at (order k)) es ≡ None → ¬ Names (pairs_of es) k)
          → cond (is_eq r) (Some x.1) (lookup (is_at (order k)) es) ≡ None → ⊥
      by Less q ih f = past (λ s. absurd (let t : Less ≡ Equal = sym q ∙ s in cc)) (ih f)
      by Equal q ih f = cc
      by Greater q ih f = past (λ s. absurd (let t : Greater ≡ Equal = sym q ∙ s in cc)) (ih f)
