-- The verdict on an item by both sides is what a walk says of it, and what is kept of all items is what the
-- walk keeps.
use Rattle.std.proofs.Common.{◌≡◌, ◌≢◌, ◌⊎◌, ◌↔◌, ℕ, Bool, true, false, cond, not, ◌&&◌, ◌||◌, IsTrue, eqb, nat_eq}
use Rattle.std.proofs.Common.{List, [], ◌∷◌}
use Rattle.std.proofs.Common.{map, Option, Some, None, refl, sym, ap, ap₂, subst, ◌∙◌, inl, inr}
use Rattle.std.proofs.Common.{rules}
use denote.Enum.Bare.{sameb, same_true, same_false, true_same}
use Rattle.std.specs.Option.{option_eq}
use Rattle.std.specs.List.{list_any}
use Rattle.ts_base.specs.contracts.Tri.{the_type}
use Rattle.ts_base.specs.declared.Tri.{Tri}
use Rattle.ts_base.specs.declared.Tri.TheVariants.{False, Maybe, True}
use Rattle.page_types.specs.declared.page.Row.{Row}
use Rattle.page_types.specs.Views.{kept_rows_of}
use Rattle.core_state.specs.Log.{In}
use Rattle.core_state.specs.Readings.{Read}
use Rattle.gin_opclass.specs.Class.{Asked, Meaning, JudgeIsSound}
use Rattle.core_moments.specs.Walk.{Walk}
use Rattle.core_moments.specs.Judging.{met, pending_has, main_read, values, is_exception, in_main, starts_page}
use Rattle.core_moments.specs.Judging.{starts_row, IsKept, HasYes}
use Rattle.core_moments.proofs.Judging.{or_left, or_right, any_or_none}
use Rattle.core_moments.proofs.Words.{and_true, same_number, number_itself}
use Rattle.gin_hits.specs.Rows.{first_read, first_of_rows}
use Rattle.gin_hits.specs.Sides.{Side, pending_side, main_side, IsVerdictBy, IsVerdictAlone, IsVerdict, AreKeptOf}
use Rattle.gin_hits.specs.declared.judged.Verdict.{Verdict}

or_either : (a b : Bool) → (a || b) ≡ true → (a ≡ true) ⊎ (b ≡ true)
or_either true b e = inl refl
or_either false b e = inr e

not_both : (b : Bool) → b ≡ true → b ≡ false → ⊥
not_both true e f = cc
not_both false e f = cc

-- ── by the judge's answers ──

tri_bare : (t u : Tri) → sameb the_type t u ≡ true → t ≡ u
tri_bare t u e = same_true the_type (search rules) t u e

-- whether two values are the same
is_so : (t u : Tri) (r : Bool) → r ≡ sameb the_type t u → IsTrue r ↔ (t ≡ u)
is_so t u r told = ((λ e. tri_bare t u (sym told ∙ e)), (λ e. told ∙ true_same the_type t u e))

-- or not
not_so : (t u : Tri) (r : Bool) → r ≡ not (sameb the_type t u) → IsTrue r ↔ (t ≢ u)
not_so t u r told = by (sameb the_type t u) refl
  where
    by : (b : Bool) → sameb the_type t u ≡ b → IsTrue r ↔ (t ≢ u)
    by true f = (
      (λ e. absurd (let z = sym e ∙ told ∙ ap not f in let y : ⊥ = cc in y)),
      (λ off. absurd (off (tri_bare t u f))),
    )
    by false f = ((λ e. same_false the_type t u f), (λ off. told ∙ ap not f))

module _ {Q : Type 0} (M : Meaning Q) (q : Q) (side : Side) (i : ℕ) (absent : Tri) where
  -- one answer says whether the item is kept, the other whether there is a yes
  pub by_answers : (a b : Tri) (kept sure : Bool) → a ≡ M.judged q (values (side.has i) False (M.asked q))
      → b ≡ M.judged q (values (side.has i) absent (M.asked q)) → kept ≡ not (sameb the_type a False)
      → sure ≡ sameb the_type b True → IsVerdictBy M q side i absent (record { kept = kept; yes = sure })
  by_answers a b kept sure one two k y = record {
    kept = subst (λ (t : Tri). IsTrue kept ↔ (t ≢ False)) one (not_so a False kept k);
    yes = subst (λ (t : Tri). IsTrue sure ↔ (t ≡ True)) two (is_so b True sure y);
  }

  -- it is left out
  pub alone_out : (a : Tri) → a ≡ M.judged q (values (side.has i) False (M.asked q)) → true ≡ sameb the_type a False
      → IsVerdictAlone M q side i absent (record { kept = false; yes = false })
  alone_out a one same = record {
    kept = (
      (λ e. absurd (let z : ⊥ = cc in z)),
      (λ off. absurd (off (sym one ∙ tri_bare a False (sym same)))),
    );
    yes = λ e. absurd (let z : ⊥ = cc in z);
  }

  -- it is kept
  pub alone_kept : (a b : Tri) (sure : Bool) → a ≡ M.judged q (values (side.has i) False (M.asked q))
      → b ≡ M.judged q (values (side.has i) absent (M.asked q)) → false ≡ sameb the_type a False
      → sure ≡ sameb the_type b True → IsVerdictAlone M q side i absent (record { kept = true; yes = sure })
  alone_kept a b sure one two other y = record {
    kept = ((λ e j. same_false the_type a False (sym other) (one ∙ j)), (λ off. refl));
    yes = λ e. subst (λ (t : Tri). IsTrue sure ↔ (t ≡ True)) two (is_so b True sure y);
  }

-- ── the item of the first row ──

starts_first : (i : ℕ) (rows : List Row) → first_of_rows rows ≡ Some i → starts_row i rows ≡ true
starts_first i [] e = absurd (let z : ⊥ = cc in z)
starts_first i (r ∷ rs) e =
    let same : r.item ≡ i = cc in subst (λ (j : ℕ). nat_eq j i ≡ true) (sym same) (number_itself i)

first_starts : (i : ℕ) (rows : List Row) → starts_row i rows ≡ true → first_of_rows rows ≡ Some i
first_starts i [] e = absurd (let z : ⊥ = cc in z)
first_starts i (r ∷ rs) e = ap (λ (j : ℕ). Some j) (same_number r.item i e)

pub exception_is : (i : ℕ) (xs : List Read) → first_read xs ≡ Some i → starts_page i xs ≡ true
exception_is i [] e = absurd (let z : ⊥ = cc in z)
exception_is i (x ∷ xs) e = starts_first i (kept_rows_of x.content) e

pub is_the_first : (i : ℕ) (xs : List Read) → starts_page i xs ≡ true → first_read xs ≡ Some i
is_the_first i [] e = absurd (let z : ⊥ = cc in z)
is_the_first i (x ∷ xs) e = first_starts i (kept_rows_of x.content) e

-- what a comparison with the first item says
pub first_is : (o : Option ℕ) (i : ℕ) (r : Bool) → r ≡ option_eq eqb o (Some i) → r ≡ true → o ≡ Some i
first_is None i r e f = absurd (not_both r f e)
first_is (Some j) i r e f = ap Some (same_number j i (sym e ∙ f))

pub other_first : (o : Option ℕ) (i : ℕ) (r : Bool) → r ≡ option_eq eqb o (Some i) → r ≡ false → o ≡ Some i → ⊥
other_first None i r e f g = let z : ⊥ = cc in z
other_first (Some j) i r e f g =
    let same : j ≡ i = cc in
    not_both r (e ∙ subst (λ (k : ℕ). nat_eq k i ≡ true) (sym same) (number_itself i)) f

started_met : (i : ℕ) (rows : List Row) → starts_row i rows ≡ true
    → list_any (λ (row : Row). nat_eq row.item i) rows ≡ true
started_met i [] e = absurd (let z : ⊥ = cc in z)
started_met i (r ∷ rs) e = or_left (nat_eq r.item i) (list_any (λ (row : Row). nat_eq row.item i) rs) e

-- it was met
pub exception_met : (i : ℕ) (xs : List Read) → starts_page i xs ≡ true
    → list_any (λ (x : Read). list_any (λ (row : Row). nat_eq row.item i) (kept_rows_of x.content)) xs ≡ true
exception_met i [] e = absurd (let z : ⊥ = cc in z)
exception_met i (x ∷ xs) e =
    or_left (list_any (λ (row : Row). nat_eq row.item i) (kept_rows_of x.content))
    (list_any (λ (y : Read). list_any (λ (row : Row). nat_eq row.item i) (kept_rows_of y.content)) xs)
    (started_met i (kept_rows_of x.content) e)

module _ {Q : Type 0} (M : Meaning Q) (q : Q) (w : Walk) (i : ℕ) where
  main_of_exception : is_exception w i ≡ true → in_main w i ≡ true
  main_of_exception e = or_left (is_exception w i) (not (met w i) && main_read w i) e

  main_of_unmet : met w i ≡ false → main_read w i ≡ true → in_main w i ≡ true
  main_of_unmet e f =
      or_right (is_exception w i) (not (met w i) && main_read w i) (ap₂ (λ (b c : Bool). not b && c) e f)

  no_main : is_exception w i ≡ false → met w i ≡ true → in_main w i ≡ true → ⊥
  no_main e f g = elim (or_either (is_exception w i) (not (met w i) && main_read w i) g) [
    | inl h ↦ not_both (is_exception w i) h e
    | inr h ↦ not_both (not (met w i)) (and_true (not (met w i)) (main_read w i) h).0 (ap not f)
  ]

  absent_at : (b : Bool) → is_exception w i ≡ b → cond (is_exception w i) Maybe False ≡ cond b Maybe False
  absent_at b e = ap (λ (c : Bool). cond c Maybe False) e

  pub verdict_of_first : (a b v : Verdict) → is_exception w i ≡ true → v.kept ≡ (a.kept || b.kept)
      → v.yes ≡ (a.yes || b.yes) → IsVerdictBy M q (pending_side w) i Maybe a
      → IsVerdictBy M q (main_side w) i Maybe b → IsVerdict M q w i v
  verdict_of_first a b v e vk vy A B = record {
    kept = (
      (λ k. elim (or_either a.kept b.kept (sym vk ∙ k)) [
        | inl f ↦ IsKept.by_pending is_met (A.kept.0 f)
        | inr f ↦ IsKept.by_main (main_of_exception e) (B.kept.0 f)
      ]),
      (λ k. vk ∙ kept_back k),
    );
    yes = λ kept. (
      (λ y. elim (or_either a.yes b.yes (sym vy ∙ y)) [
        | inl f ↦ HasYes.by_pending is_met
            (subst (λ (t : Tri). M.judged q (values (pending_has w i) t (M.asked q)) ≡ True)
            (sym (absent_at true e)) (A.yes.0 f))
        | inr f ↦ HasYes.by_main (main_of_exception e) (B.yes.0 f)
      ]),
      (λ y. vy ∙ yes_back y),
    );
  }
    where
      is_met : met w i ≡ true
      is_met = exception_met i w.pending e

      kept_back : IsKept M q w i → (a.kept || b.kept) ≡ true
      kept_back (IsKept.by_pending m j) = or_left a.kept b.kept (A.kept.1 j)
      kept_back (IsKept.by_main m j) = or_right a.kept b.kept (B.kept.1 j)

      yes_back : HasYes M q w i → (a.yes || b.yes) ≡ true
      yes_back (HasYes.by_pending m j) = or_left a.yes b.yes
          (A.yes.1 (subst (λ (t : Tri). M.judged q (values (pending_has w i) t (M.asked q)) ≡ True)
          (absent_at true e) j))
      yes_back (HasYes.by_main m j) = or_right a.yes b.yes (B.yes.1 j)

  pub verdict_of_met : (v : Verdict) → is_exception w i ≡ false → met w i ≡ true
      → IsVerdictAlone M q (pending_side w) i False v → IsVerdict M q w i v
  verdict_of_met v e m A = record {
    kept = ((λ k. IsKept.by_pending m (A.kept.0 k)), kept_back);
    yes = λ kept. (
      (λ y. HasYes.by_pending m (subst (λ (t : Tri). M.judged q (values (pending_has w i) t (M.asked q)) ≡ True)
          (sym (absent_at false e)) ((A.yes kept).0 y))),
      yes_back kept,
    );
  }
    where
      kept_back : IsKept M q w i → IsTrue v.kept
      kept_back (IsKept.by_pending n j) = A.kept.1 j
      kept_back (IsKept.by_main n j) = absurd (no_main e m n)

      yes_back : IsTrue v.kept → HasYes M q w i → IsTrue v.yes
      yes_back kept (HasYes.by_pending n j) =
          (A.yes kept).1 (subst (λ (t : Tri). M.judged q (values (pending_has w i) t (M.asked q)) ≡ True)
          (absent_at false e) j)
      yes_back kept (HasYes.by_main n j) = absurd (no_main e m n)

  pub verdict_of_unmet : (v : Verdict) → met w i ≡ false → main_read w i ≡ true
      → IsVerdictAlone M q (main_side w) i Maybe v → IsVerdict M q w i v
  verdict_of_unmet v e m A = record {
    kept = ((λ k. IsKept.by_main (main_of_unmet e m) (A.kept.0 k)), kept_back);
    yes = λ kept. ((λ y. HasYes.by_main (main_of_unmet e m) ((A.yes kept).0 y)), yes_back kept);
  }
    where
      kept_back : IsKept M q w i → IsTrue v.kept
      kept_back (IsKept.by_pending n j) = absurd (not_both (met w i) n e)
      kept_back (IsKept.by_main n j) = A.kept.1 j

      yes_back : IsTrue v.kept → HasYes M q w i → IsTrue v.yes
      yes_back kept (HasYes.by_pending n j) = absurd (not_both (met w i) n e)
      yes_back kept (HasYes.by_main n j) = (A.yes kept).1 j

-- ── an item without a key that fits ──

all_false : (has : Asked → Bool) (as' : List Asked) → ((a : Asked) → In a as' → has a ≡ false)
    → values has False as' ≡ map (λ (a : Asked). False) as'
all_false has [] none = refl
all_false has (a ∷ as') none =
    ap₂ (λ (t : Tri) (ts : List Tri). t ∷ ts) (ap (λ (b : Bool). cond b True False) (none a (inl refl)))
    (all_false has as' (λ b m. none b (inr m)))

-- Where the whole index isn't read, an item that isn't left out has a key that fits.
pub some_has : {Q : Type 0} (M : Meaning Q) (S : JudgeIsSound M) (q : Q) (has : Asked → Bool) → M.all q ≡ false
    → M.judged q (values has False (M.asked q)) ≢ False → (a : Asked) × In a (M.asked q) × (has a ≡ true)
some_has M S q has not_all j = elim (any_or_none has (M.asked q)) [
  | inl f ↦ f
  | inr none ↦ absurd (not_both (M.all q)
      (S.whole q (subst (λ (ts : List Tri). M.judged q ts ≢ False) (all_false has (M.asked q) none) j)) not_all)
]

-- ── all items ──

module _ {Q : Type 0} (M : Meaning Q) (q : Q) (w : Walk) where
  pub kept_from : (is : List ℕ) (kept : List (ℕ × Bool)) → AreKeptOf M q w is kept → (i : ℕ)
      → In i (map (λ (k : ℕ × Bool). k.0) kept) → In i is × IsKept M q w i
  kept_from [] kept e i m = absurd (subst (λ (ks : List (ℕ × Bool)). In i (map (λ (k : ℕ × Bool). k.0) ks)) e m)
  kept_from (j ∷ is) kept (inl f) i m =
      elim (subst (λ (ks : List (ℕ × Bool)). In i (map (λ (k : ℕ × Bool). k.0) ks)) f.1.2 m) [
        | inl e ↦ (inl e, subst (IsKept M q w) (sym e) f.0)
        | inr n ↦ let g = kept_from is f.1.1 f.1.4 i n in (inr g.0, g.1)
      ]
  kept_from (j ∷ is) kept (inr f) i m = let g = kept_from is kept f.1 i m in (inr g.0, g.1)

  pub kept_to : (is : List ℕ) (kept : List (ℕ × Bool)) → AreKeptOf M q w is kept → (i : ℕ) → In i is → IsKept M q w i
      → In i (map (λ (k : ℕ × Bool). k.0) kept)
  kept_to [] kept e i m k = absurd m
  kept_to (j ∷ is) kept (inl f) i m k =
      subst (λ (ks : List (ℕ × Bool)). In i (map (λ (k : ℕ × Bool). k.0) ks)) (sym f.1.2)
      (elim m [ inl e ↦ inl e | inr n ↦ inr (kept_to is f.1.1 f.1.4 i n k) ])
  kept_to (j ∷ is) kept (inr f) i (inl e) k = absurd (f.0 (subst (IsKept M q w) e k))
  kept_to (j ∷ is) kept (inr f) i (inr n) k = kept_to is kept f.1 i n k

  pub kept_sure : (is : List ℕ) (kept : List (ℕ × Bool)) → AreKeptOf M q w is kept → (k : ℕ × Bool) → In k kept
      → IsTrue k.1 ↔ HasYes M q w k.0
  kept_sure [] kept e k m = absurd (subst (In k) e m)
  kept_sure (j ∷ is) kept (inl f) k m = elim (subst (In k) f.1.2 m) [
    | inl e ↦ subst (λ (z : ℕ × Bool). IsTrue z.1 ↔ HasYes M q w z.0) (sym e) f.1.3
    | inr n ↦ kept_sure is f.1.1 f.1.4 k n
  ]
  kept_sure (j ∷ is) kept (inr f) k m = kept_sure is kept f.1 k m
