-- Rows on pages of a list, and those of them that were noted.
use Rattle.std.proofs.Common.{◌≡◌, ◌⊎◌, ◌<◌, ◌≤◌, ℕ, zero, suc, List, [], ◌∷◌, ◌++◌, length, take, drop, refl, sym, ap}
use Rattle.std.proofs.Common.{subst, ◌∙◌, inl, inr, arith}
use Rattle.std.proofs.lemmas.List.{take-append-drop, drop_all}
use Rattle.page_types.specs.Views.{rows_of}
use Rattle.page_types.specs.declared.page.Row.{Row}
use Rattle.core_state.specs.Log.{Pages, In}
use Rattle.core_state.specs.Index.{rows_on}
use Rattle.core_state.proofs.PageLists.{in_front, in_back, in_either}
use Rattle.gin_cleanup.specs.Gathering.{noted_rows, past_rows, unread_rows, IsCount, AreCounted}

pub in_take : {A : Type 0} (n : ℕ) (x : A) (xs : List A) → In x (take n xs) → In x xs
in_take n x xs i = subst (In x) (take-append-drop n xs) (in_front x (take n xs) (drop n xs) i)

pub in_drop : {A : Type 0} (n : ℕ) (x : A) (xs : List A) → In x (drop n xs) → In x xs
in_drop n x xs i = subst (In x) (take-append-drop n xs) (in_back x (take n xs) (drop n xs) i)

pub in_part : {A : Type 0} (n : ℕ) (x : A) (xs : List A) → In x xs → In x (take n xs) ⊎ In x (drop n xs)
in_part n x xs i = in_either x (take n xs) (drop n xs) (subst (In x) (sym (take-append-drop n xs)) i)

-- a row on pages is on one of them
pub page_of_row : (P : Pages) (qs : List ℕ) (w : Row) → In w (rows_on P qs) → (q : ℕ) × In q qs × In w (rows_of (P q))
page_of_row P [] w i = absurd i
page_of_row P (q ∷ qs) w i = elim (in_either w (rows_of (P q)) (rows_on P qs) i) [
  | inl j ↦ (q, inl refl, j)
  | inr j ↦ let p = page_of_row P qs w j in (p.0, inr p.1, p.2)
]

pub row_on_page : (P : Pages) (qs : List ℕ) (q : ℕ) (w : Row) → In q qs → In w (rows_of (P q)) → In w (rows_on P qs)
row_on_page P [] q w i m = absurd i
row_on_page P (p ∷ qs) q w (inl e) m =
    in_front w (rows_of (P p)) (rows_on P qs) (subst (λ (z : ℕ). In w (rows_of (P z))) e m)
row_on_page P (p ∷ qs) q w (inr i) m = in_back w (rows_of (P p)) (rows_on P qs) (row_on_page P qs q w i m)

-- noted rows and others are on pages of the list; the pages that were read are its first
pub noted_on : (P : Pages) (ns qs : List ℕ) (w : Row) → In w (noted_rows P ns qs)
    → (q : ℕ) × In q (take (length ns) qs) × In w (rows_of (P q))
noted_on P [] qs w i = absurd i
noted_on P (n ∷ ns) [] w i = absurd i
noted_on P (n ∷ ns) (q ∷ qs) w i = elim (in_either w (take n (rows_of (P q))) (noted_rows P ns qs) i) [
  | inl j ↦ (q, inl refl, in_take n w (rows_of (P q)) j)
  | inr j ↦ let p = noted_on P ns qs w j in (p.0, inr p.1, p.2)
]

-- each row of the list was noted, or came later, or is on a page that was not read
pub row_is : (P : Pages) (ns qs : List ℕ) (q : ℕ) (w : Row) → In q qs → In w (rows_of (P q))
    → In w (noted_rows P ns qs) ⊎ (In w (past_rows P ns qs) ⊎ In w (unread_rows P ns qs))
row_is P [] qs q w i m = inr (inr (row_on_page P qs q w i m))
row_is P (n ∷ ns) [] q w i m = absurd i
row_is P (n ∷ ns) (p ∷ qs) q w (inl e) m =
    elim (in_part n w (rows_of (P p)) (subst (λ (z : ℕ). In w (rows_of (P z))) e m)) [
      | inl j ↦ inl (in_front w (take n (rows_of (P p))) (noted_rows P ns qs) j)
      | inr j ↦ inr (inl (in_front w (drop n (rows_of (P p))) (past_rows P ns qs) j))
    ]
row_is P (n ∷ ns) (p ∷ qs) q w (inr i) m = elim (row_is P ns qs q w i m) [
  | inl j ↦ inl (in_back w (take n (rows_of (P p))) (noted_rows P ns qs) j)
  | inr (inl j) ↦ inr (inl (in_back w (drop n (rows_of (P p))) (past_rows P ns qs) j))
  | inr (inr j) ↦ inr (inr j)
]

-- what was counted
pub count_le : (P : Pages) (left n q : ℕ) → IsCount P left n q → n ≤ length (rows_of (P q))
count_le P zero n q c = absurd c
count_le P (suc zero) n q c = c
count_le P (suc (suc left)) n q c = omega (arith, c)

pub counted_few : (P : Pages) (left : ℕ) (ns qs : List ℕ) → AreCounted P left ns qs
    → (length ns ≤ left) × (length ns ≤ length qs)
counted_few P left [] qs c = (omega arith, omega arith)
counted_few P left (n ∷ ns) [] c = absurd c
counted_few P zero (n ∷ ns) (q ∷ qs) c = absurd c
counted_few P (suc left) (n ∷ ns) (q ∷ qs) c =
    let f = counted_few P left ns qs c.1 in (omega (arith, f.0), omega (arith, f.1))

-- while fewer pages were read than are left, no row came to one of them later
pub no_past : (P : Pages) (left : ℕ) (ns qs : List ℕ) → AreCounted P left ns qs → length ns < left
    → past_rows P ns qs ≡ []
no_past P left [] qs c few = refl
no_past P left (n ∷ ns) [] c few = refl
no_past P zero (n ∷ ns) (q ∷ qs) c few = absurd c
no_past P (suc zero) (n ∷ ns) (q ∷ qs) c few = absurd (omega (arith, few))
no_past P (suc (suc left)) (n ∷ ns) (q ∷ qs) c few =
    ap (λ (k : ℕ). drop k (rows_of (P q)) ++ past_rows P ns qs) c.0
    ∙ ap (λ (ws : List Row). ws ++ past_rows P ns qs) (drop_all (length (rows_of (P q))) (rows_of (P q)) (omega arith))
    ∙ no_past P (suc left) ns qs c.1 (omega (arith, few))
