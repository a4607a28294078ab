-- Items have one list of rows.
use Rattle.std.proofs.Common.{◌≡◌, ◌≢◌, ◌⊎◌, inl, inr, ℕ, List, [], ◌∷◌, ◌++◌, refl, ap, ◌∙◌, true, false, codes}
use Rattle.std.specs.Prelude.{bytes_eq}
use Rattle.std.proofs.lemmas.Slice.Eq.{bytes_eq-Decides}
use Rattle.ts_base.specs.Words.{lower}
use Rattle.ts_websearch.specs.Items.{WebItem, quoted, row, hyphen}
use Rattle.ts_websearch.specs.Rows.{IsOr, IsOperator, AreRows, rows_end, item_more, or_between}
use Rattle.ts_websearch.specs.Laws.{RowsAreOne}

-- ── operators ──
or_text : (text : List ℕ) → (lower text ≡ codes "or") ⊎ (lower text ≢ codes "or")
or_text text = elim (bytes_eq (lower text) (codes "or"))
    as (λ b. bytes_eq (lower text) (codes "or") ≡ b → (lower text ≡ codes "or") ⊎
    (lower text ≢ codes "or")) [
      | true ↦ (λ e. inl ((bytes_eq-Decides (lower text) (codes "or")).0 e))
      | false ↦ (λ e. inr (λ f. let g = (bytes_eq-Decides (lower text) (codes "or")).1 f in
          let no : ⊥ = cc in no))
    ] refl

or_item : (i : WebItem) → IsOr i ⊎ (¬ IsOr i)
or_item (quoted negated text) = inr (λ h. h)
or_item (row true text) = inr (λ h. h)
or_item (row false text) = or_text text
or_item hyphen = inr (λ h. h)

operator_here : (a : List WebItem) (i : WebItem) (is : List WebItem) → IsOperator a i is
    ⊎ (¬ IsOperator a i is)
operator_here [] i is = inr (λ h. h.0 refl)
operator_here (b ∷ a) i [] = inr (λ h. h.2 refl)
operator_here (b ∷ a) i (j ∷ is) = elim (or_item i) [
  | inl h ↦ inl ((λ e. let no : ⊥ = cc in no), h, (λ e. let no : ⊥ = cc in no))
  | inr h ↦ inr (λ k. h k.1)
]

-- ── rows ──
record OneFrom (a is : List WebItem) : Type 0 where
  rows : List (List WebItem)
  are : AreRows a is rows
  only : (others : List (List WebItem)) → AreRows a is others → others ≡ rows

ends_so : (a : List WebItem) (rows : List (List WebItem)) → AreRows a [] rows → rows ≡ a ∷ []
ends_so a rows (rows_end b) = refl

goes_on : (a : List WebItem) (i : WebItem) (is : List WebItem) (rows : List (List WebItem))
    → ¬ IsOperator a i is → AreRows a (i ∷ is) rows → AreRows (a ++ i ∷ []) is rows
goes_on a i is rows n (item_more b j js r m h) = h
goes_on a i is rows n (or_between b j js r o h) = absurd (n o)

record Behind (a is : List WebItem) (rows : List (List WebItem)) : Type 0 where
  others : List (List WebItem)
  split : rows ≡ a ∷ others
  are : AreRows [] is others

row_ends : (a : List WebItem) (i : WebItem) (is : List WebItem) (rows : List (List WebItem)) → IsOperator a i is
    → AreRows a (i ∷ is) rows → Behind a is rows
row_ends a i is rows o (item_more b j js r m h) = absurd (m o)
row_ends a i is rows o (or_between b j js r p h) = record { others = r; split = refl; are = h }

item_one : (a : List WebItem) (i : WebItem) (is : List WebItem) → ¬ IsOperator a i is
    → OneFrom (a ++ i ∷ []) is → OneFrom a (i ∷ is)
item_one a i is n o =
    record {
      rows = o.rows;
      are = item_more a i is o.rows n o.are;
      only =
          λ rs h. o.only rs (goes_on a i is rs n h);
    }

or_one : (a : List WebItem) (i : WebItem) (is : List WebItem) → IsOperator a i is → OneFrom [] is
    → OneFrom a (i ∷ is)
or_one a i is p o = record {
  rows = a ∷ o.rows;
  are = or_between a i is o.rows p o.are;
  only = λ rs h. let b = row_ends a i is rs p h in
      b.split ∙ ap (λ l. a ∷ l) (o.only b.others b.are);
}

one_from : (is a : List WebItem) → OneFrom a is
one_from [] a = record { rows = a ∷ []; are = rows_end a; only = λ rs h. ends_so a rs h }
one_from (i ∷ is) a = elim (operator_here a i is) [
  | inl p ↦ or_one a i is p (one_from is [])
  | inr n ↦ item_one a i is n (one_from is (a ++ i ∷ []))
]

-- after any beginning of a row there are rows
pub rows_from : (a is : List WebItem) → (rows : List (List WebItem)) × AreRows a is rows
rows_from a is = let o = one_from is a in (o.rows, o.are)

pub rows_are_one : RowsAreOne
rows_are_one items = let o = one_from items [] in
    record { rows = o.rows; are = o.are; only = o.only }
