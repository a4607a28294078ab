-- When an item of a web text is an operator.
use Rattle.std.proofs.Common.{◌≡◌, ◌≢◌, ◌↔◌, ℕ, List, [], ◌∷◌, refl, sym, ◌∙◌, Bool, true, false, Option, Some, None}
use Rattle.std.specs.Prelude.{IsTrue, IfSome, IfNone, is_some}
use Rattle.ts_websearch.specs.Items.{WebItem, AreItems}
use Rattle.ts_websearch.specs.Rows.{IsOr, IsOperator}
use Rattle.ts_websearch.specs.Made.{row_query}
use Rattle.ts_websearch.specs.Inner.Pieces.{IsNext}
use Rattle.ts_websearch.proofs.ItemLists.{items_are_one}

row_some : (a : List WebItem) → (is_some (row_query a) ≡ true) ↔ (a ≢ [])
row_some [] = ((λ h. let no : ⊥ = cc in absurd no), λ h. absurd (h refl))
row_some (i ∷ a) = ((λ h. λ e. let no : ⊥ = cc in no), λ h. refl)

-- a text that goes on with an item has some, and one that doesn't has none
goes_on : (behind : List ℕ) (i : WebItem) (rest : List ℕ) → IsNext behind i rest → (is : List WebItem)
    → AreItems behind is → is ≢ []
goes_on behind i rest n is h e =
    let o = items_are_one rest in
    let b = items_are_one behind in
    let f : i ∷ o.items ≡ is = b.only (i ∷ o.items) (n.goes_on o.items o.are) ∙ sym (b.only is h) in
    let no : ⊥ = cc in no

ends_here : (behind : List ℕ) → AreItems behind [] → (is : List WebItem) → AreItems behind is → is ≡ []
ends_here behind n is h = let b = items_are_one behind in b.only is h ∙ sym (b.only [] n)

pub next_told : {T : Type 0} (item : T → WebItem) (rest : T → List ℕ) (behind : List ℕ)
    (next : Option T) (b : Bool) → IfSome next (λ x. IsNext behind (item x) (rest x))
    → IfNone next (AreItems behind [])
    → b ≡ is_some next → (is : List WebItem) → AreItems behind is → IsTrue b ↔ (is ≢ [])
next_told item rest behind (Some x) b s n e is h =
    ((λ t. goes_on behind (item x) (rest x) s is h), λ t. e)
next_told item rest behind None b s n e is h =
    ((λ t. let no : ⊥ = cc in absurd no), λ t. absurd (t (ends_here behind n is h)))

-- after a row, an item that is `or`
pub told_behind : (row b : Bool) (a : List WebItem) (i : WebItem) (is : List WebItem)
    → row ≡ is_some (row_query a) → row ≡ true → IsOr i → IsTrue b ↔ (is ≢ [])
    → IsTrue b ↔ IsOperator a i is
told_behind row b a i is e t o h = ((λ k. ((row_some a).0 (sym e ∙ t), o, h.0 k)), λ k. h.1 k.2)

-- otherwise
pub told_not : (row b : Bool) (a : List WebItem) (i : WebItem) (is : List WebItem)
    → row ≡ is_some (row_query a) → b ≡ false → ((row ≡ true) → IsOr i → b ≡ true)
    → IsTrue b ↔ IsOperator a i is
told_not row b a i is e f h =
    ((λ t. let no : ⊥ = cc in absurd no), λ k. h (e ∙ (row_some a).1 k.0) k.1)
