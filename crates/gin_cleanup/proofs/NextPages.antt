-- The page that is read next.
use Rattle.std.proofs.Common.{◌≡◌, ℕ, suc, List, [], ◌∷◌, ◌++◌, length, map, refl, sym, ap, subst, ◌∙◌}
use Rattle.std.proofs.Common.{inl, arith, append_assoc, append-nil}
use Rattle.std.proofs.lemmas.List.{length-append}
use Rattle.page_types.specs.Views.{rows_of, first_of}
use Rattle.page_types.specs.declared.page.Row.{Row}
use Rattle.core_state.specs.Log.{Pages, In}
use Rattle.core_state.specs.Documents.{IsChain}
use Rattle.core_state.specs.Index.{Line}
use Rattle.core_state.proofs.PageLists.{in_back}
use Rattle.core_state.proofs.Histories.{chain_one}
use Rattle.gin_cleanup.specs.NextPage.{items_on, IsNext, NextBegins, NextIsThere, NextFollows, NextStays}
use Rattle.gin_cleanup.proofs.Growing.{no_extra}

pub next_begins : NextBegins
next_begins P [] on left few = IsNext.none (omega (arith, few))
next_begins P (q ∷ qs) on left few = IsNext.first qs refl (ap (λ (p : ℕ). p ∷ qs) (sym on.0))

pub next_is_there : NextIsThere
next_is_there P left counts line before page (IsNext.none all) few = absurd (omega (arith, all, few))
next_is_there P left counts line before page (IsNext.first rest none e) few =
    ([], rest, e, sym (ap (λ (xs : List ℕ). length xs) none))
next_is_there P left counts line before page (IsNext.later front rest p e size items) few = (
  front ++ p ∷ [],
  rest,
  e ∙ sym (append_assoc front (p ∷ []) (page ∷ rest)),
  omega (arith, size, length-append front (p ∷ [])),
)

-- the page after one on a chain is its right link
right_of : (P : Pages) (first : ℕ) (front : List ℕ) (p q : ℕ) (rest : List ℕ)
    → IsChain P first (front ++ p ∷ q ∷ rest) → (P p).right ≡ q
right_of P first [] p q rest c = c.2.0
right_of P first (x ∷ front) p q rest c = right_of P (P x).right front p q rest c.2

pub next_follows : NextFollows
next_follows P left n counts line before page x on enough few =
    let there = next_is_there P left counts line before page x few in
    by there.0 there.1 there.2 there.3
  where
    more : length (counts ++ n ∷ []) ≡ suc (length counts)
    more = omega (arith, length-append counts (n ∷ []))

    by : (front rest : List ℕ) → line ≡ front ++ page ∷ rest → length front ≡ length counts
        → IsNext P left (counts ++ n ∷ []) line (items_on P page) (P page).right
    by front [] e size = IsNext.none (omega (
      arith,
      more,
      few,
      enough,
      size,
      ap (λ (xs : List ℕ). length xs) e,
      length-append front (page ∷ []),
    ))
    by front (q ∷ rest) e size =
        let link : (P page).right ≡ q = right_of P (first_of (P 0)) front page q rest
        (subst (Line P) e on) in
        IsNext.later front rest page (e ∙ ap (λ (z : ℕ). front ++ page ∷ z ∷ rest) (sym link))
        (omega (arith, size, more)) refl

-- the items of the rows on a page with one after it are the same
pub next_stays : NextStays
next_stays P Q left counts W V before page x y grows fresh (IsNext.none all) = IsNext.none all
next_stays P Q left counts W V before page x y grows fresh (IsNext.first rest none e) =
    let g = grows x.line x.is_line in
    IsNext.first (rest ++ g.more) none (chain_one Q (first_of (Q 0)) y.line (x.line ++ g.more) y.is_line g.line
    ∙ ap (λ (qs : List ℕ). qs ++ g.more) e)
next_stays P Q left counts W V before page x y grows fresh (IsNext.later front rest p e size items) =
    let g = grows x.line x.is_line in
    let on : In p x.line = subst (In p) (sym e) (in_back p front (p ∷ page ∷ rest) (inl refl)) in
    let none = no_extra P Q x.line x.is_line g (fresh x.line x.is_line g) front rest p page e on in
    let same : rows_of (Q p) ≡ rows_of (P p) =
    (g.rows p on).1 ∙ ap (λ (ws : List Row). rows_of (P p) ++ ws) none ∙ append-nil (rows_of (P p)) in
    IsNext.later front (rest ++ g.more) p
    (chain_one Q (first_of (Q 0)) y.line (x.line ++ g.more) y.is_line g.line
    ∙ ap (λ (qs : List ℕ). qs ++ g.more) e ∙ append_assoc front (p ∷ page ∷ rest) g.more) size
    (items ∙ ap (map (λ (w : Row). w.item)) (sym same))
