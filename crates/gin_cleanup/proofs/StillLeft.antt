-- Which rows are still linked when a cleanup begins, and where the list grows.
use Rattle.std.proofs.Common.{◌≡◌, ◌≢◌, ◌⊎◌, ◌≤◌, ◌-◌, ℕ, zero, suc, List, [], ◌∷◌, ◌++◌, length, take, drop, refl, sym}
use Rattle.std.proofs.Common.{ap, subst, ◌∙◌, inl, inr, arith, length-append}
use Rattle.std.specs.Prelude.{◌↔◌}
use Rattle.std.proofs.lemmas.List.{take_all, take-append-le, drop-append-le}
use Rattle.page_types.specs.Views.{rows_of, first_of}
use Rattle.page_types.specs.declared.page.Row.{Row}
use Rattle.core_state.specs.Log.{Log, Pages, In, Shows, cut}
use Rattle.core_state.specs.Index.{IsLinked, rows_on}
use Rattle.core_state.specs.Legal.{IsLegal}
use Rattle.core_state.specs.PagesTold.{ListStands}
use Rattle.core_state.proofs.Histories.{chain_one}
use Rattle.core_state.proofs.PageLists.{in_front}
use Rattle.core_state.proofs.Showing.{shown_one}
use Rattle.core_maintenance.specs.Keeping.{OnlyAdd, LineGrows}
use Rattle.core_maintenance.proofs.Pairs.{pairs_hold}
use Rattle.buffer_frames.proofs.AtHand.{cut_whole, parts_of}
use Rattle.buffer_frames.proofs.HistoryParts.{legal_before}
use Rattle.gin_place.proofs.Logs.{cut_front}
use Rattle.gin_cleanup.specs.Cleaning.{IsStillIn, AreLeft}
use Rattle.gin_cleanup.proofs.RowLists.{in_take, in_drop, page_of_row, row_on_page}
use Rattle.gin_cleanup.proofs.StillRows.{row_there}

le_or : (n m : ℕ) → (n ≤ m) ⊎ (m ≤ n)
le_or zero m = inl (omega arith)
le_or (suc n) zero = inr (omega arith)
le_or (suc n) (suc m) = elim (le_or n m) [ inl le ↦ inl (omega (arith, le)) | inr le ↦ inr (omega (arith, le)) ]

-- at the beginning all pages of the list are left
pub left_begins : (S : Log) (P : Pages) (list : ListStands S P) (from n : ℕ) → Shows S P → from ≡ length S
    → n ≡ length list.pages → AreLeft from S P n
left_begins S P list from n shown at size = record {
  line = list.pages;
  is_line = list.is_line;
  enough = omega (arith, size);
  on = λ w still.
      let l = still (length S) (omega (arith, at)) (omega arith) P
      (subst (λ (T : Log). Shows T P) (sym (cut_whole (length S) S refl)) shown) in
      let same : l.line ≡ list.pages = chain_one P (first_of (P 0)) l.line list.pages l.is_line list.is_line in
      subst (λ (qs : List ℕ). In w (rows_on P qs)) (sym (take_all n list.pages (omega (arith, size))))
      (row_on_page P list.pages l.page w (subst (In l.page) same l.on) l.there);
  some = λ q i.
      let on : In q list.pages = in_take n q list.pages i in
      let row = row_there S P list list.pages list.is_line q on in
      let linked : IsLinked P row.0 =
      record { line = list.pages; is_line = list.is_line; page = q; on = on; there = row.1 } in (
        row.0,
        λ m low high P' shown'.
            let whole : cut m S ≡ S = cut_whole m S (omega (arith, low, high, at)) in
            subst (λ (Q : Pages). IsLinked Q row.0)
            (shown_one S P P' shown (subst (λ (T : Log). Shows T P') whole shown')) linked,
        row.1,
      );
}

module _ (from : ℕ) (C later S : Log) (P Q : Pages) (is : S ≡ later ++ C) (some : C ≢ [])
    (legal : IsLegal S) (shown : Shows C P) (adds : OnlyAdd later) (began : from ≤ length C) where
  cut_same : (n : ℕ) → n ≤ length C → cut n S ≡ cut n C
  cut_same n le = ap (cut n) is ∙ cut_front n later C le

  restrict : (w : Row) → IsStillIn from S w → IsStillIn from C w
  restrict w still n low high P' shown' =
      still n low (omega (arith, high, ap length is, length-append later C)) P'
      (subst (λ (T : Log). Shows T P') (sym (cut_same n high)) shown')

  -- a row that is still linked is so in each log that came since
  extend : (w : Row) → IsLinked P w → IsStillIn from C w → IsStillIn from S w
  extend w linked still n low high P' shown' = elim (le_or n (length C)) [
    | inl le ↦ still n low le P' (subst (λ (T : Log). Shows T P') (cut_same n le) shown')
    | inr le ↦
        let k : ℕ = length S - n in
        let cuts : cut n S ≡ drop k later ++ C =
        ap (λ (l : Log). drop k l) is
        ∙ drop-append-le k later C (omega (arith, le, ap length is, length-append later C)) in
        let then : IsLegal (cut n S) = legal_before (take k S) (cut n S) (subst IsLegal (parts_of n S) legal) in
        (pairs_hold C (drop k later) (cut n S) P P' cuts some then shown shown'
        (λ r i. adds r (in_drop k r later i))).rows w linked
  ]

  pub left_grows : (left : ℕ) → LineGrows P Q → AreLeft from C P left → AreLeft from S Q left
  left_grows left grows x =
      let g = grows x.line x.is_line in
      let first : take left (x.line ++ g.more) ≡ take left x.line = take-append-le left x.line g.more x.enough in
      let grown : (q : ℕ) (w : Row) → In q (take left x.line) → In w (rows_of (P q)) → In w (rows_of (Q q)) =
      λ q w i m.
      let rows = g.rows q (in_take left q x.line i) in
      subst (In w) (sym rows.1) (in_front w (rows_of (P q)) rows.0 m) in
      record {
        line = x.line ++ g.more;
        is_line = g.line;
        enough = omega (arith, x.enough, length-append x.line g.more);
        on = λ w still.
            let p = page_of_row P (take left x.line) w (x.on w (restrict w still)) in
            subst (λ (qs : List ℕ). In w (rows_on Q qs)) (sym first)
            (row_on_page Q (take left x.line) p.0 w p.1 (grown p.0 w p.1 p.2));
        some = λ q i.
            let at : In q (take left x.line) = subst (In q) first i in
            let row = x.some q at in
            let linked : IsLinked P row.0 = record {
              line = x.line;
              is_line = x.is_line;
              page = q;
              on = in_take left q x.line at;
              there = row.2;
            } in
            (row.0, extend row.0 linked row.1, grown q row.0 at row.2);
      }

-- none of these pages is left exactly where no row is still linked
pub left_ends : (from : ℕ) (S : Log) (P : Pages) (left : ℕ) → AreLeft from S P left
    → (left ≡ 0) ↔ ((w : Row) → IsStillIn from S w → ⊥)
left_ends from S P left x = (
  λ e w still. subst (λ (n : ℕ). In w (rows_on P (take n x.line))) e (x.on w still),
  λ none. by left x.line x.enough (λ q i. let row = x.some q i in none row.0 row.1),
)
  where
    by : (n : ℕ) (qs : List ℕ) → n ≤ length qs → ((q : ℕ) → In q (take n qs) → ⊥) → n ≡ 0
    by zero qs few none = refl
    by (suc n) [] few none = absurd (omega (arith, few))
    by (suc n) (q ∷ qs) few none = absurd (none q (inl refl))
