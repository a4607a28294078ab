-- Which rows are still linked where the first page of the list goes.
use Rattle.std.proofs.Common.{◌≡◌, ◌⊎◌, ◌≤◌, ℕ, zero, suc, List, ◌∷◌, length, take, drop, refl, sym, ap, subst, inl}
use Rattle.std.proofs.Common.{inr, arith}
use Rattle.page_types.specs.Views.{rows_of, first_of}
use Rattle.page_types.specs.declared.page.Row.{Row}
use Rattle.page_types.specs.declared.record.Record.{Record}
use Rattle.core_state.specs.Log.{Log, Pages, In, Shows}
use Rattle.core_state.specs.Index.{IsLinked, rows_on}
use Rattle.core_state.proofs.Histories.{chain_one}
use Rattle.core_state.proofs.Newest.{cut_less}
use Rattle.core_state.proofs.Showing.{shown_one}
use Rattle.core_maintenance.specs.Keeping.{ShiftKeeps}
use Rattle.buffer_frames.proofs.AtHand.{cut_whole}
use Rattle.gin_cleanup.specs.Cleaning.{IsStillIn, AreLeft}
use Rattle.gin_cleanup.specs.Gathering.{AreApart}
use Rattle.gin_cleanup.proofs.RowLists.{in_take, in_part, row_on_page}

le_or_over : (n m : ℕ) → (n ≤ m) ⊎ (suc m ≤ n)
le_or_over zero m = inl (omega arith)
le_or_over (suc n) zero = inr (omega arith)
le_or_over (suc n) (suc m) =
    elim (le_or_over n m) [ inl le ↦ inl (omega (arith, le)) | inr le ↦ inr (omega (arith, le)) ]

-- by the newest record
pub left_goes : (from : ℕ) (S : Log) (r : Record) (P Q : Pages) (left : ℕ) → from ≤ length S → Shows (r ∷ S) Q
    → (k : ShiftKeeps P Q) → (x : AreLeft from S P (suc left))
    → AreApart (rows_on P (take (suc left) x.line)) (rows_on P (drop (suc left) x.line)) → AreLeft from (r ∷ S) Q left
left_goes from S r P Q left began shown k x whole =
    let x_is : x.line ≡ k.page ∷ k.rest = chain_one P (first_of (P 0)) x.line (k.page ∷ k.rest) x.is_line k.line in
    let before : (w : Row) → IsStillIn from (r ∷ S) w → IsStillIn from S w = λ w still n low high P' shown'.
    still n low (omega (arith, high)) P' (subst (λ (T : Log). Shows T P') (sym (cut_less n r S high)) shown') in
    record {
      line = k.rest;
      is_line = k.line_then;
      enough = omega (arith, x.enough, ap length x_is);
      on = λ w still.
          let l = still (suc (length S)) (omega (arith, began)) (omega arith) Q
          (subst (λ (T : Log). Shows T Q) (sym (cut_whole (suc (length S)) (r ∷ S) refl)) shown) in
          let at : In l.page k.rest =
          subst (In l.page) (chain_one Q (first_of (Q 0)) l.line k.rest l.is_line k.line_then) l.on in
          elim (in_part left l.page k.rest at) [
            | inl i ↦ row_on_page Q (take left k.rest) l.page w i l.there
            | inr i ↦
                let old : In w (rows_of (P l.page)) = subst (In w) (ap rows_of (k.same l.page at)) l.there in
                absurd (whole w w (x.on w (before w still)) (subst (λ (qs : List ℕ).
                In w (rows_on P (drop (suc left) qs))) (sym x_is) (row_on_page P (drop left k.rest) l.page w i old))
                refl)
          ];
      some = λ q i.
          let on : In q k.rest = in_take left q k.rest i in
          let row = x.some q (subst (λ (qs : List ℕ). In q (take (suc left) qs)) (sym x_is) (inr i)) in
          let there : In row.0 (rows_of (Q q)) = subst (In row.0) (sym (ap rows_of (k.same q on))) row.2 in
          let linked : IsLinked Q row.0 =
          record { line = k.rest; is_line = k.line_then; page = q; on = on; there = there } in (
            row.0,
            λ n low high P' shown'. elim (le_or_over n (length S)) [
              | inl le ↦ row.1 n low le P' (subst (λ (T : Log). Shows T P') (cut_less n r S le) shown')
              | inr over ↦
                  let all : Shows (r ∷ S) P' =
                  subst (λ (T : Log). Shows T P') (cut_whole n (r ∷ S) (omega (arith, over, high))) shown' in
                  subst (λ (T : Pages). IsLinked T row.0) (shown_one (r ∷ S) Q P' shown all) linked
            ],
            there,
          );
    }
