-- The rows that are linked since the beginning.
use Rattle.std.proofs.Common.{◌≡◌, ◌≤◌, ℕ, zero, suc, List, [], ◌∷◌, ◌++◌, length, take, drop, refl, sym, ap, subst}
use Rattle.std.proofs.Common.{◌∙◌, inl, inr, arith}
use Rattle.std.proofs.lemmas.List.{take_all, take-append-le}
use Rattle.page_types.specs.Views.{rows_in, rows_of, first_of}
use Rattle.page_types.specs.declared.page.Row.{Row}
use Rattle.core_state.specs.Log.{Log, Pages, In}
use Rattle.core_state.specs.Index.{Line, IsLinked, rows_on}
use Rattle.core_state.specs.PagesTold.{ListStands}
use Rattle.core_state.proofs.PageLists.{in_front}
use Rattle.core_state.proofs.Histories.{chain_one}
use Rattle.core_maintenance.specs.Keeping.{ListGrows}
use Rattle.gin_cleanup.specs.Still.{AreOnFirst, StillGrows, StillGoes, StillEnds}
use Rattle.gin_cleanup.proofs.RowLists.{in_take, in_part, page_of_row, row_on_page}

pub still_begins : (P : Pages) (pages : List ℕ) → ((q : ℕ) → In q pages → (w : Row) × In w (rows_of (P q)))
    → Line P pages → AreOnFirst (P ∷ []) P (length pages) pages
still_begins P pages rows line = record {
  on = λ w l.
      let same : l.0.line ≡ pages = chain_one P (first_of (P 0)) l.0.line pages l.0.is_line line in
      subst (λ (qs : List ℕ). In w (rows_on P qs)) (sym (take_all (length pages) pages (omega arith)))
      (row_on_page P pages l.0.page w (subst (In l.0.page) same l.0.on) l.0.there);
  some = λ q i.
      let at : In q pages = in_take (length pages) q pages i in
      let row = rows q at in
      (row.0, (record { line = pages; is_line = line; page = q; on = at; there = row.1 }, tt), row.1);
}

-- each page of the list has a row
pub row_there : (R : Log) (P : Pages) → ListStands R P → (pages : List ℕ) → Line P pages → (q : ℕ) → In q pages
    → (w : Row) × In w (rows_of (P q))
row_there R P list pages line q i =
    let there : In q list.pages =
    subst (In q) (chain_one P (first_of (P 0)) pages list.pages line list.is_line) i in
    let row = list.some_row q there in
    (row.0, subst (In row.0) (sym (ap rows_in row.2)) (inl refl))

pub still_grows : StillGrows
still_grows Ps P Q left ns ms W V x y grows s = by (grows x.line x.is_line)
  where
    by : ListGrows P Q x.line → AreOnFirst (Q ∷ Ps) Q left y.line
    by g =
        let line_is : y.line ≡ x.line ++ g.more =
        chain_one Q (first_of (Q 0)) y.line (x.line ++ g.more) y.is_line g.line in
        let first : take left y.line ≡ take left x.line =
        ap (take left) line_is ∙ take-append-le left x.line g.more x.enough in
        let grown : (q : ℕ) (w : Row) → In q (take left x.line) → In w (rows_of (P q)) → In w (rows_of (Q q)) =
        λ q w i m.
        let rows = g.rows q (in_take left q x.line i) in
        subst (In w) (sym rows.1) (in_front w (rows_of (P q)) rows.0 m) in
        record {
          on = λ w l.
              let p = page_of_row P (take left x.line) w (s.on w l.1) in
              subst (λ (qs : List ℕ). In w (rows_on Q qs)) (sym first)
              (row_on_page Q (take left x.line) p.0 w p.1 (grown p.0 w p.1 p.2));
          some = λ q i.
              let at : In q (take left x.line) = subst (In q) first i in
              let row = s.some q at in
              let there = grown q row.0 at row.2 in
              let linked : IsLinked Q row.0 = record {
                line = y.line;
                is_line = y.is_line;
                page = q;
                on = in_take left q y.line i;
                there = there;
              } in
              (row.0, (linked, row.1), there);
        }

pub still_goes : StillGoes
still_goes Ps P Q left ns ms W V x y k s =
    let x_is : x.line ≡ k.page ∷ k.rest = chain_one P (first_of (P 0)) x.line (k.page ∷ k.rest) x.is_line k.line in
    let y_is : y.line ≡ k.rest = chain_one Q (first_of (Q 0)) y.line k.rest y.is_line k.line_then in
    record {
      on = λ w l.
          let a = l.0 in
          let at : In a.page k.rest =
          subst (In a.page) (chain_one Q (first_of (Q 0)) a.line k.rest a.is_line k.line_then) a.on in
          elim (in_part left a.page k.rest at) [
            | inl i ↦ subst (λ (qs : List ℕ). In w (rows_on Q (take left qs))) (sym y_is)
                (row_on_page Q (take left k.rest) a.page w i a.there)
            | inr i ↦
                let old : In w (rows_of (P a.page)) = subst (In w) (ap rows_of (k.same a.page at)) a.there in
                absurd (x.whole w w (s.on w l.1) (subst (λ (qs : List ℕ). In w (rows_on P (drop (suc left) qs)))
                (sym x_is) (row_on_page P (drop left k.rest) a.page w i old)) refl)
          ];
      some = λ q i.
          let at : In q (take left k.rest) = subst (λ (qs : List ℕ). In q (take left qs)) y_is i in
          let row = s.some q (subst (λ (qs : List ℕ). In q (take (suc left) qs)) (sym x_is) (inr at)) in
          let there : In row.0 (rows_of (Q q)) =
          subst (In row.0) (sym (ap rows_of (k.same q (in_take left q k.rest at)))) row.2 in
          let linked : IsLinked Q row.0 = record {
            line = y.line;
            is_line = y.is_line;
            page = q;
            on = in_take left q y.line i;
            there = there;
          } in
          (row.0, (linked, row.1), there);
    }

pub still_ends : StillEnds
still_ends Ps P left ns W x s = (
  λ e w l. subst (λ (n : ℕ). In w (rows_on P (take n x.line))) e (s.on w l),
  λ none. by left x.line x.enough (λ q i. let row = s.some q i in none row.0 row.1),
)
  where
    by : (n : ℕ) (qs : List ℕ) → n ≤ length qs → ((q : ℕ) → In q (take n qs) → ⊥) → n ≡ 0
    by zero qs few none = refl
    by (suc n) [] few none = absurd (omega (arith, few))
    by (suc n) (q ∷ qs) few none = absurd (none q (inl refl))
