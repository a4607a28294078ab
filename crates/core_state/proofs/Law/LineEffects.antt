-- What becomes of linked rows where the pending list takes a step.
use Rattle.std.proofs.Common.{◌⊎◌, ℕ, sym, subst, inl, inr}
use Rattle.ts_base.specs.Keys.{Key}
use Rattle.page_types.specs.Views.{rows_of}
use Rattle.page_types.specs.declared.page.Row.{Row}
use Rattle.core_state.specs.Log.{Log, Pages, In}
use Rattle.core_state.specs.Index.{IsLinked, Pending, HasRow}
use Rattle.core_state.specs.Inner.Effects.{NewRow, Moved}
use Rattle.core_state.specs.Inner.Ghosts.{Ghost}
use Rattle.core_state.specs.Inner.Kinds.{IsLined}
use Rattle.core_state.specs.Inner.LineSteps.{LineStep}
use Rattle.core_state.proofs.Histories.{chain_one}
use Rattle.core_state.proofs.PageLists.{in_front, in_either}

-- a linked row is on a page of the ghosts' line
pub on_line : (R : Log) (P : Pages) (g : Ghost) (w : Row) → IsLined R P g → IsLinked P w
    → (q : ℕ) × In q g.line × In w (rows_of (P q))
on_line R P g w l k = (k.page, subst (In k.page) (chain_one P _ k.line g.line k.is_line l.is_line) k.on, k.there)

pub linked : (R : Log) (P : Pages) (g : Ghost) (w : Row) (q : ℕ) → IsLined R P g → In q g.line → In w (rows_of (P q))
    → IsLinked P w
linked R P g w q l on there = record { line = g.line; is_line = l.is_line; page = q; on = on; there = there }

module _ (R S : Log) (P Q : Pages) (g g' : Ghost) (l : IsLined R P g) (l' : IsLined S Q g') where
  stays : (w : Row) → LineStep R P Q g g' → IsLinked P w → IsLinked Q w ⊎ Moved P w.item
  stays w (LineStep.grow chain e f new rows) k =
      let o = on_line R P g w l k in
      let x = rows o.0 o.1 in
      inl (linked S Q g' w o.0 l' (subst (In o.0) (sym e) (in_front o.0 g.line chain o.1))
      (subst (In w) (sym x.1) (in_front w (rows_of (P o.0)) x.0 o.2)))
  stays w (LineStep.shift p e f at link kept moved rows) k =
      let o = on_line R P g w l k in
      elim (subst (In o.0) e o.1) [
        | inl first ↦ inr (moved w (subst (λ (q : ℕ). In w (rows_of (P q))) first o.2))
        | inr rest ↦ inl (linked S Q g' w o.0 l' rest (subst (In w) (sym (rows o.0 rest)) o.2))
      ]

  -- a pair of the pending list stays, or its document is in the main part
  pub pending_stays : LineStep R P Q g g' → (k : Key) (i : ℕ) → Pending P k i → Pending Q k i ⊎ Moved P i
  pending_stays s k i p = elim (stays p.row s p.linked) [
    | inl on ↦ inl (record { row = p.row; linked = on; item = p.item; key = p.key })
    | inr moved ↦ inr (subst (Moved P) p.item moved)
  ]

  -- a linked row was linked, or is of a transaction that runs
  pub row_back : LineStep R P Q g g' → (w : Row) → IsLinked Q w → IsLinked P w ⊎ NewRow R P w.item
  row_back (LineStep.grow chain e f new rows) w k =
      let o = on_line S Q g' w l' k in
      elim (in_either o.0 g.line chain (subst (In o.0) e o.1)) [
        | inr c ↦ inr (new o.0 c w o.2)
        | inl c ↦
            let x = rows o.0 c in
            elim (in_either w (rows_of (P o.0)) x.0 (subst (In w) x.1 o.2))
            [ inl old ↦ inl (linked R P g w o.0 l c old) | inr more ↦ inr (x.2 w more) ]
      ]
  row_back (LineStep.shift p e f at link kept moved rows) w k =
      let o = on_line S Q g' w l' k in
      inl (linked R P g w o.0 l (subst (In o.0) (sym e) (inr o.1)) (subst (In w) (rows o.0 o.1) o.2))

  pub rows_back : LineStep R P Q g g' → (i : ℕ) → HasRow Q i → HasRow P i ⊎ NewRow R P i
  rows_back s i h = elim (row_back s h.row h.linked) [
    | inl on ↦ inl (record { row = h.row; linked = on; item = h.item })
    | inr new ↦ inr (subst (NewRow R P) h.item new)
  ]
