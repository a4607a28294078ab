-- A record of none of the kinds 10 to 12 keeps the linked rows.
use Rattle.std.proofs.Common.{◌⊎◌, ◌<◌, suc, ◌∷◌, length, subst₂, inl, inr, arith}
use Rattle.page_types.specs.Records.{kind_number}
use Rattle.page_types.specs.declared.record.Kind.{Kind}
use Rattle.page_types.specs.declared.record.Kind.TheVariants as kind
use Rattle.core_state.specs.Log.{commits}
use Rattle.core_state.specs.RecordKeeps.{SameRows}
use Rattle.core_state.specs.PendingSteps.{OthersKeepRows}
use Rattle.core_state.specs.Inner.PageKinds.{ChangesLine}
use Rattle.core_state.proofs.Showing.{shown_one}
use Rattle.core_state.proofs.Law.RunningStays.{not_create}
use Rattle.core_state.proofs.Law.RowFrames.{rows_same}
use Rattle.core_state.proofs.Law.Steps.{StepHolds}
use Rattle.core_state.proofs.Law.NowIndexed.{held_before, leaves}

no_line : (k : Kind) → (kind_number k < 10) ⊎ (12 < kind_number k) → ChangesLine k → ⊥
no_line (kind.AddRow i s) n c = elim n [ inl a ↦ omega (arith, a) | inr b ↦ omega (arith, b) ]
no_line (kind.LinkPending i s) n c = elim n [ inl a ↦ omega (arith, a) | inr b ↦ omega (arith, b) ]
no_line kind.Shift n c = elim n [ inl a ↦ omega (arith, a) | inr b ↦ omega (arith, b) ]
no_line _ n c = c

pub others_keep_rows : StepHolds → OthersKeepRows
others_keep_rows step R r P Q some legal shown shown' other =
    let u = legal.valid.1 in
    let g = held_before step R r legal.valid.0 u in
    let l = leaves step R r legal.valid.0 u in
    subst₂ SameRows (shown_one R u.before P u.shown shown) (shown_one (r ∷ R) u.after Q u.shown_after shown')
    (rows_same (commits R) (length R) R u.before u.after r (suc (length R)) g.0 g.1 some l.touched l.elsewhere
    (not_create R r (commits R) (suc (length R)) u some) (no_line r.kind other))
