use Rattle.std.proofs.Common.{◌≡◌, ◌<◌, ℕ, suc, List, [], ◌∷◌, length, Some, sym, ap, inl, inr, arith, below_more}
use Rattle.std.specs.List.{slice_get}
use Rattle.page_types.specs.declared.page.Entry.{Entry}
use Rattle.core_state.specs.Log.{In}
use Rattle.entry_tree.specs.Adding.{tree_entry}
use Rattle.store_cases.proofs.entry_tests.none_leads_down.Goals as goal

-- what is in a list is at a place of it
none_in : (es : List Entry) (e : Entry) → ((j : ℕ) → j < length es → slice_get es j ≡ Some e → ⊥) → In e es → ⊥
none_in [] e none on = on
none_in (x ∷ es) e none (inl same) = none 0 (omega arith) (ap Some (sym same))
none_in (x ∷ es) e none (inr on) = none_in es e (λ j less at. none (suc j) (omega (arith, less)) at) on

pub loop-k-preserved : goal.loop-k-preserved
loop-k-preserved c = below_more _ _ c.loop-k.invariant (c.leads_down.ensures c.if-leads_down.false)

pub returns : goal.returns
returns c t root on =
    none_in c.args.entries.now (tree_entry c.args.key.now root)
    (λ j less at. c.loop-k.invariant j (omega arith) root at) on
