-- The sums over all views, once the journal is given back.
use Rattle.std.proofs.Common.{◌≡◌, ℕ, suc, ◌+◌, ◌≤◌, ◌==◌, cond, List, ◌++◌, length, set, refl, arith}
use Rattle.std.specs.Prelude.{Option, Some, None}
use Rattle.std.proofs.lemmas.Bool.Decides.{nat_tests}
use mathlib.Core.Option.{some}
use lib.ListN.{get_elem?}
use Rattle.core_state.specs.Log.{Log}
use Rattle.latch_table.specs.declared.slots.Journaled.{Ghosts as Journaled}
use Rattle.latch_table.specs.declared.states.PassState.{PassState}
use Rattle.latch_table.specs.Shapes.{Shape, total, times}
use Rattle.latch_table.specs.Lines.{AddUp, is_since}
use Rattle.latch_table.specs.Giving.{Entry, Given, Bounds, added, numbers_added, given_back, MayGive}
use Rattle.latch_table.proofs.Sums.{total_set}
use Rattle.latch_table.proofs.GivenShape.{shape_after}

since_more : (opened len n : ℕ) → opened ≤ len
    → cond (suc len == n) 1 0 + is_since opened len n ≡ is_since opened (suc len) n
since_more opened len n le = grind (arith, nat_tests)

times_added : (o : Option Entry) (R : Log) (opened n : ℕ) (xs : List ℕ) → opened ≤ length R
    → times n (numbers_added o (length R) ++ xs) + is_since opened (length R) n
    ≡ times n xs + is_since opened (length (added o ++ R)) n
times_added None R opened n xs le = refl
times_added (Some e) R opened n xs le = let s = since_more opened (length R) n le in omega arith

module _ {J : Type 0} (journal : Journaled J) (start : J) where
  pub sums_after : (h : Shape J) (views : List (PassState J)) (id : ℕ) (v : PassState J) (b' : J) (g : Given)
      (x : Bounds)
      → get_elem? views id ≡ some v → MayGive journal h.frames v h.log h.journal b' g
      → journal.length_of start ≤ length h.log
      → AddUp journal start h views
      → AddUp journal start (shape_after h id v b' g) (set views id (given_back journal h.log h.journal b' g x v))
  sums_after h views id v b' g x at m le t =
      let w : PassState J = given_back journal h.log h.journal b' g x v in
      let part : (f : PassState J → ℕ) → total f (set views id w) + f v ≡ total f views + f w =
      λ f. total_set f views id v w at in
      record {
        rooms = let p = part (λ y. y.room) in let a = t.rooms in omega arith;
        faults = let p = part (λ y. y.faults) in let a = t.faults in let c = m.faults in omega arith;
        write_faults =
            let p = part (λ y. y.write_faults) in let a = t.write_faults in let c = m.write_faults in omega arith;
        own = λ n.
            let p = part (λ y. times n y.own) in
            let a = t.own n in
            let c = times_added g.entry h.log (journal.length_of start) n v.own le in omega arith;
      }
