-- What a sweep goes by stays so over records of others.
use Rattle.std.proofs.Common.{◌≢◌, ℕ, List, [], length, length-append, ap, arith}
use Rattle.std.proofs.lemmas.List.{nil_from_length}
use Rattle.core_state.specs.Log.{Log, Pages}
use Rattle.core_state.proofs.LawsHold.{pages}
use Rattle.gin_vacuum.specs.Sweeping.{IsAt}
use Rattle.gin_vacuum.specs.declared.sweeping.Sweeping.{Sweeping}
use Rattle.gin_vacuum.specs.declared.sweeping.Stage.{Stage}
use Rattle.gin_vacuum.proofs.EntryPages.{leaf_below}
use Rattle.gin_vacuum.proofs.StaysOn.{StaysOn}
use Rattle.gin_vacuum.proofs.TreesStay.{TreesStay, page_same, at_stays}

module _ (S S' : Log) (P Q : Pages) (s : StaysOn S S' P Q) where
  pub some_then : S' ≢ []
  some_then none =
      s.some (nil_from_length S (omega (arith, ap length none, ap length s.goes_on, length-append s.later S)))

  pub trees_stay : TreesStay P Q
  trees_stay = record {
    main = λ k i. (s.index.main k i).1;
    page = λ root p is b. page_same (P p) (Q p) (s.index.trees root p is b);
    more = s.index.no_more_trees;
    below = leaf_below S P (pages S P s.legal s.shown) s.some;
    below_then = leaf_below S' Q (pages S' Q s.legal_then s.shown_then) some_then;
    named = s.found.named;
  }

  pub at_then : (dead : List ℕ) (m : Sweeping) (t : Stage) → IsAt P dead m t → IsAt Q dead m t
  at_then = at_stays P Q trees_stay
