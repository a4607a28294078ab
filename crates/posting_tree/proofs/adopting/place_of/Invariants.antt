use Rattle.std.proofs.Common.{◌≡◌, ◌≢◌, ◌<◌, ℕ}
use Rattle.std.specs.Prelude.{Some}
use Rattle.std.specs.List.{slice_get}
use Rattle.page_types.specs.declared.page.PostChild.{PostChild}
use Rattle.posting_tree.proofs.adopting.place_of.Given as goal

abbrev pub invariant-loop-k : goal.invariant-loop-k
invariant-loop-k l = (j : ℕ) (c : PostChild) → j < l.k → slice_get l.children j ≡ Some c → c.page ≢ l.page
