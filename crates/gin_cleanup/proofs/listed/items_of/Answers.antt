use Rattle.std.proofs.Common.{◌≤◌, ◌∷◌, ◌++◌, [], ℕ, List, length, map, take, sym, ap, ◌∙◌, arith}
use Rattle.std.proofs.lemmas.List.{map-append, take_all}
use Rattle.std.specs.Prelude.{Vec}
use Rattle.std.specs.declared.alloc.Global.{Global}
use Rattle.page_types.specs.Parts.{row_shown}
use Rattle.page_types.specs.declared.page.Row.{Row}
use Rattle.page_types.proofs.Cutting.{take_get}
use Rattle.gin_cleanup.proofs.listed.items_of.Goals as goal
use Rattle.gin_cleanup.proofs.listed.items_of.Goals.{in-Some+in_ok-push, in_default}

pub loop-k-preserved : goal.loop-k-preserved
loop-k-preserved c = elim c.match-get.branch [
  | in-Some+in_ok-push w ↦
      let row = row_shown w.in-Some.row in
      let f = λ (v : Row). v.item in
      ap (λ (v : Vec ℕ Global). v.items) w.items-is ∙ w.in_ok-push.ensures.items
      ∙ ap (λ (xs : List ℕ). xs ++ row.item ∷ []) c.loop-k.invariant
      ∙ sym (ap (map f) (take_get c.args.rows.now c.loop-k.k row w.in-Some.ensures.some)
      ∙ map-append f (take c.loop-k.k c.args.rows.now) (row ∷ []))
  | in_default w ↦ absurd (omega (arith, w.in_default.ensures.none, c.loop-k-test.true, c.len-k-end.ensures))
]

pub returns : goal.returns
returns c =
    let far : length c.args.rows.now ≤ c.loop-k.k = omega (arith, c.loop-k-test.false, c.len-k-end.ensures) in
    c.loop-k.invariant ∙ ap (map (λ (v : Row). v.item)) (take_all c.loop-k.k c.args.rows.now far)
