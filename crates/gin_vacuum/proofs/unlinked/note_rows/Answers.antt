use Rattle.std.proofs.Common.{◌≡◌, ◌+◌, ◌≤◌, ℕ, List, length, sym, ap, subst, ◌∙◌, take, true, false, arith}
use Rattle.std.proofs.lemmas.List.{take_all}
use Rattle.std.specs.Prelude.{Vec}
use Rattle.std.specs.declared.alloc.Global.{Global}
use Rattle.page_types.specs.Parts.{row_shown}
use Rattle.page_types.specs.declared.page.Row.{Row}
use Rattle.gin_vacuum.specs.Inner.Unlinked.{HaveMet}
use Rattle.gin_vacuum.proofs.WalkCode.{met_next, met_not, contains_in, in_contains}
use Rattle.gin_vacuum.proofs.unlinked.note_rows.Goals as goal
use Rattle.gin_vacuum.proofs.unlinked.note_rows.Goals.{in-Some+then-has+in_ok-push, in-Some+else-has, in_default}

pub loop-k-preserved : goal.loop-k-preserved
loop-k-preserved c =
    let rows = c.args.rows.now in
    let dead = c.args.dead.now in
    let old = c.args.met.now.items in
    let k = c.loop-k.k in
    let met = c.loop-k.met.items in
    elim c.match-get.branch [
      | in-Some+then-has+in_ok-push w ↦
          let row = row_shown w.in-Some.row in
          subst (HaveMet (take (k + 1) rows) dead old)
          (sym (ap (λ (v : Vec ℕ Global). v.items) w.met-is ∙ w.in_ok-push.ensures.items))
          (met_next rows k row w.in-Some.ensures.some dead old met c.loop-k.invariant
          (contains_in dead row.item ((w.has.ensures).0 w.if-has.true)))
      | in-Some+else-has w ↦
          let row = row_shown w.in-Some.row in
          subst (HaveMet (take (k + 1) rows) dead old) (sym (ap (λ (v : Vec ℕ Global). v.items) w.met-is))
          (met_not rows k row w.in-Some.ensures.some dead old met c.loop-k.invariant
          (λ on.
          let yes : w.has.result ≡ true = (w.has.ensures).1 (in_contains dead row.item on) in
          let two : true ≡ false = sym yes ∙ w.if-has.false in
          let z : ⊥ = cc in z))
      | in_default w ↦ absurd (omega (arith, w.in_default.ensures.none, c.loop-k-test.true, c.len-k-end.ensures))
    ]

pub returns : goal.returns
returns c =
    let far : length c.args.rows.now ≤ c.loop-k.k = omega (arith, c.loop-k-test.false, c.len-k-end.ensures) in
    subst (λ (ws : List Row). HaveMet ws c.args.dead.now c.args.met.now.items c.loop-k.met.items)
    (take_all c.loop-k.k c.args.rows.now far) c.loop-k.invariant
