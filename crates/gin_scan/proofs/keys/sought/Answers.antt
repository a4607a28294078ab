-- What a walk looks for: all keys, a key, or nothing.
use Rattle.std.proofs.Common.{◌≡◌, ◌∙◌, Some, sym, ap, arith}
use Rattle.std.proofs.lemmas.Option.{slice_get-get_or}
use Rattle.std.proofs.lemmas.Bool.{ltb-true}
use Rattle.std.specs.List.{slice_get}
use Rattle.gin_hits.specs.Ordered.{asked_at}
use Rattle.gin_scan.proofs.SoughtFor.{all_at, key_here}
use Rattle.gin_scan.proofs.keys.sought.Goals as goal

pub returns-then-keys : goal.returns-then-keys
returns-then-keys c = all_at c.args.keys.now c.args.order.now c.args.number c.if-keys.true

pub returns-in-Some : goal.returns-in-Some
returns-in-Some c = λ a here.
    let at : slice_get c.args.order.now c.args.number ≡ Some c.in-Some.k.now =
    slice_get-get_or c.args.order.now c.args.number c.in-Some.k.now
    (omega (arith, ltb-true, sym c.in-Some.ensures.lookup.0)) ∙ ap Some (sym c.in-Some.ensures.lookup.1) in
    c.key_at.ensures ∙ ap (λ ks. asked_at ks c.in-Some.k.now) c.as_slice.ensures.value
    ∙ key_here c.args.keys.now c.args.order.now c.args.number c.in-Some.k.now c.if-keys.false at a here
