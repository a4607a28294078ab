use Rattle.std.proofs.Common.{◌∷◌, [], ◌++◌, ap, sym, subst, ◌∙◌, append_assoc, append-nil}
use Rattle.std.specs.Prelude.{All}
use Rattle.std.specs.List.{flat_map}
use Rattle.std.proofs.lemmas.List.Concat.{flat_map-append}
use Rattle.std.proofs.lemmas.List.Elements.{All-tail}
use Rattle.ts_base.specs.Encoding.{entry_bytes}
use Rattle.ts_base.specs.Vectors.{IsEntry}
use Rattle.ts_vector.proofs.codec.put_each.Goals as goal

pub loop-entry-preserved : goal.loop-entry-preserved
loop-entry-preserved c =
    let is = c.loop-entry.invariant in
    let entry = c.in-Some.entry in
    let done = c.loop-entry.yielded in (
      c.in_ok-put_entry.ensures.ok ∙ ap (λ t. t ++ entry_bytes entry) is.0
          ∙ append_assoc c.args.out.now.items (flat_map entry_bytes done) (entry_bytes entry)
          ∙ ap (λ t. c.args.out.now.items ++ t) (sym (flat_map-append entry_bytes done (entry ∷ [])
          ∙ ap (λ t. flat_map entry_bytes done ++ t) (append-nil (entry_bytes entry)))),
      append_assoc done (entry ∷ []) c.next.new.self ∙ ap (λ t. done ++ t) (sym c.in-Some.ensures.steps) ∙ is.1,
      All-tail IsEntry entry c.next.new.self (subst (All IsEntry) c.in-Some.ensures.steps is.2),
    )
