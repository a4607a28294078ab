use Rattle.std.proofs.Common.{◌≡◌, ◌∷◌, [], ◌++◌, ap, sym, subst, ◌∙◌, rules}
use Rattle.std.specs.Prelude.{All}
use Rattle.std.specs.List.{flat_map}
use Rattle.std.specs.String.{string_bytes}
use Rattle.std.proofs.lemmas.List.Elements.{All-tail}
use Rattle.ts_base.specs.Vectors.{IsEntry}
use Rattle.ts_vector.specs.Printed.{entry_text}
use Rattle.ts_vector.proofs.Printing.{next_end}
use Rattle.ts_vector.proofs.printer.put_others.Goals as goal

pub loop-entry-preserved : goal.loop-entry-preserved
loop-entry-preserved c =
    let is = c.loop-entry.invariant in
    let entry = c.in-Some.entry in
    let next = c.next.new.self in
    let spaced : string_bytes c.push.new.self ≡ string_bytes c.loop-entry.out ++ 32 ∷ [] = search rules in (
      next_end (string_bytes c.loop-entry.out) (string_bytes c.push.new.self) (string_bytes c.put_entry.new.out)
          (entry_text entry) (flat_map (λ x. 32 ∷ entry_text x) next) spaced c.in_ok-put_entry.ensures
          ∙ ap (λ t. string_bytes c.loop-entry.out ++ flat_map (λ x. 32 ∷ entry_text x) t) (sym c.in-Some.ensures.steps)
          ∙ is.0,
      All-tail IsEntry entry next (subst (All IsEntry) c.in-Some.ensures.steps is.1),
    )
