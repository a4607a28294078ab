use Rattle.std.proofs.Common.{◌≡◌, ◌+◌, ◌∷◌, [], ◌++◌, length, length-append, append_assoc, ap, sym, ◌∙◌, arith}
use Rattle.std.proofs.lemmas.Grind.{common_steps}
use Rattle.ts_vector.specs.Inner.Columns.{column_entries, entry}
use Rattle.ts_vector.proofs.ColumnFacts.{columns_push, push_are}
use Rattle.ts_vector.proofs.columns.Columns.of_encoding.Goals as goal

pub loop-entry-preserved : goal.loop-entry-preserved
loop-entry-preserved c =
    let is = c.loop-entry.invariant in
    let ls = c.loop-entry.lexemes.items in
    let ps = c.loop-entry.positions.items in
    let es = c.loop-entry.ends.items in
    let e = c.in-Some.entry in
    let ends = c.in_ok-ends_at.field-0 in
    let x : c.extend_from_slice.new.self.items ≡ ls ++ c.as_bytes.result.now = grind (arith, common_steps) in
    let a : c.extend_from_slice.new.self.items ≡ ls ++ e.lexeme =
    x ∙ ap (λ t. ls ++ t) (c.as_bytes.ensures.value ∙ c.lexeme.ensures.value) in
    let b : c.put_places.new.list.items ≡ ps ++ e.positions =
    c.in_ok-put_places.ensures ∙ ap (λ t. ps ++ t) c.positions.ensures.value in
    let d : c.push.new.self.items ≡ es ++ ends ∷ [] = grind (arith, common_steps) in
    let l : ends.lexeme ≡ length ls + length e.lexeme =
    omega (
      arith,
      c.in_ok-ends_at.ensures.lexeme,
      c.len.ensures,
      c.extend_from_slice.new.self.ok.0,
      ap length a,
      length-append ls e.lexeme,
    ) in
    let p : ends.positions ≡ length ps + length e.positions =
    omega (
      arith,
      c.in_ok-ends_at.ensures.positions,
      c.len-in-loop-entry.ensures,
      c.put_places.new.list.ok.0,
      ap length b,
      length-append ps e.positions,
    ) in
    record {
      are = rw (a, b, d) (push_are ls ps es is.are e.lexeme e.positions ends l p);
      read = rw (a, b, d) (
          ap (λ v. v ++ c.next.new.self) (columns_push ls ps es is.are e.lexeme e.positions ends l p)
          ∙ append_assoc (column_entries ls ps es) (entry e.lexeme e.positions ∷ []) c.next.new.self
          ∙ ap (λ v. column_entries ls ps es ++ v) (sym c.in-Some.ensures.steps)
          ∙ is.read);
    }
