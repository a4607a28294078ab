use Rattle.std.proofs.Common.{◌≡◌, ◌∷◌, [], ◌++◌, arith, ap, sym, subst, ◌∙◌, length, map, append_assoc, append-nil}
use Rattle.std.proofs.lemmas.List.{length-map}
use Rattle.std.specs.Prelude.{All}
use Rattle.ts_base.specs.Lexemes.{IsLexeme}
use Rattle.ts_base.specs.Vectors.{IsPosition, IsNormal}
use Rattle.ts_vector.specs.Changes.{IsGreatest}
use Rattle.ts_vector.specs.Inner.CappedForm.{moved_within, shifted_within}
use Rattle.ts_vector.specs.Inner.Columns.{entry}
use Rattle.ts_vector.specs.Inner.Gathered.{Puts, AreBehind}
use Rattle.ts_vector.proofs.Changed.{moved_written, moved_size}
use Rattle.ts_vector.proofs.Joining.{moved, up_moved}
use Rattle.ts_vector.proofs.Gathering.{Gathers, gather_start, gather_step, gather_end, row_entry, row_size, fresh}
use Rattle.ts_vector.proofs.Gathering.{shifted_push, moved_valid, moved_behind}
use Rattle.ts_vector.proofs.gathered.Gathered.join.Goals as goal

pub loop-entry-init : goal.loop-entry-init
loop-entry-init c = record {
  gathers = gather_start c.args.self.now (subst IsNormal c.self.view_is c.self.invariant.0).rising;
  rest = c.into_iter-entry-iterator.ensures.into_iter_gives ∙ c.entry_refs-entry-items.ensures;
}

pub put-requires-clause-lexeme : goal.put-requires-clause-lexeme
put-requires-clause-lexeme c =
    let is = ap (λ t. c.loop-entry.yielded ++ t) (sym c.in-Some.ensures.steps) ∙ c.loop-entry.invariant.rest in
    subst IsLexeme (sym c.lexeme.ensures) (row_entry c.args.other.now c.requires.normal c.loop-entry.yielded
    c.next.new.self c.in-Some.entry is c.self.inside.greatest).lexeme

pub put-requires-clause-positions : goal.put-requires-clause-positions
put-requires-clause-positions c =
    let by = c.self.inside.greatest in
    let is = ap (λ t. c.loop-entry.yielded ++ t) (sym c.in-Some.ensures.steps) ∙ c.loop-entry.invariant.rest in
    let ps : c.as_slice.result.now ≡ map (moved_within by) c.in-Some.entry.positions =
    c.as_slice.ensures.value ∙ c.in_ok-positions.ensures ∙ ap (map (moved_within by)) c.positions.ensures in
    subst (All IsPosition) (sym ps)
    (moved_valid c.args.other.now c.requires.normal c.loop-entry.yielded c.next.new.self c.in-Some.entry is by)

pub put-requires-clause-behind : goal.put-requires-clause-behind
put-requires-clause-behind c =
    let by = c.self.inside.greatest in
    let is = ap (λ t. c.loop-entry.yielded ++ t) (sym c.in-Some.ensures.steps) ∙ c.loop-entry.invariant.rest in
    let ps : c.as_slice.result.now ≡ map (moved_within by) c.in-Some.entry.positions =
    c.as_slice.ensures.value ∙ c.in_ok-positions.ensures ∙ ap (map (moved_within by)) c.positions.ensures in
    let greatest : IsGreatest c.args.self.now by = subst (λ v. IsGreatest v by) c.self.view_is c.self.invariant.2 in
    subst (λ l. AreBehind c.loop-entry.self l c.as_slice.result.now) (sym c.lexeme.ensures)
    (subst (AreBehind c.loop-entry.self c.in-Some.entry.lexeme) (sym ps)
    (moved_behind c.args.other.now c.requires.normal c.loop-entry.yielded c.next.new.self c.in-Some.entry is by
    c.args.self.now c.loop-entry.self c.self.invariant.3 greatest c.loop-entry.invariant.gathers))

pub put-requires-clause-small : goal.put-requires-clause-small
put-requires-clause-small c =
    let by = c.self.inside.greatest in
    let is = ap (λ t. c.loop-entry.yielded ++ t) (sym c.in-Some.ensures.steps) ∙ c.loop-entry.invariant.rest in
    let ps : c.as_slice.result.now ≡ map (moved_within by) c.in-Some.entry.positions =
    c.as_slice.ensures.value ∙ c.in_ok-positions.ensures ∙ ap (map (moved_within by)) c.positions.ensures in
    let more = row_size c.args.other.now c.requires.normal c.loop-entry.yielded c.next.new.self c.in-Some.entry is by in
    let n : length c.as_slice.result.now ≡ length c.in-Some.entry.positions =
    ap length ps ∙ length-map c.in-Some.entry.positions (moved_within by) in
    let l = ap length c.lexeme.ensures in
    omega (arith, c.loop-entry.invariant.gathers.size, moved_size by c.loop-entry.yielded, c.requires.small)

pub loop-entry-preserved : goal.loop-entry-preserved
loop-entry-preserved c =
    let by = c.self.inside.greatest in
    let done = c.loop-entry.yielded in
    let item = c.in-Some.entry in
    let is = ap (λ t. done ++ t) (sym c.in-Some.ensures.steps) ∙ c.loop-entry.invariant.rest in
    let ps : c.as_slice.result.now ≡ map (moved_within by) item.positions =
    c.as_slice.ensures.value ∙ c.in_ok-positions.ensures ∙ ap (map (moved_within by)) c.positions.ensures in
    let e : entry c.lexeme.result.now c.as_slice.result.now ≡ moved by item = λ i. entry (c.lexeme.ensures i) (ps i) in
    let puts : Puts c.loop-entry.self (moved by item) c.put.new.self =
    subst (λ t. Puts c.loop-entry.self t c.put.new.self) e c.in_ok-put.ensures in
    record {
      gathers = subst (λ t. Gathers c.args.self.now t c.put.new.self)
          (sym (shifted_push c.args.other.now c.requires.normal done c.next.new.self item is by))
          (gather_step c.args.self.now (shifted_within by done) c.loop-entry.self c.put.new.self
          (moved by item) c.loop-entry.invariant.gathers puts
          (fresh c.args.other.now c.requires.normal done c.next.new.self item is by));
      rest = append_assoc done (item ∷ []) c.next.new.self ∙ is;
    }

pub returns : goal.returns
returns c =
    let by = c.self.inside.greatest in
    let v = c.args.self.now in
    let w = c.args.other.now in
    let all : c.loop-entry.yielded ≡ w = sym (append-nil c.loop-entry.yielded)
    ∙ ap (λ t. c.loop-entry.yielded ++ t) (sym c.in-None.ensures.steps.0) ∙ c.loop-entry.invariant.rest in
    let g : Gathers v (shifted_within by w) c.loop-entry.self =
    subst (λ t. Gathers v (shifted_within by t) c.loop-entry.self) all c.loop-entry.invariant.gathers in
    let normal : IsNormal v = subst IsNormal c.self.view_is c.self.invariant.0 in (
      by,
      subst (λ t. IsGreatest t by) c.self.view_is c.self.invariant.2,
      gather_end v (shifted_within by w) c.loop-entry.self g normal (up_moved by w c.requires.normal.rising)
          (moved_written by w c.requires.normal),
    )
