use Rattle.std.proofs.Common.{◌∙◌, sym}
use Rattle.ts_websearch.specs.Inner.Pieces.{piece_item}
use Rattle.ts_websearch.proofs.Operators.{next_told, told_behind, told_not}
use Rattle.ts_websearch.proofs.web.is_operator.Goals.{then-row, else-row}
use Rattle.ts_websearch.proofs.web.is_operator.Goals as goal

pub returns-then-is_or : goal.returns-then-is_or
returns-then-is_or c = λ a is e q.
    let t = next_told (λ x. piece_item x.0)
    (λ x. x.1.now) c.args.behind.now c.next_piece.result c.is_some.result
    c.next_piece.ensures.some c.next_piece.ensures.none c.is_some.ensures is q in
    elim c.if-row.branch [
      | then-row w ↦ told_behind c.args.row c.is_some.result a
          (piece_item c.args.piece) is e w.if-row.true
          (w.is_or.ensures.0 (sym w.value-is ∙ c.if-is_or.true)) t
      | else-row w ↦ absurd (let h = w.value-is in let k = c.if-is_or.true in
          let f = w.if-row.false in let no : ⊥ = cc in no)
    ]

pub returns-else-is_or : goal.returns-else-is_or
returns-else-is_or c = λ a is e q.
    elim c.if-row.branch [
      | then-row w ↦ told_not c.args.row c.if-row.value a
          (piece_item c.args.piece) is e c.if-is_or.false (λ t o. w.value-is ∙ w.is_or.ensures.1 o)
      | else-row w ↦ told_not c.args.row c.if-row.value a
          (piece_item c.args.piece) is e c.if-is_or.false
          (λ t o. absurd (let f = w.if-row.false in let no : ⊥ = cc in no))
    ]
