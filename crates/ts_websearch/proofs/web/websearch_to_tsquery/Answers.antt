use Rattle.std.proofs.Common.{◌∷◌, [], ◌++◌, refl, sym, subst, ◌∙◌, rules}
use Rattle.std.proofs.lemmas.Bool.{false≢true}
use Rattle.std.proofs.lemmas.Result.{err_from_is_err_and}
use Rattle.ts_make.specs.Made.{IsMadeOf}
use Rattle.ts_websearch.specs.Made.{web_query}
use Rattle.ts_websearch.specs.Inner.Pieces.{piece_item}
use Rattle.ts_websearch.proofs.Adding.{web_made}
use Rattle.ts_websearch.proofs.Reading.{read_whole, loop_start, loop_word, loop_operator, word_fails, operator_fails}
use Rattle.ts_websearch.proofs.Reading.{end_fails}
use Rattle.ts_websearch.proofs.web.websearch_to_tsquery.Goals as goal

pub loop-piece-init : goal.loop-piece-init
loop-piece-init c = (
  search rules,
  loop_start c.args.configs.now c.args.config.now c.args.text.now _ refl refl c.new.ensures,
)

-- ── the item is an operator ──
pub returns-in_err-end_row-clause-refused : goal.returns-in_err-end_row-clause-refused
returns-in_err-end_row-clause-refused c =
    let p = err_from_is_err_and c.from_residual.result c.from_residual.ensures.1 in
    let k = c.args.configs.now in
    let m = c.args.config.now in
    let l = c.loop-piece.invariant.1 in
    rw (p.1, p.2)
    (operator_fails k m c.args.text.now c.loop-piece.web c.loop-piece.rest.now c.in-Some.behind.now
    (piece_item c.in-Some.piece) l c.in-Some.ensures.some c.in_err-end_row.field-0.0
    (λ is a. (c.is_operator.ensures l.row is l.at.has_row a).0 c.if-is_operator.true)
    (c.in_err-end_row.ensures.refused k m l.ended l.row l.at))

pub loop-piece-preserved-in_ok-end_row : goal.loop-piece-preserved-in_ok-end_row
loop-piece-preserved-in_ok-end_row c =
    let k = c.args.configs.now in
    let m = c.args.config.now in
    let l = c.loop-piece.invariant.1 in (
      search rules,
      loop_operator k m c.args.text.now c.loop-piece.web c.loop-piece.rest.now c.in-Some.behind.now
          (piece_item c.in-Some.piece) l c.in-Some.ensures.some c.end_row.new.self
          (λ is a. (c.is_operator.ensures l.row is l.at.has_row a).0 c.if-is_operator.true)
          (c.in_ok-end_row.ensures.value k m l.ended l.row l.at),
    )

-- ── it is a word ──
pub returns-in_err-add-clause-refused : goal.returns-in_err-add-clause-refused
returns-in_err-add-clause-refused c =
    let p = err_from_is_err_and c.from_residual-in_err-add.result
    c.from_residual-in_err-add.ensures.1 in
    let k = c.args.configs.now in
    let m = c.args.config.now in
    let l = c.loop-piece.invariant.1 in
    rw (p.1, p.2)
    (word_fails k m c.args.text.now c.loop-piece.web c.loop-piece.rest.now c.in-Some.behind.now
    (piece_item c.in-Some.piece) l c.in-Some.ensures.some c.in_err-add.field-0.0
    (λ is a o. false≢true
    (sym c.if-is_operator.false ∙ (c.is_operator.ensures l.row is l.at.has_row a).1 o))
    (c.in_err-add.ensures.refused l.ended l.row l.at))

pub loop-piece-preserved : goal.loop-piece-preserved
loop-piece-preserved c =
    let k = c.args.configs.now in
    let m = c.args.config.now in
    let l = c.loop-piece.invariant.1 in (
      search rules,
      loop_word k m c.args.text.now c.loop-piece.web c.loop-piece.rest.now c.in-Some.behind.now
          (piece_item c.in-Some.piece) l c.in-Some.ensures.some c.add.new.self
          (λ is a o. false≢true
          (sym c.if-is_operator.false ∙ (c.is_operator.ensures l.row is l.at.has_row a).1 o))
          (c.in_ok-add.ensures.value l.ended l.row l.at),
    )

-- ── the text ends ──
pub returns-in_err-end_row-2-clause-refused : goal.returns-in_err-end_row-2-clause-refused
returns-in_err-end_row-2-clause-refused c =
    let p = err_from_is_err_and c.from_residual-in_err-end_row-2.result
    c.from_residual-in_err-end_row-2.ensures.1 in
    let k = c.args.configs.now in
    let m = c.args.config.now in
    let l = c.loop-piece.invariant.1 in
    rw (p.1, p.2)
    (end_fails k m c.args.text.now c.loop-piece.web c.loop-piece.rest.now l
    c.in_err-end_row-2.field-0.0 c.in_default.ensures.none
    (c.in_err-end_row-2.ensures.refused k m l.ended l.row l.at))

pub finish-requires : goal.finish-requires
finish-requires c =
    let k = c.args.configs.now in
    let m = c.args.config.now in
    let l = c.loop-piece.invariant.1 in
    let r = web_made k m c.end_row-2.new.self (l.ended ++ l.row ∷ [])
    (c.in_ok-end_row-2.ensures.value k m l.ended l.row l.at) in
    (r.sketches, r.few, r.making)

pub returns-clause-value : goal.returns-clause-value
returns-clause-value c =
    let k = c.args.configs.now in
    let m = c.args.config.now in
    let l = c.loop-piece.invariant.1 in
    let rows = l.ended ++ l.row ∷ [] in
    let r = web_made k m c.end_row-2.new.self rows
    (c.in_ok-end_row-2.ensures.value k m l.ended l.row l.at) in (
      rows,
      read_whole c.args.text.now c.loop-piece.rest.now l.ended l.row l.read
          c.in_default.ensures.none,
      subst (IsMadeOf k m (web_query rows))
          (sym (c.finish.ensures.value r.sketches r.few r.making)) r.value,
    )
