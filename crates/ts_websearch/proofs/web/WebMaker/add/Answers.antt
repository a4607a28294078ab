use Rattle.std.proofs.Common.{◌∷◌, ap, sym, subst, refl}
use Rattle.std.proofs.lemmas.Result.{err_from_is_err_and}
use Rattle.ts_query.specs.Queries.{and_joint}
use Rattle.ts_make.specs.Removal.{joint_sketch}
use Rattle.ts_make.specs.Making.{IsMaking}
use Rattle.ts_websearch.specs.Made.{item_tree}
use Rattle.ts_websearch.specs.Inner.Pieces.{piece_item}
use Rattle.ts_websearch.specs.Inner.Stacks.{IsMadeOn}
use Rattle.ts_websearch.specs.declared.web.WebMaker.{WebMaker}
use Rattle.ts_websearch.proofs.Adding.{item_alone, item_behind, two_sketches, item_fails, joining_fails}
use Rattle.ts_websearch.proofs.web.WebMaker.add.Goals.{then-self+in_ok-join, else-self}
use Rattle.ts_websearch.proofs.web.WebMaker.add.Goals as goal

pub returns-in_err-make_piece-clause-refused : goal.returns-in_err-make_piece-clause-refused
returns-in_err-make_piece-clause-refused c =
    let p = err_from_is_err_and c.from_residual.result c.from_residual.ensures.1 in
    rw (p.1, p.2)
    (λ ended row at. item_fails c.args.configs.now c.args.config.now c.args.self.now ended row
    (piece_item c.args.piece) c.in_err-make_piece.field-0.0 at
    c.in_err-make_piece.ensures.refused)

pub join-requires : goal.join-requires
join-requires c =
    let h = c.requires.at in
    two_sketches c.args.configs.now c.args.config.now c.args.self.now c.make_piece.new.maker h.0 h.1
    (piece_item c.args.piece) h.2 c.if-self.true c.in_ok-make_piece.ensures.value

pub returns-in_err-join-clause-refused : goal.returns-in_err-join-clause-refused
returns-in_err-join-clause-refused c =
    let p = err_from_is_err_and c.from_residual-in_err-join.result
    c.from_residual-in_err-join.ensures.1 in
    rw (p.1, p.2)
    (λ ended row at. joining_fails c.args.configs.now c.args.config.now c.args.self.now
    c.make_piece.new.maker ended row
    (piece_item c.args.piece) c.in_err-join.field-0.0 at c.if-self.true
    c.in_ok-make_piece.ensures.value c.in_err-join.ensures.refused)

pub returns-clause-value : goal.returns-clause-value
returns-clause-value c = λ ended row at.
    let k = c.args.configs.now in
    let m = c.args.config.now in
    let old = c.args.self.now in
    let i = piece_item c.args.piece in
    elim c.if-self.branch [
      | then-self+in_ok-join w ↦
          (let maker = ap (λ (s : WebMaker). s.maker) w.self-is in
          item_behind k m old c.make_piece.new.maker ended row i at w.if-self.true
          c.in_ok-make_piece.ensures.value _
          (λ d e ds n. subst (λ x. IsMaking x (joint_sketch and_joint d e ∷ ds)) (sym maker)
          (w.in_ok-join.ensures.value d e ds n))
          (ap (λ (s : WebMaker). s.rows) w.self-is) refl)
      | else-self w ↦
          (let maker = ap (λ (s : WebMaker). s.maker) w.self-is in
          item_alone k m old _ ended row i at w.if-self.false
          (subst (λ x. IsMadeOn k m (item_tree i) old.maker x)
          (sym maker) c.in_ok-make_piece.ensures.value)
          (ap (λ (s : WebMaker). s.rows) w.self-is) refl)
    ]
