use Rattle.std.proofs.Common.{◌∙◌, ◌∷◌, ◌&&◌, ◌||◌, ap, sym, subst, refl}
use Rattle.std.proofs.lemmas.Result.{err_from_is_err_and}
use Rattle.ts_query.specs.Queries.{or_joint}
use Rattle.ts_make.specs.Removal.{joint_sketch}
use Rattle.ts_make.specs.Making.{IsMaking}
use Rattle.ts_websearch.specs.declared.web.WebMaker.{WebMaker}
use Rattle.ts_websearch.proofs.Adding.{end_alone, end_joined, ending_fails, rows_behind}
use Rattle.ts_websearch.proofs.web.WebMaker.end_row.Goals.{then-self+then-self-2+in_ok-join, else-self}
use Rattle.ts_websearch.proofs.web.WebMaker.end_row.Goals.{else-self-via-then-self+else-self-2, else-self-via-else-self}
use Rattle.ts_websearch.proofs.web.WebMaker.end_row.Goals as goal

pub returns-in_err-join-clause-refused : goal.returns-in_err-join-clause-refused
returns-in_err-join-clause-refused c =
    let p = err_from_is_err_and c.from_residual.result c.from_residual.ensures.1 in
    let old = c.args.self.now in
    let both = ap (λ b. b && old.row) c.if-self.true ∙ c.if-self-2.true in
    rw (p.1, p.2) (λ known mapping ended row at. ending_fails known mapping old ended row
    c.in_err-join.field-0.0 at both c.in_err-join.ensures.refused)

pub returns-clause-value : goal.returns-clause-value
returns-clause-value c = λ known mapping ended row at.
    let old = c.args.self.now in
    elim c.if-self.branch [
      | then-self+then-self-2+in_ok-join w ↦
          (let both = ap (λ b. b && old.row) w.if-self.true ∙ w.if-self-2.true in
          let maker = ap (λ (s : WebMaker). s.maker) w.self-is in
          end_joined known mapping old ended row at both _
          (λ d e ds m. subst (λ x. IsMaking x (joint_sketch or_joint d e ∷ ds)) (sym maker)
          (w.in_ok-join.ensures.value d e ds m))
          (ap (λ (s : WebMaker). s.rows || s.row) w.self-is
          ∙ rows_behind known mapping old ended row at) refl)
      | else-self w ↦
          (let rows = ap (λ (s : WebMaker). s.rows || s.row) w.self-is
          ∙ rows_behind known mapping old ended row at in
          let maker = ap (λ (s : WebMaker). s.maker) w.self-is in
          elim w.else-self.branch [
            | else-self-via-then-self+else-self-2 v ↦ end_alone known mapping old _ ended row at
                (ap (λ b. b && old.row) v.if-self.true ∙ v.if-self-2.false) maker rows refl
            | else-self-via-else-self v ↦ end_alone known mapping old _ ended row at
                (ap (λ b. b && old.row) v.if-self.false) maker rows refl
          ])
    ]
