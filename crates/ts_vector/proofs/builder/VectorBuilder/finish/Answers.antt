use Rattle.std.proofs.Common.{◌≡◌, ◌<◌, length, map, sym, subst, ◌∙◌}
use Rattle.std.specs.Prelude.{All}
use Rattle.std.proofs.lemmas.Result.{IfOk-weaker, MatchResult-weaker}
use Rattle.ts_base.specs.Vectors.{content_size}
use Rattle.ts_vector.specs.Normal.{IsNormalFormOf}
use Rattle.ts_vector.specs.Changes.{IsBuiltOf}
use Rattle.ts_vector.specs.Inner.Building.{AreGrouped, rows_of}
use Rattle.ts_vector.specs.Inner.Steps.{IsWritten}
use Rattle.ts_vector.proofs.Building.{rows_written, rows_form}
use Rattle.ts_vector.proofs.Refusing.{over_items}
use Rattle.ts_vector.proofs.builder.VectorBuilder.finish.Goals as goal

pub normal_form-requires : goal.normal_form-requires
normal_form-requires c =
    let ls = c.self.inside.lexemes in
    let os = c.self.inside.occurrences.items in
    let lists = map (λ list. list.items) c.in-Ok.lists.items in
    let g : AreGrouped (length ls) os lists =
    subst (λ t. AreGrouped (length ls) t lists) c.as_slice.ensures.value
    (subst (λ l. AreGrouped (length l) c.as_slice.result.now lists) c.as_slice-lexemes.ensures c.in-Ok.ensures) in
    let is : c.in-Ok-rows.rows ≡ rows_of ls lists =
    c.in-Ok-rows.ensures
    ∙ (λ i. rows_of (c.as_slice-lexemes.ensures i) (map (λ list. list.items) (c.as_slice-2.ensures.value i))) in
    subst (All IsWritten) (sym is) (rows_written ls os lists c.self.invariant g)

pub returns-in-Ok-normal_form-clause-value : goal.returns-in-Ok-normal_form-clause-value
returns-in-Ok-normal_form-clause-value c =
    let ls = c.self.inside.lexemes in
    let os = c.self.inside.occurrences.items in
    let lists = map (λ list. list.items) c.in-Ok.lists.items in
    let g : AreGrouped (length ls) os lists =
    subst (λ t. AreGrouped (length ls) t lists) c.as_slice.ensures.value
    (subst (λ l. AreGrouped (length l) c.as_slice.result.now lists) c.as_slice-lexemes.ensures c.in-Ok.ensures) in
    let is : c.in-Ok-rows.rows ≡ rows_of ls lists =
    c.in-Ok-rows.ensures
    ∙ (λ i. rows_of (c.as_slice-lexemes.ensures i) (map (λ list. list.items) (c.as_slice-2.ensures.value i))) in
    let made = c.in-Ok-normal_form.entries in
    let form : IsNormalFormOf c.args.self made =
    subst (λ t. IsNormalFormOf t made) c.self.view_is
    (rows_form ls os lists c.self.invariant g made (subst
    (λ t. IsNormalFormOf t made) is c.in-Ok-normal_form.ensures.form)) in
    IfOk-weaker c.within_limit.result (λ v. (v ≡ made) × (content_size v < 1048576)) (IsBuiltOf c.args.self)
    (λ v h. record {
      form = subst (IsNormalFormOf c.args.self)
          (sym h.0) form;
      small = h.1;
    }) c.within_limit.ensures.value

pub returns-in-Ok-normal_form-clause-cause : goal.returns-in-Ok-normal_form-clause-cause
returns-in-Ok-normal_form-clause-cause c =
    let ls = c.self.inside.lexemes in
    let os = c.self.inside.occurrences.items in
    let lists = map (λ list. list.items) c.in-Ok.lists.items in
    let g : AreGrouped (length ls) os lists =
    subst (λ t. AreGrouped (length ls) t lists) c.as_slice.ensures.value
    (subst (λ l. AreGrouped (length l) c.as_slice.result.now lists) c.as_slice-lexemes.ensures c.in-Ok.ensures) in
    let is : c.in-Ok-rows.rows ≡ rows_of ls lists =
    c.in-Ok-rows.ensures
    ∙ (λ i. rows_of (c.as_slice-lexemes.ensures i) (map (λ list. list.items) (c.as_slice-2.ensures.value i))) in
    let made = c.in-Ok-normal_form.entries in
    let form : IsNormalFormOf c.args.self made =
    subst (λ t. IsNormalFormOf t made) c.self.view_is
    (rows_form ls os lists c.self.invariant g made (subst
    (λ t. IsNormalFormOf t made) is c.in-Ok-normal_form.ensures.form)) in
    MatchResult-weaker c.within_limit.result c.within_limit.ensures.cause (λ x p. p) (over_items c.args.self made form)
