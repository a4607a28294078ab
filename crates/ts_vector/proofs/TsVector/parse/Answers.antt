use Rattle.std.proofs.Common.{◌≡◌, ◌≤◌, ◌<◌, ◌^◌, arith, subst, sym}
use Rattle.std.specs.Prelude.{All}
use Rattle.std.proofs.lemmas.Result.{IfOk-weaker, MatchResult-weaker}
use Rattle.ts_base.specs.Vectors.{content_size}
use Rattle.ts_vector.specs.Inner.Steps.{IsWritten}
use Rattle.ts_vector.specs.Text.{IsVectorText, IsTextOf, AllShort, entries}
use Rattle.ts_vector.specs.Normal.{IsNormalFormOf}
use Rattle.ts_vector.proofs.Refusing.{over_text}
use Rattle.ts_vector.proofs.TextFacts.{text_good, written_of, text_content}
use Rattle.ts_vector.proofs.TsVector.parse.Goals as goal

pub normal_form-requires : goal.normal_form-requires
normal_form-requires c =
    let items = c.in-Ok-Ok.words in
    let found : IsVectorText c.as_bytes.result.now items = rw c.in-Ok-Ok.field-0-is at c.in-Ok-Ok.ensures.found in
    subst (All IsWritten) (sym c.into_entries.ensures)
    (written_of items (text_good c.as_bytes.result.now items found c.as_bytes.ensures.utf8) c.in_default.ensures)

pub returns-in-Ok-clause-value : goal.returns-in-Ok-clause-value
returns-in-Ok-clause-value c =
    let items = c.in-Ok-Ok.words in
    let made = c.in-Ok.entries in
    let found : IsVectorText c.as_bytes.result.now items = rw c.in-Ok-Ok.field-0-is at c.in-Ok-Ok.ensures.found in
    let here : IsVectorText c.args.text.now items = subst (λ t. IsVectorText t items) c.as_bytes.ensures.value found in
    let fit : AllShort items = c.in_default.ensures in
    let form : IsNormalFormOf (entries items) made =
    subst (λ l. IsNormalFormOf l made) c.into_entries.ensures c.in-Ok.ensures.form in
    IfOk-weaker c.within_limit.result (λ v. (v ≡ made) × (content_size v < 1048576)) (IsTextOf c.args.text.now)
    (λ v h. record {
      items = items;
      text_of = here;
      fit = fit;
      form = subst (IsNormalFormOf (entries items)) (sym h.0) form;
      small = h.1;
    }) c.within_limit.ensures.value

pub returns-in-Ok-clause-cause : goal.returns-in-Ok-clause-cause
returns-in-Ok-clause-cause c =
    let items = c.in-Ok-Ok.words in
    let made = c.in-Ok.entries in
    let found : IsVectorText c.as_bytes.result.now items = rw c.in-Ok-Ok.field-0-is at c.in-Ok-Ok.ensures.found in
    let here : IsVectorText c.args.text.now items = subst (λ t. IsVectorText t items) c.as_bytes.ensures.value found in
    let fit : AllShort items = c.in_default.ensures in
    let form : IsNormalFormOf (entries items) made =
    subst (λ l. IsNormalFormOf l made) c.into_entries.ensures c.in-Ok.ensures.form in
    let text = text_content c.as_bytes.result.now items found in
    let size = subst (λ l. content_size made ≤ content_size l) c.into_entries.ensures c.in-Ok.ensures.size in
    let small : content_size made < 2 ^ 64 = omega (arith, c.read.ensures.bound) in
    MatchResult-weaker c.within_limit.result c.within_limit.ensures.cause (λ x p. p)
    (over_text c.args.text.now items made here fit form small)
