use Rattle.std.proofs.Common.{◌≡◌, List, Err, refl, sym, ap, subst, ◌∙◌}
use Rattle.std.proofs.lemmas.Result.{err_from_is_err_and}
use Rattle.page_types.specs.declared.page.Row.{Row}
use Rattle.page_types.specs.declared.page.Body.TheVariants as body
use Rattle.gin_cleanup.specs.Inner.Noting.{AreOfDocuments, HasNoted}
use Rattle.gin_cleanup.proofs.Tests.{not_both}
use Rattle.gin_cleanup.proofs.cleanup.Cleanup.note.Goals as goal

same_rows : (a b : List Row) → body.Pending a ≡ body.Pending b → a ≡ b
same_rows a b e = cc

pub returns-in_default : goal.returns-in_default
returns-in_default c = HasNoted.bad (λ page. c.in_default.ensures.none page.0 page.1) refl refl

pub returns-then-not-are_documents : goal.returns-then-not-are_documents
returns-then-not-are_documents c =
    HasNoted.bad
    (λ page.
    not_both c.are_documents.result ((c.are_documents.ensures).1 (subst AreOfDocuments
    (same_rows page.0 c.in-Some.rows.now (sym page.1 ∙ c.in-Some.ensures.some)) page.2))
    c.if-not-are_documents.true) refl refl

pub returns-then-ends_before : goal.returns-then-ends_before
returns-then-ends_before c =
    HasNoted.ends c.in-Some.rows.now c.in-Some.ensures.some (c.ends_before.ensures c.if-ends_before.true)
    c.next_key.ensures _ refl

pub returns-in_err-take : goal.returns-in_err-take
returns-in_err-take c =
    let p = err_from_is_err_and c.from_residual.result c.from_residual.ensures.1 in
    HasNoted.kept c.in-Some.rows.now c.in-Some.ensures.some
    ((c.are_documents.ensures).0 c.if-not-are_documents.false) c.in_err-take.ensures.kept
    (p.1 ∙ ap Err p.2)

pub returns : goal.returns
returns c =
    HasNoted.taken c.in-Some.rows.now c.in-Some.ensures.some
    ((c.are_documents.ensures).0 c.if-not-are_documents.false) c.in_ok-take.ensures.taken
    _ refl
