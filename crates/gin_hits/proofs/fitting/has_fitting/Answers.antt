use Rattle.std.proofs.Common.{◌≡◌, ◌∙◌, [], get_or, sym, ap, arith}
use Rattle.std.specs.List.{list_any}
use Rattle.std.proofs.lemmas.Option.{get_or_from_slice_get, slice_get_within}
use Rattle.page_types.specs.Parts.{pieces_shown}
use Rattle.core_moments.specs.Judging.{fits_asked}
use Rattle.gin_hits.specs.Rows.{asked_for}
use Rattle.gin_hits.proofs.Searching.{some_fits, fits_some, same_bool, false_of, not_below}
use Rattle.gin_hits.proofs.fitting.has_fitting.Goals as goal

pub returns-then-place-len : goal.returns-then-place-len
returns-then-place-len g c =
    let all = pieces_shown c.args.keys in
    let key = c.args.asked.now in
    let p = c.below-place.result in
    let test = fits_asked (asked_for key c.args.prefix) in
    let got : get_or all p [] ≡ c.at.result.now = get_or_from_slice_get all p c.at.result.now [] c.at.ensures in
    c.fits.ensures ∙ ap test (sym got)
    ∙ same_bool (test (get_or all p [])) (list_any test all)
    (λ e. fits_some key all p c.requires c.below-place.ensures c.args.prefix
    (slice_get_within all p c.at.result.now c.at.ensures) e)
    (λ e. (some_fits key all p c.requires c.below-place.ensures c.args.prefix e).1)

pub returns-else-place-len : goal.returns-else-place-len
returns-else-place-len g c =
    let all = pieces_shown c.args.keys in
    let key = c.args.asked.now in
    let p = c.below-place.result in
    let test = fits_asked (asked_for key c.args.prefix) in
    not_below p c.len.result c.if-place-len.false
    ∙ sym (false_of (list_any test all)
    (λ e. omega (
      arith,
      (some_fits key all p c.requires c.below-place.ensures c.args.prefix e).0,
      c.if-place-len.false,
      c.len.ensures,
    )))
