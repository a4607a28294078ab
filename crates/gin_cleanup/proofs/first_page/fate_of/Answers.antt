use Rattle.std.proofs.Common.{◌≡◌, ◌∙◌, List, length, sym, ap, arith}
use Rattle.std.proofs.lemmas.Result.{err_from_is_err_and}
use Rattle.page_types.specs.Views.{rows_in, rows_of}
use Rattle.page_types.specs.declared.page.Page.{Page}
use Rattle.page_types.specs.declared.page.Row.{Row}
use Rattle.gin_place.proofs.Causing.{at_exit}
use Rattle.gin_place.proofs.Exits.{none_ok}
use Rattle.gin_place.specs.declared.error.PlaceError.TheVariants.{OutOfMemory}
use Rattle.gin_cleanup.specs.Inner.Shifting.{IsFate, HasNoFate}
use Rattle.gin_cleanup.proofs.first_page.fate_of.Goals as goal

pub returns-in_default : goal.returns-in_default
returns-in_default c = record {
  fate = tt;
  none = (
    c.number.ensures.value,
    λ rows is. c.in_default.ensures.none rows (ap (λ (p : Page). p.body) c.page.ensures.value ∙ is),
  );
}

pub returns-then-turns-eq0 : goal.returns-then-turns-eq0
returns-then-turns-eq0 c = record { fate = tt; none = tt }

pub returns-then-len-noted : goal.returns-then-len-noted
returns-then-len-noted c =
    let same : rows_of c.args.first.now.page.content ≡ c.in-Some.rows.now =
    ap rows_of (sym c.page.ensures.value) ∙ ap rows_in c.in-Some.ensures.some in
    record {
      fate = (
        omega (arith, c.if-len-noted.true, c.len.ensures, ap (λ (ws : List Row). length ws) same),
        omega (arith, c.if-turns-eq0.false),
      );
      none = tt;
    }

pub returns-in_err-shift_step : goal.returns-in_err-shift_step
returns-in_err-shift_step c =
    let r = c.from_residual.result in
    let p = err_from_is_err_and r c.from_residual.ensures.1 in
    record {
      fate = none_ok r p.0 (IsFate c.args.first.now.meta c.args.first.now.page c.args.noted c.args.turns) p.1;
      none = at_exit (HasNoFate c.args.first.now.page) r p.0 OutOfMemory p.1 p.2 tt;
    }

pub returns : goal.returns
returns c =
    let same : rows_of c.args.first.now.page.content ≡ c.in-Some.rows.now =
    ap rows_of (sym c.page.ensures.value) ∙ ap rows_in c.in-Some.ensures.some in
    record {
      fate = (
        omega (arith, c.if-len-noted.false, c.len.ensures, ap (λ (ws : List Row). length ws) same),
        c.in_ok-shift_step.ensures,
      );
      none = tt;
    }
