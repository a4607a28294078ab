-- What is noted of a page of the list.
use Rattle.std.proofs.Common.{◌++◌, true, cond, List, length, map, refl, sym, ap, subst, ◌∙◌, inl, inr}
use Rattle.std.proofs.lemmas.Result.{err_from_is_err_and}
use Rattle.page_types.specs.declared.page.Row.{Row}
use Rattle.gin_hits.specs.Rows.{asked_by, first_of_rows, AreNoted}
use Rattle.gin_hits.specs.declared.hits.Hits.{Hits}
use Rattle.gin_scan.specs.Scanning.{asked_in}
use Rattle.gin_scan.specs.declared.scan_core.ScanCore.{ScanCore}
use Rattle.gin_scan.proofs.scan_core.ScanCore.note_rows.Goals as goal

pub returns-in_default : goal.returns-in_default
returns-in_default g c = record {
  took = refl;
  noted = tt;
  bad = inr (refl, c.in_default.ensures.none);
}

pub returns-in_err-add_rows : goal.returns-in_err-add_rows
returns-in_err-add_rows g c =
    let p = err_from_is_err_and c.from_residual.result c.from_residual.ensures.1 in
    rw p.1 (record {
      took = ap (λ (z : ScanCore). z.took_pin) c.begin_list.ensures;
      noted = tt;
      bad = inl p.2;
    })

pub returns : goal.returns
returns g c =
    let s = c.args.self.now in
    let begun = c.begin_list.ensures in
    let some = c.in-Some.ensures.some in
    let rows = c.in-Some.rows.now in
    let new : Hits = c.add_rows.new.self in
    let keys = c.as_slice.ensures.value ∙ ap (λ (z : ScanCore). z.keys.keys.items) begun in
    record {
      took = ap (λ (z : ScanCore). z.took_pin) begun;
      noted = record {
        has = some.0;
        next = refl;
        noted = λ before had.
            subst (λ (more : List Row). AreNoted (asked_in s) (before ++ more) new) some.1
            (subst (λ (ks : _). AreNoted (map asked_by ks) (before ++ rows) new) keys
            (c.in_ok-add_rows.ensures.noted before
            (subst (λ (ks : _). AreNoted (map asked_by ks) before c.begin_list.new.self.pending) (sym keys)
            (subst (AreNoted (asked_in s) before) (sym (ap (λ (z : ScanCore). z.pending) begun)) had))));
        first = ap (λ (z : ScanCore). z.first_item) begun
            ∙ ap (λ (rs : List Row). cond s.has_begun s.first_item (first_of_rows rs)) some.1;
        rest = ap (λ (z : ScanCore). record z { pending = new }) begun
            ∙ ap (λ (item : _). record s { pending = new; has_begun = true; first_item = item })
            (sym (ap (λ (z : ScanCore). z.first_item) begun));
        lists = c.add_rows.ensures.lists ∙ ap length keys ∙ sym c.requires.scan.pending;
      };
      bad = tt;
    }
