use Rattle.std.proofs.Common.{◌∙◌, ◌++◌, ◌+◌, List, length, map, take, sym, ap, subst, append-nil, arith}
use Rattle.std.proofs.lemmas.List.{take_all}
use Rattle.page_types.specs.Pages.{IsRow}
use Rattle.page_types.specs.Parts.{row_shown}
use Rattle.page_types.specs.declared.page.Row.{Row}
use Rattle.gin_hits.specs.Rows.{asked_by, AreNoted}
use Rattle.gin_hits.specs.declared.hits.Hits.{Hits}
use Rattle.gin_hits.proofs.AddedRows.{noted_next, some_row}
use Rattle.gin_hits.proofs.ToldHits.{all_get}
use Rattle.gin_hits.proofs.hits.Hits.add_rows.Goals as goal
use Rattle.gin_hits.proofs.hits.Hits.add_rows.Goals.{in-Some+in_ok-add_row, in_default}

pub loop-k-init : goal.loop-k-init
loop-k-init g c = record {
  lists = c.requires.lists;
  noted = λ before noted.
      subst (λ (rs : List Row). AreNoted (map asked_by c.args.asked.now) rs c.args.self.now) (sym (append-nil before))
      noted;
}

pub add_row-requires : goal.add_row-requires
add_row-requires g c = record {
  lists = c.loop-k.invariant.lists;
  row = all_get IsRow c.args.rows.now c.loop-k.k (row_shown c.in-Some.row) c.requires.rows c.in-Some.ensures.some;
}

pub loop-k-preserved : goal.loop-k-preserved
loop-k-preserved g c =
    let asked = map asked_by c.args.asked.now in
    let rows = c.args.rows.now in
    let k = c.loop-k.k in
    let was = c.loop-k.invariant in
    elim c.match-get.branch [
      | in-Some+in_ok-add_row w ↦ record {
        lists = ap (λ (h : Hits). length h.by_key.items) w.self-is ∙ w.add_row.ensures.lists;
        noted = λ before noted.
            subst (AreNoted asked (before ++ take (k + 1) rows)) (sym w.self-is)
            (noted_next asked before rows (row_shown w.in-Some.row) k w.add_row.new.self w.in-Some.ensures.some
            (w.in_ok-add_row.ensures.noted (before ++ take k rows) (was.noted before noted)));
      }
      | in_default w ↦
          absurd (some_row c.get.result (length rows) k w.in_default.not-Some c.get.ensures.none
          (omega (arith, c.loop-k-test.true, c.len-k-end.ensures)))
    ]

pub returns : goal.returns
returns g c =
    let rows = c.args.rows.now in
    let all = take_all c.loop-k.k rows (omega (arith, c.loop-k-test.false, c.len-k-end.ensures)) in record {
      lists = c.loop-k.invariant.lists;
      noted = λ before noted.
          subst (λ (rs : List Row). AreNoted (map asked_by c.args.asked.now) (before ++ rs) c.loop-k.self) all
          (c.loop-k.invariant.noted before noted);
    }
