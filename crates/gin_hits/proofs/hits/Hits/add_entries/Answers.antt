-- The entries that fit are noted one after another.
use Rattle.std.proofs.Common.{◌≡◌, ◌++◌, map, slice_range, sym, arith}
use Rattle.std.proofs.lemmas.Result.{err_from_is_err_and}
use Rattle.page_types.specs.Parts.{entry_shown}
use Rattle.core_moments.specs.Judging.{fits_asked}
use Rattle.gin_hits.specs.Rows.{asked_by, asked_for}
use Rattle.gin_hits.specs.Entries.{entries_with}
use Rattle.gin_hits.specs.Trees.{trees_of}
use Rattle.page_types.specs.Pages.{IsEntry}
use Rattle.gin_hits.proofs.FittingEntries.{range_more, each_has}
use Rattle.gin_hits.proofs.AddedEntries.{noted_next, noted_none, noted_all}
use Rattle.gin_hits.proofs.TreesNamed.{named_next, named_none, named_all}
use Rattle.gin_hits.proofs.hits.Hits.add_entries.Goals as goal

pub fitting-from-requires : goal.fitting-from-requires
fitting-from-requires g c = c.requires.entries

pub loop-k-init : goal.loop-k-init
loop-k-init g c =
    let es = c.args.entries.now in
    let from = c.fitting-from.result.0 in record {
      lists = c.requires.lists;
      noted = λ before noted. noted_none (map asked_by c.args.asked.now) before es from c.args.self.now noted;
      named = named_none (trees_of c.args.trees.now.items) es from;
    }

pub note_entry-requires : goal.note_entry-requires
note_entry-requires g c = record {
  lists = c.loop-k.invariant.lists;
  entry = each_has IsEntry c.args.entries.now c.loop-k.k (entry_shown c.in-Some.entry) c.requires.entries.each
      c.in-Some.ensures.some;
}

pub loop-k-preserved : goal.loop-k-preserved
loop-k-preserved g c =
    let es = c.args.entries.now in
    let from = c.fitting-from.result.0 in
    let k = c.loop-k.k in
    let e = entry_shown c.in-Some.entry in
    let was = c.loop-k.invariant in
    record {
      lists = c.in_ok-note_entry.ensures.lists;
      noted = λ before noted.
          noted_next (map asked_by c.args.asked.now) before es e from k c.note_entry.new.self c.loop-k.auto.k
          c.in-Some.ensures.some
          (c.in_ok-note_entry.ensures.noted (before ++ slice_range es from k) (was.noted before noted));
      named = named_next (trees_of c.args.trees.now.items) (trees_of c.note_entry.new.trees.items)
          (trees_of c.loop-k.trees.items) es e from k was.named c.in_ok-note_entry.ensures.named
          (sym (range_more es from k e c.loop-k.auto.k c.in-Some.ensures.some));
    }

pub returns-in_default : goal.returns-in_default
returns-in_default g c =
    absurd (omega (arith, c.in_default.ensures.none, c.loop-k-test.true, c.fitting-from.ensures.within))

pub returns-in_err-note_entry : goal.returns-in_err-note_entry
returns-in_err-note_entry g c =
    let p = err_from_is_err_and c.from_residual.result c.from_residual.ensures.1 in
    rw p.1 (record { lists = c.note_entry.ensures.lists; noted = tt; named = tt })

pub returns : goal.returns
returns g c =
    let k = c.loop-k.k in
    let was = c.loop-k.invariant in
    let end = c.fitting-from.result.1 in
    let found = entries_with (fits_asked (asked_for c.args.sought.now c.args.prefix)) c.args.entries.now in
    let last : k ≡ end =
    omega (arith, c.loop-k-test.false, c.loop-k.auto.k-end, c.fitting-from.ensures.ordered) in
    record {
      lists = was.lists;
      noted = λ before noted.
          noted_all (map asked_by c.args.asked.now) before c.args.entries.now found c.fitting-from.result.0 k end
          c.loop-k.self last c.fitting-from.ensures.are (was.noted before noted);
      named = named_all (trees_of c.args.trees.now.items) (trees_of c.loop-k.trees.items) c.args.entries.now found
          c.fitting-from.result.0 k end last c.fitting-from.ensures.are was.named;
    }
