-- What is noted of a leaf.
use Rattle.std.proofs.Common.{List, ◌++◌, ◌∙◌, map, length, sym, ap, subst, inl}
use Rattle.std.proofs.lemmas.Result.{err_from_is_err_and}
use Rattle.page_types.specs.declared.page.Entry.{Entry}
use Rattle.core_moments.specs.Judging.{fits_asked}
use Rattle.gin_hits.specs.Rows.{asked_by, asked_for}
use Rattle.gin_hits.specs.Entries.{entries_with, AreNotedUnder}
use Rattle.gin_hits.specs.Trees.{trees_of}
use Rattle.gin_scan.proofs.NotedLeaf.{walks_for, names, notes, goes_beyond}
use Rattle.gin_scan.proofs.keys.note_entries.Goals as goal

pub returns-in_err-add_entries : goal.returns-in_err-add_entries
returns-in_err-add_entries g c =
    let p = err_from_is_err_and c.from_residual.result c.from_residual.ensures.1 in
    rw p.1 (record {
      leaf = tt;
      beyond = tt;
      noted = tt;
      named = tt;
      lists = c.add_entries.ensures.lists ∙ ap length c.as_slice.ensures.value ∙ sym c.requires.lists;
      bad = inl p.2;
    })

pub returns : goal.returns
returns g c =
    let a = asked_for c.sought-prefix.result.0.now c.sought-prefix.result.1 in
    let page = c.args.page.now in
    let es = c.in-EntryLeaf.entries in
    let high = c.in-EntryLeaf.high in
    let keys = c.args.keys.now in
    let told = c.in_ok-add_entries.ensures in record {
      leaf = (high, es, c.in-EntryLeaf.is);
      beyond = λ w here.
          let for = walks_for keys c.args.order.now c.args.key w a here c.sought-prefix.ensures in
          goes_beyond w a for page high es c.in-EntryLeaf.is c.beyond.result c.beyond.ensures;
      noted = λ w here.
          let for = walks_for keys c.args.order.now c.args.key w a here c.sought-prefix.ensures in
          notes w a for page high es c.in-EntryLeaf.is (map asked_by keys.keys.items) c.args.main.now
          c.add_entries.new.self
          (subst (λ (ks : _). (before : List Entry) → AreNotedUnder (map asked_by ks) before c.args.main.now
          → AreNotedUnder (map asked_by ks) (before ++ entries_with (fits_asked a) es) c.add_entries.new.self)
          c.as_slice.ensures.value told.noted);
      named = λ w here.
          let for = walks_for keys c.args.order.now c.args.key w a here c.sought-prefix.ensures in
          names w a for page high es c.in-EntryLeaf.is (trees_of c.args.trees.now.items)
          (trees_of c.add_entries.new.trees.items) told.named;
      lists = told.lists ∙ ap length c.as_slice.ensures.value ∙ sym c.requires.lists;
      bad = tt;
    }
