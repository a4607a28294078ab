-- An entry that names a tree has no items itself.
use Rattle.std.proofs.Common.{◌∙◌, ◌++◌, List, map, sym, ap}
use Rattle.std.proofs.lemmas.Result.{on_ok_weaker}
use Rattle.page_types.specs.Parts.{entry_shown, postings_shown}
use Rattle.core_moments.specs.OpenWalk.{NamedTree}
use Rattle.gin_hits.specs.Rows.{asked_by}
use Rattle.gin_hits.specs.Trees.{trees_of}
use Rattle.gin_hits.proofs.TreesNamed.{noted_tree, one_tree}
use Rattle.gin_hits.proofs.hits.Hits.note_entry.Goals as goal

pub returns-in-Root-clause-noted : goal.returns-in-Root-clause-noted
returns-in-Root-clause-noted c =
    on_ok_weaker c.add_tree.result (λ e es noted.
    noted_tree (map asked_by c.args.asked.now) es (entry_shown c.args.entry) c.in-Root.root c.args.self.now
    (ap postings_shown c.in-Root.is) noted) c.add_tree.ensures

pub returns-in-Root-clause-named : goal.returns-in-Root-clause-named
returns-in-Root-clause-named c =
    on_ok_weaker c.add_tree.result (λ e.
    e ∙ ap (λ (ts : List NamedTree). trees_of c.args.trees.now.items ++ ts)
    (sym (one_tree (entry_shown c.args.entry) c.in-Root.root (ap postings_shown c.in-Root.is)))) c.add_tree.ensures
