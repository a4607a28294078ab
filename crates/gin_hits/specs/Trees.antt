-- The posting trees that entries name.
use Rattle.std.specs.Prelude.{ℕ, true, List, [], map}
use Rattle.std.specs.List.{flat_map}
use Rattle.page_types.specs.declared.page.Entry.{Entry}
use Rattle.core_moments.specs.OpenWalk.{NamedTree, tree_of}
use Rattle.gin_hits.specs.declared.entries.TreeRoot.{TreeRoot}

-- with the key of the entry and the root
abbrev pub named_tree : List ℕ → ℕ → NamedTree
named_tree k r = record { key = k; root = r }

abbrev pub named_by : TreeRoot → NamedTree
named_by t = named_tree t.key.items t.root

abbrev pub trees_of : List TreeRoot → List NamedTree
trees_of ts = map named_by ts

-- the posting trees that these entries name
abbrev pub trees_under : List Entry → List NamedTree
trees_under es = flat_map (λ (e : Entry). tree_of true e.key e.postings []) es
