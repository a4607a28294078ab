-- Pages as nodes of the two trees, whose bounds are keys, or items, with a greatest one above them
-- all.
use Rattle.std.specs.Prelude.{ℕ, ◌==◌, cond, [], ◌∷◌, map}
use Rattle.ts_base.specs.Keys.{Key}
use Rattle.page_types.specs.Numbers.{no_bound}
use Rattle.page_types.specs.Items.{items_of}
use Rattle.page_types.specs.declared.page.Page.{Page}
use Rattle.page_types.specs.declared.page.Entry.{Entry}
use Rattle.page_types.specs.declared.page.EntryChild.{EntryChild}
use Rattle.page_types.specs.declared.page.PostChild.{PostChild}
use Rattle.page_types.specs.declared.page.Body.{Body}
use Rattle.page_types.specs.declared.page.Body.TheVariants.{EntryLeaf, EntryInner, PostLeaf, PostInner, Deleted}
use Rattle.core_state.specs.Log.{Pages}
use Rattle.core_state.specs.Trees.Ext.{Ext}
use Rattle.core_state.specs.Trees.Ext.Ext.{at, greatest}
use Rattle.core_state.specs.Trees.Nodes.{Child, Node}
use Rattle.core_state.specs.Trees.Nodes.Node.{other, leaf, inner, gone}

-- a key as a bound; no bytes: there is no bound
abbrev pub bound : Key → Ext Key
bound [] = greatest
bound (b ∷ bs) = at (b ∷ bs)

abbrev pub entry_key : Entry → Ext Key
entry_key e = at e.key

abbrev pub entry_child : EntryChild → Child (Ext Key)
entry_child c = record { page = c.page; bound = bound c.bound }

abbrev pub entry_body : ℕ → Body → Node (Ext Key)
entry_body right (EntryLeaf high entries) = leaf right (bound high) (map entry_key entries)
entry_body right (EntryInner children) = inner right (map entry_child children)
entry_body right _ = other

abbrev pub entry_node : Page → Node (Ext Key)
entry_node p = entry_body p.right p.body

-- the pages as nodes of the entry tree
abbrev pub entry_nodes : Pages → ℕ → Node (Ext Key)
entry_nodes P p = entry_node (P p)

-- the bound of a leaf's high item; 0: there is none
abbrev pub high_bound : ℕ → Ext ℕ
high_bound n = cond (n == 0) greatest (at n)

-- a child's bound; the greatest number: there is none
abbrev pub child_bound : ℕ → Ext ℕ
child_bound n = cond (n == no_bound) greatest (at n)

abbrev pub post_child : PostChild → Child (Ext ℕ)
post_child c = record { page = c.page; bound = child_bound c.bound }

abbrev pub post_body : ℕ → Body → Node (Ext ℕ)
post_body right (PostLeaf high items) = leaf right (high_bound high) (map at (items_of items))
post_body right (PostInner children) = inner right (map post_child children)
post_body right (Deleted g) = gone right
post_body right _ = other

abbrev pub post_node : Page → Node (Ext ℕ)
post_node p = post_body p.right p.body

-- the pages as nodes of the posting trees
abbrev pub post_nodes : Pages → ℕ → Node (Ext ℕ)
post_nodes P p = post_node (P p)
