-- What a session shows before it logs a step by which a tree of the index grows: facts of the log that
-- it has seen, with the pages P of that log, and the pages that it holds. Such a step is valid after
-- each log that is allowed to it. What it owes besides, the right of maintenance, `Owes` says.
use Rattle.std.specs.Prelude.{◌≡◌, ℕ, ◌<◌, ◌≤◌, List, [], ◌∷◌, ◌++◌, length}
use Rattle.ts_base.specs.Keys.{Key}
use Rattle.page_types.specs.Encoding.{body_bytes}
use Rattle.page_types.specs.Records.{kind_number}
use Rattle.page_types.specs.declared.page.Page.{Page}
use Rattle.page_types.specs.declared.page.Entry.{Entry}
use Rattle.page_types.specs.declared.page.Postings.TheVariants.{Inline, Root}
use Rattle.page_types.specs.declared.page.Body.TheVariants as body
use Rattle.page_types.specs.declared.record.Record.{Record}
use Rattle.page_types.specs.declared.record.Kind.TheVariants as kind
use Rattle.core_state.specs.Log.{Log, Pages, In, Shows}
use Rattle.core_state.specs.Index.{IsNamed}
use Rattle.core_state.specs.TreeRules.{IsRoot, OneChild, IsDivided, IsSplitPlace, half_body}
use Rattle.core_state.specs.Legal.{IsLegal}
use Rattle.core_state.specs.Allowed.{View, Step, IsDrawn, Leaves}
use Rattle.core_state.specs.Steps.{sheet, IsNewSheet}

-- A page with a large body, of either tree, is split. The new page takes the second part, the right
-- link, and the bound and place after the page in its parent.
pub record CanSplit (v : View) (P : Pages) (s : Step) : Type 0 where
  pub page : ℕ
  pub new : ℕ
  pub parent : ℕ
  pub old : Page
  pub old_new : Page
  pub old_parent : Page
  pub left : Page
  pub right : Page
  pub adopted : Page
  pub kind_is : s.kind ≡ kind.Split
  pub after_is : s.after ≡ sheet page left ∷ sheet new right ∷ sheet parent adopted ∷ []
  pub held : In (sheet page old) v.held
  pub held_new : In (sheet new old_new) v.held
  pub held_parent : In (sheet parent old_parent) v.held
  pub is_new : IsNewSheet P v.since new old_new
  pub large : half_body < length (body_bytes old.body)
  pub divided : IsDivided page new old.body left.body right.body old_parent.body adopted.body
  pub split_place : IsSplitPlace old.body left.body
  pub left_link : left.right ≡ new
  pub right_link : right.right ≡ old.right
  pub parent_link : adopted.right ≡ old_parent.right

-- A root with a large body, that of the entry tree or one that an entry names, grows: its content
-- moves to a new page, which becomes its one child.
pub record CanGrowRoot (v : View) (P : Pages) (s : Step) : Type 0 where
  pub root : ℕ
  pub new : ℕ
  pub old : Page
  pub old_new : Page
  pub inner : Page
  pub moved : Page
  pub kind_is : s.kind ≡ kind.GrowRoot
  pub after_is : s.after ≡ sheet root inner ∷ sheet new moved ∷ []
  pub held : In (sheet root old) v.held
  pub held_new : In (sheet new old_new) v.held
  pub is_new : IsNewSheet P v.since new old_new
  pub is_root : IsRoot P root
  pub large : half_body < length (body_bytes old.body)
  pub one_child : OneChild new old.body inner.body
  pub root_link : inner.right ≡ old.right
  pub new_link : moved.right ≡ 0
  pub content : moved.body ≡ old.body

-- The list of an entry becomes a posting tree, whose first leaf is a new page, with the same items and
-- without a high item; the entry names it then.
pub record CanMakeTree (v : View) (P : Pages) (s : Step) : Type 0 where
  pub page : ℕ
  pub new : ℕ
  pub key : Key
  pub high : Key
  pub items : List ℕ
  pub front : List Entry
  pub back : List Entry
  pub old : Page
  pub old_new : Page
  pub leaf : Page
  pub tree : Page
  pub kind_is : s.kind ≡ kind.MakeTree
  pub after_is : s.after ≡ sheet page leaf ∷ sheet new tree ∷ []
  pub held : In (sheet page old) v.held
  pub held_new : In (sheet new old_new) v.held
  pub is_new : IsNewSheet P v.since new old_new
  pub was : old.body
      ≡ body.EntryLeaf high (front ++ record { key = key; postings = Inline items } ∷ back)
  pub leaf_link : leaf.right ≡ old.right
  pub named : leaf.body
      ≡ body.EntryLeaf high (front ++ record { key = key; postings = Root new } ∷ back)
  pub tree_link : tree.right ≡ 0
  pub content : tree.body ≡ body.PostLeaf 0 items

-- What an entry names under a key stays named under it, where the newest record of a legal log is of
-- the kinds 13 to 17, by which items come into the trees.
abbrev pub NamesStay : Type 0
NamesStay =
    (R : Log) (r : Record) (P Q : Pages) (k : Key) (root : ℕ) → IsLegal (r ∷ R) → Shows R P
    → Shows (r ∷ R) Q → 13 ≤ kind_number r.kind → kind_number r.kind ≤ 17 → IsNamed P k root
    → IsNamed Q k root

-- the entry whose list became a tree names that tree once the step is logged
abbrev pub MadeTreeIsNamed : Type 0
MadeTreeIsNamed =
    (v : View) (P : Pages) (s : Step) (c : CanMakeTree v P s) (R : Log) (r : Record) (S Q : Pages)
    → IsDrawn R s r → Leaves S Q r s → IsNamed Q c.key c.new
