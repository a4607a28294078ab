-- The rules of maintenance, at pages that the document of the first run leaves: checkpoints, trees of postings, and
-- what is
-- removed where its transaction was aborted.
use Rattle.std.proofs.Common.{◌≡◌, ◌≢◌, ℕ, zero, suc, ◌<◌, ◌≤◌, List, [], ◌∷◌, length, get_or, refl, sym, ap, subst}
use Rattle.std.proofs.Common.{◌∙◌, inl, inr, arith}
use Rattle.std.specs.Prelude.{Option, Some, None}
use Rattle.std.specs.List.{slice_get}
use Rattle.page_types.specs.Numbers.{no_bound}
use Rattle.page_types.specs.Keys.{Rising}
use Rattle.page_types.specs.Items.{items_of}
use Rattle.page_types.specs.Views.{free_page, entries_in, entries_of, list_in, slots_in, slot_at}
use Rattle.page_types.specs.declared.page.Page.{Page}
use Rattle.page_types.specs.declared.page.Entry as on_page
use Rattle.page_types.specs.declared.page.PostChild.{PostChild}
use Rattle.page_types.specs.declared.page.Postings.TheVariants.{Inline, Root}
use Rattle.page_types.specs.declared.page.Body.{Body}
use Rattle.page_types.specs.declared.page.Body.TheVariants as body
use Rattle.page_types.specs.declared.page.Gone.{Gone}
use Rattle.page_types.specs.declared.page.Gone.TheVariants as gone
use Rattle.page_types.specs.declared.page.Head.{Head}
use Rattle.page_types.specs.declared.page.Row.{Row}
use Rattle.page_types.specs.declared.record.Record.{Record}
use Rattle.page_types.specs.declared.record.Kind.TheVariants as kind
use Rattle.ts_base.specs.Keys.{Key}
use Rattle.core_state.specs.Log.{Log, Pages, In}
use Rattle.core_state.specs.Documents.{IsDead, slot_of}
use Rattle.core_state.specs.Known.{use_in}
use Rattle.core_state.specs.Changes.{IsNew, IsDeadHead}
use Rattle.core_state.specs.TransactionRules.{IsCheckpoint}
use Rattle.core_state.specs.TreeRules.{IsMakeTree, IsLeftLeaf, IsUnlinked, IsDeletePost}
use Rattle.core_state.specs.VacuumRules.{ItemsLeave, ItemGoes, EntryLoses, ListsLose, MayLeave, IsRemoveItems}
use Rattle.core_state.specs.VacuumRules.{IsDropped, IsDropPage}
use Rattle.core_state.specs.declared.answers.PageUse.TheVariants as usage
use Rattle.core_state.proofs.Worked as first
use Rattle.core_state.proofs.WorkedPending as rows

-- 5: a checkpoint at its own last record, and not at one that comes
abbrev checkpoint : ℕ → Record
checkpoint redo = record { number = 4; xid = 0; kind = kind.Checkpoint redo; changes = [] }

checkpoint_row : (P Q : Pages) → IsCheckpoint first.log_placed P Q (checkpoint 3)
checkpoint_row P Q = record
    { here = record { redo = 3; kind_is = refl; pages = refl; after_last = omega arith; before_own = omega arith } }

same_redo : (a b : ℕ) → kind.Checkpoint a ≡ kind.Checkpoint b → a ≡ b
same_redo a b e = cc

checkpoint_to_come : (P Q : Pages) → IsCheckpoint first.log_placed P Q (checkpoint 5) → ⊥
checkpoint_to_come P Q x =
    let redo : 5 ≡ x.here.redo = same_redo 5 x.here.redo x.here.kind_is in
    let own : x.here.redo ≤ 4 = x.here.before_own in
    omega (arith, redo, own)

-- 14: the inline items of an entry become a tree, whose first leaf leads nowhere
abbrev log_cat : Log
log_cat = rows.add_record 6 rows.with_cat ∷ rows.log_linked

abbrev with_tree : ℕ → Pages
with_tree right zero = rows.meta_page 5 3 3 1
with_tree right (suc zero) = rows.leaf_page 7 (record { key = rows.cat_key; postings = Root 4 } ∷ [])
with_tree right (suc (suc zero)) = rows.heap_page 5 0
with_tree right (suc (suc (suc zero))) = rows.row_page rows.row
with_tree right (suc (suc (suc (suc zero)))) = record {
  right = right;
  stamp = 7;
  body = body.PostLeaf 0
      (128 ∷ 32 ∷ []);
}
with_tree right (suc (suc (suc (suc (suc p))))) = free_page

abbrev tree_record : ℕ → Record
tree_record right = record {
  number = 7;
  xid = 0;
  kind = kind.MakeTree;
  changes = first.image 1
      (with_tree right 1) ∷ first.image 4 (with_tree right 4) ∷ [];
}

used_below : (q : ℕ) → q < 4 → use_in rows.with_cat q ≢ usage.Unused
used_below zero l e = cc
used_below (suc zero) l e = cc
used_below (suc (suc zero)) l e = cc
used_below (suc (suc (suc zero))) l e = cc
used_below (suc (suc (suc (suc q)))) l e = absurd (omega (arith, l))

tree_row : (since : ℕ) → IsMakeTree log_cat rows.with_cat (with_tree 0) (tree_record 0) since
tree_row since = record {
  here = record {
    page = 1;
    new = 4;
    key = rows.cat_key;
    high = [];
    items = 128 ∷ 32 ∷ [];
    front = [];
    back = [];
    old = rows.leaf_page 6 (rows.entry rows.cat_key ∷ []);
    was = free_page;
    kind_is = refl;
    pages = refl;
    is_new = IsNew.unused refl used_below;
    before_is = refl;
    inline = refl;
    after_is = refl;
  };
}

abbrev second_link : List Page → ℕ
second_link (p ∷ q ∷ ps) = q.right
second_link _ = 0

tree_that_leads_on : (R : Log) (P : Pages) (since : ℕ) → IsMakeTree R P (with_tree 9) (tree_record 9) since → ⊥
tree_that_leads_on R P since x =
    let link : 9 ≡ 0 = ap second_link x.here.after_is in
    omega (arith, link)

-- 18: the item of the aborted document leaves both lists, and a record that takes nothing away is not valid
abbrev log_gone : Log
log_gone = record { number = 9; xid = 1; kind = kind.Abort; changes = [] } ∷ rows.shift_record ∷ rows.log_added

abbrev full : List on_page.Entry
full = rows.entry rows.cat_key ∷ rows.entry rows.fat_key ∷ []

abbrev bare : Key → on_page.Entry
bare key = record { key = key; postings = Inline [] }

abbrev emptied : List on_page.Entry
emptied = bare rows.cat_key ∷ bare rows.fat_key ∷ []

abbrev with_leaf : List on_page.Entry → Pages
with_leaf entries zero = rows.meta_page 8 0 0 0
with_leaf entries (suc zero) = rows.leaf_page 10 entries
with_leaf entries (suc (suc zero)) = rows.heap_page 5 0
with_leaf entries (suc (suc (suc zero))) = rows.shifted 3
with_leaf entries (suc (suc (suc (suc p)))) = free_page

abbrev remove_record : List on_page.Entry → Record
remove_record entries = record {
  number = 10;
  xid = 0;
  kind = kind.RemoveItems;
  changes = first.image 1
      (with_leaf entries 1) ∷ [];
}

leaves : ItemsLeave (4096 ∷ []) (128 ∷ 32 ∷ []) []
leaves = record {
  rises = subst (Rising (λ (i j : ℕ). i < j)) (sym rows.none_is) tt;
  no_other = λ i there. absurd (subst (In i) rows.none_is there);
  each = λ i there. inr (subst (In i) rows.list_is there);
}

entry_loses : (key : Key) → EntryLoses (4096 ∷ []) (rows.entry key) (bare key)
entry_loses key = EntryLoses.less (128 ∷ 32 ∷ []) [] refl refl refl leaves

abbrev first_list : Body → ℕ
first_list (body.EntryLeaf high (e ∷ es)) = length (list_in e.postings)
first_list _ = 0

some_left : body.EntryLeaf [] emptied ≢ body.EntryLeaf [] full
some_left e =
    let size : 0 ≡ 2 = ap first_list e in
    omega (arith, size)

may_leave : (floor : ℕ) → MayLeave log_gone rows.shifted floor 4096
may_leave floor = record {
  doc = first.doc;
  head = rows.head 0;
  item = refl;
  has = record { at = refl; serial = refl };
  dead = IsDead.insert_aborted 1 refl (inl refl);
  no_row = λ h. first.in_no_chain rows.shifted h.linked.line h.linked.page h.linked.is_line h.linked.on;
}

each_leaves : (floor i : ℕ) → In i (4096 ∷ []) → MayLeave log_gone rows.shifted floor i
each_leaves floor i (inl e) = subst (MayLeave log_gone rows.shifted floor) (sym e) (may_leave floor)
each_leaves floor i (inr e) = absurd e

each_went : (i : ℕ) → In i (4096 ∷ []) → ItemGoes i (body.EntryLeaf [] full) (body.EntryLeaf [] emptied)
each_went i (inl e) =
    ItemGoes.from_entry [] full emptied 0 (rows.entry rows.cat_key) (bare rows.cat_key)
    (128 ∷ 32 ∷ []) [] refl refl refl
    refl (subst (In i) (sym rows.list_is) (inl e)) (λ there. subst (In i) rows.none_is there)
each_went i (inr e) = absurd e

remove_row : (floor : ℕ) → IsRemoveItems log_gone rows.shifted (with_leaf emptied) (remove_record emptied) floor
remove_row floor = record {
  here = record {
    page = 1;
    removed = 4096 ∷ [];
    content = body.EntryLeaf [] emptied;
    old = rows.leaf_page 7 full;
    kind_is = refl;
    pages = refl;
    before_is = refl;
    lists = ListsLose.entries [] full emptied (entry_loses rows.cat_key, (entry_loses rows.fat_key, tt));
    went = each_went;
    some = some_left;
    after_is = refl;
  };
  rest = each_leaves floor;
}

abbrev first_body : List Page → Body
first_body [] = body.Free
first_body (p ∷ ps) = p.body

remove_nothing : (R : Log) (floor : ℕ) → IsRemoveItems R rows.shifted (with_leaf full) (remove_record full) floor → ⊥
remove_nothing R floor x = x.here.some (sym (ap first_body x.here.after_is) ∙ ap first_body x.here.before_is)

-- nor is one whose removed items was in no list of the leaf
abbrev list_of : Option on_page.Entry → List ℕ
list_of None = []
list_of (Some e) = list_in e.postings

list_there : (k : ℕ) (e : on_page.Entry) (a : List ℕ) → slice_get full k ≡ Some e → e.postings ≡ Inline a
    → a ≡ 128 ∷ 32 ∷ []
list_there zero e a at is = sym (ap list_of at ∙ ap list_in is)
list_there (suc zero) e a at is = sym (ap list_of at ∙ ap list_in is)
list_there (suc (suc k)) e a at is = cc

never_there : (old new : Body) → old ≡ body.EntryLeaf [] full → ItemGoes 4097 old new → ⊥
never_there old new was (ItemGoes.from_entry high es fs k e f a b at now is is_now there gone) =
    let stood = ap (λ xs. slice_get xs k) (sym (ap entries_in was)) ∙ at in
    elim (subst (In 4097) (ap items_of (list_there k e a stood is) ∙ rows.list_is) there)
    [ inl same ↦ omega (arith, same) | inr none ↦ none ]
never_there old new was (ItemGoes.from_postings high is js there gone) = cc

remove_another : (R : Log) (floor : ℕ)
    (x : IsRemoveItems R rows.shifted (with_leaf emptied) (remove_record emptied) floor)
    → In 4097 x.here.removed → ⊥
remove_another R floor x i =
    never_there x.here.old.body x.here.content (sym (ap first_body x.here.before_is)) (x.here.went 4097 i)

-- 19: an empty leaf leaves its parent, where no leaf leads to it
abbrev child_of : ℕ → ℕ → PostChild
child_of page bound = record { page = page; bound = bound }

abbrev post_leaf : ℕ → ℕ → List ℕ → Page
post_leaf right high items = record { right = right; stamp = 7; body = body.PostLeaf high items }

abbrev post_tree : Pages
post_tree zero = first.meta_page
post_tree (suc zero) = rows.leaf_page 7 (record { key = rows.cat_key; postings = Root 4 } ∷ [])
post_tree (suc (suc zero)) = post_leaf 3 9 []
post_tree (suc (suc (suc zero))) = post_leaf 0 0 (128 ∷ 32 ∷ [])
post_tree (suc (suc (suc (suc zero)))) = record {
  right = 0;
  stamp = 7;
  body = body.PostInner
      (child_of 2 9 ∷ child_of 3 no_bound ∷ []);
}
post_tree (suc (suc (suc (suc (suc p))))) = free_page

abbrev left_tree : Pages
left_tree zero = first.meta_page
left_tree (suc zero) = rows.leaf_page 7 (record { key = rows.cat_key; postings = Root 4 } ∷ [])
left_tree (suc (suc zero)) = record { right = 3; stamp = 8; body = body.Deleted (gone.PostLeaf 9 []) }
left_tree (suc (suc (suc zero))) = post_leaf 0 0 (128 ∷ 32 ∷ [])
left_tree (suc (suc (suc (suc zero)))) = record {
  right = 0;
  stamp = 8;
  body = body.PostInner
      (child_of 3 no_bound ∷ []);
}
left_tree (suc (suc (suc (suc (suc p))))) = free_page

abbrev delete_record : Record
delete_record = record {
  number = 8;
  xid = 0;
  kind = kind.DeletePost;
  changes = first.image 2
      (left_tree 2) ∷ first.image 4 (left_tree 4) ∷ [];
}

no_left : (q : ℕ) → IsLeftLeaf post_tree q 2 → ⊥
no_left zero l = let b = l.body_is in cc
no_left (suc zero) l = let b = l.body_is in cc
no_left (suc (suc zero)) l = let link : 3 ≡ 2 = l.link in omega (arith, link)
no_left (suc (suc (suc zero))) l = let link : 0 ≡ 2 = l.link in omega (arith, link)
no_left (suc (suc (suc (suc zero)))) l = let b = l.body_is in cc
no_left (suc (suc (suc (suc (suc q))))) l = let b = l.body_is in cc

delete_row : (R : Log) → IsDeletePost R post_tree left_tree delete_record
delete_row R = record {
  here = record {
    page = 2;
    parent = 4;
    lefts = [];
    high = 9;
    bound = 9;
    front = [];
    next = child_of 3 no_bound;
    back = [];
    old = post_leaf 3 9 [];
    old_parent = post_tree 4;
    lefts_before = [];
    lefts_after = [];
    kind_is = refl;
    pages = refl;
    before_is = refl;
    empty = refl;
    child = refl;
    unlinked = IsUnlinked.none;
    after_is = refl;
  };
  rest = λ e. no_left;
}

-- 20: the private page of the aborted document is deleted
abbrev log_dead : Log
log_dead = record { number = 5; xid = 1; kind = kind.Abort; changes = [] } ∷ rows.log_put

abbrev dropped : Pages
dropped zero = first.meta_page
dropped (suc zero) = first.root_page
dropped (suc (suc zero)) = rows.heap_page 6 0
dropped (suc (suc (suc zero))) = record { right = 0; stamp = 6; body = body.Deleted (gone.Pending (rows.row ∷ [])) }
dropped (suc (suc (suc (suc p)))) = free_page

abbrev drop_record : Record
drop_record = record {
  number = 6;
  xid = 0;
  kind = kind.DropPage 4096 1;
  changes = first.image 2
      (dropped 2) ∷ first.image 3 (dropped 3) ∷ [];
}

no_entry : (p : ℕ) (e : on_page.Entry) → In e (entries_of (rows.with_row rows.row p)) → ⊥
no_entry zero e i = absurd i
no_entry (suc zero) e i = absurd i
no_entry (suc (suc zero)) e i = absurd i
no_entry (suc (suc (suc zero))) e i = absurd i
no_entry (suc (suc (suc (suc p)))) e i = absurd i

drop_row : (floor : ℕ) → IsDropPage log_dead (rows.with_row rows.row) dropped drop_record floor
drop_row floor = record {
  here = record {
    doc = first.doc;
    head = rows.head 3;
    head_then = rows.head 0;
    page = 3;
    content = gone.Pending (rows.row ∷ []);
    old = rows.heap_page 4 3;
    heap_then = rows.heap_page 6 0;
    was = rows.row_page rows.row;
    kind_is = refl;
    pages = refl;
    before_is = refl;
    dead = IsDeadHead.insert_aborted refl;
    not_none = λ e. omega (arith, e);
    dropped = IsDropped.private (rows.row ∷ []) refl;
    head_after = rows.head_changes drop_record 4 3 0;
    after_is = refl;
  };
  rest = record {
    dead = IsDead.insert_aborted 1 refl (inl refl);
    no_pair = record {
      no_row = rows.no_row (rows.with_row rows.row) refl 4096;
      no_posting = λ k m. no_entry m.page m.entry m.on;
    };
  };
}

-- a page of another kind than its chain's is none of it: an overflow page that the head names as its
-- first private page isn't dropped
abbrev misled : Pages
misled zero = first.meta_page
misled (suc zero) = first.root_page
misled (suc (suc zero)) = rows.heap_page 4 3
misled (suc (suc (suc zero))) = record { right = 0; stamp = 4; body = body.Overflow (1 ∷ []) }
misled (suc (suc (suc (suc p)))) = free_page

not_pending : (ws : List Row) (bytes : List ℕ) → body.Pending ws ≡ body.Overflow bytes → ⊥
not_pending ws bytes e = cc

of_overflow : (head then : Head) (page right : ℕ) (b : Body) (content : Gone) (bytes : List ℕ)
    → IsDropped head page right b content then → b ≡ body.Overflow bytes → head.overflow ≡ page
of_overflow head then page right b content bytes (IsDropped.overflow part e) f = e
of_overflow head then page right b content bytes (IsDropped.private ws e) f = absurd (not_pending ws bytes f)

same_item : (a b c d : ℕ) → kind.DropPage a b ≡ kind.DropPage c d → a ≡ c
same_item a b c d e = cc

same_head : (a b : Head) → Some a ≡ Some b → a ≡ b
same_head a b e = cc

abbrev second_body : List Page → Body
second_body (p ∷ q ∷ ps) = q.body
second_body _ = body.Free

misled_drop : (R : Log) (Q : Pages) (floor : ℕ) → IsDropPage R misled Q drop_record floor → ⊥
misled_drop R Q floor x =
    let h = x.here in
    let page : 3 ≡ h.page = ap (λ (ps : List ℕ). get_or ps 1 0) h.pages in
    let item : 4096 ≡ h.doc.item = same_item 4096 1 h.doc.item h.doc.serial h.kind_is in
    let slots : Some (rows.head 3) ∷ [] ≡ h.head_after.slots =
    ap first.first_slots h.before_is ∙ ap slots_in h.head_after.before in
    let head : rows.head 3 ≡ h.head =
    same_head (rows.head 3) h.head (ap (λ (ss : List (Option Head)). slot_at ss 0) slots
    ∙ ap (λ i. slot_at h.head_after.slots (slot_of i)) item ∙ h.head_after.head) in
    let none : 0 ≡ h.head.overflow = ap (λ (k : Head). k.overflow) head in
    let named : h.head.overflow ≡ h.page =
    of_overflow h.head h.head_then h.page h.was.right h.was.body h.content (1 ∷ []) h.dropped
    (sym (ap second_body h.before_is)) in
    omega (arith, page, none, named)
