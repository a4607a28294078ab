-- A larger floor or since makes no valid record invalid.
use Rattle.std.proofs.Common.{ℕ, ◌≤◌, List, inl, inr, arith}
use Rattle.std.specs.Prelude.{Option}
use Rattle.page_types.specs.declared.page.Page.{Page}
use Rattle.page_types.specs.declared.page.Head.{Head}
use Rattle.page_types.specs.declared.record.Record.{Record}
use Rattle.core_state.specs.Log.{Log, Pages}
use Rattle.core_state.specs.Known.{Known}
use Rattle.core_state.specs.Changes.{IsNew, IsDeadHead}
use Rattle.core_state.specs.Documents.{Doc, IsDead}
use Rattle.core_state.specs.HeapRules.{IsPlaceHeadHere, IsPutOverflowHere}
use Rattle.core_state.specs.PendingRules.{IsPutPendingHere}
use Rattle.core_state.specs.TreeRules.{IsMakeTreeHere, IsGrowRootHere, IsSplitHere}
use Rattle.core_state.specs.VacuumRules.{MayLeave, IsGoneFrom, SlotLoses, IsDropPageHere, IsFreeSlotsHere}
use Rattle.core_state.specs.Legal.{RuleHolds}
use Rattle.core_state.specs.Laws.{ValidIsMonotone}
use Rattle.core_state.specs.declared.answers.Fate.{Fate}
use Rattle.core_state.specs.declared.answers.PageUse.{PageUse}

pub new_more : (uses : ℕ → PageUse) (since since' p : ℕ) → since ≤ since' → IsNew uses since p → IsNew uses since' p
new_more uses since since' p le (IsNew.unused e low) = IsNew.unused e low
new_more uses since since' p le (IsNew.deleted stamp e small) = IsNew.deleted stamp e (omega (arith, small, le))

place_more : (since since' : ℕ) (k : Known) (r : Record) (before after : List Page) → since ≤ since'
    → IsPlaceHeadHere since k r before after → IsPlaceHeadHere since' k r before after
place_more since since' k r before after le h = record {
  doc = h.doc;
  head = h.head;
  old = h.old;
  slots = h.slots;
  new_slots = h.new_slots;
  right = h.right;
  kind_is = h.kind_is;
  pages = h.pages;
  runs = h.runs;
  next = h.next;
  before_is = h.before_is;
  page = elim h.page [ inl x ↦ inl x | inr x ↦ inr (x.0, x.1, new_more k.uses since since' _ le x.2) ];
  was_free = h.was_free;
  in_row = h.in_row;
  new_head = h.new_head;
  put = h.put;
  after_is = h.after_is;
}

overflow_more : (since since' : ℕ) (k : Known) (r : Record) (before after : List Page) → since ≤ since'
    → IsPutOverflowHere since k r before after → IsPutOverflowHere since' k r before after
overflow_more since since' k r before after le h = record {
  doc = h.doc;
  head = h.head;
  new = h.new;
  part = h.part;
  old = h.old;
  was = h.was;
  heap_then = h.heap_then;
  kind_is = h.kind_is;
  pages = h.pages;
  own = h.own;
  long = h.long;
  full = h.full;
  is_new = new_more k.uses since since' h.new le h.is_new;
  before_is = h.before_is;
  head_after = h.head_after;
  after_is = h.after_is;
}

pending_more : (since since' : ℕ) (k : Known) (r : Record) (before after : List Page) → since ≤ since'
    → IsPutPendingHere since k r before after → IsPutPendingHere since' k r before after
pending_more since since' k r before after le h = record {
  doc = h.doc;
  head = h.head;
  new = h.new;
  rows = h.rows;
  old = h.old;
  was = h.was;
  heap_then = h.heap_then;
  kind_is = h.kind_is;
  pages = h.pages;
  own = h.own;
  is_new = new_more k.uses since since' h.new le h.is_new;
  some_row = h.some_row;
  items = h.items;
  rising = h.rising;
  before_is = h.before_is;
  head_after = h.head_after;
  after_is = h.after_is;
}

tree_more : (since since' : ℕ) (k : Known) (r : Record) (before after : List Page) → since ≤ since'
    → IsMakeTreeHere since k r before after → IsMakeTreeHere since' k r before after
tree_more since since' k r before after le h = record {
  page = h.page;
  new = h.new;
  key = h.key;
  high = h.high;
  items = h.items;
  front = h.front;
  back = h.back;
  old = h.old;
  was = h.was;
  kind_is = h.kind_is;
  pages = h.pages;
  is_new = new_more k.uses since since' h.new le h.is_new;
  before_is = h.before_is;
  inline = h.inline;
  after_is = h.after_is;
}

root_more : (since since' : ℕ) (k : Known) (r : Record) (before after : List Page) → since ≤ since'
    → IsGrowRootHere since k r before after → IsGrowRootHere since' k r before after
root_more since since' k r before after le h = record {
  root = h.root;
  new = h.new;
  inner = h.inner;
  old = h.old;
  was = h.was;
  kind_is = h.kind_is;
  pages = h.pages;
  is_new = new_more k.uses since since' h.new le h.is_new;
  before_is = h.before_is;
  large = h.large;
  one_child = h.one_child;
  after_is = h.after_is;
}

split_more : (since since' : ℕ) (k : Known) (r : Record) (before after : List Page) → since ≤ since'
    → IsSplitHere since k r before after → IsSplitHere since' k r before after
split_more since since' k r before after le h = record {
  page = h.page;
  new = h.new;
  parent = h.parent;
  old = h.old;
  was = h.was;
  old_parent = h.old_parent;
  left = h.left;
  right = h.right;
  parent_after = h.parent_after;
  kind_is = h.kind_is;
  pages = h.pages;
  is_new = new_more k.uses since since' h.new le h.is_new;
  before_is = h.before_is;
  large = h.large;
  divided = h.divided;
  split_place = h.split_place;
  after_is = h.after_is;
}

dead_head_more : (fates : ℕ → Fate) (floor floor' : ℕ) (h : Head) → floor ≤ floor' → IsDeadHead fates floor h
    → IsDeadHead fates floor' h
dead_head_more fates floor floor' h le (IsDeadHead.insert_aborted a) = IsDeadHead.insert_aborted a
dead_head_more fates floor floor' h le (IsDeadHead.delete_counted n a b) = IsDeadHead.delete_counted n a
    (omega (arith, b, le))

dead_more : (R : Log) (floor floor' : ℕ) (d : Doc) → floor ≤ floor' → IsDead R floor d → IsDead R floor' d
dead_more R floor floor' d le (IsDead.insert_aborted x a b) = IsDead.insert_aborted x a b
dead_more R floor floor' d le (IsDead.delete_counted x n a b c) = IsDead.delete_counted x n a (omega (arith, b, le)) c

leave_more : (R : Log) (P : Pages) (floor floor' i : ℕ) → floor ≤ floor' → MayLeave R P floor i
    → MayLeave R P floor' i
leave_more R P floor floor' i le m = record {
  doc = m.doc;
  head = m.head;
  item = m.item;
  has = m.has;
  dead = dead_more R floor floor' m.doc le m.dead;
  no_row = m.no_row;
}

gone_more : (R : Log) (P : Pages) (floor floor' : ℕ) (d : Doc) → floor ≤ floor' → IsGoneFrom R P floor d
    → IsGoneFrom R P floor' d
gone_more R P floor floor' d le g = record { dead = dead_more R floor floor' d le g.dead; no_pair = g.no_pair }

slot_more : (k : Known) (floor floor' : ℕ) (old new : Option Head) → floor ≤ floor' → SlotLoses k floor old new
    → SlotLoses k floor' old new
slot_more k floor floor' old new le (SlotLoses.same e) = SlotLoses.same e
slot_more k floor floor' old new le (SlotLoses.freed h a b m) =
    SlotLoses.freed h a b (record {
      dead = dead_head_more k.fates floor floor' h le m.dead;
      no_overflow = m.no_overflow;
      no_private =
          m.no_private;
    })

drop_more : (floor floor' : ℕ) (k : Known) (r : Record) (before after : List Page) → floor ≤ floor'
    → IsDropPageHere floor k r before after → IsDropPageHere floor' k r before after
drop_more floor floor' k r before after le h = record {
  doc = h.doc;
  head = h.head;
  head_then = h.head_then;
  page = h.page;
  content = h.content;
  old = h.old;
  heap_then = h.heap_then;
  was = h.was;
  kind_is = h.kind_is;
  pages = h.pages;
  before_is = h.before_is;
  dead = dead_head_more k.fates floor floor' h.head le h.dead;
  not_none = h.not_none;
  dropped = h.dropped;
  head_after = h.head_after;
  after_is = h.after_is;
}

free_more : (floor floor' : ℕ) (k : Known) (r : Record) (before after : List Page) → floor ≤ floor'
    → IsFreeSlotsHere floor k r before after → IsFreeSlotsHere floor' k r before after
free_more floor floor' k r before after le h = record {
  page = h.page;
  slots = h.slots;
  new_slots = h.new_slots;
  old = h.old;
  kind_is = h.kind_is;
  pages = h.pages;
  before_is = h.before_is;
  was = h.was;
  same_length = h.same_length;
  each = λ j. slot_more k floor floor' _ _ le (h.each j);
  some = h.some;
  after_is = h.after_is;
}

pub rule_more : (R : Log) (P Q : Pages) (r : Record) (floor since floor' since' : ℕ) → floor ≤ floor' → since ≤ since'
    → RuleHolds R P Q r floor since → RuleHolds R P Q r floor' since'
unfolding place_more overflow_more pending_more tree_more root_more split_more drop_more free_more
rule_more R P Q r floor since floor' since' low le (RuleHolds.create x) = RuleHolds.create x
rule_more R P Q r floor since floor' since' low le (RuleHolds.begin x) = RuleHolds.begin x
rule_more R P Q r floor since floor' since' low le (RuleHolds.commit x) = RuleHolds.commit x
rule_more R P Q r floor since floor' since' low le (RuleHolds.abort x) = RuleHolds.abort x
rule_more R P Q r floor since floor' since' low le (RuleHolds.place_head x) = RuleHolds.place_head
    (record { here = place_more since since' _ r _ _ le x.here; rest = x.rest })
rule_more R P Q r floor since floor' since' low le (RuleHolds.checkpoint x) = RuleHolds.checkpoint x
rule_more R P Q r floor since floor' since' low le (RuleHolds.mark_deleted x) = RuleHolds.mark_deleted x
rule_more R P Q r floor since floor' since' low le (RuleHolds.add_row x) = RuleHolds.add_row x
rule_more R P Q r floor since floor' since' low le (RuleHolds.link_pending x) = RuleHolds.link_pending x
rule_more R P Q r floor since floor' since' low le (RuleHolds.shift x) = RuleHolds.shift x
rule_more R P Q r floor since floor' since' low le (RuleHolds.add_items x) = RuleHolds.add_items x
rule_more R P Q r floor since floor' since' low le (RuleHolds.add_postings x) = RuleHolds.add_postings x
rule_more R P Q r floor since floor' since' low le (RuleHolds.delete_post x) = RuleHolds.delete_post x
rule_more R P Q r floor since floor' since' low le (RuleHolds.put_overflow x) = RuleHolds.put_overflow
    (record { here = overflow_more since since' _ r _ _ le x.here; rest = x.rest })
rule_more R P Q r floor since floor' since' low le (RuleHolds.put_pending x) = RuleHolds.put_pending
    (record { here = pending_more since since' _ r _ _ le x.here; rest = x.rest })
rule_more R P Q r floor since floor' since' low le (RuleHolds.make_tree x) = RuleHolds.make_tree
    (record { here = tree_more since since' _ r _ _ le x.here })
rule_more R P Q r floor since floor' since' low le (RuleHolds.grow_root x) = RuleHolds.grow_root
    (record { here = root_more since since' _ r _ _ le x.here; rest = x.rest })
rule_more R P Q r floor since floor' since' low le (RuleHolds.split x) = RuleHolds.split
    (record { here = split_more since since' _ r _ _ le x.here })
rule_more R P Q r floor since floor' since' low le (RuleHolds.remove_items x) = RuleHolds.remove_items
    (record { here = x.here; rest = λ i j. leave_more R P floor floor' i low (x.rest i j) })
rule_more R P Q r floor since floor' since' low le (RuleHolds.drop_page x) = RuleHolds.drop_page
    (record {
      here = drop_more floor floor' _ r _ _ low x.here;
      rest = gone_more R P floor floor' x.here.doc low
          x.rest;
    })
rule_more R P Q r floor since floor' since' low le (RuleHolds.free_slots x) = RuleHolds.free_slots
    (record {
      here = free_more floor floor' _ r _ _ low x.here;
      rest = λ j h a b. gone_more R P floor floor' _ low
          (x.rest j h a b);
    })

pub valid_more : ValidIsMonotone
valid_more R r floor since floor' since' le le' v = record {
  before = v.before;
  after = v.after;
  shown = v.shown;
  shown_after = v.shown_after;
  is_record = v.is_record;
  can_edit = v.can_edit;
  number = v.number;
  started = v.started;
  rule = rule_more R v.before v.after r floor since floor' since' le le' v.rule;
}
