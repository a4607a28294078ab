-- What the tests of a page that a record of the kinds 18 to 21 leaves say.
use Rattle.std.proofs.Common.{◌≡◌, ℕ, Bool, true, List, [], length, eqb, sym, ap, subst, subst₂, ◌∙◌}
use Rattle.std.specs.Prelude.{◌≢◌, Option, Some}
use Rattle.ts_base.specs.Keys.{Key}
use Rattle.page_types.specs.declared.page.Page.{Page}
use Rattle.page_types.specs.declared.page.Head.{Head}
use Rattle.page_types.specs.declared.page.Entry.{Entry}
use Rattle.page_types.specs.declared.page.PostChild.{PostChild}
use Rattle.page_types.specs.declared.page.Body.{Body}
use Rattle.page_types.specs.declared.page.Body.TheVariants as body
use Rattle.page_types.specs.declared.page.Gone.{Gone}
use Rattle.page_types.specs.declared.page.Gone.TheVariants as gone
use Rattle.page_types.specs.declared.record.Record.{Record}
use Rattle.core_state.specs.Changes.{made_with}
use Rattle.core_state.specs.Known.{Known}
use Rattle.core_state.specs.Changes.{PutsSlot}
use Rattle.core_state.specs.Inner.HeadChanges.{LeavesInSlot}
use Rattle.core_vacuum.specs.Inner.Removing.{AreAmong, EntriesGo, EntriesLeft, ListLeft}
use Rattle.core_vacuum.specs.Inner.Freeing.{SlotsGo, LeavesSlots}
use Rattle.core_vacuum.specs.Inner.Deleting.{LeavesDeleted, LosesChild, LeavesParent, LinksPast}

abbrev page_with : ℕ → ℕ → Body → Page
page_with right stamp content = record { right = right; stamp = stamp; body = content }

-- a page is what a record leaves, by its parts
pub made_of : (r : Record) (p : Page) (right : ℕ) (content : Body) → p.right ≡ right → p.stamp ≡ r.number
    → p.body ≡ content → p ≡ made_with r right content
made_of r p right content e f g =
    ap (λ (x : ℕ). page_with x p.stamp p.body) e ∙ ap (λ (x : ℕ). page_with right x p.body) f
    ∙ ap (page_with right r.number) g

pub right_of : (r : Record) (p : Page) (right : ℕ) (content : Body) → p ≡ made_with r right content → p.right ≡ right
right_of r p right content e = ap (λ (x : Page). x.right) e

pub stamp_of : (r : Record) (p : Page) (right : ℕ) (content : Body) → p ≡ made_with r right content
    → p.stamp ≡ r.number
stamp_of r p right content e = ap (λ (x : Page). x.stamp) e

pub body_of : (r : Record) (p : Page) (right : ℕ) (content : Body) → p ≡ made_with r right content → p.body ≡ content
body_of r p right content e = ap (λ (x : Page). x.body) e

-- ---- the leaf

same_high : (h k : ℕ) (is js : List ℕ) → body.PostLeaf h is ≡ body.PostLeaf k js → h ≡ k
same_high h k is js e = cc

same_items : (h k : ℕ) (is js : List ℕ) → body.PostLeaf h is ≡ body.PostLeaf k js → is ≡ js
same_items h k is js e = cc

gone_high : (h k : ℕ) (is js : List ℕ) → body.Deleted (gone.PostLeaf h is) ≡ body.Deleted (gone.PostLeaf k js) → h ≡ k
gone_high h k is js e = cc

gone_items : (h k : ℕ) (is js : List ℕ) → body.Deleted (gone.PostLeaf h is) ≡ body.Deleted (gone.PostLeaf k js)
    → is ≡ js
gone_items h k is js e = cc

-- a list without bytes, by its length
pub is_none : (xs : List ℕ) (r : Bool) → r ≡ eqb (length xs) 0 → xs ≡ [] → r ≡ true
is_none xs r e none = e ∙ ap (λ (ys : List ℕ). eqb (length ys) 0) none

pub not_leaf : (r : Record) (old new : Page) → ((h : ℕ) (is : List ℕ) → old.body ≡ body.PostLeaf h is → ⊥)
    → LeavesDeleted r old new → ⊥
not_leaf r old new off w = off w.high [] w.was

pub not_deleted : (r : Record) (old new : Page) → ((g : Gone) → new.body ≡ body.Deleted g → ⊥)
    → LeavesDeleted r old new → ⊥
not_deleted r old new off w =
    off (gone.PostLeaf w.high []) (body_of r new old.right (body.Deleted (gone.PostLeaf w.high [])) w.after)

same_gone : (g h : Gone) → body.Deleted g ≡ body.Deleted h → g ≡ h
same_gone g h e = cc

pub not_gone_leaf : (r : Record) (old new : Page) (g : Gone) → new.body ≡ body.Deleted g
    → ((h : ℕ) (is : List ℕ) → g ≡ gone.PostLeaf h is → ⊥) → LeavesDeleted r old new → ⊥
not_gone_leaf r old new g is off w = off w.high []
    (same_gone g (gone.PostLeaf w.high [])
    (sym is ∙ body_of r new old.right (body.Deleted (gone.PostLeaf w.high [])) w.after))

-- what is asked of the two leaves
pub record Emptied (r : Record) (old new : Page) (high : ℕ) (items : List ℕ) (kept : ℕ) (left : List ℕ) : Type 0 where
  pub right : new.right ≡ old.right
  pub stamp : new.stamp ≡ r.number
  pub high_is : kept ≡ high
  pub none : items ≡ []
  pub none_left : left ≡ []

module _ (r : Record) (old new : Page) (high : ℕ) (items : List ℕ) (kept : ℕ) (left : List ℕ)
    (was : old.body ≡ body.PostLeaf high items) (is : new.body ≡ body.Deleted (gone.PostLeaf kept left)) where
  pub deleted_told : Emptied r old new high items kept left → LeavesDeleted r old new
  deleted_told e = record {
    high = high;
    was = was ∙ ap (body.PostLeaf high) e.none;
    after = made_of r new old.right (body.Deleted (gone.PostLeaf high [])) e.right e.stamp
        (is ∙ ap (λ (h : ℕ). body.Deleted (gone.PostLeaf h left)) e.high_is
        ∙ ap (λ (xs : List ℕ). body.Deleted (gone.PostLeaf high xs)) e.none_left);
  }

  pub emptied : LeavesDeleted r old new → Emptied r old new high items kept left
  emptied w =
      let then = body_of r new old.right (body.Deleted (gone.PostLeaf w.high [])) w.after in
      record {
        right = right_of r new old.right (body.Deleted (gone.PostLeaf w.high [])) w.after;
        stamp = stamp_of r new old.right (body.Deleted (gone.PostLeaf w.high [])) w.after;
        high_is = gone_high kept w.high left [] (sym is ∙ then) ∙ same_high w.high high [] items (sym w.was ∙ was);
        none = same_items high w.high items [] (sym was ∙ w.was);
        none_left = gone_items kept w.high left [] (sym is ∙ then);
      }

-- ---- the leaf before it

pub no_left : (r : Record) (page to : ℕ) (old new : Page) → ((h : ℕ) (is : List ℕ) → old.body ≡ body.PostLeaf h is → ⊥)
    → LinksPast r page to old new → ⊥
no_left r page to old new off w = off w.high w.items w.was

pub no_left_then : (r : Record) (page to : ℕ) (old new : Page)
    → ((h : ℕ) (is : List ℕ) → new.body ≡ body.PostLeaf h is → ⊥) → LinksPast r page to old new → ⊥
no_left_then r page to old new off w =
    off w.high w.items (body_of r new to (body.PostLeaf w.high w.items) w.after)

pub record Linked (r : Record) (page to : ℕ) (old new : Page) (high : ℕ) (items : List ℕ) (high' : ℕ)
    (items' : List ℕ) : Type 0 where
  pub link : old.right ≡ page
  pub right : new.right ≡ to
  pub stamp : new.stamp ≡ r.number
  pub high_is : high' ≡ high
  pub items_are : items ≡ items'

module _ (r : Record) (page to : ℕ) (old new : Page) (high : ℕ) (items : List ℕ) (high' : ℕ) (items' : List ℕ)
    (was : old.body ≡ body.PostLeaf high items) (is : new.body ≡ body.PostLeaf high' items') where
  pub links_told : Linked r page to old new high items high' items' → LinksPast r page to old new
  links_told e = record {
    high = high;
    items = items;
    was = was;
    link = e.link;
    after = made_of r new to (body.PostLeaf high items) e.right e.stamp
        (is ∙ ap (λ (h : ℕ). body.PostLeaf h items') e.high_is ∙ ap (body.PostLeaf high) (sym e.items_are));
  }

  pub linked : LinksPast r page to old new → Linked r page to old new high items high' items'
  linked w =
      let then = body_of r new to (body.PostLeaf w.high w.items) w.after in
      record {
        link = w.link;
        right = right_of r new to (body.PostLeaf w.high w.items) w.after;
        stamp = stamp_of r new to (body.PostLeaf w.high w.items) w.after;
        high_is = same_high high' w.high items' w.items (sym is ∙ then)
            ∙ same_high w.high high w.items items (sym w.was ∙ was);
        items_are = same_items high w.high items w.items (sym was ∙ w.was)
            ∙ same_items w.high high' w.items items' (sym then ∙ is);
      }

-- ---- the parent

same_children : (cs ds : List PostChild) → body.PostInner cs ≡ body.PostInner ds → cs ≡ ds
same_children cs ds e = cc

pub no_parent : (r : Record) (page : ℕ) (old new : Page) → ((cs : List PostChild) → old.body ≡ body.PostInner cs → ⊥)
    → LeavesParent r page old new → ⊥
no_parent r page old new off w = off w.children w.was

pub no_parent_then : (r : Record) (page : ℕ) (old new : Page)
    → ((cs : List PostChild) → new.body ≡ body.PostInner cs → ⊥) → LeavesParent r page old new → ⊥
no_parent_then r page old new off w = off w.then (body_of r new old.right (body.PostInner w.then) w.after)

pub record Lost (r : Record) (page : ℕ) (old new : Page) (cs ds : List PostChild) : Type 0 where
  pub right : new.right ≡ old.right
  pub stamp : new.stamp ≡ r.number
  pub loses : LosesChild page cs ds

module _ (r : Record) (page : ℕ) (old new : Page) (cs ds : List PostChild) (was : old.body ≡ body.PostInner cs)
    (is : new.body ≡ body.PostInner ds) where
  pub parent_told : Lost r page old new cs ds → LeavesParent r page old new
  parent_told e = record {
    children = cs;
    then = ds;
    was = was;
    loses = e.loses;
    after = made_of r new old.right (body.PostInner ds) e.right e.stamp is;
  }

  pub lost : LeavesParent r page old new → Lost r page old new cs ds
  lost w = record {
    right = right_of r new old.right (body.PostInner w.then) w.after;
    stamp = stamp_of r new old.right (body.PostInner w.then) w.after;
    loses = subst (LosesChild page cs)
        (same_children w.then ds (sym (body_of r new old.right (body.PostInner w.then) w.after) ∙ is))
        (subst (λ (xs : List PostChild). LosesChild page xs w.then)
        (same_children w.children cs (sym w.was ∙ was)) w.loses);
  }

-- ---- a list of fewer items

pub no_list : (r : Record) (old new : Page) → ((h : ℕ) (is : List ℕ) → old.body ≡ body.PostLeaf h is → ⊥)
    → ListLeft r old new → ⊥
no_list r old new off w = off w.high w.items w.was

pub no_list_then : (r : Record) (old new : Page) → ((h : ℕ) (is : List ℕ) → new.body ≡ body.PostLeaf h is → ⊥)
    → ListLeft r old new → ⊥
no_list_then r old new off w = off w.high w.left (body_of r new old.right (body.PostLeaf w.high w.left) w.after)

pub record Fewer (r : Record) (old new : Page) (high : ℕ) (items : List ℕ) (high' : ℕ) (left : List ℕ) : Type 0 where
  pub right : new.right ≡ old.right
  pub stamp : new.stamp ≡ r.number
  pub high_is : high' ≡ high
  pub some : left ≢ items
  pub among : AreAmong left items

module _ (r : Record) (old new : Page) (high : ℕ) (items : List ℕ) (high' : ℕ) (left : List ℕ)
    (was : old.body ≡ body.PostLeaf high items) (is : new.body ≡ body.PostLeaf high' left) where
  pub list_left : Fewer r old new high items high' left → ListLeft r old new
  list_left e = record {
    high = high;
    items = items;
    left = left;
    was = was;
    go = e.among;
    some = e.some;
    after = made_of r new old.right (body.PostLeaf high left) e.right e.stamp
        (is ∙ ap (λ (h : ℕ). body.PostLeaf h left) e.high_is);
  }

  pub fewer : ListLeft r old new → Fewer r old new high items high' left
  fewer w =
      let then = body_of r new old.right (body.PostLeaf w.high w.left) w.after in
      let items_are : w.items ≡ items = same_items w.high high w.items items (sym w.was ∙ was) in
      let left_is : w.left ≡ left = same_items w.high high' w.left left (sym then ∙ is) in
      record {
        right = right_of r new old.right (body.PostLeaf w.high w.left) w.after;
        stamp = stamp_of r new old.right (body.PostLeaf w.high w.left) w.after;
        high_is = same_high high' w.high left w.left (sym is ∙ then)
            ∙ same_high w.high high w.items items (sym w.was ∙ was);
        some = λ e. w.some (left_is ∙ e ∙ sym items_are);
        among = subst₂ AreAmong left_is items_are w.go;
      }

-- ---- entries

same_key : (h k : Key) (es fs : List Entry) → body.EntryLeaf h es ≡ body.EntryLeaf k fs → h ≡ k
same_key h k es fs e = cc

same_entries : (h k : Key) (es fs : List Entry) → body.EntryLeaf h es ≡ body.EntryLeaf k fs → es ≡ fs
same_entries h k es fs e = cc

pub no_entries : (r : Record) (old new : Page) → ((h : Key) (es : List Entry) → old.body ≡ body.EntryLeaf h es → ⊥)
    → EntriesLeft r old new → ⊥
no_entries r old new off w = off w.high w.entries w.was

pub no_entries_then : (r : Record) (old new : Page)
    → ((h : Key) (es : List Entry) → new.body ≡ body.EntryLeaf h es → ⊥) → EntriesLeft r old new → ⊥
no_entries_then r old new off w =
    off w.high w.left (body_of r new old.right (body.EntryLeaf w.high w.left) w.after)

pub record Went (r : Record) (old new : Page) (high : Key) (es : List Entry) (high' : Key) (fs : List Entry) : Type 0
  where
    pub right : new.right ≡ old.right
    pub stamp : new.stamp ≡ r.number
    pub high_is : high ≡ high'
    pub go : EntriesGo es fs

module _ (r : Record) (old new : Page) (high : Key) (es : List Entry) (high' : Key) (fs : List Entry)
    (was : old.body ≡ body.EntryLeaf high es) (is : new.body ≡ body.EntryLeaf high' fs) where
  pub entries_left : Went r old new high es high' fs → EntriesLeft r old new
  entries_left e = record {
    high = high;
    entries = es;
    left = fs;
    was = was;
    go = e.go;
    after = made_of r new old.right (body.EntryLeaf high fs) e.right e.stamp
        (is ∙ ap (λ (h : Key). body.EntryLeaf h fs) (sym e.high_is));
  }

  pub went : EntriesLeft r old new → Went r old new high es high' fs
  went w =
      let then = body_of r new old.right (body.EntryLeaf w.high w.left) w.after in
      record {
        right = right_of r new old.right (body.EntryLeaf w.high w.left) w.after;
        stamp = stamp_of r new old.right (body.EntryLeaf w.high w.left) w.after;
        high_is = same_key high w.high es w.entries (sym was ∙ w.was)
            ∙ same_key w.high high' w.left fs (sym then ∙ is);
        go = subst₂ EntriesGo (same_entries w.high high w.entries es (sym w.was ∙ was))
            (same_entries w.high high' w.left fs (sym then ∙ is)) w.go;
      }

-- ---- slots

same_slots : (a b : List (Option Head)) → body.Heap a ≡ body.Heap b → a ≡ b
same_slots a b e = cc

module _ (k : Known) (floor : ℕ) (r : Record) (old new : Page) where
  pub no_slots : ((ss : List (Option Head)) → old.body ≡ body.Heap ss → ⊥) → LeavesSlots k floor r old new → ⊥
  no_slots off w = off w.slots w.was

  pub no_slots_then : ((ss : List (Option Head)) → new.body ≡ body.Heap ss → ⊥) → LeavesSlots k floor r old new → ⊥
  no_slots_then off w = off w.new_slots (body_of r new old.right (body.Heap w.new_slots) w.after)

  pub slots_link : LeavesSlots k floor r old new → new.right ≡ old.right
  slots_link w = right_of r new old.right (body.Heap w.new_slots) w.after

  pub slots_stamp : LeavesSlots k floor r old new → new.stamp ≡ r.number
  slots_stamp w = stamp_of r new old.right (body.Heap w.new_slots) w.after

  module _ (slots left : List (Option Head)) (was : old.body ≡ body.Heap slots) (is : new.body ≡ body.Heap left) where
    pub slots_left : new.right ≡ old.right → new.stamp ≡ r.number → SlotsGo k floor slots left
        → LeavesSlots k floor r old new
    slots_left right stamp go = record {
      slots = slots;
      new_slots = left;
      was = was;
      go = go;
      after = made_of r new old.right (body.Heap left) right stamp is;
    }

    pub slots_go : LeavesSlots k floor r old new → SlotsGo k floor slots left
    slots_go w = subst₂ (SlotsGo k floor) (same_slots w.slots slots (sym w.was ∙ was))
        (same_slots w.new_slots left (sym (body_of r new old.right (body.Heap w.new_slots) w.after) ∙ is)) w.go

module _ (r : Record) (slot : ℕ) (old : Page) (head : Head) (new : Page) where
  pub no_slot : ((ss : List (Option Head)) → old.body ≡ body.Heap ss → ⊥) → LeavesInSlot r slot old head new → ⊥
  no_slot off w = off w.slots w.before

  pub no_slot_then : ((ss : List (Option Head)) → new.body ≡ body.Heap ss → ⊥) → LeavesInSlot r slot old head new → ⊥
  no_slot_then off w = off w.new_slots (body_of r new old.right (body.Heap w.new_slots) w.after)

  pub slot_link : LeavesInSlot r slot old head new → new.right ≡ old.right
  slot_link w = right_of r new old.right (body.Heap w.new_slots) w.after

  pub slot_stamp : LeavesInSlot r slot old head new → new.stamp ≡ r.number
  slot_stamp w = stamp_of r new old.right (body.Heap w.new_slots) w.after

  module _ (slots left : List (Option Head)) (was : old.body ≡ body.Heap slots) (is : new.body ≡ body.Heap left) where
    pub slot_left : new.right ≡ old.right → new.stamp ≡ r.number → PutsSlot slots slot (Some head) left
        → LeavesInSlot r slot old head new
    slot_left right stamp put = record {
      slots = slots;
      new_slots = left;
      before = was;
      put = put;
      after = made_of r new old.right (body.Heap left) right stamp is;
    }

    pub slot_put : LeavesInSlot r slot old head new → PutsSlot slots slot (Some head) left
    slot_put w = subst₂ (λ (xs ys : List (Option Head)). PutsSlot xs slot (Some head) ys)
        (same_slots w.slots slots (sym w.before ∙ was))
        (same_slots w.new_slots left (sym (body_of r new old.right (body.Heap w.new_slots) w.after) ∙ is)) w.put
