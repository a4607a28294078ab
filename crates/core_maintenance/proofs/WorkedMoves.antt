-- Steps of a session with the right of maintenance, after one insert that is committed, and at pages that it comes to.
use Rattle.std.proofs.Common.{ℕ, zero, suc, List, [], ◌∷◌, length, refl, sym, subst, inl, inr, arith}
use Rattle.std.specs.Prelude.{Some, None}
use Rattle.ts_base.specs.Keys.{Key, keys_of}
use Rattle.page_types.specs.Views.{free_page}
use Rattle.page_types.specs.declared.page.Page.{Page}
use Rattle.page_types.specs.declared.page.Row.{Row}
use Rattle.page_types.specs.declared.page.Postings.TheVariants.{Root}
use Rattle.page_types.specs.declared.page.Body.TheVariants as body
use Rattle.page_types.specs.declared.page.Gone.TheVariants as gone
use Rattle.page_types.specs.declared.record.Kind.TheVariants as kind
use Rattle.core_state.specs.Log.{Log, Pages, In, Shows}
use Rattle.core_state.specs.Index.{Pending, Main}
use Rattle.core_state.specs.PendingRules.{IsLastAfter}
use Rattle.core_state.specs.TreeRules.{Toward, TowardItem, IsAddItemsRest}
use Rattle.core_state.specs.Allowed.{Sheet, View, IsAllowed, Step, MayLog}
use Rattle.core_state.specs.Steps.{sheet}
use Rattle.core_state.proofs.Showing.{shown_one}
use Rattle.core_state.proofs.Worked as first
use Rattle.core_state.proofs.WorkedPending as rows
use Rattle.core_state.proofs.WorkedRun as run
use Rattle.core_maintenance.specs.MovingSteps.{IsAllMain, CanShift, CanAddItems, CanAddPostings}
use Rattle.core_maintenance.proofs.Moves.{add_items_may}

-- a session that has the right since the log's length
abbrev session : Log → List Sheet → View
session seen held = record {
  seen = seen;
  pin = None;
  floor = 0;
  since = 0;
  from = 0;
  readings = [];
  held = held;
  xids = [];
  begun = [];
  work = Some (length seen);
}

abbrev holds_root : View
holds_root = session run.first_run (sheet 1 first.root_page ∷ [])

-- 13: the document's first key comes into the tree
abbrev cat_leaf : Page
cat_leaf = rows.leaf_page 0 (rows.entry rows.cat_key ∷ [])

abbrev cat_step : Step
cat_step = record { kind = kind.AddItems; xid = 0; after = sheet 1 cat_leaf ∷ [] }

has_row : (i : ℕ) → In i (4096 ∷ []) → Pending rows.with_link rows.cat_key i
has_row i (inl e) = subst (Pending rows.with_link rows.cat_key) (sym e) (rows.pending_there first.root_page rows.cat_key
    (inl refl))
has_row i (inr e) = absurd e

can_add : (P : Pages) → Shows run.first_run P → CanAddItems holds_root P cat_step
can_add P shown = record {
  page = 1;
  key = rows.cat_key;
  items = 4096 ∷ [];
  high = [];
  entries = [];
  front = [];
  back = [];
  old_list = [];
  new_list = 128 ∷ 32 ∷ [];
  old = first.root_page;
  new = cat_leaf;
  kind_is = refl;
  after_is = refl;
  may = record { at = 6; has = refl; within = omega arith; started = λ e. cc };
  held = inl refl;
  was = refl;
  within = inl refl;
  entry = inr (refl, refl);
  above = λ e i. absurd i;
  below = λ e i. absurd i;
  added = rows.added;
  short = omega arith;
  rest = subst (λ (S : Pages). IsAddItemsRest S rows.cat_key (4096 ∷ []) 1)
      (shown_one run.first_run rows.with_link P run.shown_run shown)
      (record { place = Toward.here; rows = has_row });
  right = refl;
  content = refl;
}

-- so it may be logged, also after the log that was seen
cat_may : MayLog holds_root cat_step
cat_may = add_items_may holds_root cat_step (λ P legal shown. can_add P shown)

its_log : IsAllowed holds_root run.first_run
its_log = record {
  later = [];
  goes_on = refl;
  others = tt;
  legal = run.legal;
  keeps = tt;
  pages = rows.with_link;
  shown = run.shown_run;
  held = (refl, tt);
  read = tt;
}

-- 12: with both keys in the tree the page with its row leaves the list
abbrev shift_step : Step
shift_step = record {
  kind = kind.Shift;
  xid = 0;
  after = sheet 0 (rows.meta_page 0 0 0 0)
      ∷ sheet 3 (record { right = 0; stamp = 0; body = body.Deleted (gone.Pending (rows.row ∷ [])) }) ∷ [];
}

all_main : (k : Key) → In k (keys_of first.vector) → Main rows.with_both k 4096
all_main k (inl e) = subst (λ x. Main rows.with_both x 4096) (sym e)
    (rows.main_there rows.cat_key (rows.entry rows.cat_key) refl (inl refl))
all_main k (inr (inl e)) = subst (λ x. Main rows.with_both x 4096) (sym e)
    (rows.main_there rows.fat_key (rows.entry rows.fat_key) refl (inr (inl refl)))
all_main k (inr (inr e)) = absurd e

moved : (w : Row) → In w (rows.row ∷ []) → IsAllMain rows.with_both w.item
moved w (inl e) = subst (λ (x : Row). IsAllMain rows.with_both x.item) (sym e) (
  first.doc,
  first.vector,
  refl,
  (rows.head 0, record { at = refl; serial = refl }, rows.whole rows.with_both 0),
  all_main,
)
moved w (inr e) = absurd e

can_shift : CanShift (session rows.log_added (sheet 0 (rows.meta_page 5 3 3 1) ∷ sheet 3 (rows.row_page rows.row) ∷ []))
    rows.with_both shift_step
can_shift = record {
  page = 3;
  last = 3;
  count = 0;
  new_last = 0;
  rows = rows.row ∷ [];
  meta = rows.meta_page 5 3 3 1;
  old = rows.row_page rows.row;
  meta_then = rows.meta_page 0 0 0 0;
  new = record { right = 0; stamp = 0; body = body.Deleted (gone.Pending (rows.row ∷ [])) };
  kind_is = refl;
  after_is = refl;
  may = record { at = 7; has = refl; within = omega arith; started = λ e. cc };
  held_meta = inl refl;
  held = inr (inl refl);
  meta_is = refl;
  was = refl;
  moved = moved;
  last_is = IsLastAfter.none refl;
  meta_right = refl;
  meta_content = refl;
  right = refl;
  content = refl;
}

-- 15: with its first key in a posting tree, whose leaf is empty, the document's item comes there
abbrev post_leaf : List ℕ → Page
post_leaf items = record { right = 0; stamp = 0; body = body.PostLeaf 0 items }

abbrev treed : Pages
treed zero = rows.meta_page 5 3 3 1
treed (suc zero) = rows.leaf_page 7 (record { key = rows.cat_key; postings = Root 4 } ∷ [])
treed (suc (suc zero)) = rows.heap_page 5 0
treed (suc (suc (suc zero))) = rows.row_page rows.row
treed (suc (suc (suc (suc zero)))) = post_leaf []
treed (suc (suc (suc (suc (suc p))))) = free_page

abbrev post_step : Step
post_step = record { kind = kind.AddPostings; xid = 0; after = sheet 4 (post_leaf (128 ∷ 32 ∷ [])) ∷ [] }

has_pending : (i : ℕ) → In i (4096 ∷ []) → Pending treed rows.cat_key i
has_pending i (inl e) = record {
  row = rows.row;
  linked = record {
    line = 3 ∷ [];
    is_line = (refl, (λ f. omega (arith, f)), refl);
    page = 3;
    on = inl refl;
    there = inl refl;
  };
  item = sym e;
  key = inl refl;
}
has_pending i (inr e) = absurd e

can_post : CanAddPostings (session run.first_run (sheet 4 (post_leaf []) ∷ [])) treed post_step
can_post = record {
  page = 4;
  items = 4096 ∷ [];
  high = 0;
  old_list = [];
  new_list = 128 ∷ 32 ∷ [];
  old = post_leaf [];
  new = post_leaf (128 ∷ 32 ∷ []);
  kind_is = refl;
  after_is = refl;
  may = record { at = 6; has = refl; within = omega arith; started = λ e. cc };
  held = inl refl;
  was = refl;
  within = λ i there. inl refl;
  added = rows.added;
  rest = record {
    key = rows.cat_key;
    root = 4;
    named = record {
      page = 1;
      entry = record { key = rows.cat_key; postings = Root 4 };
      on = inl refl;
      key = refl;
      names = refl;
    };
    place = λ i there. TowardItem.here;
    rows = has_pending;
  };
  right = refl;
  content = refl;
}
