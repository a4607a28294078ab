-- The step by which items come to a leaf of either tree, and what is under the key then.
use Rattle.std.proofs.Common.{◌≡◌, ◌<◌, ◌≤◌, ℕ, List, [], ◌∷◌, take, Result, subst}
use Rattle.std.specs.Prelude.{OnOk}
use Rattle.disk_trait.specs.declared.device.Disk.{Ghosts as Disk}
use Rattle.ts_base.specs.Keys.{Key}
use Rattle.page_types.specs.Numbers.{page_limit, item_limit}
use Rattle.page_types.specs.Items.{AreItems}
use Rattle.page_types.specs.declared.page.Page.{Page}
use Rattle.core_state.specs.Log.{In}
use Rattle.core_state.specs.TreeRules.{TowardItem}
use Rattle.core_state.specs.Allowed.{Sheet, Step}
use Rattle.core_state.specs.Steps.{sheet}
use Rattle.core_maintenance.specs.AddedPairs.{AddedPostingsAreMain}
use Rattle.core_maintenance.proofs.Moves.{add_items_may, add_postings_may}
use Rattle.core_maintenance.proofs.Serving.{items_serve, postings_serve}
use Rattle.core_maintenance.proofs.WaysLead.{ways_hold}
use Rattle.entry_tree.specs.Logging.{AddedItemsAreLogged}
use Rattle.posting_tree.specs.Logging.{AddedPostingsAreLogged}
use Rattle.buffer_frames.specs.Frames.{FramesValue}
use Rattle.buffer_frames.specs.Passes.{IsPassOf, IsHolding, Seen}
use Rattle.buffer_frames.specs.declared.pass.Pass.{Pass}
use Rattle.gin_place.specs.Going.{WorksOn}
use Rattle.gin_place.specs.Placing.{HasRight, ArePending, ArePlaced, IsOnWay}
use Rattle.gin_place.specs.Inner.Logging.{MayLogStep, LogsStep, AddsInTree}
use Rattle.gin_place.specs.Inner.Stepping.{kind_by, adding_kind}
use Rattle.gin_place.specs.declared.sought.Sought.{Sought}
use Rattle.gin_place.specs.declared.sought.Sought.TheVariants as sought
use Rattle.gin_place.proofs.Lists.{among, from_first}
use Rattle.gin_place.proofs.Adding.{adds_to, items_may_log, items_placed}
use Rattle.gin_place.proofs.AddingPosts.{posts_to, posts_may_log, posts_placed}
use Rattle.gin_place.proofs.Exits.{on_ok}

-- the leaf as the record leaves it
abbrev pub adding_step : Sought → ℕ → Page → Step
adding_step t page new = record { kind = kind_by t; xid = 0; after = sheet page new ∷ [] }

-- what laws say of the step, of its pages and of what is under the key then
pub record AddingLaws : Type 0 where
  pub items_logged : AddedItemsAreLogged
  pub posts_logged : AddedPostingsAreLogged
  pub posts_main : AddedPostingsAreMain

-- the first of the items, of which the first is sought, are no less than it
first_part : (item n : ℕ) (items rest : List ℕ) → AreItems items → items ≡ item ∷ rest → (i : ℕ) → In i (take n items)
    → (item ≤ i) × (i < item_limit)
first_part item n items rest are is i on =
    from_first item rest (subst AreItems is are) i (subst (In i) is (among i n items on))

module _ {D : Type 0} (device : Disk D) (laws : AddingLaws) (f : FramesValue D) (pass : Pass) (held : Sheet)
    (new : Page) (hold : IsHolding device f pass (held ∷ [])) (low : held.page < page_limit) (of : IsPassOf f pass)
    (right : HasRight pass) (seen : Seen device f pass (λ S P. P held.page ≡ held.content)) (key : Key)
    (items : List ℕ) (n : ℕ) where
  -- so many of the rows
  part_rows : ArePending device f pass key items → ArePending device f pass key (take n items)
  part_rows rows i on = rows i (among i n items on)

  pub adding_may_log : (t : Sought) → AddsInTree device f pass key items t held new n
      → MayLogStep device f pass (held ∷ []) (adding_step t held.page new)
  adding_may_log sought.Key a =
      items_may_log device f pass held new key (take n items) (adds_to held.content key items new n a.reads) hold low of
      right a.way (part_rows a.rows) add_items_may items_serve laws.items_logged
  adding_may_log (sought.Item root item) a =
      posts_may_log device f pass held new key root item (take n items) (posts_to held.content items new n a.reads) hold
      low (first_part item n items (a.first).0 a.are_items (a.first).1) of right a.way seen (part_rows a.rows) ways_hold
      add_postings_may postings_serve laws.posts_logged

  pub adding_placed : (t : Sought) (f' : FramesValue D) (pass' : Pass)
      → LogsStep device f pass (held ∷ []) (adding_step t held.page new) f' pass'
      → AddsInTree device f pass key items t held new n → ArePlaced device f' pass' key (take n items)
  adding_placed sought.Key f' pass' logs a =
      items_placed device f pass held new key (take n items) (adds_to held.content key items new n a.reads) hold low f'
      pass' logs.seen
  adding_placed (sought.Item root item) f' pass' logs a =
      posts_placed device f pass held new key root item (take n items) (posts_to held.content items new n a.reads) hold
      low (first_part item n items (a.first).0 a.are_items (a.first).1) f' pass' logs of right a.way seen
      (part_rows a.rows) ways_hold laws.posts_logged laws.posts_main

-- a way begins at the root of the same posting tree after records
pub way_again : {D : Type 0} (device : Disk D) (f g : FramesValue D) (p q : Pass) (ks : List ℕ)
    → WorksOn device f p g q ks → (key : Key) (root item page next : ℕ)
    → IsOnWay device f p key (sought.Item root item) page → IsOnWay device g q key (sought.Item root next) root
way_again device f g p q ks works key root item page next way t up R stands legal Q shown = (
  works.trees key root (λ t up R stands legal P shown. (way t up R stands legal P shown).0) t up R stands legal Q shown,
  TowardItem.here,
)

-- ── once it is logged ──

module _ {D : Type 0} (device : Disk D) (f : FramesValue D) (pass : Pass) (held : Sheet) (new : Page) (t : Sought)
    (s : Step) (made : s ≡ adding_step t held.page new) {T E : Type 0} (r : Result T E) (f' : FramesValue D)
    (pass' : Pass) (logged : OnOk r (LogsStep device f pass (held ∷ []) s f' pass')) where
  -- what follows of it
  once : (X : Type 0) → (LogsStep device f pass (held ∷ []) (adding_step t held.page new) f' pass' → X) → OnOk r X
  once X to =
      on_ok r (LogsStep device f pass (held ∷ []) s f' pass') X
      (λ l. to (subst (λ (x : Step). LogsStep device f pass (held ∷ []) x f' pass') made l)) logged

  pub then_works : OnOk r (WorksOn device f pass f' pass' (adding_kind t ∷ []))
  then_works = once (WorksOn device f pass f' pass' (adding_kind t ∷ [])) (λ l. l.works)

  pub then_ways : OnOk r ((key : Key) (root item : ℕ) → t ≡ sought.Item root item
      → IsOnWay device f pass key t held.page → (next : ℕ) → IsOnWay device f' pass' key (sought.Item root next) root)
  then_ways =
      once _ (λ l key root item is way next.
      way_again device f f' pass pass' (adding_kind t ∷ []) l.works key root item held.page next
      (subst (λ (x : Sought). IsOnWay device f pass key x held.page) is way))

  pub then_placed : AddingLaws → IsHolding device f pass (held ∷ []) → held.page < page_limit → IsPassOf f pass
      → HasRight pass → Seen device f pass (λ S P. P held.page ≡ held.content)
      → OnOk r ((key items : List ℕ) (n : ℕ) → AddsInTree device f pass key items t held new n
      → ArePlaced device f' pass' key (take n items))
  then_placed laws hold low of right seen =
      once _ (λ l key items n a.
      adding_placed device laws f pass held new hold low of right seen key items n t f' pass' l a)
