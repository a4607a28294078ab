-- A step that logs a record, or begins a way on which room is made.
use Rattle.std.proofs.Common.{◌≡◌, ◌+◌, ℕ, List, [], ◌∷◌, take, drop, refl, sym, subst}
use Rattle.std.proofs.Common.{inl, inr, arith, Bool, true, false, Ok, Err}
use Rattle.std.specs.Prelude.{Some}
use Rattle.disk_trait.specs.declared.device.Disk.{Ghosts as Disk}
use Rattle.page_types.specs.declared.page.Page.{Page}
use Rattle.ts_base.specs.Keys.{Key}
use Rattle.core_state.specs.Allowed.{Sheet}
use Rattle.core_state.specs.Bullets.{BulletsHold}
use Rattle.core_state.specs.Log.{Log}
use Rattle.core_maintenance.specs.Leading.{WaysHold}
use Rattle.core_maintenance.specs.Staying.{RightKeepsFound}
use Rattle.posting_tree.specs.Full as posts
use Rattle.buffer_frames.specs.Frames.{FramesValue, Behind}
use Rattle.buffer_frames.specs.declared.pass.Pass.{Pass}
use Rattle.gin_place.specs.Trees.{tree_of}
use Rattle.gin_place.specs.Placing.{IsFirst, IsOnWay, IsRootOf, IsTree, ArePlaced, IsAt}
use Rattle.gin_place.specs.Placing.{HasRoomAbove}
use Rattle.gin_place.specs.Going.{WorksOn}
use Rattle.gin_place.specs.Causes.{Finds, IsBad, IsBadNew, IsBadRoom, HadPage, NoBadPage, IsWhy}
use Rattle.gin_place.specs.Causes.{CannotLog}
use Rattle.gin_place.specs.Faults.{MetNoFault, FaultBy}
use Rattle.gin_place.specs.Stepping.{HasStepped, TakesPage}
use Rattle.gin_place.specs.Holding.{ReadsOn}
use Rattle.gin_place.specs.Inner.Logging.{AddsInTree}
use Rattle.gin_place.specs.Inner.Making.{WhyNoRoom}
use Rattle.gin_place.specs.Inner.Reading.{IsLongAt}
use Rattle.gin_place.specs.Inner.ReadingItems.{IsReadingIn, IsFullLeafIn}
use Rattle.gin_place.specs.Inner.Stepping.{HoldsAt, Seeks, Puts, adding_kind}
use Rattle.gin_place.specs.declared.error.PlaceError.{PlaceError}
use Rattle.gin_place.specs.declared.placing.Placing.{Placing}
use Rattle.gin_place.specs.declared.reading.Reading.TheVariants as reading
use Rattle.gin_place.specs.declared.sought.Sought.{Sought}
use Rattle.gin_place.specs.declared.sought.Sought.TheVariants as sought
use Rattle.gin_place.proofs.Causing.{finds_now, finds_after, log_why, log_lawful, why_as, found_lawful}
use Rattle.gin_place.proofs.FullPages.{full_divides_in}
use Rattle.gin_place.proofs.Kept.{first_still, root_way}
use Rattle.gin_place.proofs.Lacking.{LacksIn, added_lacks_in, long_lacks, full_lacks_in, never_lacks}
use Rattle.gin_place.proofs.LawfulRoom.{never_new, never_room}
use Rattle.gin_place.proofs.Lists.{items_on}
use Rattle.gin_place.proofs.ReadingsIn.{long_in, is_long, added_few}
use Rattle.gin_place.proofs.Remaining.{among_left}
use Rattle.gin_place.proofs.Stepped.{begun, AreWays, none_took, adding_took, makes, never, refused}
use Rattle.gin_place.proofs.Stepped.{answered}
use Rattle.gin_place.proofs.TreeWays.{way_root}
use Rattle.gin_place.proofs.WentOn.{more_first, tree_root, room_steps}

-- the roots of the same tree, where the key's entry names it
ways_in : {D : Type 0} (device : Disk D) (g : FramesValue D) (q : Pass) (k : Key) (t : Sought)
    → ((root item : ℕ) → t ≡ sought.Item root item → IsTree device g q k root) → AreWays device g q k [] (tree_of t)
ways_in device g q k sought.Key named sought.Key e = root_way device g q k
ways_in device g q k sought.Key named (sought.Item root item) e = absurd (let z : ⊥ = cc in z)
ways_in device g q k (sought.Item root item) named s e = tree_root device g q k root (named root item refl) s e

-- the key's list is long
pub long_at : (c : Page) (k items : List ℕ) (t : Sought) (place : ℕ) → IsReadingIn t c k items (reading.Long place)
    → IsLongAt c k place
long_at c k items t place reads = is_long c k items place (long_in t c k items place reads).1

-- a record of such a kind takes a page that was left
page_took : {D : Type 0} (device : Disk D) (f : FramesValue D) (p : Pass) (ks : List ℕ) → HadPage device f p
    → (kind : ℕ) → TakesPage kind → ks ≡ kind ∷ [] → HadPage device f p
page_took device f p ks had kind takes is = had

module _ {D : Type 0} (device : Disk D) (f : FramesValue D) (p : Pass) (k : Key) (items : List ℕ) (old : Placing)
    (t : Sought) (parent page : ℕ) (held : Sheet) (at : HoldsAt device f p k items old t parent page held) where
  here : IsFirst (drop old.from items) t × IsOnWay device f p k t page
  here = subst (IsAt device f p k items old.from) at.at (at.placing).0

  -- the tree is the key's, still
  trees_after : (g : FramesValue D) (q : Pass) (ks : List ℕ) → WorksOn device f p g q ks
      → (root item : ℕ) → t ≡ sought.Item root item → IsTree device g q k root
  trees_after g q ks works root item is =
      works.trees k root (λ told up R stands legal P shown.
      (subst (λ (s : Sought). IsOnWay device f p k s page) is here.1 told up R stands legal P shown).0)

  pub adds_at : (new : Page) (count : ℕ) → IsReadingIn t held.content k (drop old.from items) (reading.Added new count)
      → AddsInTree device f p k (drop old.from items) t held new count
  adds_at new count reads = record {
    way = subst (IsOnWay device f p k t) (sym at.number) here.1;
    rows = λ i on. at.rows i (among_left i old.from items on);
    are_items = items_on old.from items at.are_items;
    first = here.0;
    reads = reads;
  }

  -- a refusal
  pub unlogged : (g : FramesValue D) (q : Pass) (e : PlaceError) → ReadsOn device f p g q → q.held ≡ 0
      → Finds device f p (IsWhy device (IsBad device k old) g e) → NoBadPage device f e → FaultBy device f g e
      → HasStepped device f p g q k items old old (Err e)
  unlogged g q e reads none why lawful told =
      refused device f p k items old g q e old reads none at.placing refl why lawful told

  pub not_added : (g : FramesValue D) (q : Pass) (e : PlaceError) → ReadsOn device f p g q → q.held ≡ 0
      → CannotLog device g e f p → FaultBy device f g e → HasStepped device f p g q k items old old (Err e)
  not_added g q e reads none cause told =
      unlogged g q e reads none
      (finds_now device f p (IsWhy device (IsBad device k old) g e) at.is_pass
      (log_why device (IsBad device k old) g e f p cause)) (log_lawful device f g f p e cause) told

  pub not_begun : (g : FramesValue D) (q : Pass) (e : PlaceError) → ReadsOn device f p g q → q.held ≡ 0
      → Finds device f p (IsWhy device IsBadNew g e) → FaultBy device f g e
      → HasStepped device f p g q k items old old (Err e)
  not_begun g q e reads none m told =
      let never = never_new device f m.0 p m.1 held at.holding at.is_pass (m.2).added in
      unlogged g q e reads none (
        m.0,
        m.1,
        m.2,
        m.3,
        why_as device IsBadNew (IsBad device k old) g e m.0 m.1
            (λ n bad. IsBad.room t parent page at.at (IsBadRoom.new bad) (never n bad)) m.4,
      ) (found_lawful device IsBadNew f g p e m never) told

  -- not all items were under the key
  lacking : BulletsHold → WaysHold → LacksIn t held.content k (drop old.from items) → ArePlaced device f p k items
      → Behind device f (λ (R : Log). ⊥)
  lacking bullets ways lacks placed =
      never_lacks device f p (held ∷ []) bullets ways at.is_pass at.holding t k (drop old.from items) page held.content
      (items_on old.from items at.are_items) here.0 at.seen here.1 lacks
      (λ i on. placed i (among_left i old.from items on))

  -- items came to the page
  pub added_on : BulletsHold → WaysHold → (new : Page) (count : ℕ)
      → IsReadingIn t held.content k (drop old.from items) (reading.Added new count) → (g : FramesValue D) (q : Pass)
      → q.held ≡ 0 → WorksOn device f p g q (adding_kind t ∷ [])
      → ArePlaced device g q k (take count (drop old.from items)) → MetNoFault device f g → (next : Placing) (b : Bool)
      → Puts count t items old next b → HasStepped device f p g q k items old next (Ok b)
  added_on bullets ways new count reads g q none works placed fine next b seeks =
      let lacks = added_lacks_in t held.content k (drop old.from items) new count reads in
      let few = added_few t held.content k (drop old.from items) new count reads in
      let first = more_first device g q k items old.from count
      (first_still device f g p q (adding_kind t ∷ []) works k items old.from (at.placing).3) placed few.1 in
      answered device f p k items old g q (adding_kind t ∷ []) next b (omega arith) works none
      (begun device g q k items (record old { from = old.from + count }) next b (tree_of t) seeks first
      (ways_in device g q k t (trees_after g q (adding_kind t ∷ []) works)))
      (never device f p k items old (lacking bullets ways lacks) g q next (Ok b))
      (λ more. inl works.goes.records) fine (adding_took device f p k items old t)

  -- the key's list became a tree
  pub tree_begun : BulletsHold → WaysHold → (place : ℕ)
      → IsReadingIn t held.content k (drop old.from items) (reading.Long place) → (g : FramesValue D) (q : Pass)
      → q.held ≡ 0 → WorksOn device f p g q (14 ∷ []) → (root : ℕ) → IsTree device g q k root → HadPage device f p
      → MetNoFault device f g → (next : Placing) (b : Bool) → Seeks (Some root) items old next b
      → HasStepped device f p g q k items old next (Ok b)
  tree_begun bullets ways place reads g q none works root named had fine next b seeks =
      let long = long_in t held.content k (drop old.from items) place reads in
      let lacks = subst (λ (s : Sought). LacksIn s held.content k (drop old.from items)) (sym long.0)
      (long_lacks held.content k (drop old.from items) place long.1) in
      answered device f p k items old g q (14 ∷ []) next b (omega arith) works none
      (begun device g q k items old next b (Some root) seeks
      (first_still device f g p q (14 ∷ []) works k items old.from (at.placing).3) (tree_root device g q k root named))
      (never device f p k items old (lacking bullets ways lacks) g q next (Ok b))
      (λ more. inl works.goes.records) fine (page_took device f p (14 ∷ []) had)

  -- the root of the tree is one
  pub root_at : IsRootOf device f p t
  root_at told up R stands legal P shown = way_root P k t page (here.1 told up R stands legal P shown)

  -- room was made
  pub room_begun : old.making_room ≡ true → (g : FramesValue D) (q : Pass) (kind : ℕ) → q.held ≡ 0
      → WorksOn device f p g q (kind ∷ []) → HadPage device f p → MetNoFault device f g → (next : Placing) (b : Bool)
      → Seeks (tree_of t) items old next b → HasStepped device f p g q k items old next (Ok b)
  room_begun making g q kind none works had fine next b seeks =
      answered device f p k items old g q (kind ∷ []) next b (omega arith) works none
      (begun device g q k items old next b (tree_of t) seeks
      (first_still device f g p q (kind ∷ []) works k items old.from (at.placing).3)
      (ways_in device g q k t (trees_after g q (kind ∷ []) works)))
      (makes device f p k items old g q next (Ok b) making)
      (λ more. inl works.goes.records) fine (page_took device f p (kind ∷ []) had)

  -- a way begins on which room is made
  pub room_wanted : BulletsHold → WaysHold → old.making_room ≡ false
      → IsReadingIn t held.content k (drop old.from items) reading.Full → IsFullLeafIn t held.content reading.Full
      → (g : FramesValue D) (q : Pass) → q.held ≡ 0 → WorksOn device f p g q [] → MetNoFault device f g
      → (next : Placing) (b : Bool) → Seeks (tree_of t) items (record old { making_room = true }) next b
      → HasStepped device f p g q k items old next (Ok b)
  room_wanted bullets ways first full leaf g q none works fine next b seeks =
      let lacks = full_lacks_in t held.content k (drop old.from items) at.is_page full leaf in
      answered device f p k items old g q [] next b (omega arith) works none
      (begun device g q k items (record old { making_room = true }) next b (tree_of t) seeks
      (first_still device f g p q [] works k items old.from (at.placing).3)
      (ways_in device g q k t (trees_after g q [] works)))
      (never device f p k items old (lacking bullets ways lacks) g q next (Ok b))
      (λ more. inr (works.goes.records, room_steps items old next t parent page at.at b more first seeks)) fine
      (none_took device f p k items old)

  -- no room was made
  pub not_roomy : RightKeepsFound → posts.FullLeafIsLarge → posts.FullInnerIsLarge → old.making_room ≡ true
      → IsReadingIn t held.content k (drop old.from items) reading.Full → (f1 g : FramesValue D) (p1 q : Pass)
      → ReadsOn device f p f1 p1 → MetNoFault device f f1 → ReadsOn device f p g q → q.held ≡ 0 → (e : PlaceError)
      → WhyNoRoom device t f1 p1 parent page g e → FaultBy device f g e
      → HasStepped device f p g q k items old old (Err e)
  not_roomy law leaf inner making full f1 g p1 q back fine reads none e cause told =
      let m = finds_after device f f1 p p1 (IsWhy device (IsBadRoom t parent page) g e) back.works fine cause in
      let large = full_divides_in leaf inner t held.content k (drop old.from items) at.is_page at.is_key
      (items_on old.from items at.are_items) full in
      let above = subst (HasRoomAbove device f p k old.making_room) at.at (at.placing).2 making in
      let never = never_room device f m.0 p m.1 held at.holding at.is_pass (m.2).added law at.right k t parent page
      at.number large here.1 above in
      unlogged g q e reads none (
        m.0,
        m.1,
        m.2,
        m.3,
        why_as device (IsBadRoom t parent page) (IsBad device k old) g e m.0 m.1
            (λ n bad. IsBad.room t parent page at.at bad (never n bad)) m.4,
      ) (found_lawful device (IsBadRoom t parent page) f g p e m never) told
