-- A step after which nothing is logged: the way goes on, or ends, or the page is bad.
use Rattle.std.proofs.Common.{◌≡◌, ◌+◌, ◌-◌, ◌<◌, ◌≤◌, ℕ, List, [], ◌∷◌, length, take, drop, refl, sym, ap, subst}
use Rattle.std.proofs.Common.{◌∙◌, inl, inr, arith, Bool, true, false, Result, Ok, Err, length-drop}
use Rattle.std.specs.Prelude.{Some}
use Rattle.disk_trait.specs.declared.device.Disk.{Ghosts as Disk}
use Rattle.page_types.specs.Pages.{IsPage}
use Rattle.page_types.specs.Views.{entries_in}
use Rattle.page_types.specs.declared.page.Page.{Page}
use Rattle.wal.specs.Waiting.{down_of}
use Rattle.ts_base.specs.Keys.{Key}
use Rattle.core_state.specs.Log.{Log, In}
use Rattle.core_state.specs.TreeRules.{TowardItem}
use Rattle.core_state.proofs.PageLists.{in_either}
use Rattle.entry_tree.specs.Adding.{tree_entry}
use Rattle.entry_tree.specs.Logging as entry_laws
use Rattle.posting_tree.specs.Logging as post_laws
use Rattle.buffer_frames.specs.Frames.{FramesValue, Lies, Behind}
use Rattle.buffer_frames.specs.Passes.{IsPassOf, Seen}
use Rattle.buffer_frames.specs.declared.pass.Pass.{Pass}
use Rattle.gin_place.specs.Trees.{tree_of, HasRoomIn, GoesDown}
use Rattle.gin_place.specs.Placing.{IsFirst, IsOnWay, IsTree, ArePlaced, AreFirstPlaced, IsAt, IsLeft, IsRoomAbove}
use Rattle.gin_place.specs.Placing.{IsPlacing}
use Rattle.gin_place.specs.Causes.{CannotUse, HasPlace, IsBad, IsWhy}
use Rattle.gin_place.specs.Faults.{MetNoFault}
use Rattle.gin_place.specs.Stepping.{reads_left, steps_left, HasStepped}
use Rattle.gin_place.specs.Holding.{ReadsOn}
use Rattle.gin_place.specs.Inner.Reading.{IsRoomy}
use Rattle.gin_place.specs.Inner.ReadingItems.{IsReadingIn}
use Rattle.gin_place.specs.Inner.Stepping.{stage_from, has_some, Seeks, Puts, GoesOn}
use Rattle.gin_place.specs.declared.error.PlaceError.{PlaceError}
use Rattle.gin_place.specs.declared.error.PlaceError.TheVariants.{BadPage}
use Rattle.gin_place.specs.declared.placing.Placing.{Placing}
use Rattle.gin_place.specs.declared.placing.Stage.TheVariants as stage
use Rattle.gin_place.specs.declared.reading.Next.{Next}
use Rattle.gin_place.specs.declared.reading.Next.TheVariants as next
use Rattle.gin_place.specs.declared.reading.Reading.TheVariants as reading
use Rattle.gin_place.specs.declared.sought.Sought.{Sought}
use Rattle.gin_place.specs.declared.sought.Sought.TheVariants as sought
use Rattle.gin_place.proofs.Carrying.{reads_in_turn}
use Rattle.gin_place.proofs.Causing.{finds_now}
use Rattle.gin_place.proofs.Kept.{first_still, root_way}
use Rattle.gin_place.proofs.Remaining.{taken_more}
use Rattle.gin_place.proofs.Nearer.{down_nearer, tree_nearer, put_nearer, room_nearer}
use Rattle.gin_place.proofs.ReadingsIn.{down_in, tree_in, bad_in, stand_few, stand_some, stand_main}
use Rattle.gin_place.proofs.Stepped.{true_false, not_done, begun, AreWays, none_took, rested, refused}
use Rattle.gin_place.proofs.Stepped.{answered}
use Rattle.gin_place.proofs.TreesOn.{leads_on, lower_on}

-- of what is left there is a first one, where there is some
pub some_left : (is : List ℕ) → true ≡ has_some is → (i : ℕ) × (rest : List ℕ) × (is ≡ i ∷ rest)
some_left [] e = absurd (true_false e)
some_left (i ∷ rest) e = (i, rest, refl)

-- so many items more are under the key
pub more_first : {D : Type 0} (device : Disk D) (g : FramesValue D) (q : Pass) (k : Key) (items : List ℕ) (n m : ℕ)
    → AreFirstPlaced device g q k items n → ArePlaced device g q k (take m (drop n items)) → m ≤ length (drop n items)
    → AreFirstPlaced device g q k items (n + m)
more_first device g q k items n m first more few = (
  omega (arith, first.0, few, length-drop n items),
  λ i on. elim (in_either i (take n items) (take m (drop n items)) (subst (In i) (taken_more n m items) on)) [
    | inl a ↦ first.1 i a
    | inr b ↦ more i b
  ],
)

module _ {D : Type 0} (device : Disk D) (f : FramesValue D) (p : Pass) (page : ℕ) (c : Page)
    (seen : Seen device f p (λ S P. P page ≡ c)) (k : Key) (t : Sought) (e : entry_laws.FoundLeadsDown)
    (law : post_laws.FoundLeadsDown) where
  way_on : (child : ℕ) → IsOnWay device f p k t page → GoesDown k t c child → IsOnWay device f p k t child
  way_on child way is told up R stands legal P shown =
      leads_on e law P k t page child (way told up R stands legal P shown)
      (subst (λ (d : Page). GoesDown k t d child) (sym (seen told up R stands legal P shown)) is)

  left_on : (child n : ℕ) → IsLeft device f p k t page n → GoesDown k t c child → IsLeft device f p k t child (n - 1)
  left_on child n enough is told up R stands legal P shown =
      let x = enough told up R stands legal P shown in
      let there = subst (λ (d : Page). GoesDown k t d child) (sym (seen told up R stands legal P shown)) is in
      let low = lower_on P k t page child x.1 there x.2 in
      (leads_on e law P k t page child x.0 there, low.0, low.2, omega (arith, low.1, x.3))

  room_on : (child : ℕ) → IsOnWay device f p k t page → GoesDown k t c child → HasRoomIn t c
      → IsRoomAbove device f p k t page child
  room_on child way is room told up R stands legal P shown =
      let here : c ≡ P page = sym (seen told up R stands legal P shown) in (
        way told up R stands legal P shown,
        subst (λ (d : Page). GoesDown k t d child) here is,
        subst (HasRoomIn t) here room,
      )

module _ {D : Type 0} (device : Disk D) (f : FramesValue D) (p : Pass) (page : ℕ) (c : Page)
    (seen : Seen device f p (λ S P. P page ≡ c)) (k : Key) where
  -- the items that stand on a page are under the key
  pub standing_on : (t : Sought) (items : List ℕ) (n : ℕ) → IsOnWay device f p k t page
      → IsReadingIn t c k items (reading.On (next.Stand n)) → ArePlaced device f p k (take n items)
  standing_on t items n way is i on told up R stands legal P shown =
      stand_main P t page k items n (way told up R stands legal P shown)
      (subst (λ (d : Page). IsReadingIn t d k items (reading.On (next.Stand n)))
      (sym (seen told up R stands legal P shown)) is) i on

  -- a tree that an entry of the page names is the key's
  pub named_on : (root : ℕ) → In (tree_entry k root) (entries_in c.body) → IsTree device f p k root
  named_on root on told up R stands legal P shown = record {
    page = page;
    entry = tree_entry k root;
    on = subst (λ (d : Page). In (tree_entry k root) (entries_in d.body))
        (sym (seen told up R stands legal P shown)) on;
    key = refl;
    names = refl;
  }

-- the root of the same tree is on the way for whatever is sought in it
pub same_root : {D : Type 0} (device : Disk D) (f : FramesValue D) (p : Pass) (k : Key) (t : Sought) (page : ℕ)
    → IsOnWay device f p k t page → AreWays device f p k [] (tree_of t)
same_root device f p k sought.Key page way sought.Key e = root_way device f p k
same_root device f p k sought.Key page way (sought.Item root item) e = absurd (let z : ⊥ = cc in z)
same_root device f p k (sought.Item root item) page way sought.Key e = absurd (let z : ⊥ = cc in z)
same_root device f p k (sought.Item root item) page way (sought.Item r i) e =
    let same : r ≡ root = cc in
    subst (λ (n : ℕ). IsOnWay device f p k (sought.Item n i) n) (sym same)
    (λ told up R stands legal P shown. ((way told up R stands legal P shown).0, TowardItem.here))

-- and so is the root of a tree that the key's entry names
pub tree_root : {D : Type 0} (device : Disk D) (f : FramesValue D) (p : Pass) (k : Key) (root : ℕ)
    → IsTree device f p k root → AreWays device f p k [] (Some root)
tree_root device f p k root named sought.Key e = absurd (let z : ⊥ = cc in z)
tree_root device f p k root named (sought.Item r i) e =
    let same : r ≡ root = cc in
    subst (λ (n : ℕ). IsOnWay device f p k (sought.Item n i) n) (sym same)
    (λ told up R stands legal P shown. (named told up R stands legal P shown, TowardItem.here))

-- items that stand on a page are among those that are left
pub stand_within : (t : Sought) (c : Page) (k : Key) (items : List ℕ) (from count : ℕ) (n : Next) → n ≡ next.Stand count
    → from ≤ length items → IsReadingIn t c k (drop from items) (reading.On n) → from + count ≤ length items
stand_within t c k items from count n is most reads =
    let few = stand_few t c k (drop from items) count
    (subst (λ (x : Next). IsReadingIn t c k (drop from items) (reading.On x)) is reads) in
    omega (arith, few, most, length-drop from items)

-- ── nearer the end ──

module _ (items : List ℕ) (old new : Placing) (t : Sought) (parent page : ℕ) (at : old.stage ≡ stage.At t parent page)
    (b : Bool) (more : b ≡ true) where
  tree_steps : (root : ℕ) → t ≡ sought.Key → Seeks (Some root) items old new b
      → steps_left items new < steps_left items old
  tree_steps root key seeks =
      let some = some_left (drop old.from items) (sym more ∙ seeks.0) in
      tree_nearer items old new t parent page some.0 some.1 at (seeks.2 more) root key
      (seeks.1 ∙ ap (stage_from (Some root)) some.2) seeks.3 seeks.4

  pub put_steps : (n : ℕ) → 0 < n → old.from + n ≤ length items → Puts n t items old new b
      → steps_left items new < steps_left items old
  put_steps n positive most seeks =
      let some = some_left (drop (old.from + n) items) (sym more ∙ seeks.0) in
      put_nearer items old new t parent page some.0 some.1 at (seeks.2 more) n positive most seeks.3
      (seeks.1 ∙ ap (stage_from (tree_of t)) some.2) seeks.4

  -- some are left where more is to come
  pub left_more : (n : ℕ) → Puts n t items old new b → old.from + n < length items
  left_more n seeks =
      let some = some_left (drop (old.from + n) items) (sym more ∙ seeks.0) in
      let long : length (drop (old.from + n) items) ≡ length (some.0 ∷ some.1) = ap length some.2 in
      omega (arith, long, length-drop (old.from + n) items)

  pub room_steps : old.making_room ≡ false → Seeks (tree_of t) items (record old { making_room = true }) new b
      → steps_left items new < steps_left items old
  room_steps first seeks =
      let some = some_left (drop old.from items) (sym more ∙ seeks.0) in
      room_nearer items old new t parent page some.0 some.1 at (seeks.2 more) first seeks.4 seeks.3
      (seeks.1 ∙ ap (stage_from (tree_of t)) some.2)

-- ── a page was read and given back, and nothing was logged ──

module _ {D : Type 0} (device : Disk D) (f g0 g : FramesValue D) (p q0 q : Pass) (k : Key) (items : List ℕ)
    (old : Placing) (t : Sought) (parent page : ℕ) (c : Page) (read : ReadsOn device f p g0 q0)
    (back : ReadsOn device g0 q0 g q) (none : q.held ≡ 0) (at : old.stage ≡ stage.At t parent page)
    (was : IsPlacing device f p k items old) (seen : Seen device g0 q0 (λ S P. P page ≡ c))
    (fine : MetNoFault device f g) (down : down_of g.journal.wal ≡ down_of f.journal.wal) where
  reads : ReadsOn device f p g q
  reads = reads_in_turn device f g0 g p q0 q read back

  first : IsFirst (drop old.from items) t
  first = (subst (IsAt device f p k items old.from) at was.0).0

  way : IsOnWay device g0 q0 k t page
  way = read.ways k t page (subst (IsAt device f p k items old.from) at was.0).1

  -- on to a child
  went_down : entry_laws.FoundLeadsDown → post_laws.FoundLeadsDown → (left child : ℕ) (new : Placing)
      → IsLeft device g0 q0 k t page left → 0 < left → left ≤ reads_left old.left
      → IsReadingIn t c k (drop old.from items) (reading.On (next.Down child))
      → (old.making_room ≡ true → IsRoomy t c (reading.On (next.Down child)))
      → new ≡ record old { stage = stage.At t page child; left = Some (left - 1) }
      → HasStepped device f p g q k items old new (Ok true)
  went_down e law left child new enough some most is room gone =
      let goes = down_in t c k (drop old.from items) child first is in
      let on = back.ways k t child (way_on device g0 q0 page c seen k t e law child way goes) in
      let placed : AreFirstPlaced device g q k items old.from =
      first_still device f g p q [] reads.works k items old.from was.3 in
      let then : IsPlacing device g q k items (record old { stage = stage.At t page child; left = Some (left - 1) }) = (
        (first, on),
        back.left k t child (left - 1) (left_on device g0 q0 page c seen k t e law child left enough goes),
        (λ making other. back.above k t page child
            (room_on device g0 q0 page c seen k t e law child way goes (room making))),
        placed,
      ) in
      let not_end = λ (x : new.stage ≡ stage.Done).
      not_done t page child (sym (ap (λ (s : Placing). s.stage) gone) ∙ x) in
      answered device f p k items old g q [] new true (omega arith) reads.works none
      (subst (IsPlacing device g q k items) (sym gone) then, (λ x. absurd (true_false x), λ x. absurd (not_end x)))
      (rested device f p k items old g q new true reads.works down (ap (λ (s : Placing). s.making_room) gone))
      (λ x. inr (reads.works.goes.records, down_nearer items old new t parent page child left at some most gone)) fine
      (none_took device f p k items old)

  -- to the key's posting tree
  went_tree : (root : ℕ) (new : Placing) (b : Bool)
      → IsReadingIn t c k (drop old.from items) (reading.On (next.Tree root)) → Seeks (Some root) items old new b
      → HasStepped device f p g q k items old new (Ok b)
  went_tree root new b is seeks =
      let found = tree_in t c k (drop old.from items) root is in
      let named = back.works.trees k root (named_on device g0 q0 page c seen k root found.1) in
      answered device f p k items old g q [] new b (omega arith) reads.works none
      (begun device g q k items old new b (Some root) seeks
      (first_still device f g p q [] reads.works k items old.from was.3) (tree_root device g q k root named))
      (rested device f p k items old g q new b reads.works down seeks.4)
      (λ more. inr (reads.works.goes.records, tree_steps items old new t parent page at b more root found.0 seeks)) fine
      (none_took device f p k items old)

  -- past items that are under the key
  went_past : (n : ℕ) (new : Placing) (b : Bool)
      → IsReadingIn t c k (drop old.from items) (reading.On (next.Stand n)) → Puts n t items old new b
      → HasStepped device f p g q k items old new (Ok b)
  went_past n new b is seeks =
      let few = stand_few t c k (drop old.from items) n is in
      let most : old.from + n ≤ length items = omega (arith, few, length-drop old.from items, (was.3).0) in
      let placed : ArePlaced device g q k (take n (drop old.from items)) =
      λ i on. back.works.pairs.placed k i
      (standing_on device g0 q0 page c seen k t (drop old.from items) n way is i on) in
      let more_placed : AreFirstPlaced device g q k items (old.from + n) =
      more_first device g q k items old.from n (first_still device f g p q [] reads.works k items old.from was.3) placed
      few in
      answered device f p k items old g q [] new b (omega arith) reads.works none
      (begun device g q k items (record old { from = old.from + n }) new b (tree_of t) seeks more_placed
      (same_root device g q k t page (back.ways k t page way)))
      (rested device f p k items old g q new b reads.works down seeks.4)
      (λ more. inr (
        reads.works.goes.records,
        put_steps items old new t parent page at b more n
            (stand_some t c k (drop old.from items) n is
            (let less = left_more items old new t parent page at b more n seeks in
            omega (arith, less, length-drop old.from items))) most seeks,
      )) fine
      (none_took device f p k items old)

  -- the page is bad
  went_bad : Lies f page c → IsPage c → IsPassOf f p
      → (CannotUse f (HasPlace k t) page → Behind device f (λ (R : Log). ⊥)) → (new : Placing)
      → IsReadingIn t c k (drop old.from items) (reading.On next.Bad) → new ≡ old
      → HasStepped device f p g q k items old new (Err (BadPage page))
  went_bad lies is_page of never new is same =
      let cannot = CannotUse.other c is_page lies (bad_in t c k (drop old.from items) first is) in
      refused device f p k items old g q (BadPage page) new reads none was same
      (finds_now device f p (IsWhy device (IsBad device k old) g (BadPage page)) of
      (IsBad.read t parent at cannot (never cannot))) (λ few. never cannot) fine

  pub went : entry_laws.FoundLeadsDown → post_laws.FoundLeadsDown → (left : ℕ) → IsLeft device g0 q0 k t page left
      → 0 < left → left ≤ reads_left old.left → Lies f page c → IsPage c → IsPassOf f p
      → (CannotUse f (HasPlace k t) page → Behind device f (λ (R : Log). ⊥)) → (new : Placing) (n : Next)
      (r : Result Bool PlaceError) → IsReadingIn t c k (drop old.from items) (reading.On n)
      → (old.making_room ≡ true → IsRoomy t c (reading.On n)) → GoesOn old new t items page left n r
      → HasStepped device f p g q k items old new r
  went e law left enough some most lies is_page of never new (next.Down child) r is room gone =
      subst (HasStepped device f p g q k items old new) (sym gone.0)
      (went_down e law left child new enough some most is room gone.1)
  went e law left enough some most lies is_page of never new (next.Tree root) r is room gone =
      subst (HasStepped device f p g q k items old new) (sym gone.1) (went_tree root new gone.0 is gone.2)
  went e law left enough some most lies is_page of never new (next.Stand n) r is room gone =
      subst (HasStepped device f p g q k items old new) (sym gone.1) (went_past n new gone.0 is gone.2)
  went e law left enough some most lies is_page of never new next.Bad r is room gone =
      subst (HasStepped device f p g q k items old new) (sym gone.0)
      (went_bad lies is_page of never new is gone.1)
