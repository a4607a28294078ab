-- No page by which room is made is bad in a legal log.
use Rattle.std.proofs.Common.{◌≡◌, ◌≢◌, ◌⊎◌, ◌≤◌, ℕ, [], ◌∷◌, ◌++◌, length, refl, sym, ap, subst, ◌∙◌, inl}
use Rattle.std.proofs.Common.{inr, arith}
use Rattle.std.specs.Prelude.{None, ⊤}
use Rattle.disk_trait.specs.declared.device.Disk.{Ghosts as Disk}
use Rattle.wal.specs.Waiting.{down_of}
use Rattle.ts_base.specs.Keys.{Key}
use Rattle.page_types.specs.Numbers.{page_limit}
use Rattle.page_types.specs.declared.page.Page.{Page}
use Rattle.page_types.specs.declared.page.Body.{Body}
use Rattle.core_state.specs.Log.{Log, Pages, Shows, commits}
use Rattle.core_state.specs.Allowed.{Sheet}
use Rattle.core_state.specs.Known.{use_by, use_in}
use Rattle.core_state.specs.Legal.{IsLegal}
use Rattle.core_state.specs.States.{StateValue, StateTells, use_of, state_of}
use Rattle.core_state.specs.TreeRules.{Halves}
use Rattle.core_state.specs.declared.answers.PageUse.TheVariants as usage
use Rattle.core_state.specs.Inner.Ghosts.{Ghost}
use Rattle.core_state.specs.Inner.TreePlaces.{HasMeta}
use Rattle.core_state.proofs.StateTold.{state_told}
use Rattle.core_state.proofs.Steps.Seen.{seen_shown}
use Rattle.core_state.proofs.Law.AllCases.{all_steps}
use Rattle.core_state.proofs.Law.Invariant.{Inv}
use Rattle.core_state.proofs.Law.Runs.{plain_run}
use Rattle.core_state.proofs.Law.TreeFields.{has_meta}
use Rattle.core_maintenance.specs.Staying.{RightKeepsFound}
use Rattle.page_space.specs.Taking.{IsTaken}
use Rattle.entry_tree.specs.Finding as entries
use Rattle.entry_tree.specs.Reading as entry_rooms
use Rattle.entry_tree.specs.Splitting.{body_cutting, AreParts}
use Rattle.posting_tree.specs.Finding as posts
use Rattle.posting_tree.specs.Reading as post_rooms
use Rattle.posting_tree.specs.Reading.{IsPostBody}
use Rattle.buffer_frames.specs.Homes.{home_at}
use Rattle.buffer_frames.specs.Frames.{FramesValue, Stands, Behind}
use Rattle.buffer_frames.specs.Passes.{IsPassOf, IsHolding, HasAdded, view_of}
use Rattle.buffer_frames.specs.declared.pass.Pass.{Pass}
use Rattle.buffer_frames.proofs.AtHand.{log_length}
use Rattle.buffer_frames.proofs.Begun.{same_by_none}
use Rattle.buffer_frames.proofs.LastingStates.{told_alike}
use Rattle.gin_place.specs.Placing.{HasRight, IsOnWay, IsRoomAbove}
use Rattle.gin_place.specs.Trees.{root_of, IsTreeBody, HasRoomIn, GoesDown, Leads}
use Rattle.gin_place.specs.Causes.{CannotUse, CanGrow, CanDivide, HasFirstPart, CannotAdopt, IsBadNew, IsBadRoom}
use Rattle.gin_place.specs.Causes.{HasNumbers}
use Rattle.gin_place.specs.Inner.Dividing.{Takes}
use Rattle.gin_place.specs.declared.sought.Sought.{Sought}
use Rattle.gin_place.specs.declared.sought.Sought.TheVariants as sought
use Rattle.gin_place.proofs.Lawful.{past_free, lies_as, no_bytes, usable}
use Rattle.gin_place.proofs.LawfulTrees.{root_right, halves_between, child_divides}
use Rattle.gin_place.proofs.LawfulPosts as in_posts
use Rattle.gin_place.proofs.Parts.{not_free_in}
use Rattle.gin_place.proofs.TreeWays.{leads_then, same_then}
use Rattle.gin_place.proofs.Owing.{right_of}
use Rattle.gin_place.proofs.Parts.{cut_divides}

-- ── new pages ──

-- the metapage is used, and so is each page that was deleted
used_meta : (P : Pages) → HasMeta P → use_in P 0 ≡ usage.Used
used_meta P meta = ap (use_by (P 0).stamp) meta.3

taken_used : (s : StateValue) (since p : ℕ) → IsTaken s since p → use_of s p ≡ usage.Used → ⊥
taken_used s since p (IsTaken.deleted least) used = let z : ⊥ = clash least.holds.stamp (sym least.holds.deleted ∙ used)
    in z
  where
    clash : (n : ℕ) → usage.Deleted n ≡ usage.Used → ⊥
    clash n e = cc
taken_used s since p (IsTaken.unused none least) used = let z : ⊥ = clash (sym least.holds.unused ∙ used) in z
  where
    clash : usage.Unused ≡ usage.Used → ⊥
    clash e = cc

taken_low : (s : StateValue) (since p : ℕ) → IsTaken s since p → s.pages ≤ page_limit
    → (page_limit ≤ p → use_of s p ≡ usage.Unused) → page_limit ≤ p → ⊥
taken_low s since p (IsTaken.deleted least) few past high = clash least.holds.stamp
    (sym least.holds.deleted ∙ past high)
  where
    clash : (n : ℕ) → usage.Deleted n ≡ usage.Unused → ⊥
    clash n e = cc
taken_low s since p (IsTaken.unused none least) few past high = omega (arith, few, high, least.holds.below)

module _ {D : Type 0} (device : Disk D) (f : FramesValue D) (R : Log) (told : device.tells)
    (up : down_of f.journal.wal ≡ None) (stands : Stands device f R) (legal : IsLegal R) (P : Pages)
    (shown : Shows R P) (few : HasNumbers f) where
  state_tells : StateTells R f.journal.state
  state_tells =
      told_alike R f.journal.state (state_of f.journal.state.pages f.journal.state.xid_limit R) stands.journal.state
      (state_told f.journal.state.pages f.journal.state.xid_limit R legal)

  -- a page that is taken can be used
  pub new_usable : HasMeta P → (since p : ℕ) → IsTaken f.journal.state since p
      → (p ≡ 0) ⊎ CannotUse f (λ (c : Page). ⊤) p → ⊥
  new_usable meta since p taken (inl zero) =
      taken_used f.journal.state since p taken
      (state_tells.uses P shown p ∙ ap (use_in P) zero ∙ used_meta P meta)
  new_usable meta since p taken (inr (CannotUse.past high)) =
      taken_low f.journal.state since p taken few
      (λ past. state_tells.uses P shown p
      ∙ ap (λ (c : Page). use_by c.stamp c.body) (past_free R legal.valid P shown p past)) high
  new_usable meta since p taken (inr (CannotUse.bytes none)) =
      no_bytes device f R told up stands legal P shown (home_at f.homes p) p (stands.homes told up legal p) none
  new_usable meta since p taken (inr (CannotUse.other c page lies off)) = off tt

-- ── the pages by which room is made ──

-- the page is full, and its parent has room; in the pages of a log
pub record IsToDivide (P : Pages) (k : Key) (t : Sought) (parent page : ℕ) : Type 0 where
  pub large : CanDivide t (P page)
  pub above : page ≢ root_of t → GoesDown k t (P parent) page × HasRoomIn t (P parent)

goes_down_on : (t : Sought) (c : Page) (k : Key) (child : ℕ) → GoesDown k t c child → IsTreeBody t c.body
goes_down_on sought.Key c k _ (entries.IsFoundIn.down front back e content low up) =
    subst entries.IsEntryBody (sym content) (entries.IsEntryBody.inner _)
goes_down_on (sought.Item root item) c k _ (posts.IsFoundIn.down front back e content low up) =
    subst IsPostBody (sym content) (IsPostBody.inner _)

takes : (n L : ℕ) (R : Log) (P : Pages) (g : Ghost) → Inv n L R P g → Shows R P → (t : Sought) (k : Key)
    (parent page : ℕ) (left : Page) (right : Body) → GoesDown k t (P parent) page → HasRoomIn t (P parent)
    → IsTreeBody t (P page).body → Halves (P page).body left.body right → Takes t page left (P parent)
takes n L R P g v shown sought.Key k parent _ left right (entries.IsFoundIn.down front back e content low up) room is
    halves =
    let between = halves_between n L R P g v shown e.page (P e.page).body left.body right refl is halves in
    let divides = child_divides n L R P g v shown parent front back e (entry_rooms.upper_in left.body) content between
    in
    record { children = front ++ e ∷ back; content = content; room = room; divides = divides }
takes n L R P g v shown (sought.Item root item) k parent _ left right
    (posts.IsFoundIn.down front back e content low up) room is halves =
    let between = in_posts.halves_between n L R P g v shown e.page (P e.page).body left.body right refl is halves in
    let divides = in_posts.child_divides n L R P g v shown parent front back e (post_rooms.upper_in left.body) content
    between
    in
    record { children = front ++ e ∷ back; content = content; room = room; divides = divides }

cannot_take : {D : Type 0} (t : Sought) (f : FramesValue D) (page p : ℕ) → CannotAdopt t f page p
    → (left : Page) × HasFirstPart f page left × CannotUse f (Takes t page left) p
cannot_take sought.Key f page p cannot = cannot
cannot_take (sought.Item root item) f page p cannot = cannot

-- the root has no right link
root_ends : (n L : ℕ) (R : Log) (P : Pages) (g : Ghost) → Inv n L R P g → Shows R P → R ≢ [] → (t : Sought) (k : Key)
    (page : ℕ) → Leads P k t page → IsTreeBody t (P (root_of t)).body → (P (root_of t)).right ≡ 0
root_ends n L R P g v shown some sought.Key k page way is = root_right n L R P g v shown some is
root_ends n L R P g v shown some (sought.Item root item) k page way is =
    in_posts.root_right n L R P g v shown k root way.0 is

module _ {D : Type 0} (device : Disk D) (f : FramesValue D) (R : Log) (told : device.tells)
    (up : down_of f.journal.wal ≡ None) (stands : Stands device f R) (legal : IsLegal R) (P : Pages)
    (shown : Shows R P) (some : R ≢ []) (k : Key) (t : Sought) (parent page : ℕ) (way : Leads P k t page)
    (to : IsToDivide P k t parent page) where
  held : (g : Ghost) × Inv (commits R) (length R) R P g
  held = plain_run all_steps R legal.valid P shown

  can_use : (Is : Page → Type 0) (p : ℕ) → Is (P p) → IsTreeBody t (P p).body → CannotUse f Is p → ⊥
  can_use Is p is on = usable device f R told up stands legal P shown Is p is (not_free_in t (P p).body on)

  root_grows : page ≡ root_of t → CanGrow t (P (root_of t))
  root_grows root =
      let large = subst (λ (p : ℕ). CanDivide t (P p)) root to.large in
      (large.0, large.1, root_ends (commits R) (length R) R P held.0 held.1 shown some t k page way large.0)

  parent_takes : page ≢ root_of t → (left : Page) → HasFirstPart f page left → Takes t page left (P parent)
  parent_takes other left m =
      let above = to.above other in
      let same : m.0 ≡ P page = lies_as device f R told up stands legal P shown page m.0 m.1 m.2 in
      let parts = subst (λ (c : Page). AreParts c m.3 m.4 left m.5) same m.6 in
      takes (commits R) (length R) R P held.0 held.1 shown t k parent page left m.5.body above.0 above.1
      to.large.0 (cut_divides (body_cutting (P page).body) left.body m.5.body m.4 parts.cut)

  adopts : page ≢ root_of t → (p : ℕ) → p ≡ parent → CannotAdopt t f page p → ⊥
  adopts other p is cannot =
      let inner = goes_down_on t (P parent) k page (to.above other).0 in
      let c = cannot_take t f page p cannot in
      can_use (Takes t page c.0) p
      (subst (λ (n : ℕ). Takes t page c.0 (P n)) (sym is) (parent_takes other c.0 c.1))
      (subst (λ (n : ℕ). IsTreeBody t (P n).body) (sym is) inner) c.2

  pub none_bad : HasNumbers f → (q : Pass) (p : ℕ) → IsBadRoom t parent page f q p → ⊥
  none_bad few q p (IsBadRoom.root root is cannot) =
      let grows = root_grows root in
      let at : p ≡ root_of t = is ∙ root in
      can_use (CanGrow t) p (subst (λ (n : ℕ). CanGrow t (P n)) (sym at) grows)
      (subst (λ (n : ℕ). IsTreeBody t (P n).body) (sym at) grows.0) cannot
  none_bad few q p (IsBadRoom.split other is cannot) =
      let large = subst (λ (n : ℕ). CanDivide t (P n)) (sym is) to.large in
      can_use (CanDivide t) p large large.0 cannot
  none_bad few q p (IsBadRoom.above other is cannot) =
      let inner = goes_down_on t (P parent) k page (to.above other).0 in
      can_use (λ c. ⊤) p tt (subst (λ (n : ℕ). IsTreeBody t (P n).body) (sym is) inner) cannot
  none_bad few q p (IsBadRoom.adopts other is cannot) = adopts other p is cannot
  none_bad few q p (IsBadRoom.new bad) =
      new_usable device f R told up stands legal P shown few
      (has_meta (length R) P held.0 held.1.kinds R held.1.starts some) q.since p bad.taken bad.bad

-- ── at the page that was read ──

module _ {D : Type 0} (device : Disk D) (f g : FramesValue D) (p q : Pass) (held : Sheet)
    (hold : IsHolding device f p (held ∷ [])) (of : IsPassOf f p) (added : HasAdded device f g []) where
  -- a new page is bad only where the log is not legal
  pub never_new : (n : ℕ) → IsBadNew g q n → HasNumbers g → Behind device g (λ (R : Log). ⊥)
  never_new n bad few told up R stands legal =
      let back = added.back told up R stands in
      let same : back.0 ≡ R = sym (same_by_none f.journal.owes back.0 R back.2) in
      let was = subst (Stands device f) same back.1 in
      let a = hold.allowed told (added.was_up up) R was legal in
      let long : f.journal.state.records ≡ length R = log_length device f.journal R was.journal in
      let run = plain_run all_steps R legal.valid a.pages a.shown in
      new_usable device g R told up stands legal a.pages a.shown few
      (has_meta (length R) a.pages run.0 run.1.kinds R run.1.starts
      (λ e. omega (arith, of.some, of.seen, long, ap length e))) q.since n bad.taken bad.bad

  -- so a bad page is met where room is made only there
  pub never_room : RightKeepsFound → HasRight p → (k : Key) (t : Sought) (parent page : ℕ) → held.page ≡ page
      → CanDivide t held.content
      → IsOnWay device f p k t page → (page ≢ root_of t → IsRoomAbove device f p k t parent page) → (n : ℕ)
      → IsBadRoom t parent page g q n → HasNumbers g → Behind device g (λ (R : Log). ⊥)
  never_room law right k t parent page number large way above n bad few told up R stands legal =
      let back = added.back told up R stands in
      let same : back.0 ≡ R = sym (same_by_none f.journal.owes back.0 R back.2) in
      let was = subst (Stands device f) same back.1 in
      let was_up = added.was_up up in
      let a = hold.allowed told was_up R was legal in
      let S = seen_shown (view_of f p R (held ∷ [])) R a in
      let then = law (view_of f p R (held ∷ [])) R a S.0
      (right_of device f p (held ∷ []) R of right was) S.1 in
      let here : a.pages page ≡ held.content = subst (λ (m : ℕ). a.pages m ≡ held.content) number (a.held).0 in
      let long : f.journal.state.records ≡ length R = log_length device f.journal R was.journal in
      none_bad device g R told up stands legal a.pages a.shown
      (λ e. omega (arith, of.some, of.seen, long, ap length e)) k t
      parent page (leads_then S.0 a.pages then k t page (way told was_up R was legal S.0 S.1)) (record {
        large = subst (CanDivide t) (sym here) large;
        above = λ other.
            let there = above other told was_up R was legal S.0 S.1 in
            let kept = same_then S.0 a.pages then k t parent there.0 in (
              subst (λ (c : Page). GoesDown k t c page) (sym kept) there.1,
              subst (HasRoomIn t) (sym kept) there.2,
            );
      }) few q n bad
