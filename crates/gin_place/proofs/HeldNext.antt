-- Why the page that is read next is not held.
use Rattle.std.proofs.Common.{◌≡◌, ◌≤◌, ℕ, List, drop, refl, sym, ap, subst, ◌∙◌, inl, inr, arith}
use Rattle.std.specs.Prelude.{Option, Some, None, ⊤, ◌<◌, ◌^◌}
use Rattle.std.specs.Option.{unwrap_or}
use Rattle.disk_trait.specs.declared.device.Disk.{Ghosts as Disk}
use Rattle.page_types.specs.Items.{AreItems}
use Rattle.page_types.specs.declared.page.Page.{Page}
use Rattle.ts_base.specs.Keys.{Key}
use Rattle.core_state.specs.Log.{Log}
use Rattle.core_state.specs.PageChoice.{IsLeast, AreBelow}
use Rattle.core_state.specs.States.{StateTells}
use Rattle.core_maintenance.specs.Leading.{WaysHold}
use Rattle.core_maintenance.specs.Staying.{RightKeepsFound}
use Rattle.core_state.specs.Allowed.{Sheet}
use Rattle.buffer_frames.specs.Frames.{FramesValue, Behind}
use Rattle.buffer_frames.specs.Passes.{IsPassOf, IsHolding, Seen}
use Rattle.buffer_frames.specs.declared.pass.Pass.{Pass}
use Rattle.gin_place.specs.Trees.{root_of}
use Rattle.gin_place.specs.Placing.{HasRight, IsFirst, IsOnWay, IsAt, IsLeft, AreLeft, IsPlacing}
use Rattle.gin_place.specs.Causes.{CannotUse, HasPlace, CannotHold, IsSpent, IsBad, NoBadPage, IsWhy, Finds}
use Rattle.gin_place.specs.Holding.{ReadsOn}
use Rattle.gin_place.specs.Stepping.{reads_left}
use Rattle.gin_place.specs.declared.error.PlaceError.{PlaceError}
use Rattle.gin_place.specs.declared.error.PlaceError.TheVariants.{StoreFull, LogFull, DiskFault, Down, BadPage}
use Rattle.gin_place.specs.declared.error.PlaceError.TheVariants.{OutOfMemory}
use Rattle.gin_place.specs.declared.placing.Placing.{Placing}
use Rattle.gin_place.specs.declared.placing.Stage.{Stage}
use Rattle.gin_place.specs.declared.placing.Stage.TheVariants as stage
use Rattle.gin_place.specs.declared.sought.Sought.{Sought}
use Rattle.gin_place.specs.declared.sought.Sought.TheVariants as sought
use Rattle.gin_place.proofs.Causing.{weaker, finds_now}
use Rattle.gin_place.proofs.Kept.{placing_still}
use Rattle.gin_place.proofs.Lawful.{never_bad, root_left}
use Rattle.gin_place.proofs.LawfulWays.{IsSmall}
use Rattle.gin_place.proofs.Lists.{items_on, from_first}

-- what is sought is an item
pub is_small : (t : Sought) (items : List ℕ) (n : ℕ) → AreItems items → IsFirst (drop n items) t → IsSmall t
is_small sought.Key items n are first = tt
is_small (sought.Item root item) items n are first =
    (from_first item first.0 (subst AreItems first.1 (items_on n items are)) item (inl refl)).1

module _ {D : Type 0} (device : Disk D) (f : FramesValue D) (p : Pass) (k : Key) (items : List ℕ) (old : Placing)
    (t : Sought) (parent page : ℕ) (at : old.stage ≡ stage.At t parent page) (are : AreItems items)
    (was : IsPlacing device f p k items old) (law : RightKeepsFound) (ways : WaysHold) (of : IsPassOf f p)
    (right : HasRight p) (none : p.held ≡ 0) where
  here : IsFirst (drop old.from items) t × IsOnWay device f p k t page
  here = subst (IsAt device f p k items old.from) at was.0

  pub never : CannotUse f (HasPlace k t) page → Behind device f (λ (R : Log). ⊥)
  never cannot =
      never_bad device f p k t page law ways of right none (is_small t items old.from are here.0) here.1 cannot

  pub read_why : (g : FramesValue D) (w : PlaceError) → Finds device f p (CannotHold device page g w)
      → ((n : ℕ) → w ≡ BadPage n → (n ≡ page) × CannotUse f (λ (c : Page). ⊤) n)
      → Finds device f p (IsWhy device (IsBad device k old) g w)
  read_why g StoreFull m bad = absurd m.4
  read_why g LogFull m bad = absurd m.4
  read_why g DiskFault m bad = m
  read_why g (Down n) m bad = m
  read_why g OutOfMemory m bad = m
  read_why g (BadPage n) m bad =
      let b = bad n refl in
      let cannot = weaker f (HasPlace k t) page (subst (CannotUse f (λ (c : Page). ⊤)) b.0 b.1) in
      finds_now device f p (IsWhy device (IsBad device k old) g (BadPage n)) of
      (subst (IsBad device k old f p) (sym b.0) (IsBad.read t parent at cannot (never cannot)))

  -- which is so in no legal log
  pub read_lawful : (w : PlaceError) → ((n : ℕ) → w ≡ BadPage n → (n ≡ page) × CannotUse f (λ (c : Page). ⊤) n)
      → NoBadPage device f w
  read_lawful StoreFull bad = tt
  read_lawful LogFull bad = tt
  read_lawful DiskFault bad = tt
  read_lawful (Down n) bad = tt
  read_lawful OutOfMemory bad = tt
  read_lawful (BadPage n) bad =
      let b = bad n refl in
      λ few. never (weaker f (HasPlace k t) page (subst (CannotUse f (λ (c : Page). ⊤)) b.0 b.1))

-- how many a way may read is bounded before it has read one
pub most_left : (o : Option ℕ) (extent left : ℕ) → left ≡ unwrap_or o extent → left < 2 ^ 32 → left ≤ reads_left o
most_left None extent left is low = omega (arith, low)
most_left (Some n) extent left is low = let same : left ≡ n = is in omega (arith, same)

-- where no page more may be read
pub spent : {D : Type 0} (s : Placing) (f : FramesValue D) (extent : ℕ) → IsLeast (AreBelow f.journal.state) extent
    → unwrap_or s.left extent ≡ 0 → IsSpent s f
spent s f extent least e = go s.left refl
  where
    go : (o : Option ℕ) → s.left ≡ o → IsSpent s f
    go None is =
        inr (
          is,
          subst (IsLeast (AreBelow f.journal.state))
              (subst (λ (x : Option ℕ). unwrap_or x extent ≡ 0) is e) least,
        )
    go (Some n) is = inl (is ∙ ap Some (subst (λ (x : Option ℕ). unwrap_or x extent ≡ 0) is e))

-- so many the way may read at this page are enough
enough_left : {D : Type 0} (device : Disk D) (f : FramesValue D) (p : Pass) (k : Key) (t : Sought)
    (parent page extent : ℕ) (o : Option ℕ) → AreLeft device f p k (stage.At t parent page) o
    → (page ≡ root_of t → IsLeft device f p k t (root_of t) extent) → IsLeft device f p k t page (unwrap_or o extent)
enough_left device f p k t parent page extent None is root =
    subst (λ (n : ℕ). IsLeft device f p k t n extent) (sym is) (root is)
enough_left device f p k t parent page extent (Some n) had root = had

-- once it is held
pub enough_at : {D : Type 0} (device : Disk D) (f g : FramesValue D) (p q : Pass) (k : Key) (items : List ℕ)
    (old : Placing) (t : Sought) (parent page extent : ℕ) (held : List Sheet) → old.stage ≡ stage.At t parent page
    → IsPlacing device f p k items old → ReadsOn device f p g q → WaysHold → IsHolding device g q held
    → Seen device g q (λ S P. StateTells S g.journal.state) → IsLeast (AreBelow g.journal.state) extent
    → IsLeft device g q k t page (unwrap_or old.left extent)
enough_at device f g p q k items old t parent page extent held at was reads ways hold tells least =
    let now = placing_still device f g p q reads k items old was in
    let here = subst (IsAt device g q k items old.from) at now.0 in
    enough_left device g q k t parent page extent old.left
    (subst (λ (s : Stage). AreLeft device g q k s old.left) at now.1)
    (λ root. root_left device g q held hold reads.works.is_pass k t extent ways
    (subst (IsOnWay device g q k t) root here.1) tells least)
