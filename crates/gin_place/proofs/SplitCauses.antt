-- Why a root does not grow, or a page is not split, of the store as it was.
use Rattle.std.proofs.Common.{◌≡◌, ◌≢◌, ⊎_elim, ℕ, [], ◌∷◌, refl, sym, subst, inl, inr}
use Rattle.disk_trait.specs.declared.device.Disk.{Ghosts as Disk}
use Rattle.page_types.specs.Pages.{IsPage}
use Rattle.page_types.specs.declared.page.Page.{Page}
use Rattle.core_state.specs.Allowed.{Sheet}
use Rattle.core_state.proofs.RunningOnes.{same_or_other}
use Rattle.entry_tree.specs.Reading as entry_rooms
use Rattle.posting_tree.specs.Reading as post_rooms
use Rattle.buffer_frames.specs.Homes.{home_at, IsAway, LiesAs}
use Rattle.buffer_frames.specs.Frames.{FramesValue, Lies, KeepsOthers}
use Rattle.buffer_frames.specs.Passes.{IsPassOf}
use Rattle.buffer_frames.specs.declared.home.Home.{Home}
use Rattle.buffer_frames.specs.declared.pass.Pass.{Pass}
use Rattle.gin_place.specs.Adopting.{CanTake, CanTakeItem}
use Rattle.gin_place.specs.Causes.{Finds, CannotUse, CanGrow, CannotAdopt, IsBadRoom, IsWhy}
use Rattle.gin_place.specs.Faults.{MetNoFault, FaultBy}
use Rattle.gin_place.specs.Inner.Dividing.{AreSplit, Takes, WhyNotTaken, WhyNotDivided, WhyNoSplit}
use Rattle.gin_place.specs.Trees.{root_of}
use Rattle.gin_place.specs.declared.sought.Sought.{Sought}
use Rattle.gin_place.specs.declared.sought.Sought.TheVariants as sought
use Rattle.gin_place.specs.declared.error.PlaceError.{PlaceError}
use Rattle.gin_place.specs.declared.error.PlaceError.TheVariants.{BadPage, OutOfMemory}
use Rattle.gin_place.proofs.Causing.{finds_now}

-- what lies there while another page is held lay there before
pub lies_before : {D : Type 0} (f g : FramesValue D) (other page : ℕ) (c : Page) → KeepsOthers f g (other ∷ [])
    → IsAway g.homes other → Lies g page c → Lies f page c
lies_before f g other page c keeps away lies = elim (same_or_other page other) [
  | inl same ↦ absurd
      (subst (λ (h : Home). LiesAs h c) away (subst (λ (p : ℕ). LiesAs (home_at g.homes p) c) same lies))
  | inr off ↦ subst (λ (h : Home). LiesAs h c) (keeps page (λ i. ⊎_elim off (λ n. n) i)) lies
]

module _ {D : Type 0} (device : Disk D) (f : FramesValue D) (p : Pass) (l : FramesValue D) (t : Sought)
    (parent page : ℕ) (old above : Sheet) (of : IsPassOf f p) (numbers : (old.page ≡ page) × (above.page ≡ parent))
    (lies : Lies f page old.content × Lies f parent above.content) where
  So : PlaceError → Type 0
  So e = Finds device f p (IsWhy device (IsBadRoom t parent page) l e)

  now : (e : PlaceError) → IsWhy device (IsBadRoom t parent page) l e f p → So e
  unfolding So
  now e why = finds_now device f p (IsWhy device (IsBadRoom t parent page) l e) of why

  -- the parent does not take the new page
  not_adopted : (s : Sought) (new : ℕ) (left right : Page) → IsPage old.content → IsPage above.content
      → AreSplit s old.content new left right → (Takes s old.page left above.content → ⊥)
      → CannotAdopt s f page above.page
  not_adopted sought.Key new left right ok ok_above x off = (
    left,
    (old.content, ok, lies.0, new, x.keep, right, x.parts),
    CannotUse.other above.content ok_above (subst (λ (n : ℕ). Lies f n above.content) (sym numbers.1) lies.1)
        (subst (λ (n : ℕ). CanTake n (entry_rooms.upper_in left.body) above.content → ⊥) numbers.0 off),
  )
  not_adopted (sought.Item root item) new left right ok ok_above x off = (
    left,
    (old.content, ok, lies.0, new, x.keep, right, x.parts),
    CannotUse.other above.content ok_above (subst (λ (n : ℕ). Lies f n above.content) (sym numbers.1) lies.1)
        (subst (λ (n : ℕ). CanTakeItem n (post_rooms.upper_in left.body) above.content → ⊥) numbers.0 off),
  )

  pub split_why : page ≢ root_of t → (e : PlaceError) → WhyNoSplit t old above e
      → Finds device f p (IsWhy device (IsBadRoom t parent page) l e)
  unfolding So
  split_why other e (inl none) = subst So (sym none) (now OutOfMemory tt)
  split_why other e (inr (inl bad)) =
      subst So (sym bad.0)
      (now (BadPage old.page) (IsBadRoom.split other numbers.0 (CannotUse.other old.content bad.1
      (subst (λ (n : ℕ). Lies f n old.content) (sym numbers.0) lies.0) bad.2)))
  split_why other e (inr (inr bad)) =
      subst So (sym bad.0)
      (now (BadPage above.page) (IsBadRoom.adopts other numbers.1
      (not_adopted t bad.3 bad.4 bad.5 bad.1 bad.2 bad.6 bad.7)))

-- the page is not divided
pub not_divided : (t : Sought) (old above : Sheet) (e : PlaceError) → WhyNotDivided t old e → WhyNoSplit t old above e
not_divided t old above e (inl none) = inl none
not_divided t old above e (inr bad) = inr (inl bad)

-- or its parent does not take the new page
pub not_taken : (t : Sought) (old above : Sheet) (new : ℕ) (left right : Page) → AreSplit t old.content new left right
    → (e : PlaceError) → WhyNotTaken (Takes t old.page left) above e → WhyNoSplit t old above e
not_taken t old above new left right x e (inl none) = inl none
not_taken t old above new left right x e (inr bad) = inr (inr (bad.0, x.was, bad.1, new, left, right, x, bad.2))

-- a page that is held is not as it should be
pub is_bad : (Is : Page → Type 0) (held : Sheet) (c : Page) → c ≡ held.content → IsPage c → (Is c → ⊥)
    → (e : PlaceError) → e ≡ BadPage held.page → WhyNotTaken Is held e
is_bad Is held c same is_page off e is =
    inr (is, subst IsPage same is_page, subst (λ (x : Page). Is x → ⊥) same off)

-- the root does not grow
pub grow_why : {D : Type 0} (device : Disk D) (f : FramesValue D) (p : Pass) (l : FramesValue D) (t : Sought)
    (parent : ℕ) (root : Sheet) → IsPassOf f p → root.page ≡ root_of t → Lies f root.page root.content
    → (e : PlaceError) → WhyNotTaken (CanGrow t) root e
    → Finds device f p (IsWhy device (IsBadRoom t parent (root_of t)) l e)
grow_why device f p l t parent root of at lies e (inl none) =
    subst (λ (x : PlaceError). Finds device f p (IsWhy device (IsBadRoom t parent (root_of t)) l x)) (sym none)
    (finds_now device f p (IsWhy device (IsBadRoom t parent (root_of t)) l OutOfMemory) of tt)
grow_why device f p l t parent root of at lies e (inr bad) =
    subst (λ (x : PlaceError). Finds device f p (IsWhy device (IsBadRoom t parent (root_of t)) l x)) (sym bad.0)
    (finds_now device f p (IsWhy device (IsBadRoom t parent (root_of t)) l (BadPage root.page)) of
    (IsBadRoom.root refl at (CannotUse.other root.content bad.1 lies bad.2)))

-- and no fault is met then
pub taken_fault : {D : Type 0} (device : Disk D) (f g : FramesValue D) (Is : Page → Type 0) (held : Sheet)
    (e : PlaceError) → MetNoFault device f g → WhyNotTaken Is held e → FaultBy device f g e
taken_fault device f g Is held e fine (inl none) = subst (FaultBy device f g) (sym none) fine
taken_fault device f g Is held e fine (inr bad) = subst (FaultBy device f g) (sym bad.0) fine

pub split_fault : {D : Type 0} (device : Disk D) (f g : FramesValue D) (t : Sought) (old above : Sheet)
    (e : PlaceError) → MetNoFault device f g → WhyNoSplit t old above e → FaultBy device f g e
split_fault device f g t old above e fine (inl none) = subst (FaultBy device f g) (sym none) fine
split_fault device f g t old above e fine (inr (inl bad)) = subst (FaultBy device f g) (sym bad.0) fine
split_fault device f g t old above e fine (inr (inr bad)) = subst (FaultBy device f g) (sym bad.0) fine
