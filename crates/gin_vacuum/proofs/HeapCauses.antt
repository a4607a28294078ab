-- Why a heap page is not read.
use Rattle.std.proofs.Common.{◌≡◌, ℕ, List, length, sym, subst, ◌∙◌, take, ◌-◌}
use Rattle.std.specs.Prelude.{Option, Some, None, ⊤}
use Rattle.disk_trait.specs.declared.device.Disk.{Ghosts as Disk}
use Rattle.page_types.specs.declared.page.Page.{Page}
use Rattle.page_types.specs.declared.page.Body.TheVariants as body
use Rattle.core_state.specs.Log.{Log, cut}
use Rattle.core_state.specs.Lives.{IsHeapPage}
use Rattle.core_state.specs.PagesTold.{PagesHold}
use Rattle.buffer_frames.specs.Frames.{FramesValue, Behind}
use Rattle.buffer_frames.specs.declared.pass.Pass.{Pass}
use Rattle.buffer_frames.proofs.AtHand.{parts_of}
use Rattle.buffer_frames.proofs.FirstLogs.{shown_by}
use Rattle.gin_place.specs.Causes.{Finds, CannotUse, CannotHold, NoBadPage}
use Rattle.gin_place.specs.declared.error.PlaceError.{PlaceError}
use Rattle.gin_place.specs.declared.error.PlaceError.TheVariants.{StoreFull, LogFull, DiskFault, Down, BadPage}
use Rattle.gin_place.specs.declared.error.PlaceError.TheVariants.{OutOfMemory}
use Rattle.gin_place.proofs.Causing.{weaker, none_before}
use Rattle.gin_place.proofs.Lawful.{usable}
use Rattle.gin_vacuum.specs.Causes.{IsHeap, IsBadHeap, CannotRead}
use Rattle.gin_vacuum.specs.Finding.{HaveAll, IsFindingAt, HasFoundDead}
use Rattle.gin_vacuum.proofs.SeenOn.{cut_legal}
use Rattle.gin_vacuum.proofs.FoundDead.{heap_behind}

not_free : (c : Page) → IsHeap c → c.body ≡ body.Free → ⊥
not_free c heap free = let two : body.Heap heap.0 ≡ body.Free = sym heap.1 ∙ free in let z : ⊥ = cc in z

module _ {D : Type 0} (device : Disk D) where
  -- in no legal log the page that is read next can't be used
  pub bad_heap : PagesHold → (f : FramesValue D) (p : Pass) (from floor n : ℕ) (items : List ℕ)
      → IsFindingAt device f p from floor (Some n) items → CannotUse f IsHeap n → IsBadHeap device f n
  bad_heap told f p from floor n items x cannot = (cannot, never)
    where
      never : Behind device f (λ (R : Log). ⊥)
      never t up R stands legal =
          let P = shown_by R legal.valid in
          let C : Log = cut p.seen R in
          let P' = shown_by C (cut_legal p.seen R legal).valid in
          let next = x.heap t up R stands legal P'.0 P'.1 in
          let heap : IsHeapPage R n =
          subst (λ (T : Log). IsHeapPage T n) (sym (parts_of p.seen R))
          (heap_behind (take (length R - p.seen) R) C n next) in
          let slots = (told R P.0 legal P.1).kinds.heaps heap.xid heap.doc heap.placed_it in
          let page : IsHeap (P.0 n) = subst (λ (k : ℕ). IsHeap (P.0 k)) heap.on slots in
          usable device f R t up stands legal P.0 P.1 IsHeap n page (not_free (P.0 n) page) cannot

  -- the page is not held
  pub read_cause : PagesHold → (l f : FramesValue D) (p : Pass) (from floor n : ℕ) (items : List ℕ)
      → IsFindingAt device f p from floor (Some n) items → (e : PlaceError) → CannotHold device n l e f p
      → CannotRead device l e f p
  read_cause told l f p from floor n items x StoreFull w = w
  read_cause told l f p from floor n items x LogFull w = w
  read_cause told l f p from floor n items x DiskFault w = w
  read_cause told l f p from floor n items x (Down k) w = w
  read_cause told l f p from floor n items x (BadPage k) w =
      subst (IsBadHeap device f) (sym w.0)
      (bad_heap told f p from floor n items x (weaker f IsHeap n (subst (CannotUse f (λ (d : Page). ⊤)) w.0 w.1)))
  read_cause told l f p from floor n items x OutOfMemory w = tt

  -- a lawful store meets no bad page
  pub lawful_read : (l : FramesValue D) (e : PlaceError) (f : FramesValue D) (p : Pass)
      → Finds device f p (CannotRead device l e) → NoBadPage device f e
  lawful_read l StoreFull f p m = tt
  lawful_read l LogFull f p m = tt
  lawful_read l DiskFault f p m = tt
  lawful_read l (Down n) f p m = tt
  lawful_read l OutOfMemory f p m = tt
  lawful_read l (BadPage n) f p m = none_before device f m.0 p m.1 m.2 m.3 (λ few. m.4.1)

-- a search without a page that is left has found what is dead
pub found_dead : {D : Type 0} (device : Disk D) (f : FramesValue D) (p : Pass) (from floor : ℕ) (next : Option ℕ)
    (items : List ℕ) → next ≡ None → IsFindingAt device f p from floor next items
    → HasFoundDead device f p from floor items
found_dead device f p from floor next items is x = record {
  dead = x.dead;
  still = x.still;
  all = λ t up R stands legal P shown.
      subst (λ (n : Option ℕ). HaveAll from floor n items (cut p.seen R)) is (x.all t up R stands legal P shown);
}
