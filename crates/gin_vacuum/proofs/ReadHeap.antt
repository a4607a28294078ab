-- A heap page is held, what is dead on it is asked, and it is given back.
use Rattle.std.proofs.Common.{◌≡◌, ℕ, suc, List, [], ◌∷◌, ◌++◌, length, refl, sym, subst, ◌∙◌, Result, Ok, Err}
use Rattle.std.proofs.Common.{arith}
use Rattle.std.specs.Prelude.{◌<◌, ◌↔◌, Option, Some, None, Bool, true, false, cond}
use Rattle.std.specs.Option.{is_some}
use Rattle.std.specs.declared.alloc.AllocError.{AllocError}
use Rattle.disk_trait.specs.declared.device.Disk.{Ghosts as Disk}
use Rattle.page_types.specs.Numbers.{page_limit}
use Rattle.page_types.specs.Pages.{IsPage}
use Rattle.page_types.specs.Views.{slots_of}
use Rattle.core_state.specs.Allowed.{Sheet}
use Rattle.core_state.specs.Standing.{DocumentsHold}
use Rattle.core_state.specs.States.{StateValue, StateTells, fate_of}
use Rattle.core_state.specs.Steady.{SteadyHold}
use Rattle.buffer_frames.specs.Frames.{FramesValue}
use Rattle.buffer_frames.specs.Passes.{IsPassOf, IsHolding, Seen}
use Rattle.buffer_frames.specs.declared.pass.Pass.{Pass}
use Rattle.buffer_frames.proofs.AtHand.{none_held}
use Rattle.gin_place.specs.Holding.{ReadsOn}
use Rattle.gin_place.specs.Placing.{HasRight}
use Rattle.gin_place.proofs.Carrying.{right_on, held_seen}
use Rattle.gin_vacuum.specs.Causes.{IsHeap}
use Rattle.gin_vacuum.specs.Finding.{IsBefore, left_from, IsFindingAt}
use Rattle.gin_vacuum.specs.Inner.Asked.{AreDeadTo, IsHeapFrom, dead_answer}
use Rattle.gin_vacuum.specs.declared.asks.Dead.{Dead}
use Rattle.gin_vacuum.specs.declared.asks.DeadOn.{DeadOn}
use Rattle.gin_vacuum.proofs.StillFound.{finding_still}
use Rattle.gin_vacuum.proofs.Taken.{taken}

module _ {D : Type 0} (device : Disk D) (steady : SteadyHold) (f g : FramesValue D) (p q : Pass) (of : IsPassOf f p)
    (right : HasRight p) (none : p.held ≡ 0) (reads : ReadsOn device f p g q) where
  -- the search stands as it did
  pub found_still : (from floor : ℕ) (next : Option ℕ) (items : List ℕ) → IsFindingAt device f p from floor next items
      → IsFindingAt device g q from floor next items
  found_still from floor next items x =
      finding_still device steady f g p q [] (none_held device f p of none) of right reads.works from floor next items x

  -- and has gone on by the page that is held
  pub found_next : DocumentsHold → (h : FramesValue D) (r : Pass) → ReadsOn device g q h r → (x : Sheet)
      → IsHolding device g q (x ∷ []) → q.seen ≡ g.journal.state.records
      → Seen device g q (λ S P. StateTells S g.journal.state) → IsPage x.content → IsHeap x.content → (items : List ℕ)
      → AreDeadTo (fate_of g.journal.state) q.floor x.page (slots_of x.content) (length (slots_of x.content)) items
      → (next : Option ℕ) → IsHeapFrom (suc x.page) g.journal.state next → (page : ℕ) → x.page ≡ page
      → (from floor : ℕ) (had : List ℕ) → IsFindingAt device f p from floor (Some page) had
      → IsFindingAt device h r from floor next (had ++ items)
  found_next documents h r on x hold all told fits heap items are next after page same from floor had was =
      let then = found_still from floor (Some page) had was in
      let here = subst (λ (n : ℕ). IsFindingAt device g q from floor (Some n) had) (sym same) then in
      let here' = taken device steady documents g q reads.works.is_pass from floor had x fits heap items next are after
      (held_seen device g q x [] hold all) told here in
      finding_still device steady g h q r (x ∷ []) hold reads.works.is_pass
      (right_on device f g p q [] right reads.works) on.works from floor next (had ++ items) here'

-- what is answered of a page that is held
pub answer_of : (ask : DeadOn) (s : StateValue) (floor since : ℕ) (r : Result Dead AllocError) (d : Dead) → r ≡ Ok d
    → dead_answer ask s floor since r
    → AreDeadTo (fate_of s) floor ask.held.now.page (slots_of ask.held.now.content)
    (length (slots_of ask.held.now.content)) d.items.items × IsHeapFrom (suc ask.held.now.page) s d.next
answer_of ask s floor since (Ok x) d e a =
    let same : x ≡ d = cc in
    subst (λ (y : Dead). AreDeadTo (fate_of s) floor ask.held.now.page (slots_of ask.held.now.content)
    (length (slots_of ask.held.now.content)) y.items.items × IsHeapFrom (suc ask.held.now.page) s y.next) same a
answer_of ask s floor since (Err x) d e a = absurd cc

-- fewer pages are left after it
pub fewer : (page : ℕ) (next : Option ℕ) → page < page_limit → IsBefore page next
    → left_from next < left_from (Some page)
fewer page None low before = omega arith
fewer page (Some n) low before = omega (arith, low, before)

-- whether a page is next
pub some_ends : (o : Option ℕ) (b : Bool) → b ≡ is_some o → (b ≡ false) ↔ (o ≡ None)
some_ends None b is = (λ e. refl, λ e. is)
some_ends (Some x) b is = (
  λ e. absurd (let two : true ≡ false = sym is ∙ e in let z : ⊥ = cc in z),
  λ e. absurd (let z : ⊥ = cc in z),
)

pub none_is : (o : Option ℕ) → ((x : ℕ) → o ≡ Some x → ⊥) → o ≡ None
none_is None off = refl
none_is (Some x) off = absurd (off x refl)

-- the search comes nearer its end
pub nearer_end : (more then : Bool) (old new : ℕ) → more ≡ true → (then ≡ true → new < old)
    → cond then (suc new) 0 < cond more (suc old) 0
nearer_end true true old new is low = omega (arith, low refl)
nearer_end true false old new is low = omega arith
nearer_end false then old new is low = absurd (let z : ⊥ = cc in z)
