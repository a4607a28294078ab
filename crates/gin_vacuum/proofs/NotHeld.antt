-- A step of a sweep that is refused at the page that it reads next: it is not held, or it is given back.
use Rattle.std.proofs.Common.{◌≡◌, ◌≢◌, ◌<◌, ◌⊎◌, ℕ, suc, List, [], ◌∷◌, refl, sym, ap, subst, ◌∙◌, Err}
use Rattle.std.specs.Prelude.{Option, None, ⊤}
use Rattle.std.specs.Option.{unwrap_or}
use Rattle.disk_trait.specs.declared.device.Disk.{Ghosts as Disk}
use Rattle.page_types.specs.Pages.{IsPage, IsBody}
use Rattle.page_types.specs.declared.page.Page.{Page}
use Rattle.page_types.specs.declared.page.PostChild.{PostChild}
use Rattle.page_types.specs.declared.page.Body.{Body}
use Rattle.page_types.specs.declared.page.Body.TheVariants as body
use Rattle.core_state.specs.Log.{Log, Pages, Shows}
use Rattle.core_state.specs.Allowed.{Sheet}
use Rattle.core_state.specs.Legal.{IsLegal}
use Rattle.core_state.specs.PageChoice.{IsLeast, AreBelow}
use Rattle.core_state.specs.States.{StateTells}
use Rattle.core_maintenance.specs.Leading.{WaysHold}
use Rattle.posting_tree.specs.Adding.{IsPostLeaf}
use Rattle.posting_tree.specs.Reading.{IsPostBody, first_child_in}
use Rattle.buffer_frames.specs.Frames.{FramesValue, Lies}
use Rattle.buffer_frames.specs.LogCauses.{IsCalm}
use Rattle.buffer_frames.specs.Passes.{IsPassOf, IsHolding, Seen}
use Rattle.buffer_frames.specs.declared.pass.Pass.{Pass}
use Rattle.gin_place.specs.Placing.{HasRight}
use Rattle.gin_place.specs.Causes.{Finds, CannotUse}
use Rattle.gin_place.specs.Faults.{MetNoFault, FaultBy}
use Rattle.gin_place.specs.Holding.{ReadsOn}
use Rattle.gin_place.specs.Stepping.{reads_left}
use Rattle.gin_place.specs.declared.error.PlaceError.{PlaceError}
use Rattle.gin_place.specs.declared.error.PlaceError.TheVariants.{BadPage, OutOfMemory}
use Rattle.gin_place.proofs.Carrying.{reads_in_turn}
use Rattle.gin_place.proofs.Faults.{calm_fine, fine_then}
use Rattle.gin_vacuum.specs.Sweeping.{IsAt, IsSweeping}
use Rattle.gin_vacuum.specs.Stepping.{HasSwept, IsCause, IsNext, IsPlaceOf, IsSpent, left_of}
use Rattle.gin_vacuum.specs.Inner.HoldingNext.{HoldsNext}
use Rattle.gin_vacuum.specs.Inner.Reading.{IsUnread}
use Rattle.gin_vacuum.specs.Inner.Sweeping.{WasSpent}
use Rattle.gin_vacuum.specs.declared.sweeping.Sweeping.{Sweeping}
use Rattle.gin_vacuum.specs.declared.sweeping.Stage.{Stage}
use Rattle.gin_vacuum.proofs.NextHeld.{refused_next, refused_other, refused_memory}
use Rattle.gin_vacuum.proofs.Places.{place_there}

-- a page without first child that is no leaf is none of a posting tree
pub no_post : (c : Page) → IsPage c → (IsPostLeaf c.body → ⊥) → first_child_in c.body ≡ None → IsPostBody c.body → ⊥
no_post c is off none on = by c.body refl on
  where
    by_children : (cs : List PostChild) → c.body ≡ body.PostInner cs → ⊥
    by_children [] e = (subst (IsBody c.right c.stamp) e is.body).some refl
    by_children (d ∷ cs) e = let z = sym (ap first_child_in e) ∙ none in cc

    by : (b : Body) → c.body ≡ b → IsPostBody b → ⊥
    by _ e (IsPostBody.leaf high list) = off (subst IsPostLeaf (sym e) (IsPostLeaf.leaf high list))
    by _ e (IsPostBody.inner cs) = by_children cs e

-- where the page is next that the frames and the pass were asked for
module _ {D : Type 0} (device : Disk D) (ways : WaysHold) (f g : FramesValue D) (p q : Pass) (right : HasRight p)
    (was : IsPassOf f p) (none : p.held ≡ 0) (reads : ReadsOn device f p g q) (dead : List ℕ) (old : Sweeping)
    (sw : IsSweeping device f p dead old) (page : ℕ) (next : IsNext old.stage page) where
  there : (S : Log) (P : Pages) → S ≢ [] → IsLegal S → Shows S P → IsAt P dead old old.stage
      → IsPlaceOf old.stage (P page) × ((P page).body ≢ body.Free)
  there = place_there ways dead old old.stage page next

  -- it is not held
  pub not_held : {T : Type 0} (o : Option ℕ) → o ≡ left_of old old.stage → (e : PlaceError) → q.held ≡ 0
      → Finds device f p (λ k s. IsCause device
      (λ h n. (n ≡ page) × (CannotUse h (λ (c : Page). ⊤) n ⊎ IsSpent o h)) g e k s)
      → ((n : ℕ) → e ≡ BadPage n
      → (n ≡ page) × (CannotUse f (λ (c : Page). ⊤) n ⊎ Finds device f p (WasSpent device o)))
      → FaultBy device f g e → HasSwept {T = T} device f p g q dead old old (Err e)
  not_held o all e still cause bad fault =
      refused_next device f g p q right was none reads dead old sw page next there e still
      (subst (λ (l : Option ℕ). Finds device f p (λ k s. IsCause device
      (λ h n. (n ≡ page) × (CannotUse h (λ (c : Page). ⊤) n ⊎ IsSpent l h)) g e k s)) all cause)
      (λ n is_bad. subst (λ (l : Option ℕ).
      (n ≡ page) × (CannotUse f (λ (c : Page). ⊤) n ⊎ Finds device f p (WasSpent device l))) all (bad n is_bad))
      fault

  -- what lies there is none of its place
  not_placed : {T : Type 0} (c : Page) → IsPage c → Lies f page c → (IsPlaceOf old.stage c → ⊥) → q.held ≡ 0
      → FaultBy device f g (BadPage page) → HasSwept {T = T} device f p g q dead old old (Err (BadPage page))
  not_placed c is_page lies off still fault =
      refused_other device f g p q right was none reads dead old sw page next there c still
      (CannotUse.other c is_page lies off) fault

  no_memory : {T : Type 0} → q.held ≡ 0 → FaultBy device f g OutOfMemory
      → HasSwept {T = T} device f p g q dead old old (Err OutOfMemory)
  no_memory still fault =
      refused_memory device f g p q right was none reads dead old sw page next there still fault

  -- it is held
  abbrev pub holds_next : (o : Option ℕ) → o ≡ left_of old old.stage → (held : Sheet) (left : ℕ) → held.page ≡ page
      → Lies f page held.content → IsHolding device g q (held ∷ [])
      → Seen device g q (λ S P. P held.page ≡ held.content) → Seen device g q (λ S P. StateTells S g.journal.state)
      → (extent : ℕ) × IsLeast (AreBelow g.journal.state) extent × (suc left ≡ unwrap_or o extent)
      → left < reads_left o → MetNoFault device f g
      → HoldsNext device g q dead old held.page (left_of old old.stage) held left
  holds_next o all held left number lies holding seen told more lower fine = record {
    frames = f;
    pass = p;
    is_pass = was;
    right = right;
    none = none;
    sweeping = sw;
    reads = reads;
    fine = fine;
    number = refl;
    lies = subst (λ (n : ℕ). Lies f n held.content) (sym number) lies;
    holding = holding;
    seen = seen;
    told = told;
    more = (more.0, more.1, subst (λ (b : Option ℕ). suc left ≡ unwrap_or b more.0) all more.2);
    lower = subst (λ (b : Option ℕ). left < reads_left b) all lower;
  }

-- where it is held, and given back
module _ {D : Type 0} (device : Disk D) (ways : WaysHold) (g : FramesValue D) (q : Pass) (dead : List ℕ)
    (old : Sweeping) (page : ℕ) (before : Option ℕ) (held : Sheet) (left : ℕ)
    (w : HoldsNext device g q dead old page before held left) (t : Stage) (is : old.stage ≡ t) (next : IsNext t page)
    (h : FramesValue D) (r : Pass) (back : ReadsOn device g q h r) (still : r.held ≡ 0)
    (calm : IsCalm device g.journal h.journal) where
  abbrev reads_on : ReadsOn device w.frames w.pass h r
  reads_on = reads_in_turn device w.frames g h w.pass q r w.reads back

  abbrev next_old : IsNext old.stage page
  next_old = subst (λ (s : Stage). IsNext s page) (sym is) next

  fine_on : MetNoFault device w.frames h
  fine_on = fine_then device w.frames g h w.fine (calm_fine device g h calm)

  -- what is on it is none of its place
  pub misplaced : {T : Type 0} → IsPage held.content → (IsPlaceOf t held.content → ⊥)
      → HasSwept {T = T} device w.frames w.pass h r dead old old (Err (BadPage page))
  misplaced is_page off =
      not_placed device ways w.frames h w.pass r w.right w.is_pass w.none reads_on dead old w.sweeping page next_old
      held.content is_page w.lies (λ at. off (subst (λ (s : Stage). IsPlaceOf s held.content) is at)) still fine_on

  -- it is not read
  pub unread : {T : Type 0} (IsLeaf : Body → Type 0) → (IsPlaceOf t held.content → IsLeaf held.content.body)
      → (e : PlaceError) → IsUnread held IsLeaf e → HasSwept {T = T} device w.frames w.pass h r dead old old (Err e)
  unread {T} IsLeaf place _ (IsUnread.other is_page off) =
      subst (λ (n : ℕ). HasSwept {T = T} device w.frames w.pass h r dead old old (Err (BadPage n))) (sym w.number)
      (misplaced is_page (λ at. off (place at)))
  unread IsLeaf place _ IsUnread.memory =
      no_memory device ways w.frames h w.pass r w.right w.is_pass w.none reads_on dead old w.sweeping page next_old
      still fine_on
