-- Where a cleanup is once a page was read, or was not.
use Rattle.std.proofs.Common.{◌≡◌, ◌≤◌, ◌∷◌, ℕ, List, [], length, refl, sym, ap, subst, ◌∙◌, arith}
use Rattle.std.specs.Prelude.{◌<◌, ◌↔◌, Vec, Bool, true, false, Result, Ok, IfErr, ⊤}
use Rattle.std.specs.List.{AllByRecursion}
use Rattle.std.specs.declared.alloc.Global.{Global}
use Rattle.disk_trait.specs.declared.device.Disk.{Ghosts as Disk}
use Rattle.page_types.specs.Pages.{IsPage, IsRow, IsBody}
use Rattle.page_types.specs.Views.{rows_in, rows_of}
use Rattle.page_types.specs.declared.page.Page.{Page}
use Rattle.page_types.specs.declared.page.Row.{Row}
use Rattle.page_types.specs.declared.page.Body.TheVariants as body
use Rattle.core_state.specs.Log.{In}
use Rattle.core_state.specs.Allowed.{Sheet}
use Rattle.core_state.proofs.Trees.Members.{in_middle}
use Rattle.buffer_frames.specs.Frames.{FramesValue, Lies}
use Rattle.buffer_frames.specs.LogCauses.{IsCalm}
use Rattle.buffer_frames.specs.Passes.{IsPassOf, IsHolding, Seen}
use Rattle.buffer_frames.specs.declared.pass.Pass.{Pass}
use Rattle.buffer_frames.proofs.AtHand.{none_held}
use Rattle.buffer_frames.proofs.Exits.{on_refusal}
use Rattle.gin_place.specs.Placing.{HasRight}
use Rattle.gin_place.specs.Holding.{ReadsOn}
use Rattle.gin_place.specs.Causes.{Finds, CannotUse, CannotHold}
use Rattle.gin_place.specs.Faults.{MetNoFault, FaultBy}
use Rattle.gin_place.specs.declared.error.PlaceError.{PlaceError}
use Rattle.gin_place.specs.declared.error.PlaceError.TheVariants.{StoreFull, LogFull, DiskFault, Down, BadPage}
use Rattle.gin_place.specs.declared.error.PlaceError.TheVariants.{OutOfMemory}
use Rattle.gin_place.proofs.Carrying.{reads_in_turn, reads_still, right_on, same_added}
use Rattle.gin_place.proofs.Causing.{finds_now, weaker}
use Rattle.gin_place.proofs.Exits.{on_ok}
use Rattle.gin_place.proofs.Faults.{calm_fine, fine_still, fine_then}
use Rattle.gin_cleanup.specs.Cleaning.{waits_of, IsReadingAt, IsAt, IsCleaning}
use Rattle.gin_cleanup.specs.Going.{IsRowPage, IsBadList, IsCause}
use Rattle.gin_cleanup.specs.Inner.Between.{HasNext}
use Rattle.gin_cleanup.specs.Inner.Noting.{GoesOnWith, HasNoted}
use Rattle.gin_cleanup.specs.Inner.Stepping.{StepEnds}
use Rattle.gin_cleanup.specs.Measure.{steps_of, ComesNearer}
use Rattle.gin_cleanup.specs.declared.cleanup.Cleanup.{Cleanup}
use Rattle.gin_cleanup.specs.declared.cleanup.Stage.{Stage}
use Rattle.gin_cleanup.specs.declared.cleanup.Stage.TheVariants as stage
use Rattle.gin_cleanup.proofs.BadRows.{IsOnList, bad_rows}
use Rattle.gin_cleanup.proofs.Cleaned.{cleans_by}
use Rattle.gin_cleanup.proofs.Cleanings.{cleaning_still}
use Rattle.gin_cleanup.proofs.Ending.{all_between, before_between}
use Rattle.gin_cleanup.proofs.Nearer.{next_read, noted_nearer, by_kinds}
use Rattle.gin_cleanup.proofs.NextKeys.{next_cleaning}
use Rattle.gin_cleanup.proofs.NextPages.{next_is_there}
use Rattle.gin_cleanup.proofs.Noting.{taken, kept}
use Rattle.gin_cleanup.proofs.Tests.{not_both, on_answer}

same_items : (p q : ℕ) (b d : Vec ℕ Global) → stage.Reading p b ≡ stage.Reading q d → b ≡ d
same_items p q b d e = cc

-- not all pages that are left were read
pub few_read : (n left : ℕ) (r : Bool) → (r ≡ true) ↔ (left ≤ n) → r ≡ false → n < left
few_read n left r all off =
    let none : left ≤ n → ⊥ = λ le. not_both r (all.1 le) off in
    omega (arith, none)

each_row : (c : Page) (rows : List Row) → IsPage c → c.body ≡ body.Pending rows → AllByRecursion IsRow rows
each_row c rows page is = subst (IsBody c.right c.stamp) is page.body

module _ {D : Type 0} (device : Disk D) (f : FramesValue D) (p : Pass) (from : ℕ) (old : Cleanup) (page : ℕ)
    (b : Vec ℕ Global) (at : old.stage ≡ stage.Reading page b) (few : length old.counts.items < old.left)
    (was : IsCleaning device f p from old) where
  -- the page that is read next is on the list
  on_list : Seen device f p (λ S P. IsOnList P page)
  on_list t up R stands legal P shown =
      let ws = waits_of old.gathered (stage.Reading page b) in
      let x : IsReadingAt P old.left old.counts.items ws b.items page =
      subst (λ (s : Stage). IsAt P old s) at (was.at t up R stands legal P shown) in
      let there = next_is_there P old.left old.counts.items x.0.line b.items page x.1 few in
      (x.0.line, x.0.is_line, subst (In page) (sym there.2) (in_middle there.0 page there.1))

  -- where it has no rows of documents it is a bad one
  pub page_bad : IsPassOf f p → HasRight p → p.held ≡ 0 → CannotUse f IsRowPage page → IsBadList device f p page
  page_bad of right none = bad_rows device f p [] (none_held device f p of none) of right page on_list

  -- once it was read, or could not be noted
  noted : (content : Page) → IsPage content → Seen device f p (λ S P. P page ≡ content)
      → {A : Type 0} (new : Cleanup) (r : Result A PlaceError) → HasNoted page content old new r
      → IsCleaning device f p from new
  noted content is_page seen new r (HasNoted.bad off same is) = subst (IsCleaning device f p from) (sym same) was
  noted content is_page seen new r (HasNoted.ends rows is e next x ok) =
      let items : e.before ≡ b = same_items e.page page e.before b (sym e.stage_is ∙ at) in
      next_cleaning device f p from old new
      (before_between device f p from old page b at was few e.some rows
      (λ t up R stands legal P shown. ap rows_of (seen t up R stands legal P shown) ∙ ap rows_in is)
      (λ goes. e.other (subst (λ (v : Vec ℕ Global). GoesOnWith rows v.items) (sym items) goes))) next
  noted content is_page seen new r (HasNoted.taken rows is above t x ok) =
      taken device f p from old page b at rows content is (each_row content rows is_page is) above few seen was new t
  noted content is_page seen new r (HasNoted.kept rows is above k err) =
      kept device f p from old page b at rows content is (each_row content rows is_page is) above few seen was new k

-- only a page that is none of rows of documents is said to be bad, and no fault is met
module _ {A D : Type 0} (device : Disk D) (f g : FramesValue D) (p : Pass) (page : ℕ) (content : Page)
    (old new : Cleanup) where
  noted_cause : IsPassOf f p → ((IsRowPage content → ⊥) → IsBadList device f p page) → (r : Result A PlaceError)
      → HasNoted page content old new r → IfErr r (λ e. Finds device f p (IsCause device g e))
  noted_cause of bad r (HasNoted.bad off same is) =
      subst (λ (x : Result A PlaceError). IfErr x (λ e. Finds device f p (IsCause device g e))) (sym is)
      (finds_now device f p (IsCause device g (BadPage page)) of (bad off))
  noted_cause of bad r (HasNoted.ends rows is b next x ok) =
      subst (λ (x : Result A PlaceError). IfErr x (λ e. Finds device f p (IsCause device g e))) (sym ok) tt
  noted_cause of bad r (HasNoted.taken rows is above t x ok) =
      subst (λ (x : Result A PlaceError). IfErr x (λ e. Finds device f p (IsCause device g e))) (sym ok) tt
  noted_cause of bad r (HasNoted.kept rows is above k err) =
      subst (λ (x : Result A PlaceError). IfErr x (λ e. Finds device f p (IsCause device g e))) (sym err)
      (finds_now device f p (IsCause device g OutOfMemory) of tt)

  noted_told : MetNoFault device f g → (r : Result A PlaceError) → HasNoted page content old new r
      → IfErr r (λ e. FaultBy device f g e)
  noted_told none r (HasNoted.bad off same is) =
      subst (λ (x : Result A PlaceError). IfErr x (λ e. FaultBy device f g e)) (sym is) none
  noted_told none r (HasNoted.ends rows is b next x ok) =
      subst (λ (x : Result A PlaceError). IfErr x (λ e. FaultBy device f g e)) (sym ok) tt
  noted_told none r (HasNoted.taken rows is above t x ok) =
      subst (λ (x : Result A PlaceError). IfErr x (λ e. FaultBy device f g e)) (sym ok) tt
  noted_told none r (HasNoted.kept rows is above k err) =
      subst (λ (x : Result A PlaceError). IfErr x (λ e. FaultBy device f g e)) (sym err) none

-- why the page is not held
pub read_cause : {D : Type 0} (device : Disk D) (f l : FramesValue D) (p : Pass) (page : ℕ) → IsPassOf f p
    → (CannotUse f IsRowPage page → IsBadList device f p page) → (e : PlaceError)
    → Finds device f p (CannotHold device page l e)
    → ((n : ℕ) → e ≡ BadPage n → (n ≡ page) × CannotUse f (λ (c : Page). ⊤) n) → Finds device f p (IsCause device l e)
read_cause device f l p page of bad StoreFull m b = absurd m.4
read_cause device f l p page of bad LogFull m b = absurd m.4
read_cause device f l p page of bad DiskFault m b = m
read_cause device f l p page of bad (Down n) m b = m
read_cause device f l p page of bad (BadPage n) m b =
    let c = b n refl in
    finds_now device f p (IsCause device l (BadPage n)) of
    (subst (IsBadList device f p) (sym c.0)
    (bad (weaker f IsRowPage page (subst (CannotUse f (λ (x : Page). ⊤)) c.0 c.1))))
read_cause device f l p page of bad OutOfMemory m b = (m.0, m.1, m.2, m.3, tt)

-- a page is held and seen, its rows are noted, and it is given back
module _ {D : Type 0} (device : Disk D)
    (f g h : FramesValue D) (p q r : Pass) (x : Sheet) (of : IsPassOf f p) (right : HasRight p) (none : p.held ≡ 0)
    (to : ReadsOn device f p g q) (hold : IsHolding device g q (x ∷ [])) (back : ReadsOn device g q h r) (page : ℕ)
    (number : x.page ≡ page) (seen : Seen device g q (λ S P. P x.page ≡ x.content)) (content : Page)
    (same : content ≡ x.content) (is_page : IsPage content) (lies : Lies f page x.content)
    (fine : MetNoFault device f g) (calm : IsCalm device g.journal h.journal) where
  now_seen : Seen device g q (λ S P. P page ≡ content)
  now_seen t up R stands legal P shown =
      subst (λ (n : ℕ). P n ≡ content) number (seen t up R stands legal P shown ∙ sym same)

  read_noted : {A : Type 0} (from : ℕ) (old new : Cleanup) (b : Vec ℕ Global) → old.stage ≡ stage.Reading page b
      → length old.counts.items < old.left → (result : Result A PlaceError) → HasNoted page content old new result
      → IsCleaning device f p from old → IsCleaning device h r from new
  read_noted from old new b at few result how was =
      let then = cleaning_still device f g p q [] (none_held device f p of none) of right to from old
      was in
      let now = noted device g q from old page b at few then content is_page now_seen new result how in
      cleaning_still device g h q r (x ∷ []) hold to.works.is_pass
      (right_on device f g p q [] right to.works) back from new now

  pub read_worked : {A : Type 0} (old new : Cleanup) (b : Vec ℕ Global) → old.stage ≡ stage.Reading page b
      → length old.counts.items < old.left → (from : ℕ) × IsCleaning device f p from old
      → (result : Result A PlaceError) → HasNoted page content old new result → r.held ≡ 0
      → StepEnds device f p h r old new result
  read_worked old new b at few was result how free =
      let on = reads_in_turn device f g h p q r to back in
      let cleans = cleans_by device f h p r [] on.works in
      let met = fine_then device f g h fine (calm_fine device g h calm) in
      record {
        cleaning = λ from had. read_noted from old new b at few result how had;
        none_held = free;
        works = ([], omega arith, cleans);
        refused = on_refusal _ result cleans;
        lower = on_ok result (steps_of new < steps_of old) (ComesNearer f h old new)
            (by_kinds f h old new [] on.works.goes.records) (noted_nearer content old new page b at few result how);
        cause = noted_cause device f h p page content old new of
            (λ off. page_bad device f p was.0 old page b at few was.1 of right none
            (CannotUse.other content is_page (subst (Lies f page) (sym same) lies) off)) result how;
        fine = on_answer _ result met;
        fault = noted_told device f h p page content old new met result how;
      }

-- no page is read, since all that are left were
pub read_all : {T D : Type 0} {x : T} (device : Disk D) (f : FramesValue D) (p : Pass) (old new : Cleanup) (page : ℕ)
    (b : Vec ℕ Global) → old.stage ≡ stage.Reading page b → IsPassOf f p → p.held ≡ 0
    → old.left ≤ length old.counts.items → 0 < old.left → HasNext old new → StepEnds device f p f p old new (Ok x)
read_all device f p old new page b at of none all some next =
    let works = (reads_still device f p of (same_added device f)).works in
    record {
      cleaning = λ from was.
          next_cleaning device f p from old new (all_between device f p from old page b at was all some) next;
      none_held = none;
      works = ([], omega arith, cleans_by device f f p p [] works);
      refused = tt;
      lower = by_kinds f f old new [] refl (next_read old new page b at next);
      cause = tt;
      fine = fine_still device f;
      fault = tt;
    }
