-- Why a page of the pending list is not read.
use Rattle.std.proofs.Common.{◌≡◌, ◌≢◌, ℕ, List, ◌∷◌, ◌++◌, length, refl, sym, ap, subst, ◌∙◌, arith}
use Rattle.std.specs.Prelude.{⊤}
use Rattle.disk_trait.specs.declared.device.Disk.{Ghosts as Disk}
use Rattle.page_types.specs.Views.{first_of}
use Rattle.page_types.specs.declared.page.Page.{Page}
use Rattle.page_types.specs.declared.page.Body.TheVariants as body
use Rattle.core_state.specs.Log.{Log, Pages, In}
use Rattle.core_state.specs.Allowed.{Sheet}
use Rattle.core_state.specs.Index.{Line}
use Rattle.core_state.specs.PagesTold.{ListStands, PagesHold}
use Rattle.core_state.proofs.Histories.{chain_one}
use Rattle.core_state.proofs.PageLists.{in_front}
use Rattle.core_state.proofs.Steps.Seen.{seen_shown}
use Rattle.core_maintenance.specs.Keeping.{RightKeepsLine}
use Rattle.buffer_frames.specs.Frames.{FramesValue, Behind}
use Rattle.buffer_frames.specs.Passes.{IsPassOf, IsHolding, view_of}
use Rattle.buffer_frames.specs.declared.pass.Pass.{Pass}
use Rattle.buffer_frames.proofs.AtHand.{log_length}
use Rattle.buffer_frames.proofs.FirstLogs.{shown_by}
use Rattle.gin_place.specs.Causes.{Finds, CannotUse, CannotHold, HasNumbers, NoBadPage}
use Rattle.gin_place.specs.Placing.{HasRight}
use Rattle.gin_place.specs.declared.error.PlaceError.{PlaceError}
use Rattle.gin_place.specs.declared.error.PlaceError.TheVariants.{StoreFull, LogFull, DiskFault, Down, BadPage}
use Rattle.gin_place.specs.declared.error.PlaceError.TheVariants.{OutOfMemory}
use Rattle.gin_place.proofs.Causing.{weaker, none_before, finds_now}
use Rattle.gin_place.proofs.Lawful.{usable}
use Rattle.gin_place.proofs.Owing.{right_of}
use Rattle.gin_vacuum.specs.Unlinked.{IsMetaPage, IsRowPage, IsBadList, CannotList}
use Rattle.gin_vacuum.specs.Inner.Unlinked.{IsWalkAt}
use Rattle.gin_vacuum.proofs.RowsAhead.{page_on}

used_meta : (c : Page) → IsMetaPage c → c.body ≢ body.Free
used_meta c x free = let two : body.Meta x.0 x.1 x.2 ≡ body.Free = sym x.3 ∙ free in let z : ⊥ = cc in z

used_rows : (c : Page) → IsRowPage c → c.body ≢ body.Free
used_rows c x free = let two : body.Pending x.0 ≡ body.Free = sym x.1 ∙ free in let z : ⊥ = cc in z

-- a page of the list has rows
row_page : (R : Log) (P : Pages) → ListStands R P → (q : ℕ) (line : List ℕ) → Line P line → In q line → IsRowPage (P q)
row_page R P list q line is on =
    let row = list.some_row q (subst (In q) (chain_one P (first_of (P 0)) line list.pages is list.is_line) on) in
    (row.0 ∷ row.1, row.2)

module _ {D : Type 0} (device : Disk D) where
  -- in no legal log the metapage is another page
  pub bad_meta : PagesHold → (f : FramesValue D) (p : Pass) → IsPassOf f p → CannotUse f IsMetaPage 0
      → IsBadList device f 0
  bad_meta told f p of cannot = IsBadList.meta refl cannot never
    where
      never : Behind device f (λ (R : Log). ⊥)
      never t up R stands legal =
          let P = shown_by R legal.valid in
          let long : f.journal.state.records ≡ length R = log_length device f.journal R stands.journal in
          let m = (told R P.0 legal P.1).list.meta (λ e. omega (arith, of.some, of.seen, long, ap length e)) in
          let is : IsMetaPage (P.0 0) = (m.0, m.1, _, m.2) in
          usable device f R t up stands legal P.0 P.1 IsMetaPage 0 is (used_meta (P.0 0) is) cannot

  -- nor the page of the list that is read next
  pub bad_rows : PagesHold → RightKeepsLine → (f : FramesValue D) (p : Pass) (held : List Sheet)
      → IsHolding device f p held → IsPassOf f p → HasRight p → (from floor : ℕ) (dead : List ℕ) (page left : ℕ)
      (met : List ℕ) → IsWalkAt device f p from floor dead page left met → page ≢ 0 → CannotUse f IsRowPage page
      → IsBadList device f page
  bad_rows told grows f p held hold of right from floor dead page left met x some cannot =
      IsBadList.rows cannot never
    where
      never : Behind device f (λ (R : Log). ⊥)
      never t up R stands legal =
          let v = view_of f p R held in
          let a = hold.allowed t up R stands legal in
          let S = seen_shown v R a in
          let w = x.walked t up R stands legal S.0 S.1 in
          let l = page_on S.0 page w.next some in
          let g = grows v R a S.0 (right_of device f p held R of right stands) S.1 l.0 l.1 in
          let is : IsRowPage (a.pages page) =
          row_page R a.pages (told R a.pages legal a.shown).list page (l.0 ++ g.more) g.line
          (in_front page l.0 g.more l.2) in
          usable device f R t up stands legal a.pages a.shown IsRowPage page is (used_rows (a.pages page) is) cannot

  -- a page is not held
  pub list_cause : (l : FramesValue D) (Is : Page → Type 0) (page : ℕ) (e : PlaceError) (f : FramesValue D) (p : Pass)
      → IsPassOf f p → (CannotUse f Is page → IsBadList device f page)
      → ((n : ℕ) → e ≡ BadPage n → (n ≡ page) × CannotUse f (λ (c : Page). ⊤) n)
      → Finds device f p (CannotHold device page l e) → Finds device f p (CannotList device l e)
  list_cause l Is page StoreFull f p of bad b m = absurd m.4
  list_cause l Is page LogFull f p of bad b m = absurd m.4
  list_cause l Is page DiskFault f p of bad b m = m
  list_cause l Is page (Down n) f p of bad b m = m
  list_cause l Is page (BadPage n) f p of bad b m =
      let c = b n refl in
      finds_now device f p (CannotList device l (BadPage n)) of
      (subst (IsBadList device f) (sym c.0)
      (bad (weaker f Is page (subst (CannotUse f (λ (x : Page). ⊤)) c.0 c.1))))
  list_cause l Is page OutOfMemory f p of bad b m = (m.0, m.1, m.2, m.3, tt)

  never_bad : (f : FramesValue D) (n : ℕ) → IsBadList device f n → HasNumbers f → Behind device f (λ (R : Log). ⊥)
  never_bad f n (IsBadList.meta zero cannot never) few = never
  never_bad f n (IsBadList.rows cannot never) few = never

  -- a lawful store meets no bad page
  pub lawful_list : (l : FramesValue D) (e : PlaceError) (f : FramesValue D) (p : Pass)
      → Finds device f p (CannotList device l e) → NoBadPage device f e
  lawful_list l StoreFull f p m = tt
  lawful_list l LogFull f p m = tt
  lawful_list l DiskFault f p m = tt
  lawful_list l (Down n) f p m = tt
  lawful_list l (BadPage n) f p m = none_before device f m.0 p m.1 m.2 m.3 (never_bad m.0 n m.4)
  lawful_list l OutOfMemory f p m = tt
