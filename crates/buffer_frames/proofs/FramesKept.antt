-- What pages in memory stand for, call by call.
use Rattle.std.proofs.Common.{◌≡◌, ◌≢◌, ◌<◌, ◌+◌, ℕ, List, [], ◌∷◌, length, refl, sym, ap, subst, ◌∙◌, inl, inr, arith}
use Rattle.std.specs.Prelude.{Option, None}
use Rattle.std.specs.List.{AllByRecursion}
use Rattle.disk_trait.specs.Runs.{images_now}
use Rattle.disk_trait.specs.declared.device.Disk.{Ghosts as Disk}
use Rattle.wal.specs.Waiting.{down_of}
use Rattle.page_types.specs.Pages.{IsPage}
use Rattle.page_types.specs.Encoding.{page_bytes}
use Rattle.page_types.specs.declared.page.Page.{Page}
use Rattle.page_types.proofs.PageLaws.{page_told}
use Rattle.core_state.specs.Log.{Log, Pages, Shows, replay}
use Rattle.core_state.specs.Legal.{IsLegal}
use Rattle.core_state.specs.Allowed.{Sheet, View, AreOthers, IsAllowed, sheet_pages}
use Rattle.core_state.proofs.RunningOnes.{same_or_other}
use Rattle.snap_pins.specs.declared.Pin.{Pin as PinInUse}
use Rattle.buffer_frames.specs.NoStore.{CountedAreOne}
use Rattle.buffer_frames.specs.Homes.{home_at, ShowsBytes, HasPage, HavePages, IsAway, HasTaken, AreAlike}
use Rattle.buffer_frames.specs.Journals.{JournalValue}
use Rattle.buffer_frames.specs.Frames.{FramesValue, HomesShow, Stands, Behind, AreFrames}
use Rattle.buffer_frames.specs.Passes.{IsPassOf, IsHolding, view_of, HasAdded}
use Rattle.buffer_frames.specs.declared.home.Home.{Home}
use Rattle.buffer_frames.specs.declared.home.Home.TheVariants.{Away}
use Rattle.buffer_frames.specs.declared.pass.Pass.{Pass}
use Rattle.buffer_frames.proofs.Added.{none_added}
use Rattle.buffer_frames.proofs.HomesLie.{lies_shown, lies_here}
use Rattle.buffer_frames.proofs.AtHand.{at_hand, behind_one, none_held}

-- what contracts see of these fields
abbrev pub framed : {D : Type 0} → JournalValue D → List (Option PinInUse) → List Home → FramesValue D
framed j pins homes = record { journal = j; pins = pins; homes = homes }

-- what shows a page's bytes is no less where the page is away
shows_away : (h : Home) (bytes : List ℕ) → h ≡ Away → ShowsBytes h bytes
shows_away h bytes is = subst (λ (x : Home). ShowsBytes x bytes) (sym is) tt

pub taken_shows : (old new : List Home) (page : ℕ) (c : Page) (R : Log) → HasTaken old new page c → HomesShow old R
    → HomesShow new R
taken_shows old new page c R taken shows p = elim (same_or_other p page) [
  | inl e ↦ shows_away (home_at new p) (replay R p) (ap (home_at new) e ∙ taken.away)
  | inr d ↦ subst (λ (h : Home). ShowsBytes h (replay R p)) (sym (taken.others p d)) (shows p)
]

pub taken_pages : (old new : List Home) (page : ℕ) (c : Page) → HasTaken old new page c → HavePages old → HavePages new
taken_pages old new page c taken have p = elim (same_or_other p page) [
  | inl e ↦ subst HasPage (sym (ap (home_at new) e ∙ taken.away)) tt
  | inr d ↦ subst HasPage (sym (taken.others p d)) (have p)
]

pub alike_shows : (old new : List Home) (R : Log) → AreAlike old new → HomesShow old R → HomesShow new R
alike_shows old new R alike shows p = subst (λ (h : Home). ShowsBytes h (replay R p)) (sym (alike.each p)) (shows p)

pub alike_pages : (old new : List Home) → AreAlike old new → HavePages old → HavePages new
alike_pages old new alike have p = subst HasPage (sym (alike.each p)) (have p)

module _ {D : Type 0} (device : Disk D) (one : CountedAreOne)
    (law : device.tells → (d : D) → images_now device d (device.seen d)) where
  -- other homes over the same journal and snapshots
  pub homes_stand : (j : JournalValue D) (pins : List (Option PinInUse)) (homes homes' : List Home)
      → ((R : Log) → HomesShow homes R → HomesShow homes' R) → (R : Log) → Stands device (framed j pins homes) R
      → Stands device (framed j pins homes') R
  homes_stand j pins homes homes' shows R s = record {
    journal = s.journal;
    homes = λ t up legal. shows R (s.homes t up legal);
    pins = s.pins;
  }

  -- nothing was logged
  pub nothing_added : (j j' : JournalValue D) (pins pins' : List (Option PinInUse)) (homes homes' : List Home)
      → AreFrames device (framed j pins homes)
      → ((R : Log) → Stands device (framed j pins homes) R → Stands device (framed j' pins' homes') R) → j' ≡ j
      → HasAdded device (framed j pins homes) (framed j' pins' homes') []
  nothing_added j j' pins pins' homes homes' are stands same =
      none_added device one law (framed j pins homes) (framed j' pins' homes') are stands
      (λ up. ap (λ (k : JournalValue D). down_of k.wal) (sym same) ∙ up)
      (ap (λ (k : JournalValue D). k.owes) same) (ap (λ (k : JournalValue D). k.state.records) same)

  -- what holds of each legal log that frames stand for
  pub behind_on : (j j' : JournalValue D) (pins pins' : List (Option PinInUse)) (homes homes' : List Home)
      (X Y : Log → Type 0) → AreFrames device (framed j pins homes)
      → ((R : Log) → Stands device (framed j pins homes) R → Stands device (framed j' pins' homes') R)
      → (down_of j'.wal ≡ None → down_of j.wal ≡ None) → Behind device (framed j pins homes) X
      → ((R : Log) → device.tells → down_of j.wal ≡ None → down_of j'.wal ≡ None
      → Stands device (framed j pins homes) R → Stands device (framed j' pins' homes') R → IsLegal R → X R
      → Y R) → Behind device (framed j' pins' homes') Y
  behind_on j j' pins pins' homes homes' X Y are stands back behind on =
      behind_one device one law (framed j' pins' homes') Y are.log (stands are.log are.stands).journal
      (λ t up legal. on are.log t (back up) up are.stands (stands are.log are.stands) legal
      (behind t (back up) are.log are.stands legal))

  -- the same pages are held by a pass that has seen more
  pub holds_on : (j j' : JournalValue D) (pins pins' : List (Option PinInUse)) (homes : List Home) (pass pass' : Pass)
      (held : List Sheet) → AreFrames device (framed j pins homes)
      → ((R : Log) → Stands device (framed j pins homes) R → Stands device (framed j' pins' homes) R)
      → (down_of j'.wal ≡ None → down_of j.wal ≡ None) → IsPassOf (framed j' pins' homes) pass'
      → pass'.held ≡ pass.held → IsHolding device (framed j pins homes) pass held
      → IsHolding device (framed j' pins' homes) pass' held
  holds_on j j' pins pins' homes pass pass' held are stands back of same h = record {
    all = h.all ∙ sym same;
    away = h.away;
    once = h.once;
    allowed = behind_on j j' pins pins' homes homes (λ R. IsAllowed (view_of (framed j pins homes) pass R held) R)
        (λ R. IsAllowed (view_of (framed j' pins' homes) pass' R held) R) are stands back h.allowed
        (λ R t up up' s s' legal a. at_hand device (framed j' pins' homes)
        pass' R a.pages held t up' s' legal of a.shown a.held);
  }

  -- a pass that holds nothing
  pub holds_none : (f : FramesValue D) (pass : Pass) → IsPassOf f pass → pass.held ≡ 0 → IsHolding device f pass []
  holds_none f pass of none = none_held device f pass of none

  -- a page more is held
  taken_apart : (homes homes' : List Home) (page : ℕ) (c : Page) → HasTaken homes homes' page c → (xs : List Sheet)
      → AllByRecursion (λ (x : Sheet). IsAway homes x.page × (x.page < length homes)) xs
      → AllByRecursion (λ (q : ℕ). page ≢ q) (sheet_pages xs)
  taken_apart homes homes' page c taken [] all = tt
  taken_apart homes homes' page c taken (x ∷ xs) all = (
    λ e. lies_here (home_at homes page) c taken.lies (subst (IsAway homes) (sym e) (all.0).0),
    taken_apart homes homes' page c taken xs all.1,
  )

  taken_away : (homes homes' : List Home) (page : ℕ) (c : Page) → HasTaken homes homes' page c → (xs : List Sheet)
      → AllByRecursion (λ (x : Sheet). IsAway homes x.page × (x.page < length homes)) xs
      → AllByRecursion (λ (x : Sheet). IsAway homes' x.page × (x.page < length homes')) xs
  taken_away homes homes' page c taken [] all = tt
  taken_away homes homes' page c taken (x ∷ xs) all = (
    (
      taken.others x.page (λ e. lies_here (home_at homes page) c taken.lies (subst (IsAway homes) e (all.0).0))
          ∙ (all.0).0,
      omega (arith, (all.0).1, taken.longer),
    ),
    taken_away homes homes' page c taken xs all.1,
  )

  -- the pages that a log shows, with the bytes of a home
  content_shown : (R : Log) (P : Pages) (page : ℕ) (c : Page) → IsPage c → Shows R P → replay R page ≡ page_bytes c
      → P page ≡ c
  content_shown R P page c is shown same = page_told (P page) c (shown page).0 is ((shown page).1 ∙ same)

  -- a page more is held
  pub holds_more : (j : JournalValue D) (pins : List (Option PinInUse)) (homes homes' : List Home) (page : ℕ)
      (c : Page) (pass : Pass) (n : ℕ) (held : List Sheet) → AreFrames device (framed j pins homes)
      → HasTaken homes homes' page c → IsHolding device (framed j pins homes) pass held
      → IsHolding device (framed j pins homes') (record pass { held = pass.held + 1; holds = n })
      (record { page = page; content = c } ∷ held)
  holds_more j pins homes homes' page c pass n held are taken h = record {
    all = omega (arith, h.all);
    away = ((taken.away, taken.there), taken_away homes homes' page c taken held h.away);
    once = (taken_apart homes homes' page c taken held h.away, h.once);
    allowed = behind_on j j pins pins homes homes' (λ R. IsAllowed (view_of (framed j pins homes) pass R held) R)
        (λ R. IsAllowed (view_of (framed j pins homes') (record pass { held = pass.held + 1; holds = n }) R
        (record { page = page; content = c } ∷ held)) R)
        are (homes_stand j pins homes homes' (λ R. taken_shows homes homes' page c R taken)) (λ up. up) h.allowed
        (λ R t up up' s s' legal a. record {
          later = a.later;
          goes_on = a.goes_on;
          others = others_same (view_of (framed j pins homes) pass R held)
              (record { page = page; content = c } ∷ held) a.later a.others;
          legal = a.legal;
          keeps = a.keeps;
          pages = a.pages;
          shown = a.shown;
          held = (
            content_shown R a.pages page c taken.is_page a.shown
                (lies_shown (home_at homes page) c (replay R page) taken.lies (s.homes t up legal page)),
            a.held,
          );
          read = a.read;
        });
  }
    where
      others_same : (v : View) (held' : List Sheet) (later : Log) → AreOthers v later
          → AreOthers (record v { held = held' }) later
      others_same v held' [] o = tt
      others_same v held' (r ∷ rs) o = (
        record {
          not_own = (o.0).not_own;
          not_all = (o.0).not_all;
          not_work = (o.0).not_work;
        },
        others_same v held' rs o.1,
      )

  pub taken_frames : (j : JournalValue D) (pins : List (Option PinInUse)) (homes homes' : List Home) (page : ℕ)
      (c : Page) → HasTaken homes homes' page c → AreFrames device (framed j pins homes)
      → AreFrames device (framed j pins homes')
  taken_frames j pins homes homes' page c taken are = record {
    log = are.log;
    stands = homes_stand j pins homes homes' (λ R. taken_shows homes homes' page c R taken) are.log are.stands;
    some = are.some;
    pages = taken_pages homes homes' page c taken are.pages;
  }

  pub alike_frames : (j : JournalValue D) (pins : List (Option PinInUse)) (homes homes' : List Home)
      → AreAlike homes homes' → AreFrames device (framed j pins homes) → AreFrames device (framed j pins homes')
  alike_frames j pins homes homes' alike are = record {
    log = are.log;
    stands = homes_stand j pins homes homes' (λ R. alike_shows homes homes' R alike) are.log are.stands;
    some = are.some;
    pages = alike_pages homes homes' alike are.pages;
  }

  alike_away : (homes homes' : List Home) → AreAlike homes homes' → (xs : List Sheet)
      → AllByRecursion (λ (x : Sheet). IsAway homes x.page × (x.page < length homes)) xs
      → AllByRecursion (λ (x : Sheet). IsAway homes' x.page × (x.page < length homes')) xs
  alike_away homes homes' alike [] all = tt
  alike_away homes homes' alike (x ∷ xs) all = (
    (
      alike.each x.page ∙ (all.0).0,
      omega (arith, (all.0).1, alike.longer),
    ),
    alike_away homes homes' alike xs all.1,
  )

  -- no page more is held
  pub holds_still : (j : JournalValue D) (pins : List (Option PinInUse)) (homes homes' : List Home) (pass : Pass)
      (held : List Sheet) → AreFrames device (framed j pins homes) → AreAlike homes homes'
      → IsHolding device (framed j pins homes) pass held → IsHolding device (framed j pins homes') pass held
  holds_still j pins homes homes' pass held are alike h = record {
    all = h.all;
    away = alike_away homes homes' alike held h.away;
    once = h.once;
    allowed = behind_on j j pins pins homes homes' (λ R. IsAllowed (view_of (framed j pins homes) pass R held) R)
        (λ R. IsAllowed (view_of (framed j pins homes') pass R held) R)
        are (homes_stand j pins homes homes' (λ R. alike_shows homes homes' R alike)) (λ up. up) h.allowed
        (λ R t up up' s s' legal a. a);
  }

  pub still_added : (f : FramesValue D) → AreFrames device f → HasAdded device f f []
  still_added f are = nothing_added f.journal f.journal f.pins f.pins f.homes f.homes are (λ R s. s) refl
