-- A held page that is given back, and pages that lie in memory again.
use Rattle.std.proofs.Common.{◌≡◌, ◌≢◌, ◌<◌, ◌-◌, ℕ, suc, List, [], ◌∷◌, length, sym, subst, ◌∙◌, inl, inr, arith}
use Rattle.std.specs.Prelude.{Option, None, set}
use Rattle.std.specs.List.{AllByRecursion}
use Rattle.std.proofs.lemmas.List.{get_or-set_other, length-set}
use Rattle.disk_trait.specs.Runs.{images_now}
use Rattle.disk_trait.specs.declared.device.Disk.{Ghosts as Disk}
use Rattle.wal.specs.Waiting.{down_of}
use Rattle.page_types.specs.Pages.{IsPage}
use Rattle.core_state.specs.Log.{Log, Pages, In, Shows}
use Rattle.core_state.specs.Legal.{IsLegal}
use Rattle.core_state.specs.Allowed.{Sheet, IsAllowed, AreHeld, sheet_pages}
use Rattle.snap_pins.specs.declared.Pin.{Pin as PinInUse}
use Rattle.buffer_frames.specs.NoStore.{CountedAreOne}
use Rattle.buffer_frames.specs.Homes.{IsAway, HasPut}
use Rattle.buffer_frames.specs.Journals.{JournalValue}
use Rattle.buffer_frames.specs.Journals as journals
use Rattle.buffer_frames.specs.Frames.{KeepsPins, Stands, AreFrames}
use Rattle.buffer_frames.specs.Passes.{IsPassOf, IsHolding, view_of}
use Rattle.buffer_frames.specs.declared.home.Home.{Home}
use Rattle.buffer_frames.specs.declared.home.Home.TheVariants.{Free, Content}
use Rattle.buffer_frames.specs.declared.pass.Pass.{Pass}
use Rattle.buffer_frames.proofs.AtHand.{at_hand}
use Rattle.buffer_frames.proofs.FramesKept.{framed, behind_on}
use Rattle.buffer_frames.proofs.HomesPut.{none_put, put_more, put_shows, put_pages, held_bytes}

module _ {D : Type 0} (device : Disk D) (one : CountedAreOne)
    (law : device.tells → (d : D) → images_now device d (device.seen d)) where
  -- what was held lies there again, over a journal that stands for the same log
  pub put_stands : (j j' : JournalValue D) (pins : List (Option PinInUse)) (homes homes' : List Home)
      (xs : List Sheet) → ((R : Log) → journals.IsJournalOf device j R → journals.IsJournalOf device j' R)
      → (down_of j'.wal ≡ None → down_of j.wal ≡ None)
      → ((R : Log) → device.tells → down_of j'.wal ≡ None → Stands device (framed j pins homes) R → IsLegal R
      → KeepsPins R pins j'.flushed)
      → ((R : Log) → device.tells → down_of j.wal ≡ None → Stands device (framed j pins homes) R → IsLegal R
      → (P : Pages) × Shows R P × AreHeld P xs) → HasPut homes homes' xs → (R : Log) → Stands device (framed j
      pins homes) R → Stands device (framed j' pins homes') R
  put_stands j j' pins homes homes' xs stands back keeps held put R s = record {
    journal = stands R s.journal;
    homes = λ t up legal.
        let a = held R t (back up) s legal in
        put_shows homes homes' xs R put (held_bytes R a.0 xs a.1 a.2) (λ p off. s.homes t (back up) legal p);
    pins = λ t up legal. keeps R t up s legal;
  }

  others_away : (homes : List Home) (x : Sheet) (others : List Sheet)
      → AllByRecursion (λ (q : ℕ). x.page ≢ q) (sheet_pages others)
      → AllByRecursion (λ (y : Sheet). IsAway homes y.page × (y.page < length homes)) others
      → AllByRecursion (λ (y : Sheet). IsAway (set homes x.page (Content x.content)) y.page
      × (y.page < length (set homes x.page (Content x.content)))) others
  others_away homes x [] apart all = tt
  others_away homes x (y ∷ others) apart all = (
    (
      get_or-set_other homes x.page y.page (Content x.content) Free (λ e. apart.0 (sym e)) ∙ (all.0).0,
      omega (arith, (all.0).1, length-set homes x.page (Content x.content)),
    ),
    others_away homes x others apart.1 all.1,
  )

  pub one_put : (homes : List Home) (x : Sheet) → x.page < length homes
      → HasPut homes (set homes x.page (Content x.content)) (x ∷ [])
  one_put homes x lt = put_more homes homes x [] (none_put homes) lt (λ i. i)

  one_less : (n m : ℕ) → suc m ≡ n → m ≡ n - 1
  one_less n m e = omega (arith, e)

  pub holds_less : (j : JournalValue D) (pins : List (Option PinInUse)) (homes : List Home) (pass : Pass) (x : Sheet)
      (others : List Sheet) → AreFrames device (framed j pins homes)
      → ((R : Log) → Stands device (framed j pins homes) R
      → Stands device (framed j pins (set homes x.page (Content x.content))) R)
      → IsHolding device (framed j pins homes) pass (x ∷ others)
      → IsPassOf (framed j pins (set homes x.page (Content x.content))) (record pass { held = pass.held - 1 })
      → IsHolding device (framed j pins (set homes x.page (Content x.content))) (record pass { held = pass.held - 1 })
      others
  holds_less j pins homes pass x others are stands h of = record {
    all = one_less pass.held (length others) h.all;
    away = others_away homes x others h.once.0 h.away.1;
    once = h.once.1;
    allowed = behind_on device one law j j pins pins homes (set homes x.page (Content x.content))
        (λ R. IsAllowed (view_of (framed j pins homes) pass R (x ∷ others)) R)
        (λ R. IsAllowed (view_of (framed j pins (set homes x.page (Content x.content)))
        (record pass { held = pass.held - 1 }) R others) R)
        are stands (λ up. up) h.allowed
        (λ R t up up' s s' legal a. at_hand device (framed j pins (set homes x.page (Content x.content)))
        (record pass { held = pass.held - 1 }) R a.pages others t up' s' legal of a.shown a.held.1);
  }

  pub released_stands : (j : JournalValue D) (pins : List (Option PinInUse)) (homes : List Home) (pass : Pass)
      (x : Sheet) (others : List Sheet) → IsHolding device (framed j pins homes) pass (x ∷ others) → (R : Log)
      → Stands device (framed j pins homes) R
      → Stands device (framed j pins (set homes x.page (Content x.content))) R
  released_stands j pins homes pass x others h =
      put_stands j j pins homes (set homes x.page (Content x.content)) (x ∷ []) (λ R s. s) (λ up. up)
      (λ R t up s legal. s.pins t up legal)
      (λ R t up s legal. let a = h.allowed t up R s legal in (a.pages, a.shown, (a.held.0, tt)))
      (one_put homes x (h.away.0).1)

  pub released_frames : (j : JournalValue D) (pins : List (Option PinInUse)) (homes : List Home) (pass : Pass)
      (x : Sheet) (others : List Sheet) → IsPage x.content → AreFrames device (framed j pins homes)
      → IsHolding device (framed j pins homes) pass (x ∷ others)
      → AreFrames device (framed j pins (set homes x.page (Content x.content)))
  released_frames j pins homes pass x others is are h = record {
    log = are.log;
    stands = released_stands j pins homes pass x others h are.log are.stands;
    some = are.some;
    pages = put_pages homes (set homes x.page (Content x.content)) (x ∷ []) (one_put homes x (h.away.0).1)
        (λ y i. only y i) are.pages;
  }
    where
      only : (y : Sheet) → In y (x ∷ []) → IsPage y.content
      only y (inl e) = subst (λ (z : Sheet). IsPage z.content) (sym e) is
      only y (inr i) = absurd i
