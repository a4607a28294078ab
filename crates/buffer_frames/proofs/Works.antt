-- Frames of which nothing has changed but who has the right of maintenance.
use Rattle.std.proofs.Common.{◌≡◌, ℕ, List, [], refl, sym, ◌∙◌, arith}
use Rattle.std.specs.Prelude.{Option, Some, None, IfSome}
use Rattle.disk_trait.specs.Runs.{images_now}
use Rattle.disk_trait.specs.declared.device.Disk.{Ghosts as Disk}
use Rattle.wal.proofs.Paging.{kept_still}
use Rattle.core_state.specs.Log.{Log}
use Rattle.core_state.specs.Allowed.{Sheet, IsAllowed}
use Rattle.buffer_frames.specs.NoStore.{CountedAreOne}
use Rattle.buffer_frames.specs.Beginnings.{BeginsOn}
use Rattle.buffer_frames.specs.Journals.{RestsFrom}
use Rattle.buffer_frames.specs.Journals as journals
use Rattle.buffer_frames.specs.Frames.{FramesValue, Stands, AreFrames, RunsOn}
use Rattle.buffer_frames.specs.Passes.{IsPassOf, IsHolding, view_of, SeesOn, HasAdded, with_right}
use Rattle.buffer_frames.specs.declared.pass.Pass.{Pass}
use Rattle.buffer_frames.proofs.Added.{none_added}
use Rattle.buffer_frames.proofs.AtHand.{at_hand, behind_one}
use Rattle.buffer_frames.proofs.Logged.{last_number, number_within}
use Rattle.buffer_frames.proofs.PassesKept.{sees_after}

-- what the pass then has
abbrev pub holds_right : Pass → Option ℕ → Pass
holds_right pass work = record pass { work = work }

module _ {D : Type 0} (f : FramesValue D) where
  -- the pass has got it
  pub claimed_pass : (n : ℕ) → n ≡ f.journal.state.records → (pass : Pass) → IsPassOf f pass
      → IsPassOf (with_right (Some n) f) (holds_right pass (Some n))
  claimed_pass n is pass of = record {
    some = of.some;
    seen = of.seen;
    all = of.all;
    none_owed = of.none_owed;
    shown = of.shown;
    pin = of.pin;
    free = of.free;
    few = of.few;
    now = of.now;
    below = of.below;
    work = (omega (arith, is), omega arith);
  }

  -- and has given it back
  pub given_pass : (pass : Pass) → IsPassOf f pass → IsPassOf (with_right None f) (holds_right pass None)
  given_pass pass of = record {
    some = of.some;
    seen = of.seen;
    all = of.all;
    none_owed = of.none_owed;
    shown = of.shown;
    pin = of.pin;
    free = of.free;
    few = of.few;
    now = of.now;
    below = of.below;
    work = tt;
  }

module _ {D : Type 0} (device : Disk D) (f : FramesValue D) (work : Option ℕ) where
  abbrev new : FramesValue D
  new = with_right work f

  -- the journal stands for the logs that it stood for
  journal_stands : ((R : Log) → journals.IsJournalOf device f.journal R → IfSome work (λ n. RestsFrom n R)) → (R : Log)
      → journals.IsJournalOf device f.journal R → journals.IsJournalOf device new.journal R
  journal_stands rests R s = record {
    counted = s.counted;
    waits = s.waits;
    all = s.all;
    numbered = s.numbered;
    state = s.state;
    flushed = s.flushed;
    waiting_is = s.waiting_is;
    settled = s.settled;
    work = rests R s;
  }

  module _ (rests : (R : Log) → journals.IsJournalOf device f.journal R → IfSome work (λ n. RestsFrom n R)) where
    frames_stand : (R : Log) → Stands device f R → Stands device new R
    frames_stand R s = record {
      journal = journal_stands rests R s.journal;
      homes = s.homes;
      pins = s.pins;
    }

    pub right_frames : AreFrames device f → AreFrames device new
    right_frames are = record {
      log = are.log;
      stands = frames_stand are.log are.stands;
      some = are.some;
      pages = are.pages;
    }

    pub right_begins : BeginsOn device f.journal new.journal
    right_begins t found R H k = record {
      stands = journal_stands rests R k.stands;
      log_of = k.log_of;
      goes_on = k.goes_on;
      later = k.later;
      images = k.images;
      before = k.before;
    }

    module _ (one : CountedAreOne) (law : device.tells → (d : D) → images_now device d (device.seen d))
        (are : AreFrames device f) where
      pub right_added : HasAdded device f new []
      right_added = none_added device one law f new are frames_stand (λ up. up) refl refl

      pub right_sees : (pass pass' : Pass) → IsPassOf f pass → pass'.seen ≡ pass.seen → SeesOn device new pass pass'
      right_sees pass pass' of same =
          sees_after device one law f new pass pass' are (journal_stands rests) (λ up. up) of (omega (arith, same))
          (omega (arith, same, of.seen))

      pub right_holds : (pass pass' : Pass) (held : List Sheet) → IsPassOf new pass' → pass'.held ≡ pass.held
          → IsHolding device f pass held → IsHolding device new pass' held
      right_holds pass pass' held of same h = record {
        all = h.all ∙ sym same;
        away = h.away;
        once = h.once;
        allowed = behind_one device one law new (λ R. IsAllowed (view_of new pass' R held) R) are.log
            (journal_stands rests are.log (are.stands).journal)
            (λ t up legal.
            let a = h.allowed t up are.log are.stands legal in
            at_hand device new pass' are.log a.pages held t up (frames_stand are.log are.stands) legal of a.shown
            a.held);
      }

  pub right_runs : RunsOn device f new
  right_runs = record {
    limit = refl;
    opened = refl;
    flushed = omega arith;
    before = λ t m c le left. left;
    since = λ t found R H k c commits le has. has;
    pages = λ t. kept_still device f.journal.disk;
    up = λ up. up;
  }

-- no record of a log has a number above the log's length
pub claimed_rests : {D : Type 0} (device : Disk D) (f : FramesValue D) (n : ℕ) → n ≡ f.journal.state.records
    → (R : Log) → journals.IsJournalOf device f.journal R → RestsFrom n R
claimed_rests device f n is R s r i lt work =
    omega (arith, lt, is, number_within R s.numbered r i, last_number f.journal.state R s.state s.numbered)
