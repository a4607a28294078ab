-- What pages in memory stand for once a step is logged.
use Rattle.std.proofs.Common.{◌≡◌, ◌⊎◌, ◌≤◌, ◌+◌, cond, ℕ, suc, Bool, true, false, List, [], ◌∷◌, ◌++◌}
use Rattle.std.proofs.Common.{length, refl, sym, ap, subst, ◌∙◌, arith}
use Rattle.std.specs.Prelude.{Option, Some, None}
use Rattle.disk_trait.specs.Runs.{images_now}
use Rattle.disk_trait.specs.declared.device.Disk.{Ghosts as Disk}
use Rattle.wal.specs.Waiting.{down_of}
use Rattle.page_types.specs.Encoding.{page_bytes}
use Rattle.page_types.specs.Records.{kind_number}
use Rattle.page_types.specs.declared.record.Kind.{Kind}
use Rattle.page_types.specs.declared.record.Kind.TheVariants as kind
use Rattle.page_types.specs.declared.record.Record.{Record}
use Rattle.core_state.specs.Log.{Log, Pages, In, Shows, changed, cut, replay}
use Rattle.core_state.specs.Legal.{IsLegal, Keeps}
use Rattle.core_state.specs.Allowed.{Sheet, AreOthers, Step, Leaves, MayLog, Owes}
use Rattle.core_state.specs.Allowed.{sheet_pages}
use Rattle.core_state.specs.Laws.{MadeIsPage}
use Rattle.core_state.specs.Logged.{pin_now}
use Rattle.core_state.specs.States.{StateValue, step_of}
use Rattle.core_state.proofs.Newest.{legal_less, cut_less}
use Rattle.core_state.proofs.Showing.{replay_kept, shown_one}
use Rattle.snap_pins.specs.declared.Pin.{Pin as PinInUse}
use Rattle.buffer_frames.specs.NoStore.{CountedAreOne}
use Rattle.buffer_frames.specs.Drawing.{HasEncoding, kind_by, value_by, front_of, made_sheets}
use Rattle.buffer_frames.specs.Opens.{IsLoggedKind}
use Rattle.buffer_frames.specs.Journals.{JournalValue, lasting, owed_abort, with_owed, after_owed, logged, next_record}
use Rattle.buffer_frames.specs.Journals.{CanDraw, MayFollow, next_number, is_work, work_after}
use Rattle.buffer_frames.specs.Journals as journals
use Rattle.buffer_frames.specs.Homes.{home_at, ShowsBytes, HavePages, HasPut}
use Rattle.buffer_frames.specs.Frames.{FramesValue, HomesShow, Stands, Behind, AreFrames, pin_of}
use Rattle.buffer_frames.specs.Passes.{IsPassOf, IsHolding, view_of, Seen, IsLogged, GoesOnBy, HasAdded, xid_after}
use Rattle.buffer_frames.specs.declared.home.Home.{Home}
use Rattle.buffer_frames.specs.declared.pass.Pass.{Pass}
use Rattle.buffer_frames.proofs.AtHand.{log_length, cut_whole, behind_one}
use Rattle.buffer_frames.proofs.Beginning.{stands_one}
use Rattle.core_state.proofs.Bounds.{step_marks}
use Rattle.buffer_frames.proofs.DrawnRecords.{pages_same, owed_number, draws_alike}
use Rattle.buffer_frames.proofs.FramesKept.{framed}
use Rattle.buffer_frames.proofs.GrowingCommits.{flushed_since, flushed_more}
use Rattle.buffer_frames.proofs.HomesPut.{put_shows, put_pages, held_bytes}
use Rattle.buffer_frames.proofs.PassesOf.{of_logged}
use Rattle.buffer_frames.proofs.StepSheets.{made_in, made_pages, made_are}
use Rattle.buffer_frames.proofs.StepsLogged.{StepStays, step_stays}

-- the owed Abort changes no page
owed_kept : (owes : Bool) (R : Log) (p : ℕ) → replay (with_owed owes R) p ≡ replay R p
owed_kept true R p = replay_kept R (owed_abort (1 + length R)) p (λ i. i)
owed_kept false R p = refl

owed_legal : (owes : Bool) (R : Log) → IsLegal (with_owed owes R) → IsLegal R
owed_legal true R l = legal_less (owed_abort (1 + length R)) R l
owed_legal false R l = l

-- a kind that is drawn has its number
pub number_drawn : (s : StateValue) (k : Kind) → kind_number (kind_by s k) ≡ kind_number k
number_drawn s (kind.Commit n) = refl
number_drawn s (kind.PlaceHead item serial) = refl
number_drawn s _ = refl

-- the xid that a pass then has
pub xid_drawn : (owes : Bool) (s : StateValue) (k : Kind) (next value : ℕ) (xid : Option ℕ)
    → next ≡ suc (length s.fates) → value ≡ value_by (after_owed owes s) k
    → xid_after k next xid ≡ xid_after k value xid
xid_drawn owes s kind.Begin next value xid e v = ap Some (e ∙ ap suc (sym (draws_alike owes s).fates) ∙ sym v)
xid_drawn owes s _ next value xid e v = refl

-- a log that is longer begins the same
cut_more : (owes : Bool) (r : Record) (R : Log) (n : ℕ) → n ≤ length R → cut n (logged owes r R) ≡ cut n R
cut_more true r R n le =
    cut_less n r (owed_abort (1 + length R) ∷ R) (omega (arith, le)) ∙ cut_less n (owed_abort (1 + length R)) R le
cut_more false r R n le = cut_less n r R le

-- others are so at each log
others_as : {D : Type 0} (f f' : FramesValue D) (pass : Pass) (R S : Log) (held : List Sheet) (later : Log)
    → AreOthers (view_of f pass R held) later → AreOthers (view_of f' pass S held) later
others_as f f' pass R S held [] o = tt
others_as f f' pass R S held (r ∷ rs) o = (
  record { not_own = (o.0).not_own; not_all = (o.0).not_all; not_work = (o.0).not_work },
  others_as f f' pass R S held rs o.1,
)

-- what a call that logs a step knows of the frames, the pass and the step
pub record IsAsked {D : Type 0} (device : Disk D) (f : FramesValue D) (pass : Pass)
    (held : List Sheet) (step : Step) : Type 0 where
  pub are : AreFrames device f
  pub of : IsPassOf f pass
  pub holding : IsHolding device f pass held
  pub encoded : HasEncoding step
  pub kind : IsLoggedKind step.kind
  pub may : Behind device f (λ R. MayLog (view_of f pass R held) step)
  pub owes : (R : Log) → Stands device f R → Owes (view_of f pass R held) step

module _ {D : Type 0} (device : Disk D) where
  -- so it is inside the frames
  pub asked_of : (k f : FramesValue D) (pass : Pass) (held : List Sheet) (step : Step) → k ≡ f
      → AreFrames device k → IsPassOf f pass → IsHolding device f pass held → HasEncoding step
      → IsLoggedKind step.kind → Behind device f (λ R. MayLog (view_of f pass R held) step)
      → ((R : Log) → Stands device f R → Owes (view_of f pass R held) step)
      → IsAsked device k pass held step
  asked_of k f pass held step is are of holding encoded kind may owes =
      let back : f ≡ k = sym is in
      record {
        are = are;
        of = subst (λ (x : FramesValue D). IsPassOf x pass) back of;
        holding = subst (λ (x : FramesValue D). IsHolding device x pass held) back holding;
        encoded = encoded;
        kind = kind;
        may = subst (λ (x : FramesValue D). Behind device x (λ R. MayLog (view_of x pass R held) step)) back
            may;
        owes = subst (λ (x : FramesValue D). (R : Log) → Stands device x R → Owes (view_of x pass R held) step)
            back owes;
      }

-- what it knows once the journal has logged the step
pub record HasStepped {D : Type 0} (device : Disk D) (j j' : JournalValue D) (step : Step)
    : Type 0 where
  pub up : down_of j.wal ≡ None
  pub can : CanDraw j step
  pub stands : (R : Log) → journals.IsJournalOf device j R
      → journals.IsJournalOf device j' (logged j.owes (next_record j step) R)
  pub flushed : (j'.flushed ≡ j.flushed) ⊎ (j'.flushed ≡ length j.state.deleted)
  pub state : j'.state ≡ step_of (next_record j step) (after_owed j.owes j.state)
  pub none_owed : j'.owes ≡ false
  pub work : j'.work ≡ work_after step.kind (next_number j) j.work

-- the record is one more
pub records_more : {D : Type 0} (j j' : JournalValue D) (step : Step)
    → j'.state ≡ step_of (next_record j step) (after_owed j.owes j.state)
    → j.state.records ≤ j'.state.records
records_more j j' step is =
    let number : j'.state.records ≡ (next_record j step).number =
    ap (λ (v : StateValue). v.records) is
    ∙ ap (λ (t : ℕ × ℕ × ℕ). t.2) (step_marks (next_record j step) (after_owed j.owes j.state)) in
    go j.owes (number ∙ owed_number j.owes j.state)
  where
    go : (b : Bool) → j'.state.records ≡ 1 + (j.state.records + cond b 1 0)
        → j.state.records ≤ j'.state.records
    go true e = omega (arith, e)
    go false e = omega (arith, e)

-- a record that is no maintenance leaves what is noted of it
pub work_rests : (k : Kind) (n : ℕ) (o : Option ℕ) → is_work k ≡ false → work_after k n o ≡ o
work_rests k n None rests = refl
work_rests k n (Some m) rests = ap (λ (b : Bool). Some (cond b n m)) rests

-- so a pass that has seen all has seen its number
number_seen : {D : Type 0} (j j' : JournalValue D) (step : Step) (n : ℕ) → n ≡ j'.state.records
    → j'.state ≡ step_of (next_record j step) (after_owed j.owes j.state) → next_number j ≤ n
number_seen j j' step n all is =
    omega (
      arith,
      all,
      ap (λ (v : StateValue). v.records) is
          ∙ ap (λ (t : ℕ × ℕ × ℕ). t.2) (step_marks (next_record j step) (after_owed j.owes j.state))
          ∙ owed_number j.owes j.state,
    )

module _ {D : Type 0} (device : Disk D) (one : CountedAreOne)
    (law : device.tells → (d : D) → images_now device d (device.seen d)) (j : JournalValue D)
    (pins : List (Option PinInUse)) (homes : List Home) (pass : Pass) (held : List Sheet)
    (step : Step) (asked : IsAsked device (framed j pins homes) pass held step) where
  abbrev old : FramesValue D
  old = framed j pins homes

  abbrev next : Record
  next = next_record j step

  -- the log with the step's record
  abbrev after : Log → Log
  after R = logged j.owes next R

  -- the step's record after a log
  stays_at : device.tells → down_of j.wal ≡ None → CanDraw j step → (R : Log) (s : Stands device old R)
      → IsLegal R → (flushed : ℕ) → j.flushed ≤ flushed → Keeps R (pin_now flushed R)
      → StepStays old pass held step R flushed
  stays_at t up can R s legal flushed more now =
      step_stays device old pass held step R flushed s legal asked.of (asked.are).some more now
      ((asked.holding).allowed t up R s legal) (asked.may t up R s legal) (asked.owes R s) asked.encoded
      asked.kind can

  -- so it may follow the journal
  pub may_follow : MayFollow device j step
  may_follow t up can R s legal =
      let S : Log = (asked.are).log in
      let at = (asked.are).stands in
      let same : S ≡ R = stands_one device one (law t) j S R at.journal s t up in
      let l : IsLegal S = subst IsLegal (sym same) legal in
      let stays = stays_at t up can S at l j.flushed (omega arith) (at.pins t up l).now in
      subst (λ (T : Log). IsLegal (after T)) same (stays.stays).legal

  -- the record names no page that isn't held
  not_changed : (p : ℕ) → (In p (sheet_pages step.after) → ⊥) → In p (changed next) → ⊥
  not_changed p off i =
      off (subst (In p) (pages_same (front_of (after_owed j.owes j.state) step) step.after) i)

  -- the record is one of the step's kind
  goes_on : (R : Log) → GoesOnBy j.owes R (after R) (kind_number step.kind ∷ [])
  goes_on R = record {
    added = next ∷ [];
    log_is = refl;
    kinds_are = ap (λ (n : ℕ). n ∷ []) (number_drawn (after_owed j.owes j.state) step.kind);
  }

  module _ (j' : JournalValue D) (mid homes' : List Home) (stepped : HasStepped device j j' step)
      (put_old : HasPut homes mid held) (put_new : HasPut mid homes' (made_sheets next step.after)) where
    abbrev new : FramesValue D
    new = framed j' pins homes'

    -- what holds after a legal log, where the one with the record is legal
    at_legal : device.tells → (R : Log) (s : Stands device old R) → IsLegal (after R)
        → IsLegal R × StepStays old pass held step R j'.flushed
    at_legal t R s legal =
        let up = stepped.up in
        let before : IsLegal R = owed_legal j.owes R (legal_less next (with_owed j.owes R) legal) in
        let f = flushed_since device R j j' s.journal before (s.pins t up before).now stepped.flushed in
        (before, stays_at t up stepped.can R s before j'.flushed f.0 f.1)

    bytes_at : (R : Log) → StepStays old pass held step R j'.flushed → (x : Sheet)
        → In x (made_sheets next step.after) → replay (after R) x.page ≡ page_bytes x.content
    bytes_at R stays x i =
        let y = made_in next step.after x i in
        ap (λ (z : Sheet). replay (after R) z.page) y.2 ∙ (stays.made).bytes y.0 y.1
        ∙ ap (λ (z : Sheet). page_bytes z.content) (sym y.2)

    -- a page that the step doesn't leave
    same_at : (R : Log) (p : ℕ) → (In p (sheet_pages step.after) → ⊥) → replay (after R) p ≡ replay R p
    same_at R p off =
        replay_kept (with_owed j.owes R) next p (not_changed p off) ∙ owed_kept j.owes R p

    shows_at : device.tells → (R : Log) (s : Stands device old R) → IsLegal (after R)
        → HomesShow homes' (after R)
    shows_at t R s legal =
        let before = at_legal t R s legal in
        let a = (asked.holding).allowed t stepped.up R s before.0 in
        put_shows mid homes' (made_sheets next step.after) (after R) put_new (bytes_at R before.1)
        (λ p off.
        let out : In p (sheet_pages step.after) → ⊥ =
        λ i. off (subst (In p) (sym (made_pages next step.after)) i) in
        subst (ShowsBytes (home_at mid p)) (sym (same_at R p out))
        (put_shows homes mid held R put_old (held_bytes R a.pages held a.shown a.held)
        (λ q away. s.homes t stepped.up before.0 q) p))

    pub new_stands : (R : Log) → Stands device old R → Stands device new (after R)
    new_stands R s = record {
      journal = stepped.stands R s.journal;
      homes = λ t up legal. shows_at t R s legal;
      pins = λ t up legal.
          let before = at_legal t R s legal in
          let stays = before.1 in
          record {
            each = λ place p pinned.
                let b = (asked.of).below place p pinned in
                (stays.stays).keeps (pin_of p) (record { floor = b.0; since = b.1 })
                ((stays.owed).keeps (pin_of p) ((s.pins t stepped.up before.0).each place p pinned));
            now = (stays.stays).now;
          };
    }

    pub stepped_frames : HavePages homes' → AreFrames device new
    stepped_frames have = record {
      log = after (asked.are).log;
      stands = new_stands (asked.are).log (asked.are).stands;
      some = omega (arith, (asked.are).some, records_more j j' step stepped.state);
      pages = have;
    }

    pub stepped_pages : MadeIsPage → HavePages mid → HavePages homes'
    stepped_pages law have =
        put_pages mid homes' (made_sheets next step.after) put_new
        (made_are law step next (stepped.can).encoded asked.encoded) have

    pub step_added : HasAdded device old new (kind_number step.kind ∷ [])
    step_added = record {
      on = λ R s. (after R, new_stands R s, goes_on R);
      back = λ t up S s.
          let R : Log = (asked.are).log in
          let at = (asked.are).stands in
          let same : after R ≡ S =
          stands_one device one (law t) j' (after R) S (stepped.stands R at.journal) s.journal t up in
          (R, at, subst (λ (T : Log). GoesOnBy j.owes R T (kind_number step.kind ∷ [])) same (goes_on R));
      was_up = λ up. stepped.up;
      owes = stepped.none_owed;
      longer = records_more j j' step stepped.state;
    }

    -- what the pass has then seen, after a log that was allowed to it
    seen_at : (R : Log) → StepStays old pass held step R j'.flushed → pass.seen ≤ length R → (P : Pages)
        → Shows (after R) P → IsLogged (view_of new pass (after R) held) step (after R) P
    seen_at R stays within P shown =
        let a = (stays.owed).allowed in
        record {
          log = with_owed j.owes R;
          newest = next;
          log_is = refl;
          allowed = record {
            later = a.later;
            goes_on = a.goes_on ∙ ap (λ (l : Log). a.later ++ l) (sym (cut_more j.owes next R pass.seen within));
            others = others_as old new pass R (after R) held a.later a.others;
            legal = a.legal;
            keeps = a.keeps;
            pages = a.pages;
            shown = a.shown;
            held = a.held;
            read = tt;
          };
          drawn = (stays.made).drawn;
          leaves = subst (λ (Q : Pages). Leaves a.pages Q next step)
              (shown_one (after R) (stays.stays).pages P (stays.stays).shown shown) (stays.stays).leaves;
        }

    pub step_seen : (pass' : Pass) → pass'.seen ≡ j'.state.records
        → Seen device new pass' (λ S P. IsLogged (view_of new pass S held) step S P)
    step_seen pass' all =
        let R : Log = (asked.are).log in
        let at = (asked.are).stands in
        behind_one device one law new
        (λ T. (P : Pages) → Shows (cut pass'.seen T) P
        → IsLogged (view_of new pass (cut pass'.seen T) held) step (cut pass'.seen T) P)
        (after R) (stepped.stands R at.journal)
        (λ t up legal.
        let long : pass'.seen ≡ length (after R) =
        all ∙ log_length device j' (after R) (stepped.stands R at.journal) in
        let within : pass.seen ≤ length R =
        omega (arith, (asked.of).seen, log_length device j R at.journal) in
        subst (λ (T : Log). (P : Pages) → Shows T P → IsLogged (view_of new pass T held) step T P)
        (sym (cut_whole pass'.seen (after R) long))
        (λ P shown. seen_at R (at_legal t R at legal).1 within P shown))

    -- the pass is one of the frames, and has seen all
    pub stepped_pass : (n : ℕ) (xid : Option ℕ) → n ≡ j'.state.records
        → IsPassOf new (record pass { held = 0; seen = n; xid = xid })
    stepped_pass n xid all =
        of_logged j j' pins homes homes' pass n step.kind (next_number j) xid all stepped.none_owed
        (flushed_more device (asked.are).log j j' ((asked.are).stands).journal stepped.up stepped.flushed)
        (records_more j j' step stepped.state) stepped.work (number_seen j j' step n all stepped.state) asked.of
