-- When the journal may be given back: a step was logged, by what the journal promises of the append,
-- or nothing was changed.
use Rattle.std.specs.Prelude.{◌≡◌, ◌≤◌, ℕ, suc, Bool, true, false, [], ◌∷◌, length, Some, None}
use Rattle.page_types.specs.declared.record.Kind.TheVariants as kind
use Rattle.core_state.specs.Log.{Log}
use Rattle.core_state.specs.Allowed.{MayLog, Owes}
use Rattle.core_state.specs.Logged.{IsRecordOf}
use Rattle.latch_table.specs.declared.slots.Journaled.{Ghosts as Journaled}
use Rattle.latch_table.specs.declared.states.PassState.{PassState}
use Rattle.latch_table.specs.PassStates.{view_of, IsLawful}
use Rattle.latch_table.specs.Told.{HasClaimedJournal}
use Rattle.latch_table.specs.Giving.{Entry, Given, Bounds, AreBounds, MayGive, same, unchanged}

-- a record was logged, and nothing else changed
abbrev pub logged : {J : Type 0} → Entry → PassState J → Given
logged e v = record {
  entry = Some e;
  swap = None;
  pin = same;
  gives_up = [];
  redo = v.redo;
  walk = v.walk;
}

module _ {J : Type 0} (journal : Journaled J) where
  -- The journal stood for R, and stands for R with the record of this step; a Begin leaves no abort
  -- owed. What is flushed, the places and the pins are the same, and what it promised of clock
  -- values, of redo numbers and of write-backs still holds.
  pub record HasAppended (v : PassState J) (R : Log) (b b' : J) (e : Entry) : Type 0 where
    pub stands : journal.stands b' (e.logged ∷ R)
    pub length_is : journal.length_of b' ≡ suc (length R)
    pub made : IsLawful journal v → IsRecordOf R e.step e.logged
    pub counted : journal.counted b' ≡ journal.counted b
    pub flushed : journal.flushed b' ≡ journal.flushed b
    pub faults : journal.faults b ≤ journal.faults b'
    pub write_faults : journal.write_faults b ≤ journal.write_faults b'
    pub owes : journal.owes b' ≡ true → journal.owes b ≡ true
    pub begins : e.logged.kind ≡ kind.Begin → journal.owes b' ≡ false
    pub places : (i : ℕ) → journal.place b' i ≡ journal.place b i
    pub pins : (k : ℕ) → journal.pins b' k ≡ journal.pins b k
    pub reached : IsLawful journal v → (clock n : ℕ) → journal.reaches b clock n
        → journal.reaches b' clock n
    pub redo : IsLawful journal v → (n : ℕ) (written synced : Bool)
        → journal.has_redo b R n written synced
        → journal.has_redo b' (e.logged ∷ R) n written synced
    pub walks : IsLawful journal v → (n bound passed : ℕ) → journal.has_walked b R n bound passed
        → journal.has_walked b' (e.logged ∷ R) n bound passed

  -- A pass that has claimed the journal, and may log a step of which it shows what it owes, may give
  -- the journal back with the record of that step.
  abbrev pub StepsMayBeGiven : Type 0
  StepsMayBeGiven =
      (frames : ℕ) (old v : PassState J) (b b' : J) (e : Entry) (x : Bounds)
      → HasClaimedJournal journal b old v → HasAppended v v.seen b b' e
      → (IsLawful journal v → MayLog (view_of v) e.step × Owes (view_of v) e.step)
      → AreBounds journal v b' x → MayGive journal frames v v.seen b b' (logged e v)

  -- A pass that has claimed the journal, and changed nothing, may give it back.
  abbrev pub LooksMayBeGiven : Type 0
  LooksMayBeGiven =
      (frames : ℕ) (old v : PassState J) (b : J) (x : Bounds) → HasClaimedJournal journal b old v
      → AreBounds journal v b x → MayGive journal frames v v.seen b b (unchanged v)
