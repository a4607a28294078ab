-- A log that is read batch by batch into a state and a map.
use Rattle.std.proofs.Common.{◌≡◌, ℕ, List, [], ◌∷◌, ◌++◌, length, reverse, refl, sym, ap, ap₂, subst, None, Ok, Bool}
use Rattle.std.proofs.Common.{true, ◌∙◌, inr, arith, length-append}
use Rattle.disk_trait.specs.Files.{Files}
use Rattle.disk_trait.specs.declared.device.Disk.{Ghosts as Disk}
use Rattle.wal.specs.Batches.{front, HasBatches}
use Rattle.wal.specs.Reading.{IsOnlyRead, IsReading, IsBroken, Gives}
use Rattle.wal.specs.declared.error.ReadError.{ReadError}
use Rattle.wal.specs.Settled.{LogIs, Settled}
use Rattle.wal.specs.Waiting.{end_of, IsReadToEnd}
use Rattle.wal.specs.declared.log.Wal.{Wal}
use Rattle.page_types.specs.declared.record.Record.{Record}
use Rattle.core_state.specs.Log.{Log}
use Rattle.core_state.specs.States.{StateValue, empty_state, state_of}
use Rattle.core_state.specs.Stores.{AreRecordsOf}
use Rattle.buffer_frames.specs.Counted.{AreNumbered, AreRecords}
use Rattle.buffer_frames.specs.Applied.{CanApply}
use Rattle.buffer_frames.specs.NoStore.{IsNoStore, broken, no_records}
use Rattle.buffer_frames.specs.Maps.{lookup}
use Rattle.buffer_frames.specs.Records.{AreRead}
use Rattle.buffer_frames.specs.Inner.Reads.{IsRead, ReadsBatch}
use Rattle.buffer_frames.specs.declared.page_map.PageMap.{PageMap}
use Rattle.buffer_frames.proofs.BatchRecords.{records_push, records_last}
use Rattle.buffer_frames.proofs.Steps.{state_limits}
use Rattle.buffer_frames.proofs.MapTelling.{none_has, has_applied}

-- the batches of the log that were given, whose records are these
pub record Given (wal : Wal) (log : List ℕ) (R : Log) : Type 0 where
  pub batches : List (List ℕ)
  pub reading : IsReading wal log batches
  pub records : AreRecords batches R

-- these records were read since the opening
pub record Loads {D : Type 0} (device : Disk D) (first disk : D) (wal : Wal) (pages xid_limit : ℕ)
    (state : StateValue) (map : PageMap) : Type 0 where
  pub R : Log
  pub is_read : IsRead device disk (device.seen first).pages pages xid_limit state map R
  pub given : device.tells → Given wal (device.seen first).log R

module _ {D : Type 0} (device : Disk D) where
  -- a device that was only read since
  pub still_read : (old new : D) (file : List ℕ) (pages xid_limit : ℕ) (s : StateValue) (map : PageMap) (R : Log)
      → IsOnlyRead device old new → IsRead device old file pages xid_limit s map R
      → IsRead device new file pages xid_limit s map R
  still_read old new file pages xid_limit s map R only read = record {
    file_is = λ told. ap (λ (f : Files). f.pages) (only.same told) ∙ read.file_is told;
    numbered = read.numbered;
    each = read.each;
    state_is = read.state_is;
    applies = read.applies;
    has = read.has;
  }

  -- before the first batch
  pub none_loaded : (disk : D) (wal : Wal) (s : StateValue) (map : PageMap)
      → (device.tells → IsReading wal (device.seen disk).log []) → s ≡ empty_state s.pages s.xid_limit
      → ((p : ℕ) → lookup map p ≡ None)
      → Loads device disk disk wal s.pages s.xid_limit s map
  none_loaded disk wal s map reading empty none = record {
    R = [];
    is_read = record {
      file_is = λ told. refl;
      numbered = tt;
      each = tt;
      state_is = empty;
      applies = λ told. tt;
      has = λ told. none_has (device.seen disk).pages map none;
    };
    given =
        λ told. record {
          batches = [];
          reading = reading told;
          records = record { lists = []; each = tt; log_is = refl; numbered = tt };
        };
  }

  -- one batch more
  pub more_loaded : (first mid new : D) (wal wal' : Wal) (pages xid_limit : ℕ) (s s' : StateValue)
      (map map' : PageMap) (bytes : List ℕ) → (loads : Loads device first mid wal pages xid_limit s map)
      → (device.tells → (batches : List (List ℕ)) → IsReading wal (device.seen first).log batches
      → IsReading wal' (device.seen first).log (batches ++ bytes ∷ []))
      → ReadsBatch device new (device.seen first).pages pages xid_limit s' map' loads.R bytes
      → Loads device first new wal' pages xid_limit s' map'
  more_loaded first mid new wal wal' pages xid_limit s s' map map' bytes loads goes row = record {
    R = reverse row.records ++ loads.R;
    is_read = row.is_read;
    given = λ told.
        let g = loads.given told in
        record {
          batches = g.batches ++ bytes ∷ [];
          reading = goes told g.batches g.reading;
          records = records_push g.batches loads.R bytes row.records g.records row.encoded row.is_read.numbered;
        };
  }

  -- the limits of the state
  pub limits_loaded : (first disk : D) (wal : Wal) (pages xid_limit : ℕ) (s : StateValue) (map : PageMap)
      → Loads device first disk wal pages xid_limit s map → (s.pages ≡ pages) × (s.xid_limit ≡ xid_limit)
  limits_loaded first disk wal pages xid_limit s map loads =
      let l = state_limits pages xid_limit loads.R in (
        ap (λ (t : StateValue). t.pages) loads.is_read.state_is
            ∙ l.0,
        ap (λ (t : StateValue). t.xid_limit) loads.is_read.state_is ∙ l.1,
      )

  -- the log's end
  pub all_loaded : (first mid new : D) (wal wal' : Wal) (pages xid_limit : ℕ) (s : StateValue) (map : PageMap)
      → (loads : Loads device first mid wal pages xid_limit s map) → IsReadToEnd wal'
      → (device.tells → (batches : List (List ℕ)) → IsReading wal (device.seen first).log batches
      → HasBatches (device.seen first).log batches)
      → (device.tells → (batches : List (List ℕ)) → IsReading wal (device.seen first).log batches
      → LogIs device (device.seen first).log first → Settled device batches (end_of wal') new)
      → AreRead device first new wal' s map loads.R
  all_loaded first mid new wal wal' pages xid_limit s map loads to_end has settled = record {
    numbered = loads.is_read.numbered;
    each = loads.is_read.each;
    state_is =
        let l = limits_loaded first mid wal pages xid_limit s map loads in
        loads.is_read.state_is ∙ ap₂ (λ p x. state_of p x loads.R) (sym l.0) (sym l.1);
    to_end = to_end;
    store = λ told.
        let g = loads.given told in
        record {
          counted = record { batches = g.batches; opens = inr (has told g.batches g.reading); records = g.records };
          applies =
              loads.is_read.applies told;
        };
    pages = λ told. has_applied (device.seen first).pages map loads.R (loads.is_read.has told);
    settled = λ told is.
        let g = loads.given told in
        (g.batches, settled told g.batches g.reading is, g.records);
  }

  -- no batch after a set commit byte
  pub broken_there : (first mid : D) (wal : Wal) (pages xid_limit : ℕ) (s : StateValue) (map : PageMap)
      → Loads device first mid wal pages xid_limit s map → device.tells
      → IsBroken (device.seen first).log (end_of wal) → IsNoStore (device.seen first)
  broken_there first mid wal pages xid_limit s map loads told b =
      let g = loads.given told in
      broken g.batches g.reading.rest g.reading.fit g.reading.split
      (subst (IsBroken (device.seen first).log) g.reading.place b)

  -- a batch that is not records which go on
  pub no_batch_there : (first mid new : D) (wal wal' : Wal) (pages xid_limit : ℕ) (s : StateValue) (map : PageMap)
      (bytes : List ℕ) → (loads : Loads device first mid wal pages xid_limit s map) → device.tells
      → ((batches : List (List ℕ)) → IsReading wal (device.seen first).log batches
      → IsReading wal' (device.seen first).log (batches ++ bytes ∷ []))
      → ((row : List Record) → AreRecordsOf bytes row → AreNumbered (reverse row ++ loads.R)
      → CanApply (device.seen first).pages (reverse row ++ loads.R) → ⊥) → IsNoStore (device.seen first)
  no_batch_there first mid new wal wal' pages xid_limit s map bytes loads told goes off =
      let g = loads.given told in
      let now = goes g.batches g.reading in
      no_records (g.batches ++ bytes ∷ []) now.rest now.fit now.split
      (λ e. omega (
        arith,
        wal'.inside now.on,
        now.place,
        now.size,
        ap length now.split,
        length-append
            (front (g.batches ++ bytes ∷ [])) now.rest,
        ap length e,
      ))
      (λ S a can.
      let last = records_last g.batches bytes loads.R S a g.records in
      off last.0 last.1 (subst AreNumbered last.2 a.numbered) (subst (CanApply (device.seen first).pages) last.2 can))

-- a batch that was given, seen from the log as it was first
pub given_goes : (wal wal' : Wal) (log here : List ℕ) (b : Bool) (out bytes : List ℕ) (batches : List (List ℕ))
    → here ≡ log → b ≡ true → bytes ≡ out
    → (IsReading wal here batches → Gives {E = ReadError} (Ok b) out
    (λ batch. IsReading wal' here (batches ++ batch ∷ []))) → IsReading wal log batches
    → IsReading wal' log (batches ++ bytes ∷ [])
given_goes wal wal' log here b out bytes batches same was is gives reading =
    let given : IsReading wal' here (batches ++ out ∷ []) =
    subst (λ (d : Bool). Gives {E = ReadError} (Ok d) out (λ batch. IsReading wal' here (batches ++ batch ∷ [])))
    was (gives (subst (λ (l : List ℕ). IsReading wal l batches) (sym same) reading)) in
    subst (λ (l : List ℕ). IsReading wal' l (batches ++ bytes ∷ [])) same
    (subst (λ (x : List ℕ). IsReading wal' here (batches ++ x ∷ [])) (sym is) given)
