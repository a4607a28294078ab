-- A pass that claims a frame, or gives one back, holds what it notes.
use Rattle.std.proofs.Common.{arith, Bool, true, false, [], ◌≡◌, ◌≢◌, ℕ, ◌+◌, ◌-◌, ◌<◌, List, ◌∷◌, length, refl, sym}
use Rattle.std.proofs.Common.{ap, subst, ◌∙◌, ⊎_elim}
use Rattle.std.specs.Prelude.{Option, Some, None}
use Rattle.std.specs.declared.snapshot.Snapshot.{Snapshot}
use Rattle.atomic_table.specs.Seated.{TableId}
use Rattle.atomic_table.specs.Table.{rest}
use Rattle.core_state.specs.Log.{In}
use Rattle.latch_table.specs.declared.slots.Framed.{Ghosts as Framed}
use Rattle.latch_table.specs.declared.slots.Journaled.{Ghosts as Journaled}
use Rattle.latch_table.specs.declared.slots.Slot.{Slot}
use Rattle.latch_table.specs.declared.slots.Slot.TheVariants.{Away}
use Rattle.latch_table.specs.declared.states.Note.{Note}
use Rattle.latch_table.specs.declared.states.PassState.{PassState}
use Rattle.latch_table.specs.declared.pass.Pass.{Pass}
use Rattle.latch_table.specs.PassStates.{first_state, found_by, joined, split_off, with_frame, without, without_frame}
use Rattle.latch_table.specs.Giving.{Entry, Swap, Given, notes_after, HasGivenJournal}
use Rattle.latch_table.specs.Held.{numbers, position, removed, frames_of, turned_by, carried, journal_if}
use Rattle.latch_table.specs.Told.{HasClaimed, HasClaimedJournal, HasClaimedWork, HasOpened}
use Rattle.latch_table.specs.Passes.{state, IsIdle, IsPassOf}
use Rattle.latch_table.proofs.Rotate.{in_front, back_again, removed_is, position_within, in_frames, in_removed}

numbers_after : (e : Option Entry) (s : Option Swap) (fs : List Note) → frames_of (notes_after e s fs) ≡ frames_of fs
numbers_after e s [] = refl
numbers_after e s (f ∷ fs) = ap (λ (l : List ℕ). f.frame ∷ l) (numbers_after e s fs)

carried_after : (F J : Type 0) (e : Option Entry) (s : Option Swap) (fs : List Note)
    → carried {F = F} {J = J} (notes_after e s fs) ≡ carried fs
carried_after F J e s [] = refl
carried_after F J e s (f ∷ fs) = ap (λ (l : List (ℕ × Slot F J)). (f.frame, Away) ∷ l) (carried_after F J e s fs)

module _ {F J : Type 0} where
  -- without the journal, only frames are out
  pub only_frames : (z : TableId) (p : Pass F J) → IsPassOf z p → (state p).journal ≡ None
      → p.seat.me.1 ≡ carried (state p).frames
  only_frames z p is none = is.out ∙ ap (λ (j : Option J). journal_if (z.slots - 2) j (carried (state p).frames)) none

  claimed_pass : (z : TableId) (old new : Pass F J) (at sought : ℕ) (note : Note) (v : PassState J) → IsPassOf z old
      → note.frame + 2 < z.slots
      → (state old).journal ≡ None → v.start ≡ (state old).start → v.fresh ≡ (state old).fresh
      → v.frames ≡ (state old).frames → v.journal ≡ (state old).journal → v.room ≡ (state old).room
      → new.seat.table_id ≡ old.seat.table_id → state new ≡ with_frame at sought note v
      → new.seat.me.1 ≡ (note.frame, Away) ∷ old.seat.me.1 → numbers new.held ≡ note.frame ∷ numbers old.held
      → IsPassOf z new
  claimed_pass z old new at sought note v is frame_is none start fresh frames journal room same now out held = record {
    table = same ∙ is.table;
    start = (is.start.0, ap (λ (w : PassState J). w.start) now ∙ start ∙ is.start.1);
    seen = ap (λ (w : PassState J). w.fresh) now ∙ fresh ∙ is.seen;
    held = held ∙ ap (λ (l : List ℕ). note.frame ∷ l) (is.held ∙ sym (ap frames_of frames))
        ∙ sym (ap (λ (w : PassState J). frames_of w.frames) now);
    within = λ k i. ⊎_elim (λ (e : k ≡ note.frame). subst (λ n. n + 2 < z.slots) (sym e) frame_is)
        (λ later. is.within k later) (subst (In k) held i);
    out = out
        ∙ ap (λ (l : List (ℕ × Slot F J)). (note.frame, Away) ∷ l) (only_frames z old is none ∙ sym (ap carried frames))
        ∙ sym (ap (λ (j : Option J). journal_if (z.slots - 2) j (carried (note ∷ v.frames))) (journal ∙ none))
        ∙ sym (ap (λ (w : PassState J). journal_if (z.slots - 2) w.journal (carried w.frames)) now);
    room = subst (λ n. 0 < n) (sym (ap (λ (w : PassState J). w.room) now ∙ room)) is.room;
  }

  -- a pass that has claimed a frame
  pub claimed_by : (frame : Framed F) (journal : Journaled J) (z : TableId) (old new : Pass F J) (at sought : ℕ) (f : F)
      (v : PassState J) → IsPassOf z old
      → at + 2 < z.slots → (state old).journal ≡ None → v.start ≡ (state old).start → v.fresh ≡ (state old).fresh
      → v.frames ≡ (state old).frames → v.journal ≡ (state old).journal → v.room ≡ (state old).room
      → new.seat.table_id ≡ old.seat.table_id → HasClaimed frame journal at sought f v (state new)
      → new.seat.me.1 ≡ (at, Away) ∷ old.seat.me.1 → numbers new.held ≡ at ∷ numbers old.held → IsPassOf z new
  claimed_by frame journal z old new at sought f v is frame_is none start fresh frames has_journal room same h out
      held =
      claimed_pass z old new (length h.log) sought
      (record { frame = at; page = frame.page f; bytes = frame.bytes f; content = h.content }) v
      is frame_is none start fresh frames has_journal room same h.state out held

  pub gave_pass : (z : TableId) (old new : Pass F J) (i : ℕ) (note : Note) → IsPassOf z old → (state old).journal ≡ None
      → In note (state old).frames → note.frame ≡ i → new.seat.table_id ≡ old.seat.table_id
      → state new ≡ without_frame i (state old)
      → new.seat.me.1 ≡ turned_by (length (numbers old.held) - 1 - position i (numbers old.held))
      (rest (turned_by (position i (numbers old.held)) old.seat.me.1))
      → numbers new.held ≡ removed i (numbers old.held) → IsPassOf z new
  gave_pass z old new i note is none there at same now out held =
      let fs = (state old).frames in
      record {
        table = same ∙ is.table;
        start = (is.start.0, ap (λ (w : PassState J). w.start) now ∙ is.start.1);
        seen = ap (λ (w : PassState J). w.fresh) now ∙ is.seen;
        held = held ∙ ap (removed i) is.held ∙ removed_is i fs ∙ sym (ap (λ (w : PassState J). frames_of w.frames) now);
        within = λ k n. is.within k (in_removed i k (numbers old.held) (subst (In k) held n));
        out = out
            ∙ ap (λ (l : List ℕ). turned_by (length l - 1 - position i l)
            (rest (turned_by (position i l) old.seat.me.1))) is.held
            ∙ ap (λ (l : List (ℕ × Slot F J)). turned_by (length (frames_of fs) - 1 - position i (frames_of fs))
            (rest (turned_by (position i (frames_of fs)) l))) (only_frames z old is none)
            ∙ back_again i note fs there at
            ∙ sym (ap (λ (j : Option J). journal_if (z.slots - 2) j (carried (without i fs))) none)
            ∙ sym (ap (λ (w : PassState J). journal_if (z.slots - 2) w.journal (carried w.frames)) now);
        room = subst (λ n. 0 < n) (sym (ap (λ (w : PassState J). w.room) now)) is.room;
      }

  -- the slot of a frame that is noted comes to the front
  pub front_of : (z : TableId) (p : Pass F J) (i : ℕ) (note : Note) → IsPassOf z p → (state p).journal ≡ None
      → In note (state p).frames → note.frame ≡ i
      → (xs : List (ℕ × Slot F J)) × (turned_by (position i (numbers p.held)) p.seat.me.1 ≡ (i, Away) ∷ xs)
  front_of z p i note is none there at =
      let t = in_front i note (state p).frames there at in (
        t.0,
        ap (λ (l : List ℕ). turned_by (position i l) p.seat.me.1) is.held
            ∙ ap (turned_by (position i (frames_of (state p).frames))) (only_frames z p is none) ∙ t.1,
      )

  -- it is one of the table's, and is among those that the pass holds
  pub held_within : (z : TableId) (p : Pass F J) (i : ℕ) (note : Note) → IsPassOf z p → In note (state p).frames
      → note.frame ≡ i
      → (i + 2 < z.slots) × (position i (numbers p.held) < length (numbers p.held))
  held_within z p i note is there at = (
    subst (λ n. n + 2 < z.slots) at
        (is.within note.frame (subst (In note.frame) (sym is.held) (in_frames note (state p).frames there))),
    subst (λ (l : List ℕ). position i l < length l) (sym is.held) (position_within i note (state p).frames there at),
  )

  -- the first pass, once it has looked
  pub opened_pass : (journal : Journaled J) (z : TableId) (new : Pass F J) (b : J) (key : Snapshot J)
      → new.seat.table_id ≡ z → numbers new.held ≡ []
      → HasOpened journal b (first_state key) (state new) → new.seat.me.1 ≡ [] → IsPassOf z new
  opened_pass journal z new b key table held h out = record {
    table = table;
    start = (key, ap (λ (w : PassState J). w.start) h.state);
    seen = ap (λ (w : PassState J). w.fresh) h.state;
    held = held ∙ sym (ap (λ (w : PassState J). frames_of w.frames) h.state);
    within = λ k i. absurd (subst (In k) held i);
    out = out ∙ sym (ap (λ (w : PassState J). journal_if (z.slots - 2) w.journal (carried w.frames)) h.state);
    room = subst (λ n. 0 < n) (sym (ap (λ (w : PassState J). w.room) h.state)) (omega arith);
  }

  -- a pass that has claimed the journal
  pub claimed_journal_pass : (journal : Journaled J) (z : TableId) (old new : Pass F J) (b : J) → IsPassOf z old
      → (state old).journal ≡ None → new.seat.table_id ≡ old.seat.table_id
      → HasClaimedJournal journal b (state old) (state new)
      → new.seat.me.1 ≡ (z.slots - 2, Away) ∷ old.seat.me.1 → numbers new.held ≡ numbers old.held → IsPassOf z new
  claimed_journal_pass journal z old new b is none same h out held = record {
    table = same ∙ is.table;
    start = (is.start.0, ap (λ (w : PassState J). w.start) h.state ∙ is.start.1);
    seen = ap (λ (w : PassState J). w.fresh) h.state ∙ is.seen;
    held = held ∙ is.held ∙ sym (ap (λ (w : PassState J). frames_of w.frames) h.state);
    within = λ k i. is.within k (subst (In k) held i);
    out = out ∙ ap (λ (l : List (ℕ × Slot F J)). (z.slots - 2, Away) ∷ l) (only_frames z old is none)
        ∙ sym (ap (λ (w : PassState J). journal_if (z.slots - 2) w.journal (carried w.frames)) h.state);
    room = subst (λ n. 0 < n) (sym (ap (λ (w : PassState J). w.room) h.state)) is.room;
  }

  -- the journal's slot is in front
  pub journal_front : (z : TableId) (p : Pass F J) (b : J) → IsPassOf z p → (state p).journal ≡ Some b
      → p.seat.me.1 ≡ (z.slots - 2, Away) ∷ carried (state p).frames
  journal_front z p b is has = is.out ∙ ap (λ (j : Option J). journal_if (z.slots - 2) j (carried (state p).frames)) has

  -- a pass that has given the journal back
  pub gave_journal_pass : (journal : Journaled J) (z : TableId) (old new : Pass F J) (b b' : J) (g : Given)
      → IsPassOf z old
      → (state old).journal ≡ Some b → new.seat.table_id ≡ old.seat.table_id
      → HasGivenJournal journal b b' g (state old) (state new)
      → new.seat.me.1 ≡ rest old.seat.me.1 → numbers new.held ≡ numbers old.held → IsPassOf z new
  gave_journal_pass journal z old new b b' g is has same h out held = record {
    table = same ∙ is.table;
    start = (is.start.0, ap (λ (w : PassState J). w.start) h.state ∙ is.start.1);
    seen = ap (λ (w : PassState J). w.fresh) h.state ∙ is.seen;
    held = held ∙ is.held ∙ sym (numbers_after g.entry g.swap (state old).frames)
        ∙ sym (ap (λ (w : PassState J). frames_of w.frames) h.state);
    within = λ k i. is.within k (subst (In k) held i);
    out = out ∙ ap rest (journal_front z old b is has) ∙ sym (carried_after F J g.entry g.swap (state old).frames)
        ∙ sym (ap (λ (w : PassState J). journal_if (z.slots - 2) w.journal (carried w.frames)) h.state);
    room = subst (λ n. 0 < n) (sym (ap (λ (w : PassState J). w.room) h.state)) is.room;
  }

  -- a pass whose words and frames are as they were
  pub same_pass : (z : TableId) (old new : Pass F J) → IsPassOf z old → new.seat.table_id ≡ old.seat.table_id
      → (state new).start ≡ (state old).start → (state new).fresh ≡ (state old).fresh
      → (state new).frames ≡ (state old).frames
      → (state new).journal ≡ (state old).journal → 0 < (state new).room
      → new.seat.me.1 ≡ old.seat.me.1 → numbers new.held ≡ numbers old.held → IsPassOf z new
  same_pass z old new is same start fresh frames journal room out held = record {
    table = same ∙ is.table;
    start = (is.start.0, start ∙ is.start.1);
    seen = fresh ∙ is.seen;
    held = held ∙ is.held ∙ sym (ap frames_of frames);
    within = λ k i. is.within k (subst (In k) held i);
    out = out ∙ is.out ∙ (λ n. journal_if (z.slots - 2) (sym journal n) (carried (sym frames n)));
    room = room;
  }

  -- a second pass
  pub split_pass : (z : TableId) (old new : Pass F J) → IsPassOf z old → new.seat.table_id ≡ old.seat.table_id
      → state new ≡ split_off (state old) → new.seat.me.1 ≡ [] → numbers new.held ≡ [] → IsPassOf z new
  split_pass z old new is same now out held = record {
    table = same ∙ is.table;
    start = (is.start.0, ap (λ (w : PassState J). w.start) now ∙ is.start.1);
    seen = ap (λ (w : PassState J). w.fresh) now;
    held = held ∙ sym (ap (λ (w : PassState J). frames_of w.frames) now);
    within = λ k i. absurd (subst (In k) held i);
    out = out ∙ sym (ap (λ (w : PassState J). journal_if (z.slots - 2) w.journal (carried w.frames)) now);
    room = subst (λ n. 0 < n) (sym (ap (λ (w : PassState J). w.room) now)) (omega arith);
  }

  -- a pass that has claimed the right of maintenance, from a state like that of the old one
  pub claimed_work_pass : (journal : Journaled J) (z : TableId) (old new : Pass F J) (v : PassState J) → IsPassOf z old
      → new.seat.table_id ≡ old.seat.table_id → HasClaimedWork journal v (state new)
      → v.start ≡ (state old).start → v.fresh ≡ (state old).fresh → v.frames ≡ (state old).frames
      → v.journal ≡ (state old).journal → v.room ≡ (state old).room
      → new.seat.me.1 ≡ old.seat.me.1 → numbers new.held ≡ numbers old.held → IsPassOf z new
  claimed_work_pass journal z old new v is same h start fresh frames has_journal room out held =
      same_pass z old new is same (ap (λ (w : PassState J). w.start) h.state ∙ start)
      (ap (λ (w : PassState J). w.fresh) h.state ∙ fresh)
      (ap (λ (w : PassState J). w.frames) h.state ∙ frames) (ap (λ (w : PassState J). w.journal) h.state ∙ has_journal)
      (subst (λ n. 0 < n) (sym (ap (λ (w : PassState J). w.room) h.state ∙ room)) is.room) out held

  -- a pass whose state is like that of the old one
  pub like_pass : (z : TableId) (old new : Pass F J) (v : PassState J) → IsPassOf z old
      → new.seat.table_id ≡ old.seat.table_id → state new ≡ v
      → v.start ≡ (state old).start → v.fresh ≡ (state old).fresh → v.frames ≡ (state old).frames
      → v.journal ≡ (state old).journal → v.room ≡ (state old).room
      → new.seat.me.1 ≡ old.seat.me.1 → numbers new.held ≡ numbers old.held → IsPassOf z new
  like_pass z old new v is same now start fresh frames has_journal room out held =
      same_pass z old new is same (ap (λ (w : PassState J). w.start) now ∙ start)
      (ap (λ (w : PassState J). w.fresh) now ∙ fresh)
      (ap (λ (w : PassState J). w.frames) now ∙ frames) (ap (λ (w : PassState J). w.journal) now ∙ has_journal)
      (subst (λ n. 0 < n) (sym (ap (λ (w : PassState J). w.room) now ∙ room)) is.room) out held

  -- a pass that has tried to claim the right of maintenance
  pub tried_work_pass : (journal : Journaled J) (z : TableId) (old new : Pass F J) (word found : ℕ) (b : Bool)
      → IsPassOf z old
      → new.seat.table_id ≡ old.seat.table_id
      → (b ≡ true → (found ≡ 0) × HasClaimedWork journal (found_by true word found (state old)) (state new))
      → (b ≡ false → (found ≢ 0) × (state new ≡ found_by true word found (state old)))
      → new.seat.me.1 ≡ old.seat.me.1 → numbers new.held ≡ numbers old.held → IsPassOf z new
  tried_work_pass journal z old new word found true is same hit miss out held =
      claimed_work_pass journal z old new (found_by true word found (state old)) is same
      (hit refl).1 refl refl refl refl refl out held
  tried_work_pass journal z old new word found false is same hit miss out held =
      like_pass z old new (found_by true word found (state old)) is same (miss refl).1 refl refl refl refl refl out held

  -- nothing is out with an idle pass
  pub idle_out : (z : TableId) (p : Pass F J) → IsPassOf z p → IsIdle (state p) → p.seat.me.1 ≡ []
  idle_out z p is idle = only_frames z p is idle.journal_is ∙ ap carried idle.frames

  -- a pass that has taken in another
  pub joined_pass : (z : TableId) (old new : Pass F J) (w : PassState J) → IsPassOf z old
      → new.seat.table_id ≡ old.seat.table_id
      → state new ≡ joined (state old) w → new.seat.me.1 ≡ old.seat.me.1 → numbers new.held ≡ numbers old.held
      → IsPassOf z new
  joined_pass z old new w is same now out held =
      let room = is.room in
      same_pass z old new is same (ap (λ (x : PassState J). x.start) now) (ap (λ (x : PassState J). x.fresh) now)
      (ap (λ (x : PassState J). x.frames) now) (ap (λ (x : PassState J). x.journal) now)
      (subst (λ n. 0 < n) (sym (ap (λ (x : PassState J). x.room) now)) (omega arith)) out held
