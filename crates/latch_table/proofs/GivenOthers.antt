-- What another pass knows, once the journal is given back.
use Rattle.std.proofs.Common.{◌≡◌, ◌≢◌, ℕ, suc, ◌<◌, ◌≤◌, List, [], ◌∷◌, ◌++◌, length, refl, sym, ap, subst, ◌∙◌}
use Rattle.std.proofs.Common.{⊎_elim, arith}
use Rattle.std.specs.Prelude.{Option, Some, None}
use Rattle.std.proofs.lemmas.List.{append_assoc}
use mathlib.Core.Option.{some}
use lib.ListN.{get_elem?}
use Rattle.page_types.specs.declared.record.Kind.{Kind}
use Rattle.page_types.specs.declared.record.Kind.TheVariants as kind
use Rattle.core_state.specs.Log.{Log, In, next_xid, xid_behind}
use Rattle.core_state.specs.Legal.{Pin}
use Rattle.core_state.specs.Allowed.{View, IsOthers, AreOthers}
use Rattle.latch_table.specs.declared.slots.Journaled.{Ghosts as Journaled}
use Rattle.latch_table.specs.declared.states.Note.{Note}
use Rattle.latch_table.specs.declared.states.PinNote.{PinNote}
use Rattle.latch_table.specs.declared.states.PassState.{PassState}
use Rattle.latch_table.specs.PassStates.{view_of, reads, pin_of, IsLawful}
use Rattle.latch_table.specs.Shapes.{Shape}
use Rattle.latch_table.specs.Lines.{HasFrames, HasFloor, ArePlaced, AddUp, Knows}
use Rattle.latch_table.specs.Giving.{Entry, Swap, PinChange, Given, added, content_of, PinsMove, MayGive}
use Rattle.latch_table.proofs.Sums.{total_two}
use Rattle.latch_table.proofs.Functions.{put_else}
use Rattle.latch_table.proofs.Frames.{note_in}
use Rattle.latch_table.proofs.GivenLog.{Follows, holds_frame, reads_added}
use Rattle.latch_table.proofs.GivenShape.{owner_after, pinner_if, pinner_after, shape_after, length_added, pin_was}

xid_more : (k : Kind) (x : ℕ) → x ≤ xid_behind k x
xid_more kind.Begin x = omega arith
xid_more _ x = omega arith

pub next_more : (o : Option Entry) (R : Log) → next_xid R ≤ next_xid (added o ++ R)
next_more None R = omega arith
next_more (Some e) R = xid_more e.logged.kind (next_xid R)

owner_stays : (o : Option Entry) (owner : ℕ → ℕ) (id x n : ℕ) → ((e : Entry) → o ≡ Some e → x ≢ e.logged.xid)
    → owner x ≡ n
    → owner_after o owner id x ≡ n
owner_stays None owner id x n other is = is
owner_stays (Some e) owner id x n other is = put_else owner e.logged.xid (suc id) x (other e refl) ∙ is

others_added : (u : View) (o : Option Entry) (later : Log) → ((e : Entry) → o ≡ Some e → IsOthers u e.logged)
    → AreOthers u later → AreOthers u (added o ++ later)
others_added u None later one t = t
others_added u (Some e) later one t = (one e refl, t)

-- what goes on from a log does so with what was added
pub added_goes_on : (o : Option Entry) (later seen log : Log) → log ≡ later ++ seen
    → added o ++ log ≡ (added o ++ later) ++ seen
added_goes_on o later seen log e = ap (λ (l : Log). added o ++ l) e ∙ sym (append_assoc (added o) later seen)

module _ {J : Type 0} (journal : Journaled J) (start : J) where
  pub floor_after : (h : Shape J) (id : ℕ) (v : PassState J) (b' : J) (g : Given) (floor since : ℕ)
      → MayGive journal h.frames v h.log h.journal b' g → HasFloor journal start h floor since
      → HasFloor journal start (shape_after h id v b' g) floor since
  floor_after h id v b' g floor since m f = record {
    flushed = (let a = f.flushed in let c = m.flushed in omega arith);
    within = (let a = f.within in let c = length_added g.entry h.log in omega arith);
    pins = λ k p e. ⊎_elim (λ was. f.pins k p was)
        (λ (is : p ≡ record { commits = journal.flushed b'; length = length (added g.entry ++ h.log) }).
        subst (λ (q : Pin). (floor ≤ q.commits) × (since ≤ q.length)) (sym is)
        (let a = f.flushed in let c = m.flushed in let w = f.within in let n = length_added g.entry h.log in
        (omega arith, omega arith)))
        (pin_was journal start v h.journal b' (length (added g.entry ++ h.log)) g.pin m.pins k p e);
  }

  -- a pin of another seat stays where it is
  pin_other : (v : PassState J) (b b' : J) (len : ℕ) (c : PinChange) (pinner : ℕ → ℕ) (id j : ℕ) (q : PinNote) → j ≢ id
      → ((p : PinNote) → v.pin ≡ Some p → pinner p.place ≡ suc id) → PinsMove journal v b b' len c
      → pinner q.place ≡ suc j → journal.pins b q.place ≡ Some (pin_of q)
      → (pinner_after c v.pin pinner id q.place ≡ suc j) × (journal.pins b' q.place ≡ Some (pin_of q))
  pin_other v b b' len PinChange.same pinner id j q other own move is has = (is, move q.place ∙ has)
  pin_other v b b' len PinChange.anew pinner id j q other own move is has = (is, move q.place ∙ has)
  pin_other v b b' len (PinChange.takes k) pinner id j q other own move is has =
      let ne : q.place ≢ k =
      λ e. (let z : None ≡ Some (pin_of q) = sym move.1 ∙ ap (journal.pins b) (sym e) ∙ has in cc z) in
      (put_else pinner k (suc id) q.place ne ∙ is, move.3 q.place ne ∙ has)
  pin_other v b b' len PinChange.drops pinner id j q other own move is has =
      let ne : q.place ≢ (move.0).place
      = λ e. other (let z : suc j ≡ suc id = sym is ∙ ap pinner e ∙ own move.0 move.1 in omega arith) in (
        subst (λ (o : Option PinNote). pinner_if o pinner q.place ≡ suc j) (sym move.1)
            (put_else pinner (move.0).place 0 q.place ne ∙ is),
        move.3 q.place ne ∙ has,
      )

  module _ (h : Shape J) (views : List (PassState J)) (id : ℕ) (v : PassState J) (b' : J) (g : Given)
      (m : MayGive journal h.frames v h.log h.journal b' g) (lawful : journal.lawful start → IsLawful journal v)
      (follows : journal.lawful start → Follows journal start h views id v g.entry)
      (placed : ArePlaced journal h) (mine : Knows journal start h id v) where
    -- a frame that the seat doesn't hold takes no other page
    pub not_swapped : (i : ℕ) → h.holder i ≢ suc id → (s : Swap) → g.swap ≡ Some s → i ≢ s.frame
    not_swapped i other s e is =
        let t = (m.swap s e).held in
        let u = note_in journal start h id t.0 v.frames mine.frames t.1 in
        other (ap h.holder (is ∙ sym t.2) ∙ u.1)

    -- nor is its page changed
    pub not_touched : journal.lawful start → (i p : ℕ) → i < h.frames → h.holder i ≢ suc id
        → journal.place h.journal i ≡ p
        → content_of g.entry p (h.pages p) ≡ h.pages p
    not_touched l i p lt other is = (follows l).elsewhere p (λ there.
        let x = holds_frame journal start h id p v.frames ((follows l).held p there) mine.frames in
        let one : x.0 ≡ i = placed x.0 i x.1 lt (x.3 ∙ sym is) in
        other (ap h.holder (sym one) ∙ x.2))

    notes_other : (j : ℕ) → j ≢ id → (fs : List Note) → HasFrames journal start h j fs
        → HasFrames journal start (shape_after h id v b' g) j fs
    notes_other j other [] t = tt
    notes_other j other (f ∷ fs) t =
        let free : h.holder f.frame ≢ suc id = λ e. other (let z : suc j ≡ suc id = sym t.1 ∙ e in omega arith) in
        let ne : f.frame ≢ h.frames = λ e. (let lt = t.0 in omega arith) in (
          t.0,
          put_else h.holder h.frames 0 f.frame ne ∙ t.1,
          record {
            placed = m.places f.frame t.0 (not_swapped f.frame free) ∙ t.2.placed;
            shown = λ l lt.
                let u = t.2.shown l lt in (not_touched l f.frame f.page t.0 free t.2.placed ∙ u.0, u.1);
          },
          t.3,
          notes_other j other fs t.4,
        )

    pub other_knows : AddUp journal start h views → get_elem? views id ≡ some v → v.room ≢ 0
        → h.holder h.frames ≡ suc id
        → (j : ℕ) (w : PassState J) → j ≢ id → get_elem? views j ≡ some w → Knows journal start h j w
        → Knows journal start (shape_after h id v b' g) j w
    other_knows sums at room holds j w other there kw = record {
      start_is = kw.start_is;
      fresh = λ e. absurd (room (
          let two = total_two (λ (x : PassState J). x.room) views j id w v other there at in
          let all = sums.rooms in
          let full = (kw.fresh e).room in omega arith));
      seen = record {
        later = added g.entry ++ kw.seen.later;
        goes_on = added_goes_on g.entry kw.seen.later w.seen h.log kw.seen.goes_on;
        others =
            λ l. others_added (view_of w) g.entry kw.seen.later ((follows l).others j w other there) (kw.seen.others l);
        shown = (let a = kw.seen.shown in let c = m.flushed in omega arith);
        counted = (let a = kw.seen.counted in let c = m.counted in omega arith);
      };
      frames = notes_other j other w.frames kw.frames;
      journal_is = λ c e. absurd (other (let z : suc j ≡ suc id = sym (kw.journal_is c e).0 ∙ holds in omega arith));
      work = λ a e.
          let t = kw.work a e in
          let le = t.1 in
          let more = length_added g.entry h.log in
          (put_else h.holder h.frames 0 (suc h.frames) (λ z. omega arith) ∙ t.0, omega arith);
      pin = λ q e.
          let t = kw.pin q e in
          pin_other v h.journal b' (length (added g.entry ++ h.log)) g.pin h.pinner id j q other
          (λ p is. (mine.pin p is).0) m.pins t.0 t.1;
      floor = floor_after h id v b' g w.floor w.since m kw.floor;
      read = λ l.
          let t = kw.read l in
          let le = t.0 in
          let more = length_added g.entry h.log in
          (omega arith, reads_added g.entry h.log w.from (reads w.readings) t.1);
      xids = λ l x i.
          let t = kw.xids l x i in
          let lt = t.1 in
          let more = next_more g.entry h.log in (
            t.0,
            omega arith,
            owner_stays g.entry h.owner id x (suc j)
                (λ e is same. ((follows l).others j w other there e is).not_own (subst (λ (y : ℕ). In y w.xids) same i))
                t.2,
          );
      owed = λ e. kw.owed (m.owes e);
      shown = λ l x i. m.still_reached (lawful l) x.clock x.commits (kw.shown l x i);
      redo = record {
        number = λ l x e. m.redo (lawful l) x.number x.written x.synced (kw.redo.number l x e);
        walked = λ l x e. m.walks (lawful l) x.number x.bound x.passed (kw.redo.walked l x e);
      };
      count = (let a = kw.count in let c = m.faults in omega arith);
      own = kw.own;
      spent = kw.spent;
      met = λ log i.
          let t = kw.met log i in (added g.entry ++ t.0, added_goes_on g.entry t.0 log h.log t.1);
    }
