-- What the pass itself knows, once it has given the journal back.
use Rattle.std.proofs.Common.{◌≡◌, ◌≢◌, ◌⊎◌, ◌==◌, cond, ℕ, suc, ◌<◌, ◌≤◌, Bool, true, false, List, [], ◌∷◌, ◌++◌}
use Rattle.std.proofs.Common.{length, refl, sym, ap, subst, ◌∙◌, inl, inr, ⊎_elim, arith, eq-eqb, ne_eqb}
use Rattle.std.specs.Prelude.{Option, Some, None}
use mathlib.Core.Logic.{dite}
use native.Mathlib.Decide.{ℕ_discrete}
use Rattle.page_types.specs.Encoding.{page_bytes}
use Rattle.page_types.specs.declared.record.Kind.{Kind}
use Rattle.page_types.specs.declared.record.Kind.TheVariants as kind
use Rattle.core_state.specs.Log.{Log, In, Shows, next_xid, replay}
use Rattle.core_state.specs.Readings.{AreReads}
use Rattle.latch_table.specs.declared.slots.Journaled.{Ghosts as Journaled}
use Rattle.latch_table.specs.declared.states.Note.{Note}
use Rattle.latch_table.specs.declared.states.Reading.{Reading}
use Rattle.latch_table.specs.declared.states.PinNote.{PinNote}
use Rattle.latch_table.specs.declared.states.Shown.{Shown}
use Rattle.latch_table.specs.declared.states.PassState.{PassState}
use Rattle.latch_table.specs.PassStates.{reads, pin_of, IsLawful}
use Rattle.latch_table.specs.Shapes.{Shape}
use Rattle.latch_table.specs.Lines.{Absent, HasFrames, IsNote, Knows}
use Rattle.latch_table.specs.Giving.{Entry, Swap, PinChange, Given, added, numbers_added, content_of, bytes_of}
use Rattle.latch_table.specs.Giving.{changed_note, swapped_note, notes_after, less, less_all, xids_by, xids_after}
use Rattle.latch_table.specs.Giving.{pin_after, from_after, readings_after, given_back, PinsMove, MayGive}
use Rattle.latch_table.proofs.Functions.{put, put_here, put_else}
use Rattle.latch_table.proofs.GivenLog.{Follows, reads_added}
use Rattle.latch_table.proofs.GivenShape.{owner_after, pinner_after, shape_after, length_added}
use Rattle.latch_table.proofs.GivenOthers.{next_more, added_goes_on}

-- the xids of the pass afterwards

in_less_if : (b : Bool) (y z : ℕ) (ys : List ℕ) → In z (cond b ys (y ∷ ys)) → In z (y ∷ ys)
in_less_if true y z ys i = inr i
in_less_if false y z ys i = i

in_less : (x z : ℕ) (ys : List ℕ) → In z (less x ys) → In z ys
in_less x z [] i = i
in_less x z (y ∷ ys) i =
    ⊎_elim (λ (e : z ≡ y). inl e) (λ j. inr (in_less x z ys j)) (in_less_if (y == x) y z (less x ys) i)

in_less_all : (xs : List ℕ) (z : ℕ) (ys : List ℕ) → In z (less_all xs ys) → In z ys
in_less_all [] z ys i = i
in_less_all (x ∷ xs) z ys i = in_less_all xs z ys (in_less x z (less_all xs ys) i)

in_all_ended : (b : Bool) (z : ℕ) (ys : List ℕ) → In z (cond b [] ys) → In z ys
in_all_ended true z ys i = absurd i
in_all_ended false z ys i = i

in_by : (k : Kind) (x z : ℕ) (ys : List ℕ) → In z (xids_by k x ys) → In z ys ⊎ ((k ≡ kind.Begin) × (z ≡ x))
in_by kind.Begin x z ys i = ⊎_elim (λ (e : z ≡ x). inr (refl, e)) (λ j. inl j) i
in_by (kind.Commit n) x z ys i = inl (in_less x z ys i)
in_by kind.Abort x z ys i = inl (in_less x z ys (in_all_ended (x == 0) z (less x ys) i))
in_by _ x z ys i = inl i

-- an xid is the pass's as before, or was begun by the record
in_after : (o : Option Entry) (z : ℕ) (ys : List ℕ) → In z (xids_after o ys)
    → In z ys ⊎ ((e : Entry) × (o ≡ Some e) × (e.logged.kind ≡ kind.Begin) × (z ≡ e.logged.xid))
in_after None z ys i = inl i
in_after (Some e) z ys i =
    ⊎_elim (λ old. inl old) (λ (t : (e.logged.kind ≡ kind.Begin) × (z ≡ e.logged.xid)). inr (e, refl, t.0, t.1))
    (in_by e.logged.kind e.logged.xid z ys i)

none_less : (xs : List ℕ) → less_all xs [] ≡ []
none_less [] = refl
none_less (x ∷ xs) = ap (less x) (none_less xs)

none_by : (k : Kind) (x : ℕ) → k ≢ kind.Begin → xids_by k x [] ≡ []
none_by kind.Begin x ne = absurd (ne refl)
none_by (kind.Commit n) x ne = refl
none_by kind.Abort x ne = go (x == 0)
  where
    go : (b : Bool) → cond b [] (less x []) ≡ []
    go true = refl
    go false = refl
none_by _ x ne = refl

none_after : (o : Option Entry) → ((e : Entry) → o ≡ Some e → e.logged.kind ≢ kind.Begin) → xids_after o [] ≡ []
none_after None ne = refl
none_after (Some e) ne = none_by e.logged.kind e.logged.xid (ne e refl)

owner_own : (o : Option Entry) (owner : ℕ → ℕ) (id x : ℕ) → owner x ≡ suc id → owner_after o owner id x ≡ suc id
owner_own None owner id x is = is
owner_own (Some e) owner id x is =
    dite (ℕ_discrete x e.logged.xid) (λ same. put_here owner e.logged.xid (suc id) x same)
    (λ ne. put_else owner e.logged.xid (suc id) x ne ∙ is)

owner_begun : (o : Option Entry) (owner : ℕ → ℕ) (id x : ℕ) (e : Entry) → o ≡ Some e → x ≡ e.logged.xid
    → owner_after o owner id x ≡ suc id
owner_begun None owner id x e is same = cc is
owner_begun (Some e') owner id x e is same =
    let q : e' ≡ e = cc is in put_here owner e'.logged.xid (suc id) x (same ∙ ap (λ (y : Entry). y.logged.xid) (sym q))

next_begun : (o : Option Entry) (R : Log) (e : Entry) → o ≡ Some e → e.logged.kind ≡ kind.Begin
    → next_xid (added o ++ R) ≡ suc (next_xid R)
next_begun None R e is b = cc is
next_begun (Some e') R e is b =
    let q : e' ≡ e = cc is in
    ap (λ (k : Kind). Rattle.core_state.specs.Log.xid_behind k (next_xid R)) (ap (λ (y : Entry). y.logged.kind) q ∙ b)

some_xid : (R : Log) → 0 < next_xid R
some_xid [] = omega arith
some_xid (r ∷ R) = let a = some_xid R in let b =
    next_more (Some (record { step = record { kind = r.kind; xid = 0; after = [] }; logged = r })) R in omega arith

own_numbers : (o : Option Entry) (R : Log) (xs : List ℕ) (k : ℕ) → ((n : ℕ) → In n xs → n ≤ length R)
    → In k (numbers_added o (length R) ++ xs) → k ≤ length (added o ++ R)
own_numbers None R xs k all i = all k i
own_numbers (Some e) R xs k all i =
    ⊎_elim (λ (is : k ≡ suc (length R)). omega arith) (λ j. let t = all k j in omega arith) i

-- the replay with what was added
pub replay_added : (o : Option Entry) (R : Log) (p : ℕ) → replay (added o ++ R) p ≡ bytes_of o p (replay R p)
unfolding replay
replay_added None R p = refl
replay_added (Some e) R p = refl

absent_after : (k : ℕ) (o : Option Entry) (s : Option Swap) (fs : List Note) → Absent k fs
    → Absent k (notes_after o s fs)
absent_after k o s [] t = tt
absent_after k o s (f ∷ fs) t = (t.0, absent_after k o s fs t.1)

module _ {J : Type 0} (journal : Journaled J) (start : J) where
  pin_own : (v : PassState J) (b b' : J) (len : ℕ) (c : PinChange) (pinner : ℕ → ℕ) (id : ℕ)
      → ((p : PinNote) → v.pin ≡ Some p → (pinner p.place ≡ suc id) × (journal.pins b p.place ≡ Some (pin_of p)))
      → PinsMove journal v b b' len c → (q : PinNote) → pin_after c (journal.flushed b') len v.pin ≡ Some q
      → (pinner_after c v.pin pinner id q.place ≡ suc id) × (journal.pins b' q.place ≡ Some (pin_of q))
  pin_own v b b' len PinChange.same pinner id own move q e = let t = own q e in (t.0, move q.place ∙ t.1)
  pin_own v b b' len PinChange.anew pinner id own move q e = let t = own q e in (t.0, move q.place ∙ t.1)
  pin_own v b b' len (PinChange.takes k) pinner id own move q e =
      let new : PinNote = record { place = k; commits = journal.flushed b'; length = len } in
      let is : new ≡ q = cc e in
      subst (λ (p : PinNote). (put pinner k (suc id) p.place ≡ suc id) × (journal.pins b' p.place ≡ Some (pin_of p))) is
      (put_here pinner k (suc id) k refl, move.2)
  pin_own v b b' len PinChange.drops pinner id own move q e = cc e

  read_own : (c : PinChange) (o : Option Entry) (R : Log) (from : ℕ) (xs : List Reading) → from ≤ length R
      → AreReads R from (reads xs)
      → (from_after c (length (added o ++ R)) from ≤ length (added o ++ R))
      × AreReads (added o ++ R) (from_after c (length (added o ++ R)) from) (reads (readings_after c xs))
  read_own PinChange.same o R from xs le t =
      let n = length_added o R in (omega arith, reads_added o R from (reads xs) t)
  read_own PinChange.anew o R from xs le t = (omega arith, tt)
  read_own (PinChange.takes k) o R from xs le t = (omega arith, tt)
  read_own PinChange.drops o R from xs le t =
      let n = length_added o R in (omega arith, reads_added o R from (reads xs) t)

  module _ (h : Shape J) (views : List (PassState J)) (id : ℕ) (v : PassState J) (b' : J) (g : Given)
      (m : MayGive journal h.frames v h.log h.journal b' g) (lawful : journal.lawful start → IsLawful journal v)
      (follows : journal.lawful start → Follows journal start h views id v g.entry)
      (shows : journal.lawful start → Shows h.log h.pages) where
    abbrev h' : Shape J
    h' = shape_after h id v b' g

    -- a note whose frame has the page that it had
    kept_note : (f : Note) → IsNote journal start h f → journal.place b' f.frame ≡ f.page
        → IsNote journal start h' (changed_note g.entry f)
    kept_note f t placed = record {
      placed = placed;
      shown = λ l lt.
          let u = t.shown l lt in
          let is : content_of g.entry f.page (h.pages f.page) ≡ content_of g.entry f.page f.content
          = ap (content_of g.entry f.page) u.0 in
          let was : replay h.log f.page ≡ f.bytes = sym (shows l f.page).1 ∙ ap page_bytes u.0 ∙ u.1 in (
            is,
            ap page_bytes (sym is) ∙ ((follows l).shown f.page).1 ∙ replay_added g.entry h.log f.page
                ∙ ap (bytes_of g.entry f.page) was,
          );
    }

    swap_note : (o : Option Swap) → g.swap ≡ o → (f : Note) → f.frame < h.frames → IsNote journal start h f
        → IsNote journal start h' (swapped_note o (changed_note g.entry f))
    swap_note None is f lt t =
        let u = kept_note f t (m.places f.frame lt (λ s e. (let z : None ≡ Some s = sym is ∙ e in cc z)) ∙ t.placed) in
        record { placed = u.placed; shown = u.shown }
    swap_note (Some s) is f lt t =
        let new : Note = record { frame = f.frame; page = s.page; bytes = s.bytes; content = s.content } in
        let old : Note = changed_note g.entry f in
        let may = m.swap s is in
        dite (ℕ_discrete f.frame s.frame)
        (λ (e : f.frame ≡ s.frame).
        subst (λ (b : Bool). IsNote journal start h' (record {
          frame = f.frame;
          page = cond b s.page old.page;
          bytes = cond b s.bytes old.bytes;
          content = cond b s.content old.content;
        })) (sym (eq-eqb f.frame s.frame e)) record {
          placed = ap (journal.place b') e ∙ may.placed;
          shown = λ l low. may.shown (lawful l) low h'.pages (follows l).shown;
        })
        (λ ne.
        let u = kept_note f t (m.places f.frame lt (λ s' e same.
        let z : Some s ≡ Some s' = sym is ∙ e in
        let q : s ≡ s' = cc z in ne (same ∙ ap (λ (x : Swap). x.frame) (sym q))) ∙ t.placed) in
        subst (λ (b : Bool). IsNote journal start h' (record {
          frame = f.frame;
          page = cond b s.page old.page;
          bytes = cond b s.bytes old.bytes;
          content = cond b s.content old.content;
        })) (sym (ne_eqb f.frame s.frame ne)) record { placed = u.placed; shown = u.shown })

    notes_own : (fs : List Note) → HasFrames journal start h id fs
        → HasFrames journal start h' id (notes_after g.entry g.swap fs)
    notes_own [] t = tt
    notes_own (f ∷ fs) t = (
      t.0,
      put_else h.holder h.frames 0 f.frame (λ e. (let lt = t.0 in omega arith)) ∙ t.1,
      swap_note g.swap refl f t.0 t.2,
      absent_after f.frame g.entry g.swap fs t.3,
      notes_own fs t.4,
    )

    own_owed : Knows journal start h id v → journal.owes b' ≡ true
        → less_all g.gives_up (xids_after g.entry v.begun) ≡ []
    own_owed mine e =
        let none = mine.owed (m.owes e) in
        let ne : (x : Entry) → g.entry ≡ Some x → x.logged.kind ≢ kind.Begin
        = λ x is b. (let z : true ≡ false = sym e ∙ m.begins x is b in cc z) in
        ap (λ (xs : List ℕ). less_all g.gives_up (xids_after g.entry xs)) none
        ∙ ap (less_all g.gives_up) (none_after g.entry ne)
        ∙ none_less g.gives_up

    own_xids : Knows journal start h id v → journal.lawful start → (x : ℕ)
        → In x (less_all g.gives_up (xids_after g.entry v.xids))
        → (0 < x) × (x < next_xid (added g.entry ++ h.log)) × (owner_after g.entry h.owner id x ≡ suc id)
    own_xids mine l x i = ⊎_elim
        (λ old.
        let t = mine.xids l x old in
        let lt = t.1 in
        let more = next_more g.entry h.log in
        (t.0, omega arith, owner_own g.entry h.owner id x t.2))
        (λ (t : (e : Entry) × (g.entry ≡ Some e) × (e.logged.kind ≡ kind.Begin) × (x ≡ e.logged.xid)).
        let drawn = (follows l).begun t.0 t.1 t.2 in
        let is : x ≡ next_xid h.log = t.3 ∙ drawn in
        let next = next_begun g.entry h.log t.0 t.1 t.2 in
        let some_ = some_xid h.log in
        (omega arith, omega arith, owner_begun g.entry h.owner id x t.0 t.1 t.3))
        (in_after g.entry x v.xids (in_less_all g.gives_up x (xids_after g.entry v.xids) i))

    own_shown : Knows journal start h id v → journal.lawful start → (y : Shown)
        → In y (record { clock = (m.bounds.0).clock; commits = journal.flushed b' } ∷ v.shows)
        → journal.reaches b' y.clock y.commits
    own_shown mine l y i = ⊎_elim
        (λ (e : y ≡ record { clock = (m.bounds.0).clock; commits = journal.flushed b' }).
        subst (λ (z : Shown). journal.reaches b' z.clock z.commits) (sym e) (m.bounds.1.reached (lawful l)))
        (λ j. m.still_reached (lawful l) y.clock y.commits (mine.shown l y j)) i

    pub own_knows : v.room ≢ 0 → v.fresh ≡ false → v.seen ≡ h.log → Knows journal start h id v
        → Knows journal start h' id (given_back journal h.log h.journal b' g m.bounds.0 v)
    own_knows room fresh whole mine = record {
      start_is = mine.start_is;
      fresh = λ e. (let z : false ≡ true = sym fresh ∙ e in cc z);
      seen = record { later = []; goes_on = refl; others = λ _. tt; shown = omega arith; counted = omega arith };
      frames = notes_own v.frames mine.frames;
      journal_is = λ c e. cc e;
      work = λ a e.
          let t = mine.work a e in
          let le = t.1 in
          let more = length_added g.entry h.log in
          (put_else h.holder h.frames 0 (suc h.frames) (λ z. omega arith) ∙ t.0, omega arith);
      pin = pin_own v h.journal b' (length (added g.entry ++ h.log)) g.pin h.pinner id mine.pin m.pins;
      floor = record {
        flushed = m.bounds.1.flushed;
        within = (let a = m.bounds.1.within in let c = m.length_is in omega arith);
        pins = m.bounds.1.pins;
      };
      read = λ l. let t = mine.read l in read_own g.pin g.entry h.log v.from v.readings t.0 t.1;
      xids = own_xids mine;
      owed = own_owed mine;
      shown = own_shown mine;
      redo = record { number = λ l x e. m.own_redo (lawful l) x e; walked = λ l x e. m.own_walk (lawful l) x e };
      count = omega arith;
      own = λ k i. own_numbers g.entry h.log v.own k
          (λ n j. let t = mine.own n j in let e = ap length whole in omega arith) i;
      spent = λ e. absurd (room e);
      met = λ log i.
          let t = mine.met log i in (added g.entry ++ t.0, added_goes_on g.entry t.0 log h.log t.1);
    }
