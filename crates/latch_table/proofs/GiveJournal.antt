-- The journal that is given back keeps the rule.
use Rattle.std.proofs.Common.{◌≡◌, ◌≢◌, ℕ, suc, ◌+◌, ◌<◌, false, List, [], ◌∷◌, set, refl, sym, ap, subst, ◌∙◌, inl}
use Rattle.std.proofs.Common.{inr, ⊎_elim, arith, length-set}
use Rattle.std.specs.Prelude.{Option, Some}
use Rattle.std.specs.declared.snapshot.Snapshot.{Snapshot}
use mathlib.Core.Option.{none, some}
use lib.ListN.{get_elem?}
use Rattle.atomic_table.specs.Table.{State, Me, step, gives, stepped, rest, Allows}
use Rattle.atomic_table.proofs.Lists.{set_here, set_else}
use Rattle.page_types.specs.Encoding.{page_bytes}
use Rattle.core_state.specs.Log.{Log, In}
use Rattle.latch_table.specs.declared.slots.Framed.{Ghosts as Framed}
use Rattle.latch_table.specs.declared.slots.Journaled.{Ghosts as Journaled}
use Rattle.latch_table.specs.declared.slots.Slot.{Slot}
use Rattle.latch_table.specs.declared.slots.Slot.TheVariants.{Journal}
use Rattle.latch_table.specs.declared.states.Note.{Note}
use Rattle.latch_table.specs.declared.states.PassState.{PassState}
use Rattle.latch_table.specs.PassStates.{IsLawful}
use Rattle.latch_table.specs.Shapes.{Shape}
use Rattle.latch_table.specs.Lines.{IsFrame, IsNoted, Knows}
use Rattle.latch_table.specs.Rule.{Kept}
use Rattle.latch_table.specs.Giving.{Entry, Swap, Given, Bounds, changed_note, swapped_note, notes_after, given_back}
use Rattle.latch_table.specs.Giving.{MayGive, HasGivenJournal, CanGive, gave_journal}
use Rattle.latch_table.proofs.Functions.{put, put_here, put_else, words_after}
use Rattle.latch_table.proofs.Views.{views_stay, still}
use Rattle.latch_table.proofs.GivenLog.{Follows, follows}
use Rattle.latch_table.proofs.GivenShape.{shape_after, placed_after, store_after, pinned_after}
use Rattle.latch_table.proofs.GivenOthers.{not_swapped, not_touched, other_knows}
use Rattle.latch_table.proofs.GivenOwn.{own_knows}
use Rattle.latch_table.proofs.GivenSums.{sums_after}

-- a note stays a note of its frame
in_notes : (e : Option Entry) (s : Option Swap) (f : Note) (fs : List Note) → In f fs
    → (x : Note) × In x (notes_after e s fs) × (x.frame ≡ f.frame)
in_notes e s f [] i = absurd i
in_notes e s f (y ∷ ys) i = ⊎_elim
    (λ (is : f ≡ y). (swapped_note s (changed_note e y), inl refl, ap (λ (x : Note). x.frame) (sym is)))
    (λ j. let t = in_notes e s f ys j in (t.0, inr t.1, t.2)) i

module _ {F J : Type 0} (frame : Framed F) (journal : Journaled J) (start : J) where
  abbrev St : Type 0
  St = State (Slot F J) (PassState J)

  abbrev M : Type 0
  M = Me (Slot F J) (PassState J)

  abbrev Rule : St → Type 0
  Rule = Kept frame journal start

  same_frames : (h h' : Shape J) (v : PassState J) (i : ℕ) → h'.frames ≡ h.frames → IsNoted h v i → IsNoted h' v i
  same_frames h h' v i same (IsNoted.as_frame f in_) = IsNoted.as_frame f in_
  same_frames h h' v i same (IsNoted.as_journal b e) = subst (IsNoted h' v) same (IsNoted.as_journal b e)
  same_frames h h' v i same (IsNoted.as_work at e) = subst (λ n. IsNoted h' v (suc n)) same (IsNoted.as_work at e)

  -- another word that is noted stays so
  noted_else : (h : Shape J) (v : PassState J) (R : Log) (b b' : J) (g : Given) (x : Bounds) (q : ℕ) → q ≢ h.frames
      → IsNoted h v q
      → IsNoted h (given_back journal R b b' g x v) q
  noted_else h v R b b' g x q ne (IsNoted.as_frame f in_) =
      let t = in_notes g.entry g.swap f v.frames in_ in
      subst (IsNoted h (given_back journal R b b' g x v)) t.2 (IsNoted.as_frame t.0 t.1)
  noted_else h v R b b' g x q ne (IsNoted.as_journal c e) = absurd (ne refl)
  noted_else h v R b b' g x q ne (IsNoted.as_work at e) = IsNoted.as_work at e

  module _ (s : St) (k : Rule s) (id : ℕ) (v : PassState J) (at : get_elem? s.views id ≡ some v) (b' : J) (g : Given)
      (m : MayGive journal k.shape.frames v k.shape.log k.shape.journal b' g)
      (lawful : journal.lawful start → IsLawful journal v)
      (has : v.journal ≡ Some k.shape.journal) (room : v.room ≢ 0) (seen : v.fresh ≡ false) where
    abbrev h : Shape J
    h = k.shape

    abbrev h' : Shape J
    h' = shape_after h id v b' g

    abbrev w : PassState J
    w = given_back journal h.log h.journal b' g m.bounds.0 v

    mine : Knows journal start h id v
    mine = k.knows id v at

    holds : h.holder h.frames ≡ suc id
    holds = (mine.journal_is h.journal has).0

    whole : v.seen ≡ h.log
    whole = (mine.journal_is h.journal has).2

    then : journal.lawful start → Follows journal start h s.views id v g.entry
    then l =
        follows journal start h s.views k.store k.placed k.pinned k.sums k.knows id v at l g.entry (m.append (lawful l))

    -- a frame at home has its page still, and its bytes are the replay
    frame_after : (i : ℕ) (f : F) → i < h.frames → h.holder i ≡ 0 → IsFrame frame journal start h i f
        → IsFrame frame journal start h' i f
    frame_after i f lt free t =
        let other : h.holder i ≢ suc id = λ e. (let z : 0 ≡ suc id = sym free ∙ e in omega arith) in
        record {
          page = t.page
              ∙ sym (m.places i lt (not_swapped journal start h s.views id v b' g m lawful then k.placed mine i other));
          bytes = λ l low.
              let p : ℕ = frame.page f in
              let same = not_touched journal start h s.views id v b' g m lawful
              then k.placed mine l i p lt other (sym t.page) in
              t.bytes l low ∙ sym (k.store.shown l p).1 ∙ ap page_bytes (sym same) ∙ ((then l).shown p).1;
        }

    pub gave : Rule record {
      words = set s.words h.frames 0;
      homes = set s.homes h.frames (some (Journal b'));
      views = set s.views id w;
    }
    gave =
        let i : ℕ = h.frames in
        let holder' : ℕ → ℕ = put h.holder i 0 in
        let else_ = put_else h.holder i 0 in
        let d = k.words.deep in
        let words =
        words_after s.words h.holder holder' (h.frames + 2) i 0 (omega (arith, k.words.wide)) else_ (λ _. refl)
        (λ z. absurd (omega (arith, put_here h.holder i 0 i refl))) k.words.free k.words.taken in
        record {
          shape = h';
          words = record {
            wide = length-set s.words i 0 ∙ k.words.wide;
            deep = length-set s.homes i (some (Journal b')) ∙ k.words.deep;
            free = words.0;
            taken = words.1;
          };
          homes = record {
            frames = λ j lt none_has.
                let ne : j ≢ i = λ e. omega arith in
                let free : h.holder j ≡ 0 = sym (else_ j ne) ∙ none_has in
                let was = k.homes.frames j lt free in
                (was.0, set_else s.homes i j (some (Journal b')) ne ∙ was.1, frame_after j was.0 lt free was.2);
            journal_is = λ none_has. set_here s.homes i (some (Journal b')) (omega (arith, d));
            last = set_else s.homes i (suc h.frames) (some (Journal b')) (λ e. omega arith) ∙ k.homes.last;
          };
          noted = λ q j lt has'.
              let ne : q ≢ i = λ e. (let z : 0 ≡ suc j = sym (put_here h.holder i 0 q e) ∙ has' in omega arith) in
              let o = k.noted q j lt (sym (else_ q ne) ∙ has') in
              still (λ y. IsNoted h' y q) s.views id j v w o.0 at
              (noted_else h' v h.log h.journal b' g m.bounds.0 q ne) o.1
              (same_frames h h' o.0 q refl o.2);
          store = store_after journal start h s.views id v b' g m lawful then k.store;
          placed = placed_after journal start h id v b' g m k.placed;
          pinned = pinned_after journal start h s.views id v w at b' g m lawful then refl k.pinned;
          sums = sums_after journal start h s.views id v b' g m.bounds.0 at m k.store.opened k.sums;
          knows = views_stay (Knows journal start h) (Knows journal start h') s.views id w
              (own_knows journal start h s.views id v b' g m lawful then k.store.shown room seen whole mine)
              (λ j y other there t.
              other_knows journal start h s.views id v b' g m lawful
              then k.placed mine k.sums at room holds j y other there t) k.knows;
        }

  slot_of : J → Slot F J → J
  slot_of d (Journal b) = b
  slot_of d _ = d

  first_of : J → List (ℕ × Slot F J) → J
  first_of d [] = d
  first_of d (x ∷ xs) = slot_of d x.1

  -- a seat's slots say one journal
  same_journal : (i : ℕ) (b c : J) (xs ys : List (ℕ × Slot F J)) → (i, Journal b) ∷ xs ≡ (i, Journal c) ∷ ys
      → (b ≡ c) × (xs ≡ ys)
  unfolding first_of slot_of
  same_journal i b c xs ys e = (ap (first_of b) e, ap rest e)

  -- the journal goes home
  pub gives_journal : (change : PassState J → J → Given) (slots id i : ℕ) (me : M) (b' : J) (xs : List (ℕ × Slot F J))
      → i + 2 ≡ slots
      → me.0.room ≢ 0 → me.0.fresh ≡ false → (key : Snapshot J) × (me.0.start ≡ Some key) → me.1 ≡ (i, Journal b') ∷ xs
      → CanGive journal i me.0 b' (change me.0 b')
      → Allows Rule slots id me i (λ _. 0) (λ _. gave_journal journal change (step slots i 0 0 none) me 0)
  gives_journal change slots id i me b' xs last room seen key carried can s k deep at _ =
      let h = k.shape in
      let v : PassState J = me.0 in
      let g : Given = change v b' in
      let d = k.words.deep in
      let same : i ≡ h.frames = omega (arith, d, deep) in
      let known = k.knows id v at in
      let has = known.journal_is can.0 can.1 in
      let lawful : journal.lawful start → IsLawful journal v
      = λ l. (key.0, key.1, subst journal.lawful (sym (known.start_is key.0 key.1)) l) in
      let m : MayGive journal h.frames v h.log h.journal b' g
      = subst (λ (p : ℕ × Log × J). MayGive journal p.0 v p.1 p.2 b' g) (λ n. (same n, has.2 n, has.1 n)) can.2 in
      let w : PassState J = given_back journal h.log h.journal b' g m.bounds.0 v in
      let rule = gave s k id v at b' g m lawful (can.1 ∙ ap Some has.1) room seen in (
        w,
        gives,
        tt,
        subst (λ (c : List (ℕ × Slot F J)). Rule (stepped s i 0 id c w gives)) (sym carried)
            (subst (λ n. Rule (stepped s n 0 id ((n, Journal b') ∷ xs) w gives)) (sym same) rule),
        λ b c ys is there.
            let both = same_journal i b' c xs ys (sym carried ∙ there) in
            let one : can.0 ≡ b = (let z : Some can.0 ≡ Some b = sym can.1 ∙ is in cc z) in (
              subst (λ (p : J × J). HasGivenJournal journal p.0 p.1 (change v p.1) v w)
                  (λ n. ((sym has.1 ∙ one) n, both.0 n)) record {
                    bounds = m.bounds.0;
                    are_bounds = m.bounds.1;
                    state = ap (λ (R : Log). given_back journal R h.journal b' g m.bounds.0 v) (sym has.2);
                  },
              ap rest carried ∙ both.1,
            ),
      )
