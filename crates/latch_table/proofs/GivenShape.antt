-- The lines on the log, on places of pages and on pins, once the journal is given back.
use Rattle.std.proofs.Common.{◌≡◌, ◌≢◌, ◌⊎◌, ℕ, zero, suc, ◌-◌, ◌<◌, ◌≤◌, List, [], ◌∷◌, ◌++◌, length, drop, set, refl}
use Rattle.std.proofs.Common.{sym, ap, subst, ◌∙◌, inl, inr, ⊎_elim, arith}
use Rattle.std.specs.Prelude.{Option, Some, None}
use mathlib.Core.Logic.{dite}
use mathlib.Core.Option.{some}
use lib.ListN.{get_elem?}
use native.Mathlib.Decide.{ℕ_discrete}
use Rattle.page_types.specs.declared.record.Kind.{Kind}
use Rattle.page_types.specs.declared.record.Kind.TheVariants as kind
use Rattle.core_state.specs.Log.{Log, commits, commits_with, cut}
use Rattle.core_state.specs.Legal.{Pin, Keeps}
use Rattle.core_state.specs.Logged.{pin_now}
use Rattle.core_state.proofs.Steps.Pins.{flush_keeps_now}
use Rattle.latch_table.specs.declared.slots.Journaled.{Ghosts as Journaled}
use Rattle.latch_table.specs.declared.states.PinNote.{PinNote}
use Rattle.latch_table.specs.declared.states.PassState.{PassState}
use Rattle.latch_table.specs.PassStates.{IsLawful}
use Rattle.latch_table.specs.Shapes.{Shape}
use Rattle.latch_table.specs.Lines.{IsStore, ArePlaced, ArePinned}
use Rattle.latch_table.specs.Giving.{Entry, Swap, PinChange, Given, added, content_of, pin_after, PinsMove, MayGive}
use Rattle.latch_table.proofs.Functions.{put, put_here, put_else}
use Rattle.latch_table.proofs.Views.{changed_at, still}
use Rattle.latch_table.proofs.GivenLog.{Follows}

abbrev pub owner_after : Option Entry → (ℕ → ℕ) → ℕ → ℕ → ℕ
owner_after None owner id = owner
owner_after (Some e) owner id = put owner e.logged.xid (suc id)

-- the pin's place is free
abbrev pub pinner_if : Option PinNote → (ℕ → ℕ) → ℕ → ℕ
pinner_if None pinner = pinner
pinner_if (Some q) pinner = put pinner q.place 0

abbrev pub pinner_after : PinChange → Option PinNote → (ℕ → ℕ) → ℕ → ℕ → ℕ
pinner_after PinChange.same pin pinner id = pinner
pinner_after PinChange.anew pin pinner id = pinner
pinner_after (PinChange.takes k) pin pinner id = put pinner k (suc id)
pinner_after PinChange.drops pin pinner id = pinner_if pin pinner

-- the witnesses once seat id gave the journal back
abbrev pub shape_after : {J : Type 0} → Shape J → ℕ → PassState J → J → Given → Shape J
shape_after h id v b' g = record {
  frames = h.frames;
  log = added g.entry ++ h.log;
  pages = λ p. content_of g.entry p (h.pages p);
  journal = b';
  holder = put h.holder h.frames 0;
  owner = owner_after g.entry h.owner id;
  pinner = pinner_after g.pin v.pin h.pinner id;
}

pub length_added : (o : Option Entry) (R : Log) → length R ≤ length (added o ++ R)
length_added None R = omega arith
length_added (Some e) R = omega arith

commits_more : (k : Kind) (c : ℕ) → c ≤ commits_with k c
commits_more (kind.Commit n) c = omega arith
commits_more _ c = omega arith

commits_drop : (n : ℕ) (R : Log) → commits (drop n R) ≤ commits R
commits_drop zero R = omega arith
commits_drop (suc n) [] = omega arith
commits_drop (suc n) (r ∷ R) = let a = commits_drop n R in let b = commits_more r.kind (commits R) in omega arith

commits_cut : (n : ℕ) (R : Log) → commits (cut n R) ≤ commits R
commits_cut n R = commits_drop (length R - n) R

module _ {J : Type 0} (journal : Journaled J) (start : J) where
  placed_by : (n : ℕ) (b b' : J) (o : Option Swap)
      → ((s : Swap) → o ≡ Some s → (journal.place b' s.frame ≡ s.page)
      × ((i : ℕ) → i < n → i ≢ s.frame → journal.place b i ≢ s.page))
      → ((i : ℕ) → i < n → ((s : Swap) → o ≡ Some s → i ≢ s.frame) → journal.place b' i ≡ journal.place b i)
      → ((i k : ℕ) → i < n → k < n → journal.place b i ≡ journal.place b k → i ≡ k)
      → (i k : ℕ) → i < n → k < n → journal.place b' i ≡ journal.place b' k → i ≡ k
  placed_by n b b' None f same old i k li lk e =
      old i k li lk (sym (same i li (λ s q. cc q)) ∙ e ∙ same k lk (λ s q. cc q))
  placed_by n b b' (Some s) f same old i k li lk e =
      let t = f s refl in
      let else_ : (j : ℕ) → j < n → j ≢ s.frame → journal.place b' j ≡ journal.place b j
      = λ j lt ne. same j lt (λ s' q x. let z : s ≡ s' = cc q in ne (x ∙ ap (λ (y : Swap). y.frame) (sym z))) in
      dite (ℕ_discrete i s.frame)
      (λ (ei : i ≡ s.frame). dite (ℕ_discrete k s.frame) (λ ek. ei ∙ sym ek)
      (λ nk. absurd (t.1 k lk nk (sym (else_ k lk nk) ∙ sym e ∙ ap (journal.place b') ei ∙ t.0))))
      (λ ni. dite (ℕ_discrete k s.frame)
      (λ ek. absurd (t.1 i li ni (sym (else_ i li ni) ∙ e ∙ ap (journal.place b') ek ∙ t.0)))
      (λ nk. old i k li lk (sym (else_ i li ni) ∙ e ∙ else_ k lk nk)))

  pub placed_after : (h : Shape J) (id : ℕ) (v : PassState J) (b' : J) (g : Given)
      → MayGive journal h.frames v h.log h.journal b' g
      → ArePlaced journal h → ArePlaced journal (shape_after h id v b' g)
  placed_after h id v b' g m old =
      placed_by h.frames h.journal b' g.swap (λ s e. let t = m.swap s e in (t.placed, t.nowhere)) m.places old

  pub store_after : (h : Shape J) (views : List (PassState J)) (id : ℕ) (v : PassState J) (b' : J) (g : Given)
      → MayGive journal h.frames v h.log h.journal b' g → (journal.lawful start → IsLawful journal v)
      → (journal.lawful start → Follows journal start h views id v g.entry)
      → IsStore journal start h → IsStore journal start (shape_after h id v b' g)
  store_after h views id v b' g m lawful follows t = record {
    stands = m.stands;
    length_is = m.length_is;
    opened = (let a = length_added g.entry h.log in let o = t.opened in omega arith);
    counted = m.within;
    flushed = λ l. m.commits_are (lawful l);
    reached = ((m.bounds.0).clock, λ l. m.bounds.1.reached (lawful l));
    legal = λ l. (follows l).legal;
    shown = λ l. (follows l).shown;
  }

  -- a pin afterwards was one before, or is the one that was taken
  pub pin_was : (v : PassState J) (b b' : J) (len : ℕ) (c : PinChange) → PinsMove journal v b b' len c
      → (n : ℕ) (p : Pin)
      → journal.pins b' n ≡ Some p
      → (journal.pins b n ≡ Some p) ⊎ (p ≡ record { commits = journal.flushed b'; length = len })
  pin_was v b b' len PinChange.same move n p e = inl (sym (move n) ∙ e)
  pin_was v b b' len PinChange.anew move n p e = inl (sym (move n) ∙ e)
  pin_was v b b' len (PinChange.takes k) move n p e = dite (ℕ_discrete n k)
      (λ (is : n ≡ k).
      let z : Some p ≡ Some (record { commits = journal.flushed b'; length = len }) =
      sym e ∙ ap (journal.pins b') is ∙ move.2 in
      inr (cc z))
      (λ ne. inl (sym (move.3 n ne) ∙ e))
  pin_was v b b' len PinChange.drops move n p e = dite (ℕ_discrete n (move.0).place)
      (λ (is : n ≡ (move.0).place).
      let z : Some p ≡ None = sym e ∙ ap (journal.pins b') is ∙ move.2 in cc z)
      (λ ne. inl (sym (move.3 n ne) ∙ e))

  abbrev HasOne : Shape J → List (PassState J) → (ℕ → ℕ) → ℕ → Type 0
  HasOne h views pinner n =
      (j : ℕ) × (x : PassState J) × (q : PinNote) × (pinner n ≡ suc j) × (get_elem? views j ≡ some x)
      × (x.pin ≡ Some q) × (q.place ≡ n)

  -- each pin of the journal is some view's
  pins_of : (h : Shape J) (views : List (PassState J)) (id : ℕ) (v w : PassState J) → get_elem? views id ≡ some v
      → (b' : J) (len : ℕ)
      (c : PinChange) → PinsMove journal v h.journal b' len c → w.pin ≡ pin_after c (journal.flushed b') len v.pin
      → ((n : ℕ) (p : Pin) → journal.pins h.journal n ≡ Some p → HasOne h views h.pinner n)
      → (n : ℕ) (p : Pin) → journal.pins b' n ≡ Some p → HasOne h (set views id w) (pinner_after c v.pin h.pinner id) n
  pins_of h views id v w at b' len PinChange.same move pin old n p e =
      let o = old n p (sym (move n) ∙ e) in
      let u = still (λ (y : PassState J). (q : PinNote) × (y.pin ≡ Some q) × (q.place ≡ n)) views id o.0 v w o.1 at
      (λ z. (z.0, pin ∙ z.1, z.2)) o.4 (o.2, o.5, o.6) in
      (o.0, u.0, u.2.0, o.3, u.1, u.2.1, u.2.2)
  pins_of h views id v w at b' len PinChange.anew move pin old n p e =
      let o = old n p (sym (move n) ∙ e) in
      let u = still (λ (y : PassState J). (q : PinNote) × (y.pin ≡ Some q) × (q.place ≡ n)) views id o.0 v w o.1 at
      (λ z. (z.0, pin ∙ z.1, z.2)) o.4 (o.2, o.5, o.6) in
      (o.0, u.0, u.2.0, o.3, u.1, u.2.1, u.2.2)
  pins_of h views id v w at b' len (PinChange.takes k) move pin old n p e = dite (ℕ_discrete n k)
      (λ (is : n ≡ k). (
        id,
        w,
        record { place = k; commits = journal.flushed b'; length = len },
        put_here h.pinner k (suc id) n is,
        changed_at views id v w at,
        pin,
        sym is,
      ))
      (λ ne.
      let o = old n p (sym (move.3 n ne) ∙ e) in
      let u = still (λ (y : PassState J). (q : PinNote) × (y.pin ≡ Some q) × (q.place ≡ n)) views id o.0 v w o.1 at
      (λ z. absurd (let none : Some z.0 ≡ None = sym z.1 ∙ move.0 in cc none)) o.4 (o.2, o.5, o.6) in
      (o.0, u.0, u.2.0, put_else h.pinner k (suc id) n ne ∙ o.3, u.1, u.2.1, u.2.2))
  pins_of h views id v w at b' len PinChange.drops move pin old n p e = dite (ℕ_discrete n (move.0).place)
      (λ (is : n ≡ (move.0).place).
      let none : Some p ≡ None = sym e ∙ ap (journal.pins b') is ∙ move.2 in cc none)
      (λ ne.
      let o = old n p (sym (move.3 n ne) ∙ e) in
      let u = still (λ (y : PassState J). (q : PinNote) × (y.pin ≡ Some q) × (q.place ≡ n)) views id o.0 v w o.1 at
      (λ z. absurd (
      let both : Some z.0 ≡ Some move.0 = sym z.1 ∙ move.1 in
      let one : z.0 ≡ move.0 = cc both in ne (sym z.2 ∙ ap (λ (q : PinNote). q.place) one)))
      o.4 (o.2, o.5, o.6) in (
        o.0,
        u.0,
        u.2.0,
        subst (λ (own : Option PinNote). pinner_if own h.pinner n ≡ suc o.0) (sym move.1)
            (put_else h.pinner (move.0).place 0 n ne ∙ o.3),
        u.1,
        u.2.1,
        u.2.2,
      ))

  pub pinned_after : (h : Shape J) (views : List (PassState J)) (id : ℕ) (v w : PassState J)
      → get_elem? views id ≡ some v → (b' : J) (g : Given)
      → MayGive journal h.frames v h.log h.journal b' g → (journal.lawful start → IsLawful journal v)
      → (journal.lawful start → Follows journal start h views id v g.entry)
      → w.pin ≡ pin_after g.pin (journal.flushed b') (length (added g.entry ++ h.log)) v.pin
      → ArePinned journal start h views → ArePinned journal start (shape_after h id v b' g) (set views id w)
  pinned_after h views id v w at b' g m lawful follows pin t =
      let log' : Log = added g.entry ++ h.log in
      let now : journal.lawful start → Keeps log' (pin_now (journal.flushed b') log')
      = λ l.
      let most = commits_cut (journal.counted b') log' in
      let is = m.commits_are (lawful l) in
      flush_keeps_now log' (journal.flushed h.journal) (journal.flushed b') m.flushed (omega arith) (follows l).now in
      record {
        of_views = pins_of h views id v w at b' (length log') g.pin m.pins pin t.of_views;
        kept = λ l k p e. ⊎_elim (λ was. (follows l).keeps k p was) (λ is. subst (Keeps log') (sym is) (now l))
            (pin_was v h.journal b' (length log') g.pin m.pins k p e);
        now = now;
      }
