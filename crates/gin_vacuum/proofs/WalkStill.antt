-- What a walk over the pending list has read stands as it did, after calls that log nothing.
use Rattle.std.proofs.Common.{◌≡◌, ◌≢◌, ◌≤◌, ℕ, List, [], ◌++◌, length, refl, sym, ap, subst, ◌∙◌, inl, inr, arith}
use Rattle.std.specs.Prelude.{◌<◌}
use Rattle.disk_trait.specs.declared.device.Disk.{Ghosts as Disk}
use Rattle.page_types.specs.declared.page.Row.{Row}
use Rattle.core_state.specs.Log.{Log, Pages, In, Shows, cut}
use Rattle.core_state.specs.Allowed.{Sheet}
use Rattle.core_state.specs.Documents.{Doc, IsDead}
use Rattle.core_state.specs.Index.{IsLinked, HasRow}
use Rattle.core_state.specs.Legal.{IsLegal}
use Rattle.core_state.specs.Steady.{SteadyFacts, SteadyHold, LeavesIndex}
use Rattle.core_maintenance.specs.Keeping.{LineGrows, LineHolds}
use Rattle.buffer_frames.specs.Frames.{FramesValue}
use Rattle.buffer_frames.specs.Passes.{IsPassOf, IsHolding, Seen}
use Rattle.buffer_frames.specs.declared.pass.Pass.{Pass}
use Rattle.buffer_frames.proofs.AtHand.{none_held, cut_length, log_length}
use Rattle.gin_place.specs.Going.{WorksOn}
use Rattle.gin_place.specs.Holding.{ReadsOn}
use Rattle.gin_place.specs.Placing.{HasRight}
use Rattle.gin_place.proofs.Logs.{cut_front}
use Rattle.gin_vacuum.specs.Vacuum.{HasDeadHead, HaveDeadHeads}
use Rattle.gin_vacuum.specs.Finding.{WasDead}
use Rattle.gin_vacuum.specs.Unlinked.{HadRow}
use Rattle.gin_vacuum.specs.Inner.Unlinked.{IsDeadSince, IsWalked, IsWalkAt}
use Rattle.gin_vacuum.proofs.SeenOn.{cut_legal, seen_by}
use Rattle.gin_vacuum.proofs.FoundDead.{dead_more, dead_then, dead_on}
use Rattle.gin_vacuum.proofs.RowsAhead.{next_grows, ahead_grows}

-- a row of another with the same item
pub row_moves : (P Q : Pages) (i : ℕ) → ((w : Row) → w.item ≡ i → IsLinked P w → IsLinked Q w) → HasRow P i → HasRow Q i
row_moves P Q i on k = record { row = k.row; linked = on k.row k.item k.linked; item = k.item }

module _ (from floor : ℕ) (C later S : Log) (is : S ≡ later ++ C) (within : from ≤ length C) where
  cuts : cut from S ≡ cut from C
  cuts = ap (cut from) is ∙ cut_front from later C within

  -- the shorter log is one of the longer
  was_still : (d : Doc) → WasDead C from floor d → WasDead S from floor d
  was_still d w = record {
    pages = w.pages;
    head = w.head;
    shown = subst (λ (T : Log). Shows T w.pages) (sym cuts) w.shown;
    has = w.has;
    dead = subst (λ (T : Log). IsDead T floor d) (sym cuts) w.dead;
  }

  had_still : (i : ℕ) → HadRow C from i → HadRow S from i
  had_still i h = record {
    pages = h.pages;
    shown = subst (λ (T : Log). Shows T h.pages) (sym cuts) h.shown;
    row = h.row;
  }

  module _ (steady : SteadyHold) (P Q : Pages) (some : C ≢ []) (legal : IsLegal C) (legal' : IsLegal S)
      (shown : Shows C P)
      (shown' : Shows S Q) (quiet : LeavesIndex later) (began : 0 < from) where
    facts : SteadyFacts C later S P Q
    facts = steady C later S P Q is some legal legal' shown shown'

    dead_in : (d : Doc) → WasDead C from floor d → IsDead C floor d
    dead_in d w = dead_then steady C P legal shown from floor began within d w

    pub since_on : (i : ℕ) → IsDeadSince C P from floor i → IsDeadSince S Q from floor i
    since_on i x =
        let k = (facts.index_stays quiet).dead x.doc x.head floor (dead_in x.doc x.was) x.has in
        record { doc = x.doc; head = x.head; item = x.item; was = was_still x.doc x.was; has = k.head }

    -- no dead item gets a row
    rows_back : (i : ℕ) → IsDeadSince C P from floor i → (w : Row) → w.item ≡ i → IsLinked Q w → IsLinked P w
    rows_back i x w e k =
        let h = (facts.index_stays quiet).dead x.doc x.head floor (dead_in x.doc x.was) x.has in
        facts.dead_rows x.doc x.head floor (dead_in x.doc x.was) h.head w (e ∙ sym x.item) k

    pub walked_on : LineGrows P Q → (dead : List ℕ) (page left : ℕ) (met : List ℕ)
        → IsWalked from floor dead page left met C P → IsWalked from floor dead page left met S Q
    walked_on grows dead page left met x = record {
      since = λ i on. since_on i (x.since i on);
      next = next_grows P Q grows page x.next;
      ahead = λ w on k. elim (x.ahead w on (rows_back w.item (x.since w.item on) w refl k)) [
        | inl m ↦ inl m
        | inr a ↦ inr (ahead_grows P Q grows page x.next left w a)
      ];
      had = λ i on.
          let h = x.had i on in
          (had_still i h.0, row_moves P Q i (λ w e k. (facts.index_stays quiet).rows w k) h.1);
    }

-- so it does as a pass sees it
pub since_still : {D : Type 0} (device : Disk D) → SteadyHold → (f g : FramesValue D) (p q : Pass) (held : List Sheet)
    → IsHolding device f p held → IsPassOf f p → HasRight p → WorksOn device f p g q [] → (from floor : ℕ)
    (dead : List ℕ) → from ≤ p.seen → 0 < from
    → Seen device f p (λ S P. (i : ℕ) → In i dead → IsDeadSince S P from floor i)
    → Seen device g q (λ S P. (i : ℕ) → In i dead → IsDeadSince S P from floor i)
since_still device steady f g p q held hold was right works from floor dead within began x =
    seen_by device f g p q held hold was right works (λ S P. (i : ℕ) → In i dead → IsDeadSince S P from floor i)
    (λ S P. (i : ℕ) → In i dead → IsDeadSince S P from floor i)
    (λ C later S P Q is some size legal legal' shown shown' early had i on.
    since_on from floor C later S is (let e : from ≤ length C = omega (arith, size, within) in e) steady P Q some legal
    legal' shown shown' (λ r i work. let low = early r i in omega (arith, low, work.0)) began i (had i on)) x

pub walk_still : {D : Type 0} (device : Disk D) → SteadyHold → LineHolds → (f g : FramesValue D) (p q : Pass)
    (held : List Sheet) → IsHolding device f p held → IsPassOf f p → HasRight p → WorksOn device f p g q []
    → (from floor : ℕ) (dead : List ℕ) (page left : ℕ) (met : List ℕ)
    → IsWalkAt device f p from floor dead page left met → IsWalkAt device g q from floor dead page left met
walk_still device steady line f g p q held hold was right works from floor dead page left met x = record {
  some = x.some;
  began = omega (arith, x.began, works.rises.seen);
  under = omega (arith, x.under, works.rises.floor);
  those = x.those;
  walked = seen_by device f g p q held hold was right works (IsWalked from floor dead page left met)
      (IsWalked from floor dead page left met)
      (λ C later S P Q is some size legal legal' shown shown' early had.
      walked_on from floor C later S is (let e : from ≤ length C = omega (arith, size, x.began) in e) steady P Q some
      legal legal' shown shown' (λ r i work. let low = early r i in omega (arith, low, work.0)) x.some
      (line C later S P Q is some legal' shown shown' (λ r i. inl (early r i))) dead page left met had)
      x.walked;
}

module _ {D : Type 0} (device : Disk D) (steady : SteadyHold) (f : FramesValue D) (p : Pass) (of : IsPassOf f p) where
  -- what is known of the log that the pass has seen
  pub seen_more : (X Y : Log → Pages → Type 0)
      → ((S : Log) (P : Pages) → IsLegal S → Shows S P → length S ≡ p.seen → X S P → Y S P)
      → Seen device f p X → Seen device f p Y
  seen_more X Y more seen t up R stands legal P shown =
      let long : f.journal.state.records ≡ length R = log_length device f.journal R stands.journal in
      more (cut p.seen R) P (cut_legal p.seen R legal) shown (cut_length p.seen R (omega (arith, of.seen, long)))
      (seen t up R stands legal P shown)

  -- the dead items have their slots
  pub heads_of : (from floor : ℕ) (dead : List ℕ) (page left : ℕ) (met : List ℕ)
      → IsWalkAt device f p from floor dead page left met → HaveDeadHeads device f p dead
  heads_of from floor dead page left met x =
      seen_more (IsWalked from floor dead page left met)
      (λ S P. (i : ℕ) → In i dead → HasDeadHead S P p.floor i)
      (λ S P legal shown size w i on.
      let y = w.since i on in
      record {
        doc = y.doc;
        head = y.head;
        item = y.item;
        has = y.has;
        dead = dead_more S floor p.floor y.doc x.under
            (dead_then steady S P legal shown from floor x.some (omega (arith, size, x.began)) y.doc y.was);
      })
      x.walked

-- they have them still after calls that log nothing
pub heads_still : {D : Type 0} (device : Disk D) → SteadyHold → (f g : FramesValue D) (p q : Pass) → IsPassOf f p
    → HasRight p → p.held ≡ 0 → ReadsOn device f p g q → (dead : List ℕ) → HaveDeadHeads device f p dead
    → HaveDeadHeads device g q dead
heads_still device steady f g p q of right none reads dead heads =
    seen_by device f g p q [] (none_held device f p of none) of right reads.works
    (λ S P. (i : ℕ) → In i dead → HasDeadHead S P p.floor i) (λ S P. (i : ℕ) → In i dead → HasDeadHead S P q.floor i)
    (λ C later S P Q is some size legal legal' shown shown' early had i on.
    dead_on C later S P Q (steady C later S P Q is some legal legal' shown shown')
    (λ r j work. let low = early r j in omega (arith, low, work.0)) p.floor q.floor i reads.works.rises.floor
    (had i on))
    heads
