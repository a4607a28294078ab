-- Documents that are dead, and those that were when a search began, where a log goes on without index work.
use Rattle.std.proofs.Common.{◌≡◌, ◌≢◌, ◌≤◌, ◌-◌, ℕ, List, [], ◌++◌, length, take, ap, subst, ◌∙◌, arith}
use Rattle.std.specs.Prelude.{◌<◌, Option, Some, None}
use Rattle.core_state.specs.Log.{Log, Pages, Shows, cut}
use Rattle.core_state.specs.Documents.{Doc, IsDead}
use Rattle.core_state.specs.Legal.{IsLegal}
use Rattle.core_state.specs.Lives.{IsHeapPage}
use Rattle.core_state.specs.Steady.{SteadyFacts, SteadyHold, LeavesIndex}
use Rattle.core_state.proofs.Moments.Facts.{placed_behind}
use Rattle.buffer_frames.proofs.AtHand.{parts_of, cut_length}
use Rattle.gin_place.proofs.Logs.{cut_front}
use Rattle.gin_vacuum.specs.Vacuum.{HasDeadHead}
use Rattle.gin_vacuum.specs.Finding.{IsNext, WasDead, HaveStill, HaveAll}
use Rattle.gin_vacuum.proofs.SeenOn.{cut_legal}

-- by more commits too
pub dead_more : (R : Log) (m n : ℕ) (d : Doc) → m ≤ n → IsDead R m d → IsDead R n d
dead_more R m n d le (IsDead.insert_aborted x a b) = IsDead.insert_aborted x a b
dead_more R m n d le (IsDead.delete_counted x k a b c) = IsDead.delete_counted x k a (omega (arith, b, le)) c

-- a page on which a head was placed
pub heap_behind : (later R : Log) (p : ℕ) → IsHeapPage R p → IsHeapPage (later ++ R) p
heap_behind later R p h = record {
  xid = h.xid;
  doc = h.doc;
  placed_it = placed_behind later R h.xid h.doc h.placed_it;
  on = h.on;
}

pub next_behind : (later R : Log) (next : Option ℕ) → IsNext R next → IsNext (later ++ R) next
next_behind later R None n = tt
next_behind later R (Some p) n = heap_behind later R p n

-- a dead document has its slot still
pub dead_on : (C later S : Log) (P Q : Pages) → SteadyFacts C later S P Q → LeavesIndex later → (m n i : ℕ) → m ≤ n
    → HasDeadHead C P m i → HasDeadHead S Q n i
dead_on C later S P Q facts quiet m n i le h = record {
  doc = h.doc;
  head = h.head;
  item = h.item;
  has = ((facts.index_stays quiet).dead h.doc h.head m h.dead h.has).head;
  dead = dead_more S m n h.doc le ((facts.ends_stay).dead_stays h.doc m h.dead);
}

-- what was dead then is dead
pub dead_then : SteadyHold → (S : Log) (P : Pages) → IsLegal S → Shows S P → (from floor : ℕ) → 0 < from
    → from ≤ length S → (d : Doc) → WasDead S from floor d → IsDead S floor d
dead_then steady S P legal shown from floor some within d w =
    let C : Log = cut from S in
    let size : length C ≡ from = cut_length from S within in
    let facts = steady C (take (length S - from) S) S w.pages P (parts_of from S)
    (λ e. omega (arith, some, size, ap length e)) (cut_legal from S legal) legal w.shown shown in
    (facts.ends_stay).dead_stays d floor w.dead

module _ (from floor : ℕ) (C later S : Log) (is : S ≡ later ++ C) (within : from ≤ length C) where
  -- the document was dead as the shorter log says
  pub was_then : (d : Doc) → WasDead S from floor d → WasDead C from floor d
  was_then d w =
      let cuts : cut from S ≡ cut from C = ap (cut from) is ∙ cut_front from later C within in
      record {
        pages = w.pages;
        head = w.head;
        shown = subst (λ (T : Log). Shows T w.pages) cuts w.shown;
        has = w.has;
        dead = subst (λ (T : Log). IsDead T floor d) cuts w.dead;
      }

  pub all_on : (next : Option ℕ) (items : List ℕ) → HaveAll from floor next items C
      → HaveAll from floor next items S
  all_on next items all d w low = all d (was_then d w) low

  pub still_on : SteadyHold → (P Q : Pages) → C ≢ [] → IsLegal C → IsLegal S → Shows C P → Shows S Q
      → LeavesIndex later → 0 < from → HaveStill from floor C P → HaveStill from floor S Q
  still_on steady P Q some legal legal' shown shown' quiet began still d w =
      let was = was_then d w in
      let h = still d was in
      let dead = dead_then steady C P legal shown from floor began within d was in
      let facts = steady C later S P Q is some legal legal' shown shown' in
      (h.0, ((facts.index_stays quiet).dead d h.0 floor dead h.1).head)
