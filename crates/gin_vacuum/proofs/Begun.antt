-- A search for dead documents begins.
use Rattle.std.proofs.Common.{◌≡◌, ◌≢◌, ◌≤◌, ◌++◌, ℕ, zero, suc, List, [], length, sym, ap, subst, ◌∙◌, inl, inr, arith}
use Rattle.std.specs.Prelude.{Option, ⊤}
use Rattle.disk_trait.specs.declared.device.Disk.{Ghosts as Disk}
use Rattle.page_types.specs.declared.page.Body.TheVariants as body
use Rattle.core_state.specs.Log.{Log, Pages, Shows, cut}
use Rattle.core_state.specs.Allowed.{Sheet}
use Rattle.core_state.specs.Documents.{IsDead, page_of}
use Rattle.core_state.specs.Legal.{IsLegal}
use Rattle.core_state.specs.Lives.{IsHeapPage}
use Rattle.core_state.specs.PagesTold.{PagesHold}
use Rattle.core_state.specs.Standing.{DocumentsHold}
use Rattle.core_state.specs.States.{StateTells}
use Rattle.core_state.specs.Steady.{SteadyHold, LeavesIndex}
use Rattle.snap_pins.specs.Taken.{IsLeast, IsPinned}
use Rattle.snap_pins.specs.declared.Pin.{Pin}
use Rattle.buffer_frames.specs.Frames.{FramesValue}
use Rattle.buffer_frames.specs.Passes.{IsPassOf, IsHolding, Seen}
use Rattle.buffer_frames.specs.declared.pass.Pass.{Pass}
use Rattle.buffer_frames.proofs.AtHand.{cut_whole, cut_length, log_length}
use Rattle.gin_place.specs.Going.{WorksOn}
use Rattle.gin_place.specs.Placing.{HasRight}
use Rattle.gin_place.proofs.Logs.{cut_front}
use Rattle.gin_vacuum.specs.Finding.{IsFloor, HaveStill, IsFindingAt}
use Rattle.gin_vacuum.specs.Inner.Asked.{IsHeapFrom}
use Rattle.gin_vacuum.proofs.SeenOn.{seen_on, cut_legal}
use Rattle.gin_vacuum.proofs.Taken.{on_heap, none_between, next_is, is_before}

-- page 0, the metapage, is no heap page
not_meta : (R : Log) (P : Pages) → R ≢ [] → IsLegal R → Shows R P → PagesHold → (p : ℕ) → IsHeapPage R p → 1 ≤ p
not_meta R P some legal shown told zero heap =
    let t = told R P legal shown in
    let slots = t.kinds.heaps heap.xid heap.doc heap.placed_it in
    let meta = t.list.meta some in
    let at : (P 0).body ≡ body.Heap slots.0 = subst (λ (n : ℕ). (P n).body ≡ body.Heap slots.0) heap.on slots.1 in
    let two : body.Heap slots.0 ≡ body.Meta meta.0 meta.1 (length t.list.pages) = sym at ∙ meta.2 in
    let z : ⊥ = cc in absurd z
not_meta R P some legal shown told (suc p) heap = omega arith

-- what was dead has its slot still
still_then : SteadyHold → (C later S : Log) (P Q : Pages) → S ≡ later ++ C → C ≢ [] → (n : ℕ) → length C ≡ n → IsLegal C
    → IsLegal S → Shows S Q → LeavesIndex later → (floor : ℕ) → HaveStill n floor S Q
still_then steady C later S P Q is some n size legal legal' shown' quiet floor d w =
    let cuts : cut n S ≡ C =
    ap (cut n) is ∙ cut_front n later C (omega (arith, size)) ∙ cut_whole n C (sym size) in
    let facts = steady C later S w.pages Q is some legal legal' (subst (λ (T : Log). Shows T w.pages) cuts w.shown)
    shown' in
    let dead = subst (λ (T : Log). IsDead T floor d) cuts w.dead in
    (w.head, ((facts.index_stays quiet).dead d w.head floor dead w.has).head)

pub begun : {D : Type 0} (device : Disk D) → SteadyHold → DocumentsHold → PagesHold → (f g : FramesValue D) (p q : Pass)
    (held : List Sheet) → IsHolding device f p held → IsPassOf f p → HasRight p → WorksOn device f p g q []
    → Seen device g q (λ S P. StateTells S g.journal.state) → (next : Option ℕ) → IsHeapFrom 1 g.journal.state next
    → (floor : ℕ) → floor ≤ q.floor → IsFindingAt device g q p.seen floor next []
begun device steady documents told f g p q held hold was right works tells next from floor under =
    let still : Seen device g q (λ S Q. HaveStill p.seen floor S Q) =
    seen_on device f g p q held hold was right works (λ S P. ⊤) (λ S Q. HaveStill p.seen floor S Q)
    (λ C later S P Q is some size legal legal' shown shown' quiet x.
    still_then steady C later S P Q is some p.seen size legal legal' shown' quiet floor) (λ t up R s l P h. tt) in
    record {
      some = was.some;
      began = works.rises.seen;
      under = under;
      are_items = tt;
      positive = is_before g.journal.state 1 0 next from (omega arith);
      before = λ i on. absurd on;
      heap = λ t up R stands legal P shown.
          next_is (cut q.seen R) g.journal.state (tells t up R stands legal P shown) 1 next from;
      dead = λ t up R stands legal P shown i on. absurd on;
      still = still;
      all = λ t up R stands legal P shown d w before.
          let S : Log = cut q.seen R in
          let long : g.journal.state.records ≡ length R = log_length device g.journal R stands.journal in
          let of = works.is_pass in
          let size : length S ≡ q.seen = cut_length q.seen R (omega (arith, of.seen, long)) in
          let legal_S = cut_legal q.seen R legal in
          let h = still t up R stands legal P shown d w in
          let heap = on_heap S P (documents S P legal_S shown) d h.0 h.1 in
          let above = not_meta S P (λ e. omega (arith, of.some, size, ap length e)) legal_S shown told (page_of d.item)
          heap in
          absurd (none_between S g.journal.state (tells t up R stands legal P shown) 1 (page_of d.item) next from heap
          above before);
    }

-- a floor of the frames is none above that which a pass is shown later
pub floor_low : {D : Type 0} (f g : FramesValue D) (floor least : ℕ) → IsFloor f floor
    → f.journal.flushed ≤ g.journal.flushed → g.pins ≡ f.pins
    → IsLeast g.pins (λ (p : Pin). p.commits) g.journal.flushed least → floor ≤ least
floor_low f g floor least is more same low = elim low.met [
  | inl e ↦ omega (arith, e, is.flushed, more)
  | inr m ↦
      let above = is.pinned m.0 m.1 (subst (λ (pins : List (Option Pin)). IsPinned pins m.0 m.1) same m.2) in
      omega (arith, above, m.3)
]

-- 0 is one
pub zero_floor : {D : Type 0} (f : FramesValue D) → IsFloor f 0
zero_floor f = record { flushed = omega arith; pinned = λ place p is. omega arith }
