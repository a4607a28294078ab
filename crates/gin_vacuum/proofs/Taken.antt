-- A heap page more is read: its dead documents are noted.
use Rattle.std.proofs.Common.{◌≡◌, ◌⊎◌, ◌<◌, ◌≤◌, ◌*◌, ℕ, zero, suc, List, ◌++◌, length, refl, sym, ap}
use Rattle.std.proofs.Common.{subst, ◌∙◌, inl, inr, arith}
use Rattle.std.specs.Prelude.{Option, Some, None}
use Rattle.disk_trait.specs.declared.device.Disk.{Ghosts as Disk}
use Rattle.page_types.specs.Items.{AreItems}
use Rattle.page_types.specs.Numbers.{most_slots}
use Rattle.page_types.specs.Pages.{IsPage, IsBody}
use Rattle.page_types.specs.Views.{slots_in, slots_of, slot_at}
use Rattle.page_types.specs.declared.page.Page.{Page}
use Rattle.page_types.specs.declared.page.Head.{Head}
use Rattle.page_types.specs.declared.page.Body.{Body}
use Rattle.page_types.specs.declared.page.Body.TheVariants as body
use Rattle.core_state.specs.Log.{Log, Pages, In, Shows, cut, fate}
use Rattle.core_state.specs.Allowed.{Sheet}
use Rattle.core_state.specs.Changes.{IsDeadHead}
use Rattle.core_state.specs.Documents.{Doc, Has, IsDead, page_of, slot_of, item_at, doc_at}
use Rattle.core_state.specs.Legal.{IsLegal}
use Rattle.core_state.specs.Lives.{IsHeapPage}
use Rattle.core_state.specs.Standing.{DocumentsStand, DocumentsHold}
use Rattle.core_state.specs.States.{StateValue, StateTells, fate_of}
use Rattle.core_state.specs.Steady.{SteadyHold}
use Rattle.core_state.specs.declared.answers.Fate.{Fate}
use Rattle.core_state.proofs.PageLists.{in_either, in_front, in_back}
use Rattle.core_vacuum.proofs.Out.{has_slot}
use Rattle.buffer_frames.specs.Frames.{FramesValue}
use Rattle.buffer_frames.specs.Passes.{IsPassOf, Seen}
use Rattle.buffer_frames.specs.declared.pass.Pass.{Pass}
use Rattle.buffer_frames.proofs.AtHand.{cut_length, log_length}
use Rattle.gin_vacuum.specs.Causes.{IsHeap}
use Rattle.gin_vacuum.specs.Finding.{IsBefore, IsNext, HaveStill, HaveAll, IsFindingAt}
use Rattle.gin_vacuum.specs.Vacuum.{HasDeadHead}
use Rattle.gin_vacuum.specs.Inner.Asked.{AreDeadTo, IsHeapFrom}
use Rattle.gin_vacuum.proofs.SeenOn.{cut_legal}
use Rattle.gin_vacuum.proofs.FoundDead.{dead_more, dead_then}
use Rattle.gin_vacuum.proofs.DeadSlots.{items_after, used_within}

-- heads are dead by the same fates
pub dead_by : (a b : ℕ → Fate) → ((x : ℕ) → a x ≡ b x) → (floor : ℕ) (h : Head) → IsDeadHead a floor h
    → IsDeadHead b floor h
dead_by a b same floor h (IsDeadHead.insert_aborted e) = IsDeadHead.insert_aborted (sym (same h.inserted_by) ∙ e)
dead_by a b same floor h (IsDeadHead.delete_counted n e le) =
    IsDeadHead.delete_counted n (sym (same h.deleted_by) ∙ e) le

pub three : (a b : ℕ) → (a < b) ⊎ ((a ≡ b) ⊎ (b < a))
three zero zero = inr (inl refl)
three zero (suc b) = inl (omega arith)
three (suc a) zero = inr (inr (omega arith))
three (suc a) (suc b) = elim (three a b) [
  | inl l ↦ inl (omega (arith, l))
  | inr x ↦ elim x [ inl e ↦ inr (inl (ap suc e)) | inr l ↦ inr (inr (omega (arith, l))) ]
]

-- a document that has its slot is on a heap page
pub on_heap : (R : Log) (P : Pages) → DocumentsStand R P → (d : Doc) (h : Head) → Has P d h
    → IsHeapPage R (page_of d.item)
on_heap R P docs d h has = record {
  xid = h.inserted_by;
  doc = doc_at d.item h.serial;
  placed_it = docs.inserted d.item h has.at;
  on = refl;
}

-- no heap page is left out between
pub none_between : (R : Log) (s : StateValue) → StateTells R s → (low p : ℕ) (next : Option ℕ) → IsHeapFrom low s next
    → IsHeapPage R p → low ≤ p → IsBefore p next → ⊥
none_between R s tells low p None from heap le before = from p (le, (tells.heaps p).1 heap)
none_between R s tells low p (Some n) from heap le before =
    let least = from.least p (le, (tells.heaps p).1 heap) in omega (arith, least, before)

-- the next heap page is one
pub next_is : (R : Log) (s : StateValue) → StateTells R s → (low : ℕ) (next : Option ℕ) → IsHeapFrom low s next
    → IsNext R next
next_is R s tells low None from = tt
next_is R s tells low (Some n) from = (tells.heaps n).0 from.holds.1

-- a page that is lower is before it
pub is_before : (s : StateValue) (low p : ℕ) (next : Option ℕ) → IsHeapFrom low s next → p < low → IsBefore p next
is_before s low p None from below = tt
is_before s low p (Some n) from below = let le = from.holds.0 in omega (arith, below, le)

-- the item of a document is that of its slot
item_is : (i : ℕ) → i ≡ item_at (page_of i) (slot_of i)
item_is i = omega arith

module _ (S : Log) (P : Pages) (s : StateValue) (tells : StateTells S s) (docs : DocumentsStand S P) (shown : Shows S P)
    (floor : ℕ) (x : Sheet) (at : P x.page ≡ x.content) (heap : IsHeap x.content) (items : List ℕ)
    (are : AreDeadTo (fate_of s) floor x.page (slots_of x.content) (length (slots_of x.content)) items) where
  slots_are : slots_of x.content ≡ heap.0
  slots_are = ap slots_in heap.1

  body_is : (P x.page).body ≡ body.Heap (slots_of x.content)
  body_is = ap (λ (c : Page). c.body) at ∙ heap.1 ∙ ap body.Heap (sym slots_are)

  -- each item that is noted is of a dead document
  pub noted_dead : (i : ℕ) → In i items → HasDeadHead S P floor i
  noted_dead i on =
      let d = (are.each i).0 on in
      let has = has_slot S P shown x.page d.slot (slots_of x.content) d.head body_is d.at in
      record {
        doc = doc_at (item_at x.page d.slot) d.head.serial;
        head = d.head;
        item = sym d.item;
        has = has;
        dead = (docs.dead (item_at x.page d.slot) d.head floor has.at).1
            (dead_by (fate_of s) (fate S) tells.fates floor d.head d.dead);
      }

  -- and each dead document of the page is noted
  pub dead_noted : (d : Doc) (h : Head) → Has P d h → page_of d.item ≡ x.page → IsDead S floor d → In d.item items
  dead_noted d h has on dead =
      let there : slot_at (slots_of x.content) (slot_of d.item) ≡ Some h =
      ap (λ (c : Page). slot_at (slots_of c) (slot_of d.item)) (sym at)
      ∙ ap (λ (n : ℕ). slot_at (slots_of (P n)) (slot_of d.item)) (sym on) ∙ has.at in
      (are.each d.item).1 (record {
        slot = slot_of d.item;
        head = h;
        below = used_within (slots_of x.content) (slot_of d.item) h there;
        item = item_is d.item ∙ ap (λ (n : ℕ). item_at n (slot_of d.item)) on;
        at = there;
        dead = dead_by (fate S) (fate_of s) (λ y. sym (tells.fates y)) floor h
            ((docs.dead d.item h floor has.at).0
            (subst (λ (n : ℕ). IsDead S floor (doc_at d.item n)) (sym has.serial) dead));
      })

-- the slots of a heap page
slots_fit : (p : Page) → IsPage p → IsHeap p → length (slots_of p) ≤ most_slots
slots_fit p is heap =
    let few = (subst (IsBody p.right p.stamp) heap.1 is.body).0 in
    omega (arith, few, ap (λ (b : Body). length (slots_in b)) heap.1)

module _ {D : Type 0} (device : Disk D) (steady : SteadyHold) (documents : DocumentsHold) (g : FramesValue D) (q : Pass)
    (of : IsPassOf g q) (from floor : ℕ) (had : List ℕ) (x : Sheet) (fits : IsPage x.content) (heap : IsHeap x.content)
    (items : List ℕ) (next : Option ℕ)
    (are : AreDeadTo (fate_of g.journal.state) q.floor x.page (slots_of x.content) (length (slots_of x.content)) items)
    (after : IsHeapFrom (suc x.page) g.journal.state next) (seen : Seen device g q (λ S P. P x.page ≡ x.content))
    (told : Seen device g q (λ S P. StateTells S g.journal.state))
    (was : IsFindingAt device g q from floor (Some x.page) had) where
  abbrev s : StateValue
  s = g.journal.state

  page_is : (i : ℕ) → In i items → page_of i ≡ x.page
  page_is i on =
      let d = (are.each i).0 on in
      let within = used_within (slots_of x.content) d.slot d.head d.at in
      let most = slots_fit x.content fits heap in
      let e = d.item in
      omega (arith, e, within, most)

  -- what is known of the log that the pass has seen
  abbrev Facts : Log → Pages → Type 0
  Facts S P = IsLegal S × Shows S P × StateTells S s × DocumentsStand S P × (P x.page ≡ x.content) × (from ≤ length S)

  facts : Seen device g q Facts
  facts t up R stands legal P shown =
      let S : Log = cut q.seen R in
      let long : s.records ≡ length R = log_length device g.journal R stands.journal in
      let size : length S ≡ q.seen = cut_length q.seen R (omega (arith, of.seen, long)) in
      let legal_S = cut_legal q.seen R legal in (
        legal_S,
        shown,
        told t up R stands legal P shown,
        documents S P legal_S shown,
        seen t up R stands legal P shown,
        omega (arith, size, was.began),
      )

  all_items : AreItems (had ++ items)
  all_items =
      let some = was.positive in
      items_after 0 (x.page * most_slots) had items was.are_items (omega (arith, some))
      (λ i on. let low = was.before i on in omega (arith, low)) are.rise

  all_then : (S : Log) (P : Pages) → Facts S P → HaveStill from floor S P → HaveAll from floor (Some x.page) had S
      → HaveAll from floor next (had ++ items) S
  all_then S P f still all d w before =
      let h = still d w in
      elim (three (page_of d.item) x.page) [
        | inl low ↦ in_front d.item had items (all d w low)
        | inr y ↦ elim y [
          | inl same ↦ in_back d.item had items
              (dead_noted S P s f.2 f.3 f.1 q.floor x f.4 heap items are d h.0 h.1 same
              (dead_more S floor q.floor d was.under
              (dead_then steady S P f.0 f.1 from floor was.some f.5 d w)))
          | inr high ↦ absurd (none_between S s f.2 (suc x.page) (page_of d.item) next after
              (on_heap S P f.3 d h.0 h.1) (omega (arith, high)) before)
        ]
      ]

  -- the search has gone on by this page
  pub taken : IsFindingAt device g q from floor next (had ++ items)
  taken = record {
    some = was.some;
    began = was.began;
    under = was.under;
    are_items = all_items;
    positive = is_before s (suc x.page) 0 next after (omega arith);
    before = λ i on. elim (in_either i had items on) [
      | inl y ↦ is_before s (suc x.page) (page_of i) next after
          (let low = was.before i y in omega (arith, low))
      | inr y ↦ is_before s (suc x.page) (page_of i) next after
          (let same = page_is i y in omega (arith, same))
    ];
    heap = λ t up R stands legal P shown.
        next_is (cut q.seen R) s (told t up R stands legal P shown) (suc x.page) next after;
    dead = λ t up R stands legal P shown i on.
        let f = facts t up R stands legal P shown in
        elim (in_either i had items on) [
          | inl y ↦ was.dead t up R stands legal P shown i y
          | inr y ↦ noted_dead (cut q.seen R) P s f.2 f.3 f.1 q.floor x f.4 heap items are i y
        ];
    still = was.still;
    all = λ t up R stands legal P shown.
        all_then (cut q.seen R) P (facts t up R stands legal P shown) (was.still t up R stands legal P shown)
        (was.all t up R stands legal P shown);
  }
