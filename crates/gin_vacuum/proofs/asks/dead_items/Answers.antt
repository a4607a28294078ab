use Rattle.std.proofs.Common.{◌≡◌, ◌+◌, ◌≤◌, ◌++◌, ℕ, [], ◌∷◌, length, sym, ap, subst, subst₂, ◌∙◌, arith}
use Rattle.std.specs.Prelude.{Some, Vec}
use Rattle.std.specs.declared.alloc.Global.{Global}
use Rattle.std.specs.Option.{option_map}
use Rattle.page_types.specs.Pages.{IsPage}
use Rattle.page_types.specs.Parts.{head_shown}
use Rattle.page_types.specs.Views.{slots_in, slot_at}
use Rattle.page_types.specs.declared.page.Page.{Page}
use Rattle.core_state.specs.Changes.{IsDeadHead}
use Rattle.core_state.specs.States.{fate_of}
use Rattle.gin_vacuum.specs.Inner.Asked.{AreDeadTo}
use Rattle.gin_vacuum.proofs.DeadSlots.{dead_none, dead_not, dead_next, none_at, one_at, dead_all, no_slots, few_slots}
use Rattle.gin_vacuum.proofs.DeadSlots.{not_true}
use Rattle.gin_vacuum.proofs.asks.dead_items.Goals as goal
use Rattle.gin_vacuum.proofs.asks.dead_items.Goals.{in-Some+then-is_dead+in_ok-push, in-Some+else-is_dead}
use Rattle.gin_vacuum.proofs.asks.dead_items.Goals.{in_default-get}

pub loop-slot-init : goal.loop-slot-init
loop-slot-init c =
    subst (AreDeadTo (fate_of c.args.state.now.value) c.args.floor c.args.held.now.page c.in-Heap.slots 0)
    (sym c.new-items.ensures.items)
    (dead_none (fate_of c.args.state.now.value) c.args.floor c.args.held.now.page c.in-Heap.slots)

pub loop-slot-preserved : goal.loop-slot-preserved
loop-slot-preserved c =
    let fates = fate_of c.args.state.now.value in
    let floor = c.args.floor in
    let page = c.args.held.now.page in
    let slots = c.in-Heap.slots in
    let k = c.loop-slot.slot in
    elim c.match-get.branch [
      | in-Some+then-is_dead+in_ok-push w ↦
          let at : slot_at slots k ≡ Some (head_shown w.in-Some.head) =
          sym c.get.ensures ∙ ap (option_map head_shown) w.in-Some.is in
          let few = few_slots c.args.held.now.content slots
          (ap (λ (p : Page). p.body) (sym c.page.ensures.value) ∙ c.in-Heap.is)
          (subst IsPage c.page.ensures.value c.page.ensures.is_page) in
          subst (AreDeadTo fates floor page slots (k + 1))
          (sym (ap (λ (v : Vec ℕ Global). v.items) w.items-is ∙ w.in_ok-push.ensures.items
          ∙ ap (λ (i : ℕ). c.loop-slot.items.items ++ i ∷ [])
          (let e = c.number.ensures.value in omega (arith, e))))
          (dead_next fates floor page slots k c.loop-slot.items.items (head_shown w.in-Some.head)
          c.loop-slot.invariant at ((w.is_dead.ensures).0 w.if-is_dead.true)
          (let b = c.number.ensures.bound in let e = c.number.ensures.value in omega (arith, b, e))
          (let t = c.loop-slot-test.true in let e = c.len-slot-end.ensures in omega (arith, t, e, few)))
      | in-Some+else-is_dead w ↦
          let at : slot_at slots k ≡ Some (head_shown w.in-Some.head) =
          sym c.get.ensures ∙ ap (option_map head_shown) w.in-Some.is in
          subst (AreDeadTo fates floor page slots (k + 1)) (sym (ap (λ (v : Vec ℕ Global). v.items) w.items-is))
          (dead_not fates floor page slots k c.loop-slot.items.items c.loop-slot.invariant
          (λ h on dead. one_at (IsDeadHead fates floor) slots k (head_shown w.in-Some.head) h at on
          (λ d. not_true w.is_dead.result w.if-is_dead.false ((w.is_dead.ensures).1 d)) dead))
      | in_default-get w ↦
          subst (AreDeadTo fates floor page slots (k + 1)) (sym (ap (λ (v : Vec ℕ Global). v.items) w.items-is))
          (dead_not fates floor page slots k c.loop-slot.items.items c.loop-slot.invariant
          (λ h on dead. none_at c.get.result head_shown slots k h c.get.ensures w.in_default-get.not-Some on))
    ]

pub returns : goal.returns
returns c =
    let fates = fate_of c.args.state.now.value in
    let is = ap (λ (p : Page). p.body) (sym c.page.ensures.value) ∙ c.in-Heap.is in
    let same = ap slots_in is in
    let end : length c.in-Heap.slots ≤ c.loop-slot.slot = omega
    (arith, c.len-slot-end.ensures, c.loop-slot-test.false) in
    subst (λ ss. AreDeadTo fates c.args.floor c.args.held.now.page ss (length ss) c.loop-slot.items.items) (sym same)
    (dead_all fates c.args.floor c.args.held.now.page c.in-Heap.slots c.loop-slot.slot c.loop-slot.items.items end
    c.loop-slot.invariant)

pub returns-in_default : goal.returns-in_default
returns-in_default c =
    let fates = fate_of c.args.state.now.value in
    let none = no_slots c.args.held.now.content
    (λ ss is. c.in_default.not-Heap ss (ap (λ (p : Page). p.body) c.page.ensures.value ∙ is)) in
    subst₂ (λ ss is. AreDeadTo fates c.args.floor c.args.held.now.page ss (length ss) is) (sym none)
    (sym c.new-items.ensures.items) (dead_none fates c.args.floor c.args.held.now.page [])
