use Rattle.std.proofs.Common.{◌≡◌, [], ◌∷◌, ◌++◌, sym, ap, subst, ◌∙◌}
use Rattle.std.specs.Prelude.{Some}
use Rattle.page_types.specs.Parts.{head_with}
use Rattle.page_types.specs.declared.page.Page.{Page}
use Rattle.core_state.specs.Allowed.{Sheet}
use Rattle.doc_heap.specs.HeapPages.{head_on, ChangesSlot}
use Rattle.doc_heap.proofs.SlotLists.{has_head}
use Rattle.engine.proofs.HeadChanges.{used_in, fields_on, is_heap_page}
use Rattle.engine.proofs.changes.leave_fields.Goals as goal
use Rattle.engine.proofs.changes.leave_fields.Goals.{in-Heap, in_default}

pub set_fields-requires : goal.set_fields-requires
set_fields-requires c =
    let same : c.in_ok-heap.heap ≡ c.args.page.now = c.in_ok-heap.ensures.cases in
    let at : c.from.result ≡ c.args.slot = cc in
    let there = has_head (head_on c.args.page.now c.args.slot) c.requires in
    used_in c.args.page.now c.in_ok-heap.heap c.in-Heap.slots c.args.slot c.from.result there.0 same
    c.in-Heap.is at (sym there.1)

pub returns : goal.returns
returns c =
    let same : c.in_ok-heap.heap ≡ c.args.page.now = c.in_ok-heap.ensures.cases in
    record {
      new = c.match-heap.heap;
      changes = λ h there. elim c.match-heap.branch [
        | in-Heap w ↦
            let at : w.from.result ≡ c.args.slot = cc in
            subst (λ (p : Page). ChangesSlot c.args.page.now c.args.slot (Some (head_with c.args.fields h.vector)) p)
            (sym w.heap-is)
            (fields_on c.args.page.now c.in_ok-heap.heap w.in-Heap.slots w.set_fields.new.self c.args.slot
            w.from.result c.args.fields same w.in-Heap.is at w.set_fields.ensures h there)
        | in_default w ↦
            absurd (is_heap_page c.in_ok-heap.heap.body c.args.slot h
            (ap (λ (p : Page). head_on p c.args.slot) same ∙ there) w.in_default.not-Heap)
      ];
      step_is = c.in_ok-leave.ensures.ok
          ∙ ap (λ (y : Sheet). record c.args.step.now { after = c.args.step.now.after ++ y ∷ [] }) c.new.ensures;
    }
