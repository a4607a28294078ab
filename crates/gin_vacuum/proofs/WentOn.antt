-- How far slots have become free after a step.
use Rattle.std.proofs.Common.{◌≡◌, ◌≢◌, ◌<◌, ◌≤◌, ◌-◌, ℕ, List, [], ◌∷◌, length, take, drop, get_or, refl, ap}
use Rattle.std.proofs.Common.{◌∙◌}
use Rattle.std.proofs.Common.{inl, inr, arith, Result, Ok, Err}
use Rattle.std.specs.Prelude.{None, OnOk, OnErr}
use Rattle.disk_trait.specs.declared.device.Disk.{Ghosts as Disk}
use Rattle.page_types.specs.Views.{slots_in, slot_at}
use Rattle.page_types.specs.declared.page.Page.{Page}
use Rattle.core_state.specs.Log.{Log, Pages, In}
use Rattle.core_state.specs.Documents.{page_of, slot_of, head_of}
use Rattle.core_state.specs.Allowed.{Sheet}
use Rattle.core_state.specs.RecordKeeps.{RecordsKeep}
use Rattle.core_vacuum.specs.Leaving.{IsOut}
use Rattle.core_vacuum.specs.Keeping.{VacuumHolds}
use Rattle.core_vacuum.specs.Staying.{RightKeepsOut}
use Rattle.buffer_frames.specs.Frames.{FramesValue}
use Rattle.buffer_frames.specs.Passes.{IsPassOf, IsHolding, Seen}
use Rattle.buffer_frames.specs.declared.pass.Pass.{Pass}
use Rattle.buffer_frames.proofs.AtHand.{none_held}
use Rattle.doc_heap.specs.HeapPages.{head_on}
use Rattle.gin_place.specs.Going.{WorksOn}
use Rattle.gin_place.specs.Holding.{ReadsOn}
use Rattle.gin_place.specs.Placing.{HasRight}
use Rattle.gin_place.proofs.Carrying.{right_on}
use Rattle.gin_vacuum.specs.Freeing.{WasFree, IsFreeing}
use Rattle.gin_vacuum.specs.Inner.Freeing.{IsChained, LogsDrop, LogsFree}
use Rattle.gin_vacuum.specs.declared.freeing.Chained.{Chained}
use Rattle.gin_vacuum.specs.declared.freeing.Freeing.{Freeing}
use Rattle.gin_vacuum.proofs.FreeingOn.{freeing_on, dropped_on, group_on}
use Rattle.gin_vacuum.proofs.Groups.{get_of_drop, first_taken}
use Rattle.gin_vacuum.proofs.OutOn.{none_some, head_out}
use Rattle.gin_vacuum.proofs.StaysOn.{seen_on}

module _ {D : Type 0} (device : Disk D) (stay : RightKeepsOut) (vacuum : VacuumHolds) (keep : RecordsKeep)
    (f g h : FramesValue D) (p q r : Pass) (was : IsPassOf f p) (right : HasRight p) (none : p.held ≡ 0)
    (reads : WorksOn device f p g q []) (heap : Sheet) (hold : IsHolding device g q (heap ∷ [])) (began : ℕ)
    (items : List ℕ) (c : Freeing) (so_far : IsFreeing device f p began items c) where
  right_now : HasRight q
  right_now = right_on device f g p q [] right reads

  pub held_then : IsFreeing device g q began items c
  held_then = freeing_on device f g p q [] (none_held device f p was none) was right reads began items c so_far

  pub read_then : ReadsOn device g q h r → IsFreeing device h r began items c
  read_then more =
      freeing_on device g h q r (heap ∷ []) hold reads.is_pass right_now more.works began items c held_then

  -- a page of a chain goes, or is not logged to go
  pub dropped : {T E : Type 0} (result : Result T E) (found : Chained) → IsChained heap.content found
      → heap.page ≡ page_of found.item → OnOk result (LogsDrop device g q heap h r found)
      → OnErr result (ReadsOn device g q h r) → IsFreeing device h r began items c
  dropped (Ok x) found ch number logs refused =
      let to = (logs.reads).works in
      let mid = freeing_on device g logs.frames_held q logs.pass_held
      (heap ∷ []) hold reads.is_pass right_now to began items
      c held_then in
      dropped_on device stay vacuum keep logs.frames_held h logs.pass_held r
      (logs.page ∷ heap ∷ []) logs.step to.is_pass
      (right_on device g logs.frames_held q logs.pass_held [] right_now to) logs.logged heap logs.page found
      logs.is_step ch number began items c mid
  dropped (Err e) found ch number logs refused = read_then refused

  -- no item of the group has a free slot
  none_free : (i : ℕ) → In i (drop c.from items) → page_of i ≡ heap.page → head_on heap.content (slot_of i) ≡ None
      → Seen device g q (λ S P. P heap.page ≡ heap.content) → Seen device g q (λ S P. ⊥)
  none_free i at on free seen t up R stands legal P shown =
      none_some _ (head_of P i)
      (ap (λ (n : ℕ). slot_at (slots_in (P n).body) (slot_of i)) on
      ∙ ap (λ (x : Page). slot_at (slots_in x.body) (slot_of i)) (seen t up R stands legal P shown) ∙ free)
      (head_out _ P q.floor i (held_then.out t up R stands legal P shown i at))

  -- the slots of the group become free
  pub freed : (end : ℕ) → c.from < end → end ≤ length items
      → ((i : ℕ) → In i (take (end - c.from) (drop c.from items)) → page_of i ≡ heap.page)
      → ((i : ℕ) → In i (drop end items) → page_of i ≢ heap.page)
      → Seen device g q (λ S P. P heap.page ≡ heap.content)
      → LogsFree device g q heap h r (take (end - c.from) (drop c.from items))
      → IsFreeing device h r began items (record { from = end })
  freed end more most here past seen (inr logs) =
      group_on device stay vacuum keep g h q r (heap ∷ []) logs.0 reads.is_pass right_now logs.2 heap _ logs.1 began end
      items c (omega (arith, more)) most refl here past held_then
  freed end more most here past seen (inl still) =
      let i = get_or items c.from 0 in
      let at : In i (drop c.from items) =
      get_of_drop items c.from c.from (omega arith) (omega (arith, more, most)) in
      let first : In i (take (end - c.from) (drop c.from items)) = first_of_group in
      let works = (still.0).works in
      let no = none_free i at (here i first) (still.1 i first) seen in
      let never = λ (Y : Log → Pages → Type 0). seen_on device g h q r
      (heap ∷ []) hold reads.is_pass right_now works.added
      works.rises works.is_pass (λ S P. ⊥) Y (λ S S' P Q s x. absurd x) no in
      record {
        began_at = omega (arith, held_then.began_at, (works.rises).seen);
        within = most;
        out = never (λ S P. (i : ℕ) → In i (drop end items) → IsOut S P r.floor i);
        freed = never (λ S P. (i : ℕ) → In i (take end items) → WasFree began S i);
      }
    where
      first_of_group : In (get_or items c.from 0) (take (end - c.from) (drop c.from items))
      first_of_group = first_taken items c.from (end - c.from) (omega (arith, more)) (omega (arith, more, most))
