-- No page of a dead document is bad in a legal log.
use Rattle.std.proofs.Common.{◌≡◌, ◌≢◌, ℕ, zero, suc, List, [], ◌∷◌, refl, sym, ap, subst, ◌∙◌, inl}
use Rattle.std.specs.Prelude.{Option, Some}
use Rattle.disk_trait.specs.declared.device.Disk.{Ghosts as Disk}
use Rattle.page_types.specs.Views.{slots_in, slot_at}
use Rattle.page_types.specs.declared.page.Page.{Page}
use Rattle.page_types.specs.declared.page.Head.{Head}
use Rattle.page_types.specs.declared.page.Body.{Body}
use Rattle.page_types.specs.declared.page.Body.TheVariants as body
use Rattle.core_state.specs.Log.{Log, Pages, In}
use Rattle.core_state.specs.Documents.{page_of, slot_of, head_of}
use Rattle.core_state.specs.Allowed.{Sheet}
use Rattle.core_state.specs.Legal.{IsLegal}
use Rattle.core_state.specs.Inner.Ghosts.{Ghost}
use Rattle.core_state.specs.Inner.ItemChains.{ChainOf}
use Rattle.core_state.specs.Inner.PageKinds.{IsOverflow, IsPending}
use Rattle.core_state.proofs.Law.AllCases.{all_steps}
use Rattle.core_state.proofs.Law.ChainsStay.{overflows, privates}
use Rattle.core_state.proofs.Law.Invariant.{Inv}
use Rattle.core_state.proofs.Law.Runs.{plain_run}
use Rattle.core_state.specs.Documents.{IsChain}
use Rattle.page_types.specs.declared.page.Row.{Row}
use Rattle.doc_heap.specs.Leaving.{first_of}
use Rattle.doc_heap.specs.declared.leaving.Chain.{Chain}
use Rattle.doc_heap.specs.declared.leaving.Chain.TheVariants as chain
use Rattle.gin_vacuum.specs.Freeing.{IsPageOf}
use Rattle.gin_vacuum.specs.Inner.Freeing.{IsChained}
use Rattle.gin_vacuum.specs.declared.freeing.Chained.{Chained}
use Rattle.core_state.proofs.Steps.Seen.{seen_shown}
use Rattle.core_vacuum.specs.Leaving.{IsOut}
use Rattle.core_vacuum.specs.Staying.{RightKeepsOut}
use Rattle.buffer_frames.specs.Frames.{FramesValue, Behind}
use Rattle.buffer_frames.specs.Passes.{IsPassOf, IsHolding, Seen, view_of}
use Rattle.buffer_frames.specs.declared.pass.Pass.{Pass}
use Rattle.gin_place.specs.Placing.{HasRight}
use Rattle.buffer_frames.proofs.Begun.{same_by_none}
use Rattle.gin_place.specs.Causes.{CannotUse}
use Rattle.gin_place.specs.Faults.{MetNoFault}
use Rattle.gin_place.specs.Going.{WorksOn}
use Rattle.gin_place.proofs.Lawful.{usable}
use Rattle.gin_place.proofs.Owing.{right_of}
use Rattle.gin_vacuum.specs.Causes.{IsHeap}
use Rattle.gin_vacuum.proofs.OutOn.{head_out}

-- a page with a used slot is a heap page
heap_by_slot : (b : Body) (k : ℕ) (h : Head) → slot_at (slots_in b) k ≡ Some h
    → (slots : List (Option Head)) × (b ≡ body.Heap slots)
heap_by_slot (body.Heap slots) k h is = (slots, refl)
heap_by_slot _ zero h is = absurd cc
heap_by_slot _ (suc k) h is = absurd cc

used : (c : Page) → IsHeap c → c.body ≢ body.Free
used c x free = let two : body.Heap x.0 ≡ body.Free = sym x.1 ∙ free in let z : ⊥ = cc in z

module _ {D : Type 0} (device : Disk D) (stay : RightKeepsOut) (f : FramesValue D) (p : Pass) (held : List Sheet)
    (hold : IsHolding device f p held) (of : IsPassOf f p) (right : HasRight p) (i : ℕ)
    (out : Seen device f p (λ S P. IsOut S P p.floor i)) where
  pub never_heap : CannotUse f IsHeap (page_of i) → Behind device f (λ (R : Log). ⊥)
  never_heap cannot t up R stands legal =
      let v = view_of f p R held in
      let a = hold.allowed t up R stands legal in
      let S = seen_shown v R a in
      let o = (stay v R a S.0 (right_of device f p held R of right stands) S.1).out p.floor i
      (out t up R stands legal S.0 S.1) in
      let is : IsHeap (a.pages (page_of i)) =
      heap_by_slot (a.pages (page_of i)).body (slot_of i) (o.may).head (head_out R a.pages p.floor i o) in
      usable device f R t up stands legal a.pages a.shown IsHeap (page_of i) is (used (a.pages (page_of i)) is) cannot

overflow_is : (b : Body) → IsOverflow b → (bytes : List ℕ) × (b ≡ body.Overflow bytes)
overflow_is (body.Overflow bytes) is = (bytes, refl)
overflow_is _ is = absurd is

pending_is : (b : Body) → IsPending b → (rows : List Row) × (b ≡ body.Pending rows)
pending_is (body.Pending rows) is = (rows, refl)
pending_is _ is = absurd is

-- the first page of a chain is on it
on_chain : (P : Pages) (p : ℕ) (On : ℕ → Type 0) → p ≢ 0 → ChainOf P p On → On p
on_chain P p On some c = by c.pages c.is_chain (λ q i. (c.on q).0 i)
  where
    by : (qs : List ℕ) → IsChain P p qs → ((q : ℕ) → In q qs → On q) → On p
    by [] is on = absurd (some is)
    by (q ∷ qs) is on = subst On (sym is.0) (on q (inl refl))

chain_page : (n L : ℕ) (R : Log) (P : Pages) (g : Ghost) → Inv n L R P g → (c : Chain) (i : ℕ) (h : Head)
    → head_of P i ≡ Some h → first_of c h ≢ 0 → IsPageOf c (P (first_of c h))
chain_page n L R P g v chain.Overflow i h at some =
    let o = overflows n L R P g v in
    overflow_is (P h.overflow).body (o.fits i h.overflow (on_chain P h.overflow _ some (o.chains.some i h at)))
chain_page n L R P g v chain.Private i h at some =
    let o = privates n L R P g v in
    pending_is (P h.private).body (o.fits i h.private (on_chain P h.private _ some (o.chains.some i h at)))

chain_used : (c : Chain) (p : Page) → IsPageOf c p → p.body ≢ body.Free
chain_used chain.Overflow p x free =
    let two : body.Overflow x.0 ≡ body.Free = sym x.1 ∙ free in let z : ⊥ = cc in z
chain_used chain.Private p x free =
    let two : body.Pending x.0 ≡ body.Free = sym x.1 ∙ free in let z : ⊥ = cc in z

-- the head, by the pages
head_at : (P : Pages) (heap : Sheet) (found : Chained) (ch : IsChained heap.content found)
    → heap.page ≡ page_of found.item → P heap.page ≡ heap.content → head_of P found.item ≡ Some ch.head
head_at P heap found ch number same =
    ap (λ (n : ℕ). slot_at (slots_in (P n).body) (slot_of found.item)) (sym number)
    ∙ ap (λ (c : Page). slot_at (slots_in c.body) (slot_of found.item)) same ∙ ch.at

module _ {D : Type 0} (device : Disk D) (f : FramesValue D) (p : Pass) (heap : Sheet)
    (hold : IsHolding device f p (heap ∷ [])) (found : Chained) (ch : IsChained heap.content found)
    (number : heap.page ≡ page_of found.item) where
  pub never_chain : CannotUse f (IsPageOf found.chain) found.page → Behind device f (λ (R : Log). ⊥)
  never_chain cannot t up R stands legal =
      let a = hold.allowed t up R stands legal in
      let inv = plain_run all_steps R legal.valid a.pages a.shown in
      let at : head_of a.pages found.item ≡ Some ch.head = head_at a.pages heap found ch number (a.held).0 in
      let page : IsPageOf found.chain (a.pages found.page) =
      subst (λ (n : ℕ). IsPageOf found.chain (a.pages n)) ch.first
      (chain_page _ _ R a.pages inv.0 inv.1 found.chain found.item ch.head at
      (λ none. ch.some (sym ch.first ∙ none))) in
      usable device f R t up stands legal a.pages a.shown (IsPageOf found.chain) found.page page
      (chain_used found.chain (a.pages found.page) page) cannot

-- a heap page is on no chain
pub heap_no_chain : (c : Chain) (x : Page) → IsHeap x → IsPageOf c x → ⊥
heap_no_chain chain.Overflow x h p =
    let two : body.Heap h.0 ≡ body.Overflow p.0 = sym h.1 ∙ p.1 in let z : ⊥ = cc in z
heap_no_chain chain.Private x h p = let two : body.Heap h.0 ≡ body.Pending p.0 = sym h.1 ∙ p.1 in let z : ⊥ = cc in z

module _ {D : Type 0} (device : Disk D) where
  -- no chain of a head begins with its own heap page, which is held
  never_own : (f : FramesValue D) (p : Pass) (heap : Sheet) → IsHolding device f p (heap ∷ []) → IsHeap heap.content
      → (found : Chained) → IsChained heap.content found → heap.page ≡ page_of found.item → found.page ≡ heap.page
      → Behind device f (λ (R : Log). ⊥)
  never_own f p heap hold is found ch number own t up R stands legal =
      let a = hold.allowed t up R stands legal in
      let inv = plain_run all_steps R legal.valid a.pages a.shown in
      let at : head_of a.pages found.item ≡ Some ch.head = head_at a.pages heap found ch number (a.held).0 in
      let page : IsPageOf found.chain (a.pages found.page) =
      subst (λ (n : ℕ). IsPageOf found.chain (a.pages n)) ch.first
      (chain_page _ _ R a.pages inv.0 inv.1 found.chain found.item ch.head at
      (λ none. ch.some (sym ch.first ∙ none))) in
      heap_no_chain found.chain heap.content is
      (subst (IsPageOf found.chain) (ap a.pages own ∙ (a.held).0) page)

  -- nor is it so before calls that log nothing
  pub own_before : (f g : FramesValue D) (p q : Pass) → WorksOn device f p g q [] → MetNoFault device f g
      → (heap : Sheet) → IsHolding device g q (heap ∷ []) → IsHeap heap.content → (found : Chained)
      → IsChained heap.content found → heap.page ≡ page_of found.item → found.page ≡ heap.page
      → Behind device f (λ (R : Log). ⊥)
  own_before f g p q w fine heap hold is found ch number own t up R stands legal =
      let on = (w.added).on R stands in
      let same : on.0 ≡ R = same_by_none f.journal.owes R on.0 on.2 in
      never_own g q heap hold is found ch number own t (fine.down ∙ up) on.0 on.1 (subst IsLegal (sym same) legal)
