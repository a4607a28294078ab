-- The chains of items after each kind of record, where the places of pages change as the kind says.
use Rattle.std.proofs.Common.{◌≡◌, ◌≢◌, ◌⊎◌, ℕ, List, refl, sym, ap, subst, ◌∙◌, inl, inr}
use Rattle.std.specs.Prelude.{◌↔◌, ⊤}
use Rattle.page_types.specs.declared.page.Page.{Page}
use Rattle.page_types.specs.declared.page.Head.{Head}
use Rattle.page_types.specs.declared.page.Body.{Body}
use Rattle.page_types.specs.declared.page.Body.TheVariants as body
use Rattle.page_types.specs.declared.page.Gone.{Gone}
use Rattle.page_types.specs.declared.record.Record.{Record}
use Rattle.page_types.specs.declared.record.Kind.{Kind}
use Rattle.page_types.specs.declared.record.Kind.TheVariants as kind
use Rattle.core_state.specs.Log.{Log, Pages, In, changed}
use Rattle.core_state.specs.Documents.{page_of}
use Rattle.core_state.specs.Changes.{made_with}
use Rattle.core_state.specs.HeapRules.{IsPutOverflow}
use Rattle.core_state.specs.PendingRules.{IsPutPending, IsLinkPending}
use Rattle.core_state.specs.VacuumRules.{IsDropped, IsDropPage}
use Rattle.core_state.specs.Inner.PageKinds.{IsHeap, IsOverflow, IsPending, IsMeta, IsFirstOf, Touched}
use Rattle.core_state.specs.Inner.ItemChains.{Chains, AreOverflows, ArePrivates}
use Rattle.core_state.proofs.PageLists.{two_pages}
use Rattle.core_state.proofs.HeadSteps.{HeadTurned, HeadStep, put_turned, rows_turned, link_turned, drop_turned}
use Rattle.core_state.proofs.ChainSteps.{new_not_zero, chains_stay, chain_longer, chain_gone, chain_shorter}
use Rattle.core_state.proofs.ChainSteps.{chain_beside}
use Rattle.core_state.proofs.ChainFrames.{only_overflow, only_pending, overflow_stays, pending_stays, first_in}

-- a record of this kind changes no overflow chain, and no private one
abbrev pub LeavesOverflows : Kind → Type 0
LeavesOverflows (kind.PutOverflow i s) = ⊥
LeavesOverflows (kind.DropPage i s) = ⊥
LeavesOverflows _ = ⊤

abbrev pub LeavesPrivates : Kind → Type 0
LeavesPrivates (kind.PutPending i s) = ⊥
LeavesPrivates (kind.LinkPending i s) = ⊥
LeavesPrivates (kind.DropPage i s) = ⊥
LeavesPrivates _ = ⊤

-- of which chain the dropped page is the first
pub data DropsFrom (P : Pages) (h h' : Head) (page : ℕ) : Type 0 where
  overflow : h.overflow ≡ page → h'.overflow ≡ (P page).right → h'.private ≡ h.private → IsOverflow (P page).body
      → DropsFrom P h h' page
  private : h.private ≡ page → h'.private ≡ (P page).right → h'.overflow ≡ h.overflow → IsPending (P page).body
      → DropsFrom P h h' page

drops : (P : Pages) (h h' : Head) (page : ℕ) (was : Page) (b : Body) (g : Gone) → IsDropped h page was.right b g h'
    → P page ≡ was → was.body ≡ b → DropsFrom P h h' page
drops P h h' page was b g (IsDropped.overflow bytes e) w f =
    DropsFrom.overflow e (sym (ap (λ (q : Page). q.right) w)) refl (subst IsOverflow (sym (ap (λ (q : Page). q.body) w
    ∙ f)) tt)
drops P h h' page was b g (IsDropped.private rows e) w f =
    DropsFrom.private e (sym (ap (λ (q : Page). q.right) w)) refl (subst IsPending (sym (ap (λ (q : Page). q.body) w
    ∙ f)) tt)

module _ (R : Log) (P Q : Pages) (r : Record) (floor since : ℕ) (touch : (p : ℕ) → In p (changed r)
    → Touched P Q r since p) (elsewhere : (q : ℕ) → (In q (changed r) → ⊥) → Q q ≡ P q) where
  module _ (On On' : ℕ → ℕ → Type 0) (O : AreOverflows P On) where
    over : (i q : ℕ) → On i q → (Q q ≡ P q) ⊎ IsFirstOf P r.kind q
    over i q on = overflow_stays P Q r since touch elsewhere q (O.fits i q on)

    -- a record of another kind leaves the overflow chains
    pub overflows_stay : LeavesOverflows r.kind → ((i q : ℕ) → On i q ↔ On' i q) → HeadStep R P Q r floor
        → Chains Q (λ h. h.overflow) On'
    overflows_stay leaves same H =
        chains_stay R P Q r floor since (λ h. h.overflow) On On' O.chains over (λ h s x n. n.overflow)
        (λ d h h' t. elim t.overflow [
          | inl e ↦ e
          | inr (inl put) ↦ absurd (subst LeavesOverflows put leaves)
          | inr (inr drop) ↦ absurd (subst LeavesOverflows drop leaves)
        ])
        (λ i f. f.no_overflow) (λ d drop. subst LeavesOverflows drop leaves) same H

    -- 7: the new page comes in front
    pub put_overflows : IsMeta (P 0).body → (x : IsPutOverflow R P Q r since)
        → ((i q : ℕ) → (((i ≡ x.here.doc.item) × (q ≡ x.here.new)) ⊎ On i q) ↔ On' i q) → Chains Q (λ h. h.overflow) On'
    put_overflows meta x same =
        let a = page_of x.here.doc.item in
        let g = two_pages Q (changed r) a x.here.new x.here.heap_then (made_with r x.here.head.overflow
        (body.Overflow x.here.part)) x.here.pages x.here.after_is in
        chain_longer R P Q r floor since (λ h. h.overflow) On On' O.chains over x.here.doc x.here.head
        (record x.here.head { overflow = x.here.new }) x.here.new
        (put_turned R P Q r floor since touch elsewhere x) refl (new_not_zero P since x.here.new meta x.here.is_new)
        (ap (λ (q : Page). q.right) g.1)
        (λ e drop. let f : kind.PutOverflow x.here.doc.item x.here.doc.serial ≡ kind.DropPage e.item e.serial =
        sym x.here.kind_is ∙ drop in cc) same

  module _ (line : List ℕ) (On On' : ℕ → ℕ → Type 0) (W : ArePrivates P line On) where
    mine : (i q : ℕ) → On i q → (Q q ≡ P q) ⊎ IsFirstOf P r.kind q
    mine i q on = pending_stays P Q r since touch elsewhere q (W.fits i q on) line W.is_line (W.apart i q on)

    -- a record of another kind leaves the private chains
    pub privates_stay : LeavesPrivates r.kind → ((i q : ℕ) → On i q ↔ On' i q) → HeadStep R P Q r floor
        → Chains Q (λ h. h.private) On'
    privates_stay leaves same H =
        chains_stay R P Q r floor since (λ h. h.private) On On' W.chains mine (λ h s x n. n.private)
        (λ d h h' t. elim t.private [
          | inl e ↦ e
          | inr (inl put) ↦ absurd (subst LeavesPrivates put leaves)
          | inr (inr (inl link)) ↦ absurd (subst LeavesPrivates link leaves)
          | inr (inr (inr drop)) ↦ absurd (subst LeavesPrivates drop leaves)
        ])
        (λ i f. f.no_private) (λ d drop. subst LeavesPrivates drop leaves) same H

    -- 9: the new page comes in front
    pub put_privates : IsMeta (P 0).body → (x : IsPutPending R P Q r since)
        → ((i q : ℕ) → (((i ≡ x.here.doc.item) × (q ≡ x.here.new)) ⊎ On i q) ↔ On' i q) → Chains Q (λ h. h.private) On'
    put_privates meta x same =
        let a = page_of x.here.doc.item in
        let g = two_pages Q (changed r) a x.here.new x.here.heap_then (made_with r x.here.head.private
        (body.Pending x.here.rows)) x.here.pages x.here.after_is in
        chain_longer R P Q r floor since (λ h. h.private) On On' W.chains mine x.here.doc x.here.head
        (record x.here.head { private = x.here.new }) x.here.new
        (rows_turned R P Q r floor since touch elsewhere x) refl (new_not_zero P since x.here.new meta x.here.is_new)
        (ap (λ (q : Page). q.right) g.1)
        (λ e drop. let f : kind.PutPending x.here.doc.item x.here.doc.serial ≡ kind.DropPage e.item e.serial =
        sym x.here.kind_is ∙ drop in cc) same

    -- 11: the item's private chain goes to the pending list
    pub link_privates : (x : IsLinkPending R P Q r) → ((i q : ℕ) → (On i q × (i ≢ x.here.doc.item)) ↔ On' i q)
        → Chains Q (λ h. h.private) On'
    link_privates x same =
        chain_gone R P Q r floor since (λ h. h.private) On On' W.chains mine x.here.doc x.here.head
        (record x.here.head { private = 0 }) (link_turned R P Q r floor since touch elsewhere x) refl
        (λ e drop. let f : kind.LinkPending x.here.doc.item x.here.doc.serial ≡ kind.DropPage e.item e.serial =
        sym x.here.kind_is ∙ drop in cc) same

  -- 20: what isn't the dropped page nor a heap page stays
  drop_stays : (x : IsDropPage R P Q r floor) → (q : ℕ) → q ≢ x.here.page → (IsHeap (P q).body → ⊥) → Q q ≡ P q
  drop_stays x q off heap =
      let a = page_of x.here.doc.item in
      let f = two_pages P (changed r) a x.here.page x.here.old x.here.was x.here.pages x.here.before_is in
      let c = x.here.head_after in
      let is_heap : IsHeap (P a).body = subst IsHeap (sym (ap (λ (p : Page). p.body) f.0 ∙ c.before)) tt in
      elsewhere q (λ i. elim (subst (In q) x.here.pages i) [
        | inl e ↦ heap (subst (λ (z : ℕ). IsHeap (P z).body) (sym e)
            is_heap)
        | inr (inl e) ↦ off e
        | inr (inr n) ↦ n
      ])

  -- the dropped page, by its chain
  pub drops_from : (x : IsDropPage R P Q r floor) → DropsFrom P x.here.head x.here.head_then x.here.page
  drops_from x =
      let f = two_pages P (changed r) (page_of x.here.doc.item) x.here.page x.here.old x.here.was x.here.pages
      x.here.before_is in
      drops P x.here.head x.here.head_then x.here.page x.here.was x.here.was.body x.here.content x.here.dropped f.1 refl

  head_then : (x : IsDropPage R P Q r floor) → HeadTurned P Q x.here.doc x.here.head x.here.head_then
  head_then x = drop_turned R P Q r floor since touch elsewhere x

  module _ (On On' : ℕ → ℕ → Type 0) (O : AreOverflows P On) (x : IsDropPage R P Q r floor) (same : (i q : ℕ)
      → (On i q × (q ≢ x.here.page)) ↔ On' i q) where
    stay : (i q : ℕ) → q ≢ x.here.page → On i q → Q q ≡ P q
    stay i q off on = drop_stays x q off (only_overflow (P q).body (O.fits i q on)).0

    overflows_in : DropsFrom P x.here.head x.here.head_then x.here.page → Chains Q (λ h. h.overflow) On'
    overflows_in (DropsFrom.overflow e link other is) =
        let c = O.chains.some x.here.doc.item x.here.head (head_then x).was.at in
        let off : x.here.head.overflow ≢ 0 = λ z. x.here.not_none (sym e ∙ z) in
        let own : On x.here.doc.item x.here.head.overflow = (c.on x.here.head.overflow).0
        (first_in P x.here.head.overflow c.pages off c.is_chain) in
        chain_shorter R P Q r floor since (λ h. h.overflow) On On' O.chains (λ i q on. overflow_stays P Q r since touch
        elsewhere q (O.fits i q on)) x.here.doc x.here.head x.here.head_then (head_then x) off
        (link ∙ ap (λ (q : ℕ). (P q).right) (sym e)) (λ i q n on. stay i q (λ z. n (z ∙ sym e)) on)
        (λ i n on. n (O.one i x.here.doc.item x.here.head.overflow on own))
        (λ i q. subst (λ (z : ℕ). (On i q × (q ≢ z)) ↔ On' i q) (sym e) (same i q))
    overflows_in (DropsFrom.private e link other is) =
        chain_beside R P Q r floor since (λ h. h.overflow) On On' O.chains (λ i q on. overflow_stays P Q r since touch
        elsewhere q (O.fits i q on)) x.here.doc x.here.head x.here.head_then x.here.page (head_then x)
        other stay (λ i on. (only_pending (P x.here.page).body is).2 (O.fits i x.here.page on)) same

    pub drop_overflows : Chains Q (λ h. h.overflow) On'
    drop_overflows = overflows_in (drops_from x)

  module _ (line : List ℕ) (On On' : ℕ → ℕ → Type 0) (W : ArePrivates P line On) (x : IsDropPage R P Q r floor)
      (same : (i q : ℕ) → (On i q × (q ≢ x.here.page)) ↔ On' i q) where
    private_stay : (i q : ℕ) → q ≢ x.here.page → On i q → Q q ≡ P q
    private_stay i q off on = drop_stays x q off (only_pending (P q).body (W.fits i q on)).0

    stays : (i q : ℕ) → On i q → (Q q ≡ P q) ⊎ IsFirstOf P r.kind q
    stays = mine line On On' W

    privates_in : DropsFrom P x.here.head x.here.head_then x.here.page → Chains Q (λ h. h.private) On'
    privates_in (DropsFrom.private e link other is) =
        let c = W.chains.some x.here.doc.item x.here.head (head_then x).was.at in
        let off : x.here.head.private ≢ 0 = λ z. x.here.not_none (sym e ∙ z) in
        let own : On x.here.doc.item x.here.head.private = (c.on x.here.head.private).0 (first_in P x.here.head.private
        c.pages off c.is_chain) in
        chain_shorter R P Q r floor since (λ h. h.private) On On' W.chains stays x.here.doc x.here.head
        x.here.head_then (head_then x) off
        (link ∙ ap (λ (q : ℕ). (P q).right) (sym e)) (λ i q n on. private_stay i q (λ z. n (z ∙ sym e)) on)
        (λ i n on. n (W.one i x.here.doc.item x.here.head.private on own))
        (λ i q. subst (λ (z : ℕ). (On i q × (q ≢ z)) ↔ On' i q) (sym e) (same i q))
    privates_in (DropsFrom.overflow e link other is) =
        chain_beside R P Q r floor since (λ h. h.private) On On' W.chains stays x.here.doc x.here.head x.here.head_then
        x.here.page (head_then x) other private_stay
        (λ i on. (only_pending (P x.here.page).body (W.fits i x.here.page on)).2 is) same

    pub drop_privates : Chains Q (λ h. h.private) On'
    drop_privates = privates_in (drops_from x)
