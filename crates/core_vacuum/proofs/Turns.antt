-- How pages change by a record of the kinds 18 to 21.
use Rattle.std.proofs.Common.{◌≡◌, ◌++◌, ℕ, suc, List, [], ◌∷◌, length, refl, sym, ap, subst, subst₂, ◌∙◌}
use Rattle.std.proofs.Common.{inl, inr, arith}
use Rattle.std.specs.Prelude.{Option}
use Rattle.page_types.specs.declared.page.Page.{Page}
use Rattle.page_types.specs.declared.page.Head.{Head}
use Rattle.page_types.specs.declared.page.Row.{Row}
use Rattle.page_types.specs.declared.page.Entry.{Entry}
use Rattle.page_types.specs.declared.page.PostChild.{PostChild}
use Rattle.page_types.specs.declared.page.Gone.{Gone}
use Rattle.page_types.specs.declared.page.Gone.TheVariants as gone
use Rattle.page_types.specs.declared.page.Body.{Body}
use Rattle.page_types.specs.declared.page.Body.TheVariants as body
use Rattle.page_types.specs.declared.record.Record.{Record}
use Rattle.page_types.specs.declared.record.Kind.{Kind}
use Rattle.page_types.specs.declared.record.Kind.TheVariants as kind
use Rattle.core_state.specs.Log.{Log, Pages, In, Shows, changed, commits}
use Rattle.core_state.specs.Documents.{page_of}
use Rattle.core_state.specs.Changes.{made_with}
use Rattle.core_state.specs.TreeRules.{IsDeletePost}
use Rattle.core_state.specs.VacuumRules.{EntriesLose, ListsLose, IsRemoveItems, IsDropped, IsDropPage, IsFreeSlots}
use Rattle.core_state.specs.Legal.{RuleHolds, IsLegal}
use Rattle.core_state.proofs.Showing.{shown_one, others_stay}
use Rattle.core_state.proofs.PageLists.{in_or_not, of_one, of_two, of_three, one_page, two_pages, unlinked_pages}
use Rattle.core_state.proofs.RulesByKind.{kind_rule}
use Rattle.core_vacuum.specs.Keeping.{IsVacuum, IsGoneLeaf}

-- a page stays, or loses items of its lists; it is an empty leaf that is deleted, or its parent; it is a heap page, or
-- one of a chain
pub data IsTurned (P Q : Pages) : Body → Body → Type 0 where
  same : (b : Body) → IsTurned P Q b b
  entries : (removed high : List ℕ) (es fs : List Entry) → EntriesLose removed es fs
      → IsTurned P Q (body.EntryLeaf high es) (body.EntryLeaf high fs)
  postings : (high : ℕ) (old new : List ℕ) → IsTurned P Q (body.PostLeaf high old) (body.PostLeaf high new)
  deleted : (high : ℕ) → IsTurned P Q (body.PostLeaf high []) (body.Deleted (gone.PostLeaf high []))
  parent : (front : List PostChild) (next : PostChild) (back : List PostChild) (page bound : ℕ) → IsGoneLeaf Q page
      → IsTurned P Q (body.PostInner (front ++ record { page = page; bound = bound } ∷ next ∷ back))
      (body.PostInner (front ++ next ∷ back))
  heap : (slots new : List (Option Head)) → IsTurned P Q (body.Heap slots) (body.Heap new)
  part : (bytes : List ℕ) → IsTurned P Q (body.Overflow bytes) (body.Deleted (gone.Overflow bytes))
  rows : (rs : List Row) → IsTurned P Q (body.Pending rs) (body.Deleted (gone.Pending rs))

module _ (R : Log) (P Q : Pages) (r : Record) where
  abbrev pub Turns : ℕ → Type 0
  Turns p = IsTurned P Q (P p).body (Q p).body

  -- the page with these two contents
  turns : (p : ℕ) (old new : Page) (b c : Body) → P p ≡ old → old.body ≡ b → Q p ≡ new → new.body ≡ c
      → IsTurned P Q b c → Turns p
  turns p old new b c was e is f t =
      subst₂ (IsTurned P Q) (sym (ap (λ (x : Page). x.body) was ∙ e)) (sym (ap (λ (x : Page). x.body) is ∙ f)) t

  lists_turn : (removed : List ℕ) (b c : Body) → ListsLose removed b c → IsTurned P Q b c
  lists_turn removed _ _ (ListsLose.entries high old new lose) = IsTurned.entries removed high old new lose
  lists_turn removed _ _ (ListsLose.postings high old new lose) = IsTurned.postings high old new

  by_removal : (floor : ℕ) → IsRemoveItems R P Q r floor → (p : ℕ) → In p (changed r) → Turns p
  by_removal floor x =
      let h = x.here in
      let was = one_page P (changed r) h.page h.old h.pages h.before_is in
      let is = one_page Q (changed r) h.page (made_with r h.old.right h.content) h.pages h.after_is in
      of_one Turns (changed r) h.page h.pages
      (turns h.page h.old (made_with r h.old.right h.content) h.old.body h.content was refl is refl
      (lists_turn h.removed h.old.body h.content h.lists))

  by_deletion : IsDeletePost R P Q r → (p : ℕ) → In p (changed r) → Turns p
  by_deletion x =
      let h = x.here in
      let then = body.PostInner (h.front ++ h.next ∷ h.back) in
      let end = body.Deleted (gone.PostLeaf h.high []) in
      let u = unlinked_pages P Q r h.page h.parent h.old.right h.lefts h.lefts_before h.lefts_after h.old
      (made_with r h.old.right end) h.old_parent (made_with r h.old_parent.right then) (changed r) h.unlinked h.pages
      h.before_is h.after_is in
      let leaf = turns h.page h.old (made_with r h.old.right end) (body.PostLeaf h.high []) end u.was h.empty u.is refl
      (IsTurned.deleted h.high) in
      let upper = turns h.parent h.old_parent (made_with r h.old_parent.right then) _ then u.parent_was h.child
      u.parent_is refl (IsTurned.parent h.front h.next h.back h.page h.bound
      (h.high, ap (λ (c : Page). c.body) u.is)) in
      elim u.leaf [
        | inl none ↦ of_two Turns (changed r) h.page h.parent
            (h.pages ∙ ap (λ (ls : List ℕ). h.page ∷ (ls ++ h.parent ∷ [])) none) leaf upper
        | inr left ↦ of_three Turns (changed r) h.page left.0 h.parent
            (h.pages ∙ ap (λ (ls : List ℕ). h.page ∷ (ls ++ h.parent ∷ [])) left.1) leaf
            (turns left.0 (P left.0) (Q left.0) (body.PostLeaf left.2.high left.2.items)
            (body.PostLeaf left.2.high left.2.items) refl left.2.was refl
            (ap (λ (c : Page). c.body) left.2.after) (IsTurned.same _))
            upper
      ]

  dropped_turn : (head : Head) (page right : ℕ) (b : Body) (g : Gone) (then : Head)
      → IsDropped head page right b g then → IsTurned P Q b (body.Deleted g)
  dropped_turn head page right _ _ _ (IsDropped.overflow bytes e) = IsTurned.part bytes
  dropped_turn head page right _ _ _ (IsDropped.private rs e) = IsTurned.rows rs

  by_drop : (floor : ℕ) → IsDropPage R P Q r floor → (p : ℕ) → In p (changed r) → Turns p
  by_drop floor x =
      let h = x.here in
      let c = h.head_after in
      let was = two_pages P (changed r) (page_of h.doc.item) h.page h.old h.was h.pages h.before_is in
      let is = two_pages Q (changed r) (page_of h.doc.item) h.page h.heap_then
      (made_with r h.was.right (body.Deleted h.content)) h.pages h.after_is in
      of_two Turns (changed r) (page_of h.doc.item) h.page h.pages
      (turns (page_of h.doc.item) h.old h.heap_then (body.Heap c.slots) (body.Heap c.new_slots) was.0 c.before is.0
      (ap (λ (z : Page). z.body) c.after) (IsTurned.heap c.slots c.new_slots))
      (turns h.page h.was (made_with r h.was.right (body.Deleted h.content)) h.was.body (body.Deleted h.content) was.1
      refl is.1 refl (dropped_turn h.head h.page h.was.right h.was.body h.content h.head_then h.dropped))

  by_freeing : (floor : ℕ) → IsFreeSlots R P Q r floor → (p : ℕ) → In p (changed r) → Turns p
  by_freeing floor x =
      let h = x.here in
      let then = made_with r h.old.right (body.Heap h.new_slots) in
      let was = one_page P (changed r) h.page h.old h.pages h.before_is in
      let is = one_page Q (changed r) h.page then h.pages h.after_is in
      of_one Turns (changed r) h.page h.pages
      (turns h.page h.old then (body.Heap h.slots) (body.Heap h.new_slots) was h.was is refl
      (IsTurned.heap h.slots h.new_slots))

  by_kind : (floor since : ℕ) → RuleHolds R P Q r floor since → (kd : Kind) → r.kind ≡ kd → IsVacuum kd → (p : ℕ)
      → In p (changed r) → Turns p
  by_kind floor since x kind.Create is w = absurd (omega (arith, w.0))
  by_kind floor since x kind.Begin is w = absurd (omega (arith, w.0))
  by_kind floor since x (kind.Commit c) is w = absurd (omega (arith, w.0))
  by_kind floor since x kind.Abort is w = absurd (omega (arith, w.0))
  by_kind floor since x (kind.Checkpoint redo) is w = absurd (omega (arith, w.0))
  by_kind floor since x (kind.PlaceHead i s) is w = absurd (omega (arith, w.0))
  by_kind floor since x (kind.PutOverflow i s) is w = absurd (omega (arith, w.0))
  by_kind floor since x (kind.MarkDeleted i s) is w = absurd (omega (arith, w.0))
  by_kind floor since x (kind.PutPending i s) is w = absurd (omega (arith, w.0))
  by_kind floor since x (kind.AddRow i s) is w = absurd (omega (arith, w.0))
  by_kind floor since x (kind.LinkPending i s) is w = absurd (omega (arith, w.0))
  by_kind floor since x kind.Shift is w = absurd (omega (arith, w.0))
  by_kind floor since x kind.AddItems is w = absurd (omega (arith, w.0))
  by_kind floor since x kind.MakeTree is w = absurd (omega (arith, w.0))
  by_kind floor since x kind.AddPostings is w = absurd (omega (arith, w.0))
  by_kind floor since x kind.GrowRoot is w = absurd (omega (arith, w.0))
  by_kind floor since x kind.Split is w = absurd (omega (arith, w.0))
  by_kind floor since x kind.RemoveItems is w = by_removal floor (kind_rule R P Q r floor since kind.RemoveItems is x)
  by_kind floor since x kind.DeletePost is w = by_deletion (kind_rule R P Q r floor since kind.DeletePost is x)
  by_kind floor since x (kind.DropPage i s) is w =
      by_drop floor (kind_rule R P Q r floor since (kind.DropPage i s) is x)
  by_kind floor since x kind.FreeSlots is w = by_freeing floor (kind_rule R P Q r floor since kind.FreeSlots is x)

  -- the rule of the newest record of a legal log
  pub newest_rule : IsLegal (r ∷ R) → Shows R P → Shows (r ∷ R) Q
      → RuleHolds R P Q r (commits R) (suc (length R))
  newest_rule legal shown shown' =
      let u = legal.valid.1 in
      let floor = commits R in
      let since = suc (length R) in
      subst (λ (S : Pages). RuleHolds R S Q r floor since) (shown_one R u.before P u.shown shown)
      (subst (λ (S : Pages). RuleHolds R u.before S r floor since)
      (shown_one (r ∷ R) u.after Q u.shown_after shown') u.rule)

  pub each_turns : IsLegal (r ∷ R) → Shows R P → Shows (r ∷ R) Q → IsVacuum r.kind → (p : ℕ) → Turns p
  each_turns legal shown shown' w p = elim (in_or_not p (changed r)) [
    | inl on ↦
        by_kind (commits R) (suc (length R)) (newest_rule legal shown shown') r.kind refl w p on
    | inr off ↦
        subst (λ (c : Page). IsTurned P Q (P p).body c.body) (sym (others_stay R r P Q shown shown' p off))
        (IsTurned.same (P p).body)
  ]
