-- What each record does to the heads.
use Rattle.std.proofs.Common.{◌≡◌, ◌≢◌, ◌⊎◌, ℕ, List, [], ◌∷◌, map, refl, sym, ap, subst, ◌∙◌, inl, inr, arith}
use Rattle.std.specs.Prelude.{Option, Some, None}
use Rattle.page_types.specs.Views.{slots_in, slots_of, slot_at}
use Rattle.page_types.specs.declared.page.Page.{Page}
use Rattle.page_types.specs.declared.page.Head.{Head}
use Rattle.page_types.specs.declared.page.Body.{Body}
use Rattle.page_types.specs.declared.page.Body.TheVariants as body
use Rattle.page_types.specs.declared.page.Gone.{Gone}
use Rattle.page_types.specs.declared.record.Record.{Record}
use Rattle.page_types.specs.declared.record.Kind.{Kind}
use Rattle.page_types.specs.declared.record.Kind.TheVariants as kind
use Rattle.core_state.specs.Log.{Log, Pages, In, changed}
use Rattle.core_state.specs.Documents.{Doc, Has, page_of, slot_of, item_at, head_of, doc_at}
use Rattle.core_state.specs.Known.{known, use_in}
use Rattle.core_state.specs.Changes.{made_with, IsNew, PutsSlot, IsHeadChange}
use Rattle.core_state.specs.HeapRules.{IsNewHead, IsPlaceHead, IsPutOverflow, IsMarkDeleted}
use Rattle.core_state.specs.PendingRules.{IsPutPending, IsLinkHere, IsLinkPending}
use Rattle.core_state.specs.VacuumRules.{IsDropped, IsDropPage, IsGoneFrom, SlotLoses, IsFreeSlots}
use Rattle.core_state.specs.Legal.{RuleHolds}
use Rattle.core_state.proofs.PageLists.{same_or_not, in_or_not, one_page, two_pages, three_pages}
use Rattle.core_state.specs.Inner.PageKinds.{IsOverflow, IsPending, IsMeta, IsTree, IsDeleted, IsPlain, IsHeadPage}
use Rattle.core_state.specs.Inner.PageKinds.{IsChanged, Touched}
use Rattle.core_state.proofs.TouchedPages.{head_was}
use Rattle.core_state.proofs.LivePages.{new_was}

pub one_item : (i j : ℕ) → page_of i ≡ page_of j → slot_of i ≡ slot_of j → i ≡ j
one_item i j e f = omega (arith, e, f)

pub item_is : (i p : ℕ) → page_of i ≡ p → item_at p (slot_of i) ≡ i
item_is i p e = omega (arith, e)

-- a record of this kind changes a head of this document
abbrev pub TurnsHead : Kind → Doc → Type 0
TurnsHead (kind.PutOverflow i s) d = (i ≡ d.item) × (s ≡ d.serial)
TurnsHead (kind.MarkDeleted i s) d = (i ≡ d.item) × (s ≡ d.serial)
TurnsHead (kind.PutPending i s) d = (i ≡ d.item) × (s ≡ d.serial)
TurnsHead (kind.LinkPending i s) d = (i ≡ d.item) × (s ≡ d.serial)
TurnsHead (kind.DropPage i s) d = (i ≡ d.item) × (s ≡ d.serial)
TurnsHead _ d = ⊥

-- a head that has changed: its document, bytes and vector are the same, and of the rest what the
-- record's kind says
pub record IsTurned (r : Record) (d : Doc) (h h' : Head) : Type 0 where
  pub by : TurnsHead r.kind d
  pub serial : h'.serial ≡ h.serial
  pub inserted_by : h'.inserted_by ≡ h.inserted_by
  pub bytes : h'.bytes ≡ h.bytes
  pub vector : h'.vector ≡ h.vector
  pub deleted_by : (h'.deleted_by ≡ h.deleted_by) ⊎ ((r.kind ≡ kind.MarkDeleted d.item d.serial)
      × (h'.deleted_by ≡ r.xid))
  pub overflow : (h'.overflow ≡ h.overflow) ⊎ ((r.kind ≡ kind.PutOverflow d.item d.serial)
      ⊎ (r.kind ≡ kind.DropPage d.item d.serial))
  pub private : (h'.private ≡ h.private) ⊎ ((r.kind ≡ kind.PutPending d.item d.serial)
      ⊎ ((r.kind ≡ kind.LinkPending d.item d.serial) ⊎ (r.kind ≡ kind.DropPage d.item d.serial)))

-- one document's head becomes another, and those of the other items stay
pub record HeadTurned (P Q : Pages) (d : Doc) (h h' : Head) : Type 0 where
  pub was : Has P d h
  pub is : Has Q d h'
  pub others : (i : ℕ) → i ≢ d.item → head_of Q i ≡ head_of P i

-- a slot that becomes free
pub record IsFreed (R : Log) (P Q : Pages) (floor i : ℕ) : Type 0 where
  pub head : Head
  pub was : head_of P i ≡ Some head
  pub is : head_of Q i ≡ None
  pub gone : IsGoneFrom R P floor (doc_at i head.serial)
  pub no_overflow : head.overflow ≡ 0
  pub no_private : head.private ≡ 0

-- the heads stay, one is placed, one changes, or some go
pub data HeadStep (R : Log) (P Q : Pages) (r : Record) (floor : ℕ) : Type 0 where
  same : ((i : ℕ) → head_of Q i ≡ head_of P i) → HeadStep R P Q r floor
  placed : (d : Doc) (h : Head) → r.kind ≡ kind.PlaceHead d.item d.serial → head_of P d.item ≡ None → Has Q d h
      → IsNewHead h d.serial r.xid
      → ((i : ℕ) → i ≢ d.item → head_of Q i ≡ head_of P i) → HeadStep R P Q r floor
  turned : (d : Doc) (h h' : Head) → Has P d h → Has Q d h' → IsTurned r d h h' → ((i : ℕ) → i ≢ d.item
      → head_of Q i ≡ head_of P i) → HeadStep R P Q r floor
  freed : r.kind ≡ kind.FreeSlots → ((i : ℕ) → (head_of Q i ≡ head_of P i) ⊎ IsFreed R P Q floor i)
      → HeadStep R P Q r floor

-- pages without heads
no_slots : (K : Body → Type 0) (b : Body) → ((slots : List (Option Head)) → K (body.Heap slots) → ⊥) → K b
    → slots_in b ≡ []
no_slots K (body.Heap slots) n k = absurd (n slots k)
no_slots K _ n k = refl

plain_slots : (b : Body) → IsPlain b → slots_in b ≡ []
plain_slots b = no_slots IsPlain b (λ slots k. k)

pub new_slots : (P : Pages) (since p : ℕ) → IsNew (use_in P) since p → slots_of (P p) ≡ []
new_slots P since p n = elim (new_was P since p n) [ inl free ↦ ap slots_in free | inr old ↦ ap slots_in old.0.1 ]

-- a changed page has the same slots, or heads change there
slots_stay : (P Q : Pages) (r : Record) (since p : ℕ) → IsChanged P Q r since p → (slots_of (Q p) ≡ slots_of (P p))
    ⊎ IsHeadPage r.kind p
slots_stay P Q r since p (IsChanged.made first_kind was is) = inl (plain_slots (Q p).body is ∙ sym (ap slots_of was))
slots_stay P Q r since p (IsChanged.heads was is at) = inr at
slots_stay P Q r since p (IsChanged.chained new is) = inl (elim is [
  | inl o ↦ no_slots IsOverflow (Q p).body (λ slots k. k) o
  | inr o ↦ no_slots IsPending (Q p).body (λ slots k. k) o.0
] ∙ sym (new_slots P since p new))
slots_stay P Q r since p (IsChanged.grown new works is) = inl (no_slots IsTree (Q p).body (λ slots k. k) is
    ∙ sym (new_slots P since p new))
slots_stay P Q r since p (IsChanged.worked was works is) = inl (elim is [
  | inl o ↦ no_slots IsTree (Q p).body (λ slots k. k) o
  | inr o ↦ no_slots IsDeleted (Q p).body (λ slots k. k) o
] ∙ sym (no_slots IsTree (P p).body (λ slots k. k) was))
slots_stay P Q r since p (IsChanged.meta was lists is) = inl (no_slots IsMeta (Q p).body (λ slots k. k) is
    ∙ sym (no_slots IsMeta (P p).body (λ slots k. k) was))
slots_stay P Q r since p (IsChanged.listed was on lists is) = inl (elim is [
  | inl o ↦ no_slots IsPending (Q p).body (λ slots k. k) o
  | inr o ↦ no_slots IsDeleted (Q p).body (λ slots k. k) o.0
] ∙ sym (no_slots IsPending (P p).body (λ slots k. k) was))
slots_stay P Q r since p (IsChanged.dropped first is) = inl (no_slots IsDeleted (Q p).body (λ slots k. k) is
    ∙ sym (elim first.first [
      | inl o ↦ no_slots IsOverflow (P p).body (λ slots k. k) o.0
      | inr o ↦ no_slots IsPending (P p).body (λ slots k. k) o.0
    ]))

module _ (R : Log) (P Q : Pages) (r : Record) (floor since : ℕ) (touch : (p : ℕ) → In p (changed r)
    → Touched P Q r since p) (elsewhere : (q : ℕ) → (In q (changed r) → ⊥) → Q q ≡ P q) where
  by_kind : (d : Doc) (k : Kind) → r.kind ≡ k → TurnsHead k d → TurnsHead r.kind d
  by_kind d k e t = subst (λ (z : Kind). TurnsHead z d) (sym e) t

  -- heads of a page where none change
  off : (p : ℕ) → (IsHeadPage r.kind p → ⊥) → slots_of (Q p) ≡ slots_of (P p)
  off p n = elim (in_or_not p (changed r)) [
    | inl i ↦ elim (slots_stay P Q r since p (touch p i).change) [ inl e ↦ e | inr h ↦ absurd (n h) ]
    | inr i ↦ ap slots_of (elsewhere p i)
  ]

  head_off : (i : ℕ) → (IsHeadPage r.kind (page_of i) → ⊥) → head_of Q i ≡ head_of P i
  head_off i n = ap (λ (l : List (Option Head)). slot_at l (slot_of i)) (off (page_of i) n)

  none_turn : (k : Kind) → r.kind ≡ k → ((p : ℕ) → IsHeadPage k p → ⊥) → HeadStep R P Q r floor
  none_turn k e n = HeadStep.same (λ i. head_off i (λ h. n (page_of i) (subst (λ (z : Kind). IsHeadPage z (page_of i))
      e h)))

  -- one slot of one page is put
  one_put : (k : Kind) (a i : ℕ) → r.kind ≡ k → ((p : ℕ) → IsHeadPage k p → p ≡ page_of a)
      → (slots new : List (Option Head)) (h : Option Head) → slots_of (P (page_of a)) ≡ slots
      → slots_of (Q (page_of a)) ≡ new → PutsSlot slots (slot_of a) h new → i ≢ a → head_of Q i ≡ head_of P i
  one_put k a i e only slots new h was is put n = elim (same_or_not (page_of a) (page_of i)) [
    | inr d ↦ head_off i (λ t. d (only (page_of i) (subst (λ (z : Kind). IsHeadPage z (page_of i)) e t)))
    | inl page ↦
        let slot : slot_of i ≢ slot_of a = λ s. n (one_item i a page s) in
        ap (λ (p : ℕ). slot_at (slots_of (Q p)) (slot_of i)) page
        ∙ ap (λ (l : List (Option Head)). slot_at l (slot_of i)) is ∙ put.others (slot_of i) slot
        ∙ ap (λ (l : List (Option Head)). slot_at l (slot_of i)) (sym was)
        ∙ ap (λ (p : ℕ). slot_at (slots_of (P p)) (slot_of i)) (sym page)
  ]

  -- the head of one document changes
  turns : (k : Kind) (d : Doc) (old left : Page) (h h' : Head) → r.kind ≡ k → ((p : ℕ) → IsHeadPage k p
      → p ≡ page_of d.item) → P (page_of d.item) ≡ old → Q (page_of d.item) ≡ left
      → IsHeadChange r d old h h' left → h'.serial ≡ h.serial → HeadTurned P Q d h h'
  turns k d old left h h' e only f g c serial =
      let was : slots_of (P (page_of d.item)) ≡ c.slots = ap slots_of f ∙ ap slots_in c.before in
      let is : slots_of (Q (page_of d.item)) ≡ c.new_slots = ap slots_of (g ∙ c.after) in
      record {
        was = head_was P Q r since d old left h h' f c;
        is = record {
          at = ap (λ (l : List (Option Head)). slot_at l (slot_of d.item)) is ∙ c.put.put;
          serial = serial
              ∙ c.serial;
        };
        others = λ i n. one_put k d.item i e only c.slots c.new_slots (Some h') was is c.put n;
      }

  place_step : IsPlaceHead R P Q r since → HeadStep R P Q r floor
  place_step x =
      let d = x.here.doc in
      let a = page_of d.item in
      let f = one_page P (changed r) a x.here.old x.here.pages x.here.before_is in
      let g = one_page Q (changed r) a (made_with r x.here.right (body.Heap x.here.new_slots)) x.here.pages
      x.here.after_is in
      let was : slots_of (P a) ≡ x.here.slots = elim x.here.page [
        | inl o ↦ ap slots_of f ∙ ap slots_in o.0
        | inr o ↦
            new_slots P since a o.2 ∙ sym o.0
      ] in
      let is : slots_of (Q a) ≡ x.here.new_slots = ap slots_of g in
      HeadStep.placed d x.here.head x.here.kind_is (ap (λ (l : List (Option Head)). slot_at l (slot_of d.item)) was
      ∙ x.here.was_free)
      (record {
        at = ap (λ (l : List (Option Head)). slot_at l (slot_of d.item)) is ∙ x.here.put.put;
        serial = x.here.new_head.serial_is;
      })
      x.here.new_head (λ i n. one_put (kind.PlaceHead d.item d.serial) d.item i x.here.kind_is (λ p e. e) x.here.slots
      x.here.new_slots (Some x.here.head) was is x.here.put n)

  pub put_turned : (x : IsPutOverflow R P Q r since) → HeadTurned P Q x.here.doc x.here.head (record x.here.head
      { overflow = x.here.new })
  put_turned x =
      let d = x.here.doc in
      let f = two_pages P (changed r) (page_of d.item) x.here.new x.here.old x.here.was x.here.pages x.here.before_is in
      let g = two_pages Q (changed r) (page_of d.item) x.here.new x.here.heap_then _ x.here.pages x.here.after_is in
      turns (kind.PutOverflow d.item d.serial) d x.here.old x.here.heap_then x.here.head _ x.here.kind_is
      (λ p e. e) f.0 g.0
      x.here.head_after refl

  pub mark_turned : (x : IsMarkDeleted R P Q r) → HeadTurned P Q x.here.doc x.here.head (record x.here.head
      { deleted_by = r.xid })
  mark_turned x =
      let d = x.here.doc in
      let f = one_page P (changed r) (page_of d.item) x.here.old x.here.pages x.here.before_is in
      let g = one_page Q (changed r) (page_of d.item) x.here.heap_then x.here.pages x.here.after_is in
      turns (kind.MarkDeleted d.item d.serial) d x.here.old x.here.heap_then x.here.head _ x.here.kind_is (λ p e. e) f g
      x.here.head_after refl

  pub rows_turned : (x : IsPutPending R P Q r since) → HeadTurned P Q x.here.doc x.here.head (record x.here.head
      { private = x.here.new })
  rows_turned x =
      let d = x.here.doc in
      let f = two_pages P (changed r) (page_of d.item) x.here.new x.here.old x.here.was x.here.pages x.here.before_is in
      let g = two_pages Q (changed r) (page_of d.item) x.here.new x.here.heap_then _ x.here.pages x.here.after_is in
      turns (kind.PutPending d.item d.serial) d x.here.old x.here.heap_then x.here.head _ x.here.kind_is
      (λ p e. e) f.0 g.0
      x.here.head_after refl

  -- the heap page of a link, before and after it
  link_page : (a to end added : ℕ) (others : List ℕ) (old left : Page) (befores afters : List Page)
      → IsLinkHere r to end added others befores afters → changed r ≡ a ∷ others
      → map P (changed r) ≡ old ∷ befores → map Q (changed r) ≡ left ∷ afters → (P a ≡ old) × (Q a ≡ left)
  link_page a to end added others old left befores afters (IsLinkHere.empty meta count m) e f g =
      ((two_pages P (changed r) a 0 old meta e f).0, (two_pages Q (changed r) a 0 left _ e g).0)
  link_page a to end added others old left befores afters (IsLinkHere.behind meta page first last count rows m some b)
      e f g =
      ((three_pages P (changed r) a 0 last old meta page e f).0, (three_pages Q (changed r) a 0 last left _ _ e g).0)

  pub link_turned : (x : IsLinkPending R P Q r) → HeadTurned P Q x.here.doc x.here.head (record x.here.head {
    private =
        0;
  })
  link_turned x =
      let d = x.here.doc in
      let f = link_page (page_of d.item) x.here.head.private x.here.end x.here.added x.here.others x.here.old
      x.here.heap_then x.here.others_before x.here.others_after x.here.linked x.here.pages
      x.here.before_is x.here.after_is in
      turns (kind.LinkPending d.item d.serial) d x.here.old x.here.heap_then x.here.head _ x.here.kind_is
      (λ p e. e) f.0 f.1
      x.here.head_after refl

  dropped_serial : (h h' : Head) (page right : ℕ) (b : Body) (g : Gone) → IsDropped h page right b g h'
      → h'.serial ≡ h.serial
  dropped_serial h h' page right b g (IsDropped.overflow bytes e) = refl
  dropped_serial h h' page right b g (IsDropped.private rows e) = refl

  pub drop_turned : (x : IsDropPage R P Q r floor) → HeadTurned P Q x.here.doc x.here.head x.here.head_then
  drop_turned x =
      let d = x.here.doc in
      let f = two_pages P (changed r) (page_of d.item) x.here.page x.here.old x.here.was x.here.pages
      x.here.before_is in
      let g = two_pages Q (changed r) (page_of d.item) x.here.page x.here.heap_then _ x.here.pages x.here.after_is in
      turns (kind.DropPage d.item d.serial) d x.here.old x.here.heap_then x.here.head x.here.head_then x.here.kind_is
      (λ p e. e) f.0 g.0 x.here.head_after
      (dropped_serial x.here.head x.here.head_then x.here.page x.here.was.right x.here.was.body x.here.content
      x.here.dropped)

  dropped_turn : (d : Doc) (h h' : Head) (page right : ℕ) (b : Body) (g : Gone) → IsDropped h page right b g h'
      → r.kind ≡ kind.DropPage d.item d.serial → IsTurned r d h h'
  dropped_turn d h h' page right b g (IsDropped.overflow bytes e) k =
      record {
        by = by_kind d _ k (refl, refl);
        serial = refl;
        inserted_by = refl;
        bytes = refl;
        vector = refl;
        deleted_by = inl refl;
        overflow = inr (inr k);
        private = inl refl;
      }
  dropped_turn d h h' page right b g (IsDropped.private rows e) k =
      record {
        by = by_kind d _ k (refl, refl);
        serial = refl;
        inserted_by = refl;
        bytes = refl;
        vector = refl;
        deleted_by = inl refl;
        overflow = inl refl;
        private = inr (inr (inr k));
      }

  turn_step : (d : Doc) (h h' : Head) → HeadTurned P Q d h h' → IsTurned r d h h' → HeadStep R P Q r floor
  turn_step d h h' t how = HeadStep.turned d h h' t.was t.is how t.others

  freed_slot : (page slot i : ℕ) (a b : Option Head) → SlotLoses (known R P) floor a b → slot_of i ≡ slot
      → page_of i ≡ page → head_of P i ≡ a → head_of Q i ≡ b
      → ((h : Head) → a ≡ Some h → b ≡ None → IsGoneFrom R P floor (doc_at (item_at page slot) h.serial))
      → (head_of Q i ≡ head_of P i) ⊎ IsFreed R P Q floor i
  freed_slot page slot i a b (SlotLoses.same e) s p was is gone = inl (is ∙ e ∙ sym was)
  freed_slot page slot i a b (SlotLoses.freed h e f may) s p was is gone =
      let same : item_at page slot ≡ i = ap (item_at page) (sym s) ∙ item_is i page p in
      inr (record {
        head = h;
        was = was ∙ e;
        is = is ∙ f;
        gone = subst (λ (z : ℕ). IsGoneFrom R P floor (doc_at z h.serial)) same (gone h e f);
        no_overflow = may.no_overflow;
        no_private = may.no_private;
      })

  free_step : IsFreeSlots R P Q r floor → HeadStep R P Q r floor
  free_step x =
      let a = x.here.page in
      let f = one_page P (changed r) a x.here.old x.here.pages x.here.before_is in
      let g = one_page Q (changed r) a (made_with r x.here.old.right (body.Heap x.here.new_slots)) x.here.pages
      x.here.after_is in
      HeadStep.freed x.here.kind_is (λ i. elim (same_or_not a (page_of i)) [
        | inr d ↦ inl (ap (λ (l : List (Option Head)). slot_at l (slot_of i))
            (ap slots_of (elsewhere (page_of i) (λ m. d (sole a (page_of i) (changed r) x.here.pages m)))))
        | inl page ↦ freed_slot a (slot_of i) i _ _ (x.here.each (slot_of i)) refl page
            (ap (λ (p : ℕ). slot_at (slots_of (P p)) (slot_of i)) page
            ∙ ap (λ (l : List (Option Head)). slot_at l (slot_of i)) (ap slots_of f ∙ ap slots_in x.here.was))
            (ap (λ (p : ℕ). slot_at (slots_of (Q p)) (slot_of i)) page
            ∙ ap (λ (l : List (Option Head)). slot_at l (slot_of i)) (ap slots_of g))
            (λ h e z. x.rest (slot_of i) h e z)
      ])
    where
      sole : (a p : ℕ) (ps : List ℕ) → ps ≡ a ∷ [] → In p ps → p ≡ a
      sole a p ps e m = elim (subst (In p) e m) [ inl s ↦ s | inr n ↦ absurd n ]

  -- through all kinds
  pub head_step : RuleHolds R P Q r floor since → HeadStep R P Q r floor
  head_step (RuleHolds.create x) = none_turn kind.Create x.here.kind_is (λ p n. n)
  head_step (RuleHolds.begin x) = none_turn kind.Begin x.here.kind_is (λ p n. n)
  head_step (RuleHolds.commit x) = none_turn _ x.here.kind_is (λ p n. n)
  head_step (RuleHolds.abort x) = none_turn kind.Abort x.here.kind_is (λ p n. n)
  head_step (RuleHolds.checkpoint x) = none_turn (kind.Checkpoint x.here.redo) x.here.kind_is (λ p n. n)
  head_step (RuleHolds.place_head x) = place_step x
  head_step (RuleHolds.put_overflow x) = turn_step x.here.doc x.here.head _ (put_turned x)
      (record {
        by = by_kind x.here.doc _ x.here.kind_is (refl, refl);
        serial = refl;
        inserted_by = refl;
        bytes = refl;
        vector = refl;
        deleted_by = inl refl;
        overflow = inr (inl x.here.kind_is);
        private = inl refl;
      })
  head_step (RuleHolds.mark_deleted x) = turn_step x.here.doc x.here.head _ (mark_turned x)
      (record {
        by = by_kind x.here.doc _ x.here.kind_is (refl, refl);
        serial = refl;
        inserted_by = refl;
        bytes = refl;
        vector = refl;
        deleted_by = inr (x.here.kind_is, refl);
        overflow = inl refl;
        private = inl refl;
      })
  head_step (RuleHolds.put_pending x) = turn_step x.here.doc x.here.head _ (rows_turned x)
      (record {
        by = by_kind x.here.doc _ x.here.kind_is (refl, refl);
        serial = refl;
        inserted_by = refl;
        bytes = refl;
        vector = refl;
        deleted_by = inl refl;
        overflow = inl refl;
        private = inr (inl x.here.kind_is);
      })
  head_step (RuleHolds.add_row x) = none_turn (kind.AddRow x.here.doc.item x.here.doc.serial) x.here.kind_is (λ p n. n)
  head_step (RuleHolds.link_pending x) = turn_step x.here.doc x.here.head _ (link_turned x)
      (record {
        by = by_kind x.here.doc _ x.here.kind_is (refl, refl);
        serial = refl;
        inserted_by = refl;
        bytes = refl;
        vector = refl;
        deleted_by = inl refl;
        overflow = inl refl;
        private = inr (inr (inl x.here.kind_is));
      })
  head_step (RuleHolds.shift x) = none_turn kind.Shift x.here.kind_is (λ p n. n)
  head_step (RuleHolds.add_items x) = none_turn kind.AddItems x.here.kind_is (λ p n. n)
  head_step (RuleHolds.make_tree x) = none_turn kind.MakeTree x.here.kind_is (λ p n. n)
  head_step (RuleHolds.add_postings x) = none_turn kind.AddPostings x.here.kind_is (λ p n. n)
  head_step (RuleHolds.grow_root x) = none_turn kind.GrowRoot x.here.kind_is (λ p n. n)
  head_step (RuleHolds.split x) = none_turn kind.Split x.here.kind_is (λ p n. n)
  head_step (RuleHolds.remove_items x) = none_turn kind.RemoveItems x.here.kind_is (λ p n. n)
  head_step (RuleHolds.delete_post x) = none_turn kind.DeletePost x.here.kind_is (λ p n. n)
  head_step (RuleHolds.drop_page x) = turn_step x.here.doc x.here.head x.here.head_then (drop_turned x)
      (dropped_turn x.here.doc x.here.head x.here.head_then x.here.page x.here.was.right x.here.was.body x.here.content
      x.here.dropped x.here.kind_is)
  head_step (RuleHolds.free_slots x) = free_step x
