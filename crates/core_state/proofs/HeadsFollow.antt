-- The heads follow the log through all kinds of record, with dead meant by any floor.
use Rattle.std.proofs.Common.{◌≡◌, ◌≢◌, ◌⊎◌, ◌<◌, ◌≤◌, ℕ, [], ◌∷◌, refl, sym, ap, subst, subst₂, ap₂, ◌∙◌, inl, inr}
use Rattle.std.proofs.Common.{arith}
use Rattle.std.specs.Prelude.{Some, None}
use Rattle.page_types.specs.Views.{free_page, slots_of, slot_at}
use Rattle.page_types.specs.declared.page.Page.{Page}
use Rattle.page_types.specs.declared.page.Head.{Head}
use Rattle.page_types.specs.declared.page.Body.TheVariants as body
use Rattle.page_types.specs.declared.record.Record.{Record}
use Rattle.page_types.specs.declared.record.Kind.TheVariants as kind
use Rattle.core_state.specs.Log.{Log, Pages, In, changed, fate, next_serial}
use Rattle.core_state.specs.Documents.{Doc, Has, IsDead, placed, marked, page_of, slot_of, head_of, doc_at}
use Rattle.core_state.specs.Changes.{made_with}
use Rattle.core_state.specs.HeapRules.{IsPlaceHead, IsMarkDeleted}
use Rattle.core_state.specs.Legal.{RuleHolds}
use Rattle.core_state.specs.Inner.HeadsKept.{HeadsKept}
use Rattle.core_state.specs.declared.answers.Fate.TheVariants.{Unused, Running, Aborted, Committed}
use Rattle.core_state.proofs.PageLists.{same_or_not, one_page}
use Rattle.core_state.proofs.RulesByKind.{kind_rule}
use Rattle.core_state.proofs.TouchedPages.{head_was}
use Rattle.core_state.proofs.HeadSteps.{HeadStep}
use Rattle.core_state.proofs.FateSteps.{HasEnded, FateStep, fate_step, ends_stay, drawn_step, dead_stays, dead_more}
use Rattle.core_state.proofs.FateSteps.{placed_on, placed_new, placed_back, marked_on, marked_new, marked_back}
use Rattle.core_state.proofs.FateSteps.{serial_grows, serial_next}

some_one : (a b : Head) → Some a ≡ Some b → a ≡ b
some_one a b e = cc

none_some : (a : Head) → None ≡ Some a → ⊥
none_some a e = cc

-- what a record of kind PlaceHead asks
pub record PlacesDoc (R : Log) (Q : Pages) (r : Record) (i s : ℕ) : Type 0 where
  pub next : s ≡ next_serial R
  pub runs : fate R r.xid ≡ Running
  pub head : Head
  pub has : Has Q (doc_at i s) head

-- what a record of kind MarkDeleted asks of the head that it marks
pub record MarksDoc (R : Log) (P : Pages) (r : Record) (i s : ℕ) : Type 0 where
  pub head : Head
  pub has : Has P (doc_at i s) head
  pub number : ℕ
  pub inserted : fate R head.inserted_by ≡ Committed number
  pub unmarked : (head.deleted_by ≡ 0) ⊎ (fate R head.deleted_by ≡ Aborted)
  pub runs : fate R r.xid ≡ Running

pub places_doc : (R : Log) (P Q : Pages) (r : Record) (floor since : ℕ) → RuleHolds R P Q r floor since → (i s : ℕ)
    → r.kind ≡ kind.PlaceHead i s → PlacesDoc R Q r i s
places_doc R P Q r floor since row i s e =
    let x : IsPlaceHead R P Q r since = kind_rule R P Q r floor since (kind.PlaceHead i s) e row in
    let same : kind.PlaceHead x.here.doc.item x.here.doc.serial ≡ kind.PlaceHead i s = sym x.here.kind_is ∙ e in
    let item : x.here.doc.item ≡ i = cc in
    let serial : x.here.doc.serial ≡ s = cc in
    let g = one_page Q (changed r) (page_of x.here.doc.item) (made_with r x.here.right (body.Heap x.here.new_slots))
    x.here.pages x.here.after_is in
    let has : Has Q x.here.doc x.here.head =
    record {
      at = ap (λ (q : Page). slot_at (slots_of q) (slot_of x.here.doc.item)) g ∙ x.here.put.put;
      serial = x.here.new_head.serial_is;
    } in
    record {
      next = sym serial ∙ x.here.next;
      runs = x.here.runs;
      head = x.here.head;
      has = subst (λ (d : Doc). Has Q d x.here.head) (ap₂ doc_at item serial) has;
    }

pub marks_doc : (R : Log) (P Q : Pages) (r : Record) (floor since : ℕ) → RuleHolds R P Q r floor since → (i s : ℕ)
    → r.kind ≡ kind.MarkDeleted i s → MarksDoc R P r i s
marks_doc R P Q r floor since row i s e =
    let x : IsMarkDeleted R P Q r = kind_rule R P Q r floor since (kind.MarkDeleted i s) e row in
    let same : kind.MarkDeleted x.here.doc.item x.here.doc.serial ≡ kind.MarkDeleted i s = sym x.here.kind_is ∙ e in
    let item : x.here.doc.item ≡ i = cc in
    let serial : x.here.doc.serial ≡ s = cc in
    let f = one_page P (changed r) (page_of x.here.doc.item) x.here.old x.here.pages x.here.before_is in
    let has = head_was P Q r since x.here.doc x.here.old x.here.heap_then x.here.head (record x.here.head {
      deleted_by =
          r.xid;
    }) f x.here.head_after in
    record {
      head = x.here.head;
      has = subst (λ (d : Doc). Has P d x.here.head) (ap₂ doc_at item serial) has;
      number = x.here.number;
      inserted = x.here.inserted;
      unmarked = x.here.unmarked;
      runs = x.here.runs;
    }

-- a head as it was before a record: it is the same document's, with the same mark or a new one
pub record WasHead (P : Pages) (r : Record) (i : ℕ) (h' : Head) : Type 0 where
  pub head : Head
  pub at : head_of P i ≡ Some head
  pub serial : h'.serial ≡ head.serial
  pub inserted_by : h'.inserted_by ≡ head.inserted_by
  pub deleted_by : (h'.deleted_by ≡ head.deleted_by) ⊎ ((r.kind ≡ kind.MarkDeleted i h'.serial)
      × (h'.deleted_by ≡ r.xid))

-- a head that a record places
pub record NewHead (P : Pages) (r : Record) (i : ℕ) (h' : Head) : Type 0 where
  pub kind_is : r.kind ≡ kind.PlaceHead i h'.serial
  pub was_free : head_of P i ≡ None
  pub inserted_by : h'.inserted_by ≡ r.xid
  pub deleted_by : h'.deleted_by ≡ 0

module _ (R : Log) (P Q : Pages) (r : Record) (floor : ℕ) where
  same_head : (i : ℕ) (h' : Head) → head_of Q i ≡ Some h' → head_of Q i ≡ head_of P i → WasHead P r i h'
  same_head i h' e s = record { head = h'; at = sym s ∙ e; serial = refl; inserted_by = refl; deleted_by = inl refl }

  pub heads_back : HeadStep R P Q r floor → (i : ℕ) (h' : Head) → head_of Q i ≡ Some h' → WasHead P r i h'
      ⊎ NewHead P r i h'
  heads_back (HeadStep.same s) i h' e = inl (same_head i h' e (s i))
  heads_back (HeadStep.placed d h k free has new rest) i h' e = elim (same_or_not d.item i) [
    | inl w ↦
        let one : h' ≡ h = some_one h' h (sym e ∙ ap (head_of Q) w ∙ has.at) in
        inr (record {
          kind_is = k ∙ ap₂ (λ (a b : ℕ). kind.PlaceHead a b) (sym w) (sym has.serial ∙ ap (λ (z : Head). z.serial)
              (sym one));
          was_free = ap (head_of P) w ∙ free;
          inserted_by = ap (λ (z : Head). z.inserted_by) one ∙ new.inserted_by;
          deleted_by = ap (λ (z : Head). z.deleted_by) one ∙ new.deleted_by;
        })
    | inr w ↦ inl (same_head i h' e (rest i w))
  ]
  heads_back (HeadStep.turned d h h1 has now t rest) i h' e = elim (same_or_not d.item i) [
    | inl w ↦
        let one : h' ≡ h1 = some_one h' h1 (sym e ∙ ap (head_of Q) w ∙ now.at) in
        let serial : h'.serial ≡ h.serial = ap (λ (z : Head). z.serial) one ∙ t.serial in
        inl (record {
          head = h;
          at = ap (head_of P) w ∙ has.at;
          serial = serial;
          inserted_by = ap (λ (z : Head). z.inserted_by) one ∙ t.inserted_by;
          deleted_by = elim t.deleted_by [
            | inl s ↦ inl (ap (λ (z : Head). z.deleted_by) one ∙ s)
            | inr s ↦ inr (
              s.0 ∙ ap₂ (λ (a b : ℕ). kind.MarkDeleted a b) (sym w) (sym (serial ∙ has.serial)),
              ap (λ (z : Head). z.deleted_by) one ∙ s.1,
            )
          ];
        })
    | inr w ↦ inl (same_head i h' e (rest i w))
  ]
  heads_back (HeadStep.freed k each) i h' e = elim (each i) [
    | inl s ↦ inl (same_head i h' e s)
    | inr f ↦ absurd (none_some h' (sym f.is ∙ e))
  ]

  -- a document keeps its slot, or is dead
  pub heads_forth : HeadStep R P Q r floor → (d : Doc) (h : Head) → Has P d h → ((h' : Head) × Has Q d h')
      ⊎ IsDead R floor d
  heads_forth (HeadStep.same s) d h has = inl (h, record { at = s d.item ∙ has.at; serial = has.serial })
  heads_forth (HeadStep.placed e h0 k free now new rest) d h has = elim (same_or_not e.item d.item) [
    | inl w ↦ absurd (none_some h (sym free ∙ ap (head_of P) (sym w) ∙ has.at))
    | inr w ↦ inl (h, record { at = rest d.item w ∙ has.at; serial = has.serial })
  ]
  heads_forth (HeadStep.turned e h0 h1 old now t rest) d h has = elim (same_or_not e.item d.item) [
    | inl w ↦
        let one : h0 ≡ h = some_one h0 h (sym old.at ∙ ap (head_of P) (sym w) ∙ has.at) in
        inl (
          h1,
          record {
            at = ap (head_of Q) w ∙ now.at;
            serial = t.serial ∙ ap (λ (z : Head). z.serial) one
                ∙ has.serial;
          },
        )
    | inr w ↦ inl (h, record { at = rest d.item w ∙ has.at; serial = has.serial })
  ]
  heads_forth (HeadStep.freed k each) d h has = elim (each d.item) [
    | inl s ↦ inl (h, record { at = s ∙ has.at; serial = has.serial })
    | inr f ↦
        let one : f.head ≡ h = some_one f.head h (sym f.was ∙ has.at) in
        inr (subst (λ (s : ℕ). IsDead R floor (doc_at d.item s)) (ap (λ (z : Head). z.serial) one ∙ has.serial)
        f.gone.dead)
  ]

module _ (n : ℕ) (R : Log) (P Q : Pages) (r : Record) (floor since : ℕ) (D : HeadsKept n R P) (low : floor ≤ n)
    (row : RuleHolds R P Q r floor since) (H : HeadStep R P Q r floor) where
  F : FateStep R r
  F = fate_step R P Q r floor since D.xids row

  committed_stays : (x m : ℕ) → fate R x ≡ Committed m → fate (r ∷ R) x ≡ Committed m
  committed_stays x m e = ends_stay R r D.xids F x (Committed m) e (HasEnded.committed m)

  aborted_stays : (x : ℕ) → fate R x ≡ Aborted → fate (r ∷ R) x ≡ Aborted
  aborted_stays x e = ends_stay R r D.xids F x Aborted e HasEnded.aborted

  places : (i s : ℕ) → r.kind ≡ kind.PlaceHead i s → PlacesDoc R Q r i s
  places = places_doc R P Q r floor since row

  marking : (i s : ℕ) → r.kind ≡ kind.MarkDeleted i s → MarksDoc R P r i s
  marking = marks_doc R P Q r floor since row

  -- a serial that is placed isn't the next one
  below_next : (x : ℕ) (d : Doc) → In d (placed R x) → (s : ℕ) → s ≡ next_serial R → d.serial ≡ s → ⊥
  below_next x d p s e f = let l = D.serials x d p in bad d.serial (next_serial R) l (f ∙ e)
    where
      bad : (a b : ℕ) → a < b → a ≡ b → ⊥
      bad a b x y = omega (arith, x, y)

  same_place : (i s j t : ℕ) → kind.PlaceHead i s ≡ kind.PlaceHead j t → (i ≡ j) × (s ≡ t)
  same_place i s j t e = (cc, cc)

  once' : (x y : ℕ) (d e : Doc) → In d (placed (r ∷ R) x) → In e (placed (r ∷ R) y) → d.serial ≡ e.serial → (x ≡ y)
      × (d ≡ e)
  once' x y d e p q same = elim (placed_back r R x d p) [
    | inl a ↦ elim (placed_back r R y e q) [
      | inl b ↦ D.once x y d e a b same
      | inr b ↦ absurd (below_next x d a e.serial (places e.item e.serial b.0).next same)
    ]
    | inr a ↦ elim (placed_back r R y e q) [
      | inl b ↦ absurd (below_next y e b d.serial (places d.item d.serial a.0).next (sym same))
      | inr b ↦ let s = same_place d.item d.serial e.item e.serial (sym a.0 ∙ b.0) in (
        sym a.1 ∙ b.1,
        ap₂ doc_at s.0 s.1,
      )
    ]
  ]

  inserted' : (i : ℕ) (h : Head) → head_of Q i ≡ Some h → In (doc_at i h.serial) (placed (r ∷ R) h.inserted_by)
  inserted' i h e = elim (heads_back R P Q r floor H i h e) [
    | inl w ↦ placed_on r R h.inserted_by (doc_at i h.serial) (subst₂ (λ (s x : ℕ). In (doc_at i s) (placed R x))
        (sym w.serial) (sym w.inserted_by) (D.inserted i w.head w.at))
    | inr w ↦ subst (λ (x : ℕ). In (doc_at i h.serial) (placed (r ∷ R) x)) (sym w.inserted_by)
        (placed_new r R i h.serial w.kind_is)
  ]

  deleted' : (i : ℕ) (h : Head) → head_of Q i ≡ Some h → (h.deleted_by ≡ 0)
      ⊎ In (doc_at i h.serial) (marked (r ∷ R) h.deleted_by)
  deleted' i h e = elim (heads_back R P Q r floor H i h e) [
    | inr w ↦ inl w.deleted_by
    | inl w ↦ elim w.deleted_by [
      | inr new ↦ inr (subst (λ (x : ℕ). In (doc_at i h.serial) (marked (r ∷ R) x)) (sym new.1)
          (marked_new r R i h.serial new.0))
      | inl s ↦ elim (D.deleted i w.head w.at) [
        | inl none ↦ inl (s ∙ none)
        | inr m ↦ inr (marked_on r R h.deleted_by (doc_at i h.serial)
            (subst₂ (λ (a x : ℕ). In (doc_at i a) (marked R x)) (sym w.serial) (sym s) m))
      ]
    ]
  ]

  -- after the record a marked head has the record's xid
  now_marked : (i : ℕ) (h : Head) → head_of Q i ≡ Some h → r.kind ≡ kind.MarkDeleted i h.serial → h.deleted_by ≡ r.xid
  now_marked i h e k =
      let x : IsMarkDeleted R P Q r = kind_rule R P Q r floor since (kind.MarkDeleted i h.serial) k row in
      let same : kind.MarkDeleted x.here.doc.item x.here.doc.serial ≡ kind.MarkDeleted i h.serial = sym x.here.kind_is
      ∙ k in
      let item : x.here.doc.item ≡ i = cc in
      let c = x.here.head_after in
      let g = one_page Q (changed r) (page_of x.here.doc.item) x.here.heap_then x.here.pages x.here.after_is in
      let now : head_of Q x.here.doc.item ≡ Some (record x.here.head { deleted_by = r.xid }) =
      ap (λ (q : Page). slot_at (slots_of q) (slot_of x.here.doc.item)) (g ∙ c.after) ∙ c.put.put in
      ap (λ (z : Head). z.deleted_by) (some_one h (record x.here.head { deleted_by = r.xid }) (sym e
      ∙ ap (head_of Q) (sym item) ∙ now))

  marks' : (i : ℕ) (h : Head) (x : ℕ) → head_of Q i ≡ Some h → In (doc_at i h.serial) (marked (r ∷ R) x)
      → (fate (r ∷ R) x ≡ Aborted) ⊎ (h.deleted_by ≡ x)
  marks' i h x e m = elim (marked_back r R x (doc_at i h.serial) m) [
    | inr new ↦ inr (now_marked i h e new.0 ∙ new.1)
    | inl old ↦ elim (heads_back R P Q r floor H i h e) [
      | inr w ↦
          let c = D.marked_committed x (doc_at i h.serial) old in
          absurd (below_next c.0 (doc_at i h.serial) c.2 h.serial (places i h.serial w.kind_is).next refl)
      | inl w ↦ marks_old i h x w old (D.marks i w.head x w.at (subst (λ (s : ℕ). In (doc_at i s) (marked R x))
          w.serial old))
    ]
  ]
    where
      marks_old : (i : ℕ) (h : Head) (x : ℕ) (w : WasHead P r i h) → In (doc_at i h.serial) (marked R x)
          → (fate R x ≡ Aborted) ⊎ (w.head.deleted_by ≡ x)
          → (fate (r ∷ R) x ≡ Aborted) ⊎ (h.deleted_by ≡ x)
      marks_old i h x w old (inl a) = inl (aborted_stays x a)
      marks_old i h x w old (inr d) = elim w.deleted_by [
        | inl s ↦ inr (s ∙ d)
        | inr s ↦
            let row = marking i h.serial s.0 in
            let one : row.head ≡ w.head = some_one row.head w.head (sym row.has.at ∙ w.at) in
            let by : x ≡ row.head.deleted_by = sym d ∙ ap (λ (y : Head). y.deleted_by) (sym one) in
            elim row.unmarked [
              | inl z ↦ absurd (D.mark_xid x (doc_at i h.serial) old (by ∙ z))
              | inr z ↦ inl (aborted_stays x (ap (fate R) by ∙ z))
            ]
      ]

  marked_committed' : (x : ℕ) (d : Doc) → In d (marked (r ∷ R) x) → (y : ℕ) × (m : ℕ) × In d (placed (r ∷ R) y)
      × (fate (r ∷ R) y ≡ Committed m)
  marked_committed' x d m = elim (marked_back r R x d m) [
    | inl old ↦ let c = D.marked_committed x d old in (c.0, c.1, placed_on r R c.0 d c.2, committed_stays c.0 c.1 c.3)
    | inr new ↦
        let row = marking d.item d.serial new.0 in (
          row.head.inserted_by,
          row.number,
          placed_on r R row.head.inserted_by d (subst (λ (s : ℕ). In (doc_at d.item s) (placed R row.head.inserted_by))
              row.has.serial (D.inserted d.item row.head row.has.at)),
          committed_stays row.head.inserted_by row.number row.inserted,
        )
  ]

  mark_xid' : (x : ℕ) (d : Doc) → In d (marked (r ∷ R) x) → x ≢ 0
  mark_xid' x d m z = elim (marked_back r R x d m) [
    | inl old ↦ D.mark_xid x d old z
    | inr new ↦ let runs = (marking d.item d.serial new.0).runs in running_unused (sym runs ∙ ap (fate R) (new.1 ∙ z)
        ∙ D.xids.none)
  ]
    where
      running_unused : Running ≡ Unused → ⊥
      running_unused e = cc

  there' : (x : ℕ) (d : Doc) → In d (placed (r ∷ R) x) → ((h : Head) × Has Q d h) ⊎ IsDead (r ∷ R) n d
  there' x d p = elim (placed_back r R x d p) [
    | inr new ↦ let row = places d.item d.serial new.0 in inl (row.head, row.has)
    | inl old ↦ elim (D.there x d old) [
      | inr dead ↦ inr (dead_stays R r D.xids F n d dead)
      | inl has ↦ elim (heads_forth R P Q r floor H d has.0 has.1) [
        | inl now ↦ inl now
        | inr dead ↦
            inr (dead_stays R r D.xids F n d (dead_more R floor n d low dead))
      ]
    ]
  ]

  serials' : (x : ℕ) (d : Doc) → In d (placed (r ∷ R) x) → d.serial < next_serial (r ∷ R)
  serials' x d p = elim (placed_back r R x d p) [
    | inl old ↦ omega (arith, D.serials x d old, serial_grows r R)
    | inr new ↦ let next = (places d.item d.serial new.0).next in let more = serial_next r R d.item d.serial new.0 in
        omega (arith, next, more)
  ]

  -- after every record the heads follow the log
  pub heads_follow : HeadsKept n (r ∷ R) Q
  heads_follow = record {
    xids = drawn_step R r D.xids F;
    serials = serials';
    once = once';
    inserted = inserted';
    deleted = deleted';
    marks = marks';
    mark_xid = mark_xid';
    marked_committed = marked_committed';
    there = there';
  }

-- what is dead under a floor is dead under a larger one
pub heads_more : (n m : ℕ) (R : Log) (P : Pages) → n ≤ m → HeadsKept n R P → HeadsKept m R P
heads_more n m R P le D = record {
  xids = D.xids;
  serials = D.serials;
  once = D.once;
  inserted = D.inserted;
  deleted = D.deleted;
  marks = D.marks;
  mark_xid = D.mark_xid;
  marked_committed = D.marked_committed;
  there = λ x d p. elim (D.there x d p) [ inl has ↦ inl has | inr dead ↦ inr (dead_more R n m d le dead) ];
}

-- an empty log has no heads
pub heads_none : (n : ℕ) (P : Pages) → ((p : ℕ) → P p ≡ free_page) → HeadsKept n [] P
heads_none n P free = record {
  xids = record { first = omega arith; fresh = λ x l. refl; none = refl };
  serials = λ x d i. absurd i;
  once = λ x y d e i j. absurd i;
  inserted = λ i h e. absurd (empty i h e);
  deleted = λ i h e. absurd (empty i h e);
  marks = λ i h x e m. absurd m;
  mark_xid = λ x d m. absurd m;
  marked_committed = λ x d m. absurd m;
  there = λ x d i. absurd i;
}
  where
    empty : (i : ℕ) (h : Head) → head_of P i ≡ Some h → ⊥
    empty i h e = none_some h (sym (ap (λ (q : Page). slot_at (slots_of q) (slot_of i)) (free (page_of i))) ∙ e)
