-- Who placed a document, and who marked it: each is done once.
use Rattle.std.proofs.Common.{◌≡◌, ◌≢◌, ◌⊎◌, ◌<◌, ◌≤◌, ℕ, suc, ◌==◌, cond, Bool, true, false, List}
use Rattle.std.proofs.Common.{[], ◌∷◌, ◌++◌, length, refl, sym, ap, ap₂, subst, ◌∙◌, inl, inr, arith}
use Rattle.std.specs.Prelude.{Option, Some}
use Rattle.page_types.specs.declared.page.Head.{Head}
use Rattle.page_types.specs.declared.page.Name.{Name}
use Rattle.page_types.specs.declared.record.Record.{Record}
use Rattle.page_types.specs.declared.record.Kind.{Kind}
use Rattle.page_types.specs.declared.record.Kind.TheVariants as kind
use Rattle.page_types.specs.Views.{slots_of, slots_in, slot_at}
use Rattle.core_state.specs.Log.{Log, Pages, In, Shows, changed, fate, commits, next_serial, serial_behind}
use Rattle.core_state.specs.Documents.{Doc, page_of, slot_of, name_of, doc_at, head_of, placed, placed_with}
use Rattle.core_state.specs.Documents.{marked, marked_with}
use Rattle.core_state.specs.HeapRules.{IsPlaceHead, IsMarkDeleted}
use Rattle.core_state.specs.Legal.{IsLegal, RecordsAreValid}
use Rattle.core_state.specs.Lives.{IsInsertedBy, IsDeletedBy}
use Rattle.core_state.specs.declared.answers.Fate.TheVariants.{Unused, Running, Aborted, Committed}
use Rattle.core_state.proofs.LawsHold.{documents, steady}
use Rattle.core_state.proofs.Newest.{legal_less}
use Rattle.core_state.proofs.PageLists.{in_either, one_page}
use Rattle.core_state.proofs.RulesByKind.{kind_rule}
use Rattle.core_state.proofs.RunningOnes.{same_or_other}
use Rattle.core_state.proofs.StateTold.{state_told}

-- a document that is placed after one record more
pub placed_cases : (R : Log) (r : Record) (x : ℕ) (d : Doc) → RecordsAreValid (r ∷ R) → In d (placed (r ∷ R) x)
    → In d (placed R x) ⊎ ((r.xid ≡ x) × (d.serial ≡ next_serial R) × (r.kind ≡ kind.PlaceHead d.item d.serial))
placed_cases R r x d v i = by r.kind refl i
  where
    here : (item serial : ℕ) → r.kind ≡ kind.PlaceHead item serial → d ≡ doc_at item serial
        → (d.serial ≡ next_serial R) × (r.kind ≡ kind.PlaceHead d.item d.serial)
    here item serial e same =
        let rule : IsPlaceHead R v.1.before v.1.after r (suc (length R)) =
        kind_rule R v.1.before v.1.after r (commits R) (suc (length R)) (kind.PlaceHead item serial) e v.1.rule in
        let one : kind.PlaceHead rule.here.doc.item rule.here.doc.serial ≡ kind.PlaceHead item serial =
        sym rule.here.kind_is ∙ e in
        let number : rule.here.doc.serial ≡ serial = cc in (
          ap (λ (c : Doc). c.serial) same ∙ sym number ∙ rule.here.next,
          e ∙ ap (λ (c : Doc). kind.PlaceHead c.item c.serial) (sym same),
        )

    joined : (item serial : ℕ) → r.kind ≡ kind.PlaceHead item serial → (b : Bool) → (b ≡ true → r.xid ≡ x)
        → In d (cond b (placed R x ++ doc_at item serial ∷ []) (placed R x))
        → In d (placed R x) ⊎ ((r.xid ≡ x) × (d.serial ≡ next_serial R) × (r.kind ≡ kind.PlaceHead d.item d.serial))
    joined item serial e false is j = inl j
    joined item serial e true is j = elim (in_either d (placed R x) (doc_at item serial ∷ []) j) [
      | inl old ↦ inl old
      | inr new ↦ elim new [
        | inl same ↦ let h = here item serial e same in inr (is refl, h.0, h.1)
        | inr none ↦ absurd none
      ]
    ]

    by : (k : Kind) → r.kind ≡ k → In d (placed_with k r.xid x (placed R x))
        → In d (placed R x) ⊎ ((r.xid ≡ x) × (d.serial ≡ next_serial R) × (r.kind ≡ kind.PlaceHead d.item d.serial))
    by (kind.PlaceHead item serial) e j = joined item serial e (r.xid == x) (λ t. grind (arith, t)) j
    by _ e j = inl j

serial_grows : (k : Kind) (n : ℕ) → n ≤ serial_behind k n
serial_grows (kind.PlaceHead item serial) n = omega arith
serial_grows _ n = omega arith

pub below_next : (R : Log) (x : ℕ) (d : Doc) → RecordsAreValid R → In d (placed R x) → d.serial < next_serial R
below_next [] x d v i = absurd i
below_next (r ∷ R) x d v i = elim (placed_cases R r x d v i) [
  | inl old ↦ omega (arith, below_next R x d v.0 old, serial_grows r.kind (next_serial R))
  | inr new ↦
      let more : serial_behind r.kind (next_serial R) ≡ suc (next_serial R) =
      ap (λ (k : Kind). serial_behind k (next_serial R)) new.2 in
      omega (arith, new.1, more)
]

place_one : (a b c d : ℕ) → kind.PlaceHead a b ≡ kind.PlaceHead c d → doc_at a b ≡ doc_at c d
place_one a b c d e = let i : a ≡ c = cc in let s : b ≡ d = cc in ap₂ doc_at i s

-- a serial is drawn once
pub placed_once : (R : Log) (x y : ℕ) (d e : Doc) → RecordsAreValid R → In d (placed R x) → In e (placed R y)
    → d.serial ≡ e.serial → (x ≡ y) × (d ≡ e)
placed_once [] x y d e v i j s = absurd i
placed_once (r ∷ R) x y d e v i j s = elim (placed_cases R r x d v i) [
  | inl old ↦ elim (placed_cases R r y e v j) [
    | inl old' ↦ placed_once R x y d e v.0 old old' s
    | inr new' ↦ absurd (omega (arith, below_next R x d v.0 old, new'.1, s))
  ]
  | inr new ↦ elim (placed_cases R r y e v j) [
    | inl old' ↦ absurd (omega (arith, below_next R y e v.0 old', new.1, s))
    | inr new' ↦ (sym new.0 ∙ new'.0, place_one d.item d.serial e.item e.serial (sym new.2 ∙ new'.2))
  ]
]

-- a document that is marked after one record more: its head had no mark of one that hasn't aborted
pub record IsMarking (R : Log) (r : Record) (x : ℕ) (d : Doc) : Type 0 where
  pub by : r.xid ≡ x
  pub runs : fate R r.xid ≡ Running
  pub pages : Pages
  pub shown : Shows R pages
  pub head : Head
  pub at : head_of pages d.item ≡ Some head
  pub serial : head.serial ≡ d.serial
  pub number : ℕ
  pub inserted : fate R head.inserted_by ≡ Committed number
  pub unmarked : (head.deleted_by ≡ 0) ⊎ (fate R head.deleted_by ≡ Aborted)

pub marking : (R : Log) (r : Record) (x : ℕ) (d : Doc) → RecordsAreValid (r ∷ R)
    → r.kind ≡ kind.MarkDeleted d.item d.serial → r.xid ≡ x → IsMarking R r x d
marking R r x d v e by =
    let rule : IsMarkDeleted R v.1.before v.1.after r =
    kind_rule R v.1.before v.1.after r (commits R) (suc (length R)) (kind.MarkDeleted d.item d.serial) e v.1.rule in
    let h = rule.here in
    let one : kind.MarkDeleted h.doc.item h.doc.serial ≡ kind.MarkDeleted d.item d.serial = sym h.kind_is ∙ e in
    let i : h.doc.item ≡ d.item = cc in
    let s : h.doc.serial ≡ d.serial = cc in
    let doc : h.doc ≡ d = ap₂ doc_at i s in
    let page = one_page v.1.before (changed r) (page_of h.doc.item) h.old h.pages h.before_is in
    let slots = ap slots_of page ∙ ap slots_in h.head_after.before in
    let at : head_of v.1.before h.doc.item ≡ Some h.head =
    ap (λ (hs : List (Option Head)). slot_at hs (slot_of h.doc.item)) slots ∙ h.head_after.head in
    record {
      by = by;
      runs = h.runs;
      pages = v.1.before;
      shown = v.1.shown;
      head = h.head;
      at = subst (λ (c : Doc). head_of v.1.before c.item ≡ Some h.head) doc at;
      serial = h.head_after.serial ∙ ap (λ (c : Doc). c.serial) doc;
      number = h.number;
      inserted = h.inserted;
      unmarked = h.unmarked;
    }

pub marked_cases : (R : Log) (r : Record) (x : ℕ) (d : Doc) → RecordsAreValid (r ∷ R) → In d (marked (r ∷ R) x)
    → In d (marked R x) ⊎ IsMarking R r x d
marked_cases R r x d v i = by r.kind refl i
  where
    joined : (item serial : ℕ) → r.kind ≡ kind.MarkDeleted item serial → (b : Bool) → (b ≡ true → r.xid ≡ x)
        → In d (cond b (marked R x ++ doc_at item serial ∷ []) (marked R x)) → In d (marked R x) ⊎ IsMarking R r x d
    joined item serial e false is j = inl j
    joined item serial e true is j = elim (in_either d (marked R x) (doc_at item serial ∷ []) j) [
      | inl old ↦ inl old
      | inr new ↦ elim new [
        | inl same ↦
            inr (marking R r x d v (e ∙ ap (λ (c : Doc). kind.MarkDeleted c.item c.serial) (sym same)) (is refl))
        | inr none ↦ absurd none
      ]
    ]

    by : (k : Kind) → r.kind ≡ k → In d (marked_with k r.xid x (marked R x)) → In d (marked R x) ⊎ IsMarking R r x d
    by (kind.MarkDeleted item serial) e j = joined item serial e (r.xid == x) (λ t. grind (arith, t)) j
    by _ e j = inl j

no_marks : (x : ℕ) (d : Doc) (R : Log) → In d (marked R x) → R ≢ []
no_marks x d R i e = subst (λ (L : Log). In d (marked L x)) e i

aborted_stays : (R : Log) (r : Record) (y : ℕ) → R ≢ [] → IsLegal (r ∷ R) → fate R y ≡ Aborted
    → fate (r ∷ R) y ≡ Aborted
aborted_stays R r y some legal a =
    let v = legal.valid.1 in
    let facts = steady R (r ∷ []) (r ∷ R) v.before v.after refl some (legal_less r R legal) legal v.shown v.shown_after
    in
    facts.ends_stay.aborted_stays y a

pub zero_unused : (R : Log) → IsLegal R → fate R 0 ≡ Unused
zero_unused R legal = sym ((state_told 0 0 R legal).fates 0)

pub marks_some : (R : Log) (x : ℕ) (d : Doc) → IsLegal R → In d (marked R x) → x ≢ 0
marks_some [] x d legal i e = i
marks_some (r ∷ R) x d legal i e =
    let before = legal_less r R legal in
    elim (marked_cases R r x d legal.valid i) [
      | inl old ↦ marks_some R x d before old e
      | inr m ↦
          let clash : Unused ≡ Running = sym (zero_unused R before) ∙ ap (fate R) (sym (m.by ∙ e)) ∙ m.runs in
          (let z : ⊥ = cc in z)
    ]

-- who else has marked it when it is marked has aborted
pub marks_alone : (R : Log) (r : Record) (x y : ℕ) (d : Doc) → IsLegal (r ∷ R) → IsMarking R r x d → In d (marked R y)
    → fate (r ∷ R) y ≡ Aborted
marks_alone R r x y d legal m j =
    let before = legal_less r R legal in
    let marked_at : In (doc_at d.item m.head.serial) (marked R y) =
    subst (λ (s : ℕ). In (doc_at d.item s) (marked R y)) (sym m.serial) j in
    let aborted : fate R y ≡ Aborted = elim (same_or_other y m.head.deleted_by) [
      | inl e ↦ elim m.unmarked [
        | inl none ↦ absurd (marks_some R y d before j (e ∙ none))
        | inr aborted ↦ ap (fate R) e ∙ aborted
      ]
      | inr other ↦ (documents R m.pages before m.shown).others_aborted d.item m.head y m.at marked_at other
    ] in
    aborted_stays R r y (no_marks y d R j) legal aborted

-- of two that have marked a document one has aborted
pub marked_once : (R : Log) (x y : ℕ) (d : Doc) → IsLegal R → x ≢ y → In d (marked R x) → In d (marked R y)
    → (fate R x ≡ Aborted) ⊎ (fate R y ≡ Aborted)
marked_once [] x y d legal off i j = absurd i
marked_once (r ∷ R) x y d legal off i j = elim (marked_cases R r x d legal.valid i) [
  | inl old ↦ elim (marked_cases R r y d legal.valid j) [
    | inl old' ↦
        let some = no_marks x d R old in
        elim (marked_once R x y d (legal_less r R legal) off old old') [
          | inl a ↦ inl (aborted_stays R r x some legal a)
          | inr a ↦ inr (aborted_stays R r y some legal a)
        ]
    | inr m ↦ inl (marks_alone R r y x d legal m old)
  ]
  | inr m ↦ elim (marked_cases R r y d legal.valid j) [
    | inl old' ↦ inr (marks_alone R r x y d legal m old')
    | inr m' ↦ absurd (off (sym m.by ∙ m'.by))
  ]
]

pub one_named : (d e : Doc) → name_of d ≡ name_of e → d ≡ e
one_named d e n =
    let page : page_of d.item ≡ page_of e.item = ap (λ (x : Name). x.page) n in
    let slot : slot_of d.item ≡ slot_of e.item = ap (λ (x : Name). x.slot) n in
    let item : d.item ≡ e.item = omega (arith, page, slot) in
    let serial : d.serial ≡ e.serial = ap (λ (x : Name). x.serial) n in
    ap₂ doc_at item serial

pub number_one : (a b : ℕ) → Committed a ≡ Committed b → a ≡ b
number_one a b e = cc

-- a document is deleted by one commit
pub deleted_once : (R : Log) (n : Name) (a b : ℕ) → IsLegal R → IsDeletedBy R n a → IsDeletedBy R n b → a ≡ b
deleted_once R n a b legal v w =
    let doc : w.doc ≡ v.doc = one_named w.doc v.doc (w.named ∙ sym v.named) in
    let marks : In v.doc (marked R w.xid) = subst (λ (d : Doc). In d (marked R w.xid)) doc w.marked_it in
    elim (same_or_other v.xid w.xid) [
      | inl e ↦ number_one a b (sym v.committed ∙ ap (fate R) e ∙ w.committed)
      | inr off ↦ elim (marked_once R v.xid w.xid v.doc legal off v.marked_it marks) [
        | inl aborted ↦ let z : Committed a ≡ Aborted = sym v.committed ∙ aborted in absurd (let x : ⊥ = cc in x)
        | inr aborted ↦ let z : Committed b ≡ Aborted = sym w.committed ∙ aborted in absurd (let x : ⊥ = cc in x)
      ]
    ]

-- and inserted by one
pub inserted_once : (R : Log) (n : Name) (a b : ℕ) → IsLegal R → IsInsertedBy R n a → IsInsertedBy R n b → a ≡ b
inserted_once R n a b legal v w =
    let doc : v.doc ≡ w.doc = one_named v.doc w.doc (v.named ∙ sym w.named) in
    let one = placed_once R v.xid w.xid v.doc w.doc legal.valid v.placed_it w.placed_it (ap (λ (d : Doc). d.serial) doc)
    in
    number_one a b (sym v.committed ∙ ap (fate R) one.0 ∙ w.committed)
