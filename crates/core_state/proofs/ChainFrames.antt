-- A page on a document's chain stays as it is through every record but the one that drops it; so a document's bytes
-- stay through all that isn't its own.
use Rattle.std.proofs.Common.{◌≡◌, ◌≢◌, ◌⊎◌, ◌<◌, ◌≤◌, ℕ, List, [], ◌∷◌, refl, sym, ap, subst, ap₂, ◌∙◌, inl, inr}
use Rattle.std.specs.Prelude.{Some, None, ⊤}
use Rattle.ts_base.specs.Vectors.{Vector}
use Rattle.page_types.specs.Numbers.{most_short}
use Rattle.page_types.specs.declared.page.Page.{Page}
use Rattle.page_types.specs.declared.page.Head.{Head}
use Rattle.page_types.specs.declared.page.Body.{Body}
use Rattle.page_types.specs.declared.page.Body.TheVariants as body
use Rattle.page_types.specs.declared.page.Gone.{Gone}
use Rattle.page_types.specs.declared.record.Record.{Record}
use Rattle.page_types.specs.declared.record.Kind.{Kind}
use Rattle.page_types.specs.declared.record.Kind.TheVariants as kind
use Rattle.core_state.specs.Log.{Log, Pages, In, changed}
use Rattle.core_state.specs.Documents.{Doc, Has, IsChain, HasBytes, IsWhole, IsDead, page_of, head_of, doc_at}
use Rattle.core_state.specs.Index.{Line, NoPair}
use Rattle.core_state.specs.Known.{use_in}
use Rattle.core_state.specs.Changes.{IsNew}
use Rattle.core_state.specs.HeapRules.{IsPutOverflow}
use Rattle.core_state.specs.VacuumRules.{IsDropPage, IsGoneFrom}
use Rattle.core_state.specs.Legal.{RuleHolds}
use Rattle.core_state.specs.Inner.ItemChains.{Chains, AreOverflows, ArePrivates}
use Rattle.core_state.proofs.Histories.{chain_one}
use Rattle.core_state.proofs.PageLists.{same_or_not, in_or_not, two_pages}
use Rattle.core_state.proofs.RulesByKind.{kind_rule}
use Rattle.core_state.specs.Inner.PageKinds.{IsHeap, IsOverflow, IsPending, IsMeta, IsTree, IsFirstOf, IsChanged}
use Rattle.core_state.specs.Inner.PageKinds.{Touched}
use Rattle.core_state.proofs.TouchedPages.{head_was}
use Rattle.core_state.proofs.LivePages.{new_was}
use Rattle.core_state.proofs.HeadSteps.{HeadStep}
use Rattle.core_state.proofs.StaysIndexed.{same_doc}
use Rattle.core_state.proofs.Chains.{chain_kept, parts_kept}

-- a body of a chain page is of no other kind
pub only_overflow : (b : Body) → IsOverflow b → (IsHeap b → ⊥) × (IsTree b → ⊥) × (IsPending b → ⊥) × (IsMeta b → ⊥)
only_overflow (body.Overflow bytes) is = (λ f. f, λ f. f, λ f. f, λ f. f)
only_overflow _ is = absurd is

pub only_pending : (b : Body) → IsPending b → (IsHeap b → ⊥) × (IsTree b → ⊥) × (IsOverflow b → ⊥) × (IsMeta b → ⊥)
only_pending (body.Pending rows) is = (λ f. f, λ f. f, λ f. f, λ f. f)
only_pending _ is = absurd is

-- a page that may be taken has neither free nor deleted content of kind K
pub not_new : (K : Body → Type 0) (P : Pages) (since q : ℕ) → (K body.Free → ⊥) → ((g : Gone) → K (body.Deleted g) → ⊥)
    → K (P q).body → IsNew (use_in P) since q → ⊥
not_new K P since q free gone k n = elim (new_was P since q n) [
  | inl e ↦ free (subst K e k)
  | inr o ↦
      gone o.0.0 (subst K o.0.1 k)
]

module _ (P Q : Pages) (r : Record) (since : ℕ) (touch : (p : ℕ) → In p (changed r) → Touched P Q r since p)
    (elsewhere : (q : ℕ) → (In q (changed r) → ⊥) → Q q ≡ P q) where
  overflow_changed : (q : ℕ) → IsOverflow (P q).body → IsChanged P Q r since q → IsFirstOf P r.kind q
  overflow_changed q is (IsChanged.made first_kind was after) =
      absurd (subst IsOverflow (ap (λ (x : Page). x.body) was) is)
  overflow_changed q is (IsChanged.heads was after at) = absurd (elim was [
    | inl heap ↦ (only_overflow (P q).body is).0
        heap
    | inr new ↦ not_new IsOverflow P since q (λ f. f) (λ g f. f) is new
  ])
  overflow_changed q is (IsChanged.chained new after) = absurd (not_new IsOverflow P since q (λ f. f) (λ g f. f) is new)
  overflow_changed q is (IsChanged.grown new works after) = absurd (not_new IsOverflow P since q (λ f. f) (λ g f. f) is
      new)
  overflow_changed q is (IsChanged.worked was works after) = absurd ((only_overflow (P q).body is).1 was)
  overflow_changed q is (IsChanged.meta was lists after) = absurd ((only_overflow (P q).body is).3 was)
  overflow_changed q is (IsChanged.listed was on lists after) = absurd ((only_overflow (P q).body is).2 was)
  overflow_changed q is (IsChanged.dropped first after) = first

  -- an overflow page stays, or is the first of its chain and goes
  pub overflow_stays : (q : ℕ) → IsOverflow (P q).body → (Q q ≡ P q) ⊎ IsFirstOf P r.kind q
  overflow_stays q is = elim (in_or_not q (changed r)) [
    | inl i ↦ inr (overflow_changed q is (touch q i).change)
    | inr off ↦ inl (elsewhere q off)
  ]

  pending_changed : (q : ℕ) → IsPending (P q).body → (line : List ℕ) → Line P line → (In q line → ⊥)
      → IsChanged P Q r since q → IsFirstOf P r.kind q
  pending_changed q is line l off (IsChanged.made first_kind was after) =
      absurd (subst IsPending (ap (λ (x : Page). x.body) was) is)
  pending_changed q is line l off (IsChanged.heads was after at) =
      absurd (elim was [
        | inl heap ↦ (only_pending (P q).body is).0 heap
        | inr new ↦ not_new IsPending P since q
            (λ f. f) (λ g f. f) is new
      ])
  pending_changed q is line l off (IsChanged.chained new after) = absurd (not_new IsPending P since q (λ f. f)
      (λ g f. f) is new)
  pending_changed q is line l off (IsChanged.grown new works after) = absurd (not_new IsPending P since q (λ f. f)
      (λ g f. f) is new)
  pending_changed q is line l off (IsChanged.worked was works after) = absurd ((only_pending (P q).body is).1 was)
  pending_changed q is line l off (IsChanged.meta was lists after) = absurd ((only_pending (P q).body is).3 was)
  pending_changed q is line l off (IsChanged.listed was on lists after) = absurd (off (on line l))
  pending_changed q is line l off (IsChanged.dropped first after) = first

  -- a pending page off the pending list likewise
  pub pending_stays : (q : ℕ) → IsPending (P q).body → (line : List ℕ) → Line P line → (In q line → ⊥) → (Q q ≡ P q)
      ⊎ IsFirstOf P r.kind q
  pending_stays q is line l off = elim (in_or_not q (changed r)) [
    | inl i ↦ inr (pending_changed q is line l off
        (touch q i).change)
    | inr n ↦ inl (elsewhere q n)
  ]

-- the first page of a chain is on it
pub first_in : (P : Pages) (p : ℕ) (qs : List ℕ) → p ≢ 0 → IsChain P p qs → In p qs
first_in P p [] off c = absurd (off c)
first_in P p (q ∷ qs) off c = inl c.0

-- one of two holds of each, so the first of all or the second of one
all_or_some : (A B : ℕ → Type 0) (qs : List ℕ) → ((q : ℕ) → In q qs → A q ⊎ B q) → ((q : ℕ) → In q qs → A q)
    ⊎ ((q : ℕ) × In q qs × B q)
all_or_some A B [] f = inl (λ q i. absurd i)
all_or_some A B (p ∷ qs) f = elim (f p (inl refl)) [
  | inr b ↦ inr (p, inl refl, b)
  | inl a ↦ elim (all_or_some A B qs (λ q i. f q (inr i))) [
    | inr b ↦ inr (b.0, inr b.1, b.2)
    | inl rest ↦ inl (λ q i. elim i [ inl e ↦ subst A (sym e) a | inr j ↦ rest q j ])
  ]
]

module _ (P Q : Pages) (h h' : Head) (bytes : h'.bytes ≡ h.bytes) (vector : h'.vector ≡ h.vector)
    (overflow : h'.overflow ≡ h.overflow) where
  bytes_kept : (bs : List ℕ) → HasBytes P h bs → ((qs : List ℕ) → IsChain P h.overflow qs → (q : ℕ) → In q qs
      → Q q ≡ P q) → HasBytes Q h' bs
  bytes_kept bs (HasBytes.short s) same = subst (HasBytes Q h') vector (HasBytes.short (subst (λ n. n ≤ most_short)
      (sym bytes) s))
  bytes_kept bs (HasBytes.long l qs c) same =
      let stay = same qs c in
      subst (HasBytes Q h') (parts_kept P Q qs stay) (HasBytes.long (subst (λ n. most_short < n) (sym bytes) l) qs
      (subst (λ (p : ℕ). IsChain Q p qs) (sym overflow) (chain_kept P Q h.overflow qs
      (λ q i. ap (λ (x : Page). x.right) (stay q i)) c)))

  -- a vector stays where its bytes and the pages of its chain do
  pub whole_kept : (v : Vector) → IsWhole P h v → ((qs : List ℕ) → IsChain P h.overflow qs → (q : ℕ) → In q qs
      → Q q ≡ P q) → IsWhole Q h' v
  whole_kept v w same = record {
    bytes = w.bytes;
    there = bytes_kept w.bytes w.there same;
    size = w.size ∙ sym bytes;
    encodes = w.encodes;
  }

-- a record of this kind drops a page or frees slots
abbrev pub RemovesDocs : Kind → Type 0
RemovesDocs (kind.DropPage i s) = ⊤
RemovesDocs kind.FreeSlots = ⊤
RemovesDocs _ = ⊥

-- the record drops a page of the document or frees its slot, which is dead and has no pair
pub record Removed (R : Log) (P : Pages) (r : Record) (floor : ℕ) (d : Doc) : Type 0 where
  pub by : RemovesDocs r.kind
  pub gone : IsGoneFrom R P floor d

module _ (R : Log) (P Q : Pages) (r : Record) (floor since : ℕ) (row : RuleHolds R P Q r floor since) where
  -- what the rules of two kinds say of their document
  pub drop_gone : (d : Doc) → r.kind ≡ kind.DropPage d.item d.serial → Removed R P r floor d
  drop_gone d e =
      let x : IsDropPage R P Q r floor = kind_rule R P Q r floor since (kind.DropPage d.item d.serial) e row in
      let same : kind.DropPage x.here.doc.item x.here.doc.serial ≡ kind.DropPage d.item d.serial = sym x.here.kind_is
      ∙ e in
      let item : x.here.doc.item ≡ d.item = cc in
      let serial : x.here.doc.serial ≡ d.serial = cc in
      record { by = subst RemovesDocs (sym e) tt; gone = subst (IsGoneFrom R P floor) (ap₂ doc_at item serial) x.rest }

  some_one : (a b : Head) → Some a ≡ Some b → a ≡ b
  some_one a b e = cc

  pub not_put : (d : Doc) (h : Head) (v : Vector) → r.kind ≡ kind.PutOverflow d.item d.serial → Has P d h
      → IsWhole P h v → ⊥
  not_put d h v e has whole =
      let x : IsPutOverflow R P Q r since = kind_rule R P Q r floor since (kind.PutOverflow d.item d.serial) e row in
      let same : kind.PutOverflow x.here.doc.item x.here.doc.serial ≡ kind.PutOverflow d.item d.serial =
      sym x.here.kind_is ∙ e in
      let item : x.here.doc.item ≡ d.item = cc in
      let f = two_pages P (changed r) (page_of x.here.doc.item) x.here.new x.here.old x.here.was x.here.pages
      x.here.before_is in
      let was = head_was P Q r since x.here.doc x.here.old x.here.heap_then x.here.head _ f.0 x.here.head_after in
      let one : h ≡ x.here.head = some_one h x.here.head (sym has.at ∙ ap (head_of P) (sym item) ∙ was.at) in
      x.rest v (subst (λ (k : Head). IsWhole P k v) one whole)

  module _ (from : Head → ℕ) (On : ℕ → ℕ → Type 0) (C : Chains P from On) (one : (i j q : ℕ) → On i q → On j q → i ≡ j)
      (stays : (i q : ℕ) → On i q → (Q q ≡ P q) ⊎ IsFirstOf P r.kind q)
      (first : (i q : ℕ) → On i q → (f : IsFirstOf P r.kind q) → from f.head ≡ q) where
    -- where a page of a document's chain is dropped, the document is removed
    dropped_own : (d : Doc) (h : Head) (q : ℕ) → Has P d h → On d.item q → IsFirstOf P r.kind q → Removed R P r floor d
    dropped_own d h q has on f =
        let at = first d.item q on f in
        let c = C.some f.doc.item f.head f.has.at in
        let there : In (from f.head) c.pages = first_in P (from f.head) c.pages (λ z. f.not_none (sym at ∙ z))
        c.is_chain in
        let mine : On f.doc.item q = (c.on q).0 (subst (λ (z : ℕ). In z c.pages) at there) in
        let same = same_doc P f.doc d f.head h f.has has (one f.doc.item d.item q mine on) in
        subst (Removed R P r floor) same.0 (drop_gone f.doc f.kind_is)

    -- the pages of a document's chain stay, or it is removed
    pub chain_stays : (d : Doc) (h : Head) → Has P d h → ((qs : List ℕ) → IsChain P (from h) qs → (q : ℕ) → In q qs
        → Q q ≡ P q) ⊎ Removed R P r floor d
    chain_stays d h has =
        let c = C.some d.item h has.at in
        elim (all_or_some (λ q. Q q ≡ P q) (λ q. IsFirstOf P r.kind q) c.pages (λ q i. stays d.item q ((c.on q).0 i))) [
          | inl stay ↦ inl (λ qs is q i. stay q (subst (In q) (chain_one P (from h) qs c.pages is c.is_chain) i))
          | inr drop ↦ inr (dropped_own d h drop.0 has ((c.on drop.0).0 drop.1) drop.2)
        ]

  module _ (touch : (p : ℕ) → In p (changed r) → Touched P Q r since p) (elsewhere : (q : ℕ) → (In q (changed r) → ⊥)
      → Q q ≡ P q) where
    pub overflow_chain_stays : (On : ℕ → ℕ → Type 0) → AreOverflows P On → (d : Doc) (h : Head) → Has P d h
        → ((qs : List ℕ) → IsChain P h.overflow qs → (q : ℕ) → In q qs → Q q ≡ P q) ⊎ Removed R P r floor d
    overflow_chain_stays On O = chain_stays (λ h. h.overflow) On O.chains O.one (λ i q on. overflow_stays P Q r since
        touch elsewhere q (O.fits i q on))
        (λ i q on f. elim f.first [ inl o ↦ o.1 | inr o ↦ absurd ((only_overflow (P q).body (O.fits i q on)).2 o.0) ])

    pub private_chain_stays : (line : List ℕ) (On : ℕ → ℕ → Type 0) → ArePrivates P line On → (d : Doc) (h : Head)
        → Has P d h
        → ((qs : List ℕ) → IsChain P h.private qs → (q : ℕ) → In q qs → Q q ≡ P q) ⊎ Removed R P r floor d
    private_chain_stays line On W = chain_stays (λ h. h.private) On W.chains W.one (λ i q on. pending_stays P Q r since
        touch elsewhere q (W.fits i q on) line W.is_line (W.apart i q on))
        (λ i q on f. elim f.first [ inl o ↦ absurd ((only_pending (P q).body (W.fits i q on)).2 o.0) | inr o ↦ o.1 ])

    module _ (H : HeadStep R P Q r floor) (On : ℕ → ℕ → Type 0) (O : AreOverflows P On) where
      same_head : (d : Doc) (h h' : Head) (v : Vector) → Has P d h → IsWhole P h v → Has Q d h' → h'.bytes ≡ h.bytes
          → h'.vector ≡ h.vector → h'.overflow ≡ h.overflow
          → ((k : Head) × Has Q d k × IsWhole Q k v) ⊎ Removed R P r floor d
      same_head d h h' v has whole has' bytes vector overflow = elim (overflow_chain_stays On O d h has) [
        | inl stay ↦ inl (h', has', whole_kept P Q h h' bytes vector overflow v whole stay)
        | inr gone ↦ inr gone
      ]

      whole_in : HeadStep R P Q r floor → (d : Doc) (h : Head) (v : Vector) → Has P d h → IsWhole P h v
          → ((k : Head) × Has Q d k × IsWhole Q k v) ⊎ Removed R P r floor d
      whole_in (HeadStep.same s) d h v has whole = same_head d h h v has whole (record {
        at = s d.item ∙ has.at;
        serial = has.serial;
      }) refl refl refl
      whole_in (HeadStep.placed e k kd free now new rest) d h v has whole = elim (same_or_not e.item d.item) [
        | inl w ↦ absurd (none_some h (sym free ∙ ap (head_of P) (sym w) ∙ has.at))
        | inr w ↦ same_head d h h v has whole (record { at = rest d.item w ∙ has.at; serial = has.serial }) refl refl
            refl
      ]
        where
          none_some : (k : Head) → None ≡ Some k → ⊥
          none_some k z = cc
      whole_in (HeadStep.turned e k k' old now t rest) d h v has whole = elim (same_or_not e.item d.item) [
        | inr w ↦ same_head d h h v has whole (record { at = rest d.item w ∙ has.at; serial = has.serial }) refl refl
            refl
        | inl w ↦
            let same = same_doc P e d k h old has (sym w) in
            let here : Has Q d k' = subst (λ (z : Doc). Has Q z k') same.0 now in
            elim t.overflow [
              | inl s ↦ same_head d h k' v has whole here (t.bytes ∙ ap (λ (z : Head). z.bytes) same.1) (t.vector
                  ∙ ap (λ (z : Head). z.vector) same.1) (s ∙ ap (λ (z : Head). z.overflow) same.1)
              | inr (inl put) ↦ absurd (not_put d h v (subst (λ (z : Doc). r.kind ≡ kind.PutOverflow z.item z.serial)
                  same.0 put) has whole)
              | inr (inr drop) ↦ inr (drop_gone d (subst (λ (z : Doc). r.kind ≡ kind.DropPage z.item z.serial) same.0
                  drop))
            ]
      ]
      whole_in (HeadStep.freed k each) d h v has whole = elim (each d.item) [
        | inl s ↦ same_head d h h v has whole (record { at = s ∙ has.at; serial = has.serial }) refl refl refl
        | inr f ↦
            let one : f.head ≡ h = some_one f.head h (sym f.was ∙ has.at) in
            inr (record {
              by = subst RemovesDocs (sym k) tt;
              gone = subst (λ (s : ℕ). IsGoneFrom R P floor (doc_at d.item s)) (ap (λ (z : Head). z.serial) one
                  ∙ has.serial) f.gone;
            })
      ]

      -- a whole document stays so with its vector, or is removed
      pub whole_or_removed : (d : Doc) (h : Head) (v : Vector) → Has P d h → IsWhole P h v → ((k : Head) × Has Q d k
          × IsWhole Q k v) ⊎ Removed R P r floor d
      whole_or_removed = whole_in H

      -- and then it is dead and without a pair
      pub whole_stays : (d : Doc) (h : Head) (v : Vector) → Has P d h → IsWhole P h v → ((k : Head) × Has Q d k
          × IsWhole Q k v) ⊎ (IsDead R floor d × NoPair P d.item)
      whole_stays d h v has whole = elim (whole_in H d h v has whole) [
        | inl now ↦ inl now
        | inr x ↦ inr (
          x.gone.dead,
          x.gone.no_pair,
        )
      ]
