-- The chains of items through each kind of record.
use Rattle.std.proofs.Common.{◌≡◌, ◌≢◌, ◌⊎◌, ℕ, refl, sym, ap, subst, ◌∙◌, inl, inr}
use Rattle.std.specs.Prelude.{◌↔◌, Some, None}
use Rattle.page_types.specs.declared.page.Page.{Page}
use Rattle.page_types.specs.declared.page.Head.{Head}
use Rattle.page_types.specs.declared.record.Record.{Record}
use Rattle.page_types.specs.declared.record.Kind.TheVariants as kind
use Rattle.core_state.specs.Log.{Log, Pages}
use Rattle.core_state.specs.Documents.{Doc, head_of}
use Rattle.core_state.specs.Known.{use_in}
use Rattle.core_state.specs.Changes.{IsNew}
use Rattle.core_state.specs.HeapRules.{IsNewHead}
use Rattle.core_state.specs.Inner.ItemChains.{Chains}
use Rattle.core_state.proofs.PageLists.{same_or_not}
use Rattle.core_state.specs.Inner.PageKinds.{IsMeta, IsFirstOf}
use Rattle.core_state.proofs.LivePages.{new_was}
use Rattle.core_state.proofs.HeadSteps.{IsTurned, HeadTurned, IsFreed, HeadStep}
use Rattle.core_state.proofs.Chains.{HeadBefore, FreeBefore, same_chain, longer_chain, shorter_chain, no_chain}
use Rattle.core_state.proofs.Chains.{chains_kept, chains_turned}

-- the metapage is no new page
pub new_not_zero : (P : Pages) (since p : ℕ) → IsMeta (P 0).body → IsNew (use_in P) since p → p ≢ 0
new_not_zero P since p is n e = elim (new_was P since p n) [
  | inl free ↦ subst IsMeta (ap (λ (q : ℕ). (P q).body) (sym e) ∙ free) is
  | inr old ↦ subst IsMeta (ap (λ (q : ℕ). (P q).body) (sym e) ∙ old.0.1) is
]

module _ (R : Log) (P Q : Pages) (r : Record) (floor since : ℕ) (from : Head → ℕ) (On On' : ℕ → ℕ → Type 0)
    (C : Chains P from On)
    (stays : (i q : ℕ) → On i q → (Q q ≡ P q) ⊎ IsFirstOf P r.kind q) where
  -- the pages of a chain stay where none is dropped
  rights : ((d : Doc) → r.kind ≡ kind.DropPage d.item d.serial → ⊥) → (i q : ℕ) → On i q → (Q q).right ≡ (P q).right
  rights off i q on = elim (stays i q on) [
    | inl e ↦ ap (λ (x : Page). x.right) e
    | inr f ↦ absurd (off f.doc f.kind_is)
  ]

  -- where no head's first page changes all chains stay
  before_some : ((h : Head) (s x : ℕ) → IsNewHead h s x → from h ≡ 0) → ((d : Doc) (h h' : Head) → IsTurned r d h h'
      → from h' ≡ from h) → HeadStep R P Q r floor → (i : ℕ) (h' : Head)
      → head_of Q i ≡ Some h' → HeadBefore P from i h'
  before_some new turn (HeadStep.same s) i h' at = HeadBefore.was h' (sym (s i) ∙ at) refl
  before_some new turn (HeadStep.placed d h k free has is_new rest) i h' at = elim (same_or_not d.item i) [
    | inl e ↦ HeadBefore.new (ap (head_of P) e ∙ free) (ap from (some_one h' h (sym at ∙ ap (head_of Q) e ∙ has.at))
        ∙ new h d.serial r.xid is_new)
    | inr n ↦ HeadBefore.was h' (sym (rest i n) ∙ at) refl
  ]
    where
      some_one : (a b : Head) → Some a ≡ Some b → a ≡ b
      some_one a b e = cc
  before_some new turn (HeadStep.turned d h k old now t rest) i h' at = elim (same_or_not d.item i) [
    | inl e ↦ HeadBefore.was h (ap (head_of P) e ∙ old.at) (ap from (some_one h' k (sym at ∙ ap (head_of Q) e
        ∙ now.at)) ∙ turn d h k t)
    | inr n ↦ HeadBefore.was h' (sym (rest i n) ∙ at) refl
  ]
    where
      some_one : (a b : Head) → Some a ≡ Some b → a ≡ b
      some_one a b e = cc
  before_some new turn (HeadStep.freed k each) i h' at = elim (each i) [
    | inl s ↦ HeadBefore.was h' (sym s ∙ at) refl
    | inr f ↦ absurd (none_some h' (sym f.is ∙ at))
  ]
    where
      none_some : (k : Head) → None ≡ Some k → ⊥
      none_some k e = cc

  before_none : ((i : ℕ) (f : IsFreed R P Q floor i) → from f.head ≡ 0) → HeadStep R P Q r floor → (i : ℕ)
      → head_of Q i ≡ None → FreeBefore P from i
  before_none free (HeadStep.same s) i at = FreeBefore.was (sym (s i) ∙ at)
  before_none free (HeadStep.placed d h k was has is_new rest) i at = elim (same_or_not d.item i) [
    | inl e ↦ FreeBefore.was (ap (head_of P) e ∙ was)
    | inr n ↦ FreeBefore.was (sym (rest i n) ∙ at)
  ]
  before_none free (HeadStep.turned d h k old now t rest) i at = elim (same_or_not d.item i) [
    | inl e ↦ absurd (some_none k (sym now.at ∙ ap (head_of Q) (sym e) ∙ at))
    | inr n ↦ FreeBefore.was (sym (rest i n) ∙ at)
  ]
    where
      some_none : (k : Head) → Some k ≡ None → ⊥
      some_none k e = cc
  before_none free (HeadStep.freed k each) i at = elim (each i) [
    | inl s ↦ FreeBefore.was (sym s ∙ at)
    | inr f ↦ FreeBefore.freed f.head f.was (free i f)
  ]

  pub chains_stay : ((h : Head) (s x : ℕ) → IsNewHead h s x → from h ≡ 0) → ((d : Doc) (h h' : Head)
      → IsTurned r d h h' → from h' ≡ from h) → ((i : ℕ) (f : IsFreed R P Q floor i) → from f.head ≡ 0)
      → ((d : Doc) → r.kind ≡ kind.DropPage d.item d.serial → ⊥) → ((i q : ℕ) → On i q ↔ On' i q)
      → HeadStep R P Q r floor → Chains Q from On'
  chains_stay new turn free off same H = chains_kept P Q from On On' C (before_some new turn H) (before_none free H)
      (rights off) same

  -- a page comes before the first of one item's chain
  pub chain_longer : (d : Doc) (h h' : Head) (a : ℕ) → HeadTurned P Q d h h' → from h' ≡ a → a ≢ 0
      → (Q a).right ≡ from h → ((e : Doc) → r.kind ≡ kind.DropPage e.item e.serial → ⊥)
      → ((i q : ℕ) → (((i ≡ d.item) × (q ≡ a)) ⊎ On i q) ↔ On' i q) → Chains Q from On'
  chain_longer d h h' a t first off link no_drop same =
      chains_turned P Q from On On' C d.item h' t.is.at t.others
      (longer_chain P Q (from h) (from h') (On d.item) (On' d.item) (C.some d.item h t.was.at) (λ z. off (sym first
      ∙ z)) (ap (λ (q : ℕ). (Q q).right) first ∙ link)
      (rights no_drop d.item)
      (λ q. (
        λ o. elim o [ inl e ↦ (same d.item q).0 (inl (refl, e ∙ first)) | inr m ↦ (same d.item q).0 (inr m) ],
        λ o. elim ((same d.item q).1 o) [ inl e ↦ inl (e.1 ∙ sym first) | inr m ↦ inr m ],
      )))
      (λ i q n on. rights no_drop i q on)
      (λ i q n. (λ on. (same i q).0 (inr on), λ on'. elim ((same i q).1 on') [ inl e ↦ absurd (n e.0) | inr m ↦ m ]))

  -- one item's chain goes as a whole
  pub chain_gone : (d : Doc) (h h' : Head) → HeadTurned P Q d h h' → from h' ≡ 0
      → ((e : Doc) → r.kind ≡ kind.DropPage e.item e.serial → ⊥) → ((i q : ℕ) → (On i q × (i ≢ d.item)) ↔ On' i q)
      → Chains Q from On'
  chain_gone d h h' t none no_drop same =
      chains_turned P Q from On On' C d.item h' t.is.at t.others (no_chain P Q 0 (from h') (On d.item) (On' d.item)
      none (λ q o. ((same d.item q).1 o).1 refl)) (λ i q n on. rights no_drop i q on)
      (λ i q n. (λ on. (same i q).0 (on, n), λ on'. ((same i q).1 on').0))

  -- the first page of one item's chain goes, of which no other is on the item's chain
  pub chain_shorter : (d : Doc) (h h' : Head) → HeadTurned P Q d h h' → from h ≢ 0 → from h' ≡ (P (from h)).right
      → ((i q : ℕ) → q ≢ from h → On i q → Q q ≡ P q) → ((i : ℕ) → i ≢ d.item → On i (from h) → ⊥)
      → ((i q : ℕ) → (On i q × (q ≢ from h)) ↔ On' i q) → Chains Q from On'
  chain_shorter d h h' t off link others alone same =
      chains_turned P Q from On On' C d.item h' t.is.at t.others
      (shorter_chain P Q (from h) (from h') (On d.item) (On' d.item) (C.some d.item h t.was.at) off link
      (λ q n on. ap (λ (x : Page). x.right) (others d.item q n on)) (same d.item))
      (λ i q n on. ap (λ (x : Page). x.right) (others i q (λ e. alone i n (subst (On i) e on)) on))
      (λ i q n. (λ on. (same i q).0 (on, (λ e. alone i n (subst (On i) e on))), λ on'. ((same i q).1 on').0))

  -- another chain's page goes
  pub chain_beside : (d : Doc) (h h' : Head) (a : ℕ) → HeadTurned P Q d h h' → from h' ≡ from h → ((i q : ℕ) → q ≢ a
      → On i q → Q q ≡ P q) → ((i : ℕ) → On i a → ⊥)
      → ((i q : ℕ) → (On i q × (q ≢ a)) ↔ On' i q) → Chains Q from On'
  chain_beside d h h' a t first others alone same =
      let right : (i q : ℕ) → On i q → (Q q).right ≡ (P q).right = λ i q on. ap (λ (x : Page). x.right)
      (others i q (λ e. alone i (subst (On i) e on)) on) in
      let turned_same : (i q : ℕ) → On i q ↔ On' i q = λ i q. (
        λ on. (same i q).0 (
          on,
          (λ e. alone i (subst (On i) e on)),
        ),
        λ on'. ((same i q).1 on').0,
      ) in
      chains_turned P Q from On On' C d.item h' t.is.at t.others
      (same_chain P Q (from h) (from h') (On d.item) (On' d.item) (C.some d.item h t.was.at) first (right d.item)
      (turned_same d.item))
      (λ i q n on. right i q on) (λ i q n. turned_same i q)
