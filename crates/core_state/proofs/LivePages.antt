-- A record leaves its number on each page that it changes, and none of them free; it takes no page that was deleted
-- since a pin.
use Rattle.std.proofs.Common.{◌≡◌, ◌≢◌, ◌⊎◌, ◌<◌, ◌≤◌, ℕ, refl, sym, ap, subst, ◌∙◌, inl, inr, arith}
use Rattle.page_types.specs.Views.{free_page}
use Rattle.page_types.specs.declared.page.Page.{Page}
use Rattle.page_types.specs.declared.page.Body.{Body}
use Rattle.page_types.specs.declared.page.Body.TheVariants as body
use Rattle.page_types.specs.declared.page.Gone.{Gone}
use Rattle.page_types.specs.declared.record.Record.{Record}
use Rattle.core_state.specs.Log.{Pages, In, changed}
use Rattle.core_state.specs.Known.{use_by, use_in}
use Rattle.core_state.specs.Changes.{IsNew}
use Rattle.core_state.specs.declared.answers.PageUse.TheVariants as usage
use Rattle.core_state.specs.Inner.PageKinds.{IsHeap, IsOverflow, IsPending, IsMeta, IsTree, IsDeleted, IsPlain}
use Rattle.core_state.specs.Inner.PageKinds.{IsChanged, Touched}

-- content of a kind that isn't that of a free page
not_free_of : (K : Body → Type 0) (b : Body) → (K body.Free → ⊥) → K b → b ≢ body.Free
not_free_of K b off k e = off (subst K e k)

changed_not_free : (P Q : Pages) (r : Record) (since p : ℕ) → IsChanged P Q r since p → (Q p).body ≢ body.Free
changed_not_free P Q r since p (IsChanged.made first_kind was is) = not_free_of IsPlain (Q p).body (λ f. f) is
changed_not_free P Q r since p (IsChanged.heads was is at) = not_free_of IsHeap (Q p).body (λ f. f) is
changed_not_free P Q r since p (IsChanged.chained new is) =
    elim is [
      | inl o ↦ not_free_of IsOverflow (Q p).body (λ f. f) o
      | inr o ↦ not_free_of IsPending (Q p).body (λ f. f)
          o.0
    ]
changed_not_free P Q r since p (IsChanged.grown new works is) = not_free_of IsTree (Q p).body (λ f. f) is
changed_not_free P Q r since p (IsChanged.worked was works is) =
    elim is [ inl o ↦ not_free_of IsTree (Q p).body (λ f. f) o | inr o ↦ not_free_of IsDeleted (Q p).body (λ f. f) o ]
changed_not_free P Q r since p (IsChanged.meta was lists is) = not_free_of IsMeta (Q p).body (λ f. f) is
changed_not_free P Q r since p (IsChanged.listed was on lists is) =
    elim is [
      | inl o ↦ not_free_of IsPending (Q p).body (λ f. f) o
      | inr o ↦ not_free_of IsDeleted (Q p).body (λ f. f)
          o.0
    ]
changed_not_free P Q r since p (IsChanged.dropped first is) = not_free_of IsDeleted (Q p).body (λ f. f) is

-- a page that a record changes isn't free after it
pub body_not_free : (P Q : Pages) (r : Record) (since p : ℕ) → Touched P Q r since p → (Q p).body ≢ body.Free
body_not_free P Q r since p t = changed_not_free P Q r since p t.change

pub not_free : (P Q : Pages) (r : Record) (since p : ℕ) → Touched P Q r since p → Q p ≢ free_page
not_free P Q r since p t e = body_not_free P Q r since p t (ap (λ (q : Page). q.body) e)

-- what a page's use says of it
pub use_unused : (stamp : ℕ) (b : Body) → use_by stamp b ≡ usage.Unused → b ≡ body.Free
use_unused stamp body.Free e = refl
use_unused stamp (body.Deleted gone) e = cc
use_unused stamp (body.Meta first last pages) e = cc
use_unused stamp (body.Heap slots) e = cc
use_unused stamp (body.Overflow bytes) e = cc
use_unused stamp (body.Pending rows) e = cc
use_unused stamp (body.EntryLeaf high entries) e = cc
use_unused stamp (body.EntryInner children) e = cc
use_unused stamp (body.PostLeaf high items) e = cc
use_unused stamp (body.PostInner children) e = cc

pub use_deleted : (stamp at : ℕ) (b : Body) → use_by stamp b ≡ usage.Deleted at → ((g : Gone) × (b ≡ body.Deleted g))
    × (stamp ≡ at)
use_deleted stamp at body.Free e = absurd (cc)
use_deleted stamp at (body.Deleted gone) e = ((gone, refl), cc)
use_deleted stamp at (body.Meta first last pages) e = absurd (cc)
use_deleted stamp at (body.Heap slots) e = absurd (cc)
use_deleted stamp at (body.Overflow bytes) e = absurd (cc)
use_deleted stamp at (body.Pending rows) e = absurd (cc)
use_deleted stamp at (body.EntryLeaf high entries) e = absurd (cc)
use_deleted stamp at (body.EntryInner children) e = absurd (cc)
use_deleted stamp at (body.PostLeaf high items) e = absurd (cc)
use_deleted stamp at (body.PostInner children) e = absurd (cc)

-- a new page was free, or deleted by a record of number `since` at most
pub new_was : (P : Pages) (since p : ℕ) → IsNew (use_in P) since p → ((P p).body ≡ body.Free)
    ⊎ (((g : Gone) × ((P p).body ≡ body.Deleted g)) × ((P p).stamp ≤ since))
new_was P since p (IsNew.unused e low) = inl (use_unused (P p).stamp (P p).body e)
new_was P since p (IsNew.deleted stamp e small) = let d = use_deleted (P p).stamp stamp (P p).body e in inr (
  d.0,
  subst (λ n. n ≤ since) (sym d.1) small,
)

-- a page that was deleted after `since` isn't changed
untaken : (P : Pages) (since p : ℕ) (g : Gone) → (P p).body ≡ body.Deleted g → since < (P p).stamp
    → IsNew (use_in P) since p → ⊥
untaken P since p g is late n = elim (new_was P since p n) [
  | inl free ↦ let e : body.Deleted g ≡ body.Free = sym is ∙ free in cc
  | inr old ↦ omega (arith, late, old.1)
]

not_gone : (K : Body → Type 0) (P : Pages) (p : ℕ) (g : Gone) → (P p).body ≡ body.Deleted g → (K (body.Deleted g) → ⊥)
    → K (P p).body → ⊥
not_gone K P p g is off k = off (subst K is k)

changed_not_gone : (P Q : Pages) (r : Record) (since p : ℕ) (g : Gone) → (P p).body ≡ body.Deleted g
    → since < (P p).stamp → IsChanged P Q r since p → ⊥
changed_not_gone P Q r since p g is late (IsChanged.made first_kind was after) = let e : body.Deleted g ≡ body.Free =
    sym is ∙ ap (λ (q : Page). q.body) was in cc
changed_not_gone P Q r since p g is late (IsChanged.heads was after at) = elim was [
  | inl heap ↦ not_gone IsHeap P p g is (λ f. f) heap
  | inr new ↦ untaken P since p g is late new
]
changed_not_gone P Q r since p g is late (IsChanged.chained new after) = untaken P since p g is late new
changed_not_gone P Q r since p g is late (IsChanged.grown new works after) = untaken P since p g is late new
changed_not_gone P Q r since p g is late (IsChanged.worked was works after) = not_gone IsTree P p g is (λ f. f) was
changed_not_gone P Q r since p g is late (IsChanged.meta was lists after) = not_gone IsMeta P p g is (λ f. f) was
changed_not_gone P Q r since p g is late (IsChanged.listed was on lists after) = not_gone IsPending P p g is (λ f. f)
    was
changed_not_gone P Q r since p g is late (IsChanged.dropped first after) = elim first.first [
  | inl o ↦ not_gone IsOverflow P p g is (λ f. f) o.0
  | inr o ↦ not_gone IsPending P p g is (λ f. f) o.0
]

-- a record leaves a page that was deleted after `since` as it is
pub deleted_stays : (P Q : Pages) (r : Record) (since p : ℕ) (g : Gone) → ((q : ℕ) → In q (changed r)
    → Touched P Q r since q) → ((q : ℕ) → (In q (changed r) → ⊥) → Q q ≡ P q)
    → (P p).body ≡ body.Deleted g → since < (P p).stamp → Q p ≡ P p
deleted_stays P Q r since p g t elsewhere is late = elsewhere p (λ i. changed_not_gone P Q r since p g is late
    (t p i).change)
