-- The record of a step, and the pages that it leaves.
use Rattle.std.proofs.Common.{◌≡◌, ◌≢◌, ℕ, zero, suc, List, [], ◌∷◌, map, refl, ap, subst, ◌∙◌}
use Rattle.std.specs.Prelude.{Option}
use Rattle.page_types.specs.Views.{slots_in, slot_at}
use Rattle.page_types.specs.declared.page.Page.{Page}
use Rattle.page_types.specs.declared.page.Head.{Head}
use Rattle.page_types.specs.declared.page.Body.{Body}
use Rattle.page_types.specs.declared.page.Body.TheVariants as body
use Rattle.page_types.specs.declared.record.Record.{Record}
use Rattle.page_types.specs.declared.record.Kind.{Kind}
use Rattle.core_state.specs.Log.{Log, Pages, changed}
use Rattle.core_state.specs.Documents.{Doc, Has, page_of, slot_of}
use Rattle.core_state.specs.Changes.{made_with, IsHeadChange}
use Rattle.core_state.specs.Allowed.{Sheet, Step, IsDrawn, Leaves, AreMade, with_serial, numbered, made_by, drawn_kind}
use Rattle.core_state.specs.Allowed.{drawn_xid, drawn_body, sheet_pages}
use Rattle.core_state.specs.Steps.{ChangesHead}

module _ (R : Log) (s : Step) (r : Record) (n : IsDrawn R s r) where
  pub drawn_as : (k : Kind) → s.kind ≡ k → r.kind ≡ drawn_kind R k
  drawn_as k e = n.kind ∙ ap (drawn_kind R) e

  pub drawn_by : (k : Kind) → s.kind ≡ k → r.xid ≡ drawn_xid R k s.xid
  drawn_by k e = n.xid ∙ ap (λ (z : Kind). drawn_xid R z s.xid) e

  pub drawn_pages : (ss : List Sheet) → s.after ≡ ss → changed r ≡ sheet_pages ss
  drawn_pages ss e = n.pages ∙ ap sheet_pages e

pub one_of : (P : Pages) (ps : List ℕ) (a : ℕ) (x : Page) → ps ≡ a ∷ [] → P a ≡ x → map P ps ≡ x ∷ []
one_of P ps a x e is = ap (map P) e ∙ ap (λ (p : Page). p ∷ []) is

pub two_of : (P : Pages) (ps : List ℕ) (a b : ℕ) (x y : Page) → ps ≡ a ∷ b ∷ [] → P a ≡ x → P b ≡ y
    → map P ps ≡ x ∷ y ∷ []
two_of P ps a b x y e is is' = ap (map P) e ∙ ap (λ (p : Page). p ∷ P b ∷ []) is ∙ ap (λ (p : Page). x ∷ p ∷ []) is'

pub left_all : (P Q : Pages) (r : Record) (s : Step) (ss : List Sheet) → Leaves P Q r s → s.after ≡ ss
    → AreMade Q r ss
left_all P Q r s ss l e = subst (AreMade Q r) e l.here

-- a page that is left by a record of a kind that draws no serial
pub left_is : (r : Record) (k : Kind) (c : Page) (right : ℕ) (b : Body) → r.kind ≡ k → drawn_body k b ≡ b
    → c.right ≡ right → c.body ≡ b → made_by r c ≡ made_with r right b
left_is r k c right b kind_is plain right_is body_is =
    ap (λ (z : Body). record { right = c.right; stamp = r.number; body = drawn_body r.kind z }) body_is
    ∙ ap (λ (z : ℕ). record { right = z; stamp = r.number; body = drawn_body r.kind b }) right_is
    ∙ ap (λ (z : Kind). record { right = right; stamp = r.number; body = drawn_body z b }) kind_is
    ∙ ap (made_with r right) plain

-- one head of a page changes by a record
pub head_changes : (r : Record) (d : Doc) (old : Page) (h h' : Head) (new : Page)
    (c : ChangesHead d old h h' new) → IsHeadChange r d old h h' (made_with r old.right (body.Heap c.new_slots))
head_changes r d old h h' new c = record {
  slots = c.slots;
  new_slots = c.new_slots;
  before = c.before;
  head = c.head;
  serial = c.serial;
  put = c.put;
  after = refl;
}

-- the document has its slot on the page that is held
pub has_head : (P : Pages) (d : Doc) (old : Page) (h h' : Head) (new : Page) → P (page_of d.item) ≡ old
    → ChangesHead d old h h' new → Has P d h
has_head P d old h h' new is c = record {
  at = ap (λ (p : Page). slot_at (slots_in p.body) (slot_of d.item)) is
      ∙ ap (λ (b : Body). slot_at (slots_in b) (slot_of d.item)) c.before ∙ c.head;
  serial = c.serial;
}

-- a slot that gets its serial, and the others
pub numbered_at : (hs : List (Option Head)) (k serial : ℕ)
    → slot_at (numbered hs k serial) k ≡ with_serial (slot_at hs k) serial
numbered_at [] k serial = refl
numbered_at (h ∷ hs) zero serial = refl
numbered_at (h ∷ hs) (suc k) serial = numbered_at hs k serial

pub numbered_else : (hs : List (Option Head)) (k serial j : ℕ) → j ≢ k
    → slot_at (numbered hs k serial) j ≡ slot_at hs j
numbered_else [] k serial j off = refl
numbered_else (h ∷ hs) zero serial zero off = absurd (off refl)
numbered_else (h ∷ hs) zero serial (suc j) off = refl
numbered_else (h ∷ hs) (suc k) serial zero off = refl
numbered_else (h ∷ hs) (suc k) serial (suc j) off = numbered_else hs k serial j (λ e. off (ap suc e))
