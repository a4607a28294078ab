-- Items of dead documents: that they may leave, and that they are out of the index, stays so.
use Rattle.std.proofs.Common.{◌≡◌, ◌<◌, ◌≤◌, ℕ, zero, suc, List, [], ◌∷◌, length, refl, sym, ap, ap₂, subst, ◌∙◌, arith}
use Rattle.std.specs.Prelude.{Option, Some}
use Rattle.page_types.specs.Numbers.{most_slots}
use Rattle.page_types.specs.Views.{slots_in, slot_at}
use Rattle.page_types.specs.Pages.{IsPage, IsBody}
use Rattle.page_types.specs.declared.page.Page.{Page}
use Rattle.page_types.specs.declared.page.Head.{Head}
use Rattle.page_types.specs.declared.page.Body.{Body}
use Rattle.page_types.specs.declared.page.Body.TheVariants as body
use Rattle.core_state.specs.Log.{Log, Pages, Shows}
use Rattle.core_state.specs.Documents.{Doc, Has, IsDead, page_of, slot_of, item_at, doc_at}
use Rattle.core_state.specs.Known.{known}
use Rattle.core_state.specs.Changes.{IsDeadHead}
use Rattle.core_state.specs.VacuumRules.{MayLeave, IsGoneFrom}
use Rattle.core_state.specs.Legal.{IsLegal}
use Rattle.core_state.specs.Steady.{EndsStay, IndexStays}
use Rattle.core_state.specs.Allowed.{View, IsAllowed}
use Rattle.core_state.proofs.LawsHold.{documents}
use Rattle.core_state.proofs.NeverAgain.{one_doc}
use Rattle.core_state.proofs.Steps.Seen.{steady_facts}
use Rattle.core_maintenance.specs.Right.{HasRight}
use Rattle.core_maintenance.proofs.Right.{index_stays}
use Rattle.core_vacuum.specs.Leaving.{IsSwept, IsOut}

module _ (R R' : Log) (P Q : Pages) (stay : IndexStays R R' P Q) where
  pub leave_kept : EndsStay R R' → (floor i : ℕ) → MayLeave R P floor i → MayLeave R' Q floor i
  leave_kept ends floor i m = record {
    doc = m.doc;
    head = m.head;
    item = m.item;
    has = (stay.dead m.doc m.head floor m.dead m.has).head;
    dead = ends.dead_stays m.doc floor m.dead;
    no_row = λ k. m.no_row (record {
      row = k.row;
      linked = stay.dead_rows m.doc m.head floor m.dead m.has k.row (k.item ∙ sym m.item) k.linked;
      item = k.item;
    });
  }

  pub swept_kept : (i : ℕ) → IsSwept P i → IsSwept Q i
  swept_kept i none k m = none k ((stay.main k i).1 m)

module _ (v : View) (R : Log) (a : IsAllowed v R) (P : Pages) (shown : Shows v.seen P) (may : HasRight v) where
  pub leave_still : (floor i : ℕ) → MayLeave v.seen P floor i → MayLeave R a.pages floor i
  leave_still = leave_kept v.seen R P a.pages (index_stays v R a P shown may)
      (steady_facts v R a P shown may.started).ends_stay

  pub out_still : (floor i : ℕ) → IsOut v.seen P floor i → IsOut R a.pages floor i
  out_still floor i out = record {
    may = leave_still floor i out.may;
    swept = swept_kept v.seen R P a.pages (index_stays v R a P shown may) i out.swept;
  }

-- so a document that has its slot is dead, and out of the index, where its item is
pub gone_from : (R : Log) (P : Pages) (floor : ℕ) (d : Doc) (h : Head) → Has P d h → IsOut R P floor d.item
    → IsGoneFrom R P floor d
gone_from R P floor d h has out = record {
  dead = subst (IsDead R floor) (one_doc P out.may.doc d out.may.head h out.may.has has out.may.item) out.may.dead;
  no_pair = record { no_row = out.may.no_row; no_posting = out.swept };
}

-- and its head says that it is dead
pub dead_head : (R : Log) (P : Pages) → IsLegal R → Shows R P → (floor : ℕ) (d : Doc) (h : Head) → Has P d h
    → IsDead R floor d → IsDeadHead (known R P).fates floor h
dead_head R P legal shown floor d h has dead =
    ((documents R P legal shown).dead d.item h floor has.at).0
    (subst (λ (s : ℕ). IsDead R floor (doc_at d.item s)) (sym has.serial) dead)

-- a slot that is used is within the slots
used_within : (slots : List (Option Head)) (k : ℕ) (h : Head) → slot_at slots k ≡ Some h → k < length slots
used_within [] k h e = absurd cc
used_within (s ∷ slots) zero h e = omega arith
used_within (s ∷ slots) (suc k) h e = let l = used_within slots k h e in omega (arith, l)

slots_fit : (p : Page) (slots : List (Option Head)) → IsPage p → p.body ≡ body.Heap slots → length slots ≤ most_slots
slots_fit p slots is e = (subst (IsBody p.right p.stamp) e is.body).0

page_is : (page slot : ℕ) → slot < most_slots → page_of (item_at page slot) ≡ page
page_is page slot lt = omega (arith, lt)

slot_is : (page slot : ℕ) → slot < most_slots → slot_of (item_at page slot) ≡ slot
slot_is page slot lt = omega (arith, lt)

-- the document in a used slot of a heap page
pub has_slot : (R : Log) (P : Pages) → Shows R P → (page slot : ℕ) (slots : List (Option Head)) (h : Head)
    → (P page).body ≡ body.Heap slots → slot_at slots slot ≡ Some h → Has P (doc_at (item_at page slot) h.serial) h
has_slot R P shown page slot slots h is at =
    let lt = used_within slots slot h at in
    let most = slots_fit (P page) slots (shown page).0 is in
    let within : slot < most_slots = omega (arith, lt, most) in
    record {
      at = ap₂ (λ (p s : ℕ). slot_at (slots_in (P p).body) s) (page_is page slot within) (slot_is page slot within)
          ∙ ap (λ (b : Body). slot_at (slots_in b) slot) is ∙ at;
      serial = refl;
    }
