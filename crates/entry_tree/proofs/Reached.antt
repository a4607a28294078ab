-- What is found at the place that a search has come to.
use Rattle.std.proofs.Common.{◌≡◌, ◌≢◌, ◌⊎◌, ℕ, suc, ◌<◌, ◌≤◌, List, [], length, take, drop, get_or, refl, sym, ap}
use Rattle.std.proofs.Common.{Bool, eqb, subst, ◌∙◌, inl, inr, arith}
use Rattle.std.specs.Prelude.{Option, Some, None, IsTrue, ◌↔◌}
use Rattle.std.specs.Cmp.Lexicographic.{pointwise, bytes_decides}
use Rattle.std.specs.List.{slice_get}
use Rattle.std.proofs.lemmas.List.{length-take-le, take-append-drop, length-map}
use Rattle.std.proofs.lemmas.Option.{slice_get_within}
use Rattle.page_types.specs.Keys.{KeyLess, BoundLess}
use Rattle.page_types.specs.Pages.{IsEntry, AreEntries}
use Rattle.page_types.specs.declared.page.Entry.{Entry}
use Rattle.page_types.specs.declared.page.EntryChild.{EntryChild}
use Rattle.page_types.specs.declared.page.Body.TheVariants as body
use Rattle.core_state.specs.Log.{In}
use Rattle.entry_tree.specs.Finding.{IsBelow, IsFoundIn}
use Rattle.entry_tree.specs.Inner.Searching.{keys_of, bounds_of, IsBetween}
use Rattle.entry_tree.specs.declared.finding.Found.TheVariants as found
use Rattle.entry_tree.proofs.KeyOrders.{key_total, key_some, up_to, rising_at, rising_keys}
use Rattle.entry_tree.proofs.FoundPlaces.{IsAt, in_front, in_back, mark_there, around, all_there}

pub found_here : (right : ℕ) (high : List ℕ) (entries : List Entry) (key : List ℕ) (place : ℕ) (e : Entry)
    → slice_get entries place ≡ Some e → e.key ≡ key → (IsBelow high key → ⊥)
    → IsFoundIn right (body.EntryLeaf high entries) key (found.Here place)
found_here right high entries key place e at is not_so =
    IsFoundIn.here place high (take place entries) (drop (suc place) entries) e
    (ap (body.EntryLeaf high) (sym (around entries place e at)))
    (sym (length-take-le place entries (omega (arith, slice_get_within entries place e at)))) is (up_to high key not_so)

-- the key of an entry at a place up to which all are below the key, and no others
entry_below : (entries : List Entry) (key : List ℕ) (place j : ℕ) (e : Entry)
    → IsBetween key (keys_of entries) place place → IsAt (λ (d : Entry). d.key) entries e j → j < place
    → KeyLess e.key key
entry_below entries key place j e w at lt =
    (subst (λ (k : List ℕ). IsBelow k key) at.mark (w.below j lt)).1

entry_above : (entries : List Entry) (key : List ℕ) (place j : ℕ) (e : Entry) → AreEntries entries
    → IsBetween key (keys_of entries) place place → IsAt (λ (d : Entry). d.key) entries e j → place ≤ j
    → ((d : Entry) × (slice_get entries place ≡ Some d) × (d.key ≡ key) → ⊥) → KeyLess key e.key
entry_above entries key place j e are w at le not_so =
    let size : length (keys_of entries) ≡ length entries = length-map entries (λ (d : Entry). d.key) in
    let within : j < length (keys_of entries) = omega (arith, at.within, size) in
    let some : e.key ≢ [] = key_some e.key (all_there IsEntry entries j e are.each at.there).key in
    let not_below : KeyLess e.key key → ⊥ =
    λ l. w.above j le within (subst (λ (k : List ℕ). IsBelow k key) (sym at.mark) (some, l)) in
    elim (key_total key e.key) as (λ _. KeyLess key e.key) [
      | inl l ↦ l
      | inr (inl same) ↦ absurd (none_has entries key place j e are w at le not_so within (sym same))
      | inr (inr l) ↦ absurd (not_below l)
    ]
  where
    place_or_later : (place j : ℕ) → place ≤ j → (place ≡ j) ⊎ (place < j)
    place_or_later place j le = grind arith

    none_has : (entries : List Entry) (key : List ℕ) (place j : ℕ) (e : Entry) → AreEntries entries
        → IsBetween key (keys_of entries) place place → IsAt (λ (d : Entry). d.key) entries e j → place ≤ j
        → ((d : Entry) × (slice_get entries place ≡ Some d) × (d.key ≡ key) → ⊥) → j < length (keys_of entries)
        → e.key ≡ key → ⊥
    none_has entries key place j e are w at le not_so within same =
        elim (place_or_later place j le) as (λ _. ⊥) [
          | inl here ↦ not_so (e, subst (λ (i : ℕ). slice_get entries i ≡ Some e) (sym here) at.there, same)
          | inr less ↦
              let rises = rising_at BoundLess (keys_of entries) [] (rising_keys entries are) place j less within in
              let there : get_or (keys_of entries) j [] ≡ key = at.mark ∙ same in
              let below : KeyLess (get_or (keys_of entries) place []) key =
              elim rises.1 [
                | inl none ↦ absurd (key_some e.key (all_there IsEntry entries j e are.each at.there).key
                    (sym at.mark ∙ none))
                | inr l ↦ subst (KeyLess (get_or (keys_of entries) place [])) there l
              ] in
              w.above place (omega arith) (omega (arith, less, within)) (rises.0, below)
        ]

-- the entries before such a place are less than the key
pub before_less : (entries : List Entry) (key : List ℕ) (place : ℕ) → IsBetween key (keys_of entries) place place
    → (e : Entry) → In e (take place entries) → KeyLess e.key key
before_less entries key place w e on =
    let r = in_front (λ (d : Entry). d.key) place entries e on in entry_below entries key place r.0 e w r.2 r.1

-- those from the place on are greater, where none is there with the key
pub from_greater : (entries : List Entry) (key : List ℕ) (place : ℕ) → AreEntries entries
    → IsBetween key (keys_of entries) place place
    → ((d : Entry) × (slice_get entries place ≡ Some d) × (d.key ≡ key) → ⊥)
    → (e : Entry) → In e (drop place entries) → KeyLess key e.key
from_greater entries key place are w none e on =
    let r = in_back (λ (d : Entry). d.key) place entries e on in entry_above entries key place r.0 e are w r.2 r.1 none

pub found_absent : (right : ℕ) (high : List ℕ) (entries : List Entry) (key : List ℕ) (place : ℕ)
    → AreEntries entries → IsBetween key (keys_of entries) place place
    → ((d : Entry) × (slice_get entries place ≡ Some d) × (d.key ≡ key) → ⊥) → (IsBelow high key → ⊥)
    → IsFoundIn right (body.EntryLeaf high entries) key (found.Absent place)
found_absent right high entries key place are w none not_so =
    let size : length (keys_of entries) ≡ length entries = length-map entries (λ (d : Entry). d.key) in
    IsFoundIn.absent place high (take place entries) (drop place entries)
    (ap (body.EntryLeaf high) (sym (take-append-drop place entries)))
    (sym (length-take-le place entries (omega (arith, w.within, size)))) (before_less entries key place w)
    (from_greater entries key place are w none) (up_to high key not_so)

child_below : (children : List EntryChild) (key : List ℕ) (place j : ℕ) (c : EntryChild)
    → IsBetween key (bounds_of children) place place → IsAt (λ (d : EntryChild). d.bound) children c j → j < place
    → IsBelow c.bound key
child_below children key place j c w at lt = subst (λ (k : List ℕ). IsBelow k key) at.mark (w.below j lt)

pub found_down : (right : ℕ) (children : List EntryChild) (key : List ℕ) (place : ℕ) (c : EntryChild)
    → IsBetween key (bounds_of children) place place → slice_get children place ≡ Some c
    → IsFoundIn right (body.EntryInner children) key (found.Down c.page)
found_down right children key place c w at =
    let size : length (bounds_of children) ≡ length children = length-map children (λ (d : EntryChild). d.bound) in
    let here = mark_there (λ (d : EntryChild). d.bound) children place c at in
    IsFoundIn.down (take place children) (drop (suc place) children) c
    (ap body.EntryInner (sym (around children place c at)))
    (λ b on. let r = in_front (λ (d : EntryChild). d.bound) place children b on in
    (child_below children key place r.0 b w r.2 r.1).1)
    (up_to c.bound key (λ l. w.above place (omega arith) (omega (arith, here.within, size))
    (subst (λ (k : List ℕ). IsBelow k key) (sym here.mark) l)))

pub found_past : (right : ℕ) (children : List EntryChild) (key : List ℕ) (place : ℕ)
    → IsBetween key (bounds_of children) place place → length children ≤ place
    → IsFoundIn right (body.EntryInner children) key (found.Right right)
found_past right children key place w le =
    IsFoundIn.past_inner children refl
    (λ b on. let r = in_back (λ (d : EntryChild). d.bound) 0 children b on in
    child_below children key place r.0 b w r.2 (omega (arith, r.2.within, le)))

-- whether the entry at a place has the key
pub key_told : (entries : List Entry) (k : ℕ) (e : Entry) (key : List ℕ) (has : Bool) → slice_get entries k ≡ Some e
    → has ≡ pointwise eqb e.key key → IsTrue has ↔ ((x : Entry) × (slice_get entries k ≡ Some x) × (x.key ≡ key))
key_told entries k e key has at told = (
  λ t. (e, at, (bytes_decides e.key key).0 (sym told ∙ t)),
  λ h. told ∙ (bytes_decides e.key key).1 (ap key_in (sym at ∙ h.1) ∙ h.2),
)
  where
    key_in : Option Entry → List ℕ
    key_in None = []
    key_in (Some x) = x.key
