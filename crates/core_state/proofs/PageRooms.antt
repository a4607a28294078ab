-- Pages with room, found by their ranks.
use Rattle.std.proofs.Common.{◌≡◌, ◌≢◌, ◌<◌, ◌≤◌, ◌+◌, ℕ, zero, suc, List, [], ◌∷◌, length, get_or, sym, ap, subst, ◌∙◌}
use Rattle.std.proofs.Common.{inl, inr, arith}
use Rattle.std.specs.Prelude.{Some}
use Rattle.std.specs.List.{slice_get}
use Rattle.core_state.specs.Log.{In}
use Rattle.core_state.specs.PageChoice.{IsLeast}
use Rattle.core_state.specs.States.{put_at, with_page}
use Rattle.core_state.specs.Inner.Rising.{AreRising}
use Rattle.core_state.specs.Inner.PageRooms.{room_rank, AreRooms, HasRoomIn}
use Rattle.core_state.proofs.PageLists.{in_or_not}
use Rattle.core_state.proofs.PutLists.{put_here, put_else}
use Rattle.core_state.proofs.RisingPages.{order, rising_at, rises_at}
use Rattle.core_state.proofs.RisingSearch.{in_at, get_some, in_with, in_still, in_back}
use Rattle.core_state.proofs.RunningOnes.{same_or_other}

-- the ranks after another length of one body
pub rooms_sized : (ps sizes after row new : List ℕ) (p n : ℕ) → after ≡ put_at 0 p n sizes → AreRooms ps sizes row
    → (0 < get_or row p 0 → get_or new p 0 ≡ room_rank n) → (get_or row p 0 ≡ 0 → get_or new p 0 ≡ 0)
    → ((q : ℕ) → q ≢ p → get_or new q 0 ≡ get_or row q 0) → AreRooms ps after new
rooms_sized ps sizes after row new p n e old ranked none others =
    subst (λ (ns : List ℕ). AreRooms ps ns new) (sym e)
    (record {
      here = λ q i. elim (same_or_other q p) [
        | inl f ↦
            let was : get_or row p 0 ≡ room_rank (get_or sizes p 0) = old.here p (subst (λ (z : ℕ). In z ps) f i) in
            ap (λ (z : ℕ). get_or new z 0) f ∙ ranked (omega (arith, was))
            ∙ ap room_rank (sym (put_here 0 sizes p n) ∙ ap (λ (z : ℕ). get_or (put_at 0 p n sizes) z 0) (sym f))
        | inr d ↦ others q d ∙ old.here q i ∙ ap room_rank (sym (put_else 0 sizes p q n d))
      ];
      other = λ q off. elim (same_or_other q p) [
        | inl f ↦ ap (λ (z : ℕ). get_or new z 0) f
            ∙ none (old.other p (λ i. off (subst (λ (z : ℕ). In z ps) (sym f) i)))
        | inr d ↦ others q d ∙ old.other q off
      ];
    })

-- the ranks after one page more
pub rooms_more : (ps sizes row new : List ℕ) (p : ℕ) → AreRooms ps sizes row
    → get_or new p 0 ≡ room_rank (get_or sizes p 0) → ((q : ℕ) → q ≢ p → get_or new q 0 ≡ get_or row q 0)
    → AreRooms (with_page p ps) sizes new
rooms_more ps sizes row new p old here others = record {
  here = λ q i. elim (same_or_other q p) [
    | inl f ↦ ap (λ (z : ℕ). get_or new z 0) f ∙ here ∙ ap (λ (z : ℕ). room_rank (get_or sizes z 0)) (sym f)
    | inr d ↦ others q d ∙ elim (in_back p q ps i) [ inl e ↦ absurd (d e) | inr j ↦ old.here q j ]
  ];
  other = λ q off. elim (same_or_other q p) [
    | inl f ↦ absurd (off (subst (λ (z : ℕ). In z (with_page p ps)) (sym f) (in_with p ps)))
    | inr d ↦ others q d ∙ old.other q (λ i. off (in_still p q ps i))
  ];
}

-- a body leaves room for so many bytes exactly where its rank reaches a bound
abbrev pub bound_of : ℕ → ℕ
bound_of bytes = 57367 + bytes

reaches : (size bytes : ℕ) → size + bytes ≤ 8169 → bound_of bytes ≤ room_rank size
reaches size bytes l = omega (arith, l)

fits_by : (size bytes : ℕ) → bound_of bytes ≤ room_rank size → size + bytes ≤ 8169
fits_by size bytes l = omega (arith, l)

-- a place with room has a page whose rank reaches the bound
ranked : (ps sizes row : List ℕ) (bytes k : ℕ) → AreRooms ps sizes row → (h : HasRoomIn ps sizes bytes k)
    → (k < length ps) × (get_or ps k 0 ≡ h.page) × (bound_of bytes ≤ get_or row h.page 0)
ranked ps sizes row bytes k rooms h =
    let g = get_some ps k h.page h.at in
    let i : In h.page ps = subst (λ (z : ℕ). In z ps) g.1 (in_at ps k g.0) in (
      g.0,
      g.1,
      subst (λ (z : ℕ). bound_of bytes ≤ z) (sym (rooms.here h.page i))
          (reaches (get_or sizes h.page 0) bytes h.fits),
    )

-- none where no page from that at the place on reaches the bound
pub none_reaches : (ps sizes row : List ℕ) (from first bytes : ℕ) → AreRising ps → AreRooms ps sizes row
    → slice_get ps from ≡ Some first → ((p : ℕ) → (first ≤ p) × (bound_of bytes ≤ get_or row p 0) → ⊥)
    → (k : ℕ) → (from ≤ k) × HasRoomIn ps sizes bytes k → ⊥
none_reaches ps sizes row from first bytes up rooms at none k h =
    let f = get_some ps from first at in
    let r = ranked ps sizes row bytes k rooms h.1 in
    let high = rising_at ps up from k h.0 r.0 in
    none h.1.page (omega (arith, high, f.1, r.1), r.2)

-- a page that reaches the bound has a place
pub has_place : (ps sizes row : List ℕ) (bytes p : ℕ) → AreRooms ps sizes row → bound_of bytes ≤ get_or row p 0
    → In p ps
has_place ps sizes row bytes p rooms l = elim (in_or_not p ps) [
  | inl i ↦ i
  | inr off ↦ absurd (omega (arith, l, rooms.other p off))
]

-- the first page from that at the place on that reaches the bound has the first place with room
pub first_place : (ps sizes row : List ℕ) (from first bytes p i : ℕ) → AreRising ps → AreRooms ps sizes row
    → slice_get ps from ≡ Some first
    → IsLeast (λ (q : ℕ). (first ≤ q) × (bound_of bytes ≤ get_or row q 0)) p → i < length ps → get_or ps i 0 ≡ p
    → IsLeast (λ (k : ℕ). (from ≤ k) × HasRoomIn ps sizes bytes k) i
first_place ps sizes row from first bytes p i up rooms at least lt is =
    let f = get_some ps from first at in
    let here : In p ps = subst (λ (z : ℕ). In z ps) is (in_at ps i lt) in
    record {
      holds = (
        elim (order i from) [
          | inl l ↦
              let low = rises_at ps up i from l f.0 in
              absurd (omega (arith, low, is, f.1, least.holds.0))
          | inr l ↦ l
        ],
        record {
          page = p;
          at = get_at ps i p lt is;
          fits = fits_by (get_or sizes p 0) bytes
              (subst (λ (z : ℕ). bound_of bytes ≤ z) (rooms.here p here) least.holds.1);
        },
      );
      least = λ k h.
          let r = ranked ps sizes row bytes k rooms h.1 in
          let high = rising_at ps up from k h.0 r.0 in
          let above : p ≤ h.1.page = least.least h.1.page (omega (arith, high, f.1, r.1), r.2) in
          elim (order k i) [
            | inl l ↦ let low = rises_at ps up k i l lt in absurd (omega (arith, low, is, r.1, above))
            | inr l ↦ l
          ];
    }
  where
    get_at : (qs : List ℕ) (k q : ℕ) → k < length qs → get_or qs k 0 ≡ q → slice_get qs k ≡ Some q
    get_at [] k q l e = absurd (omega (arith, l))
    get_at (x ∷ qs) zero q l e = ap Some e
    get_at (x ∷ qs) (suc k) q l e = get_at qs k q (omega (arith, l)) e
