-- The old heap pages that a head is tried on, with room, by those where a slot was freed.
use Rattle.std.proofs.Common.{◌≡◌, ◌≤◌, ◌+◌, ◌-◌, ℕ, zero, suc, List, ◌∷◌, refl, sym, ap, subst, ◌∙◌, arith}
use Rattle.std.specs.Prelude.{Option, Some, None}
use Rattle.std.specs.List.{slice_get}
use Rattle.core_state.specs.PageChoice.{IsLeast, IsLeastIfAny, HasRoomAt}
use Rattle.core_state.specs.States.{StateValue, size_of, heap_pages, with_first}
use Rattle.core_state.specs.Inner.PageRooms.{HasRoomIn}
use Rattle.core_state.specs.declared.answers.PageUse.{PageUse}
use Rattle.core_state.proofs.Framing.{framed}

-- no page comes before those where a slot was freed
alone : (s : StateValue) → s.current ≡ None → heap_pages s ≡ s.freed
alone s e = ap (λ (o : Option ℕ). with_first o s.freed) e

alone_to : (s : StateValue) (bytes p : ℕ) → s.current ≡ None → HasRoomIn s.freed s.sizes bytes p → HasRoomAt s bytes p
alone_to s bytes p e h = record {
  page = h.page;
  at = ap (λ (qs : List ℕ). slice_get qs p) (alone s e) ∙ h.at;
  fits = h.fits;
}

alone_from : (s : StateValue) (bytes p : ℕ) → s.current ≡ None → HasRoomAt s bytes p
    → HasRoomIn s.freed s.sizes bytes p
alone_from s bytes p e h = record {
  page = h.page;
  at = ap (λ (qs : List ℕ). slice_get qs p) (sym (alone s e)) ∙ h.at;
  fits = h.fits;
}

pub room_alone : (s : StateValue) (k bytes : ℕ) (o : Option ℕ) → s.current ≡ None
    → IsLeastIfAny (λ (p : ℕ). (k ≤ p) × HasRoomIn s.freed s.sizes bytes p) o
    → IsLeastIfAny (λ (p : ℕ). (k ≤ p) × HasRoomAt s bytes p) o
room_alone s k bytes None e none = λ p h. none p (h.0, alone_from s bytes p e h.1)
room_alone s k bytes (Some q) e least = record {
  holds = (least.holds.0, alone_to s bytes q e least.holds.1);
  least = λ p h. least.least p (h.0, alone_from s bytes p e h.1);
}

-- this page comes before them
behind : (s : StateValue) (page : ℕ) → s.current ≡ Some page → heap_pages s ≡ page ∷ s.freed
behind s page e = ap (λ (o : Option ℕ). with_first o s.freed) e

behind_to : (s : StateValue) (page bytes p : ℕ) → s.current ≡ Some page → HasRoomIn s.freed s.sizes bytes p
    → HasRoomAt s bytes (suc p)
behind_to s page bytes p e h = record {
  page = h.page;
  at = ap (λ (qs : List ℕ). slice_get qs (suc p)) (behind s page e) ∙ h.at;
  fits = h.fits;
}

behind_from : (s : StateValue) (page bytes p : ℕ) → s.current ≡ Some page → HasRoomAt s bytes (suc p)
    → HasRoomIn s.freed s.sizes bytes p
behind_from s page bytes p e h = record {
  page = h.page;
  at = ap (λ (qs : List ℕ). slice_get qs (suc p)) (sym (behind s page e)) ∙ h.at;
  fits = h.fits;
}

-- the first place is that of the page
first_fits : (s : StateValue) (page bytes : ℕ) → s.current ≡ Some page → HasRoomAt s bytes 0
    → size_of s page + bytes ≤ 8169
first_fits s page bytes e h =
    let at : Some page ≡ Some h.page = ap (λ (qs : List ℕ). slice_get qs 0) (sym (behind s page e)) ∙ h.at in
    let same : page ≡ h.page = cc in
    subst (λ (q : ℕ). size_of s q + bytes ≤ 8169) (sym same) h.fits

pub room_first : (s : StateValue) (page bytes : ℕ) → s.current ≡ Some page → size_of s page + bytes ≤ 8169
    → IsLeast (λ (p : ℕ). (0 ≤ p) × HasRoomAt s bytes p) 0
room_first s page bytes e l = record {
  holds = (
    omega arith,
    record { page = page; at = ap (λ (qs : List ℕ). slice_get qs 0) (behind s page e); fits = l },
  );
  least = λ q h. omega arith;
}

-- a place with room is none before those where a slot was freed
at_least : (s : StateValue) (page k bytes p : ℕ) → s.current ≡ Some page
    → (k ≡ 0 → size_of s page + bytes ≤ 8169 → ⊥) → k ≤ p → HasRoomAt s bytes p
    → (q : ℕ) × (p ≡ suc q) × (k - 1 ≤ q) × HasRoomIn s.freed s.sizes bytes q
at_least s page k bytes zero e not le h = absurd (not (omega (arith, le)) (first_fits s page bytes e h))
at_least s page k bytes (suc q) e not le h = (q, refl, omega (arith, le), behind_from s page bytes q e h)

pub none_later : (s : StateValue) (page k bytes : ℕ) → s.current ≡ Some page
    → (k ≡ 0 → size_of s page + bytes ≤ 8169 → ⊥)
    → ((p : ℕ) → (k - 1 ≤ p) × HasRoomIn s.freed s.sizes bytes p → ⊥)
    → (p : ℕ) → (k ≤ p) × HasRoomAt s bytes p → ⊥
none_later s page k bytes e not none p h =
    let w = at_least s page k bytes p e not h.0 h.1 in none w.0 (w.2, w.3)

pub room_later : (s : StateValue) (page k bytes i : ℕ) → s.current ≡ Some page
    → (k ≡ 0 → size_of s page + bytes ≤ 8169 → ⊥)
    → IsLeast (λ (p : ℕ). (k - 1 ≤ p) × HasRoomIn s.freed s.sizes bytes p) i
    → IsLeast (λ (p : ℕ). (k ≤ p) × HasRoomAt s bytes p) (suc i)
room_later s page k bytes i e not least = record {
  holds = (omega (arith, least.holds.0), behind_to s page bytes i e least.holds.1);
  least = λ p h.
      let w = at_least s page k bytes p e not h.0 h.1 in
      let above = least.least w.0 (w.2, w.3) in
      omega (arith, above, w.1);
}

-- the number of records and the uses of pages make no difference
pub room_framed : (s : StateValue) (n : ℕ) (us : List PageUse) (k bytes : ℕ) (o : Option ℕ)
    → IsLeastIfAny (λ (p : ℕ). (k ≤ p) × HasRoomAt s bytes p) o
    → IsLeastIfAny (λ (p : ℕ). (k ≤ p) × HasRoomAt (framed n us s) bytes p) o
room_framed s n us k bytes None none = λ p h. none p (h.0, record { page = h.1.page; at = h.1.at; fits = h.1.fits })
room_framed s n us k bytes (Some q) least = record {
  holds = (
    least.holds.0,
    record { page = least.holds.1.page; at = least.holds.1.at; fits = least.holds.1.fits },
  );
  least = λ p h. least.least p (h.0, record { page = h.1.page; at = h.1.at; fits = h.1.fits });
}
