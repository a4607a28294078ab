use Rattle.std.proofs.Common.{◌≡◌, ◌≤◌, ◌+◌, ◌-◌, ℕ, sym, subst, arith}
use Rattle.core_state.specs.States.{size_of}
use Rattle.core_state.specs.PageChoice.{IsLeast, IsLeastIfAny, HasRoomAt}
use Rattle.core_state.specs.Inner.PageRooms.{HasRoomIn}
use Rattle.core_state.proofs.HeapRooms.{none_later, room_later}
use Rattle.core_state.proofs.table.TransactionTable.room_behind.Goals as goal
use Rattle.core_state.proofs.table.TransactionTable.room_behind.Goals.{else-k-eq0-via-then-k-eq0+else-has_room}
use Rattle.core_state.proofs.table.TransactionTable.room_behind.Goals.{else-k-eq0-via-else-k-eq0}

pub returns-in_err-place : goal.returns-in_err-place
returns-in_err-place c =
    let not : c.args.k ≡ 0 → size_of c.args.self.now.value c.args.page + c.args.bytes ≤ 8169 → ⊥ =
    elim c.else-k-eq0.branch [
      | else-k-eq0-via-then-k-eq0+else-has_room w ↦ λ z l.
          let fits = w.has_room.ensures.1 l in let full = w.if-has_room.false in absurd (cc)
      | else-k-eq0-via-else-k-eq0 w ↦ λ z l. absurd (w.if-k-eq0.false z)
    ] in
    subst (IsLeastIfAny (λ (p : ℕ). (c.args.k ≤ p) × HasRoomAt c.args.self.now.value c.args.bytes p))
    (sym c.from_residual.ensures)
    (none_later c.args.self.now.value c.args.page c.args.k c.args.bytes c.requires not
    (λ p h. c.in_err-place.ensures.least p (omega (arith, h.0, c.saturating_sub.ensures), h.1)))

pub returns : goal.returns
returns c =
    let not : c.args.k ≡ 0 → size_of c.args.self.now.value c.args.page + c.args.bytes ≤ 8169 → ⊥ =
    elim c.else-k-eq0.branch [
      | else-k-eq0-via-then-k-eq0+else-has_room w ↦ λ z l.
          let fits = w.has_room.ensures.1 l in let full = w.if-has_room.false in absurd (cc)
      | else-k-eq0-via-else-k-eq0 w ↦ λ z l. absurd (w.if-k-eq0.false z)
    ] in
    let least = c.in_ok-place.ensures.least in
    let behind : IsLeast (λ (p : ℕ). (c.args.k - 1 ≤ p) × HasRoomIn c.args.self.now.value.freed
    c.args.self.now.value.sizes c.args.bytes p) c.in_ok-place.place = record {
      holds = (omega (arith, least.holds.0, c.saturating_sub.ensures), least.holds.1);
      least = λ q h. least.least q (omega (arith, h.0, c.saturating_sub.ensures), h.1);
    } in
    subst (IsLeast (λ (p : ℕ). (c.args.k ≤ p) × HasRoomAt c.args.self.now.value c.args.bytes p)) (omega arith)
    (room_later c.args.self.now.value c.args.page c.args.k c.args.bytes c.in_ok-place.place c.requires not behind)
