-- Where there is room for a record, there still is after the Abort of all that run.
use Rattle.std.proofs.Common.{◌≡◌, ◌≤◌, ℕ, List, [], length, ap, sym, subst, ◌∙◌, arith}
use Rattle.std.specs.Prelude.{IfSome}
use Rattle.page_types.specs.declared.record.Kind.{Kind}
use Rattle.page_types.specs.declared.record.Kind.TheVariants as kind
use Rattle.page_types.specs.declared.record.Record.{Record}
use Rattle.core_state.specs.Log.{changed}
use Rattle.core_state.specs.States.{StateValue, step_of, stepped, ended_all, transaction, noted}
use Rattle.core_state.specs.Rooms.{InMemory, HasRoom, HasRoomFor, HasRoomForPages, LeavesRoom}
use Rattle.core_state.specs.declared.transactions.Transaction.{Transaction}
use Rattle.core_state.proofs.RunningOnes.{on_same, length-all_ended}
use Rattle.buffer_frames.specs.Opens.{IsLoggedKind}

none_runs : (P : Transaction → Type 0) (x : ℕ) (ts : List Transaction) → ts ≡ [] → IfSome (transaction x ts) P
none_runs P x ts none = subst (λ (l : List Transaction). IfSome (transaction x l) P) (sym none) tt

-- all that run have ended
pub record HasEnded (h h' : InMemory) : Type 0 where
  pub none : h'.value.running ≡ []
  pub fates : length h'.value.fates ≡ length h.value.fates
  pub room_fates : h'.room.fates ≡ h.room.fates
  pub freed : h'.value.freed ≡ h.value.freed
  pub room_freed : h'.room.freed ≡ h.room.freed
  pub room_pages : h'.room.pages ≡ h.room.pages
  pub left : h.room.running ≤ h'.room.running

room_rest : (h h' : InMemory) → HasEnded h h' → (k : Kind) (x n : ℕ) → IsLoggedKind k → HasRoomFor k x n h
    → HasRoomFor k x n h'
room_rest h h' e kind.Begin x n logged room = (omega (arith, room, e.fates, e.room_fates), omega (arith, room, e.left))
room_rest h h' e (kind.Commit c) x n logged room = none_runs _ x h'.value.running e.none
room_rest h h' e (kind.PlaceHead item serial) x n logged room = none_runs _ x h'.value.running e.none
room_rest h h' e (kind.MarkDeleted item serial) x n logged room = none_runs _ x h'.value.running e.none
room_rest h h' e (kind.Checkpoint redo) x n logged room = absurd logged
room_rest h h' e kind.FreeSlots x n logged room = omega (arith, room, ap length e.freed, e.room_freed)
room_rest h h' e _ x n logged room = tt

has_ended : (h h' : InMemory) (r : Record) → r.kind ≡ kind.Abort → r.xid ≡ 0 → h'.value ≡ step_of r h.value
    → h'.room.pages ≡ h.room.pages → LeavesRoom r.kind r.xid h.room h'.room → HasEnded h h'
has_ended h h' r is zero value pages left =
    let kept = subst (λ (k : Kind). LeavesRoom k r.xid h.room h'.room) is left zero in
    let by_kind : step_of r h.value ≡ stepped kind.Abort r.xid (changed r) (noted r h.value) =
    ap (λ (k : Kind). stepped k r.xid (changed r) (noted r h.value)) is in
    let now : h'.value ≡ ended_all (noted r h.value) =
    value ∙ by_kind ∙ on_same r.xid 0 (ended_all (noted r h.value)) _ zero in
    record {
      none = ap (λ (s : StateValue). s.running) now;
      fates = ap (λ (s : StateValue). length s.fates) now ∙ length-all_ended h.value.running h.value.fates;
      room_fates = kept.2;
      freed = ap (λ (s : StateValue). s.freed) now;
      room_freed = kept.5;
      room_pages = pages;
      left = kept.3;
    }

pub room_still : (h h' : InMemory) (owed r : Record) → owed.kind ≡ kind.Abort → owed.xid ≡ 0
    → h'.value ≡ step_of owed h.value → h'.room.pages ≡ h.room.pages → LeavesRoom owed.kind owed.xid h.room h'.room
    → IsLoggedKind r.kind → HasRoom h r → HasRoom h' r
room_still h h' owed r is zero value pages left logged room =
    let e = has_ended h h' owed is zero value pages left in
    record {
      pages = subst (λ (n : ℕ). HasRoomForPages n r) (sym e.room_pages) room.pages;
      rest = room_rest h h' e r.kind r.xid (length r.changes) logged room.rest;
    }
