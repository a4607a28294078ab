-- Where there is room for an insert, each of its three steps has room.
use Rattle.std.proofs.Common.{◌≡◌, ◌<◌, ◌≤◌, ◌&&◌, nat_lt, ℕ, suc, Bool, true, false, ◌==◌, List, [], ◌∷◌, ◌++◌, length}
use Rattle.std.proofs.Common.{refl, sym, ap, subst, ◌∙◌, arith}
use Rattle.std.specs.Prelude.{Option, Some, None, IfSome, if◌then◌else◌}
use Rattle.page_types.specs.declared.page.Name.{Name}
use Rattle.page_types.specs.declared.record.Kind.{Kind}
use Rattle.page_types.specs.declared.record.Kind.TheVariants as kind
use Rattle.page_types.specs.declared.record.Record.{Record}
use Rattle.core_state.specs.Log.{changed, xid_bound}
use Rattle.core_state.specs.Documents.{Doc, name_of, page_of}
use Rattle.core_state.specs.States.{StateValue, step_of, stepped, placed_head, ended_all, transaction, noted}
use Rattle.core_state.specs.States.{with_placed, replaced, higher, with_page, last_serial}
use Rattle.core_state.specs.Rooms.{InMemory, Room, HasRoom, HasRoomFor, HasRoomForPages, HasRoomToInsert, LeavesRoom}
use Rattle.core_state.specs.Rooms.{FitsPlaced, FitsCommit}
use Rattle.core_state.specs.declared.answers.Fate.TheVariants.{Running}
use Rattle.core_state.specs.declared.transactions.Transaction.{Transaction}
use Rattle.core_state.proofs.RunningOnes.{joined_at, replaced_at, on_same, length-all_ended}
use Rattle.core_state.proofs.Following.{passes}

stepped_by : (r : Record) (k : Kind) (s : StateValue) → r.kind ≡ k
    → step_of r s ≡ stepped k r.xid (changed r) (noted r s)
stepped_by r k s e = ap (λ (x : Kind). stepped x r.xid (changed r) (noted r s)) e

left_by : (r : Record) (k : Kind) (old new : Room) → r.kind ≡ k → LeavesRoom r.kind r.xid old new
    → LeavesRoom k r.xid old new
left_by r k old new e left = subst (λ (x : Kind). LeavesRoom x r.xid old new) e left

room_by : (r : Record) (k : Kind) (h : InMemory) → r.kind ≡ k → HasRoomForPages h.room.pages r
    → HasRoomFor k r.xid (length r.changes) h → HasRoom h r
room_by r k h e pages rest =
    record { pages = pages; rest = subst (λ (x : Kind). HasRoomFor x r.xid (length r.changes) h) (sym e) rest }

-- all that run are ended
pub room_after_abort : (h h' : InMemory) (r : Record) → HasRoomToInsert h → r.kind ≡ kind.Abort → r.xid ≡ 0
    → h'.value ≡ step_of r h.value → LeavesRoom r.kind r.xid h.room h'.room → HasRoomToInsert h'
room_after_abort h h' r room is zero value left =
    let kept = left_by r kind.Abort h.room h'.room is left zero in
    let now : h'.value ≡ ended_all (noted r h.value) =
    value ∙ stepped_by r kind.Abort h.value is ∙ on_same r.xid 0 (ended_all (noted r h.value)) _ zero in
    record {
      fates = omega (
        arith,
        room.fates,
        kept.2,
        ap (λ (s : StateValue). length s.fates) now,
        length-all_ended h.value.running h.value.fates,
      );
      running = omega (arith, room.running, kept.3);
      fresh = ap (λ (s : StateValue). transaction (suc (length s.fates)) s.running) now;
      names = omega (arith, room.names, kept.1);
      serials = omega (arith, room.serials, kept.4);
      deletes = omega (arith, room.deletes, (kept.0).deletes);
      inserts = omega (arith, room.inserts, (kept.0).inserts);
      inserted = omega (arith, room.inserted, (kept.0).inserted);
    }

pub begin_has_room : (h : InMemory) (r : Record) → HasRoomToInsert h → r.kind ≡ kind.Begin
    → HasRoomForPages h.room.pages r → HasRoom h r
begin_has_room h r room is pages = room_by r kind.Begin h is pages (room.fates, room.running)

-- the transaction that has begun has no names
begun_one : (h : InMemory) (s : StateValue) (r : Record) → HasRoomToInsert h → r.kind ≡ kind.Begin
    → r.xid ≡ suc (length h.value.fates) → r.xid < xid_bound → s ≡ step_of r h.value
    → transaction r.xid s.running ≡ Some (record { xid = r.xid; deleted = []; inserted = [] })
begun_one h s r room is next bound value =
    let t : Transaction = record { xid = r.xid; deleted = []; inserted = [] } in
    let test : ((r.xid == suc (length h.value.fates)) && nat_lt r.xid xid_bound) ≡ true =
    passes r.xid (suc (length h.value.fates)) xid_bound next bound in
    let now : s.running ≡ h.value.running ++ t ∷ [] =
    ap (λ (x : StateValue). x.running) (value ∙ stepped_by r kind.Begin h.value is)
    ∙ ap (λ (b : Bool). (if b then record (noted r h.value) {
      fates = h.value.fates ++ Running ∷ [];
      running = h.value.running ++ t ∷ [];
    } else noted r h.value).running) test in
    let none : transaction r.xid h.value.running ≡ None =
    subst (λ (x : ℕ). transaction x h.value.running ≡ None) (sym next) room.fresh in
    ap (transaction r.xid) now ∙ joined_at h.value.running t r.xid none
    ∙ on_same r.xid r.xid (Some t) (transaction r.xid h.value.running) refl

fits_placed : (o : Option Transaction) (t : Transaction) (m : Room) → o ≡ Some t → FitsPlaced m t
    → IfSome o (FitsPlaced m)
fits_placed o t m is fits = subst (λ (x : Option Transaction). IfSome x (FitsPlaced m)) (sym is) fits

pub place_has_room : (h h' : InMemory) (b r : Record) (item serial : ℕ) → HasRoomToInsert h → b.kind ≡ kind.Begin
    → b.xid ≡ suc (length h.value.fates) → b.xid < xid_bound
    → h'.value ≡ step_of b h.value → LeavesRoom b.kind b.xid h.room h'.room → r.kind ≡ kind.PlaceHead item serial
    → r.xid ≡ b.xid → HasRoomForPages h'.room.pages r → HasRoom h' r
place_has_room h h' b r item serial room begins next bound value left is own pages =
    let kept = left_by b kind.Begin h.room h'.room begins left in
    room_by r (kind.PlaceHead item serial) h' is pages
    (fits_placed (transaction r.xid h'.value.running) (record { xid = b.xid; deleted = []; inserted = [] }) h'.room
    (ap (λ (x : ℕ). transaction x h'.value.running) own ∙ begun_one h h'.value b room begins next bound value)
    (record { names = omega (arith, room.names, kept.1); serials = omega (arith, room.serials, kept.2) }))

-- the transaction that has placed has one name at most
pub record HasOneName (o : Option Transaction) : Type 0 where
  pub t : Transaction
  pub is : o ≡ Some t
  pub deleted : t.deleted ≡ []
  pub inserted : length t.inserted ≤ 1

placed_one : (s : StateValue) (x : ℕ) (d : Doc) (t : Transaction) (b : Bool) → transaction x s.running ≡ Some t
    → t.xid ≡ x → t.deleted ≡ [] → t.inserted ≡ []
    → HasOneName (transaction x (if b then record s {
      next_serial = suc d.serial;
      placed = s.placed ++ record { item = d.item; xid = t.xid } ∷ [];
      ends = s.ends ++ 0 ∷ [];
      running = replaced (with_placed (name_of d) t) s.running;
      current = Some (page_of d.item);
      highest = higher (page_of d.item) s.highest;
      heaps = with_page (page_of d.item) s.heaps;
    } else s).running)
placed_one s x d t false is xid none none' =
    record { t = t; is = is; deleted = none; inserted = omega (arith, ap length none') }
placed_one s x d t true is xid none none' =
    let t' : Transaction = with_placed (name_of d) t in
    record {
      t = t';
      is = replaced_at s.running t' t x (subst (λ (y : ℕ). transaction y s.running ≡ Some t) (sym xid) is)
          ∙ on_same t'.xid x (Some t') (transaction x s.running) xid;
      deleted = none;
      inserted = omega (arith, ap (λ (ns : List Name). length (ns ++ name_of d ∷ [])) none');
    }

fits_commit : (o : Option Transaction) (m : Room) → HasOneName o → 0 < m.deletes → 0 < m.inserts → 0 < m.inserted
    → IfSome o (FitsCommit m)
fits_commit o m one deletes inserts inserted =
    subst (λ (x : Option Transaction). IfSome x (FitsCommit m)) (sym one.is) (record {
      deletes = deletes;
      deleted = omega (arith, ap length one.deleted);
      inserts = inserts;
      inserted = omega (arith, one.inserted);
    })

pub commit_has_room : (h h' h2 : InMemory) (b p r : Record) (item serial n : ℕ) → HasRoomToInsert h
    → b.kind ≡ kind.Begin → b.xid ≡ suc (length h.value.fates) → b.xid < xid_bound
    → h'.value ≡ step_of b h.value → LeavesRoom b.kind b.xid h.room h'.room → p.kind ≡ kind.PlaceHead item serial
    → p.xid ≡ b.xid
    → h2.value ≡ step_of p h'.value → LeavesRoom p.kind p.xid h'.room h2.room → r.kind ≡ kind.Commit n → r.xid ≡ b.xid
    → HasRoomForPages h2.room.pages r → HasRoom h2 r
commit_has_room h h' h2 b p r item serial n room begins next bound value left places own value2 left2 is own2 pages =
    let kept = left_by b kind.Begin h.room h'.room begins left in
    let kept2 = left_by p (kind.PlaceHead item serial) h'.room h2.room places left2 in
    let d : Doc = record { item = item; serial = serial } in
    let t : Transaction = record { xid = b.xid; deleted = []; inserted = [] } in
    let runs : transaction b.xid h'.value.running ≡ Some t = begun_one h h'.value b room begins next bound value in
    let found : transaction p.xid h'.value.running ≡ Some t =
    ap (λ (x : ℕ). transaction x h'.value.running) own ∙ runs in
    let now : h2.value ≡ placed_head (Some t) d (noted p h'.value) =
    value2 ∙ stepped_by p (kind.PlaceHead item serial) h'.value places
    ∙ ap (λ (o : Option Transaction). placed_head o d (noted p h'.value)) found in
    let one : HasOneName (transaction b.xid h2.value.running) =
    subst (λ (s : StateValue). HasOneName (transaction b.xid s.running)) (sym now)
    (placed_one (noted p h'.value) b.xid d t ((d.serial == h'.value.next_serial) && nat_lt d.serial (suc last_serial))
    runs refl refl refl) in
    room_by r (kind.Commit n) h2 is pages
    (fits_commit (transaction r.xid h2.value.running) h2.room
    (subst (λ (x : ℕ). HasOneName (transaction x h2.value.running)) (sym own2) one)
    (omega (arith, room.deletes, (kept.0).deletes, kept2.deletes))
    (omega (arith, room.inserts, (kept.0).inserts, kept2.inserts))
    (omega (arith, room.inserted, (kept.0).inserted, kept2.inserted)))

-- they keep their fates' number
pub fates_after_abort : (s s' : StateValue) (r : Record) → r.kind ≡ kind.Abort → r.xid ≡ 0 → s' ≡ step_of r s
    → length s'.fates ≡ length s.fates
fates_after_abort s s' r is zero value =
    ap (λ (x : StateValue). length x.fates) (value ∙ stepped_by r kind.Abort s is
    ∙ on_same r.xid 0 (ended_all (noted r s)) _ zero) ∙ length-all_ended s.running s.fates
