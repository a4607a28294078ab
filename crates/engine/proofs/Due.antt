-- Records of a statement that might come where they came.
use Rattle.std.proofs.Common.{inl, inr, ℕ, List, [], ◌∷◌, ◌++◌, refl, sym, ap, subst, ◌∙◌}
use Rattle.std.proofs.Common.{append_assoc, append-nil}
use Rattle.std.specs.Prelude.{Option, Some, None}
use Rattle.std.specs.List.{AllByRecursion}
use Rattle.disk_trait.specs.declared.device.Disk.{Ghosts as Disk}
use Rattle.ts_base.specs.Keys.{Key}
use Rattle.page_types.specs.declared.record.Record.{Record}
use Rattle.page_types.specs.declared.record.Kind.{Kind}
use Rattle.page_types.specs.declared.record.Kind.TheVariants as kind
use Rattle.core_state.specs.Log.{In}
use Rattle.core_state.specs.Documents.{Doc}
use Rattle.core_state.proofs.PageLists.{in_either}
use Rattle.engine.specs.Causes.{HadNoRoomOnList, IsDue, AreDue}
use Rattle.engine.specs.Db.{DbValue}
use Rattle.engine.specs.Finding.{Name}
use Rattle.engine.specs.Going.{Goes, stays}
use Rattle.engine.specs.Places.{HasNoRoomOnList}
use Rattle.engine.specs.Work.{AreParts, ArePut, AreIndexing, AreMarks, IsRowPageOf}
use Rattle.engine.specs.Inner.Indexing.{IsIndexedBy}
use Rattle.engine.proofs.Paths.{goes_on}

module _ {D : Type 0} (device : Disk D) where
  -- ── after others, and with others after ──

  had_around : (old mid : DbValue D) (keys : List Key) (item : ℕ) (front done back : List Record)
      → Goes device old mid front → HadNoRoomOnList device mid keys item done
      → HadNoRoomOnList device old keys item (front ++ (done ++ back))
  had_around old mid keys item front done back q had = record {
    store = had.store;
    first = front ++ had.first;
    rest = had.rest ++ back;
    order = ap (λ (l : List Record). front ++ l)
        (ap (λ (l : List Record). l ++ back) had.order ∙ append_assoc had.first had.rest back)
        ∙ sym (append_assoc front had.first (had.rest ++ back));
    goes = goes_on device q had.goes;
    no_room = had.no_room;
  }

  pub due_around : (old mid : DbValue D) (keys : List Key) (front done back : List Record) → Goes device old mid front
      → (k : Kind) → IsDue device mid keys done k → IsDue device old keys (front ++ (done ++ back)) k
  due_around old mid keys front done back q (kind.PutPending item serial) had =
      had_around old mid keys item front done back q had
  due_around old mid keys front done back q (kind.LinkPending item serial) had =
      had_around old mid keys item front done back q had
  due_around old mid keys front done back q _ had = tt

  pub due_more : (old mid : DbValue D) (keys : List Key) (front done : List Record) → Goes device old mid front
      → (k : Kind) → IsDue device mid keys done k → IsDue device old keys (front ++ done) k
  due_more old mid keys front done q k had =
      subst (λ (l : List Record). IsDue device old keys (front ++ l) k) (append-nil done)
      (due_around old mid keys front done [] q k had)

  -- ── of each kind ──

  module _ (old : DbValue D) (keys : List Key) (all : List Record) where
    part_due : (x : ℕ) (d : Doc) (n : ℕ) (rs : List Record) → AreParts d x n rs → (r : Record) → In r rs
        → IsDue device old keys all r.kind
    part_due x d n [] are r i = absurd i
    part_due x d n (q ∷ rs) are r (inl e) =
        subst (IsDue device old keys all) (sym (ap (λ (z : Record). z.kind) e ∙ (are.0).kind_is)) tt
    part_due x d n (q ∷ rs) are r (inr i) = part_due x d are.1.0 rs are.1.2 r i

    pub put_due : (x : ℕ) (bytes : List ℕ) (d : Doc) (rs : List Record) → ArePut bytes x d rs → (r : Record) → In r rs
        → IsDue device old keys all r.kind
    put_due x bytes d [] are r i = absurd i
    put_due x bytes d (q ∷ rs) are r (inl e) =
        subst (IsDue device old keys all) (sym (ap (λ (z : Record). z.kind) e ∙ (are.0).kind_is)) tt
    put_due x bytes d (q ∷ rs) are r (inr i) = part_due x d _ rs are.1 r i

    pub mark_due : (x : ℕ) (o : Option Name) (rs : List Record) → AreMarks o x rs → (r : Record) → In r rs
        → IsDue device old keys all r.kind
    mark_due x None rs are r i = absurd (subst (In r) are i)
    mark_due x (Some n) [] are r i = absurd are
    mark_due x (Some n) (q ∷ rs) are r (inl e) =
        subst (IsDue device old keys all) (sym (ap (λ (z : Record). z.kind) e ∙ (are.0).kind_is)) tt
    mark_due x (Some n) (q ∷ rs) are r (inr i) = absurd (subst (In r) are.1 i)

    page_due : (x : ℕ) (d : Doc) → HadNoRoomOnList device old keys d.item all → (rs : List Record)
        → AllByRecursion (IsRowPageOf x d) rs → (r : Record) → In r rs → IsDue device old keys all r.kind
    page_due x d had [] are r i = absurd i
    page_due x d had (q ∷ rs) are r (inl e) =
        subst (IsDue device old keys all) (sym (ap (λ (z : Record). z.kind) e ∙ (are.0).kind_is)) had
    page_due x d had (q ∷ rs) are r (inr i) = page_due x d had rs are.1 r i

  -- ── a document is indexed ──

  rows_due : (old : DbValue D) (x : ℕ) (d : Doc) (keys : List Key) (rs : List Record)
      → HasNoRoomOnList old d.item keys → AreIndexing x d keys rs → AreDue device old keys rs
  rows_due old x d keys rs none (AreIndexing.row q is order) r i = by (subst (In r) order i)
    where
      by : In r (q ∷ []) → IsDue device old keys rs r.kind
      by (inl e) = subst (IsDue device old keys rs) (sym (ap (λ (z : Record). z.kind) e ∙ is.kind_is)) tt
      by (inr z) = absurd z
  rows_due old x d keys rs none (AreIndexing.pages packed puts link pack are many is order) r i =
      elim (in_either r puts (link ∷ []) (subst (In r) order i)) [
        | inl j ↦ page_due old keys rs x d had puts are r j
        | inr j ↦ by j
      ]
    where
      had : HadNoRoomOnList device old keys d.item rs
      had = record { store = old; first = []; rest = rs; order = refl; goes = stays; no_room = none }

      by : In r (link ∷ []) → IsDue device old keys rs r.kind
      by (inl e) = subst (IsDue device old keys rs) (sym (ap (λ (z : Record). z.kind) e ∙ is.kind_is)) had
      by (inr z) = absurd z

  indexed_due : (old new : DbValue D) (x : ℕ) (d : Doc) (keys : List Key) → IsIndexedBy device old new x d keys
      → (rs : List Record) × AreIndexing x d keys rs × AreDue device old keys rs × Goes device old new rs
  indexed_due old new x d keys (IsIndexedBy.row q is goes) =
      (q ∷ [], AreIndexing.row q is refl, λ r i. by r i, goes)
    where
      by : (r : Record) → In r (q ∷ []) → IsDue device old keys (q ∷ []) r.kind
      by r (inl e) = subst (IsDue device old keys (q ∷ [])) (sym (ap (λ (z : Record). z.kind) e ∙ is.kind_is)) tt
      by r (inr z) = absurd z
  indexed_due old new x d keys (IsIndexedBy.pages none rs are goes) =
      (rs, are, rows_due old x d keys rs none are, goes)

  -- ── and put before ──

  pub stored_due : (old mid new : DbValue D) (x : ℕ) (bytes : List ℕ) (d : Doc) (keys : List Key) (puts : List Record)
      → ArePut bytes x d puts → Goes device old mid puts → IsIndexedBy device mid new x d keys
      → (rows : List Record) × AreIndexing x d keys rows × AreDue device old keys (puts ++ rows)
      × Goes device old new (puts ++ rows)
  stored_due old mid new x bytes d keys puts are goes indexed =
      let rows = indexed_due mid new x d keys indexed in (
        rows.0,
        rows.1,
        λ r i. elim (in_either r puts rows.0 i) [
          | inl j ↦ put_due old keys (puts ++ rows.0) x bytes d puts are r j
          | inr j ↦ due_more old mid keys puts rows.0 goes r.kind (rows.2 r j)
        ],
        goes_on device goes rows.3,
      )
