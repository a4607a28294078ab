-- The keys of a document come to the pending list, and a document is put and indexed: the records, and
-- why it isn't done.
use Rattle.std.proofs.Common.{◌≡◌, ◌⊎◌, ◌<◌, ◌+◌, ◌-◌, ℕ, zero, suc, List, [], ◌∷◌, ◌++◌, length, refl, sym, ap}
use Rattle.std.proofs.Common.{subst}
use Rattle.std.proofs.Common.{◌∙◌, inl, inr, arith, append_assoc, length-append}
use Rattle.std.specs.Prelude.{Result, Ok, Err, OnErr}
use Rattle.std.specs.List.{AllByRecursion}
use Rattle.disk_trait.specs.declared.device.Disk.{Ghosts as Disk}
use Rattle.ts_base.specs.Keys.{Key}
use Rattle.page_types.specs.Numbers.{most_slots}
use Rattle.page_types.specs.Views.{free_page}
use Rattle.page_types.specs.declared.page.Page.{Page}
use Rattle.page_types.specs.declared.page.Name.{Name}
use Rattle.page_types.specs.declared.record.Record.{Record}
use Rattle.page_types.specs.declared.record.Kind.{Kind}
use Rattle.page_types.specs.declared.record.Kind.TheVariants as kind
use Rattle.core_state.specs.Allowed.{Sheet}
use Rattle.core_state.specs.Documents.{Doc}
use Rattle.core_state.specs.Log.{In}
use Rattle.core_state.specs.Steps.{sheet}
use Rattle.core_state.proofs.PageLists.{in_back}
use Rattle.core_state.proofs.Showing.{free_is}
use Rattle.buffer_frames.specs.Drawing.{images_of}
use Rattle.pending_list.specs.Packing.{ArePacked}
use Rattle.engine.specs.Causes.{IsStoreFull, HasNoRoomFor, IsNone, HasHeadIn, IsBadPage, IsBadList, IsDue}
use Rattle.engine.specs.Causes.{AreDue}
use Rattle.engine.specs.Db.{DbValue, fault_of}
use Rattle.engine.specs.Going.{Goes, stays}
use Rattle.engine.specs.Places.{HasNoRoomOnList}
use Rattle.engine.specs.Work.{ArePut, AreIndexing, AreStored, IsPlaceOf, IsRowPageOf, IsLinkOf}
use Rattle.engine.specs.Inner.Changing.{doc_of, IsBadPut}
use Rattle.engine.specs.Inner.Indexing.{CannotAddRow, CannotPutRows, CannotLink, Indexes, NeedsRowPage}
use Rattle.engine.specs.Inner.Indexing.{CannotIndex, Stores, NeedsPageAt, CannotStore, IsDueFrom}
use Rattle.engine.specs.Inner.Indexing.{IsIndexedBy}
use Rattle.engine.specs.Inner.Parts.{Puts, NeedsPageFor, CannotPut}
use Rattle.engine.specs.declared.error.DbError.{DbError}
use Rattle.engine.specs.declared.error.DbError.TheVariants as store
use Rattle.engine.proofs.Marking.{page_is, slot_is}
use Rattle.engine.proofs.Due.{put_due, stored_due}
use Rattle.engine.proofs.Paths.{goes_on, goes_still}
use Rattle.engine.proofs.Works.{some_row, some_rows}

-- ── records that might come ──

some_page : Sheet
some_page = sheet 0 free_page

some_row_page : (x : ℕ) (d : Doc) → (r : Record) × IsRowPageOf x d r
some_row_page x d = (
  record {
    number = 0;
    xid = x;
    kind = kind.PutPending d.item d.serial;
    changes = images_of (sheet 0 free_page ∷ sheet 0 free_page ∷ []);
  },
  record {
    xid = refl;
    kind_is = refl;
    images = (sheet 0 free_page ∷ sheet 0 free_page ∷ [], refl, (free_is, (free_is, tt)), refl);
  },
)

some_link : (x : ℕ) (d : Doc) → (r : Record) × IsLinkOf x d r
some_link x d = (
  record {
    number = 0;
    xid = x;
    kind = kind.LinkPending d.item d.serial;
    changes = images_of (sheet 0 free_page ∷ sheet 0 free_page ∷ []);
  },
  record {
    xid = refl;
    kind_is = refl;
    images = inl (sheet 0 free_page ∷ sheet 0 free_page ∷ [], refl, (free_is, (free_is, tt)), refl);
  },
)

some_row_pages : (x : ℕ) (d : Doc) (n : ℕ) → (rs : List Record) × AllByRecursion (IsRowPageOf x d) rs × (length rs ≡ n)
some_row_pages x d zero = ([], tt, refl)
some_row_pages x d (suc n) =
    let r = some_row_page x d in
    let rs = some_row_pages x d n in
    (r.0 ∷ rs.0, (r.1, rs.1), ap (λ (k : ℕ). suc k) rs.2)

pub both_all : (x : ℕ) (d : Doc) (rs qs : List Record) → AllByRecursion (IsRowPageOf x d) rs
    → AllByRecursion (IsRowPageOf x d) qs → AllByRecursion (IsRowPageOf x d) (rs ++ qs)
both_all x d [] qs none all = all
both_all x d (r ∷ rs) qs one all = (one.0, both_all x d rs qs one.1 all)

-- ── what follows from an answer ──

pub refused_all : {T : Type 0} (A B : Type 0) (res : Result T DbError) → (A → B) → OnErr res A → OnErr res B
refused_all A B (Ok u) then a = tt
refused_all A B (Err e) then a = then a

-- ── the keys of a document ──

one_and_more : (done more all : ℕ) → more ≡ all - done - 1 → done < all → done + suc more ≡ all
one_and_more done more all rest few = omega arith

module _ (x : ℕ) (d : Doc) (keys : List Key) (packed : List Page) (pack : ArePacked d.item keys packed)
    (done : List Record) (are : AllByRecursion (IsRowPageOf x d) done) where
  -- all pages were put, and are linked
  pub indexing_all : (link : Record) → length done ≡ length packed → IsLinkOf x d link
      → AreIndexing x d keys (done ++ link ∷ [])
  indexing_all link all is = AreIndexing.pages packed done link pack are all is refl

  -- some were put, and this one comes
  indexing_next : (next : Record) → length done < length packed → IsRowPageOf x d next
      → (rest : List Record) × AreIndexing x d keys (done ++ next ∷ rest)
  indexing_next next few is =
      let more = some_row_pages x d (length packed - length done - 1) in
      let link = some_link x d in
      let puts : List Record = done ++ next ∷ more.0 in
      let size : length puts ≡ length packed =
      length-append done (next ∷ more.0) ∙ one_and_more (length done) (length more.0) (length packed) more.2 few in (
        more.0 ++ link.0 ∷ [],
        AreIndexing.pages packed puts link.0 pack (both_all x d done (next ∷ more.0) are (is, more.1)) size link.1
            (sym (append_assoc done (next ∷ more.0) (link.0 ∷ []))),
      )

  pub indexing_some : length done < length packed → (rest : List Record) × AreIndexing x d keys (done ++ rest)
  indexing_some few =
      let r = some_row_page x d in
      let n = indexing_next r.0 few r.1 in
      (r.0 ∷ n.0, n.1)

  module _ {D : Type 0} (device : Disk D) (old : DbValue D) where
    -- a page isn't put: none was new, the log has no room, or a page is bad
    pub stopped_at : (Why : DbValue D → Record → Type 0) (z : DbValue D) (r : Record) → length done < length packed
        → IsRowPageOf x d r → Goes device old z done → Why z r → Indexes device old x d keys Why
    stopped_at Why z r few is goes why =
        let n = indexing_next r few is in
        record { store = z; done = done; next = r; rest = n.0; are_rows = n.1; goes = goes; why = why }

    -- the link is refused
    pub unlinked_at : (Why : DbValue D → Record → Type 0) (z : DbValue D) (r : Record) → length done ≡ length packed
        → IsLinkOf x d r → Goes device old z done → Why z r → Indexes device old x d keys Why
    unlinked_at Why z r all is goes why = record {
      store = z;
      done = done;
      next = r;
      rest = [];
      are_rows = indexing_all r all is;
      goes = goes;
      why = why;
    }

module _ {D : Type 0} (device : Disk D) (old : DbValue D) (x : ℕ) (name : Name) (keys : List Key) where
  -- nothing was logged
  pub indexing_none : (new : DbValue D) → Goes device old new []
      → (done rest : List Record) × AreIndexing x (doc_of name) keys (done ++ rest) × Goes device old new done
  indexing_none new goes = let rest = some_rows x (doc_of name) keys in ([], rest.0, rest.1, goes)

  -- all pages were put, and are not linked
  pub indexing_put : (packed : List Page) → ArePacked (doc_of name).item keys packed → (done : List Record)
      → AllByRecursion (IsRowPageOf x (doc_of name)) done → length done ≡ length packed → {new : DbValue D}
      → Goes device old new done
      → (done rest : List Record) × AreIndexing x (doc_of name) keys (done ++ rest) × Goes device old new done
  indexing_put packed pack done are many goes =
      let link = some_link x (doc_of name) in
      (done, link.0 ∷ [], indexing_all x (doc_of name) keys packed pack done are link.0 many link.1, goes)

  -- no row was added
  pub add_cause : (e : DbError) → CannotAddRow device old x (doc_of name) e → CannotIndex device old x name keys e
  add_cause (store.Down f) why = why
  add_cause store.LogFull why = record {
    store = why.0;
    done = [];
    next = why.2.0;
    rest = [];
    are_rows = AreIndexing.row why.2.0 why.2.1 refl;
    goes = why.1;
    why = (subst (IsDueFrom device old keys) (sym (why.2.1).kind_is) tt, why.2.2);
  }
  add_cause (store.BadPage p) why =
      let r = some_row x (doc_of name) in
      record {
        store = old;
        done = [];
        next = r.0;
        rest = [];
        are_rows = AreIndexing.row r.0 r.1 refl;
        goes = stays;
        why = inr why;
      }
  add_cause store.DiskFault why = tt
  add_cause store.OutOfMemory why = tt
  add_cause store.NoDocument why = absurd why
  add_cause (store.Conflict y) why = absurd why
  add_cause store.XidsSpent why = absurd why
  add_cause store.StoreFull why = absurd why

  -- after that pages were put, or not all
  module _ (mid : DbValue D) (packed : List Page) (pack : ArePacked (doc_of name).item keys packed)
      (full : HasNoRoomOnList old (doc_of name).item keys) (before : Goes device old mid [])
      (same : fault_of mid ≡ fault_of old) where
    pub pages_cause : (n : ℕ) (e : DbError) → n ≡ length packed → CannotPutRows device mid x name n e
        → CannotIndex device old x name keys e
    pages_cause n (store.Down f) many why = sym same ∙ why
    pages_cause n store.StoreFull many why =
        let r = some_row_page x (doc_of name) in
        stopped_at x (doc_of name) keys packed pack why.done why.are_put device old
        (λ (s : DbValue D) (q : Record). IsDueFrom device old keys q.kind × NeedsRowPage device q.kind × IsStoreFull s)
        why.store r.0 (subst (λ (k : ℕ). length why.done < k) many why.few) r.1 (goes_on device before why.goes) (
          subst (IsDueFrom device old keys) (sym (r.1).kind_is) full,
          subst (NeedsRowPage device) (sym (r.1).kind_is) tt,
          why.why,
        )
    pages_cause n store.LogFull many why =
        stopped_at x (doc_of name) keys packed pack why.done why.are_put device old
        (λ (s : DbValue D) (q : Record). IsDueFrom device old keys q.kind × HasNoRoomFor s q) why.store why.why.0
        (subst (λ (k : ℕ). length why.done < k) many why.few) why.why.1 (goes_on device before why.goes)
        (subst (IsDueFrom device old keys) (sym (why.why.1).kind_is) full, why.why.2)
    pages_cause n (store.BadPage p) many why =
        let r = some_row_page x (doc_of name) in
        stopped_at x (doc_of name) keys packed pack why.done why.are_put device old
        (λ (s : DbValue D) (q : Record). IsBadPut s name p ⊎ IsBadList s p) why.store r.0
        (subst (λ (k : ℕ). length why.done < k) many why.few) r.1 (goes_on device before why.goes) (inl why.why)
    pages_cause n store.DiskFault many why = tt
    pages_cause n store.OutOfMemory many why = tt
    pages_cause n store.NoDocument many why = absurd why
    pages_cause n (store.Conflict y) many why = absurd why
    pages_cause n store.XidsSpent many why = absurd why

    module _ (all : DbValue D) (done : List Record) (are : AllByRecursion (IsRowPageOf x (doc_of name)) done)
        (many : length done ≡ length packed) (goes : Goes device mid all done)
        (still : fault_of all ≡ fault_of mid) where
      bad_link : (z : DbValue D) (p : ℕ) → ((p ≡ name.page) × IsNone z (HasHeadIn z name.slot) p) ⊎ IsBadList z p
          → IsBadPut z name p ⊎ IsBadList z p
      bad_link z p (inl own) = inl (inl own)
      bad_link z p (inr list) = inr list

      pub link_cause : (e : DbError) → CannotLink device all x name e → CannotIndex device old x name keys e
      link_cause (store.Down f) why = sym same ∙ sym still ∙ why
      link_cause store.LogFull why =
          unlinked_at x (doc_of name) keys packed pack done are device old
          (λ (s : DbValue D) (q : Record). IsDueFrom device old keys q.kind × HasNoRoomFor s q) why.0 why.2.0 many
          why.2.1 (goes_still device (goes_on device before goes) why.1)
          (subst (IsDueFrom device old keys) (sym (why.2.1).kind_is) full, why.2.2)
      link_cause (store.BadPage p) why =
          let r = some_link x (doc_of name) in
          unlinked_at x (doc_of name) keys packed pack done are device old
          (λ (s : DbValue D) (q : Record). IsBadPut s name p ⊎ IsBadList s p) why.0 r.0 many r.1
          (goes_still device (goes_on device before goes) why.1) (bad_link why.0 p why.2)
      link_cause store.DiskFault why = tt
      link_cause store.OutOfMemory why = tt
      link_cause store.NoDocument why = absurd why
      link_cause (store.Conflict y) why = absurd why
      link_cause store.XidsSpent why = absurd why
      link_cause store.StoreFull why = absurd why

-- ── a document that is put and indexed ──

module _ {D : Type 0} (device : Disk D) (old : DbValue D) (x : ℕ) (bytes : List ℕ) (keys : List Key) where
  -- the first of its records are those that put it
  stored_more : (d : Doc) (puts rows : List Record) → ArePut bytes x d puts → AreIndexing x d keys rows
      → AreStored bytes keys x (puts ++ rows)
  stored_more d puts rows are index =
      record { doc = d; puts = puts; rows = rows; order = refl; are_put = are; are_rows = index }

  pub stored_not_put : (new : DbValue D)
      → (d : Doc) × (done rest : List Record) × ArePut bytes x d (done ++ rest) × Goes device old new done
      → (done rest : List Record) × AreStored bytes keys x (done ++ rest) × Goes device old new done
  stored_not_put new p =
      let rows = some_rows x p.0 keys in (
        p.1,
        p.2 ++ rows.0,
        subst (AreStored bytes keys x) (append_assoc p.1 p.2 rows.0)
            (stored_more p.0 (p.1 ++ p.2) rows.0 p.3 rows.1),
        p.4,
      )

  putting : (Met : DbValue D → List Record → Record → Type 0) (Why : DbValue D → List Record → Record → Type 0)
      → ((s : DbValue D) (rs : List Record) (r : Record) → IsDue device old keys rs r.kind → Met s rs r → Why s rs r)
      → Puts device old x bytes Met → Stores device old x bytes keys Why
  putting Met Why tells p =
      let rows = some_rows x p.doc keys in
      record {
        store = p.store;
        done = p.done;
        next = p.next;
        rest = p.rest ++ rows.0;
        are_stored = subst (AreStored bytes keys x) (append_assoc p.done (p.next ∷ p.rest) rows.0)
            (stored_more p.doc (p.done ++ p.next ∷ p.rest) rows.0 p.are_put rows.1);
        goes = p.goes;
        why = tells p.store p.done p.next
            (put_due device old keys p.done x bytes p.doc (p.done ++ p.next ∷ p.rest) p.are_put p.next
            (in_back p.next p.done (p.next ∷ p.rest) (inl refl))) p.why;
      }

  -- why it isn't put
  pub put_cause : (e : DbError) → CannotPut device old x bytes e → CannotStore device old x bytes keys e
  put_cause (store.Down f) why = why
  put_cause store.StoreFull why = putting
      (λ (s : DbValue D) (rs : List Record) (r : Record). NeedsPageFor device bytes x s r.kind × IsStoreFull s)
      (λ (s : DbValue D) (rs : List Record) (r : Record).
      IsDue device old keys rs r.kind × NeedsPageAt device bytes x s r.kind × IsStoreFull s)
      (λ s rs r due met. (due, inl met.0, met.1)) why
  put_cause store.LogFull why = putting
      (λ (s : DbValue D) (rs : List Record) (r : Record). HasNoRoomFor s r)
      (λ (s : DbValue D) (rs : List Record) (r : Record). IsDue device old keys rs r.kind × HasNoRoomFor s r)
      (λ s rs r due met. (due, met)) why
  put_cause (store.BadPage p) why = putting
      (λ (s : DbValue D) (rs : List Record) (r : Record). IsBadPage s (λ (n : Name). ⊥) rs p)
      (λ (s : DbValue D) (rs : List Record) (r : Record). IsBadPage s (λ (n : Name). ⊥) rs p ⊎ IsBadList s p)
      (λ s rs r due met. inl met) why
  put_cause store.DiskFault why = tt
  put_cause store.OutOfMemory why = tt
  put_cause store.NoDocument why = absurd why
  put_cause (store.Conflict y) why = absurd why
  put_cause store.XidsSpent why = absurd why

  -- it is put
  module _ (mid : DbValue D) (name : Name) (lt : name.slot < most_slots) (puts : List Record)
      (are : ArePut bytes x (doc_of name) puts) (goes : Goes device old mid puts) (same : fault_of mid ≡ fault_of old)
    where
      pub stored_all : (new : DbValue D) → IsIndexedBy device mid new x (doc_of name) keys
          → (rs : List Record) × AreStored bytes keys x rs × AreDue device old keys rs × Goes device old new rs
      stored_all new indexed =
          let r = stored_due device old mid new x bytes (doc_of name) keys puts are goes indexed in
          (puts ++ r.0, stored_more (doc_of name) puts r.0 are r.1, r.2, r.3)

      pub stored_some : (new : DbValue D)
          → (done rest : List Record) × AreIndexing x (doc_of name) keys (done ++ rest) × Goes device mid new done
          → (done rest : List Record) × AreStored bytes keys x (done ++ rest) × Goes device old new done
      stored_some new r = (
        puts ++ r.0,
        r.1,
        subst (AreStored bytes keys x) (sym (append_assoc puts r.0 r.1))
            (stored_more (doc_of name) puts (r.0 ++ r.1) are r.2),
        goes_on device goes r.3,
      )

      indexed_at : (Met : DbValue D → Record → Type 0) (Why : DbValue D → List Record → Record → Type 0)
          → ((s : DbValue D) (rs : List Record) (r : Record) → Met s r → Why s (puts ++ rs) r)
          → Indexes device mid x (doc_of name) keys Met → Stores device old x bytes keys Why
      indexed_at Met Why tells p = record {
        store = p.store;
        done = puts ++ p.done;
        next = p.next;
        rest = p.rest;
        are_stored = subst (AreStored bytes keys x) (sym (append_assoc puts p.done (p.next ∷ p.rest)))
            (stored_more (doc_of name) puts (p.done ++ p.next ∷ p.rest) are p.are_rows);
        goes = goes_on device goes p.goes;
        why = tells p.store p.done p.next p.why;
      }

      -- the first of these records has placed it
      placed_by : (rs : List Record) → (r : Record) × In r (puts ++ rs) × IsPlaceOf x (doc_of name) r
      placed_by rs = by puts are
        where
          by : (qs : List Record) → ArePut bytes x (doc_of name) qs
              → (r : Record) × In r (qs ++ rs) × IsPlaceOf x (doc_of name) r
          by [] none = absurd none
          by (r ∷ qs) a = (r, inl refl, a.0)

      bad_now : (z : DbValue D) (rs : List Record) (p : ℕ) → IsBadPut z name p ⊎ IsBadList z p
          → IsBadPage z (λ (n : Name). ⊥) (puts ++ rs) p ⊎ IsBadList z p
      bad_now z rs p (inr list) = inr list
      bad_now z rs p (inl (inr new)) = inl (IsBadPage.new new.0 new.1 new.2)
      bad_now z rs p (inl (inl own)) =
          let r = placed_by rs in
          inl (IsBadPage.own name.slot
          (record {
            placing = r.0;
            there = r.1;
            item = (doc_of name).item;
            serial = (doc_of name).serial;
            kind_is = (r.2).kind_is;
            place = (page_is name lt ∙ sym own.0, slot_is name lt);
          }) own.1)

      -- it may come after those that put it
      due_then : (rs : List Record) (k : Kind) → IsDueFrom device mid keys k → IsDue device old keys (puts ++ rs) k
      due_then rs (kind.PutPending item serial) none =
          record { store = mid; first = puts; rest = rs; order = refl; goes = goes; no_room = none }
      due_then rs (kind.LinkPending item serial) none =
          record { store = mid; first = puts; rest = rs; order = refl; goes = goes; no_room = none }
      due_then rs _ none = tt

      pub index_cause : (e : DbError) → CannotIndex device mid x name keys e → CannotStore device old x bytes keys e
      index_cause (store.Down f) why = sym same ∙ why
      index_cause store.StoreFull why = indexed_at
          (λ (s : DbValue D) (r : Record).
          IsDueFrom device mid keys r.kind × NeedsRowPage device r.kind × IsStoreFull s)
          (λ (s : DbValue D) (rs : List Record) (r : Record).
          IsDue device old keys rs r.kind × NeedsPageAt device bytes x s r.kind × IsStoreFull s)
          (λ s rs r met. (due_then rs r.kind met.0, inr met.1, met.2)) why
      index_cause store.LogFull why = indexed_at
          (λ (s : DbValue D) (r : Record). IsDueFrom device mid keys r.kind × HasNoRoomFor s r)
          (λ (s : DbValue D) (rs : List Record) (r : Record). IsDue device old keys rs r.kind × HasNoRoomFor s r)
          (λ s rs r met. (due_then rs r.kind met.0, met.1)) why
      index_cause (store.BadPage p) why = indexed_at
          (λ (s : DbValue D) (r : Record). IsBadPut s name p ⊎ IsBadList s p)
          (λ (s : DbValue D) (rs : List Record) (r : Record). IsBadPage s (λ (n : Name). ⊥) rs p ⊎ IsBadList s p)
          (λ s rs r met. bad_now s rs p met) why
      index_cause store.DiskFault why = tt
      index_cause store.OutOfMemory why = tt
      index_cause store.NoDocument why = absurd why
      index_cause (store.Conflict y) why = absurd why
      index_cause store.XidsSpent why = absurd why
