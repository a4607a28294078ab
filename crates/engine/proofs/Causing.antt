-- Why the work of a statement is refused, as the statement tells it.
use Rattle.std.proofs.Common.{◌≡◌, ◌⊎◌, inl, inr, ℕ, List, [], ◌∷◌, ◌++◌, refl, sym, subst, ◌∙◌}
use Rattle.std.proofs.Common.{append_assoc}
use Rattle.std.specs.Prelude.{Option, Some, None}
use Rattle.std.specs.List.{All}
use Rattle.std.proofs.lemmas.List.Elements.{All-head}
use Rattle.disk_trait.specs.declared.device.Disk.{Ghosts as Disk}
use Rattle.ts_base.specs.Vectors.{Vector}
use Rattle.ts_base.specs.Encoding.{vector_bytes}
use Rattle.ts_base.specs.Keys.{keys_of}
use Rattle.page_types.specs.declared.record.Record.{Record}
use Rattle.page_types.specs.declared.record.Kind.{Kind}
use Rattle.page_types.specs.declared.record.Kind.TheVariants as kind
use Rattle.core_state.proofs.PageLists.{in_back}
use Rattle.engine.specs.Finding.{Name}
use Rattle.engine.specs.Work.{Work, deleted_by, keys_by, IsBeginOf, AreMarks, ArePlaces, IsNext, IsBegunWork}
use Rattle.engine.specs.Going.{Goes, MetFault, MetNoFault}
use Rattle.engine.specs.Causes.{IsListed, AreXidsSpent, SoFar, ShowsHead, IsInConflict, MayBeDeleted, AreThere}
use Rattle.engine.specs.Causes.{IsBadPage, IsBadList, IsDue}
use Rattle.engine.specs.Causes.{NeedsPage, IsStoreFull, HasNoRoomFor}
use Rattle.engine.specs.Answers.{MayStart, Refuses, IsRefused, HasRefused}
use Rattle.engine.specs.Db.{DbValue, fault_of, state_of, flushed_of, IsUp}
use Rattle.engine.specs.Inner.Parts.{NeedsPageFor, CannotBegin, CannotMark}
use Rattle.engine.specs.Inner.Indexing.{Stores, NeedsRowPage, NeedsPageAt, CannotStore}
use Rattle.engine.specs.Inner.Doing.{MayMark, IsNotDone}
use Rattle.engine.specs.declared.transaction.Transaction.{Transaction}
use Rattle.engine.specs.declared.error.DbError.{DbError}
use Rattle.engine.specs.declared.error.DbError.TheVariants.{NoDocument, Conflict, StoreFull, LogFull, XidsSpent, Down}
use Rattle.engine.specs.declared.error.DbError.TheVariants.{DiskFault, BadPage, OutOfMemory}
use Rattle.engine.proofs.Due.{due_more}
use Rattle.engine.proofs.Paths.{goes_on}
use Rattle.engine.proofs.Works.{IsNamed, listed_named, begun_only, begun_marked, begun_placing}

-- a statement of this work has begun: its transaction runs, and its Begin is logged
pub record HasBegun {D : Type 0} (device : Disk D) (old s : DbValue D) (t : Transaction) (w : Work) : Type 0 where
  pub up : IsUp old
  pub listed : All (IsListed old) (deleted_by w.deletes)
  pub xids : AreXidsSpent old → ⊥
  pub snapshot : t.snapshot ≡ flushed_of old
  pub first : Record
  pub is_begin : IsBeginOf t.xid first
  pub goes : Goes device old s (first ∷ [])
  pub met : MetNoFault device old s

-- a page that is bad for a part of the work is so for all of it
bad_more : {D : Type 0} (u : DbValue D) (Reads : Name → Type 0) (front done : List Record) (p : ℕ)
    → IsBadPage u (λ (n : Name). ⊥) done p → IsBadPage u Reads (front ++ done) p
bad_more u Reads front done p (IsBadPage.heap (inl i) none) = IsBadPage.heap (inl i) none
bad_more u Reads front done p (IsBadPage.heap (inr n) none) = absurd n.1
bad_more u Reads front done p (IsBadPage.new since sought none) = IsBadPage.new since sought none
bad_more u Reads front done p (IsBadPage.own slot was none) = IsBadPage.own slot (record {
  placing = was.placing;
  there = in_back was.placing front done was.there;
  item = was.item;
  serial = was.serial;
  kind_is = was.kind_is;
  place = was.place;
}) none

needs_put : {D : Type 0} (device : Disk D) (s : DbValue D) (v : Vector) (x : ℕ) (k : Kind)
    → NeedsPageFor device (vector_bytes v) x s k → NeedsPage s v x k
needs_put device s v x (kind.PlaceHead item serial) n = n
needs_put device s v x (kind.PutOverflow item serial) n = n
needs_put device s v x _ n = absurd n

needs_rows : {D : Type 0} (device : Disk D) (s : DbValue D) (v : Vector) (x : ℕ) (k : Kind)
    → NeedsRowPage device k → NeedsPage s v x k
needs_rows device s v x (kind.PutPending item serial) n = n
needs_rows device s v x _ n = absurd n

needs_page : {D : Type 0} (device : Disk D) (s : DbValue D) (v : Vector) (x : ℕ) (k : Kind)
    → NeedsPageAt device (vector_bytes v) x s k → NeedsPage s v x k
needs_page device s v x k (inl n) = needs_put device s v x k n
needs_page device s v x k (inr n) = needs_rows device s v x k n

-- a page that is bad for a part of the work, or one of the pending list, is so for all of it
bad_in_work : {D : Type 0} (u : DbValue D) (Reads : Name → Type 0) (front done : List Record) (p : ℕ)
    → IsBadPage u (λ (n : Name). ⊥) done p ⊎ IsBadList u p → IsBadPage u Reads (front ++ done) p ⊎ IsBadList u p
bad_in_work u Reads front done p (inl bad) = inl (bad_more u Reads front done p bad)
bad_in_work u Reads front done p (inr bad) = inr bad

not_down : (o : Option ℕ) (f : ℕ) → o ≡ None → o ≡ Some f → ⊥
not_down o f none some = let e : None ≡ Some f = sym none ∙ some in cc

some_one : (n m : Name) → Some n ≡ Some m → n ≡ m
some_one n m e = cc

module _ {D : Type 0} (device : Disk D) (old new : DbValue D) (w : Work) where
  -- a refusal that leaves no doubt
  pub refuse_with : (e : DbError) → Refuses device old new w e → IsRefused device old new w e
      → HasRefused device old new w e
  refuse_with (Down f) why is = (why, is)
  refuse_with NoDocument why is = (why, is)
  refuse_with XidsSpent why is = (why, is)
  refuse_with (Conflict y) why is = (why, is)
  refuse_with StoreFull why is = (why, is)
  refuse_with LogFull why is = (why, is)
  refuse_with DiskFault why is = (why, inl is)
  refuse_with (BadPage p) why is = (why, is)
  refuse_with OutOfMemory why is = (why, is)

  -- the work isn't begun
  pub refuses_begin : (e : DbError) → (e ≡ DiskFault → MetFault device old new)
      → CannotBegin device old new w.deletes e → Refuses device old new w e
  refuses_begin (Down f) met why = why
  refuses_begin NoDocument met why = (why.0, (why.1.0, why.1.1, inl why.1.2))
  refuses_begin XidsSpent met why = why
  refuses_begin LogFull met why = (
    record { up = why.0; listed = why.1; xids = why.2 },
    inl (why.3.0, why.3.2.0, why.3.2.1, why.3.1, IsNext.begins why.3.2.1 why.3.2.2, why.3.2.3),
  )
  refuses_begin DiskFault met why = met refl
  refuses_begin OutOfMemory met why = why
  refuses_begin (Conflict y) met why = absurd why
  refuses_begin StoreFull met why = absurd why
  refuses_begin (BadPage p) met why = absurd why

  -- it is begun
  module _ (s : DbValue D) (t : Transaction) (B : HasBegun device old s t w) where
    pub may_start : MayStart device old new w
    may_start = record { up = B.up; listed = B.listed; xids = B.xids }

    listed_one : (n : Name) → w.deletes ≡ Some n → IsListed old n
    listed_one n is =
        All-head (IsListed old) n []
        (subst (λ (o : Option Name). All (IsListed old) (deleted_by o)) is B.listed)

    pub named_one : (n : Name) → w.deletes ≡ Some n → IsNamed n
    named_one n is = listed_named (state_of old) (flushed_of old) n (listed_one n is)

    -- what is met once it is begun
    at_begin : (Why : DbValue D → ℕ → List Record → Type 0) (u : DbValue D) → Goes device s u []
        → Why u t.xid (B.first ∷ []) → SoFar device old w Why
    at_begin Why u q why = record {
      store = u;
      xid = t.xid;
      records = B.first ∷ [];
      goes = goes_on device B.goes q;
      begun = begun_only w t.xid B.first B.is_begin named_one;
      why = why;
    }

    pub there_of : MayMark device s t w.deletes → AreThere device old w
    there_of may n is =
        let l = may n is in (
          listed_one n is,
          at_begin (λ (u : DbValue D) (x : ℕ) (rs : List Record). MayBeDeleted u (flushed_of old) x n) l.0 l.1
              (subst (λ (k : ℕ). MayBeDeleted l.0 k t.xid n) B.snapshot l.2),
        )

    -- the document isn't marked
    refuses_mark : (n : Name) (e : DbError) → w.deletes ≡ Some n → IsUp s → (e ≡ DiskFault → MetFault device old new)
        → CannotMark device s t.snapshot t.xid n e → Refuses device old new w e
    refuses_mark n (Down f) is up met why = absurd (not_down (fault_of s) f up why)
    refuses_mark n NoDocument is up met why = (
      B.up,
      (
        n,
        is,
        inr
            (at_begin (λ (u : DbValue D) (x : ℕ) (rs : List Record). ShowsHead u (flushed_of old) n → ⊥) why.0 why.1
            (λ h. why.2 (subst (λ (k : ℕ). ShowsHead why.0 k n) (sym B.snapshot) h))),
      ),
    )
    refuses_mark n (Conflict y) is up met why = (
      may_start,
      (
        n,
        is,
        (
          listed_one n is,
          at_begin (λ (u : DbValue D) (x : ℕ) (rs : List Record). IsInConflict u (flushed_of old) x n y) why.0 why.1
              (subst (λ (k : ℕ). IsInConflict why.0 k t.xid n y) B.snapshot why.2),
        ),
      ),
    )
    refuses_mark n LogFull is up met why =
        let r : Record = why.2.1.2.0 in
        let marks : AreMarks w.deletes t.xid (r ∷ []) =
        subst (λ (o : Option Name). AreMarks o t.xid (r ∷ [])) (sym is) (why.2.1.2.1, refl) in
        let may : MayMark device s t w.deletes = λ m is'.
        let same : n ≡ m = some_one n m (sym is ∙ is') in
        (why.0, why.1, subst (λ (z : Name). MayBeDeleted why.0 t.snapshot t.xid z) same why.2.0) in (
          may_start,
          inr (
            there_of may,
            at_begin (λ (u : DbValue D) (x : ℕ) (rs : List Record). (q : Record) × IsNext w x rs q
                × IsDue device old (keys_by w.inserts) rs q.kind × HasNoRoomFor u q)
                why.2.1.0 (goes_on device why.1 why.2.1.1) (
                  r,
                  IsNext.works (B.first ∷ []) r
                      (begun_marked w t.xid B.first B.is_begin (r ∷ []) marks),
                  subst (IsDue device old (keys_by w.inserts) (B.first ∷ [])) (sym (why.2.1.2.1).kind_is) tt,
                  why.2.1.2.2,
                ),
          ),
        )
    refuses_mark n (BadPage p) is up met why = (
      B.up,
      at_begin (λ (u : DbValue D) (x : ℕ) (rs : List Record). IsBadPage u (IsListed old) rs p ⊎ IsBadList u p)
          why.1.0 why.1.1 (inl (IsBadPage.heap (inr (n, listed_one n is, sym why.0)) why.1.2)),
    )
    refuses_mark n DiskFault is up met why = met refl
    refuses_mark n OutOfMemory is up met why = B.up
    refuses_mark n XidsSpent is up met why = absurd why
    refuses_mark n StoreFull is up met why = absurd why

    -- it is marked, if there is one, and the other isn't put
    module _ (v : Vector) (mid : DbValue D) (marks : List Record) (ins : w.inserts ≡ Some v)
        (are : AreMarks w.deletes t.xid marks) (q : Goes device s mid marks) where
      at_put : (Why : DbValue D → ℕ → List Record → Type 0) (Met : DbValue D → List Record → Record → Type 0)
          → ((u : DbValue D) (done : List Record) (r : Record) → IsNext w t.xid (B.first ∷ (marks ++ done)) r
          → Met u done r → Why u t.xid (B.first ∷ (marks ++ done)))
          → Stores device mid t.xid (vector_bytes v) (keys_of v) Met → SoFar device old w Why
      at_put Why Met tells p =
          let put : ArePlaces w.inserts t.xid (p.done ++ p.next ∷ p.rest) =
          subst (λ (o : Option Vector). ArePlaces o t.xid (p.done ++ p.next ∷ p.rest)) (sym ins) p.are_stored in
          let more : ArePlaces w.inserts t.xid ((p.done ++ p.next ∷ []) ++ p.rest) =
          subst (ArePlaces w.inserts t.xid) (sym (append_assoc p.done (p.next ∷ []) p.rest)) put in
          let next : IsBegunWork w t.xid (B.first ∷ ((marks ++ p.done) ++ p.next ∷ [])) =
          subst (λ (l : List Record). IsBegunWork w t.xid (B.first ∷ l))
          (sym (append_assoc marks p.done (p.next ∷ [])))
          (begun_placing w t.xid B.first B.is_begin marks (p.done ++ p.next ∷ []) p.rest are more) in
          record {
            store = p.store;
            xid = t.xid;
            records = B.first ∷ (marks ++ p.done);
            goes = goes_on device (goes_on device B.goes q) p.goes;
            begun = begun_placing w t.xid B.first B.is_begin marks p.done (p.next ∷ p.rest) are put;
            why = tells p.store p.done p.next (IsNext.works (B.first ∷ (marks ++ p.done)) p.next next) p.why;
          }

      -- what may come after the marks may come after all of these
      due : (done : List Record) (k : Kind) → IsDue device mid (keys_of v) done k
          → IsDue device old (keys_by w.inserts) (B.first ∷ (marks ++ done)) k
      due done k is =
          subst (λ (o : Option Vector). IsDue device old (keys_by o) (B.first ∷ (marks ++ done)) k) (sym ins)
          (due_more device old mid (keys_of v) (B.first ∷ marks) done (goes_on device B.goes q) k is)

      refuses_put : (e : DbError) → IsUp mid → MayMark device s t w.deletes → (e ≡ DiskFault → MetFault device old new)
          → CannotStore device mid t.xid (vector_bytes v) (keys_of v) e → Refuses device old new w e
      refuses_put (Down f) up may met why = absurd (not_down (fault_of mid) f up why)
      refuses_put StoreFull up may met why = (
        may_start,
        there_of may,
        at_put (λ (u : DbValue D) (x : ℕ) (rs : List Record). (r : Record) × (z : Vector) × IsNext w x rs r
            × IsDue device old (keys_by w.inserts) rs r.kind × (w.inserts ≡ Some z) × NeedsPage u z x r.kind
            × IsStoreFull u)
            (λ (u : DbValue D) (done : List Record) (r : Record). IsDue device mid (keys_of v) done r.kind
            × NeedsPageAt device (vector_bytes v) t.xid u r.kind × IsStoreFull u)
            (λ u done r next met.
            (r, v, next, due done r.kind met.0, ins, needs_page device u v t.xid r.kind met.1, met.2)) why,
      )
      refuses_put LogFull up may met why = (
        may_start,
        inr (
          there_of may,
          at_put (λ (u : DbValue D) (x : ℕ) (rs : List Record). (r : Record) × IsNext w x rs r
              × IsDue device old (keys_by w.inserts) rs r.kind × HasNoRoomFor u r)
              (λ (u : DbValue D) (done : List Record) (r : Record).
              IsDue device mid (keys_of v) done r.kind × HasNoRoomFor u r)
              (λ u done r next met. (r, next, due done r.kind met.0, met.1)) why,
        ),
      )
      refuses_put (BadPage p) up may met why = (
        B.up,
        at_put (λ (u : DbValue D) (x : ℕ) (rs : List Record). IsBadPage u (IsListed old) rs p ⊎ IsBadList u p)
            (λ (u : DbValue D) (done : List Record) (r : Record).
            IsBadPage u (λ (n : Name). ⊥) done p ⊎ IsBadList u p)
            (λ u done r next met. bad_in_work u (IsListed old) (B.first ∷ marks) done p met) why,
      )
      refuses_put DiskFault up may met why = met refl
      refuses_put OutOfMemory up may met why = B.up
      refuses_put NoDocument up may met why = absurd why
      refuses_put XidsSpent up may met why = absurd why
      refuses_put (Conflict y) up may met why = absurd why

    -- the work isn't done
    pub refuses_not_done : (e : DbError) → IsUp s → (e ≡ DiskFault → MetFault device old new)
        → IsNotDone device s t w e → Refuses device old new w e
    refuses_not_done e up met IsNotDone.bytes = B.up
    refuses_not_done e up met (IsNotDone.mark n is why) = refuses_mark n e is up met why
    refuses_not_done e up met (IsNotDone.put v mid marks ins are q none may why) =
        refuses_put v mid marks ins are q e (none.down ∙ up) may met why
