-- A document is put: its head is placed, then its parts are put from the last to the first.
use Rattle.std.proofs.Common.{◌≡◌, ◌⊎◌, ◌<◌, ◌≤◌, ◌+◌, ◌-◌, ◌*◌, ◌^◌, ℕ, suc, List, [], ◌∷◌, ◌++◌, length, take, drop}
use Rattle.std.proofs.Common.{refl, sym, ap, subst, ◌∙◌, inl, inr, arith, length-drop, drop-drop}
use Rattle.std.specs.Prelude.{◌/◌, min, Bool, true, false, nat_le, if◌then◌else◌, All, sum_by}
use Rattle.std.proofs.lemmas.Bool.{le-leb, lt-leb}
use Rattle.std.proofs.lemmas.Bool.Decides.{leb_tells}
use Rattle.std.proofs.lemmas.List.{length-take, take-append-drop, drop_all}
use Rattle.std.proofs.lemmas.List.Sums.{sum_by-cons}
use Rattle.disk_trait.specs.declared.device.Disk.{Ghosts as Disk}
use Rattle.ts_base.specs.Vectors.{Vector, Entry, IsEntry, content_size}
use Rattle.ts_base.specs.Encoding.{IsEncoding, entry_size}
use Rattle.ts_base.proofs.Encoding.{encoding_has_size}
use Rattle.page_types.specs.Numbers.{most_short, most_body, most_slots, page_limit}
use Rattle.page_types.specs.declared.page.Name.{Name}
use Rattle.page_types.specs.declared.record.Record.{Record}
use Rattle.page_types.specs.declared.record.Kind.{Kind}
use Rattle.core_state.specs.Log.{In}
use Rattle.core_state.specs.Documents.{Doc, doc_at}
use Rattle.core_state.specs.History.{Commit}
use Rattle.core_state.specs.States.{heap_pages}
use Rattle.buffer_frames.specs.declared.pass.Pass.{Pass}
use Rattle.engine.specs.Answers.{MeetsNoBadPage}
use Rattle.engine.specs.Db.{DbValue, state_of}
use Rattle.engine.specs.Causes.{IsStoreFull, HasNoRoomFor, IsHeap, IsNone, HasHeadIn, IsBadPage}
use Rattle.engine.specs.Going.{Goes, MetNoFault}
use Rattle.engine.specs.Work.{IsPlaceOf, IsPartOf, AreParts, ArePut, parts_for}
use Rattle.engine.specs.Inner.Parts.{IsRunning, KeepsWork, HasChanged, HasPlaced, HasRows, Puts, NeedsPageFor}
use Rattle.engine.specs.Inner.Parts.{CannotPut}
use Rattle.engine.specs.Inner.Changing.{doc_of, IsNextPart, IsNoNewPage, CannotPlace, CannotPutNew}
use Rattle.engine.specs.declared.transaction.Transaction.{Transaction}
use Rattle.engine.specs.declared.error.DbError.{DbError}
use Rattle.engine.specs.declared.error.DbError.TheVariants as store
use Rattle.engine.proofs.Carrying.{keeps_on}
use Rattle.engine.proofs.LawfulBefore.{no_bad_before}
use Rattle.engine.proofs.Logs.{NotCommit, AreNoCommits}
use Rattle.engine.proofs.Marking.{page_is, slot_is}
use Rattle.engine.proofs.Paths.{goes_on, goes_still, none_in_turn}
use Rattle.engine.proofs.Puts.{some_place, some_part, some_parts, some_put, parts_more, put_so_far, AllThere, put_done}
use Rattle.engine.proofs.Works.{parts_plain}

-- ── how many bytes an encoding has ──

sizes : (v : Vector) → All IsEntry v → sum_by entry_size v ≤ 5 * content_size v
sizes [] all = omega arith
sizes (e ∷ v) all =
    let here : IsEntry e = all 0 e (omega arith) in
    let few : 1 ≤ length e.lexeme = (here.lexeme).some in
    omega (
      arith,
      few,
      sizes v (λ k d lt. all (suc k) d (omega (arith, lt))),
      sum_by-cons entry_size e v,
      sum_by-cons (λ (d : Entry). length d.lexeme + 2 * length d.positions) e v,
    )

pub encoding_small : (bytes : List ℕ) (v : Vector) → IsEncoding bytes v → length bytes < 2 ^ 32
encoding_small bytes v is =
    omega (arith, ap length is.bytes_of, encoding_has_size v, sizes v (is.normal).entries, is.small)

-- ── on how many pages they are ──

parts_short : (n : ℕ) → n ≤ most_short → parts_for n ≡ 0
parts_short n le = ap (λ (b : Bool). if b then 0 else (n + most_body - 1) / most_body) (le-leb n most_short le)

parts_long : (n : ℕ) → most_short < n → parts_for n ≡ (n + most_body - 1) / most_body
parts_long n lt = ap (λ (b : Bool). if b then 0 else (n + most_body - 1) / most_body) (lt-leb n most_short lt)

covers : (n q : ℕ) → q ≡ (n + most_body - 1) / most_body → n ≤ q * most_body
covers n q is = omega arith

within : (n q k : ℕ) → q ≡ (n + most_body - 1) / most_body → k < q → k * most_body < n
within n q k is lt = omega arith

abbrev Tells : ℕ → ℕ → Type 0
Tells a b = ((nat_le a b ≡ true) × (a ≤ b)) ⊎ ((nat_le a b ≡ false) × (b < a))

before_in : (n k : ℕ) → Tells n most_short → k < parts_for n → (most_short < n) × (k * most_body < n)
before_in n k (inl t) lt = absurd (omega (arith, lt, parts_short n t.1))
before_in n k (inr t) lt = (t.1, within n (parts_for n) k (parts_long n t.1) lt)

-- what is before a part is not all
part_before : (n k : ℕ) → k < parts_for n → (most_short < n) × (k * most_body < n)
part_before n k lt = before_in n k (leb_tells n most_short) lt

-- ── the next part ──

module _ (bytes behind : List ℕ) (k : ℕ) (lt : k < parts_for (length bytes))
    (is : behind ≡ drop ((k + 1) * most_body) bytes) where
  joined : take most_body (drop (k * most_body) bytes) ++ behind ≡ drop (k * most_body) bytes
  joined =
      let rest : List ℕ = drop (k * most_body) bytes in
      let more : k * most_body + most_body ≡ (k + 1) * most_body = omega arith in
      let further : drop most_body rest ≡ behind =
      drop-drop most_body (k * most_body) bytes ∙ ap (λ (n : ℕ). drop n bytes) more ∙ sym is in
      ap (λ (l : List ℕ). take most_body rest ++ l) (sym further) ∙ take-append-drop most_body rest

  part_length : length (take most_body (drop (k * most_body) bytes)) ≡ min most_body (length bytes - k * most_body)
  part_length =
      length-take most_body (drop (k * most_body) bytes)
      ∙ ap (λ (n : ℕ). min most_body n) (length-drop (k * most_body) bytes)

  full_in : Tells (length bytes) ((k + 1) * most_body) → (behind ≡ [] → ⊥)
      → length (take most_body (drop (k * most_body) bytes)) ≡ most_body
  full_in (inl t) some = absurd (some (is ∙ drop_all ((k + 1) * most_body) bytes t.1))
  full_in (inr t) some = omega (arith, t.1, part_length)

  next_part : IsNextPart bytes behind (take most_body (drop (k * most_body) bytes))
  next_part =
      let b = part_before (length bytes) k lt in
      record {
        front = take (k * most_body) bytes;
        order = sym (take-append-drop (k * most_body) bytes)
            ∙ ap (λ (l : List ℕ). take (k * most_body) bytes ++ l) (sym joined);
        long = b.0;
        some = λ none. let z : ⊥ = omega (arith, b.1, part_length, ap length none) in z;
        full = full_in (leb_tells (length bytes) ((k + 1) * most_body));
      }

-- ── some of the parts are put ──

all_in : (bytes behind : List ℕ) → (most_short < length bytes → behind ≡ bytes) → Tells (length bytes) most_short
    → AllThere bytes behind
all_in bytes behind all (inl t) = AllThere.short t.1
all_in bytes behind all (inr t) = AllThere.long t.1 (all t.1)

module _ {D : Type 0} (device : Disk D) where
  -- the head was placed, and so many parts were put
  pub record PutsSoFar (old : DbValue D) (pass : Pass) (t : Transaction) (bytes : List ℕ) (name : Name) (done : ℕ)
      (new : DbValue D) (pass' : Pass) : Type 0 where
    pub running : IsRunning device new pass' t
    pub keeps : KeepsWork pass pass'
    pub met : MetNoFault device old new
    pub low : name.page < page_limit
    pub slot : name.slot < most_slots
    pub place : Record
    pub is_place : IsPlaceOf t.xid (doc_of name) place
    pub puts : List Record
    pub are_parts : AreParts (doc_of name) t.xid done puts
    pub goes : Goes device old new (place ∷ puts)
    pub behind : List ℕ
    pub is_behind : most_short < length bytes → behind ≡ drop ((parts_for (length bytes) - done) * most_body) bytes
    pub placed : (c : Commit) → c.inserted ≡ [] → HasChanged device old pass t.xid c
        → HasPlaced device new pass' t.xid (doc_of name) bytes behind c.deleted

  -- none is put yet
  pub puts_begin : (old new : DbValue D) (pass pass' : Pass) (t : Transaction) (bytes : List ℕ) (name : Name)
      → IsRunning device new pass' t → KeepsWork pass pass' → MetNoFault device old new
      → (name.page < page_limit) × (name.slot < most_slots)
      → (r : Record) × IsPlaceOf t.xid (doc_of name) r × Goes device old new (r ∷ [])
      → ((c : Commit) → c.inserted ≡ [] → HasChanged device old pass t.xid c
      → HasPlaced device new pass' t.xid (doc_of name) bytes [] c.deleted)
      → PutsSoFar old pass t bytes name 0 new pass'
  puts_begin old new pass pass' t bytes name running keeps met at goes placed = record {
    running = running;
    keeps = keeps;
    met = met;
    low = at.0;
    slot = at.1;
    place = goes.0;
    is_place = goes.1;
    puts = [];
    are_parts = refl;
    goes = goes.2;
    behind = [];
    is_behind = λ long.
        let n = parts_for (length bytes) in
        let c : length bytes ≤ n * most_body = covers (length bytes) n (parts_long (length bytes) long) in
        sym (drop_all ((n - 0) * most_body) bytes (omega (arith, c)));
    placed = placed;
  }

  module _ (old mid : DbValue D) (pass q : Pass) (t : Transaction) (bytes : List ℕ) (name : Name) (done : ℕ)
      (s : PutsSoFar old pass t bytes name done mid q) where
    -- ── one more ──

    next_here : (part : List ℕ) → done < parts_for (length bytes)
        → part ≡ take most_body (drop ((parts_for (length bytes) - 1 - done) * most_body) bytes)
        → IsNextPart bytes s.behind part
    next_here part lt is =
        let n = parts_for (length bytes) in
        let k = n - 1 - done in
        let below : k < n = omega (arith, lt) in
        let same : n - done ≡ k + 1 = omega (arith, lt) in
        subst (IsNextPart bytes s.behind) (sym is)
        (next_part bytes s.behind k below
        (s.is_behind (part_before (length bytes) k below).0
        ∙ ap (λ (m : ℕ). drop (m * most_body) bytes) same))

    pub part_starts : done < parts_for (length bytes)
        → (parts_for (length bytes) - 1 - done) * most_body < length bytes
    part_starts lt =
        let n = parts_for (length bytes) in
        let below : n - 1 - done < n = omega (arith, lt) in
        (part_before (length bytes) (n - 1 - done) below).1

    pub part_fits : (part : List ℕ)
        → part ≡ take most_body (drop ((parts_for (length bytes) - 1 - done) * most_body) bytes)
        → length part ≤ most_body
    part_fits part is =
        let rest : List ℕ = drop ((parts_for (length bytes) - 1 - done) * most_body) bytes in
        omega (arith, ap length is, length-take most_body rest)

    pub next_is : (part : List ℕ) → done < parts_for (length bytes)
        → part ≡ take most_body (drop ((parts_for (length bytes) - 1 - done) * most_body) bytes)
        → (c : Commit) × (c.inserted ≡ []) × HasChanged device old pass t.xid c
        → (whole behind : List ℕ) × (names : List Name)
        × IsNextPart whole behind part × HasPlaced device mid q t.xid (doc_of name) whole behind names
    next_is part lt is had =
        (bytes, s.behind, had.0.deleted, next_here part lt is, s.placed had.0 had.1 had.2)

    pub puts_more : (part : List ℕ) (new : DbValue D) (r : Pass) → done < parts_for (length bytes)
        → part ≡ take most_body (drop ((parts_for (length bytes) - 1 - done) * most_body) bytes)
        → IsRunning device new r t → KeepsWork q r → MetNoFault device mid new
        → (p : Record) × IsPartOf t.xid (doc_of name) p × Goes device mid new (p ∷ [])
        → ((whole behind : List ℕ) (names : List Name) → IsNextPart whole behind part
        → HasPlaced device mid q t.xid (doc_of name) whole behind names
        → HasPlaced device new r t.xid (doc_of name) whole (part ++ behind) names)
        → PutsSoFar old pass t bytes name (done + 1) new r
    puts_more part new r lt is running keeps met goes put = record {
      running = running;
      keeps = keeps_on pass q r s.keeps keeps;
      met = none_in_turn device s.met met;
      low = s.low;
      slot = s.slot;
      place = s.place;
      is_place = s.is_place;
      puts = s.puts ++ goes.0 ∷ [];
      are_parts = parts_more (doc_of name) t.xid done 1 s.puts (goes.0 ∷ []) s.are_parts
          (goes.1, (0, omega arith, refl));
      goes = goes_on device s.goes goes.2;
      behind = part ++ s.behind;
      is_behind = λ long.
          let n = parts_for (length bytes) in
          let k = n - 1 - done in
          let below : k < n = omega (arith, lt) in
          let same : n - done ≡ k + 1 = omega (arith, lt) in
          let left : k ≡ n - (done + 1) = omega (arith, lt) in
          let was = s.is_behind long ∙ ap (λ (m : ℕ). drop (m * most_body) bytes) same in
          ap (λ (l : List ℕ). l ++ s.behind) is ∙ joined bytes s.behind k below was
          ∙ ap (λ (m : ℕ). drop (m * most_body) bytes) left;
      placed = λ c none had. put bytes s.behind c.deleted (next_here part lt is) (s.placed c none had);
    }

    -- ── all are put ──

    pub puts_all : done ≡ parts_for (length bytes)
        → (rs : List Record) × ArePut bytes t.xid (doc_of name) rs × Goes device old mid rs
    puts_all all = (
      s.place ∷ s.puts,
      (s.is_place, subst (λ (n : ℕ). AreParts (doc_of name) t.xid n s.puts) all s.are_parts),
      s.goes,
    )

    pub puts_it : done ≡ parts_for (length bytes) → (v : Vector) (c : Commit) → IsEncoding bytes v → c.inserted ≡ []
        → HasChanged device old pass t.xid c → HasRows device mid q t.xid (doc_of name) v [] 0 c.deleted
    puts_it all v c is none had =
        let none_left : parts_for (length bytes) - done ≡ 0 = omega (arith, all) in
        put_done device mid q t.xid (doc_of name) bytes s.behind v c.deleted
        (all_in bytes s.behind
        (λ long. s.is_behind long ∙ ap (λ (m : ℕ). drop (m * most_body) bytes) none_left)
        (leb_tells (length bytes) most_short))
        is (s.placed c none had)

    -- ── one is refused ──

    pub puts_some : (new : DbValue D) → done < parts_for (length bytes) → Goes device mid new []
        → (d : Doc) × (logged rest : List Record) × ArePut bytes t.xid d (logged ++ rest) × Goes device old new logged
    puts_some new lt goes =
        let n = parts_for (length bytes) in
        let rest = some_parts t.xid (doc_of name) (n - done) in
        let sum : done + (n - done) ≡ n = omega (arith, lt) in (
          doc_of name,
          s.place ∷ s.puts,
          rest.0,
          put_so_far t.xid bytes (doc_of name) done (n - done) s.place s.puts rest.0 sum s.is_place s.are_parts rest.1,
          goes_still device s.goes goes,
        )

    -- this would have been the next record
    stopped : (Why : DbValue D → List Record → Record → Type 0) (z : DbValue D) (r : Record)
        → done < parts_for (length bytes) → IsPartOf t.xid (doc_of name) r → Goes device mid z []
        → Why z (s.place ∷ s.puts) r → Puts device old t.xid bytes Why
    stopped Why z r lt is goes why =
        let n = parts_for (length bytes) in
        let m = n - 1 - done in
        let rest = some_parts t.xid (doc_of name) m in
        let sum : done + (m + 1) ≡ n = omega (arith, lt) in
        record {
          store = z;
          doc = doc_of name;
          done = s.place ∷ s.puts;
          next = r;
          rest = rest.0;
          are_put = put_so_far t.xid bytes (doc_of name) done (m + 1) s.place s.puts (r ∷ rest.0) sum s.is_place
              s.are_parts (is, (m, refl, rest.1));
          goes = goes_still device s.goes goes;
          why = why;
        }

    own_bad : (z : DbValue D) (p : ℕ) → p ≡ name.page → IsNone z (HasHeadIn z name.slot) p
        → IsBadPage z (λ (n : Name). ⊥) (s.place ∷ s.puts) p
    own_bad z p same none = IsBadPage.own name.slot
        (record {
          placing = s.place;
          there = inl refl;
          item = (doc_of name).item;
          serial = (doc_of name).serial;
          kind_is = (s.is_place).kind_is;
          place = (page_is name s.slot ∙ sym same, slot_is name s.slot);
        }) none

    bad_part : (z : DbValue D) (p : ℕ) → ((p ≡ name.page) × IsNone z (HasHeadIn z name.slot) p) ⊎ IsNoNewPage z p
        → IsBadPage z (λ (n : Name). ⊥) (s.place ∷ s.puts) p
    bad_part z p (inl own) = own_bad z p own.0 own.1
    bad_part z p (inr new) = IsBadPage.new new.0 new.1 new.2

    pub part_cause : (e : DbError) → done < parts_for (length bytes)
        → CannotPutNew device (IsPartOf t.xid (doc_of name)) mid name e
        → CannotPut device old t.xid bytes e
    part_cause (store.Down f) lt why = sym (s.met).down ∙ why
    part_cause store.StoreFull lt why =
        let r = some_part t.xid (doc_of name) in
        stopped
        (λ (z : DbValue D) (rs : List Record) (n : Record). NeedsPageFor device bytes t.xid z n.kind × IsStoreFull z)
        why.0 r.0 lt r.1 why.1
        (subst (λ (k : Kind). NeedsPageFor device bytes t.xid why.0 k) (sym (r.1).kind_is) tt, why.2)
    part_cause store.LogFull lt why =
        stopped (λ (z : DbValue D) (rs : List Record) (n : Record). HasNoRoomFor z n)
        why.0 why.2.0 lt why.2.1 why.1 why.2.2
    part_cause (store.BadPage p) lt why =
        let r = some_part t.xid (doc_of name) in
        stopped (λ (z : DbValue D) (rs : List Record) (n : Record). IsBadPage z (λ (m : Name). ⊥) rs p)
        why.0 r.0 lt r.1 why.1 (bad_part why.0 p why.2)
    part_cause store.DiskFault lt why = tt
    part_cause store.OutOfMemory lt why = tt
    part_cause store.NoDocument lt why = why
    part_cause (store.Conflict x) lt why = why
    part_cause store.XidsSpent lt why = why

    -- none of the records is a Commit
    puts_plain : AreNoCommits (s.place ∷ s.puts)
    puts_plain = (
      subst NotCommit (sym (s.is_place).kind_is) tt,
      parts_plain t.xid (doc_of name) done s.puts s.are_parts,
    )

    pub part_lawful : (e : DbError) → MeetsNoBadPage device mid e → MeetsNoBadPage device old e
    part_lawful = no_bad_before device old mid s.goes puts_plain s.met

  -- ── the head is refused ──

  pub puts_none : (old new : DbValue D) (x : ℕ) (bytes : List ℕ) → Goes device old new []
      → (d : Doc) × (logged rest : List Record) × ArePut bytes x d (logged ++ rest) × Goes device old new logged
  puts_none old new x bytes goes =
      let d : Doc = doc_at 0 0 in
      let rest = some_put x bytes d in
      (d, [], rest.0, rest.1, goes)

  unplaced : (old : DbValue D) (x : ℕ) (bytes : List ℕ) (Why : DbValue D → List Record → Record → Type 0)
      (z : DbValue D) (d : Doc) (r : Record) → IsPlaceOf x d r → Goes device old z [] → Why z [] r
      → Puts device old x bytes Why
  unplaced old x bytes Why z d r is goes why =
      let rest = some_parts x d (parts_for (length bytes)) in
      record {
        store = z;
        doc = d;
        done = [];
        next = r;
        rest = rest.0;
        are_put = (is, rest.1);
        goes = goes;
        why = why;
      }

  bad_place : (z : DbValue D) (p : ℕ) → (In p (heap_pages (state_of z)) × IsNone z (IsHeap z) p) ⊎ IsNoNewPage z p
      → IsBadPage z (λ (n : Name). ⊥) [] p
  bad_place z p (inl heap) = IsBadPage.heap (inl heap.0) heap.1
  bad_place z p (inr new) = IsBadPage.new new.0 new.1 new.2

  pub place_cause : (old : DbValue D) (x : ℕ) (bytes : List ℕ) (e : DbError) → CannotPlace device old x bytes e
      → CannotPut device old x bytes e
  place_cause old x bytes (store.Down f) why = why
  place_cause old x bytes store.StoreFull why =
      let r = some_place x (doc_at 0 0) in
      unplaced old x bytes
      (λ (z : DbValue D) (rs : List Record) (n : Record). NeedsPageFor device bytes x z n.kind × IsStoreFull z)
      why.0 (doc_at 0 0) r.0 r.1 why.1
      (subst (λ (k : Kind). NeedsPageFor device bytes x why.0 k) (sym (r.1).kind_is) why.2.0, why.2.1)
  place_cause old x bytes store.LogFull why =
      unplaced old x bytes (λ (z : DbValue D) (rs : List Record) (n : Record). HasNoRoomFor z n)
      why.0 why.2.0 why.2.1 why.2.2 why.1 why.2.3
  place_cause old x bytes (store.BadPage p) why =
      let r = some_place x (doc_at 0 0) in
      unplaced old x bytes
      (λ (z : DbValue D) (rs : List Record) (n : Record). IsBadPage z (λ (m : Name). ⊥) rs p)
      why.0 (doc_at 0 0) r.0 r.1 why.1 (bad_place why.0 p why.2)
  place_cause old x bytes store.DiskFault why = tt
  place_cause old x bytes store.OutOfMemory why = tt
  place_cause old x bytes store.NoDocument why = why
  place_cause old x bytes (store.Conflict y) why = why
  place_cause old x bytes store.XidsSpent why = why
