-- What a lawful store shows: its pages are those of its log, and none of them is bad.
use Rattle.std.proofs.Common.{◌≡◌, ◌≢◌, ◌<◌, ◌≤◌, ℕ, List, [], ◌∷◌, ◌++◌, length, take, refl, sym, ap, subst}
use Rattle.std.proofs.Common.{◌∙◌, inl, inr, append_assoc, arith}
use Rattle.std.specs.Prelude.{Option, Some, None, Bool, true, false, cond, ◌==◌, reverse, ⊤}
use Rattle.std.proofs.lemmas.List.{reverse-append}
use Rattle.std.specs.List.{AllByRecursion}
use Rattle.disk_trait.specs.declared.device.Disk.{Ghosts as Disk}
use Rattle.page_types.specs.Numbers.{page_limit}
use Rattle.page_types.specs.Pages.{IsPage}
use Rattle.page_types.specs.Records.{IsChange}
use Rattle.page_types.specs.Views.{free_page, slots_in, slots_of, slot_at}
use Rattle.page_types.specs.declared.page.Page.{Page}
use Rattle.page_types.specs.declared.page.Head.{Head}
use Rattle.page_types.specs.declared.page.Gone.{Gone}
use Rattle.page_types.specs.declared.page.Body.{Body}
use Rattle.page_types.specs.declared.page.Body.TheVariants as body
use Rattle.page_types.specs.declared.record.Change.{Change}
use Rattle.page_types.specs.declared.record.Record.{Record}
use Rattle.page_types.specs.declared.record.Kind.{Kind}
use Rattle.page_types.specs.declared.record.Kind.TheVariants as kind
use Rattle.ts_base.specs.Vectors.{Vector}
use Rattle.ts_base.specs.Encoding.{vector_bytes}
use Rattle.ts_base.specs.Keys.{Key, keys_of}
use Rattle.page_types.proofs.PageLaws.{page_told}
use Rattle.core_state.specs.Log.{Log, Pages, In, Shows, pages_of, replay, fate, fate_with}
use Rattle.core_state.specs.Documents.{Doc, page_of, slot_of, doc_at, placed}
use Rattle.core_state.specs.Documents.{placed_with}
use Rattle.core_state.specs.History.{Document, History, IsHistory, IsStored, docs}
use Rattle.core_state.specs.Known.{use_by}
use Rattle.core_state.specs.Legal.{IsLegal, RecordsAreValid, Pin, Keeps}
use Rattle.core_state.specs.Standing.{IsInSnapshot}
use Rattle.core_state.specs.States as states
use Rattle.core_state.specs.States.{StateTells, heap_pages}
use Rattle.core_state.specs.Steps.{IsNewSheet}
use Rattle.core_state.specs.declared.answers.PageUse.TheVariants as usage
use Rattle.core_state.specs.declared.answers.Fate.TheVariants.{Running}
use Rattle.core_state.proofs.LawsHold.{documents, pages, steady}
use Rattle.core_state.proofs.PageLists.{in_either}
use Rattle.core_state.proofs.RunningOnes.{below_or_past, on_same}
use Rattle.core_state.proofs.Showing.{shown_one, others_stay, none_yet, shown_none}
use Rattle.core_state.proofs.StateTold.{state_told}
use Rattle.page_space.specs.Taking.{IsTaken}
use Rattle.page_space.proofs.NewPages.{taken_new}
use Rattle.buffer_frames.specs.Frames.{Stands}
use Rattle.buffer_frames.specs.Homes.{home_at, ShowsBytes, IsNoPageHere}
use Rattle.buffer_frames.specs.declared.home.Home.{Home}
use Rattle.buffer_frames.specs.declared.home.Home.TheVariants.{Free, Bytes, Content, Away}
use Rattle.buffer_frames.proofs.HomesLie.{lies_shown}
use Rattle.buffer_frames.proofs.LastingStates.{told_alike}
use Rattle.engine.specs.Causes.{IsListedIn, IsHeap, IsNone, IsNew, IsNewSought}
use Rattle.engine.specs.Causes.{HasHeadIn, WasPlaced, IsBadPage}
use Rattle.engine.specs.Db.{DbValue, state_of, IsUp}
use Rattle.engine.specs.Finding.{Name}
use Rattle.engine.specs.Places.{Lies}
use Rattle.engine.specs.Work.{Work, IsWork, IsBegunWork, AreMarks, AreParts, ArePut, ArePlaces, AreIndexing, AreStored}
use Rattle.engine.specs.Work.{IsRowPageOf, parts_for}
use Rattle.buffer_frames.specs.Journals.{with_owed}
use Rattle.engine.specs.Standing.{StandsFor}
use Rattle.buffer_frames.specs.Passes.{IsPassOf}
use Rattle.buffer_frames.specs.declared.pass.Pass.{Pass}
use Rattle.buffer_frames.specs.declared.pass.Pinned.{Pinned}
use Rattle.buffer_frames.proofs.FirstLogs.{shown_by}
use Rattle.engine.proofs.Logs.{log_then}
use Rattle.engine.proofs.Growing.{state_says}
use Rattle.engine.proofs.SnapshotReads.{pinned}
use Rattle.engine.proofs.SnapshotNames.{listed_there}

-- ── numbers that pages have ──

in_small : (n : ℕ) (cs : List Change) (p : ℕ) → AllByRecursion (IsChange n) cs → In p (pages_of cs) → p < page_limit
in_small n [] p all i = absurd i
in_small n (c ∷ cs) p all (inl e) = subst (λ (k : ℕ). k < page_limit) (sym e) (all.0).page
in_small n (c ∷ cs) p all (inr i) = in_small n cs p all.1 i

-- past them all is free
past_free : (R : Log) → RecordsAreValid R → (P : Pages) → Shows R P → (p : ℕ) → page_limit ≤ p → P p ≡ free_page
past_free [] v P shown p high = ap (λ (Q : Pages). Q p) (shown_one [] P none_yet shown shown_none)
past_free (r ∷ R) v P shown p high =
    others_stay R r v.1.before P v.1.shown shown p
    (λ i. absurd (omega (arith, high, in_small r.number r.changes p v.1.is_record.changes i)))
    ∙ past_free R v.0 v.1.before v.1.shown p high

-- ── kinds of pages ──

-- a page with a head has slots
pub has_slots : (b : Body) (k : ℕ) (h : Head) → slot_at (slots_in b) k ≡ Some h
    → (slots : List (Option Head)) × (b ≡ body.Heap slots)
has_slots (body.Heap slots) k h e = (slots, refl)
has_slots _ k h e = absurd (let z : ⊥ = cc in z)

heap_not_free : (b : Body) (slots : List (Option Head)) → b ≡ body.Heap slots → b ≢ body.Free
heap_not_free b slots is free = let z : ⊥ = cc in z

gone_not_free : (b : Body) (g : Gone) → b ≡ body.Deleted g → b ≢ body.Free
gone_not_free b g is free = let z : ⊥ = cc in z

-- ── what a running transaction has placed ──

in_front : {A : Type 0} (xs ys : List A) (x : A) → In x xs → In x (xs ++ ys)
in_front [] ys x i = absurd i
in_front (y ∷ xs) ys x (inl e) = inl e
in_front (y ∷ xs) ys x (inr i) = inr (in_front xs ys x i)

in_back : {A : Type 0} (xs ys : List A) (x : A) → In x ys → In x (xs ++ ys)
in_back [] ys x i = i
in_back (y ∷ xs) ys x i = inr (in_back xs ys x i)

reverse_more : (r : Record) (rs : List Record) → reverse (r ∷ rs) ≡ reverse rs ++ r ∷ []
reverse_more r rs = reverse-append (r ∷ []) rs

in_turned : (rs : List Record) (r : Record) → In r rs → In r (reverse rs)
in_turned [] r i = absurd i
in_turned (q ∷ rs) r (inl e) = subst (In r) (sym (reverse_more q rs)) (in_back (reverse rs) (q ∷ []) r (inl e))
in_turned (q ∷ rs) r (inr i) =
    subst (In r) (sym (reverse_more q rs)) (in_front (reverse rs) (q ∷ []) r (in_turned rs r i))

turned_in : (rs : List Record) (r : Record) → In r (reverse rs) → In r rs
turned_in [] r i = absurd i
turned_in (q ∷ rs) r i = elim (in_either r (reverse rs) (q ∷ []) (subst (In r) (reverse_more q rs) i)) [
  | inl old ↦ inr (turned_in rs r old)
  | inr new ↦ elim new [ inl e ↦ inl e | inr none ↦ absurd none ]
]

placed_still : (k : Kind) (x y : ℕ) (ds : List Doc) (d : Doc) → In d ds → In d (placed_with k x y ds)
placed_still (kind.PlaceHead item serial) x y ds d i = by (x == y)
  where
    by : (b : Bool) → In d (cond b (ds ++ doc_at item serial ∷ []) ds)
    by true = in_front ds (doc_at item serial ∷ []) d i
    by false = i
placed_still _ x y ds d i = i

-- a record of the log that places a document has placed it
placed_by : (R : Log) (r : Record) (item serial : ℕ) → In r R → r.kind ≡ kind.PlaceHead item serial
    → In (doc_at item serial) (placed R r.xid)
placed_by [] r item serial i is = absurd i
placed_by (q ∷ R) r item serial (inl e) is =
    let d = doc_at item serial in
    let ds = placed R r.xid in
    subst (λ (k : Kind). In d (placed_with k q.xid r.xid ds)) (sym is ∙ ap (λ (s : Record). s.kind) e)
    (subst (In d) (sym (on_same q.xid r.xid (ds ++ d ∷ []) ds (ap (λ (s : Record). s.xid) (sym e))))
    (in_back ds (d ∷ []) d (inl refl)))
placed_by (q ∷ R) r item serial (inr i) is =
    placed_still q.kind q.xid r.xid (placed R r.xid) (doc_at item serial) (placed_by R r item serial i is)

-- the record does a part of the work of transaction x
abbrev pub IsDoing : Kind → Type 0
IsDoing (kind.MarkDeleted item serial) = ⊤
IsDoing (kind.PlaceHead item serial) = ⊤
IsDoing (kind.PutOverflow item serial) = ⊤
IsDoing (kind.PutPending item serial) = ⊤
IsDoing (kind.AddRow item serial) = ⊤
IsDoing (kind.LinkPending item serial) = ⊤
IsDoing k = ⊥

abbrev pub Does : ℕ → Record → Type 0
Does x r = (r.xid ≡ x) × IsDoing r.kind

marks_do : (x : ℕ) (o : Option Name) (rs : List Record) → AreMarks o x rs → (r : Record) → In r rs → Does x r
marks_do x None rs are r i = absurd (subst (In r) are i)
marks_do x (Some n) [] are r i = absurd i
marks_do x (Some n) (q ∷ rs) are r (inl e) =
    subst (Does x) (sym e) (are.0.xid, subst IsDoing (sym are.0.kind_is) tt)
marks_do x (Some n) (q ∷ rs) are r (inr i) = absurd (subst (In r) are.1 i)

parts_do : (x : ℕ) (d : Doc) (n : ℕ) (rs : List Record) → AreParts d x n rs → (r : Record) → In r rs → Does x r
parts_do x d n [] are r i = absurd i
parts_do x d n (q ∷ rs) are r (inl e) =
    subst (Does x) (sym e) (are.0.xid, subst IsDoing (sym are.0.kind_is) tt)
parts_do x d n (q ∷ rs) are r (inr i) = parts_do x d are.1.0 rs are.1.2 r i

put_do : (x : ℕ) (bytes : List ℕ) (d : Doc) (rs : List Record) → ArePut bytes x d rs → (r : Record) → In r rs
    → Does x r
put_do x bytes d [] are r i = absurd i
put_do x bytes d (q ∷ rs) are r (inl e) =
    subst (Does x) (sym e) (are.0.xid, subst IsDoing (sym are.0.kind_is) tt)
put_do x bytes d (q ∷ rs) are r (inr i) = parts_do x d (parts_for (length bytes)) rs are.1 r i

row_pages_do : (x : ℕ) (d : Doc) (rs : List Record) → AllByRecursion (IsRowPageOf x d) rs → (r : Record) → In r rs
    → Does x r
row_pages_do x d [] all r i = absurd i
row_pages_do x d (q ∷ rs) all r (inl e) =
    subst (Does x) (sym e) ((all.0).xid, subst IsDoing (sym (all.0).kind_is) tt)
row_pages_do x d (q ∷ rs) all r (inr i) = row_pages_do x d rs all.1 r i

rows_do : (x : ℕ) (d : Doc) (keys : List Key) (rs : List Record) → AreIndexing x d keys rs → (r : Record) → In r rs
    → Does x r
rows_do x d keys rs (AreIndexing.row q is all) r i = elim (subst (In r) all i) [
  | inl e ↦ subst (Does x) (sym e) (is.xid, subst IsDoing (sym is.kind_is) tt)
  | inr none ↦ absurd none
]
rows_do x d keys rs (AreIndexing.pages packed puts link pack are few is all) r i =
    elim (in_either r puts (link ∷ []) (subst (In r) all i)) [
      | inl p ↦ row_pages_do x d puts are r p
      | inr l ↦ elim l [
        | inl e ↦ subst (Does x) (sym e) (is.xid, subst IsDoing (sym is.kind_is) tt)
        | inr none ↦ absurd none
      ]
    ]

stored_do : (x : ℕ) (bytes : List ℕ) (keys : List Key) (rs : List Record) → AreStored bytes keys x rs → (r : Record)
    → In r rs → Does x r
stored_do x bytes keys rs are r i = elim (in_either r are.puts are.rows (subst (In r) are.order i)) [
  | inl p ↦ put_do x bytes are.doc are.puts are.are_put r p
  | inr w ↦ rows_do x are.doc keys are.rows are.are_rows r w
]

places_do : (x : ℕ) (o : Option Vector) (rs : List Record) → ArePlaces o x rs → (r : Record) → In r rs → Does x r
places_do x None rs are r i = absurd (subst (In r) are i)
places_do x (Some v) rs are r i = stored_do x (vector_bytes v) (keys_of v) rs are r i

work_does : (w : Work) (x : ℕ) (rs : List Record) → IsWork w x rs → (r : Record) → In r rs → Does x r
work_does w x rs is r i = elim (in_either r is.marks is.places (subst (In r) is.order i)) [
  | inl m ↦ marks_do x w.deletes is.marks is.are_marks r m
  | inr p ↦ places_do x w.inserts is.places is.are_places r p
]

runs_over : (S L : Log) (x : ℕ) → ((r : Record) → In r S → IsDoing r.kind) → fate L x ≡ Running
    → fate (S ++ L) x ≡ Running
runs_over [] L x all runs = runs
runs_over (r ∷ S) L x all runs =
    by r.kind (all r (inl refl)) (runs_over S L x (λ q i. all q (inr i)) runs)
  where
    by : (k : Kind) → IsDoing k → fate (S ++ L) x ≡ Running → fate_with k r.xid x (fate (S ++ L) x) ≡ Running
    by (kind.MarkDeleted item serial) d f = f
    by (kind.PlaceHead item serial) d f = f
    by (kind.PutOverflow item serial) d f = f
    by (kind.PutPending item serial) d f = f
    by (kind.AddRow item serial) d f = f
    by (kind.LinkPending item serial) d f = f
    by _ d f = absurd d

-- the transaction of the work so far runs
pub begun_runs : (w : Work) (x : ℕ) (owes : Bool) (rs : List Record) (R : Log) → IsBegunWork w x rs
    → fate (log_then owes rs R) x ≡ Running
begun_runs w x owes [] R is = absurd is
begun_runs w x owes (b ∷ done) R is =
    let L : Log = with_owed owes R in
    let begun : fate (b ∷ L) x ≡ Running =
    ap (λ (k : Kind). fate_with k b.xid x (fate L x)) is.0.kind_is
    ∙ on_same b.xid x Running (fate L x) is.0.xid in
    subst (λ (l : Log). fate l x ≡ Running)
    (sym (append_assoc (reverse done) (b ∷ []) L) ∙ ap (λ (l : Log). l ++ L) (sym (reverse_more b done)))
    (runs_over (reverse done) (b ∷ L) x
    (λ r i. (work_does w x (done ++ is.1.0) is.1.1 r (in_front done is.1.0 r (turned_in done r i))).1) begun)

in_log : (owes : Bool) (rs : List Record) (R : Log) (r : Record) → In r rs → In r (log_then owes rs R)
in_log owes [] R r i = absurd i
in_log owes (q ∷ rs) R r i = in_front (reverse (q ∷ rs)) (with_owed owes R) r (in_turned (q ∷ rs) r i)

-- ── what lies in memory ──

module _ {D : Type 0} (device : Disk D) (s : DbValue D) (R : Log) (P : Pages) (tells : device.tells) (up : IsUp s)
    (stands : Stands device s.frames R) (legal : IsLegal R) (shown : Shows R P) where
  -- a page that lies there is the log's
  pub lies_is : (p : ℕ) (c : Page) → IsPage c → Lies s p c → c ≡ P p
  lies_is p c is lies =
      let bytes = lies_shown (home_at s.frames.homes p) c (replay R p) lies (stands.homes tells up legal p) in
      page_told c (P p) is (shown p).0 (sym bytes ∙ sym (shown p).1)

  -- bytes that lie there are a page's
  no_bytes : (h : Home) (p : ℕ) → ShowsBytes h (replay R p) → IsNoPageHere h → ⊥
  no_bytes Free p shows none = none
  no_bytes (Bytes b) p shows none = none (P p) (shown p).0 (sym shows ∙ sym (shown p).1)
  no_bytes (Content c) p shows none = none
  no_bytes Away p shows none = none

  -- where the log's page is so, none is there that isn't
  pub not_none : (Is : Page → Type 0) (p : ℕ) → p < page_limit → Is (P p) → IsNone s Is p → ⊥
  not_none Is p low is (IsNone.past high) = omega (arith, low, high)
  not_none Is p low is (IsNone.bytes none) = no_bytes (home_at s.frames.homes p) p (stands.homes tells up legal p) none
  not_none Is p low is (IsNone.other c page lies off) = off (subst Is (sym (lies_is p c page lies)) is)

  -- what its state says
  told : StateTells R (state_of s)
  told =
      let st = state_of s in
      told_alike R st (states.state_of st.pages st.xid_limit R) stands.journal.state
      (state_told st.pages st.xid_limit R legal)

  pub small : (p : ℕ) → (P p).body ≢ body.Free → p < page_limit
  small p used = elim (below_or_past p page_limit) [
    | inl low ↦ low
    | inr high ↦ absurd (used (ap (λ (c : Page). c.body) (past_free R legal.valid P shown p high)))
  ]

  -- ── pages of each kind that are sought ──

  pub no_heap : (p : ℕ) → IsHeap s (P p) → IsNone s (IsHeap s) p → ⊥
  no_heap p heap none = not_none (IsHeap s) p (small p (heap_not_free (P p).body heap.0 heap.1)) heap none

  -- a heap page of the state
  pub heap_of_state : (p : ℕ) → In p (state_of s).heaps → IsHeap s (P p)
  heap_of_state p i =
      let w = (told.heaps p).0 i in
      subst (λ (q : ℕ). IsHeap s (P q)) w.on ((pages R P legal shown).kinds.heaps w.xid w.doc w.placed_it)

  -- the page of a document
  pub heap_of_stored : (d : Document) → IsStored P d → IsHeap s (P d.name.page)
  heap_of_stored d st =
      subst (λ (n : Name). IsHeap s (P n.page)) (sym st.name)
      (has_slots (P (page_of st.doc.item)).body (slot_of st.doc.item) st.head st.has.at)

  -- a page that is taken as a new one
  pub no_new : (since p : ℕ) → (state_of s).pages ≤ page_limit → IsTaken (state_of s) since p
      → IsNone s (IsNew s since) p → ⊥
  no_new since p few taken none =
      not_none (IsNew s since) p (low taken) (new (taken_new R P (state_of s) since p told shown taken)) none
    where
      new : IsNewSheet P since p (P p) → IsNew s since (P p)
      new (IsNewSheet.unused free below) = inl free
      new (IsNewSheet.deleted g gone old) = inr ((g, gone), old)

      low : IsTaken (state_of s) since p → p < page_limit
      low (IsTaken.deleted least) =
          small p (λ free.
          let z : usage.Unused ≡ usage.Deleted least.holds.stamp =
          ap (use_by (P p).stamp) (sym free) ∙ sym (told.uses P shown p) ∙ least.holds.deleted in
          (let x : ⊥ = cc in x))
      low (IsTaken.unused none least) = omega (arith, least.holds.below, few)

  -- what a transaction that runs has placed is there
  pub own_there : (w : Work) (x : ℕ) (owes : Bool) (rs : List Record) (L : Log) (p slot : ℕ) → R ≡ log_then owes rs L
      → IsBegunWork w x rs → WasPlaced s rs p slot → HasHeadIn s slot (P p)
  own_there w x owes [] L p slot is begun was = absurd begun
  own_there w x owes (b ∷ done) L p slot is begun was =
      let r = was.placing in
      let runs : fate R x ≡ Running =
      subst (λ (l : Log). fate l x ≡ Running) (sym is) (begun_runs w x owes (b ∷ done) L begun) in
      let in_it : In r R = subst (In r) (sym is) (in_log owes (b ∷ done) L r was.there) in
      let own : r.xid ≡ x = mine was.there in
      let there : In (doc_at was.item was.serial) (placed R x) =
      subst (λ (y : ℕ). In (doc_at was.item was.serial) (placed R y)) own
      (placed_by R r was.item was.serial in_it was.kind_is) in
      let some : R ≢ [] = λ e. subst (In r) e in_it in
      let on = (steady R [] R P P refl some legal legal shown shown).runs_on x runs (λ q i. absurd i) in
      let h = on.heads (doc_at was.item was.serial) there in (
        h.0,
        subst (λ (q : ℕ). slot_at (slots_of (P q)) slot ≡ Some h.0) was.place.0
            (subst (λ (k : ℕ). slot_at (slots_of (P (page_of was.item))) k ≡ Some h.0) was.place.1 h.1.at),
      )
    where
      mine : In was.placing (b ∷ done) → was.placing.xid ≡ x
      mine (inl e) =
          let z : kind.PlaceHead was.item was.serial ≡ kind.Begin =
          sym was.kind_is ∙ ap (λ (q : Record). q.kind) e ∙ begun.0.kind_is in
          absurd (let y : ⊥ = cc in y)
      mine (inr i) =
          (work_does w x (done ++ begun.1.0) begun.1.1 was.placing
          (in_front done begun.1.0 was.placing i)).0

  -- ── no page is bad ──

  pub no_bad_page : (H : History) (pin : Pin) (Reads : Name → Type 0) (rs : List Record) (p : ℕ) → IsHistory R H
      → Keeps R pin → ((name : Name) → Reads name → IsInSnapshot H pin.commits name)
      → ((q : ℕ) → In q (heap_pages (state_of s)) → In q (state_of s).heaps) → (state_of s).pages ≤ page_limit
      → ((slot : ℕ) → WasPlaced s rs p slot → HasHeadIn s slot (P p)) → IsBadPage s Reads rs p → ⊥
  no_bad_page H pin Reads rs p history keeps there heaps few own bad = by bad
    where
      stored : (d : Document) → In d (docs (take pin.commits H)) → IsStored P d
      stored d i =
          (documents R P legal shown).history_under pin keeps H pin.commits d history (omega arith) i

      by : IsBadPage s Reads rs p → ⊥
      by (IsBadPage.heap (inl i) none) = no_heap p (heap_of_state p (heaps p i)) none
      by (IsBadPage.heap (inr n) none) =
          let d = there n.0 n.1 in
          no_heap p (subst (λ (q : ℕ). IsHeap s (P q)) (ap (λ (x : Name). x.page) d.2 ∙ n.2)
          (heap_of_stored d.0 (stored d.0 d.1))) none
      by (IsBadPage.new since w none) = no_new since p few w.1 none
      by (IsBadPage.own slot w none) =
          let h = own slot w in
          let heap = has_slots (P p).body slot h.0 h.1 in
          not_none (HasHeadIn s slot) p (small p (heap_not_free (P p).body heap.0 heap.1)) h none

-- ── of a store that stands for a history ──

module _ {D : Type 0} (device : Disk D) (tells : device.tells) (found H : History) (s : DbValue D) (up : IsUp s)
    (f : StandsFor device found s H) where
  -- a page that a head is tried on is a heap page
  pub tried_is_heap : (p : ℕ) → In p (heap_pages (state_of s)) → IsNone s (IsHeap s) p → ⊥
  tried_is_heap p i =
      let legal = f.begins.log_of.legal in
      let shown = shown_by f.log legal.valid in
      no_heap device s f.log shown.0 tells up f.stands legal shown.1 p
      (heap_of_state device s f.log shown.0 tells up f.stands legal shown.1 p (f.heaps p i))

  -- one that is taken is a new one
  pub taken_is_new : (since p : ℕ) → IsNewSought s since p → IsNone s (IsNew s since) p → ⊥
  taken_is_new since p sought =
      let legal = f.begins.log_of.legal in
      let shown = shown_by f.log legal.valid in
      no_new device s f.log shown.0 tells up f.stands legal shown.1 since p f.few sought.1

  -- that of a document of a snapshot in use is a heap page
  pub named_is_heap : (pin : Pin) (name : Name) → Keeps f.log pin → IsInSnapshot H pin.commits name
      → IsNone s (IsHeap s) name.page → ⊥
  named_is_heap pin name keeps d none =
      let legal = f.begins.log_of.legal in
      let shown = shown_by f.log legal.valid in
      let stored = (documents f.log shown.0 legal shown.1).history_under pin keeps H pin.commits d.0
      f.begins.log_of.history (omega arith) d.1 in
      no_heap device s f.log shown.0 tells up f.stands legal shown.1 name.page
      (subst (λ (n : Name). IsHeap s (shown.0 n.page)) d.2
      (heap_of_stored device s f.log shown.0 tells up f.stands legal shown.1 d.0 stored)) none

  -- no page that a pass reads of its snapshot's documents is bad
  pub reads_no_bad_page : (pass : Pass) (q : Pinned) (p : ℕ) → IsPassOf s.frames pass → pass.pin ≡ Some q
      → IsBadPage s (IsListedIn (state_of s) q.commits) [] p → ⊥
  reads_no_bad_page pass q p of is bad =
      let legal = f.begins.log_of.legal in
      let shown = shown_by f.log legal.valid in
      let pin : Pin = record { commits = q.commits; length = q.length } in
      let keeps = pinned device s f.log pass q tells up f.stands legal of is in
      no_bad_page device s f.log shown.0 tells up f.stands legal shown.1 H pin (IsListedIn (state_of s) q.commits) [] p
      f.begins.log_of.history keeps
      (listed_there f.log shown.0 H (state_of s) pin legal shown.1 f.begins.log_of.history
      (state_says device found H s f) keeps)
      f.heaps f.few (λ slot w. absurd w.there) bad
