-- What a scan has taken once it has read a heap page.
use Rattle.std.proofs.Common.{◌≡◌, ◌↔◌, ℕ, zero, suc, ◌+◌, ◌-◌, ◌<◌, ◌≤◌, Bool, IsTrue}
use Rattle.std.proofs.Common.{List, [], ◌∷◌, length, take, drop}
use Rattle.std.proofs.Common.{Some, get_or, refl, sym, ap, subst, ◌∙◌, inl, inr, arith, slice_get, AllPairs}
use Rattle.std.proofs.Common.{◌⊎◌, false, below_more}
use Rattle.std.specs.Prelude.{slice_range}
use Rattle.std.proofs.lemmas.Option.{get_or_from_slice_get, slice_get_within}
use Rattle.disk_trait.specs.declared.device.Disk.{Ghosts as Disk}
use Rattle.page_types.specs.Pages.{IsPage}
use Rattle.page_types.specs.declared.page.Page.{Page}
use Rattle.core_state.specs.Log.{Log, Pages, In, Shows, fate}
use Rattle.core_state.specs.Documents.{page_of}
use Rattle.core_state.specs.History.{Document, History, IsHistory, docs}
use Rattle.core_state.specs.Legal.{Pin}
use Rattle.core_state.specs.States.{StateTells, state_of, fate_of}
use Rattle.core_state.specs.declared.answers.Fate.{Fate}
use Rattle.core_state.proofs.StateTold.{state_told}
use Rattle.core_state.proofs.Trees.Members.{in_map}
use Rattle.gin_opclass.specs.Class.{Meaning, JudgeIsSound}
use Rattle.core_moments.proofs.Moments.{law_holds}
use Rattle.buffer_frames.specs.Frames.{FramesValue, Lies}
use Rattle.buffer_frames.proofs.FirstLogs.{shown_by}
use Rattle.buffer_frames.proofs.LastingStates.{told_alike}
use Rattle.gin_scan.specs.Causes.{HasSlots}
use Rattle.gin_scan.specs.Seen.{IsSeen, AreSeen}
use Rattle.gin_scan.specs.Taking.{AreTaken, first_items}
use Rattle.gin_scan.specs.Scanning.{HasJudged, HasTaken, HasRead, IsScanOf}
use Rattle.gin_scan.specs.Inner.Heads.{TakesDocuments}
use Rattle.gin_scan.specs.declared.scan_core.ScanCore.{ScanCore}
use Rattle.gin_scan.specs.declared.stage.Stage.TheVariants as stage
use Rattle.gin_scan.proofs.HeldPages.{heap_page, pages_before}
use Rattle.core_moments.proofs.KeptHeaps.{kept_lie}
use Rattle.gin_scan.proofs.ListRead.{lies_as}
use Rattle.gin_scan.proofs.SeenDocuments.{one_item}
use Rattle.gin_scan.proofs.StepsTaken.{Known, judged_as}
use Rattle.gin_scan.proofs.PageTaken.{take_page}

-- ── a part of a list ──

pub get_drop : {A : Type 0} (xs : List A) (n j m : ℕ) → m ≡ n + j → slice_get (drop n xs) j ≡ slice_get xs m
get_drop xs zero j m e = ap (slice_get xs) (omega (arith, e))
get_drop [] (suc n) j m e = refl
get_drop (x ∷ xs) (suc n) j zero e = absurd (omega (arith, e))
get_drop (x ∷ xs) (suc n) j (suc m) e = get_drop xs n j m (omega (arith, e))

get_take : {A : Type 0} (xs : List A) (n j : ℕ) → j < n → slice_get (take n xs) j ≡ slice_get xs j
get_take xs zero j l = absurd (omega (arith, l))
get_take [] (suc n) j l = refl
get_take (x ∷ xs) (suc n) zero l = refl
get_take (x ∷ xs) (suc n) (suc j) l = get_take xs n j (omega (arith, l))

pub get_range : {A : Type 0} (xs : List A) (a b j m : ℕ) → m ≡ a + j → m < b
    → slice_get (slice_range xs a b) j ≡ slice_get xs m
get_range xs a b j m e l = get_take (drop a xs) (b - a) j (omega (arith, e, l)) ∙ get_drop xs a j m e

drop_length : {A : Type 0} (xs : List A) (n : ℕ) → length (drop n xs) ≡ length xs - n
drop_length xs zero = omega arith
drop_length [] (suc n) = omega arith
drop_length (x ∷ xs) (suc n) = omega (arith, drop_length xs n)

pub take_length : {A : Type 0} (xs : List A) (n : ℕ) → n ≤ length xs → length (take n xs) ≡ n
take_length xs zero l = refl
take_length [] (suc n) l = absurd (omega (arith, l))
take_length (x ∷ xs) (suc n) l = omega (arith, take_length xs n (omega (arith, l)))

pub range_length : {A : Type 0} (xs : List A) (a b : ℕ) → b ≤ length xs → length (slice_range xs a b) ≡ b - a
range_length xs a b l = take_length (drop a xs) (b - a) (omega (arith, drop_length xs a, l))

-- ── what is seen ──

pub seen_length : (fates : ℕ → Fate) (n : ℕ) (c : Page) (ks : List (ℕ × Bool)) (bs : List Bool)
    → AreSeen fates n c ks bs
    → length bs ≡ length ks
seen_length fates n c [] [] a = refl
seen_length fates n c [] (b ∷ bs) a = absurd a
seen_length fates n c (k ∷ ks) [] a = absurd a
seen_length fates n c (k ∷ ks) (b ∷ bs) a = omega (arith, seen_length fates n c ks bs a.1)

pub seen_at : (fates : ℕ → Fate) (n : ℕ) (c : Page) (ks : List (ℕ × Bool)) (bs : List Bool) → AreSeen fates n c ks bs
    → (j : ℕ) (k : ℕ × Bool) (b : Bool) → slice_get ks j ≡ Some k → slice_get bs j ≡ Some b
    → IsTrue b ↔ IsSeen fates n c k.0
seen_at fates n c [] bs a j k b e f = absurd (let z : ⊥ = cc in z)
seen_at fates n c (l ∷ ks) [] a j k b e f = absurd a
seen_at fates n c (l ∷ ks) (d ∷ bs) a zero k b e f =
    let same : l ≡ k = cc in
    let told : d ≡ b = cc in
    subst (λ (x : Bool). IsTrue x ↔ IsSeen fates n c k.0) told
    (subst (λ (x : ℕ × Bool). IsTrue d ↔ IsSeen fates n c x.0) same a.0)
seen_at fates n c (l ∷ ks) (d ∷ bs) a (suc j) k b e f = seen_at fates n c ks bs a.1 j k b e f

-- by other words for the same fates, and the same number
seen_by : (a b : ℕ → Fate) (n m : ℕ) (c : Page) (i : ℕ) → ((x : ℕ) → a x ≡ b x) → n ≡ m → IsSeen a n c i
    → IsSeen b m c i
seen_by a b n m c i same e s = subst (λ (k : ℕ). IsSeen b k c i) e (record {
  head = s.head;
  at = s.at;
  sees = record {
    number = s.sees.number;
    inserted = sym (same s.head.inserted_by) ∙ s.sees.inserted;
    within = s.sees.within;
    not_deleted = λ k f. s.sees.not_deleted k (same s.head.deleted_by ∙ f);
  };
})

-- ── kept items ──

in_first : (kept : List (ℕ × Bool)) (n x : ℕ) → In x (first_items n kept)
    → (i : ℕ) × (l : ℕ × Bool) × (i < n) × (slice_get kept i ≡ Some l) × (x ≡ l.0)
in_first kept zero x m = absurd m
in_first [] (suc n) x m = absurd m
in_first (k ∷ kept) (suc n) x (inl e) = (zero, k, omega arith, refl, e)
in_first (k ∷ kept) (suc n) x (inr m) =
    let f = in_first kept n x m in (suc f.0, f.1, omega (arith, f.2), f.3, f.4)

-- the items of kept ones that rise differ from those before them
fresh_kept : (kept : List (ℕ × Bool)) → AllPairs (λ (a b : ℕ × Bool). a.0 < b.0) kept → (k : ℕ × Bool) (n : ℕ)
    → slice_get kept n ≡ Some k → In k.0 (first_items n kept) → ⊥
fresh_kept kept rising k n at m =
    let f = in_first kept n k.0 m in
    let less = rising f.0 n k f.2 (slice_get_within kept n k at) in
    let first = get_or_from_slice_get kept f.0 f.1 k f.3 in
    let second = get_or_from_slice_get kept n k k at in
    let one : f.1.0 < k.0 = subst (λ (b : ℕ × Bool). f.1.0 < b.0) second
    (subst (λ (a : ℕ × Bool). a.0 < (get_or kept n k).0) first less) in
    omega (arith, one, f.4)

-- ── a heap page ──

module _ {Q D : Type 0} (M : Meaning Q) (sound : JudgeIsSound M) (q : Q) (device : Disk D) (f : FramesValue D)
    (R : Log) (pin : Pin) (known : Known device f R pin)
    (one_serial : (H : History) → IsHistory R H → (d e : Document) → In d (docs (take pin.commits H))
    → In e (docs (take pin.commits H)) → d.name.serial ≡ e.name.serial → d ≡ e) where
  abbrev P : Pages
  P = (shown_by R known.legal.valid).0

  shown : Shows R P
  shown = (shown_by R known.legal.valid).1

  told : StateTells R f.journal.state
  told =
      let st = f.journal.state in
      told_alike R st (state_of st.pages st.xid_limit R) known.stands.journal.state
      (state_told st.pages st.xid_limit R known.legal)

  -- What is asked of a heap page with this number: the kept items from one number up to another are on it,
  -- what is seen of them, and what is taken.
  pub record ReadsHeads (s new : ScanCore) (at end number : ℕ) (c : Page) : Type 0 where
    pub first : ℕ × Bool
    pub there : slice_get s.kept.items at ≡ Some first
    pub first_here : page_of first.0 ≡ number
    pub ordered : at < end
    pub within : end ≤ length s.kept.items
    pub next : (k : ℕ × Bool) → slice_get s.kept.items end ≡ Some k → page_of k.0 ≡ number → ⊥
    pub here : (k item : ℕ) (sure : Bool) → at ≤ k → k < end → slice_get s.kept.items k ≡ Some (item, sure)
        → page_of item ≡ number
    pub is_page : IsPage c
    pub lies : Lies f number c
    pub seen : List Bool
    pub are_seen : AreSeen (fate_of f.journal.state) s.snapshot c (slice_range s.kept.items at end) seen
    pub takes : TakesDocuments (M.satisfies q) c at seen (record s { heads_read = new.heads_read }) new
    pub counted : new.heads_read + at ≤ s.heads_read + end
    pub rest : new ≡ record s { names = new.names; long = new.long; heads_read = new.heads_read }

  module _ (s new : ScanCore) (at end number : ℕ) (c : Page) (r : ReadsHeads s new at end number c)
      (snapshot : s.snapshot ≡ pin.commits) where
    seen_here : (j : ℕ) (k : ℕ × Bool) (b : Bool) → slice_get s.kept.items (at + j) ≡ Some k
        → slice_get r.seen j ≡ Some b → IsTrue b ↔ IsSeen (fate R) pin.commits c k.0
    seen_here j k b e g =
        let count = seen_length (fate_of f.journal.state) s.snapshot c (slice_range s.kept.items at end) r.seen
        r.are_seen in
        let low : at + j < end = omega (
          arith,
          slice_get_within r.seen j b g,
          count,
          range_length s.kept.items at end r.within,
          r.ordered,
        ) in
        let w = seen_at (fate_of f.journal.state) s.snapshot c (slice_range s.kept.items at end) r.seen r.are_seen j k b
        (get_range s.kept.items at end j (at + j) refl low ∙ e) g in (
          λ t. seen_by (fate_of f.journal.state) (fate R) s.snapshot pin.commits c k.0 told.fates snapshot (w.0 t),
          λ t. w.1 (seen_by (fate R) (fate_of f.journal.state) pin.commits s.snapshot c k.0 (λ x. sym (told.fates x))
              (sym snapshot) t),
        )

    on_page : (j : ℕ) (k : ℕ × Bool) (b : Bool) → slice_get s.kept.items (at + j) ≡ Some k
        → slice_get r.seen j ≡ Some b → c ≡ P (page_of k.0)
    on_page j k b e g =
        let count = seen_length (fate_of f.journal.state) s.snapshot c (slice_range s.kept.items at end) r.seen
        r.are_seen in
        let low : at + j < end = omega (
          arith,
          slice_get_within r.seen j b g,
          count,
          range_length s.kept.items at end r.within,
          r.ordered,
        ) in
        let there : page_of k.0 ≡ number = r.here (at + j) k.0 k.1 (omega arith) low e in
        lies_as device f R known.told known.up known.stands known.legal P shown number c r.is_page r.lies
        ∙ ap P (sym there)

    -- what is taken then, of the kept items up to the second number
    taken_then : (from : ℕ) → HasJudged M q R pin from s → HasTaken M q R pin s at 0 → (H : History)
        → IsHistory R H
        → AreTaken (M.satisfies q) R pin H (first_items end s.kept.items) new.names.items new.long.items
    taken_then from j t H history =
        let keeps = known.keeps in
        let legal = known.legal in
        let finds = law_holds M sound R pin H q j.walk legal keeps history j.is_walk in
        let count : at + length r.seen ≡ end = omega (
          arith,
          r.ordered,
          seen_length (fate_of f.journal.state) s.snapshot c (slice_range s.kept.items at end) r.seen r.are_seen,
          range_length s.kept.items at end r.within,
        ) in
        subst (λ (n : ℕ). AreTaken (M.satisfies q) R pin H (first_items n s.kept.items) new.names.items new.long.items)
        count
        (take_page M q R P H pin legal keeps shown history j.walk finds (one_serial H history)
        (one_item R P H pin legal keeps shown history) s.kept.items c at r.seen
        (record s { heads_read = new.heads_read }) new refl
        (λ k n e m. fresh_kept s.kept.items j.kept.rising k n e m)
        (λ k m y. (j.kept.sure k m).0 y)
        (λ i k b e g. (seen_here i k b e g, on_page i k b e g)) (t H history) r.takes)

    pub heads_read : (s' : ScanCore) (pages : ℕ) → s' ≡ record new { stage = stage.Heads end; pages_read = pages }
        → pages ≤ suc s.pages_read → s.stage ≡ stage.Heads at → IsScanOf M q R pin s → IsScanOf M q R pin s'
    heads_read s' pages same one is o =
        let had = subst (HasRead M q R pin o.from s) is o.read in
        let z : ScanCore = record s {
          names = new.names;
          long = new.long;
          heads_read = new.heads_read;
          stage = stage.Heads end;
          pages_read = pages;
        } in
        let e : s' ≡ z = same
        ∙ ap (λ (x : ScanCore). record x { stage = stage.Heads end; pages_read = pages }) r.rest in
        let below = λ (i : ℕ) (m : In i (first_items at s.kept.items)).
        subst (λ (n : ℕ). page_of i < n) r.first_here (had.4 i r.first m r.there) in
        subst (λ (x : ScanCore). IsScanOf M q R pin x) (sym e) (record {
          from = o.from;
          since = o.since;
          within = o.within;
          below = o.below;
          read = (
            judged_as M q R pin o.from s z refl had.0,
            taken_then o.from had.0 had.1,
            omega (arith, had.2, r.counted),
            heap_page R o.from had.0.walk s.kept.items at end number s.pages_read pages r.first r.ordered r.there
                r.first_here below one had.3,
            pages_before s.kept.items at end number had.0.kept.rising r.here below r.next r.first r.ordered r.there
                r.first_here,
          );
        })

  -- ── no bad page ──

  -- the page of a kept item is a heap page
  pub heap_of_kept : (s : ScanCore) (from : ℕ) → HasJudged M q R pin from s → (k : ℕ × Bool)
      → In k s.kept.items → HasSlots (P (page_of k.0))
  heap_of_kept s from j k i =
      kept_lie M R pin q j.is_walk.sought j.walk k.0 P known.legal known.keeps j.is_walk.is_walk j.is_walk.reads
      ((j.kept.just k.0).0 (in_map (λ (x : ℕ × Bool). x.0) k s.kept.items i)) shown

-- ── the kept items on a page ──

module _ (kept : List (ℕ × Bool)) (from end page : ℕ) where
  -- one more is on it
  pub here_next : ((k item : ℕ) (sure : Bool) → from ≤ k → k < end → slice_get kept k ≡ Some (item, sure)
      → page_of item ≡ page) → page_of (get_or kept end (0, false)).0 ≡ page → (k item : ℕ) (sure : Bool) → from ≤ k
      → k < end + 1 → slice_get kept k ≡ Some (item, sure) → page_of item ≡ page
  here_next was one k item sure low high at =
      below_more
      (λ (j : ℕ). (i : ℕ) (b : Bool) → from ≤ j → slice_get kept j ≡ Some (i, b) → page_of i ≡ page) end
      (λ j lt i b le there. was j i b le lt there)
      (λ i b le there. ap (λ (x : ℕ × Bool). page_of x.0) (sym (get_or_from_slice_get kept end (i, b) (0, false) there))
      ∙ one) k high item sure low at

  -- the next one is not
  pub next_off : (page_of (get_or kept end (0, false)).0 ≡ page → ⊥) → (k : ℕ × Bool) → slice_get kept end ≡ Some k
      → page_of k.0 ≡ page → ⊥
  next_off off k there is =
      off (ap (λ (x : ℕ × Bool). page_of x.0) (get_or_from_slice_get kept end k (0, false) there) ∙ is)

  -- so if the first one is, there is one
  pub some_here : from ≤ end → (page_of (get_or kept end (0, false)).0 ≡ page → ⊥) → (item : ℕ) (sure : Bool)
      → slice_get kept from ≡ Some (item, sure) → page_of item ≡ page → from < end
  some_here le off item sure there is = elim (lt_or_same from end le) [
    | inl lt ↦ lt
    | inr same ↦ absurd (next_off off (item, sure)
        (subst (λ (j : ℕ). slice_get kept j ≡ Some (item, sure)) same there) is)
  ]
    where
      lt_or_same : (a b : ℕ) → a ≤ b → (a < b) ⊎ (a ≡ b)
      lt_or_same a b h = grind arith
