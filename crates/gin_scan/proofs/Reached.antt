-- How the pages are reached that a scan reads.
use Rattle.std.proofs.Common.{◌≡◌, ◌≢◌, ℕ, suc, ◌+◌, ◌-◌, ◌<◌, ◌≤◌, Bool, true, false, IsTrue, List, []}
use Rattle.std.proofs.Common.{cond}
use Rattle.std.proofs.Common.{◌∷◌, ◌++◌, length, map, Some, refl, sym, ap, subst, ◌∙◌, inl, inr, arith, slice_get}
use Rattle.std.specs.Prelude.{slice_range}
use Rattle.std.proofs.lemmas.Option.{slice_get_within}
use Rattle.disk_trait.specs.declared.device.Disk.{Ghosts as Disk}
use Rattle.ts_base.specs.Vectors.{Vector}
use Rattle.page_types.specs.Pages.{IsPage}
use Rattle.page_types.specs.Views.{first_of, kept_rows_of}
use Rattle.page_types.specs.Numbers.{most_short}
use Rattle.page_types.specs.declared.page.Page.{Page}
use Rattle.page_types.specs.declared.page.Head.{Head}
use Rattle.page_types.specs.declared.page.Row.{Row}
use Rattle.core_state.specs.Log.{In}
use Rattle.core_state.specs.Documents.{page_of, slot_of}
use Rattle.core_state.specs.Readings.{Read}
use Rattle.core_state.specs.declared.answers.Fate.{Fate}
use Rattle.core_state.proofs.PageLists.{in_back, in_either}
use Rattle.core_state.proofs.Trees.Members.{in_map}
use Rattle.doc_heap.specs.HeapPages.{head_on}
use Rattle.gin_opclass.specs.Class.{Asked, Meaning}
use Rattle.core_moments.specs.Walk.{Walk, KeyWalk, LeafRead, Sought, rightward}
use Rattle.core_moments.specs.Law.{AreSought}
use Rattle.core_moments.specs.Judging.{IsKept}
use Rattle.buffer_frames.specs.Frames.{FramesValue, Lies}
use Rattle.buffer_frames.specs.declared.frame_error.FrameError.TheVariants.{BadPage, OutOfMemory}
use Rattle.buffer_frames.specs.declared.pass.Pass.{Pass}
use Rattle.gin_hits.specs.Rows.{lists_of, first_of_rows, AreNoted}
use Rattle.gin_hits.specs.Ordered.{AreOrdered}
use Rattle.gin_hits.specs.Sides.{AreKept}
use Rattle.gin_hits.proofs.JudgedScan.{element_in, element_at}
use Rattle.gin_scan.specs.Calls.{LieStill}
use Rattle.gin_scan.specs.Counting.{IsCounted}
use Rattle.gin_scan.specs.Causes.{HasMeta, HasRows, HasWay, HasPart, HasSlots, CannotUse, CannotStep}
use Rattle.gin_scan.specs.Reading.{ReadsListBy, ReadsKeysBy}
use Rattle.gin_scan.specs.Reaching.{posting_reads, AreLying, ListLies, ListLeads, WayLies}
use Rattle.gin_scan.specs.Reaching.{WalkLies, WalkLeads, LeadsSomewhere}
use Rattle.gin_scan.specs.Reaching.{HeadLeads, PartsLead, HasMet, HasMetLong, IsOnTree, IsReached, IsBadOnPath}
use Rattle.gin_scan.specs.Ways.{IsGoingDown, IsGoingAlong, IsGoingInTrees}
use Rattle.core_moments.specs.OpenLaws.{IsLeaf, IsPostingPage}
use Rattle.core_moments.specs.OpenWalk.{ReadsInTree, IsOnWay, IsAmongLeaves, IsInTrees}
use Rattle.gin_scan.specs.Scanning.{AsksFor, IsScan, IsWithin, asked_in, order_in, sought_in, trees_from}
use Rattle.gin_scan.specs.Seen.{AreSeen}
use Rattle.gin_scan.specs.Inner.Heads.{Takes, TakesIfSeen, TakesDocuments, long_at}
use Rattle.gin_scan.specs.Inner.Parts.{BeginsLong}
use Rattle.gin_scan.specs.Inner.Steps.{HasStepped}
use Rattle.gin_scan.specs.declared.scan_core.ScanCore.{ScanCore}
use Rattle.gin_scan.specs.declared.stage.Stage.{Stage}
use Rattle.gin_scan.specs.declared.stage.Stage.TheVariants as stage
use Rattle.gin_scan.specs.declared.stage.LongVector.{LongVector}
use Rattle.gin_scan.proofs.Growing.{lead_more}
use Rattle.gin_scan.proofs.HeadsRead.{seen_at, seen_length, range_length, get_range}
use Rattle.gin_scan.proofs.EndedWalks.{order_sought}
use Rattle.gin_scan.proofs.ListRead.{meta_read, page_read, list_further}
use Rattle.gin_scan.proofs.WaysRead.{one_down, one_along, one_in_trees}

-- ── pages that lie still ──

module _ {D : Type 0} (f f' : FramesValue D) (still : LieStill f f') where
  lying_still : (Is : Page → Type 0) (xs : List Read) → AreLying f Is xs → AreLying f' Is xs
  lying_still Is [] l = tt
  lying_still Is (x ∷ xs) l = ((l.0.0, still x.page x.content l.0.1, l.0.2), lying_still Is xs l.1)

  list_still : (xs : List Read) → ListLies f xs → ListLies f' xs
  list_still [] l = tt
  list_still (x ∷ xs) l = ((l.0.0, still x.page x.content l.0.1, l.0.2), lying_still HasRows xs l.1)

  leads_still : (w : Walk) (p : ℕ) → ListLeads f w p → ListLeads f' w p
  leads_still w p l = record {
    meta_page = l.meta_page;
    leads = l.leads;
    lie = list_still (w.meta ∷ w.pending) l.lie;
  }

  way_still : (k : KeyWalk) → WayLies f k → WayLies f' k
  way_still k l = record {
    down = lying_still (HasWay k.sought) k.down l.down;
    leaves = lying_still IsLeaf (map (λ (x : LeafRead). x.leaf) k.leaves) l.leaves;
    postings = lying_still IsPostingPage (posting_reads k) l.postings;
  }

  walk_still : (sought : List Sought) (w : Walk) (p : ℕ) → WalkLeads f sought w p → WalkLeads f' sought w p
  walk_still sought w p l = record {
    list = leads_still w p l.list;
    ways = λ k i. way_still k (l.ways k i);
    each = l.each;
  }

  lies_still : (w : Walk) → WalkLies f w → WalkLies f' w
  lies_still w l = record {
    list = list_still (w.meta ∷ w.pending) l.list;
    leads = l.leads;
    ways = λ k i. way_still k (l.ways k i);
  }

  head_still : (item first : ℕ) → HeadLeads f item first → HeadLeads f' item first
  head_still item first h = record {
    content = h.content;
    is_page = h.is_page;
    lies = still (page_of item) h.content h.lies;
    head = h.head;
    at = h.at;
    long = h.long;
    first_is = h.first_is;
  }

  parts_still : (first p : ℕ) → PartsLead f first p → PartsLead f' first p
  parts_still first p l = record { parts = l.parts; leads = l.leads; lie = lying_still HasPart l.parts l.lie }

  -- what a scan needs of the list that it has read
  pub read_still : (asked : List Asked) (s : ScanCore) (page left : ℕ) → ReadsListBy (ListLies f) asked s page left
      → ReadsListBy (ListLies f') asked s page left
  read_still asked s page left r = record {
    meta = r.meta;
    pending = r.pending;
    meta_page = r.meta_page;
    leads = r.leads;
    reads = list_still (r.meta ∷ r.pending) r.reads;
    noted = r.noted;
    begun = r.begun;
    first = r.first;
    main = r.main;
    unjudged = r.unjudged;
    left_is = r.left_is;
    pages_read = r.pages_read;
  }

  -- and of the tree
  pub tree_still : (asked : List Asked) (sought : List Sought) (s : ScanCore) (key left : ℕ)
      (Open : Sought → List KeyWalk → Type 0) → ReadsKeysBy (WalkLies f) LeadsSomewhere asked sought s key left Open
      → ReadsKeysBy (WalkLies f') LeadsSomewhere asked sought s key left Open
  tree_still asked sought s key left Open r = record {
    walk = r.walk;
    so_far = record {
      meta_page = r.so_far.meta_page;
      reads = lies_still r.walk r.so_far.reads;
      noted = r.so_far.noted;
      first = r.so_far.first;
      noted_tree = r.so_far.noted_tree;
      unjudged = r.so_far.unjudged;
      pages_read = r.so_far.pages_read;
    };
    keys = r.keys;
    left_is = r.left_is;
  }

  module _ {Q : Type 0} (M : Meaning Q) (q : Q) where
    pub met_still : (s : ScanCore) → HasMet M q f s → HasMet M q f' s
    met_still s m = record {
      walk = m.walk;
      page = m.page;
      leads = walk_still (sought_in s) m.walk m.page m.leads;
      kept = m.kept;
    }

    pub long_still : (s : ScanCore) → HasMetLong M q f s → HasMetLong M q f' s
    long_still s m l i = let h = m l i in (h.0, h.1, head_still h.0 l.first h.2)

    pub reached_still : (s : ScanCore) (z : Stage) → IsReached M q f s z → IsReached M q f' s z
    reached_still s stage.Meta r = r
    reached_still s (stage.Pending page left) r = read_still (M.asked q) s page left r
    reached_still s (stage.Down key page left) r =
        tree_still (M.asked q) (sought_in s) s key left (IsGoingDown page) r
    reached_still s (stage.Leaf key page left) r =
        tree_still (M.asked q) (sought_in s) s key left (IsGoingAlong ReadsInTree page) r
    reached_still s (stage.Posting key at page left next read) r = (
      r.0,
      tree_still (M.asked q) (sought_in s) s key (s.extent - read)
          (IsGoingInTrees ReadsInTree page left s.extent (trees_from at s) next) r.1,
    )
    reached_still s (stage.Heads at) r = (met_still s r.0, long_still s r.1)
    reached_still s (stage.Parts at page left) r =
        (met_still s r.0, long_still s r.1, λ l e. parts_still l.first page (r.2 l e))
    reached_still s stage.Done r = tt

-- ── a page more ──

pub lying_more : {D : Type 0} (f : FramesValue D) (Is : Page → Type 0) (xs : List Read) (x : Read)
    → AreLying f Is xs → IsPage x.content → Lies f x.page x.content → Is x.content → AreLying f Is (xs ++ x ∷ [])
lying_more f Is [] x l is lies has = ((is, lies, has), tt)
lying_more f Is (y ∷ ys) x l is lies has = (l.0, lying_more f Is ys x l.1 is lies has)

pub parts_more : {D : Type 0} (f : FramesValue D) (first p : ℕ) (c : Page) → PartsLead f first p → p ≢ 0 → IsPage c
    → Lies f p c → HasPart c → PartsLead f first (rightward c)
parts_more f first p c l some is lies has =
    let x : Read = record { length = 0; page = p; content = c } in record {
      parts = l.parts ++ x ∷ [];
      leads = lead_more first l.parts p x l.leads some refl;
      lie = lying_more f HasPart l.parts x l.lie is lies has;
    }

module _ {D Q : Type 0} (M : Meaning Q) (q : Q) (f f' : FramesValue D) (still : LieStill f f') (s s' : ScanCore) where
  -- the metapage was read
  pub meta_reached : (c : Page) (next : ℕ) → IsPage c → Lies f 0 c → HasMeta c → s.stage ≡ stage.Meta
      → next ≡ first_of c → length (lists_of s.pending) ≡ length (M.asked q) → s'.pages_read ≤ suc s.pages_read
      → s' ≡ record s { stage = s'.stage; pages_read = s'.pages_read } → s'.stage ≡ stage.Pending next s.extent
      → IsReached M q f s s.stage → IsReached M q f' s' s'.stage
  meta_reached c next is lies has at first count one same to r =
      let x : Read = record { length = 0; page = 0; content = c } in
      subst (IsReached M q f' s') (sym to)
      (subst (λ (n : ℕ). ReadsListBy (ListLies f') (M.asked q) s' n s.extent) (sym first)
      (read_still f f' still (M.asked q) s' (first_of c) s.extent
      (meta_read (ListLies f) x (M.asked q) s s' refl ((is, lies, has), tt)
      (subst (IsReached M q f s) at r) count one same)))

  -- a page of the list was read
  pub page_reached : (c : Page) (page left next : ℕ) → IsPage c → Lies f page c → HasRows c
      → s.stage ≡ stage.Pending page left → page ≢ 0 → left ≢ 0 → next ≡ rightward c → AsksFor M q s
      → ((rows : List Row) → AreNoted (asked_in s) rows s.pending
      → AreNoted (asked_in s) (rows ++ kept_rows_of c) s'.pending)
      → s'.first_item ≡ cond s.has_begun s.first_item (first_of_rows (kept_rows_of c))
      → s'.pages_read ≤ suc s.pages_read
      → s' ≡ record s {
        pending = s'.pending;
        has_begun = true;
        first_item = s'.first_item;
        stage = s'.stage;
        pages_read = s'.pages_read;
      } → s'.stage ≡ stage.Pending next (left - 1) → IsReached M q f s s.stage → IsReached M q f' s' s'.stage
  page_reached c page left next is lies has at some more right asks noted first one same to z =
      let x : Read = record { length = 0; page = page; content = c } in
      let r : ReadsListBy (ListLies f) (M.asked q) s page left = subst (IsReached M q f s) at z in
      subst (IsReached M q f' s') (sym to)
      (subst (λ (n : ℕ). ReadsListBy (ListLies f') (M.asked q) s' n (left - 1)) (sym right)
      (read_still f f' still (M.asked q) s' (rightward c) (left - 1)
      (page_read (ListLies f) x (M.asked q) s s' page left refl some more r
      (r.reads.0, lying_more f HasRows r.pending x r.reads.1 is lies has)
      (subst (λ (asked : List Asked). (rows : List Row) → AreNoted asked rows s.pending
      → AreNoted asked (rows ++ kept_rows_of c) s'.pending) asks.asked noted) first one same)))

  -- pages go further
  pub further_reached : (page more : ℕ) → s.stage ≡ stage.Pending page 0
      → s' ≡ record s { stage = stage.Pending page more; extent = s.extent + more }
      → IsReached M q f s s.stage → IsReached M q f' s' s'.stage
  further_reached page more at same z =
      let r : ReadsListBy (ListLies f) (M.asked q) s page 0 = subst (IsReached M q f s) at z in
      subst (λ (x : ScanCore). IsReached M q f' x x.stage) (sym same)
      (read_still f f' still (M.asked q)
      (record s { stage = stage.Pending page more; extent = s.extent + more }) page more
      (list_further (ListLies f) (M.asked q) s page more (stage.Pending page more) r))

-- ── heads ──

module _ (P : Vector → Type 0) (Good : LongVector → Type 0) where
  one_long : (item : ℕ) (h : Head) (old mid : ScanCore) (b : Bool)
      → (most_short < h.bytes → b ≡ false → Good (long_at item h)) → ((l : LongVector) → In l old.long.items → Good l)
      → Takes P item h old mid b → (l : LongVector) → In l mid.long.items → Good l
  one_long item h old mid true good had (Takes.sure w) l i = had l (subst (λ ls. In l ls.items) w.1 i)
  one_long item h old mid false good had (Takes.long more w) l i =
      elim (in_either l old.long.items (long_at item h ∷ []) (subst (In l) w.1 i)) [
        | inl m ↦ had l m
        | inr (inl e) ↦ subst Good (sym e) (good more refl)
        | inr (inr m) ↦ absurd m
      ]
  one_long item h old mid false good had (Takes.found few tells w) l i = had l (subst (λ ls. In l ls.items) w.1 i)
  one_long item h old mid false good had (Takes.none few tells same) l i =
      had l (subst (λ (z : ScanCore). In l z.long.items) same i)

  module _ (c : Page) where
    if_seen : (k : ℕ × Bool) (b : Bool) (old mid : ScanCore)
        → (IsTrue b → (h : Head) × (head_on c (slot_of k.0) ≡ Some h))
        → ((h : Head) → head_on c (slot_of k.0) ≡ Some h → most_short < h.bytes → k.1 ≡ false → Good (long_at k.0 h))
        → ((l : LongVector) → In l old.long.items → Good l) → TakesIfSeen P c k b old mid
        → ((l : LongVector) → In l mid.long.items → Good l) × (mid.kept ≡ old.kept)
    if_seen k false old mid is good had same =
        ((λ l i. had l (subst (λ (z : ScanCore). In l z.long.items) same i)), ap (λ (z : ScanCore). z.kept) same)
    if_seen k true old mid is good had takes =
        let h = is refl in
        let t = takes h.0 h.1 in (
          one_long k.0 h.0 old mid k.1 (good h.0 h.1) had t.takes,
          ap (λ (z : ScanCore). z.kept) t.rest,
        )

    -- each vector that waits then is good, where those before are, and those of the heads that are seen
    pub long_met : (kept : List (ℕ × Bool)) (from : ℕ) (seen : List Bool) (old new : ScanCore) → old.kept.items ≡ kept
        → ((j : ℕ) (k : ℕ × Bool) (b : Bool) → slice_get kept (from + j) ≡ Some k → slice_get seen j ≡ Some b
        → (IsTrue b → (h : Head) × (head_on c (slot_of k.0) ≡ Some h))
        × ((h : Head) → head_on c (slot_of k.0) ≡ Some h → most_short < h.bytes → k.1 ≡ false → Good (long_at k.0 h)))
        → ((l : LongVector) → In l old.long.items → Good l) → TakesDocuments P c from seen old new
        → (l : LongVector) → In l new.long.items → Good l
    long_met kept from [] old new same told had takes =
        λ l i. had l (subst (λ (z : ScanCore). In l z.long.items) takes i)
    long_met kept from (b ∷ seen) old new same told had takes =
        let k = takes.0 in
        let at : slice_get kept from ≡ Some k =
        subst (λ (ks : List (ℕ × Bool)). slice_get ks from ≡ Some k) same takes.1 in
        let mid = takes.2.0 in
        let here = told 0 k b (subst (λ (n : ℕ). slice_get kept n ≡ Some k) (omega arith) at) refl in
        let one = if_seen k b old mid here.0 here.1 had takes.2.1 in
        long_met kept (suc from) seen mid new (ap (λ z. z.items) one.1 ∙ same)
        (λ j m d e g. told (suc j) m d (subst (λ (n : ℕ). slice_get kept n ≡ Some m) (omega arith) e) g) one.0 takes.2.2

module _ {D Q : Type 0} (M : Meaning Q) (q : Q) (f : FramesValue D) where
  pub met_as : (s s' : ScanCore) → s'.kept.items ≡ s.kept.items → sought_in s' ≡ sought_in s → HasMet M q f s
      → HasMet M q f s'
  met_as s s' same sought m = record {
    walk = m.walk;
    page = m.page;
    leads = subst (λ (ss : List Sought). WalkLeads f ss m.walk m.page) (sym sought) m.leads;
    kept = subst (AreKept M q m.walk) (sym same) m.kept;
  }

  pub long_as : (s s' : ScanCore) → s'.kept.items ≡ s.kept.items → s'.long.items ≡ s.long.items → HasMetLong M q f s
      → HasMetLong M q f s'
  long_as s s' kept long m l i =
      let h = m l (subst (In l) long i) in (h.0, subst (In (h.0, false)) (sym kept) h.1, h.2)

  -- the heads of the kept items on a heap page were read
  pub heads_reached : (s new : ScanCore) (at end number : ℕ) (c : Page) (fates : ℕ → Fate) (seen : List Bool)
      → at ≤ end → end ≤ length s.kept.items
      → ((k item : ℕ) (sure : Bool) → at ≤ k → k < end → slice_get s.kept.items k ≡ Some (item, sure)
      → page_of item ≡ number)
      → IsPage c → Lies f number c
      → AreSeen fates s.snapshot c (slice_range s.kept.items at end) seen
      → TakesDocuments (M.satisfies q) c at seen (record s { heads_read = new.heads_read }) new
      → new.kept.items ≡ s.kept.items → sought_in new ≡ sought_in s → HasMet M q f s → HasMetLong M q f s
      → HasMet M q f new × HasMetLong M q f new
  heads_reached s new at end number c fates seen ordered within here is lies are takes kept sought met long =
      let count : length seen ≡ end - at = seen_length fates s.snapshot c (slice_range s.kept.items at end) seen are
      ∙ range_length s.kept.items at end within in
      let each = long_met (M.satisfies q)
      (λ (l : LongVector). (item : ℕ) × In (item, false) s.kept.items × HeadLeads f item l.first) c s.kept.items at seen
      (record s { heads_read = new.heads_read }) new refl (λ j k b e g.
      let low : at + j < end = omega (arith, slice_get_within seen j b g, count, ordered) in
      let w = seen_at fates s.snapshot c (slice_range s.kept.items at end) seen are j k b
      (get_range s.kept.items at end j (at + j) refl low ∙ e) g in (
        (λ t. let s = w.0 t in (s.head, s.at)),
        (λ h on more unsure. (
          k.0,
          subst (λ (z : Bool). In (k.0, z) s.kept.items) unsure (element_in k s.kept.items (at + j) e),
          record {
            content = c;
            is_page = is;
            lies = subst (λ (n : ℕ). Lies f n c) (sym (here (at + j) k.0 k.1 (omega arith) low e)) lies;
            head = h;
            at = on;
            long = more;
            first_is = refl;
          },
        )),
      )) long takes in
      (met_as s new kept sought met, λ l i. let h = each l i in (h.0, subst (In (h.0, false)) (sym kept) h.1, h.2))

  -- the next vector begins, or the scan ends
  pub begun_reached : (s s' : ScanCore) (at : ℕ) → HasMet M q f s → HasMetLong M q f s → BeginsLong s at s'
      → IsReached M q f s' s'.stage
  begun_reached s s' at met long (BeginsLong.next l there small none same) =
      let z : ScanCore = record s { bytes = s'.bytes; stage = stage.Parts at l.first s.extent } in
      subst (λ (x : ScanCore). IsReached M q f x x.stage) (sym same) (
        met_as s z refl refl met,
        long_as s z refl refl long,
        (λ m e. record {
          parts = [];
          leads = ap (λ (v : LongVector). v.first) (one_some m l (sym e ∙ there));
          lie = tt;
        }),
      )
    where
      one_some : (a b : LongVector) → Some a ≡ Some b → a ≡ b
      one_some a b e = cc
  begun_reached s s' at met long (BeginsLong.end past order up same) =
      let z : ScanCore = record s { names = s'.names; stage = stage.Done } in
      subst (λ (x : ScanCore). IsReached M q f x x.stage) (sym same) tt

  -- ── a bad page ──

  -- a chain has ended at 0, where no page is met
  above : (page p : ℕ) → p ≡ page → (page ≡ 0 → BadPage p ≡ OutOfMemory) → p ≢ 0
  above page p same end none = let e = end (sym same ∙ none) in let n : ⊥ = cc in n

  -- what a scan of the query looks for
  sought_for : (s : ScanCore) → IsScan s → AsksFor M q s → AreSought M q (sought_in s)
  sought_for s is asks =
      order_sought M q (order_in s)
      (subst (λ (asked : List Asked). AreOrdered asked (order_in s)) asks.asked is.ordered) s.keys.all asks.all

  -- the walk that is open is one of those that were read
  last_lies : (s : ScanCore) (key left : ℕ) (Open : Sought → List KeyWalk → Type 0)
      (r : IsOnTree M q f s key left Open) (k : KeyWalk) → r.keys.last ≡ k ∷ [] → WayLies f k
  last_lies s key left Open r k last =
      r.so_far.reads.ways k
      (subst (In k) (sym (r.keys.walks ∙ ap (λ (ks : List KeyWalk). r.keys.over ++ ks) last))
      (in_back k r.keys.over (k ∷ []) (inl refl)))

  pub bad_reached : (s : ScanCore) (z : Stage) (p : ℕ) → IsScan s → AsksFor M q s → IsWithin s z → IsReached M q f s z
      → CannotStep f s z (BadPage p) → IsBadOnPath M q f p
  bad_reached s stage.Meta p scan asks is r c = IsBadOnPath.meta c.0 (subst (CannotUse f HasMeta) (sym c.0) c.1)
  bad_reached s (stage.Pending page left) p scan asks is r c =
      IsBadOnPath.rows (record { meta = r.meta; pending = r.pending; keys = [] })
      (subst (ListLeads f (record { meta = r.meta; pending = r.pending; keys = [] })) (sym c.0.0)
      (record { meta_page = r.meta_page; leads = r.leads; lie = r.reads }))
      (above page p c.0.0 c.1) (subst (CannotUse f HasRows) (sym c.0.0) c.0.1)
  bad_reached s (stage.Down key page left) p scan asks is r (inl e) = absurd (let n : ⊥ = cc in n)
  bad_reached s (stage.Down key page left) p scan asks is r (inr c) =
      let k = one_down page c.0 r.keys.last (r.keys.begun c.0 c.1) in
      IsBadOnPath.way (sought_in s) k.0 (sought_for s scan asks)
      (subst (λ (u : Sought). In u (sought_in s)) (sym k.2) (element_in c.0 (sought_in s) key c.1))
      (last_lies s key left (IsGoingDown page) r k.0 k.1) (subst (IsOnWay k.0) (sym c.2.0) k.3)
      (subst (λ (u : Sought). CannotUse f (HasWay u) p) (sym k.2) (subst (CannotUse f (HasWay c.0)) (sym c.2.0) c.2.1))
  bad_reached s (stage.Leaf key page left) p scan asks is r (inl e) = absurd (let n : ⊥ = cc in n)
  bad_reached s (stage.Leaf key page left) p scan asks is r (inr c) =
      let w = element_at (sought_in s) key is in
      let k = one_along ReadsInTree page w.0 r.keys.last (r.keys.begun w.0 w.1) in
      IsBadOnPath.leaf (sought_in s) k.0 (sought_for s scan asks)
      (subst (λ (u : Sought). In u (sought_in s)) (sym k.2) (element_in w.0 (sought_in s) key w.1))
      (last_lies s key left (IsGoingAlong ReadsInTree page) r k.0 k.1)
      (subst (IsAmongLeaves ReadsInTree k.0) (sym c.1.0) k.3) (λ e. c.0 (sym c.1.0 ∙ e))
      (subst (CannotUse f IsLeaf) (sym c.1.0) c.1.1)
  bad_reached s (stage.Posting key at page left next read) p scan asks is r (inl e) = absurd (let n : ⊥ = cc in n)
  bad_reached s (stage.Posting key at page left next read) p scan asks is r (inr c) =
      let w = element_at (sought_in s) key is.0 in
      let trees = trees_from at s in
      let k = one_in_trees ReadsInTree page left s.extent trees next w.0 r.1.keys.last (r.1.keys.begun w.0 w.1) in
      IsBadOnPath.posting (sought_in s) k.0 k.3 next (sought_for s scan asks)
      (subst (λ (u : Sought). In u (sought_in s)) (sym k.2) (element_in w.0 (sought_in s) key w.1))
      (last_lies s key (s.extent - read) (IsGoingInTrees ReadsInTree page left s.extent trees next) r.1 k.0 k.1)
      (subst (λ (n : ℕ). IsInTrees ReadsInTree k.0 n k.3 next) (sym c.1.0) k.4) (λ e. c.0 (sym c.1.0 ∙ e))
      (subst (CannotUse f IsPostingPage) (sym c.1.0) c.1.1)
  bad_reached s (stage.Heads at) p scan asks is r (inl e) = absurd (let n : ⊥ = cc in n)
  bad_reached s (stage.Heads at) p scan asks is r (inr c) =
      let met = r.0 in
      IsBadOnPath.heap (sought_in s) met.walk met.page c.0 (sought_for s scan asks) met.leads
      (kept_of met c.0 c.1 (element_in (c.0, c.1) s.kept.items at c.2))
      (sym c.3.0) (subst (CannotUse f HasSlots) (sym c.3.0) c.3.1)
    where
      kept_of : (m : HasMet M q f s) (i : ℕ) (b : Bool) → In (i, b) s.kept.items → IsKept M q m.walk i
      kept_of m i b there = (m.kept.just i).0 (in_map (λ (k : ℕ × Bool). k.0) (i, b) s.kept.items there)
  bad_reached s (stage.Parts at page left) p scan asks is r c =
      let met = r.0 in
      let l = element_at s.long.items at is in
      let h = r.1 l.0 (element_in l.0 s.long.items at l.1) in
      IsBadOnPath.part (sought_in s) met.walk met.page h.0 l.0.first (sought_for s scan asks) met.leads
      ((met.kept.just h.0).0 (in_map (λ (k : ℕ × Bool). k.0) (h.0, false) s.kept.items h.1)) h.2
      (subst (PartsLead f l.0.first) (sym c.0.0) (r.2 l.0 l.1)) (above page p c.0.0 c.1)
      (subst (CannotUse f HasPart) (sym c.0.0) c.0.1)
  bad_reached s stage.Done p scan asks is r c = absurd c

-- a step that was taken after a look
pub stepped_before : {D Q : Type 0} (device : Disk D) (M : Meaning Q) (q : Q) (f f' : FramesValue D) (s : ScanCore)
    (pass pass' : Pass) (s' : ScanCore) → LieStill f f' → pass'.holds ≡ pass.holds
    → HasStepped device M q f' pass' s f' pass' s' → HasStepped device M q f pass s f' pass' s'
stepped_before device M q f f' s pass pass' s' still holds h = record {
  scanning = h.scanning;
  asks = h.asks;
  walk = h.walk;
  lower = h.lower;
  reached = λ r. h.reached (reached_still f f' still M q s s.stage r);
  counted = λ before had. h.counted before (subst (λ (n : ℕ). IsCounted before s n) (sym holds) had);
}
