-- A leaf on which an entry takes items.
use Rattle.std.proofs.Common.{◌≡◌, ◌≢◌, ◌+◌, ◌≤◌, ℕ, suc, Bool, true, false, ltb, List, [], ◌∷◌, ◌++◌, length, take}
use Rattle.std.proofs.Common.{drop, get_or, refl, sym, ap, subst, subst₂, ◌∙◌, inl, inr, arith, Bor, zero}
use Rattle.std.specs.Prelude.{Some, not, bytes_eq}
use Rattle.std.specs.Cmp.Lexicographic.{bytes_decides}
use Rattle.std.specs.List.{slice_get, AllByRecursion}
use Rattle.std.proofs.lemmas.Bool.{lt-ltb, le-ltb, ltb-true, not-false}
use Rattle.std.proofs.lemmas.List.{length-append}
use Rattle.ts_base.specs.Keys.{Key}
use Rattle.page_types.specs.Items.{IsItemList}
use Rattle.page_types.specs.Keys.{KeyLess, Rising}
use Rattle.page_types.specs.Pages.{IsBody, IsPage, IsEntry, AreEntries}
use Rattle.page_types.specs.Parts.{entry_shown, postings_shown}
use Rattle.page_types.specs.declared.entries.EntryRef.{EntryRef}
use Rattle.page_types.specs.declared.entries.PostingsRef.{PostingsRef}
use Rattle.page_types.specs.declared.entries.PostingsRef.TheVariants as by_ref
use Rattle.page_types.specs.declared.page.Page.{Page}
use Rattle.page_types.specs.declared.page.Entry.{Entry}
use Rattle.page_types.specs.declared.page.Postings.{Postings}
use Rattle.page_types.specs.declared.page.Postings.TheVariants.{Inline}
use Rattle.page_types.specs.declared.page.Body.{Body}
use Rattle.page_types.specs.declared.page.Body.TheVariants as body
use Rattle.page_types.specs.declared.record.Record.{Record}
use Rattle.page_types.specs.declared.record.Kind.TheVariants as kind
use Rattle.core_state.specs.Log.{In}
use Rattle.core_state.specs.Known.{Known}
use Rattle.core_state.specs.Changes.{made_with, UpTo}
use Rattle.core_state.specs.TreeRules.{IsAddItemsHere, IsAddPostingsHere}
use Rattle.core_state.specs.Inner.Members.{Shared}
use Rattle.core_state.specs.Inner.TreeItems.{Takes, HadList, TakesEntry, LeafLeft, LeavesEntries, LeavesPostings}
use Rattle.core_state.proofs.Trees.Orders.{key_order}
use Rattle.core_state.proofs.LinkedHeads.{one_changed, first_in}
use Rattle.core_state.proofs.SharedFronts.{shared_place, cut_at, cut_apart, get_behind, drop_behind, drop_front}
use Rattle.core_state.proofs.SharedFronts.{there_below}
use Rattle.page_types.proofs.ItemReading.{is_list}
use Rattle.core_state.proofs.TakenItems.{added_by, by_added}

abbrev pub list_entry : Key → List ℕ → Entry
list_entry key list = record { key = key; postings = Inline list }

pub same_entry : (key other : Key) (list more : List ℕ) → list_entry key list ≡ list_entry other more
    → (key ≡ other) × (list ≡ more)
same_entry key other list more e =
    let lists : Inline list ≡ Inline more = ap (λ (x : Entry). x.postings) e in
    (ap (λ (x : Entry). x.key) e, cc)

-- ---- lists that rise

all_in : {A : Type 0} (T : A → Type 0) (xs : List A) (x : A) → AllByRecursion T xs → In x xs → T x
all_in T [] x h w = absurd w
all_in T (y ∷ ys) x h (inl e) = subst T (sym e) h.0
all_in T (y ∷ ys) x h (inr w) = all_in T ys x h.1 w

all_mid : {A : Type 0} (T : A → Type 0) (front : List A) (x : A) (back : List A)
    → AllByRecursion T (front ++ x ∷ back) → T x
all_mid T [] x back h = h.0
all_mid T (y ∷ front) x back h = all_mid T front x back h.1

pub rises_before : {A : Type 0} (R : A → A → Type 0) (front : List A) (x : A) (back : List A)
    → Rising R (front ++ x ∷ back) → (y : A) → In y front → R y x
rises_before R [] x back h y w = absurd w
rises_before R (z ∷ front) x back h y (inl e) =
    subst (λ a. R a x) (sym e) (all_mid (R z) front x back h.0)
rises_before R (z ∷ front) x back h y (inr w) = rises_before R front x back h.1 y w

pub rises_behind : {A : Type 0} (R : A → A → Type 0) (front : List A) (x : A) (back : List A)
    → Rising R (front ++ x ∷ back) → (y : A) → In y back → R x y
rises_behind R [] x back h y w = all_in (R x) back y h.0 w
rises_behind R (z ∷ front) x back h y w = rises_behind R front x back h.1 y w

-- ---- an entry that takes items

pub had_within : (es : List Entry) (k : ℕ) (key : Key) (comes : Bool) (list : List ℕ) (next : ℕ) → comes ≡ false
    → HadList es k key comes list next → suc k ≤ length es
had_within es k key _ _ _ e HadList.comes = absurd (cc (e))
had_within es k key _ _ _ e (HadList.was list next at n) = there_below es k (list_entry key list) at

pub entry_told : (high key : Key) (es fs : List Entry) (k : ℕ) (list was : List ℕ) (comes : Bool) (next : ℕ)
    → Shared es fs k → slice_get fs k ≡ Some (list_entry key list) → HadList es k key comes was next
    → drop next es ≡ drop (suc k) fs → UpTo key high → Takes 0 was list → TakesEntry high es fs
entry_told high key es fs k list _ _ _ s at HadList.comes same up t = record {
  key = key;
  front = take k fs;
  back = drop (suc k) fs;
  old_list = [];
  new_list = list;
  within = up;
  entry = inr (
    cut_apart es k ∙ ap (λ (xs : List Entry). xs ++ drop k es) s.front
        ∙ ap (λ (xs : List Entry). take k fs ++ xs) same,
    refl,
  );
  takes = t;
  after = cut_at fs k (list_entry key list) at;
}
entry_told high key es fs k list _ _ _ s at (HadList.was was next was_at n) same up t = record {
  key = key;
  front = take k fs;
  back = drop (suc k) fs;
  old_list = was;
  new_list = list;
  within = up;
  entry = inl (cut_at es k (list_entry key was) was_at
      ∙ ap (λ (xs : List Entry). xs ++ list_entry key was ∷ drop (suc k) es) s.front
      ∙ ap (λ (xs : List Entry). take k fs ++ list_entry key was ∷ xs)
      (ap (λ (i : ℕ). drop i es) (sym n) ∙ same));
  takes = t;
  after = cut_at fs k (list_entry key list) at;
}

-- no list takes its own items
not_own : (list : List ℕ) → Takes 0 list list → ⊥
not_own list t = elim t.more [ inl e ↦ absurd (cc (e)) | inr w ↦ w.2 w.1 ]

module _ (high : Key) (es fs : List Entry) (are : AreEntries fs) (w : TakesEntry high es fs) where
  rise : Rising (λ (d e : Entry). KeyLess d.key e.key) (w.front ++ list_entry w.key w.new_list ∷ w.back)
  rise = subst (Rising (λ (d e : Entry). KeyLess d.key e.key)) w.after are.rising

  apart_same : (x : Entry) (more : List Entry) → list_entry w.key w.old_list ∷ w.back ≡ x ∷ more
      → x ≢ list_entry w.key w.new_list
  apart_same x more e f =
      let heads : list_entry w.key w.old_list ≡ x = cc in
      let lists : w.old_list ≡ w.new_list = (same_entry w.key w.key w.old_list w.new_list (heads ∙ f)).1 in
      not_own w.new_list (subst (λ (l : List ℕ). Takes 0 l w.new_list) lists w.takes)

  apart_new : (x : Entry) (more : List Entry) → w.back ≡ x ∷ more → x ≢ list_entry w.key w.new_list
  apart_new x more e f =
      let there : In x w.back = subst (In x) (sym e) (inl refl) in
      let less : KeyLess w.key x.key = rises_behind (λ (d e : Entry). KeyLess d.key e.key) w.front
      (list_entry w.key w.new_list) w.back rise x there in
      key_order.irrefl w.key (subst (λ (z : Entry). KeyLess w.key z.key) f less)

  -- where the leaves differ
  pub entry_place : (k : ℕ) → Shared es fs k → k ≡ length w.front
  entry_place k s = elim w.entry [
    | inl e ↦
        shared_place w.front (list_entry w.key w.old_list ∷ w.back) (list_entry w.key w.new_list) w.back k apart_same
        (subst₂ (λ (a b : List Entry). Shared a b k) e w.after s)
    | inr e ↦
        shared_place w.front w.back (list_entry w.key w.new_list) w.back k apart_new
        (subst₂ (λ (a b : List Entry). Shared a b k) e.0 w.after s)
  ]

  pub entry_at : (k : ℕ) → Shared es fs k → slice_get fs k ≡ Some (list_entry w.key w.new_list)
  entry_at k s =
      ap (slice_get fs) (entry_place k s)
      ∙ ap (λ (xs : List Entry). slice_get xs (length w.front)) w.after
      ∙ get_behind w.front (list_entry w.key w.new_list) w.back

  size_new : length fs ≡ length w.front + suc (length w.back)
  size_new = ap length w.after ∙ length-append w.front (list_entry w.key w.new_list ∷ w.back)

  -- which list it had
  pub entry_had : (k : ℕ) → Shared es fs k → (key : Key) → key ≡ w.key → (comes : Bool)
      → comes ≡ ltb (length es) (length fs) → (list : List ℕ) × (next : ℕ) × HadList es k key comes list next
  entry_had k s key same comes is = elim w.entry [
    | inl e ↦
        let size : length es ≡ length w.front + suc (length w.back) =
        ap length e ∙ length-append w.front (list_entry w.key w.old_list ∷ w.back) in
        let stays : false ≡ comes = sym (is ∙ le-ltb (length es) (length fs) (omega (arith, size, size_new))) in
        let at : slice_get es k ≡ Some (list_entry key w.old_list) = ap (slice_get es) (entry_place k s)
        ∙ ap (λ (xs : List Entry). slice_get xs (length w.front)) e
        ∙ get_behind w.front (list_entry w.key w.old_list) w.back
        ∙ ap (λ (z : Key). Some (list_entry z w.old_list)) (sym same) in (
          w.old_list,
          suc k,
          subst (λ (b : Bool). HadList es k key b w.old_list (suc k)) stays
              (HadList.was w.old_list (suc k) at refl),
        )
    | inr e ↦
        let size : length es ≡ length w.front + length w.back = ap length e.0 ∙ length-append w.front w.back in
        let new : true ≡ comes = sym (is ∙ lt-ltb (length es) (length fs) (omega (arith, size, size_new))) in
        ([], k, subst (λ (b : Bool). HadList es k key b [] k) new HadList.comes)
  ]

  -- what is asked of the entry and the list that are found
  pub record EntryTaken (k : ℕ) (key : Key) (list was : List ℕ) (next : ℕ) : Type 0 where
    pub within : UpTo key high
    pub takes : Takes 0 was list
    pub same : drop next es ≡ drop (suc k) fs

  pub entry_back : (k : ℕ) → Shared es fs k → (key : Key) (list was : List ℕ) (comes : Bool) (next : ℕ)
      → slice_get fs k ≡ Some (list_entry key list) → comes ≡ ltb (length es) (length fs)
      → HadList es k key comes was next → EntryTaken k key list was next
  entry_back k s key list was comes next at is had =
      let both : Some (list_entry key list) ≡ Some (list_entry w.key w.new_list) = sym at ∙ entry_at k s in
      let one : list_entry key list ≡ list_entry w.key w.new_list = cc in
      let parts = same_entry key w.key list w.new_list one in
      let keys : key ≡ w.key = parts.0 in
      let lists : list ≡ w.new_list = parts.1 in
      let behind : w.back ≡ drop (suc k) fs = sym (ap (λ (i : ℕ). drop (suc i) fs) (entry_place k s)
      ∙ ap (drop (suc (length w.front))) w.after ∙ drop_behind w.front (list_entry w.key w.new_list) w.back) in
      let old = had_back k s key keys was comes next is had in
      record {
        within = subst (λ (z : Key). UpTo z high) (sym keys) w.within;
        takes = subst₂ (Takes 0) (sym old.0) (sym lists) w.takes;
        same = old.1 ∙ behind;
      }
    where
      had_back : (k : ℕ) → Shared es fs k → (key : Key) → key ≡ w.key → (was : List ℕ) (comes : Bool) (next : ℕ)
          → comes ≡ ltb (length es) (length fs) → HadList es k key comes was next
          → (was ≡ w.old_list) × (drop next es ≡ w.back)
      had_back k s key keys _ _ _ is HadList.comes = elim w.entry [
        | inl e ↦
            let size : length es ≡ length w.front + suc (length w.back) =
            ap length e ∙ length-append w.front (list_entry w.key w.old_list ∷ w.back) in
            absurd (omega (arith, ltb-true (length es) (length fs) (sym is), size, size_new))
        | inr e ↦ (
          sym e.1,
          ap (λ (i : ℕ). drop i es) (entry_place k s) ∙ ap (drop (length w.front)) e.0
              ∙ drop_front w.front w.back,
        )
      ]
      had_back k s key keys _ _ _ is (HadList.was was next at n) = elim w.entry [
        | inl e ↦
            let there : Some (list_entry key was) ≡ Some (list_entry w.key w.old_list) =
            sym at ∙ ap (slice_get es) (entry_place k s)
            ∙ ap (λ (xs : List Entry). slice_get xs (length w.front)) e
            ∙ get_behind w.front (list_entry w.key w.old_list) w.back in
            let one : list_entry key was ≡ list_entry w.key w.old_list = cc in (
              (same_entry key w.key was w.old_list one).1,
              ap (λ (i : ℕ). drop i es) (n ∙ ap suc (entry_place k s)) ∙ ap (drop (suc (length w.front))) e
                  ∙ drop_behind w.front (list_entry w.key w.old_list) w.back,
            )
        | inr e ↦
            let size : length es ≡ length w.front + length w.back = ap length e.0 ∙ length-append w.front w.back in
            let lt : ltb (length es) (length fs) ≡ true =
            lt-ltb (length es) (length fs) (omega (arith, size, size_new)) in
            let clash : false ≡ true = is ∙ lt in
            absurd (cc (clash))
      ]

-- of the entry that is found
pub entry_found : (high : Key) (es fs : List Entry) (are : AreEntries fs) (w : TakesEntry high es fs) (k : ℕ)
    → Shared es fs k → (x : EntryRef) → slice_get fs k ≡ Some (entry_shown x)
    → (x.key.now ≡ w.key) × (postings_shown x.postings ≡ Inline w.new_list)
entry_found high es fs are w k s x at =
    let both : Some (entry_shown x) ≡ Some (list_entry w.key w.new_list) = sym at ∙ entry_at high es fs are w k s in
    let one : entry_shown x ≡ list_entry w.key w.new_list = cc in
    (ap (λ (z : Entry). z.key) one, ap (λ (z : Entry). z.postings) one)

pub inline_ref : (p : PostingsRef) (list : List ℕ) → ((x : Bor (List ℕ)) → p ≡ by_ref.Inline x → ⊥)
    → postings_shown p ≡ Inline list → ⊥
inline_ref (by_ref.Inline x) list not e = not x refl
inline_ref (by_ref.Root x) list not e = absurd (cc (e))

-- lists are item lists
get_each : {A : Type 0} (T : A → Type 0) (xs : List A) (k : ℕ) (x : A) → AllByRecursion T xs
    → slice_get xs k ≡ Some x → T x
get_each T [] k x h e = absurd (cc (e))
get_each T (y ∷ xs) zero x h e = let same : y ≡ x = cc in subst T same h.0
get_each T (y ∷ xs) (suc k) x h e = get_each T xs k x h.1 e

pub listed_items : (fs : List Entry) (k : ℕ) (key : Key) (list : List ℕ) → AreEntries fs
    → slice_get fs k ≡ Some (list_entry key list) → IsItemList list
listed_items fs k key list are at = (get_each IsEntry fs k (list_entry key list) are.each at).postings.1

pub had_items : (es : List Entry) (k : ℕ) (key : Key) (comes : Bool) (list : List ℕ) (next : ℕ) → AreEntries es
    → HadList es k key comes list next → IsItemList list
had_items es k key _ _ _ are HadList.comes = (is_list [] [] tt refl).0
had_items es k key _ _ _ are (HadList.was list next at n) = listed_items es k key list are at

pub had_next : (es fs : List Entry) (k : ℕ) (key : Key) (comes : Bool) (list : List ℕ) (next : ℕ) → Shared es fs k
    → HadList es k key comes list next → next ≤ length es
had_next es fs k key _ _ _ s HadList.comes = s.within_a
had_next es fs k key _ _ _ s (HadList.was list next at n) =
    omega (arith, n, there_below es k (list_entry key list) at)

-- what a test of bytes says
pub bytes_same : (x y : List ℕ) (r : Bool) → r ≡ not (bytes_eq x y) → r ≡ false → x ≡ y
bytes_same x y r e f = (bytes_decides x y).0 (not-false _ (sym e ∙ f))

pub bytes_differ : (x y : List ℕ) (r : Bool) → r ≡ not (bytes_eq x y) → r ≡ true → x ≡ y → ⊥
bytes_differ x y r e t same =
    let yes : bytes_eq x y ≡ true = (bytes_decides x y).1 same in
    let no : not (bytes_eq x y) ≡ true = sym e ∙ t in
    absurd (cc (ap not yes, no))

-- an entry by its parts
pub entry_is : (x : EntryRef) (key list : List ℕ) → x.key.now ≡ key → postings_shown x.postings ≡ Inline list
    → entry_shown x ≡ list_entry key list
entry_is x key list k p =
    ap (λ (z : Key). record { key = z; postings = postings_shown x.postings }) k
    ∙ ap (λ (z : Postings). record { key = key; postings = z }) p

-- ---- pages

pub leaf_entries : (p : Page) (high : Key) (es : List Entry) → IsPage p → p.body ≡ body.EntryLeaf high es
    → AreEntries es
leaf_entries p high es is e = (subst (IsBody p.right p.stamp) e is.body).1

pub post_items : (p : Page) (high : ℕ) (items : List ℕ) → IsPage p → p.body ≡ body.PostLeaf high items
    → IsItemList items
post_items p high items is e = (subst (IsBody p.right p.stamp) e is.body).1

same_leaf : (high other : Key) (es fs : List Entry) (b : Body) → b ≡ body.EntryLeaf high es
    → b ≡ body.EntryLeaf other fs → (high ≡ other) × (es ≡ fs)
same_leaf high other es fs b e f =
    let both : body.EntryLeaf high es ≡ body.EntryLeaf other fs = sym e ∙ f in (cc, cc)

pub items_told : (k : Known) (r : Record) (old new : Page) (before after : List Page) → r.kind ≡ kind.AddItems
    → length r.changes ≡ 1 → before ≡ old ∷ [] → after ≡ new ∷ [] → IsPage new → LeavesEntries r old new
    → IsAddItemsHere k r before after
items_told k r old new before after e n before_is after_is page a =
    let one = one_changed r.changes n in
    let w = a.takes in
    let are : AreEntries a.then = leaf_entries new a.high a.then page (ap (λ (p : Page). p.body) a.left.after) in
    let rise : Rising (λ (d e : Entry). KeyLess d.key e.key) (w.front ++ list_entry w.key w.new_list ∷ w.back) =
    subst (Rising (λ (d e : Entry). KeyLess d.key e.key)) w.after are.rising in
    let entry : IsEntry (list_entry w.key w.new_list) =
    all_mid IsEntry w.front (list_entry w.key w.new_list) w.back (subst (AllByRecursion IsEntry) w.after are.each) in
    let more = added_by 0 w.old_list w.new_list entry.postings.1 w.takes in
    record {
      page = one.0;
      key = w.key;
      items = more.0;
      high = a.high;
      entries = a.entries;
      front = w.front;
      back = w.back;
      old_list = w.old_list;
      new_list = w.new_list;
      old = old;
      kind_is = e;
      pages = one.1;
      within = w.within;
      before_is = before_is;
      was = a.left.was;
      entry = w.entry;
      above = rises_before (λ (d e : Entry). KeyLess d.key e.key) w.front (list_entry w.key w.new_list) w.back rise;
      below = rises_behind (λ (d e : Entry). KeyLess d.key e.key) w.front (list_entry w.key w.new_list) w.back rise;
      added = more.1;
      short = entry.postings.0;
      after_is = after_is ∙ ap (λ (p : Page). p ∷ []) (a.left.after
          ∙ ap (λ (xs : List Entry). made_with r old.right (body.EntryLeaf a.high xs)) w.after);
    }

pub items_back : (k : Known) (r : Record) (old new : Page) (before after : List Page) → old ≡ get_or before 0 old
    → new ≡ get_or after 0 new → IsAddItemsHere k r before after → LeavesEntries r old new
items_back k r old new before after old_is new_is w =
    let was : w.old ≡ old = first_in before old w.old [] w.before_is old_is in
    let entries : List Entry = w.front ++ list_entry w.key w.new_list ∷ w.back in
    let then : Page = made_with r w.old.right (body.EntryLeaf w.high entries) in
    let now : then ≡ new = first_in after new then [] w.after_is new_is in
    let same : LeavesEntries r w.old then = record {
      high = w.high;
      entries = w.entries;
      then = entries;
      left = record { was = w.was; after = refl };
      takes = record {
        key = w.key;
        front = w.front;
        back = w.back;
        old_list = w.old_list;
        new_list = w.new_list;
        within = w.within;
        entry = w.entry;
        takes = by_added 0 w.old_list w.new_list w.items w.added (λ i v. inl refl);
        after = refl;
      };
    } in
    subst (LeavesEntries r old) now (subst (λ (p : Page). LeavesEntries r p then) was same)

-- of a leaf's parts
pub left_same : (r : Record) (old new : Page) (high other : Key) (es fs gs hs : List Entry)
    → LeafLeft r old new high es fs → LeafLeft r old new other gs hs
    → (high ≡ other) × (es ≡ gs) × (fs ≡ hs)
left_same r old new high other es fs gs hs a b =
    let before = same_leaf high other es gs old.body a.was b.was in
    let after = same_leaf high other fs hs new.body (ap (λ (p : Page). p.body) a.after)
    (ap (λ (p : Page). p.body) b.after) in
    (before.0, before.1, after.1)

-- ---- a posting leaf

pub postings_told : (k : Known) (r : Record) (old new : Page) (before after : List Page) → r.kind ≡ kind.AddPostings
    → length r.changes ≡ 1 → before ≡ old ∷ [] → after ≡ new ∷ [] → IsPage new → LeavesPostings r old new
    → IsAddPostingsHere k r before after
postings_told k r old new before after e n before_is after_is page a =
    let one = one_changed r.changes n in
    let list : IsItemList a.new_list = post_items new a.high a.new_list page (ap (λ (p : Page). p.body) a.after) in
    let more = added_by a.high a.old_list a.new_list list a.takes in
    record {
      page = one.0;
      items = more.0;
      high = a.high;
      old_list = a.old_list;
      new_list = a.new_list;
      old = old;
      kind_is = e;
      pages = one.1;
      within = more.2;
      before_is = before_is;
      was = a.was;
      added = more.1;
      after_is = after_is ∙ ap (λ (p : Page). p ∷ []) a.after;
    }

pub postings_back : (k : Known) (r : Record) (old new : Page) (before after : List Page) → old ≡ get_or before 0 old
    → new ≡ get_or after 0 new → IsAddPostingsHere k r before after → LeavesPostings r old new
postings_back k r old new before after old_is new_is w =
    let was : w.old ≡ old = first_in before old w.old [] w.before_is old_is in
    let then : Page = made_with r w.old.right (body.PostLeaf w.high w.new_list) in
    let now : then ≡ new = first_in after new then [] w.after_is new_is in
    let same : LeavesPostings r w.old then = record {
      high = w.high;
      old_list = w.old_list;
      new_list = w.new_list;
      was = w.was;
      takes = by_added w.high w.old_list w.new_list w.items w.added w.within;
      after = refl;
    } in
    subst (LeavesPostings r old) now (subst (λ (p : Page). LeavesPostings r p then) was same)
