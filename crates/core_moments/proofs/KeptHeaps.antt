-- The page of each item that a walk from a pin keeps is a heap page.
use Rattle.std.proofs.Common.{◌≡◌, ◌⊎◌, ℕ, Bool, true, false, not, ◌&&◌, ◌||◌, nat_eq, List, [], ◌∷◌, ◌++◌, refl, sym}
use Rattle.std.proofs.Common.{ap, subst, inl, inr}
use Rattle.std.specs.List.{list_any}
use Rattle.page_types.specs.Items.{items_of}
use Rattle.page_types.specs.Views.{entries_of, kept_rows_of, first_of, posting_items_in}
use Rattle.page_types.specs.declared.page.Entry.{Entry}
use Rattle.page_types.specs.declared.page.Row.{Row}
use Rattle.page_types.specs.declared.page.Page.{Page}
use Rattle.page_types.specs.declared.page.Body.{Body}
use Rattle.page_types.specs.declared.page.Body.TheVariants as body
use Rattle.page_types.specs.declared.page.Postings.TheVariants.{Inline}
use Rattle.ts_base.specs.Keys.{Key}
use Rattle.core_state.specs.Bullets.{Owned}
use Rattle.core_state.specs.Documents.{page_of}
use Rattle.core_state.specs.Index.{Main}
use Rattle.core_state.specs.Legal.{IsLegal, RecordsAreValid, Pin, Keeps}
use Rattle.core_state.specs.Log.{Log, Pages, In, Shows, cut}
use Rattle.core_state.specs.Readings.{Read, WasShown, AreReads}
use Rattle.core_state.proofs.Law.AllCases.{all_steps}
use Rattle.core_state.proofs.Law.Places.{place_for}
use Rattle.core_state.proofs.Law.Runs.{plain_run}
use Rattle.core_state.proofs.LawsHold.{bullets}
use Rattle.core_state.proofs.PageLists.{in_front, in_back}
use Rattle.gin_opclass.specs.Class.{Meaning}
use Rattle.core_moments.specs.Walk.{Walk, KeyWalk, LeafRead, Sought, IsWalk, rightward, reads_of, key_reads, leaf_reads}
use Rattle.core_moments.specs.Judging.{IsKept, met, main_read, in_main, is_exception, starts_page, starts_row, under}
use Rattle.core_moments.specs.OpenLaws.{IsHeapPage, KeptLie}
use Rattle.core_moments.proofs.HeapPages.{cut_legal, has_heap, heap_then}
use Rattle.core_moments.proofs.OpenLists.{lead_on, first_reads, was_shown}
use Rattle.core_moments.proofs.OpenRows.{lists_open}
use Rattle.core_moments.proofs.Parts.{is_walk, leaf_tree_in}
use Rattle.core_moments.proofs.Walks.{any_in, under_back, leaf_trees, WasUnder}
use Rattle.core_moments.proofs.Words.{and_true, same_number}

or_cases : (a b : Bool) → (a || b) ≡ true → (a ≡ true) ⊎ (b ≡ true)
or_cases true b e = inl refl
or_cases false b e = inr e

-- ── where reads are ──

leaf_in : (ls : List LeafRead) (l : LeafRead) → In l ls → In l.leaf (leaf_reads ls)
leaf_in [] l i = absurd i
leaf_in (m ∷ ls) l (inl e) = inl (ap (λ (z : LeafRead). z.leaf) e)
leaf_in (m ∷ ls) l (inr i) = inr (in_back l.leaf (Rattle.core_moments.specs.Walk.tree_reads m.trees) (leaf_reads ls)
    (leaf_in ls l i))

key_in : (ks : List KeyWalk) (k : KeyWalk) (x : Read) → In k ks → In x (leaf_reads k.leaves) → In x (key_reads ks)
key_in [] k x i j = absurd i
key_in (m ∷ ks) k x (inl e) j =
    in_back x m.down (leaf_reads m.leaves ++ key_reads ks)
    (in_front x (leaf_reads m.leaves) (key_reads ks)
    (subst (λ (z : KeyWalk). In x (leaf_reads z.leaves)) e j))
key_in (m ∷ ks) k x (inr i) j =
    in_back x m.down (leaf_reads m.leaves ++ key_reads ks)
    (in_back x (leaf_reads m.leaves) (key_reads ks) (key_in ks k x i j))

-- ── items of the main part ──

-- an item of the main part has its page in the heap, then and later
pub main_heap : (R : Log) (P Q : Pages) (t : ℕ) (k : Key) (i : ℕ) → IsLegal R → Shows (cut t R) P → Shows R Q
    → Main P k i → IsHeapPage (Q (page_of i))
main_heap R P Q t k i legal then now m =
    let o = (bullets (cut t R) P (cut_legal R t legal) then).owned.main k i m in
    heap_then R t (page_of i) P Q legal then now (has_heap P o.doc o.head i o.has o.item)

module _ (R : Log) (legal : IsLegal R) (E : Pages) (shown : Shows R E) (x : Read) (was : WasShown R x) where
  valid : RecordsAreValid (cut x.length R)
  valid = (cut_legal R x.length legal).valid

  abbrev P : Pages
  P = was.0

  owned_heap : (k : Key) (i : ℕ) → Owned P k i → IsHeapPage (E (page_of i))
  owned_heap k i o = heap_then R x.length (page_of i) P E legal was.1 shown (has_heap P o.doc o.head i o.has o.item)

  -- of an entry's list
  listed_heap : (e : Entry) (bytes : List ℕ) (i : ℕ) → In e (entries_of x.content) → e.postings ≡ Inline bytes
      → In i (items_of bytes) → IsHeapPage (E (page_of i))
  listed_heap e bytes i on is there =
      let run = plain_run all_steps (cut x.length R) valid P was.1 in
      owned_heap e.key i (run.1.items_owned.inline x.page i e bytes
      (subst (λ (c : Page). In e (entries_of c)) (sym was.2) on) is there)

  -- and of a posting leaf
  posted_heap : (i : ℕ) → In i (posting_items_in x.content.body) → IsHeapPage (E (page_of i))
  posted_heap i there = by (P x.page).body refl (subst (λ (c : Page). In i (posting_items_in c.body)) (sym was.2) there)
    where
      by : (b : Body) → (P x.page).body ≡ b → In i (posting_items_in b) → IsHeapPage (E (page_of i))
      by (body.PostLeaf high items) e m =
          let run = plain_run all_steps (cut x.length R) valid P was.1 in
          let at = place_for _ (run.0.place x.page) (P x.page) (body.PostLeaf high items) (run.1.kinds x.page) e in
          owned_heap (run.0.key_of at.0) i (run.1.items_owned.posted x.page at.0 i at.1
          (subst (λ (c : Body). In i (posting_items_in c)) (sym e) m))
      by _ e m = absurd m

-- ── kept items ──

module _ (R : Log) (pin : Pin) (sought : List Sought) (w : Walk) (i : ℕ) (E : Pages) (legal : IsLegal R)
    (keeps : Keeps R pin) (W : IsWalk sought w) (reads : AreReads R pin.length (reads_of w)) (shown : Shows R E) where
  row_heap : (x : Read) (r : Row) → In x w.pending → In r (kept_rows_of x.content) → nat_eq r.item i ≡ true
      → IsHeapPage (E (page_of i))
  row_heap x r on there e =
      let list = lists_open R pin w.meta w.pending 0 legal keeps W.meta_page
      (lead_on rightward (first_of w.meta.content) w.pending W.pending_ok)
      (first_reads R pin.length (w.meta ∷ w.pending) (key_reads w.keys) reads) in
      subst (λ (n : ℕ). IsHeapPage (E (page_of n))) (same_number r.item i e) (list.rows x on r there E shown)

  met_heap : met w i ≡ true → IsHeapPage (E (page_of i))
  met_heap m =
      let x = any_in (λ (x : Read). list_any (λ (row : Row). nat_eq row.item i) (kept_rows_of x.content)) w.pending m
      in
      let r = any_in (λ (row : Row). nat_eq row.item i) (kept_rows_of x.0.content) x.2 in
      row_heap x.0 r.0 x.1 r.1 r.2

  first_heap : is_exception w i ≡ true → IsHeapPage (E (page_of i))
  first_heap m = on_page w.pending refl m
    where
      on_row : (x : Read) (rows : List Row) → In x w.pending → kept_rows_of x.content ≡ rows
          → starts_row i rows ≡ true → IsHeapPage (E (page_of i))
      on_row x [] on e f = absurd (let z : ⊥ = cc in z)
      on_row x (r ∷ rows) on e f = row_heap x r on (subst (In r) (sym e) (inl refl)) f

      on_page : (xs : List Read) → w.pending ≡ xs → starts_page i xs ≡ true → IsHeapPage (E (page_of i))
      on_page [] e f = absurd (let z : ⊥ = cc in z)
      on_page (x ∷ xs) e f =
          on_row x (kept_rows_of x.content) (subst (In x) (sym e) (inl refl)) refl f

  read_shown : (k : KeyWalk) → In k w.keys → (x : Read) → In x (leaf_reads k.leaves) → WasShown R x
  read_shown k on x j =
      was_shown R pin.length (reads_of w) reads x (inr (in_back x w.pending (key_reads w.keys)
      (key_in w.keys k x on j)))

  entry_heap : (k : KeyWalk) (l : LeafRead) → In k w.keys → In l k.leaves
      → (e : Entry) × In e (entries_of l.leaf.content) × WasUnder i e.postings l.trees → IsHeapPage (E (page_of i))
  entry_heap k l on at (e, m, inl u) =
      listed_heap R legal E shown l.leaf (read_shown k on l.leaf (leaf_in k.leaves l at)) e u.0 i m u.1 u.2
  entry_heap k l on at (e, m, inr u) =
      let x = u.5 in
      posted_heap R legal E shown x.0
      (read_shown k on x.0 (leaf_tree_in k.leaves l u.1 x.0 at u.3 x.1)) i x.2

  pub read_heap : main_read w i ≡ true → IsHeapPage (E (page_of i))
  read_heap m =
      let k = any_in (λ (k : KeyWalk). list_any (λ (l : LeafRead).
      under k.sought (λ (z : Key). true) i (entries_of l.leaf.content) l.trees) k.leaves) w.keys m in
      let l = any_in (λ (l : LeafRead). under k.0.sought (λ (z : Key). true) i (entries_of l.leaf.content) l.trees)
      k.0.leaves k.2 in
      let K = is_walk sought w.keys k.0 W.keys_ok k.1 in
      let found = under_back k.0.sought (λ (z : Key). true) i (entries_of l.0.leaf.content) l.0.trees
      (leaf_trees k.0.sought k.0.leaf k.0.leaves l.0 K.leaves_ok l.1) l.2 in
      entry_heap k.0 l.0 k.1 l.1 (found.0, found.1, found.3)

  main_page : in_main w i ≡ true → IsHeapPage (E (page_of i))
  main_page m = elim (or_cases (is_exception w i) (not (met w i) && main_read w i) m) [
    | inl f ↦ first_heap f
    | inr f ↦ read_heap (and_true (not (met w i)) (main_read w i) f).1
  ]

  kept_page : {Q : Type 0} (M : Meaning Q) (q : Q) → IsKept M q w i → IsHeapPage (E (page_of i))
  kept_page M q (IsKept.by_pending m d) = met_heap m
  kept_page M q (IsKept.by_main m d) = main_page m

pub kept_lie : {Q : Type 0} (M : Meaning Q) → KeptLie M
kept_lie M R pin q sought w i P legal keeps W reads kept shown =
    kept_page R pin sought w i P legal keeps W reads shown M q kept
