-- What the laws say of pages and of documents, at pages that were worked out: it is so where they are, and not
-- where one thing of them is broken.
use Rattle.std.proofs.Common.{◌≡◌, ◌==◌, cond, Bool, true, false, ℕ, zero, suc, List, [], ◌∷◌, ◌++◌, length}
use Rattle.std.proofs.Common.{length-append, get_or, refl, sym, ap, subst, ◌∙◌, inl, inr, arith}
use Rattle.std.specs.Prelude.{Option, Some, None}
use Rattle.ts_base.specs.Keys.{Key}
use Rattle.page_types.specs.Views.{free_page, rows_of}
use Rattle.page_types.specs.declared.page.Page.{Page}
use Rattle.page_types.specs.declared.page.Head.{Head}
use Rattle.page_types.specs.declared.page.Row.{Row}
use Rattle.page_types.specs.declared.page.Entry as on_page
use Rattle.page_types.specs.declared.page.Body.{Body}
use Rattle.page_types.specs.declared.page.Body.TheVariants as body
use Rattle.page_types.specs.declared.page.Gone.TheVariants as gone
use Rattle.page_types.specs.declared.record.Record.{Record}
use Rattle.page_types.specs.declared.record.Kind.TheVariants as kind
use Rattle.core_state.specs.Log.{Log, Pages, In, changed, fate}
use Rattle.core_state.specs.Documents.{Doc, IsDead, head_of, name_of, placed}
use Rattle.core_state.specs.History.{Document, IsStored}
use Rattle.core_state.specs.Index.{Line, HasRow, IsLinked}
use Rattle.core_state.specs.Changes.{IsDeadHead}
use Rattle.core_state.specs.Readings.{Read, AreReads}
use Rattle.core_state.specs.Standing.{DocumentsStand}
use Rattle.core_state.specs.Steady.{LiveStay, DeadGetNoRow, PlacesStay, PinnedPlacesStay}
use Rattle.core_state.specs.Bullets.PagePlace.{line}
use Rattle.core_state.specs.PagesTold.{IsLastOf, HasRowOn, StartsWith, ListStands, KindsStand, HasHighKey, HasHighItem}
use Rattle.core_state.specs.PagesTold.{LeavesInOrder, IsEntryLeaf, OnEntryLeaf, UpEntryLeaf, IsLastChange}
use Rattle.core_state.specs.RecordKeeps.{PlacingKeeps, RecordKeeps}
use Rattle.core_state.specs.declared.answers.Fate.TheVariants.{Unused, Running, Aborted, Committed}
use Rattle.core_state.proofs.Histories.{chain_one}
use Rattle.core_state.proofs.Worked as first
use Rattle.core_state.proofs.WorkedPending as rows
use Rattle.core_state.proofs.WorkedRun as run

-- a document of the first run's history
abbrev document : Document
document = record { name = name_of first.doc; vector = first.vector }

stored : IsStored rows.with_both document
stored = record {
  doc = first.doc;
  head = rows.head 0;
  name = refl;
  has = record { at = refl; serial = refl };
  content = rows.whole rows.with_both 0;
}

-- where its slot is free it isn't stored
no_item : (d : Doc) → name_of first.doc ≡ name_of d → d.item ≡ 4096
no_item d e =
    let page = ap (λ (n : _). n.page) e in
    let slot = ap (λ (n : _). n.slot) e in
    omega (arith, page, slot)

not_stored : IsStored rows.freed document → ⊥
not_stored s =
    let at = no_item s.doc s.name in
    none_some s.head (ap (head_of rows.freed) (sym at) ∙ s.has.at)
  where
    none_some : (h : Head) → None ≡ Some h → ⊥
    none_some h e = cc

-- so a log that frees the slot of a living document breaks what is said of later logs
lost_alive : (R : Log) → (IsDead R 0 first.doc → ⊥) → LiveStay R rows.with_both rows.freed 0 → ⊥
unfolding stored
lost_alive R alive stay = not_stored (stay document stored alive)

-- a head whose transaction committed, unmarked: neither it nor its document is dead
head_alive : (floor : ℕ) → IsDeadHead (fate run.first_run) floor (first.head 1) → ⊥
head_alive floor (IsDeadHead.insert_aborted e) = let f : Committed 1 ≡ Aborted = e in cc
head_alive floor (IsDeadHead.delete_counted n e l) = unused n e
  where
    unused : (n : ℕ) → fate run.first_run 0 ≡ Committed n → ⊥
    unused n e = cc

-- a head that names a committed transaction which marked nothing breaks what heads say
abbrev misled : Pages
misled zero = first.meta_page
misled (suc zero) = first.root_page
misled (suc (suc zero)) =
    record { right = 0; stamp = 3; body = body.Heap (Some (record (first.head 1) { deleted_by = 1 }) ∷ []) }
misled (suc (suc (suc p))) = free_page

not_dead : IsDead run.first_run 1 first.doc → ⊥
not_dead (IsDead.insert_aborted x e p) = by (1 == x) e
  where
    by : (b : Bool) → cond b (Committed 1) (cond b Running Unused) ≡ Aborted → ⊥
    by true e = cc
    by false e = cc
not_dead (IsDead.delete_counted x n e l p) = p

misled_head : DocumentsStand run.first_run misled → ⊥
misled_head d = not_dead ((d.dead 4096 (record (first.head 1) { deleted_by = 1 }) 1 refl).1
    (IsDeadHead.delete_counted 1 refl (omega arith)))

-- what was read at a length of a log stays so read; other content was not
abbrev read : Page → Read
read content = record { length = 6; page = 2; content = content }

was_read : AreReads run.first_run 0 (read (rows.heap_page 5 0) ∷ [])
was_read = (omega arith, omega arith, (rows.with_link, run.shown_run, refl), omega arith)

-- the document's row is linked
both_linked : IsLinked rows.with_both rows.row
both_linked = record {
  line = 3 ∷ [];
  is_line = (refl, (λ e. omega (arith, e)), refl);
  page = 3;
  on = inl refl;
  there = inl refl;
}

-- a row of a dead document that comes later
dead_row : (R : Log) → IsDead R 0 first.doc → (P : Pages) → (HasRow P 4096 → ⊥) → DeadGetNoRow R P rows.with_both → ⊥
dead_row R dead P off none =
    off (record {
      row = rows.row;
      linked = none first.doc (rows.head 0) 0 dead (record { at = refl; serial = refl }) rows.row refl both_linked;
      item = refl;
    })

-- the pending list of one page, as Meta says of it
abbrev listing : ℕ → ℕ → List Row → Pages
listing last count on zero = rows.meta_page 5 3 last count
listing last count on (suc zero) = first.root_page
listing last count on (suc (suc zero)) = rows.heap_page 5 0
listing last count on (suc (suc (suc zero))) = record { right = 0; stamp = 4; body = body.Pending on }
listing last count on (suc (suc (suc (suc p)))) = free_page

one_line : (last count : ℕ) (on : List Row) → Line (listing last count on) (3 ∷ [])
one_line last count on = (refl, (λ e. omega (arith, e)), refl)

the_line : (last count : ℕ) (on : List Row) (l : ListStands rows.log_linked (listing last count on)) → l.pages ≡ 3 ∷ []
the_line last count on l = chain_one (listing last count on) 3 l.pages (3 ∷ []) l.is_line (one_line last count on)

same_meta : (a b c d e f : ℕ) → body.Meta a b c ≡ body.Meta d e f → (b ≡ e) × (c ≡ f)
same_meta a b c d e f m = (cc, cc)

linked_row : (w : Row) → IsLinked (listing 3 1 (rows.row ∷ [])) w → w ≡ rows.row
linked_row w k = by k.page (subst (In k.page) (chain_one (listing 3 1 (rows.row ∷ [])) 3 k.line (3 ∷ []) k.is_line
    (one_line 3 1 (rows.row ∷ []))) k.on) k.there
  where
    by : (p : ℕ) → In p (3 ∷ []) → In w (rows_of (listing 3 1 (rows.row ∷ []) p)) → w ≡ rows.row
    by p (inl e) m = elim (subst (λ (z : ℕ). In w (rows_of (listing 3 1 (rows.row ∷ []) z))) e m)
        [ inl f ↦ f | inr z ↦ absurd z ]
    by p (inr z) m = absurd z

list_stands : ListStands rows.log_linked (listing 3 1 (rows.row ∷ []))
list_stands = record {
  pages = 3 ∷ [];
  is_line = one_line 3 1 (rows.row ∷ []);
  meta = λ some. (3, 3, refl, IsLastOf.some [] 3);
  some_row = some_row;
  together = together;
  complete = λ i k. inl (rows.row, [], refl, sym (ap (λ (w : Row). w.item) (linked_row k.row k.linked)) ∙ k.item);
  indexed = λ i k. (
    first.doc,
    sym (ap (λ (w : Row). w.item) (linked_row k.row k.linked)) ∙ k.item,
    record {
      vector = first.vector;
      whole = (rows.head 0, record { at = refl; serial = refl }, rows.whole (listing 3 1 (rows.row ∷ [])) 0);
      there = inl (λ key j. record {
        row = rows.row;
        linked = record
            { line = 3 ∷ []; is_line = one_line 3 1 (rows.row ∷ []); page = 3; on = inl refl; there = inl refl };
        item = refl;
        key = j;
      });
    },
  );
}
  where
    some_row : (p : ℕ) → In p (3 ∷ []) → (w : Row) × (rest : List Row)
        × ((listing 3 1 (rows.row ∷ []) p).body ≡ body.Pending (w ∷ rest))
    some_row p (inl e) = (rows.row, [], ap (λ (z : ℕ). (listing 3 1 (rows.row ∷ []) z).body) e)
    some_row p (inr z) = absurd z

    together : (front back : List ℕ) (p i : ℕ) → 3 ∷ [] ≡ front ++ p ∷ back
        → HasRowOn (listing 3 1 (rows.row ∷ [])) (p ∷ []) i → HasRowOn (listing 3 1 (rows.row ∷ [])) back i
        → StartsWith (listing 3 1 (rows.row ∷ [])) back i
    together [] [] p i e here there = absurd there.1
    together [] (q ∷ back) p i e here there = absurd (let n : 1 ≡ suc (suc (length back)) = ap length e in
        omega (arith, n))
    together (q ∷ []) back p i e here there = absurd (let n : 1 ≡ suc (suc (length back)) = ap length e in
        omega (arith, n))
    together (q ∷ r ∷ front) back p i e here there = absurd (longer front back (ap length e))
      where
        longer : (front back : List ℕ) → 1 ≡ suc (suc (length (front ++ p ∷ back))) → ⊥
        longer front back n = omega (arith, n)

-- Meta with another number, with another last page, and a page without a row
other_count : ListStands rows.log_linked (listing 3 2 (rows.row ∷ [])) → ⊥
other_count l =
    let m = l.meta (λ e. cc) in
    let count : 2 ≡ length l.pages = (same_meta 3 3 2 m.0 m.1 (length l.pages) m.2).1 in
    let only : length l.pages ≡ 1 = ap length (the_line 3 2 (rows.row ∷ []) l) in
    omega (arith, count, only)

last_of_one : (qs : List ℕ) (last : ℕ) → IsLastOf qs last → qs ≡ 3 ∷ [] → last ≡ 3
last_of_one qs last (IsLastOf.none) e = cc
last_of_one qs last (IsLastOf.some [] p) e = cc
last_of_one qs last (IsLastOf.some (q ∷ []) p) e = cc
last_of_one qs last (IsLastOf.some (q ∷ r ∷ front) p) e = cc

other_last : ListStands rows.log_linked (listing 9 1 (rows.row ∷ [])) → ⊥
other_last l =
    let m = l.meta (λ e. cc) in
    let last : 9 ≡ m.1 = (same_meta 3 9 1 m.0 m.1 (length l.pages) m.2).0 in
    let only : m.1 ≡ 3 = last_of_one l.pages m.1 m.3 (the_line 9 1 (rows.row ∷ []) l) in
    omega (arith, last, only)

empty_page : ListStands rows.log_linked (listing 3 1 []) → ⊥
empty_page l =
    let r = l.some_row 3 (subst (In 3) (sym (the_line 3 1 [] l)) (inl refl)) in
    no_row r.0 r.1 r.2
  where
    no_row : (w : Row) (rest : List Row) → body.Pending [] ≡ body.Pending (w ∷ rest) → ⊥
    no_row w rest e = cc

-- the pending list leads to a page that is free
abbrev leads_away : Pages
leads_away zero = rows.meta_page 5 3 3 1
leads_away (suc zero) = first.root_page
leads_away (suc (suc p)) = free_page

free_on_line : KindsStand rows.log_linked leads_away → ⊥
free_on_line k =
    let rows_there = k.kinds (λ e. cc) 3 line (3 ∷ [], (refl, (λ e. omega (arith, e)), refl), inl refl) in
    no_rows rows_there.0 rows_there.1
  where
    no_rows : (ws : List Row) → body.Free ≡ body.Pending ws → ⊥
    no_rows ws e = cc

-- a placed head's page that isn't a heap page
no_heap : KindsStand run.first_run leads_away → ⊥
no_heap k = let h = k.heaps 1 first.doc (inl refl) in no_slots h.0 h.1
  where
    no_slots : (slots : List (Option Head)) → body.Free ≡ body.Heap slots → ⊥
    no_slots slots e = cc

-- a leaf's high key is its own, and no other
leaf_bound : HasHighKey (body.EntryLeaf rows.fat_key (rows.entry rows.cat_key ∷ [])) rows.fat_key
leaf_bound = HasHighKey.leaf rows.fat_key (rows.entry rows.cat_key ∷ [])

other_bound : (es : List on_page.Entry) → HasHighKey (body.EntryLeaf rows.fat_key es) rows.cat_key → ⊥
other_bound es h = by (body.EntryLeaf rows.fat_key es) rows.cat_key h refl refl
  where
    by : (b : Body) (k : Key) → HasHighKey b k → b ≡ body.EntryLeaf rows.fat_key es → k ≡ rows.cat_key → ⊥
    by b k (HasHighKey.leaf high fs) e f =
        let same : high ≡ rows.fat_key = cc in
        let byte : 102 ≡ 99 = ap (λ ks. get_or ks 1 0) (sym same ∙ f) in
        omega (arith, byte)
    by b k (HasHighKey.inner front last) e f = cc

-- a high item of 0 is no bound
open_leaf : HasHighItem (body.PostLeaf 0 []) 4294967295
open_leaf = HasHighItem.leaf 0 []

-- one key on two leaves without bound
abbrev doubled : Pages
doubled zero = first.meta_page
doubled (suc zero) = rows.leaf_page 6 (rows.entry rows.cat_key ∷ [])
doubled (suc (suc zero)) = rows.leaf_page 6 (rows.entry rows.cat_key ∷ [])
doubled (suc (suc (suc p))) = free_page

two_leaves : LeavesInOrder doubled (IsEntryLeaf doubled) (OnEntryLeaf doubled) (UpEntryLeaf doubled) → ⊥
two_leaves l =
    let up = first_up l.first l.is_first in
    let on : OnEntryLeaf doubled 1 rows.cat_key = (rows.entry rows.cat_key, inl refl, refl) in
    let also_on : OnEntryLeaf doubled 2 rows.cat_key = (rows.entry rows.cat_key, inl refl, refl) in
    let a = (l.on_first 1 rows.cat_key ([], rows.entry rows.cat_key ∷ [], refl) on).1 up in
    let b = (l.on_first 2 rows.cat_key ([], rows.entry rows.cat_key ∷ [], refl) also_on).1 up in
    let c : 1 ≡ 2 = a ∙ sym b in
    omega (arith, c)
  where
    first_up : (p : ℕ) → IsEntryLeaf doubled p → UpEntryLeaf doubled p rows.cat_key
    first_up zero f = absurd (no_leaf f.0 f.1 f.2)
      where
        no_leaf : (high : Key) (es : List on_page.Entry) → body.Meta 0 0 0 ≡ body.EntryLeaf high es → ⊥
        no_leaf high es e = cc
    first_up (suc zero) f = ([], rows.entry rows.cat_key ∷ [], refl, inl refl)
    first_up (suc (suc zero)) f = ([], rows.entry rows.cat_key ∷ [], refl, inl refl)
    first_up (suc (suc (suc p))) f = absurd (no_leaf f.0 f.1 f.2)
      where
        no_leaf : (high : Key) (es : List on_page.Entry) → body.Free ≡ body.EntryLeaf high es → ⊥
        no_leaf high es e = cc

-- the stamp of the heap page of the first run is the number of the record that links the row, and no other
heap_stamp : IsLastChange run.first_run 2 5
heap_stamp = IsLastChange.by (run.commit_record ∷ []) rows.link_record rows.log_put refl
    (inl refl) (λ s i. elim i [ inl e ↦ λ m. subst (λ (z : Record). In 2 (changed z)) e m | inr z ↦ absurd z ])

-- a placing record that takes a pair away
pair_lost : PlacingKeeps rows.with_both rows.with_cat → ⊥
pair_lost k = rows.no_fat 4096 (k.main rows.fat_key 4096 (rows.main_there rows.fat_key (rows.entry rows.fat_key) refl
    (inr (inl refl))))

-- a row of a document that another transaction placed
row_of_other : (P : Pages) (r : Record) → r.xid ≡ 2 → (IsLinked P rows.row → ⊥)
    → RecordKeeps run.first_run P rows.with_both r → ⊥
row_of_other P r xid off k =
    elim (k.own_rows rows.row both_linked) [
      | inl old ↦ off old
      | inr own ↦ subst (λ (x : ℕ). In own.doc (placed run.first_run x)) xid own.placed_by
    ]

-- of a log with one record a page has no other stamp than its number
abbrev one : Record
one = record { number = 1; xid = 0; kind = kind.Create; changes = first.image 0 first.meta_page ∷ [] }

one_stamp : IsLastChange (one ∷ []) 0 1
one_stamp = IsLastChange.by [] one [] refl (inl refl) (λ s i. absurd i)

other_stamp : IsLastChange (one ∷ []) 0 2 → ⊥
other_stamp s = by 2 s refl
  where
    longer : (later : List Record) (r : Record) (earlier : Log) → 1 ≡ suc (length (later ++ r ∷ earlier)) → ⊥
    longer later r earlier e = omega (arith, e, length-append later (r ∷ earlier))

    by : (n : ℕ) → IsLastChange (one ∷ []) 0 n → n ≡ 2 → ⊥
    by n (IsLastChange.none all) e = all one (inl refl) (inl refl)
    by n (IsLastChange.by [] r earlier e i all) f =
        let same : one ≡ r = cc in
        let number : 1 ≡ r.number = ap (λ (z : Record). z.number) same in
        omega (arith, number, f)
    by n (IsLastChange.by (c ∷ later) r earlier e i all) f = longer later r earlier (ap length e)

-- a heap page that a later log shows as free, and a page of the pending list that is neither on it nor deleted
lost_heap : PlacesStay rows.with_both leads_away → ⊥
lost_heap s =
    let h = s.heap 2 (Some (rows.head 0) ∷ []) refl in
    no_slots h.0 h.1
  where
    no_slots : (slots : List (Option Head)) → body.Free ≡ body.Heap slots → ⊥
    no_slots slots e = cc

abbrev emptied : Pages
emptied zero = first.meta_page
emptied (suc zero) = first.root_page
emptied (suc (suc p)) = free_page

lost_page : PinnedPlacesStay rows.with_both emptied → ⊥
lost_page s = elim (s.line 3 (3 ∷ [], (refl, (λ e. omega (arith, e)), refl), inl refl)) [
  | inl on ↦ first.in_no_chain emptied on.0 3 on.1 on.2
  | inr was ↦ not_gone was.0 was.1
]
  where
    not_gone : (ws : List Row) → body.Free ≡ body.Deleted (gone.Pending ws) → ⊥
    not_gone ws e = cc
