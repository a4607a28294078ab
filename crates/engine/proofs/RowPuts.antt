-- The pages of a document's rows are put, from the last to the first.
use Rattle.std.proofs.Common.{◌≡◌, ◌≢◌, ◌<◌, ◌==◌, ℕ, suc, Bool, true, false, List, [], ◌∷◌, ◌++◌, length}
use Rattle.std.proofs.Common.{take, ◌-◌, refl, sym}
use Rattle.std.proofs.Common.{ap, subst, ◌∙◌, inl, inr, arith, append_assoc, length-append}
use Rattle.std.specs.Prelude.{cond, All}
use Rattle.std.proofs.lemmas.List.{append-nil, length-take}
use Rattle.std.specs.List.{AllByRecursion}
use Rattle.disk_trait.specs.declared.device.Disk.{Ghosts as Disk}
use Rattle.ts_base.specs.Vectors.{Vector}
use Rattle.ts_base.specs.Keys.{keys_of}
use Rattle.page_types.specs.Numbers.{page_limit}
use Rattle.page_types.specs.Pages.{IsPage}
use Rattle.page_types.specs.declared.page.Page.{Page}
use Rattle.page_types.specs.declared.page.Name.{Name}
use Rattle.page_types.specs.declared.record.Record.{Record}
use Rattle.core_state.specs.Documents.{item_at}
use Rattle.core_state.specs.Log.{In}
use Rattle.core_state.proofs.RunningOnes.{on_other}
use Rattle.pending_list.specs.Packing.{AreKeys, ArePacked}
use Rattle.pending_list.specs.Adding.{IsPendingPage}
use Rattle.buffer_frames.specs.declared.pass.Pass.{Pass}
use Rattle.engine.specs.Answers.{MeetsNoBadPage}
use Rattle.engine.specs.Db.{DbValue}
use Rattle.engine.specs.Going.{Goes, stays, MetNoFault}
use Rattle.engine.specs.Work.{IsRowPageOf}
use Rattle.engine.specs.Inner.Changing.{doc_of, CannotPutNew}
use Rattle.engine.specs.Inner.Indexing.{IsNextPage, last_then, PutsRows, CannotPutRows}
use Rattle.engine.specs.Inner.Parts.{IsRunning, KeepsWork, HasRows}
use Rattle.engine.specs.declared.error.DbError.{DbError}
use Rattle.engine.specs.declared.error.DbError.TheVariants as store
use Rattle.engine.specs.declared.transaction.Transaction.{Transaction}
use Rattle.engine.proofs.Carrying.{keeps_on, keeps_still}
use Rattle.engine.proofs.Indexes.{both_all}
use Rattle.engine.proofs.LawfulBefore.{no_bad_before}
use Rattle.engine.proofs.Paths.{goes_on, goes_still, none_in_turn}
use Rattle.engine.proofs.RowPages.{next_row}
use Rattle.engine.proofs.Works.{row_pages_plain}

-- the last of those that are left comes to those that are done
pub one_more : (all left rest back : List Page) (page : Page) → all ≡ left ++ back → left ≡ rest ++ page ∷ []
    → all ≡ rest ++ page ∷ back
one_more all left rest back page split last =
    split ∙ ap (λ (l : List Page). l ++ back) last ∙ append_assoc rest (page ∷ []) back

in_middle : (front back : List Page) (x : Page) → In x (front ++ x ∷ back)
in_middle [] back x = inl refl
in_middle (y ∷ front) back x = inr (in_middle front back x)

all_in : (xs : List Page) (x : Page) → In x xs → All IsPage xs → IsPage x
all_in [] x i all = absurd i
all_in (y ∷ ys) x (inl e) all = subst IsPage (sym e) (all 0 y (omega arith))
all_in (y ∷ ys) x (inr i) all = all_in ys x i (λ k d lt. all (suc k) d (omega (arith, lt)))

last_low : (last new : ℕ) → last < page_limit → new < page_limit → last_then last new < page_limit
last_low last new a b = by (last == 0)
  where
    by : (c : Bool) → cond c new last < page_limit
    by true = b
    by false = a

-- none is left where none was popped
pub none_popped : (old new : List Page) (n : ℕ) → old ≡ new ++ [] → new ≡ take (n - 1) old → n ≡ 0 → old ≡ []
none_popped [] new n all rest zero = refl
none_popped (x ∷ xs) new n all rest zero =
    absurd (omega (
      arith,
      ap length all,
      length-append new [],
      ap length rest,
      length-take (n - 1) (x ∷ xs),
      zero,
    ))

-- the last page of a chain that had none is the one that comes, and else the same
pub then_new : (last new : ℕ) → last ≡ 0 → last_then last new ≡ new
then_new last new e = ap (λ (k : ℕ). last_then k new) e

pub then_same : (last new : ℕ) → last ≢ 0 → last_then last new ≡ last
then_same last new off = on_other last 0 new last off

module _ {D : Type 0} (device : Disk D) where
  -- of these pages those at the end are put, and the others are left
  pub record RowsSoFar (old : DbValue D) (pass : Pass) (t : Transaction) (name : Name) (all left : List Page)
      (last : ℕ) (new : DbValue D) (pass' : Pass) : Type 0 where
    pub running : IsRunning device new pass' t
    pub keeps : KeepsWork pass pass'
    pub met : MetNoFault device old new
    pub back : List Page
    pub split : all ≡ left ++ back
    pub puts : List Record
    pub are_put : AllByRecursion (IsRowPageOf t.xid (doc_of name)) puts
    pub many : length puts ≡ length back
    pub goes : Goes device old new puts
    pub low : last < page_limit
    pub rows : (v : Vector) (names : List Name) → AreKeys (keys_of v)
        → ArePacked (item_at name.page name.slot) (keys_of v) all
        → HasRows device old pass t.xid (doc_of name) v [] 0 names
        → HasRows device new pass' t.xid (doc_of name) v back last names

  -- none is put yet
  pub rows_begin : (s : DbValue D) (pass : Pass) (t : Transaction) (name : Name) (all : List Page)
      → IsRunning device s pass t → RowsSoFar s pass t name all all 0 s pass
  rows_begin s pass t name all run = record {
    running = run;
    keeps = keeps_still pass;
    met = record { writes = refl; down = refl };
    back = [];
    split = sym (append-nil all);
    puts = [];
    are_put = tt;
    many = refl;
    goes = stays;
    low = omega arith;
    rows = λ v names keys packed had. had;
  }

  module _ (old mid : DbValue D) (pass q : Pass) (t : Transaction) (name : Name) (all left rest : List Page)
      (page : Page) (last : ℕ) (s : RowsSoFar old pass t name all left last mid q) (is : left ≡ rest ++ page ∷ []) where
    next : all ≡ rest ++ page ∷ s.back
    next = one_more all left rest s.back page s.split is

    pub next_is_page : All IsPage all → IsPage page
    next_is_page are = all_in all page (subst (In page) (sym next) (in_middle rest s.back page)) are

    next_page : (v : Vector) → AreKeys (keys_of v) → ArePacked (item_at name.page name.slot) (keys_of v) all
        → IsNextPage (item_at name.page name.slot) v page s.back
    next_page v keys packed = record {
      are_keys = keys;
      front = rest;
      packed = subst (ArePacked (item_at name.page name.slot) (keys_of v)) next packed;
    }

    pub next_is_pending : (v : Vector) → AreKeys (keys_of v)
        → ArePacked (item_at name.page name.slot) (keys_of v) all → IsPendingPage page
    next_is_pending v keys packed =
        let row = next_row (item_at name.page name.slot) v page s.back (next_page v keys packed) in (row.0 ∷ [], row.2)

    pub next_has : (v : Vector) × (names : List Name) × AreKeys (keys_of v)
        × ArePacked (item_at name.page name.slot) (keys_of v) all
        × HasRows device old pass t.xid (doc_of name) v [] 0 names
        → (v : Vector) × (back : List Page) × (end : ℕ) × (names : List Name)
        × IsNextPage (item_at name.page name.slot) v page back
        × HasRows device mid q t.xid (doc_of name) v back end names
    next_has had =
        (had.0, s.back, last, had.1, next_page had.0 had.2 had.3, s.rows had.0 had.1 had.2 had.3 had.4)

    pub rows_more : (new : DbValue D) (r : Pass) (number : ℕ) → IsRunning device new r t → KeepsWork q r
        → MetNoFault device mid new
        → (p : Record) × IsRowPageOf t.xid (doc_of name) p × Goes device mid new (p ∷ [])
        → ((v : Vector) (back : List Page) (end : ℕ) (names : List Name)
        → IsNextPage (item_at name.page name.slot) v page back
        → HasRows device mid q t.xid (doc_of name) v back end names
        → HasRows device new r t.xid (doc_of name) v (page ∷ back) (last_then end number) names)
        → number < page_limit → RowsSoFar old pass t name all rest (last_then last number) new r
    rows_more new r number running keeps met goes put low = record {
      running = running;
      keeps = keeps_on pass q r s.keeps keeps;
      met = none_in_turn device s.met met;
      back = page ∷ s.back;
      split = next;
      puts = s.puts ++ goes.0 ∷ [];
      are_put = both_all t.xid (doc_of name) s.puts (goes.0 ∷ []) s.are_put (goes.1, tt);
      many = let size = length-append s.puts (goes.0 ∷ []) in omega (arith, size, s.many);
      goes = goes_on device s.goes goes.2;
      low = last_low last number s.low low;
      rows = λ v names keys packed had.
          put v s.back last names (next_page v keys packed) (s.rows v names keys packed had);
    }

    few : length s.puts < length all
    few =
        let size = length-append rest (page ∷ s.back) in
        omega (arith, ap length next, size, s.many)

    pub rows_some : (new : DbValue D) → Goes device mid new []
        → (rs : List Record) × AllByRecursion (IsRowPageOf t.xid (doc_of name)) rs × (length rs < length all)
        × Goes device old new rs
    rows_some new goes = (s.puts, s.are_put, few, goes_still device s.goes goes)

    stopped : (Why : DbValue D → Type 0) (z : DbValue D) → Goes device mid z [] → Why z
        → PutsRows device old t.xid (doc_of name) (length all) Why
    stopped Why z goes why = record {
      store = z;
      done = s.puts;
      are_put = s.are_put;
      few = few;
      goes = goes_still device s.goes goes;
      why = why;
    }

    pub rows_cause : (e : DbError) → CannotPutNew device (IsRowPageOf t.xid (doc_of name)) mid name e
        → CannotPutRows device old t.xid name (length all) e
    rows_cause (store.Down f) why = sym (s.met).down ∙ why
    rows_cause store.StoreFull why = stopped _ why.0 why.1 why.2
    rows_cause store.LogFull why = stopped _ why.0 why.1 why.2
    rows_cause (store.BadPage p) why = stopped _ why.0 why.1 why.2
    rows_cause store.DiskFault why = tt
    rows_cause store.OutOfMemory why = tt
    rows_cause store.NoDocument why = absurd why
    rows_cause (store.Conflict y) why = absurd why
    rows_cause store.XidsSpent why = absurd why

    pub rows_lawful : (e : DbError) → MeetsNoBadPage device mid e → MeetsNoBadPage device old e
    rows_lawful = no_bad_before device old mid s.goes (row_pages_plain t.xid (doc_of name) s.puts s.are_put) s.met

  -- all are put
  module _ (old new : DbValue D) (pass q : Pass) (t : Transaction) (name : Name) (all left : List Page) (last : ℕ)
      (s : RowsSoFar old pass t name all left last new q) (none : left ≡ []) where
    whole : s.back ≡ all
    whole = sym (s.split ∙ ap (λ (l : List Page). l ++ s.back) none)

    pub rows_all : (rs : List Record) × AllByRecursion (IsRowPageOf t.xid (doc_of name)) rs
        × (length rs ≡ length all) × Goes device old new rs
    rows_all = (s.puts, s.are_put, s.many ∙ ap length whole, s.goes)

    pub rows_has : (v : Vector) (names : List Name) → AreKeys (keys_of v)
        → ArePacked (item_at name.page name.slot) (keys_of v) all
        → HasRows device old pass t.xid (doc_of name) v [] 0 names
        → HasRows device new q t.xid (doc_of name) v all last names
    rows_has v names keys packed had =
        subst (λ (l : List Page). HasRows device new q t.xid (doc_of name) v l last names) whole
        (s.rows v names keys packed had)
