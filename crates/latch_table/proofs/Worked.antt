-- A table laid over an empty store, which is lawful. By its calls a pass logs a Create, a Begin and an
-- Abort: whatever the calls before have said of it, the journal may be given back with the next record.
use Rattle.std.proofs.Common.{◌≡◌, ◌≢◌, ℕ, zero, suc, ◌≤◌, false, List, [], ◌∷◌, ◌++◌, length, map}
use Rattle.std.proofs.Common.{refl, sym, ap, subst, ◌∙◌, inl, inr, ⊎_elim, arith}
use Rattle.std.proofs.lemmas.List.{append-nil}
use Rattle.std.specs.Prelude.{Some, None, ⊤, nat_lt}
use Rattle.std.specs.declared.snapshot.Snapshot.{Snapshot}
use mathlib.Core.Option.{some, some-ne-none}
use lib.ListN.{get_elem?}
use Rattle.page_types.specs.Numbers.{page_limit, page_size, zeros}
use Rattle.page_types.specs.Encoding.{page_bytes}
use Rattle.page_types.specs.Edits.{edited}
use Rattle.page_types.specs.Pages.{IsPage}
use Rattle.page_types.specs.declared.page.Page.{Page}
use Rattle.page_types.specs.declared.record.Record.{Record}
use Rattle.page_types.specs.declared.record.Kind.{Kind}
use Rattle.page_types.specs.declared.record.Kind.TheVariants as kind
use Rattle.core_state.specs.Log.{Log, In, fate, replay}
use Rattle.core_state.specs.Legal.{RecordsAreValid, RuleHolds}
use Rattle.core_state.specs.Steady.{IsMaintenance}
use Rattle.core_state.specs.Allowed.{Sheet, View, AreOthers, Step, MayLog, Owes, drawn_body, sheet_pages}
use Rattle.core_state.specs.Allowed.{made_by}
use Rattle.core_state.specs.Logged.{IsRecordOf}
use Rattle.core_state.specs.Steps.{sheet}
use Rattle.core_state.proofs.Worked.{meta_page, root_page, image, meta_is, root_is, legal}
use Rattle.core_state.proofs.Steps.Transactions.{begin_may, abort_may}
use Rattle.latch_table.specs.declared.slots.Framed.{Ghosts as Framed}
use Rattle.latch_table.specs.declared.slots.Journaled.{Ghosts as Journaled}
use Rattle.latch_table.specs.declared.states.Note.{Note}
use Rattle.latch_table.specs.declared.states.PassState.{PassState}
use Rattle.latch_table.specs.PassStates.{view_of, sheets, sheet_if, first_state, running}
use Rattle.latch_table.specs.Told.{HasOpened, HasClaimed, HasClaimedWork, HasClaimedJournal}
use Rattle.latch_table.specs.Giving.{Entry, AreBounds, MayGive, HasGivenJournal, xids_by}
use Rattle.latch_table.specs.Appending.{logged}
use Rattle.latch_table.specs.Laying.{IsEmptyStore, CanLie}
use Rattle.latch_table.proofs.Appends.{may_give}
use Rattle.latch_table.proofs.Empty.{empty_stores_lie}

-- a frame is the number of its page, and its bytes
abbrev pub Leaf : Type 0
Leaf = ℕ × List ℕ

abbrev pub leaf : Framed Leaf
leaf = record { page = λ f. f.0; bytes = λ f. f.1 }

-- a journal that is its log; nothing of it is flushed, and each frame has the page of its number
abbrev pub diary : Journaled Log
diary = record {
  lawful = λ b. ⊤;
  stands = λ b log. b ≡ log;
  flushed = λ b. 0;
  counted = λ b. 0;
  length_of = λ b. length b;
  place = λ b i. i;
  pins = λ b k. None;
  owes = λ b. false;
  faults = λ b. 0;
  write_faults = λ b. 0;
  reaches = λ b clock n. ⊤;
  has_redo = λ b log n written synced. ⊤;
  has_walked = λ b log n bound passed. ⊤;
}

-- A table may be laid over two frames and the empty log

abbrev pub frames : List Leaf
frames = (0, zeros page_size) ∷ (1, zeros page_size) ∷ []

same_page : (i : ℕ) (f : Leaf) → get_elem? frames i ≡ some f → f.0 ≡ i
same_page zero f e = let q : (0, zeros page_size) ≡ f = cc e in ap (λ (x : Leaf). x.0) (sym q)
same_page (suc zero) f e = let q : (1, zeros page_size) ≡ f = cc e in ap (λ (x : Leaf). x.0) (sym q)
same_page (suc (suc i)) f e = absurd (some-ne-none f (sym e))

same_bytes : (i : ℕ) (f : Leaf) → get_elem? frames i ≡ some f → f.1 ≡ zeros page_size
same_bytes zero f e = let q : (0, zeros page_size) ≡ f = cc e in ap (λ (x : Leaf). x.1) (sym q)
same_bytes (suc zero) f e = let q : (1, zeros page_size) ≡ f = cc e in ap (λ (x : Leaf). x.1) (sym q)
same_bytes (suc (suc i)) f e = absurd (some-ne-none f (sym e))

empty_is : IsEmptyStore leaf diary frames []
empty_is = record {
  stands = refl;
  length_is = refl;
  counted = refl;
  flushed = refl;
  reached = (0, λ l. tt);
  no_pins = λ k. refl;
  page = same_page;
  bytes = λ i f at l lt. same_bytes i f at;
  placed = λ i k a b e. e;
}

pub can_lie : CanLie leaf diary frames []
can_lie = empty_stores_lie leaf diary frames [] empty_is

-- The three steps, and their records

abbrev create_step : Step
create_step = record { kind = kind.Create; xid = 0; after = sheet 0 meta_page ∷ sheet 1 root_page ∷ [] }

abbrev begin_step : Step
begin_step = record { kind = kind.Begin; xid = 0; after = [] }

abbrev abort_step : Step
abort_step = record { kind = kind.Abort; xid = 1; after = [] }

abbrev pub create_record : Record
create_record = record { number = 1; xid = 0; kind = kind.Create; changes = image 0 meta_page ∷ image 1 root_page ∷ [] }

abbrev pub begin_record : Record
begin_record = record { number = 2; xid = 1; kind = kind.Begin; changes = [] }

abbrev pub abort_record : Record
abort_record = record { number = 3; xid = 1; kind = kind.Abort; changes = [] }

abbrev pub create : Entry
create = record { step = create_step; logged = create_record }

abbrev pub begin : Entry
begin = record { step = begin_step; logged = begin_record }

abbrev pub abort : Entry
abort = record { step = abort_step; logged = abort_record }

meta_bytes : replay (create_record ∷ []) 0 ≡ page_bytes meta_page
unfolding replay edited
meta_bytes = refl

root_bytes : replay (create_record ∷ []) 1 ≡ page_bytes root_page
unfolding replay edited
root_bytes = refl

create_bytes : (x : Sheet) → In x create_step.after
    → replay (create_record ∷ []) x.page ≡ page_bytes (made_by create_record x.content)
create_bytes x (inl e) =
    subst (λ (s : Sheet). replay (create_record ∷ []) s.page ≡ page_bytes (made_by create_record s.content))
    (sym e) meta_bytes
create_bytes x (inr (inl e)) =
    subst (λ (s : Sheet). replay (create_record ∷ []) s.page ≡ page_bytes (made_by create_record s.content))
    (sym e) root_bytes
create_bytes x (inr (inr e)) = absurd e

no_redo : (R : Log) (r : Record) (redo : ℕ) → (r.kind ≡ kind.Checkpoint redo → ⊥)
    → ((x : Record) → In x R → x.kind ≡ kind.Checkpoint redo → ⊥) → (x : Record) → In x (r ∷ R)
    → x.kind ≡ kind.Checkpoint redo → ⊥
no_redo R r redo here later x (inl e) is = here (ap (λ (y : Record). y.kind) (sym e) ∙ is)
no_redo R r redo here later x (inr i) is = later x i is

no_create : (redo : ℕ) (x : Record) → In x (create_record ∷ []) → x.kind ≡ kind.Checkpoint redo → ⊥
no_create redo = no_redo [] create_record redo (λ e. cc e) (λ x i e. i)

no_begin : (redo : ℕ) (x : Record) → In x (begin_record ∷ create_record ∷ []) → x.kind ≡ kind.Checkpoint redo → ⊥
no_begin redo = no_redo (create_record ∷ []) begin_record redo (λ e. cc e) (no_create redo)

no_abort : (redo : ℕ) (x : Record) → In x (abort_record ∷ begin_record ∷ create_record ∷ [])
    → x.kind ≡ kind.Checkpoint redo → ⊥
no_abort redo = no_redo (begin_record ∷ create_record ∷ []) abort_record redo (λ e. cc e) (no_begin redo)

create_is : IsRecordOf [] create_step create_record
create_is = record {
  drawn = record { number = refl; fits = λ e. cc e; xid = refl; kind = refl; pages = refl };
  is_record = legal.valid.0.0.1.is_record;
  can_edit = legal.valid.0.0.1.can_edit;
  bytes = create_bytes;
  images = legal.images.0.0;
  redo_images = λ x redo i is. absurd (no_create redo x i is);
}

begin_is : IsRecordOf (create_record ∷ []) begin_step begin_record
begin_is = record {
  drawn = record { number = refl; fits = λ e. omega arith; xid = refl; kind = refl; pages = refl };
  is_record = legal.valid.0.1.is_record;
  can_edit = λ c i. absurd i;
  bytes = λ x i. absurd i;
  images = legal.images.0;
  redo_images = λ x redo i is. absurd (no_begin redo x i is);
}

abort_is : IsRecordOf (begin_record ∷ create_record ∷ []) abort_step abort_record
abort_is = record {
  drawn = record { number = refl; fits = λ e. cc e; xid = refl; kind = refl; pages = refl };
  is_record =
      record { number = omega arith; xid = omega arith; kind = tt; count = omega arith; changes = tt; once = tt };
  can_edit = λ c i. absurd i;
  bytes = λ x i. absurd i;
  images = (legal.images.0, λ c i l. absurd i);
  redo_images = λ x redo i is. absurd (no_abort redo x i is);
}

-- What a pass may log, and shows of it

-- where a pass got the right of maintenance over the empty log, no other has made the store
none_made : (v : View) (R : Log) → v.work ≡ Some 0 → AreOthers v R → RecordsAreValid R → R ≡ []
none_made v [] right others valid = refl
none_made v (r ∷ R) right others valid =
    let none = none_made v R right others.1 valid.0 in
    let number = valid.1.number in
    absurd (⊎_elim
    (λ (e : r.kind ≡ kind.Create). others.0.not_work 0 right (omega arith) (subst IsMaintenance (sym e) tt))
    (λ (some : R ≢ []). some none) valid.1.started)

may_create : (v : View) → v.seen ≡ [] → v.work ≡ Some 0 → MayLog v create_step
may_create v seen right R a r Q n l =
    let later : R ≡ a.later = a.goes_on ∙ ap (λ (S : Log). a.later ++ S) seen ∙ append-nil a.later in
    let none = none_made v R right (subst (AreOthers v) (sym later) a.others) a.legal.valid in
    let is : r.kind ≡ kind.Create = n.kind in
    RuleHolds.create (record {
      here = record {
        kind_is = is;
        pages = n.pages;
        empty = ap length none;
        after_is = ap (map Q) n.pages
            ∙ (λ i. (made_as r meta_page Q 0 is l.here.0 i ∷ made_as r root_page Q 1 is l.here.1.0 i ∷ []));
      };
    })
  where
    made_as : (r : Record) (c : Page) (Q : ℕ → Page) (p : ℕ) → r.kind ≡ kind.Create → Q p ≡ made_by r c
        → Q p ≡ record { right = c.right; stamp = r.number; body = c.body }
    made_as r c Q p is e =
        e ∙ ap (λ (k : Kind). record { right = c.right; stamp = r.number; body = drawn_body k c.body }) is

-- the pages that are held
held_pages : (f g : Note) → f.page ≡ 1 → g.page ≡ 0 → sheet_pages (sheets (f ∷ g ∷ [])) ≡ 1 ∷ 0 ∷ []
held_pages f g one none =
    subst (λ n. sheet_pages (sheet_if (nat_lt n page_limit) n f.content (sheets (g ∷ []))) ≡ 1 ∷ 0 ∷ []) (sym one)
    (ap (λ (ps : List ℕ). 1 ∷ ps)
    (subst (λ n. sheet_pages (sheet_if (nat_lt n page_limit) n g.content []) ≡ 0 ∷ []) (sym none) refl))

owes_create : (v : View) → sheet_pages v.held ≡ 1 ∷ 0 ∷ [] → v.work ≡ Some 0 → Owes v create_step
owes_create v held right = record {
  started = inr refl;
  pages = λ p i. subst (In p) (sym held)
      (⊎_elim (λ (e : p ≡ 0). inr (inl e)) (λ rest. ⊎_elim (λ (e : p ≡ 1). inl e) (λ none. absurd none) rest) i);
  once = (((λ e. omega (arith, e)), tt), (tt, tt));
  fits = fits;
  xid = inl refl;
  work = λ m. (0, right);
  not_all = λ e. cc e;
}
  where
    fits : (x : Sheet) → In x create_step.after → IsPage x.content
    fits x (inl e) = subst (λ (s : Sheet). IsPage s.content) (sym e) meta_is
    fits x (inr (inl e)) = subst (λ (s : Sheet). IsPage s.content) (sym e) root_is
    fits x (inr (inr e)) = absurd e

owes_begin : (v : View) → v.seen ≢ [] → Owes v begin_step
owes_begin v some_log = record {
  started = inl some_log;
  pages = λ p i. absurd i;
  once = tt;
  fits = λ x i. absurd i;
  xid = inl refl;
  work = λ m. absurd (omega (arith, m));
  not_all = λ e. cc e;
}

may_abort : (v : View) → v.seen ≡ begin_record ∷ create_record ∷ [] → v.xids ≡ 1 ∷ [] → v.begun ≡ 1 ∷ []
    → MayLog v abort_step
may_abort v seen xids begun = abort_may v abort_step (λ P ok shown. record {
  kind_is = refl;
  after_is = refl;
  own = record {
    own = subst (In 1) (sym xids) (inl refl);
    begun = λ e. (let z : 1 ∷ [] ≡ [] = sym begun ∙ e in cc z);
    runs = ap (λ (R : Log). fate R 1) seen;
  };
})

owes_abort : (v : View) → v.seen ≢ [] → v.xids ≡ 1 ∷ [] → Owes v abort_step
owes_abort v some_log xids = record {
  started = inl some_log;
  pages = λ p i. absurd i;
  once = tt;
  fits = λ x i. absurd i;
  xid = inr (inr (subst (In 1) (sym xids) (inl refl)));
  work = λ m. absurd (omega (arith, m));
  not_all = λ e. λ z. omega (arith, z);
}

-- The journal with one record more

bounds : (v : PassState Log) (b : Log) → AreBounds diary v b (record { floor = 0; since = length b; clock = 0 })
bounds v b = record {
  flushed = omega arith;
  within = omega arith;
  pins = λ k p is. cc is;
  most = λ n m le le' all. (le, le');
  reached = λ l. tt;
}

-- the pass's step is logged, over this log, which it has seen
may_log : (old v : PassState Log) (b R : Log) (e : Entry) → HasClaimedJournal diary b old v → v.seen ≡ R
    → IsRecordOf R e.step e.logged → MayLog (view_of v) e.step → Owes (view_of v) e.step
    → MayGive diary 2 v v.seen b (e.logged ∷ R) (logged e v)
may_log old v b R e h seen made may owes =
    may_give diary 2 old v b (e.logged ∷ R) e (record { floor = 0; since = suc (length R); clock = 0 }) h
    (record {
      stands = ap (λ (S : Log). e.logged ∷ S) (sym seen);
      length_is = ap (λ (S : Log). suc (length S)) (sym seen);
      made = λ l. subst (λ (S : Log). IsRecordOf S e.step e.logged) (sym seen) made;
      counted = refl;
      flushed = refl;
      faults = omega arith;
      write_faults = omega arith;
      owes = λ x. cc x;
      begins = λ x. refl;
      places = λ i. refl;
      pins = λ k. refl;
      reached = λ l clock n t. tt;
      redo = λ l n written synced t. tt;
      walks = λ l n bound passed t. tt;
    })
    (λ l. (may, owes)) (bounds v (e.logged ∷ R))

-- what is known of a pass that has the whole room, over a log that it has seen, with these xids
pub record Stands (key : Snapshot Log) (R : Log) (xids begun : List ℕ) (v : PassState Log) : Type 0 where
  pub start : v.start ≡ Some key
  pub seen : v.seen ≡ R
  pub xids_are : v.xids ≡ xids
  pub begun_are : v.begun ≡ begun
  pub fresh : v.fresh ≡ false
  pub room : v.room ≡ 16

-- a pass that claims the journal has seen the same log
pub has_claimed : (key : Snapshot Log) (R b : Log) (xids begun : List ℕ) (v w : PassState Log) → key.value ≡ []
    → Stands key R xids begun v → HasClaimedJournal diary b v w → Stands key R xids begun w
has_claimed key R b xids begun v w opening s h =
    let all = h.alone s.room key s.start in
    let same : h.log ≡ v.seen = all.seen (subst (λ (S : Log). length S ≤ length v.seen) (sym opening) (omega arith)) in
    record {
      start = ap (λ (x : PassState Log). x.start) h.state ∙ s.start;
      seen = ap (λ (x : PassState Log). x.seen) h.state ∙ same ∙ s.seen;
      xids_are = ap (λ (x : PassState Log). x.xids) h.state ∙ s.xids_are;
      begun_are = ap (λ (x : PassState Log). x.begun) h.state ∙ s.begun_are;
      fresh = ap (λ (x : PassState Log). x.fresh) h.state ∙ s.fresh;
      room = ap (λ (x : PassState Log). x.room) h.state ∙ s.room;
    }

-- and one that gives it back with a record has seen that too
pub has_given : (key : Snapshot Log) (R b b' : Log) (e : Entry) (xids begun : List ℕ) (v w : PassState Log)
    → Stands key R xids begun v → HasGivenJournal diary b b' (logged e v) v w
    → Stands key (e.logged ∷ R) (xids_by e.logged.kind e.logged.xid xids)
    (xids_by e.logged.kind e.logged.xid begun) w
has_given key R b b' e xids begun v w s g = record {
  start = ap (λ (x : PassState Log). x.start) g.state ∙ s.start;
  seen = ap (λ (x : PassState Log). x.seen) g.state ∙ ap (λ (S : Log). e.logged ∷ S) s.seen;
  xids_are = ap (λ (x : PassState Log). x.xids) g.state
      ∙ ap (xids_by e.logged.kind e.logged.xid) s.xids_are;
  begun_are = ap (λ (x : PassState Log). x.begun) g.state
      ∙ ap (xids_by e.logged.kind e.logged.xid) s.begun_are;
  fresh = ap (λ (x : PassState Log). x.fresh) g.state ∙ s.fresh;
  room = ap (λ (x : PassState Log). x.room) g.state ∙ s.room;
}

module _ (key : Snapshot Log) (opening : key.value ≡ []) (v1 v2 v3 v4 : PassState Log) (f0 f1 : Leaf)
    (laid : HasOpened diary [] (first_state key) v1) (right : HasClaimedWork diary v1 v2)
    (first : HasClaimed leaf diary 0 0 f0 v2 v3) (second : HasClaimed leaf diary 1 1 f1 v3 v4) where
  opened : Stands key [] [] [] v1
  opened = record {
    start = ap (λ (x : PassState Log). x.start) laid.state;
    seen = ap (λ (x : PassState Log). x.seen) laid.state ∙ sym laid.stands;
    xids_are = ap (λ (x : PassState Log). x.xids) laid.state ∙ ap running (sym laid.stands);
    begun_are = ap (λ (x : PassState Log). x.begun) laid.state;
    fresh = ap (λ (x : PassState Log). x.fresh) laid.state;
    room = ap (λ (x : PassState Log). x.room) laid.state;
  }

  pub holding : Stands key [] [] [] v4
  holding =
      let c = second.state in
      let b = first.state in
      let a = right.state in
      let s = opened in
      record {
        start = ap (λ (x : PassState Log). x.start) c ∙ ap (λ (x : PassState Log). x.start) b
            ∙ ap (λ (x : PassState Log). x.start) a ∙ s.start;
        seen = ap (λ (x : PassState Log). x.seen) c ∙ ap (λ (x : PassState Log). x.seen) b
            ∙ ap (λ (x : PassState Log). x.seen) a ∙ s.seen;
        xids_are = ap (λ (x : PassState Log). x.xids) c ∙ ap (λ (x : PassState Log). x.xids) b
            ∙ ap (λ (x : PassState Log). x.xids) a ∙ s.xids_are;
        begun_are = ap (λ (x : PassState Log). x.begun) c ∙ ap (λ (x : PassState Log). x.begun) b
            ∙ ap (λ (x : PassState Log). x.begun) a ∙ s.begun_are;
        fresh = ap (λ (x : PassState Log). x.fresh) c ∙ ap (λ (x : PassState Log). x.fresh) b
            ∙ ap (λ (x : PassState Log). x.fresh) a ∙ s.fresh;
        room = ap (λ (x : PassState Log). x.room) c ∙ ap (λ (x : PassState Log). x.room) b
            ∙ ap (λ (x : PassState Log). x.room) a ∙ s.room;
      }

  module _ (v5 : PassState Log) (b1 : Log) (has : HasClaimedJournal diary b1 v4 v5) where
    pub ready : Stands key [] [] [] v5
    ready = has_claimed key [] b1 [] [] v4 v5 opening holding has

    -- the right is held since the empty log
    since_none : v5.work ≡ Some 0
    since_none =
        let none : right.log ≡ v1.seen = right.alone opened.room key opened.start
        (subst (λ (S : Log). length S ≤ length v1.seen) (sym opening) (omega arith)) in
        ap (λ (x : PassState Log). x.work) has.state ∙ ap (λ (x : PassState Log). x.work) second.state
        ∙ ap (λ (x : PassState Log). x.work) first.state ∙ ap (λ (x : PassState Log). x.work) right.state
        ∙ ap (λ (S : Log). Some (length S)) (none ∙ opened.seen)

    -- and so are both frames, which have the first pages
    abbrev note0 : Note
    note0 = record { frame = 0; page = f0.0; bytes = f0.1; content = first.content }

    abbrev note1 : Note
    note1 = record { frame = 1; page = f1.0; bytes = f1.1; content = second.content }

    noted : v4.frames ≡ note1 ∷ note0 ∷ []
    noted =
        ap (λ (x : PassState Log). x.frames) second.state
        ∙ ap (λ (fs : List Note). note1 ∷ fs)
        (ap (λ (x : PassState Log). x.frames) first.state
        ∙ ap (λ (fs : List Note). note0 ∷ fs)
        (ap (λ (x : PassState Log). x.frames) right.state ∙ ap (λ (x : PassState Log). x.frames) laid.state))

    held : sheet_pages (sheets v5.frames) ≡ 1 ∷ 0 ∷ []
    held =
        ap (λ (x : PassState Log). sheet_pages (sheets x.frames)) has.state
        ∙ ap (λ (fs : List Note). sheet_pages (sheets fs)) noted
        ∙ held_pages note1 note0 (sym (has.placed note1 (subst (In note1) (sym noted) (inl refl))))
        (sym (has.placed note0 (subst (In note0) (sym noted) (inr (inl refl)))))

    -- a Create may be logged
    pub creates : MayGive diary 2 v5 v5.seen b1 (create_record ∷ []) (logged create v5)
    creates =
        may_log v4 v5 b1 [] create has ready.seen create_is (may_create (view_of v5) ready.seen since_none)
        (owes_create (view_of v5) held since_none)

    module _ (v6 v7 : PassState Log) (b2 : Log)
        (made : HasGivenJournal diary b1 (create_record ∷ []) (logged create v5) v5 v6)
        (again : HasClaimedJournal diary b2 v6 v7) where
      created : Stands key (create_record ∷ []) [] [] v7
      created =
          has_claimed key (create_record ∷ []) b2 [] [] v6 v7 opening
          (has_given key [] b1 (create_record ∷ []) create [] [] v5 v6 ready made) again

      -- and then a Begin
      pub begins : MayGive diary 2 v7 v7.seen b2 (begin_record ∷ create_record ∷ []) (logged begin v7)
      begins =
          may_log v6 v7 b2 (create_record ∷ []) begin again created.seen begin_is
          (begin_may (view_of v7) begin_step (λ P ok shown. record { kind_is = refl; after_is = refl }))
          (owes_begin (view_of v7) (λ e. (let z : create_record ∷ [] ≡ [] = sym created.seen ∙ e in cc z)))

      module _ (v8 v9 : PassState Log) (b3 : Log)
          (has_begun : HasGivenJournal diary b2 (begin_record ∷ create_record ∷ []) (logged begin v7) v7 v8)
          (last : HasClaimedJournal diary b3 v8 v9) where
        runs : Stands key (begin_record ∷ create_record ∷ []) (1 ∷ []) (1 ∷ []) v9
        runs =
            has_claimed key (begin_record ∷ create_record ∷ []) b3 (1 ∷ []) (1 ∷ []) v8 v9 opening
            (has_given key (create_record ∷ []) b2
            (begin_record ∷ create_record ∷ []) begin [] [] v7 v8 created has_begun) last

        -- and then an Abort of it
        pub aborts : MayGive diary 2 v9 v9.seen b3 (abort_record ∷ begin_record ∷ create_record ∷ []) (logged abort v9)
        aborts =
            may_log v8 v9 b3 (begin_record ∷ create_record ∷ []) abort last runs.seen abort_is
            (may_abort (view_of v9) runs.seen runs.xids_are runs.begun_are)
            (owes_abort (view_of v9) (λ e. (let z : begin_record ∷ create_record ∷ [] ≡ [] = sym runs.seen ∙ e in cc z))
            runs.xids_are)
