-- Steps of sessions at a log that was worked out: one insert on an empty store.
use Rattle.std.proofs.Common.{◌≡◌, ◌≢◌, ◌<◌, ℕ, zero, suc, List, [], ◌∷◌, length, refl, sym, ap, subst, ◌∙◌, inl, inr}
use Rattle.std.proofs.Common.{arith}
use Rattle.std.proofs.lemmas.List.{length-append}
use Rattle.std.specs.Prelude.{Option, Some, None}
use Rattle.page_types.specs.Views.{free_page, slot_at}
use Rattle.page_types.specs.declared.page.Page.{Page}
use Rattle.page_types.specs.declared.page.Head.{Head}
use Rattle.page_types.specs.declared.page.Body.{Body}
use Rattle.page_types.specs.declared.page.Body.TheVariants as body
use Rattle.page_types.specs.declared.record.Record.{Record}
use Rattle.page_types.specs.declared.record.Kind.TheVariants as kind
use Rattle.core_state.specs.Log.{Log, Pages, In, Shows, fate}
use Rattle.core_state.specs.Documents.{Doc, placed, page_of, slot_of}
use Rattle.core_state.specs.Index.{IsIndexed}
use Rattle.core_state.specs.Known.{use_in}
use Rattle.core_state.specs.Allowed.{Sheet, View, IsOthers, IsAllowed, Step, IsDrawn, AreMade, Leaves, MayLog}
use Rattle.core_state.specs.Steps.{sheet, RunsOwn, IsNewSheet, CanPlace, CanPutOverflow}
use Rattle.core_state.specs.Steady.{IsMaintenance}
use Rattle.core_state.specs.declared.answers.Fate.TheVariants.{Running}
use Rattle.core_state.specs.declared.answers.PageUse.TheVariants as usage
use Rattle.core_state.proofs.Showing.{shown_one}
use Rattle.core_state.proofs.Worked.{head, heap_page, made, placed_by, head_record, log_begun}
use Rattle.core_state.proofs.Worked.{log_placed, shown_begun, shown_placed, legal}
use Rattle.core_state.proofs.WorkedPending.{log_linked, with_link}
use Rattle.core_state.proofs.WorkedRun.{shown_linked, ready}
use Rattle.core_state.proofs.Steps.Transactions.{commit_may}
use Rattle.core_state.proofs.WorkedMore as more
use Rattle.core_state.proofs.WorkedLong as long
use Rattle.core_state.proofs.Steps.Documents.{place_may, mark_may}

-- a session that has begun transaction x, has seen this log and holds these pages
abbrev session_of : ℕ → Log → List Sheet → View
session_of x seen held = record {
  seen = seen;
  pin = None;
  floor = 0;
  since = 0;
  from = 0;
  readings = [];
  held = held;
  xids = x ∷ [];
  begun = x ∷ [];
  work = None;
}

abbrev session : Log → List Sheet → View
session seen held = session_of 1 seen held

owns : (x : ℕ) (seen : Log) (held : List Sheet) → fate seen x ≡ Running → RunsOwn (session_of x seen held) x
owns x seen held runs = record { own = inl refl; begun = λ e. cc e; runs = runs }

-- a head with a serial of the session's own choice, and its page with an old stamp
abbrev new_head : Head
new_head = record (head 1) { serial = 9 }

abbrev new_page : Page
new_page = record { right = 0; stamp = 7; body = body.Heap (Some new_head ∷ []) }

abbrev place_step : Step
place_step = record { kind = kind.PlaceHead 4096 9; xid = 1; after = sheet 2 new_page ∷ [] }

used_below : (q : ℕ) → q < 2 → use_in made q ≢ usage.Unused
used_below zero lt e = cc
used_below (suc zero) lt e = cc
used_below (suc (suc q)) lt e = omega (arith, lt)

others_none : (j : ℕ) → j ≢ 0 → slot_at (Some new_head ∷ []) j ≡ slot_at [] j
others_none zero off = absurd (off refl)
others_none (suc j) off = refl

can_place : (P : Pages) → Shows log_begun P → CanPlace (session log_begun (sheet 2 free_page ∷ [])) P place_step
can_place P shown = record {
  item = 4096;
  serial = 9;
  head = new_head;
  old = free_page;
  new = new_page;
  slots = [];
  new_slots = Some new_head ∷ [];
  kind_is = refl;
  after_is = refl;
  own = owns 1 log_begun (sheet 2 free_page ∷ []) refl;
  held = inl refl;
  page = inr (
    refl,
    refl,
    IsNewSheet.unused refl (subst (λ (S : Pages). (q : ℕ) → q < 2 → use_in S q ≢ usage.Unused)
        (shown_one log_begun made P shown_begun shown) used_below),
  );
  was_free = refl;
  in_row = omega arith;
  new_head = record { serial_is = refl; inserted_by = refl; deleted_by = refl; overflow = refl; private = refl };
  put = record { put = refl; others = others_none; size = refl };
  content = refl;
}

-- the step may be logged; after the log that was seen it is the log's third record, with its page
may_place : MayLog (session log_begun (sheet 2 free_page ∷ [])) place_step
may_place = place_may (session log_begun (sheet 2 free_page ∷ [])) place_step (λ P legal shown. can_place P shown)

is_third : IsDrawn log_begun place_step (head_record 1)
is_third = record { number = refl; fits = λ e. cc; xid = refl; kind = refl; pages = refl }

elsewhere : (p : ℕ) → (In p (2 ∷ []) → ⊥) → placed_by 1 p ≡ made p
elsewhere zero off = refl
elsewhere (suc zero) off = refl
elsewhere (suc (suc zero)) off = absurd (off (inl refl))
elsewhere (suc (suc (suc p))) off = refl

leaves_third : Leaves made (placed_by 1) (head_record 1) place_step
leaves_third = record { here = (refl, tt); elsewhere = elsewhere }

-- on the page that it leaves, the slot is used
abbrev again : View
again = session log_placed (sheet 2 (heap_page 1) ∷ [])

abbrev slots_or_none : Body → List (Option Head)
slots_or_none (body.Heap slots) = slots
slots_or_none _ = []

no_second : (P : Pages) → CanPlace again P place_step → ⊥
no_second P c = elim c.held [
  | inl e ↦
      let old : c.old ≡ heap_page 1 = ap (λ (x : Sheet). x.content) e in
      let item : c.item ≡ 4096 = let f = c.kind_is in cc in
      elim c.page [
        | inl heap ↦
            let slots : c.slots ≡ Some (head 1) ∷ [] = ap slots_or_none (sym heap.0 ∙ ap (λ (p : Page). p.body) old) in
            let there : Some (head 1) ≡ None = ap (λ s. slot_at s 0) (sym slots)
            ∙ ap (λ i. slot_at c.slots (slot_of i)) (sym item) ∙ c.was_free in
            cc
        | inr new ↦ not_new c.old old new.2
      ]
  | inr none ↦ none
]
  where
    not_new : (old : Page) → old ≡ heap_page 1 → IsNewSheet P 0 (page_of c.item) old → ⊥
    not_new old is (IsNewSheet.unused free low) = let f = ap (λ (p : Page). p.body) (sym is) ∙ free in cc
    not_new old is (IsNewSheet.deleted g gone small) = let f = ap (λ (p : Page). p.body) (sym is) ∙ gone in cc

-- the transaction may commit once the row of its document is linked
abbrev commit_step : Step
commit_step = record { kind = kind.Commit 0; xid = 1; after = [] }

abbrev AreIndexed : Pages → Type 0
AreIndexed P = (d : Doc) → In d (placed log_linked 1) → IsIndexed P d

may_commit : MayLog (session log_linked []) commit_step
may_commit = commit_may (session log_linked []) commit_step (λ P ok shown. record {
  number = 0;
  kind_is = refl;
  after_is = refl;
  own = owns 1 log_linked [] refl;
  indexed = subst AreIndexed (shown_one log_linked with_link P shown_linked shown) ready;
})

-- a document that had committed may be marked by transaction 3, which leaves the worked page
abbrev mark_step : Step
mark_step = record
    { kind = kind.MarkDeleted 4096 1; xid = 3; after = sheet 2 (record more.marked_page { stamp = 7 }) ∷ [] }

abbrev marking : View
marking = session_of 3 more.log_third (sheet 5 free_page ∷ sheet 2 more.two_heads ∷ [])

may_mark : MayLog marking mark_step
may_mark = mark_may marking mark_step (λ P ok shown. record {
  doc = record { item = 4096; serial = 1 };
  head = head 1;
  number = 1;
  old = more.two_heads;
  new = record more.marked_page { stamp = 7 };
  kind_is = refl;
  after_is = refl;
  own = owns 3 more.log_third (sheet 5 free_page ∷ sheet 2 more.two_heads ∷ []) refl;
  held = inr (inl refl);
  inserted = refl;
  unmarked = inl refl;
  head_after = record {
    slots = more.two_slots;
    new_slots = more.marked_slots;
    before = refl;
    head = refl;
    serial = refl;
    put = record { put = refl; others = more.other_slots; size = refl };
    right = refl;
    after = refl;
  };
})

leaves_mark : AreMade more.with_mark more.mark_record mark_step.after
leaves_mark = (refl, tt)

-- the middle of three parts may be put in front of the last
abbrev part_step : List ℕ → Step
part_step middle = record {
  kind = kind.PutOverflow 4096 1;
  xid = 1;
  after = sheet 2 (long.heap_page 0 4) ∷ sheet 4 (long.part_page 0 3 middle) ∷ [];
}

abbrev putting : List ℕ → View
putting last = session (long.log_one last) (sheet 4 free_page ∷ sheet 2 (long.heap_page 4 3) ∷ [])

can_put : (last middle : List ℕ) → length last ≡ 3708 → length middle ≡ 8168
    → CanPutOverflow (putting last) (long.one_part 0 last) (part_step middle)
can_put last middle size full = record {
  doc = long.doc 1;
  head = long.head 3;
  new = 4;
  part = middle;
  chain = 3 ∷ [];
  old = long.heap_page 4 3;
  old_part = free_page;
  heap = long.heap_page 0 4;
  put = long.part_page 0 3 middle;
  kind_is = refl;
  after_is = refl;
  own = owns 1 (long.log_one last) (sheet 4 free_page ∷ sheet 2 (long.heap_page 4 3) ∷ []) refl;
  placed_by = refl;
  held = inr (inl refl);
  held_part = inl refl;
  long = omega arith;
  full = λ some. full;
  is_new = IsNewSheet.unused refl (long.used_in_one last);
  is_chain = (refl, (λ e. omega (arith, e)), refl);
  missing = λ e. omega (arith, e, size, length-append last []);
  head_after = record {
    slots = Some (long.head 3) ∷ [];
    new_slots = Some (long.head 4) ∷ [];
    before = refl;
    head = refl;
    serial = refl;
    put = record { put = refl; others = long.others_stay 3 4; size = refl };
    right = refl;
    after = refl;
  };
  right = refl;
  content = refl;
}

leaves_part : (last middle : List ℕ)
    → AreMade (long.two_parts last middle) (long.put_record 1 5 4 (long.two_parts last middle)) (part_step middle).after
leaves_part last middle = (refl, (refl, tt))

-- the log with the head is allowed to the session once it has seen it, and not as another's record
allowed_placed : IsAllowed (session log_placed []) log_placed
allowed_placed = record {
  later = [];
  goes_on = refl;
  others = tt;
  legal = legal;
  keeps = tt;
  pages = placed_by 1;
  shown = shown_placed;
  held = tt;
  read = tt;
}

not_others : IsOthers (session log_begun []) (head_record 1) → ⊥
not_others o = o.not_own (inl refl)

-- a shift isn't another's to a session that got the right of maintenance at this log
abbrev worker : View
worker = record (session log_begun []) { work = Some 2 }

not_anothers_work : (r : Record) → r.kind ≡ kind.Shift → r.number ≡ 3 → IsOthers worker r → ⊥
not_anothers_work r is number o = o.not_work 2 refl (omega (arith, number)) (subst IsMaintenance (sym is) (omega arith))
