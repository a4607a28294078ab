-- The head of a document is placed: what is logged, and what the transaction has placed then.
use Rattle.std.proofs.Common.{◌≡◌, ◌≢◌, ◌<◌, ℕ, List, [], ◌∷◌, ◌++◌, map, refl, sym, ap, subst, ◌∙◌}
use Rattle.std.proofs.Common.{inl, inr}
use Rattle.std.proofs.Common.{⊎_elim, arith}
use Rattle.std.specs.Prelude.{Option, Some, Result, Ok, IfErr}
use Rattle.std.proofs.lemmas.List.{append-nil}
use Rattle.disk_trait.specs.declared.device.Disk.{Ghosts as Disk}
use Rattle.page_types.specs.Numbers.{page_limit, most_slots}
use Rattle.page_types.specs.Pages.{IsPage}
use Rattle.page_types.specs.Views.{slots_in, slots_of, slot_at}
use Rattle.page_types.specs.declared.page.Page.{Page}
use Rattle.page_types.specs.declared.page.Head.{Head}
use Rattle.page_types.specs.declared.page.Body.{Body}
use Rattle.page_types.specs.declared.page.Body.TheVariants as body
use Rattle.page_types.specs.declared.record.Record.{Record}
use Rattle.page_types.specs.declared.record.Kind.{Kind}
use Rattle.page_types.specs.declared.record.Kind.TheVariants as kind
use Rattle.core_state.specs.Log.{Log, Pages, fate}
use Rattle.core_state.specs.Allowed.{Sheet, Step, MayLog, made_by, drawn_body, numbered, with_serial}
use Rattle.core_state.specs.Documents.{Doc, doc_at, item_at, page_of, slot_of, name_of, placed_with, placed}
use Rattle.core_state.specs.Documents.{marked_with, marked, head_of}
use Rattle.core_state.specs.History.{Commit, Document, AreInserts, IsCommitOf}
use Rattle.core_state.specs.HeapRules.{IsNewHead}
use Rattle.core_state.specs.Steps.{sheet}
use Rattle.core_state.specs.declared.answers.Fate.TheVariants.{Running}
use Rattle.core_state.proofs.RunningOnes.{on_same}
use Rattle.core_state.proofs.Steps.Heads.{numbered_at}
use Rattle.core_state.proofs.Steps.Documents.{place_may}
use Rattle.doc_heap.specs.HeapPages.{IsPlaced}
use Rattle.doc_heap.specs.Logging.{IsHeapOrNew}
use Rattle.doc_heap.proofs.HeapSheets.{placed_logged}
use Rattle.buffer_frames.specs.Frames.{Behind}
use Rattle.buffer_frames.specs.Journals.{next_record}
use Rattle.buffer_frames.specs.Passes.{IsPassOf, IsHolding, Seen, view_of}
use Rattle.buffer_frames.specs.declared.pass.Pass.{Pass}
use Rattle.engine.specs.Answers.{MeetsNoBadPage}
use Rattle.engine.specs.Causes.{IsStoreFull}
use Rattle.engine.specs.Db.{DbValue, state_then, fault_of}
use Rattle.engine.specs.Going.{Goes}
use Rattle.engine.specs.Places.{head_for, NoHeapPageHasRoom}
use Rattle.engine.specs.Work.{IsPlaceOf}
use Rattle.engine.specs.Inner.Choosing.{CannotChoose}
use Rattle.engine.specs.Inner.Parts.{Runs, IsPlacedSoFar, AreIndexed, HasChanged, HasPlaced}
use Rattle.engine.specs.Inner.Changing.{MayLogStep, LogsStep, CannotLog, CannotLogMade, CannotPlace, place_of}
use Rattle.engine.specs.declared.error.DbError.{DbError}
use Rattle.engine.specs.declared.error.DbError.TheVariants.{StoreFull, LogFull, Down, DiskFault, BadPage, OutOfMemory}
use Rattle.engine.proofs.Growing.{stays_for}
use Rattle.engine.proofs.Lawful.{tried_is_heap, taken_is_new}
use Rattle.engine.proofs.RowsKept.{no_row_placed, some_log}
use Rattle.engine.proofs.StepSeen.{GrowsBy, after_step, owes_of, own_here, own_begun, runs_still}

page_at : (page slot : ℕ) → slot < most_slots → page_of (item_at page slot) ≡ page
page_at page slot lt = omega (arith, lt)

slot_in : (page slot : ℕ) → slot < most_slots → slot_of (item_at page slot) ≡ slot
slot_in page slot lt = omega (arith, lt)

-- a new head
new_head_for : (x : ℕ) (bytes : List ℕ) → IsNewHead (head_for x bytes) 0 x
new_head_for x bytes =
    record { serial_is = refl; inserted_by = refl; deleted_by = refl; overflow = refl; private = refl }

heap_not_free : (c : Page) (slots : List (Option Head)) → c.body ≡ body.Heap slots → c.body ≢ body.Free
heap_not_free c slots is free = let e : body.Heap slots ≡ body.Free = sym is ∙ free in cc

module _ {D : Type 0} (device : Disk D) (s : DbValue D) (pass : Pass) (held : Sheet) (x : ℕ) (bytes : List ℕ)
    (new : Page) (slot : ℕ) (is : pass.xid ≡ Some x)
    (on : IsPlaced held.content (head_for x bytes) new slot) where
  place_allowed : Runs device s pass x
      → Seen device s.frames pass (λ (S : Log) (P : Pages). IsHeapOrNew P pass.since held.page held.content)
      → Behind device s.frames
      (λ (R : Log). MayLog (view_of s.frames pass R (held ∷ [])) (place_of x held.page slot new))
  place_allowed runs is_new t up R stands legal =
      let v = view_of s.frames pass R (held ∷ []) in
      place_may v (place_of x held.page slot new) (λ P seen_is shown.
      placed_logged v P (place_of x held.page slot new) held.page slot 0 (head_for x bytes) held.content new on
      (is_new t up R stands legal P shown) (new_head_for x bytes)
      (record {
        own = own_here x pass.xid is;
        begun = own_begun x pass.xid is;
        runs = runs t up R stands legal P shown;
      })
      (inl refl) refl refl)

  -- the step may be logged
  pub place_may_log : IsPassOf s.frames pass → IsHolding device s.frames pass (held ∷ []) → Runs device s pass x
      → Seen device s.frames pass (λ (S : Log) (P : Pages). IsHeapOrNew P pass.since held.page held.content)
      → held.page < page_limit → IsPage new → MayLogStep device s pass (held ∷ []) (place_of x held.page slot new)
  place_may_log of hold runs is_new low page = record {
    is_pass = of;
    holding = hold;
    document = tt;
    encoded = record {
      kind = (omega (arith, low, on.below), omega arith);
      few = omega arith;
      each = (record { page = low; content = page; used = heap_not_free new on.slots on.content }, tt);
      once = (tt, tt);
    };
    may = place_allowed runs is_new;
    owes = owes_of device s pass (held ∷ []) (place_of x held.page slot new) x of is refl tt
        (λ p i. i) (tt, tt)
        (λ y i. ⊎_elim (λ (e : y ≡ sheet held.page new). subst (λ (z : Sheet). IsPage z.content) (sym e) page) absurd
        i);
  }

none_placed : (P : Pages) (ds : List Doc) (is : List Document) → is ≡ [] → AreInserts P ds is → ds ≡ []
none_placed P [] is none are = refl
none_placed P (d ∷ ds) is none are = absurd (subst (AreInserts P (d ∷ ds)) none are)

-- what a transaction has placed that had placed nothing
place_done : (held : Sheet) (x serial slot : ℕ) (bytes : List ℕ) (new : Page) (c : Commit)
    → IsPlaced held.content (head_for x bytes) new slot → c.inserted ≡ []
    → (S R : Log) (P P' Q : Pages) (r : Record)
    → GrowsBy (held ∷ []) (place_of x held.page slot new) x serial S P R P' r Q
    → (fate S x ≡ Running) × IsCommitOf S x c × AreIndexed S P x
    → IsPlacedSoFar (r ∷ R) Q x (doc_at (item_at held.page slot) serial) bytes []
    × (map name_of (marked (r ∷ R) x) ≡ c.deleted)
place_done held x serial slot bytes new c on none S R P P' Q r g had =
    let item = item_at held.page slot in
    let kinds : r.kind ≡ kind.PlaceHead item serial = (g.drawn).kind ∙ ap (kind.PlaceHead item) g.next in
    let empty : placed R x ≡ [] =
    g.placed_same ∙ none_placed (had.1).pages (placed S x) c.inserted none (had.1).inserted in
    let h : Head = record (head_for x bytes) { serial = serial } in
    let at_slot : slot_of item ≡ slot = slot_in held.page slot on.below in
    let made : (made_by r new).body ≡ body.Heap (numbered on.slots slot serial) =
    ap (λ (k : Kind). drawn_body k new.body) kinds
    ∙ ap (λ (b : Body). drawn_body (kind.PlaceHead item serial) b) on.content
    ∙ ap (λ (k : ℕ). body.Heap (numbered on.slots k serial)) at_slot in
    let there : head_of Q item ≡ Some h =
    ap (λ (p : ℕ). slot_at (slots_of (Q p)) (slot_of item)) (page_at held.page slot on.below)
    ∙ ap (λ (q : Page). slot_at (slots_of q) (slot_of item)) (g.leaves).here.0
    ∙ ap (λ (b : Body). slot_at (slots_in b) (slot_of item)) made
    ∙ ap (slot_at (numbered on.slots slot serial)) at_slot
    ∙ numbered_at on.slots slot serial
    ∙ ap (λ (o : Option Head). with_serial o serial) ((on.gets).put).put in (
      record {
        runs = runs_still R (place_of x held.page slot new) r x g.drawn tt (g.runs_on).runs;
        placed_one =
            ap (λ (k : Kind). placed_with k r.xid x (placed R x)) kinds
            ∙ on_same r.xid x (placed R x ++ doc_at item serial ∷ []) (placed R x) (g.drawn).xid
            ∙ ap (λ (ds : List Doc). ds ++ doc_at item serial ∷ []) empty;
        head = h;
        has = record { at = there; serial = refl };
        by = refl;
        length_is = refl;
        short = refl;
        chain = [];
        is_chain = refl;
        there = refl;
        none = λ e. refl;
        front = bytes;
        ends = sym (append-nil bytes);
        no_rows = refl;
        no_row = no_row_placed R r P' Q (some_log R x (g.runs_on).runs) g.legal_now g.shown_then g.shown_now item
            serial kinds;
      },
      ap (map name_of) (ap (λ (k : Kind). marked_with k r.xid x (marked R x)) kinds ∙ g.marked_same)
          ∙ sym (had.1).deleted,
    )

module _ {D : Type 0} (device : Disk D) (old new : DbValue D) (pass pass' : Pass) (held : Sheet) (x slot : ℕ)
    (bytes : List ℕ) (page : Page)
    (w : LogsStep device old pass (held ∷ []) (place_of x held.page slot page) new pass')
    (was : IsPassOf old.frames pass)
    (of : IsPassOf new.frames pass') where
  pub placed_then : (c : Commit) → pass.xid ≡ Some x → IsPlaced held.content (head_for x bytes) page slot
      → c.inserted ≡ [] → HasChanged device old pass x c
      → HasPlaced device new pass' x (doc_at (item_at held.page slot) (state_then old).next_serial) bytes [] c.deleted
  placed_then c is on none changed =
      let serial = (state_then old).next_serial in
      let d = doc_at (item_at held.page slot) serial in
      after_step device old new pass pass' (held ∷ []) (place_of x held.page slot page) w was of x
      (λ (S : Log) (P : Pages). (fate S x ≡ Running) × IsCommitOf S x c × AreIndexed S P x)
      (λ (S : Log) (P : Pages). IsPlacedSoFar S P x d bytes [] × (map name_of (marked S x) ≡ c.deleted)) is
      (λ S P had. had.0) (place_done held x serial slot bytes page c on none) changed

-- ── what is told of it ──

module _ {D : Type 0} (device : Disk D) (a : DbValue D) (x : ℕ) (bytes : List ℕ) where
  -- the record is one that places the document, whose serial was drawn
  pub places_it : (m : DbValue D) (page slot serial : ℕ) (new : Page) → IsPage new → serial ≡ (state_then m).next_serial
      → IsPlaceOf x (doc_at (item_at page slot) serial) (next_record m.frames.journal (place_of x page slot new))
  places_it m page slot serial new is drawn = record {
    xid = refl;
    kind_is = ap (kind.PlaceHead (item_at page slot)) (sym drawn);
    images = (sheet page new ∷ [], refl, (is, tt), refl);
  }

  -- why it isn't placed: no page was chosen, or the record was refused
  pub choose_cause : (h : Head) (e : DbError) → h ≡ head_for x bytes → CannotChoose device a h e
      → CannotPlace device a x bytes e
  choose_cause h (Down f) is c = c
  choose_cause h StoreFull is c =
      (c.0, c.1, subst (λ (k : Head). NoHeapPageHasRoom c.0 k × IsStoreFull c.0) is c.2)
  choose_cause h (BadPage p) is c = (c.0, c.1, c.2.1)
  choose_cause h DiskFault is c = tt
  choose_cause h OutOfMemory is c = tt
  choose_cause h _ is c = absurd c

  place_cause : (m : DbValue D) (d : Doc) (r : Record) (e : DbError) → Goes device a m []
      → fault_of m ≡ fault_of a → IsPlaceOf x d r → CannotLog m r e → CannotPlace device a x bytes e
  place_cause m d r (Down f) goes down is c = sym down ∙ c
  place_cause m d r LogFull goes down is c = (m, goes, (d, r, is, c))
  place_cause m d r DiskFault goes down is c = tt
  place_cause m d r OutOfMemory goes down is c = tt
  place_cause m d r _ goes down is c = absurd c

  -- nor is the step that was to place it
  pub place_not_logged : (m : DbValue D) (d : Doc) (made : Result Step DbError) → Goes device a m []
      → fault_of m ≡ fault_of a → IfErr made (λ e. e ≡ OutOfMemory)
      → ((s : Step) → made ≡ Ok s → IsPlaceOf x d (next_record m.frames.journal s)) → (e : DbError)
      → CannotLogMade m made e → CannotPlace device a x bytes e
  place_not_logged m d made goes down memory one e (inl is) = subst (CannotPlace device a x bytes)
      (sym (subst (λ (r : Result Step DbError). IfErr r (λ w. w ≡ OutOfMemory)) is memory)) tt
  place_not_logged m d made goes down memory one e (inr (inl is)) = subst (CannotPlace device a x bytes) (sym is) tt
  place_not_logged m d made goes down memory one e (inr (inr why)) =
      place_cause m d (next_record m.frames.journal why.0) e goes down (one why.0 why.1) why.2

  -- a lawful store has no bad page
  pub choose_lawful : (h : Head) (e : DbError) → CannotChoose device a h e → MeetsNoBadPage device a e
  choose_lawful h (BadPage p) c =
      λ tells found H f was_up.
      let stands = stays_for device tells c.1 tt found H f in
      ⊎_elim
      (λ i. tried_is_heap device tells found H c.0 c.2.0 stands p i.0 i.1)
      (λ n. taken_is_new device tells found H c.0 c.2.0 stands n.0 p n.1 n.2)
      c.2.1
  choose_lawful h _ c = tt
