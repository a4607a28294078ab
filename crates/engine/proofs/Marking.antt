-- The document of a name is marked deleted: what a page and a state say of it, and what is logged.
use Rattle.std.proofs.Common.{◌≡◌, ◌≢◌, ◌⊎◌, ◌≤◌, ◌<◌, ◌^◌, ℕ, List, [], ◌∷◌, ◌++◌, map, refl, sym, ap, subst, ◌∙◌}
use Rattle.std.proofs.Common.{inl, inr}
use Rattle.std.proofs.Common.{⊎_elim, arith}
use Rattle.std.specs.Prelude.{Option, Some, Result, Err, OnOk, IfOk, IfErr}
use Rattle.disk_trait.specs.declared.device.Disk.{Ghosts as Disk}
use Rattle.page_types.specs.Numbers.{most_slots}
use Rattle.page_types.specs.Pages.{IsPage}
use Rattle.page_types.specs.declared.page.Page.{Page}
use Rattle.page_types.specs.declared.page.Head.{Head}
use Rattle.page_types.specs.declared.page.Name.{Name}
use Rattle.page_types.specs.declared.page.Body.TheVariants as body
use Rattle.page_types.specs.declared.record.Record.{Record}
use Rattle.page_types.specs.declared.record.Kind.{Kind}
use Rattle.page_types.specs.declared.record.Kind.TheVariants as kind
use Rattle.core_state.specs.Log.{Log, Pages, In, Shows, cut, fate}
use Rattle.core_state.specs.Legal.{IsLegal}
use Rattle.core_state.specs.Allowed.{Sheet, Step, IsDrawn, MayLog, Owes, drawn_kind}
use Rattle.core_state.specs.Documents.{Doc, doc_at, item_at, page_of, slot_of, name_of, placed_with, placed}
use Rattle.core_state.specs.Documents.{marked_with, marked, head_of}
use Rattle.core_state.specs.History.{AreInserts, IsCommitOf}
use Rattle.core_state.specs.Standing.{Sees}
use Rattle.core_state.specs.States.{StateValue, StateTells, fate_of}
use Rattle.core_state.specs.Steps.{sheet}
use Rattle.core_state.specs.declared.answers.Fate.{Fate}
use Rattle.core_state.specs.declared.answers.Fate.TheVariants.{Unused, Running, Aborted, Committed}
use Rattle.core_state.proofs.Showing.{shown_one}
use Rattle.core_state.proofs.Following.{kept}
use Rattle.core_state.proofs.LawsHold.{documents}
use Rattle.core_state.proofs.RunningOnes.{on_same, same_or_other, below_or_past}
use Rattle.core_state.proofs.Steps.Seen.{held_page}
use Rattle.core_state.proofs.Steps.Documents.{mark_may}
use Rattle.doc_heap.specs.HeapPages.{head_on, ChangesSlot}
use Rattle.doc_heap.proofs.HeapSheets.{marked_logged}
use Rattle.buffer_frames.specs.Drawing.{HasEncoding, record_of}
use Rattle.buffer_frames.specs.Journals.{after_owed, next_record}
use Rattle.buffer_frames.specs.Frames.{Stands, Behind}
use Rattle.buffer_frames.specs.Passes.{IsPassOf, IsHolding, Seen, view_of}
use Rattle.buffer_frames.specs.declared.pass.Pass.{Pass}
use Rattle.buffer_frames.proofs.AtHand.{cut_whole, log_length}
use Rattle.engine.specs.Causes.{IsPastOf, ShowsHead, IsInConflict, MayBeDeleted, IsHeap, IsNone, IsNoPageAt}
use Rattle.engine.specs.Going.{Goes, stays}
use Rattle.engine.specs.Places.{Lies}
use Rattle.engine.specs.Work.{IsMarkOf}
use Rattle.engine.specs.declared.error.DbError.{DbError}
use Rattle.engine.specs.declared.error.DbError.TheVariants.{NoDocument, Conflict, LogFull, Down, DiskFault, BadPage}
use Rattle.engine.specs.declared.error.DbError.TheVariants.{OutOfMemory}
use Rattle.engine.specs.Db.{DbValue, state_of, state_then, fault_of}
use Rattle.engine.specs.Inner.Parts.{HasChanged, AreIndexed, CannotHold, CannotMark, no_changes, only_deleted}
use Rattle.engine.specs.Inner.Changing.{doc_of, IsMarkStep, MayBeMarked, IsMarkedBy, MayNotBeMarked, ChangesDocument}
use Rattle.engine.specs.Inner.Changing.{MayLogStep, LogsStep, CannotLog, CannotLogMade, CannotMakeMark}
use Rattle.engine.proofs.Choosing.{lies_one, none_at}
use Rattle.engine.proofs.StepSeen.{GrowsBy, after_step, owes_of, own_here, own_begun, runs_still}

-- ── names ──

pub page_is : (name : Name) → name.slot < most_slots → page_of (item_at name.page name.slot) ≡ name.page
page_is name lt = omega (arith, lt)

pub slot_is : (name : Name) → name.slot < most_slots → slot_of (item_at name.page name.slot) ≡ name.slot
slot_is name lt = omega (arith, lt)

pub named : (name : Name) → name.slot < most_slots → name_of (doc_of name) ≡ name
named name lt i = record { page = page_is name lt i; slot = slot_is name lt i; serial = name.serial }

-- ── a head that may be marked ──

some_one : (a b : Head) (o : Option Head) → o ≡ Some a → o ≡ Some b → a ≡ b
some_one a b o p q = let e : Some a ≡ Some b = sym p ∙ q in cc

module _ (S : Log) (P : Pages) (legal : IsLegal S) (shown : Shows S P) (s : StateValue) (tells : StateTells S s)
    (n x item : ℕ) (h : Head) (there : head_of P item ≡ Some h) (runs : fate S x ≡ Running) (none : marked S x ≡ [])
    (sees : Sees (fate_of s) n h)
    (alone : h.deleted_by ≢ 0 → h.deleted_by ≢ x → IsPastOf s n h.deleted_by → ⊥) where
  -- what deletes it has marked it: it isn't x, and has begun
  by_fate : (f : Fate) → fate S h.deleted_by ≡ f → h.deleted_by ≢ 0 → h.deleted_by ≢ x
      → In (doc_at item h.serial) (marked S h.deleted_by) → fate S h.deleted_by ≡ Aborted
  by_fate Unused is some other i =
      absurd (subst (In (doc_at item h.serial)) ((kept 0 0 S legal.valid).none_before h.deleted_by is).0 i)
  by_fate Running is some other i = absurd (alone some other (inl (tells.fates h.deleted_by ∙ is)))
  by_fate (Committed m) is some other i =
      let told = tells.fates h.deleted_by ∙ is in
      absurd (⊎_elim
      (λ (lt : n < m). alone some other (inr (m, told, lt)))
      (λ (le : m ≤ n). sees.not_deleted m told le)
      (below_or_past n m))
  by_fate Aborted is some other i = is

  own_none : In (doc_at item h.serial) (marked S h.deleted_by) → h.deleted_by ≢ x
  own_none i e = subst (In (doc_at item h.serial)) (ap (marked S) e ∙ none) i

  pub unmarked : (h.deleted_by ≡ 0) ⊎ (fate S h.deleted_by ≡ Aborted)
  unmarked = ⊎_elim inl
      (λ (i : In (doc_at item h.serial) (marked S h.deleted_by)). ⊎_elim inl
      (λ (some : h.deleted_by ≢ 0). inr (by_fate (fate S h.deleted_by) refl some (own_none i) i))
      (same_or_other h.deleted_by 0))
      ((documents S P legal shown).deleted item h there)

none_marked : (ds : List Doc) → [] ≡ map name_of ds → ds ≡ []
none_marked [] e = refl
none_marked (d ∷ ds) e = absurd (let z : ⊥ = cc in z)

none_placed : (P : Pages) (ds : List Doc) → AreInserts P ds [] → ds ≡ []
none_placed P [] are = refl
none_placed P (d ∷ ds) are = absurd are

-- ── what is logged ──

-- the step, with its parts
abbrev pub mark_of : ℕ → Name → Page → Step
mark_of x name new = record {
  kind = kind.MarkDeleted (item_at name.page name.slot) name.serial;
  xid = x;
  after = sheet name.page new ∷ [];
}

module _ {D : Type 0} (device : Disk D) (s : DbValue D) (pass : Pass) (held : Sheet) (n x : ℕ) (name : Name) where
  -- the step may be logged
  pub mark_allowed : (step : Step) → IsPassOf s.frames pass → IsHolding device s.frames pass (held ∷ [])
      → pass.xid ≡ Some x → pass.seen ≡ (state_of s).records → HasChanged device s pass x no_changes
      → Seen device s.frames pass (λ (S : Log) (P : Pages). StateTells S (state_of s))
      → held.page ≡ name.page → name.slot < most_slots
      → MayBeMarked (state_of s) n x name held.content → IsMarkStep x name held.content step
      → Behind device s.frames (λ (R : Log). MayLog (view_of s.frames pass R (held ∷ [])) step)
  mark_allowed step of hold is all changed told here lt may made t up R stands legal =
      let v = view_of s.frames pass R (held ∷ []) in
      let item = item_at name.page name.slot in
      let h = made.head in
      let whole : cut pass.seen R ≡ R =
      cut_whole pass.seen R (all ∙ log_length device s.frames.journal R stands.journal) in
      let a = hold.allowed t up R stands legal in
      let at_page : page_of item ≡ name.page = page_is name lt in
      let at_slot : slot_of item ≡ name.slot = slot_is name lt in
      let on : sheet (page_of item) held.content ≡ held =
      ap (λ (p : ℕ). sheet p held.content) (at_page ∙ sym here) in
      let same : may.head ≡ h = some_one may.head h (head_on held.content name.slot) may.there made.there in
      let sees : Sees (fate_of (state_of s)) n h = subst (Sees (fate_of (state_of s)) n) same may.sees in
      let found : head_on held.content (slot_of item) ≡ Some h =
      ap (head_on held.content) at_slot ∙ made.there in
      subst (MayLog v) (sym made.step_is)
      (mark_may v (mark_of x name made.new) (λ P seen_is shown.
      let tells : StateTells (cut pass.seen R) (state_of s) = told t up R stands legal P shown in
      let had = changed t up R stands legal P shown in
      let shown_all : Shows R P = subst (λ (S : Log). Shows S P) whole shown in
      let page : P (page_of item) ≡ held.content =
      ap (λ (Q : Pages). Q (page_of item)) (shown_one R P a.pages shown_all a.shown)
      ∙ held_page v R a (page_of item) held.content (inl on) in
      let there : head_of P item ≡ Some h = ap (λ (c : Page). head_on c (slot_of item)) page ∙ found in
      marked_logged v P (mark_of x name made.new) (doc_of name) h sees.number held.content made.new
      (subst (λ (k : ℕ). ChangesSlot held.content k (Some (record h { deleted_by = x })) made.new) (sym at_slot)
      made.changes)
      found (ap (λ (g : Head). g.serial) (sym same) ∙ may.serial)
      (sym (tells.fates h.inserted_by) ∙ sees.inserted)
      (unmarked (cut pass.seen R) P seen_is shown (state_of s) tells n x item h there had.0
      (none_marked (marked (cut pass.seen R) x) (had.1).deleted) sees
      (subst (λ (g : Head). g.deleted_by ≢ 0 → g.deleted_by ≢ x → IsPastOf (state_of s) n g.deleted_by → ⊥) same
      may.alone))
      (record { own = own_here x pass.xid is; begun = own_begun x pass.xid is; runs = had.0 })
      (inl on) refl (ap (λ (p : ℕ). sheet p made.new ∷ []) (sym at_page))))

  mark_encoded : (step : Step) → name.serial < 2 ^ 64 → IsMarkStep x name held.content step → HasEncoding step
  mark_encoded step serial made = subst HasEncoding (sym made.step_is) (record {
    kind = (omega (arith, made.place.0, made.place.1), serial);
    few = omega arith;
    each = (
      record {
        page = made.place.0;
        content = made.is_page;
        used = λ free. absurd (let e : body.Heap (made.changes).new_slots ≡ body.Free =
            sym (ap (λ (p : Page). p.body) (made.changes).after) ∙ free in let z : ⊥ = cc in z);
      },
      tt,
    );
    once = (tt, tt);
  })

  pub mark_may_log : (step : Step) → IsPassOf s.frames pass → IsHolding device s.frames pass (held ∷ [])
      → pass.xid ≡ Some x → pass.seen ≡ (state_of s).records → HasChanged device s pass x no_changes
      → Seen device s.frames pass (λ (S : Log) (P : Pages). StateTells S (state_of s))
      → held.page ≡ name.page → MayBeMarked (state_of s) n x name held.content
      → IsMarkStep x name held.content step → MayLogStep device s pass (held ∷ []) step
  mark_may_log step of hold is all changed told here may made =
      let same : may.head ≡ made.head =
      some_one may.head made.head (head_on held.content name.slot) may.there made.there in
      let serial : name.serial < 2 ^ 64 =
      omega (arith, (made.is_head).serial, ap (λ (g : Head). g.serial) same, may.serial) in
      record {
        is_pass = of;
        holding = hold;
        document = subst (λ (q : Step). ChangesDocument q.kind) (sym made.step_is) tt;
        encoded = mark_encoded step serial made;
        may = mark_allowed step of hold is all changed told here made.place.1 may made;
        owes = subst
            (λ (q : Step). (R : Log) → Stands device s.frames R → Owes (view_of s.frames pass R (held ∷ [])) q)
            (sym made.step_is)
            (owes_of device s pass (held ∷ []) (mark_of x name made.new) x of is refl tt
            (λ p i. ⊎_elim (λ (e : p ≡ name.page). inl (e ∙ sym here)) absurd i) (tt, tt)
            (λ y i. ⊎_elim (λ (e : y ≡ sheet name.page made.new). subst (λ (z : Sheet). IsPage z.content) (sym e)
            made.is_page) absurd i));
      }

-- ── what was done then ──

marked_more : (R : Log) (r : Record) (x item serial : ℕ) → r.kind ≡ kind.MarkDeleted item serial → r.xid ≡ x
    → marked (r ∷ R) x ≡ marked R x ++ doc_at item serial ∷ []
marked_more R r x item serial is xid =
    ap (λ (k : Kind). marked_with k r.xid x (marked R x)) is
    ∙ on_same r.xid x (marked R x ++ doc_at item serial ∷ []) (marked R x) xid

placed_still : (R : Log) (r : Record) (x item serial : ℕ) → r.kind ≡ kind.MarkDeleted item serial
    → placed (r ∷ R) x ≡ placed R x
placed_still R r x item serial is = ap (λ (k : Kind). placed_with k r.xid x (placed R x)) is

-- the commit of a transaction that had changed nothing, and marks the document of the name
mark_commit : (x : ℕ) (name : Name) (step : Step) (page : Page) → name.slot < most_slots → IsMarkStep x name page step
    → (held : List Sheet) (serial : ℕ) (S R : Log) (P P' Q : Pages) (r : Record)
    → GrowsBy held step x serial S P R P' r Q
    → (fate S x ≡ Running) × IsCommitOf S x no_changes × AreIndexed S P x
    → (fate (r ∷ R) x ≡ Running) × IsCommitOf (r ∷ R) x (only_deleted name) × AreIndexed (r ∷ R) Q x
mark_commit x name step page lt made held serial S R P P' Q r g had =
    let item = item_at name.page name.slot in
    let kinds : r.kind ≡ kind.MarkDeleted item name.serial =
    (g.drawn).kind ∙ ap (λ (q : Step). drawn_kind R q.kind) made.step_is in
    let xid : r.xid ≡ x = subst (λ (q : Step). IsDrawn R q r → r.xid ≡ x) (sym made.step_is) (λ d. d.xid) g.drawn in
    let none : marked R x ≡ [] = g.marked_same ∙ none_marked (marked S x) (had.1).deleted in
    let empty : placed R x ≡ [] = g.placed_same ∙ none_placed (had.1).pages (placed S x) (had.1).inserted in (
      runs_still R step r x g.drawn (subst (λ (q : Step). ChangesDocument q.kind) (sym made.step_is) tt)
          (g.runs_on).runs,
      record {
        pages = Q;
        shown = g.shown_now;
        deleted =
            ap (λ (m : Name). m ∷ []) (sym (named name lt))
            ∙ ap (λ (ds : List Doc). map name_of (ds ++ doc_of name ∷ [])) (sym none)
            ∙ ap (map name_of) (sym (marked_more R r x item name.serial kinds xid));
        inserted = subst (λ (ds : List Doc). AreInserts Q ds [])
            (sym (placed_still R r x item name.serial kinds ∙ empty)) tt;
      },
      λ d i. absurd (subst (In d) (placed_still R r x item name.serial kinds ∙ empty) i),
    )

module _ {D : Type 0} (device : Disk D) (old new : DbValue D) (pass pass' : Pass) (held : List Sheet) (step : Step)
    (w : LogsStep device old pass held step new pass') (was : IsPassOf old.frames pass)
    (of : IsPassOf new.frames pass') where
  pub marked_then : (x : ℕ) (name : Name) (page : Page) → pass.xid ≡ Some x → name.slot < most_slots
      → IsMarkStep x name page step → HasChanged device old pass x no_changes
      → HasChanged device new pass' x (only_deleted name)
  marked_then x name page is lt made changed =
      after_step device old new pass pass' held step w was of x
      (λ (S : Log) (P : Pages). (fate S x ≡ Running) × IsCommitOf S x no_changes × AreIndexed S P x)
      (λ (S : Log) (P : Pages). (fate S x ≡ Running) × IsCommitOf S x (only_deleted name) × AreIndexed S P x) is
      (λ S P had. had.0) (mark_commit x name step page lt made held (state_then old).next_serial) changed

-- ── what is told of it ──

mark_record : (x : ℕ) (name : Name) (page : Page) (step : Step) (s : StateValue) → name.slot < most_slots
    → IsMarkStep x name page step → IsMarkOf x name (record_of s step)
mark_record x name page step s lt made = subst (λ (q : Step). IsMarkOf x name (record_of s q)) (sym made.step_is)
    (record {
      doc = doc_of name;
      named = named name lt;
      xid = refl;
      kind_is = refl;
      images = (sheet name.page made.new ∷ [], refl, (made.is_page, tt), refl);
    })

module _ {D : Type 0} (device : Disk D) (a : DbValue D) (n x : ℕ) (name : Name) where
  -- the record is one that marks it
  pub marks_it : (m : DbValue D) (page : Page) (step : Step) → IsMarkStep x name page step
      → IsMarkOf x name (next_record m.frames.journal step)
  marks_it m page step made =
      mark_record x name page step (after_owed m.frames.journal.owes m.frames.journal.state) made.place.1 made

  module _ (c : Page) (page : IsPage c) (lies : Lies a name.page c) (s : StateValue) (same : s ≡ state_of a) where
    pub there_of : MayBeMarked s n x name c → MayBeDeleted a n x name
    there_of w = record {
      shows = record {
        head = w.head;
        has = record { page = c; is_page = page; lies = lies; head = w.there; serial = w.serial };
        sees = subst (λ (t : StateValue). Sees (fate_of t) n w.head) same w.sees;
      };
      alone = λ some other past.
          w.alone some other (subst (λ (t : StateValue). IsPastOf t n (w.head).deleted_by) (sym same) past);
    }

    no_document : MayNotBeMarked s n x name c NoDocument → ShowsHead a n name → ⊥
    no_document w shows =
        let one : (shows.has).page ≡ c = lies_one a name.page (shows.has).page c (shows.has).lies lies in
        w shows.head (subst (λ (p : Page). head_on p name.slot ≡ Some shows.head) one (shows.has).head)
        (shows.has).serial
        (subst (λ (t : StateValue). Sees (fate_of t) n shows.head) (sym same) shows.sees)

    in_conflict : (y : ℕ) → IsMarkedBy s n x name c y → IsInConflict a n x name y
    in_conflict y w = record {
      shows = record {
        head = w.head;
        has = record { page = c; is_page = page; lies = lies; head = w.there; serial = w.serial };
        sees = subst (λ (t : StateValue). Sees (fate_of t) n w.head) same w.sees;
      };
      marked = w.marked;
      some = w.some;
      other = w.other;
      past = subst (λ (t : StateValue). IsPastOf t n y) same w.past;
    }

    by_page : (e : DbError) → MayNotBeMarked s n x name c e → CannotMark device a n x name e
    by_page NoDocument w = (a, stays, no_document w)
    by_page (Conflict y) w = (a, stays, in_conflict y w)
    by_page (BadPage p) w =
        (w.0, (a, stays, subst (IsNone a (IsHeap a)) (sym w.0) (IsNone.other c page lies (λ heap. w.1 heap.0 heap.1))))
    by_page _ w = absurd w

    -- why it isn't marked
    cause_of : (m : DbValue D) (e : DbError) → fault_of m ≡ fault_of a
        → CannotMakeMark m s n x name c e → CannotMark device a n x name e
    cause_of m e down (inl memory) = subst (CannotMark device a n x name) (sym memory) tt
    cause_of m e down (inr (inl d)) = subst (CannotMark device a n x name) (sym d.1) (sym down ∙ d.2)
    cause_of m e down (inr (inr w)) = by_page e w

  pub held_cause : (e : DbError) → CannotHold device a name.page IsNoPageAt e → CannotMark device a n x name e
  held_cause (Down f) c = c
  held_cause (BadPage p) c =
      (c.0, (a, stays, subst (IsNone a (IsHeap a)) (sym c.0) (none_at device a (IsHeap a) name.page c.1)))
  held_cause DiskFault c = tt
  held_cause OutOfMemory c = tt
  held_cause _ c = absurd c

  pub logged_cause : (m : DbValue D) (r : Record) (e : DbError) → Goes device a m [] → fault_of m ≡ fault_of a
      → MayBeDeleted a n x name → IsMarkOf x name r → CannotLog m r e → CannotMark device a n x name e
  logged_cause m r (Down f) goes down may is c = sym down ∙ c
  logged_cause m r LogFull goes down may is c = (a, stays, (may, (m, goes, (r, is, c))))
  logged_cause m r DiskFault goes down may is c = tt
  logged_cause m r OutOfMemory goes down may is c = tt
  logged_cause m r _ goes down may is c = absurd c

  -- the step that was to mark it isn't logged
  module _ (c : Page) (page : IsPage c) (lies : Lies a name.page c) (s : StateValue) (same : s ≡ state_of a)
      (b m : DbValue D) (down : fault_of b ≡ fault_of a) (goes : Goes device a m []) (still : fault_of m ≡ fault_of a)
      (made : Result Step DbError)
      (why : IfErr made (CannotMakeMark b s n x name c)) where
    pub mark_not_logged : OnOk made (MayBeMarked s n x name c) → IfOk made (λ q. IsMarkStep x name c q) → (e : DbError)
        → CannotLogMade m made e → CannotMark device a n x name e
    mark_not_logged may marks e (inl is) = cause_of c page lies s same b e down
        (subst (λ (r : Result Step DbError). IfErr r (CannotMakeMark b s n x name c)) is why)
    mark_not_logged may marks e (inr (inl memory)) = subst (CannotMark device a n x name) (sym memory) tt
    mark_not_logged may marks e (inr (inr w)) =
        let may_be : MayBeMarked s n x name c =
        subst (λ (r : Result Step DbError). OnOk r (MayBeMarked s n x name c)) w.1 may in
        let marks_one : IsMarkStep x name c w.0 =
        subst (λ (r : Result Step DbError). IfOk r (λ q. IsMarkStep x name c q)) w.1 marks in
        logged_cause m (next_record m.frames.journal w.0) e goes still (there_of c page lies s same may_be)
        (marks_it m c w.0 marks_one) w.2

-- no write failed where it isn't made
pub mark_calm : {D : Type 0} (b : DbValue D) (s : StateValue) (n x : ℕ) (name : Name) (c : Page)
    (made : Result Step DbError) → IfErr made (CannotMakeMark b s n x name c) → made ≡ Err DiskFault → ⊥
mark_calm b s n x name c made why is =
    by (subst (λ (r : Result Step DbError). IfErr r (CannotMakeMark b s n x name c)) is why)
  where
    by : CannotMakeMark b s n x name c DiskFault → ⊥
    by (inl e) = cc
    by (inr (inl d)) = let e : DiskFault ≡ Down d.0 = d.1 in cc
    by (inr (inr w)) = w
