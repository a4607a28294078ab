-- What the refusal of a mark tells of a lawful store: a document of the snapshot has its head on its page.
use Rattle.std.proofs.Common.{◌≡◌, ◌≢◌, inl, inr, ℕ, refl, sym, ap, ap₂, subst, ◌∙◌, arith}
use Rattle.std.specs.Prelude.{Option, Some, None, IfSome, Result, IfErr}
use Rattle.disk_trait.specs.declared.device.Disk.{Ghosts as Disk}
use Rattle.page_types.specs.Pages.{IsPage}
use Rattle.page_types.specs.Views.{slots_of, slot_at}
use Rattle.page_types.specs.declared.page.Page.{Page}
use Rattle.page_types.specs.declared.page.Head.{Head}
use Rattle.page_types.specs.declared.page.Name.{Name}
use Rattle.page_types.specs.declared.record.Record.{Record}
use Rattle.core_state.specs.Log.{Log, Pages, Shows, fate}
use Rattle.core_state.specs.Documents.{name_of, page_of}
use Rattle.core_state.specs.History.{Document, History, IsHistory, IsStored}
use Rattle.core_state.specs.Legal.{IsLegal}
use Rattle.core_state.specs.Standing.{Sees, IsInSnapshot}
use Rattle.core_state.specs.States.{StateValue, StateTells, fate_of}
use Rattle.core_state.proofs.LawsHold.{documents}
use Rattle.doc_heap.specs.HeapPages.{head_on}
use Rattle.buffer_frames.specs.declared.pass.Pass.{Pass}
use Rattle.buffer_frames.specs.declared.pass.Pinned.{Pinned}
use Rattle.buffer_frames.proofs.FirstLogs.{shown_by}
use Rattle.core_state.specs.Allowed.{Step}
use Rattle.buffer_frames.specs.Journals.{next_record}
use Rattle.engine.specs.Causes.{IsHeap, IsNone, IsNoPageAt}
use Rattle.engine.specs.Db.{DbValue, state_of}
use Rattle.engine.specs.Places.{Lies}
use Rattle.engine.specs.Inner.Parts.{IsRunning, CannotHold, IsUnseen, TellsOfMark}
use Rattle.engine.specs.Inner.Changing.{MayNotBeMarked, CannotMakeMark, CannotLog, CannotLogMade}
use Rattle.engine.specs.declared.transaction.Transaction.{Transaction}
use Rattle.engine.specs.declared.error.DbError.{DbError}
use Rattle.engine.specs.declared.error.DbError.TheVariants.{NoDocument, Conflict, LogFull, Down, DiskFault, BadPage}
use Rattle.engine.specs.declared.error.DbError.TheVariants.{OutOfMemory}
use Rattle.engine.proofs.Choosing.{none_at}
use Rattle.engine.proofs.Growing.{state_says}
use Rattle.engine.proofs.Lawful.{lies_is, named_is_heap}
use Rattle.engine.proofs.SnapshotReads.{pinned}

-- the snapshot in use of a transaction that runs
pin_in_use : (o : Option Pinned) (n : ℕ) → o ≢ None → IfSome o (λ (p : Pinned). p.commits ≡ n)
    → (q : Pinned) × (o ≡ Some q) × (q.commits ≡ n)
pin_in_use None n some is = absurd (some refl)
pin_in_use (Some q) n some is = (q, refl, is)

-- the head of a document that is stored, on the page of its name, is one that a snapshot sees which has it
head_seen : (R : Log) (P : Pages) (H : History) (s : StateValue) (n : ℕ) (d : Document) (name : Name) (c : Page)
    → IsLegal R → Shows R P → IsHistory R H → StateTells R s → IsInSnapshot H n name → d.name ≡ name
    → IsStored P d → c ≡ P name.page
    → (h : Head) × (head_on c name.slot ≡ Some h) × (h.serial ≡ name.serial) × Sees (fate_of s) n h
head_seen R P H s n d name c legal shown history told there is st here =
    let named : name ≡ name_of st.doc = sym is ∙ st.name in
    let content : c ≡ P (page_of st.doc.item) = here ∙ ap (λ (z : Name). P z.page) named in
    let own : name_of (record { item = st.doc.item; serial = st.head.serial }) ≡ name =
    ap (λ (k : ℕ). name_of (record { item = st.doc.item; serial = k })) st.has.serial ∙ sym named in
    let sees : Sees (fate R) n st.head =
    ((documents R P legal shown).seen st.doc.item st.head H n st.has.at history).0
    (subst (IsInSnapshot H n) (sym own) there) in (
      st.head,
      ap₂ (λ (x : Page) (z : Name). slot_at (slots_of x) z.slot) content named ∙ st.has.at,
      st.has.serial ∙ ap (λ (z : Name). z.serial) (sym named),
      record {
        number = sees.number;
        inserted = told.fates st.head.inserted_by ∙ sees.inserted;
        within = sees.within;
        not_deleted = λ m e le. sees.not_deleted m (sym (told.fates st.head.deleted_by) ∙ e) le;
      },
    )

module _ {D : Type 0} (device : Disk D) (old : DbValue D) (pass : Pass) (t : Transaction) (name : Name)
    (run : IsRunning device old pass t) where
  -- the page of a document of the snapshot is a heap page
  no_bad : IsNone old (IsHeap old) name.page → IsUnseen device old t.snapshot name
  no_bad none tells found H f up there =
      let q = pin_in_use pass.pin t.snapshot run.taken run.snapshot in
      let legal = f.begins.log_of.legal in
      named_is_heap device tells found H old up f (record { commits = q.0.commits; length = q.0.length }) name
      (pinned device old f.log pass q.0 tells up f.stands legal run.is_pass q.1)
      (subst (λ (k : ℕ). IsInSnapshot H k name) (sym q.2) there) none

  -- it has the document's head, which the snapshot sees
  no_head : (c : Page) → IsPage c → Lies old name.page c
      → ((h : Head) → head_on c name.slot ≡ Some h → h.serial ≡ name.serial
      → Sees (fate_of (state_of old)) t.snapshot h → ⊥)
      → IsUnseen device old t.snapshot name
  no_head c page lies none tells found H f up there =
      let q = pin_in_use pass.pin t.snapshot run.taken run.snapshot in
      let legal = f.begins.log_of.legal in
      let history = f.begins.log_of.history in
      let shown = shown_by f.log legal.valid in
      let keeps = pinned device old f.log pass q.0 tells up f.stands legal run.is_pass q.1 in
      let stored = (documents f.log shown.0 legal shown.1).history_under
      (record { commits = q.0.commits; length = q.0.length }) keeps H t.snapshot there.0 history
      (omega (arith, q.2)) there.1 in
      let h = head_seen f.log shown.0 H (state_of old) t.snapshot there.0 name c legal shown.1 history
      (state_says device found H old f) there there.2 stored
      (lies_is device old f.log shown.0 tells up f.stands legal shown.1 name.page c page lies) in
      none h.0 h.1 h.2 h.3

  -- ── what is told where it isn't marked ──

  -- its page isn't held
  pub held_tells : (e : DbError) → CannotHold device old name.page IsNoPageAt e
      → TellsOfMark device old t.snapshot name e
  held_tells (BadPage p) c = no_bad (none_at device old (IsHeap old) name.page c.1)
  held_tells (Down f) c = tt
  held_tells DiskFault c = tt
  held_tells OutOfMemory c = tt
  held_tells _ c = absurd c

  -- it may not be marked
  module _ (c : Page) (page : IsPage c) (lies : Lies old name.page c) (s : StateValue) (same : s ≡ state_of old) where
    page_tells : (e : DbError) → MayNotBeMarked s t.snapshot t.xid name c e → TellsOfMark device old t.snapshot name e
    page_tells NoDocument w = no_head c page lies (λ h there serial sees.
        w h there serial (subst (λ (z : StateValue). Sees (fate_of z) t.snapshot h) (sym same) sees))
    page_tells (BadPage p) w = no_bad (IsNone.other c page lies (λ heap. w.1 heap.0 heap.1))
    page_tells (Conflict y) w = tt
    page_tells _ w = absurd w

    refusal_tells : (b : DbValue D) (e : DbError)
        → CannotMakeMark b s t.snapshot t.xid name c e → TellsOfMark device old t.snapshot name e
    refusal_tells b e (inl memory) = subst (TellsOfMark device old t.snapshot name) (sym memory) tt
    refusal_tells b e (inr (inl d)) = subst (TellsOfMark device old t.snapshot name) (sym d.1) tt
    refusal_tells b e (inr (inr w)) = page_tells e w

  -- its record isn't logged
  log_tells : (m : DbValue D) (r : Record) (e : DbError) → CannotLog m r e
      → TellsOfMark device old t.snapshot name e
  log_tells m r (Down f) c = tt
  log_tells m r LogFull c = tt
  log_tells m r DiskFault c = tt
  log_tells m r OutOfMemory c = tt
  log_tells m r _ c = absurd c

  -- nor is the step that was to mark it
  pub mark_tells_made : (c : Page) → IsPage c → Lies old name.page c → (s : StateValue) → s ≡ state_of old
      → (b m : DbValue D) (made : Result Step DbError) → IfErr made (CannotMakeMark b s t.snapshot t.xid name c)
      → (e : DbError)
      → CannotLogMade m made e → TellsOfMark device old t.snapshot name e
  mark_tells_made c page lies s same b m made why e (inl is) = refusal_tells c page lies s same b e
      (subst (λ (r : Result Step DbError). IfErr r (CannotMakeMark b s t.snapshot t.xid name c)) is why)
  mark_tells_made c page lies s same b m made why e (inr (inl memory)) =
      subst (TellsOfMark device old t.snapshot name) (sym memory) tt
  mark_tells_made c page lies s same b m made why e (inr (inr w)) =
      log_tells m (next_record m.frames.journal w.0) e w.2
