-- A page more of a document, a part of its vector or of its rows: why it isn't put, and what a lawful store tells.
use Rattle.std.proofs.Common.{◌≡◌, ◌⊎◌, ◌<◌, ℕ, List, [], refl, sym, ap, subst, ◌∙◌, inl, inr}
use Rattle.std.specs.Prelude.{Option, Some, None, IfSome, Result, Ok, Err, IfErr}
use Rattle.disk_trait.specs.declared.device.Disk.{Ghosts as Disk}
use Rattle.ts_base.specs.Vectors.{Vector}
use Rattle.page_types.specs.Numbers.{most_slots}
use Rattle.page_types.specs.Pages.{IsPage}
use Rattle.page_types.specs.declared.page.Page.{Page}
use Rattle.page_types.specs.declared.page.Head.{Head}
use Rattle.page_types.specs.declared.page.Name.{Name}
use Rattle.page_types.specs.declared.record.Record.{Record}
use Rattle.core_state.specs.Allowed.{Step}
use Rattle.core_state.specs.Log.{Log, Pages, Shows, cut}
use Rattle.core_state.specs.Documents.{Has, item_at, page_of}
use Rattle.core_state.specs.Legal.{IsLegal}
use Rattle.doc_heap.specs.HeapPages.{head_on}
use Rattle.buffer_frames.specs.Frames.{Stands}
use Rattle.buffer_frames.specs.Journals.{next_record}
use Rattle.buffer_frames.specs.Passes.{IsPassOf, Seen}
use Rattle.buffer_frames.specs.declared.pass.Pass.{Pass}
use Rattle.buffer_frames.proofs.AtHand.{cut_whole, log_length}
use Rattle.buffer_frames.proofs.FirstLogs.{shown_by}
use Rattle.engine.specs.Answers.{MeetsNoBadPage}
use Rattle.engine.specs.Causes.{IsHeap, IsNone, IsNoPageAt, HasHeadIn}
use Rattle.engine.specs.Db.{DbValue, state_of, fault_of, IsUp}
use Rattle.engine.specs.Going.{Goes, stays}
use Rattle.engine.specs.Places.{Lies}
use Rattle.engine.specs.Inner.Changing.{doc_of, CannotLog, CannotLogMade, CannotPutNew}
use Rattle.engine.specs.Inner.Choosing.{CannotTake, CannotHoldWithNew}
use Rattle.engine.specs.Inner.Parts.{HasPlaced, HasRows, CannotHold}
use Rattle.engine.specs.declared.error.DbError.{DbError}
use Rattle.engine.specs.declared.error.DbError.TheVariants.{StoreFull, LogFull, Down}
use Rattle.engine.specs.declared.error.DbError.TheVariants.{DiskFault, BadPage, OutOfMemory}
use Rattle.engine.proofs.Choosing.{none_at}
use Rattle.engine.proofs.Growing.{stays_for}
use Rattle.engine.proofs.Lawful.{has_slots, lies_is, no_heap, taken_is_new}
use Rattle.engine.proofs.Marking.{page_is, slot_is}
use Rattle.engine.proofs.Paths.{goes_still}

-- why a step on the head of a name isn't made: there is no memory, or no head on its page
abbrev pub LacksHead : Name → Page → DbError → Type 0
LacksHead name c e = (e ≡ OutOfMemory) ⊎ ((e ≡ BadPage name.page) × IsPage c × (head_on c name.slot ≡ None))

-- so the device didn't fail
pub lacks_calm : (name : Name) (c : Page) (made : Result Step DbError) → IfErr made (LacksHead name c)
    → made ≡ Err DiskFault → ⊥
lacks_calm name c made bad is = by (subst (λ (r : Result Step DbError). IfErr r (LacksHead name c)) is bad)
  where
    by : LacksHead name c DiskFault → ⊥
    by (inl e) = cc
    by (inr b) = let e : DiskFault ≡ BadPage name.page = b.0 in cc

-- ── why it isn't put ──

module _ {D : Type 0} (device : Disk D) (IsOne : Record → Type 0) (a : DbValue D) (name : Name) where
  -- the page of its head isn't held
  put_held : (e : DbError) → CannotHold device a name.page IsNoPageAt e → CannotPutNew device IsOne a name e
  put_held (Down f) c = c
  put_held (BadPage p) c = (
    a,
    stays,
    inl (
      c.0,
      subst (IsNone a (HasHeadIn a name.slot)) (sym c.0)
          (none_at device a (HasHeadIn a name.slot) name.page c.1),
    ),
  )
  put_held DiskFault c = tt
  put_held OutOfMemory c = tt
  put_held _ c = absurd c

  -- no new page is held
  put_taken : (m now : DbValue D) → Goes device a m [] → fault_of m ≡ fault_of a → Goes device m now [] → (e : DbError)
      → CannotTake device m now e → CannotPutNew device IsOne a name e
  put_taken m now goes same on (Down f) c = sym same ∙ c
  put_taken m now goes same on StoreFull c = (now, goes_still device goes on, c)
  put_taken m now goes same on (BadPage p) c = (c.0, goes_still device goes c.1, inr c.2.1)
  put_taken m now goes same on DiskFault c = tt
  put_taken m now goes same on OutOfMemory c = tt
  put_taken m now goes same on _ c = absurd c

  pub not_held : (e : DbError) → CannotHoldWithNew device a name.page e → CannotPutNew device IsOne a name e
  not_held e (CannotHoldWithNew.old c) = put_held e c
  not_held e (CannotHoldWithNew.new m now goes same on c) = put_taken m now goes same on e c

  module _ (m : DbValue D) (goes : Goes device a m []) (same : fault_of m ≡ fault_of a) where
    -- the record isn't logged
    put_logged : (r : Record) (e : DbError) → IsOne r → CannotLog m r e → CannotPutNew device IsOne a name e
    put_logged r (Down f) is c = sym same ∙ c
    put_logged r LogFull is c = (m, goes, (r, is, c))
    put_logged r DiskFault is c = tt
    put_logged r OutOfMemory is c = tt
    put_logged r _ is c = absurd c

    -- nor is the step that was to be made
    pub not_put : (made : Result Step DbError) (c : Page) → Lies a name.page c → IfErr made (LacksHead name c)
        → ((s : Step) → made ≡ Ok s → IsOne (next_record m.frames.journal s)) → (e : DbError)
        → CannotLogMade m made e → CannotPutNew device IsOne a name e
    not_put made c lies bad one e (inl is) =
        lacking (subst (λ (r : Result Step DbError). IfErr r (LacksHead name c)) is bad)
      where
        lacking : LacksHead name c e → CannotPutNew device IsOne a name e
        lacking (inl memory) = subst (CannotPutNew device IsOne a name) (sym memory) tt
        lacking (inr b) = subst (CannotPutNew device IsOne a name) (sym b.0)
            (a, stays, inl (refl, IsNone.other c b.1 lies (λ h. let z : None ≡ Some h.0 = sym b.2 ∙ h.1 in cc)))
    not_put made c lies bad one e (inr (inl memory)) = subst (CannotPutNew device IsOne a name) (sym memory) tt
    not_put made c lies bad one e (inr (inr why)) =
        put_logged (next_record m.frames.journal why.0) e (one why.0 why.1) why.2

-- ── what a lawful store tells ──

module _ {D : Type 0} (device : Disk D) (s : DbValue D) where
  -- the head of the name is on its page
  abbrev pub IsHeadThere : Name → Type 0
  IsHeadThere name = device.tells → IsUp s → (R : Log) → Stands device s.frames R → IsLegal R → (P : Pages) → Shows R P
      → (h : Head) × (head_on (P name.page) name.slot ≡ Some h)

  module _ (pass : Pass) (x : ℕ) (name : Name) (of : IsPassOf s.frames pass) (is : pass.xid ≡ Some x)
      (lt : name.slot < most_slots) where
    -- it is there, as the pass has seen
    shows_seen : Seen device s.frames pass (λ (S : Log) (P : Pages). (h : Head) × Has P (doc_of name) h)
        → IsHeadThere name
    shows_seen had = λ tells up R stands legal P shown.
        let item = item_at name.page name.slot in
        let all : pass.seen ≡ (state_of s).records =
        subst (λ (o : Option ℕ). IfSome o (λ (y : ℕ). pass.seen ≡ (state_of s).records)) is of.all in
        let whole : cut pass.seen R ≡ R =
        cut_whole pass.seen R (all ∙ log_length device s.frames.journal R stands.journal) in
        let p = had tells up R stands legal P (subst (λ (S : Log). Shows S P) (sym whole) shown) in (
          p.0,
          ap (λ (q : ℕ). head_on (P q) name.slot) (sym (page_is name lt))
              ∙ ap (head_on (P (page_of item))) (sym (slot_is name lt)) ∙ (p.1).at,
        )

    -- of a document that the transaction has placed so far
    pub shows_placed : (bytes behind : List ℕ) (names : List Name)
        → HasPlaced device s pass x (doc_of name) bytes behind names → IsHeadThere name
    shows_placed bytes behind names had = shows_seen (λ tells up R stands legal P shown.
        let p = (had tells up R stands legal P shown).0 in (p.head, p.has))

    pub shows_rowed : (v : Vector) (back : List Page) (last : ℕ) (names : List Name)
        → HasRows device s pass x (doc_of name) v back last names → IsHeadThere name
    shows_rowed v back last names had = shows_seen (λ tells up R stands legal P shown.
        let p = (had tells up R stands legal P shown).0 in (p.head, p.has))

  -- a new page that is taken is new
  lawful_taken : (m now : DbValue D) (e : DbError) → Goes device s m [] → CannotTake device m now e
      → MeetsNoBadPage device s e
  lawful_taken m now (BadPage p) goes c =
      let t = c.0 in
      let path = goes_still device goes c.1 in
      λ tells found H f up.
      taken_is_new device tells found H t c.2.0 (stays_for device tells path tt found H f) c.2.1.0 p c.2.1.1 c.2.1.2
  lawful_taken m now _ goes c = tt

  -- a record is logged without a page
  lawful_logged : (m : DbValue D) (r : Record) (e : DbError) → CannotLog m r e → MeetsNoBadPage device s e
  lawful_logged m r (BadPage p) c = absurd c
  lawful_logged m r _ c = tt

  module _ (name : Name) (there : IsHeadThere name) where
    pub lawful_held : (e : DbError) → CannotHold device s name.page IsNoPageAt e → MeetsNoBadPage device s e
    lawful_held (BadPage p) c = λ tells found H f up.
        let legal = f.begins.log_of.legal in
        let shown = shown_by f.log legal.valid in
        let h = there tells up f.log f.stands legal shown.0 shown.1 in
        no_heap device s f.log shown.0 tells up f.stands legal shown.1 name.page
        (has_slots (shown.0 name.page).body name.slot h.0 h.1) (none_at device s (IsHeap s) name.page c.1)
    lawful_held _ c = tt

    pub lawful_not_held : (e : DbError) → CannotHoldWithNew device s name.page e → MeetsNoBadPage device s e
    lawful_not_held e (CannotHoldWithNew.old c) = lawful_held e c
    lawful_not_held e (CannotHoldWithNew.new m now goes same on c) = lawful_taken m now e goes c

    -- a step on the head was to be made
    pub lawful_not_put : (m : DbValue D) (made : Result Step DbError) (c : Page) → Lies s name.page c
        → IfErr made (LacksHead name c) → (e : DbError) → CannotLogMade m made e → MeetsNoBadPage device s e
    lawful_not_put m made c lies bad e (inl is) =
        lacking (subst (λ (r : Result Step DbError). IfErr r (LacksHead name c)) is bad)
      where
        lacking : LacksHead name c e → MeetsNoBadPage device s e
        lacking (inl memory) = subst (MeetsNoBadPage device s) (sym memory) tt
        lacking (inr b) = subst (MeetsNoBadPage device s) (sym b.0) (λ tells found H f up.
            let legal = f.begins.log_of.legal in
            let shown = shown_by f.log legal.valid in
            let h = there tells up f.log f.stands legal shown.0 shown.1 in
            let same : c ≡ shown.0 name.page =
            lies_is device s f.log shown.0 tells up f.stands legal shown.1 name.page c b.1 lies in
            let z : None ≡ Some h.0 = sym b.2 ∙ ap (λ (p : Page). head_on p name.slot) same ∙ h.1 in cc)
    lawful_not_put m made c lies bad e (inr (inl memory)) = subst (MeetsNoBadPage device s) (sym memory) tt
    lawful_not_put m made c lies bad e (inr (inr why)) = lawful_logged m (next_record m.frames.journal why.0) e why.2
