-- Rows of a document are linked, or one is added: what is told of the step that is logged, and why it
-- isn't.
use Rattle.std.proofs.Common.{◌≡◌, ◌⊎◌, ℕ, List, [], ◌∷◌, refl, sym, subst, ◌∙◌, inl, inr}
use Rattle.std.specs.Prelude.{Some, None, Result, Ok, Err, OnOk, OnErr, IfOk, IfErr}
use Rattle.disk_trait.specs.declared.device.Disk.{Ghosts as Disk}
use Rattle.page_types.specs.declared.page.Page.{Page}
use Rattle.page_types.specs.declared.page.Name.{Name}
use Rattle.page_types.specs.declared.record.Record.{Record}
use Rattle.core_state.specs.Allowed.{Sheet, Step}
use Rattle.buffer_frames.specs.Journals.{next_record}
use Rattle.buffer_frames.specs.Passes.{IsPassOf}
use Rattle.buffer_frames.specs.declared.pass.Pass.{Pass}
use Rattle.engine.specs.Answers.{MeetsNoBadPage}
use Rattle.engine.specs.Causes.{IsNone, IsNoPageAt, HasHeadIn}
use Rattle.engine.specs.Db.{DbValue, fault_of}
use Rattle.engine.specs.Going.{Goes, stays, MetNoFault, FaultIsTold}
use Rattle.engine.specs.Places.{Lies}
use Rattle.engine.specs.Work.{IsLinkOf, IsRowOf}
use Rattle.engine.specs.Inner.Changing.{doc_of, ChangesDocument, LogsMade, CannotLog, CannotLogMade}
use Rattle.engine.specs.Inner.Indexing.{CannotHoldList, CannotAddRow, CannotLink}
use Rattle.engine.specs.Inner.Parts.{IsRunning, KeepsWork, CarriesOwn, CannotHold}
use Rattle.engine.specs.declared.error.DbError.{DbError}
use Rattle.engine.specs.declared.error.DbError.TheVariants.{NoDocument, Conflict, StoreFull, LogFull, XidsSpent, Down}
use Rattle.engine.specs.declared.error.DbError.TheVariants.{DiskFault, BadPage, OutOfMemory}
use Rattle.engine.specs.declared.transaction.Transaction.{Transaction}
use Rattle.engine.proofs.Carrying.{carries_on, keeps_on}
use Rattle.engine.proofs.Choosing.{none_at}
use Rattle.engine.proofs.LawfulBefore.{no_bad_before}
use Rattle.engine.proofs.ListEnds.{list_lawful}
use Rattle.engine.proofs.Logging.{log_lawful}
use Rattle.engine.proofs.NewPuts.{LacksHead}
use Rattle.engine.proofs.Paths.{goes_on, goes_still, one_record}
use Rattle.engine.proofs.Running.{running_on, running_still}
use Rattle.engine.proofs.StepSeen.{runs_after}

-- what follows from an answer
pub linked_all : {T : Type 0} (A B : Type 0) (res : Result T DbError) → (A → B) → OnOk res A → OnOk res B
linked_all A B (Ok u) then a = then a
linked_all A B (Err e) then a = tt

-- one value is given
pub ok_one : {T E : Type 0} (r : Result T E) (x y : T) → r ≡ Ok x → r ≡ Ok y → x ≡ y
ok_one r x y a b = cc

-- what is said of the value that was given
pub of_given : {T E : Type 0} (P : T → Type 0) (r : Result T E) (x : T) → r ≡ Ok x → IfOk r P → P x
of_given {T} {E} P r x is p = subst (λ (q : Result T E). IfOk q P) is p

-- a step that isn't made for want of memory alone
pub memory_calm : (made : Result Step DbError) → IfErr made (λ e. e ≡ OutOfMemory) → made ≡ Err DiskFault → ⊥
memory_calm made memory is =
    let e : DiskFault ≡ OutOfMemory = subst (λ (r : Result Step DbError). IfErr r (λ e. e ≡ OutOfMemory)) is memory in
    cc

module _ {D : Type 0} (s : DbValue D) (made : Result Step DbError) (e : DbError) where
  -- a step that isn't made, or has no room
  pub unmade : (made ≡ Err e) ⊎ (e ≡ OutOfMemory) → CannotLogMade s made e
  unmade (inl is) = inl is
  unmade (inr memory) = inr (inl memory)

  -- one that is made, and isn't logged
  pub cannot_log : (step : Step) → made ≡ Ok step → CannotLog s (next_record s.frames.journal step) e
      → CannotLogMade s made e
  cannot_log step is why = inr (inr (step, is, why))

module _ {D : Type 0} (device : Disk D) where
  -- no write failed then
  pub unmade_told : (T : Type 0) (a b : DbValue D) (made : Result Step DbError) (e : DbError)
      → (made ≡ Err DiskFault → ⊥) → (made ≡ Err e) ⊎ (e ≡ OutOfMemory) → MetNoFault device a b
      → (let r : Result T DbError = Err e in FaultIsTold device a b r)
  unmade_told T a b made DiskFault calm (inl is) met = absurd (calm is)
  unmade_told T a b made DiskFault calm (inr memory) met = let n : ⊥ = cc in absurd n
  unmade_told T a b made NoDocument calm why met = met
  unmade_told T a b made (Conflict x) calm why met = met
  unmade_told T a b made StoreFull calm why met = met
  unmade_told T a b made LogFull calm why met = met
  unmade_told T a b made XidsSpent calm why met = met
  unmade_told T a b made (Down f) calm why met = met
  unmade_told T a b made (BadPage p) calm why met = met
  unmade_told T a b made OutOfMemory calm why met = met

  -- ── a step that was to be logged, after calls that log nothing ──

  module _ (a m new : DbValue D) (p q r : Pass) (held : List Sheet) (made : Result Step DbError)
      (goes : Goes device a m []) where
    pub logged_running : {T : Type 0} (t : Transaction) (res : Result T DbError) → IsRunning device a p t
        → IsPassOf m.frames q → CarriesOwn device a p m q → KeepsWork p q → IsPassOf new.frames r → r.held ≡ 0
        → KeepsWork q r → ((s : Step) → made ≡ Ok s → ChangesDocument s.kind)
        → OnOk res (LogsMade device m q held made new r) → OnErr res (CarriesOwn device m q new r)
        → IsRunning device new r t
    logged_running t (Ok u) run was carried keeps of none then doc l still =
        running_on device a new p r t run of none (keeps_on p q r keeps then)
        (runs_after device m new q r held l.step l.logs was of t.xid (keeps.xid ∙ run.xid) (doc l.step l.made_is)
        (carried.runs t.xid run.xid run.runs))
    logged_running t (Err e) run was carried keeps of none then doc l still =
        running_still device a new p r t run of none (keeps_on p q r keeps then)
        (carries_on device a m new p q r keeps.xid carried still)

    pub logged_goes : {T : Type 0} (Is : Record → Type 0) (res : Result T DbError)
        → ((s : Step) → made ≡ Ok s → Is (next_record m.frames.journal s))
        → OnOk res (LogsMade device m q held made new r) → OnOk res ((e : Record) × Is e × Goes device a new (e ∷ []))
    logged_goes Is (Ok u) is l =
        (next_record m.frames.journal l.step, is l.step l.made_is, goes_on device goes (one_record device l.logs.one))
    logged_goes Is (Err e) is l = tt

    pub logged_not : {T : Type 0} (res : Result T DbError) → OnErr res (Goes device m new [])
        → OnErr res (Goes device a new [])
    logged_not (Ok u) stay = tt
    logged_not (Err e) stay = goes_still device goes stay

  module _ (a m : DbValue D) (goes : Goes device a m []) (same : fault_of m ≡ fault_of a) (x : ℕ) (name : Name)
      (made : Result Step DbError) where
    link_logged : (r : Record) (e : DbError) → IsLinkOf x (doc_of name) r → CannotLog m r e
        → CannotLink device a x name e
    link_logged r (Down f) is c = sym same ∙ c
    link_logged r LogFull is c = (m, goes, (r, is, c))
    link_logged r DiskFault is c = tt
    link_logged r OutOfMemory is c = tt
    link_logged r _ is c = absurd c

    -- a link isn't logged, or there is no head
    pub not_linked : (c : Page) → Lies a name.page c → IfErr made (LacksHead name c)
        → ((s : Step) → made ≡ Ok s → IsLinkOf x (doc_of name) (next_record m.frames.journal s)) → (e : DbError)
        → CannotLogMade m made e → CannotLink device a x name e
    not_linked c lies bad one e (inl is) =
        lacking (subst (λ (r : Result Step DbError). IfErr r (LacksHead name c)) is bad)
      where
        lacking : LacksHead name c e → CannotLink device a x name e
        lacking (inl memory) = subst (CannotLink device a x name) (sym memory) tt
        lacking (inr b) = subst (CannotLink device a x name) (sym b.0)
            (a, stays, inl (refl, IsNone.other c b.1 lies (λ h. let z : None ≡ Some h.0 = sym b.2 ∙ h.1 in cc)))
    not_linked c lies bad one e (inr (inl memory)) = subst (CannotLink device a x name) (sym memory) tt
    not_linked c lies bad one e (inr (inr why)) =
        link_logged (next_record m.frames.journal why.0) e (one why.0 why.1) why.2

    row_logged : (r : Record) (e : DbError) → IsRowOf x (doc_of name) r → CannotLog m r e
        → CannotAddRow device a x (doc_of name) e
    row_logged r (Down f) is c = sym same ∙ c
    row_logged r LogFull is c = (m, goes, (r, is, c))
    row_logged r DiskFault is c = tt
    row_logged r OutOfMemory is c = tt
    row_logged r _ is c = absurd c

    -- a row isn't logged
    pub row_not_logged : IfErr made (λ e. e ≡ OutOfMemory)
        → ((s : Step) → made ≡ Ok s → IsRowOf x (doc_of name) (next_record m.frames.journal s)) → (e : DbError)
        → CannotLogMade m made e → CannotAddRow device a x (doc_of name) e
    row_not_logged bad one e (inl is) = subst (CannotAddRow device a x (doc_of name))
        (sym (subst (λ (r : Result Step DbError). IfErr r (λ e. e ≡ OutOfMemory)) is bad)) tt
    row_not_logged bad one e (inr (inl memory)) = subst (CannotAddRow device a x (doc_of name)) (sym memory) tt
    row_not_logged bad one e (inr (inr why)) =
        row_logged (next_record m.frames.journal why.0) e (one why.0 why.1) why.2

  -- a step that wants memory alone isn't logged, and no page is bad
  pub lawful_made : (a m : DbValue D) (made : Result Step DbError) → IfErr made (λ e. e ≡ OutOfMemory) → (e : DbError)
      → CannotLogMade m made e → MeetsNoBadPage device a e
  lawful_made a m made memory e (inl is) = subst (MeetsNoBadPage device a)
      (sym (subst (λ (r : Result Step DbError). IfErr r (λ e. e ≡ OutOfMemory)) is memory)) tt
  lawful_made a m made memory e (inr (inl is)) = subst (MeetsNoBadPage device a) (sym is) tt
  lawful_made a m made memory e (inr (inr why)) =
      log_lawful device a m (next_record m.frames.journal why.0) e why.2

  -- ── why it isn't made ──

  module _ (a : DbValue D) (x : ℕ) (name : Name) where
    -- the page of the head isn't held
    pub link_held : (e : DbError) → CannotHold device a name.page IsNoPageAt e → CannotLink device a x name e
    link_held (Down f) c = c
    link_held (BadPage p) c = (
      a,
      stays,
      inl (
        c.0,
        subst (IsNone a (HasHeadIn a name.slot)) (sym c.0)
            (none_at device a (HasHeadIn a name.slot) name.page c.1),
      ),
    )
    link_held DiskFault c = tt
    link_held OutOfMemory c = tt
    link_held _ c = absurd c

    -- the end of the pending list isn't
    pub link_list : (b : DbValue D) (e : DbError) → Goes device a b [] → fault_of b ≡ fault_of a
        → CannotHoldList device b e → CannotLink device a x name e
    link_list b (Down f) goes same c = sym same ∙ c
    link_list b (BadPage p) goes same c = (b, goes, inr c)
    link_list b DiskFault goes same c = tt
    link_list b OutOfMemory goes same c = tt
    link_list b _ goes same c = absurd c

    pub row_list : (e : DbError) → CannotHoldList device a e → CannotAddRow device a x (doc_of name) e
    row_list (Down f) c = c
    row_list (BadPage p) c = c
    row_list DiskFault c = tt
    row_list OutOfMemory c = tt
    row_list _ c = absurd c

  -- a lawful store's list is good, where it is held later
  pub list_later : (a b : DbValue D) (q : Pass) (e : DbError) → Goes device a b [] → MetNoFault device a b
      → IsPassOf b.frames q → CannotHoldList device b e → MeetsNoBadPage device a e
  list_later a b q e goes met of c = no_bad_before device a b goes tt met e (list_lawful device b q e of c)
