-- A transaction that begins: it runs, and has changed nothing. Why none begins.
use Rattle.std.proofs.Common.{◌≡◌, ◌≤◌, ◌==◌, cond, ℕ, zero, suc, List, [], ◌∷◌, length, refl, sym, ap, subst, ◌∙◌}
use Rattle.std.proofs.Common.{arith, eq-eqb}
use Rattle.std.specs.Prelude.{◌↔◌, Bool, true, map, Option, Some, None, IfSome, Result, Ok, Err}
use Rattle.std.specs.List.{All}
use Rattle.disk_trait.specs.Runs.{images_now}
use Rattle.disk_trait.specs.declared.device.Disk.{Ghosts as Disk}
use Rattle.page_types.specs.declared.record.Kind.{Kind}
use Rattle.page_types.specs.declared.record.Kind.TheVariants as kind
use Rattle.page_types.specs.declared.record.Record.{Record}
use Rattle.core_state.specs.Log.{Log, Pages, In, Shows, cut, fate, fate_with, next_xid}
use Rattle.core_state.specs.Documents.{Doc, name_of, placed, placed_with, marked, marked_with}
use Rattle.core_state.specs.History.{AreInserts, IsCommitOf}
use Rattle.core_state.specs.Legal.{IsLegal}
use Rattle.core_state.specs.States.{StateValue}
use Rattle.core_state.specs.declared.answers.Fate.TheVariants.{Running}
use Rattle.core_state.proofs.Steps.Drawn.{not_drawn}
use Rattle.buffer_frames.specs.NoStore.{CountedAreOne}
use Rattle.wal.specs.Waiting.{down_of}
use Rattle.buffer_frames.specs.Journals.{JournalValue, after_owed, with_owed}
use Rattle.buffer_frames.specs.Frames.{KeepsState}
use Rattle.buffer_frames.specs.Passes.{Seen, IsLogged, view_of}
use Rattle.buffer_frames.specs.declared.pass.Pass.{Pass}
use Rattle.buffer_frames.specs.declared.frame_error.FrameError.{FrameError}
use Rattle.buffer_frames.specs.declared.frame_error.FrameError.TheVariants as frames
use Rattle.buffer_frames.proofs.AtHand.{log_length, cut_whole}
use Rattle.buffer_frames.proofs.Beginning.{stands_one}
use Rattle.buffer_frames.proofs.JournalKept.{state_kept}
use Rattle.engine.specs.Answers.{TakesSnapshot}
use Rattle.engine.specs.Causes.{IsDown, AreXidsSpent, IsListed, IsListedIn}
use Rattle.engine.specs.Db.{DbValue, state_of, state_then, fault_of, flushed_of, IsUp}
use Rattle.engine.specs.Finding.{Name}
use Rattle.engine.specs.Going.{Goes, LogsOne}
use Rattle.engine.specs.Inner.Parts.{HasChanged, AreIndexed, CannotBegin, no_changes}
use Rattle.engine.specs.Inner.Plain.{plain_step, plain_record, CannotLog, IsThereOf, CannotStart}
use Rattle.engine.specs.Work.{deleted_by}
use Rattle.engine.specs.declared.error.DbError.{DbError}
use Rattle.engine.specs.declared.error.DbError.TheVariants.{NoDocument, LogFull, XidsSpent, Down, DiskFault}
use Rattle.engine.specs.declared.error.DbError.TheVariants.{OutOfMemory}
use Rattle.engine.proofs.Paths.{later_on, path_state}
use Rattle.engine.proofs.Plain.{begin_is}

-- ── what it has changed ──

module _ (log : Log) (x : ℕ) (is : x ≡ next_xid log) (legal : IsLegal log) where
  -- after a record of this kind and xid
  begun_by : (newest : Record) → newest.kind ≡ kind.Begin → newest.xid ≡ x → (P : Pages) → Shows (newest ∷ log) P
      → (fate (newest ∷ log) x ≡ Running) × IsCommitOf (newest ∷ log) x no_changes
      × AreIndexed (newest ∷ log) P x
  begun_by newest begins own P shown =
      let none = not_drawn log x legal (omega (arith, is)) in
      let same : (newest.xid == x) ≡ true = eq-eqb newest.xid x own in
      let places : placed (newest ∷ log) x ≡ [] =
      ap (λ (k : Kind). placed_with k newest.xid x (placed log x)) begins ∙ none.1 in
      let marks : marked (newest ∷ log) x ≡ [] =
      ap (λ (k : Kind). marked_with k newest.xid x (marked log x)) begins ∙ none.2 in (
        ap (λ (k : Kind). fate_with k newest.xid x (fate log x)) begins
            ∙ ap (λ (b : Bool). cond b Running (fate log x)) same,
        record {
          pages = P;
          shown = shown;
          deleted = sym (ap (map name_of) marks);
          inserted = subst (λ (ds : List Doc). AreInserts P ds []) (sym places) tt;
        },
        λ d i. absurd (subst (In d) places i),
      )

module _ {D : Type 0} (device : Disk D) where
  pub begun_changed : CountedAreOne → (device.tells → (d : D) → images_now device d (device.seen d))
      → (a b : DbValue D) (pass pass' : Pass) (x : ℕ) → LogsOne device a b (plain_record a kind.Begin 0)
      → x ≡ suc (length (state_then a).fates) → pass'.seen ≡ (state_of b).records
      → Seen device b.frames pass'
      (λ S P. IsLogged (view_of b.frames pass S []) (plain_step kind.Begin 0) S P)
      → HasChanged device b pass' x no_changes
  begun_changed one law a b pass pass' x s is all seen t up R stands legal P shown =
      let at = seen t up R stands legal P shown in
      let r : Record = plain_record a kind.Begin 0 in
      let whole : cut pass'.seen R ≡ R =
      cut_whole pass'.seen R (all ∙ log_length device b.frames.journal R stands.journal) in
      let back = (s.added).back t up R stands in
      let rest : Log = with_owed a.frames.journal.owes back.0 in
      let same : R ≡ r ∷ rest =
      stands_one device one (law t) b.frames.journal R (r ∷ rest) stands.journal
      (s.stands back.0 back.1).journal t up in
      let both : at.newest ∷ at.log ≡ r ∷ rest = sym at.log_is ∙ whole ∙ same in
      let newest : at.newest ≡ r = cc in
      let own : at.newest.xid ≡ x = ap (λ (q : Record). q.xid) newest ∙ sym is in
      let next : x ≡ next_xid at.log = sym own ∙ (at.drawn).xid in
      subst (λ (S : Log). (Q : Pages) → Shows S Q
      → (fate S x ≡ Running) × IsCommitOf S x no_changes × AreIndexed S Q x)
      (sym at.log_is)
      (begun_by at.log x next (at.allowed).legal at.newest (at.drawn).kind own) P shown

-- ── why none begins ──

-- what is spent stays so while nothing is logged
pub spent_still : {D : Type 0} (a b : DbValue D) → KeepsState a.frames b.frames → AreXidsSpent a → AreXidsSpent b
spent_still a b keeps many =
    subst (λ (s : StateValue). (after_owed b.frames.journal.owes s).xid_limit
    ≤ suc (length (after_owed b.frames.journal.owes s).fates)) (sym keeps.state)
    (subst (λ (o : Bool). (after_owed o (state_of a)).xid_limit ≤ suc (length (after_owed o (state_of a)).fates))
    (sym keeps.owes) many)

pub spent_first : {D : Type 0} (a b : DbValue D) → KeepsState a.frames b.frames → AreXidsSpent b → AreXidsSpent a
spent_first a b keeps many =
    spent_still b a (record { state = sym keeps.state; owes = sym keeps.owes; work = sym keeps.work }) many

module _ {D : Type 0} (device : Disk D) (a m : DbValue D) (path : Goes device a m []) where
  -- its Begin is refused
  pub start_why : (n : ℕ) (deletes : Option Name) → IsThereOf a n deletes → (e : DbError)
      → CannotLog m kind.Begin 0 e → (e ≡ LogFull → IsUp m → AreXidsSpent m → ⊥) → ((f : ℕ) → IsDown m f → IsDown a f)
      → CannotStart device a n deletes e
  start_why n deletes there (Down f) why room down = down f why
  start_why n deletes there LogFull why room down = (
    there,
    λ many. room refl why.0 (spent_still a m (path_state device path) many),
    (m, path, (suc (length (state_then m).fates), plain_record m kind.Begin 0, begin_is m _ refl, why.1)),
  )
  start_why n deletes there XidsSpent why room down =
      (there, spent_first a m (path_state device path) why.1)
  start_why n deletes there DiskFault why room down = tt
  start_why n deletes there OutOfMemory why room down = tt
  start_why n deletes there _ why room down = absurd why

-- what is to be deleted is there
all_there : (P : Name → Type 0) (o : Option Name) → IfSome o P → All P (deleted_by o)
all_there P None h k d lt = absurd (omega (arith, lt))
all_there P (Some name) h zero d lt = h
all_there P (Some name) h (suc k) d lt = absurd (omega (arith, lt))

-- a store that answers Ok is up
pub up_at_pin : {T : Type 0} (o : Option ℕ) (r : Result T FrameError) (x : T)
    → ((f : ℕ) → (r ≡ Err (frames.Down f)) ↔ (o ≡ Some f)) → r ≡ Ok x → o ≡ None
up_at_pin None r x down ok = refl
up_at_pin (Some f) r x down ok =
    let is : r ≡ Err (frames.Down f) = (down f).1 refl in
    absurd (let z : ⊥ = cc in z)

-- where the store is down a pass is shown nothing more
pub down_takes : {D : Type 0} (s : DbValue D) (pass : Pass) (f : ℕ) → pass.shown ≤ flushed_of s → IsDown s f
    → TakesSnapshot s s pass pass
down_takes s pass f shown down = record {
  before = shown;
  then = (omega arith, shown);
  up = λ up. absurd (let z : ⊥ = cc in z);
  room = refl;
}

-- ── a statement begins ──

module _ {D : Type 0} (device : Disk D) (a m : DbValue D) (same : m.frames.journal ≡ a.frames.journal)
    (n : ℕ) (taken : n ≡ flushed_of a) where
  listed_then : (name : Name) → IsListed a name → IsListedIn (state_of m) n name
  listed_then name is =
      subst (λ (j : JournalValue D). IsListedIn j.state n name) (sym same)
      (subst (λ (k : ℕ). IsListedIn (state_of a) k name) (sym taken) is)

  listed_first : (name : Name) → IsListedIn (state_of m) n name → IsListed a name
  listed_first name is =
      subst (λ (k : ℕ). IsListedIn (state_of a) k name) taken
      (subst (λ (j : JournalValue D). IsListedIn j.state n name) same is)

  pub there_first : (deletes : Option Name) → IsThereOf m n deletes → IfSome deletes (IsListed a)
  there_first None there = tt
  there_first (Some name) there = listed_first name there

  pub spent_kept : AreXidsSpent a → AreXidsSpent m
  spent_kept = spent_still a m (state_kept a.frames m.frames same)

  -- why it does not begin
  pub begin_why : (new : DbValue D) (deletes : Option Name) (e : DbError) → IsUp a → Goes device a m []
      → CannotStart device m n deletes e → CannotBegin device a new deletes e
  begin_why new deletes (Down f) up path why =
      absurd (let down : fault_of a ≡ Some f =
      sym (ap (λ (j : JournalValue D). down_of j.wal) same) ∙ why in let z : ⊥ = cc in z)
  begin_why new deletes NoDocument up path why = (up, (why.0, why.1, λ is. why.2 (listed_then why.0 is)))
  begin_why new deletes XidsSpent up path why = (
    up,
    all_there (IsListed a) deletes (there_first deletes why.0),
    spent_first a m (state_kept a.frames m.frames same) why.1,
  )
  begin_why new deletes LogFull up path why = (
    up,
    all_there (IsListed a) deletes (there_first deletes why.0),
    λ many. why.1 (spent_kept many),
    later_on device path why.2,
  )
  begin_why new deletes DiskFault up path why = up
  begin_why new deletes OutOfMemory up path why = up
  begin_why new deletes _ up path why = absurd why
