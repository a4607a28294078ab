-- What a path of steps makes of the log that a store stands for, and of its history.
use Rattle.std.proofs.Common.{◌≡◌, ◌⊎◌, inl, inr, ℕ, suc, Bool, true, false, List, [], ◌∷◌, ◌++◌, length, refl, sym, ap}
use Rattle.std.proofs.Common.{subst, ◌∙◌, ◌+◌, arith}
use Rattle.std.specs.Prelude.{reverse, ⊤}
use Rattle.std.proofs.lemmas.List.{reverse-append}
use Rattle.disk_trait.specs.declared.device.Disk.{Ghosts as Disk}
use Rattle.page_types.specs.declared.record.Record.{Record}
use Rattle.page_types.specs.declared.record.Kind.{Kind}
use Rattle.page_types.specs.declared.record.Kind.TheVariants as kind
use Rattle.core_state.specs.Log.{Log}
use Rattle.core_state.specs.History.{History, IsHistory, IsHistoryWith}
use Rattle.core_state.proofs.Histories.{history_one}
use Rattle.buffer_frames.specs.Frames.{Stands}
use Rattle.buffer_frames.specs.Beginnings.{BeginsBy}
use Rattle.buffer_frames.specs.Journals.{logged, with_owed, owed_abort}
use Rattle.buffer_frames.proofs.Begun.{same_by_none}
use Rattle.engine.specs.Db.{DbValue}
use Rattle.engine.specs.Going.{Goes, stays, nothing, one, LogsNothing, LogsOne}

-- a log with these records more, the oldest first, after the owed Abort, where one is owed and some come
abbrev pub log_then : Bool → List Record → Log → Log
log_then owes [] R = R
log_then owes (r ∷ rs) R = reverse (r ∷ rs) ++ with_owed owes R

-- whether it is owed after them
abbrev pub owed_then : Bool → List Record → Bool
owed_then owes [] = owes
owed_then owes (r ∷ rs) = false

none_then : (owes : Bool) (rs : List Record) (r : Record) → owed_then owes (rs ++ r ∷ []) ≡ false
none_then owes [] r = refl
none_then owes (q ∷ rs) r = refl

one_then : (owes : Bool) (rs : List Record) (r : Record) (R : Log)
    → logged (owed_then owes rs) r (log_then owes rs R) ≡ log_then owes (rs ++ r ∷ []) R
one_then owes [] r R = refl
one_then owes (q ∷ rs) r R = ap (λ (l : Log). l ++ with_owed owes R) (sym (reverse-append (q ∷ rs) (r ∷ [])))

-- the log as a contract shows it
pub log_shown : (owes : Bool) (rs : List Record) (R : Log)
    → (before : Log) × (log_then owes rs R ≡ reverse rs ++ (before ++ R))
    × ((before ≡ []) ⊎ (before ≡ owed_abort (suc (length R)) ∷ []))
log_shown owes [] R = ([], refl, inl refl)
log_shown false (r ∷ rs) R = ([], refl, inl refl)
log_shown true (r ∷ rs) R =
    let e : 1 + length R ≡ suc (length R) = omega arith in (
      owed_abort (suc (length R)) ∷ [],
      ap (λ (n : ℕ). reverse (r ∷ rs) ++ (owed_abort n ∷ R)) e,
      inr refl,
    )

-- it is no Commit, and frees no slots
abbrev pub NotCommit : Kind → Type 0
NotCommit (kind.Commit n) = ⊥
NotCommit kind.FreeSlots = ⊥
NotCommit k = ⊤

-- none of the records is one
abbrev pub AreNoCommits : List Record → Type 0
AreNoCommits [] = ⊤
AreNoCommits (r ∷ rs) = NotCommit r.kind × AreNoCommits rs

pub none_of_both : (rs qs : List Record) → AreNoCommits rs → AreNoCommits qs → AreNoCommits (rs ++ qs)
none_of_both [] qs a b = b
none_of_both (r ∷ rs) qs a b = (a.0, none_of_both rs qs a.1 b)

none_before : (rs : List Record) (r : Record) → AreNoCommits (rs ++ r ∷ []) → AreNoCommits rs × NotCommit r.kind
none_before [] r a = (tt, a.0)
none_before (q ∷ rs) r a = let b = none_before rs r a.1 in ((a.0, b.0), b.1)

-- the history is that of the log before
plain_history : (k : Kind) (x : ℕ) (R : Log) (H : History) → NotCommit k → IsHistoryWith k x R (IsHistory R) H
    → IsHistory R H
plain_history (kind.Commit n) x R H plain h = absurd plain
plain_history _ x R H plain h = h

unowed_history : (owes : Bool) (R : Log) (H : History) → IsHistory (with_owed owes R) H → IsHistory R H
unowed_history true R H h = h
unowed_history false R H h = h

module _ {D : Type 0} (device : Disk D) where
  -- whether an Abort is owed
  pub owes_of : {old new : DbValue D} {rs : List Record} → Goes device old new rs
      → new.frames.journal.owes ≡ owed_then old.frames.journal.owes rs
  owes_of stays = refl
  owes_of (nothing p s) = s.state.owes ∙ owes_of p
  owes_of {old} (one {mid} {new} {rs} {r} p s) = s.added.owes ∙ sym (none_then old.frames.journal.owes rs r)

  -- what each step carries over to the next log, a path carries over
  pub carried : (Holds : DbValue D → Log → Type 0)
      → ((s t : DbValue D) (R : Log) → LogsNothing device s t → Holds s R → Holds t R)
      → ((s t : DbValue D) (r : Record) (R : Log) → LogsOne device s t r → Holds s R
      → Holds t (logged s.frames.journal.owes r R))
      → {old new : DbValue D} {rs : List Record} → Goes device old new rs → (R : Log) → Holds old R
      → Holds new (log_then old.frames.journal.owes rs R)
  carried Holds n o stays R h = h
  carried Holds n o {old} (nothing {mid} {new} {rs} p s) R h =
      n mid new (log_then old.frames.journal.owes rs R) s (carried Holds n o p R h)
  carried Holds n o {old} (one {mid} {new} {rs} {r} p s) R h =
      let owes = old.frames.journal.owes in
      let here : Holds new (logged mid.frames.journal.owes r (log_then owes rs R)) =
      o mid new r (log_then owes rs R) s (carried Holds n o p R h) in
      subst (Holds new)
      (ap (λ (b : Bool). logged b r (log_then owes rs R)) (owes_of p) ∙ one_then owes rs r R) here

  nothing_stands : (s t : DbValue D) (R : Log) → LogsNothing device s t → Stands device s.frames R
      → Stands device t.frames R
  nothing_stands s t R n h =
      let on = n.added.on R h in
      subst (Stands device t.frames) (same_by_none s.frames.journal.owes R on.0 on.2) on.1

  -- the log that the store stands for
  pub stands_then : {old new : DbValue D} {rs : List Record} → Goes device old new rs → (R : Log)
      → Stands device old.frames R → Stands device new.frames (log_then old.frames.journal.owes rs R)
  stands_then = carried (λ (s : DbValue D) (R : Log). Stands device s.frames R) nothing_stands
      (λ s t r R o h. o.stands R h)

  -- the store stands for this log of this history
  abbrev pub StandsBy : History → History → DbValue D → Log → Type 0
  StandsBy found H s R = Stands device s.frames R × BeginsBy device s.frames.journal found R H

  still_by_one : device.tells → (found H : History) (s t : DbValue D) (r : Record) (R : Log) → NotCommit r.kind
      → LogsOne device s t r → StandsBy found H s R → StandsBy found H t (logged s.frames.journal.owes r R)
  still_by_one tells found H s t r R plain o h =
      let owes = s.frames.journal.owes in
      let b = o.begins tells found R H h.1 in
      let before : IsHistory R b.0 = unowed_history owes R b.0
      (plain_history r.kind r.xid (with_owed owes R) b.0 plain b.2.log_of.history) in (
        o.stands R h.0,
        subst (λ (K : History). BeginsBy device t.frames.journal found (logged owes r R) K)
            (history_one R b.0 H before h.1.log_of.history) b.2,
      )

  -- where no Commit is logged the history stays
  pub still : device.tells → (found H : History) {old new : DbValue D} {rs : List Record} → Goes device old new rs
      → AreNoCommits rs → (R : Log) → StandsBy found H old R
      → StandsBy found H new (log_then old.frames.journal.owes rs R)
  still tells found H stays none R h = h
  still tells found H {old} (nothing {mid} {new} {rs} p s) none R h =
      let before = still tells found H p none R h in (
        nothing_stands mid new (log_then old.frames.journal.owes rs R) s before.0,
        s.begins tells found (log_then old.frames.journal.owes rs R) H before.1,
      )
  still tells found H {old} (one {mid} {new} {rs} {r} p s) none R h =
      let owes = old.frames.journal.owes in
      let each = none_before rs r none in
      subst (StandsBy found H new)
      (ap (λ (b : Bool). logged b r (log_then owes rs R)) (owes_of p) ∙ one_then owes rs r R)
      (still_by_one tells found H mid new r (log_then owes rs R) each.1 s (still tells found H p each.0 R h))
