-- The log at hand is allowed to a pass. No proof elsewhere knows that a pass with an xid has seen all of it.
use Rattle.std.proofs.Common.{◌≡◌, ◌<◌, ◌≤◌, ◌-◌, ℕ, List, [], ◌∷◌, ◌++◌, length, take, drop, refl, sym, ap, subst}
use Rattle.std.proofs.Common.{◌∙◌, inl, inr, arith, length-append, length-drop}
use Rattle.std.proofs.lemmas.List.{take-append-drop}
use Rattle.std.specs.Prelude.{Option, Some, None, IfSome, max}
use Rattle.disk_trait.specs.Runs.{images_now}
use Rattle.disk_trait.specs.declared.device.Disk.{Ghosts as Disk}
use Rattle.wal.specs.Waiting.{down_of}
use Rattle.page_types.specs.declared.record.Record.{Record}
use Rattle.core_state.specs.Log.{Log, Pages, In, Shows, cut}
use Rattle.core_state.specs.Legal.{RecordsAreValid, IsLegal, Keeps}
use Rattle.core_state.specs.Allowed.{Sheet, View, IsAllowed, AreHeld, AreOthers}
use Rattle.core_state.specs.Steady.{IsMaintenance}
use Rattle.snap_pins.specs.Taken.{IsPinned}
use Rattle.buffer_frames.specs.NoStore.{CountedAreOne}
use Rattle.buffer_frames.specs.Journals.{JournalValue, RestsFrom}
use Rattle.buffer_frames.specs.Journals as journals
use Rattle.buffer_frames.specs.Frames.{FramesValue, KeepsPins, Stands, Behind}
use Rattle.buffer_frames.specs.Passes.{pin_in, in_use, xids_of, IsRightOf, IsPassOf, IsHolding, view_of}
use Rattle.buffer_frames.specs.declared.pass.Pass.{Pass}
use Rattle.buffer_frames.specs.declared.pass.Pinned.{Pinned}
use Rattle.buffer_frames.proofs.Beginning.{stands_one}
use Rattle.buffer_frames.proofs.FirstLogs.{shown_by}
use Rattle.buffer_frames.proofs.Logged.{last_number}

-- a log is its last part after its first
pub parts_of : (n : ℕ) (R : Log) → R ≡ take (length R - n) R ++ cut n R
parts_of n R = sym (take-append-drop (length R - n) R)

pub cut_whole : (n : ℕ) (R : Log) → n ≡ length R → cut n R ≡ R
cut_whole n R e = ap (λ (k : ℕ). drop k R) (let z : length R - n ≡ 0 = omega (arith, e) in z)

pub log_length : {D : Type 0} (device : Disk D) (j : JournalValue D) (R : Log) → journals.IsJournalOf device j R
    → j.state.records ≡ length R
log_length device j R s = last_number j.state R s.state s.numbered

pub pin_kept : {D : Type 0} (f : FramesValue D) (pass : Pass) (R : Log) → KeepsPins R f.pins f.journal.flushed
    → IsPassOf f pass → IfSome (pin_in pass.pin) (Keeps R)
pin_kept f pass R keeps of = go pass.pin of.pin
  where
    go : (o : Option Pinned) → IfSome o (λ s. IsPinned f.pins s.place (in_use s) × (s.length ≤ pass.seen))
        → IfSome (pin_in o) (Keeps R)
    go None p = tt
    go (Some s) p = keeps.each s.place (in_use s) p.0

pub cut_length : (n : ℕ) (R : Log) → n ≤ length R → length (cut n R) ≡ n
cut_length n R le = omega (arith, length-drop (length R - n) R, le)

-- a pass with the right knows of no maintenance that it has not seen
abbrev pub Rests : Pass → Log → Type 0
Rests pass R = IfSome pass.work (λ at. RestsFrom (max at pass.seen) R)

pub rests_by : (w o : Option ℕ) (seen records : ℕ) (R : Log) → IfSome w (λ n. RestsFrom n R)
    → IfSome o (λ at. (at ≤ records) × IsRightOf w (max at seen)) → IfSome o (λ at. RestsFrom (max at seen) R)
rests_by w None seen records R rests right = tt
rests_by None (Some at) seen records R rests right = absurd right.1
rests_by (Some n) (Some at) seen records R rests right = λ r i lt work. rests r i (omega (arith, right.1, lt)) work

pub rests_of : {D : Type 0} (device : Disk D) (f : FramesValue D) (pass : Pass) (R : Log)
    → journals.IsJournalOf device f.journal R → IsPassOf f pass → Rests pass R
rests_of device f pass R s of = rests_by f.journal.work pass.work pass.seen f.journal.state.records R s.work of.work

-- others may have logged what came since, where the pass has no transaction
rested : (o : Option ℕ) (seen at : ℕ) (R : Log) → IfSome o (λ at. RestsFrom (max at seen) R) → o ≡ Some at
    → RestsFrom (max at seen) R
rested None seen at R rests is = absurd (let z : ⊥ = cc in z)
rested (Some n) seen at R rests is = subst (λ (k : ℕ). RestsFrom (max k seen) R) (some_same n at is) rests
  where
    some_same : (n m : ℕ) → Some n ≡ Some m → n ≡ m
    some_same n m e = cc

others_rest : (v : View) (later S : Log) → v.xids ≡ [] → v.begun ≡ [] → RecordsAreValid (later ++ S)
    → ((at : ℕ) → v.work ≡ Some at → (r : Record) → In r later → max at (length S) < r.number → IsMaintenance r.kind
    → ⊥)
    → AreOthers v later
others_rest v [] S none begun valid rests = tt
others_rest v (r ∷ rs) S none begun valid rests = (
  record {
    not_own = λ i. subst (In r.xid) none i;
    not_all = λ some. absurd (some begun);
    not_work = λ at is lt work. rests at is r (inl refl)
        (omega (arith, lt, (valid.1).number, length-append rs S)) work;
  },
  others_rest v rs S none begun valid.0 (λ at is x i. rests at is x (inr i)),
)

in_later : (later S R : Log) (r : Record) → R ≡ later ++ S → In r later → In r R
in_later later S R r parts i = subst (In r) (sym parts) (go later i)
  where
    go : (xs : Log) → In r xs → In r (xs ++ S)
    go [] i = absurd i
    go (x ∷ xs) (inl e) = inl e
    go (x ∷ xs) (inr i) = inr (go xs i)

pub with_xid : {D : Type 0} (f : FramesValue D) (pass : Pass) (o : Option ℕ) (R : Log) (P : Pages) (held : List Sheet)
    → pass.xid ≡ o → IsLegal R → Shows R P → AreHeld P held → pass.seen ≤ length R → IfSome (pin_in pass.pin) (Keeps R)
    → IfSome o (λ x. pass.seen ≡ length R) → Rests pass R → IsAllowed (view_of f pass R held) R
with_xid f pass None R P held is legal shown here le keeps all rests =
    let none : xids_of pass.xid ≡ [] = ap xids_of is in
    let later : Log = take (length R - pass.seen) R in
    let parts : R ≡ later ++ cut pass.seen R = parts_of pass.seen R in
    record {
      later = later;
      goes_on = parts;
      others = others_rest (view_of f pass R held) later (cut pass.seen R) none none
          (subst RecordsAreValid parts legal.valid)
          (λ at work r i lt. rested pass.work pass.seen at R rests work r
          (in_later later (cut pass.seen R) R r parts i) (omega (arith, lt, cut_length pass.seen R le)));
      legal = legal;
      keeps = keeps;
      pages = P;
      shown = shown;
      held = here;
      read = tt;
    }
with_xid f pass (Some x) R P held is legal shown here le keeps all rests = record {
  later = [];
  goes_on = sym (cut_whole pass.seen R all);
  others = tt;
  legal = legal;
  keeps = keeps;
  pages = P;
  shown = shown;
  held = here;
  read = tt;
}

-- the log at hand is allowed to a pass that holds what its pages show
pub at_hand : {D : Type 0} (device : Disk D) (f : FramesValue D) (pass : Pass) (R : Log) (P : Pages)
    (held : List Sheet) → device.tells → down_of f.journal.wal ≡ None → Stands device f R → IsLegal R
    → IsPassOf f pass → Shows R P → AreHeld P held
    → IsAllowed (view_of f pass R held) R
at_hand device f pass R P held told up s legal of shown here =
    let long : f.journal.state.records ≡ length R = log_length device f.journal R s.journal in
    with_xid f pass pass.xid R P held refl legal shown here (omega (arith, of.seen, long))
    (pin_kept f pass R (s.pins told up legal) of)
    (all_seen pass.xid long of.all) (rests_of device f pass R s.journal of)
  where
    all_seen : (o : Option ℕ) → f.journal.state.records ≡ length R
        → IfSome o (λ x. pass.seen ≡ f.journal.state.records) → IfSome o (λ x. pass.seen ≡ length R)
    all_seen None long all = tt
    all_seen (Some x) long all = all ∙ long

-- of one log that the frames stand for, and so of all: the journal stands for one
pub behind_one : {D : Type 0} (device : Disk D) → CountedAreOne
    → (device.tells → (d : D) → images_now device d (device.seen d))
    → (f : FramesValue D) (X : Log → Type 0) (R : Log) → journals.IsJournalOf device f.journal R
    → (device.tells → down_of f.journal.wal ≡ None → IsLegal R → X R) → Behind device f X
behind_one device one law f X R s x t up S stands legal =
    let same : R ≡ S = stands_one device one (law t) f.journal R S s stands.journal t up in
    subst X same (x t up (subst IsLegal (sym same) legal))

-- a pass that holds nothing
pub none_held : {D : Type 0} (device : Disk D) (f : FramesValue D) (pass : Pass) → IsPassOf f pass → pass.held ≡ 0
    → IsHolding device f pass []
none_held device f pass of none = record {
  all = sym none;
  away = tt;
  once = tt;
  allowed = λ t up R s legal.
      let shown = shown_by R legal.valid in
      at_hand device f pass R shown.0 [] t up s legal of shown.1 tt;
}

-- the same pages are held by a pass that has seen more
pub held_on : {D : Type 0} (device : Disk D) (f : FramesValue D) (pass pass' : Pass) (held : List Sheet)
    → IsPassOf f pass' → pass'.held ≡ pass.held → IsHolding device f pass held → IsHolding device f pass' held
held_on device f pass pass' held of same h = record {
  all = h.all ∙ sym same;
  away = h.away;
  once = h.once;
  allowed = λ t up R s legal.
      let a = h.allowed t up R s legal in
      at_hand device f pass' R a.pages held t up s legal of a.shown a.held;
}
