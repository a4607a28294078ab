-- How the history of a store grows along a path, and how its device goes on.
use Rattle.std.proofs.Common.{◌≡◌, ℕ, suc, Bool, true, false, List, [], ◌∷◌, ◌++◌, length, refl, sym, ap, ap₂}
use Rattle.std.proofs.Common.{subst, subst₂, ◌∙◌, arith}
use Rattle.std.specs.Prelude.{Option, Some, None, IfSome}
use Rattle.std.proofs.lemmas.List.{append-nil, length-append, length-map}
use Rattle.disk_trait.specs.declared.device.Disk.{Ghosts as Disk}
use Rattle.wal.proofs.Paging.{kept_still, kept_then}
use Rattle.page_types.specs.declared.record.Record.{Record}
use Rattle.page_types.specs.declared.record.Kind.{Kind}
use Rattle.page_types.specs.declared.record.Kind.TheVariants as kind
use Rattle.core_state.specs.Log.{Log, Shows, cut}
use Rattle.core_state.specs.History.{Commit, History, IsCommitOf, IsHistory, IsHistoryWith}
use Rattle.core_state.specs.States as states
use Rattle.core_state.specs.States.{StateTells}
use Rattle.core_state.proofs.Histories.{history_one, commit_one}
use Rattle.core_state.proofs.StateTold.{state_told}
use Rattle.buffer_frames.specs.Frames.{RunsOn}
use Rattle.buffer_frames.specs.Opens.{OpensTo}
use Rattle.buffer_frames.specs.Beginnings.{BeginsBy, HasFlushed}
use Rattle.buffer_frames.specs.Journals.{logged}
use Rattle.buffer_frames.specs.Passes.{IsPassOf}
use Rattle.buffer_frames.specs.declared.pass.Pass.{Pass}
use Rattle.buffer_frames.proofs.AtHand.{cut_whole, log_length}
use Rattle.buffer_frames.proofs.LastingStates.{told_alike}
use Rattle.engine.specs.Db.{DbValue, disk_of, state_of, IsUp}
use Rattle.engine.specs.Standing.{StandsFor, HasGrown, GoesOn}
use Rattle.engine.specs.Work as work
use Rattle.engine.specs.Going.{Goes, stays, nothing, one, LogsOne, TimeGoesOn}
use Rattle.engine.specs.Inner.Parts.{HasChanged}
use Rattle.engine.proofs.HeapPagesKept.{NotFreeing, AreNotFreeing, heaps_on, pages_on}
use Rattle.engine.proofs.Logs.{log_then, NotCommit, AreNoCommits, StandsBy, owes_of, still}
use Rattle.engine.proofs.Paths.{time_of, pending_of}

-- lists that end alike
pub last_one : {A : Type 0} (xs ys : List A) (x y : A) → xs ++ x ∷ [] ≡ ys ++ y ∷ [] → (xs ≡ ys) × (x ≡ y)
last_one [] [] x y e = (refl, cc)
last_one [] (z ∷ ys) x y e =
    let longer : 1 ≡ suc (length (ys ++ y ∷ [])) = ap length e in
    absurd (omega (arith, longer, length-append ys (y ∷ [])))
last_one (z ∷ xs) [] x y e =
    let longer : suc (length (xs ++ x ∷ [])) ≡ 1 = ap length e in
    absurd (omega (arith, longer, length-append xs (x ∷ [])))
last_one {A} (z ∷ xs) (w ∷ ys) x y e =
    let first : z ≡ w = cc in
    let rest : xs ++ x ∷ [] ≡ ys ++ y ∷ [] = cc in
    let both = last_one xs ys x y rest in
    (ap₂ (λ (a : A) (l : List A). a ∷ l) first both.0, both.1)

-- the last record of a log of a Commit
commit_history : (k : Kind) (n x y : ℕ) (S : Log) (H : History) → k ≡ kind.Commit n → y ≡ x
    → IsHistoryWith k y S (IsHistory S) H → IsHistoryWith (kind.Commit n) x S (IsHistory S) H
commit_history k n x y S H e f h = subst₂ (λ (j : Kind) (z : ℕ). IsHistoryWith j z S (IsHistory S) H) e f h

one_more : (K H : History) (d c : Commit) (all : History) → all ≡ K ++ d ∷ [] → K ≡ H → d ≡ c → all ≡ H ++ c ∷ []
one_more K H d c all e front same = e ∙ ap₂ (λ (J : History) (x : Commit). J ++ x ∷ []) front same

not_owed : (b : Bool) (o : Option ℕ) (x : ℕ) → (b ≡ true → o ≡ None) → o ≡ Some x → b ≡ false
not_owed true o x none some = let e : None ≡ Some x = sym (none refl) ∙ some in absurd (let z : ⊥ = cc in z)
not_owed false o x none some = refl

all_of : (o : Option ℕ) (x : ℕ) (A : Type 0) → o ≡ Some x → IfSome o (λ (y : ℕ). A) → A
all_of None x A e a = absurd (let z : ⊥ = cc in z)
all_of (Some y) x A e a = a

module _ {D : Type 0} (device : Disk D) where
  -- ── the records of a path ──

  -- the last record that a path logs
  pub record LastStep (old new : DbValue D) (rs : List Record) (e : Record) : Type 0 where
    pub before : DbValue D
    pub after : DbValue D
    pub goes : Goes device old before rs
    pub logs : LogsOne device before after e
    pub rests : Goes device after new []

  pub last_step : {old new : DbValue D} {qs : List Record} → Goes device old new qs → (rs : List Record) (e : Record)
      → qs ≡ rs ++ e ∷ [] → LastStep old new rs e
  last_step stays rs e is =
      let longer : 0 ≡ length (rs ++ e ∷ []) = ap length is in
      absurd (omega (arith, longer, length-append rs (e ∷ [])))
  last_step (nothing p s) rs e is =
      let l = last_step p rs e is in
      record { before = l.before; after = l.after; goes = l.goes; logs = l.logs; rests = nothing l.rests s }
  last_step {old} (one {mid} {new} {rs = ps} {r} p s) rs e is =
      let both = last_one ps rs r e is in
      record {
        before = mid;
        after = new;
        goes = subst (Goes device old mid) both.0 p;
        logs = subst (LogsOne device mid new) both.1 s;
        rests = stays;
      }

  -- a store that is up was up
  pub was_up : {old new : DbValue D} {rs : List Record} → Goes device old new rs → IsUp new → IsUp old
  was_up stays up = up
  was_up (nothing p s) up = was_up p (s.added.was_up up)
  was_up (one p s) up = was_up p (s.added.was_up up)

  -- ── what each call says of the device ──

  runs_stay : (s : DbValue D) → RunsOn device s.frames s.frames
  runs_stay s = record {
    limit = refl;
    opened = refl;
    flushed = omega arith;
    before = λ t m c le i. i;
    since = λ t found R H begins c commits le had. had;
    pages = λ t. kept_still device (disk_of s);
    up = λ up. up;
  }

  -- the journal stands for some log and its history, if it did
  abbrev pub ThenBegins : DbValue D → DbValue D → Type 0
  ThenBegins a b =
      device.tells → (found : History) (R : Log) (H : History) → BeginsBy device a.frames.journal found R H
      → (R' : Log) × (H' : History) × BeginsBy device b.frames.journal found R' H'

  pub runs_in_turn : (a b c : DbValue D) → TimeGoesOn device a b → ThenBegins a b → RunsOn device a.frames b.frames
      → RunsOn device b.frames c.frames → RunsOn device a.frames c.frames
  runs_in_turn a b c time begins p q = record {
    limit = q.limit ∙ p.limit;
    opened = q.opened ∙ p.opened;
    flushed = omega (arith, p.flushed, q.flushed);
    before = λ t m f le i. p.before t m f le (q.before t m f (omega (arith, le, time.time)) i);
    since = λ t found R H k at commits le had.
        let then = begins t found R H k in
        q.since t found then.0 then.1 then.2 at commits (omega (arith, le, time.time))
        (p.since t found R H k at commits le had);
    pages = λ t. kept_then device (disk_of a) (disk_of b) (disk_of c) (p.pages t) (q.pages t);
    up = λ up. p.up (q.up up);
  }

  -- the journal stands for some log and its history, as at first, after a path
  pub begins_of : {old new : DbValue D} {rs : List Record} → Goes device old new rs → ThenBegins old new
  begins_of stays t found R H k = (R, H, k)
  begins_of (nothing p s) t found R H k =
      let b = begins_of p t found R H k in
      (b.0, b.1, s.begins t found b.0 b.1 b.2)
  begins_of (one {mid} {new} {rs} {r} p s) t found R H k =
      let b = begins_of p t found R H k in
      let more = s.begins t found b.0 b.1 b.2 in
      (logged mid.frames.journal.owes r b.0, more.0, more.2)

  pub runs_of : {old new : DbValue D} {rs : List Record} → Goes device old new rs → RunsOn device old.frames new.frames
  runs_of {old} stays = runs_stay old
  runs_of {old} (nothing {mid} {new} p s) =
      runs_in_turn old mid new (time_of device p) (begins_of p) (runs_of p) s.runs_on
  runs_of {old} (one {mid} {new} p s) = runs_in_turn old mid new (time_of device p) (begins_of p) (runs_of p) s.runs_on

  -- ── the history ──

  by_path : device.tells → {old new : DbValue D} {rs : List Record} → Goes device old new rs → AreNotFreeing rs
      → (found H K : History) → StandsFor device found old H → (R : Log) → StandsBy device found K new R
      → StandsFor device found new K
  by_path tells {old} {new} p none found H K f R s = record {
    entry = subst (λ (d : D). OpensTo (device.seen d) found) (sym (runs_of p).opened) f.entry;
    log = R;
    stands = s.0;
    begins = s.1;
    heaps = heaps_on device p none f.heaps;
    few = omega (arith, pages_on device p, f.few);
  }

  none_frees : (rs : List Record) → AreNoCommits rs → AreNotFreeing rs
  none_frees [] none = tt
  none_frees (r ∷ rs) none = (by r.kind none.0, none_frees rs none.1)
    where
      by : (k : Kind) → NotCommit k → NotFreeing k
      by (kind.Commit n) plain = absurd plain
      by kind.FreeSlots plain = absurd plain
      by _ plain = tt

  -- it stays where no Commit is logged
  pub stays_for : device.tells → {old new : DbValue D} {rs : List Record} → Goes device old new rs → AreNoCommits rs
      → (found H : History) → StandsFor device found old H → StandsFor device found new H
  stays_for tells {old} {new} {rs} p none found H f =
      by_path tells p (none_frees rs none) found H H f (log_then old.frames.journal.owes rs f.log)
      (still device tells found H p none f.log (f.stands, f.begins))

  pub grows_by_none : device.tells → {old new : DbValue D} {rs : List Record} → Goes device old new rs
      → AreNoCommits rs → HasGrown device old new []
  grows_by_none tells {old} {new} p none found H f =
      subst (StandsFor device found new) (sym (append-nil H)) (stays_for tells p none found H f)

  -- what the state of its log says
  pub state_says : (found H : History) (s : DbValue D) (f : StandsFor device found s H) → StateTells f.log (state_of s)
  state_says found H s f =
      let st = state_of s in
      told_alike f.log st (states.state_of st.pages st.xid_limit f.log) f.stands.journal.state
      (state_told st.pages st.xid_limit f.log f.begins.log_of.legal)

  -- a history has as many commits as the state
  pub commits_told : (found H : History) (s : DbValue D) → StandsFor device found s H
      → length (state_of s).deleted ≡ length H
  commits_told found H s f =
      let told = state_says found H s f in
      ap length (told.deleted H f.begins.log_of.history) ∙ length-map H (λ (c : Commit). c.deleted)

  -- A Commit of the transaction of a pass adds what this has changed.
  pub commit_grows : device.tells → (found H : History) (s new : DbValue D) (pass : Pass) (x : ℕ) (c : Commit)
      (e : Record) → IsPassOf s.frames pass → pass.xid ≡ Some x → HasChanged device s pass x c → work.IsCommitOf x e
      → Goes device s new (e ∷ []) → StandsFor device found s H → StandsFor device found new (H ++ c ∷ [])
  commit_grows tells found H s new pass x c e of xid changed is p f =
      let l = last_step p [] e refl in
      let S : Log = f.log in
      let at : StandsBy device found H l.before S = still device tells found H l.goes tt S (f.stands, f.begins) in
      let up : IsUp s = was_up l.goes l.logs.up in
      let none : s.frames.journal.owes ≡ false = not_owed s.frames.journal.owes pass.xid x of.none_owed xid in
      let owes : l.before.frames.journal.owes ≡ false =
      subst (λ (o : Bool). l.before.frames.journal.owes ≡ o) none (owes_of device l.goes) in
      let b = l.logs.begins tells found S H at.1 in
      let whole : IsHistory (e ∷ S) b.0 =
      subst (λ (o : Bool). IsHistory (logged o e S) b.0) owes b.2.log_of.history in
      let h = commit_history e.kind is.number x e.xid S b.0 is.kind_is is.xid whole in
      let all : pass.seen ≡ (state_of s).records = all_of pass.xid x (pass.seen ≡ (state_of s).records) xid of.all in
      let long : (state_of s).records ≡ length S = log_length device s.frames.journal S f.stands.journal in
      let seen : cut pass.seen S ≡ S = cut_whole pass.seen S (omega (arith, all, long)) in
      let had = changed tells up S f.stands f.begins.log_of.legal h.3.pages
      (subst (λ (l : Log). Shows l h.3.pages) (sym seen) h.3.shown) in
      let same : h.1 ≡ c = commit_one S x h.1 c h.3 (subst (λ (l : Log). IsCommitOf l x c) seen had.1) in
      let front : h.0 ≡ H = history_one S h.0 H h.2 f.begins.log_of.history in
      let grown : b.0 ≡ H ++ c ∷ [] = one_more h.0 H h.1 c b.0 h.4 front same in
      let after : StandsBy device found (H ++ c ∷ []) l.after (logged l.before.frames.journal.owes e S) = (
        l.logs.stands S at.0,
        subst (λ (K : History). BeginsBy device l.after.frames.journal found
            (logged l.before.frames.journal.owes e S) K) grown b.2,
      ) in
      by_path tells p (subst NotFreeing (sym is.kind_is) tt, tt) found H (H ++ c ∷ []) f
      (logged l.before.frames.journal.owes e S)
      (still device tells found (H ++ c ∷ []) l.rests tt (logged l.before.frames.journal.owes e S) after)

  -- ── what a call leaves of the device ──

  pub goes_on_by : {old new : DbValue D} {rs : List Record} → Goes device old new rs
      → HasFlushed device new.frames.journal → GoesOn device old new
  goes_on_by p flushed =
      let runs = runs_of p in
      let time = time_of device p in
      record {
        opened = runs.opened;
        pending = pending_of device p;
        time = time.time;
        faults = time.faults;
        writes = time.writes;
        flushed = runs.flushed;
        before = λ t m c lt i. runs.before t m c (omega (arith, lt)) i;
        since = λ t found H f clock commits le had. runs.since t found f.log H f.begins clock commits le had;
        pages = runs.pages;
        kept = λ t found H f up. flushed t up found f.log H f.begins;
      }
