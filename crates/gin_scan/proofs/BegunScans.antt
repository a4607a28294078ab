-- A scan that has begun, and the bound on its steps.
use Rattle.std.specs.Prelude.{Some, Vec}
use Rattle.std.specs.declared.alloc.Global.{Global}
use Rattle.std.proofs.Common.{◌≡◌, ◌≢◌, ℕ, zero, suc, ◌+◌, ◌*◌, ◌<◌, ◌≤◌, List, [], length, replicate, refl, sym, ap}
use Rattle.std.proofs.Common.{subst, ◌∙◌, Bool, map}
use Rattle.std.proofs.Common.{arith, All}
use Rattle.std.proofs.lemmas.List.{length-map, length-replicate}
use Rattle.std.proofs.lemmas.Nat.{mul-le}
use Rattle.disk_trait.specs.declared.device.Disk.{Ghosts as Disk}
use Rattle.page_types.specs.declared.page.Body.{Body}
use Rattle.page_types.specs.declared.page.Body.TheVariants as body
use Rattle.core_state.specs.Log.{Log, Pages, Shows}
use Rattle.core_state.specs.Known.{use_by}
use Rattle.core_state.specs.Legal.{IsLegal, Pin, Keeps}
use Rattle.core_state.specs.PageChoice.{IsLeast, AreBelow}
use Rattle.core_state.specs.States.{StateValue, StateTells, state_of}
use Rattle.core_state.specs.declared.answers.PageUse.TheVariants as usage
use Rattle.core_state.proofs.Moments.Timeline.{cut_all}
use Rattle.core_state.proofs.StateTold.{state_told}
use Rattle.buffer_frames.specs.Frames.{FramesValue, Stands}
use Rattle.buffer_frames.specs.Journals.{JournalValue}
use Rattle.buffer_frames.specs.Passes.{IsPassOf, pin_in}
use Rattle.buffer_frames.specs.declared.pass.Pass.{Pass}
use Rattle.buffer_frames.proofs.LastingStates.{told_alike}
use Rattle.gin_hits.specs.Rows.{asked_by, lists_of}
use Rattle.gin_hits.specs.Ordered.{AreOrdered, asked_at}
use Rattle.gin_hits.specs.declared.hits.Hits.{Hits}
use Rattle.gin_scan.proofs.GoingOn.{kept_pin}
use Rattle.gin_opclass.specs.Class.{Meaning}
use Rattle.gin_opclass.specs.declared.QueryKeys.{QueryKeys}
use Rattle.gin_scan.specs.Reading.{IsNoHit, IsUnread}
use Rattle.gin_scan.specs.Reaching.{IsReached}
use Rattle.gin_scan.specs.Scanning.{IsWithin, IsScanning, Scanning, HasRead, IsScanOf, asked_in}
use Rattle.gin_scan.specs.Counting.{IsBounded, IsCounted}
use Rattle.gin_scan.specs.Inner.Begun.{IsNewScan, IsBegun}
use Rattle.gin_scan.specs.declared.scan_core.ScanCore.{ScanCore}
use Rattle.gin_scan.specs.declared.stage.Stage.TheVariants as stage

-- so many lists of no item
none_all : (n : ℕ) → All (λ (is : List ℕ). is ≡ []) (replicate n [])
none_all zero k d l = absurd (omega (arith, l))
none_all (suc n) zero d l = refl
none_all (suc n) (suc k) d l = none_all n k d (omega (arith, l))

none_noted : (n : ℕ) (ls : List (List ℕ)) → ls ≡ replicate n [] → All (λ (is : List ℕ). is ≡ []) ls
none_noted n ls e = subst (All (λ (is : List ℕ). is ≡ [])) (sym e) (none_all n)

pub no_hit : (n : ℕ) (h : Hits) → h.any.items ≡ [] → lists_of h ≡ replicate n [] → IsNoHit h
no_hit n h any lists = record { any = any; by_key = none_noted n (lists_of h) lists }

-- a scan that has read nothing is one of each log that keeps its snapshot, and whose pages are below its
-- extent
pub begun_scan : {Q : Type 0} (M : Meaning Q) (q : Q) (R : Log) (pin : Pin) (s : ScanCore) → Keeps R pin
    → s.stage ≡ stage.Meta → IsUnread s
    → ((P : Pages) (p : ℕ) → Shows R P → (P p).body ≢ body.Free → p < s.extent) → IsScanOf M q R pin s
begun_scan M q R pin s keeps at unread below = record {
  from = length R;
  since = keeps.within;
  within = omega arith;
  below = λ P p shown. below P p (subst (λ (S : Log). Shows S P) (cut_all R (length R) refl) shown);
  read = subst (HasRead M q R pin (length R) s) (sym at) unread;
}

-- a page that a record changed is used, and below the extent
pub below_extent : {D : Type 0} (device : Disk D) (f : FramesValue D) (R : Log) (extent : ℕ) → Stands device f R
    → IsLegal R → IsLeast (AreBelow f.journal.state) extent → (P : Pages) (p : ℕ) → Shows R P
    → (P p).body ≢ body.Free → p < extent
below_extent device f R extent stands legal least P p shown used =
    least.holds.changed p (λ e. used (free_use (P p).stamp (P p).body (sym (told.uses P shown p) ∙ e)))
  where
    st : StateValue
    st = f.journal.state

    told : StateTells R st
    told = told_alike R st (state_of st.pages st.xid_limit R) stands.journal.state
        (state_told st.pages st.xid_limit R legal)

    free_use : (stamp : ℕ) (b : Body) → use_by stamp b ≡ usage.Unused → b ≡ body.Free
    free_use stamp body.Free e = refl
    free_use stamp (body.Deleted g) e = absurd (let z : ⊥ = cc in z)
    free_use stamp (body.Meta a b c) e = absurd (let z : ⊥ = cc in z)
    free_use stamp (body.Heap a) e = absurd (let z : ⊥ = cc in z)
    free_use stamp (body.Overflow a) e = absurd (let z : ⊥ = cc in z)
    free_use stamp (body.Pending a) e = absurd (let z : ⊥ = cc in z)
    free_use stamp (body.EntryLeaf a b) e = absurd (let z : ⊥ = cc in z)
    free_use stamp (body.EntryInner a) e = absurd (let z : ⊥ = cc in z)
    free_use stamp (body.PostLeaf a b) e = absurd (let z : ⊥ = cc in z)
    free_use stamp (body.PostInner a) e = absurd (let z : ⊥ = cc in z)

-- so many lists for so many keys
pub count_lists : (n : ℕ) (h : Hits) → lists_of h ≡ replicate n [] → length h.by_key.items ≡ n
count_lists n h e =
    sym (length-map h.by_key.items (λ v. v.items)) ∙ ap length e ∙ length-replicate {A = List ℕ} n []

-- a new scan has begun
pub is_begun : {D : Type 0} (f : FramesValue D) (s : ScanCore) (keys : QueryKeys) (order : Vec ℕ Global) (extent : ℕ)
    (pending main : Hits) → IsNewScan keys order extent pending main s
    → AreOrdered (map asked_by keys.keys.items) (map (asked_at keys.keys.items) order.items) → pending.any.items ≡ []
    → lists_of pending ≡ replicate (length keys.keys.items) [] → main.any.items ≡ []
    → lists_of main ≡ replicate (length keys.keys.items) [] → IsLeast (AreBelow f.journal.state) extent
    → IsBegun f keys s
is_begun f s keys order extent pending main new ordered any lists any' lists' least = record {
  keys_are = new.keys_are;
  ordered = subst (λ (o : Vec ℕ Global). AreOrdered (map asked_by keys.keys.items)
      (map (asked_at keys.keys.items) o.items)) (sym new.order_is) ordered;
  extent_is = subst (IsLeast (AreBelow f.journal.state)) (sym new.extent_is) least;
  stage_is = new.stage_is;
  pending = ap lists_of new.pending_is ∙ lists;
  main = ap lists_of new.main_is ∙ lists';
  unread = new.unread (no_hit (length keys.keys.items) pending any lists)
      (no_hit (length keys.keys.items) main any' lists');
}

-- so it has where it has a snapshot
pub begun_with : {D : Type 0} (f f' : FramesValue D) (keys : QueryKeys) (s : ScanCore) (snapshot : ℕ) (took : Bool)
    → f'.journal ≡ f.journal → IsBegun f keys s
    → IsBegun f' keys (record s { snapshot = snapshot; took_pin = took })
begun_with {D} f f' keys s snapshot took same b = record {
  keys_are = b.keys_are;
  ordered = b.ordered;
  extent_is = subst (λ (j : JournalValue D). IsLeast (AreBelow j.state) s.extent) (sym same) b.extent_is;
  stage_is = b.stage_is;
  pending = b.pending;
  main = b.main;
  unread = record {
    pending = b.unread.pending;
    main = b.unread.main;
    not_begun = b.unread.not_begun;
    first = b.unread.first;
    unjudged = record {
      kept = b.unread.unjudged.kept;
      long = b.unread.unjudged.long;
      names = b.unread.unjudged.names;
      heads_read = b.unread.unjudged.heads_read;
    };
    pages_read = b.unread.pages_read;
  };
}

module _ {D : Type 0} (f : FramesValue D) (keys : QueryKeys) (s : ScanCore) (b : IsBegun f keys s) where
  -- it is one of each log of the frames
  pub begun : {Q : Type 0} (device : Disk D) (M : Meaning Q) (q : Q) (pass : Pass) → IsPassOf f pass
      → Scanning device M q f pass s
  begun device M q pass of told up R stands legal pin e =
      begun_scan M q R pin s (kept_pin device f pass R pin of told up stands legal e) b.stage_is b.unread
      (λ P p shown used. below_extent device f R s.extent stands legal b.extent_is P p shown used)

  -- it has read nothing yet
  pub begun_reached : {Q : Type 0} (M : Meaning Q) (q : Q) → IsReached M q f s s.stage
  begun_reached M q = subst (IsReached M q f s) (sym b.stage_is) b.unread

  pub begun_asks : (asked_in s ≡ map asked_by keys.keys.items) × (s.keys.all ≡ keys.all)
  begun_asks =
      (ap (λ (k : QueryKeys). map asked_by k.keys.items) b.keys_are, ap (λ (k : QueryKeys). k.all) b.keys_are)

  -- no page was held
  pub begun_counted : (before holds : ℕ) → holds ≡ before → IsCounted before s holds
  begun_counted before holds same =
      (omega (arith, same), subst (IsBounded before s holds) (sym b.stage_is) (no_more before holds same))
    where
      no_more : (before holds : ℕ) → holds ≡ before → holds ≤ before
      no_more before holds same = omega (arith, same)

  -- and the pass may step it, which has this snapshot
  pub begun_pass : (pass : Pass) (pin : Pin) → IsPassOf f pass → pass.held ≡ 0 → pin_in pass.pin ≡ Some pin
      → s.snapshot ≡ pin.commits → IsScanning f pass s
  begun_pass pass pin of none pinned snapshot =
      let n = length keys.keys.items in
      let same : length s.keys.keys.items ≡ n = ap (λ (k : QueryKeys). length k.keys.items) b.keys_are in record {
        is_pass = of;
        held = none;
        is_scan = record {
          ordered = subst (λ (k : QueryKeys). AreOrdered (map asked_by k.keys.items)
              (map (asked_at k.keys.items) s.order.items)) (sym b.keys_are) b.ordered;
          pending = count_lists n s.pending b.pending ∙ sym same;
          main = count_lists n s.main b.main ∙ sym same;
          within = subst (IsWithin s) (sym b.stage_is) tt;
        };
        pin = pin;
        pinned = pinned;
        snapshot = snapshot;
      }

-- ── the bound on steps ──

-- an earlier stage has a greater bound, whatever is left of a later one
pub stage_passed : (a b m n big : ℕ) → b < a → n < big → b * big + n < a * big + m
stage_passed a b m n big less small =
    let next : suc b * big ≤ a * big = mul-le (suc b) big a big (omega (arith, less)) (omega arith) in
    omega (arith, next, small)

-- within a stage
pub step_passed : (a m n big : ℕ) → n < m → a * big + n < a * big + m
step_passed a m n big less = omega (arith, less)
