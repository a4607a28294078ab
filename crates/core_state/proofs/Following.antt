-- The state of a legal log says of its transactions, numbers and commits.
use Rattle.std.proofs.Common.{◌≡◌, ◌≢◌, ◌⊎◌, ◌<◌, ◌≤◌, ◌&&◌, nat_lt, ◌^◌, ℕ, zero, suc, true, cond, ◌==◌, List, [], ◌∷◌}
use Rattle.std.proofs.Common.{◌++◌, length, map, refl, sym, ap, ap₂, subst, ◌∙◌, inl, inr, arith}
use Rattle.std.specs.Prelude.{Option, Some, None, if◌then◌else◌, ⊤}
use Rattle.std.proofs.lemmas.List.{length-append, map-append, get_or_past}
use Rattle.page_types.specs.declared.record.Change.{Change}
use Rattle.page_types.specs.declared.record.Record.{Record}
use Rattle.page_types.specs.declared.record.Kind.{Kind}
use Rattle.page_types.specs.declared.record.Kind.TheVariants as kind
use Rattle.page_types.specs.declared.page.Name.{Name}
use Rattle.core_state.specs.Log.{Log, Pages, commits, next_xid, next_serial, serial_behind, fate, redo_of, ended}
use Rattle.core_state.specs.Log.{xid_bound}
use Rattle.core_state.specs.Documents.{Doc, name_of, placed, marked}
use Rattle.core_state.specs.History.{Document, Commit, History, AreInserts, IsHistory}
use Rattle.core_state.specs.Legal.{RuleHolds, RecordsAreValid}
use Rattle.core_state.specs.Lives.{with_ends}
use Rattle.core_state.specs.States.{StateValue, fate_at, with_fate, all_ended, uses_after, sizes_after, done_by}
use Rattle.core_state.specs.States.{transaction, without, replaced, begun, committed, aborted, ended_all, placed_head}
use Rattle.core_state.specs.States.{marked_head, last_serial, step_of, state_of, names}
use Rattle.core_state.specs.declared.transactions.Transaction.{Transaction}
use Rattle.core_state.specs.declared.answers.Fate.{Fate}
use Rattle.core_state.specs.declared.answers.Fate.TheVariants.{Unused, Running, Aborted, Committed}
use Rattle.core_state.proofs.RunningOnes.{same_or_other, on_same, on_other, is_same, is_other, with_fate_at}
use Rattle.core_state.proofs.RunningOnes.{length-with_fate, past_fate, begun_at, joined_at, without_at, replaced_at}
use Rattle.core_state.proofs.RunningOnes.{HaveBegun, ended_by, all_ended_at, length-all_ended}

-- a transaction is kept where it runs
abbrev pub kept_by : Fate → Transaction → Option Transaction
kept_by Running t = Some t
kept_by _ t = None

-- the state says of the log, its running transactions too
pub record Kept (R : Log) (s : StateValue) : Type 0 where
  pub records : s.records ≡ length R
  pub fates : (y : ℕ) → fate_at s.fates y ≡ fate R y
  pub next_xid_is : suc (length s.fates) ≡ next_xid R
  pub next_serial_is : s.next_serial ≡ next_serial R
  pub redo_is : s.redo ≡ redo_of R
  pub commits_are : length s.deleted ≡ commits R
  pub running : (y : ℕ) → transaction y s.running ≡ kept_by (fate R y) (done_by R y)
  pub none_before : (y : ℕ) → fate R y ≡ Unused → (marked R y ≡ []) × (placed R y ≡ [])
  pub deleted : (H : History) → IsHistory R H → s.deleted ≡ map (λ (c : Commit). c.deleted) H
  pub inserted : (H : History) → IsHistory R H → s.inserted ≡ map (λ (c : Commit). names c.inserted) H

abbrev rec_of : ℕ → ℕ → Kind → List Change → Record
rec_of n x k cs = record { number = n; xid = x; kind = k; changes = cs }

-- the state with the number, the uses and the lengths that follow
abbrev before : ℕ → List Change → StateValue → StateValue
before n cs s = record s { records = n; uses = uses_after n cs s.uses; sizes = sizes_after cs s.sizes }

-- the kinds that change neither a transaction nor a number
abbrev IsQuiet : Kind → Type 0
IsQuiet kind.Begin = ⊥
IsQuiet (kind.Commit number) = ⊥
IsQuiet kind.Abort = ⊥
IsQuiet (kind.Checkpoint redo) = ⊥
IsQuiet (kind.PlaceHead item serial) = ⊥
IsQuiet (kind.MarkDeleted item serial) = ⊥
IsQuiet _ = ⊤

quiet_kept : (R : Log) (s : StateValue) (n x : ℕ) (k : Kind) (cs : List Change) → IsQuiet k → n ≡ suc (length R)
    → Kept R s
    → Kept (rec_of n x k cs ∷ R) (step_of (rec_of n x k cs) s)
quiet_kept R s n x kind.Begin cs quiet number k = absurd quiet
quiet_kept R s n x (kind.Commit commit) cs quiet number k = absurd quiet
quiet_kept R s n x kind.Abort cs quiet number k = absurd quiet
quiet_kept R s n x (kind.Checkpoint redo) cs quiet number k = absurd quiet
quiet_kept R s n x (kind.PlaceHead item serial) cs quiet number k = absurd quiet
quiet_kept R s n x (kind.MarkDeleted item serial) cs quiet number k = absurd quiet
quiet_kept R s n x _ cs quiet number k = record {
  records = number;
  fates = k.fates;
  next_xid_is = k.next_xid_is;
  next_serial_is = k.next_serial_is;
  redo_is = k.redo_is;
  commits_are = k.commits_are;
  running = k.running;
  none_before = k.none_before;
  deleted = k.deleted;
  inserted = k.inserted;
}

checkpoint_kept : (R : Log) (s : StateValue) (n x redo : ℕ) (cs : List Change) → n ≡ suc (length R) → Kept R s
    → Kept (rec_of n x (kind.Checkpoint redo) cs ∷ R) (step_of (rec_of n x (kind.Checkpoint redo) cs) s)
checkpoint_kept R s n x redo cs number k = record {
  records = number;
  fates = k.fates;
  next_xid_is = k.next_xid_is;
  next_serial_is = k.next_serial_is;
  redo_is = refl;
  commits_are = k.commits_are;
  running = k.running;
  none_before = k.none_before;
  deleted = k.deleted;
  inserted = k.inserted;
}

-- begin
pub passes : (a b c : ℕ) → a ≡ b → a < c → ((a == b) && nat_lt a c) ≡ true
passes a b c e l = grind (arith, e, l)

fresh_work : (R : Log) (y : ℕ) → (marked R y ≡ []) × (placed R y ≡ [])
    → done_by R y ≡ record { xid = y; deleted = []; inserted = [] }
fresh_work R y e = ap₂ (λ (ds is : List Doc). record
    { xid = y; deleted = map name_of ds; inserted = map name_of is }) e.0 e.1

running_unused : Running ≡ Unused → ⊥
running_unused e = cc

begin_running : (R : Log) (s : StateValue) (x y : ℕ) → Kept R s → fate R x ≡ Unused
    → transaction y (s.running ++ record { xid = x; deleted = []; inserted = [] } ∷ []) ≡ kept_by
    (cond (x == y) Running (fate R y)) (done_by R y)
begin_running R s x y k u =
    let t : Transaction = record { xid = x; deleted = []; inserted = [] } in
    joined_at s.running t y (k.running x ∙ ap (λ f. kept_by f (done_by R x)) u)
    ∙ elim (same_or_other x y) [
      | inl e ↦ on_same x y (Some t) (transaction y s.running) e
          ∙ ap Some (ap (λ (z : ℕ). record { xid = z; deleted = []; inserted = [] }) e
          ∙ sym (fresh_work R y (k.none_before y (subst (λ z. fate R z ≡ Unused) e u))))
          ∙ sym (ap (λ f. kept_by f (done_by R y)) (on_same x y Running (fate R y) e))
      | inr d ↦ on_other x y (Some t) (transaction y s.running) d ∙ k.running y
          ∙ sym (ap (λ f. kept_by f (done_by R y)) (on_other x y Running (fate R y) d))
    ]

begin_none : (R : Log) (s : StateValue) (x y : ℕ) → Kept R s → cond (x == y) Running (fate R y) ≡ Unused
    → (marked R y ≡ []) × (placed R y ≡ [])
begin_none R s x y k u = elim (same_or_other x y) [
  | inl e ↦ absurd (running_unused (sym (on_same x y Running (fate R y) e) ∙ u))
  | inr d ↦ k.none_before y (sym (on_other x y Running (fate R y) d) ∙ u)
]

begin_kept : (R : Log) (s : StateValue) (n x : ℕ) (cs : List Change) → n ≡ suc (length R) → x ≡ next_xid R
    → x < xid_bound → Kept R s
    → Kept (rec_of n x kind.Begin cs ∷ R) (step_of (rec_of n x kind.Begin cs) s)
begin_kept R s n x cs number next bound k =
    let here : x ≡ suc (length s.fates) = next ∙ sym k.next_xid_is in
    let unused : fate R x ≡ Unused = sym (k.fates x) ∙ ap (fate_at s.fates) here ∙ past_fate s.fates in
    let s' : StateValue = record
    (before n cs s) {
      fates = s.fates ++ Running ∷ [];
      running = s.running ++ record
          { xid = x; deleted = []; inserted = [] } ∷ [];
    } in
    let kept : Kept (rec_of n x kind.Begin cs ∷ R) s' = record {
      records = number;
      fates = λ y. begun_at s.fates y ∙ ap₂ (λ (a : ℕ) (f : Fate). cond (a == y) Running f) (sym here) (k.fates y);
      next_xid_is = omega (arith, length-append s.fates (Running ∷ []), k.next_xid_is);
      next_serial_is = k.next_serial_is;
      redo_is = k.redo_is;
      commits_are = k.commits_are;
      running = λ y. begin_running R s x y k unused;
      none_before = λ y u. begin_none R s x y k u;
      deleted = k.deleted;
      inserted = k.inserted;
    } in
    subst (λ b. Kept (rec_of n x kind.Begin cs ∷ R) (if b then s' else before n cs s))
    (sym (passes x (suc (length s.fates)) xid_bound here bound)) kept

-- commit
inserted_names : (P : Pages) (ds : List Doc) (xs : List Document) → AreInserts P ds xs → map name_of ds ≡ names xs
inserted_names P [] [] a = refl
inserted_names P [] (x ∷ xs) a = absurd a
inserted_names P (d ∷ ds) [] a = absurd a
inserted_names P (d ∷ ds) (x ∷ xs) a = ap₂ ◌∷◌ (sym a.0) (inserted_names P ds xs a.2)

found_work : (R : Log) (s : StateValue) (x : ℕ) → Kept R s → fate R x ≡ Running
    → transaction x s.running ≡ Some (done_by R x)
found_work R s x k runs = k.running x ∙ ap (λ f. kept_by f (done_by R x)) runs

has_begun : (R : Log) (s : StateValue) (x : ℕ) → Kept R s → fate R x ≡ Running → fate_at s.fates x ≢ Unused
has_begun R s x k runs e = running_unused (sym runs ∙ sym (k.fates x) ∙ e)

-- what is left where transaction x ends with this fate
ends_running : (R : Log) (s : StateValue) (x y : ℕ) (f : Fate) → Kept R s → ((t : Transaction) → kept_by f t ≡ None)
    → transaction y (without x s.running) ≡ kept_by (cond (x == y) f (fate R y)) (done_by R y)
ends_running R s x y f k none = without_at s.running x y ∙ elim (same_or_other x y) [
  | inl e ↦ on_same x y None (transaction y s.running) e ∙ sym (none (done_by R y))
      ∙ sym (ap (λ g. kept_by g (done_by R y)) (on_same x y f (fate R y) e))
  | inr d ↦ on_other x y None (transaction y s.running) d ∙ k.running y
      ∙ sym (ap (λ g. kept_by g (done_by R y)) (on_other x y f (fate R y) d))
]

ends_none : (R : Log) (s : StateValue) (x y : ℕ) (f : Fate) → Kept R s → f ≢ Unused
    → cond (x == y) f (fate R y) ≡ Unused → (marked R y ≡ []) × (placed R y ≡ [])
ends_none R s x y f k off u = elim (same_or_other x y) [
  | inl e ↦ absurd (off (sym (on_same x y f (fate R y) e) ∙ u))
  | inr d ↦ k.none_before y (sym (on_other x y f (fate R y) d) ∙ u)
]

commit_kept : (R : Log) (s : StateValue) (n x : ℕ) (cs : List Change) → n ≡ suc (length R) → fate R x ≡ Running
    → Kept R s
    → Kept (rec_of n x (kind.Commit (suc (commits R))) cs ∷ R)
    (step_of (rec_of n x (kind.Commit (suc (commits R))) cs) s)
commit_kept R s n x cs number runs k =
    let c : ℕ = suc (commits R) in
    let s1 : StateValue = before n cs s in
    let s' : StateValue = record s1 {
      fates = with_fate x (Committed c) s.fates;
      deleted = s.deleted ++ map name_of (marked R x) ∷ [];
      inserted = s.inserted ++ map name_of (placed R x) ∷ [];
      ends = with_ends c s.placed (map name_of (marked R x)) s.ends;
      running = without x s.running;
    } in
    let kept : Kept (rec_of n x (kind.Commit c) cs ∷ R) s' = record {
      records = number;
      fates = λ y. with_fate_at s.fates x y (Committed c) (has_begun R s x k runs) ∙ ap (cond (x == y) (Committed c))
          (k.fates y);
      next_xid_is = ap suc (length-with_fate s.fates x (Committed c)) ∙ k.next_xid_is;
      next_serial_is = k.next_serial_is;
      redo_is = k.redo_is;
      commits_are = omega (arith, length-append s.deleted (map name_of (marked R x) ∷ []), k.commits_are);
      running = λ y. ends_running R s x y (Committed c) k (λ t. refl);
      none_before = λ y u. ends_none R s x y (Committed c) k (λ e. cc) u;
      deleted = λ H h. ap₂ (λ (a : List (List Name)) (b : List Name). a ++ b ∷ []) (k.deleted h.0 h.2)
          (sym h.3.deleted)
          ∙ sym (map-append (λ (c : Commit). c.deleted) h.0 (h.1 ∷ []))
          ∙ sym (ap (map (λ (c : Commit). c.deleted)) h.4);
      inserted = λ H h. ap₂ (λ (a : List (List Name)) (b : List Name). a ++ b ∷ []) (k.inserted h.0 h.2)
          (inserted_names h.3.pages (placed R x) h.1.inserted h.3.inserted)
          ∙ sym (map-append (λ (c : Commit). names c.inserted) h.0 (h.1 ∷ []))
          ∙ sym (ap (map (λ (c : Commit). names c.inserted)) h.4);
    } in
    let tested : Kept (rec_of n x (kind.Commit c) cs ∷ R) (committed c x (Some (done_by R x)) s1) =
    subst (λ b. Kept (rec_of n x (kind.Commit c) cs ∷ R) (if b then s' else s1))
    (sym (is_same c (suc (length s.deleted)) (ap suc (sym k.commits_are)))) kept in
    subst (λ o. Kept (rec_of n x (kind.Commit c) cs ∷ R) (committed c x o s1)) (sym (found_work R s x k runs)) tested

-- abort
not_zero : (R : Log) (s : StateValue) (x : ℕ) → Kept R s → fate R x ≡ Running → x ≢ 0
not_zero R s x k runs e = running_unused (sym runs ∙ ap (fate R) e ∙ sym (k.fates 0))

abort_kept : (R : Log) (s : StateValue) (n x : ℕ) (cs : List Change) → n ≡ suc (length R) → fate R x ≡ Running
    → Kept R s
    → Kept (rec_of n x kind.Abort cs ∷ R) (step_of (rec_of n x kind.Abort cs) s)
abort_kept R s n x cs number runs k =
    let off : x ≢ 0 = not_zero R s x k runs in
    let same : (y : ℕ) → cond (x == 0) (ended (fate R y)) (cond (x == y) Aborted (fate R y)) ≡ cond (x == y) Aborted
    (fate R y) =
    λ y. on_other x 0 (ended (fate R y)) (cond (x == y) Aborted (fate R y)) off in
    let kept : Kept (rec_of n x kind.Abort cs ∷ R) (aborted x (Some (done_by R x)) (before n cs s)) = record {
      records = number;
      fates = λ y. with_fate_at s.fates x y Aborted (has_begun R s x k runs) ∙ ap (cond (x == y) Aborted) (k.fates y)
          ∙ sym (same y);
      next_xid_is = ap suc (length-with_fate s.fates x Aborted) ∙ k.next_xid_is;
      next_serial_is = k.next_serial_is;
      redo_is = k.redo_is;
      commits_are = k.commits_are;
      running = λ y. ends_running R s x y Aborted k (λ t. refl) ∙ sym (ap (λ f. kept_by f (done_by R y)) (same y));
      none_before = λ y u. ends_none R s x y Aborted k (λ e. cc) (sym (same y) ∙ u);
      deleted = k.deleted;
      inserted = k.inserted;
    } in
    let one : Kept (rec_of n x kind.Abort cs ∷ R) (aborted x (transaction x s.running) (before n cs s)) =
    subst (λ o. Kept (rec_of n x kind.Abort cs ∷ R) (aborted x o (before n cs s)))
    (sym (found_work R s x k runs)) kept in
    subst (λ b. Kept (rec_of n x kind.Abort cs ∷ R)
    (cond b (ended_all (before n cs s)) (aborted x (transaction x s.running) (before n cs s))))
    (sym (is_other x 0 off)) one

-- every running transaction is aborted
ended_kept : (f : Fate) (t : Transaction) → ended_by (kept_by f t) f ≡ ended f
ended_kept Unused t = refl
ended_kept Running t = refl
ended_kept Aborted t = refl
ended_kept (Committed n) t = refl

none_ended : (f : Fate) (t : Transaction) → None ≡ kept_by (ended f) t
none_ended Unused t = refl
none_ended Running t = refl
none_ended Aborted t = refl
none_ended (Committed n) t = refl

unended : (f : Fate) → ended f ≡ Unused → f ≡ Unused
unended Unused e = refl
unended Running e = cc
unended Aborted e = e
unended (Committed n) e = e

have_begun : (fs : List Fate) (ts : List Transaction) → ((y : ℕ) → transaction y ts ≢ None → fate_at fs y ≢ Unused)
    → HaveBegun fs ts
have_begun fs [] f = tt
have_begun fs (t ∷ ts) f = (
  f t.xid (λ e. cc_some t (sym (on_same t.xid t.xid (Some t) (transaction t.xid ts) refl) ∙ e)),
  have_begun fs ts (λ y off. f y (λ e. elim (same_or_other t.xid y) [
    | inl g ↦ cc_some t (sym (on_same t.xid y (Some t) (transaction y ts) g) ∙ e)
    | inr d ↦ off (sym (on_other t.xid y (Some t) (transaction y ts) d) ∙ e)
  ])),
)
  where
    cc_some : (t : Transaction) → Some t ≡ None → ⊥
    cc_some t e = cc

abort_all_kept : (R : Log) (s : StateValue) (n : ℕ) (cs : List Change) → n ≡ suc (length R) → Kept R s
    → Kept (rec_of n 0 kind.Abort cs ∷ R) (step_of (rec_of n 0 kind.Abort cs) s)
abort_all_kept R s n cs number k =
    let all_begun : HaveBegun s.fates s.running = have_begun s.fates s.running
    (λ y off e. off (k.running y ∙ ap (λ f. kept_by f (done_by R y)) (sym (k.fates y) ∙ e))) in
    record {
      records = number;
      fates = λ y. all_ended_at s.running s.fates y all_begun ∙ ap₂ ended_by (k.running y) (k.fates y)
          ∙ ended_kept (fate R y) (done_by R y);
      next_xid_is = ap suc (length-all_ended s.running s.fates) ∙ k.next_xid_is;
      next_serial_is = k.next_serial_is;
      redo_is = k.redo_is;
      commits_are = k.commits_are;
      running = λ y. none_ended (fate R y) (done_by R y);
      none_before = λ y u. k.none_before y (unended (fate R y) u);
      deleted = k.deleted;
      inserted = k.inserted;
    }

-- a head is placed
placed_running : (R : Log) (s : StateValue) (x y : ℕ) (d : Doc) → Kept R s → fate R x ≡ Running
    → transaction y
    (replaced (record (done_by R x) { inserted = map name_of (placed R x) ++ name_of d ∷ [] }) s.running)
    ≡ kept_by (fate R y) (record {
      xid = y;
      deleted = map name_of (marked R y);
      inserted = map name_of
          (cond (x == y) (placed R y ++ d ∷ []) (placed R y));
    })
placed_running R s x y d k runs =
    let t : Transaction = record (done_by R x) { inserted = map name_of (placed R x) ++ name_of d ∷ [] } in
    let with_placed : ℕ → List Doc
    → Transaction = λ z ds. record { xid = z; deleted = map name_of (marked R z); inserted = map name_of ds } in
    replaced_at s.running t (done_by R x) y (found_work R s x k runs)
    ∙ elim (same_or_other x y) [
      | inl e ↦ on_same x y (Some t) (transaction y s.running) e
          ∙ ap (λ (ns : List Name). Some (record (done_by R x) { inserted = ns }))
          (sym (map-append name_of (placed R x) (d ∷ [])))
          ∙ sym (ap (λ f. kept_by f (with_placed x (placed R x ++ d ∷ []))) runs)
          ∙ ap (λ z. kept_by (fate R z) (with_placed z (placed R z ++ d ∷ []))) e
          ∙ sym (ap (λ ds. kept_by (fate R y) (with_placed y ds)) (on_same x y (placed R y ++ d ∷ []) (placed R y) e))
      | inr off ↦ on_other x y (Some t) (transaction y s.running) off ∙ k.running y
          ∙ sym (ap (λ ds. kept_by (fate R y) (with_placed y ds))
          (on_other x y (placed R y ++ d ∷ []) (placed R y) off))
    ]

placed_none : (R : Log) (s : StateValue) (x y : ℕ) (d : Doc) → Kept R s → fate R x ≡ Running → fate R y ≡ Unused
    → (marked R y ≡ []) × (cond (x == y) (placed R y ++ d ∷ []) (placed R y) ≡ [])
placed_none R s x y d k runs u =
    let off : x ≢ y = λ e. running_unused (sym runs ∙ ap (fate R) e ∙ u) in
    let old = k.none_before y u in
    (old.0, on_other x y (placed R y ++ d ∷ []) (placed R y) off ∙ old.1)

place_kept : (R : Log) (s : StateValue) (n x : ℕ) (cs : List Change) (item serial : ℕ) → n ≡ suc (length R)
    → fate R x ≡ Running → serial ≡ next_serial R → serial < suc last_serial → Kept R s
    → Kept (rec_of n x (kind.PlaceHead item serial) cs ∷ R) (step_of (rec_of n x (kind.PlaceHead item serial) cs) s)
place_kept R s n x cs item serial number runs next small k =
    let d : Doc = record { item = item; serial = serial } in
    let here : serial ≡ s.next_serial = next ∙ sym k.next_serial_is in
    let s1 : StateValue = before n cs s in
    let s' : StateValue = record s1 {
      next_serial = suc serial;
      placed = s.placed ++ record { item = item; xid = x } ∷ [];
      ends = s.ends ++ 0 ∷ [];
      running = replaced (record (done_by R x) { inserted = map name_of (placed R x) ++ name_of d ∷ [] }) s.running;
      current = Some (Rattle.core_state.specs.Documents.page_of item);
      highest = Rattle.core_state.specs.States.higher (Rattle.core_state.specs.Documents.page_of item) s.highest;
      heaps = Rattle.core_state.specs.States.with_page (Rattle.core_state.specs.Documents.page_of item) s.heaps;
    } in
    let kept : Kept (rec_of n x (kind.PlaceHead item serial) cs ∷ R) s' = record {
      records = number;
      fates = k.fates;
      next_xid_is = k.next_xid_is;
      next_serial_is = ap suc next;
      redo_is = k.redo_is;
      commits_are = k.commits_are;
      running = λ y. placed_running R s x y d k runs;
      none_before = λ y u. placed_none R s x y d k runs u;
      deleted = k.deleted;
      inserted = k.inserted;
    } in
    let tested : Kept (rec_of n x (kind.PlaceHead item serial) cs ∷ R) (placed_head (Some (done_by R x)) d s1) =
    subst (λ b. Kept (rec_of n x (kind.PlaceHead item serial) cs ∷ R) (if b then s' else s1))
    (sym (passes serial s.next_serial (suc last_serial) here small)) kept in
    subst (λ o. Kept (rec_of n x (kind.PlaceHead item serial) cs ∷ R) (placed_head o d s1))
    (sym (found_work R s x k runs)) tested

-- a document is marked
marked_running : (R : Log) (s : StateValue) (x y : ℕ) (d : Doc) → Kept R s → fate R x ≡ Running
    → transaction y (replaced (record (done_by R x) { deleted = map name_of (marked R x) ++ name_of d ∷ [] }) s.running)
    ≡ kept_by (fate R y) (record {
      xid = y;
      deleted = map name_of (cond (x == y) (marked R y ++ d ∷ []) (marked R y));
      inserted = map name_of
          (placed R y);
    })
marked_running R s x y d k runs =
    let t : Transaction = record (done_by R x) { deleted = map name_of (marked R x) ++ name_of d ∷ [] } in
    let with_marked : ℕ → List Doc
    → Transaction = λ z ds. record { xid = z; deleted = map name_of ds; inserted = map name_of (placed R z) } in
    replaced_at s.running t (done_by R x) y (found_work R s x k runs)
    ∙ elim (same_or_other x y) [
      | inl e ↦ on_same x y (Some t) (transaction y s.running) e
          ∙ ap (λ (ns : List Name). Some (record (done_by R x) { deleted = ns }))
          (sym (map-append name_of (marked R x) (d ∷ [])))
          ∙ sym (ap (λ f. kept_by f (with_marked x (marked R x ++ d ∷ []))) runs)
          ∙ ap (λ z. kept_by (fate R z) (with_marked z (marked R z ++ d ∷ []))) e
          ∙ sym (ap (λ ds. kept_by (fate R y) (with_marked y ds)) (on_same x y (marked R y ++ d ∷ []) (marked R y) e))
      | inr off ↦ on_other x y (Some t) (transaction y s.running) off ∙ k.running y
          ∙ sym (ap (λ ds. kept_by (fate R y) (with_marked y ds))
          (on_other x y (marked R y ++ d ∷ []) (marked R y) off))
    ]

marked_none : (R : Log) (s : StateValue) (x y : ℕ) (d : Doc) → Kept R s → fate R x ≡ Running → fate R y ≡ Unused
    → (cond (x == y) (marked R y ++ d ∷ []) (marked R y) ≡ []) × (placed R y ≡ [])
marked_none R s x y d k runs u =
    let off : x ≢ y = λ e. running_unused (sym runs ∙ ap (fate R) e ∙ u) in
    let old = k.none_before y u in
    (on_other x y (marked R y ++ d ∷ []) (marked R y) off ∙ old.0, old.1)

mark_kept : (R : Log) (s : StateValue) (n x : ℕ) (cs : List Change) (item serial : ℕ) → n ≡ suc (length R)
    → fate R x ≡ Running → Kept R s
    → Kept (rec_of n x (kind.MarkDeleted item serial) cs ∷ R)
    (step_of (rec_of n x (kind.MarkDeleted item serial) cs) s)
mark_kept R s n x cs item serial number runs k =
    let d : Doc = record { item = item; serial = serial } in
    let s1 : StateValue = before n cs s in
    let kept : Kept (rec_of n x (kind.MarkDeleted item serial) cs ∷ R) (marked_head (Some (done_by R x)) d s1) =
    record {
      records = number;
      fates = k.fates;
      next_xid_is = k.next_xid_is;
      next_serial_is = k.next_serial_is;
      redo_is = k.redo_is;
      commits_are = k.commits_are;
      running = λ y. marked_running R s x y d k runs;
      none_before = λ y u. marked_none R s x y d k runs u;
      deleted = k.deleted;
      inserted = k.inserted;
    } in
    subst (λ o. Kept (rec_of n x (kind.MarkDeleted item serial) cs ∷ R) (marked_head o d s1))
    (sym (found_work R s x k runs)) kept

-- serials are drawn by records, of which the first draws none
serial_more : (k : Kind) (s n : ℕ) → s ≤ n → serial_behind k s ≤ suc n
serial_more (kind.PlaceHead item serial) s n l = omega (arith, l)
serial_more _ s n l = omega (arith, l)

serials_small : (R : Log) → RecordsAreValid R → R ≢ [] → next_serial R ≤ length R
serials_small [] v off = absurd (off refl)
serials_small (r ∷ []) v off = elim v.1.started [
  | inl e ↦ subst (λ k. serial_behind k 1 ≤ 1) (sym e)
      (omega arith)
  | inr some ↦ absurd (some refl)
]
serials_small (r ∷ q ∷ R) v off = serial_more r.kind (next_serial (q ∷ R)) (length (q ∷ R))
    (serials_small (q ∷ R) v.0 (λ e. cc))

turned : (R : Log) (s : StateValue) (r : Record) (k : Kind) → r.kind ≡ k
    → Kept (rec_of r.number r.xid k r.changes ∷ R) (step_of (rec_of r.number r.xid k r.changes) s)
    → Kept (r ∷ R) (step_of r s)
turned R s r k e kept = subst
    (λ k. Kept (rec_of r.number r.xid k r.changes ∷ R) (step_of (rec_of r.number r.xid k r.changes) s)) (sym e) kept

quiet_row : (R : Log) (s : StateValue) (r : Record) (k : Kind) → r.kind ≡ k → IsQuiet k → r.number ≡ suc (length R)
    → Kept R s → Kept (r ∷ R) (step_of r s)
quiet_row R s r k e quiet number h = turned R s r k e (quiet_kept R s r.number r.xid k r.changes quiet number h)

row_kept : (R : Log) (s : StateValue) (r : Record) (P Q : Pages) (floor since : ℕ) → RecordsAreValid R
    → r.number ≡ suc (length R) → r.number < 2 ^ 64
    → (r.kind ≡ kind.Create) ⊎ (R ≢ []) → Kept R s → RuleHolds R P Q r floor since → Kept (r ∷ R) (step_of r s)
row_kept R s r P Q floor since v number fits started k (RuleHolds.begin x) =
    turned R s r kind.Begin x.here.kind_is (begin_kept R s r.number r.xid r.changes number x.here.next x.here.bound k)
row_kept R s r P Q floor since v number fits started k (RuleHolds.commit x) =
    turned R s r (kind.Commit (suc (commits R))) x.here.kind_is
    (commit_kept R s r.number r.xid r.changes number x.here.runs k)
row_kept R s r P Q floor since v number fits started k (RuleHolds.abort x) = turned R s r kind.Abort x.here.kind_is
    (elim x.here.runs [
      | inl runs ↦ abort_kept R s r.number r.xid r.changes number runs k
      | inr zero_is ↦ subst (λ z. Kept (rec_of r.number z kind.Abort r.changes ∷ R)
          (step_of (rec_of r.number z kind.Abort r.changes) s)) (sym zero_is)
          (abort_all_kept R s r.number r.changes number k)
    ])
row_kept R s r P Q floor since v number fits started k
    (RuleHolds.create x) = quiet_row R s r kind.Create x.here.kind_is tt number k
row_kept R s r P Q floor since v number fits started k (RuleHolds.put_overflow x) = quiet_row R s r
    (kind.PutOverflow x.here.doc.item x.here.doc.serial) x.here.kind_is tt number k
row_kept R s r P Q floor since v number fits started k (RuleHolds.put_pending x) = quiet_row R s r
    (kind.PutPending x.here.doc.item x.here.doc.serial) x.here.kind_is tt number k
row_kept R s r P Q floor since v number fits started k (RuleHolds.add_row x) = quiet_row R s r
    (kind.AddRow x.here.doc.item x.here.doc.serial) x.here.kind_is tt number k
row_kept R s r P Q floor since v number fits started k (RuleHolds.link_pending x) = quiet_row R s r
    (kind.LinkPending x.here.doc.item x.here.doc.serial) x.here.kind_is tt number k
row_kept R s r P Q floor since v number fits started k (RuleHolds.drop_page x) = quiet_row R s r
    (kind.DropPage x.here.doc.item x.here.doc.serial) x.here.kind_is tt number k
row_kept R s r P Q floor since v number fits started k (RuleHolds.shift x) = quiet_row R s r kind.Shift x.here.kind_is
    tt number k
row_kept R s r P Q floor since v number fits started k (RuleHolds.add_items x) = quiet_row R s r kind.AddItems
    x.here.kind_is tt number k
row_kept R s r P Q floor since v number fits started k (RuleHolds.make_tree x) = quiet_row R s r kind.MakeTree
    x.here.kind_is tt number k
row_kept R s r P Q floor since v number fits started k (RuleHolds.add_postings x) = quiet_row R s r kind.AddPostings
    x.here.kind_is tt number k
row_kept R s r P Q floor since v number fits started k (RuleHolds.grow_root x) = quiet_row R s r kind.GrowRoot
    x.here.kind_is tt number k
row_kept R s r P Q floor since v number fits started k (RuleHolds.split x) = quiet_row R s r kind.Split x.here.kind_is
    tt number k
row_kept R s r P Q floor since v number fits started k (RuleHolds.remove_items x) = quiet_row R s r kind.RemoveItems
    x.here.kind_is tt number k
row_kept R s r P Q floor since v number fits started k (RuleHolds.delete_post x) = quiet_row R s r kind.DeletePost
    x.here.kind_is tt number k
row_kept R s r P Q floor since v number fits started k (RuleHolds.free_slots x) = quiet_row R s r kind.FreeSlots
    x.here.kind_is tt number k
row_kept R s r P Q floor since v number fits started k (RuleHolds.checkpoint x) =
    turned R s r (kind.Checkpoint x.here.redo) x.here.kind_is
    (checkpoint_kept R s r.number r.xid x.here.redo r.changes number k)
row_kept R s r P Q floor since v number fits started k (RuleHolds.mark_deleted x) =
    turned R s r (kind.MarkDeleted x.here.doc.item x.here.doc.serial) x.here.kind_is
    (mark_kept R s r.number r.xid r.changes x.here.doc.item x.here.doc.serial number x.here.runs k)
row_kept R s r P Q floor since v number fits started k (RuleHolds.place_head x) =
    let kind_is = x.here.kind_is in
    let some : R ≢ [] = elim started
    [ inl e ↦ absurd (place_create x.here.doc.item x.here.doc.serial (sym kind_is ∙ e)) | inr some ↦ some ] in
    turned R s r (kind.PlaceHead x.here.doc.item x.here.doc.serial) kind_is
    (place_kept R s r.number r.xid r.changes x.here.doc.item x.here.doc.serial number x.here.runs x.here.next
    (omega (arith, x.here.next, serials_small R v some, number, fits)) k)
  where
    place_create : (item serial : ℕ) → kind.PlaceHead item serial ≡ kind.Create → ⊥
    place_create item serial e = cc

pub kept : (pages xid_limit : ℕ) (R : Log) → RecordsAreValid R → Kept R (state_of pages xid_limit R)
kept pages xid_limit [] v = record {
  records = refl;
  fates = λ y. none y;
  next_xid_is = refl;
  next_serial_is = refl;
  redo_is = refl;
  commits_are = refl;
  running = λ y. refl;
  none_before = λ y u. (refl, refl);
  deleted = λ H h. sym (ap (map (λ (c : Commit). c.deleted)) h);
  inserted = λ H h. sym (ap (map (λ (c : Commit). names c.inserted)) h);
}
  where
    none : (y : ℕ) → fate_at [] y ≡ Unused
    none zero = refl
    none (suc k) = get_or_past [] k Unused (omega arith)
kept pages xid_limit (r ∷ R) v =
    row_kept R (state_of pages xid_limit R) r v.1.before v.1.after (commits R)
    (suc (length R)) v.0 v.1.number v.1.is_record.number v.1.started (kept pages xid_limit R v.0) v.1.rule
