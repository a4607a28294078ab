-- The kinds of records as the lists of placed documents see them, and what each does to these lists.
use Rattle.std.proofs.Common.{◌≡◌, ◌≢◌, ◌⊎◌, ◌<◌, ◌&&◌, nat_lt, ℕ, zero, suc, Bool, true, false, cond, ◌==◌, List, []}
use Rattle.std.proofs.Common.{◌∷◌, ◌++◌, length, map, refl, ap, subst, inl, inr, arith}
use Rattle.std.specs.Prelude.{Option, Some, None, if◌then◌else◌, ⊤}
use Rattle.std.specs.List.{slice_get}
use Rattle.page_types.specs.declared.record.Kind.{Kind}
use Rattle.page_types.specs.declared.record.Kind.TheVariants as kind
use Rattle.core_state.specs.Log.{In, serial_behind, xid_bound}
use Rattle.core_state.specs.Documents.{Doc, page_of, name_of}
use Rattle.core_state.specs.Lives.{with_ends}
use Rattle.core_state.specs.States.{StateValue, transaction, committed, aborted, ended_all, placed_head, marked_head}
use Rattle.core_state.specs.States.{last_serial, with_page, stepped}
use Rattle.core_state.specs.declared.answers.Fate.{Fate}
use Rattle.core_state.specs.declared.answers.Fate.TheVariants.{Unused, Running, Aborted, Committed}
use Rattle.core_state.specs.declared.lives.Placed.{Placed}
use Rattle.core_state.specs.declared.transactions.Transaction.{Transaction}
use Rattle.core_state.proofs.Following.{kept_by}
use Rattle.core_state.proofs.DocumentLives.{one_named}

-- what kind a record is of, as far as these lists go
abbrev pub IsOther : Kind → Type 0
IsOther (kind.PlaceHead item serial) = ⊥
IsOther (kind.Commit commit) = ⊥
IsOther _ = ⊤

-- a kind by its case
pub data KindCase (k : Kind) : Type 0 where
  is_place : (i s : ℕ) → k ≡ kind.PlaceHead i s → KindCase k
  is_commit : (n : ℕ) → k ≡ kind.Commit n → KindCase k
  is_other : IsOther k → KindCase k

pub kind_case : (k : Kind) → KindCase k
kind_case (kind.PlaceHead i s) = KindCase.is_place i s refl
kind_case (kind.Commit n) = KindCase.is_commit n refl
kind_case _ = KindCase.is_other tt

pub other_places : (k : Kind) (i s : ℕ) → IsOther k → k ≡ kind.PlaceHead i s → ⊥
other_places k i s o e = subst IsOther e o

pub other_commits : (k : Kind) (n : ℕ) → IsOther k → k ≡ kind.Commit n → ⊥
other_commits k n o e = subst IsOther e o

pub other_serial : (k : Kind) (s : ℕ) → IsOther k → serial_behind k s ≡ s
other_serial (kind.PlaceHead i n) s o = absurd o
other_serial (kind.Commit n) s o = absurd o
other_serial _ s o = refl

-- the lists of two states are the same
pub record SameLists (s s' : StateValue) : Type 0 where
  pub placed_same : s'.placed ≡ s.placed
  pub ends_same : s'.ends ≡ s.ends
  pub heaps_same : s'.heaps ≡ s.heaps

pub begun_same : (b : Bool) (s t : StateValue) → SameLists s t → SameLists s (if b then t else s)
begun_same true s t w = w
begun_same false s t w = record { placed_same = refl; ends_same = refl; heaps_same = refl }

pub cond_same : (b : Bool) (s t u : StateValue) → SameLists s t → SameLists s u → SameLists s (cond b t u)
cond_same true s t u v w = v
cond_same false s t u v w = w

pub aborted_same : (x : ℕ) (o : Option Transaction) (s : StateValue) → SameLists s (aborted x o s)
aborted_same x None s = record { placed_same = refl; ends_same = refl; heaps_same = refl }
aborted_same x (Some t) s = record { placed_same = refl; ends_same = refl; heaps_same = refl }

pub marked_same : (o : Option Transaction) (d : Doc) (s : StateValue) → SameLists s (marked_head o d s)
marked_same None d s = record { placed_same = refl; ends_same = refl; heaps_same = refl }
marked_same (Some t) d s = record { placed_same = refl; ends_same = refl; heaps_same = refl }

pub stepped_same : (k : Kind) (x : ℕ) (ps : List ℕ) (s : StateValue) → IsOther k → SameLists s (stepped k x ps s)
stepped_same (kind.PlaceHead i n) x ps s o = absurd o
stepped_same (kind.Commit n) x ps s o = absurd o
stepped_same kind.Begin x ps s o =
    begun_same ((x == suc (length s.fates)) && nat_lt x xid_bound) s _
    (record { placed_same = refl; ends_same = refl; heaps_same = refl })
stepped_same kind.Abort x ps s o = cond_same (x == 0) s (ended_all s) (aborted x (transaction x s.running) s)
    (record { placed_same = refl; ends_same = refl; heaps_same = refl }) (aborted_same x (transaction x s.running) s)
stepped_same (kind.MarkDeleted item serial) x ps s o =
    marked_same (transaction x s.running) (record { item = item; serial = serial }) s
stepped_same _ x ps s o = record { placed_same = refl; ends_same = refl; heaps_same = refl }

-- where a serial is drawn a head is placed
pub record Placing (o : Option Transaction) (d : Doc) (s s' : StateValue) : Type 0 where
  pub t : Transaction
  pub is : o ≡ Some t
  pub next : d.serial ≡ s.next_serial
  pub placed_is : s'.placed ≡ s.placed ++ record { item = d.item; xid = t.xid } ∷ []
  pub ends_is : s'.ends ≡ s.ends ++ 0 ∷ []
  pub heaps_is : s'.heaps ≡ with_page (page_of d.item) s.heaps

pub tested : (a b : ℕ) (c : Bool) → ((a == b) && c) ≡ true → a ≡ b
tested a b c e = grind (arith, e)

pub placing_by : (b : Bool) (t : Transaction) (d : Doc) (s s' : StateValue) → (b ≡ true → d.serial ≡ s.next_serial)
    → s'.placed ≡ s.placed ++ record { item = d.item; xid = t.xid } ∷ [] → s'.ends ≡ s.ends ++ 0 ∷ []
    → s'.heaps ≡ with_page (page_of d.item) s.heaps → (if b then s' else s).next_serial ≢ s.next_serial
    → Placing (Some t) d s (if b then s' else s)
placing_by true t d s s' next p e h off =
    record { t = t; is = refl; next = next refl; placed_is = p; ends_is = e; heaps_is = h }
placing_by false t d s s' next p e h off = absurd (off refl)

pub placing_of : (o : Option Transaction) (d : Doc) (s : StateValue) → (placed_head o d s).next_serial ≢ s.next_serial
    → Placing o d s (placed_head o d s)
placing_of None d s off = absurd (off refl)
placing_of (Some t) d s off = placing_by ((d.serial == s.next_serial) && nat_lt d.serial (suc last_serial)) t d s _
    (tested d.serial s.next_serial (nat_lt d.serial (suc last_serial))) refl refl refl off

-- where the commits get more one is made
pub record Committing (n : ℕ) (o : Option Transaction) (s s' : StateValue) : Type 0 where
  pub t : Transaction
  pub is : o ≡ Some t
  pub some : n ≢ 0
  pub placed_is : s'.placed ≡ s.placed
  pub ends_is : s'.ends ≡ with_ends n s.placed t.deleted s.ends
  pub heaps_is : s'.heaps ≡ s.heaps

pub above_zero : (n m : ℕ) → (n == suc m) ≡ true → n ≢ 0
above_zero n m e z = absurd (grind (arith, e, z))

pub committing_by : (b : Bool) (n : ℕ) (t : Transaction) (s s' : StateValue) → (b ≡ true → n ≢ 0) → s'.placed ≡ s.placed
    → s'.ends ≡ with_ends n s.placed t.deleted s.ends → s'.heaps ≡ s.heaps
    → length (if b then s' else s).deleted ≢ length s.deleted → Committing n (Some t) s (if b then s' else s)
committing_by true n t s s' some p e h off =
    record { t = t; is = refl; some = some refl; placed_is = p; ends_is = e; heaps_is = h }
committing_by false n t s s' some p e h off = absurd (off refl)

pub committing_of : (n x : ℕ) (o : Option Transaction) (s : StateValue)
    → length (committed n x o s).deleted ≢ length s.deleted → Committing n o s (committed n x o s)
committing_of n x None s off = absurd (off refl)
committing_of n x (Some t) s off =
    committing_by (n == suc (length s.deleted)) n t s _ (above_zero n (length s.deleted)) refl refl refl off

-- a transaction that is kept runs
pub runs_of : (f : Fate) (t u : Transaction) → kept_by f t ≡ Some u → (f ≡ Running) × (t ≡ u)
runs_of Unused t u e = absurd (cc)
runs_of Running t u e = (refl, cc)
runs_of Aborted t u e = absurd (cc)
runs_of (Committed n) t u e = absurd (cc)

pub get_front : (ps : List Placed) (q : Placed) (k : ℕ) (p : Placed) → slice_get ps k ≡ Some p
    → slice_get (ps ++ q ∷ []) k ≡ Some p
get_front [] q k p e = absurd (cc)
get_front (a ∷ ps) q zero p e = e
get_front (a ∷ ps) q (suc k) p e = get_front ps q k p e

pub get_last : (ps : List Placed) (q : Placed) → slice_get (ps ++ q ∷ []) (length ps) ≡ Some q
get_last [] q = refl
get_last (a ∷ ps) q = get_last ps q

pub get_back : (ps : List Placed) (q : Placed) (k : ℕ) (p : Placed) → slice_get (ps ++ q ∷ []) k ≡ Some p
    → (slice_get ps k ≡ Some p) ⊎ ((k ≡ length ps) × (q ≡ p))
get_back [] q zero p e = inr (refl, cc)
get_back [] q (suc k) p e = absurd (cc)
get_back (a ∷ ps) q zero p e = inl e
get_back (a ∷ ps) q (suc k) p e = elim (get_back ps q k p e) [
  | inl old ↦ inl old
  | inr new ↦ inr (ap suc new.0, new.1)
]

pub get_within : (ps : List Placed) (k : ℕ) (p : Placed) → slice_get ps k ≡ Some p → k < length ps
get_within [] k p e = absurd (cc)
get_within (a ∷ ps) zero p e = omega arith
get_within (a ∷ ps) (suc k) p e = omega (arith, get_within ps k p e)

pub in_named : (d : Doc) (ds : List Doc) → In d ds → In (name_of d) (map name_of ds)
in_named d [] i = i
in_named d (e ∷ ds) (inl f) = inl (ap name_of f)
in_named d (e ∷ ds) (inr i) = inr (in_named d ds i)

pub named_in : (d : Doc) (ds : List Doc) → In (name_of d) (map name_of ds) → In d ds
named_in d [] i = i
named_in d (e ∷ ds) (inl f) = inl (one_named d e f)
named_in d (e ∷ ds) (inr i) = inr (named_in d ds i)

pub running_committed : (n : ℕ) → Running ≡ Committed n → ⊥
running_committed n e = cc
