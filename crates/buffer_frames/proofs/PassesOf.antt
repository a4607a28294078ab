-- A pass is one of the frames after each call.
use Rattle.std.proofs.Common.{◌≡◌, ◌≢◌, ◌⊎◌, ◌<◌, ◌≤◌, ℕ, Bool, true, false, cond, List, length, refl, sym, ap, subst}
use Rattle.std.proofs.Common.{◌∙◌, inl}
use Rattle.std.proofs.Common.{inr, arith}
use Rattle.std.specs.Prelude.{Option, Some, None, IfSome, max, slice_set, slice_get}
use Rattle.std.proofs.lemmas.List.{get_or-set_other, length-set}
use Rattle.std.proofs.lemmas.Grind.{get_or-set_at}
use Rattle.std.proofs.lemmas.Option.{slice_get-get_or, slice_get_within, get_or_from_slice_get}
use Rattle.page_types.specs.declared.record.Kind.{Kind}
use Rattle.core_state.proofs.RunningOnes.{same_or_other}
use Rattle.snap_pins.specs.Taken.{IsPinned, IsFree, IsTaken, IsLeast}
use Rattle.snap_pins.specs.declared.Pin.{Pin as PinInUse}
use Rattle.buffer_frames.specs.Journals.{JournalValue, is_work, work_after}
use Rattle.buffer_frames.specs.Frames.{FramesValue}
use Rattle.buffer_frames.specs.Passes.{in_use, IsRightOf, IsPassOf, split_of, either_right, joined_with}
use Rattle.buffer_frames.specs.declared.home.Home.{Home}
use Rattle.buffer_frames.specs.declared.pass.Pass.{Pass}
use Rattle.buffer_frames.specs.declared.pass.Pinned.{Pinned}
use Rattle.buffer_frames.proofs.FramesKept.{framed}

-- the right of maintenance, once the pass has seen more of a longer log
right_longer : (w o : Option ℕ) (seen records seen' records' : ℕ) → seen ≤ seen' → records ≤ records'
    → IfSome o (λ at. (at ≤ records) × IsRightOf w (max at seen))
    → IfSome o (λ at. (at ≤ records') × IsRightOf w (max at seen'))
right_longer w None seen records seen' records' more longer right = tt
right_longer None (Some at) seen records seen' records' more longer right = absurd right.1
right_longer (Some n) (Some at) seen records seen' records' more longer right =
    (omega (arith, right.0, longer), omega (arith, right.1, more))

-- that of one of two passes
right_joined : (w o o' : Option ℕ) (seen seen' records : ℕ)
    → IfSome o (λ at. (at ≤ records) × IsRightOf w (max at seen))
    → IfSome o' (λ at. (at ≤ records) × IsRightOf w (max at seen'))
    → IfSome (either_right o o') (λ at. (at ≤ records) × IsRightOf w (max at (max seen seen')))
right_joined w None o' seen seen' records right other =
    right_longer w o' seen' records (max seen seen') records (omega arith) (omega arith) other
right_joined w (Some at) o' seen seen' records right other =
    right_longer w (Some at) seen records (max seen seen') records (omega arith) (omega arith) right

-- and once it has seen all, after a record
right_after : (w o : Option ℕ) (seen records : ℕ) (k : Kind) (number n records' : ℕ) → records ≤ records'
    → {w' : Option ℕ} → w' ≡ work_after k number w → number ≤ n
    → IfSome o (λ at. (at ≤ records) × IsRightOf w (max at seen)) → n ≡ records' → seen ≤ records
    → IfSome o (λ at. (at ≤ records') × IsRightOf w' (max at n))
right_after w None seen records k number n records' longer is within right now most = tt
right_after None (Some at) seen records k number n records' longer is within right now most = absurd right.1
right_after (Some m) (Some at) seen records k number n records' longer is within right now most = (
  omega (arith, right.0, longer),
  subst (λ (x : Option ℕ). IsRightOf x (max at n)) (sym is) (go (is_work k)),
)
  where
    go : (b : Bool) → cond b number m ≤ max at n
    go true = omega (arith, within)
    go false = omega (arith, right.0, right.1, most, longer, now)

-- with other homes, and so many pages held
pub of_held : {D : Type 0} (j : JournalValue D) (pins : List (Option PinInUse)) (homes homes' : List Home)
    (pass : Pass) (n : ℕ) → n < 5 → IsPassOf (framed j pins homes) pass
    → IsPassOf (framed j pins homes') (record pass { held = n })
of_held j pins homes homes' pass n few of = record {
  some = of.some;
  seen = of.seen;
  all = of.all;
  none_owed = of.none_owed;
  shown = of.shown;
  pin = of.pin;
  free = of.free;
  few = few;
  now = of.now;
  below = of.below;
  work = of.work;
}

any_xid : (o : Option ℕ) (n : ℕ) → IfSome o (λ x. n ≡ n)
any_xid None n = tt
any_xid (Some x) n = refl

seen_pin : (pins : List (Option PinInUse)) (o : Option Pinned) (n m : ℕ) → n ≤ m
    → IfSome o (λ s. IsPinned pins s.place (in_use s) × (s.length ≤ n))
    → IfSome o (λ s. IsPinned pins s.place (in_use s) × (s.length ≤ m))
seen_pin pins None n m le p = tt
seen_pin pins (Some s) n m le p = (p.0, omega (arith, le, p.1))

-- a pass that has seen all, with another xid, where no Abort is owed
pub of_logged : {D : Type 0} (j j' : JournalValue D) (pins : List (Option PinInUse)) (homes homes' : List Home)
    (pass : Pass) (n : ℕ) (k : Kind) (number : ℕ) (xid : Option ℕ) → n ≡ j'.state.records → j'.owes ≡ false
    → j.flushed ≤ j'.flushed → j.state.records ≤ j'.state.records → j'.work ≡ work_after k number j.work → number ≤ n
    → IsPassOf (framed j pins homes) pass
    → IsPassOf (framed j' pins homes') (record pass { held = 0; seen = n; xid = xid })
of_logged j j' pins homes homes' pass n k number xid now none more longer work within of = record {
  some = omega (arith, of.some, of.seen, longer, now);
  seen = omega (arith, now);
  all = all xid;
  none_owed = λ t. absurd (let f : true ≡ false = sym t ∙ none in let z : ⊥ = cc in z);
  shown = omega (arith, of.shown, more);
  pin = seen_pin pins pass.pin pass.seen n (omega (arith, of.seen, longer, now)) of.pin;
  free = of.free;
  few = omega arith;
  now = (omega (arith, of.now.0, more), omega (arith, of.now.1, longer));
  below = of.below;
  work = right_after j.work pass.work pass.seen j.state.records k number n j'.state.records longer work within of.work
      now of.seen;
}
  where
    all : (o : Option ℕ) → IfSome o (λ x. n ≡ j'.state.records)
    all None = tt
    all (Some x) = now

-- a journal that has flushed more, or the same
pub of_flushed : {D : Type 0} (j j' : JournalValue D) (pins : List (Option PinInUse)) (homes homes' : List Home)
    (pass : Pass) (n shown : ℕ) → n < 5 → j'.owes ≡ j.owes → j.flushed ≤ j'.flushed
    → j'.state.records ≡ j.state.records → j'.work ≡ j.work → shown ≤ j'.flushed → IsPassOf (framed j pins homes) pass
    → IsPassOf (framed j' pins homes') (record pass { held = n; shown = shown })
of_flushed j j' pins homes homes' pass n shown few owes more same work le of = record {
  some = of.some;
  seen = omega (arith, of.seen, same);
  all = all pass.xid of.all;
  none_owed = λ t. of.none_owed (sym owes ∙ t);
  shown = le;
  pin = of.pin;
  free = of.free;
  few = few;
  now = (omega (arith, of.now.0, more), omega (arith, of.now.1, same));
  below = of.below;
  work = subst (λ (w : Option ℕ). IfSome pass.work (λ at. (at ≤ j'.state.records) × IsRightOf w (max at pass.seen)))
      (sym work) (right_longer j.work pass.work pass.seen j.state.records pass.seen j'.state.records (omega arith)
      (omega (arith, same)) of.work);
}
  where
    all : (o : Option ℕ) → IfSome o (λ x. pass.seen ≡ j.state.records) → IfSome o (λ x. pass.seen ≡ j'.state.records)
    all None a = tt
    all (Some x) a = a ∙ sym same

-- a pass that has seen all, with the greatest floor and since
pub of_seen : {D : Type 0} (j : JournalValue D) (pins : List (Option PinInUse)) (homes : List Home) (pass : Pass)
    (floor since : ℕ) → IsLeast pins (λ p. p.commits) j.flushed floor
    → IsLeast pins (λ p. p.length) j.state.records since → IsPassOf (framed j pins homes) pass
    → IsPassOf (framed j pins homes) (record pass { seen = j.state.records; floor = floor; since = since })
of_seen j pins homes pass floor since low short of = record {
  some = omega (arith, of.some, of.seen);
  seen = omega arith;
  all = any_xid pass.xid j.state.records;
  none_owed = of.none_owed;
  shown = of.shown;
  pin = seen_pin pins pass.pin pass.seen j.state.records of.seen of.pin;
  free = of.free;
  few = of.few;
  now = (low.at_most, short.at_most);
  below = λ place p is. (low.pinned place p is, short.pinned place p is);
  work = right_longer j.work pass.work pass.seen j.state.records j.state.records j.state.records of.seen
      (omega arith) of.work;
}

-- a floor or a since is never above the greatest
pub least_above : (pins : List (Option PinInUse)) (number : PinInUse → ℕ) (given least was : ℕ)
    → IsLeast pins number given least → was ≤ given → ((place : ℕ) (p : PinInUse) → IsPinned pins place p
    → was ≤ number p) → was ≤ least
least_above pins number given least was is low below = go is.met
  where
    go : (least ≡ given) ⊎ ((place : ℕ) × (p : PinInUse) × IsPinned pins place p × (least ≡ number p)) → was ≤ least
    go (inl e) = omega (arith, e, low)
    go (inr m) = omega (arith, m.3, below m.0 m.1 m.2)

-- places
pub set_at : {A : Type 0} (xs : List A) (i : ℕ) (x y : A) → slice_get xs i ≡ Some y
    → slice_get (slice_set xs i x) i ≡ Some x
set_at xs i x y e =
    let lt : i < length xs = slice_get_within xs i y e in
    slice_get-get_or (slice_set xs i x) i x (omega (arith, lt, length-set xs i x))
    ∙ ap Some (get_or-set_at xs i i x x refl lt)

pub set_else : {A : Type 0} (xs : List A) (i j : ℕ) (x y : A) → j ≢ i → slice_get (slice_set xs i x) j ≡ Some y
    → slice_get xs j ≡ Some y
set_else xs i j x y off e =
    let lt : j < length (slice_set xs i x) = slice_get_within (slice_set xs i x) j y e in
    slice_get-get_or xs j y (omega (arith, lt, length-set xs i x))
    ∙ ap Some (sym (get_or-set_other xs i j x y off) ∙ get_or_from_slice_get (slice_set xs i x) j y y e)

pub some_one : {A : Type 0} (x y : A) → Some x ≡ Some y → x ≡ y
some_one x y e = cc

-- a pass with a new snapshot
pub of_pinned : {D : Type 0} (j : JournalValue D) (pins : List (Option PinInUse)) (homes : List Home) (pass : Pass)
    (place : ℕ) → IsFree pins place → IsPassOf (framed j pins homes) pass
    → IsPassOf (framed j (slice_set pins place (Some (record { commits = j.flushed; length = j.state.records }))) homes)
    (record pass {
      seen = j.state.records;
      shown = j.flushed;
      pin = Some (record { place = place; commits = j.flushed; length = j.state.records });
    })
of_pinned j pins homes pass place free of = record {
  some = omega (arith, of.some, of.seen);
  seen = omega arith;
  all = any_xid pass.xid j.state.records;
  none_owed = of.none_owed;
  shown = omega arith;
  pin = (set_at pins place (Some new) None free, omega arith);
  free = λ e. absurd (let z : ⊥ = cc in z);
  few = of.few;
  now = of.now;
  below = λ k p is. elim (same_or_other k place) [
    | inl e ↦
        let at : slice_get (slice_set pins place (Some new)) place ≡ Some (Some p) = subst
        (λ (i : ℕ). slice_get (slice_set pins place (Some new)) i ≡ Some (Some p)) e is in
        let same : p ≡ new = some_one p new (some_one (Some p) (Some new)
        (sym at ∙ set_at pins place (Some new) None free)) in (
          omega (arith, of.now.0, ap (λ (q : PinInUse). q.commits) same),
          omega (arith, of.now.1, ap (λ (q : PinInUse). q.length) same),
        )
    | inr d ↦ of.below k p (set_else pins place k (Some new) (Some p) d is)
  ];
  work = right_longer j.work pass.work pass.seen j.state.records j.state.records j.state.records of.seen
      (omega arith) of.work;
}
  where
    new : PinInUse
    new = record { commits = j.flushed; length = j.state.records }

-- a pass without one
pub of_unpinned : {D : Type 0} (j : JournalValue D) (pins : List (Option PinInUse)) (homes : List Home) (pass : Pass)
    (place : ℕ) → IsTaken pins place → IsPassOf (framed j pins homes) pass
    → IsPassOf (framed j (slice_set pins place None) homes) (record pass { pin = None })
of_unpinned j pins homes pass place taken of = record {
  some = of.some;
  seen = of.seen;
  all = of.all;
  none_owed = of.none_owed;
  shown = of.shown;
  pin = tt;
  free = λ e. (place, set_at pins place None (Some taken.0) taken.1);
  few = of.few;
  now = of.now;
  below = λ k p is. elim (same_or_other k place) [
    | inl e ↦ absurd (
        let at : slice_get (slice_set pins place None) place ≡ Some (Some p) = subst
        (λ (i : ℕ). slice_get (slice_set pins place None) i ≡ Some (Some p)) e is in
        let same : Some p ≡ None = some_one (Some p) None (sym at ∙ set_at pins place None (Some taken.0) taken.1) in
        let z : ⊥ = cc in z)
    | inr d ↦ of.below k p (set_else pins place k None (Some p) d is)
  ];
  work = of.work;
}

-- a pass with other room
pub of_room : {D : Type 0} (j : JournalValue D) (pins : List (Option PinInUse)) (homes : List Home) (pass : Pass)
    (n : ℕ) → IsPassOf (framed j pins homes) pass → IsPassOf (framed j pins homes) (record pass { room = n })
of_room j pins homes pass n of = record {
  some = of.some;
  seen = of.seen;
  all = of.all;
  none_owed = of.none_owed;
  shown = of.shown;
  pin = of.pin;
  free = of.free;
  few = of.few;
  now = of.now;
  below = of.below;
  work = of.work;
}

-- a pass that is made of another
pub of_split : {D : Type 0} (j : JournalValue D) (pins : List (Option PinInUse)) (homes : List Home) (pass : Pass)
    → pass.pin ≡ None → IsPassOf (framed j pins homes) pass → IsPassOf (framed j pins homes) (split_of pass)
of_split j pins homes pass none of = record {
  some = of.some;
  seen = of.seen;
  all = tt;
  none_owed = λ t. refl;
  shown = of.shown;
  pin = tt;
  free = λ e. of.free none;
  few = omega arith;
  now = of.now;
  below = of.below;
  work = tt;
}

-- a pass in which another ended
pub of_joined : {D : Type 0} (j : JournalValue D) (pins : List (Option PinInUse)) (homes : List Home)
    (pass other : Pass) → IsPassOf (framed j pins homes) other → IsPassOf (framed j pins homes) pass
    → IsPassOf (framed j pins homes) (joined_with other pass)
of_joined j pins homes pass other one of = record {
  some = omega (arith, of.some);
  seen = omega (arith, of.seen, one.seen);
  all = all pass.xid of.all;
  none_owed = of.none_owed;
  shown = omega (arith, of.shown, one.shown);
  pin = seen_pin pins pass.pin pass.seen (max pass.seen other.seen) (omega arith) of.pin;
  free = of.free;
  few = of.few;
  now = (omega (arith, of.now.0, one.now.0), omega (arith, of.now.1, one.now.1));
  below = λ place p is.
      let a = of.below place p is in
      let b = one.below place p is in
      (omega (arith, a.0, b.0), omega (arith, a.1, b.1));
  work = right_joined j.work pass.work other.work pass.seen other.seen j.state.records of.work one.work;
}
  where
    all : (o : Option ℕ) → IfSome o (λ x. pass.seen ≡ j.state.records)
        → IfSome o (λ x. max pass.seen other.seen ≡ j.state.records)
    all None a = tt
    all (Some x) a = omega (arith, a, one.seen)

-- a pass without an xid is one still when others have logged, held or flushed, and none of them has
-- done maintenance since the pass got the right of it, if it has
pub of_other : {D : Type 0} (f f' : FramesValue D) (pass : Pass) → pass.xid ≡ None → f'.pins ≡ f.pins
    → f.journal.flushed ≤ f'.journal.flushed → f.journal.state.records ≤ f'.journal.state.records
    → f'.journal.work ≡ f.journal.work → IsPassOf f pass → IsPassOf f' pass
of_other {D} f f' pass idle pins more longer right of = record {
  some = of.some;
  seen = omega (arith, of.seen, longer);
  all = subst (λ (o : Option ℕ). IfSome o (λ x. pass.seen ≡ f'.journal.state.records)) (sym idle) tt;
  none_owed = λ owed. idle;
  shown = omega (arith, of.shown, more);
  pin = subst (λ (ps : List (Option PinInUse)).
      IfSome pass.pin (λ s. IsPinned ps s.place (in_use s) × (s.length ≤ pass.seen))) (sym pins) of.pin;
  free = λ none. subst (λ (ps : List (Option PinInUse)). (place : ℕ) × IsFree ps place) (sym pins) (of.free none);
  few = of.few;
  now = (omega (arith, of.now.0, more), omega (arith, of.now.1, longer));
  below = λ place p is. of.below place p (subst (λ (ps : List (Option PinInUse)). IsPinned ps place p) pins is);
  work = subst
      (λ (w : Option ℕ). IfSome pass.work (λ at. (at ≤ f'.journal.state.records) × IsRightOf w (max at pass.seen)))
      (sym right) (right_longer f.journal.work pass.work pass.seen f.journal.state.records pass.seen
      f'.journal.state.records (omega arith) longer of.work);
}
