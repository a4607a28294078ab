-- Each step of a cleanup brings its end nearer.
use Rattle.std.proofs.Common.{◌≡◌, ◌<◌, ◌≤◌, ◌-◌, ℕ, suc, List, [], ◌∷◌, length, sym, ap, subst, ◌∙◌, inl, inr, arith}
use Rattle.std.proofs.Common.{length-append, Result}
use Rattle.std.proofs.lemmas.Nat.{mul-le}
use Rattle.std.specs.Prelude.{◌+◌, ◌*◌, ◌^◌, Vec, OnOk}
use Rattle.std.specs.declared.alloc.Global.{Global}
use Rattle.page_types.specs.declared.page.Page.{Page}
use Rattle.page_types.specs.declared.page.Row.{Row}
use Rattle.buffer_frames.specs.Frames.{FramesValue}
use Rattle.gin_place.specs.Placing.{at_root}
use Rattle.gin_place.specs.Running.{RecordsRise}
use Rattle.gin_place.specs.Stepping.{steps_left, IsNearer}
use Rattle.gin_place.specs.declared.error.PlaceError.{PlaceError}
use Rattle.gin_place.specs.declared.placing.Placing.{Placing}
use Rattle.gin_cleanup.specs.Gathered.{KeyItems}
use Rattle.gin_cleanup.specs.Inner.Between.{HasNext}
use Rattle.gin_cleanup.specs.Inner.Noting.{HasTaken, HasNoted}
use Rattle.gin_cleanup.specs.Inner.Shifting.{HasTurnedAgain}
use Rattle.gin_cleanup.specs.Measure.{stage_steps, steps_of, ComesNearer}
use Rattle.gin_cleanup.specs.declared.cleanup.Cleanup.{Cleanup}
use Rattle.gin_cleanup.specs.declared.cleanup.Stage.{Stage}
use Rattle.gin_cleanup.specs.declared.cleanup.Stage.TheVariants as stage
use Rattle.gin_cleanup.proofs.Tests.{on_answer}

-- the steps of a cleanup at this stage
steps_at : (c : Cleanup) (s : Stage) → c.stage ≡ s → steps_of c ≡ c.turns * 2 ^ 170 + stage_steps c s
steps_at c s is = ap (λ (x : Stage). c.turns * 2 ^ 170 + stage_steps c x) is

-- those of another that is so
same_steps : (c d : Cleanup) (n : ℕ) → d ≡ c → steps_of c < n → steps_of d < n
same_steps c d n is less = subst (λ (x : Cleanup). steps_of x < n) (sym is) less

-- ── a key is next ──

-- fewer keys than a map may have want fewer steps than the pages of the list
small_keys : (n : ℕ) → n < 2 ^ 63 → n * 2 ^ 100 < 2 ^ 164
small_keys n few =
    let most : n * 2 ^ 100 ≤ 2 ^ 63 * 2 ^ 100 =
    mul-le n (2 ^ 100) (2 ^ 63) (2 ^ 100) (omega (arith, few)) (omega arith) in
    omega (arith, most)

-- those of a key are few, since a Vec has no more items than it may
few_steps : (items : Vec ℕ Global) → steps_left items.items at_root < 2 ^ 100
few_steps items = by (length items.items) (omega (arith, items.ok))
  where
    by : (n : ℕ) → n < 2 ^ 63 → (n - 0) * (2 ^ 32 + 1) + (2 ^ 32 + 1) + (2 ^ 32 + 1) + 2 ^ 32 < 2 ^ 100
    by n few = omega (arith, few)

-- after the pages were read
pub next_read : (old new : Cleanup) (page : ℕ) (before : Vec ℕ Global) → old.stage ≡ stage.Reading page before
    → HasNext old new → steps_of new < steps_of old
next_read old new page before at (HasNext.key key items first few is) =
    let small = small_keys (length new.gathered) few in
    let most = few_steps items in
    subst (λ (n : ℕ). steps_of new < n) (sym (steps_at old (stage.Reading page before) at))
    (same_steps (record old { gathered = new.gathered; stage = stage.Placing key items at_root }) new
    (old.turns * 2 ^ 170 + stage_steps old (stage.Reading page before)) is (omega (arith, small, most)))
next_read old new page before at (HasNext.none none is) =
    subst (λ (n : ℕ). steps_of new < n) (sym (steps_at old (stage.Reading page before) at))
    (same_steps (record old { gathered = []; stage = stage.Shifting }) new
    (old.turns * 2 ^ 170 + stage_steps old (stage.Reading page before)) is (omega arith))

-- after a key was placed
pub next_placed : (c then : Cleanup) (key items : Vec ℕ Global) (old new : Placing)
    → c.stage ≡ stage.Placing key items old → HasNext (record c { stage = stage.Placing key items new }) then
    → steps_of then < steps_of c
next_placed c then key items old new at (HasNext.key k is first few same) =
    let more : length c.gathered ≡ suc (length then.gathered) = ap (λ (es : KeyItems). length es) first.first in
    subst (λ (n : ℕ). steps_of then < n) (sym (steps_at c (stage.Placing key items old) at))
    (same_steps (record c { gathered = then.gathered; stage = stage.Placing k is at_root }) then
    (c.turns * 2 ^ 170 + stage_steps c (stage.Placing key items old)) same
    (by (length c.gathered) (length then.gathered) (c.turns * 2 ^ 170) (steps_left items.items old)
    (steps_left is.items at_root) more (few_steps is)))
  where
    by : (n m t s r : ℕ) → n ≡ suc m → r < 2 ^ 100
        → t + (2 ^ 168 + m * 2 ^ 100 + r) < t + (2 ^ 168 + n * 2 ^ 100 + s)
    by n m t s r is most = omega (arith, is, most)
next_placed c then key items old new at (HasNext.none none same) =
    subst (λ (n : ℕ). steps_of then < n) (sym (steps_at c (stage.Placing key items old) at))
    (same_steps (record c { gathered = []; stage = stage.Shifting }) then
    (c.turns * 2 ^ 170 + stage_steps c (stage.Placing key items old)) same (omega arith))

-- ── within a stage ──

-- a page of the list was read
taken_nearer : (rows : List Row) (right : ℕ) (old new : Cleanup) (page : ℕ) (before : Vec ℕ Global)
    → old.stage ≡ stage.Reading page before → length old.counts.items < old.left → HasTaken rows right old new
    → steps_of new < steps_of old
taken_nearer rows right old new page before at few t =
    let one : length new.counts.items ≡ length old.counts.items + 1 =
    ap (λ (ns : List ℕ). length ns) t.counts ∙ length-append old.counts.items (length rows ∷ []) in
    let turns : new.turns * 2 ^ 170 ≡ old.turns * 2 ^ 170 = ap (λ (n : ℕ). n * 2 ^ 170) t.turns in
    subst (λ (n : ℕ). steps_of new < n) (sym (steps_at old (stage.Reading page before) at))
    (subst (λ (n : ℕ). n < old.turns * 2 ^ 170 + (2 * 2 ^ 168 + (old.left - length old.counts.items)))
    (sym (steps_at new (stage.Reading right t.before) t.stage_is)) (omega (arith, one, turns, t.left, few)))

pub noted_nearer : {A : Type 0} (content : Page) (old new : Cleanup) (page : ℕ) (before : Vec ℕ Global)
    → old.stage ≡ stage.Reading page before → length old.counts.items < old.left → (r : Result A PlaceError)
    → HasNoted page content old new r → OnOk r (steps_of new < steps_of old)
noted_nearer content old new page before at few r (HasNoted.bad off same is) = rw is tt
noted_nearer content old new page before at few r (HasNoted.ends rows is b next x ok) =
    on_answer (steps_of new < steps_of old) r (next_read old new page before at next)
noted_nearer content old new page before at few r (HasNoted.taken rows is above t x ok) =
    on_answer (steps_of new < steps_of old) r (taken_nearer rows content.right old new page before at few t)
noted_nearer content old new page before at few r (HasNoted.kept rows is above k err) = rw err tt

-- a step of the key that is placed
placed_nearer : (c : Cleanup) (key items : Vec ℕ Global) (old new : Placing) → c.stage ≡ stage.Placing key items old
    → steps_left items.items new < steps_left items.items old
    → steps_of (record c { stage = stage.Placing key items new }) < steps_of c
placed_nearer c key items old new at less =
    subst (λ (n : ℕ). steps_of (record c { stage = stage.Placing key items new }) < n)
    (sym (steps_at c (stage.Placing key items old) at)) (omega (arith, less))

-- ── the list is read again ──

pub again_nearer : (page : ℕ) (old new : Cleanup) → 0 < old.turns → HasTurnedAgain page old new
    → steps_of new < steps_of old
again_nearer page old new some again =
    let t = again.turned in
    let at = steps_at new (stage.Reading page t.before) t.stage_is in
    let none : length new.counts.items ≡ 0 = ap (λ (ns : List ℕ). length ns) t.counts in
    subst (λ (n : ℕ). n < steps_of old) (sym at)
    (by new.turns old.turns new.left (length new.counts.items) (stage_steps old old.stage) some t.turns
    (omega (arith, t.left, again.few)))
  where
    by : (n m left read s : ℕ) → 0 < m → n ≡ m - 1 → left < 2 ^ 32
        → n * 2 ^ 170 + (2 * 2 ^ 168 + (left - read)) < m * 2 ^ 170 + s
    by n m left read s some is few = omega (arith, some, is, few)

-- ── with what was logged ──

module _ {D : Type 0} (f g : FramesValue D) where
  -- calls that logged records of these kinds
  pub by_kinds : (old new : Cleanup) (kinds : List ℕ)
      → RecordsRise kinds f.journal.state.records g.journal.state.records → steps_of new < steps_of old
      → ComesNearer f g old new
  by_kinds old new [] same less = inr (same, less)
  by_kinds old new (k ∷ kinds) rise less = inl rise

  pub by_step : (c : Cleanup) (key items : Vec ℕ Global) (old new : Placing) → c.stage ≡ stage.Placing key items old
      → (is : List ℕ) → is ≡ items.items → IsNearer f g is old new
      → ComesNearer f g c (record c { stage = stage.Placing key items new })
  by_step c key items old new at is same (inl rise) = inl rise
  by_step c key items old new at is same (inr less) =
      inr (
        less.0,
        placed_nearer c key items old new at
            (subst (λ (x : List ℕ). steps_left x new < steps_left x old) same less.1),
      )
