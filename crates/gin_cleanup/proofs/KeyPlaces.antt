-- Where a cleanup is after a step of the key that is placed.
use Rattle.std.proofs.Common.{◌≡◌, ◌≤◌, ℕ, List, [], length, refl, sym, subst, arith}
use Rattle.std.specs.Prelude.{Vec, Bool, true, false, Result, Ok, Err}
use Rattle.std.specs.declared.alloc.Global.{Global}
use Rattle.disk_trait.specs.declared.device.Disk.{Ghosts as Disk}
use Rattle.page_types.specs.Items.{AreItems}
use Rattle.page_types.specs.Keys.{IsKey}
use Rattle.core_state.specs.Log.{In}
use Rattle.core_state.specs.Allowed.{Sheet}
use Rattle.core_state.proofs.PageLists.{in_back}
use Rattle.buffer_frames.specs.Frames.{FramesValue}
use Rattle.buffer_frames.specs.Passes.{IsPassOf, IsHolding}
use Rattle.buffer_frames.specs.declared.pass.Pass.{Pass}
use Rattle.buffer_frames.proofs.AtHand.{none_held}
use Rattle.gin_place.specs.Causes.{Finds, IsBad, IsWhy}
use Rattle.gin_place.specs.Going.{WorksOn}
use Rattle.gin_place.specs.Placing.{HasRight, ArePending, ArePlaced, IsPlacing, IsAt as IsKeyIn}
use Rattle.gin_place.specs.Stepping.{HasStepped}
use Rattle.gin_place.specs.declared.error.PlaceError.{PlaceError}
use Rattle.gin_place.specs.declared.placing.Placing.{Placing}
use Rattle.gin_place.proofs.Causing.{finds_as, why_as}
use Rattle.gin_cleanup.specs.Cleaning.{waits_under, waits_in, waits_of, IsAt, AreGone, IsKeyAt, AreLeft, IsCleaning}
use Rattle.gin_cleanup.specs.Gathering.{Wait, wait}
use Rattle.gin_cleanup.specs.Going.{CleansOn, IsBadList, IsCause}
use Rattle.gin_cleanup.specs.Inner.Between.{HasNext}
use Rattle.gin_cleanup.specs.Inner.Stepping.{StepEnds}
use Rattle.gin_cleanup.specs.declared.cleanup.Cleanup.{Cleanup}
use Rattle.gin_cleanup.specs.declared.cleanup.Stage.{Stage}
use Rattle.gin_cleanup.specs.declared.cleanup.Stage.TheVariants as stage
use Rattle.gin_cleanup.proofs.Causes.{why_cause}
use Rattle.gin_cleanup.proofs.Cleaned.{cleans_by}
use Rattle.gin_cleanup.proofs.Cleanings.{not_empty}
use Rattle.gin_cleanup.proofs.Growing.{batch_grows}
use Rattle.gin_cleanup.proofs.ListKept.{carried, carried_by}
use Rattle.gin_cleanup.proofs.Nearer.{next_placed, by_kinds, by_step}
use Rattle.gin_cleanup.proofs.NextKeys.{key_placed, next_cleaning}
use Rattle.gin_cleanup.proofs.Noting.{has_under}
use Rattle.gin_cleanup.proofs.StillLeft.{left_grows}

module _ {D : Type 0} (device : Disk D)
    (f g : FramesValue D) (p q : Pass) (ks : List ℕ) (held : List Sheet) (hold : IsHolding device f p held)
    (of : IsPassOf f p) (right : HasRight p) (works : WorksOn device f p g q ks) (from : ℕ) (c : Cleanup)
    (key items : Vec ℕ Global) (old new : Placing) (at : c.stage ≡ stage.Placing key items old) where
  -- the same pairs wait, and the key has gone on
  pub placed_on : IsPlacing device g q key.items items.items new → IsCleaning device f p from c
      → IsCleaning device g q from (record c { stage = stage.Placing key items new })
  placed_on placing x =
      let W : List Wait = waits_of c.gathered (stage.Placing key items old) in
      let k = subst (IsKeyAt device f p) at x.placing in
      let same : (w : Wait) → In w W → In w (waits_of c.gathered c.stage) =
      λ w. subst (λ (s : Stage). In w (waits_of c.gathered s)) (sym at) in
      record {
        began = omega (arith, x.began, (works.rises).seen);
        at = carried device f g p q ks held hold of right works
            (λ P. IsAt P c (stage.Placing key items old))
            (λ P Q grows new kept b. batch_grows.batch P Q c.left c.counts.items W b grows new kept)
            (λ t up R stands legal P shown.
            subst (λ (s : Stage). IsAt P c s) at (x.at t up R stands legal P shown));
        gone = subst (AreGone c) at x.gone;
        linked = λ w i. works.pairs.pending w.key w.item (x.linked w (same w i));
        pairs = λ w i. x.pairs w (same w i);
        placing = (k.0, k.1, placing);
        left = carried_by device f g p q ks held hold of right works
            (λ S P. AreLeft from S P c.left) (λ S P. AreLeft from S P c.left)
            (λ C later S P Q is size legal shown_P shown_Q adds grows new kept y.
            left_grows from C later S P Q is (not_empty p.seen C (omega (arith, of.some)) size) legal shown_P adds
            (omega (arith, x.began, size)) c.left grows y) x.left;
      }

-- the items under it have linked rows
rows_pending : {D : Type 0} (device : Disk D) (f : FramesValue D) (p : Pass) (from : ℕ) (c : Cleanup)
    (key items : Vec ℕ Global) (old : Placing) → c.stage ≡ stage.Placing key items old → IsCleaning device f p from c
    → ArePending device f p key.items items.items
rows_pending device f p from c key items old at x i on =
    x.linked (wait key.items i) (subst (λ (s : Stage). In (wait key.items i) (waits_of c.gathered s)) (sym at)
    (in_back (wait key.items i) (waits_in c.gathered) (waits_under key.items items.items)
    (has_under key.items items.items i on)))

-- a refusal of placing is one of the cleanup
place_cause : {D : Type 0} (device : Disk D) (f : FramesValue D) (p : Pass) (k : List ℕ) (old : Placing)
    (l : FramesValue D) (e : PlaceError) → Finds device f p (IsWhy device (IsBad device k old) l e)
    → Finds device f p (IsCause device l e)
place_cause device f p k old l e =
    finds_as device f p (IsWhy device (IsBad device k old) l e) (IsCause device l e)
    (λ g q why. why_cause device l e g q
    (why_as device (IsBad device k old) (IsBadList device) l e g q (λ n bad. IsBadList.place k (old, bad)) why))

-- what a step of placing says, by the key and the items as it was given them
module _ {D : Type 0} (device : Disk D) (f g : FramesValue D) (p q : Pass) (of : IsPassOf f p) (right : HasRight p)
    (none : p.held ≡ 0) (c : Cleanup) (key items : Vec ℕ Global) (old new : Placing)
    (at : c.stage ≡ stage.Placing key items old) (k is : List ℕ) (k_is : k ≡ key.items) (is_is : is ≡ items.items) where
  -- what it asks of them
  pub step_asks : (from : ℕ) → IsCleaning device f p from c
      → IsKey k × AreItems is × ArePending device f p k is × IsPlacing device f p k is old
  step_asks from was =
      let x = subst (IsKeyAt device f p) at was.placing in
      subst (λ (j : List ℕ). IsKey j × AreItems is × ArePending device f p j is × IsPlacing device f p j is old)
      (sym k_is) (subst (λ (js : List ℕ). IsKey key.items × AreItems js × ArePending device f p key.items js
      × IsPlacing device f p key.items js old) (sym is_is)
      (x.0, x.1, rows_pending device f p from c key items old at was, x.2))

  abbrev then : Cleanup
  then = record c { stage = stage.Placing key items new }

  module _ (r : Result Bool PlaceError) (s : HasStepped device f p g q k is old new r) where
    step_on : (from : ℕ) → IsCleaning device f p from c → IsCleaning device g q from then
    step_on from =
        let w = s.works in
        placed_on device f g p q w.0 [] (none_held device f p of none) of right w.2 from c key items old new at
        (subst (λ (x : List ℕ). IsPlacing device g q x items.items new) k_is
        (subst (λ (x : List ℕ). IsPlacing device g q k x new) is_is s.placing))

    cleans : (kinds : List ℕ) × (length kinds ≤ 1) × CleansOn device f p g q kinds
    cleans = let w = s.works in (w.0, w.1, cleans_by device f g p q w.0 w.2)

  -- it is refused
  pub step_refused : {T : Type 0} (e : PlaceError) → HasStepped device f p g q k is old new (Err e)
      → StepEnds {T = T} device f p g q c then (Err e)
  step_refused e s = record {
    cleaning = step_on (Err e) s;
    none_held = s.none_held;
    works = cleans (Err e) s;
    refused = cleans_by device f g p q [] s.refused;
    lower = tt;
    cause = place_cause device f p k old g e s.cause;
    fine = tt;
    fault = s.fault;
  }

  module _ (more : Bool) (s : HasStepped device f p g q k is old new (Ok more)) where
    -- more are to come under the key
    pub step_more : {T : Type 0} {x : T} → more ≡ true → StepEnds device f p g q c then (Ok x)
    step_more goes = record {
      cleaning = step_on (Ok more) s;
      none_held = s.none_held;
      works = cleans (Ok more) s;
      refused = tt;
      lower = by_step f g c key items old new at is is_is (s.lower goes);
      cause = tt;
      fine = s.fine;
      fault = tt;
    }

    -- it was the last one, and the next key is at work, or none
    pub step_last : {T : Type 0} {x : T} → more ≡ false → (last : Cleanup) → HasNext then last
        → StepEnds device f p g q c last (Ok x)
    step_last ends last next =
        let placed : ArePlaced device g q k is =
        subst (IsKeyIn device g q k is new.from) (s.done.0 ends) (s.placing).0 in
        record {
          cleaning = λ from was.
              next_cleaning device g q from then last (key_placed device g q from then key items new refl
              (step_on (Ok more) s from was)
              (subst (λ (y : List ℕ). ArePlaced device g q y items.items) k_is
              (subst (λ (y : List ℕ). ArePlaced device g q k y) is_is placed))) next;
          none_held = s.none_held;
          works = cleans (Ok more) s;
          refused = tt;
          lower = by_kinds f g c last s.works.0 s.works.2.goes.records (next_placed c last key items old new at next);
          cause = tt;
          fine = s.fine;
          fault = tt;
        }
