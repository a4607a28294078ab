-- Work on the index as it goes on: the limits of the store, and the snapshots in use.
use Rattle.std.proofs.Common.{◌≡◌, ◌≤◌, ℕ, List, [], inl, inr, refl, sym, ap, subst, ◌∙◌, arith}
use Rattle.std.specs.Prelude.{Option}
use Rattle.disk_trait.specs.declared.device.Disk.{Ghosts as Disk}
use Rattle.core_state.specs.States.{StateValue}
use Rattle.snap_pins.specs.Taken.{IsPinned}
use Rattle.snap_pins.specs.declared.Pin.{Pin}
use Rattle.buffer_frames.specs.Frames.{FramesValue, RunsOn}
use Rattle.buffer_frames.specs.Passes.{with_right}
use Rattle.buffer_frames.specs.declared.pass.Pass.{Pass}
use Rattle.gin_place.specs.Going.{WorksOn}
use Rattle.gin_vacuum.specs.Going.{VacuumsOn}
use Rattle.engine.specs.Cleaning.{IsAt}
use Rattle.engine.specs.Db.{DbValue}
use Rattle.engine.specs.Going.{Goes}
use Rattle.engine.specs.Inner.Cleaned.{WorksThrough}
use Rattle.engine.proofs.Growing.{runs_of}
use Rattle.engine.proofs.Paths.{path_state}
use Rattle.engine.proofs.PinsRisen.{Rises, rises}

module _ {D : Type 0} where
  pub at_in_turn : (f m g : FramesValue D) → IsAt f m → IsAt m g → IsAt f g
  at_in_turn f m g x y = record {
    limit = y.limit ∙ x.limit;
    pages = y.pages ∙ x.pages;
    flushed = omega (arith, x.flushed, y.flushed);
    longer = omega (arith, x.longer, y.longer);
    pins = λ place p is. elim (y.pins place p is) [
      | inl old ↦ x.pins place p old
      | inr new ↦ inr (omega (arith, x.flushed, new.0), omega (arith, x.longer, new.1))
    ];
  }

  -- the right of maintenance is claimed or given back
  pub at_right : (f g : FramesValue D) (w : Option ℕ) → g ≡ with_right w f → IsAt f g
  at_right f g w is = subst (IsAt f) (sym is) (record {
    limit = refl;
    pages = refl;
    flushed = omega arith;
    longer = omega arith;
    pins = λ place p pinned. inl pinned;
  })

module _ {D : Type 0} (device : Disk D) where
  at_by : (f g : FramesValue D) → RunsOn device f g → g.journal.state.pages ≡ f.journal.state.pages
      → f.journal.state.records ≤ g.journal.state.records → g.pins ≡ f.pins → IsAt f g
  at_by f g runs pages longer pins = record {
    limit = runs.limit;
    pages = pages;
    flushed = runs.flushed;
    longer = longer;
    pins = λ place p is. inl (subst (λ (ps : List (Option Pin)). IsPinned ps place p) pins is);
  }

  -- pages were read, or items came into the trees
  pub at_works : (f g : FramesValue D) (p q : Pass) (ks : List ℕ) → WorksOn device f p g q ks → IsAt f g
  at_works f g p q ks w = at_by f g w.goes.runs w.goes.state.pages w.added.longer w.pins

  pub at_through : {Is : ℕ → Type 0} (f g : FramesValue D) (p q : Pass) (ks : List ℕ)
      → WorksThrough device Is f p g q ks → IsAt f g
  at_through f g p q ks w = at_by f g w.goes.runs w.goes.state.pages w.added.longer w.pins

  -- dead documents went
  pub at_vacuums : (f g : FramesValue D) (p q : Pass) (ks : List ℕ) → VacuumsOn device f p g q ks → IsAt f g
  at_vacuums f g p q ks v = at_by f g v.runs v.state.pages v.added.longer v.pins

  -- nothing was logged
  pub at_goes : (a m : DbValue D) → Goes device a m [] → IsAt a.frames m.frames
  at_goes a m path =
      let r : Rises a m = rises device path in
      record {
        limit = (runs_of device path).limit;
        pages = ap (λ (s : StateValue). s.pages) (path_state device path).state;
        flushed = r.flushed;
        longer = r.records;
        pins = r.pins;
      }
