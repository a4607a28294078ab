use Rattle.std.proofs.Common.{◌≡◌, [], refl, sym, ap, subst, arith}
use Rattle.std.specs.Prelude.{◌↔◌, Some, Err}
use Rattle.wal.specs.Waiting.{down_of}
use Rattle.buffer_frames.specs.Beginnings.{BeginsOn}
use Rattle.buffer_frames.specs.Frames.{FramesValue, RunsOn, KeepsState}
use Rattle.buffer_frames.specs.Journals.{JournalValue}
use Rattle.buffer_frames.specs.Passes.{IsPassOf, IsHolding, HasAdded}
use Rattle.buffer_frames.specs.declared.log_error.LogError.TheVariants.{Down}
use Rattle.buffer_frames.proofs.Beginning.{begins_on}
use Rattle.buffer_frames.proofs.FramesKept.{framed, holds_on}
use Rattle.buffer_frames.proofs.GrowingCommits.{flush_grows, was_up}
use Rattle.buffer_frames.proofs.JournalKept.{others_kept}
use Rattle.buffer_frames.proofs.RunsKept.{runs_on}
use Rattle.buffer_frames.proofs.Unlogged.{IsUnlogged, stands_flushed, unlogged_frames, nothing_logged, same_state}
use Rattle.buffer_frames.proofs.Unlogged.{unlogged_pass, unlogged_sees}
use Rattle.buffer_frames.proofs.frames.Frames.flush_log.Goals as goal

pub invariant_of-self : goal.invariant_of-self
invariant_of-self g c =
    let j = c.self.inside.journal in
    let pins = c.self.inside.pins in
    let homes = c.self.inside.homes.items in
    let pass = c.args.pass.now in
    let j' = c.flush-flushed.new.self in
    let are = c.self.invariant in
    let grows = flush_grows g.D.Disk are.log j j' c.flush-flushed.result are.stands.journal c.flush-flushed.ensures.done
    c.flush-flushed.ensures.refused_flushed c.flush-flushed.ensures.is_down in
    let was = was_up c.flush-flushed.result (g.D.Disk.fault_count j'.disk) (down_of j.wal) (down_of j'.wal)
    c.flush-flushed.ensures.goes_down in
    let un : IsUnlogged g.D.Disk j j' = record {
      stands = c.flush-flushed.ensures.stands;
      was_up = was;
      flushed = grows.1;
      more = grows.0;
      state = c.flush-flushed.ensures.same.0;
      owes = c.flush-flushed.ensures.same.1;
      work = c.flush-flushed.ensures.work;
    } in
    let stands =
    stands_flushed g.D.Disk c.counted_are_one.ensures (λ t d. g.met.D.Disk.seen_is_image d t) j j' pins homes un in
    unlogged_frames g.D.Disk c.counted_are_one.ensures
    (λ t d. g.met.D.Disk.seen_is_image d t) j j' pins homes homes un are stands are.pages

pub returns-clause-pass : goal.returns-clause-pass
returns-clause-pass g c =
    let j = c.self.inside.journal in
    let pins = c.self.inside.pins in
    let homes = c.self.inside.homes.items in
    let pass = c.args.pass.now in
    let j' = c.flush-flushed.new.self in
    let are = c.self.invariant in
    let grows = flush_grows g.D.Disk are.log j j' c.flush-flushed.result are.stands.journal c.flush-flushed.ensures.done
    c.flush-flushed.ensures.refused_flushed c.flush-flushed.ensures.is_down in
    let was = was_up c.flush-flushed.result (g.D.Disk.fault_count j'.disk) (down_of j.wal) (down_of j'.wal)
    c.flush-flushed.ensures.goes_down in
    let un : IsUnlogged g.D.Disk j j' = record {
      stands = c.flush-flushed.ensures.stands;
      was_up = was;
      flushed = grows.1;
      more = grows.0;
      state = c.flush-flushed.ensures.same.0;
      owes = c.flush-flushed.ensures.same.1;
      work = c.flush-flushed.ensures.work;
    } in
    let stands =
    stands_flushed g.D.Disk c.counted_are_one.ensures (λ t d. g.met.D.Disk.seen_is_image d t) j j' pins homes un in
    let of = subst (λ (f : FramesValue g.row.D.Denot). IsPassOf f pass) (sym c.self.view_is) c.requires.pass in
    unlogged_pass g.D.Disk c.counted_are_one.ensures
    (λ t d. g.met.D.Disk.seen_is_image d t) j j' pins homes homes un are stands pass pass.held c.flushed-pass.result
    of.few (omega (arith, c.flushed-pass.ensures)) of

pub returns-clause-holding : goal.returns-clause-holding
returns-clause-holding g c held h =
    let j = c.self.inside.journal in
    let pins = c.self.inside.pins in
    let homes = c.self.inside.homes.items in
    let pass = c.args.pass.now in
    let j' = c.flush-flushed.new.self in
    let are = c.self.invariant in
    let grows = flush_grows g.D.Disk are.log j j' c.flush-flushed.result are.stands.journal c.flush-flushed.ensures.done
    c.flush-flushed.ensures.refused_flushed c.flush-flushed.ensures.is_down in
    let was = was_up c.flush-flushed.result (g.D.Disk.fault_count j'.disk) (down_of j.wal) (down_of j'.wal)
    c.flush-flushed.ensures.goes_down in
    let un : IsUnlogged g.D.Disk j j' = record {
      stands = c.flush-flushed.ensures.stands;
      was_up = was;
      flushed = grows.1;
      more = grows.0;
      state = c.flush-flushed.ensures.same.0;
      owes = c.flush-flushed.ensures.same.1;
      work = c.flush-flushed.ensures.work;
    } in
    let stands =
    stands_flushed g.D.Disk c.counted_are_one.ensures (λ t d. g.met.D.Disk.seen_is_image d t) j j' pins homes un in
    let of = subst (λ (f : FramesValue g.row.D.Denot). IsPassOf f pass) (sym c.self.view_is) c.requires.pass in
    let holds = subst (λ (f : FramesValue g.row.D.Denot). IsHolding g.D.Disk f pass held) (sym c.self.view_is) h in
    holds_on g.D.Disk c.counted_are_one.ensures (λ t d. g.met.D.Disk.seen_is_image d t) j j' pins pins homes pass
    (record pass { shown = c.flushed-pass.result }) held are stands was
    (unlogged_pass g.D.Disk c.counted_are_one.ensures
    (λ t d. g.met.D.Disk.seen_is_image d t) j j' pins homes homes un are stands pass pass.held c.flushed-pass.result
    of.few (omega (arith, c.flushed-pass.ensures)) of) refl holds

pub returns-clause-added : goal.returns-clause-added
returns-clause-added g c =
    let j = c.self.inside.journal in
    let pins = c.self.inside.pins in
    let homes = c.self.inside.homes.items in
    let pass = c.args.pass.now in
    let j' = c.flush-flushed.new.self in
    let are = c.self.invariant in
    let grows = flush_grows g.D.Disk are.log j j' c.flush-flushed.result are.stands.journal c.flush-flushed.ensures.done
    c.flush-flushed.ensures.refused_flushed c.flush-flushed.ensures.is_down in
    let was = was_up c.flush-flushed.result (g.D.Disk.fault_count j'.disk) (down_of j.wal) (down_of j'.wal)
    c.flush-flushed.ensures.goes_down in
    let un : IsUnlogged g.D.Disk j j' = record {
      stands = c.flush-flushed.ensures.stands;
      was_up = was;
      flushed = grows.1;
      more = grows.0;
      state = c.flush-flushed.ensures.same.0;
      owes = c.flush-flushed.ensures.same.1;
      work = c.flush-flushed.ensures.work;
    } in
    let stands =
    stands_flushed g.D.Disk c.counted_are_one.ensures (λ t d. g.met.D.Disk.seen_is_image d t) j j' pins homes un in
    subst (λ (f : FramesValue g.row.D.Denot). HasAdded g.D.Disk f (framed j' pins homes) []) c.self.view_is
    (nothing_logged g.D.Disk c.counted_are_one.ensures
    (λ t d. g.met.D.Disk.seen_is_image d t) j j' pins homes homes un are stands)

pub returns-clause-sees_on : goal.returns-clause-sees_on
returns-clause-sees_on g c =
    let j = c.self.inside.journal in
    let pins = c.self.inside.pins in
    let homes = c.self.inside.homes.items in
    let pass = c.args.pass.now in
    let j' = c.flush-flushed.new.self in
    let are = c.self.invariant in
    let grows = flush_grows g.D.Disk are.log j j' c.flush-flushed.result are.stands.journal c.flush-flushed.ensures.done
    c.flush-flushed.ensures.refused_flushed c.flush-flushed.ensures.is_down in
    let was = was_up c.flush-flushed.result (g.D.Disk.fault_count j'.disk) (down_of j.wal) (down_of j'.wal)
    c.flush-flushed.ensures.goes_down in
    let un : IsUnlogged g.D.Disk j j' = record {
      stands = c.flush-flushed.ensures.stands;
      was_up = was;
      flushed = grows.1;
      more = grows.0;
      state = c.flush-flushed.ensures.same.0;
      owes = c.flush-flushed.ensures.same.1;
      work = c.flush-flushed.ensures.work;
    } in
    let stands =
    stands_flushed g.D.Disk c.counted_are_one.ensures (λ t d. g.met.D.Disk.seen_is_image d t) j j' pins homes un in
    let of = subst (λ (f : FramesValue g.row.D.Denot). IsPassOf f pass) (sym c.self.view_is) c.requires.pass in
    unlogged_sees g.D.Disk c.counted_are_one.ensures (λ t d. g.met.D.Disk.seen_is_image d t) j j' pins homes homes un
    are stands pass pass.held c.flushed-pass.result of

pub returns-clause-state : goal.returns-clause-state
returns-clause-state g c =
    let j = c.self.inside.journal in
    let pins = c.self.inside.pins in
    let homes = c.self.inside.homes.items in
    let pass = c.args.pass.now in
    let j' = c.flush-flushed.new.self in
    let are = c.self.invariant in
    let grows = flush_grows g.D.Disk are.log j j' c.flush-flushed.result are.stands.journal c.flush-flushed.ensures.done
    c.flush-flushed.ensures.refused_flushed c.flush-flushed.ensures.is_down in
    let was = was_up c.flush-flushed.result (g.D.Disk.fault_count j'.disk) (down_of j.wal) (down_of j'.wal)
    c.flush-flushed.ensures.goes_down in
    let un : IsUnlogged g.D.Disk j j' = record {
      stands = c.flush-flushed.ensures.stands;
      was_up = was;
      flushed = grows.1;
      more = grows.0;
      state = c.flush-flushed.ensures.same.0;
      owes = c.flush-flushed.ensures.same.1;
      work = c.flush-flushed.ensures.work;
    } in
    let stands =
    stands_flushed g.D.Disk c.counted_are_one.ensures (λ t d. g.met.D.Disk.seen_is_image d t) j j' pins homes un in
    subst (λ (f : FramesValue g.row.D.Denot). KeepsState f (framed j' pins homes)) c.self.view_is
    (same_state g.D.Disk c.counted_are_one.ensures
    (λ t d. g.met.D.Disk.seen_is_image d t) j j' pins homes homes un are stands)

pub returns-clause-rises : goal.returns-clause-rises
returns-clause-rises g c =
    let j = c.self.inside.journal in
    let pins = c.self.inside.pins in
    let homes = c.self.inside.homes.items in
    let pass = c.args.pass.now in
    let j' = c.flush-flushed.new.self in
    let are = c.self.invariant in
    let grows = flush_grows g.D.Disk are.log j j' c.flush-flushed.result are.stands.journal c.flush-flushed.ensures.done
    c.flush-flushed.ensures.refused_flushed c.flush-flushed.ensures.is_down in
    let was = was_up c.flush-flushed.result (g.D.Disk.fault_count j'.disk) (down_of j.wal) (down_of j'.wal)
    c.flush-flushed.ensures.goes_down in
    let un : IsUnlogged g.D.Disk j j' = record {
      stands = c.flush-flushed.ensures.stands;
      was_up = was;
      flushed = grows.1;
      more = grows.0;
      state = c.flush-flushed.ensures.same.0;
      owes = c.flush-flushed.ensures.same.1;
      work = c.flush-flushed.ensures.work;
    } in
    let stands =
    stands_flushed g.D.Disk c.counted_are_one.ensures (λ t d. g.met.D.Disk.seen_is_image d t) j j' pins homes un in
    let of = subst (λ (f : FramesValue g.row.D.Denot). IsPassOf f pass) (sym c.self.view_is) c.requires.pass in
    record {
      seen = omega arith;
      shown = omega (arith, of.shown, grows.0, c.flushed-pass.ensures);
      floor = omega arith;
      since = omega arith;
    }

pub returns-clause-runs_on : goal.returns-clause-runs_on
returns-clause-runs_on g c =
    let j = c.self.inside.journal in
    let pins = c.self.inside.pins in
    let homes = c.self.inside.homes.items in
    let pass = c.args.pass.now in
    let j' = c.flush-flushed.new.self in
    let are = c.self.invariant in
    let grows = flush_grows g.D.Disk are.log j j' c.flush-flushed.result are.stands.journal c.flush-flushed.ensures.done
    c.flush-flushed.ensures.refused_flushed c.flush-flushed.ensures.is_down in
    let was = was_up c.flush-flushed.result (g.D.Disk.fault_count j'.disk) (down_of j.wal) (down_of j'.wal)
    c.flush-flushed.ensures.goes_down in
    let un : IsUnlogged g.D.Disk j j' = record {
      stands = c.flush-flushed.ensures.stands;
      was_up = was;
      flushed = grows.1;
      more = grows.0;
      state = c.flush-flushed.ensures.same.0;
      owes = c.flush-flushed.ensures.same.1;
      work = c.flush-flushed.ensures.work;
    } in
    let stands =
    stands_flushed g.D.Disk c.counted_are_one.ensures (λ t d. g.met.D.Disk.seen_is_image d t) j j' pins homes un in
    subst (λ (f : FramesValue g.row.D.Denot). RunsOn g.D.Disk f (framed j' pins homes)) c.self.view_is
    (runs_on g.D.Disk c.counted_are_one.ensures j j' are.log are.stands.journal pins homes homes
    c.flush-flushed.ensures.stays_down c.flush-flushed.ensures.any_moment c.flush-flushed.ensures.same.2
    c.flush-flushed.ensures.opened grows.0 c.flush-flushed.ensures.pages was)

pub returns-clause-is_down : goal.returns-clause-is_down
returns-clause-is_down g c f =
    subst (λ (k : FramesValue g.row.D.Denot).
    (c.flush-flushed.result ≡ Err (Down f)) ↔ (down_of k.journal.wal ≡ Some f)) c.self.view_is
    (c.flush-flushed.ensures.is_down f)

pub returns-clause-others : goal.returns-clause-others
returns-clause-others g c =
    others_kept c.args.self.now
    (framed c.flush-flushed.new.self c.self.inside.pins c.self.inside.homes.items) []
    (ap (λ (k : FramesValue g.row.D.Denot). k.homes) c.self.view_is)

pub returns-clause-begins : goal.returns-clause-begins
returns-clause-begins g c =
    let j = c.self.inside.journal in
    let j' = c.flush-flushed.new.self in
    let flush = c.flush-flushed.ensures in
    subst (λ (k : FramesValue g.row.D.Denot). BeginsOn g.D.Disk k.journal j') c.self.view_is
    (begins_on g.D.Disk c.counted_are_one.ensures j j' flush.opened
    (λ f down. ap (λ (k : JournalValue g.row.D.Denot). k.disk) (flush.stays_down f down)) flush.any_moment flush.stands)
