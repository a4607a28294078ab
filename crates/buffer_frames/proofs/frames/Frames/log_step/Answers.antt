use Rattle.std.proofs.Common.{◌≡◌, ◌∷◌, List, [], suc, length, refl, sym, ap, subst, ◌∙◌, arith}
use Rattle.std.specs.Prelude.{◌↔◌, Some, Result, Err}
use Rattle.std.proofs.lemmas.Result.{err_from_is_err_and}
use Rattle.wal.specs.Waiting.{down_of}
use Rattle.page_types.specs.Records.{kind_number}
use Rattle.page_types.specs.declared.record.Kind.{Kind}
use Rattle.core_state.specs.Log.{Log, In}
use Rattle.core_state.specs.Legal.{IsLegal}
use Rattle.core_state.specs.Allowed.{Sheet, Step, sheet_pages}
use Rattle.core_state.specs.States.{StateValue}
use Rattle.buffer_frames.specs.Drawing.{made_sheets}
use Rattle.buffer_frames.specs.Homes.{HasPut}
use Rattle.buffer_frames.specs.Beginnings.{BeginsOn, BeginsWith}
use Rattle.buffer_frames.specs.Journals.{JournalValue, after_owed, logged, next_number, next_record}
use Rattle.buffer_frames.specs.Frames.{FramesValue, Stands, Behind, RunsOn, KeepsState, LieThere, KeepsOthers}
use Rattle.buffer_frames.specs.Passes.{HasAdded, view_of, xid_after}
use Rattle.buffer_frames.specs.declared.log_error.LogError.{LogError}
use Rattle.buffer_frames.specs.declared.log_error.LogError.TheVariants.{Down}
use Rattle.buffer_frames.specs.declared.pass.Pass.{Pass}
use Rattle.buffer_frames.specs.declared.step.Drawn.{Drawn}
use Rattle.buffer_frames.proofs.Beginning.{begins_on, begins_with, early_drawn}
use Rattle.buffer_frames.proofs.Exits.{on_refusal}
use Rattle.buffer_frames.proofs.FramesKept.{framed, holds_none}
use Rattle.buffer_frames.proofs.GrowingCommits.{log_grows, was_up, up_logged}
use Rattle.buffer_frames.proofs.HomesLie.{lies_put, lies_before, others_stay}
use Rattle.buffer_frames.proofs.RunsKept.{runs_on}
use Rattle.buffer_frames.proofs.StepSheets.{made_pages, held_there, made_there, made_once}
use Rattle.buffer_frames.proofs.StepsKept.{HasStepped, asked_of, may_follow, stepped_frames, stepped_pages}
use Rattle.buffer_frames.proofs.StepsKept.{new_stands, step_added, step_seen, stepped_pass, work_rests, xid_drawn}
use Rattle.buffer_frames.proofs.Unlogged.{IsUnlogged, stands_refused, unlogged_frames, nothing_logged, same_state}
use Rattle.buffer_frames.proofs.Unlogged.{unlogged_pass, unlogged_sees}
use Rattle.buffer_frames.proofs.frames.Frames.log_step.Goals as goal

pub put_held-requires-clause-there : goal.put_held-requires-clause-there
put_held-requires-clause-there g c =
    let j = c.self.inside.journal in
    let pins = c.self.inside.pins in
    let homes = c.self.inside.homes.items in
    let pass = c.args.pass.now in
    let held = c.args.held.items in
    let step = c.args.step in
    let asked =
    asked_of g.D.Disk (framed j pins homes) c.args.self.now pass held step c.self.view_is c.self.invariant
    c.requires.pass c.requires.holding c.requires.encoded c.requires.kind c.requires.may c.requires.owes in
    held_there homes held (asked.holding).away

pub put_held-requires-clause-once : goal.put_held-requires-clause-once
put_held-requires-clause-once g c =
    c.requires.holding.once

pub invariant_of-self : goal.invariant_of-self
invariant_of-self g c =
    let j = c.self.inside.journal in
    let pins = c.self.inside.pins in
    let homes = c.self.inside.homes.items in
    let pass = c.args.pass.now in
    let held = c.args.held.items in
    let step = c.args.step in
    let asked =
    asked_of g.D.Disk (framed j pins homes) c.args.self.now pass held step c.self.view_is c.self.invariant
    c.requires.pass c.requires.holding c.requires.encoded c.requires.kind c.requires.may c.requires.owes in
    let j' = c.log_step.new.self in
    let mid = c.put_held.new.homes.items in
    let was = was_up c.log_step.result (g.D.Disk.fault_count j'.disk) (down_of j.wal) (down_of j'.wal)
    c.log_step.ensures.goes_down in
    let more = log_grows g.D.Disk (asked.are).log j j' ((asked.are).stands).journal c.log_step.ensures.stays_down
    c.log_step.ensures.flushed in
    let un : IsUnlogged g.D.Disk j j' = record {
      stands = λ R s. c.in_err-drawn.ensures.refused R s;
      was_up = was;
      flushed = c.log_step.ensures.flushed;
      more = more;
      state = c.in_err-drawn.ensures.refused_state.0;
      owes = c.in_err-drawn.ensures.refused_state.1;
      work = c.in_err-drawn.ensures.refused_work;
    } in
    let stands =
    stands_refused g.D.Disk c.counted_are_one.ensures
    (λ t d. g.met.D.Disk.seen_is_image d t) j j' pins homes un mid pass held asked.holding
    c.put_held.ensures.put in
    unlogged_frames g.D.Disk c.counted_are_one.ensures (λ t d. g.met.D.Disk.seen_is_image d t) j j' pins homes mid un
    asked.are stands (c.put_held.ensures.pages (asked.are).pages)

pub returns-in_err-drawn-clause-pass : goal.returns-in_err-drawn-clause-pass
returns-in_err-drawn-clause-pass g c =
    let j = c.self.inside.journal in
    let pins = c.self.inside.pins in
    let homes = c.self.inside.homes.items in
    let pass = c.args.pass.now in
    let held = c.args.held.items in
    let step = c.args.step in
    let asked =
    asked_of g.D.Disk (framed j pins homes) c.args.self.now pass held step c.self.view_is c.self.invariant
    c.requires.pass c.requires.holding c.requires.encoded c.requires.kind c.requires.may c.requires.owes in
    let j' = c.log_step.new.self in
    let mid = c.put_held.new.homes.items in
    let was = was_up c.log_step.result (g.D.Disk.fault_count j'.disk) (down_of j.wal) (down_of j'.wal)
    c.log_step.ensures.goes_down in
    let more = log_grows g.D.Disk (asked.are).log j j' ((asked.are).stands).journal c.log_step.ensures.stays_down
    c.log_step.ensures.flushed in
    let un : IsUnlogged g.D.Disk j j' = record {
      stands = λ R s. c.in_err-drawn.ensures.refused R s;
      was_up = was;
      flushed = c.log_step.ensures.flushed;
      more = more;
      state = c.in_err-drawn.ensures.refused_state.0;
      owes = c.in_err-drawn.ensures.refused_state.1;
      work = c.in_err-drawn.ensures.refused_work;
    } in
    let stands =
    stands_refused g.D.Disk c.counted_are_one.ensures
    (λ t d. g.met.D.Disk.seen_is_image d t) j j' pins homes un mid pass held asked.holding
    c.put_held.ensures.put in
    unlogged_pass g.D.Disk c.counted_are_one.ensures
    (λ t d. g.met.D.Disk.seen_is_image d t) j j' pins homes mid un asked.are stands pass 0 pass.shown
    (omega arith) (omega (arith, (asked.of).shown, more)) asked.of

pub returns-in_err-drawn-clause-none_held : goal.returns-in_err-drawn-clause-none_held
returns-in_err-drawn-clause-none_held g c =
    let j = c.self.inside.journal in
    let pins = c.self.inside.pins in
    let homes = c.self.inside.homes.items in
    let pass = c.args.pass.now in
    let held = c.args.held.items in
    let step = c.args.step in
    let asked =
    asked_of g.D.Disk (framed j pins homes) c.args.self.now pass held step c.self.view_is c.self.invariant
    c.requires.pass c.requires.holding c.requires.encoded c.requires.kind c.requires.may c.requires.owes in
    let j' = c.log_step.new.self in
    let mid = c.put_held.new.homes.items in
    let was = was_up c.log_step.result (g.D.Disk.fault_count j'.disk) (down_of j.wal) (down_of j'.wal)
    c.log_step.ensures.goes_down in
    let more = log_grows g.D.Disk (asked.are).log j j' ((asked.are).stands).journal c.log_step.ensures.stays_down
    c.log_step.ensures.flushed in
    let un : IsUnlogged g.D.Disk j j' = record {
      stands = λ R s. c.in_err-drawn.ensures.refused R s;
      was_up = was;
      flushed = c.log_step.ensures.flushed;
      more = more;
      state = c.in_err-drawn.ensures.refused_state.0;
      owes = c.in_err-drawn.ensures.refused_state.1;
      work = c.in_err-drawn.ensures.refused_work;
    } in
    let stands =
    stands_refused g.D.Disk c.counted_are_one.ensures
    (λ t d. g.met.D.Disk.seen_is_image d t) j j' pins homes un mid pass held asked.holding
    c.put_held.ensures.put in
    holds_none g.D.Disk c.counted_are_one.ensures (λ t d. g.met.D.Disk.seen_is_image d t) (framed j' pins mid)
    (record pass { held = 0 })
    (unlogged_pass g.D.Disk c.counted_are_one.ensures
    (λ t d. g.met.D.Disk.seen_is_image d t) j j' pins homes mid un asked.are stands pass 0 pass.shown
    (omega arith) (omega (arith, (asked.of).shown, more)) asked.of) refl

pub returns-in_err-drawn-clause-refused : goal.returns-in_err-drawn-clause-refused
returns-in_err-drawn-clause-refused g c =
    let j = c.self.inside.journal in
    let pins = c.self.inside.pins in
    let homes = c.self.inside.homes.items in
    let pass = c.args.pass.now in
    let held = c.args.held.items in
    let step = c.args.step in
    let asked =
    asked_of g.D.Disk (framed j pins homes) c.args.self.now pass held step c.self.view_is c.self.invariant
    c.requires.pass c.requires.holding c.requires.encoded c.requires.kind c.requires.may c.requires.owes in
    let j' = c.log_step.new.self in
    let mid = c.put_held.new.homes.items in
    let was = was_up c.log_step.result (g.D.Disk.fault_count j'.disk) (down_of j.wal) (down_of j'.wal)
    c.log_step.ensures.goes_down in
    let more = log_grows g.D.Disk (asked.are).log j j' ((asked.are).stands).journal c.log_step.ensures.stays_down
    c.log_step.ensures.flushed in
    let un : IsUnlogged g.D.Disk j j' = record {
      stands = λ R s. c.in_err-drawn.ensures.refused R s;
      was_up = was;
      flushed = c.log_step.ensures.flushed;
      more = more;
      state = c.in_err-drawn.ensures.refused_state.0;
      owes = c.in_err-drawn.ensures.refused_state.1;
      work = c.in_err-drawn.ensures.refused_work;
    } in
    let stands =
    stands_refused g.D.Disk c.counted_are_one.ensures
    (λ t d. g.met.D.Disk.seen_is_image d t) j j' pins homes un mid pass held asked.holding
    c.put_held.ensures.put in
    on_refusal _ c.from_residual.result
    (subst (λ (k : FramesValue g.row.D.Denot). HasAdded g.D.Disk k (framed j' pins mid) []) c.self.view_is
    (nothing_logged g.D.Disk c.counted_are_one.ensures
    (λ t d. g.met.D.Disk.seen_is_image d t) j j' pins homes mid un asked.are stands))

pub returns-in_err-drawn-clause-refused_state : goal.returns-in_err-drawn-clause-refused_state
returns-in_err-drawn-clause-refused_state g c =
    let j = c.self.inside.journal in
    let pins = c.self.inside.pins in
    let homes = c.self.inside.homes.items in
    let pass = c.args.pass.now in
    let held = c.args.held.items in
    let step = c.args.step in
    let asked =
    asked_of g.D.Disk (framed j pins homes) c.args.self.now pass held step c.self.view_is c.self.invariant
    c.requires.pass c.requires.holding c.requires.encoded c.requires.kind c.requires.may c.requires.owes in
    let j' = c.log_step.new.self in
    let mid = c.put_held.new.homes.items in
    let was = was_up c.log_step.result (g.D.Disk.fault_count j'.disk) (down_of j.wal) (down_of j'.wal)
    c.log_step.ensures.goes_down in
    let more = log_grows g.D.Disk (asked.are).log j j' ((asked.are).stands).journal c.log_step.ensures.stays_down
    c.log_step.ensures.flushed in
    let un : IsUnlogged g.D.Disk j j' = record {
      stands = λ R s. c.in_err-drawn.ensures.refused R s;
      was_up = was;
      flushed = c.log_step.ensures.flushed;
      more = more;
      state = c.in_err-drawn.ensures.refused_state.0;
      owes = c.in_err-drawn.ensures.refused_state.1;
      work = c.in_err-drawn.ensures.refused_work;
    } in
    let stands =
    stands_refused g.D.Disk c.counted_are_one.ensures
    (λ t d. g.met.D.Disk.seen_is_image d t) j j' pins homes un mid pass held asked.holding
    c.put_held.ensures.put in
    on_refusal _ c.from_residual.result
    (subst (λ (k : FramesValue g.row.D.Denot). KeepsState k (framed j' pins mid)) c.self.view_is
    (same_state g.D.Disk c.counted_are_one.ensures
    (λ t d. g.met.D.Disk.seen_is_image d t) j j' pins homes mid un asked.are stands))

pub returns-in_err-drawn-clause-refused_sees_on : goal.returns-in_err-drawn-clause-refused_sees_on
returns-in_err-drawn-clause-refused_sees_on g c =
    let j = c.self.inside.journal in
    let pins = c.self.inside.pins in
    let homes = c.self.inside.homes.items in
    let pass = c.args.pass.now in
    let held = c.args.held.items in
    let step = c.args.step in
    let asked =
    asked_of g.D.Disk (framed j pins homes) c.args.self.now pass held step c.self.view_is c.self.invariant
    c.requires.pass c.requires.holding c.requires.encoded c.requires.kind c.requires.may c.requires.owes in
    let j' = c.log_step.new.self in
    let mid = c.put_held.new.homes.items in
    let was = was_up c.log_step.result (g.D.Disk.fault_count j'.disk) (down_of j.wal) (down_of j'.wal)
    c.log_step.ensures.goes_down in
    let more = log_grows g.D.Disk (asked.are).log j j' ((asked.are).stands).journal c.log_step.ensures.stays_down
    c.log_step.ensures.flushed in
    let un : IsUnlogged g.D.Disk j j' = record {
      stands = λ R s. c.in_err-drawn.ensures.refused R s;
      was_up = was;
      flushed = c.log_step.ensures.flushed;
      more = more;
      state = c.in_err-drawn.ensures.refused_state.0;
      owes = c.in_err-drawn.ensures.refused_state.1;
      work = c.in_err-drawn.ensures.refused_work;
    } in
    let stands =
    stands_refused g.D.Disk c.counted_are_one.ensures
    (λ t d. g.met.D.Disk.seen_is_image d t) j j' pins homes un mid pass held asked.holding
    c.put_held.ensures.put in
    on_refusal _ c.from_residual.result
    (unlogged_sees g.D.Disk c.counted_are_one.ensures
    (λ t d. g.met.D.Disk.seen_is_image d t) j j' pins homes mid un asked.are stands pass 0 pass.shown asked.of)

pub returns-in_err-drawn-clause-runs_on : goal.returns-in_err-drawn-clause-runs_on
returns-in_err-drawn-clause-runs_on g c =
    let j = c.self.inside.journal in
    let pins = c.self.inside.pins in
    let homes = c.self.inside.homes.items in
    let pass = c.args.pass.now in
    let held = c.args.held.items in
    let step = c.args.step in
    let asked =
    asked_of g.D.Disk (framed j pins homes) c.args.self.now pass held step c.self.view_is c.self.invariant
    c.requires.pass c.requires.holding c.requires.encoded c.requires.kind c.requires.may c.requires.owes in
    let j' = c.log_step.new.self in
    let mid = c.put_held.new.homes.items in
    let was = was_up c.log_step.result (g.D.Disk.fault_count j'.disk) (down_of j.wal) (down_of j'.wal)
    c.log_step.ensures.goes_down in
    let more = log_grows g.D.Disk (asked.are).log j j' ((asked.are).stands).journal c.log_step.ensures.stays_down
    c.log_step.ensures.flushed in
    let un : IsUnlogged g.D.Disk j j' = record {
      stands = λ R s. c.in_err-drawn.ensures.refused R s;
      was_up = was;
      flushed = c.log_step.ensures.flushed;
      more = more;
      state = c.in_err-drawn.ensures.refused_state.0;
      owes = c.in_err-drawn.ensures.refused_state.1;
      work = c.in_err-drawn.ensures.refused_work;
    } in
    let stands =
    stands_refused g.D.Disk c.counted_are_one.ensures
    (λ t d. g.met.D.Disk.seen_is_image d t) j j' pins homes un mid pass held asked.holding
    c.put_held.ensures.put in
    subst (λ (k : FramesValue g.row.D.Denot). RunsOn g.D.Disk k (framed j' pins mid)) c.self.view_is
    (runs_on g.D.Disk c.counted_are_one.ensures j j' (asked.are).log
    ((asked.are).stands).journal pins homes mid
    c.log_step.ensures.stays_down c.log_step.ensures.any_moment c.log_step.ensures.same c.log_step.ensures.opened more
    c.log_step.ensures.pages was)

pub put_sheets-requires-clause-there : goal.put_sheets-requires-clause-there
put_sheets-requires-clause-there g c =
    let j = c.self.inside.journal in
    let pins = c.self.inside.pins in
    let homes = c.self.inside.homes.items in
    let pass = c.args.pass.now in
    let held = c.args.held.items in
    let step = c.args.step in
    let asked =
    asked_of g.D.Disk (framed j pins homes) c.args.self.now pass held step c.self.view_is c.self.invariant
    c.requires.pass c.requires.holding c.requires.encoded c.requires.kind c.requires.may c.requires.owes in
    let mid = c.put_held.new.homes.items in
    let sheets : c.into_sheets.result.items ≡ made_sheets (next_record j step) step.after =
    c.into_sheets.ensures ∙ ap (λ (s : Step). s.after) c.in_ok-drawn.ensures.made in
    made_there homes mid held (view_of (framed j pins homes) pass (asked.are).log held) step (next_record j step)
    c.into_sheets.result.items sheets refl (asked.holding).away c.put_held.ensures.put
    (asked.owes (asked.are).log (asked.are).stands)

pub put_sheets-requires-clause-once : goal.put_sheets-requires-clause-once
put_sheets-requires-clause-once g c =
    let j = c.self.inside.journal in
    let step = c.args.step in
    let sheets : c.into_sheets.result.items ≡ made_sheets (next_record j step) step.after =
    c.into_sheets.ensures ∙ ap (λ (s : Step). s.after) c.in_ok-drawn.ensures.made in
    made_once step (next_record j step) c.into_sheets.result.items sheets c.requires.encoded

pub invariant_of-self-2 : goal.invariant_of-self-2
invariant_of-self-2 g c =
    let j = c.self.inside.journal in
    let pins = c.self.inside.pins in
    let homes = c.self.inside.homes.items in
    let pass = c.args.pass.now in
    let held = c.args.held.items in
    let step = c.args.step in
    let asked =
    asked_of g.D.Disk (framed j pins homes) c.args.self.now pass held step c.self.view_is c.self.invariant
    c.requires.pass c.requires.holding c.requires.encoded c.requires.kind c.requires.may c.requires.owes in
    let j' = c.log_step.new.self in
    let mid = c.put_held.new.homes.items in
    let homes' = c.put_sheets.new.homes.items in
    let stepped : HasStepped g.D.Disk j j' step = record {
      up = up_logged (down_of j.wal) c.log_step.result c.in_ok-drawn.drawn c.log_step.ensures.is_down c.in_ok-drawn.was;
      can = c.in_ok-drawn.ensures.can_draw;
      stands = c.in_ok-drawn.ensures.stands;
      flushed = c.log_step.ensures.flushed;
      state = c.in_ok-drawn.ensures.state;
      none_owed = c.in_ok-drawn.ensures.owes;
      work = c.in_ok-drawn.ensures.work;
    } in
    let sheets : c.into_sheets.result.items ≡ made_sheets (next_record j step) step.after =
    c.into_sheets.ensures ∙ ap (λ (s : Step). s.after) c.in_ok-drawn.ensures.made in
    let put : HasPut mid homes' (made_sheets (next_record j step) step.after) =
    subst (λ (xs : List Sheet). HasPut mid homes' xs) sheets c.put_sheets.ensures in
    stepped_frames g.D.Disk c.counted_are_one.ensures
    (λ t d. g.met.D.Disk.seen_is_image d t) j pins homes pass held step
    asked j' mid homes' stepped c.put_held.ensures.put put
    (stepped_pages g.D.Disk c.counted_are_one.ensures
    (λ t d. g.met.D.Disk.seen_is_image d t) j pins homes pass held step
    asked j' mid homes' stepped c.put_held.ensures.put put
    c.pages_are_shown.ensures.made (c.put_held.ensures.pages (asked.are).pages))

pub returns-clause-logged : goal.returns-clause-logged
returns-clause-logged g c =
    let j = c.self.inside.journal in
    let pins = c.self.inside.pins in
    let homes = c.self.inside.homes.items in
    let pass = c.args.pass.now in
    let held = c.args.held.items in
    let step = c.args.step in
    let asked =
    asked_of g.D.Disk (framed j pins homes) c.args.self.now pass held step c.self.view_is c.self.invariant
    c.requires.pass c.requires.holding c.requires.encoded c.requires.kind c.requires.may c.requires.owes in
    let j' = c.log_step.new.self in
    let mid = c.put_held.new.homes.items in
    let homes' = c.put_sheets.new.homes.items in
    let stepped : HasStepped g.D.Disk j j' step = record {
      up = up_logged (down_of j.wal) c.log_step.result c.in_ok-drawn.drawn c.log_step.ensures.is_down c.in_ok-drawn.was;
      can = c.in_ok-drawn.ensures.can_draw;
      stands = c.in_ok-drawn.ensures.stands;
      flushed = c.log_step.ensures.flushed;
      state = c.in_ok-drawn.ensures.state;
      none_owed = c.in_ok-drawn.ensures.owes;
      work = c.in_ok-drawn.ensures.work;
    } in
    let sheets : c.into_sheets.result.items ≡ made_sheets (next_record j step) step.after =
    c.into_sheets.ensures ∙ ap (λ (s : Step). s.after) c.in_ok-drawn.ensures.made in
    let put : HasPut mid homes' (made_sheets (next_record j step) step.after) =
    subst (λ (xs : List Sheet). HasPut mid homes' xs) sheets c.put_sheets.ensures in
    subst (λ (k : FramesValue g.row.D.Denot). (R : Log) → Stands g.D.Disk k R
    → Stands g.D.Disk (framed j' pins homes') (logged k.journal.owes (next_record k.journal step) R)) c.self.view_is
    (new_stands g.D.Disk c.counted_are_one.ensures (λ t d. g.met.D.Disk.seen_is_image d t) j pins homes pass held step
    asked j' mid homes' stepped c.put_held.ensures.put put)

pub returns-clause-added : goal.returns-clause-added
returns-clause-added g c =
    let j = c.self.inside.journal in
    let pins = c.self.inside.pins in
    let homes = c.self.inside.homes.items in
    let pass = c.args.pass.now in
    let held = c.args.held.items in
    let step = c.args.step in
    let asked =
    asked_of g.D.Disk (framed j pins homes) c.args.self.now pass held step c.self.view_is c.self.invariant
    c.requires.pass c.requires.holding c.requires.encoded c.requires.kind c.requires.may c.requires.owes in
    let j' = c.log_step.new.self in
    let mid = c.put_held.new.homes.items in
    let homes' = c.put_sheets.new.homes.items in
    let stepped : HasStepped g.D.Disk j j' step = record {
      up = up_logged (down_of j.wal) c.log_step.result c.in_ok-drawn.drawn c.log_step.ensures.is_down c.in_ok-drawn.was;
      can = c.in_ok-drawn.ensures.can_draw;
      stands = c.in_ok-drawn.ensures.stands;
      flushed = c.log_step.ensures.flushed;
      state = c.in_ok-drawn.ensures.state;
      none_owed = c.in_ok-drawn.ensures.owes;
      work = c.in_ok-drawn.ensures.work;
    } in
    let sheets : c.into_sheets.result.items ≡ made_sheets (next_record j step) step.after =
    c.into_sheets.ensures ∙ ap (λ (s : Step). s.after) c.in_ok-drawn.ensures.made in
    let put : HasPut mid homes' (made_sheets (next_record j step) step.after) =
    subst (λ (xs : List Sheet). HasPut mid homes' xs) sheets c.put_sheets.ensures in
    subst (λ (k : FramesValue g.row.D.Denot). HasAdded g.D.Disk k (framed j' pins homes') (kind_number step.kind ∷ []))
    c.self.view_is
    (step_added g.D.Disk c.counted_are_one.ensures (λ t d. g.met.D.Disk.seen_is_image d t) j pins homes pass held step
    asked j' mid homes' stepped c.put_held.ensures.put put)

pub returns-clause-runs_on : goal.returns-clause-runs_on
returns-clause-runs_on g c =
    let j = c.self.inside.journal in
    let pins = c.self.inside.pins in
    let homes = c.self.inside.homes.items in
    let pass = c.args.pass.now in
    let held = c.args.held.items in
    let step = c.args.step in
    let asked =
    asked_of g.D.Disk (framed j pins homes) c.args.self.now pass held step c.self.view_is c.self.invariant
    c.requires.pass c.requires.holding c.requires.encoded c.requires.kind c.requires.may c.requires.owes in
    let j' = c.log_step.new.self in
    let mid = c.put_held.new.homes.items in
    let homes' = c.put_sheets.new.homes.items in
    let stepped : HasStepped g.D.Disk j j' step = record {
      up = up_logged (down_of j.wal) c.log_step.result c.in_ok-drawn.drawn c.log_step.ensures.is_down c.in_ok-drawn.was;
      can = c.in_ok-drawn.ensures.can_draw;
      stands = c.in_ok-drawn.ensures.stands;
      flushed = c.log_step.ensures.flushed;
      state = c.in_ok-drawn.ensures.state;
      none_owed = c.in_ok-drawn.ensures.owes;
      work = c.in_ok-drawn.ensures.work;
    } in
    let sheets : c.into_sheets.result.items ≡ made_sheets (next_record j step) step.after =
    c.into_sheets.ensures ∙ ap (λ (s : Step). s.after) c.in_ok-drawn.ensures.made in
    let put : HasPut mid homes' (made_sheets (next_record j step) step.after) =
    subst (λ (xs : List Sheet). HasPut mid homes' xs) sheets c.put_sheets.ensures in
    let was = was_up c.log_step.result (g.D.Disk.fault_count j'.disk) (down_of j.wal) (down_of j'.wal)
    c.log_step.ensures.goes_down in
    let more = log_grows g.D.Disk (asked.are).log j j' ((asked.are).stands).journal c.log_step.ensures.stays_down
    c.log_step.ensures.flushed in
    subst (λ (k : FramesValue g.row.D.Denot). RunsOn g.D.Disk k (framed j' pins homes')) c.self.view_is
    (runs_on g.D.Disk c.counted_are_one.ensures j j' (asked.are).log
    ((asked.are).stands).journal pins homes homes'
    c.log_step.ensures.stays_down c.log_step.ensures.any_moment c.log_step.ensures.same c.log_step.ensures.opened more
    c.log_step.ensures.pages was)

pub returns-in_err-drawn-clause-is_down : goal.returns-in_err-drawn-clause-is_down
returns-in_err-drawn-clause-is_down g c =
    λ f.
    let p = err_from_is_err_and c.from_residual.result c.from_residual.ensures.1 in
    let same : c.log_step.result ≡ c.from_residual.result = c.in_err-drawn.was ∙ sym (p.1 ∙ ap Err p.2) in
    subst (λ (r : Result Drawn LogError). (r ≡ Err (Down f)) ↔ (down_of c.args.self.now.journal.wal ≡ Some f)) same
    (subst (λ (k : FramesValue g.row.D.Denot). (c.log_step.result ≡ Err (Down f)) ↔ (down_of k.journal.wal ≡ Some f))
    c.self.view_is (c.log_step.ensures.is_down f))

pub returns-clause-pass : goal.returns-clause-pass
returns-clause-pass g c =
    let j = c.self.inside.journal in
    let pins = c.self.inside.pins in
    let homes = c.self.inside.homes.items in
    let pass = c.args.pass.now in
    let held = c.args.held.items in
    let step = c.args.step in
    let asked =
    asked_of g.D.Disk (framed j pins homes) c.args.self.now pass held step c.self.view_is c.self.invariant
    c.requires.pass c.requires.holding c.requires.encoded c.requires.kind c.requires.may c.requires.owes in
    let j' = c.log_step.new.self in
    let mid = c.put_held.new.homes.items in
    let homes' = c.put_sheets.new.homes.items in
    let stepped : HasStepped g.D.Disk j j' step = record {
      up = up_logged (down_of j.wal) c.log_step.result c.in_ok-drawn.drawn c.log_step.ensures.is_down c.in_ok-drawn.was;
      can = c.in_ok-drawn.ensures.can_draw;
      stands = c.in_ok-drawn.ensures.stands;
      flushed = c.log_step.ensures.flushed;
      state = c.in_ok-drawn.ensures.state;
      none_owed = c.in_ok-drawn.ensures.owes;
      work = c.in_ok-drawn.ensures.work;
    } in
    let sheets : c.into_sheets.result.items ≡ made_sheets (next_record j step) step.after =
    c.into_sheets.ensures ∙ ap (λ (s : Step). s.after) c.in_ok-drawn.ensures.made in
    let put : HasPut mid homes' (made_sheets (next_record j step) step.after) =
    subst (λ (xs : List Sheet). HasPut mid homes' xs) sheets c.put_sheets.ensures in
    let all : c.length-pass.result ≡ j'.state.records =
    c.length-pass.ensures ∙ ap (λ (v : StateValue). v.records) c.state-2.ensures in
    let pass' : Pass = record pass { held = 0; seen = c.length-pass.result; xid = c.xid_after-pass.result } in
    stepped_pass g.D.Disk c.counted_are_one.ensures (λ t d. g.met.D.Disk.seen_is_image d t) j pins homes pass held step
    asked j' mid homes' stepped c.put_held.ensures.put put
    c.length-pass.result c.xid_after-pass.result all

pub returns-clause-seen : goal.returns-clause-seen
returns-clause-seen g c =
    let j = c.self.inside.journal in
    let pins = c.self.inside.pins in
    let homes = c.self.inside.homes.items in
    let pass = c.args.pass.now in
    let held = c.args.held.items in
    let step = c.args.step in
    let asked =
    asked_of g.D.Disk (framed j pins homes) c.args.self.now pass held step c.self.view_is c.self.invariant
    c.requires.pass c.requires.holding c.requires.encoded c.requires.kind c.requires.may c.requires.owes in
    let j' = c.log_step.new.self in
    let mid = c.put_held.new.homes.items in
    let homes' = c.put_sheets.new.homes.items in
    let stepped : HasStepped g.D.Disk j j' step = record {
      up = up_logged (down_of j.wal) c.log_step.result c.in_ok-drawn.drawn c.log_step.ensures.is_down c.in_ok-drawn.was;
      can = c.in_ok-drawn.ensures.can_draw;
      stands = c.in_ok-drawn.ensures.stands;
      flushed = c.log_step.ensures.flushed;
      state = c.in_ok-drawn.ensures.state;
      none_owed = c.in_ok-drawn.ensures.owes;
      work = c.in_ok-drawn.ensures.work;
    } in
    let sheets : c.into_sheets.result.items ≡ made_sheets (next_record j step) step.after =
    c.into_sheets.ensures ∙ ap (λ (s : Step). s.after) c.in_ok-drawn.ensures.made in
    let put : HasPut mid homes' (made_sheets (next_record j step) step.after) =
    subst (λ (xs : List Sheet). HasPut mid homes' xs) sheets c.put_sheets.ensures in
    let all : c.length-pass.result ≡ j'.state.records =
    c.length-pass.ensures ∙ ap (λ (v : StateValue). v.records) c.state-2.ensures in
    let pass' : Pass = record pass { held = 0; seen = c.length-pass.result; xid = c.xid_after-pass.result } in
    step_seen g.D.Disk c.counted_are_one.ensures (λ t d. g.met.D.Disk.seen_is_image d t) j pins homes pass held step
    asked j' mid homes' stepped c.put_held.ensures.put put pass' all

pub returns-clause-none_held : goal.returns-clause-none_held
returns-clause-none_held g c =
    let j = c.self.inside.journal in
    let pins = c.self.inside.pins in
    let homes = c.self.inside.homes.items in
    let pass = c.args.pass.now in
    let held = c.args.held.items in
    let step = c.args.step in
    let asked =
    asked_of g.D.Disk (framed j pins homes) c.args.self.now pass held step c.self.view_is c.self.invariant
    c.requires.pass c.requires.holding c.requires.encoded c.requires.kind c.requires.may c.requires.owes in
    let j' = c.log_step.new.self in
    let mid = c.put_held.new.homes.items in
    let homes' = c.put_sheets.new.homes.items in
    let stepped : HasStepped g.D.Disk j j' step = record {
      up = up_logged (down_of j.wal) c.log_step.result c.in_ok-drawn.drawn c.log_step.ensures.is_down c.in_ok-drawn.was;
      can = c.in_ok-drawn.ensures.can_draw;
      stands = c.in_ok-drawn.ensures.stands;
      flushed = c.log_step.ensures.flushed;
      state = c.in_ok-drawn.ensures.state;
      none_owed = c.in_ok-drawn.ensures.owes;
      work = c.in_ok-drawn.ensures.work;
    } in
    let sheets : c.into_sheets.result.items ≡ made_sheets (next_record j step) step.after =
    c.into_sheets.ensures ∙ ap (λ (s : Step). s.after) c.in_ok-drawn.ensures.made in
    let put : HasPut mid homes' (made_sheets (next_record j step) step.after) =
    subst (λ (xs : List Sheet). HasPut mid homes' xs) sheets c.put_sheets.ensures in
    let all : c.length-pass.result ≡ j'.state.records =
    c.length-pass.ensures ∙ ap (λ (v : StateValue). v.records) c.state-2.ensures in
    let pass' : Pass = record pass { held = 0; seen = c.length-pass.result; xid = c.xid_after-pass.result } in
    holds_none g.D.Disk c.counted_are_one.ensures (λ t d. g.met.D.Disk.seen_is_image d t) (framed j' pins homes') pass'
    (stepped_pass g.D.Disk c.counted_are_one.ensures (λ t d. g.met.D.Disk.seen_is_image d t) j pins homes pass held step
    asked j' mid homes' stepped c.put_held.ensures.put put
    c.length-pass.result c.xid_after-pass.result all) refl

pub returns-clause-xid : goal.returns-clause-xid
returns-clause-xid g c =
    let j = c.self.inside.journal in
    let step = c.args.step in
    let xid = c.args.pass.now.xid in
    let next = c.next_xid-next.result in
    let next_is : next ≡ suc (length j.state.fates) =
    c.next_xid-next.ensures ∙ ap (λ (v : StateValue). suc (length v.fates)) c.state.ensures in
    c.xid_after-pass.ensures ∙ ap (λ (k : Kind). xid_after k next xid) c.kind-kind.ensures
    ∙ xid_drawn j.owes j.state step.kind next c.in_ok-drawn.drawn.value xid next_is
    (ap (λ (d : Drawn). d.value) c.in_ok-drawn.ensures.drawn)

pub returns-in_err-drawn-clause-others : goal.returns-in_err-drawn-clause-others
returns-in_err-drawn-clause-others g c =
    let j = c.self.inside.journal in
    let pins = c.self.inside.pins in
    let homes = c.self.inside.homes.items in
    let held = c.args.held.items in
    let mid = c.put_held.new.homes.items in
    let j' = c.log_step.new.self in
    subst (λ (k : FramesValue g.row.D.Denot). KeepsOthers k (framed j' pins mid) (sheet_pages held)) c.self.view_is
    (c.put_held.ensures.put).elsewhere

pub returns-in_err-drawn-clause-unmoved : goal.returns-in_err-drawn-clause-unmoved
returns-in_err-drawn-clause-unmoved g c =
    let j = c.self.inside.journal in
    let pins = c.self.inside.pins in
    let homes = c.self.inside.homes.items in
    let held = c.args.held.items in
    let mid = c.put_held.new.homes.items in
    on_refusal _ c.from_residual.result (lies_put homes mid held c.put_held.ensures.put)

pub returns-clause-lies : goal.returns-clause-lies
returns-clause-lies g c =
    let j = c.self.inside.journal in
    let step = c.args.step in
    let mid = c.put_held.new.homes.items in
    let homes' = c.put_sheets.new.homes.items in
    let sheets : c.into_sheets.result.items ≡ made_sheets (next_record j step) step.after =
    c.into_sheets.ensures ∙ ap (λ (s : Step). s.after) c.in_ok-drawn.ensures.made in
    let put : HasPut mid homes' (made_sheets (next_record j step) step.after) =
    subst (λ (xs : List Sheet). HasPut mid homes' xs) sheets c.put_sheets.ensures in
    subst (λ (k : FramesValue g.row.D.Denot).
    LieThere (framed c.log_step.new.self c.self.inside.pins homes')
    (made_sheets (next_record k.journal step) step.after))
    c.self.view_is (lies_put mid homes' (made_sheets (next_record j step) step.after) put)

pub returns-clause-kept : goal.returns-clause-kept
returns-clause-kept g c =
    let j = c.self.inside.journal in
    let step = c.args.step in
    let mid = c.put_held.new.homes.items in
    let homes' = c.put_sheets.new.homes.items in
    let sheets : c.into_sheets.result.items ≡ made_sheets (next_record j step) step.after =
    c.into_sheets.ensures ∙ ap (λ (s : Step). s.after) c.in_ok-drawn.ensures.made in
    let put : HasPut mid homes' (made_sheets (next_record j step) step.after) =
    subst (λ (xs : List Sheet). HasPut mid homes' xs) sheets c.put_sheets.ensures in
    λ x i off.
    lies_before c.self.inside.homes.items mid homes' c.args.held.items (made_sheets (next_record j step) step.after)
    c.put_held.ensures.put put x i (λ k. off (subst (In x.page) (made_pages (next_record j step) step.after) k))

pub returns-clause-others : goal.returns-clause-others
returns-clause-others g c =
    let j = c.self.inside.journal in
    let pins = c.self.inside.pins in
    let homes = c.self.inside.homes.items in
    let pass = c.args.pass.now in
    let held = c.args.held.items in
    let step = c.args.step in
    let asked =
    asked_of g.D.Disk (framed j pins homes) c.args.self.now pass held step c.self.view_is c.self.invariant
    c.requires.pass c.requires.holding c.requires.encoded c.requires.kind c.requires.may c.requires.owes in
    let j' = c.log_step.new.self in
    let mid = c.put_held.new.homes.items in
    let homes' = c.put_sheets.new.homes.items in
    let stepped : HasStepped g.D.Disk j j' step = record {
      up = up_logged (down_of j.wal) c.log_step.result c.in_ok-drawn.drawn c.log_step.ensures.is_down c.in_ok-drawn.was;
      can = c.in_ok-drawn.ensures.can_draw;
      stands = c.in_ok-drawn.ensures.stands;
      flushed = c.log_step.ensures.flushed;
      state = c.in_ok-drawn.ensures.state;
      none_owed = c.in_ok-drawn.ensures.owes;
      work = c.in_ok-drawn.ensures.work;
    } in
    let sheets : c.into_sheets.result.items ≡ made_sheets (next_record j step) step.after =
    c.into_sheets.ensures ∙ ap (λ (s : Step). s.after) c.in_ok-drawn.ensures.made in
    let put : HasPut mid homes' (made_sheets (next_record j step) step.after) =
    subst (λ (xs : List Sheet). HasPut mid homes' xs) sheets c.put_sheets.ensures in
    let within = (asked.owes (asked.are).log (asked.are).stands).pages in
    subst (λ (k : FramesValue g.row.D.Denot). KeepsOthers k (framed j' pins homes') (sheet_pages held)) c.self.view_is
    (others_stay homes mid homes' held (made_sheets (next_record j step) step.after) c.put_held.ensures.put put
    (λ p i. within p (subst (In p) (made_pages (next_record j step) step.after) i)))

pub returns-in_err-drawn-clause-refused_begins : goal.returns-in_err-drawn-clause-refused_begins
returns-in_err-drawn-clause-refused_begins g c =
    let j = c.self.inside.journal in
    let j' = c.log_step.new.self in
    let log = c.log_step.ensures in
    on_refusal _ c.from_residual.result
    (subst (λ (k : FramesValue g.row.D.Denot). BeginsOn g.D.Disk k.journal j') c.self.view_is
    (begins_on g.D.Disk c.counted_are_one.ensures j j' log.opened
    (λ f down. ap (λ (k : JournalValue g.row.D.Denot). k.disk) (log.stays_down f down)) log.any_moment
    (λ R s. c.in_err-drawn.ensures.refused R s)))

pub returns-clause-legal : goal.returns-clause-legal
returns-clause-legal g c =
    let j = c.self.inside.journal in
    let pins = c.self.inside.pins in
    let homes = c.self.inside.homes.items in
    let pass = c.args.pass.now in
    let held = c.args.held.items in
    let step = c.args.step in
    let asked =
    asked_of g.D.Disk (framed j pins homes) c.args.self.now pass held step c.self.view_is c.self.invariant
    c.requires.pass c.requires.holding c.requires.encoded c.requires.kind c.requires.may c.requires.owes in
    subst (λ (k : FramesValue g.row.D.Denot). Behind g.D.Disk k
    (λ R. IsLegal (logged k.journal.owes (next_record k.journal step) R))) c.self.view_is
    (λ t up R s legal. may_follow g.D.Disk c.counted_are_one.ensures (λ t d. g.met.D.Disk.seen_is_image d t) j pins
    homes pass held step asked t up c.in_ok-drawn.ensures.can_draw R s.journal legal)

pub returns-clause-begins : goal.returns-clause-begins
returns-clause-begins g c early =
    let j = c.self.inside.journal in
    let pins = c.self.inside.pins in
    let homes = c.self.inside.homes.items in
    let pass = c.args.pass.now in
    let held = c.args.held.items in
    let step = c.args.step in
    let asked =
    asked_of g.D.Disk (framed j pins homes) c.args.self.now pass held step c.self.view_is c.self.invariant
    c.requires.pass c.requires.holding c.requires.encoded c.requires.kind c.requires.may c.requires.owes in
    let j' = c.log_step.new.self in
    let log = c.log_step.ensures in
    let up = up_logged (down_of j.wal) c.log_step.result c.in_ok-drawn.drawn log.is_down c.in_ok-drawn.was in
    subst (λ (k : FramesValue g.row.D.Denot). BeginsWith g.D.Disk k.journal j' (next_record k.journal step))
    c.self.view_is
    (begins_with g.D.Disk c.counted_are_one.ensures j j' (next_record j step) log.opened
    (λ f down. ap (λ (k : JournalValue g.row.D.Denot). k.disk) (log.stays_down f down)) log.any_moment
    c.in_ok-drawn.ensures.stands (early_drawn (after_owed j.owes j.state) step.kind early)
    (λ t R s legal. may_follow g.D.Disk c.counted_are_one.ensures (λ t d. g.met.D.Disk.seen_is_image d t) j pins
    homes pass held step asked t up c.in_ok-drawn.ensures.can_draw R s legal))

pub returns-clause-rests : goal.returns-clause-rests
returns-clause-rests g c rests =
    c.in_ok-drawn.ensures.work
    ∙ work_rests c.args.step.kind (next_number c.self.inside.journal) c.self.inside.journal.work rests
    ∙ ap (λ (f : FramesValue g.row.D.Denot). f.journal.work) c.self.view_is

pub returns-in_err-drawn-clause-rests : goal.returns-in_err-drawn-clause-rests
returns-in_err-drawn-clause-rests g c rests =
    c.in_err-drawn.ensures.refused_work ∙ ap (λ (f : FramesValue g.row.D.Denot). f.journal.work) c.self.view_is
