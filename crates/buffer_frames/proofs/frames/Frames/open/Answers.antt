use Rattle.std.proofs.Common.{Bool, List, [], replicate, sym, ap, subst}
use Rattle.std.specs.Prelude.{Option, None}
use Rattle.snap_pins.specs.declared.Pin.{Pin as PinInUse}
use Rattle.buffer_frames.specs.Causes.{NotAStoreWhere}
use Rattle.buffer_frames.specs.NoStore.{IsNoStore}
use Rattle.buffer_frames.specs.Opening.{LeavesRefused, without_disk}
use Rattle.buffer_frames.specs.Homes.{HaveOpened}
use Rattle.buffer_frames.specs.Frames.{AreFrames}
use Rattle.buffer_frames.specs.Passes.{IsPassOf, IsHolding}
use Rattle.buffer_frames.specs.declared.error.OpenFault.TheVariants.{OutOfMemory}
use Rattle.buffer_frames.specs.declared.pass.Pass.{Pass}
use Rattle.buffer_frames.proofs.FramesKept.{framed}
use Rattle.buffer_frames.proofs.FramesOpened.{frames_opened, some_records, of_whole}
use Rattle.buffer_frames.proofs.GivenBack.{no_store_at, no_memory}
use Rattle.buffer_frames.proofs.AtHand.{none_held}
use Rattle.buffer_frames.proofs.frames.Frames.open.Goals as goal

pub returns-in-Err-clause-no_store : goal.returns-in-Err-clause-no_store
returns-in-Err-clause-no_store g c = λ t e.
    let none = IsNoStore (g.D.Disk.seen c.args.disk) in
    no_store_at none c.in-Err.why
    (subst (λ r. NotAStoreWhere none (without_disk r)) c.in-Err.is (c.open.ensures.no_store t)) e

pub invariant_of-frames : goal.invariant_of-frames
invariant_of-frames g c =
    let o = c.in-Ok.ensures.opened in
    let j = c.in-Ok.opened.0 in
    let map = c.in-Ok.opened.1 in
    let homes = c.in-Ok-homes_of.homes.items in
    let lie = subst (λ (b : Bool). HaveOpened map b homes) c.owes.ensures c.in-Ok-homes_of.ensures in
    subst (λ (ps : List (Option PinInUse)). AreFrames g.D.Disk (framed j ps homes)) (sym c.new-pins.ensures)
    (frames_opened g.D.Disk c.args.settings.now c.args.disk o.0 j map homes o.1 lie)

pub returns-in-Ok-homes_of-clause-pass : goal.returns-in-Ok-homes_of-clause-pass
returns-in-Ok-homes_of-clause-pass g c =
    let o = c.in-Ok.ensures.opened in
    let j = c.in-Ok.opened.0 in
    let homes = c.in-Ok-homes_of.homes.items in
    subst (λ (ps : List (Option PinInUse)). IsPassOf (framed j ps homes) c.first_pass-pass.result)
    (sym c.new-pins.ensures)
    (of_whole j homes c.first_pass-pass.result
    (some_records g.D.Disk c.args.settings.now c.args.disk o.0 j c.in-Ok.opened.1 o.1) c.first_pass-pass.ensures)

pub returns-in-Ok-homes_of-clause-none_held : goal.returns-in-Ok-homes_of-clause-none_held
returns-in-Ok-homes_of-clause-none_held g c =
    let o = c.in-Ok.ensures.opened in
    let j = c.in-Ok.opened.0 in
    let homes = c.in-Ok-homes_of.homes.items in
    let pass = c.first_pass-pass.result in
    let of = of_whole j homes pass (some_records g.D.Disk c.args.settings.now c.args.disk o.0 j c.in-Ok.opened.1 o.1)
    c.first_pass-pass.ensures in
    subst (λ (ps : List (Option PinInUse)). IsHolding g.D.Disk (framed j ps homes) pass []) (sym c.new-pins.ensures)
    (none_held g.D.Disk (framed j (replicate 16 None) homes) pass of
    (ap (λ (p : Pass). p.held) c.first_pass-pass.ensures))

pub returns-in-Err-homes_of-clause-refused : goal.returns-in-Err-homes_of-clause-refused
returns-in-Err-homes_of-clause-refused g c =
    let e = c.in-Ok.ensures in
    let j = c.in-Ok.opened.0 in
    subst (λ (d : g.row.D.Denot). LeavesRefused g.D.Disk c.args.disk (d, OutOfMemory)) (sym c.close.ensures)
    (no_memory g.D.Disk c.counted_are_one.ensures (λ t d. g.met.D.Disk.seen_is_image d t)
    c.args.settings.now c.args.disk (e.opened).0 j c.in-Ok.opened.1 (e.opened).1 e.keeps_pages e.born e.no_store)
