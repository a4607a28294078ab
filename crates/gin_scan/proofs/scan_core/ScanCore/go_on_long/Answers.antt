-- A part more of a long vector is read, or the vector is matched.
use Rattle.std.proofs.Common.{refl, sym, subst, inl, inr}
use Rattle.std.proofs.lemmas.Result.{err_from_is_err_and}
use Rattle.page_types.specs.declared.page.Page.{Page}
use Rattle.buffer_frames.specs.Frames.{Lies}
use Rattle.gin_scan.specs.Causes.{HasPart}
use Rattle.gin_scan.specs.Inner.Parts.{IsReadUp}
use Rattle.gin_scan.specs.declared.scan_core.ScanCore.{ScanCore}
use Rattle.gin_scan.proofs.PagesRead.{part_turned}
use Rattle.gin_scan.proofs.PagesRefused.{part_refused}
use Rattle.gin_scan.proofs.StepsOf.{unheld, turns, off_page, no_true}
use Rattle.gin_scan.proofs.scan_core.ScanCore.go_on_long.Goals as goal

pub returns-then-is_read : goal.returns-then-is_read
returns-then-is_read g c = record { serves = c.match_long.ensures.serves; is_step = c.match_long.ensures.is_step }

pub leave-requires : goal.leave-requires
leave-requires g c =
    let h = c.in_ok-held.ensures.held in record { pass = h.is_pass; holding = h.holding }

pub returns-in_err-held : goal.returns-in_err-held
returns-in_err-held g c =
    let p = err_from_is_err_and c.from_residual.result c.from_residual.ensures.1 in
    let more : IsReadUp c.args.self.now c.args.at c.args.page c.args.left → ⊥ =
    λ z. no_true c.is_read.result c.if-is_read.false (c.is_read.ensures.1 z) in
    let f = c.args.frames.now in
    let s = c.args.self.now in
    let k = c.in_err-held.ensures in record {
      serves = c.requires.serves;
      is_step = unheld g.D.Disk _ c.args.query.now f c.args.pass.now s c.hold_page.new.frames c.hold_page.new.pass s
          c.hold_page.result c.from_residual.result c.in_err-held.field-0.0 p.0 HasPart c.args.page
          c.in_err-held.was p.1 p.2 refl k.refused c.hold_page.ensures.fault k.cause
          (part_refused g.D.Disk _ c.args.query.now f c.args.pass.now s c.requires.may c.args.at c.args.page c.args.left
          c.requires.stage (λ z. more (inl z)));
    }

pub returns : goal.returns
returns g c =
    let h = c.in_ok-held.ensures.held in
    let more : IsReadUp c.args.self.now c.args.at c.args.page c.args.left → ⊥ =
    λ z. no_true c.is_read.result c.if-is_read.false (c.is_read.ensures.1 z) in
    let f = c.args.frames.now in
    let s = c.args.self.now in
    let n : ScanCore = record s { bytes = c.add_part_of-next.new.bytes } in
    let next = c.add_part_of-next.result in
    let page = c.page.result.now in
    let one = c.leave.ensures.back f c.args.pass.now c.args.page h in
    let lies = subst (λ (z : Page). Lies f c.args.page z) (sym c.page.ensures.value) h.lies in record {
      serves = c.requires.serves;
      is_step = turns g.D.Disk _ c.args.query.now f c.args.pass.now s c.leave.new.frames c.leave.new.pass
          c.leave.new.self next n c.leave.result c.leave.ensures.turns refl one
          (off_page g.D.Disk f s next HasPart c.args.page page c.page.ensures.is_page lies
          (part_refused g.D.Disk _ c.args.query.now f c.args.pass.now s c.requires.may c.args.at c.args.page c.args.left
          c.requires.stage (λ z. more (inl z))) c.add_part_of-next.ensures.cause)
          (part_turned g.D.Disk _ c.args.query.now f c.args.pass.now s c.requires.may c.leave.new.frames
          c.leave.new.pass one page c.page.ensures.is_page n c.leave.new.self next c.args.at c.args.page c.args.left
          lies
          c.requires.stage (λ z. more (inl z)) (λ z. more (inr (inl z))) refl c.add_part_of-next.ensures.added);
    }
