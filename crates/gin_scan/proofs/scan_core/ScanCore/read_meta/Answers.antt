-- The metapage is read.
use Rattle.std.proofs.Common.{refl, sym, subst}
use Rattle.std.proofs.lemmas.Result.{err_from_is_err_and}
use Rattle.page_types.specs.declared.page.Page.{Page}
use Rattle.buffer_frames.specs.Frames.{Lies}
use Rattle.gin_scan.specs.Causes.{HasMeta}
use Rattle.gin_scan.proofs.PagesRead.{meta_turned}
use Rattle.gin_scan.proofs.PagesRefused.{meta_refused, meta_off}
use Rattle.gin_scan.proofs.StepsOf.{unheld, turns, off_page}
use Rattle.gin_scan.proofs.scan_core.ScanCore.read_meta.Goals as goal

pub leave-requires : goal.leave-requires
leave-requires g c =
    let h = c.in_ok-held.ensures.held in record { pass = h.is_pass; holding = h.holding }

pub returns-in_err-held : goal.returns-in_err-held
returns-in_err-held g c =
    let p = err_from_is_err_and c.from_residual.result c.from_residual.ensures.1 in
    let f = c.args.frames.now in
    let s = c.args.self.now in
    let k = c.in_err-held.ensures in record {
      is_step = unheld g.D.Disk _ c.args.query.now f c.args.pass.now s c.hold_page.new.frames c.hold_page.new.pass s
          c.hold_page.result c.from_residual.result c.in_err-held.field-0.0 p.0 HasMeta 0 c.in_err-held.was p.1 p.2 refl
          k.refused c.hold_page.ensures.fault k.cause
          (meta_refused g.D.Disk _ c.args.query.now f c.args.pass.now s c.requires.may c.requires.stage);
    }

pub returns : goal.returns
returns g c =
    let h = c.in_ok-held.ensures.held in
    let f = c.args.frames.now in
    let s = c.args.self.now in
    let next = c.first_pending-next.result in
    let page = c.page.result.now in
    let new = c.leave.new.self in
    let one = c.leave.ensures.back f c.args.pass.now 0 h in
    let lies = subst (λ (z : Page). Lies f 0 z) (sym c.page.ensures.value) h.lies in record {
      is_step = turns g.D.Disk _ c.args.query.now f c.args.pass.now s c.leave.new.frames c.leave.new.pass new next s
          c.leave.result c.leave.ensures.turns refl one
          (off_page g.D.Disk f s next HasMeta 0 page c.page.ensures.is_page lies
          (meta_refused g.D.Disk _ c.args.query.now f c.args.pass.now s c.requires.may c.requires.stage)
          (meta_off next 0 page c.first_pending-next.ensures.bad))
          (meta_turned g.D.Disk _ c.args.query.now f c.args.pass.now s c.requires.may c.leave.new.frames
          c.leave.new.pass
          one page c.page.ensures.is_page new next lies c.requires.stage c.first_pending-next.ensures.first);
    }
