-- The next page of the list is read, or the walks through the tree begin.
use Rattle.std.proofs.Common.{◌≡◌, ℕ, refl, ap, subst, sym, inl, arith}
use Rattle.std.proofs.lemmas.Result.{err_from_is_err_and}
use Rattle.page_types.specs.declared.page.Page.{Page}
use Rattle.buffer_frames.specs.Frames.{Lies}
use Rattle.gin_scan.specs.Causes.{HasRows}
use Rattle.gin_scan.specs.Inner.Ways.{EndsAs}
use Rattle.gin_scan.specs.declared.scan_core.ScanCore.{ScanCore}
use Rattle.gin_scan.specs.declared.stage.Stage.{Stage}
use Rattle.gin_scan.specs.declared.stage.Stage.TheVariants as stage
use Rattle.gin_scan.proofs.ListSteps.{few_sought}
use Rattle.gin_scan.proofs.PagesRead.{list_turned}
use Rattle.gin_scan.proofs.PagesRefused.{list_refused}
use Rattle.gin_scan.proofs.ReadCalls.{still_reads, still_calm}
use Rattle.gin_scan.proofs.StepsOf.{goes, unheld, turns, off_page}
use Rattle.gin_scan.proofs.TreeCalls.{tree_begins}
use Rattle.gin_scan.proofs.scan_core.ScanCore.go_on_list.Goals as goal

pub returns-then-page-eq0 : goal.returns-then-page-eq0
returns-then-page-eq0 g c =
    let may = c.requires.may in
    let is = may.scanning in
    let f = c.args.frames.now in
    let pass = c.args.pass.now in
    let s = c.args.self.now in
    let after = c.walk-after.ensures in
    let new : ScanCore = record s { stage = c.walk-after.result } in
    let reads = still_reads g.D.Disk f pass is.is_pass is.held in record {
      serves = c.requires.serves;
      is_step = goes g.D.Disk _ c.args.query.now f pass s f pass new _ refl
          (tree_begins g.D.Disk _ c.args.query.now f f pass pass s new may reads refl (λ p x lies. lies) c.args.page
          c.args.left c.requires.stage (inl c.if-page-eq0.true) (ap (λ (z : Stage). record s { stage = z })
          after.begins)
          after.within (few_sought s (omega (arith, s.order.ok)))) reads (still_calm g.D.Disk f.journal);
    }

pub go_further-requires : goal.go_further-requires
go_further-requires g c = record {
  may = c.requires.may;
  ends = EndsAs.list c.args.page c.if-page-eq0.false
      (subst (λ (n : ℕ). c.args.self.now.stage ≡ stage.Pending c.args.page n) c.if-left-eq0.true c.requires.stage)
      c.walk-after.ensures.begins;
  small = c.walk-after.ensures.within;
}

pub returns-then-left-eq0 : goal.returns-then-left-eq0
returns-then-left-eq0 g c = record { serves = c.requires.serves; is_step = c.go_further.ensures.is_step }

pub note_rows-next-requires : goal.note_rows-next-requires
note_rows-next-requires g c =
    record { scan = c.requires.may.scanning.is_scan; page = c.page.ensures.is_page }

pub leave-requires : goal.leave-requires
leave-requires g c =
    let h = c.in_ok-held.ensures.held in record { pass = h.is_pass; holding = h.holding }

pub returns-in_err-held : goal.returns-in_err-held
returns-in_err-held g c =
    let p = err_from_is_err_and c.from_residual.result c.from_residual.ensures.1 in
    let f = c.args.frames.now in
    let s = c.args.self.now in
    let k = c.in_err-held.ensures in record {
      serves = c.requires.serves;
      is_step = unheld g.D.Disk _ c.args.query.now f c.args.pass.now s c.hold_page.new.frames c.hold_page.new.pass s
          c.hold_page.result c.from_residual.result c.in_err-held.field-0.0 p.0 HasRows c.args.page c.in_err-held.was
          p.1
          p.2 refl k.refused c.hold_page.ensures.fault k.cause
          (list_refused g.D.Disk _ c.args.query.now f c.args.pass.now s c.requires.may c.args.page c.args.left
          c.requires.stage c.if-page-eq0.false);
    }

pub returns : goal.returns
returns g c =
    let h = c.in_ok-held.ensures.held in
    let f = c.args.frames.now in
    let s = c.args.self.now in
    let n = c.note_rows-next.new.self in
    let next = c.note_rows-next.result in
    let page = c.page.result.now in
    let one = c.leave.ensures.back f c.args.pass.now c.args.page h in
    let lies = subst (λ (z : Page). Lies f c.args.page z) (sym c.page.ensures.value) h.lies in record {
      serves = c.requires.serves;
      is_step = turns g.D.Disk _ c.args.query.now f c.args.pass.now s c.leave.new.frames c.leave.new.pass
          c.leave.new.self next n c.leave.result c.leave.ensures.turns c.note_rows-next.ensures.took one
          (off_page g.D.Disk f s next HasRows c.args.page page c.page.ensures.is_page lies
          (list_refused g.D.Disk _ c.args.query.now f c.args.pass.now s c.requires.may c.args.page c.args.left
          c.requires.stage c.if-page-eq0.false) c.note_rows-next.ensures.bad)
          (list_turned g.D.Disk _ c.args.query.now f c.args.pass.now s c.requires.may c.leave.new.frames
          c.leave.new.pass one page c.page.ensures.is_page n c.leave.new.self next c.args.page c.args.left lies
          c.requires.stage c.if-page-eq0.false c.if-left-eq0.false c.note_rows-next.ensures.noted);
    }
