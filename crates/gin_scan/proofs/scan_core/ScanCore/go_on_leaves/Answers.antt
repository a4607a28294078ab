-- The next leaf is read, or the next walk begins.
use Rattle.std.proofs.Common.{◌≡◌, ◌+◌, ◌-◌, ◌^◌, ◌<◌, ℕ, suc, refl, sym, ap, subst, ◌∙◌, inr, arith}
use Rattle.std.specs.Prelude.{IfOk}
use Rattle.std.proofs.lemmas.Result.{err_from_is_err_and}
use Rattle.page_types.specs.declared.page.Page.{Page}
use Rattle.core_moments.specs.OpenLaws.{IsLeaf}
use Rattle.buffer_frames.specs.Frames.{Lies}
use Rattle.gin_hits.proofs.JudgedScan.{element_at}
use Rattle.gin_scan.specs.Inner.Notes.{PassesLeaf}
use Rattle.gin_scan.specs.Inner.Ways.{EndsAs}
use Rattle.gin_scan.specs.Scanning.{IsWithin, sought_in}
use Rattle.gin_scan.specs.declared.scan_core.ScanCore.{ScanCore}
use Rattle.gin_scan.specs.declared.stage.Stage.{Stage}
use Rattle.gin_scan.specs.declared.stage.Stage.TheVariants as stage
use Rattle.gin_scan.proofs.PagesRead.{leaf_turned}
use Rattle.gin_scan.proofs.PagesRefused.{leaf_refused}
use Rattle.gin_scan.proofs.ReadCalls.{still_reads, still_calm}
use Rattle.gin_scan.proofs.StepsOf.{goes, unheld, turns, off_page}
use Rattle.gin_scan.proofs.TreeCalls.{walk_ended}
use Rattle.gin_scan.proofs.scan_core.ScanCore.go_on_leaves.Goals as goal

pub returns-then-page-eq0 : goal.returns-then-page-eq0
returns-then-page-eq0 g c =
    let is = c.requires.may.scanning in
    let f = c.args.frames.now in
    let s = c.args.self.now in
    let more : c.args.key + 1 ≡ suc c.args.key = omega arith in
    let new : ScanCore = record s { stage = c.walk-after.result } in
    let same : new ≡ record s { stage = stage.Down (suc c.args.key) 1 s.extent } =
    ap (λ (z : Stage). record s { stage = z })
    (c.walk-after.ensures.begins ∙ ap (λ (n : ℕ). stage.Down n 1 s.extent) more) in
    let reads = still_reads g.D.Disk f c.args.pass.now is.is_pass is.held in record {
      is_step = goes g.D.Disk _ c.args.query.now f c.args.pass.now s f c.args.pass.now new _ refl
          (walk_ended g.D.Disk _ c.args.query.now f f c.args.pass.now c.args.pass.now s new c.requires.may reads refl
          (λ n z l. l) c.args.key (subst (IsWithin s) c.requires.stage is.is_scan.within) c.args.left
          (subst (λ (p : ℕ). s.stage ≡ stage.Leaf c.args.key p c.args.left) c.if-page-eq0.true c.requires.stage)
          same c.walk-after.ensures.within) reads (still_calm g.D.Disk f.journal);
    }

pub go_further-requires : goal.go_further-requires
go_further-requires g c =
    let s = c.args.self.now in
    let next : c.args.key + 1 ≡ suc c.args.key = omega arith in record {
      may = c.requires.may;
      ends = EndsAs.walk c.args.key (subst (IsWithin s) c.requires.stage c.requires.may.scanning.is_scan.within) (
        c.args.page,
        inr (
          c.if-page-eq0.false,
          subst (λ (n : ℕ). s.stage ≡ stage.Leaf c.args.key c.args.page n) c.if-left-eq0.true c.requires.stage,
        ),
      ) (c.walk-after.ensures.begins ∙ ap (λ (n : ℕ). stage.Down n 1 s.extent) next);
      small = c.walk-after.ensures.within;
    }

pub returns-then-left-eq0 : goal.returns-then-left-eq0
returns-then-left-eq0 g c = record { is_step = c.go_further.ensures.is_step }

pub pass_leaf-next-requires : goal.pass_leaf-next-requires
pass_leaf-next-requires g c =
    record { scan = c.requires.may.scanning.is_scan; page = c.page.ensures.is_page }

pub leave-requires : goal.leave-requires
leave-requires g c =
    let h = c.in_ok-held.ensures.held in record { pass = h.is_pass; holding = h.holding }

pub returns-in_err-held : goal.returns-in_err-held
returns-in_err-held g c =
    let p = err_from_is_err_and c.from_residual.result c.from_residual.ensures.1 in
    let f = c.args.frames.now in
    let s = c.args.self.now in
    let k = c.in_err-held.ensures in
    let w = element_at (sought_in s) c.args.key
    (subst (IsWithin s) c.requires.stage c.requires.may.scanning.is_scan.within) in record {
      is_step = unheld g.D.Disk _ c.args.query.now f c.args.pass.now s c.hold_page.new.frames c.hold_page.new.pass s
          c.hold_page.result c.from_residual.result c.in_err-held.field-0.0 p.0 IsLeaf c.args.page c.in_err-held.was p.1
          p.2 refl k.refused c.hold_page.ensures.fault k.cause
          (leaf_refused g.D.Disk _ c.args.query.now f c.args.pass.now s c.requires.may c.args.key c.args.page
          c.args.left
          w.0 w.1 c.requires.stage c.if-page-eq0.false);
    }

pub returns : goal.returns
returns g c =
    let h = c.in_ok-held.ensures.held in
    let f = c.args.frames.now in
    let s = c.args.self.now in
    let n = c.pass_leaf-next.new.self in
    let next = c.pass_leaf-next.result in
    let page = c.page.result.now in
    let less = subst (IsWithin s) c.requires.stage c.requires.may.scanning.is_scan.within in
    let w = element_at (sought_in s) c.args.key less in
    let small : s.extent < 2 ^ 32 =
    (let y : c.most_pages.result < 2 ^ 32 = c.most_pages.type_inv in omega (arith, y, c.most_pages.ensures)) in
    let read : c.saturating_sub-read.result ≡ s.extent - (c.args.left - 1) =
    c.saturating_sub-read.ensures ∙ ap (λ (m : ℕ). m - (c.args.left - 1)) c.most_pages.ensures in
    let noted : IfOk next (PassesLeaf s c.args.key page (s.extent - (c.args.left - 1)) n) =
    subst (λ (m : ℕ). IfOk next (PassesLeaf s c.args.key page m n)) read c.pass_leaf-next.ensures.noted in
    let one = c.leave.ensures.back f c.args.pass.now c.args.page h in
    let lies = subst (λ (z : Page). Lies f c.args.page z) (sym c.page.ensures.value) h.lies in record {
      is_step = turns g.D.Disk _ c.args.query.now f c.args.pass.now s c.leave.new.frames c.leave.new.pass
          c.leave.new.self next n c.leave.result c.leave.ensures.turns c.pass_leaf-next.ensures.took one
          (off_page g.D.Disk f s next IsLeaf c.args.page page c.page.ensures.is_page lies
          (leaf_refused g.D.Disk _ c.args.query.now f c.args.pass.now s c.requires.may c.args.key c.args.page
          c.args.left
          w.0 w.1 c.requires.stage c.if-page-eq0.false) c.pass_leaf-next.ensures.bad)
          (leaf_turned g.D.Disk _ c.args.query.now f c.args.pass.now s c.requires.may c.leave.new.frames
          c.leave.new.pass one page c.page.ensures.is_page c.args.key c.args.page c.args.left lies w.0 w.1 less
          c.if-left-eq0.false small n c.leave.new.self next c.requires.stage c.if-page-eq0.false noted);
    }
