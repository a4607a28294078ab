-- The next page of a posting tree is read, or what comes after it.
use Rattle.std.proofs.Common.{◌≡◌, ◌+◌, ℕ, suc, refl, sym, subst, inl, arith}
use Rattle.std.proofs.lemmas.Result.{err_from_is_err_and}
use Rattle.page_types.specs.declared.page.Page.{Page}
use Rattle.core_moments.specs.OpenLaws.{IsPostingPage}
use Rattle.buffer_frames.specs.Frames.{Lies}
use Rattle.gin_hits.proofs.JudgedScan.{element_at}
use Rattle.gin_scan.specs.Inner.Ways.{EndsAs, GoesToTree}
use Rattle.gin_scan.specs.Scanning.{sought_in}
use Rattle.gin_scan.specs.declared.scan_core.ScanCore.{ScanCore}
use Rattle.gin_scan.specs.declared.stage.Stage.TheVariants as stage
use Rattle.gin_scan.proofs.PagesRead.{tree_turned}
use Rattle.gin_scan.proofs.PagesRefused.{tree_refused}
use Rattle.gin_scan.proofs.PostingCalls.{tree_left, posting_there}
use Rattle.gin_scan.proofs.ReadCalls.{still_reads, still_calm}
use Rattle.gin_scan.proofs.StepsOf.{goes, unheld, turns, off_page}
use Rattle.gin_scan.proofs.scan_core.ScanCore.go_on_trees.Goals as goal

pub returns-then-page-eq0 : goal.returns-then-page-eq0
returns-then-page-eq0 g c =
    let is = c.requires.may.scanning in
    let f = c.args.frames.now in
    let s = c.args.self.now in
    let z = c.next_tree-after.result in
    let new : ScanCore = record s { stage = z } in
    let more : c.args.at + 1 ≡ suc c.args.at = omega arith in
    let reads = still_reads g.D.Disk f c.args.pass.now is.is_pass is.held in record {
      is_step = goes g.D.Disk _ c.args.query.now f c.args.pass.now s f c.args.pass.now new _ refl
          (tree_left g.D.Disk _ c.args.query.now f f c.args.pass.now c.args.pass.now s new c.requires.may reads refl
          (λ n y l. l) c.args.key c.args.at c.args.page c.args.left c.args.then c.args.read c.requires.stage z refl
          (subst (λ (m : ℕ). GoesToTree s c.args.key m c.args.then c.args.read z) more c.next_tree-after.ensures.goes)
          (inl c.if-page-eq0.true) c.next_tree-after.ensures.within) reads (still_calm g.D.Disk f.journal);
    }

pub go_further-requires : goal.go_further-requires
go_further-requires g c =
    let s = c.args.self.now in
    let z = c.next_tree-after.result in
    let more : c.args.at + 1 ≡ suc c.args.at = omega arith in record {
      may = c.requires.may;
      ends = EndsAs.tree c.args.key c.args.at c.args.page c.args.then c.args.read c.if-page-eq0.false
          (subst (λ (n : ℕ). s.stage ≡ stage.Posting c.args.key c.args.at c.args.page n c.args.then c.args.read)
          c.if-left-eq0.true c.requires.stage)
          (subst (λ (m : ℕ). GoesToTree s c.args.key m c.args.then c.args.read z) more
          c.next_tree-after.ensures.goes);
      small = c.next_tree-after.ensures.within;
    }

pub returns-then-left-eq0 : goal.returns-then-left-eq0
returns-then-left-eq0 g c = record { is_step = c.go_further.ensures.is_step }

pub note_posting-next-requires : goal.note_posting-next-requires
note_posting-next-requires g c =
    let is = c.requires.may.scanning.is_scan in record {
      scan = is;
      page = c.page.ensures.is_page;
      some = (posting_there c.args.self.now c.args.key c.args.at c.args.page c.args.left c.args.then c.args.read is
          c.requires.stage).1;
    }

pub leave-requires : goal.leave-requires
leave-requires g c =
    let h = c.in_ok-held.ensures.held in record { pass = h.is_pass; holding = h.holding }

pub returns-in_err-held : goal.returns-in_err-held
returns-in_err-held g c =
    let p = err_from_is_err_and c.from_residual.result c.from_residual.ensures.1 in
    let f = c.args.frames.now in
    let s = c.args.self.now in
    let k = c.in_err-held.ensures in
    let there = posting_there s c.args.key c.args.at c.args.page c.args.left c.args.then c.args.read
    c.requires.may.scanning.is_scan c.requires.stage in
    let w = element_at (sought_in s) c.args.key there.0 in record {
      is_step = unheld g.D.Disk _ c.args.query.now f c.args.pass.now s c.hold_page.new.frames c.hold_page.new.pass s
          c.hold_page.result c.from_residual.result c.in_err-held.field-0.0 p.0 IsPostingPage c.args.page
          c.in_err-held.was p.1 p.2 refl k.refused c.hold_page.ensures.fault k.cause
          (tree_refused g.D.Disk _ c.args.query.now f c.args.pass.now s c.requires.may c.args.key c.args.page
          c.args.left
          w.0 w.1 c.args.at c.args.then c.args.read c.requires.stage c.if-page-eq0.false);
    }

pub returns : goal.returns
returns g c =
    let h = c.in_ok-held.ensures.held in
    let f = c.args.frames.now in
    let s = c.args.self.now in
    let n = c.note_posting-next.new.self in
    let next = c.note_posting-next.result in
    let page = c.page.result.now in
    let there = posting_there s c.args.key c.args.at c.args.page c.args.left c.args.then c.args.read
    c.requires.may.scanning.is_scan c.requires.stage in
    let w = element_at (sought_in s) c.args.key there.0 in
    let one = c.leave.ensures.back f c.args.pass.now c.args.page h in
    let lies = subst (λ (z : Page). Lies f c.args.page z) (sym c.page.ensures.value) h.lies in record {
      is_step = turns g.D.Disk _ c.args.query.now f c.args.pass.now s c.leave.new.frames c.leave.new.pass
          c.leave.new.self next n c.leave.result c.leave.ensures.turns c.note_posting-next.ensures.took one
          (off_page g.D.Disk f s next IsPostingPage c.args.page page c.page.ensures.is_page lies
          (tree_refused g.D.Disk _ c.args.query.now f c.args.pass.now s c.requires.may c.args.key c.args.page
          c.args.left
          w.0 w.1 c.args.at c.args.then c.args.read c.requires.stage c.if-page-eq0.false)
          c.note_posting-next.ensures.bad)
          (tree_turned g.D.Disk _ c.args.query.now f c.args.pass.now s c.requires.may c.leave.new.frames
          c.leave.new.pass one page c.page.ensures.is_page n c.leave.new.self next c.args.key c.args.at c.args.page
          c.args.left c.args.then c.args.read lies c.requires.stage c.if-page-eq0.false c.if-left-eq0.false w.0 w.1
          there
          c.note_posting-next.ensures.noted);
    }
