-- The heap page of a kept item is read, or the heads end.
use Rattle.std.proofs.Common.{◌≡◌, ◌<◌, ◌≤◌, ℕ, Bool, List, Some, length, refl, sym, subst, ◌∙◌, arith, slice_get}
use Rattle.std.proofs.lemmas.Result.{err_from_is_err_and}
use Rattle.page_types.specs.declared.page.Page.{Page}
use Rattle.buffer_frames.specs.Frames.{Lies}
use Rattle.gin_scan.specs.Causes.{HasSlots}
use Rattle.gin_scan.proofs.HeadsCalls.{got, page_was_read}
use Rattle.gin_scan.proofs.LongBegun.{long_took}
use Rattle.gin_scan.proofs.PagesRead.{heads_turned}
use Rattle.gin_scan.proofs.PagesRefused.{heads_refused, heads_off}
use Rattle.gin_scan.proofs.PartsCalls.{heads_ended}
use Rattle.gin_scan.proofs.ReadCalls.{still_reads, still_calm, still_holds, state_same}
use Rattle.gin_scan.proofs.StepsOf.{goes, unheld, turns}
use Rattle.gin_scan.proofs.scan_core.ScanCore.go_on_heads.Goals as goal

pub returns-then-at-len : goal.returns-then-at-len
returns-then-at-len g c =
    let is = c.requires.may.scanning in
    let f = c.args.frames.now in
    let s = c.args.self.now in
    let new = c.begin_long.new.self in
    let all : length s.kept.items ≤ c.args.at = omega (arith, c.if-at-len.true, c.len.ensures, s.kept.ok.0) in
    let ended = heads_ended g.D.Disk _ c.args.query.now f c.args.pass.now s c.requires.may c.args.at new
    c.requires.stage all c.begin_long.ensures in record {
      serves = c.requires.serves;
      is_step = goes g.D.Disk _ c.args.query.now f c.args.pass.now s f c.args.pass.now new _
          (long_took s new 0 c.begin_long.ensures) ended
          (still_reads g.D.Disk f c.args.pass.now is.is_pass is.held) (still_calm g.D.Disk f.journal);
    }

pub read_page-next-requires : goal.read_page-next-requires
read_page-next-requires g c =
    let q = c.end_of_page-end.ensures in record {
      pass = c.in_ok-held.ensures.held.is_pass;
      serves = c.requires.serves;
      ordered = q.behind;
      within = subst (λ (ks : List (ℕ × Bool)). c.end_of_page-end.result ≤ length ks) c.as_slice.ensures.value q.within;
    }

pub leave-requires : goal.leave-requires
leave-requires g c =
    let l = c.read_page-next.ensures.looks in record {
      pass = l.is_pass;
      holding = l.holding _ c.in_ok-held.ensures.held.holding;
    }

pub returns-in_err-held : goal.returns-in_err-held
returns-in_err-held g c =
    let p = err_from_is_err_and c.from_residual.result c.from_residual.ensures.1 in
    let f = c.args.frames.now in
    let s = c.args.self.now in
    let n = c.page_of-number.result in
    let k = c.in_err-held.ensures in
    let more : c.args.at < length s.kept.items = omega (arith, c.if-at-len.false, c.len.ensures, s.kept.ok.0) in
    let there = got s.kept.items c.args.at c.index.result.now more c.index.ensures in record {
      serves = c.requires.serves;
      is_step = unheld g.D.Disk _ c.args.query.now f c.args.pass.now s c.hold_page.new.frames c.hold_page.new.pass s
          c.hold_page.result c.from_residual.result c.in_err-held.field-0.0 p.0 HasSlots n c.in_err-held.was p.1 p.2
          refl
          k.refused c.hold_page.ensures.fault k.cause
          (heads_refused g.D.Disk _ c.args.query.now f c.args.pass.now s c.requires.may g.met.J.Judge.sound c.args.at n
          c.requires.stage c.index.result.now there c.page_of-number.ensures);
    }

pub returns : goal.returns
returns g c =
    let a = c.args.frames.now in
    let b = c.hold_page.new.frames in
    let s = c.args.self.now in
    let h = c.in_ok-held.ensures.held in
    let r = c.read_page-next.ensures in
    let next = c.read_page-next.result in
    let new = c.read_page-next.new.self in
    let page = c.page-page.result.now in
    let n = c.page_of-number.result in
    let kept = s.kept.items in
    let same : c.as_slice.result.now ≡ kept = c.as_slice.ensures.value in
    let lies = subst (λ (z : Page). Lies a n z) (sym c.page-page.ensures.value) h.lies in
    let q = c.end_of_page-end.ensures in
    let more : c.args.at < length s.kept.items = omega (arith, c.if-at-len.false, c.len.ensures, s.kept.ok.0) in
    let there = got kept c.args.at c.index.result.now more c.index.ensures in
    let less : c.args.at < c.end_of_page-end.result = q.more c.index.result.now.0 c.index.result.now.1
    (subst (λ (ks : List (ℕ × Bool)). slice_get ks c.args.at ≡ Some c.index.result.now) (sym same) there)
    (sym c.page_of-number.ensures) in
    let one = c.leave.ensures.back a c.args.pass.now n
    (still_holds g.D.Disk a b c.read_page-next.new.frames c.args.pass.now c.hold_page.new.pass
    c.read_page-next.new.pass n c.in_ok-held.held h r.looks) in record {
      serves = r.serves;
      is_step = turns g.D.Disk _ c.args.query.now a c.args.pass.now s c.leave.new.frames c.leave.new.pass
          c.leave.new.self next new c.leave.result c.leave.ensures.turns r.took one
          (heads_off g.D.Disk _ c.args.query.now a c.args.pass.now s c.requires.may g.met.J.Judge.sound c.args.at n
          c.requires.stage c.index.result.now there c.page_of-number.ensures b next page c.page-page.ensures.is_page
          lies
          h.calm.down r.error)
          (heads_turned g.D.Disk _ c.args.query.now a c.args.pass.now s c.requires.may c.leave.new.frames
          c.leave.new.pass
          one page c.page-page.ensures.is_page new c.leave.new.self next g.met.J.Judge.sound
          c.read_page-next.new.frames c.args.at c.end_of_page-end.result n c.requires.stage
          (page_was_read g.D.Disk _ g.met.J.Judge.sound c.args.query.now a c.args.pass.now s c.requires.may c.args.at
          c.requires.stage next c.read_page-next.new.frames new c.end_of_page-end.result n page c.index.result.now there
          (sym c.page_of-number.ensures)
          less
          (subst (λ (ks : List (ℕ × Bool)). c.end_of_page-end.result ≤ length ks) same q.within)
          (λ k at. q.next k
          (subst (λ (ks : List (ℕ × Bool)). slice_get ks c.end_of_page-end.result ≡ Some k) (sym same) at))
          (λ j item sure low high at. q.here j item sure low high
          (subst (λ (ks : List (ℕ × Bool)). slice_get ks j ≡ Some (item, sure)) (sym same) at))
          c.page-page.ensures.is_page lies
          (state_same g.D.Disk b c.read_page-next.new.frames r.looks.adds ∙ state_same g.D.Disk a b h.adds) r.taken
          r.counted r.rest) r.next);
    }
