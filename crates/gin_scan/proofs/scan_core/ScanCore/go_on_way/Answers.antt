-- The next page on the way of a key is read, or all items are judged.
use Rattle.std.proofs.Common.{◌≡◌, ℕ, suc, ◌+◌, ◌-◌, ◌^◌, ◌<◌, length, refl, subst, sym, ap, ◌∙◌, inl, inr}
use Rattle.std.proofs.Common.{arith}
use Rattle.std.proofs.lemmas.Result.{err_from_is_err_and}
use Rattle.page_types.specs.declared.page.Page.{Page}
use Rattle.buffer_frames.specs.Frames.{Lies}
use Rattle.gin_hits.proofs.JudgedScan.{element_at}
use Rattle.gin_scan.specs.Causes.{HasWay}
use Rattle.gin_scan.specs.Inner.Ways.{EndsAs}
use Rattle.gin_scan.specs.Scanning.{IsWithin, sought_in}
use Rattle.gin_scan.specs.declared.stage.Stage.TheVariants as stage
use Rattle.gin_scan.proofs.PagesRead.{way_turned}
use Rattle.gin_scan.proofs.PagesRefused.{way_refused, way_off}
use Rattle.gin_scan.proofs.StepsOf.{unheld, turns, off_page}
use Rattle.gin_scan.proofs.scan_core.ScanCore.go_on_way.Goals as goal

pub judge_all-requires : goal.judge_all-requires
judge_all-requires g c =
    let s = c.args.self.now in
    let all : c.args.key ≡ length (sought_in s) =
    elim (subst (IsWithin s) c.requires.stage c.requires.may.scanning.is_scan.within) [
      | inl less ↦ absurd (omega (arith, less, c.walk_count.ensures.count, c.if-key-walk_count.true))
      | inr is ↦ is.0
    ] in record {
      may = c.requires.may;
      stage = (
        c.args.page,
        c.args.left,
        subst (λ (n : ℕ). s.stage ≡ stage.Down n c.args.page c.args.left) all c.requires.stage,
      );
      serves = c.requires.serves;
    }

pub returns-then-key-walk_count : goal.returns-then-key-walk_count
returns-then-key-walk_count g c =
    record { serves = c.judge_all.ensures.serves; is_step = c.judge_all.ensures.is_step }

pub note_way-next-requires : goal.note_way-next-requires
note_way-next-requires g c = record {
  scan = c.requires.may.scanning.is_scan;
  page = c.page.ensures.is_page;
  read = c.saturating_sub-read.ensures ∙ ap (λ (m : ℕ). m - (c.args.left - 1)) c.most_pages.ensures;
}

pub go_further-requires : goal.go_further-requires
go_further-requires g c =
    let s = c.args.self.now in
    let some : c.args.key < length (sought_in s) =
    omega (arith, c.walk_count.ensures.count, c.if-key-walk_count.false) in
    let next : c.args.key + 1 ≡ suc c.args.key = omega arith in record {
      may = c.requires.may;
      ends = EndsAs.walk c.args.key some (
        c.args.page,
        inl (subst (λ (n : ℕ). s.stage ≡ stage.Down c.args.key c.args.page n) c.if-left-eq0.true c.requires.stage),
      ) (c.walk-after.ensures.begins ∙ ap (λ (n : ℕ). stage.Down n 1 s.extent) next);
      small = c.walk-after.ensures.within;
    }

pub returns-then-left-eq0 : goal.returns-then-left-eq0
returns-then-left-eq0 g c = record { serves = c.requires.serves; is_step = c.go_further.ensures.is_step }

pub leave-requires : goal.leave-requires
leave-requires g c =
    let h = c.in_ok-held.ensures.held in record { pass = h.is_pass; holding = h.holding }

pub returns-in_err-held : goal.returns-in_err-held
returns-in_err-held g c =
    let p = err_from_is_err_and c.from_residual.result c.from_residual.ensures.1 in
    let f = c.args.frames.now in
    let s = c.args.self.now in
    let k = c.in_err-held.ensures in
    let some : c.args.key < length (sought_in s) =
    omega (arith, c.walk_count.ensures.count, c.if-key-walk_count.false) in
    let w = element_at (sought_in s) c.args.key some in record {
      serves = c.requires.serves;
      is_step = unheld g.D.Disk _ c.args.query.now f c.args.pass.now s c.hold_page.new.frames c.hold_page.new.pass s
          c.hold_page.result c.from_residual.result c.in_err-held.field-0.0 p.0 (HasWay w.0) c.args.page
          c.in_err-held.was p.1 p.2 refl k.refused c.hold_page.ensures.fault k.cause
          (way_refused g.D.Disk _ c.args.query.now f c.args.pass.now s c.requires.may c.args.key c.args.page c.args.left
          w.0 w.1 c.requires.stage);
    }

pub returns : goal.returns
returns g c =
    let h = c.in_ok-held.ensures.held in
    let f = c.args.frames.now in
    let s = c.args.self.now in
    let n = c.note_way-next.new.self in
    let next = c.note_way-next.result in
    let page = c.page.result.now in
    let some : c.args.key < length (sought_in s) =
    omega (arith, c.walk_count.ensures.count, c.if-key-walk_count.false) in
    let w = element_at (sought_in s) c.args.key some in
    let small : s.extent < 2 ^ 32 =
    (let y : c.most_pages.result < 2 ^ 32 = c.most_pages.type_inv in omega (arith, y, c.most_pages.ensures)) in
    let one = c.leave.ensures.back f c.args.pass.now c.args.page h in
    let lies = subst (λ (z : Page). Lies f c.args.page z) (sym c.page.ensures.value) h.lies in record {
      serves = c.requires.serves;
      is_step = turns g.D.Disk _ c.args.query.now f c.args.pass.now s c.leave.new.frames c.leave.new.pass
          c.leave.new.self next n c.leave.result c.leave.ensures.turns c.note_way-next.ensures.took one
          (off_page g.D.Disk f s next (HasWay w.0) c.args.page page c.page.ensures.is_page lies
          (way_refused g.D.Disk _ c.args.query.now f c.args.pass.now s c.requires.may c.args.key c.args.page c.args.left
          w.0 w.1 c.requires.stage)
          (way_off next (sought_in s) c.args.key c.args.page page w.0 w.1 c.note_way-next.ensures.bad))
          (way_turned g.D.Disk _ c.args.query.now f c.args.pass.now s c.requires.may c.leave.new.frames c.leave.new.pass
          one page c.page.ensures.is_page c.args.key c.args.page c.args.left lies w.0 w.1 some c.if-left-eq0.false
          small n
          c.leave.new.self next c.requires.stage c.note_way-next.ensures.noted);
    }
