use Rattle.std.proofs.Common.{[], length, sym, ap, subst, ◌∙◌, Err}
use Rattle.std.proofs.lemmas.Result.{err_from_is_err_and}
use Rattle.gin_place.proofs.Carrying.{right_on}
use Rattle.gin_cleanup.specs.Inner.Stepping.{StepEnds}
use Rattle.gin_cleanup.proofs.Noted.{few_read, page_bad, read_all, read_cause, read_worked}
use Rattle.gin_cleanup.proofs.Worked.{refused}
use Rattle.gin_cleanup.proofs.cleanup.Cleanup.read.Goals as goal

pub returns-then-has_read_all : goal.returns-then-has_read_all
returns-then-has_read_all g c =
    read_all g.D.Disk c.args.frames.now c.args.pass.now c.args.self.now c.next_key.new.self c.args.page
    c.requires.next.0 c.requires.next.1 c.requires.pass c.requires.none
    ((c.has_read_all.ensures).0 c.if-has_read_all.true) c.requires.some c.next_key.ensures

pub hold_seen-requires : goal.hold_seen-requires
hold_seen-requires g c = record { pass = c.requires.pass; right = c.requires.right; none = c.requires.none }

pub returns-in_err-held : goal.returns-in_err-held
returns-in_err-held g c =
    let f = c.args.frames.now in
    let p = c.args.pass.now in
    let last = c.hold_seen.new.frames in
    let self = c.args.self.now in
    let r = err_from_is_err_and c.from_residual.result c.from_residual.ensures.1 in
    let w = c.in_err-held.field-0.0 in
    let e = c.in_err-held.ensures in
    let few = few_read (length self.counts.items) self.left c.has_read_all.result c.has_read_all.ensures
    c.if-has_read_all.false in
    let bad = page_bad g.D.Disk f p c.requires.cleaning.0 self c.args.page c.requires.next.0 c.requires.next.1 few
    c.requires.cleaning.1 c.requires.pass c.requires.right c.requires.none in
    subst (StepEnds g.D.Disk f p last c.hold_seen.new.pass self self) (sym (r.1 ∙ ap Err r.2))
    (refused g.D.Disk f last p c.hold_seen.new.pass c.requires.pass c.requires.right c.requires.none
    c.hold_seen.ensures.reads self w e.still
    (read_cause g.D.Disk f last p c.args.page c.requires.pass bad w e.cause
    (λ n same. c.hold_seen.ensures.bad n (c.in_err-held.was ∙ ap Err same))) e.fault)

pub release-requires : goal.release-requires
release-requires g c =
    let works = c.hold_seen.ensures.reads.works in
    record {
      pass = works.is_pass;
      right = right_on g.D.Disk c.args.frames.now c.hold_seen.new.frames c.args.pass.now c.hold_seen.new.pass []
          c.requires.right works;
      holding = ([], c.in_ok-held.ensures.holding);
    }

pub returns : goal.returns
returns g c =
    let self = c.args.self.now in
    let h = c.in_ok-held.ensures in
    let few = few_read (length self.counts.items) self.left c.has_read_all.result c.has_read_all.ensures
    c.if-has_read_all.false in
    read_worked g.D.Disk c.args.frames.now c.hold_seen.new.frames c.release.new.frames c.args.pass.now
    c.hold_seen.new.pass c.release.new.pass c.in_ok-held.held c.requires.pass c.requires.right c.requires.none
    c.hold_seen.ensures.reads h.holding c.release.ensures.reads c.args.page h.number h.seen c.page.result.now
    c.page.ensures.value c.page.ensures.is_page h.lies h.fine c.release.ensures.calm self c.note-noted.new.self
    c.requires.next.0 c.requires.next.1 few c.requires.cleaning c.note-noted.result c.note-noted.ensures
    (sym (c.release.ensures.holding [] h.holding).all)
