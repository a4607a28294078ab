use Rattle.std.proofs.Common.{arith, refl, ap, sym, subst, ◌<◌}
use Rattle.latch_table.proofs.Splits.{splits}
use Rattle.latch_table.proofs.Passing.{same_pass, split_pass}
use Rattle.latch_table.proofs.table.LatchTable.split.Goals as goal

pub split_seat-seat-requires : goal.split_seat-seat-requires
split_seat-seat-requires g c = (
  c.requires.pass.table,
  omega (arith, c.args.self.now.words, c.args.self.now.last),
  splits g.F.Framed g.J.Journaled _ _ _ c.requires.room c.requires.pass.seen,
)

pub returns-clause-pass : goal.returns-clause-pass
returns-clause-pass g c =
    let e = c.split_seat-seat.ensures in
    let now = ap (λ m. m.0) e.2 in
    let room = c.requires.room in
    same_pass _ c.args.pass.now _ c.requires.pass e.0 (ap (λ v. v.start) now) (ap (λ v. v.fresh) now)
    (ap (λ v. v.frames) now)
    (ap (λ v. v.journal) now) (subst (λ v. 0 < v.room) (sym now) (omega arith)) (ap (λ m. m.1) e.2) refl

pub returns-clause-second : goal.returns-clause-second
returns-clause-second g c =
    let e = c.split_seat-seat.ensures in
    split_pass _ c.args.pass.now _ c.requires.pass e.3 (ap (λ m. m.0) e.4) (ap (λ m. m.1) e.4) refl
