use Rattle.std.proofs.Common.{arith, refl, ap, sym, subst, ◌∙◌, ◌≤◌, length, inl, inr}
use Rattle.core_state.specs.Log.{Log, In}
use Rattle.latch_table.specs.declared.states.PassState.{PassState}
use Rattle.latch_table.specs.Passes.{state}
use Rattle.latch_table.proofs.Joins.{joins, looks, longer_left, longer_right}
use Rattle.latch_table.proofs.Passing.{idle_out, joined_pass}
use Rattle.latch_table.proofs.table.LatchTable.join.Goals as goal

pub join_seat-requires : goal.join_seat-requires
join_seat-requires g c =
    let i = c.requires.idle in
    let room = c.requires.pass.room in (
      c.requires.pass.table,
      c.requires.other.table,
      idle_out _ c.args.other c.requires.other i,
      omega (arith, c.args.self.now.words, c.args.self.now.last),
      joins g.F.Framed g.J.Journaled _ _ _ _ _
          (λ e. absurd (omega arith)) c.requires.pass.seen i.frames i.journal_is i.work i.pin,
    )

pub load-requires : goal.load-requires
load-requires g c = (
  c.join_seat.ensures.0 ∙ c.requires.pass.table,
  omega (arith, c.args.self.now.words, c.args.self.now.last),
  looks g.F.Framed g.J.Journaled _ _ _ _,
)

pub returns-clause-both : goal.returns-clause-both
returns-clause-both g c = ap (λ m. m.0) c.load.ensures.2.0 ∙ ap (λ m. m.0) c.join_seat.ensures.2

pub returns-clause-this : goal.returns-clause-this
returns-clause-this g c =
    let v = state c.args.pass.now in
    let w = state c.args.other in
    let now = ap (λ m. m.0) c.join_seat.ensures.2 in
    let met = ap (λ (x : PassState g.row.J.Denot). x.met) now in
    let seen = ap (λ (x : PassState g.row.J.Denot). x.seen) now in
    let t = c.load.ensures.2.1 v.seen (subst (In v.seen) (sym met) (inl refl))
    (subst (λ (l : Log). length v.seen ≤ length l) (sym seen) (longer_left v.seen w.seen)) in
    (t.0, ap (λ m. m.0.seen) c.load.ensures.2.0 ∙ t.1)

pub returns-clause-that : goal.returns-clause-that
returns-clause-that g c =
    let v = state c.args.pass.now in
    let w = state c.args.other in
    let now = ap (λ m. m.0) c.join_seat.ensures.2 in
    let met = ap (λ (x : PassState g.row.J.Denot). x.met) now in
    let seen = ap (λ (x : PassState g.row.J.Denot). x.seen) now in
    let t = c.load.ensures.2.1 w.seen (subst (In w.seen) (sym met) (inr (inl refl)))
    (subst (λ (l : Log). length w.seen ≤ length l) (sym seen) (longer_right v.seen w.seen)) in
    (t.0, ap (λ m. m.0.seen) c.load.ensures.2.0 ∙ t.1)

pub returns-clause-pass : goal.returns-clause-pass
returns-clause-pass g c =
    joined_pass _ c.args.pass.now _ (state c.args.other) c.requires.pass (c.load.ensures.0 ∙ c.join_seat.ensures.0)
    (ap (λ m. m.0) c.load.ensures.2.0 ∙ ap (λ m. m.0) c.join_seat.ensures.2)
    (ap (λ m. m.1) c.load.ensures.2.0 ∙ ap (λ m. m.1) c.join_seat.ensures.2) refl
