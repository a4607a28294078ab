-- The pending list is cleaned up where it is long.
use Rattle.std.proofs.Common.{◌≡◌, [], ◌++◌, true, false, sym, ap, subst, ◌∙◌, arith, rules}
use Rattle.std.specs.Prelude.{Result, Err, ⊤}
use Rattle.std.proofs.lemmas.Result.{err_from_is_err_and}
use Rattle.engine.specs.Cleaning.{ByItself, IsListLong}
use Rattle.engine.specs.declared.error.DbError.{DbError}
use Rattle.engine.proofs.Cleanups.{up_by_none, up_as, up_in_turn}
use Rattle.engine.proofs.Paths.{time_of, told_in_turn}
use Rattle.engine.proofs.Tidying.{cleaned_before}
use Rattle.engine.proofs.db.Db.tidy_list.Goals as goal

pub returns-in_err-long-clause-path : goal.returns-in_err-long-clause-path
returns-in_err-long-clause-path g c =
    ([], up_by_none g.D.Disk c.args.self.now c.is_list_long.new.self c.in_err-long.ensures.goes)

pub returns-in_err-long-clause-by_itself : goal.returns-in_err-long-clause-by_itself
returns-in_err-long-clause-by_itself g c =
    let e = c.in_err-long.ensures in
    let q = err_from_is_err_and c.from_residual.result c.from_residual.ensures.1 in
    subst (λ (r : Result ⊤ DbError). ByItself g.D.Disk c.args.self.now c.is_list_long.new.self r)
    (sym (q.1 ∙ ap Err q.2))
    (ByItself.unseen e.cause e.goes)

pub returns-then-not-long-clause-path : goal.returns-then-not-long-clause-path
returns-then-not-long-clause-path g c =
    ([], up_by_none g.D.Disk c.args.self.now c.is_list_long.new.self c.in_ok-long.ensures.goes)

pub returns-then-not-long-clause-by_itself : goal.returns-then-not-long-clause-by_itself
returns-then-not-long-clause-by_itself g c =
    let e = c.in_ok-long.ensures in
    ByItself.short
    (λ (is : IsListLong c.args.self.now).
    let yes : c.in_ok-long.long ≡ true = e.long.1 is in
    let no : c.in_ok-long.long ≡ false = search (rules, c.if-not-long.true) in
    let z : ⊥ = cc in z) e.goes

pub returns-clause-path : goal.returns-clause-path
returns-clause-path g c =
    let e = c.in_ok-long.ensures in
    let n = c.maintained.ensures in (
      [] ++ n.path.0,
      up_in_turn g.D.Disk c.args.self.now c.is_list_long.new.self c.maintained.new.self [] n.path.0
          (up_by_none g.D.Disk c.args.self.now c.is_list_long.new.self e.goes)
          (up_as g.D.Disk c.is_list_long.new.self c.maintained.new.self n.path.0 n.path.1 n.path.2),
    )

pub returns-clause-by_itself : goal.returns-clause-by_itself
returns-clause-by_itself g c =
    let e = c.in_ok-long.ensures in
    let long : c.in_ok-long.long ≡ true = search (rules, c.if-not-long.false) in
    ByItself.cleaned (e.long.0 long)
    (cleaned_before g.D.Disk c.args.self.now c.is_list_long.new.self c.maintained.new.self e.goes c.requires.up e.fault
    c.maintained.result c.maintained.ensures.answered)

pub returns-clause-keeps : goal.returns-clause-keeps
returns-clause-keeps g c =
    let e = c.in_ok-long.ensures in
    let t = c.maintained.ensures.snapshot in
    record { room = t.room ∙ e.keeps.room; shown = omega (arith, e.keeps.shown, t.then.0) }

pub returns-clause-fault : goal.returns-clause-fault
returns-clause-fault g c =
    let e = c.in_ok-long.ensures in
    told_in_turn g.D.Disk c.args.self.now c.is_list_long.new.self c.maintained.new.self c.maintained.result
    (time_of g.D.Disk e.goes) e.fault c.maintained.ensures.fault
