use Rattle.std.proofs.Common.{◌≡◌, ◌≤◌, arith}
use Rattle.std.proofs.lemmas.Bool.Decides.{nat_tests}
use Rattle.core_state.specs.Changes.{IsNew}
use Rattle.core_state.specs.States.{use_of}
use Rattle.core_state.specs.declared.answers.PageUse.TheVariants as usage
use Rattle.core_state.proofs.LowestUse.{deleted_back}
use Rattle.core_state.proofs.state.State.is_new.Goals as goal

pub returns-in-Deleted : goal.returns-in-Deleted
returns-in-Deleted c =
    let is : use_of c.args.self.now.value c.args.page ≡ usage.Deleted c.in-Deleted.stamp = cc in (
      λ e. IsNew.deleted c.in-Deleted.stamp is (grind (arith, nat_tests, e)),
      λ w. let old : c.in-Deleted.stamp ≤
          c.args.since = deleted_back c.args.self.now.value.uses c.args.since c.args.page c.in-Deleted.stamp is w in
          grind (arith, nat_tests, old),
    )
