use Rattle.std.proofs.Common.{sym, subst}
use Rattle.posting_tree.specs.Reading.{IsPostBody}
use Rattle.gin_vacuum.proofs.ParentSteps.{only_down}
use Rattle.gin_vacuum.proofs.sweeping.child_toward.Goals as goal

pub find-requires-clause-postings : goal.find-requires-clause-postings
find-requires-clause-postings c = subst IsPostBody (sym c.in-PostInner.is) (IsPostBody.inner c.in-PostInner.field-0)

pub returns-in_default-find : goal.returns-in_default-find
returns-in_default-find c = record {
  some = tt;
  none = λ child x.
      let d = only_down c.args.page.now.right c.args.page.now.body c.args.item c.find.result child c.find.ensures x in
      c.in_default-find.not-Down d.0 d.1;
}
