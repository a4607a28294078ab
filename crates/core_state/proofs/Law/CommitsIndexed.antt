-- Each commit of a legal log found the documents of its transaction indexed.
use Rattle.std.proofs.Common.{suc, ◌∷◌, length, subst}
use Rattle.page_types.specs.declared.record.Kind.TheVariants as kind
use Rattle.core_state.specs.Log.{Log, Pages, commits}
use Rattle.core_state.specs.Index.{IsIndexed}
use Rattle.core_state.specs.TransactionRules.{IsCommit}
use Rattle.core_state.specs.Legal.{RecordsAreValid}
use Rattle.core_state.specs.Standing.{CommitsIndexed}
use Rattle.core_state.proofs.Showing.{shown_one}
use Rattle.core_state.proofs.RulesByKind.{kind_rule}
use Rattle.core_state.proofs.SteadyPages.{valid_behind}

pub commits_indexed : (R : Log) → RecordsAreValid R → CommitsIndexed R
commits_indexed R valid later earlier r number P log_is kind_is shown d i =
    let u = (valid_behind later (r ∷ earlier) (subst RecordsAreValid log_is valid)).1 in
    let row : IsCommit earlier u.before u.after r =
    kind_rule earlier u.before u.after r (commits earlier) (suc (length earlier)) (kind.Commit number) kind_is u.rule in
    subst (λ (S : Pages). IsIndexed S d) (shown_one earlier u.before P u.shown shown) (row.rest d i)
