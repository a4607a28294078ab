use Rattle.std.proofs.Common.{sym, subst, List}
use Rattle.std.specs.List.{All}
use Rattle.std.proofs.lemmas.List.Elements.{All-push}
use Rattle.page_types.specs.declared.page.Page.{Page}
use Rattle.page_types.specs.Pages.{IsPage}
use Rattle.log_model.proofs.told.Pages.push.Goals as goal

pub returns-in_err-behind-clause-before : goal.returns-in_err-behind-clause-before
returns-in_err-behind-clause-before c =
    subst (λ (l : List Page). All IsPage l) (sym c.in_ok-push.ensures.items)
    (All-push IsPage c.args.self.now.before.items c.in_ok-before.before c.requires.before c.in_ok-before.ensures)

pub returns-in_err-push-2-clause-before : goal.returns-in_err-push-2-clause-before
returns-in_err-push-2-clause-before c =
    subst (λ (l : List Page). All IsPage l) (sym c.in_ok-push.ensures.items)
    (All-push IsPage c.args.self.now.before.items c.in_ok-before.before c.requires.before c.in_ok-before.ensures)

pub returns-clause-before : goal.returns-clause-before
returns-clause-before c =
    subst (λ (l : List Page). All IsPage l) (sym c.in_ok-push.ensures.items)
    (All-push IsPage c.args.self.now.before.items c.in_ok-before.before c.requires.before c.in_ok-before.ensures)

pub returns-clause-behind : goal.returns-clause-behind
returns-clause-behind c =
    subst (λ (l : List Page). All IsPage l) (sym c.in_ok-push-2.ensures.items)
    (All-push IsPage c.args.self.now.behind.items c.in_ok-behind.behind c.requires.behind c.in_ok-behind.ensures)
