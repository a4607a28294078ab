use Rattle.std.proofs.Common.{sym, ◌∙◌}
use Rattle.std.proofs.lemmas.Bool.{false≢true}
use Rattle.entry_tree.proofs.SplitRule.{cut_most, cut_even}
use Rattle.entry_tree.proofs.splitting.most_or_even.Goals as goal

pub returns-then-keeps_half-clause-cut : goal.returns-then-keeps_half-clause-cut
returns-then-keeps_half-clause-cut c =
    cut_most c.args.page.now.body c.last_fitting-k.result c.requires.entries c.last_fitting-k.ensures
    (c.keeps_half.ensures.0 c.if-keeps_half.true)

pub returns-clause-cut : goal.returns-clause-cut
returns-clause-cut c =
    cut_even c.args.page.now.body c.last_fitting-k.result c.even.result c.requires.entries c.last_fitting-k.ensures
    (λ k. false≢true (sym c.if-keeps_half.false ∙ c.keeps_half.ensures.1 k)) c.even.ensures.even
