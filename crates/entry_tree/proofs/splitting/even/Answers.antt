use Rattle.std.proofs.Common.{sym, ◌∙◌}
use Rattle.std.proofs.lemmas.Bool.{false≢true}
use Rattle.entry_tree.proofs.SplitRule.{even_half, even_none, even_longest}
use Rattle.entry_tree.proofs.splitting.even.Goals as goal
use Rattle.entry_tree.proofs.splitting.even.Goals.{in-Some+else-fits, in_default}

pub returns-then-fits-clause-even : goal.returns-then-fits-clause-even
returns-then-fits-clause-even c =
    even_half c.args.page.now.body c.in-Some.k c.requires.entries c.in-Some.ensures.some
    (c.fits.ensures.0 c.if-fits.true) c.requires.page.fits

pub returns-clause-even : goal.returns-clause-even
returns-clause-even c = elim c.match-first_half.branch [
  | in-Some+else-fits w ↦
      even_longest c.args.page.now.body w.in-Some.k c.last_fitting.result c.requires.entries w.in-Some.ensures.some
      (λ f. false≢true (sym w.if-fits.false ∙ w.fits.ensures.1 f)) c.last_fitting.ensures
  | in_default w ↦ even_none c.args.page.now.body c.last_fitting.result c.requires.entries
      w.in_default.ensures.none c.last_fitting.ensures
]
