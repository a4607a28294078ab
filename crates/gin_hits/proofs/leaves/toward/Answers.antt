use Rattle.std.proofs.Common.{◌∙◌, sym, ap}
use Rattle.std.proofs.lemmas.Bool.{false≢true}
use Rattle.gin_hits.proofs.FoundToward.{next_found, found_toward, no_tree}
use Rattle.gin_hits.proofs.leaves.toward.Goals as goal

pub returns-then-not-is_of_tree : goal.returns-then-not-is_of_tree
returns-then-not-is_of_tree g c =
    sym (no_tree c.args.key.now c.args.page.now
    (λ b. false≢true (sym c.if-not-is_of_tree.true ∙ c.is_of_tree.ensures.1 b)))

pub returns-in-Down : goal.returns-in-Down
returns-in-Down g c =
    ap next_found (sym c.in-Down.is)
    ∙ found_toward c.args.key.now c.args.page.now c.requires c.find.result c.find.ensures

pub returns-in-Right : goal.returns-in-Right
returns-in-Right g c =
    ap next_found (sym c.in-Right.is)
    ∙ found_toward c.args.key.now c.args.page.now c.requires c.find.result c.find.ensures

pub returns-in-Here : goal.returns-in-Here
returns-in-Here g c =
    ap next_found (sym c.in-Here.is)
    ∙ found_toward c.args.key.now c.args.page.now c.requires c.find.result c.find.ensures

pub returns-in-Absent : goal.returns-in-Absent
returns-in-Absent g c =
    ap next_found (sym c.in-Absent.is)
    ∙ found_toward c.args.key.now c.args.page.now c.requires c.find.result c.find.ensures
