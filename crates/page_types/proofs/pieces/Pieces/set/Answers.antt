use Rattle.std.proofs.Common.{◌≡◌, List, ℕ, OnOk, subst}
use Rattle.page_types.proofs.Splicing.{one_set}
use Rattle.page_types.proofs.pieces.Pieces.set.Goals as goal

pub returns-clause-ok : goal.returns-clause-ok
returns-clause-ok c =
    subst (λ (l : List (List ℕ)). OnOk c.replace.result (c.replace.new.self ≡ l))
    (one_set c.args.self.now c.args.piece.now c.args.k c.requires) c.replace.ensures.ok
