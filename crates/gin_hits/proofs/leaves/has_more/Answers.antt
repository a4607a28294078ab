use Rattle.std.proofs.Common.{◌≡◌, ◌∙◌, ◌||◌, ◌==◌, ℕ, false, List, [], ◌∷◌, length, refl}
use Rattle.core_moments.specs.Walk.{is_empty, begins}
use Rattle.gin_hits.proofs.Searching.{begins_tested}
use Rattle.gin_hits.proofs.leaves.has_more.Goals as goal

some_bytes : (asked high : List ℕ) → false ≡ (length high == 0)
    → begins asked high ≡ (is_empty high || begins asked high)
some_bytes asked [] e = cc
some_bytes asked (b ∷ bs) e = refl

pub returns-else-is_empty : goal.returns-else-is_empty
returns-else-is_empty c =
    c.starts_with.ensures.value ∙ begins_tested c.args.asked.now c.args.high.now
    ∙ some_bytes c.args.asked.now c.args.high.now c.if-is_empty.ensures
