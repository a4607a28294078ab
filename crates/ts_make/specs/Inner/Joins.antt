-- The two ways to join groups.
use Rattle.std.specs.Prelude.{List, Bool, false}
use Rattle.ts_base.specs.declared.Weights.{Weights}
use Rattle.ts_query.specs.Queries.{Query}
use Rattle.ts_query.specs.Tokens.{no_weights}
use Rattle.ts_make.specs.Groups.{Group}
use Rattle.ts_make.specs.Trees.{phrase_of, conjunction_of}
use Rattle.ts_make.specs.declared.joining.Way.{Way}
use Rattle.ts_make.specs.declared.joining.Way.TheVariants.{Phrase, Conjunction}

abbrev pub groups_by : Way → Weights → Bool → List Group → Query
groups_by Phrase = phrase_of
groups_by Conjunction = conjunction_of

abbrev pub groups_query : Way → List Group → Query
groups_query way = groups_by way no_weights false
