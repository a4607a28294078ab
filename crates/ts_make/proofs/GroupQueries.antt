-- The query of a text's groups.
use Rattle.std.proofs.Common.{◌≡◌, ℕ, ◌<◌, ◌≤◌, List, [], length, refl, sym, subst, ap, ◌∙◌, false, Some, None, arith}
use Rattle.ts_base.specs.declared.Weights.{Weights}
use Rattle.ts_config.specs.declared.placed.Placed.{Placed}
use Rattle.ts_config.specs.Mappings.{Mapping}
use Rattle.ts_config.specs.Known.{Known}
use Rattle.ts_config.specs.Placing.{ArePlaced}
use Rattle.ts_query.specs.declared.TheConstants.{NODE_LIMIT}
use Rattle.ts_query.specs.declared.error.QueryError.{QueryError}
use Rattle.ts_query.specs.declared.error.QueryError.TheVariants.{Syntax, DistanceTooLarge, TooManyNodes, LexemeTooLong}
use Rattle.ts_query.specs.declared.error.QueryError.TheVariants.{OutOfMemory}
use Rattle.ts_query.specs.Queries.{Tree, Query, nodes_of}
use Rattle.ts_query.specs.Tokens.{no_weights}
use Rattle.ts_query.specs.Postfix.{top}
use Rattle.ts_query.specs.Building.{nodes_among}
use Rattle.ts_make.specs.Limits.{IsOnlyPast}
use Rattle.ts_make.specs.Made.{IsJoined, JoinedFails}
use Rattle.ts_make.specs.Inner.Writing.{joined_from}
use Rattle.ts_make.specs.Making.{with_left}
use Rattle.ts_make.specs.Inner.Joins.{groups_query}
use Rattle.ts_make.specs.declared.joining.Way.{Way}
use Rattle.ts_make.proofs.Writing.{written_groups}
use Rattle.ts_make.proofs.Making.{alone_is, alone_few}
use Rattle.ts_make.proofs.Steps.{grouped_of}

-- ── no weights ──
pub without_weights : (w : Weights)
    → (w.a ≡ false) × ((w.b ≡ false) × ((w.c ≡ false) × (w.d ≡ false))) → w ≡ no_weights
without_weights w h =
    ap (λ x. record { a = x; b = w.b; c = w.c; d = w.d }) h.0
    ∙ ap (λ x. record { a = false; b = x; c = w.c; d = w.d }) h.1.0
    ∙ ap (λ x. record { a = false; b = false; c = x; d = w.d }) h.1.1.0
    ∙ ap (λ x. record { a = false; b = false; c = false; d = x }) h.1.1.1

-- ── one tree or none ──
alone_nodes : (q : Query) → nodes_among (with_left q []) ≡ nodes_of q
alone_nodes None = refl
alone_nodes (Some t) = omega arith

module _ (known : Known) (mapping : Mapping) (text : List ℕ) (way : Way) (placed : List Placed)
    (are : ArePlaced known mapping text placed) where
  abbrev trees_of : List Placed → List Tree
  trees_of ps = joined_from way no_weights false None ps []

  pub groups_few : (trees : List Tree) → trees ≡ trees_of placed → length trees ≤ 1
  groups_few trees e =
      let g = grouped_of known mapping text placed are in
      subst (λ l. length l ≤ 1) (sym (e ∙ written_groups way no_weights false placed g.0 [] g.2))
      (alone_few (groups_query way g.0))

  pub groups_value : (trees : List Tree) (q : Query) → trees ≡ trees_of placed → q ≡ top trees
      → nodes_of q < NODE_LIMIT → IsJoined (groups_query way) known mapping text q
  groups_value trees q e f few =
      let g = grouped_of known mapping text placed are in
      record {
        groups = g.0;
        has = g.1;
        value =
            f ∙ ap top (e ∙ written_groups way no_weights false placed g.0 [] g.2)
            ∙ alone_is (groups_query way g.0);
        few = few;
      }

  pub groups_fail : (e : QueryError) → IsOnlyPast (nodes_among (trees_of placed)) e
      → JoinedFails (groups_query way) known mapping text e
  groups_fail TooManyNodes h =
      let g = grouped_of known mapping text placed are in (
        g.0,
        g.1,
        subst (λ n. NODE_LIMIT ≤ n)
            (ap nodes_among (written_groups way no_weights false placed g.0 [] g.2)
            ∙ alone_nodes (groups_query way g.0)) h,
      )
  groups_fail OutOfMemory h = tt
  groups_fail (Syntax at) h = h
  groups_fail (DistanceTooLarge at) h = h
  groups_fail (LexemeTooLong at) h = h
