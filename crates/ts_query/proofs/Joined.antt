-- Queries made of queries.
use Rattle.std.proofs.Common.{◌≡◌, ◌≢◌, ℕ, zero, suc, ◌+◌, ◌<◌, ◌≤◌, List, [], ◌∷◌, ◌++◌, length, refl, sym, ap, ◌∙◌}
use Rattle.std.proofs.Common.{Some, None, All, arith}
use Rattle.std.proofs.lemmas.List.Elements.{All-append}
use Rattle.ts_query.specs.Queries.{Operand, Joint, Tree, leaf, negated, joined, Query, operands_in, nodes_in, nodes_of}
use Rattle.ts_query.specs.Queries.{IsNear, HasLexeme, IsSound}
use Rattle.ts_query.specs.Postfix.{Item, operand_item, not_item, joint_item, postfix_of, nodes_from, nodes_for}
use Rattle.ts_query.specs.Inner.Built.{operands_from, IsBuilt}
use Rattle.ts_query.specs.Joining.{joined_queries, negated_query}
use Rattle.ts_query.specs.declared.query.Builder.{Builder}
use Rattle.ts_query.proofs.Built.{length-postfix_of, operands_from-postfix_of, few_operands}

pub length-nodes_from : (k : ℕ) (is : List Item) → length (nodes_from k is) ≡ length is
length-nodes_from k [] = refl
length-nodes_from k (operand_item o ∷ is) = ap suc (length-nodes_from (suc k) is)
length-nodes_from k (not_item ∷ is) = ap suc (length-nodes_from k is)
length-nodes_from k (joint_item j ∷ is) = ap suc (length-nodes_from k is)

-- as many nodes as the tree has
pub length-nodes_for : (q : Query) → length (nodes_for q) ≡ nodes_of q
length-nodes_for q = length-nodes_from 0 (postfix_of q) ∙ length-postfix_of q

some_nodes : (t : Tree) → 1 ≤ nodes_in t
some_nodes (leaf o) = omega arith
some_nodes (negated x) = omega arith
some_nodes (joined j x y) = omega arith

pub no_nodes : (q : Query) → nodes_of q ≡ 0 → q ≡ None
no_nodes None e = refl
no_nodes (Some t) e = absurd (let h = some_nodes t in let no : ⊥ = omega arith in no)

pub joined_empty : (j : Joint) (p q : Query) → nodes_of p ≡ 0 → q ≡ joined_queries j p q
joined_empty j p q e = ap (λ x. joined_queries j x q) (sym (no_nodes p e))

beside_none : (j : Joint) (p : Query) → p ≡ joined_queries j p None
beside_none j None = refl
beside_none j (Some x) = refl

pub empty_joined : (j : Joint) (p q : Query) → nodes_of q ≡ 0 → p ≡ joined_queries j p q
empty_joined j p q e = beside_none j p ∙ ap (λ x. joined_queries j p x) (sym (no_nodes q e))

pub joined_size : (j : Joint) (p q : Query) → nodes_of p ≢ 0 → nodes_of q ≢ 0
    → nodes_of (joined_queries j p q) ≡ nodes_of p + nodes_of q + 1
joined_size j None q h k = absurd (h refl)
joined_size j (Some x) None h k = absurd (k refl)
joined_size j (Some x) (Some y) h k = omega arith

pub joined_built : (j : Joint) (p q : Query) (b : Builder) → nodes_of p ≢ 0 → nodes_of q ≢ 0
    → IsBuilt b (((([] ++ postfix_of p) ++ postfix_of q)) ++ joint_item j ∷ [])
    → IsBuilt b (postfix_of (joined_queries j p q))
joined_built j None q b h k e = absurd (h refl)
joined_built j (Some x) None b h k e = absurd (k refl)
joined_built j (Some x) (Some y) b h k e = e

pub joined_sound : (j : Joint) (p q : Query) → IsNear j → IsSound p → IsSound q → nodes_of p ≢ 0 → nodes_of q ≢ 0
    → nodes_of p + nodes_of q + 1 < 32768 → IsSound (joined_queries j p q)
joined_sound j None q n s t h k l = absurd (h refl)
joined_sound j (Some x) None n s t h k l = absurd (k refl)
joined_sound j (Some x) (Some y) n s t h k l = record {
  lexemes = All-append HasLexeme (operands_in x) (operands_in y) s.lexemes t.lexemes;
  phrases = (n, s.phrases, t.phrases);
  nodes = omega arith;
}

pub negated_size : (q : Query) → nodes_of q ≢ 0 → nodes_of (negated_query q) ≡ nodes_of q + 1
negated_size None h = absurd (h refl)
negated_size (Some x) h = omega arith

pub negated_empty : (q : Query) → nodes_of q ≡ 0 → None ≡ negated_query q
negated_empty q e = ap negated_query (sym (no_nodes q e))

pub negated_built : (q : Query) (b : Builder) → nodes_of q ≢ 0 → IsBuilt b (([] ++ postfix_of q) ++ not_item ∷ [])
    → IsBuilt b (postfix_of (negated_query q))
negated_built None b h e = absurd (h refl)
negated_built (Some x) b h e = e

pub negated_sound : (q : Query) → IsSound q → nodes_of q ≢ 0 → nodes_of q + 1 < 32768 → IsSound (negated_query q)
negated_sound None s h l = absurd (h refl)
negated_sound (Some x) s h l = record { lexemes = s.lexemes; phrases = s.phrases; nodes = omega arith }

pub one_operand : (o : Operand) → HasLexeme o → All HasLexeme (o ∷ [])
one_operand o h zero d k = h
one_operand o h (suc n) d k = absurd (let no : ⊥ = omega arith in no)

pub leaf_sound : (o : Operand) → HasLexeme o → IsSound (Some (leaf o))
leaf_sound o h = record { lexemes = one_operand o h; phrases = tt; nodes = omega arith }

pub copied_operands : (q : Query) → IsSound q → length (operands_from ([] ++ postfix_of q)) < 32768
copied_operands q s = let e = ap length (operands_from-postfix_of q) in let f = few_operands q s.nodes in omega arith
