-- Trees that are written node by node.
use Rattle.std.proofs.Common.{◌≡◌, ℕ, zero, suc, ◌+◌, ◌<◌, ◌≤◌, List, [], ◌∷◌, ◌++◌, length, refl, sym, subst, ap, ◌∙◌}
use Rattle.std.proofs.Common.{append_assoc, Some, None, All, arith}
use Rattle.std.specs.Prelude.{Result, Ok, Err, OnErr}
use Rattle.std.proofs.lemmas.List.{length-append}
use Rattle.std.proofs.lemmas.List.Elements.{All-append}
use Rattle.ts_query.specs.Queries.{Operand, Joint, Tree, leaf, negated, joined, operands_in, nodes_in, IsNear}
use Rattle.ts_query.specs.Queries.{HasLexeme, IsSound}
use Rattle.ts_query.specs.Postfix.{Item, operand_item, not_item, joint_item, postfix, postfix_of, top, nodes_from}
use Rattle.ts_query.specs.Postfix.{items_of}
use Rattle.ts_query.specs.Building.{with_not, with_joint, nodes_among, operands_among, HasNearAmong, AreSound}
use Rattle.ts_query.specs.Building.{items_among, trees_from, trees_from-items_among}
use Rattle.ts_query.specs.Inner.Built.{operands_from, IsBuilt, trees_in, IsWritten}
use Rattle.ts_query.specs.declared.query.Builder.{Builder}
use Rattle.ts_query.proofs.Built.{items_of-nodes_from, length-postfix, operands_fewer}
use Rattle.ts_query.proofs.Joined.{length-nodes_from, one_operand}

-- ── what the lists stand for ──
pub trees_built : (b : Builder) (ts : List Tree) → IsBuilt b (items_among ts) → trees_in b ≡ ts
trees_built b ts h =
    ap (λ l. trees_from (items_of l b.nodes.items)) h.has_operands
    ∙ ap (λ l. trees_from (items_of (operands_from (items_among ts)) l)) h.has_nodes
    ∙ ap trees_from (items_of-nodes_from 0 (items_among ts)) ∙ trees_from-items_among ts

pub written : (b : Builder) (ts : List Tree) → IsBuilt b (items_among ts) → AreSound ts → IsWritten b (trees_in b)
written b ts h s = subst (IsWritten b) (sym (trees_built b ts h)) (record { built = h; sound = s })

length-items_among : (ts : List Tree) → length (items_among ts) ≡ nodes_among ts
length-items_among [] = refl
length-items_among (x ∷ ts) = let e = length-items_among ts in
    let f = length-postfix x in omega (arith, length-append (items_among ts) (postfix x))

pub nodes_counted : (b : Builder) (ts : List Tree) → IsBuilt b (items_among ts) → length b.nodes.items ≡ nodes_among ts
nodes_counted b ts h = ap length h.has_nodes ∙ length-nodes_from 0 (items_among ts) ∙ length-items_among ts

pub operands_below : (b : Builder) (ts : List Tree) → IsBuilt b (items_among ts) → AreSound ts
    → length b.operands.items < 65536
operands_below b ts h s =
    let e = ap length h.has_operands in
    let f = operands_fewer (items_among ts) in
    let g = length-items_among ts in
    let n = s.nodes in
    omega arith

-- ── one node more ──
pub none_sound : AreSound []
none_sound = record { lexemes = λ n d k. absurd (let no : ⊥ = omega arith in no); phrases = tt; nodes = omega arith }

pub leaf_more : (o : Operand) (ts : List Tree) → HasLexeme o → nodes_among ts + 1 < 32768 → AreSound ts
    → AreSound (leaf o ∷ ts)
leaf_more o ts h n s = record {
  lexemes = All-append HasLexeme (operands_among ts) (o ∷ []) s.lexemes (one_operand o h);
  phrases = (tt, s.phrases);
  nodes = omega arith;
}

pub not_items : (ts : List Tree) → 1 ≤ length ts → items_among ts ++ not_item ∷ [] ≡ items_among (with_not ts)
not_items [] h = absurd (let no : ⊥ = omega arith in no)
not_items (x ∷ ts) h = append_assoc (items_among ts) (postfix x) (not_item ∷ [])

pub not_more : (ts : List Tree) → 1 ≤ length ts → nodes_among ts + 1 < 32768 → AreSound ts → AreSound (with_not ts)
not_more [] h n s = absurd (let no : ⊥ = omega arith in no)
not_more (x ∷ ts) h n s = record { lexemes = s.lexemes; phrases = s.phrases; nodes = omega arith }

pub joint_more_items : (j : Joint) (ts : List Tree) → 2 ≤ length ts
    → items_among ts ++ joint_item j ∷ [] ≡ items_among (with_joint j ts)
joint_more_items j [] h = absurd (let no : ⊥ = omega arith in no)
joint_more_items j (y ∷ []) h = absurd (let no : ⊥ = omega arith in no)
joint_more_items j (y ∷ x ∷ ts) h =
    ap (λ l. l ++ joint_item j ∷ []) (append_assoc (items_among ts) (postfix x) (postfix y))
    ∙ append_assoc (items_among ts) (postfix x ++ postfix y) (joint_item j ∷ [])

pub joint_more : (j : Joint) (ts : List Tree) → IsNear j → 2 ≤ length ts → nodes_among ts + 1 < 32768 → AreSound ts
    → AreSound (with_joint j ts)
joint_more j [] d h n s = absurd (let no : ⊥ = omega arith in no)
joint_more j (y ∷ []) d h n s = absurd (let no : ⊥ = omega arith in no)
joint_more j (y ∷ x ∷ ts) d h n s = record {
  lexemes = subst (All HasLexeme) (append_assoc (operands_among ts) (operands_in x) (operands_in y)) s.lexemes;
  phrases = ((d, s.phrases.1.0, s.phrases.0), s.phrases.1.1);
  nodes = omega arith;
}

-- ── the whole ──
pub whole_items : (ts : List Tree) → length ts ≤ 1 → items_among ts ≡ postfix_of (top ts)
whole_items [] h = refl
whole_items (x ∷ []) h = refl
whole_items (x ∷ y ∷ ts) h = absurd (let no : ⊥ = omega arith in no)

pub whole_sound : (ts : List Tree) → length ts ≤ 1 → AreSound ts → IsSound (top ts)
whole_sound [] h s = record { lexemes = s.lexemes; phrases = tt; nodes = omega arith }
whole_sound (x ∷ []) h s =
    record { lexemes = s.lexemes; phrases = s.phrases.0; nodes = (let n = s.nodes in omega arith) }
whole_sound (x ∷ y ∷ ts) h s = absurd (let no : ⊥ = omega arith in no)

-- ── a refused node ──
pub on_err : {T E P : Type 0} (r : Result T E) → P → OnErr r P
on_err (Ok x) p = tt
on_err (Err e) p = p
