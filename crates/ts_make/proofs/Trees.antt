-- The trees of groups.
use Rattle.std.proofs.Common.{◌≡◌, ℕ, ◌-◌, List, [], ◌∷◌, ◌++◌, map, refl, sym, subst, ap, ◌∙◌, append_assoc, Bool}
use Rattle.std.specs.List.{flat_map}
use Rattle.std.proofs.lemmas.List.{map-append}
use Rattle.ts_base.specs.declared.Weights.{Weights}
use Rattle.ts_config.specs.declared.placed.Placed.{Placed}
use Rattle.ts_query.specs.declared.query.Operand.{Operand}
use Rattle.ts_query.specs.Queries.{and_joint, phrase_joint, Tree, joined, operands_in, HasNear}
use Rattle.ts_make.specs.Groups.{Group, members}
use Rattle.ts_make.specs.Trees.{near, operand_for, leaf_for, and_on, group_tree, phrase_on}
use Rattle.ts_make.specs.Laws.{HasAllOperands, GroupsKeepLexemes, HasNearTrees, GroupsAreNear}
use Rattle.ts_make.proofs.Removal.{near_most, no_operand_more}

module _ (weights : Weights) (prefix : Bool) where
  abbrev operands_for : List Placed → List Operand
  operands_for ps = map (operand_for weights prefix) ps

  -- ── operands ──
  and_leaves : (x : Tree) (ps : List Placed)
      → operands_in (and_on x (map (leaf_for weights prefix) ps)) ≡ operands_in x ++ operands_for ps
  and_leaves x [] = no_operand_more (operands_in x)
  and_leaves x (p ∷ ps) =
      and_leaves (joined and_joint x (leaf_for weights prefix p)) ps
      ∙ append_assoc (operands_in x) (operand_for weights prefix p ∷ []) (operands_for ps)

  group_operands : (g : Group)
      → operands_in (group_tree weights prefix g) ≡ operands_for (members g)
  group_operands g = and_leaves (leaf_for weights prefix g.first) g.others

  operands_for-append : (ps qs : List Placed)
      → operands_for (ps ++ qs) ≡ operands_for ps ++ operands_for qs
  operands_for-append ps qs = map-append (operand_for weights prefix) ps qs

  -- after x a group, and the rest
  one_group_more : (x : Tree) (g : Group) (gs : List Group)
      → (operands_in x ++ operands_in (group_tree weights prefix g)) ++ operands_for
      (flat_map members gs) ≡ operands_in x ++ operands_for (flat_map members (g ∷ gs))
  one_group_more x g gs =
      append_assoc (operands_in x) (operands_in (group_tree weights prefix g))
      (operands_for (flat_map members gs))
      ∙ ap (λ l. operands_in x ++ (l ++ operands_for (flat_map members gs))) (group_operands g)
      ∙ ap (λ l. operands_in x ++ l) (sym (operands_for-append (members g) (flat_map members gs)))

  phrase_operands : (n : ℕ) (x : Tree) (gs : List Group)
      → operands_in (phrase_on weights prefix n x gs)
      ≡ operands_in x ++ operands_for (flat_map members gs)
  phrase_operands n x [] = no_operand_more (operands_in x)
  phrase_operands n x (g ∷ gs) =
      phrase_operands g.position
      (joined (phrase_joint (near (g.position - n))) x (group_tree weights prefix g)) gs
      ∙ one_group_more x g gs

  and_operands : (x : Tree) (gs : List Group)
      → operands_in (and_on x (map (group_tree weights prefix) gs))
      ≡ operands_in x ++ operands_for (flat_map members gs)
  and_operands x [] = no_operand_more (operands_in x)
  and_operands x (g ∷ gs) =
      and_operands (joined and_joint x (group_tree weights prefix g)) gs ∙ one_group_more x g gs

  first_group_operands : (g : Group) (gs : List Group)
      → operands_in (group_tree weights prefix g) ++ operands_for (flat_map members gs)
      ≡ operands_for (flat_map members (g ∷ gs))
  first_group_operands g gs =
      ap (λ l. l ++ operands_for (flat_map members gs)) (group_operands g)
      ∙ sym (operands_for-append (members g) (flat_map members gs))

  all_operands : (gs : List Group) → HasAllOperands weights prefix (flat_map members gs) gs
  all_operands [] = record { phrase = refl; conjunction = refl }
  all_operands (g ∷ gs) = record {
    phrase =
        phrase_operands g.position (group_tree weights prefix g) gs ∙ first_group_operands g gs;
    conjunction = and_operands (group_tree weights prefix g) gs ∙ first_group_operands g gs;
  }

  -- ── distances ──
  near_leaves : (x : Tree) (ps : List Placed) → HasNear x
      → HasNear (and_on x (map (leaf_for weights prefix) ps))
  near_leaves x [] h = h
  near_leaves x (p ∷ ps) h =
      near_leaves (joined and_joint x (leaf_for weights prefix p)) ps (tt, h, tt)

  near_group : (g : Group) → HasNear (group_tree weights prefix g)
  near_group g = near_leaves (leaf_for weights prefix g.first) g.others tt

  near_phrase : (n : ℕ) (x : Tree) (gs : List Group) → HasNear x
      → HasNear (phrase_on weights prefix n x gs)
  near_phrase n x [] h = h
  near_phrase n x (g ∷ gs) h =
      near_phrase g.position (joined (phrase_joint (near (g.position - n))) x
      (group_tree weights prefix g)) gs (near_most (g.position - n), h, near_group g)

  near_groups : (x : Tree) (gs : List Group) → HasNear x
      → HasNear (and_on x (map (group_tree weights prefix) gs))
  near_groups x [] h = h
  near_groups x (g ∷ gs) h =
      near_groups (joined and_joint x (group_tree weights prefix g)) gs (tt, h, near_group g)

  near_trees : (gs : List Group) → HasNearTrees weights prefix gs
  near_trees [] = record { phrase = tt; conjunction = tt }
  near_trees (g ∷ gs) = record {
    phrase = near_phrase g.position (group_tree weights prefix g) gs (near_group g);
    conjunction = near_groups (group_tree weights prefix g) gs (near_group g);
  }

pub groups_keep_lexemes : GroupsKeepLexemes
groups_keep_lexemes weights prefix placed groups a =
    subst (λ l. HasAllOperands weights prefix l groups) (sym a.whole)
    (all_operands weights prefix groups)

pub groups_are_near : GroupsAreNear
groups_are_near weights prefix groups = near_trees weights prefix groups
