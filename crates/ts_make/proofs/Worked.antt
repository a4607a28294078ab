-- Worked removals and joins.
use Rattle.std.proofs.Common.{◌≡◌, refl, ℕ, List, [], ◌∷◌, true, false, codes}
use Rattle.std.specs.Prelude.{Some, None}
use Rattle.ts_base.specs.declared.Weights.{Weights}
use Rattle.ts_config.specs.declared.placed.Placed.{Placed}
use Rattle.ts_query.specs.declared.query.Operand.{Operand}
use Rattle.ts_query.specs.Queries.{or_joint, and_joint, phrase_joint, Tree, leaf, negated, joined}
use Rattle.ts_query.specs.Tokens.{operand, no_weights}
use Rattle.ts_make.specs.Groups.{Group}
use Rattle.ts_make.specs.Trees.{phrase_of, conjunction_of}
use Rattle.ts_make.specs.Removal.{Sketch, stop, kept, not_sketch, joint_sketch, cleaned, clean}
use Rattle.ts_make.specs.Made.{sketched}

abbrev word : List ℕ → Operand
word l = operand l no_weights false

abbrev cat : Sketch
cat = kept (word (codes "cat"))

abbrev dog : Sketch
dog = kept (word (codes "dog"))

abbrev cat_then_dog : ℕ → Tree
cat_then_dog n = joined (phrase_joint n) (leaf (word (codes "cat"))) (leaf (word (codes "dog")))

-- ── removals, `the` and `a` being stop words ──
-- !(the | cat) & dog
one_is_left : (clean (joint_sketch and_joint (not_sketch (joint_sketch or_joint stop cat)) dog)).query
    ≡ Some (joined and_joint (negated (leaf (word (codes "cat")))) (leaf (word (codes "dog"))))
one_is_left = refl

-- cat <-> (the | a) <2> dog
pairs_leave_their_distance :
    (clean (joint_sketch (phrase_joint 2)
    (joint_sketch (phrase_joint 1) cat (joint_sketch or_joint stop stop)) dog)).query
    ≡ Some (cat_then_dog 3)
pairs_leave_their_distance = refl

-- cat <-> (the <3> a) <2> dog
phrases_leave_their_distance :
    (clean (joint_sketch (phrase_joint 2)
    (joint_sketch (phrase_joint 1) cat (joint_sketch (phrase_joint 3) stop stop)) dog)).query
    ≡ Some (cat_then_dog 6)
phrases_leave_their_distance = refl

-- cat <16384> the <-> dog
distances_stay_near : (clean
    (joint_sketch (phrase_joint 1) (joint_sketch (phrase_joint 16384) cat stop) dog)).query
    ≡ Some (cat_then_dog 16384)
distances_stay_near = refl

-- cat <-> the <-> dog, and cat <-> (the <-> dog)
left_is_counted : (clean (joint_sketch (phrase_joint 1)
    (joint_sketch (phrase_joint 1) cat stop) dog)).query ≡ Some (cat_then_dog 2)
left_is_counted = refl

right_is_counted : (clean
    (joint_sketch (phrase_joint 1) cat (joint_sketch (phrase_joint 1) stop dog))).query
    ≡ Some (cat_then_dog 2)
right_is_counted = refl

-- !the, and the & a
nothing_is_left : (clean (not_sketch stop)).query ≡ None
nothing_is_left = refl

no_pair_is_left : clean (joint_sketch and_joint stop stop) ≡ cleaned None 0 0
no_pair_is_left = refl

-- ── groups ──
abbrev placed : List ℕ → ℕ → Placed
placed l n = record { lexeme = l; prefix = false; position = n }

abbrev alone : List ℕ → ℕ → Group
alone l n = record { position = n; first = placed l n; others = [] }

abbrev weight_b : Weights
weight_b = record { a = false; b = true; c = false; d = false }

-- 'fat the rat':b* <-> x
marks_on_each : (clean (joint_sketch (phrase_joint 1)
    (sketched (phrase_of weight_b true (alone (codes "fat") 1 ∷ alone (codes "rat") 3 ∷ [])))
    (kept (word (codes "x"))))).query
    ≡ Some (joined (phrase_joint 1)
    (joined (phrase_joint 2) (leaf (operand (codes "fat") weight_b true))
    (leaf (operand (codes "rat") weight_b true))) (leaf (word (codes "x"))))
marks_on_each = refl

-- x <-> 'fat rat'
phrases_within : (clean (joint_sketch (phrase_joint 1) (kept (word (codes "x")))
    (sketched (phrase_of no_weights false
    (alone (codes "fat") 1 ∷ alone (codes "rat") 2 ∷ []))))).query
    ≡ Some (joined (phrase_joint 1) (leaf (word (codes "x")))
    (joined (phrase_joint 1) (leaf (word (codes "fat"))) (leaf (word (codes "rat")))))
phrases_within = refl

-- cat-dog has its parts after itself
hyphen_words : phrase_of no_weights false
    (alone (codes "cat-dog") 1 ∷ alone (codes "cat") 2 ∷ alone (codes "dog") 3 ∷ [])
    ≡ Some (joined (phrase_joint 1)
    (joined (phrase_joint 1) (leaf (word (codes "cat-dog"))) (leaf (word (codes "cat"))))
    (leaf (word (codes "dog"))))
hyphen_words = refl

-- two lexemes at one position
abbrev together : Group
together = record { position = 1; first = placed (codes "a") 1; others = placed (codes "b") 1 ∷ [] }

abbrev a_and_b : Tree
a_and_b = joined and_joint (leaf (word (codes "a"))) (leaf (word (codes "b")))

lexemes_at_one_position : phrase_of no_weights false (together ∷ alone (codes "c") 20000 ∷ [])
    ≡ Some (joined (phrase_joint 16384) a_and_b (leaf (word (codes "c"))))
lexemes_at_one_position = refl

plain_groups : conjunction_of no_weights false (alone (codes "c") 1 ∷ together ∷ [])
    ≡ Some (joined and_joint (leaf (word (codes "c"))) a_and_b)
plain_groups = refl
