-- What is left where stop operands are removed.
use Rattle.std.proofs.Common.{◌≡◌, ℕ, ◌+◌, ◌≤◌, max, List, [], ◌∷◌, ◌++◌, refl, sym, subst, ap, ◌∙◌, Some, None, All}
use Rattle.std.proofs.Common.{arith}
use Rattle.ts_query.specs.declared.query.Operand.{Operand}
use Rattle.ts_query.specs.Queries.{Joint, or_joint, and_joint, phrase_joint, Tree, leaf, negated, joined, Query}
use Rattle.ts_query.specs.Queries.{HasNear, HasLexeme}
use Rattle.ts_make.specs.Trees.{near}
use Rattle.ts_make.specs.Removal.{Sketch, stop, kept, not_sketch, joint_sketch, sketch_of, Cleaned, cleaned}
use Rattle.ts_make.specs.Removal.{clean_phrase, clean_pair, clean_joint, clean_not, clean}
use Rattle.ts_make.specs.Laws.{WholeTreesStay, IsCleaned, RemovalKeepsTheRest, RemovalIsSound}

pub near_most : (n : ℕ) → near n ≤ 16384
near_most n = omega arith

pub near_is : (n : ℕ) → n ≤ 16384 → near n ≡ n
near_is n h = omega arith

near_alone : (n : ℕ) → n ≤ 16384 → near (n + 0 + 0) ≡ n
near_alone n h = omega arith

-- ── trees without stop operands ──
joint_whole : (j : Joint) (x y : Tree) → HasNear (joined j x y)
    → clean_joint j (cleaned (Some x) 0 0) (cleaned (Some y) 0 0)
    ≡ cleaned (Some (joined j x y)) 0 0
joint_whole or_joint x y h = refl
joint_whole and_joint x y h = refl
joint_whole (phrase_joint n) x y h =
    ap (λ m. cleaned (Some (joined (phrase_joint m) x y)) 0 0) (near_alone n h.0)

pub whole_stays : WholeTreesStay
whole_stays (leaf o) h = refl
whole_stays (negated x) h = ap clean_not (whole_stays x h)
whole_stays (joined j x y) h =
    ap (λ a. clean_joint j a (clean (sketch_of y))) (whole_stays x h.1)
    ∙ ap (λ b. clean_joint j (cleaned (Some x) 0 0) b) (whole_stays y h.2)
    ∙ joint_whole j x y h

-- ── what is left ──
abbrev part : Query → ℕ → ℕ → Cleaned
part q l r = record { query = q; left = l; right = r }

pub no_operand_more : (l : List Operand) → l ≡ l ++ []
no_operand_more [] = refl
no_operand_more (o ∷ l) = ap (λ k. o ∷ k) (no_operand_more l)

both_operands : {a b c d : List Operand} → a ≡ c → b ≡ d → a ++ b ≡ c ++ d
both_operands {a} {b} {c} {d} e f = ap (λ l. l ++ b) e ∙ ap (λ l. c ++ l) f

first_operands : {a c d : List Operand} → a ≡ c → [] ≡ d → a ≡ c ++ d
first_operands {a} {c} {d} e f = e ∙ no_operand_more c ∙ ap (λ l. c ++ l) f

second_operands : {b c d : List Operand} → [] ≡ c → b ≡ d → b ≡ c ++ d
second_operands {b} {c} {d} e f = f ∙ ap (λ l. l ++ d) e

phrase_cleaned : (n : ℕ) (d e : Sketch) (a b : Query) (l r m k : ℕ) → IsCleaned d (part a l r)
    → IsCleaned e (part b m k)
    → IsCleaned (joint_sketch (phrase_joint n) d e) (clean_phrase n (part a l r) (part b m k) a b)
phrase_cleaned n d e (Some a) (Some b) l r m k h g = record {
  operands = both_operands h.operands g.operands;
  nodes = (let p = h.nodes in let q = g.nodes in omega arith);
  phrases = (near_most (n + r + m), h.phrases, g.phrases);
  near_left = near_most l;
  near_right = near_most k;
}
phrase_cleaned n d e (Some a) None l r m k h g = record {
  operands = first_operands h.operands g.operands;
  nodes = (let p = h.nodes in omega arith);
  phrases = h.phrases;
  near_left = near_most l;
  near_right = near_most (r + n + k);
}
phrase_cleaned n d e None (Some b) l r m k h g = record {
  operands = second_operands h.operands g.operands;
  nodes = (let p = g.nodes in omega arith);
  phrases = g.phrases;
  near_left = near_most (l + n + m);
  near_right = near_most k;
}
phrase_cleaned n d e None None l r m k h g = record {
  operands = first_operands h.operands g.operands;
  nodes = omega arith;
  phrases = tt;
  near_left = near_most (l + n + m);
  near_right = near_most (l + n + m);
}

-- `&` and `|` have no distance
data IsPair : Joint → Type 0 where
  or_pair : IsPair or_joint
  and_pair : IsPair and_joint

joined_near : (j : Joint) (a b : Tree) → IsPair j → HasNear a → HasNear b → HasNear (joined j a b)
joined_near or_joint a b i h g = (tt, h, g)
joined_near and_joint a b i h g = (tt, h, g)
joined_near (phrase_joint n) a b i h g = absurd (elim i [ ])

pair_cleaned : (j : Joint) (d e : Sketch) (a b : Query) (l r m k : ℕ) → IsPair j
    → IsCleaned d (part a l r) → IsCleaned e (part b m k)
    → IsCleaned (joint_sketch j d e) (clean_pair j (part a l r) (part b m k) a b)
pair_cleaned j d e (Some a) (Some b) l r m k i h g = record {
  operands = both_operands h.operands g.operands;
  nodes = (let p = h.nodes in let q = g.nodes in omega arith);
  phrases = joined_near j a b i h.phrases g.phrases;
  near_left = omega arith;
  near_right = omega arith;
}
pair_cleaned j d e (Some a) None l r m k i h g = record {
  operands = first_operands h.operands g.operands;
  nodes = (let p = h.nodes in omega arith);
  phrases = h.phrases;
  near_left = h.near_left;
  near_right = h.near_right;
}
pair_cleaned j d e None (Some b) l r m k i h g = record {
  operands = second_operands h.operands g.operands;
  nodes = (let p = g.nodes in omega arith);
  phrases = g.phrases;
  near_left = g.near_left;
  near_right = g.near_right;
}
pair_cleaned j d e None None l r m k i h g = record {
  operands = first_operands h.operands g.operands;
  nodes = omega arith;
  phrases = tt;
  near_left = near_most (max l m);
  near_right = near_most (max l m);
}

joint_cleaned : (j : Joint) (d e : Sketch) (x y : Cleaned) → IsCleaned d x → IsCleaned e y
    → IsCleaned (joint_sketch j d e) (clean_joint j x y)
joint_cleaned or_joint d e x y h g =
    pair_cleaned or_joint d e x.query y.query x.left x.right y.left y.right or_pair h g
joint_cleaned and_joint d e x y h g =
    pair_cleaned and_joint d e x.query y.query x.left x.right y.left y.right and_pair h g
joint_cleaned (phrase_joint n) d e x y h g =
    phrase_cleaned n d e x.query y.query x.left x.right y.left y.right h g

not_cleaned : (d : Sketch) (a : Query) (l r : ℕ) → IsCleaned d (part a l r)
    → IsCleaned (not_sketch d) (clean_not (part a l r))
not_cleaned d (Some a) l r h = record {
  operands = h.operands;
  nodes = (let p = h.nodes in omega arith);
  phrases = h.phrases;
  near_left = h.near_left;
  near_right = h.near_right;
}
not_cleaned d None l r h = record {
  operands = h.operands;
  nodes = omega arith;
  phrases = tt;
  near_left = h.near_left;
  near_right = h.near_right;
}

pub rest_kept : RemovalKeepsTheRest
rest_kept stop =
    record {
      operands = refl;
      nodes = omega arith;
      phrases = tt;
      near_left = omega arith;
      near_right = omega arith;
    }
rest_kept (kept o) =
    record {
      operands = refl;
      nodes = omega arith;
      phrases = tt;
      near_left = omega arith;
      near_right = omega arith;
    }
rest_kept (not_sketch d) = not_cleaned d (clean d).query (clean d).left (clean d).right (rest_kept d)
rest_kept (joint_sketch j d e) = joint_cleaned j d e (clean d) (clean e) (rest_kept d) (rest_kept e)

pub removal_sound : RemovalIsSound
removal_sound d h n =
    let k = rest_kept d in
    let m = k.nodes in
    record {
      lexemes = subst (All HasLexeme) (sym k.operands) h;
      phrases = k.phrases;
      nodes = omega arith;
    }
