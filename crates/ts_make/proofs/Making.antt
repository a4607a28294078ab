-- Sketches that are made node by node.
use Rattle.std.proofs.Common.{◌≡◌, ℕ, ◌+◌, ◌≤◌, List, [], ◌∷◌, ◌++◌, map, length, refl, sym, subst, ap, ◌∙◌, true}
use Rattle.std.proofs.Common.{false, ◌&&◌, Some, None, arith}
use Rattle.ts_query.specs.Queries.{Joint, or_joint, and_joint, phrase_joint, Tree, Query, HasNear}
use Rattle.ts_query.specs.Postfix.{top}
use Rattle.ts_make.specs.Removal.{Sketch, joint_sketch, sketch_of, Cleaned, clean_phrase, clean_pair, clean_joint}
use Rattle.ts_make.specs.Removal.{clean, query_left}
use Rattle.ts_make.specs.Making.{is_left, kept_part, kept_parts, with_left, trees_left, IsKept}
use Rattle.ts_make.specs.Inner.Making.{part, joined_part}
use Rattle.ts_make.specs.declared.maker.Part.{Part}
use Rattle.ts_make.proofs.Removal.{whole_stays}
use Rattle.ts_make.proofs.Made.{sketch_of-nodes}

-- ── lists ──
pub same_front : {A : Type 0} (xs ys : List A) (a b : A) → xs ++ a ∷ [] ≡ ys ++ b ∷ []
    → (xs ≡ ys) × (a ≡ b)
same_front [] [] a b e = (refl, (let f : a ≡ b = cc in f))
same_front [] (y ∷ []) a b e = let no : ⊥ = cc in absurd no
same_front [] (y ∷ z ∷ ys) a b e = let no : ⊥ = cc in absurd no
same_front (x ∷ []) [] a b e = let no : ⊥ = cc in absurd no
same_front (x ∷ z ∷ xs) [] a b e = let no : ⊥ = cc in absurd no
same_front (x ∷ xs) (y ∷ ys) a b e =
    let h : x ≡ y = cc in
    let t : xs ++ a ∷ [] ≡ ys ++ b ∷ [] = cc in
    let r = same_front xs ys a b t in
    (ap (λ z. z ∷ xs) h ∙ ap (λ l. y ∷ l) r.0, r.1)

-- ── parts ──
-- of two parts what is left is known by what is left of each
phrase_told : (n : ℕ) (a b : Query) (l r m k : ℕ)
    → kept_part (clean_phrase n (record { query = a; left = l; right = r })
    (record { query = b; left = m; right = k }) a b)
    ≡ joined_part (phrase_joint n) (record { there = is_left a; left = l; right = r })
    (record { there = is_left b; left = m; right = k })
phrase_told n (Some a) (Some b) l r m k = refl
phrase_told n (Some a) None l r m k = refl
phrase_told n None (Some b) l r m k = refl
phrase_told n None None l r m k = refl

pair_told : (j : Joint) (a b : Query) (l r m k : ℕ)
    → kept_part (clean_pair j (record { query = a; left = l; right = r })
    (record { query = b; left = m; right = k }) a b)
    ≡ joined_part and_joint (record { there = is_left a; left = l; right = r })
    (record { there = is_left b; left = m; right = k })
pair_told j (Some a) (Some b) l r m k = refl
pair_told j (Some a) None l r m k = refl
pair_told j None (Some b) l r m k = refl
pair_told j None None l r m k = refl

pub joint_told : (j : Joint) (x y : Cleaned)
    → kept_part (clean_joint j x y) ≡ joined_part j (kept_part x) (kept_part y)
joint_told or_joint x y = pair_told or_joint x.query y.query x.left x.right y.left y.right
joint_told and_joint x y = pair_told and_joint x.query y.query x.left x.right y.left y.right
joint_told (phrase_joint n) x y = phrase_told n x.query y.query x.left x.right y.left y.right

-- ── what is kept ──
pub whole_kept : (ps : List Part) (ts : List Tree) (r : ℕ) (ds : List Sketch) (t : Tree) → HasNear t
    → IsKept ps ts r ds → IsKept (ps ++ part true 0 0 ∷ []) (t ∷ ts) r (sketch_of t ∷ ds)
whole_kept ps ts r ds t h k = record {
  has_parts =
      ap (λ l. l ++ part true 0 0 ∷ []) k.has_parts
      ∙ ap (λ c. kept_parts (map clean ds) ++ kept_part c ∷ []) (sym (whole_stays t h));
  has_trees =
      ap (λ l. t ∷ l) k.has_trees
      ∙ ap (λ c. with_left c.query (trees_left (map clean ds))) (sym (whole_stays t h));
  count = (let c = k.count in let e = sketch_of-nodes t in omega arith);
}

-- ── operators ──
abbrev at_cleaned : Query → ℕ → ℕ → Cleaned
at_cleaned q l r = record { query = q; left = l; right = r }

some_gone : (j : Joint) (a b : Query) (l r m k : ℕ) (ts : List Tree)
    → (is_left a && is_left b) ≡ false
    → with_left b (with_left a ts)
    ≡ with_left (clean_joint j (at_cleaned a l r) (at_cleaned b m k)).query ts
some_gone or_joint (Some a) None l r m k ts h = refl
some_gone or_joint None (Some b) l r m k ts h = refl
some_gone or_joint None None l r m k ts h = refl
some_gone and_joint (Some a) None l r m k ts h = refl
some_gone and_joint None (Some b) l r m k ts h = refl
some_gone and_joint None None l r m k ts h = refl
some_gone (phrase_joint n) (Some a) None l r m k ts h = refl
some_gone (phrase_joint n) None (Some b) l r m k ts h = refl
some_gone (phrase_joint n) None None l r m k ts h = refl
some_gone j (Some a) (Some b) l r m k ts h = absurd (let no : ⊥ = cc in no)

-- the parts before the last two, and these
pub record LastTwo (before : List Part) (x y : Part) (d e : Sketch) (ds : List Sketch) : Type 0 where
  pub before_is : before ≡ kept_parts (map clean ds)
  pub x_is : x ≡ kept_part (clean d)
  pub y_is : y ≡ kept_part (clean e)

pub last_two : (ps qs rs : List Part) (x y : Part) (ts : List Tree) (r : ℕ) (d e : Sketch)
    (ds : List Sketch) → ps ≡ qs ++ y ∷ [] → qs ≡ rs ++ x ∷ [] → IsKept ps ts r (e ∷ d ∷ ds)
    → LastTwo rs x y d e ds
last_two ps qs rs x y ts r d e ds f g k =
    let a =
    same_front qs (kept_parts (map clean (d ∷ ds))) y (kept_part (clean e)) (sym f ∙ k.has_parts) in
    let b = same_front rs (kept_parts (map clean ds)) x (kept_part (clean d)) (sym g ∙ a.0) in
    record { before_is = b.0; x_is = b.1; y_is = a.1 }

module _ (j : Joint) (ps rs : List Part) (x y : Part) (ts : List Tree) (r : ℕ) (d e : Sketch)
    (ds : List Sketch) (w : LastTwo rs x y d e ds) (k : IsKept ps ts r (e ∷ d ∷ ds)) where
  new_parts : rs ++ joined_part j x y ∷ [] ≡ kept_parts (map clean (joint_sketch j d e ∷ ds))
  new_parts =
      ap (λ l. l ++ joined_part j x y ∷ []) w.before_is
      ∙ ap (λ p. kept_parts (map clean ds) ++ joined_part j p y ∷ []) w.x_is
      ∙ ap (λ p. kept_parts (map clean ds) ++ joined_part j (kept_part (clean d)) p ∷ []) w.y_is
      ∙ ap (λ p. kept_parts (map clean ds) ++ p ∷ []) (sym (joint_told j (clean d) (clean e)))

  pub gone_kept : (x.there && y.there) ≡ false
      → IsKept (rs ++ joined_part j x y ∷ []) ts (r + 1) (joint_sketch j d e ∷ ds)
  gone_kept h = record {
    has_parts = new_parts;
    has_trees =
        k.has_trees
        ∙ some_gone j (clean d).query (clean e).query (clean d).left (clean d).right (clean e).left
        (clean e).right (trees_left (map clean ds))
        (ap (λ p. p.there && (kept_part (clean e)).there) (sym w.x_is)
        ∙ ap (λ p. x.there && p.there) (sym w.y_is) ∙ h);
    count = (let c = k.count in omega arith);
  }

-- ── the whole ──
-- one tree, or none
pub alone_is : (q : Query) → top (with_left q []) ≡ q
alone_is None = refl
alone_is (Some t) = refl

pub alone_few : (q : Query) → length (with_left q []) ≤ 1
alone_few None = omega arith
alone_few (Some t) = omega arith

pub few_trees : (ps : List Part) (ts : List Tree) (r : ℕ) (ds : List Sketch) → IsKept ps ts r ds
    → length ds ≤ 1 → length ts ≤ 1
few_trees ps ts r [] k h = subst (λ l. length l ≤ 1) (sym k.has_trees) (alone_few None)
few_trees ps ts r (d ∷ []) k h =
    subst (λ l. length l ≤ 1) (sym k.has_trees) (alone_few (clean d).query)
few_trees ps ts r (d ∷ e ∷ ds) k h = absurd (let no : ⊥ = omega arith in no)

pub top_left : (ps : List Part) (ts : List Tree) (n : ℕ) (ds : List Sketch) → IsKept ps ts n ds
    → length ds ≤ 1 → top ts ≡ query_left ds
top_left ps ts n [] k h = ap top k.has_trees
top_left ps ts n (d ∷ []) k h = ap top k.has_trees ∙ alone_is (clean d).query
top_left ps ts n (d ∷ e ∷ ds) k h = absurd (let no : ⊥ = omega arith in no)
