-- Expressions and their operators, level by level.
use Rattle.std.proofs.Common.{◌≡◌, ℕ, zero, suc, ◌<◌, ◌≤◌, List, [], ◌∷◌, ◌⊎◌, inl, inr, refl, sym, subst, ◌∙◌, arith}
use Rattle.ts_query.specs.Queries.{Operand, Joint, or_joint, and_joint, phrase_joint, Tree, leaf, negated, joined}
use Rattle.ts_query.specs.Tokens.{QueryToken, word, bang, opening, closing, sign}
use Rattle.ts_query.specs.Grammar.{level, Expr, one, bracket, primary, denied, binary, Tail, last, more}
use Rattle.ts_query.specs.Inner.Frames.{Frame, open_frame, not_frame, joint_frame, need, Climb, here, unary, tail}
use Rattle.ts_query.specs.Inner.Frames.{After, at_end, at_close, at_not, at_joint, On, on, Want, want, NoTighter}

pub level_3 : (j : Joint) → level j < 3
level_3 or_joint = omega arith
level_3 and_joint = omega arith
level_3 (phrase_joint n) = omega arith

split : (l k : ℕ) → l ≤ suc k → (l ≡ suc k) ⊎ (l ≤ k)
split l k h = grind arith

climb_le : (j l : ℕ) (y z : Tree) (u r : List QueryToken) → Climb j l y u z r → l ≤ j
climb_le j l y z u r (here _ _ _) = omega arith
climb_le j l y z u r (unary _ _ _ _ _ c) = let h = climb_le 3 l y z u r c in omega arith
climb_le j l y z u r (tail k _ _ x _ _ m _ p t c) = let h = climb_le k l x z m r c in omega arith

pub climb_trans : (j k l : ℕ) (y x z : Tree) (u m r : List QueryToken) → Climb j k y u x m → Climb k l x m z r
    → Climb j l y u z r
climb_trans j k l y x z u m r (here _ _ _) d = d
climb_trans j k l y x z u m r (unary _ _ _ _ _ c) d = unary l y z u r (climb_trans 3 k l y x z u m r c d)
climb_trans j k l y x z u m r (tail k' _ _ x' _ _ m' _ p t c) d =
    tail k' l y x' z u m' r p t (climb_trans k' k l x' x z m' m r c d)

-- with no operator taken
raise : (j k l : ℕ) (y z : Tree) (u r : List QueryToken) → k ≤ j → j ≤ 4 → Climb k l y u z r → Climb j l y u z r
raise zero k l y z u r h b c = let e : k ≡ 0 = omega arith in subst (λ n. Climb n l y u z r) e c
raise (suc j) k l y z u r h b c = elim (split k j h) [
  | inl e ↦ subst (λ n. Climb n l y u z r) e c
  | inr g ↦ elim (split (suc j) 3 b) [
    | inl e ↦ let f : j ≡ 3 = omega arith in subst (λ n. Climb n l y u z r) (sym e)
        (unary l y z u r (let q : j ≤ 4 = omega arith in subst (λ n. Climb n l y u z r) f (raise j k l y z u r g q c)))
    | inr q ↦ (let p : j < 3 = omega arith in
        let q4 : j ≤ 4 = omega arith in tail j l y y z u u r p (last j y u) (raise j k l y z u r g q4 c))
  ]
]

pub climb_here : (j l : ℕ) (y : Tree) (u : List QueryToken) → l ≤ j → j ≤ 4 → Climb j l y u y u
climb_here j l y u h b = raise j l l y y u u h b (here l y u)

pub climb_expr : (j l : ℕ) (y z : Tree) (v u r : List QueryToken) → Expr j y v u → Climb j l y u z r → Expr l z v r
climb_expr j l y z v u r e (here _ _ _) = e
climb_expr j l y z v u r e (unary _ _ _ _ _ c) = climb_expr 3 l y z v u r (primary y v u e) c
climb_expr j l y z v u r e (tail k _ _ x _ _ m _ p t c) = climb_expr k l x z v m r (binary k y x v u m p e t) c

-- how an expression begins
data Base : ℕ → Tree → List QueryToken → List QueryToken → Type 0 where
  base_word : (s : ℕ) (o : Operand) (r : List QueryToken) → Base 4 (leaf o) (word s o ∷ r) r
  base_open : (t : Tree) (u r : List QueryToken) → Expr 0 t u (closing ∷ r) → Base 4 t (opening ∷ u) r
  base_not : (t : Tree) (u r : List QueryToken) → Expr 3 t u r → Base 3 (negated t) (bang ∷ u) r

record Begins (l : ℕ) (t : Tree) (u r : List QueryToken) : Type 0 where
  j : ℕ
  y : Tree
  m : List QueryToken
  base : Base j y u m
  climb : Climb j l y m t r

expr_begins : (l : ℕ) (t : Tree) (u r : List QueryToken) → Expr l t u r → Begins l t u r
expr_begins l t u r (one s o _) = record { j = 4; y = leaf o; m = r; base = base_word s o r; climb = here 4 (leaf o) r }
expr_begins l t u r (bracket _ v _ e) = record { j = 4; y = t; m = r; base = base_open t v r e; climb = here 4 t r }
expr_begins l t u r (primary _ _ _ e) = let b = expr_begins 4 t u r e in
    record {
      j = b.j;
      y = b.y;
      m = b.m;
      base = b.base;
      climb = climb_trans b.j 4 3 b.y t t b.m r r b.climb (unary 3 t t r r (here 3 t r));
    }
expr_begins l t u r (denied s v _ e) =
    record { j = 3; y = negated s; m = r; base = base_not s v r e; climb = here 3 (negated s) r }
expr_begins l t u r (binary k x _ _ m _ p e s) = let b = expr_begins (suc k) x u m e in
    record {
      j = b.j;
      y = b.y;
      m = b.m;
      base = b.base;
      climb = climb_trans b.j (suc k) k b.y x t b.m m r b.climb (tail k k x t t m r r p s (here k t r));
    }

-- ── an operand is due ──
word_on : (l j s : ℕ) (o : Operand) (t y : Tree) (u m r : List QueryToken) → Base j y (word s o ∷ u) m
    → Climb j l y m t r → Climb 4 l (leaf o) u t r
word_on l j s o t y u m r (base_word _ _ _) k = k

pub want_word : (fs : List Frame) (s : ℕ) (o : Operand) (u : List QueryToken) (t : Tree) → Want fs (word s o ∷ u) t
    → On 4 fs (leaf o) u t
want_word fs s o u t (want _ y _ _ m e a) = let b = expr_begins (need fs) y (word s o ∷ u) m e in
    on 4 fs (leaf o) y t u m (word_on (need fs) b.j s o y b.y u b.m m b.base b.climb) a

pub word_want : (fs : List Frame) (s : ℕ) (o : Operand) (u : List QueryToken) (t : Tree) → On 4 fs (leaf o) u t
    → Want fs (word s o ∷ u) t
word_want fs s o u t (on _ _ _ z _ _ m k a) =
    want fs z t (word s o ∷ u) m (climb_expr 4 (need fs) (leaf o) z (word s o ∷ u) u m (one s o u) k) a

open_on : (fs : List Frame) (j : ℕ) (t y z : Tree) (u m r : List QueryToken) → Base j y (opening ∷ u) m
    → Climb j (need fs) y m z r → After fs z r t → Want (open_frame ∷ fs) u t
open_on fs j t y z u m r (base_open _ _ _ e) k a =
    want (open_frame ∷ fs) y t u (closing ∷ m) e (at_close fs y t m (on 4 fs y z t m r k a))

pub want_open : (fs : List Frame) (u : List QueryToken) (t : Tree) → Want fs (opening ∷ u) t
    → Want (open_frame ∷ fs) u t
want_open fs u t (want _ y _ _ m e a) =
    let b = expr_begins (need fs) y (opening ∷ u) m e in open_on fs b.j t b.y y u b.m m b.base b.climb a

close_expr : (fs : List Frame) (y t : Tree) (u m : List QueryToken) → Expr 0 y u m → After (open_frame ∷ fs) y m t
    → Want fs (opening ∷ u) t
close_expr fs y t u m e (at_close _ _ _ v (on _ _ _ z _ _ q k a)) =
    want fs z t (opening ∷ u) q (climb_expr 4 (need fs) y z (opening ∷ u) v q (bracket y u v e) k) a

pub open_want : (fs : List Frame) (u : List QueryToken) (t : Tree) → Want (open_frame ∷ fs) u t
    → Want fs (opening ∷ u) t
open_want fs u t (want _ y _ _ m e a) = close_expr fs y t u m e a

not_on : (fs : List Frame) (j : ℕ) (t y z : Tree) (u m r : List QueryToken) → Base j y (bang ∷ u) m
    → Climb j (need fs) y m z r → After fs z r t → Want (not_frame ∷ fs) u t
not_on fs j t y z u m r (base_not x _ _ e) k a =
    want (not_frame ∷ fs) x t u m e (at_not fs x t m (on 3 fs (negated x) z t m r k a))

pub want_not : (fs : List Frame) (u : List QueryToken) (t : Tree) → Want fs (bang ∷ u) t → Want (not_frame ∷ fs) u t
want_not fs u t (want _ y _ _ m e a) =
    let b = expr_begins (need fs) y (bang ∷ u) m e in not_on fs b.j t b.y y u b.m m b.base b.climb a

not_expr : (fs : List Frame) (y t : Tree) (u m : List QueryToken) → Expr 3 y u m → After (not_frame ∷ fs) y m t
    → Want fs (bang ∷ u) t
not_expr fs y t u m e (at_not _ _ _ _ (on _ _ _ z _ _ q k a)) =
    want fs z t (bang ∷ u) q (climb_expr 3 (need fs) (negated y) z (bang ∷ u) m q (denied y u m e) k) a

pub not_want : (fs : List Frame) (u : List QueryToken) (t : Tree) → Want (not_frame ∷ fs) u t → Want fs (bang ∷ u) t
not_want fs u t (want _ y _ _ m e a) = not_expr fs y t u m e a

base_sign : (j s : ℕ) (i : Joint) (y : Tree) (u m : List QueryToken) → ¬ Base j y (sign s i ∷ u) m
base_sign j s i y u m b = elim b [ ]

base_close : (j : ℕ) (y : Tree) (u m : List QueryToken) → ¬ Base j y (closing ∷ u) m
base_close j y u m b = elim b [ ]

base_nil : (j : ℕ) (y : Tree) (m : List QueryToken) → ¬ Base j y [] m
base_nil j y m b = elim b [ ]

pub want_sign : (fs : List Frame) (s : ℕ) (i : Joint) (u : List QueryToken) (t : Tree) → ¬ Want fs (sign s i ∷ u) t
want_sign fs s i u t (want _ y _ _ m e a) =
    let b = expr_begins (need fs) y (sign s i ∷ u) m e in base_sign b.j s i b.y u b.m b.base

pub want_close : (fs : List Frame) (u : List QueryToken) (t : Tree) → ¬ Want fs (closing ∷ u) t
want_close fs u t (want _ y _ _ m e a) =
    let b = expr_begins (need fs) y (closing ∷ u) m e in base_close b.j b.y u b.m b.base

pub want_nil : (fs : List Frame) (t : Tree) → ¬ Want fs [] t
want_nil fs t (want _ y _ _ m e a) = let b = expr_begins (need fs) y [] m e in base_nil b.j b.y b.m b.base

-- ── after an operand ──
tail_stops : (k l : ℕ) (y x : Tree) (u m : List QueryToken) → l ≤ k → NoTighter l u → Tail k y u x m → (x ≡ y) × (m ≡ u)
tail_stops k l y x u m h s (last _ _ _) = (refl, refl)
tail_stops k l y x u m h s (more _ j _ w _ v q _ e t) = absurd (let b : level j < l = s in let n : ⊥ = omega arith in n)

climb_stops_at : (l : ℕ) (y x z : Tree) (u m r : List QueryToken) → NoTighter l u → (x ≡ y) × (m ≡ u)
    → ((NoTighter l m → (z ≡ x) × (r ≡ m))) → (z ≡ y) × (r ≡ u)
climb_stops_at l y x z u m r s e f =
    let g = f (subst (λ v. NoTighter l v) (sym e.1) s) in (subst (λ v. z ≡ v) e.0 g.0, subst (λ v. r ≡ v) e.1 g.1)

climb_stops : (j l : ℕ) (y z : Tree) (u r : List QueryToken) → NoTighter l u → Climb j l y u z r → (z ≡ y) × (r ≡ u)
climb_stops j l y z u r s (here _ _ _) = (refl, refl)
climb_stops j l y z u r s (unary _ _ _ _ _ c) = climb_stops 3 l y z u r s c
climb_stops j l y z u r s (tail k _ _ x _ _ m _ p t c) =
    climb_stops_at l y x z u m r s (tail_stops k l y x u m (climb_le k l x z m r c) s t)
    (λ v. climb_stops k l x z m r v c)

after_at : (fs : List Frame) (y z t : Tree) (u m : List QueryToken) → (z ≡ y) × (m ≡ u) → After fs z m t
    → After fs y u t
after_at fs y z t u m e a = subst (λ v. After fs y v t) e.1 (subst (λ v. After fs v m t) e.0 a)

-- where the innermost frame's operand is over
pub stops_after : (j : ℕ) (fs : List Frame) (y t : Tree) (u : List QueryToken) → NoTighter (need fs) u → On j fs y u t
    → After fs y u t
stops_after j fs y t u s (on _ _ _ z _ _ m k a) = after_at fs y z t u m (climb_stops j (need fs) y z u m s k) a

pub after_on : (j : ℕ) (fs : List Frame) (y t : Tree) (u : List QueryToken) → need fs ≤ j → j ≤ 4 → After fs y u t
    → On j fs y u t
after_on j fs y t u h b a = on j fs y y t u u (climb_here j (need fs) y u h b) a

not_inner : (fs : List Frame) (y t : Tree) (u : List QueryToken) → After (not_frame ∷ fs) y u t
    → On 3 fs (negated y) u t
not_inner fs y t u (at_not _ _ _ _ o) = o

joint_inner : (fs : List Frame) (i : Joint) (x y t : Tree) (u : List QueryToken) → After (joint_frame i x ∷ fs) y u t
    → On (suc (level i)) fs (joined i x y) u t
joint_inner fs i x y t u (at_joint _ _ _ _ _ _ o) = o

open_inner : (fs : List Frame) (y t : Tree) (u : List QueryToken) → After (open_frame ∷ fs) y (closing ∷ u) t
    → On 4 fs y u t
open_inner fs y t u (at_close _ _ _ _ o) = o

pub pop_not : (j : ℕ) (fs : List Frame) (y t : Tree) (u : List QueryToken) → NoTighter 3 u → On j (not_frame ∷ fs) y u t
    → On 3 fs (negated y) u t
pop_not j fs y t u s o = not_inner fs y t u (stops_after j (not_frame ∷ fs) y t u s o)

pub push_not : (j : ℕ) (fs : List Frame) (y t : Tree) (u : List QueryToken) → 3 ≤ j → j ≤ 4 → On 3 fs (negated y) u t
    → On j (not_frame ∷ fs) y u t
push_not j fs y t u h b o = after_on j (not_frame ∷ fs) y t u h b (at_not fs y t u o)

pub pop_joint : (j : ℕ) (fs : List Frame) (i : Joint) (x y t : Tree) (u : List QueryToken) → NoTighter (suc (level i)) u
    → On j (joint_frame i x ∷ fs) y u t → On (suc (level i)) fs (joined i x y) u t
pop_joint j fs i x y t u s o = joint_inner fs i x y t u (stops_after j (joint_frame i x ∷ fs) y t u s o)

pub push_joint : (j : ℕ) (fs : List Frame) (i : Joint) (x y t : Tree) (u : List QueryToken) → suc (level i) ≤ j → j ≤ 4
    → On (suc (level i)) fs (joined i x y) u t → On j (joint_frame i x ∷ fs) y u t
push_joint j fs i x y t u h b o = after_on j (joint_frame i x ∷ fs) y t u h b (at_joint fs i x y t u o)

pub close_on : (j : ℕ) (fs : List Frame) (y t : Tree) (u : List QueryToken) → On j (open_frame ∷ fs) y (closing ∷ u) t
    → On 4 fs y u t
close_on j fs y t u o = open_inner fs y t u (stops_after j (open_frame ∷ fs) y t (closing ∷ u) tt o)

pub on_close : (j : ℕ) (fs : List Frame) (y t : Tree) (u : List QueryToken) → j ≤ 4 → On 4 fs y u t
    → On j (open_frame ∷ fs) y (closing ∷ u) t
on_close j fs y t u b o = after_on j (open_frame ∷ fs) y t (closing ∷ u) (omega arith) b (at_close fs y t u o)

bottom : (y t : Tree) (u : List QueryToken) → After [] y u t → (u ≡ []) × (t ≡ y)
bottom y t u (at_end _) = (refl, refl)

pub bottom_close : (j : ℕ) (y t : Tree) (u : List QueryToken) → ¬ On j [] y (closing ∷ u) t
bottom_close j y t u o = let e = (bottom y t (closing ∷ u) (stops_after j [] y t (closing ∷ u) tt o)).0 in cc

pub bottom_end : (j : ℕ) (y t : Tree) → On j [] y [] t → t ≡ y
bottom_end j y t o = (bottom y t [] (stops_after j [] y t [] tt o)).1

pub end_bottom : (j : ℕ) (y : Tree) → j ≤ 4 → On j [] y [] y
end_bottom j y b = after_on j [] y y [] (omega arith) b (at_end y)

open_nil : (fs : List Frame) (y t : Tree) → ¬ After (open_frame ∷ fs) y [] t
open_nil fs y t a = elim a [ ]

pub open_end : (j : ℕ) (fs : List Frame) (y t : Tree) → ¬ On j (open_frame ∷ fs) y [] t
open_end j fs y t o = open_nil fs y t (stops_after j (open_frame ∷ fs) y t [] tt o)

-- ── an operator comes ──
record Taken (i : Joint) (l : ℕ) (y z : Tree) (u m : List QueryToken) : Type 0 where
  w : Tree
  q : List QueryToken
  expr : Expr (suc (level i)) w u q
  climb : Climb (suc (level i)) l (joined i y w) q z m

-- the operator is taken, or nothing is
tail_takes : (i : Joint) (s k l : ℕ) (y x z : Tree) (u m r : List QueryToken) → Tail k y (sign s i ∷ u) x m
    → Climb k l x m z r
    → ((m ≡ sign s i ∷ u) × (x ≡ y)) ⊎ Taken i l y z u r
tail_takes i s k l y x z u m r (last _ _ _) cl = inl (refl, refl)
tail_takes i s k l y x z u m r (more _ _ _ w _ _ q _ e t) cl =
    inr (record { w = w; q = q; expr = e; climb = tail (level i) l (joined i y w) x z q m r (level_3 i) t cl })

climb_takes : (i : Joint) (s j l : ℕ) (y z : Tree) (u v r : List QueryToken) → v ≡ sign s i ∷ u → Climb j l y v z r
    → ((z ≡ y) × (r ≡ v)) ⊎ Taken i l y z u r
climb_takes i s j l y z u v r e (here _ _ _) = inl (refl, refl)
climb_takes i s j l y z u v r e (unary _ _ _ _ _ cl) = climb_takes i s 3 l y z u v r e cl
climb_takes i s j l y z u v r e (tail k _ _ x _ _ m _ p t cl) =
    elim (tail_takes i s k l y x z u m r (subst (λ n. Tail k y n x m) e t) cl) [
      | inl f ↦ (let rest = climb_takes i s k l x z u m r f.0 cl in elim rest [
        | inl g ↦ inl (subst (λ n. z ≡ n) f.1 g.0, subst (λ n. r ≡ n) (f.0 ∙ sym e) g.1)
        | inr g ↦ inr (subst (λ n. Taken i l n z u r) f.1 g)
      ])
      | inr g ↦ inr g
    ]

-- below the operator's level nothing takes it
tail_low : (i : Joint) (s k : ℕ) (y x : Tree) (u m : List QueryToken) → k < level i → Tail k y (sign s i ∷ u) x m
    → (x ≡ y) × (m ≡ sign s i ∷ u)
tail_low i s k y x u m p (last _ _ _) = (refl, refl)
tail_low i s k y x u m p (more _ _ _ w _ _ q _ e t) = absurd (let n : ⊥ = omega arith in n)

climb_low : (i : Joint) (s j l : ℕ) (y z : Tree) (u v r : List QueryToken) → v ≡ sign s i ∷ u → j ≤ level i
    → Climb j l y v z r → (z ≡ y) × (r ≡ v)
climb_low i s j l y z u v r e p (here _ _ _) = (refl, refl)
climb_low i s j l y z u v r e p (unary _ _ _ _ _ cl) = absurd (let b = level_3 i in let n : ⊥ = omega arith in n)
climb_low i s j l y z u v r e p (tail k _ _ x _ _ m _ _ t cl) =
    let f = tail_low i s k y x u m (omega arith) (subst (λ n. Tail k y n x m) e t) in
    let g = climb_low i s k l x z u m r f.1 (omega arith) cl in
    (subst (λ n. z ≡ n) f.0 g.0, subst (λ n. r ≡ n) (f.1 ∙ sym e) g.1)

open_dead : (i : Joint) (s : ℕ) (fs : List Frame) (y t : Tree) (u : List QueryToken)
    → ¬ After (open_frame ∷ fs) y (sign s i ∷ u) t
open_dead i s fs y t u a = elim a [ ]

dead_after : (fs : List Frame) (i : Joint) (s j : ℕ) (y t : Tree) (u : List QueryToken) → j ≤ level i
    → On j fs y (sign s i ∷ u) t → (need fs ≤ level i) × After fs y (sign s i ∷ u) t
dead_after fs i s j y t u p (on _ _ _ z _ _ m k a) = (
  let b = climb_le j (need fs) y z (sign s i ∷ u) m k in let q : need fs ≤ level i = omega arith in q,
  after_at fs y z t (sign s i ∷ u) m (climb_low i s j (need fs) y z u (sign s i ∷ u) m refl p k) a,
)

-- an operator that the levels near it pass over is never taken further out
after_dead : (fs : List Frame) (i : Joint) (s : ℕ) (y t : Tree) (u : List QueryToken) → need fs ≤ level i
    → ¬ After fs y (sign s i ∷ u) t
after_dead [] i s y t u p a = elim a [ ]
after_dead (open_frame ∷ fs) i s y t u p a = open_dead i s fs y t u a
after_dead (not_frame ∷ fs) i s y t u p a = let b = level_3 i in let n : ⊥ = omega arith in n
after_dead (joint_frame j x ∷ fs) i s y t u p a =
    let d = dead_after fs i s (suc (level j)) (joined j x y) t u p (joint_inner fs j x y t (sign s i ∷ u) a) in
    after_dead fs i s (joined j x y) t u d.0 d.1

taken_want : (fs : List Frame) (i : Joint) (y z t : Tree) (u m : List QueryToken) → Taken i (need fs) y z u m
    → After fs z m t → Want (joint_frame i y ∷ fs) u t
taken_want fs i y z t u m k a = want (joint_frame i y ∷ fs) k.w t u k.q k.expr
    (at_joint fs i y k.w t k.q (on (suc (level i)) fs (joined i y k.w) z t k.q m k.climb a))

pub on_joint : (j : ℕ) (fs : List Frame) (i : Joint) (s : ℕ) (y t : Tree) (u : List QueryToken) → need fs ≤ level i
    → On j fs y (sign s i ∷ u) t → Want (joint_frame i y ∷ fs) u t
on_joint j fs i s y t u p (on _ _ _ z _ _ m k a) = elim (climb_takes i s j (need fs) y z u (sign s i ∷ u) m refl k) [
  | inl e ↦ absurd (after_dead fs i s y t u p (after_at fs y z t (sign s i ∷ u) m e a))
  | inr g ↦ taken_want fs i y z t u m g a
]

record Opened (k l : ℕ) (y z : Tree) (u r : List QueryToken) : Type 0 where
  x : Tree
  m : List QueryToken
  tl : Tail k y u x m
  climb : Climb k l x m z r

open_climb : (j k l : ℕ) (y z : Tree) (u r : List QueryToken) → j ≡ suc k → k < 3 → l ≤ k → Climb j l y u z r
    → Opened k l y z u r
open_climb j k l y z u r e p h (here _ _ _) = absurd (let n : ⊥ = omega arith in n)
open_climb j k l y z u r e p h (unary _ _ _ _ _ c) = absurd (let n : ⊥ = omega arith in n)
open_climb j k l y z u r e p h (tail k' _ _ x _ _ m _ q t c) = let f : k' ≡ k = omega arith in
    subst (λ n. Opened n l y z u r) f (record { x = x; m = m; tl = t; climb = c })

opened_on : (j : ℕ) (fs : List Frame) (i : Joint) (s : ℕ) (y w z t : Tree) (u q m : List QueryToken) → level i < j
    → j ≤ 4 → Expr (suc (level i)) w u q
    → Opened (level i) (need fs) (joined i y w) z q m → After fs z m t → On j fs y (sign s i ∷ u) t
opened_on j fs i s y w z t u q m p b e o a =
    on j fs y z t (sign s i ∷ u) m (raise j (suc (level i)) (need fs) y z (sign s i ∷ u) m (omega arith) b
    (tail (level i) (need fs) y o.x z (sign s i ∷ u) o.m m (level_3 i) (more s i y w o.x u q o.m e o.tl) o.climb)) a

joint_on_at : (j : ℕ) (fs : List Frame) (i : Joint) (s : ℕ) (y w t : Tree) (u q : List QueryToken) → need fs ≤ level i
    → level i < j → j ≤ 4 → Expr (suc (level i)) w u q
    → On (suc (level i)) fs (joined i y w) q t → On j fs y (sign s i ∷ u) t
joint_on_at j fs i s y w t u q g p b e (on _ _ _ z _ _ m k a) =
    opened_on j fs i s y w z t u q m p b e
    (open_climb (suc (level i)) (level i) (need fs) (joined i y w) z q m refl (level_3 i) g k) a

pub joint_on : (j : ℕ) (fs : List Frame) (i : Joint) (s : ℕ) (y t : Tree) (u : List QueryToken) → need fs ≤ level i
    → level i < j → j ≤ 4 → Want (joint_frame i y ∷ fs) u t → On j fs y (sign s i ∷ u) t
joint_on j fs i s y t u g p b (want _ w _ _ q e a) = joint_on_at j fs i s y w t u q g p b e (joint_inner fs i y w t q a)

-- ── a token that begins an operand ──
pub data Begin : QueryToken → Type 0 where
  word_begins : (s : ℕ) (o : Operand) → Begin (word s o)
  bang_begins : Begin bang
  open_begins : Begin opening

stops_begin : (k : QueryToken) (l : ℕ) (u : List QueryToken) → Begin k → NoTighter l (k ∷ u)
stops_begin k l u (word_begins s o) = tt
stops_begin k l u bang_begins = tt
stops_begin k l u open_begins = tt

bottom_begin : (k : QueryToken) (y t : Tree) (u : List QueryToken) → ¬ After [] y (k ∷ u) t
bottom_begin k y t u a = elim a [ ]

open_begin : (k : QueryToken) (fs : List Frame) (y t : Tree) (u : List QueryToken) → Begin k
    → ¬ After (open_frame ∷ fs) y (k ∷ u) t
open_begin k fs y t u (word_begins s o) a = elim a [ ]
open_begin k fs y t u bang_begins a = elim a [ ]
open_begin k fs y t u open_begins a = elim a [ ]

after_begin : (fs : List Frame) (k : QueryToken) (y t : Tree) (u : List QueryToken) → Begin k → ¬ After fs y (k ∷ u) t
after_begin [] k y t u h a = bottom_begin k y t u a
after_begin (open_frame ∷ fs) k y t u h a = open_begin k fs y t u h a
after_begin (not_frame ∷ fs) k y t u h a = after_begin fs k (negated y) t u h
    (stops_after 3 fs (negated y) t (k ∷ u) (stops_begin k (need fs) u h) (not_inner fs y t (k ∷ u) a))
after_begin (joint_frame j x ∷ fs) k y t u h a =
    after_begin fs k (joined j x y) t u h (stops_after (suc (level j)) fs (joined j x y) t (k ∷ u)
    (stops_begin k (need fs) u h) (joint_inner fs j x y t (k ∷ u) a))

pub on_begin : (j : ℕ) (fs : List Frame) (k : QueryToken) (y t : Tree) (u : List QueryToken) → Begin k
    → ¬ On j fs y (k ∷ u) t
on_begin j fs k y t u h o = after_begin fs k y t u h (stops_after j fs y t (k ∷ u) (stops_begin k (need fs) u h) o)
