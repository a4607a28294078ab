-- What is printed is read again.
use Rattle.std.proofs.Common.{◌≡◌, ◌≢◌, ℕ, suc, ◌+◌, ◌/◌, ◌%◌, ◌^◌, ◌<◌, ◌≤◌, List, [], ◌∷◌, ◌++◌, inl, inr, refl, sym}
use Rattle.std.proofs.Common.{subst, ap, ◌∙◌, Bool, true, false, cond, nat_lt, eqb, append_assoc, arith, length, All}
use Rattle.std.proofs.Common.{Some, None, codes}
use Rattle.std.proofs.lemmas.List.{append-nil, length-append, get_or-append-add}
use Rattle.std.proofs.Math.ListN.{get_or-append}
use Rattle.std.proofs.lemmas.Bool.Decides.{nat_tests}
use Rattle.std.proofs.lemmas.Fmt.{decimal_by_steps}
use Rattle.std.specs.Fmt.{decimal}
use Rattle.std.specs.List.{flat_map}
use Rattle.ts_base.specs.declared.Weight.{Weight}
use Rattle.ts_base.specs.declared.Weight.TheVariants.{A, B, C, D}
use Rattle.ts_base.specs.declared.Weights.{Weights}
use Rattle.ts_query.specs.Queries.{Operand, Joint, or_joint, and_joint, phrase_joint, Tree, leaf, negated, joined}
use Rattle.ts_query.specs.Queries.{operands_in, IsNear, HasNear, HasLexeme}
use Rattle.ts_base.specs.Bytes.{IsDigit, IsLetter, BeginsWithQuote}
use Rattle.ts_query.specs.Tokens.{IsMark, QueryToken, word, bang, opening, closing, sign, BeginsWithMark, no_weights}
use Rattle.ts_query.specs.Tokens.{Marks, unmarked, star, letter, operand, BehindLexeme, bare, marked, DistanceNumber}
use Rattle.ts_query.specs.Tokens.{over, digit, Distance, arrow, number, offset, Lex, done, space, not_sign, open_sign}
use Rattle.ts_query.specs.Tokens.{close_sign, and_sign, or_sign, phrase_sign, quoted}
use Rattle.ts_base.specs.Quoted.{doubled_byte}
use Rattle.ts_base.specs.Digits.{with_digit}
use Rattle.ts_query.specs.Printing.{marks_of, marks_text, operand_text, joint_text, bracketed, printed_at, only_if}
use Rattle.ts_query.specs.Grammar.{level, Expr, one, bracket, primary, denied, binary, Tail, last, more}
use Rattle.ts_query.specs.Laws.{PrintsBack}
use Rattle.ts_query.proofs.Climbs.{level_3, climb_here, climb_expr}
use Rattle.ts_base.proofs.QuotedTexts.{quoted_reads}
use Rattle.ts_query.specs.declared.TheConstants.{PAST_DISTANCE, GREATEST_DISTANCE}

-- the end, or a space
abbrev pub IsParted : List ℕ → Type 0
IsParted [] = Unit {0}
IsParted (c ∷ r) = c ≡ 32

parted_quote : (r : List ℕ) → IsParted r → ¬ BeginsWithQuote r
parted_quote [] h q = q
parted_quote (c ∷ r) h q = omega arith

letter_32 : (x : Weight) → ¬ IsLetter 32 x
letter_32 A h = grind arith
letter_32 B h = grind arith
letter_32 C h = grind arith
letter_32 D h = grind arith

mark_32 : ¬ IsMark 32
mark_32 (inl e) = omega arith
mark_32 (inr k) = letter_32 k.0 k.1

parted_mark : (r : List ℕ) → IsParted r → ¬ BeginsWithMark r
parted_mark [] h m = m
parted_mark (c ∷ r) h m = mark_32 (subst IsMark h m)

-- ── marks ──
abbrev weights : Bool → Bool → Bool → Bool → Weights
weights a b c d = record { a = a; b = b; c = c; d = d }

star_prints : (m : Bool) (w v : Weights) (u r : List ℕ) → Marks w m u v m r → Marks w false (only_if m 42 ++ u) v m r
star_prints true w v u r q = star w v false true u r q
star_prints false w v u r q = q

a_prints : (a m q : Bool) (v : Weights) (u r : List ℕ) → Marks (weights a false false false) m u v q r
    → Marks (weights false false false false) m (only_if a 65 ++ u) v q r
a_prints true m q v u r k = letter 65 A (weights false false false false) v m q u r (inl refl) k
a_prints false m q v u r k = k

b_prints : (a b m q : Bool) (v : Weights) (u r : List ℕ) → Marks (weights a b false false) m u v q r
    → Marks (weights a false false false) m (only_if b 66 ++ u) v q r
b_prints a true m q v u r k = letter 66 B (weights a false false false) v m q u r (inl refl) k
b_prints a false m q v u r k = k

c_prints : (a b c m q : Bool) (v : Weights) (u r : List ℕ) → Marks (weights a b c false) m u v q r
    → Marks (weights a b false false) m (only_if c 67 ++ u) v q r
c_prints a b true m q v u r k = letter 67 C (weights a b false false) v m q u r (inl refl) k
c_prints a b false m q v u r k = k

d_prints : (a b c d m q : Bool) (v : Weights) (u r : List ℕ) → Marks (weights a b c d) m u v q r
    → Marks (weights a b c false) m (only_if d 68 ++ u) v q r
d_prints a b c true m q v u r k = letter 68 D (weights a b c false) v m q u r (inl refl) k
d_prints a b c false m q v u r k = k

five : (a b c d e r : List ℕ) → (a ++ (b ++ (c ++ (d ++ e)))) ++ r ≡ a ++ (b ++ (c ++ (d ++ (e ++ r))))
five a b c d e r = simp append_assoc

marks_print : (o : Operand) (r : List ℕ) → IsParted r → Marks no_weights false (marks_of o ++ r) o.weights o.prefix r
marks_print o r h =
    let w = o.weights in
    subst (λ u. Marks no_weights false u o.weights o.prefix r) (sym (five (only_if o.prefix 42) (only_if o.weights.a 65)
    (only_if o.weights.b 66) (only_if o.weights.c 67) (only_if o.weights.d 68) r))
    (star_prints o.prefix no_weights o.weights _ r (a_prints o.weights.a o.prefix o.prefix o.weights _ r
    (b_prints o.weights.a o.weights.b o.prefix o.prefix o.weights _ r
    (c_prints o.weights.a o.weights.b o.weights.c o.prefix o.prefix o.weights _ r (d_prints o.weights.a o.weights.b
    o.weights.c o.weights.d o.prefix o.prefix o.weights r r (unmarked o.weights o.prefix r (parted_mark r h)))))))

only_if_none : (b : Bool) (c : ℕ) (rest : List ℕ) → only_if b c ++ rest ≡ [] → (b ≡ false) × (rest ≡ [])
only_if_none true c rest e = absurd (let no : ⊥ = cc in no)
only_if_none false c rest e = (refl, e)

only_if_no : (b : Bool) (c : ℕ) → only_if b c ≡ [] → b ≡ false
only_if_no true c e = absurd (let no : ⊥ = cc in no)
only_if_no false c e = refl

unmarked_operand : (o : Operand) → marks_of o ≡ [] → operand o.lexeme no_weights false ≡ o
unmarked_operand o e =
    let p = only_if_none o.prefix 42
    (only_if o.weights.a 65 ++ (only_if o.weights.b 66 ++ (only_if o.weights.c 67 ++ only_if o.weights.d 68))) e in
    let a = only_if_none o.weights.a 65 (only_if o.weights.b 66 ++ (only_if o.weights.c 67 ++ only_if o.weights.d 68))
    p.1 in
    let b = only_if_none o.weights.b 66 (only_if o.weights.c 67 ++ only_if o.weights.d 68) a.1 in
    let c = only_if_none o.weights.c 67 (only_if o.weights.d 68) b.1 in
    let d = only_if_no o.weights.d 68 c.1 in
    sym (ap (λ x. operand o.lexeme o.weights x) p.0 ∙ ap (λ x. operand o.lexeme (weights x o.weights.b o.weights.c
    o.weights.d) false) a.0 ∙ ap (λ x. operand o.lexeme (weights false x o.weights.c o.weights.d) false) b.0
    ∙ ap (λ x. operand o.lexeme (weights false false x o.weights.d) false) c.0
    ∙ ap (λ x. operand o.lexeme (weights false false false x) false) d)

behind_marks : (o : Operand) (m r : List ℕ) → marks_of o ≡ m → Marks no_weights false (m ++ r) o.weights o.prefix r
    → BehindLexeme o.lexeme (marks_text m ++ r) o r
behind_marks o [] r e k = subst (λ x. BehindLexeme o.lexeme r x r) (unmarked_operand o e) (bare o.lexeme r)
behind_marks o (c ∷ m) r e k = marked o.lexeme (c ∷ (m ++ r)) r o.weights o.prefix k

behind_prints : (o : Operand) (r : List ℕ) → IsParted r → BehindLexeme o.lexeme (marks_text (marks_of o) ++ r) o r
behind_prints o r h = behind_marks o (marks_of o) r refl (marks_print o r h)

marks_quote : (m r : List ℕ) → IsParted r → ¬ BeginsWithQuote (marks_text m ++ r)
marks_quote [] r h q = parted_quote r h q
marks_quote (c ∷ m) r h q = omega arith

not_empty : (l : List ℕ) → 1 ≤ length l → l ≢ []
not_empty [] h e = omega arith
not_empty (x ∷ l) h e = cc

operand_assoc : (x y m r : List ℕ) → ((39 ∷ (x ++ y)) ++ m) ++ r ≡ 39 ∷ (x ++ (y ++ (m ++ r)))
operand_assoc x y m r = ap (λ l. 39 ∷ l) (append_assoc (x ++ y) m r ∙ append_assoc x y (m ++ r))

word_prints : (n : ℕ) (o : Operand) (r : List ℕ) (ks : List QueryToken) → 1 ≤ length o.lexeme → IsParted r → Lex n r ks
    → (s : ℕ) × Lex n (operand_text o ++ r) (word s o ∷ ks)
word_prints n o r ks h p w =
    let u = flat_map doubled_byte o.lexeme in
    let m = marks_text (marks_of o) in
    let rest = flat_map doubled_byte o.lexeme ++ (39 ∷ (marks_text (marks_of o) ++ r)) in (
      offset n (39 ∷ (flat_map doubled_byte o.lexeme ++ (39 ∷ (marks_text (marks_of o) ++ r)))),
      subst (λ x. Lex n x
          (word (offset n (39 ∷ (flat_map doubled_byte o.lexeme ++ (39 ∷ (marks_text (marks_of o) ++ r))))) o ∷ ks))
          (sym (operand_assoc (flat_map doubled_byte o.lexeme) (39 ∷ []) (marks_text (marks_of o)) r))
          (quoted n (flat_map doubled_byte o.lexeme ++ (39 ∷ (marks_text (marks_of o) ++ r))) o.lexeme
          (marks_text (marks_of o) ++ r) r o ks
          (quoted_reads o.lexeme [] (marks_text (marks_of o) ++ r) (marks_quote (marks_of o) r p))
          (not_empty o.lexeme h) (behind_prints o r p) w),
    )

-- ── operators ──
abbrev ReadsNumber : ℕ → List ℕ → Type 0
ReadsNumber n ds =
    n ≤ GREATEST_DISTANCE → (u : List ℕ) (m : ℕ) (r : List ℕ) → DistanceNumber n u m r → Distance (ds ++ u) m r

one_digit : (n : ℕ) → n < 10 → ReadsNumber n ((48 + n) ∷ [])
one_digit n h b u m r k =
    let d : IsDigit (48 + n) = (omega arith, omega arith) in
    let e : n ≡ with_digit PAST_DISTANCE 0 (48 + n) = omega arith in
    number (48 + n) m u r d (subst (λ x. DistanceNumber x u m r) e k)

more_digits : (n : ℕ) (ds : List ℕ) → 10 ≤ n → ReadsNumber (n / 10) ds → ReadsNumber n (ds ++ (48 + n % 10) ∷ [])
more_digits n ds h f b u m r k =
    let d : IsDigit (48 + n % 10) = (omega arith, omega arith) in
    let e : n ≡ with_digit PAST_DISTANCE (n / 10) (48 + n % 10) = omega arith in
    subst (λ x. Distance x m r) (sym (append_assoc ds ((48 + n % 10) ∷ []) u))
    (f (omega arith) ((48 + n % 10) ∷ u) m r
    (digit (48 + n % 10) (n / 10) m u r d (subst (λ x. DistanceNumber x u m r) e k)))

distance_prints : (n : ℕ) (v : List ℕ) → n ≤ GREATEST_DISTANCE → Distance (decimal n ++ 62 ∷ v) n v
distance_prints n v h =
    let small : n < 2 ^ 64 = omega arith in
    decimal_by_steps ReadsNumber one_digit more_digits n small h (62 ∷ v) n v (over n v)

phrase_text : Bool → ℕ → List ℕ
phrase_text b n = cond b (codes " <-> ") (codes " <" ++ (decimal n ++ codes "> "))

phrase_prints : (b : Bool) (n d : ℕ) (r : List ℕ) (ks : List QueryToken) → eqb d 1 ≡ b → d ≤ GREATEST_DISTANCE
    → Lex n r ks → (s : ℕ) × Lex n (phrase_text b d ++ r) (sign s (phrase_joint d) ∷ ks)
unfolding phrase_text
phrase_prints true n d r ks e h w =
    let one : 1 ≡ d = grind (arith, nat_tests) in (
      offset n (60 ∷ 45 ∷ 62 ∷ 32 ∷ r),
      space n 32 (60 ∷ 45 ∷ 62 ∷ 32 ∷ r) (sign (offset n (60 ∷ 45 ∷ 62 ∷ 32 ∷ r)) (phrase_joint d) ∷ ks) (inl refl)
          (subst (λ x. Lex n (60 ∷ 45 ∷ 62 ∷ 32 ∷ r) (sign (offset n (60 ∷ 45 ∷ 62 ∷ 32 ∷ r)) (phrase_joint x) ∷ ks))
          one
          (phrase_sign n 1 (45 ∷ 62 ∷ 32 ∷ r) (32 ∷ r) ks (arrow (32 ∷ r)) (space n 32 r ks (inl refl) w))),
    )
phrase_prints false n d r ks e h w =
    let v = decimal d ++ 62 ∷ 32 ∷ r in (
      offset n (60 ∷ (decimal d ++ 62 ∷ 32 ∷ r)),
      subst (λ x. Lex n (32 ∷ 60 ∷ x) (sign (offset n (60 ∷ (decimal d ++ 62 ∷ 32 ∷ r))) (phrase_joint d) ∷ ks))
          (sym (append_assoc (decimal d) (62 ∷ 32 ∷ []) r))
          (space n 32 (60 ∷ (decimal d ++ 62 ∷ 32 ∷ r))
          (sign (offset n (60 ∷ (decimal d ++ 62 ∷ 32 ∷ r))) (phrase_joint d) ∷ ks) (inl refl)
          (phrase_sign n d (decimal d ++ 62 ∷ 32 ∷ r) (32 ∷ r) ks (distance_prints d (32 ∷ r) h)
          (space n 32 r ks (inl refl) w))),
    )

joint_prints : (j : Joint) (n : ℕ) (r : List ℕ) (ks : List QueryToken) → IsNear j → Lex n r ks
    → (s : ℕ) × Lex n (joint_text j ++ r) (sign s j ∷ ks)
unfolding phrase_text
joint_prints or_joint n r ks h w = (
  offset n (124 ∷ 32 ∷ r),
  space n 32 (124 ∷ 32 ∷ r) _ (inl refl) (or_sign n (32 ∷ r) ks (space n 32 r ks (inl refl) w)),
)
joint_prints and_joint n r ks h w = (
  offset n (38 ∷ 32 ∷ r),
  space n 32 (38 ∷ 32 ∷ r) _ (inl refl) (and_sign n (32 ∷ r) ks (space n 32 r ks (inl refl) w)),
)
joint_prints (phrase_joint d) n r ks h w = phrase_prints (eqb d 1) n d r ks refl h w

phrase_parted : (b : Bool) (d : ℕ) (r : List ℕ) → IsParted (phrase_text b d ++ r)
unfolding phrase_text
phrase_parted true d r = refl
phrase_parted false d r = refl

joint_parted : (j : Joint) (r : List ℕ) → IsParted (joint_text j ++ r)
unfolding phrase_text
joint_parted or_joint r = refl
joint_parted and_joint r = refl
joint_parted (phrase_joint d) r = phrase_parted (eqb d 1) d r

-- ── trees ──
tail_trans : (k : ℕ) (a x t : Tree) (u m r : List QueryToken) → Tail k a u x m → Tail k x m t r → Tail k a u t r
tail_trans k a x t u m r (last _ _ _) s = s
tail_trans k a x t u m r (more c j _ y _ v q _ e b) s =
    more c j a y t v q r e (tail_trans (level j) (joined j a y) x t q m r b s)

-- an operator more after an expression of its level
expr_tail : (k : ℕ) (x t : Tree) (u m r : List QueryToken) → k < 3 → Expr k x u m → Tail k x m t r → Expr k t u r
expr_tail k x t u m r p (one _ _ _) s = absurd (let n : ⊥ = omega arith in n)
expr_tail k x t u m r p (bracket _ _ _ _) s = absurd (let n : ⊥ = omega arith in n)
expr_tail k x t u m r p (primary _ _ _ _) s = absurd (let n : ⊥ = omega arith in n)
expr_tail k x t u m r p (denied _ _ _ _) s = absurd (let n : ⊥ = omega arith in n)
expr_tail k x t u m r p (binary _ w _ _ q _ _ e b) s = binary k w t u q r p e (tail_trans k w x t q m r b s)

lower : (j l : ℕ) (t : Tree) (u r : List QueryToken) → l ≤ j → j ≤ 4 → Expr j t u r → Expr l t u r
lower j l t u r h b e = climb_expr j l t t u r r e (climb_here j l t r h b)

-- what the laws ask of a tree
Spelled : Tree → Type 0
Spelled (leaf o) = 1 ≤ length o.lexeme
Spelled (negated x) = Spelled x
Spelled (joined j x y) = IsNear j × (Spelled x × Spelled y)

-- the text of a tree of the level l has tokens that begin with an expression of that level
record Prints (n l : ℕ) (t : Tree) (u : List ℕ) (ks : List QueryToken) : Type 0 where
  tokens : List QueryToken
  has : Lex n u tokens
  expr : Expr l t tokens ks

lt_false : (a b : ℕ) → nat_lt a b ≡ false → b ≤ a
lt_false a b e = grind (arith, nat_tests)

brackets_assoc : (body r : List ℕ) → (codes "( " ++ (body ++ codes " )")) ++ r ≡ 40 ∷ 32 ∷ (body ++ (32 ∷ 41 ∷ r))
brackets_assoc body r = ap (λ l. 40 ∷ 32 ∷ l) (append_assoc body (32 ∷ 41 ∷ []) r)

bracketed_prints : (b : Bool) (n k l : ℕ) (t : Tree) (body r : List ℕ) (ks : List QueryToken) → k ≤ 4 → l ≤ 4
    → nat_lt k l ≡ b
    → ((v : List ℕ) (ls : List QueryToken) → IsParted v → Lex n v ls → Prints n k t (body ++ v) ls) → IsParted r
    → Lex n r ks → Prints n l t (bracketed b body ++ r) ks
bracketed_prints true n k l t body r ks h g e f p w =
    let q = f (32 ∷ 41 ∷ r) (closing ∷ ks) refl (space n 32 (41 ∷ r) (closing ∷ ks) (inl refl) (close_sign n r ks w)) in
    record {
      tokens = opening ∷ q.tokens;
      has = subst (λ x. Lex n x (opening ∷ q.tokens)) (sym (brackets_assoc body r)) (open_sign n
          (32 ∷ (body ++ (32 ∷ 41 ∷ r))) q.tokens (space n 32 (body ++ (32 ∷ 41 ∷ r)) q.tokens (inl refl) q.has));
      expr = lower 4 l t (opening ∷ q.tokens) ks g (omega arith)
          (bracket t q.tokens ks (lower k 0 t q.tokens (closing ∷ ks) (omega arith) h q.expr));
    }
bracketed_prints false n k l t body r ks h g e f p w =
    let q = f r ks p w in
    record { tokens = q.tokens; has = q.has; expr = lower k l t q.tokens ks (lt_false k l e) h q.expr }

three_assoc : (a b c r : List ℕ) → (a ++ (b ++ c)) ++ r ≡ a ++ (b ++ (c ++ r))
three_assoc a b c r = simp append_assoc

joined_prints : (n : ℕ) (j : Joint) (x y : Tree) (a b v : List ℕ) (ls : List QueryToken) → IsNear j → Lex n v ls
    → Prints n (suc (level j)) y (b ++ v) ls
    → ((z : List ℕ) (ms : List QueryToken) → IsParted z → Lex n z ms → Prints n (level j) x (a ++ z) ms)
    → Prints n (level j) (joined j x y) ((a ++ (joint_text j ++ b)) ++ v) ls
joined_prints n j x y a b v ls h w q f =
    let s = joint_prints j n (b ++ v) q.tokens h q.has in
    let p = f (joint_text j ++ (b ++ v)) (sign s.0 j ∷ q.tokens) (joint_parted j (b ++ v)) s.1 in
    record {
      tokens = p.tokens;
      has = subst (λ t. Lex n t p.tokens) (sym (three_assoc a (joint_text j) b v)) p.has;
      expr = expr_tail (level j) x (joined j x y) p.tokens (sign s.0 j ∷ q.tokens) ls (level_3 j) p.expr
          (more s.0 j x y (joined j x y) q.tokens ls ls q.expr (last (level j) (joined j x y) ls));
    }

prints : (t : Tree) (n l : ℕ) (r : List ℕ) (ks : List QueryToken) → l ≤ 4 → Spelled t → IsParted r → Lex n r ks
    → Prints n l t (printed_at t l ++ r) ks
unfolding Spelled
prints (leaf o) n l r ks g s p w =
    let f = word_prints n o r ks s p w in record {
      tokens = word f.0 o ∷ ks;
      has = f.1;
      expr = lower 4 l (leaf o) (word f.0 o ∷ ks) ks g (omega arith) (one f.0 o ks);
    }
prints (negated x) n l r ks g s p w =
    bracketed_prints (nat_lt 3 l) n 3 l (negated x) (33 ∷ printed_at x 3) r ks (omega arith) g refl
    (λ v ls h k. let q = prints x n 3 v ls (omega arith) s h k in
    record {
      tokens = bang ∷ q.tokens;
      has = not_sign n (printed_at x 3 ++ v) q.tokens q.has;
      expr = denied x q.tokens ls q.expr;
    }) p w
prints (joined j x y) n l r ks g s p w =
    let three = level_3 j in
    bracketed_prints (nat_lt (level j) l) n (level j) l (joined j x y)
    (printed_at x (level j) ++ (joint_text j ++ printed_at y (suc (level j)))) r ks (omega arith) g refl
    (λ v ls h k. joined_prints n j x y (printed_at x (level j)) (printed_at y (suc (level j))) v ls s.0 k
    (prints y n (suc (level j)) v ls (omega arith) s.1.1 h k)
    (λ z ms i m. prints x n (level j) z ms (omega arith) s.1.0 i m)) p w

pub all_left : (xs ys : List Operand) → All HasLexeme (xs ++ ys) → All HasLexeme xs
all_left xs ys a k d h = let n : k < length (xs ++ ys) = omega (arith, length-append xs ys) in
    subst HasLexeme (get_or-append xs ys d k h) (a k d n)

pub all_right : (xs ys : List Operand) → All HasLexeme (xs ++ ys) → All HasLexeme ys
all_right xs ys a k d h = let n : length xs + k < length (xs ++ ys) = omega (arith, length-append xs ys) in
    subst HasLexeme (get_or-append-add xs ys k d) (a (length xs + k) d n)

spelled : (t : Tree) → All HasLexeme (operands_in t) → HasNear t → Spelled t
unfolding Spelled
spelled (leaf o) a h = (a 0 o (omega arith)).some
spelled (negated x) a h = spelled x a h
spelled (joined j x y) a h = (
  h.0,
  (
    spelled x (all_left (operands_in x) (operands_in y) a) h.1,
    spelled y (all_right (operands_in x) (operands_in y) a) h.2,
  ),
)

pub prints_back : PrintsBack
prints_back None s = ([], record { has = done 0; spells = refl })
prints_back (Some t) s =
    let text = printed_at t 0 in
    let q = prints t (length (printed_at t 0)) 0 [] [] (omega arith) (spelled t s.lexemes s.phrases) tt
    (done (length (printed_at t 0))) in (
      q.tokens,
      record {
        has = subst (λ x. Lex (length (printed_at t 0)) x q.tokens) (append-nil (printed_at t 0)) q.has;
        spells = q.expr;
      },
    )
