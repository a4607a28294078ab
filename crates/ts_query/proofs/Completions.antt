-- From wherever the reader is, some text of the grammar goes on.
use Rattle.std.proofs.Common.{◌≢◌, ℕ, suc, ◌<◌, ◌≤◌, ◌⊎◌, inl, inr, List, [], ◌∷◌, ◌++◌, refl, Bool, false, Some, None}
use Rattle.std.proofs.Common.{arith}
use Rattle.ts_base.specs.declared.Weights.{Weights}
use Rattle.ts_query.specs.Queries.{Operand, Joint, phrase_joint, Tree, leaf, negated, joined, Query}
use Rattle.ts_query.specs.Tokens.{QueryToken, word, closing, sign, BeginsWithMark, no_weights, unmarked, operand, bare}
use Rattle.ts_query.specs.Tokens.{over, number, offset, Lex, done, close_sign, plain, EndsOperand}
use Rattle.ts_base.specs.Plain.{IsPlain, IsPlainEnd, ended}
use Rattle.ts_base.specs.Bytes.{BeginsWithQuote}
use Rattle.ts_base.specs.Quoted.{closed, quoted_byte}
use Rattle.ts_query.specs.Grammar.{level}
use Rattle.ts_query.specs.Inner.Frames.{Frame, open_frame, not_frame, joint_frame, need, After, at_end, at_close}
use Rattle.ts_query.specs.Inner.Frames.{at_not, at_joint, On, Spot, start, due, held, IsDue, IsHeld, SpotRest, Sorted}
use Rattle.ts_query.specs.Inner.Parsing.{Shows}
use Rattle.ts_query.specs.Inner.Lexer.{Lexer, between, in_quoted, quoted_escaped, behind_quote, in_plain, plain_escaped}
use Rattle.ts_query.specs.Inner.Lexer.{in_marks, behind_less, behind_dash, in_digits, LexerRest}
use Rattle.ts_query.specs.Inner.Reader.{Reading, Stand, FitsSpot, QueryRest, IsReaderAt}
use Rattle.ts_query.specs.declared.reader.Reader.{Reader}
use Rattle.ts_query.proofs.Lexing.{end_no_mark}
use Rattle.ts_query.proofs.Climbs.{level_3, after_on, word_want, push_not, push_joint, joint_on}
use Rattle.ts_query.proofs.Stacks.{need_3, need_4, start_from}

-- ── brackets that close what is open ──
closers : List Frame → List QueryToken
closers [] = []
closers (open_frame ∷ fs) = closing ∷ closers fs
closers (not_frame ∷ fs) = closers fs
closers (joint_frame i x ∷ fs) = closers fs

brackets : List Frame → List ℕ
brackets [] = []
brackets (open_frame ∷ fs) = 41 ∷ brackets fs
brackets (not_frame ∷ fs) = brackets fs
brackets (joint_frame i x ∷ fs) = brackets fs

brackets_lex : (n : ℕ) (fs : List Frame) → Lex n (brackets fs) (closers fs)
unfolding closers brackets
brackets_lex n [] = done n
brackets_lex n (open_frame ∷ fs) = close_sign n (brackets fs) (closers fs) (brackets_lex n fs)
brackets_lex n (not_frame ∷ fs) = brackets_lex n fs
brackets_lex n (joint_frame i x ∷ fs) = brackets_lex n fs

brackets_end : (fs : List Frame) → IsPlainEnd EndsOperand (brackets fs)
unfolding brackets
brackets_end [] = tt
brackets_end (open_frame ∷ fs) = inr (inr (inr (inr (inl refl))))
brackets_end (not_frame ∷ fs) = brackets_end fs
brackets_end (joint_frame i x ∷ fs) = brackets_end fs

brackets_quote : (fs : List Frame) → ¬ BeginsWithQuote (brackets fs)
unfolding brackets
brackets_quote [] h = h
brackets_quote (open_frame ∷ fs) h = omega arith
brackets_quote (not_frame ∷ fs) h = brackets_quote fs h
brackets_quote (joint_frame i x ∷ fs) h = brackets_quote fs h

-- ── tokens that go on ──
record Completed (fs : List Frame) (y : Tree) : Type 0 where
  tree : Tree
  after : After fs y (closers fs) tree

completed : (fs : List Frame) (y : Tree) → Sorted fs → Completed fs y
unfolding closers
completed [] y s = record { tree = y; after = at_end y }
completed (open_frame ∷ fs) y s = let b = completed fs y s in
    record {
      tree = b.tree;
      after = at_close fs y b.tree (closers fs) (after_on 4 fs y b.tree (closers fs) (need_4 fs) (omega arith) b.after);
    }
completed (not_frame ∷ fs) y s = let b = completed fs (negated y) s in
    record {
      tree = b.tree;
      after = at_not fs y b.tree (closers fs)
          (after_on 3 fs (negated y) b.tree (closers fs) (need_3 fs) (omega arith) b.after);
    }
completed (joint_frame i x ∷ fs) y s = let b = completed fs (joined i x y) s.1 in
    let under : need fs ≤ level i = s.0 in
    let three = level_3 i in
    record {
      tree = b.tree;
      after = at_joint fs i x y b.tree (closers fs)
          (after_on (suc (level i)) fs (joined i x y) b.tree (closers fs) (omega arith) (omega arith) b.after);
    }

record Held (j : ℕ) (fs : List Frame) (y : Tree) (ks : List QueryToken) : Type 0 where
  tree : Tree
  on : On j fs y ks tree

held_closes : (j : ℕ) (fs : List Frame) (y : Tree) → Sorted fs → need fs ≤ j → j ≤ 4 → Held j fs y (closers fs)
held_closes j fs y s h b =
    let f = completed fs y s in record { tree = f.tree; on = after_on j fs y f.tree (closers fs) h b f.after }

below : (a b : ℕ) → (a ≤ b) ⊎ (b < a)
below a b = grind arith

-- an operator and an operand after y
held_joins : (i : Joint) (a b : ℕ) (o : Operand) (j : ℕ) (fs : List Frame) (y : Tree) → Sorted fs → need fs ≤ j → j ≤ 4
    → level i < j → Held j fs y (sign a i ∷ word b o ∷ closers fs)
unfolding closers
held_joins i a b o j [] y s h t l =
    let f = held_closes 4 (joint_frame i y ∷ []) (leaf o) (omega arith, tt) (let e = level_3 i in omega arith)
    (omega arith) in
    record {
      tree = f.tree;
      on = joint_on j [] i a y f.tree (word b o ∷ []) (omega arith) l t
          (word_want (joint_frame i y ∷ []) b o [] f.tree f.on);
    }
held_joins i a b o j (open_frame ∷ fs) y s h t l =
    let f = held_closes 4 (joint_frame i y ∷ open_frame ∷ fs) (leaf o) (omega arith, s)
    (let e = level_3 i in omega arith) (omega arith) in
    record {
      tree = f.tree;
      on = joint_on j (open_frame ∷ fs) i a y f.tree (word b o ∷ closing ∷ closers fs) (omega arith) l t
          (word_want (joint_frame i y ∷ open_frame ∷ fs) b o (closing ∷ closers fs) f.tree f.on);
    }
held_joins i a b o j (not_frame ∷ fs) y s h t l =
    let f = held_joins i a b o 3 fs (negated y) s (need_3 fs) (omega arith) (level_3 i) in
    record { tree = f.tree; on = push_not j fs y f.tree (sign a i ∷ word b o ∷ closers fs) h t f.on }
held_joins i a b o j (joint_frame k x ∷ fs) y s h t l = elim (below (suc (level k)) (level i)) [
  | inl p ↦ (let f = held_closes 4 (joint_frame i y ∷ joint_frame k x ∷ fs) (leaf o) (p, s)
      (let e = level_3 i in omega arith) (omega arith) in
      record {
        tree = f.tree;
        on = joint_on j (joint_frame k x ∷ fs) i a y f.tree (word b o ∷ closers fs) p l t
            (word_want (joint_frame i y ∷ joint_frame k x ∷ fs) b o (closers fs) f.tree f.on);
      })
  | inr p ↦ (let under : need fs ≤ level k = s.0 in
      let three = level_3 k in
      let f = held_joins i a b o (suc (level k)) fs (joined k x y) s.1 (omega arith) (omega arith) (omega arith) in
      record { tree = f.tree; on = push_joint j fs k x y f.tree (sign a i ∷ word b o ∷ closers fs) h t f.on })
]

-- the frames of a spot
frames : Spot → List Frame
frames start = []
frames (due fs) = fs
frames (held fs y) = fs

record Follows (p : Spot) (ks : List QueryToken) : Type 0 where
  query : Query
  rest : SpotRest p ks query

-- an operand, where one is due
word_follows : (r : Reader) (p : Spot) (a : ℕ) (o : Operand) → Shows r.parser p → IsDue p
    → Follows p (word a o ∷ closers (frames p))
unfolding frames closers
word_follows r start a o s d =
    let f = held_closes 4 [] (leaf o) tt (omega arith) (omega arith) in
    record { query = Some f.tree; rest = start_from (word a o) [] (Some f.tree) (word_want [] a o [] f.tree f.on) }
word_follows r (due fs) a o s d =
    let f = held_closes 4 fs (leaf o) s.sorted (need_4 fs) (omega arith) in
    record { query = Some f.tree; rest = word_want fs a o (closers fs) f.tree f.on }
word_follows r (held fs y) a o s d = absurd d

-- nothing but brackets, where an operand is
held_follows : (r : Reader) (p : Spot) → Shows r.parser p → IsHeld p → Follows p (closers (frames p))
unfolding frames
held_follows r start s d = absurd d
held_follows r (due fs) s d = absurd d
held_follows r (held fs y) s d =
    let f = held_closes 4 fs y s.sorted s.above (omega arith) in record { query = Some f.tree; rest = f.on }

joint_follows : (r : Reader) (p : Spot) (i : Joint) (a b : ℕ) (o : Operand) → Shows r.parser p → IsHeld p
    → Follows p (sign a i ∷ word b o ∷ closers (frames p))
unfolding frames
joint_follows r start i a b o s d = absurd d
joint_follows r (due fs) i a b o s d = absurd d
joint_follows r (held fs y) i a b o s d = let e = level_3 i in let f = held_joins i a b o 4 fs y s.sorted s.above
    (omega arith) (omega arith) in record { query = Some f.tree; rest = f.on }

-- ── bytes that go on ──
plain_97 : IsPlain EndsOperand 97
plain_97 = record { no_end = λ h. grind arith; no_escape = λ e. omega arith }

-- the operand `a`
an_operand : Operand
an_operand = operand (97 ∷ []) no_weights false

word_lex : (n : ℕ) (fs : List Frame)
    → Lex n (97 ∷ brackets fs) (word (offset n (97 ∷ brackets fs)) an_operand ∷ closers fs)
unfolding an_operand
word_lex n fs =
    plain n 97 (brackets fs) (97 ∷ []) (brackets fs) (brackets fs) (operand (97 ∷ []) no_weights false)
    (closers fs) plain_97 (λ e. omega arith)
    (ended (97 ∷ []) (brackets fs) (brackets_end fs)) (bare (97 ∷ []) (brackets fs)) (brackets_lex n fs)

no_mark_41 : (u : List ℕ) → IsPlainEnd EndsOperand u → ¬ BeginsWithMark u
no_mark_41 [] h m = m
no_mark_41 (c ∷ u) h m = end_no_mark c h m

not_empty : (a : List ℕ) (c : ℕ) → (a ++ c ∷ []) ≢ []
not_empty [] c e = cc
not_empty (x ∷ a) c e = cc

pub record Completion (s : Stand) : Type 0 where
  pub bytes : List ℕ
  pub value : ℕ → Reading
  pub rest : (n : ℕ) → QueryRest s n bytes (value n)

-- the tokens that the bytes add
record Adds (n : ℕ) (lx : Lexer) (p : Spot) (u : List ℕ) : Type 0 where
  tokens : List QueryToken
  left : LexerRest n lx u tokens
  follows : Follows p tokens

adds : (s : Stand) (u : List ℕ) → ((n : ℕ) → Adds n s.lexer s.spot u) → Completion s
adds s u f = record {
  bytes = u;
  value = λ n. (s.tokens ++ (f n).tokens, (f n).follows.query);
  rest = λ n. record { tokens = (f n).tokens; left = (f n).left; all = refl; rest = (f n).follows.rest };
}

-- an operand is over, and brackets follow
word_adds : (r : Reader) (n a : ℕ) (o : Operand) (lx : Lexer) (p : Spot) (u : List ℕ) → Shows r.parser p → IsDue p
    → LexerRest n lx u (word a o ∷ closers (frames p)) → Adds n lx p u
word_adds r n a o lx p u s d l =
    record { tokens = word a o ∷ closers (frames p); left = l; follows = word_follows r p a o s d }

module _ (r : Reader) (n : ℕ) (p : Spot) (s : Shows r.parser p) where
  module _ (a : ℕ) (l : List ℕ) (d : IsDue p) where
    quoted_adds : Adds n (in_quoted a l) p (97 ∷ 39 ∷ brackets (frames p))
    quoted_adds = word_adds r n a (operand (l ++ 97 ∷ []) no_weights false) (in_quoted a l) p
        (97 ∷ 39 ∷ brackets (frames p)) s d (
          l ++ 97 ∷ [],
          brackets (frames p),
          quoted_byte 97 l (39 ∷ brackets (frames p)) (l ++ 97 ∷ []) (brackets (frames p)) (λ e. omega arith)
              (λ e. omega arith) (closed (l ++ 97 ∷ []) (brackets (frames p)) (brackets_quote (frames p))),
          not_empty l 97,
          (
            operand (l ++ 97 ∷ []) no_weights false,
            brackets (frames p),
            bare (l ++ 97 ∷ []) (brackets (frames p)),
            (closers (frames p), refl, brackets_lex n (frames p)),
          ),
        )

    quoted_escaped_adds : Adds n (quoted_escaped a l) p (97 ∷ 39 ∷ brackets (frames p))
    quoted_escaped_adds = word_adds r n a (operand (l ++ 97 ∷ []) no_weights false) (quoted_escaped a l) p
        (97 ∷ 39 ∷ brackets (frames p)) s d (
          l ++ 97 ∷ [],
          brackets (frames p),
          closed (l ++ 97 ∷ []) (brackets (frames p)) (brackets_quote (frames p)),
          not_empty l 97,
          (
            operand (l ++ 97 ∷ []) no_weights false,
            brackets (frames p),
            bare (l ++ 97 ∷ []) (brackets (frames p)),
            (closers (frames p), refl, brackets_lex n (frames p)),
          ),
        )

    quote_adds : Adds n (behind_quote a l) p (39 ∷ 39 ∷ brackets (frames p))
    quote_adds = word_adds r n a (operand (l ++ 39 ∷ []) no_weights false) (behind_quote a l) p
        (39 ∷ 39 ∷ brackets (frames p)) s d
        (inl (
          refl,
          (
            l ++ 39 ∷ [],
            brackets (frames p),
            closed (l ++ 39 ∷ []) (brackets (frames p)) (brackets_quote (frames p)),
            not_empty l 39,
            (
              operand (l ++ 39 ∷ []) no_weights false,
              brackets (frames p),
              bare (l ++ 39 ∷ []) (brackets (frames p)),
              (closers (frames p), refl, brackets_lex n (frames p)),
            ),
          ),
        ))

    plain_adds : Adds n (in_plain a l) p (brackets (frames p))
    plain_adds = word_adds r n a (operand l no_weights false) (in_plain a l) p (brackets (frames p)) s d (
      l,
      brackets (frames p),
      ended l (brackets (frames p)) (brackets_end (frames p)),
      (
        operand l no_weights false,
        brackets (frames p),
        bare l (brackets (frames p)),
        (closers (frames p), refl, brackets_lex n (frames p)),
      ),
    )

    plain_escaped_adds : Adds n (plain_escaped a l) p (97 ∷ brackets (frames p))
    plain_escaped_adds =
        word_adds r n a (operand (l ++ 97 ∷ []) no_weights false) (plain_escaped a l) p (97 ∷ brackets (frames p)) s d (
          l ++ 97 ∷ [],
          brackets (frames p),
          ended (l ++ 97 ∷ []) (brackets (frames p)) (brackets_end (frames p)),
          (
            operand (l ++ 97 ∷ []) no_weights false,
            brackets (frames p),
            bare (l ++ 97 ∷ []) (brackets (frames p)),
            (closers (frames p), refl, brackets_lex n (frames p)),
          ),
        )

    marks_adds : (w : Weights) (m : Bool) → Adds n (in_marks a l w m) p (brackets (frames p))
    marks_adds w m = word_adds r n a (operand l w m) (in_marks a l w m) p (brackets (frames p)) s d (
      w,
      m,
      brackets (frames p),
      unmarked w m (brackets (frames p)) (no_mark_41 (brackets (frames p)) (brackets_end (frames p))),
      (closers (frames p), refl, brackets_lex n (frames p)),
    )

  module _ (a : ℕ) (h : IsHeld p) where
    sign_adds : (lx : Lexer) (d : ℕ) (u : List ℕ)
        → (Lex n (97 ∷ brackets (frames p)) (word (offset n (97 ∷ brackets (frames p))) an_operand ∷ closers (frames p))
        → LexerRest n lx u (sign a (phrase_joint d) ∷ word (offset n (97 ∷ brackets (frames p))) an_operand
        ∷ closers (frames p))) → Adds n lx p u
    sign_adds lx d u f = record {
      tokens = sign a (phrase_joint d) ∷ word (offset n (97 ∷ brackets (frames p))) an_operand ∷ closers (frames p);
      left = f (word_lex n (frames p));
      follows = joint_follows r p (phrase_joint d) a (offset n (97 ∷ brackets (frames p))) an_operand s h;
    }

    less_adds : Adds n (behind_less a) p (49 ∷ 62 ∷ 97 ∷ brackets (frames p))
    less_adds = sign_adds (behind_less a) 1 (49 ∷ 62 ∷ 97 ∷ brackets (frames p))
        (λ w. (
          1,
          97 ∷ brackets (frames p),
          number 49 1 (62 ∷ 97 ∷ brackets (frames p)) (97 ∷ brackets (frames p)) (omega arith)
              (over 1 (97 ∷ brackets (frames p))),
          (_, refl, w),
        ))

    dash_adds : Adds n (behind_dash a) p (62 ∷ 97 ∷ brackets (frames p))
    dash_adds = sign_adds (behind_dash a) 1 (62 ∷ 97 ∷ brackets (frames p)) (λ w. (refl, (_, refl, w)))

    digits_adds : (m : ℕ) → Adds n (in_digits a m) p (62 ∷ 97 ∷ brackets (frames p))
    digits_adds m = sign_adds (in_digits a m) m (62 ∷ 97 ∷ brackets (frames p))
        (λ w. (m, 97 ∷ brackets (frames p), over m (97 ∷ brackets (frames p)), (_, refl, w)))

-- between tokens
between_bytes : Spot → List ℕ
between_bytes start = []
between_bytes (due fs) = 97 ∷ brackets fs
between_bytes (held fs y) = brackets fs

between_adds : (r : Reader) (n : ℕ) (p : Spot) → Shows r.parser p → Adds n between p (between_bytes p)
unfolding between_bytes frames
between_adds r n start s = record { tokens = []; left = done n; follows = record { query = None; rest = refl } }
between_adds r n (due fs) s =
    word_adds r n (offset n (97 ∷ brackets fs)) an_operand between (due fs) (97 ∷ brackets fs) s tt (word_lex n fs)
between_adds r n (held fs y) s =
    record { tokens = closers fs; left = brackets_lex n fs; follows = held_follows r (held fs y) s tt }

bytes_of : Lexer → Spot → List ℕ
bytes_of between p = between_bytes p
bytes_of (in_quoted a l) p = 97 ∷ 39 ∷ brackets (frames p)
bytes_of (quoted_escaped a l) p = 97 ∷ 39 ∷ brackets (frames p)
bytes_of (behind_quote a l) p = 39 ∷ 39 ∷ brackets (frames p)
bytes_of (in_plain a l) p = brackets (frames p)
bytes_of (plain_escaped a l) p = 97 ∷ brackets (frames p)
bytes_of (in_marks a l w m) p = brackets (frames p)
bytes_of (behind_less a) p = 49 ∷ 62 ∷ 97 ∷ brackets (frames p)
bytes_of (behind_dash a) p = 62 ∷ 97 ∷ brackets (frames p)
bytes_of (in_digits a m) p = 62 ∷ 97 ∷ brackets (frames p)

lexer_adds : (r : Reader) (n : ℕ) (lx : Lexer) (p : Spot) → Shows r.parser p → FitsSpot lx p
    → Adds n lx p (bytes_of lx p)
unfolding bytes_of
lexer_adds r n between p s f = between_adds r n p s
lexer_adds r n (in_quoted a l) p s f = quoted_adds r n p s a l f
lexer_adds r n (quoted_escaped a l) p s f = quoted_escaped_adds r n p s a l f
lexer_adds r n (behind_quote a l) p s f = quote_adds r n p s a l f
lexer_adds r n (in_plain a l) p s f = plain_adds r n p s a l f
lexer_adds r n (plain_escaped a l) p s f = plain_escaped_adds r n p s a l f
lexer_adds r n (in_marks a l w m) p s f = marks_adds r n p s a l f w m
lexer_adds r n (behind_less a) p s f = less_adds r n p s a f
lexer_adds r n (behind_dash a) p s f = dash_adds r n p s a f
lexer_adds r n (in_digits a m) p s f = digits_adds r n p s a f m

pub completes : (r : Reader) (s : Stand) → IsReaderAt r s → Completion s
completes r s h = adds s (bytes_of s.lexer s.spot) (λ n. lexer_adds r n s.lexer s.spot h.tracks.shows h.fits)
