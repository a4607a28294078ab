-- A text has at most one answer.
use Rattle.std.proofs.Common.{◌≡◌, ◌≢◌, ℕ, suc, ◌+◌, List, [], ◌∷◌, ◌++◌, take, refl, sym, subst, ap, ◌∙◌, Option, Some}
use Rattle.std.proofs.Common.{None, Ok, Err, Bool, true, false, cond, All, arith}
use Rattle.std.proofs.lemmas.Bool.Decides.{nat_tests}
use Rattle.ts_base.specs.Fault.{FaultAt, Stands}
use Rattle.ts_base.proofs.Faults.{fault_outside, fault_one}
use Rattle.ts_query.specs.Queries.{Operand, Joint, or_joint, and_joint, phrase_joint, Tree, joined, Query, operands_in}
use Rattle.ts_query.specs.Queries.{nodes_of, IsNear, HasNear, HasLexeme, IsSound}
use Rattle.ts_query.specs.Tokens.{QueryToken, closing, sign}
use Rattle.ts_query.specs.Grammar.{level, Expr, one, bracket, primary, denied, binary, Tail, last, more, Spells}
use Rattle.ts_query.specs.Grammar.{ReadsQuery, IsQueryText}
use Rattle.ts_query.specs.Limits.{is_far, is_long, first_far, first_long}
use Rattle.ts_query.specs.Refusals.{IsReadAs, IsTooFar, IsTooLong, IsTooMany, IsRefused, OneAnswer}
use Rattle.ts_query.specs.Inner.Reader.{Reading, ReadsPair}
use Rattle.ts_query.specs.declared.error.QueryError.{QueryError}
use Rattle.ts_query.specs.declared.error.QueryError.TheVariants.{Syntax, DistanceTooLarge, TooManyNodes, LexemeTooLong}
use Rattle.ts_query.specs.declared.error.QueryError.TheVariants.{OutOfMemory}
use Rattle.ts_query.proofs.Printing.{all_left, all_right}
use Rattle.ts_query.proofs.Unique.{reads_tokens, reads_one}

-- ── the tokens of a query within the limits ──
near_far : (j : Joint) → IsNear j → is_far j ≡ false
near_far or_joint h = refl
near_far and_joint h = refl
near_far (phrase_joint d) h = grind (arith, nat_tests)

length_long : (o : Operand) → HasLexeme o → is_long o ≡ false
length_long o h = let m = h.most in grind (arith, nat_tests)

skip : (b : Bool) (s : ℕ) (o : Option ℕ) → b ≡ false → o ≡ None → cond b (Some s) o ≡ None
skip true s o e f = absurd (let no : ⊥ = cc in no)
skip false s o e f = f

record BehindLexeme (x : Tree) (u : List QueryToken) : Type 0 where
  lexemes : All HasLexeme (operands_in x)
  phrases : HasNear x
  near : first_far u ≡ None
  short : first_long u ≡ None

record Clear (u : List QueryToken) : Type 0 where
  near : first_far u ≡ None
  short : first_long u ≡ None

sign_clear : (s : ℕ) (j : Joint) (u : List QueryToken) → IsNear j → Clear u → Clear (sign s j ∷ u)
sign_clear s j u n c = record { near = skip (is_far j) s (first_far u) (near_far j n) c.near; short = c.short }

mutual
  expr_clear : (k : ℕ) (t : Tree) (u r : List QueryToken) → Expr k t u r → All HasLexeme (operands_in t) → HasNear t
      → Clear r → Clear u
  expr_clear k t u r (one s o _) a h c =
      record { near = c.near; short = skip (is_long o) s (first_long r) (length_long o (a 0 o (omega arith))) c.short }
  expr_clear k t u r (bracket _ v _ e) a h c = let d = expr_clear 0 t v (closing ∷ r) e a h
      (record { near = c.near; short = c.short }) in record { near = d.near; short = d.short }
  expr_clear k t u r (primary _ _ _ e) a h c = expr_clear 4 t u r e a h c
  expr_clear k t u r (denied x v _ e) a h c =
      let d = expr_clear 3 x v r e a h c in record { near = d.near; short = d.short }
  expr_clear k t u r (binary _ x _ _ m _ p e s) a h c =
      let b = tail_clear k x m t r s a h c in
      expr_clear (suc k) x u m e b.lexemes b.phrases (record { near = b.near; short = b.short })

  tail_clear : (k : ℕ) (x : Tree) (u : List QueryToken) (t : Tree) (r : List QueryToken) → Tail k x u t r
      → All HasLexeme (operands_in t) → HasNear t → Clear r → BehindLexeme x u
  tail_clear k x u t r (last _ _ _) a h c = record { lexemes = a; phrases = h; near = c.near; short = c.short }
  tail_clear k x u t r (more s j _ y _ v m _ e q) a h c =
      let b = tail_clear (level j) (joined j x y) m t r q a h c in
      let d = expr_clear (suc (level j)) y v m e (all_right (operands_in x) (operands_in y) b.lexemes) b.phrases.2
      (record { near = b.near; short = b.short }) in
      let f = sign_clear s j v b.phrases.0 d in
      record {
        lexemes = all_left (operands_in x) (operands_in y) b.lexemes;
        phrases = b.phrases.1;
        near = f.near;
        short = f.short;
      }

none_clear : Clear []
none_clear = record { near = refl; short = refl }

spells_clear : (ks : List QueryToken) (q : Query) → Spells ks q → IsSound q → Clear ks
spells_clear ks None e s = subst Clear (sym e) none_clear
spells_clear ks (Some t) e s = expr_clear 0 t ks [] e s.lexemes s.phrases none_clear

-- ── faults ──
module _ (G H : List ℕ → Type 0) (to : (t : List ℕ) → G t → H t) (from : (t : List ℕ) → H t → G t) where
  pub fault_same : (text : List ℕ) (at : ℕ) → FaultAt G text at → FaultAt H text at
  fault_same text at f = record {
    within = f.within;
    before = (f.before.0, to (take at text ++ f.before.0) f.before.1);
    after = λ lt v. f.after lt (v.0, from (take (at + 1) text ++ v.0) v.1);
    ending = λ e h. f.ending e (from text h);
  }

stands_to : (t : List ℕ) → Stands Reading ReadsPair t → Stands Query IsQueryText t
stands_to t v = (v.0.1, (v.0.0, v.1))

stands_from : (t : List ℕ) → Stands Query IsQueryText t → Stands Reading ReadsPair t
stands_from t v = ((v.1.0, v.0), v.1.1)

pub query_fault : (text : List ℕ) (at : ℕ) → FaultAt (Stands Reading ReadsPair) text at
    → FaultAt (Stands Query IsQueryText) text at
query_fault text at f = fault_same (Stands Reading ReadsPair) (Stands Query IsQueryText) stands_to stands_from text at f

-- ── one answer ──
no_fault : (text : List ℕ) (at : ℕ) (ks : List QueryToken) (q : Query) → FaultAt (Stands Query IsQueryText) text at
    → ¬ ReadsQuery text ks q
no_fault text at ks q f r = fault_outside (Stands Query IsQueryText) text at f (q, (ks, r))

some_none : (o : Option ℕ) (s : ℕ) → o ≡ Some s → ¬ (o ≡ None)
some_none o s e f = let no : ⊥ = cc in no

some_one : (o : Option ℕ) (s t : ℕ) → o ≡ Some s → o ≡ Some t → s ≡ t
some_one o s t e f = cc

module _ (text : List ℕ) where
  -- of two readings, both have one list of tokens
  far_same : (ks ls : List QueryToken) (p q : Query) → ReadsQuery text ks p → ReadsQuery text ls q
      → first_far ks ≡ first_far ls
  far_same ks ls p q a b = ap first_far (reads_tokens text ks ls p q a b)

  long_same : (ks ls : List QueryToken) (p q : Query) → ReadsQuery text ks p → ReadsQuery text ls q
      → first_long ks ≡ first_long ls
  long_same ks ls p q a b = ap first_long (reads_tokens text ks ls p q a b)

  read_near : (q : Query) (h : IsReadAs text q) → first_far h.value.0 ≡ None
  read_near q h = (spells_clear h.value.0 q h.value.1.spells h.sound).near

  read_short : (q : Query) (h : IsReadAs text q) → first_long h.value.0 ≡ None
  read_short q h = (spells_clear h.value.0 q h.value.1.spells h.sound).short

  read_fault : (q : Query) (at : ℕ) → IsReadAs text q → ¬ FaultAt (Stands Query IsQueryText) text at
  read_fault q at h f = no_fault text at h.value.0 q f h.value.1

  read_far : (q : Query) (at : ℕ) → IsReadAs text q → ¬ IsTooFar text at
  read_far q at h f =
      some_none (first_far f.tokens) at f.far (far_same f.tokens h.value.0 f.query q f.reads h.value.1 ∙ read_near q h)

  read_long : (q : Query) (at : ℕ) → IsReadAs text q → ¬ IsTooLong text at
  read_long q at h f = some_none (first_long f.tokens) at f.long
      (long_same f.tokens h.value.0 f.query q f.reads h.value.1 ∙ read_short q h)

  read_many : (q : Query) → IsReadAs text q → ¬ IsTooMany text
  read_many q h f = let e = ap nodes_of (reads_one text f.tokens h.value.0 f.query q f.reads h.value.1) in
      let n = h.sound.nodes in let m = f.many in let no : ⊥ = omega arith in no

  far_long : (a b : ℕ) → IsTooFar text a → ¬ IsTooLong text b
  far_long a b f g =
      some_none (first_far f.tokens) a f.far (far_same f.tokens g.tokens f.query g.query f.reads g.reads ∙ g.near)

  far_many : (a : ℕ) → IsTooFar text a → ¬ IsTooMany text
  far_many a f g =
      some_none (first_far f.tokens) a f.far (far_same f.tokens g.tokens f.query g.query f.reads g.reads ∙ g.near)

  long_many : (a : ℕ) → IsTooLong text a → ¬ IsTooMany text
  long_many a f g =
      some_none (first_long f.tokens) a f.long (long_same f.tokens g.tokens f.query g.query f.reads g.reads ∙ g.short)

  far_one : (a b : ℕ) → IsTooFar text a → IsTooFar text b → a ≡ b
  far_one a b f g =
      some_one (first_far f.tokens) a b f.far (far_same f.tokens g.tokens f.query g.query f.reads g.reads ∙ g.far)

  long_one : (a b : ℕ) → IsTooLong text a → IsTooLong text b → a ≡ b
  long_one a b f g =
      some_one (first_long f.tokens) a b f.long (long_same f.tokens g.tokens f.query g.query f.reads g.reads ∙ g.long)

  read_one : (p q : Query) → IsReadAs text p → IsReadAs text q → p ≡ q
  read_one p q h k = reads_one text h.value.0 k.value.0 p q h.value.1 k.value.1

  refused_one : (a b : QueryError) → a ≢ OutOfMemory → b ≢ OutOfMemory → IsRefused text a → IsRefused text b → a ≡ b
  refused_one OutOfMemory b n m f g = absurd (n refl)
  refused_one (Syntax a) OutOfMemory n m f g = absurd (m refl)
  refused_one (Syntax a) (Syntax b) n m f g = ap Syntax (fault_one (Stands Query IsQueryText) text a b f g)
  refused_one (Syntax a) (DistanceTooLarge b) n m f g = absurd (no_fault text a g.tokens g.query f g.reads)
  refused_one (Syntax a) (LexemeTooLong b) n m f g = absurd (no_fault text a g.tokens g.query f g.reads)
  refused_one (Syntax a) TooManyNodes n m f g = absurd (no_fault text a g.tokens g.query f g.reads)
  refused_one (DistanceTooLarge a) OutOfMemory n m f g = absurd (m refl)
  refused_one (DistanceTooLarge a) (Syntax b) n m f g = absurd (no_fault text b f.tokens f.query g f.reads)
  refused_one (DistanceTooLarge a) (DistanceTooLarge b) n m f g = ap DistanceTooLarge (far_one a b f g)
  refused_one (DistanceTooLarge a) (LexemeTooLong b) n m f g = absurd (far_long a b f g)
  refused_one (DistanceTooLarge a) TooManyNodes n m f g = absurd (far_many a f g)
  refused_one (LexemeTooLong a) OutOfMemory n m f g = absurd (m refl)
  refused_one (LexemeTooLong a) (Syntax b) n m f g = absurd (no_fault text b f.tokens f.query g f.reads)
  refused_one (LexemeTooLong a) (DistanceTooLarge b) n m f g = absurd (far_long b a g f)
  refused_one (LexemeTooLong a) (LexemeTooLong b) n m f g = ap LexemeTooLong (long_one a b f g)
  refused_one (LexemeTooLong a) TooManyNodes n m f g = absurd (long_many a f g)
  refused_one TooManyNodes OutOfMemory n m f g = absurd (m refl)
  refused_one TooManyNodes (Syntax b) n m f g = absurd (no_fault text b f.tokens f.query g f.reads)
  refused_one TooManyNodes (DistanceTooLarge b) n m f g = absurd (far_many b g f)
  refused_one TooManyNodes (LexemeTooLong b) n m f g = absurd (long_many b g f)
  refused_one TooManyNodes TooManyNodes n m f g = refl

  read_refused : (q : Query) (e : QueryError) → e ≢ OutOfMemory → IsReadAs text q → ¬ IsRefused text e
  read_refused q OutOfMemory n h f = n refl
  read_refused q (Syntax a) n h f = read_fault q a h f
  read_refused q (DistanceTooLarge a) n h f = read_far q a h f
  read_refused q (LexemeTooLong a) n h f = read_long q a h f
  read_refused q TooManyNodes n h f = read_many q h f

pub one_answer : OneAnswer
one_answer text (Ok p) (Ok q) n m h k = ap Ok (read_one text p q h k)
one_answer text (Ok p) (Err e) n m h k = absurd (read_refused text p e (λ x. m (ap Err x)) h k)
one_answer text (Err e) (Ok q) n m h k = absurd (read_refused text q e (λ x. n (ap Err x)) k h)
one_answer text (Err e) (Err d) n m h k = ap Err (refused_one text e d (λ x. n (ap Err x)) (λ x. m (ap Err x)) h k)
