-- The grammar of a query's text: `|`, `&` and phrases from the loosest on, each grouped to the left, then `!`, and
-- brackets.
use Rattle.std.specs.Prelude.{◌≡◌, ℕ, suc, ◌<◌, List, [], ◌∷◌, Some, None, length}
use Rattle.ts_query.specs.Queries.{Operand, Joint, or_joint, and_joint, phrase_joint, Tree, leaf, negated, joined}
use Rattle.ts_query.specs.Queries.{Query}
use Rattle.ts_query.specs.Tokens.{QueryToken, word, bang, opening, closing, sign, Lex}

-- the level of an operator; that of `!` is 3, and that of an operand or a bracket 4
abbrev pub level : Joint → ℕ
level or_joint = 0
level and_joint = 1
level (phrase_joint n) = 2

mutual
  -- the tokens u begin with an expression of the level k, whose tree is t, and r follows it
  pub data Expr : ℕ → Tree → List QueryToken → List QueryToken → Type 0 where
    one : (s : ℕ) (o : Operand) (r : List QueryToken) → Expr 4 (leaf o) (word s o ∷ r) r
    bracket : (t : Tree) (u r : List QueryToken) → Expr 0 t u (closing ∷ r)
        → Expr 4 t (opening ∷ u) r
    primary : (t : Tree) (u r : List QueryToken) → Expr 4 t u r → Expr 3 t u r
    denied : (t : Tree) (u r : List QueryToken) → Expr 3 t u r → Expr 3 (negated t) (bang ∷ u) r
    binary : (k : ℕ) (x t : Tree) (u m r : List QueryToken) → k < 3 → Expr (suc k) x u m
        → Tail k x m t r → Expr k t u r

  -- after x, of the level k, the tokens go on so that the whole is t
  pub data Tail : ℕ → Tree → List QueryToken → Tree → List QueryToken → Type 0 where
    last : (k : ℕ) (x : Tree) (r : List QueryToken) → Tail k x r x r
    more : (s : ℕ) (j : Joint) (x y t : Tree) (u m r : List QueryToken)
        → Expr (suc (level j)) y u m → Tail (level j) (joined j x y) m t r
        → Tail (level j) x (sign s j ∷ u) t r

-- no tokens are the empty query
abbrev pub Spells : List QueryToken → Query → Type 0
Spells ks None = ks ≡ []
Spells ks (Some t) = Expr 0 t ks []

-- the text has these tokens, and stands for the query
pub record ReadsQuery (text : List ℕ) (tokens : List QueryToken) (query : Query) : Type 0 where
  pub has : Lex (length text) text tokens
  pub spells : Spells tokens query

-- the text is in the grammar, and the query is its value
abbrev pub IsQueryText : List ℕ → Query → Type 0
IsQueryText text query = (tokens : List QueryToken) × ReadsQuery text tokens query
