-- What a query means: which vectors it holds of.
use Rattle.std.specs.Prelude.{◌≡◌, ◌⊎◌, ℕ, ◌+◌, ◌==◌, max, nat_eq, nat_lt, ℤ, pos, negsuc, ◌+ℤ◌, ◌-ℤ◌, Bool, false, not}
use Rattle.std.specs.Prelude.{◌&&◌, ◌||◌, if◌then◌else◌, IsTrue, List, length, map, filter, None, Some}
use Rattle.std.specs.List.{list_any, list_all, flat_map, starts_with}
use Rattle.std.specs.Cmp.Lexicographic.{pointwise}
use Rattle.ts_base.specs.declared.Weight.{Weight}
use Rattle.ts_base.specs.declared.Weight.TheVariants.{A, B, C, D}
use Rattle.ts_base.specs.declared.Weights.{Weights}
use Rattle.ts_base.specs.Vectors.{Vector}
use Rattle.ts_query.specs.declared.query.Operand.{Operand}
use Rattle.ts_query.specs.Queries.{Tree, leaf, negated, joined, or_joint, and_joint, phrase_joint, Query}

-- the lexeme is the operand's, or begins with it where the operand is a prefix
abbrev pub names : Operand → List ℕ → Bool
names o lexeme = if o.prefix then starts_with nat_eq lexeme o.lexeme else pointwise nat_eq lexeme o.lexeme

abbrev pub asks_any : Weights → Bool
asks_any w = not (w.a || w.b || w.c || w.d)

abbrev pub asks_for : Weights → Weight → Bool
asks_for w A = w.a
asks_for w B = w.b
asks_for w C = w.c
asks_for w D = w.d

abbrev pub fits : Weights → Weight → Bool
fits w weight = asks_any w || asks_for w weight

-- it names a lexeme of the vector, and one of that lexeme's positions has a weight that it asks for, if it asks for
-- some
abbrev pub is_met : Operand → Vector → Bool
is_met o v = list_any
    (λ e. names o e.lexeme && (asks_any o.weights || list_any (λ p. asks_for o.weights p.weight) e.positions)) v

-- the positions of the lexemes that it names, those of a fitting weight
abbrev pub places : Operand → Vector → List ℕ
places o v = map (λ p. p.at)
    (filter (λ p. fits o.weights p.weight) (flat_map (λ e. e.positions) (filter (λ e. names o e.lexeme) v)))

-- a whole number is one of the places
abbrev pub is_place : List ℕ → ℤ → Bool
is_place ps (pos n) = list_any (λ p. p == n) ps
is_place ps (negsuc n) = false

-- how far a phrase reaches back from its place
abbrev pub width : Tree → ℕ
width (leaf o) = 0
width (negated x) = width x
width (joined or_joint x y) = max (width x) (width y)
width (joined and_joint x y) = max (width x) (width y)
width (joined (phrase_joint n) x y) = width x + width y + n

-- within a phrase: it holds at the place i
abbrev pub at : Vector → Tree → ℤ → Bool
at v (leaf o) i = is_place (places o v) i
at v (negated x) i = not (at v x i)
at v (joined or_joint x y) i =
    at v x ((i -ℤ pos (max (width x) (width y))) +ℤ pos (width x))
    || at v y ((i -ℤ pos (max (width x) (width y))) +ℤ pos (width y))
at v (joined and_joint x y) i =
    at v x ((i -ℤ pos (max (width x) (width y))) +ℤ pos (width x))
    && at v y ((i -ℤ pos (max (width x) (width y))) +ℤ pos (width y))
at v (joined (phrase_joint n) x y) i = at v x ((i -ℤ pos n) -ℤ pos (width y)) && at v y i

-- at some whole number, which may be below 0
abbrev pub HoldsSomewhere : Vector → Tree → Type 0
HoldsSomewhere v t = (i : ℤ) × IsTrue (at v t i)

-- it has a lexeme, and none has a position
abbrev pub is_stripped : Vector → Bool
is_stripped v = nat_lt 0 (length v) && list_all (λ e. length e.positions == 0) v

abbrev pub HoldsOf : Tree → Vector → Type 0
HoldsOf (leaf o) v = IsTrue (is_met o v)
HoldsOf (negated x) v = ¬ HoldsOf x v
HoldsOf (joined or_joint x y) v = HoldsOf x v ⊎ HoldsOf y v
HoldsOf (joined and_joint x y) v = HoldsOf x v × HoldsOf y v
HoldsOf (joined (phrase_joint n) x y) v = (is_stripped v ≡ false) × HoldsSomewhere v (joined (phrase_joint n) x y)

-- the vector satisfies the query; none satisfies the empty query
abbrev pub Holds : Query → Vector → Type 0
Holds None v = ⊥
Holds (Some t) v = HoldsOf t v
