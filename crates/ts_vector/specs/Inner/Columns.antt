-- Entries in memory: the bytes of all lexemes, all positions, and where each entry ends in both.
use Rattle.std.specs.Prelude.{◌≡◌, ℕ, zero, suc, ◌-◌, ◌≤◌, List, [], ◌∷◌, length, map, take, drop, get_or}
use Rattle.ts_base.specs.Vectors.{Position, Entry}
use Rattle.ts_vector.specs.declared.columns.Ends.{Ends}

-- from the place a up to the place b
abbrev pub piece : {X : Type 0} → ℕ → ℕ → List X → List X
piece a b xs = take (b - a) (drop a xs)

abbrev pub piece_entry : Ends → Ends → List ℕ → List Position → Entry
piece_entry s e ls ps =
    record { lexeme = piece s.lexeme e.lexeme ls; positions = piece s.positions e.positions ps }

-- the entries that start at these places
abbrev pub entries_from : Ends → List Ends → List ℕ → List Position → List Entry
entries_from s [] ls ps = []
entries_from s (e ∷ es) ls ps = piece_entry s e ls ps ∷ entries_from e es ls ps

abbrev pub origin : Ends
origin = record { lexeme = 0; positions = 0 }

abbrev pub column_entries : List ℕ → List Position → List Ends → List Entry
column_entries ls ps es = entries_from origin es ls ps

-- where an entry starts: where the one before it ends
abbrev pub start_from : Ends → List Ends → ℕ → Ends → Ends
start_from s es zero d = s
start_from s es (suc k) d = get_or es k d

-- the ends rise from the start, and the last are n and m
abbrev pub AreEnds : Ends → List Ends → ℕ → ℕ → Type 0
AreEnds s [] n m = (s.lexeme ≡ n) × (s.positions ≡ m)
AreEnds s (e ∷ es) n m = (s.lexeme ≤ e.lexeme) × (s.positions ≤ e.positions) × AreEnds e es n m

-- the ends are those of entries that fill both columns
abbrev pub AreColumns : List ℕ → List Position → List Ends → Type 0
AreColumns ls ps es = AreEnds origin es (length ls) (length ps)

abbrev pub entry : List ℕ → List Position → Entry
entry l ps = record { lexeme = l; positions = ps }

-- the entry at the index k, and those at some indexes; after the last one there are empty ones
abbrev pub entry_at : List Entry → ℕ → Entry
entry_at es k = get_or es k (entry [] [])

abbrev pub entries_at : List Entry → List ℕ → List Entry
entries_at es order = map (entry_at es) order
