-- What a cleanup has read of the pending list and not moved yet: rows of the first pages, from each as
-- many as it noted.
use Rattle.std.specs.Prelude.{◌≡◌, ◌≢◌, ◌⊎◌, ℕ, zero, suc, ◌≤◌, List, [], ◌∷◌, ◌++◌, length, take, drop, ⊤}
use Rattle.ts_base.specs.Keys.{Key}
use Rattle.page_types.specs.Views.{rows_of}
use Rattle.page_types.specs.declared.page.Row.{Row}
use Rattle.core_state.specs.Log.{Pages, In}
use Rattle.core_state.specs.Index.{Line, Main, rows_on}

-- the first rows on each of these pages, as many as are noted
abbrev pub noted_rows : Pages → List ℕ → List ℕ → List Row
noted_rows P [] qs = []
noted_rows P (n ∷ ns) [] = []
noted_rows P (n ∷ ns) (q ∷ qs) = take n (rows_of (P q)) ++ noted_rows P ns qs

-- the other rows on the pages that were read
abbrev pub past_rows : Pages → List ℕ → List ℕ → List Row
past_rows P [] qs = []
past_rows P (n ∷ ns) [] = []
past_rows P (n ∷ ns) (q ∷ qs) = drop n (rows_of (P q)) ++ past_rows P ns qs

-- the rows on the pages that were not read
abbrev pub unread_rows : Pages → List ℕ → List ℕ → List Row
unread_rows P counts qs = rows_on P (drop (length counts) qs)

-- no item has a row among these and one among those
abbrev pub AreApart : List Row → List Row → Type 0
AreApart ws vs = (w v : Row) → In w ws → In v vs → w.item ≢ v.item

-- The page has as many rows as were noted. Where it is the last of those that were on the list at the
-- beginning, it may have got more since.
abbrev pub IsCount : Pages → ℕ → ℕ → ℕ → Type 0
IsCount P zero n q = ⊥
IsCount P (suc zero) n q = n ≤ length (rows_of (P q))
IsCount P (suc (suc left)) n q = n ≡ length (rows_of (P q))

-- so it is of each page that was read; `left` pages of the list were on it at the beginning
abbrev pub AreCounted : Pages → ℕ → List ℕ → List ℕ → Type 0
AreCounted P left [] qs = ⊤
AreCounted P left (n ∷ ns) [] = ⊥
AreCounted P zero (n ∷ ns) (q ∷ qs) = ⊥
AreCounted P (suc left) (n ∷ ns) (q ∷ qs) = IsCount P (suc left) n q × AreCounted P left ns qs

-- a pair of a key and an item that is to be placed
pub record Wait : Type 0 where
  pub key : Key
  pub item : ℕ

abbrev pub wait : Key → ℕ → Wait
wait k i = record { key = k; item = i }

-- The first `left` pages of the list were on it at the beginning. No item has a row on them and one on a
-- later page. Each pair of a row that was noted is in the main part, or waits; and none of these rows is of
-- an item of a row that came to its page later.
pub record IsGathered (P : Pages) (left : ℕ) (counts : List ℕ) (waits : List Wait) : Type 0 where
  pub line : List ℕ
  pub is_line : Line P line
  pub enough : left ≤ length line
  pub whole : AreApart (rows_on P (take left line)) (rows_on P (drop left line))
  pub counted : AreCounted P left counts line
  pub pairs : (w : Row) → In w (noted_rows P counts line) → (k : Key) → In k w.keys
      → Main P k w.item ⊎ In (wait k w.item) waits
  pub past : AreApart (noted_rows P counts line) (past_rows P counts line)

-- the rows that were noted are those of whole documents: no item has such a row and another
pub record IsBatch (P : Pages) (left : ℕ) (counts : List ℕ) (waits : List Wait) : Type 0 where
  pub gathered : IsGathered P left counts waits
  pub apart : AreApart (noted_rows P counts gathered.line) (unread_rows P counts gathered.line)
