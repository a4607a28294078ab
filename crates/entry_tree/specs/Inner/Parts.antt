-- Where a page is divided, by the number of the last member that stays. Members are the entries of a leaf, and the
-- children of an inner page.
use Rattle.std.specs.Prelude.{◌≡◌, ℕ, suc, ◌<◌, ◌≤◌, List, [], ◌∷◌, ◌++◌, take, drop}
use Rattle.std.specs.List.{flat_map}
use Rattle.page_types.specs.Encoding.{entry_bytes, entry_child_bytes, count_of}
use Rattle.page_types.specs.declared.page.Entry.{Entry}
use Rattle.page_types.specs.declared.page.EntryChild.{EntryChild}
use Rattle.page_types.specs.declared.page.Body.{Body}
use Rattle.page_types.specs.declared.page.Body.TheVariants as body
use Rattle.core_state.specs.TreeRules.{KeepsHalf, FitsPage}

-- the key of the last of these entries
abbrev pub last_key : List Entry → List ℕ
last_key [] = []
last_key (e ∷ []) = e.key
last_key (e ∷ d ∷ es) = last_key (d ∷ es)

-- the first part, up to this member; a leaf's high key is then its last key
abbrev pub left_of : Body → ℕ → Body
left_of (body.EntryLeaf high entries) k = body.EntryLeaf (last_key (take (suc k) entries)) (take (suc k) entries)
left_of (body.EntryInner children) k = body.EntryInner (take (suc k) children)
left_of b k = b

-- the second part, after this member
abbrev pub right_of : Body → ℕ → Body
right_of (body.EntryLeaf high entries) k = body.EntryLeaf high (drop (suc k) entries)
right_of (body.EntryInner children) k = body.EntryInner (drop (suc k) children)
right_of b k = b

-- the high key of a leaf's first part, up to this member
abbrev pub cut_key : Body → ℕ → List ℕ
cut_key (body.EntryLeaf high entries) k = last_key (take (suc k) entries)
cut_key _ k = []

-- the members from one number on, before another one; a leaf's high key is then this one
pub data IsPart (high : List ℕ) (from to : ℕ) : Body → Body → Type 0 where
  leaf : (old : List ℕ) (entries part : List Entry) → take from entries ++ part ≡ take to entries
      → IsPart high from to (body.EntryLeaf old entries) (body.EntryLeaf high part)
  inner : (children part : List EntryChild) → take from children ++ part ≡ take to children
      → IsPart high from to (body.EntryInner children) (body.EntryInner part)

-- the bytes of the members before this one
abbrev pub bytes_before : Body → ℕ → List ℕ
bytes_before (body.EntryLeaf high entries) k = flat_map entry_bytes (take k entries)
bytes_before (body.EntryInner children) k = flat_map entry_child_bytes (take k children)
bytes_before b k = []

-- the member is there, and not the last
abbrev pub IsCutPlace : Body → ℕ → Type 0
IsCutPlace whole k = suc k < count_of whole

-- the first place up to which there is at least half of the bytes
pub record IsFirstHalf (whole : Body) (k : ℕ) : Type 0 where
  pub place : IsCutPlace whole k
  pub keeps : KeepsHalf whole (left_of whole k)
  pub first : (j : ℕ) → IsCutPlace whole j → KeepsHalf whole (left_of whole j) → k ≤ j

-- the last place up to which the first part fits
pub record IsLastFitting (whole : Body) (k : ℕ) : Type 0 where
  pub place : IsCutPlace whole k
  pub fits : FitsPage (left_of whole k)
  pub last : (j : ℕ) → IsCutPlace whole j → FitsPage (left_of whole j) → j ≤ k
