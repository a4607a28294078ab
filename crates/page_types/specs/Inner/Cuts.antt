-- Lists that lie one after the other in one list, cut at their ends.
use Rattle.std.specs.Prelude.{◌≡◌, ℕ, zero, suc, ◌+◌, ◌-◌, ◌^◌, ◌<◌, ◌≤◌, List, [], ◌∷◌, ◌++◌, length, map, take, drop}

-- the lists from a place on that end at these places
abbrev pub cut_at : {A : Type 0} → ℕ → List ℕ → List A → List (List A)
cut_at from [] xs = []
cut_at from (e ∷ es) xs = take (e - from) (drop from xs) ∷ cut_at e es xs

-- the ends rise, up to the last
abbrev pub EndAt : ℕ → List ℕ → ℕ → Type 0
EndAt from [] last = from ≡ last
EndAt from (e ∷ es) last = (from ≤ e) × EndAt e es last

-- where the list with this number begins
abbrev pub start_at : ℕ → List ℕ → ℕ → ℕ
start_at from es zero = from
start_at from [] (suc k) = from
start_at from (e ∷ es) (suc k) = start_at e es k

-- an end, moved with the place where its list begins
abbrev pub moved : ℕ → ℕ → ℕ → ℕ
moved from to e = to + (e - from)

-- they can be moved, since they rise up to a last one that fits a word
abbrev pub CanMove : ℕ → ℕ → List ℕ → Type 0
CanMove from to es = (last : ℕ) × EndAt from es last × (to + (last - from) < 2 ^ 64)

-- the ends where `new`, of lists with this size, are in place of those from k up to m, and those after have moved
abbrev pub ends_with : List ℕ → ℕ → ℕ → List ℕ → ℕ → List ℕ
ends_with ends k m new size = take k ends ++ (map (moved 0 (start_at 0 ends k)) new
    ++ map (moved (start_at 0 ends m) (start_at 0 ends k + size)) (drop m ends))

-- the ends cut these lists
pub record Cuts {A : Type 0} (ends : List ℕ) (xs : List A) (lists : List (List A)) : Type 0 where
  pub ends_at : EndAt 0 ends (length xs)
  pub cuts : cut_at 0 ends xs ≡ lists
