-- What is asked of the state of a store's log, and what is answered.
use Rattle.std.specs.Prelude.{◌≡◌, ◌≢◌, ◌↔◌, ℕ, Bool, true, false, ◌&&◌, nat_le, nat_lt, min, List, length, map, take}
use Rattle.std.specs.Prelude.{Option, Some, None, Result, Ok, Err, Vec, ⊤}
use Rattle.std.specs.declared.alloc.Global.{Global}
use Rattle.std.specs.declared.alloc.AllocError.{AllocError}
use Rattle.std.specs.List.{slice_get}
use Rattle.page_types.specs.declared.page.Head.{Head}
use Rattle.page_types.specs.declared.page.Name.{Name}
use Rattle.core_state.specs.Standing.{Sees}
use Rattle.core_state.specs.States.{StateValue, fate_of, life_of, heap_pages}
use Rattle.page_space.specs.Taking.{IsTaken, HasNoPage}
use Rattle.core_state.specs.declared.lives.Life.{Life}
use Rattle.engine.specs.Causes.{IsListedIn, IsPastOf}
use Rattle.engine.specs.declared.asks.IsListed.{IsListed}
use Rattle.engine.specs.declared.asks.Standing.{Standing}
use Rattle.engine.specs.declared.asks.Standing.TheVariants.{Unseen, Seen, Past}
use Rattle.engine.specs.declared.asks.HeadStanding.{HeadStanding}
use Rattle.engine.specs.declared.asks.HeapPage.{HeapPage}
use Rattle.engine.specs.declared.asks.NewPage.{NewPage}
use Rattle.engine.specs.declared.asks.FirstCommits.{FirstCommits}
use Rattle.engine.specs.declared.commit_names.CommitNames.{CommitNames}

abbrev pub is_listed_answer : IsListed → StateValue → ℕ → ℕ → Bool → Type 0
is_listed_answer ask s floor since b = (b ≡ true) ↔ IsListedIn s ask.commits ask.name

-- a head with these xids
pub record HasXids (ask : HeadStanding) (h : Head) : Type 0 where
  pub inserted : h.inserted_by ≡ ask.inserted_by
  pub deleted : h.deleted_by ≡ ask.deleted_by

-- the snapshot sees each head with these xids, or none
abbrev pub IsSeen : HeadStanding → StateValue → Type 0
IsSeen ask s = (h : Head) → HasXids ask h → Sees (fate_of s) ask.commits h

abbrev pub IsUnseen : HeadStanding → StateValue → Type 0
IsUnseen ask s = (h : Head) → HasXids ask h → Sees (fate_of s) ask.commits h → ⊥

abbrev pub head_answer : HeadStanding → StateValue → ℕ → ℕ → Standing → Type 0
head_answer ask s floor since Unseen = IsUnseen ask s
head_answer ask s floor since Seen =
    IsSeen ask s × (ask.deleted_by ≢ 0 → IsPastOf s ask.commits ask.deleted_by → ⊥)
head_answer ask s floor since (Past x) =
    IsSeen ask s × (x ≡ ask.deleted_by) × (x ≢ 0) × IsPastOf s ask.commits x

abbrev pub heap_page_answer : HeapPage → StateValue → ℕ → ℕ → Option ℕ → Type 0
heap_page_answer ask s floor since page = page ≡ slice_get (heap_pages s) ask.number

abbrev pub new_page_answer : NewPage → StateValue → ℕ → ℕ → Option (ℕ × ℕ) → Type 0
new_page_answer ask s floor since None = HasNoPage s since
new_page_answer ask s floor since (Some p) = IsTaken s since p.0 × (p.1 ≡ since)

-- no commit, or one past the first n
abbrev pub is_past : ℕ → Option ℕ → Bool
is_past n None = true
is_past n (Some m) = nat_lt n m

-- whether a document of this life is in the snapshot of n first commits
abbrev pub is_within : ℕ → Option Life → Bool
is_within n None = false
is_within n (Some life) = nat_le life.inserted n && is_past n life.deleted

-- whether the document of this name is in it, by this state of a log
abbrev pub is_in : StateValue → ℕ → Name → Bool
is_in s n name = is_within n (life_of s name)

-- the names that each of the first n commits inserted
abbrev pub first_inserted : StateValue → ℕ → List (List Name)
first_inserted s n = take (min n (length s.deleted)) s.inserted

-- the names of the first commits, as the state has them
pub record AreFirst (s : StateValue) (n : ℕ) (commits : List CommitNames) : Type 0 where
  pub deleted : map (λ (c : CommitNames). c.deleted.items) commits ≡ take n s.deleted
  pub inserted : map (λ (c : CommitNames). c.inserted.items) commits ≡ first_inserted s n

abbrev pub commits_answer : FirstCommits → StateValue → ℕ → ℕ
    → Result (Vec CommitNames Global) AllocError → Type 0
commits_answer ask s floor since (Ok commits) = AreFirst s ask.commits commits.items
commits_answer ask s floor since (Err e) = ⊤
