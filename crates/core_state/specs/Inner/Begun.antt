-- The transactions that have begun, of which some run still.
use Rattle.std.specs.Prelude.{◌≡◌, ℕ, suc, ◌≤◌, ⊤, true, cond, Some, List, [], ◌∷◌}
use Rattle.std.specs.List.{slice_get, filter}
use Rattle.core_state.specs.declared.transactions.Transaction.{Transaction}
use Rattle.core_state.specs.declared.running.Begun.{Begun}

-- the running ones, how many more have room, and an end that is above the xids of all that have
-- begun
pub record Kept : Type 0 where
  pub list : List Transaction
  pub left : ℕ
  pub end : ℕ

-- those that run
abbrev pub running_of : List Begun → List Transaction
running_of [] = []
running_of (b ∷ bs) = cond b.runs (b.transaction ∷ running_of bs) (running_of bs)

-- those that run, without the ended ones
abbrev pub kept : List Begun → List Begun
kept bs = filter (λ (b : Begun). b.runs) bs

-- their xids rise, from n on
abbrev pub AreBegun : ℕ → List Begun → Type 0
AreBegun n [] = ⊤
AreBegun n (b ∷ bs) = (n ≤ b.transaction.xid) × AreBegun (suc b.transaction.xid) bs

-- the least number from n on that is above all of them
abbrev pub end_of : ℕ → List Begun → ℕ
end_of n [] = n
end_of n (b ∷ bs) = end_of (suc b.transaction.xid) bs

-- the transaction at this place has this xid, and runs
pub record IsRunningAt (bs : List Begun) (x i : ℕ) : Type 0 where
  pub begun : Begun
  pub at : slice_get bs i ≡ Some begun
  pub xid : begun.transaction.xid ≡ x
  pub runs : begun.runs ≡ true
