-- What is noted of a page that was read.
use Rattle.std.specs.Prelude.{◌≡◌, ◌++◌}
use Rattle.gin_vacuum.specs.declared.asks.Dead.{Dead}
use Rattle.gin_vacuum.specs.declared.finding.Finding.{Finding}

-- the items that were found dead come after the others
pub record HasTaken (dead : Dead) (old new : Finding) : Type 0 where
  pub items : new.items.items ≡ old.items.items ++ dead.items.items
  pub next : new.next ≡ dead.next

-- the same items, and the same page is next
pub record HasKept (old new : Finding) : Type 0 where
  pub items : new.items.items ≡ old.items.items
  pub next : new.next ≡ old.next
