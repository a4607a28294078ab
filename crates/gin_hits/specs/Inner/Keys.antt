-- How the keys that are asked are put in order.
use Rattle.std.specs.Prelude.{ℕ, Bool, List, Vec}
use Rattle.std.specs.Ordering.{nat_cmp, bool_cmp, ordering_then}
use Rattle.std.specs.Cmp.Lexicographic.{slice_cmp}
use Rattle.std.specs.declared.alloc.Global.{Global}
use Rattle.std.specs.declared.cmp.Ordering.{Ordering}
use Rattle.gin_opclass.specs.Class.{Asked}
use Rattle.gin_hits.specs.Ordered.{asked_at}

-- by their bytes, a key before its prefix twin
abbrev pub asked_cmp : Asked → Asked → Ordering
asked_cmp a b = ordering_then (slice_cmp nat_cmp a.key b.key) (bool_cmp a.prefix b.prefix)

-- so of the keys with these numbers
abbrev pub number_cmp : List (Vec ℕ Global × Bool) → ℕ → ℕ → Ordering
number_cmp keys i j = asked_cmp (asked_at keys i) (asked_at keys j)
