-- A type with a least and a greatest element, and its order.
use Rattle.std.specs.Prelude.{⊤}

pub data Ext (E : Type 0) : Type 0 where
  least : Ext E
  at : E → Ext E
  greatest : Ext E

abbrev pub ext_less : {E : Type 0} → (E → E → Type 0) → Ext E → Ext E → Type 0
ext_less less x least = ⊥
ext_less less least (at b) = ⊤
ext_less less (at a) (at b) = less a b
ext_less less greatest (at b) = ⊥
ext_less less least greatest = ⊤
ext_less less (at a) greatest = ⊤
ext_less less greatest greatest = ⊥
