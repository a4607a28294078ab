-- A key and a bound.
use Rattle.std.proofs.Common.{◌≡◌, ◌≢◌, Bool, true, false, [], refl, subst, inl, inr}
use Rattle.std.specs.Prelude.{◌↔◌, not}
use Rattle.ts_base.specs.Keys.{Key}
use Rattle.page_types.specs.Keys.{KeyLess}
use Rattle.core_state.specs.Changes.{KeyAtMost, UpTo}
use Rattle.core_state.proofs.Trees.Orders.{key_order}

pub not_both : (a b : Key) → KeyLess b a → KeyAtMost a b → ⊥
not_both a b g (inl l) = key_order.irrefl a (key_order.trans a b a l g)
not_both a b g (inr e) = key_order.irrefl b (subst (KeyLess b) e g)

-- a key is up to a bound that is not below it
pub up_to_by : (key bound : Key) (b : Bool) → bound ≢ [] → (b ≡ true ↔ KeyLess bound key)
    → (not b ≡ true) ↔ UpTo key bound
up_to_by key bound true some h = (
  λ e. absurd (cc),
  λ u. elim u [ inl none ↦ absurd (some none) | inr at ↦ absurd (not_both key bound (h.0 refl) at) ],
)
up_to_by key bound false some h = (
  λ e. inr (elim (key_order.total key bound) [
    | inl l ↦ inl l
    | inr r ↦ elim r [ inl same ↦ inr same | inr g ↦ absurd (cc (h.1 g)) ]
  ]),
  λ u. refl,
)
