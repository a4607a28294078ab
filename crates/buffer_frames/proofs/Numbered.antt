-- The head in a slot gets a serial.
use Rattle.std.proofs.Common.{◌≡◌, ◌<◌, ℕ, zero, suc, List, [], ◌∷◌, length, refl, sym, ap, ◌∙◌, arith}
use Rattle.std.specs.Prelude.{Option, Some, None, set}
use Rattle.page_types.specs.Views.{slot_at}
use Rattle.page_types.specs.declared.page.Head.{Head}
use Rattle.core_state.specs.Allowed.{with_serial, numbered}

pub slot_within : (slots : List (Option Head)) (k : ℕ) (h : Head) → slot_at slots k ≡ Some h → k < length slots
slot_within [] k h e = absurd (let z : ⊥ = cc in z)
slot_within (x ∷ xs) zero h e = omega arith
slot_within (x ∷ xs) (suc k) h e = omega (arith, slot_within xs k h e)

pub numbered_at : (slots : List (Option Head)) (k serial : ℕ) (h h' : Head) → slot_at slots k ≡ Some h
    → h' ≡ record h { serial = serial } → numbered slots k serial ≡ set slots k (Some h')
numbered_at [] k serial h h' e same = absurd (let z : ⊥ = cc in z)
numbered_at (x ∷ xs) zero serial h h' e same =
    ap (λ (o : Option Head). with_serial o serial ∷ xs) e ∙ ap (λ (y : Head). Some y ∷ xs) (sym same)
numbered_at (x ∷ xs) (suc k) serial h h' e same =
    ap (λ (l : List (Option Head)). x ∷ l) (numbered_at xs k serial h h' e same)

pub numbered_none : (slots : List (Option Head)) (k serial : ℕ) → slot_at slots k ≡ None
    → numbered slots k serial ≡ slots
numbered_none [] k serial e = refl
numbered_none (x ∷ xs) zero serial e =
    ap (λ (o : Option Head). with_serial o serial ∷ xs) e ∙ ap (λ (o : Option Head). o ∷ xs) (sym e)
numbered_none (x ∷ xs) (suc k) serial e = ap (λ (l : List (Option Head)). x ∷ l) (numbered_none xs k serial e)
