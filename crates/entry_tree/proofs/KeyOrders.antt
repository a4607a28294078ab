-- The order of keys and bounds, and lists that rise in it.
use Rattle.std.proofs.Common.{◌≡◌, ◌≢◌, ◌⊎◌, ℕ, zero, suc, ◌<◌, List, [], ◌∷◌, length, get_or, refl, sym, ap, ◌∙◌, inl}
use Rattle.std.proofs.Common.{inr, arith, nat_cmp, Ordering, Less, Equal, Greater}
use Rattle.std.specs.List.{AllByRecursion}
use Rattle.std.specs.Ordering.{ordering_reverse}
use Rattle.std.specs.Cmp.Lexicographic.{slice_cmp}
use Rattle.std.specs.FinMap.{slice_cmp-IsAntisymmetric, nat_cmp-IsAntisymmetric}
use Rattle.std.proofs.lemmas.Cmp.{nat_list_cmp_total, tied_itself}
use Rattle.page_types.specs.Keys.{IsKey, KeyLess, BoundLess, Rising}
use Rattle.page_types.specs.Pages.{IsEntry, AreEntries}
use Rattle.page_types.specs.declared.page.Entry.{Entry}
use Rattle.page_types.specs.declared.page.EntryChild.{EntryChild}
use Rattle.core_state.specs.Changes.{UpTo}
use Rattle.entry_tree.specs.Finding.{IsBelow}
use Rattle.entry_tree.specs.Inner.Searching.{keys_of, bounds_of}

pub key_trans : (a b c : List ℕ) → KeyLess a b → KeyLess b c → KeyLess a c
key_trans a b c l m = nat_list_cmp_total.trans a b c l m

pub key_irrefl : (a : List ℕ) → KeyLess a a → ⊥
key_irrefl a l = clash (sym l ∙ tied_itself nat_list_cmp_total a)
  where
    clash : Less ≡ Equal → ⊥
    clash e = cc

pub key_total : (a b : List ℕ) → KeyLess a b ⊎ ((a ≡ b) ⊎ KeyLess b a)
key_total a b = go (slice_cmp nat_cmp a b) refl
  where
    go : (r : Ordering) → slice_cmp nat_cmp a b ≡ r → KeyLess a b ⊎ ((a ≡ b) ⊎ KeyLess b a)
    go Less e = inl e
    go Equal e = inr (inl (slice_cmp-IsAntisymmetric nat_cmp-IsAntisymmetric a b e))
    go Greater e = inr (inr (nat_list_cmp_total.antisymm b a ∙ ap ordering_reverse e))

pub key_some : (key : List ℕ) → IsKey key → key ≢ []
key_some [] is e = is
key_some (b ∷ bs) is e = cc

-- what a bound that rises up to another is below
pub less_below : (a b key : List ℕ) → BoundLess a b → IsBelow b key → IsBelow a key
less_below a b key l k =
    (l.0, elim l.1 [ inl none ↦ absurd (k.0 none) | inr less ↦ key_trans a b key less k.1 ])

-- a key may be where the bound isn't below it
pub up_to : (bound key : List ℕ) → (IsBelow bound key → ⊥) → UpTo key bound
up_to [] key not_so = inl refl
up_to (b ∷ bs) key not_so =
    elim (key_total key (b ∷ bs)) [
      | inl l ↦ inr (inl l)
      | inr (inl e) ↦ inr (inr e)
      | inr (inr l) ↦ absurd (not_so (λ e. cc, l))
    ]

pub all_at : {A : Type 0} (P : A → Type 0) (xs : List A) (d : A) → AllByRecursion P xs → (j : ℕ) → j < length xs
    → P (get_or xs j d)
all_at P [] d h j lt = absurd (omega (arith, lt))
all_at P (x ∷ xs) d h zero lt = h.0
all_at P (x ∷ xs) d h (suc j) lt = all_at P xs d h.1 j (omega (arith, lt))

pub rising_at : {A : Type 0} (R : A → A → Type 0) (xs : List A) (d : A) → Rising R xs → (i j : ℕ) → i < j
    → j < length xs → R (get_or xs i d) (get_or xs j d)
rising_at R [] d h i j lt within = absurd (omega (arith, within))
rising_at R (x ∷ xs) d h i zero lt within = absurd (omega (arith, lt))
rising_at R (x ∷ xs) d h zero (suc j) lt within = all_at (R x) xs d h.0 j (omega (arith, within))
rising_at R (x ∷ xs) d h (suc i) (suc j) lt within =
    rising_at R xs d h.1 i j (omega (arith, lt)) (omega (arith, within))

keys_above : (key : List ℕ) (entries : List Entry) → key ≢ [] → AllByRecursion (λ e. KeyLess key e.key) entries
    → AllByRecursion (BoundLess key) (keys_of entries)
keys_above key [] some h = tt
keys_above key (e ∷ entries) some h = ((some, inr h.0), keys_above key entries some h.1)

keys_rise : (entries : List Entry) → AllByRecursion IsEntry entries → Rising (λ d e. KeyLess d.key e.key) entries
    → Rising BoundLess (keys_of entries)
keys_rise [] each h = tt
keys_rise (e ∷ entries) each h =
    (keys_above e.key entries (key_some e.key each.0.key) h.0, keys_rise entries each.1 h.1)

-- the keys of a leaf rise
pub rising_keys : (entries : List Entry) → AreEntries entries → Rising BoundLess (keys_of entries)
rising_keys entries are = keys_rise entries are.each are.rising

bounds_above : (bound : List ℕ) (children : List EntryChild) → AllByRecursion (λ c. BoundLess bound c.bound) children
    → AllByRecursion (BoundLess bound) (bounds_of children)
bounds_above bound [] h = tt
bounds_above bound (c ∷ children) h = (h.0, bounds_above bound children h.1)

-- so do the bounds of an inner page
pub rising_bounds : (children : List EntryChild) → Rising (λ c d. BoundLess c.bound d.bound) children
    → Rising BoundLess (bounds_of children)
rising_bounds [] h = tt
rising_bounds (c ∷ children) h = (bounds_above c.bound children h.0, rising_bounds children h.1)
