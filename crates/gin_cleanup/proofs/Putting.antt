-- An item that is put under a key, in a map of keys.
use Rattle.std.proofs.Common.{◌≡◌, ◌≢◌, ◌⊎◌, ℕ, Bool, true, false, cond, List, [], ◌∷◌, ◌++◌, Some, None, refl, sym}
use Rattle.std.proofs.Common.{ap, subst, ◌∙◌, inl, inr}
use Rattle.std.specs.Prelude.{Vec}
use Rattle.std.specs.Map.{lookup, set_value}
use Rattle.std.specs.BTreeMap.{insert_entry}
use Rattle.std.specs.Ordering.{is_eq, match_ordering}
use Rattle.std.specs.declared.alloc.Global.{Global}
use Rattle.std.specs.declared.cmp.Ordering.{Ordering}
use Rattle.std.specs.declared.cmp.Ordering.TheVariants.{Less, Equal, Greater}
use Rattle.ts_base.specs.Keys.{Key}
use Rattle.core_state.specs.Log.{In}
use Rattle.core_state.proofs.PageLists.{in_front, in_back, in_either}
use Rattle.gin_cleanup.specs.Gathered.{Has, HaveItems, shown}

abbrev Bytes : Type 0
Bytes = Vec ℕ Global

abbrev Numbers : Type 0
Numbers = Vec ℕ Global

abbrev key_in : Key × List ℕ → Key
key_in p = p.0

abbrev items_in : Key × List ℕ → List ℕ
items_in p = p.1

-- more items under a key that is there
module _ (key : Key) (test : Bytes → Bool) (yes : (v : Bytes) → test v ≡ true → v.items ≡ key)
    (old new : Numbers) (more : List ℕ) (is : new.items ≡ old.items ++ more) (k : Key) (i : ℕ) where
  pub set_told : (es : List (Bytes × Numbers)) → lookup test es ≡ Some old → Has (shown (set_value test es new)) k i
      → Has (shown es) k i ⊎ ((k ≡ key) × In i more)
  set_told [] l h = absurd h.1
  set_told (e ∷ es) l h = by (test e.0) refl (λ m g. set_told es m g) l h
    where
      by : (b : Bool) → test e.0 ≡ b
          → (lookup test es ≡ Some old → Has (shown (set_value test es new)) k i
          → Has (shown es) k i ⊎ ((k ≡ key) × In i more))
          → cond b (Some e.1) (lookup test es) ≡ Some old
          → Has (shown (cond b ((e.0, new) ∷ es) (e ∷ set_value test es new))) k i
          → Has (shown (e ∷ es)) k i ⊎ ((k ≡ key) × In i more)
      by true t again l h = elim h.1 [
        | inl same ↦
            let first : e.1 ≡ old = cc (l) in
            elim (in_either i old.items more (subst (In i) (ap items_in same ∙ is) h.3)) [
              | inl o ↦ inl (
                (e.0.items, e.1.items),
                inl refl,
                sym (ap key_in same) ∙ h.2,
                subst (λ (v : Numbers). In i v.items) (sym first) o,
              )
              | inr m ↦ inr (sym h.2 ∙ ap key_in same ∙ yes e.0 t, m)
            ]
        | inr w ↦ inl (h.0, inr w, h.2, h.3)
      ]
      by false t again l h = elim h.1 [
        | inl same ↦ inl (h.0, inl same, h.2, h.3)
        | inr w ↦ elim (again l (h.0, w, h.2, h.3)) [
          | inl a ↦ inl (a.0, inr a.1, a.2, a.3)
          | inr b ↦ inr b
        ]
      ]

  pub set_back : (es : List (Bytes × Numbers)) → lookup test es ≡ Some old
      → Has (shown es) k i ⊎ ((k ≡ key) × In i more) → Has (shown (set_value test es new)) k i
  set_back [] l h = absurd (cc (l))
  set_back (e ∷ es) l h = by (test e.0) refl (λ m g. set_back es m g) l h
    where
      by : (b : Bool) → test e.0 ≡ b
          → (lookup test es ≡ Some old → Has (shown es) k i ⊎ ((k ≡ key) × In i more)
          → Has (shown (set_value test es new)) k i)
          → cond b (Some e.1) (lookup test es) ≡ Some old
          → Has (shown (e ∷ es)) k i ⊎ ((k ≡ key) × In i more)
          → Has (shown (cond b ((e.0, new) ∷ es) (e ∷ set_value test es new))) k i
      by true t again l (inl a) =
          let first : e.1 ≡ old = cc (l) in
          elim a.1 [
            | inl same ↦ (
              (e.0.items, new.items),
              inl refl,
              sym (ap key_in same) ∙ a.2,
              subst (In i) (sym is)
                  (in_front i old.items more (subst (λ (v : Numbers). In i v.items) first
                  (subst (In i) (ap items_in same) a.3))),
            )
            | inr w ↦ (a.0, inr w, a.2, a.3)
          ]
      by true t again l (inr b) =
          ((e.0.items, new.items), inl refl, yes e.0 t ∙ sym b.0, subst (In i) (sym is) (in_back i old.items more b.1))
      by false t again l (inl a) = elim a.1 [
        | inl same ↦ (a.0, inl same, a.2, a.3)
        | inr w ↦ let r = again l (inl (a.0, w, a.2, a.3)) in (r.0, inr r.1, r.2, r.3)
      ]
      by false t again l (inr b) = let r = again l (inr b) in (r.0, inr r.1, r.2, r.3)

-- a key that comes
module _ (cmp : Bytes → Bytes → Ordering) (key : Bytes) (new : Numbers) (k : Key) (i : ℕ) where
  pub come_told : (es : List (Bytes × Numbers)) → lookup (λ (x : Bytes). is_eq (cmp key x)) es ≡ None
      → Has (shown (insert_entry cmp es key new)) k i → Has (shown es) k i ⊎ ((k ≡ key.items) × In i new.items)
  come_told [] l h = elim h.1 [
    | inl same ↦ inr (sym h.2 ∙ ap key_in same, subst (In i) (ap items_in same) h.3)
    | inr none ↦ absurd none
  ]
  come_told (e ∷ es) l h = by (cmp key e.0) (λ m g. come_told es m g) l h
    where
      by : (r : Ordering)
          → (lookup (λ (x : Bytes). is_eq (cmp key x)) es ≡ None → Has (shown (insert_entry cmp es key new)) k i
          → Has (shown es) k i ⊎ ((k ≡ key.items) × In i new.items))
          → cond (is_eq r) (Some e.1) (lookup (λ (x : Bytes). is_eq (cmp key x)) es) ≡ None
          → Has (shown (match_ordering r ((key, new) ∷ e ∷ es) ((e.0, new) ∷ es) (e ∷ insert_entry cmp es key new))) k i
          → Has (shown (e ∷ es)) k i ⊎ ((k ≡ key.items) × In i new.items)
      by Less again l h = elim h.1 [
        | inl same ↦ inr (sym h.2 ∙ ap key_in same, subst (In i) (ap items_in same) h.3)
        | inr w ↦ inl (h.0, w, h.2, h.3)
      ]
      by Equal again l h = absurd (cc (l))
      by Greater again l h = elim h.1 [
        | inl same ↦ inl (h.0, inl same, h.2, h.3)
        | inr w ↦ elim (again l (h.0, w, h.2, h.3)) [
          | inl a ↦ inl (a.0, inr a.1, a.2, a.3)
          | inr b ↦ inr b
        ]
      ]

  pub come_back : (es : List (Bytes × Numbers)) → lookup (λ (x : Bytes). is_eq (cmp key x)) es ≡ None
      → Has (shown es) k i ⊎ ((k ≡ key.items) × In i new.items) → Has (shown (insert_entry cmp es key new)) k i
  come_back [] l (inl a) = absurd a.1
  come_back [] l (inr b) = ((key.items, new.items), inl refl, sym b.0, b.1)
  come_back (e ∷ es) l h = by (cmp key e.0) (λ m g. come_back es m g) l h
    where
      by : (r : Ordering)
          → (lookup (λ (x : Bytes). is_eq (cmp key x)) es ≡ None
          → Has (shown es) k i ⊎ ((k ≡ key.items) × In i new.items)
          → Has (shown (insert_entry cmp es key new)) k i)
          → cond (is_eq r) (Some e.1) (lookup (λ (x : Bytes). is_eq (cmp key x)) es) ≡ None
          → Has (shown (e ∷ es)) k i ⊎ ((k ≡ key.items) × In i new.items)
          → Has (shown (match_ordering r ((key, new) ∷ e ∷ es) ((e.0, new) ∷ es) (e ∷ insert_entry cmp es key new))) k i
      by Less again l (inl a) = (a.0, inr a.1, a.2, a.3)
      by Less again l (inr b) = ((key.items, new.items), inl refl, sym b.0, b.1)
      by Equal again l h = absurd (cc (l))
      by Greater again l (inl a) = elim a.1 [
        | inl same ↦ (a.0, inl same, a.2, a.3)
        | inr w ↦ let r = again l (inl (a.0, w, a.2, a.3)) in (r.0, inr r.1, r.2, r.3)
      ]
      by Greater again l (inr b) = let r = again l (inr b) in (r.0, inr r.1, r.2, r.3)

-- no key is without an item
pub none_empty : (test : Bytes → Bool) (old : Numbers) (es : List (Bytes × Numbers)) → lookup test es ≡ Some old
    → HaveItems (shown es) → old.items ≢ []
none_empty test old [] l all = absurd (cc (l))
none_empty test old (e ∷ es) l all = by (test e.0) (λ g. none_empty test old es g all.1) l
  where
    by : (b : Bool) → (lookup test es ≡ Some old → old.items ≢ []) → cond b (Some e.1) (lookup test es) ≡ Some old
        → old.items ≢ []
    by true again l = let first : e.1 ≡ old = cc (l) in subst (λ (v : Numbers). v.items ≢ []) first all.0
    by false again l = again l

pub set_some : (test : Bytes → Bool) (new : Numbers) → new.items ≢ [] → (es : List (Bytes × Numbers))
    → HaveItems (shown es) → HaveItems (shown (set_value test es new))
set_some test new some [] all = tt
set_some test new some (e ∷ es) all = by (test e.0) (set_some test new some es all.1)
  where
    by : (b : Bool) → HaveItems (shown (set_value test es new))
        → HaveItems (shown (cond b ((e.0, new) ∷ es) (e ∷ set_value test es new)))
    by true then = (some, all.1)
    by false then = (all.0, then)

pub insert_some : (cmp : Bytes → Bytes → Ordering) (key : Bytes) (new : Numbers) → new.items ≢ []
    → (es : List (Bytes × Numbers)) → HaveItems (shown es) → HaveItems (shown (insert_entry cmp es key new))
insert_some cmp key new some [] all = (some, tt)
insert_some cmp key new some (e ∷ es) all = by (cmp key e.0) (insert_some cmp key new some es all.1)
  where
    by : (r : Ordering) → HaveItems (shown (insert_entry cmp es key new))
        → HaveItems (shown (match_ordering r ((key, new) ∷ e ∷ es) ((e.0, new) ∷ es) (e ∷ insert_entry cmp es key new)))
    by Less then = (some, all)
    by Equal then = (some, all.1)
    by Greater then = (all.0, then)

pub more_some : (xs : List ℕ) (y : ℕ) → xs ++ y ∷ [] ≢ []
more_some [] y e = absurd (cc)
more_some (x ∷ xs) y e = absurd (cc)
