-- The items of the slots of a heap page whose documents are dead.
use Rattle.std.proofs.Common.{◌≡◌, ◌⊎◌, ◌<◌, ◌≤◌, ◌+◌, ℕ, zero, suc, List, [], ◌∷◌, ◌++◌, length, refl, sym, ap, subst}
use Rattle.std.proofs.Common.{◌∙◌, inl, inr, arith}
use Rattle.std.specs.Prelude.{Option, Some, None, Bool, true, false}
use Rattle.std.specs.Option.{option_map}
use Rattle.page_types.specs.Items.{AreItemsFrom}
use Rattle.page_types.specs.Numbers.{most_slots, page_limit, item_limit}
use Rattle.page_types.specs.Pages.{IsPage, IsBody}
use Rattle.page_types.specs.Views.{slots_in, slots_of, slot_at}
use Rattle.page_types.specs.declared.page.Page.{Page}
use Rattle.page_types.specs.declared.page.Head.{Head}
use Rattle.page_types.specs.declared.page.Body.{Body}
use Rattle.page_types.specs.declared.page.Body.TheVariants as body
use Rattle.core_state.specs.Log.{In}
use Rattle.core_state.specs.Changes.{IsDeadHead}
use Rattle.core_state.specs.Documents.{item_at}
use Rattle.core_state.specs.declared.answers.Fate.{Fate}
use Rattle.core_state.proofs.PageLists.{in_either, in_front, in_back}
use Rattle.gin_vacuum.specs.Inner.Asked.{IsDeadSlot, AreDeadTo}

-- one item more, above all others
pub items_then : (last : ℕ) (xs : List ℕ) (y : ℕ) → AreItemsFrom last xs → last < y → y < item_limit
    → ((i : ℕ) → In i xs → i < y) → AreItemsFrom last (xs ++ y ∷ [])
items_then last [] y are low high below = (low, high, tt)
items_then last (x ∷ xs) y are low high below =
    (are.0, are.1, items_then x xs y are.2 (below x (inl refl)) high (λ i on. below i (inr on)))

-- items above all others
pub items_after : (last bound : ℕ) (xs ys : List ℕ) → AreItemsFrom last xs → last < bound
    → ((i : ℕ) → In i xs → i < bound) → ((n : ℕ) → n < bound → AreItemsFrom n ys) → AreItemsFrom last (xs ++ ys)
items_after last bound [] ys are low below after = after last low
items_after last bound (x ∷ xs) ys are low below after =
    (are.0, are.1, items_after x bound xs ys are.2 (below x (inl refl)) (λ i on. below i (inr on)) after)

-- a slot that is used is within the slots
pub used_within : (slots : List (Option Head)) (k : ℕ) (h : Head) → slot_at slots k ≡ Some h → k < length slots
used_within [] k h e = absurd cc
used_within (s ∷ slots) zero h e = omega arith
used_within (s ∷ slots) (suc k) h e = let l = used_within slots k h e in omega (arith, l)

module _ (fates : ℕ → Fate) (floor page : ℕ) (slots : List (Option Head)) where
  -- no slot yet
  pub dead_none : AreDeadTo fates floor page slots 0 []
  dead_none = record {
    each = λ i. (λ on. absurd on, λ d. absurd (let low = d.below in omega (arith, low)));
    rise = λ last low. tt;
  }

  lift : (k i : ℕ) → IsDeadSlot fates floor page slots k i → IsDeadSlot fates floor page slots (k + 1) i
  lift k i d = record {
    slot = d.slot;
    head = d.head;
    below = let low = d.below in omega (arith, low);
    item = d.item;
    at = d.at;
    dead = d.dead;
  }

  -- the slot is one of the first k, or the next
  lower : (k i : ℕ) → (d : IsDeadSlot fates floor page slots (k + 1) i)
      → IsDeadSlot fates floor page slots k i ⊎ (d.slot ≡ k)
  lower k i d = elim (less_or d.slot k d.below) [
    | inl low ↦ inl (record {
      slot = d.slot;
      head = d.head;
      below = low;
      item = d.item;
      at = d.at;
      dead = d.dead;
    })
    | inr same ↦ inr same
  ]
    where
      less_or : (a b : ℕ) → a < b + 1 → (a < b) ⊎ (a ≡ b)
      less_or zero zero low = inr refl
      less_or zero (suc b) low = inl (omega arith)
      less_or (suc a) zero low = absurd (omega (arith, low))
      less_or (suc a) (suc b) low = elim (less_or a b (omega (arith, low))) [
        | inl l ↦ inl (omega (arith, l))
        | inr e ↦ inr (ap suc e)
      ]

  -- one slot more, whose document is not dead
  pub dead_not : (k : ℕ) (items : List ℕ) → AreDeadTo fates floor page slots k items
      → ((h : Head) → slot_at slots k ≡ Some h → IsDeadHead fates floor h → ⊥)
      → AreDeadTo fates floor page slots (k + 1) items
  dead_not k items are off = record {
    each = λ i. (
      λ on. lift k i ((are.each i).0 on),
      λ d. elim (lower k i d) [
        | inl x ↦ (are.each i).1 x
        | inr same ↦ absurd (off d.head (subst (λ (s : ℕ). slot_at slots s ≡ Some d.head) same d.at) d.dead)
      ],
    );
    rise = are.rise;
  }

  -- one slot more, whose document is dead
  pub dead_next : (k : ℕ) (items : List ℕ) (h : Head) → AreDeadTo fates floor page slots k items
      → slot_at slots k ≡ Some h → IsDeadHead fates floor h → page < page_limit → k < most_slots
      → AreDeadTo fates floor page slots (k + 1) (items ++ item_at page k ∷ [])
  dead_next k items h are at dead few most = record {
    each = λ i. (
      λ on. elim (in_either i items (item_at page k ∷ []) on) [
        | inl x ↦ lift k i ((are.each i).0 x)
        | inr x ↦ elim x [
          | inl e ↦ record { slot = k; head = h; below = omega arith; item = e; at = at; dead = dead }
          | inr none ↦ absurd none
        ]
      ],
      λ d. elim (lower k i d) [
        | inl x ↦ in_front i items (item_at page k ∷ []) ((are.each i).1 x)
        | inr same ↦ in_back i items (item_at page k ∷ []) (inl (d.item ∙ ap (item_at page) same))
      ],
    );
    rise = λ last low.
        items_then last items (item_at page k) (are.rise last low) (omega (arith, low)) (omega (arith, few, most))
        (λ i on. let d = (are.each i).0 on in let b = d.below in let e = d.item in omega (arith, b, e));
  }

  -- of all slots
  pub dead_all : (k : ℕ) (items : List ℕ) → length slots ≤ k → AreDeadTo fates floor page slots k items
      → AreDeadTo fates floor page slots (length slots) items
  dead_all k items end are = record {
    each = λ i. (
      λ on.
          let d = (are.each i).0 on in
          record {
            slot = d.slot;
            head = d.head;
            below = used_within slots d.slot d.head d.at;
            item = d.item;
            at = d.at;
            dead = d.dead;
          },
      λ d. (are.each i).1 (record {
        slot = d.slot;
        head = d.head;
        below = let low = d.below in omega (arith, low, end);
        item = d.item;
        at = d.at;
        dead = d.dead;
      }),
    );
    rise = are.rise;
  }

-- the head in a slot is one
pub one_at : (T : Head → Type 0) (slots : List (Option Head)) (k : ℕ) (h j : Head) → slot_at slots k ≡ Some h
    → slot_at slots k ≡ Some j → (T h → ⊥) → T j → ⊥
one_at T slots k h j a b off t = off (subst T (same (sym b ∙ a)) t)
  where
    same : Some j ≡ Some h → j ≡ h
    same e = cc

pub none_at : {T : Type 0} (r : Option T) (show : T → Head) (slots : List (Option Head)) (k : ℕ) (h : Head)
    → option_map show r ≡ slot_at slots k → ((x : T) → r ≡ Some x → ⊥) → slot_at slots k ≡ Some h → ⊥
none_at None show slots k h e off at = let two : None ≡ Some h = e ∙ at in let z : ⊥ = cc in z
none_at (Some x) show slots k h e off at = off x refl

pub not_true : (b : Bool) → b ≡ false → b ≡ true → ⊥
not_true true e f = absurd cc
not_true false e f = absurd cc

-- a page of another kind has no slots
pub no_slots : (p : Page) → ((slots : List (Option Head)) → p.body ≡ body.Heap slots → ⊥) → slots_of p ≡ []
no_slots p off = by p.body off
  where
    by : (b : Body) → ((slots : List (Option Head)) → b ≡ body.Heap slots → ⊥) → slots_in b ≡ []
    by (body.Heap slots) off = absurd (off slots refl)
    by _ off = refl

-- a heap page has few
pub few_slots : (p : Page) (slots : List (Option Head)) → p.body ≡ body.Heap slots → IsPage p
    → length slots ≤ most_slots
few_slots p slots e is = (subst (IsBody p.right p.stamp) e is.body).0
