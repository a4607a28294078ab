-- The list of rising items has just these items.
use Rattle.std.proofs.Common.{◌≡◌, ℕ, zero, suc, ◌+◌, ◌-◌, ◌*◌, ◌/◌, ◌%◌, ◌^◌, ◌<◌, ◌≤◌, cond, List, [], ◌∷◌, ◌++◌}
use Rattle.std.proofs.Common.{refl, sym, ap, subst, ◌∙◌, arith, inl, inr}
use Rattle.std.proofs.lemmas.Bool.{cases_lt, lt-ltb, le-ltb}
use Rattle.std.proofs.Math.Nat.{pow-suc}
use Rattle.page_types.specs.Items.{varbyte_within, varbyte, item_list_from, item_list, AreItemsFrom, AreItems, carried}
use Rattle.page_types.specs.Items.{with_byte, differences, sums_from, items_of}
use Rattle.page_types.specs.Laws.{ItemsTellList, ItemsHaveList}

pub with_last : (b : ℕ) (ns : List ℕ) → b < 128 → with_byte b ns ≡ b ∷ ns
with_last b ns lt = ap (λ t. cond t (b ∷ ns) (carried (b - 128) ns)) (lt-ltb _ _ lt)

with_more : (b n : ℕ) (ns : List ℕ) → 128 ≤ b → with_byte b (n ∷ ns) ≡ (b - 128 + 128 * n) ∷ ns
with_more b n ns le = ap (λ t. cond t (b ∷ (n ∷ ns)) (carried (b - 128) (n ∷ ns))) (le-ltb _ _ le)

pub varbyte_last : (most n : ℕ) → n < 128 → varbyte_within (suc most) n ≡ n ∷ []
varbyte_last most n lt = ap (λ t. cond t (n ∷ []) ((n % 128 + 128) ∷ varbyte_within most (n / 128))) (lt-ltb _ _ lt)

pub varbyte_more : (most n : ℕ) → 128 ≤ n
    → varbyte_within (suc most) n ≡ (n % 128 + 128) ∷ varbyte_within most (n / 128)
varbyte_more most n le = ap (λ t. cond t (n ∷ []) ((n % 128 + 128) ∷ varbyte_within most (n / 128))) (le-ltb _ _ le)

-- the low seven bits, where the others are read
more_read : (most n : ℕ) (rest : List ℕ) → 128 ≤ n → differences (varbyte_within most (n / 128) ++ rest)
    ≡ n / 128 ∷ differences rest → differences (varbyte_within (suc most) n ++ rest) ≡ n ∷ differences rest
more_read most n rest large high =
    let sum : n % 128 + 128 - 128 + 128 * (n / 128) ≡ n = omega arith in
    ap (λ t. differences (t ++ rest)) (varbyte_more most n large) ∙ ap (with_byte (n % 128 + 128)) high
    ∙ with_more (n % 128 + 128) (n / 128) (differences rest) (omega arith) ∙ ap (λ t. t ∷ differences rest) sum

last_read : (most n : ℕ) (rest : List ℕ) → n < 128
    → differences (varbyte_within (suc most) n ++ rest) ≡ n ∷ differences rest
last_read most n rest small =
    ap (λ t. differences (t ++ rest)) (varbyte_last most n small) ∙ with_last n (differences rest) small

-- a number is read back from its varbyte
pub differences-varbyte_within : (most n : ℕ) (rest : List ℕ) → n < 128 ^ suc most
    → differences (varbyte_within (suc most) n ++ rest) ≡ n ∷ differences rest
differences-varbyte_within zero n rest lt = last_read 0 n rest (omega arith)
differences-varbyte_within (suc most) n rest lt =
    let fits : n / 128 < 128 ^ suc most = let step = pow-suc 128 (suc most) in omega arith in
    let high = differences-varbyte_within most (n / 128) rest fits in
    elim (cases_lt n 128) [
      | inl small ↦ last_read (suc most) n rest small
      | inr large ↦ more_read (suc most) n rest large high
    ]

pub differences-varbyte : (n : ℕ) (rest : List ℕ) → n < 2 ^ 31 → differences (varbyte n ++ rest) ≡ n ∷ differences rest
unfolding varbyte
differences-varbyte n rest lt = differences-varbyte_within 4 n rest (omega arith)

-- the sums of the differences are the items
pub sums-item_list_from : (last : ℕ) (items : List ℕ) → AreItemsFrom last items
    → sums_from last (differences (item_list_from last items)) ≡ items
sums-item_list_from last [] h = refl
sums-item_list_from last (i ∷ is) h =
    let read = differences-varbyte (i - last) (item_list_from i is) (omega arith) in
    let sum : last + (i - last) ≡ i = omega arith in
    let P : ℕ → List ℕ → List ℕ = λ x t. x ∷ t in
    ap (sums_from last) read ∙ ap (λ x. P x (sums_from x (differences (item_list_from i is)))) sum
    ∙ ap (P i) (sums-item_list_from i is h.2)

pub items_of-item_list : (items : List ℕ) → AreItems items → items_of (item_list items) ≡ items
unfolding items_of
items_of-item_list items h = sums-item_list_from 0 items h

pub lists_are_told : ItemsTellList
lists_are_told a b p q e = p.encoding ∙ ap item_list e ∙ sym q.encoding

pub have_lists : ItemsHaveList
have_lists items h =
    let same = items_of-item_list items h in
    record {
      is_list = record { items = subst AreItems (sym same) h; encoding = ap item_list (sym same) };
      items_are = same;
    }
