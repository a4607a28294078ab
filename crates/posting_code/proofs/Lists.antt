-- An iterator over an item list.
use Rattle.std.proofs.Common.{◌≡◌, ◌≢◌, ℕ, ◌-◌, ◌<◌, List, [], ◌∷◌, length, Result, Ok, Err, refl, sym, ap, subst, ◌∙◌}
use Rattle.std.proofs.Common.{arith}
use Rattle.page_types.specs.Items.{item_list_from, AreItemsFrom, items_of}
use Rattle.page_types.specs.ItemReading.{item_at, items_within, last_or}
use Rattle.page_types.proofs.ItemLists.{sums-item_list_from}
use Rattle.page_types.proofs.FieldReading.{IsBytes}
use Rattle.page_types.proofs.ItemReading.{item_again, whole_take}
use Rattle.posting_code.specs.Inner.Places.{items_left}
use Rattle.posting_code.specs.Inner.States.{IsAt}

clash : {A : Type 0} (r : Result A ℕ) (left : ℕ) (x : A) → r ≡ Err left → r ≡ Ok x → ⊥
clash (Ok y) left x p q = absurd cc
clash (Err l) left x p q = absurd cc

same_ok : {A : Type 0} (r : Result A ℕ) (x y : A) → r ≡ Ok x → r ≡ Ok y → x ≡ y
same_ok (Ok z) x y p q = let first : z ≡ x = cc in let second : z ≡ y = cc in sym first ∙ second
same_ok (Err l) x y p q = absurd cc

pub starts : (bytes : List ℕ) (count last : ℕ) (is rest : List ℕ) → IsBytes bytes → items_within (length bytes) 0 bytes
    ≡ Ok (is, rest) → count ≡ length is → last ≡ last_or 0 is → IsAt 0 bytes count last
unfolding items_of
starts bytes count last is rest fits e c l =
    let f = whole_take bytes is rest fits e in
    let same = f.1 in
    record {
      items = f.0.items;
      list = f.0.encoding;
      counted = c ∙ ap length (sym same);
      ends = l ∙ ap (last_or 0) (sym same);
    }

-- the first of the items that are left
pub record Steps (previous : ℕ) (rest : List ℕ) (count last item : ℕ) (behind : List ℕ) : Type 0 where
  pub left : items_left previous rest ≡ item ∷ items_left item behind
  pub stands : IsAt item behind (count - 1) last
  pub some : 0 < count

-- by the items that are left
step_by : (previous : ℕ) (rest : List ℕ) (count last item : ℕ) (behind is : List ℕ) → items_left previous rest ≡ is
    → AreItemsFrom previous is → rest ≡ item_list_from previous is → count ≡ length is → last ≡ last_or previous is
    → item_at previous rest ≡ Ok (item, behind) → Steps previous rest count last item behind
unfolding item_at
step_by previous rest count last item behind [] same h l c e r =
    absurd (clash (item_at previous rest) 0 (item, behind) (ap (item_at previous) l) r)
step_by previous rest count last item behind (i ∷ is) same h l c e r =
    let read : item_at previous rest ≡ Ok (i, item_list_from i is) =
    ap (item_at previous) l ∙ item_again previous i (item_list_from i is) h.0 h.1 in
    let pair = same_ok (item_at previous rest) (i, item_list_from i is) (item, behind) read r in
    let items : i ≡ item = ap (λ (x : ℕ × List ℕ). x.0) pair in
    let tails : item_list_from i is ≡ behind = ap (λ (x : ℕ × List ℕ). x.1) pair in
    let others : items_left i (item_list_from i is) ≡ is = sums-item_list_from i is h.2 in
    let P : ℕ → List ℕ → Type 0 = λ k t. Steps previous rest count last k t in
    let here : Steps previous rest count last i (item_list_from i is) = record {
      left = same ∙ ap (λ (t : List ℕ). i ∷ t) (sym others);
      stands = record {
        items = subst (AreItemsFrom i) (sym others) h.2;
        list = ap (item_list_from i) (sym others);
        counted = omega (arith, c, ap length others);
        ends = e ∙ ap (last_or i) (sym others);
      };
      some = omega (arith, c);
    } in
    subst (λ k. P k behind) items (subst (P i) tails here)

pub step : (previous : ℕ) (rest : List ℕ) (count last item : ℕ) (behind : List ℕ) → IsAt previous rest count last
    → item_at previous rest ≡ Ok (item, behind) → Steps previous rest count last item behind
step previous rest count last item behind at r =
    step_by previous rest count last item behind (items_left previous rest) refl at.items at.list at.counted at.ends r

none_by : (previous : ℕ) (rest : List ℕ) (left : ℕ) (is : List ℕ) → AreItemsFrom previous is
    → rest ≡ item_list_from previous is → item_at previous rest ≡ Err left → is ≡ []
none_by previous rest left [] h l r = refl
none_by previous rest left (i ∷ is) h l r =
    absurd (clash (item_at previous rest) left (i, item_list_from i is) r
    (ap (item_at previous) l ∙ item_again previous i (item_list_from i is) h.0 h.1))

-- where nothing is read, nothing is left
pub ended : (previous : ℕ) (rest : List ℕ) (count last left : ℕ) → IsAt previous rest count last
    → item_at previous rest ≡ Err left → items_left previous rest ≡ []
ended previous rest count last left at r = none_by previous rest left (items_left previous rest) at.items at.list r

-- the last of some items
pub last_any : (a b : ℕ) (items : List ℕ) → items ≢ [] → last_or a items ≡ last_or b items
last_any a b [] some = absurd (some refl)
last_any a b (i ∷ is) some = refl
