-- Lists that lack some items, and whether they had any.
use Rattle.std.proofs.Common.{◌≡◌, ◌⊎◌, ℕ, ◌<◌, List, [], ◌∷◌, refl, sym, ap, subst, ◌∙◌, inl, inr, arith}
use Rattle.std.specs.List.{Contains}
use Rattle.page_types.specs.Items.{items_of, item_list, AreItemsFrom, IsItemList}
use Rattle.core_state.specs.Log.{In}
use Rattle.posting_code.specs.Uniting.{IsLeft}
use Rattle.posting_tree.specs.Removing.{HasNone}
use Rattle.posting_tree.proofs.Members.{in_list, contained}

above : (last i : ℕ) (is : List ℕ) → AreItemsFrom last is → In i is → last < i
above last i [] h on = absurd on
above last i (j ∷ is) h (inl e) = omega (arith, h.0, e)
above last i (j ∷ is) h (inr on) = let later = above j i is h.2 on in omega (arith, h.0, later)

first_same : (i j : ℕ) (is js : List ℕ) → AreItemsFrom i is → AreItemsFrom j js → (i ≡ j) ⊎ In i js
    → (j ≡ i) ⊎ In j is → i ≡ j
first_same i j is js h k (inl e) on = e
first_same i j is js h k (inr there) (inl e) = sym e
first_same i j is js h k (inr there) (inr here) =
    let low = above j i js k there in
    let high = above i j is h here in
    absurd (omega (arith, low, high))

rest_in : (i x : ℕ) (xs : List ℕ) → x < i → In i (x ∷ xs) → In i xs
rest_in i x xs lt (inl e) = absurd (omega (arith, lt, e))
rest_in i x xs lt (inr on) = on

-- rising items with the same members are the same
rising_same : (last : ℕ) (is js : List ℕ) → AreItemsFrom last is → AreItemsFrom last js
    → ((i : ℕ) → In i is → In i js) → ((i : ℕ) → In i js → In i is) → is ≡ js
rising_same last [] [] h k to from = refl
rising_same last [] (j ∷ js) h k to from = absurd (from j (inl refl))
rising_same last (i ∷ is) [] h k to from = absurd (to i (inl refl))
rising_same last (i ∷ is) (j ∷ js) h k to from =
    let e : i ≡ j = first_same i j is js h.2 k.2 (to i (inl refl)) (from j (inl refl)) in
    let there : AreItemsFrom i js = subst (λ n. AreItemsFrom n js) (sym e) k.2 in
    let rest : is ≡ js = rising_same i is js h.2 there
    (λ x on. rest_in x j js (let lt = above i x is h.2 on in omega (arith, lt, e)) (to x (inr on)))
    (λ x on. rest_in x i is (above i x js there on) (from x (inr on))) in
    ap (λ n. n ∷ is) e ∙ ap (λ ns. j ∷ ns) rest

pub same_left : (list dead bytes : List ℕ) → IsItemList list → IsLeft list dead bytes → HasNone dead list → bytes ≡ list
same_left list dead bytes is left none =
    let items : items_of bytes ≡ items_of list =
    rising_same 0 (items_of bytes) (items_of list) left.is_list.items is.items
    (λ i on. in_list i (items_of list) ((left.has i).0 (contained i (items_of bytes) on)).0)
    (λ i on. let c = contained i (items_of list) on in
    in_list i (items_of bytes) ((left.has i).1 (c, none i c))) in
    left.is_list.encoding ∙ ap item_list items ∙ sym is.encoding

pub none_gone : (list dead bytes : List ℕ) → IsLeft list dead bytes → bytes ≡ list → HasNone dead list
none_gone list dead bytes left e i c =
    ((left.has i).0 (subst (λ (l : List ℕ). Contains (items_of l) i) (sym e) c)).1
