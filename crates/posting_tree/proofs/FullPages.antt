-- Pages without room are large.
use Rattle.std.proofs.Common.{◌≡◌, ◌≢◌, ◌⊎◌, ℕ, zero, suc, ◌+◌, ◌-◌, ◌*◌, ◌<◌, ◌≤◌, List, [], ◌∷◌, length, refl, sym}
use Rattle.std.proofs.Common.{ap}
use Rattle.std.proofs.Common.{subst, ◌∙◌, inl, inr, arith}
use Rattle.std.specs.List.{Contains}
use Rattle.std.proofs.lemmas.Bool.{cases_lt}
use Rattle.page_types.specs.Numbers.{item_limit}
use Rattle.page_types.specs.Items.{item_list_from, item_list, items_of, AreItemsFrom, AreItems, IsItemList}
use Rattle.page_types.specs.Laws.{HasList}
use Rattle.page_types.specs.Pages.{IsBody}
use Rattle.page_types.specs.Encoding.{body_bytes, count_of}
use Rattle.page_types.specs.declared.page.Body.{Body}
use Rattle.page_types.specs.declared.page.Body.TheVariants as body
use Rattle.page_types.proofs.BodySizes.{length-posting, post_children_size}
use Rattle.page_types.proofs.ItemLists.{have_lists}
use Rattle.core_state.specs.Log.{In}
use Rattle.posting_code.specs.Uniting.{IsUnited, TakesFirst}
use Rattle.posting_code.proofs.Sizing.{most_bytes, length-from}
use Rattle.posting_tree.specs.Full.{IsLarge, FullLeafIsLarge, FullInnerIsLarge}
use Rattle.posting_tree.proofs.Members.{in_list, contained}

-- the items with one more, whose list is not much longer
record IsWithOne (last x : ℕ) (is js : List ℕ) : Type 0 where
  rises : AreItemsFrom last js
  to : (i : ℕ) → In i js → In i is ⊎ (i ≡ x)
  from : (i : ℕ) → In i is ⊎ (i ≡ x) → In i js
  short : length (item_list_from last js) ≤ length (item_list_from last is) + 10

with_one : (last x : ℕ) (is : List ℕ) → AreItemsFrom last is → last < x → x < item_limit
    → (js : List ℕ) × IsWithOne last x is js
with_one last x [] h above lt = (
  x ∷ [],
  record {
    rises = (above, lt, tt);
    to = λ i on. elim on [ inl e ↦ inr e | inr none ↦ absurd none ];
    from = λ i on. elim on [ inl none ↦ absurd none | inr e ↦ inl e ];
    short = omega (arith, length-from last x [], most_bytes (x - last) (omega (arith, lt)));
  },
)
with_one last x (i ∷ is) h above lt =
    elim (cases_lt x i) [
      | inl before ↦ (
        x ∷ i ∷ is,
        record {
          rises = (above, lt, (before, h.1, h.2));
          to = λ j on. elim on [ inl e ↦ inr e | inr later ↦ inl later ];
          from = λ j on. elim on [ inl later ↦ inr later | inr e ↦ inl e ];
          short = omega (
            arith,
            length-from last x (i ∷ is),
            length-from x i is,
            length-from last i is,
            most_bytes (x - last) (omega (arith, lt)),
            most_bytes (i - x) (omega (arith, h.1)),
          );
        },
      )
      | inr le ↦ elim (cases_lt i x) [
        | inl after ↦
            let r = with_one i x is h.2 after lt in
            let w = r.1 in (
              i ∷ r.0,
              record {
                rises = (h.0, h.1, w.rises);
                to = λ j on. elim on [
                  | inl e ↦ inl (inl e)
                  | inr later ↦ elim (w.to j later) [ inl old ↦ inl (inr old) | inr new ↦ inr new ]
                ];
                from = λ j on. elim on [
                  | inl old ↦ elim old [ inl e ↦ inl e | inr later ↦ inr (w.from j (inl later)) ]
                  | inr new ↦ inr (w.from j (inr new))
                ];
                short = omega (arith, length-from last i r.0, length-from last i is, w.short);
              },
            )
        | inr ge ↦
            let same : i ≡ x = omega (arith, le, ge) in (
              i ∷ is,
              record {
                rises = h;
                to = λ j on. inl on;
                from = λ j on. elim on [ inl old ↦ old | inr e ↦ inl (omega (arith, e, same)) ];
                short = omega arith;
              },
            )
      ]
    ]

one_of : (i x : ℕ) → Contains (x ∷ []) i → i ≡ x
one_of i x (zero, lt, e) = sym e
one_of i x (suc k, lt, e) = absurd (omega (arith, lt))

-- a list with one item more
record HasOneMore (list : List ℕ) (x : ℕ) : Type 0 where
  more : List ℕ
  united : IsUnited list (x ∷ []) more
  short : length more ≤ length list + 10

one_more : (list : List ℕ) (x : ℕ) → IsItemList list → 0 < x → x < item_limit → HasOneMore list x
one_more list x is above lt = record {
  more = item_list js;
  united = record { is_list = h.is_list; has = λ i. (λ c. to i c, λ c. from i c) };
  short = omega (arith, w.short, ap length is.encoding);
}
  where
    r : (js : List ℕ) × IsWithOne 0 x (items_of list) js
    r = with_one 0 x (items_of list) is.items above lt

    js : List ℕ
    js = r.0

    w : IsWithOne 0 x (items_of list) js
    w = r.1

    h : HasList js
    h = have_lists js w.rises

    to : (i : ℕ) → Contains (items_of (item_list js)) i → Contains (items_of list) i ⊎ Contains (x ∷ []) i
    to i c = elim (w.to i (in_list i js (subst (λ (l : List ℕ). Contains l i) h.items_are c))) [
      | inl old ↦ inl (contained i (items_of list) old)
      | inr e ↦ inr (contained i (x ∷ []) (inl e))
    ]

    from : (i : ℕ) → Contains (items_of list) i ⊎ Contains (x ∷ []) i → Contains (items_of (item_list js)) i
    from i (inl c) = subst (λ (l : List ℕ). Contains l i) (sym h.items_are)
        (contained i js (w.from i (inl (in_list i (items_of list) c))))
    from i (inr c) =
        subst (λ (l : List ℕ). Contains l i) (sym h.items_are) (contained i js (w.from i (inr (one_of i x c))))

five_each : (last : ℕ) (is : List ℕ) → AreItemsFrom last is → length (item_list_from last is) ≤ 5 * length is
five_each last [] h = omega arith
five_each last (i ∷ is) h =
    omega (arith, length-from last i is, most_bytes (i - last) (omega (arith, h.1)), five_each i is h.2)

large_leaf : (high : ℕ) (list items : List ℕ) → IsItemList list → AreItems items → items ≢ []
    → TakesFirst list items 8164 0 → IsLarge (body.PostLeaf high list)
large_leaf high list [] is h some takes = absurd (some refl)
large_leaf high list (x ∷ items) is h some takes =
    let m = one_more list x is h.0 h.1 in
    let long = takes.no_more m.more (omega arith) m.united in
    let short = m.short in
    record {
      bytes = omega (arith, long, short, length-posting high list);
      members = omega (arith, long, short, ap length is.encoding, five_each 0 (items_of list) is.items);
    }

pub leaf_is_large : FullLeafIsLarge
leaf_is_large p high list items page was h some takes =
    let on = subst (IsBody p.right p.stamp) was page.body in
    subst IsLarge (sym was) (large_leaf high list items on.1 h some takes)

pub inner_is_large : FullInnerIsLarge
inner_is_large p children was full =
    let size : length (body_bytes p.body) ≡ 8 * length children =
    ap (λ (b : Body). length (body_bytes b)) was ∙ post_children_size children in
    elim (cases_lt 8160 (length (body_bytes p.body))) [
      | inl large ↦ record { bytes = omega (arith, large); members = omega (arith, large, size, ap count_of was) }
      | inr fits ↦ absurd (full (omega (arith, fits)))
    ]
