-- What is on the pages of a posting tree: what is read was encoded, and what is encoded is read.
use Rattle.std.proofs.Common.{◌≡◌, ◌≢◌, ℕ, zero, suc, ◌+◌, ◌^◌, ◌<◌, ◌≤◌, Bool, true, false, cond, eqb, ltb, List, []}
use Rattle.std.proofs.Common.{◌∷◌, ◌++◌, length, Result, Ok, refl, ap, subst, ◌∙◌, append_assoc, arith, inl, inr}
use Rattle.std.specs.Prelude.{nat_le, ◌&&◌, ◌||◌, ◌⊎◌}
use Rattle.std.specs.List.{flat_map, AllByRecursion}
use Rattle.std.proofs.lemmas.Bool.{leb-true, le-leb, ltb-true, lt-ltb, eqb-true, eqb-false, eq-eqb}
use Rattle.page_types.specs.Numbers.{u32_bytes}
use Rattle.page_types.specs.Items.{items_of, IsItemList}
use Rattle.page_types.specs.Keys.{Rising}
use Rattle.page_types.specs.Encoding.{post_child_bytes}
use Rattle.page_types.specs.Pages.{IsPostChild, ArePostChildren, IsHighItem}
use Rattle.page_types.specs.Fields.{◌>>=◌, number_at, tested}
use Rattle.page_types.specs.declared.page.PostChild.{PostChild}
use Rattle.page_types.proofs.FieldReading.{IsBytes, bind_ok, tested_ok, Takes, Takes-then, u32_takes, u32_again}
use Rattle.page_code.specs.Fields.{Read, below_at}
use Rattle.page_code.specs.Items.{items_at}
use Rattle.page_code.specs.Bodies.{may_lack_bound, item_bound_at, post_child_at, post_children_at, is_high_item}
use Rattle.page_code.specs.Bodies.{high_item_at, front_of, posting_at}
use Rattle.page_code.proofs.Passing.{and_parts, and_both, either, either_left, either_right}
use Rattle.page_code.proofs.FieldLaws.{tested_again, below_takes, below_again}
use Rattle.page_code.proofs.ItemReading.{front_takes, front_again}
use Rattle.page_code.proofs.Lists.{ok_is, IsReader, AllFit, all_take, all_again, all_above}

-- a bound that is at least so great, or none where it may lack
abbrev pub IsNextItem : Bool → ℕ → ℕ → Type 0
IsNextItem may_lack least n = ((least ≤ n) × (n < 2147483648)) ⊎ ((may_lack ≡ true) × (n ≡ 4294967295))

bound_passed : (may_lack : Bool) (least n : ℕ)
    → ((nat_le least n && ltb n 2147483648) || (may_lack && eqb n 4294967295)) ≡ true → IsNextItem may_lack least n
bound_passed may_lack least n e =
    elim (either (nat_le least n && ltb n 2147483648) (may_lack && eqb n 4294967295) e) [
      | inl l ↦ let both = and_parts (nat_le least n) (ltb n 2147483648) l in
          inl (leb-true _ _ both.0, ltb-true _ _ both.1)
      | inr r ↦ let both = and_parts may_lack (eqb n 4294967295) r in inr (both.0, eqb-true _ _ both.1)
    ]

bound_passes : (may_lack : Bool) (least n : ℕ) → IsNextItem may_lack least n
    → ((nat_le least n && ltb n 2147483648) || (may_lack && eqb n 4294967295)) ≡ true
bound_passes may_lack least n (inl p) = either_left (nat_le least n && ltb n 2147483648) (may_lack && eqb n 4294967295)
    (and_both _ _ (le-leb _ _ p.0) (lt-ltb _ _ p.1))
bound_passes may_lack least n (inr p) =
    either_right (nat_le least n && ltb n 2147483648) (may_lack && eqb n 4294967295) (and_both _ _ p.0 (eq-eqb _ _ p.1))

bound_takes : (may_lack : Bool) (least : ℕ) (bytes : List ℕ) (x : ℕ × List ℕ) → IsBytes bytes
    → item_bound_at may_lack least bytes ≡ Ok x → Takes bytes (u32_bytes x.0) x.1 × IsNextItem may_lack least x.0
unfolding item_bound_at
bound_takes may_lack least bytes x fits e =
    let a = bind_ok (number_at 4 bytes)
    (λ n. tested ((nat_le least n.0 && ltb n.0 2147483648) || (may_lack && eqb n.0 4294967295)) bytes n) x e in
    let g = tested_ok ((nat_le least a.0.0 && ltb a.0.0 2147483648) || (may_lack && eqb a.0.0 4294967295)) bytes a.0 x
    a.2 in
    let t = u32_takes bytes a.0.0 a.0.1 fits a.1 in
    subst (λ (y : ℕ × List ℕ). Takes bytes (u32_bytes y.0) y.1 × IsNextItem may_lack least y.0) g.1
    (t.0, bound_passed may_lack least a.0.0 g.0)

bound_short : (may_lack : Bool) (least n : ℕ) → IsNextItem may_lack least n → n < 2 ^ 32
bound_short may_lack least n (inl p) = omega (arith, p.1)
bound_short may_lack least n (inr p) = omega (arith, p.1)

bound_again : (may_lack : Bool) (least n : ℕ) (rest : List ℕ) → IsNextItem may_lack least n
    → item_bound_at may_lack least (u32_bytes n ++ rest) ≡ Ok (n, rest)
unfolding item_bound_at
bound_again may_lack least n rest is =
    ap (λ (r : Read ℕ). r >>= λ m. tested ((nat_le least m.0 && ltb m.0 2147483648) || (may_lack && eqb m.0 4294967295))
    (u32_bytes n ++ rest) m) (u32_again n rest (bound_short may_lack least n is))
    ∙ tested_again ((nat_le least n && ltb n 2147483648) || (may_lack && eqb n 4294967295)) (u32_bytes n ++ rest)
    (n, rest) (bound_passes may_lack least n is)

abbrev pub IsNextChild : ℕ → ℕ → ℕ → PostChild → Type 0
IsNextChild right least k c = (c.page < 1048576) × IsNextItem (may_lack_bound right k) least c.bound

child_takes : (right least k : ℕ) (bytes : List ℕ) (x : PostChild × List ℕ) → IsBytes bytes
    → post_child_at right least k bytes ≡ Ok x → Takes bytes (post_child_bytes x.0) x.1 × IsNextChild right least k x.0
unfolding post_child_at post_child_bytes
child_takes right least k bytes x fits e =
    let p = bind_ok (below_at 1048576 bytes) (λ p. item_bound_at (may_lack_bound right k) least p.1 >>= λ b. Ok
    (record { page = p.0; bound = b.0 }, b.1)) x e in
    let b = bind_ok (item_bound_at (may_lack_bound right k) least p.0.1)
    (λ b. Ok (record { page = p.0.0; bound = b.0 }, b.1)) x p.2 in
    let t0 = below_takes 1048576 bytes p.0 fits p.1 in
    let t1 = bound_takes (may_lack_bound right k) least p.0.1 b.0 t0.0.rest_fits b.1 in
    let both = Takes-then bytes (u32_bytes p.0.0) p.0.1 (u32_bytes b.0.0) b.0.1 t0.0 t1.0 in
    let made : PostChild × List ℕ = (record { page = p.0.0; bound = b.0.0 }, b.0.1) in
    let whole : Takes bytes (post_child_bytes made.0) made.1 × IsNextChild right least k made.0 =
    (both, (t0.1, t1.1)) in
    subst (λ (y : PostChild × List ℕ). Takes bytes (post_child_bytes y.0) y.1 × IsNextChild right least k y.0)
    (ok_is made x b.2) whole

child_again : (right least k : ℕ) (c : PostChild) (rest : List ℕ) → IsNextChild right least k c
    → post_child_at right least k (post_child_bytes c ++ rest) ≡ Ok (c, rest)
unfolding post_child_at post_child_bytes
child_again right least k c rest is =
    ap (post_child_at right least k) (append_assoc (u32_bytes c.page) (u32_bytes c.bound) rest)
    ∙ rw (below_again 1048576 c.page (u32_bytes c.bound ++ rest) is.0 (omega arith)) (ap (λ (r : Read ℕ). r >>= λ b. Ok
    (record { page = c.page; bound = b.0 }, b.1)) (bound_again (may_lack_bound right k) least c.bound rest is.1))

child_reader : (right : ℕ)
    → IsReader (λ least behind rest. post_child_at right least behind rest) post_child_bytes (IsNextChild right)
child_reader right = record {
  takes = λ last k bytes x fits e. child_takes right last k bytes x fits e;
  again = λ last k x rest is. child_again right last k x rest is;
}

-- ---- so many children

record AreChained (right least : ℕ) (children : List PostChild) : Type 0 where
  each : AllByRecursion (IsPostChild right) children
  later : AllByRecursion (λ c. least ≤ c.bound) children
  rising : Rising (λ c d. c.bound < d.bound) children

child_chained : (right least : ℕ) (c : PostChild) (cs : List PostChild) → least ≤ 2147483648
    → IsNextItem (may_lack_bound right (length cs)) least c.bound → c.page < 1048576
    → (c.bound + 1 ≤ 2147483648 → AreChained right (c.bound + 1) cs) → AreChained right least (c ∷ cs)
child_chained right least c cs le (inl p) page more =
    let rest = more (omega (arith, p.1)) in
    record {
      each = (record { page = page; bound = inl p.1 }, rest.each);
      later = (
        p.0,
        all_above (λ d. c.bound + 1 ≤ d.bound) (λ d. least ≤ d.bound) (λ d l. omega (arith, p.0)) cs rest.later,
      );
      rising = (
        all_above (λ d. c.bound + 1 ≤ d.bound) (λ d. c.bound < d.bound) (λ d l. omega arith) cs rest.later,
        rest.rising,
      );
    }
child_chained right least c [] le (inr p) page more =
    let both = and_parts (eqb right 0) true p.0 in
    record {
      each = (record { page = page; bound = inr (p.1, eqb-true _ _ both.0) }, tt);
      later = (omega (arith, p.1), tt);
      rising = (tt, tt);
    }
child_chained right least c (d ∷ ds) le (inr p) page more =
    let both = and_parts (eqb right 0) (eqb (length (d ∷ ds)) 0) p.0 in
    let none : length (d ∷ ds) ≡ 0 = eqb-true _ _ both.1 in
    absurd (omega (arith, none))

children_chained : (right least : ℕ) (children : List PostChild) → least ≤ 2147483648
    → AllFit (IsNextChild right) (λ c. c.bound + 1) least children → AreChained right least children
children_chained right least [] le h = record { each = tt; later = tt; rising = tt }
children_chained right least (c ∷ cs) le h =
    child_chained right least c cs le h.0.1 h.0.0 (λ small. children_chained right (c.bound + 1) cs small h.1)

bound_fits : (right least : ℕ) (c : PostChild) (cs : List PostChild) → (c.bound < 2147483648) ⊎ ((c.bound ≡ 4294967295)
    × (right ≡ 0)) → least ≤ c.bound → AllByRecursion (λ d. (c.bound < d.bound) × (d.bound ≤ 4294967295)) cs
    → IsNextItem (may_lack_bound right (length cs)) least c.bound
bound_fits right least c cs (inl small) le rising = inl (le, small)
bound_fits right least c [] (inr p) le rising = inr (and_both (eqb right 0) true (eq-eqb _ _ p.1) refl, p.0)
bound_fits right least c (d ∷ ds) (inr p) le rising = absurd (omega (arith, p.0, rising.0.0, rising.0.1))

most_bound : (right : ℕ) (c : PostChild) → IsPostChild right c → c.bound ≤ 4294967295
most_bound right c is = elim is.bound [ inl small ↦ omega (arith, small) | inr none ↦ omega (arith, none.0) ]

with_most : (right n : ℕ) (cs : List PostChild) → AllByRecursion (IsPostChild right) cs
    → AllByRecursion (λ d. n < d.bound) cs → AllByRecursion (λ d. (n < d.bound) × (d.bound ≤ 4294967295)) cs
with_most right n [] each above = tt
with_most right n (c ∷ cs) each above = ((above.0, most_bound right c each.0), with_most right n cs each.1 above.1)

chained_children : (right least : ℕ) (children : List PostChild) → AllByRecursion (IsPostChild right) children
    → AllByRecursion (λ c. least ≤ c.bound) children → Rising (λ c d. c.bound < d.bound) children
    → AllFit (IsNextChild right) (λ c. c.bound + 1) least children
chained_children right least [] each later rising = tt
chained_children right least (c ∷ cs) each later rising =
    let here : IsNextItem (may_lack_bound right (length cs)) least c.bound =
    bound_fits right least c cs each.0.bound later.0 (with_most right c.bound cs each.1 rising.0) in
    let next : AllByRecursion (λ d. c.bound + 1 ≤ d.bound) cs =
    all_above (λ d. c.bound < d.bound) (λ d. c.bound + 1 ≤ d.bound) (λ d l. omega arith) cs rising.0 in
    ((each.0.page, here), chained_children right (c.bound + 1) cs each.1 next rising.1)

-- so many children that are read
pub record TakesChildren (right count : ℕ) (bytes : List ℕ) (children : List PostChild) (rest : List ℕ) : Type 0 where
  pub takes : Takes bytes (flat_map post_child_bytes children) rest
  pub many : length children ≡ count
  pub each : AllByRecursion (IsPostChild right) children
  pub rising : Rising (λ c d. c.bound < d.bound) children

pub children_take : (right count : ℕ) (bytes : List ℕ) (x : List PostChild × List ℕ) → IsBytes bytes
    → post_children_at right count bytes ≡ Ok x → TakesChildren right count bytes x.0 x.1
children_take right count bytes x fits e =
    let t = all_take (λ least behind rest. post_child_at right least behind rest) post_child_bytes (IsNextChild right)
    (λ c. c.bound + 1) (child_reader right) 0 count bytes x fits e in
    let c = children_chained right 0 x.0 (omega arith) t.fit in
    record { takes = t.takes; many = t.count; each = c.each; rising = c.rising }

pub children_again : (right : ℕ) (children : List PostChild) (rest : List ℕ) → ArePostChildren right children
    → post_children_at right (length children) (flat_map post_child_bytes children ++ rest) ≡ Ok (children, rest)
children_again right children rest are =
    let later : AllByRecursion (λ c. 0 ≤ c.bound) children =
    all_above (IsPostChild right) (λ c. 0 ≤ c.bound) (λ c is. omega arith) children are.each in
    all_again (λ least behind rest. post_child_at right least behind rest) post_child_bytes (IsNextChild right) (λ c.
    c.bound + 1) (child_reader right) 0 children rest (chained_children right 0 children are.each later are.rising)

-- ---- a leaf

high_by : (b : Bool) (right high : ℕ) → eqb right 0 ≡ b → cond b (eqb high 0) (ltb 0 high && ltb high 2147483648) ≡ true
    → IsHighItem right high
high_by true right high is e =
    let none : high ≡ 0 = eqb-true _ _ e in
    let zero_right : right ≡ 0 = eqb-true _ _ is in
    record { item = omega (arith, none); none = λ r. none; some = λ r. absurd (r zero_right) }
high_by false right high is e =
    let both = and_parts (ltb 0 high) (ltb high 2147483648) e in
    let above : 0 < high = ltb-true _ _ both.0 in
    record {
      item = ltb-true _ _ both.1;
      none = λ r. absurd (eqb-false _ _ is r);
      some = λ r z. omega (arith, above, z);
    }

high_passed : (right high : ℕ) → is_high_item right high ≡ true → IsHighItem right high
high_passed right high e = high_by (eqb right 0) right high refl e

passes_by : (b : Bool) (right high : ℕ) → eqb right 0 ≡ b → IsHighItem right high
    → cond b (eqb high 0) (ltb 0 high && ltb high 2147483648) ≡ true
passes_by true right high is h = eq-eqb _ _ (h.none (eqb-true _ _ is))
passes_by false right high is h =
    and_both _ _ (lt-ltb 0 high (above_zero high (h.some (λ r. eqb-false _ _ is r)))) (lt-ltb _ _ h.item)
  where
    above_zero : (n : ℕ) → n ≢ 0 → 0 < n
    above_zero zero ne = absurd (ne refl)
    above_zero (suc n) ne = omega arith

high_passes : (right high : ℕ) → IsHighItem right high → is_high_item right high ≡ true
high_passes right high h = passes_by (eqb right 0) right high refl h

high_takes : (right : ℕ) (bytes : List ℕ) (x : ℕ × List ℕ) → IsBytes bytes → high_item_at right bytes ≡ Ok x
    → Takes bytes (u32_bytes x.0) x.1 × IsHighItem right x.0
unfolding high_item_at
high_takes right bytes x fits e =
    let a = bind_ok (number_at 4 bytes) (λ n. tested (is_high_item right n.0) bytes n) x e in
    let g = tested_ok (is_high_item right a.0.0) bytes a.0 x a.2 in
    let t = u32_takes bytes a.0.0 a.0.1 fits a.1 in
    subst (λ (y : ℕ × List ℕ). Takes bytes (u32_bytes y.0) y.1 × IsHighItem right y.0) g.1
    (t.0, high_passed right a.0.0 g.0)

high_again : (right high : ℕ) (rest : List ℕ) → IsHighItem right high
    → high_item_at right (u32_bytes high ++ rest) ≡ Ok (high, rest)
unfolding high_item_at
high_again right high rest h =
    let item = h.item in
    ap (λ (r : Read ℕ). r >>= λ n. tested (is_high_item right n.0) (u32_bytes high ++ rest) n)
    (u32_again high rest (omega (arith, item)))
    ∙ tested_again (is_high_item right high) (u32_bytes high ++ rest) (high, rest) (high_passes right high h)

-- a leaf that is read
pub record TakesLeaf (right count : ℕ) (bytes : List ℕ) (high : ℕ) (items rest : List ℕ) : Type 0 where
  pub takes : Takes bytes (u32_bytes high ++ items) rest
  pub high_fits : IsHighItem right high
  pub items_fit : IsItemList items
  pub many : length (items_of items) ≡ count

pub leaf_takes : (right count : ℕ) (bytes : List ℕ) (x : (ℕ × List ℕ) × List ℕ) → IsBytes bytes
    → posting_at right count bytes ≡ Ok x → TakesLeaf right count bytes x.0.0 x.0.1 x.1
unfolding posting_at
leaf_takes right count bytes x fits e =
    let h = bind_ok (high_item_at right bytes) (λ h. items_at count h.1 >>= λ r. Ok ((h.0, front_of h.1 r), r)) x e in
    let r = bind_ok (items_at count h.0.1) (λ r. Ok ((h.0.0, front_of h.0.1 r), r)) x h.2 in
    let t0 = high_takes right bytes h.0 fits h.1 in
    let t1 = front_takes count h.0.1 r.0 t0.0.rest_fits r.1 in
    let both = Takes-then bytes (u32_bytes h.0.0) h.0.1 (front_of h.0.1 r.0) r.0 t0.0 t1.takes in
    let made : (ℕ × List ℕ) × List ℕ = ((h.0.0, front_of h.0.1 r.0), r.0) in
    let whole : TakesLeaf right count bytes made.0.0 made.0.1 made.1 =
    record { takes = both; high_fits = t0.1; items_fit = t1.fits; many = t1.count } in
    subst (λ (y : (ℕ × List ℕ) × List ℕ). TakesLeaf right count bytes y.0.0 y.0.1 y.1) (ok_is made x r.2) whole

pub leaf_again : (right high : ℕ) (items rest : List ℕ) → IsHighItem right high → IsItemList items
    → posting_at right (length (items_of items)) ((u32_bytes high ++ items) ++ rest) ≡ Ok ((high, items), rest)
unfolding posting_at
leaf_again right high items rest h is =
    let read = front_again items rest is in
    ap (posting_at right (length (items_of items))) (append_assoc (u32_bytes high) items rest)
    ∙ rw (high_again right high (items ++ rest) h)
    (ap (λ (r : Result (List ℕ) ℕ). r >>= λ t. Ok ((high, front_of (items ++ rest) t), t)) read.0
    ∙ ap (λ (l : List ℕ). Ok ((high, l), rest)) read.1)
