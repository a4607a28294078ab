-- Items of a list that are left, written one after the other.
use Rattle.std.proofs.Common.{◌≡◌, ◌↔◌, ℕ, ◌+◌, ◌-◌, ◌≤◌, List, [], ◌∷◌, ◌++◌, length, take}
use Rattle.std.proofs.Common.{Ok, Err, refl, sym, ap, subst, ◌∙◌, append_assoc, arith, inl, inr}
use Rattle.std.specs.List.{Contains}
use Rattle.std.proofs.lemmas.List.{append-nil, length-append, take-take, take_at}
use Rattle.std.proofs.lemmas.List.Elements.{Contains-append_left, Contains-push, Contains-push_cases}
use Rattle.page_types.specs.Items.{varbyte, item_list_from, item_list, AreItemsFrom, AreItems, items_of, IsItemList}
use Rattle.page_types.specs.ItemReading.{item_at, last_or}
use Rattle.page_types.proofs.ItemReading.{is_list}
use Rattle.posting_code.specs.Uniting.{IsLeft}
use Rattle.posting_code.specs.Inner.Places.{items_left, IsListAfter}
use Rattle.posting_code.proofs.Places.{whole_place, next_place, no_place, AreItemsFrom-join, item_list_from-append}
use Rattle.posting_code.proofs.Uniting.{last_or-append}
use Rattle.posting_code.proofs.Sizing.{fewer_shorter}

-- the items up to a place that are not dead are written
pub record IsLeaving (start list dead out : List ℕ) (before : ℕ) (rest : List ℕ) (last count : ℕ) : Type 0 where
  pub passed : List ℕ
  pub written : List ℕ
  pub all : items_of list ≡ passed ++ items_left before rest
  pub before_is : before ≡ last_or 0 passed
  pub stands : IsListAfter before rest
  pub out_is : out ≡ start ++ item_list written
  pub rises : AreItems written
  pub last_is : last ≡ last_or 0 written
  pub low : last ≤ before
  pub counted : count ≡ length written
  pub few : count ≤ last
  pub has : (i : ℕ) → Contains written i ↔ (Contains passed i × (Contains dead i → ⊥))

none : List ℕ
none = []

no_item : (i : ℕ) → Contains none i → ⊥
unfolding none
no_item i c = absurd (omega (arith, c.1))

pub leaving_starts : (start list dead : List ℕ) → IsItemList list → IsLeaving start list dead start 0 list 0 0
unfolding items_of none
leaving_starts start list dead h = record {
  passed = [];
  written = [];
  all = refl;
  before_is = refl;
  stands = whole_place list h;
  out_is = sym (append-nil start);
  rises = tt;
  last_is = refl;
  low = omega arith;
  counted = refl;
  few = omega arith;
  has = λ i. (λ c. absurd (no_item i c), λ c. absurd (no_item i c.0));
}

-- a dead item is passed
pub dead_passed : (start list dead out : List ℕ) (before : ℕ) (rest : List ℕ) (last count item : ℕ) (after : List ℕ)
    → IsLeaving start list dead out before rest last count → item_at before rest ≡ Ok (item, after) → Contains dead item
    → IsLeaving start list dead out item after last count
dead_passed start list dead out before rest last count item after g r gone =
    let n = next_place before rest item after g.stands r in
    record {
      passed = g.passed ++ item ∷ [];
      written = g.written;
      all = g.all ∙ ap (λ (l : List ℕ). g.passed ++ l) n.left
          ∙ sym (append_assoc g.passed (item ∷ []) (items_left item after));
      before_is = sym (last_or-append 0 g.passed (item ∷ []));
      stands = n.stands;
      out_is = g.out_is;
      rises = g.rises;
      last_is = g.last_is;
      low = omega (arith, g.low, n.rises);
      counted = g.counted;
      few = g.few;
      has = λ i. (λ c. let h = (g.has i).0 c in (Contains-append_left g.passed (item ∷ []) i h.0, h.1), λ c. from i c);
    }
  where
    from : (i : ℕ) → Contains (g.passed ++ item ∷ []) i × (Contains dead i → ⊥) → Contains g.written i
    from i (c, alive) = elim (Contains-push_cases g.passed item i c)
        [ inl p ↦ (g.has i).1 (p, alive) | inr e ↦ absurd (alive (subst (Contains dead) e gone)) ]

-- another one is written
pub live_written : (start list dead out out' : List ℕ) (before : ℕ) (rest : List ℕ) (last count item : ℕ)
    (after : List ℕ) → IsLeaving start list dead out before rest last count → item_at before rest ≡ Ok (item, after)
    → (Contains dead item → ⊥)
    → out' ≡ out ++ varbyte (item - last) → IsLeaving start list dead out' item after item (count + 1)
live_written start list dead out out' before rest last count item after g r alive e =
    let n = next_place before rest item after g.stands r in
    let one : item_list_from last (item ∷ []) ≡ varbyte (item - last) = append-nil (varbyte (item - last)) in
    let first : AreItemsFrom before (item ∷ items_left item after) =
    subst (AreItemsFrom before) n.left g.stands.items in
    record {
      passed = g.passed ++ item ∷ [];
      written = g.written ++ item ∷ [];
      all = g.all ∙ ap (λ (l : List ℕ). g.passed ++ l) n.left
          ∙ sym (append_assoc g.passed (item ∷ []) (items_left item after));
      before_is = sym (last_or-append 0 g.passed (item ∷ []));
      stands = n.stands;
      out_is = e ∙ ap (λ (l : List ℕ). l ++ varbyte (item - last)) g.out_is
          ∙ append_assoc start (item_list g.written) (varbyte (item - last))
          ∙ ap (λ (l : List ℕ). start ++ (item_list g.written ++ l)) (sym one)
          ∙ ap (λ k. start ++ (item_list g.written ++ item_list_from k (item ∷ []))) g.last_is
          ∙ ap (λ (l : List ℕ). start ++ l) (sym (item_list_from-append 0 g.written (item ∷ [])));
      rises = AreItemsFrom-join 0 g.written (item ∷ []) g.rises
          (subst (λ k. AreItemsFrom k (item ∷ [])) g.last_is (omega (arith, g.low, n.rises), first.1, tt));
      last_is = sym (last_or-append 0 g.written (item ∷ []));
      low = omega arith;
      counted = omega (arith, g.counted, length-append g.written (item ∷ []));
      few = omega (arith, g.few, g.low, n.rises);
      has = λ i. (λ c. to i c, λ c. from i c);
    }
  where
    to : (i : ℕ) → Contains (g.written ++ item ∷ []) i → Contains (g.passed ++ item ∷ []) i × (Contains dead i → ⊥)
    to i c = elim (Contains-push_cases g.written item i c) [
      | inl p ↦ (Contains-append_left g.passed (item ∷ []) i ((g.has i).0 p).0, ((g.has i).0 p).1)
      | inr e ↦ (
        subst (Contains (g.passed ++ item ∷ [])) e (Contains-push g.passed item),
        λ k. alive (subst (Contains dead) (sym e) k),
      )
    ]

    from : (i : ℕ) → Contains (g.passed ++ item ∷ []) i × (Contains dead i → ⊥) → Contains (g.written ++ item ∷ []) i
    from i (c, lives) = elim (Contains-push_cases g.passed item i c) [
      | inl p ↦ Contains-append_left g.written (item ∷ []) i ((g.has i).1 (p, lives))
      | inr e ↦ subst (Contains (g.written ++ item ∷ [])) e (Contains-push g.written item)
    ]

pub leaving_ends : (start list dead out : List ℕ) (before : ℕ) (rest : List ℕ) (last count left : ℕ) → IsItemList list
    → IsLeaving start list dead out before rest last count → item_at before rest ≡ Err left
    → (bytes : List ℕ) × (out ≡ start ++ bytes) × IsLeft list dead bytes × (count ≡ length (items_of bytes))
leaving_ends start list dead out before rest last count left h g r =
    let passed : items_of list ≡ g.passed =
    g.all ∙ ap (λ (l : List ℕ). g.passed ++ l) (no_place before rest left g.stands r) ∙ append-nil g.passed in
    let whole = is_list (item_list g.written) g.written g.rises refl in
    let fewer = fewer_shorter 0 g.written (items_of list) g.rises h.items
    (λ i c. subst (λ (l : List ℕ). Contains l i) (sym passed) ((g.has i).0 c).0) in (
      item_list g.written,
      g.out_is,
      record {
        is_list = whole.0;
        has = λ i. subst (λ (l : List ℕ). Contains l i ↔ (Contains (items_of list) i × (Contains dead i → ⊥)))
            (sym whole.1)
            (subst (λ (l : List ℕ). Contains g.written i ↔ (Contains l i × (Contains dead i → ⊥))) (sym passed)
            (g.has i));
        short = omega (arith, fewer, ap length h.encoding);
      },
      g.counted ∙ ap length (sym whole.1),
    )

pub leaving_cut : (start list dead out out' : List ℕ) (before : ℕ) (rest : List ℕ) (last count : ℕ)
    → IsLeaving start list dead out before rest last count → take (length out) out' ≡ out
    → take (length start) out' ≡ start
leaving_cut start list dead out out' before rest last count g e =
    let size : length start ≤ length out =
    omega (arith, ap length g.out_is, length-append start (item_list g.written)) in
    sym (take-take (length start) (length out) out' size) ∙ ap (take (length start)) e
    ∙ ap (take (length start)) g.out_is ∙ take_at start (item_list g.written) (length start) refl
