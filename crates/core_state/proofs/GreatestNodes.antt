-- The greatest ones of a row of numbers, found in a tree.
use Rattle.std.proofs.Common.{◌≡◌, ◌<◌, ◌≤◌, ◌+◌, ◌*◌, ◌/◌, ◌%◌, ◌^◌, ℕ, zero, suc, List, ◌-◌, replicate, get_or, drop}
use Rattle.std.proofs.Common.{refl, sym, ap, subst, ◌∙◌, inl, inr, arith}
use Rattle.std.proofs.Math.Nat.{one-le-pow, mul-le-mul_left}
use Rattle.std.proofs.lemmas.List.{drop-replicate}
use Rattle.core_state.specs.Inner.PeakTrees.{IsPeak, IsWidth, IsPeakTree, IsReached, IsFirstAt}
use Rattle.core_state.proofs.RunningOnes.{below_or_past}

some_span : (k : ℕ) → 1 ≤ 2 ^ k
some_span k = one-le-pow k 2 (omega arith)

twice : (k : ℕ) → 2 ^ suc k ≡ 2 * 2 ^ k
twice k = grind arith

-- a node isn't above its first place
at_start : (at s : ℕ) → 1 ≤ s → at ≤ at * s
at_start at s l = omega (arith, mul-le-mul_left at l)

-- a place below a node isn't above it
pub under : (w : ℕ) (t : List ℕ) (k at l : ℕ) → IsPeakTree w t → 0 < at → at * 2 ^ k ≤ l → l < (at + 1) * 2 ^ k
    → l < 2 * w
    → get_or t l 0 ≤ get_or t at 0
under w t zero at l tree node low high in_row =
    let same : l ≡ at = omega (arith, low, high) in omega (arith, ap (λ (i : ℕ). get_or t i 0) same)
under w t (suc k) at l tree node low high in_row =
    let s : ℕ = 2 ^ k in
    let one : 1 ≤ s = some_span k in
    let two : 2 ^ suc k ≡ 2 * s = twice k in
    let low' : at * (2 * s) ≤ l = subst (λ (z : ℕ). at * z ≤ l) two low in
    let high' : l < (at + 1) * (2 * s) = subst (λ (z : ℕ). l < (at + 1) * z) two high in
    let deep : at ≤ at * s = at_start at s one in
    let inner : at < w = omega (arith, low', deep, in_row) in
    let peak : IsPeak t at = tree.peaks at node inner in
    elim (below_or_past l ((2 * at + 1) * s)) [
      | inl left ↦
          let below : get_or t l 0 ≤ get_or t (2 * at) 0 =
          under w t k (2 * at) l tree (omega arith) (omega (arith, low'))
          left in_row in
          omega (arith, below, peak)
      | inr right ↦
          let below : get_or t l 0 ≤ get_or t (2 * at + 1) 0 = under w t k (2 * at + 1) l tree (omega arith) right
          (omega (arith, high')) in_row in
          omega (arith, below, peak)
    ]

-- what is before the next node
pub more_before : (w from bound : ℕ) (t : List ℕ) (at span start : ℕ) → IsPeakTree w t
    → IsReached w from bound t at span start → get_or t at 0 < bound
    → (l : ℕ) → w + from ≤ l → l < start + span → l < 2 * w → get_or t l 0 < bound
more_before w from bound t at span start tree r small l low high in_row = elim (below_or_past l start) [
  | inl before ↦ r.before l low before
  | inr past ↦
      let first : at * 2 ^ r.levels ≤ l = subst (λ (z : ℕ). at * z ≤ l) r.power (omega (arith, past, r.start_is)) in
      let last : l < (at + 1) * 2 ^ r.levels = subst (λ (z : ℕ). l < (at + 1) * z) r.power
      (omega (arith, high, r.start_is)) in
      omega (arith, under w t r.levels at l tree r.node first last in_row, small)
]

pub next_node : (w from bound : ℕ) (t : List ℕ) (at span start : ℕ) → IsPeakTree w t
    → IsReached w from bound t at span start → get_or t at 0 < bound → start + span < 2 * w
    → IsReached w from bound t (at + 1) span (start + span)
next_node w from bound t at span start tree r small high = record {
  node = omega arith;
  levels = r.levels;
  power = r.power;
  start_is = omega (arith, r.start_is);
  low = omega (arith, r.low);
  high = high;
  before =
      λ l low below. more_before w from bound t at span start tree r small l low below (omega (arith, below, high));
}

pub node_above : (w from bound : ℕ) (t : List ℕ) (at span start : ℕ) → IsReached w from bound t at span start
    → at % 2 ≡ 0 → IsReached w from bound t (at / 2) (span * 2) start
node_above w from bound t at span start r even =
    let half : ℕ = at / 2 in
    let is : at ≡ 2 * half = omega (arith, even) in
    record {
      node = omega (arith, r.node, is);
      levels = suc r.levels;
      power = omega (arith, r.power, twice r.levels);
      start_is = r.start_is ∙ ap (λ (z : ℕ). z * span) is ∙ moved half span;
      low = r.low;
      high = r.high;
      before = r.before;
    }
  where
    moved : (a b : ℕ) → 2 * a * b ≡ a * (b * 2)
    moved a b = omega arith

-- a node that begins within the row ends within it
pub closes : (k at n : ℕ) → 0 < at → at * 2 ^ k < 2 ^ n → (at + 1) * 2 ^ k ≤ 2 ^ n
closes zero at n node l = omega (arith, l)
closes (suc k) at zero node l =
    let one : 1 ≤ 2 ^ k = some_span k in
    let deep : at ≤ at * 2 ^ k = at_start at (2 ^ k) one in
    let l' : at * (2 * 2 ^ k) < 1 = subst (λ (z : ℕ). at * z < 1) (twice k) l in
    absurd (omega (arith, l', deep, node))
closes (suc k) at (suc n) node l =
    let l' : at * (2 * 2 ^ k) < 2 * 2 ^ n = subst (λ (z : ℕ). at * z < 2 * 2 ^ n) (twice k)
    (subst (λ (z : ℕ). at * 2 ^ suc k < z) (twice n) l) in
    let half : (at + 1) * 2 ^ k ≤ 2 ^ n = closes k at n node (omega (arith, l')) in
    let both : (at + 1) * (2 * 2 ^ k) ≤ 2 * 2 ^ n = omega (arith, half) in
    subst (λ (z : ℕ). (at + 1) * z ≤ 2 ^ suc n) (sym (twice k)) (subst (λ (z : ℕ). (at + 1) * (2 * 2 ^ k) ≤ z)
    (sym (twice n)) both)

pub ends_within : (w from bound : ℕ) (t : List ℕ) (at span start : ℕ) → IsWidth w
    → IsReached w from bound t at span start → start + span ≤ 2 * w
ends_within w from bound t at span start width r = elim width.power [
  | inl none ↦ absurd (omega (arith, none, r.high))
  | inr p ↦
      let two : 2 * w ≡ 2 ^ suc p.0 = omega (arith, p.1, twice p.0) in
      let here : at * 2 ^ r.levels < 2 ^ suc p.0 = subst (λ (z : ℕ). at * z < 2 ^ suc p.0) r.power
      (omega (arith, r.start_is, r.high, two)) in
      let end : (at + 1) * 2 ^ r.levels ≤ 2 ^ suc p.0 = closes r.levels at (suc p.0) r.node here in
      let end' : (at + 1) * span ≤ 2 ^ suc p.0 = subst (λ (z : ℕ). (at + 1) * z ≤ 2 ^ suc p.0) (sym r.power) end in
      omega (arith, end', r.start_is, two)
]

-- a span above 1 is twice a span
pub record HasHalf (span half : ℕ) : Type 0 where
  pub levels : ℕ
  pub power : half ≡ 2 ^ levels
  pub twice_is : span ≡ 2 * half

half_of : (k span : ℕ) → span ≡ 2 ^ k → 1 < span → HasHalf span (span / 2)
half_of zero span e l = absurd (omega (arith, e, l))
half_of (suc k) span e l =
    let two : span ≡ 2 * 2 ^ k = e ∙ twice k in
    record { levels = k; power = omega (arith, two); twice_is = omega (arith, two) }

pub halved : (w from bound : ℕ) (t : List ℕ) (at span start : ℕ) → IsReached w from bound t at span start → 1 < span
    → HasHalf span (span / 2)
halved w from bound t at span start r l = half_of r.levels span r.power l

pub left_node : (w from bound : ℕ) (t : List ℕ) (at span start : ℕ) → IsReached w from bound t at span start
    → 1 < span → IsReached w from bound t (at * 2) (span / 2) start
left_node w from bound t at span start r l =
    let h = halved w from bound t at span start r l in
    record {
      node = omega (arith, r.node);
      levels = h.levels;
      power = h.power;
      start_is = r.start_is ∙ ap (λ (z : ℕ). at * z) h.twice_is ∙ moved at (span / 2);
      low = r.low;
      high = r.high;
      before = r.before;
    }
  where
    moved : (a b : ℕ) → a * (2 * b) ≡ a * 2 * b
    moved a b = omega arith

-- a node that isn't below the bound has one below it that isn't
pub one_below : (w from bound : ℕ) (t : List ℕ) (at span start : ℕ) → IsPeakTree w t
    → IsReached w from bound t at span start → 1 < span → bound ≤ get_or t at 0 → get_or t (at * 2) 0 < bound
    → bound ≤ get_or t (at * 2 + 1) 0
one_below w from bound t at span start tree r l here small =
    let deep : at * 2 ≤ at * span = mul-le-mul_left at l in
    let inner : at < w = omega (arith, deep, r.start_is, r.high) in
    let peak : IsPeak t at = tree.peaks at r.node inner in
    let left : get_or t (2 * at) 0 ≡ get_or t (at * 2) 0 = ap (λ (i : ℕ). get_or t i 0) (swapped at) in
    let right : get_or t (2 * at + 1) 0 ≡ get_or t (at * 2 + 1) 0 = ap (λ (i : ℕ). get_or t (i + 1) 0) (swapped at) in
    omega (arith, peak, left, right, here, small)
  where
    swapped : (a : ℕ) → 2 * a ≡ a * 2
    swapped a = omega arith

-- one place is its own first
pub first_at : (w from bound : ℕ) (t : List ℕ) (at span start : ℕ) → IsReached w from bound t at span start → span ≤ 1
    → bound ≤ get_or t at 0 → IsFirstAt w from bound t start
first_at w from bound t at span start r l here =
    let one : span ≡ 1 = omega (arith, l, r.power, some_span r.levels) in
    let same : start ≡ at = r.start_is ∙ ap (λ (z : ℕ). at * z) one ∙ alone at in
    record {
      low = r.low;
      high = r.high;
      here = subst (λ (z : ℕ). bound ≤ get_or t z 0) (sym same) here;
      before = r.before;
    }
  where
    alone : (a : ℕ) → a * 1 ≡ a
    alone a = omega arith

-- where a walk begins
pub begins_at : (w from bound : ℕ) (t : List ℕ) → from < w → IsReached w from bound t (w + from) 1 (w + from)
begins_at w from bound t l = record {
  node = omega (arith, l);
  levels = 0;
  power = refl;
  start_is = alone (w + from);
  low = omega arith;
  high = omega (arith, l);
  before = λ j low high. absurd (omega (arith, low, high));
}
  where
    alone : (a : ℕ) → a ≡ a * 1
    alone a = omega arith

-- the right one of two nodes
pub right_node : (w from bound : ℕ) (t : List ℕ) (at span start : ℕ) → IsWidth w → IsPeakTree w t
    → IsReached w from bound t at span start → 1 < span → get_or t (at * 2) 0 < bound
    → IsReached w from bound t (at * 2 + 1) (span / 2) (start + span / 2)
right_node w from bound t at span start width tree r l small =
    let h = halved w from bound t at span start r l in
    let end : start + span ≤ 2 * w = ends_within w from bound t at span start width r in
    let some : 1 ≤ span / 2 = omega (arith, l) in
    next_node w from bound t (at * 2) (span / 2) start tree (left_node w from bound t at span start r l) small
    (omega (arith, end, some, h.twice_is))

-- a width grows to twice its size
pub twice_wide : (w : ℕ) → IsWidth w → 0 < w → w < 1048576 → IsWidth (w * 2)
twice_wide w width some few = record {
  small = omega (arith, few);
  power = elim width.power [
    | inl none ↦ absurd (omega (arith, none, some))
    | inr p ↦ inr (suc p.0, omega (arith, p.1, twice p.0))
  ];
}

-- the row of a tree of zeros
pub flat_row : (w : ℕ) (t : List ℕ) → t ≡ replicate (2 * w) 0 → drop w t ≡ replicate w 0
flat_row w t e = ap (drop w) e ∙ drop-replicate w (2 * w) 0 ∙ ap (λ (n : ℕ). replicate n 0) (rest w)
  where
    rest : (n : ℕ) → 2 * n - n ≡ n
    rest n = omega arith
