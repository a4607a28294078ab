-- A way down through pages of ever less height has no page twice; heights stay where the pages do.
use Rattle.std.proofs.Common.{◌≡◌, ◌<◌, ◌≤◌, ℕ, zero, suc, List, [], ◌∷◌, length, refl, sym, ap, subst, ◌∙◌, inl, inr}
use Rattle.std.proofs.Common.{arith}
use Rattle.page_types.specs.declared.page.Page.{Page}
use Rattle.core_state.specs.Log.{Pages, In}
use Rattle.core_state.specs.Index.{Below}
use Rattle.core_state.proofs.Trees.Behind.{Once}
use Rattle.core_state.proofs.ChainLengths.{few_below}
use Rattle.core_maintenance.specs.Leading.{IsHigh, IsHighPost}
use Rattle.core_maintenance.proofs.Ways.{kid_below, post_kid_below}

-- where pages have one height each, and one that isn't 0 has another of one less
module _ (At : ℕ → ℕ → Type 0) (one : (i j q : ℕ) → At i q → At j q → i ≡ j)
    (child : (h q : ℕ) → At (suc h) q → (c : ℕ) × At h c) where
  -- pages of all heights up to h, no page twice
  record Path (h : ℕ) : Type 0 where
    pages : List ℕ
    size : length pages ≡ suc h
    once : Once pages
    each : (x : ℕ) → In x pages → (j : ℕ) × (j ≤ h) × At j x

  path : (h q : ℕ) → At h q → Path h
  path zero q at = record {
    pages = q ∷ [];
    size = refl;
    once = ((λ i. i), tt);
    each = λ x i. elim i [ inl e ↦ (0, omega arith, subst (At 0) (sym e) at) | inr none ↦ absurd none ];
  }
  path (suc h) q at =
      let c = child h q at in
      let p = path h c.0 c.1 in
      record {
        pages = q ∷ p.pages;
        size = ap suc p.size;
        once = (
          λ i.
              let x = p.each q i in
              let e : suc h ≡ x.0 = one (suc h) x.0 q at x.2 in
              omega (arith, e, x.1),
          p.once,
        );
        each = λ x i. elim i [
          | inl e ↦ (suc h, omega arith, subst (At (suc h)) (sym e) at)
          | inr j ↦ let y = p.each x j in (y.0, omega (arith, y.1), y.2)
        ];
      }

  pub few : (h q n : ℕ) → At h q → ((j x : ℕ) → At j x → x < n) → h < n
  few h q n at below =
      let p = path h q at in
      let l = few_below n p.pages p.once (λ x i. let y = p.each x i in below y.0 x y.2) in
      omega (arith, l, p.size)

module _ (P Q : Pages) (root : ℕ) (same : (p : ℕ) → Below P root p → Q p ≡ P p) where
  pub high_kept : (h p : ℕ) → Below P root p → IsHigh P h p → IsHigh Q h p
  high_kept _ p below (IsHigh.leaf high es is) = IsHigh.leaf high es (ap (λ (x : Page). x.body) (same p below) ∙ is)
  high_kept _ p below (IsHigh.inner {h = h} cs is each) =
      IsHigh.inner cs (ap (λ (x : Page). x.body) (same p below) ∙ is)
      (λ c i. high_kept h c.page (kid_below P root p cs c below is i) (each c i))

  pub high_post_kept : (h p : ℕ) → Below P root p → IsHighPost P h p → IsHighPost Q h p
  high_post_kept _ p below (IsHighPost.leaf high items is) =
      IsHighPost.leaf high items (ap (λ (x : Page). x.body) (same p below) ∙ is)
  high_post_kept _ p below (IsHighPost.inner {h = h} cs is each) =
      IsHighPost.inner cs (ap (λ (x : Page). x.body) (same p below) ∙ is)
      (λ c i. high_post_kept h c.page (post_kid_below P root p cs c below is i) (each c i))
