-- The last of the pages that a log has changed, and how many there are.
use Rattle.std.proofs.Common.{◌≡◌, ◌≢◌, ◌<◌, ◌≤◌, nat_lt, ◌-◌, ◌+◌, ℕ, suc, Bool, true, false, ◌==◌, List, [], ◌∷◌}
use Rattle.std.proofs.Common.{◌++◌, length, get_or, replicate, max, zero, refl, sym, ap, ◌∙◌, inl, inr, arith}
use Rattle.std.specs.Prelude.{if◌then◌else◌}
use Rattle.std.proofs.lemmas.List.{length-append, length-replicate, length-set, get_or_past}
use Rattle.page_types.specs.Numbers.{page_limit}
use Rattle.page_types.specs.declared.record.Change.{Change}
use Rattle.core_state.specs.States.{StateValue, use_of, kind_byte, edited_use, with_use, uses_after}
use Rattle.core_state.specs.PageChoice.{IsLeast, AreBelow}
use Rattle.core_state.specs.Inner.Lowest.{EndsUsed}
use Rattle.core_state.specs.declared.answers.PageUse.{PageUse}
use Rattle.core_state.specs.declared.answers.PageUse.TheVariants as usage
use Rattle.core_state.proofs.LowestUse.{use_in_either}
use Rattle.core_state.proofs.PutLists.{put_here, put_else}
use Rattle.core_state.proofs.RunningOnes.{same_or_other, below_or_past}

length-with_use : (us : List PageUse) (p : ℕ) (u : PageUse) → length (with_use p u us) ≡ length us + (suc p - length us)
length-with_use us p u =
    length-set (us ++ replicate (suc p - length us) usage.Unused) p u
    ∙ length-append us (replicate (suc p - length us) usage.Unused)
    ∙ ap (λ (n : ℕ). length us + n) (length-replicate (suc p - length us) usage.Unused)

ends_put : (us : List PageUse) (p : ℕ) (u : PageUse) → u ≢ usage.Unused → EndsUsed us → EndsUsed (with_use p u us)
ends_put us p u new old n is e =
    let size : length us + (suc p - length us) ≡ suc n = sym (length-with_use us p u) ∙ is in
    elim (same_or_other n p) [
      | inl f ↦ new
          (sym (put_here usage.Unused us p u) ∙ ap (λ (q : ℕ). get_or (with_use p u us) q usage.Unused) (sym f) ∙ e)
      | inr d ↦ old n (omega (arith, size, d)) (sym (put_else usage.Unused us p n u d) ∙ e)
    ]

ends_either : (b : Bool) (us : List PageUse) (p : ℕ) (u : PageUse) → u ≢ usage.Unused → EndsUsed us
    → EndsUsed (if b then with_use p u us else us)
ends_either true us p u new old = ends_put us p u new old
ends_either false us p u new old = old

pub ends_after : (number : ℕ) (cs : List Change) (us : List PageUse) → EndsUsed us → EndsUsed (uses_after number cs us)
ends_after number [] us old = old
ends_after number (c ∷ cs) us old =
    ends_after number cs (if nat_lt c.page page_limit then with_use c.page (edited_use number c.edit) us else us)
    (ends_either (nat_lt c.page page_limit) us c.page (edited_use number c.edit)
    (use_in_either (kind_byte c.edit == 9) number) old)

few_either : (b : Bool) (us : List PageUse) (p : ℕ) (u : PageUse) → nat_lt p page_limit ≡ b → length us ≤ page_limit
    → length (if b then with_use p u us else us) ≤ page_limit
few_either true us p u is few =
    let small : p < page_limit = grind (arith, is) in
    omega (arith, length-with_use us p u, small, few)
few_either false us p u is few = few

pub few_after : (number : ℕ) (cs : List Change) (us : List PageUse) → length us ≤ page_limit
    → length (uses_after number cs us) ≤ page_limit
few_after number [] us few = few
few_after number (c ∷ cs) us few =
    few_after number cs (if nat_lt c.page page_limit then with_use c.page (edited_use number c.edit) us else us)
    (few_either (nat_lt c.page page_limit) us c.page (edited_use number c.edit) refl few)

long_enough : (us : List PageUse) (n q : ℕ) → length us ≡ n → EndsUsed us
    → ((p : ℕ) → get_or us p usage.Unused ≢ usage.Unused → p < q) → n ≤ q
long_enough us zero q is ends changed = omega arith
long_enough us (suc n) q is ends changed = omega (arith, changed n (ends n is))

-- the least number above all pages
pub extent_is : (s : StateValue) (us : List PageUse) (e : ℕ) → us ≡ s.uses → EndsUsed us → e ≡ max s.pages (length us)
    → IsLeast (AreBelow s) e
extent_is s us e same ends is =
    let told : (p : ℕ) → use_of s p ≡ get_or us p usage.Unused =
    λ p. ap (λ (vs : List PageUse). get_or vs p usage.Unused)
    (sym same) in
    record {
      holds = record {
        pages = omega (arith, is);
        changed = λ p used. elim (below_or_past p (length us)) [
          | inl l ↦ omega (arith, is, l)
          | inr past ↦ absurd (used (told p ∙ get_or_past us p usage.Unused past))
        ];
      };
      least = λ q b.
          let long : length us ≤ q =
          long_enough us (length us) q refl ends (λ p used. b.changed p (λ f. used (sym (told p) ∙ f))) in
          let pages : s.pages ≤ q = b.pages in
          omega (arith, is, long, pages);
    }
