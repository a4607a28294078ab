-- A root that has grown, and the page that took its content, have an encoding.
use Rattle.std.proofs.Common.{◌≡◌, ℕ, zero, suc, ◌<◌, List, [], ◌∷◌, length, refl, sym, ap, subst, ◌∙◌, inr, arith}
use Rattle.std.specs.Prelude.{Some}
use Rattle.std.specs.List.{slice_get}
use Rattle.std.proofs.lemmas.List.{length-append}
use Rattle.std.proofs.lemmas.Option.{same_Some}
use Rattle.page_types.specs.Numbers.{page_limit}
use Rattle.page_types.specs.Pages.{IsPage, IsBody}
use Rattle.page_types.specs.Encoding.{entry_child_bytes}
use Rattle.page_types.specs.declared.page.Page.{Page}
use Rattle.page_types.specs.declared.page.EntryChild.{EntryChild}
use Rattle.page_types.specs.declared.page.Body.TheVariants as body
use Rattle.page_types.proofs.BodySizes.{length-entry_child_bytes}
use Rattle.entry_tree.specs.Reading.{first_child_in, last_bound}
use Rattle.entry_tree.specs.Growing.{root_over, moved_down}

-- the child without bound
abbrev pub only : ℕ → EntryChild
only child = record { page = child; bound = [] }

pub root_is : (p : Page) (child : ℕ) → IsPage p → p.right ≡ 0 → child < page_limit → IsPage (root_over p child)
root_is p child page link lt = record {
  right = page.right;
  stamp = page.stamp;
  body = record {
    some = λ e. absurd cc;
    each = (record { page = lt; bound = inr (refl, link) }, tt);
    rising = (tt, tt);
  };
  count = omega arith;
  fits = omega (arith, length-append (entry_child_bytes (only child)) [], length-entry_child_bytes (only child));
}

pub moved_is : (p : Page) → IsPage p → p.right ≡ 0 → IsPage (moved_down p)
moved_is p page link = record {
  right = omega arith;
  stamp = page.stamp;
  body = subst (λ (right : ℕ). IsBody right p.stamp p.body) link page.body;
  count = page.count;
  fits = page.fits;
}

-- ---- the first and the last child

pub first_is : (children : List EntryChild) (c : EntryChild) → slice_get children 0 ≡ Some c
    → first_child_in (body.EntryInner children) ≡ Some c.page
first_is [] c e = absurd cc
first_is (d ∷ children) c e = ap (λ (x : EntryChild). Some x.page) (same_Some d c e)

pub last_is : (children : List EntryChild) (k : ℕ) (c : EntryChild) → length children ≡ suc k
    → slice_get children k ≡ Some c → last_bound children ≡ c.bound
last_is [] k c size e = absurd cc
last_is (d ∷ []) k c size e = only_one k (omega (arith, size)) e
  where
    only_one : (k : ℕ) → k ≡ 0 → slice_get (d ∷ []) k ≡ Some c → d.bound ≡ c.bound
    only_one k is e =
        ap (λ (x : EntryChild). x.bound) (same_Some d c (sym (ap (slice_get (d ∷ [])) is) ∙ e))
last_is (d ∷ f ∷ children) zero c size e = absurd (omega (arith, size))
last_is (d ∷ f ∷ children) (suc k) c size e = last_is (f ∷ children) k c (omega (arith, size)) e
