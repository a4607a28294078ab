-- What remains on a leaf from which dead items go.
use Rattle.std.proofs.Common.{◌≡◌, ◌↔◌, ℕ, List, [], length, Bool, true, eqb, refl, sym, ap, subst, ◌∙◌}
use Rattle.std.proofs.Common.{Bor}
use Rattle.std.specs.Prelude.{Option, Some, None, IfSome}
use Rattle.std.specs.Option.{option_copied, unwrap_or}
use Rattle.std.specs.List.{Contains}
use Rattle.std.proofs.lemmas.Bool.{eqb-true, eq-eqb}
use Rattle.std.proofs.lemmas.List.{nil_from_length}
use Rattle.page_types.specs.Items.{items_of, item_list, IsItemList}
use Rattle.page_types.specs.Pages.{IsPage, IsBody}
use Rattle.page_types.specs.Views.{posting_items_in}
use Rattle.page_types.specs.declared.page.Page.{Page}
use Rattle.page_types.specs.declared.page.Entry.{Entry}
use Rattle.page_types.specs.declared.page.Body.{Body}
use Rattle.page_types.specs.declared.page.Body.TheVariants as body
use Rattle.entry_tree.specs.Adding.{IsEntryLeaf}
use Rattle.posting_tree.specs.Adding.{IsPostLeaf}
use Rattle.posting_tree.specs.Removing.{IsLeafLeft, IsListed}
use Rattle.gin_vacuum.specs.Inner.Reading.{IsCleaned, body_after}

no_items : (list : List ℕ) → list ≡ [] → items_of list ≡ []
unfolding items_of
no_items list e = ap items_of e

-- a list of items that has none has no bytes
no_bytes : (list : List ℕ) → IsItemList list → items_of list ≡ [] → list ≡ []
no_bytes list is e = is.encoding ∙ ap item_list e

pub empty_by : (c : Page) (high : ℕ) (list : List ℕ) → c.body ≡ body.PostLeaf high list → IsPage c → (r : Bool)
    → r ≡ eqb (length list) 0 → (r ≡ true) ↔ (posting_items_in c.body ≡ [])
empty_by c high list is page r e =
    let fits = subst (IsBody c.right c.stamp) is page.body in (
      λ t. ap posting_items_in is ∙ no_items list (nil_from_length list (eqb-true (length list) 0 (sym e ∙ t))),
      λ none.
          e ∙ eq-eqb (length list) 0
          (ap length (no_bytes list fits.1 (sym (ap posting_items_in is) ∙ none))),
    )

pub cleaned_of : (dead : List ℕ) (page : Page) (o : Option Page) → IfSome o (λ p. IsLeafLeft dead page.body p.body)
    → IfSome o (λ p. p ≡ record page { body = p.body })
    → (o ≡ None) ↔ ((i : ℕ) → IsListed page.body i → Contains dead i → ⊥) → IfSome o (λ p. IsPage p)
    → IsCleaned dead page o
cleaned_of dead page None left same none fits = record { left = tt; some = tt; none = none.0 refl }
cleaned_of dead page (Some q) left same none fits = record {
  left = (left, same, fits);
  some = λ no. let z : Some q ≡ None = none.1 no in cc;
  none = tt;
}

-- a leaf of a posting tree remains one
leaf_left : (dead : List ℕ) (b c : Body) → IsLeafLeft dead b c → IsPostLeaf b → IsPostLeaf c
leaf_left dead _ _ (IsLeafLeft.entries high old new all) l = absurd (none (body.EntryLeaf high old) l refl)
  where
    none : (d : Body) → IsPostLeaf d → body.EntryLeaf high old ≡ d → ⊥
    none _ (IsPostLeaf.leaf h list) e = cc
leaf_left dead _ _ (IsLeafLeft.postings high old new left) l = IsPostLeaf.leaf high new

pub leaf_after : (dead : List ℕ) (page : Page) (o : Option Page) → IsCleaned dead page o → IsPostLeaf page.body
    → IsPostLeaf (body_after page o)
leaf_after dead page None x l = l
leaf_after dead page (Some q) x l = leaf_left dead page.body q.body x.left.0 l

-- the page as it is left, by reference
pub page_after : (dead : List ℕ) (page : Page) (o : Option (Bor Page)) (d : Bor Page) (cleaned : Option Page)
    → d.now ≡ page → option_copied o ≡ cleaned → IsCleaned dead page cleaned → IsPage page
    → IsPage (unwrap_or o d).now × ((unwrap_or o d).now.body ≡ body_after page cleaned)
page_after dead page None d cleaned same e x is =
    subst (λ (c : Option Page). IsPage d.now × (d.now.body ≡ body_after page c)) e
    (subst IsPage (sym same) is, ap (λ (c : Page). c.body) same)
page_after dead page (Some b) d cleaned same e x is =
    let y = subst (IsCleaned dead page) (sym e) x in
    (y.left.2, subst (λ (c : Option Page). b.now.body ≡ body_after page c) e refl)

-- a body that is no such leaf
pub not_entries : (b : Body) → ((high : List ℕ) (es : List Entry) → b ≡ body.EntryLeaf high es → ⊥) → IsEntryLeaf b → ⊥
not_entries _ off (IsEntryLeaf.leaf high es) = off high es refl

pub not_posts : (b : Body) → ((high : ℕ) (list : List ℕ) → b ≡ body.PostLeaf high list → ⊥) → IsPostLeaf b → ⊥
not_posts _ off (IsPostLeaf.leaf high list) = off high list refl
