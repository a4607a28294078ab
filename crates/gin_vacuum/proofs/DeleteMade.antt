-- The step by which an empty leaf goes, page by page.
use Rattle.std.proofs.Common.{◌≡◌, ◌<◌, ℕ, List, [], ◌∷◌, ◌++◌, sym, ap, subst, ◌∙◌, inl, inr}
use Rattle.std.specs.Prelude.{Option, Some, None, IfSome}
use Rattle.page_types.specs.Numbers.{page_limit}
use Rattle.page_types.specs.Pages.{IsPage}
use Rattle.page_types.specs.declared.page.Page.{Page}
use Rattle.page_types.specs.declared.record.Kind.TheVariants as kind
use Rattle.core_state.specs.Log.{In}
use Rattle.core_state.specs.Allowed.{Sheet, Step}
use Rattle.core_state.specs.Steps.{sheet}
use Rattle.gin_vacuum.specs.Inner.Deleting.{left_before, deleted_leaf, IsDeleteStep}
use Rattle.gin_vacuum.specs.declared.deleting.Empty.{Empty}
use Rattle.gin_vacuum.specs.declared.deleting.Around.{Around}

-- what holds of the sheets that are left
each_sheet : (T : Sheet → Type 0) (link : ℕ) (b : Option Sheet) (x y : Sheet) → T x
    → IfSome b (λ d. T (sheet d.page (record d.content { right = link }))) → T y → (z : Sheet)
    → In z (x ∷ (left_before link b ++ y ∷ [])) → T z
each_sheet T link b x y tx tb ty z (inl e) = subst T (sym e) tx
each_sheet T link None x y tx tb ty z (inr (inl e)) = subst T (sym e) ty
each_sheet T link None x y tx tb ty z (inr (inr i)) = absurd i
each_sheet T link (Some b) x y tx tb ty z (inr (inl e)) = subst T (sym e) tb
each_sheet T link (Some b) x y tx tb ty z (inr (inr (inl e))) = subst T (sym e) ty
each_sheet T link (Some b) x y tx tb ty z (inr (inr (inr i))) = absurd i

pub delete_made : (e : Empty) (a : Around) (without : Page) (s1 s2 s3 : Step)
    → s1 ≡ record { kind = kind.DeletePost; xid = 0; after = [] }
    → s2 ≡ record s1 {
      after = (s1.after ++ sheet a.leaf.page (deleted_leaf e.high a.leaf.content) ∷ []) ++ left_before e.link a.before;
    }
    → s3 ≡ record s2 { after = s2.after ++ sheet a.parent.page without ∷ [] }
    → IsPage (deleted_leaf e.high a.leaf.content) → IsPage without
    → IfSome a.before (λ b. IsPage (record b.content { right = e.link })) → a.leaf.page < page_limit
    → IfSome a.before (λ b. b.page < page_limit) → a.parent.page < page_limit → IsDeleteStep e a without s3
delete_made e a without s1 s2 s3 is1 is2 is3 page_gone page_without page_before low_leaf low_before low_parent =
    let leaf = sheet a.leaf.page (deleted_leaf e.high a.leaf.content) in
    let parent = sheet a.parent.page without in
    let after : s3.after ≡ leaf ∷ (left_before e.link a.before ++ parent ∷ []) =
    ap (λ (s : Step). s.after) is3
    ∙ ap (λ (xs : List Sheet). xs ++ parent ∷ [])
    (ap (λ (s : Step). s.after) is2
    ∙ ap (λ (xs : List Sheet). (xs ++ leaf ∷ []) ++ left_before e.link a.before) (ap (λ (s : Step). s.after) is1)) in
    record {
      kind_is = ap (λ (s : Step). s.kind) is3 ∙ ap (λ (s : Step). s.kind) is2 ∙ ap (λ (s : Step). s.kind) is1;
      xid = ap (λ (s : Step). s.xid) is3 ∙ ap (λ (s : Step). s.xid) is2 ∙ ap (λ (s : Step). s.xid) is1;
      after_is = after;
      low = λ z i. each_sheet (λ (y : Sheet). y.page < page_limit) e.link a.before leaf parent low_leaf low_before
          low_parent z (subst (In z) after i);
      fits = λ z i. each_sheet (λ (y : Sheet). IsPage y.content) e.link a.before leaf parent page_gone page_before
          page_without z (subst (In z) after i);
    }
