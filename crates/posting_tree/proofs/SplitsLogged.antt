-- The two pages of a split are what a record of their kind asks of pages.
use Rattle.std.proofs.Common.{◌≡◌, ◌⊎◌, ℕ, ◌*◌, ◌<◌, ◌≤◌, List, [], ◌∷◌, ◌++◌, length, refl, sym, ap, subst, ◌∙◌, inl}
use Rattle.std.proofs.Common.{inr, arith}
use Rattle.std.proofs.lemmas.Bool.{cases_lt}
use Rattle.page_types.specs.Items.{items_of}
use Rattle.page_types.specs.ItemReading.{last_or}
use Rattle.page_types.specs.Encoding.{count_of}
use Rattle.page_types.specs.declared.page.Page.{Page}
use Rattle.page_types.specs.declared.page.PostChild.{PostChild}
use Rattle.page_types.specs.declared.page.Body.{Body}
use Rattle.page_types.specs.declared.page.Body.TheVariants as body
use Rattle.core_state.specs.Changes.{made_with}
use Rattle.core_state.specs.TreeRules.{PostHalves, Halves, KeepsHalf, FitsPage, IsSplitPlace, IsDivided, listed_bytes}
use Rattle.posting_code.specs.Cutting.{IsMost, IsCut}
use Rattle.posting_code.specs.declared.dividing.Keep.{Keep}
use Rattle.entry_tree.specs.Splitting.{body_cutting}
use Rattle.posting_tree.specs.Reading.{IsPostBody, bounds_of, upper_in}
use Rattle.posting_tree.specs.Logging.{SplitPagesAreLogged}
use Rattle.posting_tree.proofs.Cuts.{CutCases, cut_cases, cut_divides}
use Rattle.posting_tree.proofs.InnerParts.{inner_parts, part_count, part_size}
use Rattle.posting_tree.proofs.LeafParts.{leaf_lists, more_bytes}

-- a first part with more members has no fewer bytes
no_fewer : (content l r left right : Body) → IsPostBody content → Halves content l r → Halves content left right
    → count_of l ≤ count_of left → length (listed_bytes l) ≤ length (listed_bytes left)
no_fewer _ l r left right (IsPostBody.leaf high list) d e le =
    let a = leaf_lists high list l r d in
    let b = leaf_lists high list left right e in
    omega (
      arith,
      ap (λ (c : Body). length (listed_bytes c)) a.left_is,
      ap (λ (c : Body). length (listed_bytes c)) b.left_is,
      ap length a.front_is.encoding,
      ap length b.front_is.encoding,
      more_bytes list (items_of a.front) (items_of a.back) (items_of b.front) (items_of b.back) a.divides b.divides
          (omega (arith, le, ap count_of a.left_is, ap count_of b.left_is)),
    )
no_fewer _ l r left right (IsPostBody.inner children) d e le =
    let a = inner_parts children l r d in
    let b = inner_parts children left right e in
    omega (
      arith,
      le,
      part_count children l r a,
      part_count children left right b,
      part_size children l r a,
      part_size children left right b,
    )

longest_place : (content left right : Body) → IsPostBody content → IsMost (body_cutting content) left right
    → IsSplitPlace content left
longest_place content left right is most =
    by (cases_lt (2 * length (listed_bytes left)) (length (listed_bytes content)))
  where
    by : (2 * length (listed_bytes left) < length (listed_bytes content))
        ⊎ (length (listed_bytes content) ≤ 2 * length (listed_bytes left)) → IsSplitPlace content left
    by (inr keeps) = IsSplitPlace.half keeps
    by (inl less) =
        IsSplitPlace.longest (λ l r d keeps fits_l fits_r. no l r d keeps fits_l) (λ l r d fits. most.most l r d fits)
      where
        no : (l r : Body) → Halves content l r → KeepsHalf content l → FitsPage l → ⊥
        no l r d keeps fits = absurd (omega (
          arith,
          less,
          keeps,
          no_fewer content l r left right is d most.divides (most.most l r d fits),
        ))

cut_place : (content left right : Body) (keep : Keep) → IsPostBody content
    → IsCut (body_cutting content) left right keep → IsSplitPlace content left
cut_place content left right keep is cut =
    elim (cut_cases (body_cutting content) left right keep cut) [
      | CutCases.half h fits_l fits_r ↦ IsSplitPlace.half h.keeps
      | CutCases.most most ↦ longest_place content left right is most
    ]

-- the greatest item of the first part divides both
inner_divided : (mid : ℕ) (whole left right : Body) (children : List PostChild) → PostHalves mid whole left right
    → whole ≡ body.PostInner children → PostHalves (upper_in left) whole left right
inner_divided mid _ _ _ children (PostHalves.leaves high items front back some_front some_back all up above) e =
    absurd cc
inner_divided mid _ _ _ children (PostHalves.inners last front back some is) e =
    subst (λ (m : ℕ). PostHalves m (body.PostInner (front ++ last ∷ back)) (body.PostInner (front ++ last ∷ []))
    (body.PostInner back)) (sym (last_bound 0 front last)) (PostHalves.inners last front back some refl)
  where
    last_bound : (first : ℕ) (front : List PostChild) (c : PostChild)
        → last_or first (bounds_of (front ++ c ∷ [])) ≡ c.bound
    last_bound first [] c = refl
    last_bound first (d ∷ front) c = last_bound d.bound front c

divided : (whole left right : Body) → IsPostBody whole → Halves whole left right
    → PostHalves (upper_in left) whole left right
divided _ _ _ is (Halves.of_leaf high last front back some) = elim is [ ]
divided _ _ _ is (Halves.of_inner mid children halves) = elim is [ ]
divided _ _ _ is (Halves.of_post_leaf high mid items front back f b halves) = halves
divided _ left right is (Halves.of_post_inner mid children halves) =
    inner_divided mid (body.PostInner children) left right children halves refl

pub split_logged : SplitPagesAreLogged
split_logged k r since page new parent keep old was old_parent left right after is is_page large parts adopted same
    kind_is pages is_new = record {
      page = page;
      new = new;
      parent = parent;
      old = old;
      was = was;
      old_parent = old_parent;
      left = left.body;
      right = right.body;
      parent_after = after.body;
      kind_is = kind_is;
      pages = pages;
      is_new = is_new;
      before_is = refl;
      large = large;
      divided = IsDivided.in_postings (upper_in left.body)
          (divided old.body left.body right.body is
          (cut_divides (body_cutting old.body) left.body right.body keep parts.cut)) adopted;
      split_place = cut_place old.body left.body right.body keep is parts.cut;
      after_is = ap (λ (n : ℕ). made_with r n left.body ∷ made_with r right.right right.body
          ∷ made_with r after.right after.body ∷ []) (ap (λ (p : Page). p.right) parts.left_is)
          ∙ ap (λ (n : ℕ). made_with r new left.body ∷ made_with r n right.body
          ∷ made_with r after.right after.body ∷ []) (ap (λ (p : Page). p.right) parts.right_is)
          ∙ ap (λ (n : ℕ). made_with r new left.body ∷ made_with r old.right right.body
          ∷ made_with r n after.body ∷ []) (ap (λ (p : Page). p.right) same);
    }
